use Rattle.std.proofs.Common.{ℕ, ◌+◌, ◌%◌, ◌≤◌, ◌≡◌, List, [], ◌∷◌, ◌++◌, Option, Some, None, sym, subst, arith}
use Rattle.std.proofs.lemmas.Grind.{common_steps}
use Rattle.dn_record.specs.Grammar.{IsRecord}
use Rattle.dn_record.specs.Record.{spelling, length_in_words, key_of}
use Rattle.dn_record.specs.declared.records.Record.{Record}
use Rattle.dn_record.specs.declared.records.Record.TheVariants.{Put, Delete, Share, Unshare, Loose, LooseDelete, Pad}
use Rattle.dn_log.specs.Log.{Log, plan_of, start_of, new_segment_of, Fills, IsPad}
use Rattle.dn_log.proofs.PlanLaws.{plan-fills}
use Rattle.dn_model.specs.Regions.{offsets}
use Rattle.dn_model.specs.declared.logs.Placed.{Placed}
use Rattle.dn_model.specs.Log.{Stand, Fits, SpellsAt, Tiles}
use Rattle.dn_model.proofs.LogLaws.{spelled_within, some_words, tiles_one}
use Rattle.dn_services.specs.Staged.{placed, directory_staged, pad_staged}
use Rattle.dn_owners.proofs.Ats.{none_some}
use Rattle.dn_reach.specs.Placing.{plan_for, staged_for, placed_by, pads_of}
use Rattle.dn_reach.proofs.Stages.{words_few}
use Rattle.dn_reach.proofs.Grown.{AreThere, there_left, there_right, IsGrown, stand_placed}

-- What the words spell from the sealed length on, once all that was staged for a record stands in the pool.

-- the record lies within one segment
start-within : (len words : ℕ) → 1 ≤ words → words ≤ 1024 → start_of len words % 1024 + words ≤ 1024
start-within len words l m = grind (arith, common_steps)

fits_key : (r : Record) (k at : ℕ) → key_of r ≡ Some k → at % 1024 + length_in_words r ≤ 1024 → Fits at r
fits_key (Put key value) k at e h = h
fits_key (Delete key) k at e h = h
fits_key (Share key cell opening) k at e h = h
fits_key (Unshare key named) k at e h = h
fits_key (Loose key value) k at e h = h
fits_key (LooseDelete key) k at e h = h
fits_key (Pad words) k at e h = absurd (none_some k e)

-- ---- a pad up to the segment's end, and then the record
record PadFacts (from at n : ℕ) : Type 0 where
  most : n ≤ 1023
  fits : from % 1024 + n ≡ 1024
  next : from + n ≡ at

pad_facts : (pad : ℕ × ℕ) (from at words : ℕ) → words ≤ 1024 → IsPad pad from at words → PadFacts from at pad.1
pad_facts pad from at words m p =
    let begins = p.begins in
    let ends = p.ends in
    let segment_ends = p.segment_ends in
    let least = p.least in
    let short = p.short in
    record { most = omega arith; fits = omega arith; next = omega arith }

-- what stands of a pad
abbrev PadStands : (ℕ → ℕ) → Option (ℕ × ℕ) → Type 0
PadStands w None = Unit {0}
PadStands w (Some pad) = Stand w pad.0 (spelling (Pad pad.1))

abbrev both : Option (ℕ × ℕ) → ℕ → Record → List Placed
both pad at r = pads_of pad ++ record { offset = at; entry = r } ∷ []

tiles_pad : (w : ℕ → ℕ) (pad : Option (ℕ × ℕ)) (from at words : ℕ) (r : Record) → words ≤ 1024 → Fills pad from at words → PadStands w pad → SpellsAt w at r → Tiles w from (both pad at r) (at + length_in_words r)
tiles_pad w None from at words r m f p s = let P : ℕ → Type 0 = λ x. Tiles w x (both None at r) (at + length_in_words r) in subst P (sym f) (tiles_one w at r s)
tiles_pad w (Some pad) from at words r m f p s =
    let facts : PadFacts from at pad.1 = pad_facts pad from at words m f in
    let P : ℕ → Type 0 = λ x. Tiles w x (both None at r) (at + length_in_words r) in
    let Q : ℕ → Type 0 = λ x. Stand w x (spelling (Pad pad.1)) in (
      f.begins,
      record {
        is_record = record { fields_fit = (f.least, facts.most); value_fits = tt };
        stands = subst Q f.begins p;
        fits = facts.fits;
      },
      subst P (sym facts.next) (tiles_one w at r s),
    )

-- ---- the words that were staged
pad_stands : (words : List ℕ) (log : Log) (end : ℕ) (segments : List ℕ) (spare : Option ℕ) → IsGrown words log end segments spare → (pad : Option (ℕ × ℕ)) (from at most : ℕ) → at ≤ end
    → Fills pad from at most → AreThere words (pad_staged log pad) → PadStands (offsets words log.lane) pad
pad_stands words log end segments spare g None from at most le f h = tt
pad_stands words log end segments spare g (Some pad) from at most le f h =
    let ends = f.ends in
    let least = f.least in
    stand_placed words log end segments spare g pad.0 (spelling (Pad pad.1)) (omega arith) h

pub placed_tiled : (words : List ℕ) (log : Log) (r : Record) (k : ℕ) (segments : List ℕ) (spare : Option ℕ) → IsRecord r → key_of r ≡ Some k → IsGrown words log (plan_for log r).len segments spare
    → AreThere words (staged_for log r) → Tiles (offsets words log.lane) log.len (placed_by (plan_for log r) r) (plan_for log r).len
placed_tiled words log r k segments spare h e g there =
    let n : ℕ = length_in_words r in
    let least : 1 ≤ n = omega (arith, some_words r h) in
    let most : n ≤ 1024 = omega (arith, words_few r k h e) in
    let at : ℕ = start_of log.len n in
    let pad : Option (ℕ × ℕ) = (plan_of log n).pad in
    let rest : AreThere words (pad_staged log pad ++ placed log at (spelling r)) = there_right words (directory_staged log (new_segment_of log (plan_of log n))) (pad_staged log pad ++ placed log at (spelling r)) there in
    let fills : Fills pad log.len at n = plan-fills log n least most in
    let short = spelled_within r h in
    let s : SpellsAt (offsets words log.lane) at r = record {
      is_record = h;
      stands = stand_placed words log (at + n) segments spare g at (spelling r) (omega arith) (there_right words (pad_staged log pad) (placed log at (spelling r)) rest);
      fits = fits_key r k at e (start-within log.len n least most);
    } in
    let pads = pad_stands words log (at + n) segments spare g pad log.len at n (omega arith) fills (there_left words (pad_staged log pad) (placed log at (spelling r)) rest) in
    tiles_pad (offsets words log.lane) pad log.len at n r most fills pads s
