use Rattle.std.proofs.Common.{ℕ, zero, suc, ◌+◌, ◌-◌, ◌/◌, ◌%◌, ◌<◌, ◌≤◌, ◌≡◌, inl, inr, Bool, true, false, List, [], ◌∷◌, length, get_or, Some, nat_eq, if◌then◌else◌, refl, sym, ◌∙◌, ap, subst, arith}
use Rattle.std.proofs.lemmas.Bool.Decides.{nat_tests}
use Rattle.std.proofs.lemmas.List.{set-get_or}
use Rattle.dn_word.specs.declared.packed.gate.Gate.{Gate}
use Rattle.dn_word.specs.declared.packed.place.Ref.{Ref}
use Rattle.dn_act.specs.Action.{Performs}
use Rattle.dn_act.specs.declared.actions.Action.TheVariants.{Load}
use Rattle.dn_act.specs.Words.{word_at}
use Rattle.dn_record.specs.Record.{length_in_words}
use Rattle.dn_record.specs.declared.records.Record.{Record}
use Rattle.dn_model.specs.Regions.{gate, directory, place, offsets, IsLane}
use Rattle.dn_model.specs.Log.{Stand, SpellsAt, Tiles}
use Rattle.dn_model.specs.declared.logs.Placed.{Placed}
use Rattle.dn_model.specs.Held.{entry_at, record_at}
use Rattle.dn_model.proofs.LogLaws.{some_words, tiles_le}
use Rattle.dn_model.proofs.MapLaws.{lane_or_not}
use Rattle.dn_owners.proofs.Ats.{none_some, same_some}
use Rattle.dn_beside.specs.Pool.{Pool, store_in, IsWhole}

-- Where the words of a sealed record stand.

-- ---- in a log that records tile
pub record IsTiled (w : ℕ → ℕ) (o : ℕ) (r : Record) (end : ℕ) : Type 0 where
  pub spells : SpellsAt w o r
  pub inside : o + length_in_words r ≤ end

entry_by : (w : ℕ → ℕ) (o a end : ℕ) (x : Placed) (xs : List Placed) (r : Record) (b : Bool) → nat_eq x.offset o ≡ b → Tiles w a (x ∷ xs) end
    → (entry_at o xs ≡ Some r → IsTiled w o r end) → (if b then Some x.entry else entry_at o xs) ≡ Some r → IsTiled w o r end
entry_by w o a end x xs r false t h rest e = rest e
entry_by w o a end x xs r true t h rest e =
    let same : x.entry ≡ r = same_some x.entry r e in
    let met : x.offset ≡ o = grind (arith, nat_tests) in
    let here : a ≡ o = sym h.0 ∙ met in
    let its : IsTiled w a x.entry end = record { spells = h.1; inside = tiles_le w (a + length_in_words x.entry) end xs h.2 } in
    subst (λ y. IsTiled w o y end) same (subst (λ z. IsTiled w z x.entry end) here its)

pub entry_tiled : (w : ℕ → ℕ) (o a end : ℕ) (log : List Placed) (r : Record) → Tiles w a log end → entry_at o log ≡ Some r → IsTiled w o r end
entry_tiled w o a end [] r h e = absurd (none_some r e)
entry_tiled w o a end (x ∷ xs) r h e = entry_by w o a end x xs r (nat_eq x.offset o) refl h (entry_tiled w o (a + length_in_words x.entry) end xs r h.2) e

-- ---- in a pool
pub record IsSpelled (p : Pool) (r : Record) (at : Ref) : Type 0 where
  pub lane : IsLane at.lane
  pub spells : SpellsAt (offsets p.words at.lane) at.offset r
  pub some : 0 < length_in_words r
  pub inside : at.offset + length_in_words r ≤ ((store_in p).gates at.lane).len
  pub quarter : at.offset / 1024 < 256
  pub named : 0 < directory p.words at.lane (at.offset / 1024)
  pub within : directory p.words at.lane (at.offset / 1024) ≤ (store_in p).pool

lane_of : (p : Pool) (r : Record) (at : Ref) → IsWhole p → record_at (store_in p).logs (Some at) ≡ Some r → IsLane at.lane
lane_of p r at h e = elim (lane_or_not at.lane) [
  | inl l ↦ l
  | inr l ↦ absurd (none_some r (sym (ap (entry_at at.offset) (h.represents.reads.no_more at.lane l)) ∙ e))
]

-- a directory word names a segment of the pool
named_within : (p : Pool) (n q : ℕ) → IsWhole p → IsLane n → q < 256 → 0 < directory p.words n q → directory p.words n q ≤ (store_in p).pool
named_within p n q h l lt pos =
    let g : ℕ = directory p.words n q - 1 in
    let is : directory p.words n q ≡ g + 1 = omega (arith, pos) in
    let own : (store_in p).holders g ≡ n = h.represents.space.named n q g l lt is in
    let c = h.represents.space.claimed g (omega (arith, own, l.positive)) in
    omega (arith, is, c.1)

pub spelled : (p : Pool) (r : Record) (at : Ref) → IsWhole p → record_at (store_in p).logs (Some at) ≡ Some r → IsSpelled p r at
spelled p r at h e =
    let l : IsLane at.lane = lane_of p r at h e in
    let log = h.represents.reads.logs_are at.lane l in
    let t : IsTiled (offsets p.words at.lane) at.offset r (gate p.words at.lane).len = entry_tiled (offsets p.words at.lane) at.offset 0 (gate p.words at.lane).len ((store_in p).logs at.lane) r log.tiled e in
    let len : (gate p.words at.lane).len ≡ ((store_in p).gates at.lane).len = ap (λ (g : Gate). g.len) (h.represents.table.gates at.lane l.below) in
    let some : 0 < length_in_words r = some_words r t.spells.is_record in
    let c = log.covered at.offset (omega (arith, some, t.inside)) in
    record {
      lane = l;
      spells = t.spells;
      some = some;
      inside = omega (arith, t.inside, len);
      quarter = c.0;
      named = c.1;
      within = named_within p at.lane (at.offset / 1024) h l c.0 c.1;
    }

-- ---- in a row, since a record lies within one segment
pub in_row : (words : List ℕ) (lane offset i n : ℕ) → offset % 1024 + n ≤ 1024 → i < n → place words lane (offset + i) ≡ place words lane offset + i
in_row words lane offset i n fits lt =
    let q : (offset + i) / 1024 ≡ offset / 1024 = omega arith in
    let r : (offset + i) % 1024 ≡ offset % 1024 + i = omega arith in
    let d : directory words lane ((offset + i) / 1024) ≡ directory words lane (offset / 1024) = ap (λ x. directory words lane x) q in
    omega (arith, d, r)

pub stands_at : (w : ℕ → ℕ) (o : ℕ) (xs : List ℕ) (i d : ℕ) → Stand w o xs → i < length xs → w (o + i) ≡ get_or xs i d
stands_at w o [] i d h lt = absurd (omega arith)
stands_at w o (x ∷ xs) zero d h lt = let e : o + zero ≡ o = omega arith in ap w e ∙ h.0
stands_at w o (x ∷ xs) (suc i) d h lt = let e : o + suc i ≡ o + 1 + i = omega arith in ap w e ∙ stands_at w (o + 1) xs i d h.1 (omega arith)

-- ---- a load finds the word and leaves all
pub record HasLoaded (at word : ℕ) (old new : List ℕ) : Type 0 where
  pub word_is : word ≡ word_at old at
  pub stays : new ≡ old

pub loads : (at word : ℕ) (old new : List ℕ) → Performs (Load at) word old new → HasLoaded at word old new
loads at word old new h = record { word_is = h.answer; stays = h.change ∙ set-get_or old at 0 }
