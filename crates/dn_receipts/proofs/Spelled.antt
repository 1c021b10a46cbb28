use Rattle.std.proofs.Common.{ℕ, ◌+◌, ◌≤◌, ◌≡◌, inl, inr, Bool, true, false, List, [], ◌∷◌, Option, Some, None, nat_eq, if◌then◌else◌, refl, sym, ◌∙◌, ap, subst, arith}
use Rattle.std.proofs.lemmas.Bool.Decides.{nat_tests}
use Rattle.dn_word.specs.declared.packed.gate.Gate.{Gate}
use Rattle.dn_word.specs.declared.packed.place.Ref.{Ref}
use Rattle.dn_record.specs.Record.{length_in_words}
use Rattle.dn_record.specs.declared.records.Record.{Record}
use Rattle.dn_hist.specs.Calls.{IsWrite}
use Rattle.dn_hist.specs.declared.receipts.Receipt.{Receipt}
use Rattle.dn_model.specs.Regions.{gate, offsets, IsLane}
use Rattle.dn_model.specs.Log.{SpellsAt, Tiles}
use Rattle.dn_model.specs.declared.logs.Placed.{Placed}
use Rattle.dn_model.specs.Held.{entry_at, record_at}
use Rattle.dn_model.proofs.LogLaws.{tiles_le}
use Rattle.dn_model.proofs.MapLaws.{lane_or_not}
use Rattle.dn_owners.proofs.Ats.{none_some, same_some}
use Rattle.dn_owners.proofs.Last.{entry_more}
use Rattle.dn_beside.specs.Pool.{Pool, store_in, IsWhole}
use Rattle.dn_beside.specs.Grown.{Grows}
use Rattle.dn_receipts.specs.Sealing.{record_of}
use Rattle.dn_receipts.specs.Receipts.{IsRecorded, IsSpelled}

-- A sealed record stays where it is, and the words there spell it.

-- ---- it stays
record_lasts : (p q : Pool) (at : Option Ref) (r : Record) → Grows p q → record_at (store_in p).logs at ≡ Some r → record_at (store_in q).logs at ≡ Some r
record_lasts p q None r g e = absurd (none_some r e)
record_lasts p q (Some at) r g e =
    let m = g.later.logs at.lane in
    ap (entry_at at.offset) m.1 ∙ entry_more at.offset ((store_in p).logs at.lane) m.0 r e

pub recorded_lasts : (p q : Pool) (r : Receipt) → Grows p q → IsRecorded p r → IsRecorded q r
recorded_lasts p q r g h = λ w. record_lasts p q r.at (record_of r.call) g (h w)

-- ---- in a log that records tile
record IsTiled (w : ℕ → ℕ) (o : ℕ) (r : Record) (end : ℕ) : Type 0 where
  pub spells : SpellsAt w o r
  pub inside : o + length_in_words r ≤ end

entry_by : (w : ℕ → ℕ) (o a end : ℕ) (x : Placed) (xs : List Placed) (r : Record) (b : Bool) → nat_eq x.offset o ≡ b → Tiles w a (x ∷ xs) end
    → (entry_at o xs ≡ Some r → IsTiled w o r end) → (if b then Some x.entry else entry_at o xs) ≡ Some r → IsTiled w o r end
entry_by w o a end x xs r false t h rest e = rest e
entry_by w o a end x xs r true t h rest e =
    let same : x.entry ≡ r = same_some x.entry r e in
    let met : x.offset ≡ o = grind (arith, nat_tests) in
    let here : a ≡ o = sym h.0 ∙ met in
    let its : IsTiled w a x.entry end = record { spells = h.1; inside = tiles_le w (a + length_in_words x.entry) end xs h.2 } in
    subst (λ y. IsTiled w o y end) same (subst (λ z. IsTiled w z x.entry end) here its)

entry_tiled : (w : ℕ → ℕ) (o a end : ℕ) (log : List Placed) (r : Record) → Tiles w a log end → entry_at o log ≡ Some r → IsTiled w o r end
entry_tiled w o a end [] r h e = absurd (none_some r e)
entry_tiled w o a end (x ∷ xs) r h e = entry_by w o a end x xs r (nat_eq x.offset o) refl h (entry_tiled w o (a + length_in_words x.entry) end xs r h.2) e

-- ---- in a pool
lane_of : (p : Pool) (r : Record) (at : Ref) → IsWhole p → record_at (store_in p).logs (Some at) ≡ Some r → IsLane at.lane
lane_of p r at h e = elim (lane_or_not at.lane) [
  | inl l ↦ l
  | inr l ↦ absurd (none_some r (sym (ap (entry_at at.offset) (h.represents.reads.no_more at.lane l)) ∙ e))
]

spelled_at : (p : Pool) (r : Receipt) (o : Option Ref) → r.at ≡ o → IsWhole p → record_at (store_in p).logs o ≡ Some (record_of r.call) → IsSpelled p r
spelled_at p r None t h e = absurd (none_some (record_of r.call) e)
spelled_at p r (Some at) t h e =
    let l : IsLane at.lane = lane_of p (record_of r.call) at h e in
    let end : ℕ = (gate p.words at.lane).len in
    let log = h.represents.reads.logs_are at.lane l in
    let tiled : IsTiled (offsets p.words at.lane) at.offset (record_of r.call) end = entry_tiled (offsets p.words at.lane) at.offset 0 end ((store_in p).logs at.lane) (record_of r.call) log.tiled e in
    let len : end ≡ ((store_in p).gates at.lane).len = ap (λ (g : Gate). g.len) (h.represents.table.gates at.lane l.below) in
    record {
      at = at;
      is = t;
      lane = l;
      spells = tiled.spells;
      inside = omega (arith, tiled.inside, len);
    }

pub spelled_by : (p : Pool) (r : Receipt) → IsWhole p → IsRecorded p r → IsWrite r.call → IsSpelled p r
spelled_by p r h e w = spelled_at p r r.at refl h (e w)
