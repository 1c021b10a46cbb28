use Rattle.std.proofs.Common.{ℕ, ◌≡◌, ◌≢◌, inl, inr, Option, None, refl, sym, ◌∙◌, ap, arith}
use Rattle.std.proofs.lemmas.Bool.{cases_eq}
use Rattle.dn_model.specs.Regions.{slot_of, home_of}
use Rattle.dn_model.specs.declared.logs.Placed.{Placed}
use Rattle.dn_store.specs.Holding.{owner_in, waiting}
use Rattle.dn_store.proofs.At.{at_other}
use Rattle.dn_owners.specs.Known.{Owners}
use Rattle.dn_owners.specs.Sound.{IsSound}
use Rattle.dn_owners.specs.Events.{Event, Look_known, Look_new, End, Raise, Seal, Promise, Trim, Set, Pass, Fence, Leave, Release, Watches, Grant, Adopt, Stop, Begin, happens}
use Rattle.dn_owners.specs.Given.{IsSetting, IsGiven}
use Rattle.dn_owners.specs.Merging.{IsWaiting, IsSetBy, IndexAfter}
use Rattle.dn_owners.proofs.Ats.{none_some}
use Rattle.dn_owners.proofs.Sets.{waits_in}

-- ---- who has an unmerged record of a slot
pub slot_alone : (o : Owners) (n m k q : ℕ) (p r : Placed) → IsSound o → IsWaiting o n k p → IsWaiting o m q r → slot_of k ≡ slot_of q → n ≡ m
slot_alone o n m k q p r h a b e =
    sym (h.one.each n k p a.has a.unmerged a.authority) ∙ ap (λ t. (o.store.deeds t).lane) e ∙ h.one.each m q r b.has b.unmerged b.authority

-- a chain lies in one slot
pub chain_alone : (o : Owners) (n m k q : ℕ) (p r : Placed) → IsSound o → IsWaiting o n k p → IsWaiting o m q r → home_of k ≡ home_of q → n ≡ m
chain_alone o n m k q p r h a b e = slot_alone o n m k q p r h a b (omega (arith, e))

-- ---- the index at its key
set_other : (o : Owners) (m q k : ℕ) (p : Placed) (place : Option ℕ) → k ≢ q → (happens o (Set m q p place)).store.index k ≡ o.store.index k
set_other o m q k p place d = at_other o.store.index q place k d

setting_waits : (o : Owners) (m q : ℕ) (p : Placed) (place : Option ℕ) → IsSetting o m q p place → IsWaiting o m q p
setting_waits o m q p place g = record { has = g.has; unmerged = g.unmerged; authority = g.authority }

set_by : (m q n k : ℕ) (p : Placed) (place : Option ℕ) → m ≡ n → q ≡ k → IsSetBy (Set m q p place) n k
set_by m q n k p place e f = record { p = p; place = place; is = ap (λ x. Set x q p place) e ∙ ap (λ x. Set n x p place) f }

pub index_after : (o : Owners) (e : Event) (n k : ℕ) (p : Placed) → IsSound o → IsGiven o e → IsWaiting o n k p → IndexAfter o e n k
index_after o (Look_known m l) n k p h g w = inl refl
index_after o (Look_new m l) n k p h g w = inl refl
index_after o (End m) n k p h g w = inl refl
index_after o (Raise m gate) n k p h g w = inl refl
index_after o (Seal m gate more) n k p h g w = inl refl
index_after o (Promise m q stamp) n k p h g w = inl refl
index_after o (Trim m to) n k p h g w = inl refl
index_after o (Set m q x place) n k p h g w = elim (cases_eq k q) [
  | inl e ↦ inr (set_by m q n k x place (slot_alone o m n q k x p h (setting_waits o m q x place g) w (ap slot_of (sym e))) (sym e))
  | inr d ↦ inl (set_other o m q k x place d)
]
index_after o (Pass m to x) n k p h g w = inl refl
index_after o (Fence m gate) n k p h g w = inl refl
index_after o (Leave t d) n k p h g w = inl refl
index_after o (Release t d) n k p h g w = inl refl
index_after o (Watches x) n k p h g w = inl refl
index_after o (Grant x d) n k p h g w = inl refl
index_after o (Adopt t d) n k p h g w = inl refl
index_after o (Stop m) n k p h g w = inl refl
index_after o (Begin m) n k p h g w = inl refl

pub walk_stays : (o : Owners) (e : Event) (k : ℕ) → IsSound o → IsGiven o e → waiting o.store (owner_in o.store k) k ≡ None → (happens o e).store.index k ≡ o.store.index k
walk_stays o (Look_known m l) k h g w = refl
walk_stays o (Look_new m l) k h g w = refl
walk_stays o (End m) k h g w = refl
walk_stays o (Raise m gate) k h g w = refl
walk_stays o (Seal m gate more) k h g w = refl
walk_stays o (Promise m q stamp) k h g w = refl
walk_stays o (Trim m to) k h g w = refl
walk_stays o (Set m q x place) k h g w = set_other o m q k x place (λ e.
    let r = waits_in o m q x place h g in
    none_some r.0 (sym w ∙ ap (λ y. waiting o.store (owner_in o.store y) y) e ∙ r.1))
walk_stays o (Pass m to x) k h g w = refl
walk_stays o (Fence m gate) k h g w = refl
walk_stays o (Leave t d) k h g w = refl
walk_stays o (Release t d) k h g w = refl
walk_stays o (Watches x) k h g w = refl
walk_stays o (Grant x d) k h g w = refl
walk_stays o (Adopt t d) k h g w = refl
walk_stays o (Stop m) k h g w = refl
walk_stays o (Begin m) k h g w = refl
