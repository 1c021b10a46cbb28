use Rattle.std.proofs.Common.{ℕ, ◌≡◌, ◌≢◌, ◌<◌, ◌≤◌, inl, inr, true, List, Contains, refl, sym, ◌∙◌, ap, subst, arith}
use Rattle.std.proofs.lemmas.Bool.{cases_eq}
use Rattle.dn_word.specs.declared.packed.deed.Deed.{Deed}
use Rattle.dn_word.specs.declared.packed.deed.DeedState.{DeedState}
use Rattle.dn_word.specs.declared.packed.deed.DeedState.TheVariants.{Nobody, Owned, Leaving, Released}
use Rattle.dn_word.specs.declared.packed.gate.Gate.{Gate}
use Rattle.dn_hist.specs.Calls.{key_of}
use Rattle.dn_hist.specs.declared.receipts.Receipt.{Receipt}
use Rattle.dn_model.specs.declared.logs.Placed.{Placed}
use Rattle.dn_model.specs.Regions.{gate, deed}
use Rattle.dn_model.proofs.MapLaws.{lane_or_not, one_log}
use Rattle.dn_store.specs.State.{StoreState}
use Rattle.dn_store.specs.Changes.{deeded}
use Rattle.dn_store.proofs.At.{at_same, at_other}
use Rattle.dn_owners.specs.Given.{IsStep}
use Rattle.dn_owners.specs.Known.{Watch}
use Rattle.dn_owners.specs.Sound.{IsWatched}
use Rattle.dn_owners.proofs.Grants.{IsGrantable, watched_grant, idle_grant}
use Rattle.dn_owners.proofs.Logs.{nil_has}
use Rattle.dn_beside.specs.Pool.{Pool, store_in, IsWhole}
use Rattle.dn_orders.specs.Changing.{OrderChange, Same, Asks, Grants, Adopts, Fences}
use Rattle.dn_orders.proofs.Actions.{in_order}
use Rattle.dn_receipts.specs.Receipts.{AreReceipts}
use Rattle.dn_moves.specs.Grants.{HasLeft, Nobodys, GivenUp, Fenced, IsFloor}
use Rattle.dn_moves.specs.Unmerged.{IsUnmerged}

-- What of deeds is so of pools, in their words.

-- ---- the lane that a deed names
lane_by : (p : Pool) (t : ℕ) (s : DeedState) → IsWhole p → t < 64 → ((store_in p).deeds t).state ≡ s → ((store_in p).deeds t).lane < 64
lane_by p t Nobody h lt e = omega (arith, h.sound.idle.slots t lt e)
lane_by p t Owned h lt e = ((h.deeds t lt).names (λ f. absurd (cc (e, f)))).below
lane_by p t Leaving h lt e = ((h.deeds t lt).names (λ f. absurd (cc (e, f)))).below
lane_by p t Released h lt e = ((h.deeds t lt).names (λ f. absurd (cc (e, f)))).below

pub lane_below : (p : Pool) (t : ℕ) → IsWhole p → t < 64 → ((store_in p).deeds t).lane < 64
lane_below p t h lt = lane_by p t ((store_in p).deeds t).state h lt refl

-- ---- a slot is granted
pub record IsGrantOf (p q : Pool) (t : ℕ) : Type 0 where
  pub left : HasLeft p.words t
  pub grantable : IsGrantable p.owners t ((store_in q).deeds t)

grant_of : (p q : Pool) (u t : ℕ) (d : Deed) → HasLeft p.words u → IsGrantable p.owners u d → (store_in q).deeds u ≡ d → t ≡ u → IsGrantOf p q t
grant_of p q u t d left g is same =
    let P : ℕ → Type 0 = λ i. IsGrantOf p q i in subst P (sym same) (record { left = left; grantable = subst (λ (x : Deed). IsGrantable p.owners u x) (sym is) g })

fenced_in : (p : Pool) (t n : ℕ) → IsWhole p → t < 64 → ((store_in p).deeds t).lane ≡ n → ((store_in p).gates n).fenced ≡ true → HasLeft p.words t
fenced_in p t n h lt names bit =
    let table = h.represents.table in
    let lane : (deed p.words t).lane ≡ n = ap (λ (x : Deed). x.lane) (table.deeds t lt) ∙ names in
    let below : n < 64 = subst (λ (k : ℕ). k < 64) names (lane_below p t h lt) in
    Fenced (ap (λ k. (gate p.words k).fenced) lane ∙ ap (λ (x : Gate). x.fenced) (table.gates n below) ∙ bit)

-- ---- what an action of the monitor changes
stays : (old new : Deed) → new ≡ old → old.epoch < new.epoch → ⊥
stays old new e lt = omega (arith, ap (λ (x : Deed). x.epoch) e, lt)

other : (p q : Pool) (u t : ℕ) (d : Deed) → store_in q ≡ deeded (store_in p) u d → t ≢ u → (store_in q).deeds t ≡ (store_in p).deeds t
other p q u t d e ne = ap (λ (s : StoreState). s.deeds t) e ∙ at_other (store_in p).deeds u d t ne

here : (p q : Pool) (u : ℕ) (d : Deed) → store_in q ≡ deeded (store_in p) u d → (store_in q).deeds u ≡ d
here p q u d e = ap (λ (s : StoreState). s.deeds u) e ∙ at_same (store_in p).deeds u d u refl

asked_not : (p q : Pool) (u t : ℕ) (d : Deed) → IsStep ((store_in p).deeds u) d Owned Leaving → store_in q ≡ deeded (store_in p) u d → t ≡ u
    → ((store_in p).deeds t).epoch < ((store_in q).deeds t).epoch → ⊥
asked_not p q u t d step e same lt =
    let P : ℕ → Type 0 = λ i. ((store_in p).deeds i).epoch < ((store_in q).deeds i).epoch in
    let there : ((store_in p).deeds u).epoch < ((store_in q).deeds u).epoch = subst P same lt in
    omega (arith, there, step.epoch, ap (λ (x : Deed). x.epoch) (here p q u d e))

left_by : (p : Pool) (w : Watch) → IsWhole p → w.slot < 64 → IsWatched (store_in p).logs (store_in p).gates (store_in p).deeds p.owners.promised w → HasLeft p.words w.slot
left_by p w h lt was = elim was.past [
  | inl f ↦ GivenUp (ap (λ (x : Deed). x.state) (h.represents.table.deeds w.slot lt) ∙ f)
  | inr f ↦ fenced_in p w.slot w.lane h lt was.names f
]

pub granted : (p q : Pool) (t : ℕ) → IsWhole p → OrderChange p q → ((store_in p).deeds t).epoch < ((store_in q).deeds t).epoch → IsGrantOf p q t
granted p q t h (Same e) lt = absurd (stays ((store_in p).deeds t) ((store_in q).deeds t) (ap (λ (s : StoreState). s.deeds t) e) lt)
granted p q t h (Asks u d below step e) lt = elim (cases_eq t u) [
  | inl same ↦ absurd (asked_not p q u t d step e same lt)
  | inr ne ↦ absurd (stays ((store_in p).deeds t) ((store_in q).deeds t) (other p q u t d e ne) lt)
]
granted p q t h (Grants w d below g e) lt = elim (cases_eq t w.slot) [
  | inl same ↦ grant_of p q w.slot t d (left_by p w h below (h.sound.watched w g.watch)) (watched_grant p.owners w d h.sound g) (here p q w.slot d e) same
  | inr ne ↦ absurd (stays ((store_in p).deeds t) ((store_in q).deeds t) (other p q w.slot t d e ne) lt)
]
granted p q t h (Adopts u d g e) lt = elim (cases_eq t u) [
  | inl same ↦ grant_of p q u t d (Nobodys (ap (λ (x : Deed). x.state) (h.represents.table.deeds u g.slot) ∙ g.was)) (idle_grant p.owners u d (in_order p h) h.sound g) (here p q u d e) same
  | inr ne ↦ absurd (stays ((store_in p).deeds t) ((store_in q).deeds t) (other p q u t d e ne) lt)
]
granted p q t h (Fences n lane e) lt = absurd (stays ((store_in p).deeds t) ((store_in q).deeds t) (ap (λ (s : StoreState). s.deeds t) e) lt)

-- ---- what isn't merged, in the terms of the store
pub record IsWaitingIn (p : Pool) (n k : ℕ) (x : Placed) : Type 0 where
  pub has : Contains ((store_in p).logs n) x
  pub above : (store_in p).marks n ≤ x.offset

pub waits_in : (p : Pool) (n t : ℕ) → IsWhole p → (u : IsUnmerged p.words n t) → IsWaitingIn p n u.key u.entry
waits_in p n t h u = elim (lane_or_not n) [
  | inl lane ↦
      (let same : u.logs n ≡ (store_in p).logs n = one_log p.words n (u.logs n) ((store_in p).logs n) (u.reads.logs_are n lane) (h.represents.reads.logs_are n lane) in record {
        has = subst (λ (l : List Placed). Contains l u.entry) same u.has;
        above = omega (arith, u.above, h.represents.table.marks n lane.below);
      })
  | inr none ↦ absurd (nil_has u.entry (subst (λ (l : List Placed). Contains l u.entry) (u.reads.no_more n none) u.has))
]

pub all_merged : (p q : Pool) (n t : ℕ) → IsWhole p → IsGrantOf p q t → IsUnmerged p.words n t → ⊥
all_merged p q n t h g u = (let w : IsWaitingIn p n u.key u.entry = waits_in p n t h u in g.grantable.unwaiting n u.key u.entry u.slot w.has w.above u.authority)

pub floor_is : (p q : Pool) (t : ℕ) (rs : List Receipt) → AreReceipts p rs → IsGrantOf p q t → IsFloor rs t ((store_in q).deeds t).floor
floor_is p q t rs a g r has slot = omega (arith, a.register.stamps r has, g.grantable.floor (key_of r.call) slot)
