use Rattle.std.proofs.Common.{ℕ, ◌+◌, ◌≤◌, ◌<◌, ◌≡◌, ◌≢◌, inl, inr, Bool, true, false, nat_eq, if◌then◌else◌, List, [], ◌∷◌, map, Contains, Option, Some, None, refl, sym, ◌∙◌, ap, subst, arith, slice_index}
use Rattle.std.proofs.lemmas.Bool.Decides.{nat_tests}
use Rattle.std.specs.Option.{option_map}
use Rattle.dn_word.specs.declared.packed.place.Ref.{Ref}
use Rattle.dn_model.specs.Regions.{slot_of}
use Rattle.dn_model.specs.declared.logs.Placed.{Placed}
use Rattle.dn_model.specs.Held.{entry_at}
use Rattle.dn_pending.specs.Entries.{last_of}
use Rattle.dn_known.specs.State.{KnownState}
use Rattle.dn_known.specs.Counting.{count_of, at_least, place_of, pending_of}
use Rattle.dn_owners.specs.Counting.{pending_from, last_counting}
use Rattle.dn_owners.specs.Known.{Learnt}
use Rattle.dn_owners.specs.Sound.{Rise, IsOrdered, Owns, IsHeld, IsLearnt}
use Rattle.dn_owners.specs.Merging.{IsRecordOf}
use Rattle.dn_owners.proofs.Ats.{same_some, none_some}
use Rattle.dn_owners.proofs.Logs.{nil_has, cons_cases, rise_from, ordered}
use Rattle.dn_owners.proofs.Counting.{counting_some, counting_none}
use Rattle.dn_beside.specs.Pool.{Pool, store_in, IsWhole}
use Rattle.dn_learnt.specs.Learning.{IsMet, pending_by}
use Rattle.dn_learnt.specs.Pendings.{MayAsk, IsPendingAt, HasNone}
use Rattle.dn_learnt.proofs.Lasts.{Rises, pending_rises, counted_at, counted_by, counted_last}

-- What the pending records that count tell of a key.

-- ---- the record at its own offset
entry_by : (o : ℕ) (x : Placed) (xs : List Placed) (p : Placed) (b : Bool) → nat_eq x.offset p.offset ≡ b → (x.offset ≡ p.offset → x.entry ≡ p.entry) → (x.offset ≢ p.offset → entry_at p.offset xs ≡ Some p.entry)
    → (if b then Some x.entry else entry_at p.offset xs) ≡ Some p.entry
entry_by o x xs p true e same rest = ap Some (same (grind (arith, nat_tests, e)))
entry_by o x xs p false e same rest = rest (λ d. grind (arith, nat_tests, e, d))

pub entry_has : (a : ℕ) (log : List Placed) (p : Placed) → Rise a log → Contains log p → entry_at p.offset log ≡ Some p.entry
entry_has a [] p r c = absurd (nil_has p c)
entry_has a (x ∷ xs) p r c = elim (cons_cases x xs p c) [
  | inl e ↦ entry_by a x xs p (nat_eq x.offset p.offset) refl (λ s. ap (λ (y : Placed). y.entry) e) (λ d. absurd (d (ap (λ (y : Placed). y.offset) e)))
  | inr d ↦
      let le : x.offset + 1 ≤ p.offset = rise_from (x.offset + 1) xs p r.1 d in
      entry_by a x xs p (nat_eq x.offset p.offset) refl (λ s. absurd (omega (arith, le, s))) (λ s. entry_has (x.offset + 1) xs p r.1 d)
]

-- ---- the epoch of now, as the lane has met it
pub record IsNow (p : Pool) (n key : ℕ) (k : KnownState) : Type 0 where
  pub learnt : Learnt
  pub is : (p.owners.knows n).learnt (slot_of key) ≡ Some learnt
  pub now : learnt.epoch ≡ ((store_in p).deeds (slot_of key)).epoch
  pub from : learnt.from ≡ count_of k key
  pub owns : Owns (p.owners.knows n).running ((store_in p).gates n) ((store_in p).deeds (slot_of key)) n

pub is_now : (p : Pool) (n key : ℕ) (k : KnownState) → IsWhole p → slot_of key < 64 → MayAsk p n key k → IsNow p n key k
is_now p n key k h lt a =
    let held : IsHeld ((store_in p).deeds a.look.slot) n a.look = (h.sound.looks n).held a.look a.looks a.clear in
    let has : IsLearnt ((p.owners.knows n).learnt a.look.slot) a.look.epoch ((store_in p).gates n).len = (h.sound.looks n).learnt a.look a.looks in
    let is : (p.owners.knows n).learnt (slot_of key) ≡ Some has.of = ap (p.owners.knows n).learnt a.slot ∙ has.is in
    let deed : ((store_in p).deeds (slot_of key)).epoch ≡ a.look.epoch = ap (λ t. ((store_in p).deeds t).epoch) a.slot ∙ held.epoch in
    let met : IsMet ((p.owners.knows n).learnt (slot_of key)) (slice_index k.epochs (slot_of key)) (slice_index k.counts (slot_of key)) ((store_in p).deeds (slot_of key)) n = a.learns.met (slot_of key) lt in
    record {
      learnt = has.of;
      is = is;
      now = has.same ∙ sym deed;
      from = elim (met.older has.of is) [
        | inl less ↦ absurd (omega (arith, less, met.upto, has.same, deed))
        | inr same ↦ same.1
      ];
      owns = record { is_running = a.learns.running; unfenced = a.clear; names = ap (λ t. ((store_in p).deeds t).lane) a.slot ∙ held.names };
    }

last_is : (p : Pool) (n key : ℕ) (k : KnownState) (i : IsNow p n key k) → IsWhole p → MayAsk p n key k
    → last_counting key i.learnt.from (p.owners.knows n).pending ≡ counted_by key (at_least (count_of k key) (last_of key k.pending.entries))
last_is p n key k i h a =
    let order : IsOrdered p.owners.store.logs p.owners.store.gates p.owners.store.marks = ordered p.words p.chains p.owners.store h.represents in
    let keeps : (p.owners.knows n).pending ≡ pending_from (p.owners.knows n).dropped (p.owners.store.logs n) = (h.sound.pending n).keeps a.learns.running in
    let rises : Rises 0 (map pending_by k.pending.entries) = subst (Rises 0) (sym keeps ∙ a.learns.pending) (pending_rises 0 (p.owners.knows n).dropped (p.owners.store.logs n) (order.rise n)) in
    ap (λ xs. last_counting key i.learnt.from xs) a.learns.pending
    ∙ counted_last key i.learnt.from 0 k.pending.entries rises
    ∙ ap (λ c. counted_by key (at_least c (last_of key k.pending.entries))) i.from

counted_some : (k : KnownState) (key : ℕ) (o : Option ℕ) (at : Ref) → option_map (place_of k) o ≡ Some at → counted_by key o ≡ Some (counted_at key at.offset)
counted_some k key None at e = absurd (none_some at e)
counted_some k key (Some x) at e = ap (λ (r : Ref). Some (counted_at key r.offset)) (same_some (place_of k x) at e)

counted_none : (k : KnownState) (key : ℕ) (o : Option ℕ) → option_map (place_of k) o ≡ None → counted_by key o ≡ None
counted_none k key None e = refl
counted_none k key (Some x) e = absurd (none_some (place_of k x) (sym e))

lane_is : (k : KnownState) (o : Option ℕ) (at : Ref) → option_map (place_of k) o ≡ Some at → at.lane ≡ k.log.lane
lane_is k None at e = absurd (none_some at e)
lane_is k (Some x) at e = sym (ap (λ (r : Ref). r.lane) (same_some (place_of k x) at e))

pub pending_is : (p : Pool) (n key : ℕ) (k : KnownState) (at : Ref) → IsWhole p → slot_of key < 64 → k.log.lane ≡ n → MayAsk p n key k → pending_of k key ≡ Some at → IsPendingAt p n key at
pending_is p n key k at h lt lane a e =
    let i : IsNow p n key k = is_now p n key k h lt a in
    let order : IsOrdered p.owners.store.logs p.owners.store.gates p.owners.store.marks = ordered p.words p.chains p.owners.store h.represents in
    let r : IsRecordOf p.owners n key (counted_at key at.offset) = counting_some p.owners n key i.learnt (counted_at key at.offset) order h.sound i.owns i.is i.now
    (last_is p n key k i h a ∙ counted_some k key (at_least (count_of k key) (last_of key k.pending.entries)) at e) in
    record {
      q = counted_at key at.offset;
      of = r;
      lane = lane_is k (at_least (count_of k key) (last_of key k.pending.entries)) at e ∙ lane;
      offset = refl;
    }

pub pending_none : (p : Pool) (n key : ℕ) (k : KnownState) → IsWhole p → slot_of key < 64 → MayAsk p n key k → pending_of k key ≡ None → HasNone p n key
pending_none p n key k h lt a e =
    let i : IsNow p n key k = is_now p n key k h lt a in
    record {
      owner = i.owns.names;
      waits = counting_none p.owners n key i.learnt h.sound i.owns i.is i.now (last_is p n key k i h a ∙ counted_none k key (at_least (count_of k key) (last_of key k.pending.entries)) e);
    }
