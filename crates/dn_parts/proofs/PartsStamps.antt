use Rattle.std.proofs.Common.{ℕ, ◌<◌, ◌≤◌, ◌≡◌, inl, inr, max, Contains, Some, None, sym, ◌∙◌, ap, subst, arith}
use Rattle.dn_word.specs.declared.packed.gate.Gate.{Gate}
use Rattle.dn_word.specs.declared.packed.deed.Deed.{Deed}
use Rattle.dn_hist.specs.Calls.{key_of}
use Rattle.dn_model.specs.Regions.{gate, mark, deed, slot_of}
use Rattle.dn_monitor.specs.Monitor.{Monitoring, IsErrand, IsPlace, slot_in}
use Rattle.dn_monitor.specs.declared.places.Errand.{Errand}
use Rattle.dn_monitor.specs.declared.places.Errand.TheVariants.{Move, Takeover}
use Rattle.dn_monitor.specs.declared.places.MonitorPlace.{MonitorPlace}
use Rattle.dn_monitor.specs.declared.places.MonitorPlace.TheVariants as at
use Rattle.dn_owners.specs.Known.{Watch}
use Rattle.dn_owners.specs.Sound.{IsWatched, bound_by}
use Rattle.dn_owners.proofs.Ats.{none_some, same_some}
use Rattle.dn_beside.specs.Pool.{Pool, store_in, IsWhole}
use Rattle.dn_orders.specs.Knowing.{KnowsOrder, HasFound, IsMerged, watch_of}
use Rattle.dn_callers.specs.Callers.{Standing}
use Rattle.dn_callers.proofs.Lists.{has_receipt}
use Rattle.dn_machine.specs.State.{Machine}
use Rattle.dn_machine.specs.Sound.{IsMachineAt, IsSound}
use Rattle.dn_parts.specs.Stamps.{AreBound, watched_at, IsEnded, IsMergedFor, GrantsInOrder}
use Rattle.dn_parts.proofs.PartsRead.{merged_whole, by_words, seen, sealed_has, deed_low, deed_is, owner_low}

-- Stamps of receipts, and what the monitor waits for.

-- ---- receipts
promised_by : (p : Pool) (m : Machine) (x : Standing) → IsMachineAt p m → Contains m.callers.receipts x → x.receipt.position.stamp ≤ p.owners.promised (key_of x.receipt.call)
promised_by p m x h c = h.receipts.register.stamps x.receipt (has_receipt m.callers.receipts x c)

bound_is : (p : Pool) (k : ℕ) → IsWhole p → bound_by (deed p.words) (gate p.words) k ≡ bound_by (store_in p).deeds (store_in p).gates k
bound_is p k h =
    ap (λ (d : Deed). max d.floor (gate p.words d.lane).stamp) (deed_is p k h)
    ∙ ap (λ (g : Gate). max ((store_in p).deeds (slot_of k)).floor g.stamp) (h.represents.table.gates ((store_in p).deeds (slot_of k)).lane (owner_low p k h))

bound_at : (p : Pool) (m : Machine) → IsMachineAt p m → AreBound (seen p m)
bound_at p m h = record {
  each = λ x c.
      let k : ℕ = key_of x.receipt.call in
      let P : ℕ → Type 0 = λ i. x.receipt.position.stamp ≤ i in
      subst P (sym (bound_is p k h.whole)) (omega (arith, promised_by p m x h c, h.whole.sound.stamps.each k));
}

pub are_bound : (segments : ℕ) (m : Machine) → IsSound segments m → AreBound m
are_bound segments m h = by_words AreBound h.p m h.at.words (bound_at h.p m h.at)

-- ---- the monitor
watch_is : (p : Pool) (x : MonitorPlace) (w : Watch) → HasFound p x → watched_at x ≡ Some w → p.owners.watch ≡ Some w
watch_is p at.Done w h e = absurd (none_some w e)
watch_is p (at.Format segments) w h e = absurd (none_some w e)
watch_is p (at.Look slot) w h e = absurd (none_some w e)
watch_is p (at.Fence lane) w h e = absurd (none_some w e)
watch_is p (at.Deed errand) w h e = absurd (none_some w e)
watch_is p (at.Leave slot to deed) w h e = absurd (none_some w e)
watch_is p (at.Gate errand deed) w h e = absurd (none_some w e)
watch_is p (at.Mark errand deed gate) w h e = h ∙ e
watch_is p (at.Grant errand deed None) w h e = absurd (none_some w e)
watch_is p (at.Grant errand deed (Some gate)) w h e = h.watch ∙ e

errand_low : (errand : Errand) → IsErrand errand → slot_in errand < 64
errand_low (Move slot to) h = h.0
errand_low (Takeover lane slot n) h = h.0

slot_by : (errand : Errand) (deed : ℕ) (gate : Gate) (w : Watch) → IsErrand errand → Some (watch_of errand deed gate) ≡ Some w → w.slot < 64
slot_by errand deed gate w h e = omega (arith, errand_low errand h, ap (λ (v : Watch). v.slot) (same_some (watch_of errand deed gate) w e))

slot_low : (x : MonitorPlace) (w : Watch) → IsPlace x → watched_at x ≡ Some w → w.slot < 64
slot_low at.Done w h e = absurd (none_some w e)
slot_low (at.Format segments) w h e = absurd (none_some w e)
slot_low (at.Look slot) w h e = absurd (none_some w e)
slot_low (at.Fence lane) w h e = absurd (none_some w e)
slot_low (at.Deed errand) w h e = absurd (none_some w e)
slot_low (at.Leave slot to deed) w h e = absurd (none_some w e)
slot_low (at.Gate errand deed) w h e = absurd (none_some w e)
slot_low (at.Mark errand deed gate) w h e = slot_by errand deed gate w h.0 e
slot_low (at.Grant errand deed None) w h e = absurd (none_some w e)
slot_low (at.Grant errand deed (Some gate)) w h e = slot_by errand deed gate w h.0 e

-- what it has read of a gate
record HasWatch (p : Pool) (w : Watch) : Type 0 where
  slot : w.slot < 64
  lane : w.lane < 64
  deed_is : deed p.words w.slot ≡ (store_in p).deeds w.slot
  is : IsWatched (store_in p).logs (store_in p).gates (store_in p).deeds p.owners.promised w

has_watch : (p : Pool) (m : Machine) (x : Monitoring) (w : Watch) → IsMachineAt p m → m.monitor ≡ Some x → watched_at x.place ≡ Some w → HasWatch p w
has_watch p m x w h is e =
    let k : KnowsOrder p x = h.know.monitor x is in
    let low : w.slot < 64 = slot_low x.place w k.place e in
    let watched : IsWatched (store_in p).logs (store_in p).gates (store_in p).deeds p.owners.promised w = h.whole.sound.watched w (watch_is p x.place w k.found e) in
    record {
      slot = low;
      lane = omega (arith, deed_low p w.slot h.whole low, watched.names);
      deed_is = h.whole.represents.table.deeds w.slot low;
      is = watched;
    }

ended_at : (p : Pool) (m : Machine) (w : Watch) → IsMachineAt p m → HasWatch p w → IsEnded (seen p m) w
ended_at p m w h g = record {
  past = elim g.is.past [
    | inl e ↦ inl (ap (λ (d : Deed). d.state) g.deed_is ∙ e)
    | inr e ↦ inr (ap (λ (y : Gate). y.fenced) (h.whole.represents.table.gates w.lane g.lane) ∙ e)
  ];
  names = ap (λ (d : Deed). d.lane) g.deed_is ∙ g.is.names;
  sealed = λ k x s e. g.is.ended k x (sealed_has p w.lane x h.whole s.sealed) s.authority e;
  stamps = λ x c e.
      let P : ℕ → Type 0 = λ i. x.receipt.position.stamp ≤ max i w.stamp in
      subst P (ap (λ (d : Deed). d.floor) (sym g.deed_is)) (omega (arith, promised_by p m x h c, g.is.stamps (key_of x.receipt.call) e));
}

merged_at : (p : Pool) (m : Machine) (x : Monitoring) (errand : Errand) (word : ℕ) (gate : Gate) → IsMachineAt p m → m.monitor ≡ Some x → x.place ≡ at.Grant errand word (Some gate) → IsMergedFor (seen p m) errand word gate
merged_at p m x errand word gate h is e =
    let w : Watch = watch_of errand word gate in
    let g : HasWatch p w = has_watch p m x w h is (ap watched_at e) in
    let found : IsMerged p errand word gate = subst (λ (y : MonitorPlace). HasFound p y) e (h.know.monitor x is).found in
    let mark_is = h.whole.represents.table.marks w.lane g.lane in
    let upto : gate.len ≤ mark p.words w.lane = omega (arith, found.merged, mark_is) in
    record {
      length = upto;
      all = λ k y s f. omega (arith, mark_is, merged_whole p w.lane y h.whole s.sealed (omega (arith, found.merged, (ended_at p m w h g).sealed k y s f)));
    }

grants_at : (p : Pool) (m : Machine) → IsMachineAt p m → GrantsInOrder (seen p m)
grants_at p m h = record {
  ended = λ x w is e. ended_at p m w h (has_watch p m x w h is e);
  merged = λ x errand word gate is e. merged_at p m x errand word gate h is e;
}

pub grants_in_order : (segments : ℕ) (m : Machine) → IsSound segments m → GrantsInOrder m
grants_in_order segments m h = by_words GrantsInOrder h.p m h.at.words (grants_at h.p m h.at)
