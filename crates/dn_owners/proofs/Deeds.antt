use Rattle.std.proofs.Common.{ℕ, ◌≡◌, inl, inr, max, Option, Some, refl, sym, ◌∙◌, ap, subst, arith}
use Rattle.dn_word.specs.declared.packed.gate.Gate.{Gate}
use Rattle.dn_word.specs.declared.packed.deed.Deed.{Deed}
use Rattle.dn_word.specs.declared.packed.deed.DeedState.{DeedState}
use Rattle.dn_word.specs.declared.packed.deed.DeedState.TheVariants.{Nobody, Owned, Leaving, Released}
use Rattle.dn_record.specs.declared.records.Record.{Record}
use Rattle.dn_model.specs.Regions.{slot_of}
use Rattle.dn_model.specs.Held.{Found}
use Rattle.dn_store.specs.State.{StoreState, with_at}
use Rattle.dn_store.proofs.At.{at_by}
use Rattle.dn_owners.specs.Known.{Look, Watch, Owners}
use Rattle.dn_owners.specs.Sound.{IsOrdered, IsLive, IsHeld, IsWatched, Owns, Agrees, bound_by, IsSound}
use Rattle.dn_owners.specs.Events.{Leave, Release, Watches, happens}
use Rattle.dn_owners.specs.Given.{IsStep, IsWatching, IsGiven}
use Rattle.dn_owners.proofs.Ats.{same_some, none_some}
use Rattle.dn_owners.proofs.Moves.{authority_deeds}

-- ---- deeds that keep all but their states
pub record SameDeeds (old new : ℕ → Deed) : Type 0 where
  pub epoch : (t : ℕ) → (new t).epoch ≡ (old t).epoch
  pub lane : (t : ℕ) → (new t).lane ≡ (old t).lane
  pub floor : (t : ℕ) → (new t).floor ≡ (old t).floor

pub stepped : (deeds : ℕ → Deed) (t : ℕ) (d : Deed) (from to : DeedState) → IsStep (deeds t) d from to → SameDeeds deeds (with_at deeds t d)
stepped deeds t d from to g = record {
  epoch = λ u. at_by (λ (x : Deed). x.epoch ≡ (deeds u).epoch) deeds t d u (λ e. g.epoch ∙ ap (λ x. (deeds x).epoch) (sym e)) (λ f. refl);
  lane = λ u. at_by (λ (x : Deed). x.lane ≡ (deeds u).lane) deeds t d u (λ e. g.lane ∙ ap (λ x. (deeds x).lane) (sym e)) (λ f. refl);
  floor = λ u. at_by (λ (x : Deed). x.floor ≡ (deeds u).floor) deeds t d u (λ e. g.floor ∙ ap (λ x. (deeds x).floor) (sym e)) (λ f. refl);
}

pub bound_same : (old new : ℕ → Deed) (gates : ℕ → Gate) (k : ℕ) → (new (slot_of k)).lane ≡ (old (slot_of k)).lane → (new (slot_of k)).floor ≡ (old (slot_of k)).floor → bound_by new gates k ≡ bound_by old gates k
bound_same old new gates k l f = ap (λ x. max x (gates (new (slot_of k)).lane).stamp) f ∙ ap (λ m. max (old (slot_of k)).floor (gates m).stamp) l

-- a state of the deeds that changed
record AreStates (o : Owners) (deeds : ℕ → Deed) : Type 0 where
  same : SameDeeds o.store.deeds deeds
  idle : (t : ℕ) → (deeds t).state ≡ Nobody → (o.store.deeds t).state ≡ Nobody
  live : (n : ℕ) (l : Look) → IsHeld (o.store.deeds l.slot) n l → (o.knows n).look ≡ Some l → IsLive (deeds l.slot)
  released : (t : ℕ) → (o.store.deeds t).state ≡ Released → (deeds t).state ≡ Released

states_kept : (o : Owners) (deeds : ℕ → Deed) → IsSound o → AreStates o deeds → IsSound (record o { store = record o.store { deeds = deeds } })
states_kept o deeds h c =
    let s : StoreState = o.store in
    let owns : (n k : ℕ) → Owns (o.knows n).running (s.gates n) (deeds (slot_of k)) n → Owns (o.knows n).running (s.gates n) (s.deeds (slot_of k)) n
    = λ n k w. record { is_running = w.is_running; unfenced = w.unfenced; names = sym (c.same.lane (slot_of k)) ∙ w.names } in
    record {
      one = record { each = λ n k p m le a. c.same.lane (slot_of k) ∙ h.one.each n k p m le a };
      idle = record { slots = λ t lt e. c.same.lane t ∙ h.idle.slots t lt (c.idle t e); stamp = h.idle.stamp };
      leading = h.leading;
      looks = λ n. let was = h.looks n in record {
        held = λ l q b. let held = was.held l q b in
            record { names = c.same.lane l.slot ∙ held.names; epoch = c.same.epoch l.slot ∙ held.epoch; floor = c.same.floor l.slot ∙ held.floor; live = c.live n l held q };
        learnt = was.learnt;
        running = was.running;
      };
      past = λ n. record { each = λ t x q. let was = (h.past n).each t x q in (omega (arith, was.0, c.same.epoch t), was.1) };
      pending = h.pending;
      counted = λ n. record {
        each = λ k p w m le a. let was = (h.counted n).each k p (owns n k w) m le a in
            record { of = was.of; is = was.is; same = was.same ∙ sym (c.same.epoch (slot_of k)); before = was.before };
      };
      told = λ n. record {
        each = λ k x r w q e u. let P : Found (Option Record) → Type 0 = λ y. Agrees y k r in
            subst P (sym (authority_deeds s deeds k (c.same.lane (slot_of k)))) ((h.told n).each k x r (owns n k w) q (e ∙ c.same.epoch (slot_of k)) u);
      };
      stamps = record { each = λ k. omega (arith, h.stamps.each k, bound_same s.deeds deeds s.gates k (c.same.lane (slot_of k)) (c.same.floor (slot_of k))) };
      watched = λ w e. let was = h.watched w e in record {
        past = elim was.past [ inl r ↦ inl (c.released w.slot r) | inr b ↦ inr b ];
        names = c.same.lane w.slot ∙ was.names;
        ended = was.ended;
        stamps = λ k t. omega (arith, was.stamps k t, c.same.floor w.slot);
      };
    }

not_owned : (d : Deed) → d.state ≡ Owned → d.state ≡ Released → ⊥
not_owned d e f = cc

not_leaving : (d : Deed) → d.state ≡ Leaving → d.state ≡ Nobody → ⊥
not_leaving d e f = cc

not_released : (d : Deed) → d.state ≡ Released → d.state ≡ Nobody → ⊥
not_released d e f = cc

-- ---- Owned becomes Leaving
pub leave_kept : (o : Owners) (t : ℕ) (d : Deed) → IsSound o → IsGiven o (Leave t d) → IsSound (happens o (Leave t d))
leave_kept o t d h g =
    let deeds : ℕ → Deed = o.store.deeds in
    states_kept o (with_at deeds t d) h (record {
      same = stepped deeds t d Owned Leaving g;
      idle = λ u. at_by (λ (x : Deed). x.state ≡ Nobody → (deeds u).state ≡ Nobody) deeds t d u (λ e b. absurd (not_leaving d g.is b)) (λ f b. b);
      live = λ n l was q. at_by IsLive deeds t d l.slot (λ e. inr g.is) (λ f. was.live);
      released = λ u r. at_by (λ (x : Deed). x.state ≡ Released) deeds t d u (λ e. absurd (not_owned (deeds t) g.was (ap (λ x. (deeds x).state) (sym e) ∙ r))) (λ f. r);
    })

-- ---- Leaving becomes Released, while the lane that is named is in no call or task that has looked
pub release_kept : (o : Owners) (t : ℕ) (d : Deed) → IsSound o → IsGiven o (Release t d) → IsSound (happens o (Release t d))
release_kept o t d h g =
    let deeds : ℕ → Deed = o.store.deeds in
    states_kept o (with_at deeds t d) h (record {
      same = stepped deeds t d Leaving Released g.0;
      idle = λ u. at_by (λ (x : Deed). x.state ≡ Nobody → (deeds u).state ≡ Nobody) deeds t d u (λ e b. absurd (not_released d g.0.is b)) (λ f b. b);
      live = λ n l was q. at_by IsLive deeds t d l.slot
          (λ e. absurd (none_some l (sym g.1 ∙ ap (λ m. (o.knows m).look) (ap (λ x. (deeds x).lane) (sym e) ∙ was.names) ∙ q))) (λ f. was.live);
      released = λ u r. at_by (λ (x : Deed). x.state ≡ Released) deeds t d u (λ e. g.0.is) (λ f. r);
    })

-- ---- the monitor loads the gate past Released or the bit
pub watch_kept : (o : Owners) (w : Watch) → IsOrdered o.store.logs o.store.gates o.store.marks → IsSound o → IsWatching o w → IsSound (happens o (Watches w))
watch_kept o w i h g = record {
  one = h.one;
  idle = h.idle;
  leading = h.leading;
  looks = h.looks;
  past = h.past;
  pending = h.pending;
  counted = h.counted;
  told = h.told;
  stamps = h.stamps;
  watched = λ v e.
      let s : StoreState = o.store in
      let P : Watch → Type 0 = λ x. IsWatched s.logs s.gates s.deeds o.promised x in
      subst P (same_some w v e) (record {
        past = g.past;
        names = g.names;
        ended = λ k p c a t. omega (arith, i.below w.lane p c, g.len);
        stamps = λ k t. omega (arith, h.stamps.each k, g.stamp, ap (λ x. (s.deeds x).floor) t, ap (λ x. (s.gates x).stamp) (ap (λ x. (s.deeds x).lane) t ∙ g.names));
      });
}
