use Rattle.std.proofs.Common.{ℕ, ◌≤◌, ◌≡◌, inl, inr, Bool, true, false, max, List, [], Contains, Option, Some, None, refl, sym, ◌∙◌, ap, subst, arith}
use Rattle.std.proofs.lemmas.Bool.{false≢true}
use Rattle.dn_word.specs.declared.packed.deed.Deed.{Deed}
use Rattle.dn_word.specs.declared.packed.deed.DeedState.TheVariants.{Released}
use Rattle.dn_model.specs.Regions.{slot_of}
use Rattle.dn_model.specs.declared.logs.Placed.{Placed}
use Rattle.dn_model.specs.Held.{unmerged}
use Rattle.dn_store.specs.State.{StoreState, with_at}
use Rattle.dn_store.specs.Holding.{authority_in}
use Rattle.dn_store.proofs.At.{at_same, at_by}
use Rattle.dn_owners.specs.Counting.{pending_from}
use Rattle.dn_owners.specs.Known.{Look, Learnt, Knows, Watch, Owners, knowing_nothing}
use Rattle.dn_owners.specs.Sound.{IsOrdered, IsLive, IsHeld, IsLearnt, IsLooking, IsPast, IsPending, IsCounted, IsTold, Agrees, IsSound}
use Rattle.dn_owners.specs.Events.{Look_known, Look_new, End, Promise, Stop, Begin, learns, happens}
use Rattle.dn_owners.specs.Given.{IsOwner, IsPromise, At_gate, Again, IsGiven}
use Rattle.dn_owners.proofs.Ats.{at_kept, same_some, none_some}
use Rattle.dn_owners.proofs.Logs.{nil_has}
use Rattle.dn_owners.proofs.Last.{last_found}

-- ---- A lane learns something. All that stays true of it, in one record.
pub record IsInformed (o : Owners) (n : ℕ) (v : Knows) : Type 0 where
  pub looks : IsLooking o.store.deeds (o.store.gates n) n v
  pub past : IsPast o.store.deeds (o.store.gates n) v
  pub pending : IsPending (o.store.logs n) (o.store.marks n) v
  pub counted : IsCounted (o.store.logs n) (o.store.gates n) (o.store.marks n) o.store.deeds n v
  pub told : IsTold (o.store.logs n) (o.store.gates n) o.store.deeds (authority_in o.store) n v

pub informed : (o : Owners) (n : ℕ) → IsSound o → IsInformed o n (o.knows n)
informed o n h = record { looks = h.looks n; past = h.past n; pending = h.pending n; counted = h.counted n; told = h.told n }

pub learns_kept : (o : Owners) (n : ℕ) (v : Knows) → IsSound o → IsInformed o n v → IsSound (learns o n v)
learns_kept o n v h g =
    let each : (m : ℕ) → IsInformed o m (with_at o.knows n v m) = at_kept (IsInformed o) o.knows n v (λ x. g) (λ m. informed o m h) in
    record {
      one = h.one;
      idle = h.idle;
      leading = h.leading;
      looks = λ m. (each m).looks;
      past = λ m. (each m).past;
      pending = λ m. (each m).pending;
      counted = λ m. (each m).counted;
      told = λ m. (each m).told;
      stamps = h.stamps;
      watched = h.watched;
    }

-- ---- a look, where the epoch was learnt
found_held : (o : Owners) (n : ℕ) (l q : Look) → IsOwner o n l → l ≡ q → IsHeld (o.store.deeds q.slot) n q
found_held o n l q g e = let P : Look → Type 0 = λ x. IsHeld (o.store.deeds x.slot) n x in subst P e (record { names = g.names; epoch = g.epoch; floor = g.floor; live = inl g.state })

looking_at : (o : Owners) (n : ℕ) (l : Look) (learnt : ℕ → Option Learnt) → IsOwner o n l → IsLearnt (learnt l.slot) l.epoch (o.store.gates n).len
    → IsLooking o.store.deeds (o.store.gates n) n (record (o.knows n) { look = Some l; learnt = learnt })
looking_at o n l learnt g k = record {
  held = λ q e b. found_held o n l q g (same_some l q e);
  learnt = λ q e. let P : Look → Type 0 = λ x. IsLearnt (learnt x.slot) x.epoch (o.store.gates n).len in subst P (same_some l q e) k;
  running = λ q e. g.running;
}

pub look_known_kept : (o : Owners) (n : ℕ) (l : Look) → IsSound o → IsGiven o (Look_known n l) → IsSound (happens o (Look_known n l))
look_known_kept o n l h g =
    let k : IsLearnt ((o.knows n).learnt l.slot) l.epoch (o.store.gates n).len = record { of = g.1.0; is = g.1.1; same = g.1.2; before = ((h.past n).each l.slot g.1.0 g.1.1).1 } in
    learns_kept o n (record (o.knows n) { look = Some l }) h (record {
      looks = looking_at o n l (o.knows n).learnt g.0 k;
      past = record { each = (h.past n).each };
      pending = record { keeps = (h.pending n).keeps; low = (h.pending n).low };
      counted = record { each = (h.counted n).each };
      told = record { each = (h.told n).each };
    })

-- ---- and where it is learnt: none of the slot's records waits in the lane's log
pub look_new_kept : (o : Owners) (n : ℕ) (l : Look) → IsOrdered o.store.logs o.store.gates o.store.marks → IsSound o → IsGiven o (Look_new n l) → IsSound (happens o (Look_new n l))
look_new_kept o n l i h g =
    let s : StoreState = o.store in
    let was : Knows = o.knows n in
    let new : Learnt = record { epoch = l.epoch; from = (s.gates n).len } in
    let learnt : ℕ → Option Learnt = with_at was.learnt l.slot (Some new) in
    learns_kept o n (record was { look = Some l; learnt = learnt }) h (record {
      looks = looking_at o n l learnt g.0 (record { of = new; is = at_same was.learnt l.slot (Some new) l.slot refl; same = refl; before = omega arith });
      past = record {
        each = λ t c. at_by (λ y. y ≡ Some c → (c.epoch ≤ (s.deeds t).epoch) × (c.from ≤ (s.gates n).len)) was.learnt l.slot (Some new) t
            (λ f q. let x = same_some new c q in (omega (arith, ap (λ (y : Learnt). y.epoch) x, g.0.epoch, ap (λ y. (s.deeds y).epoch) f), omega (arith, ap (λ (y : Learnt). y.from) x)))
            (λ d. (h.past n).each t c);
      };
      pending = record { keeps = (h.pending n).keeps; low = (h.pending n).low };
      counted = record {
        each = λ k p w c le a.
            let old = (h.counted n).each k p w c le a in
            at_by (λ y. IsLearnt y (s.deeds (slot_of k)).epoch p.offset) was.learnt l.slot (Some new) (slot_of k)
            (λ f. absurd (g.1 (old.of, ap was.learnt (sym f) ∙ old.is, old.same ∙ ap (λ y. (s.deeds y).epoch) f ∙ g.0.epoch)))
            (λ d. old);
      };
      told = record {
        each = λ k c r w. at_by (λ y. y ≡ Some c → c.epoch ≡ (s.deeds (slot_of k)).epoch → unmerged k c.from (s.logs n) ≡ Some r → Agrees (authority_in s k) k r) was.learnt l.slot (Some new) (slot_of k)
            (λ f q e u. let x = last_found k c.from (s.logs n) r u in
            absurd (omega (arith, x.found.from, ap (λ (y : Learnt). y.from) (same_some new c q), i.below n x.of x.found.has)))
            (λ d q. (h.told n).each k c r w q);
      };
    })

-- ---- the end of a call or task
pub end_kept : (o : Owners) (n : ℕ) → IsSound o → IsSound (happens o (End n))
end_kept o n h = learns_kept o n (record (o.knows n) { look = None }) h (record {
  looks = record { held = λ l q. absurd (none_some l q); learnt = λ l q. absurd (none_some l q); running = λ l q. absurd (none_some l q) };
  past = record { each = (h.past n).each };
  pending = record { keeps = (h.pending n).keeps; low = (h.pending n).low };
  counted = record { each = (h.counted n).each };
  told = record { each = (h.told n).each };
})

-- ---- a lane that knows nothing
unlooked : (o : Owners) (n : ℕ) (running : Bool) → IsLooking o.store.deeds (o.store.gates n) n (knowing_nothing running)
unlooked o n running = record { held = λ l q. absurd (none_some l q); learnt = λ l q. absurd (none_some l q); running = λ l q. absurd (none_some l q) }

-- is stopped
pub stop_kept : (o : Owners) (n : ℕ) → IsSound o → IsSound (happens o (Stop n))
stop_kept o n h = learns_kept o n (knowing_nothing false) h (record {
  looks = unlooked o n false;
  past = record { each = λ t c q. absurd (none_some c q) };
  pending = record { keeps = λ e. absurd (false≢true e); low = λ e. absurd (false≢true e) };
  counted = record { each = λ k p w. absurd (false≢true w.is_running) };
  told = record { each = λ k c r w. absurd (false≢true w.is_running) };
})

-- or begins
pub begin_kept : (o : Owners) (n : ℕ) → IsSound o → o.store.logs n ≡ [] → IsSound (happens o (Begin n))
begin_kept o n h g = learns_kept o n (knowing_nothing true) h (record {
  looks = unlooked o n true;
  past = record { each = λ t c q. absurd (none_some c q) };
  pending = record { keeps = λ e. sym (ap (pending_from 0) g); low = λ e. omega arith };
  counted = record { each = λ k p w c. let P : List Placed → Type 0 = λ x. Contains x p in absurd (nil_has p (subst P g c)) };
  told = record { each = λ k c r w q. absurd (none_some c q) };
})

-- ---- a stamp is promised
released_not : (d : Deed) → d.state ≡ Released → IsLive d → ⊥
released_not d r x = elim x [ inl e ↦ cc | inr e ↦ cc ]

-- nobody who may still seal has looked at the watched slot
pub not_watched : (o : Owners) (n : ℕ) (l : Look) (w : Watch) → IsSound o → (o.knows n).look ≡ Some l → (o.store.gates n).fenced ≡ false → o.watch ≡ Some w → l.slot ≡ w.slot → ⊥
not_watched o n l w h look clear e same =
    let was = h.watched w e in
    let held = (h.looks n).held l look clear in
    let lane : w.lane ≡ n = sym was.names ∙ ap (λ x. (o.store.deeds x).lane) (sym same) ∙ held.names in
    elim was.past [
      | inl r ↦ released_not (o.store.deeds l.slot) (ap (λ x. (o.store.deeds x).state) same ∙ r) held.live
      | inr b ↦ absurd (false≢true (sym clear ∙ ap (λ x. (o.store.gates x).fenced) (sym lane) ∙ b))
    ]

pub promise_kept : (o : Owners) (n k stamp : ℕ) → IsSound o → IsPromise o n k stamp → IsSound (happens o (Promise n k stamp))
promise_kept o n k stamp h g =
    let s : StoreState = o.store in
    record {
      one = h.one;
      idle = h.idle;
      leading = h.leading;
      looks = h.looks;
      past = h.past;
      pending = h.pending;
      counted = h.counted;
      told = h.told;
      stamps = record {
        each = λ q. at_by (λ x. x ≤ max (s.deeds (slot_of q)).floor (s.gates (s.deeds (slot_of q)).lane).stamp) o.promised k (max (o.promised k) stamp) q
            (λ e. let P : ℕ → Type 0 = λ y. max (o.promised k) stamp ≤ max (s.deeds (slot_of y)).floor (s.gates (s.deeds (slot_of y)).lane).stamp in
            subst P (sym e) (omega (arith, h.stamps.each k, upto g)))
            (λ d. h.stamps.each q);
      };
      watched = λ w e. let was = h.watched w e in record {
        past = was.past;
        names = was.names;
        ended = was.ended;
        stamps = λ q slot. at_by (λ x. x ≤ max (s.deeds w.slot).floor w.stamp) o.promised k (max (o.promised k) stamp) q
            (λ f. let t : slot_of k ≡ w.slot = ap slot_of (sym f) ∙ slot in omega (arith, was.stamps k t, before w e t g))
            (λ d. was.stamps q slot);
      };
    }
  where
    upto : IsPromise o n k stamp → stamp ≤ max (o.promised k) (max (o.store.deeds (slot_of k)).floor (o.store.gates (o.store.deeds (slot_of k)).lane).stamp)
    upto (At_gate l looks slot unfenced le) =
        let held = (h.looks n).held l looks unfenced in
        omega (arith, le, ap (λ x. (o.store.deeds x).floor) slot ∙ held.floor, ap (λ x. (o.store.gates x).stamp) (ap (λ x. (o.store.deeds x).lane) slot ∙ held.names))
    upto (Again le) = omega (arith, le)

    before : (w : Watch) → o.watch ≡ Some w → slot_of k ≡ w.slot → IsPromise o n k stamp → stamp ≤ o.promised k
    before w e t (At_gate l looks slot unfenced le) = absurd (not_watched o n l w h looks unfenced e (sym slot ∙ t))
    before w e t (Again le) = le
