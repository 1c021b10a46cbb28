use Rattle.std.proofs.Common.{ℕ, ◌≤◌, ◌≡◌, ◌≢◌, inl, inr, true, false, List, Contains, Option, Some, None, sym, ◌∙◌, ap, subst, arith}
use Rattle.std.proofs.lemmas.Bool.{cases_eq}
use Rattle.dn_word.specs.declared.packed.deed.Deed.{Deed}
use Rattle.dn_word.specs.declared.packed.deed.DeedState.TheVariants.{Nobody}
use Rattle.dn_record.specs.declared.records.Record.{Record}
use Rattle.dn_model.specs.Regions.{slot_of}
use Rattle.dn_model.specs.declared.logs.Placed.{Placed}
use Rattle.dn_model.specs.Held.{Found, is_authority}
use Rattle.dn_store.specs.State.{StoreState, with_at}
use Rattle.dn_store.specs.Changes.{deeded}
use Rattle.dn_store.specs.Holding.{waiting, authority_in}
use Rattle.dn_store.proofs.At.{at_same, at_other, at_by}
use Rattle.dn_owners.specs.Known.{Look, Watch, Owners}
use Rattle.dn_owners.specs.Sound.{IsOrdered, IsLive, IsHeld, Agrees, Owns, IsSound}
use Rattle.dn_owners.specs.Events.{Grant, Adopt, happens}
use Rattle.dn_owners.specs.Given.{IsNewDeed, IsGrant, IsAdoption}
use Rattle.dn_owners.proofs.Ats.{none_some}
use Rattle.dn_owners.proofs.Logs.{nil_has}
use Rattle.dn_owners.proofs.Last.{found_none}
use Rattle.dn_owners.proofs.Moves.{authority_deeds, authority_granted}
use Rattle.dn_owners.proofs.Deeds.{bound_same}
use Rattle.dn_owners.proofs.Looks.{not_watched}

-- A slot is granted by a deed of a later epoch.

-- what has to be so of the slot: nothing of it waits in any log, no lane that may still seal has looked at it, and the new deed's floor
-- is at least what was promised
pub record IsGrantable (o : Owners) (t : ℕ) (d : Deed) : Type 0 where
  pub new : IsNewDeed (o.store.deeds t) d
  pub unwaiting : (n k : ℕ) (p : Placed) → slot_of k ≡ t → Contains (o.store.logs n) p → o.store.marks n ≤ p.offset → is_authority k p.entry ≡ true → ⊥
  pub unlooked : (n : ℕ) (l : Look) → (o.knows n).look ≡ Some l → (o.store.gates n).fenced ≡ false → l.slot ≡ t → ⊥
  pub floor : (k : ℕ) → slot_of k ≡ t → o.promised k ≤ d.floor

-- ---- past Released or the bit, and with the log merged
pub watched_grant : (o : Owners) (w : Watch) (d : Deed) → IsSound o → IsGrant o w d → IsGrantable o w.slot d
watched_grant o w d h g =
    let was = h.watched w g.watch in
    record {
      new = g.new;
      unwaiting = λ n k p t c le a.
          let lane : n ≡ w.lane = sym (h.one.each n k p c le a) ∙ ap (λ x. (o.store.deeds x).lane) t ∙ was.names in
          let P : ℕ → Type 0 = λ x. Contains (o.store.logs x) p in
          absurd (omega (arith, was.ended k p (subst P lane c) a t, g.merged, le, ap o.store.marks lane));
      unlooked = λ n l q b t. not_watched o n l w h q b g.watch t;
      floor = λ k t. omega (arith, was.stamps k t, g.new.floor, g.stamp);
    }

-- ---- or of nobody
nobody_live : (d : Deed) → d.state ≡ Nobody → IsLive d → ⊥
nobody_live d e x = elim x [ inl f ↦ cc | inr f ↦ cc ]

pub idle_grant : (o : Owners) (t : ℕ) (d : Deed) → IsOrdered o.store.logs o.store.gates o.store.marks → IsSound o → IsAdoption o t d → IsGrantable o t d
idle_grant o t d i h g =
    let none : (o.store.deeds t).lane ≡ 0 = h.idle.slots t g.slot g.was in
    record {
      new = g.new;
      unwaiting = λ n k p e c le a.
          let lane : n ≡ 0 = sym (h.one.each n k p c le a) ∙ ap (λ x. (o.store.deeds x).lane) e ∙ none in
          let P : ℕ → Type 0 = λ x. Contains (o.store.logs x) p in
          let Q : List Placed → Type 0 = λ x. Contains x p in
          absurd (nil_has p (subst Q i.nobody (subst P lane c)));
      unlooked = λ n l q b e. nobody_live (o.store.deeds l.slot) (ap (λ x. (o.store.deeds x).state) e ∙ g.was) ((h.looks n).held l q b).live;
      floor = λ k e. omega (
        arith,
        h.stamps.each k,
        ap (λ x. (o.store.deeds x).floor) e,
        g.new.floor,
        h.idle.stamp,
        ap (λ x. (o.store.gates x).stamp) (ap (λ x. (o.store.deeds x).lane) e ∙ none),
      );
    }

-- ---- no authority changes: nothing of the slot waits with the old owner or the new one
grant_waits : (o : Owners) (t : ℕ) (d : Deed) (k n : ℕ) → IsGrantable o t d → slot_of k ≡ t → waiting o.store n k ≡ None
grant_waits o t d k n g e = found_none k (o.store.marks n) (o.store.logs n) (λ p f. g.unwaiting n k p e f.has f.from f.authority)

pub grant_authority : (o : Owners) (t : ℕ) (d : Deed) (k : ℕ) → IsGrantable o t d → authority_in (deeded o.store t d) k ≡ authority_in o.store k
grant_authority o t d k g =
    let s : StoreState = o.store in
    elim (cases_eq (slot_of k) t) [
      | inl e ↦ authority_granted s (with_at s.deeds t d) k (λ n. grant_waits o t d k n g e)
      | inr ne ↦ authority_deeds s (with_at s.deeds t d) k (ap (λ (x : Deed). x.lane) (at_other s.deeds t d (slot_of k) ne))
    ]

pub granted_kept : (o : Owners) (t : ℕ) (d : Deed) → IsSound o → IsGrantable o t d → IsSound (record o { store = deeded o.store t d; watch = None })
granted_kept o t d h g =
    let s : StoreState = o.store in
    let deeds : ℕ → Deed = with_at s.deeds t d in
    let now : StoreState = deeded s t d in
    let other : (u : ℕ) → u ≢ t → deeds u ≡ s.deeds u = λ u ne. at_other s.deeds t d u ne in
    let here : (u : ℕ) → u ≡ t → deeds u ≡ d = λ u e. at_same s.deeds t d u e in
    let owns : (n k : ℕ) → slot_of k ≢ t → Owns (o.knows n).running (s.gates n) (deeds (slot_of k)) n → Owns (o.knows n).running (s.gates n) (s.deeds (slot_of k)) n
    = λ n k ne w. record { is_running = w.is_running; unfenced = w.unfenced; names = ap (λ (x : Deed). x.lane) (sym (other (slot_of k) ne)) ∙ w.names } in
    record {
      one = record {
        each = λ n k p c le a. at_by (λ (x : Deed). x.lane ≡ n) s.deeds t d (slot_of k) (λ e. absurd (g.unwaiting n k p e c le a)) (λ ne. h.one.each n k p c le a);
      };
      idle = record {
        slots = λ u lt. at_by (λ (x : Deed). x.state ≡ Nobody → x.lane ≡ 0) s.deeds t d u (λ e. g.new.idle) (λ ne. h.idle.slots u lt);
        stamp = h.idle.stamp;
      };
      leading = h.leading;
      looks = λ n. record {
        held = λ l q b. at_by (λ (x : Deed). IsHeld x n l) s.deeds t d l.slot (λ e. absurd (g.unlooked n l q b e)) (λ ne. (h.looks n).held l q b);
        learnt = (h.looks n).learnt;
        running = (h.looks n).running;
      };
      past = λ n. record {
        each = λ u c q. let was = (h.past n).each u c q in at_by (λ (x : Deed). (c.epoch ≤ x.epoch) × (c.from ≤ (s.gates n).len)) s.deeds t d u
            (λ e. (omega (arith, was.0, g.new.epoch, ap (λ x. (s.deeds x).epoch) e), was.1)) (λ ne. was);
      };
      pending = h.pending;
      counted = λ n. record {
        each = λ k p w c le a. elim (cases_eq (slot_of k) t) [
          | inl e ↦ absurd (g.unwaiting n k p e c le a)
          | inr ne ↦ (
              let was = (h.counted n).each k p (owns n k ne w) c le a in
              record { of = was.of; is = was.is; same = was.same ∙ ap (λ (x : Deed). x.epoch) (sym (other (slot_of k) ne)); before = was.before })
        ];
      };
      told = λ n. record {
        each = λ k c r w q e u. elim (cases_eq (slot_of k) t) [
          | inl f ↦ absurd (omega (arith, ((h.past n).each (slot_of k) c q).0, e, ap (λ (x : Deed). x.epoch) (here (slot_of k) f), g.new.epoch, ap (λ x. (s.deeds x).epoch) f))
          | inr ne ↦ (
              let P : Found (Option Record) → Type 0 = λ x. Agrees x k r in
              subst P (sym (grant_authority o t d k g)) ((h.told n).each k c r (owns n k ne w) q (e ∙ ap (λ (x : Deed). x.epoch) (other (slot_of k) ne)) u))
        ];
      };
      stamps = record {
        each = λ k. elim (cases_eq (slot_of k) t) [
          | inl e ↦ omega (arith, g.floor k e, ap (λ (x : Deed). x.floor) (here (slot_of k) e))
          | inr ne ↦ omega (
            arith,
            h.stamps.each k,
            bound_same s.deeds deeds s.gates k (ap (λ (x : Deed). x.lane) (other (slot_of k) ne)) (ap (λ (x : Deed). x.floor) (other (slot_of k) ne)),
          )
        ];
      };
      watched = λ v e. absurd (none_some v e);
    }

pub grant_kept : (o : Owners) (w : Watch) (d : Deed) → IsSound o → IsGrant o w d → IsSound (happens o (Grant w d))
grant_kept o w d h g = granted_kept o w.slot d h (watched_grant o w d h g)

pub adopt_kept : (o : Owners) (t : ℕ) (d : Deed) → IsOrdered o.store.logs o.store.gates o.store.marks → IsSound o → IsAdoption o t d → IsSound (happens o (Adopt t d))
adopt_kept o t d i h g = granted_kept o t d h (idle_grant o t d i h g)
