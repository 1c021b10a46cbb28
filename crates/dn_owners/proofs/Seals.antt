use Rattle.std.proofs.Common.{ℕ, ◌+◌, ◌≤◌, ◌≡◌, ◌≢◌, ◌⊎◌, inl, inr, Bool, true, nat_le, cond, List, [], ◌∷◌, ◌++◌, append_assoc, Contains, Option, Some, None, refl, sym, ◌∙◌, ap, subst, arith}
use Rattle.std.proofs.lemmas.Bool.Decides.{nat_tests}
use Rattle.std.proofs.lemmas.List.Elements.{Contains-append_cases, filter-append}
use Rattle.std.specs.List.{filter}
use Rattle.dn_word.specs.Ref.{ref_of}
use Rattle.dn_word.specs.declared.packed.place.Ref.{Ref}
use Rattle.dn_word.specs.declared.packed.gate.Gate.{Gate}
use Rattle.dn_record.specs.declared.records.Record.{Record}
use Rattle.dn_model.specs.Regions.{slot_of}
use Rattle.dn_model.specs.declared.logs.Placed.{Placed}
use Rattle.dn_model.specs.Held.{Found, Says, unmerged, record_at, entry_at, authority_by, led_to}
use Rattle.dn_store.specs.State.{StoreState, with_at}
use Rattle.dn_store.specs.Changes.{sealed}
use Rattle.dn_store.specs.Holding.{owner_in, waiting, authority_in}
use Rattle.dn_store.proofs.At.{at_by}
use Rattle.dn_owners.specs.Counting.{pending_of, pending_in, pending_from}
use Rattle.dn_owners.specs.Known.{Knows, Owners}
use Rattle.dn_owners.specs.Sound.{Rise, IsOrdered, IsLooking, IsPast, IsPending, IsCounted, IsTold, Agrees, Owns, IsSound}
use Rattle.dn_owners.specs.Events.{Seal, happens}
use Rattle.dn_owners.specs.Given.{IsSealing}
use Rattle.dn_owners.specs.Later.{IsRisen}
use Rattle.dn_owners.proofs.Ats.{at_three, same_some, none_some, none_or_some}
use Rattle.dn_owners.proofs.Logs.{rise_from}
use Rattle.dn_owners.proofs.Last.{found_last, or_before, last_more, entry_more}
use Rattle.dn_owners.proofs.Grown.{risen_at, exchanged, looking_risen, past_risen}
use Rattle.dn_owners.proofs.Gates.{bit_stays, stamps_risen, no_stamp}
use Rattle.dn_owners.proofs.Looks.{not_watched}

-- Records are sealed.

-- ---- a record stays where it is
pub record_more : (logs : ℕ → List Placed) (n : ℕ) (more : List Placed) (at : Option Ref) (r : Record) → record_at logs at ≡ Some r → record_at (with_at logs n (logs n ++ more)) at ≡ Some r
record_more logs n more None r e = absurd (none_some r e)
record_more logs n more (Some at) r e = at_by (λ x. entry_at at.offset x ≡ Some r) logs n (logs n ++ more) at.lane
    (λ f. entry_more at.offset (logs n) more r (ap (λ m. entry_at at.offset (logs m)) (sym f) ∙ e)) (λ d. e)

record IsAtBoth (logs now : ℕ → List Placed) (at : Option Ref) : Type 0 where
  entry : Record
  was : record_at logs at ≡ Some entry
  is : record_at now at ≡ Some entry

by_index : (logs now : ℕ → List Placed) (k : ℕ) (u : Option Record) (place : Option ℕ) → ((w : ℕ) → place ≡ Some w → IsAtBoth logs now (ref_of w)) → authority_by now k u place ≡ authority_by logs k u place
by_index logs now k None None h = refl
by_index logs now k None (Some w) h = let both = h w refl in ap (led_to k) (both.is ∙ sym both.was)
by_index logs now k (Some r) place h = refl

-- ---- each key that they change is the lane's
pub record IsOwnSeal (o : Owners) (n : ℕ) (more : List Placed) : Type 0 where
  pub sound : IsSound o
  pub ordered : IsOrdered o.store.logs o.store.gates o.store.marks
  pub owner : (k : ℕ) (r : Record) → unmerged k 0 more ≡ Some r → owner_in o.store k ≡ n
  pub rise : Rise (o.store.gates n).len more

pub own_seal : (o : Owners) (n : ℕ) (gate : Gate) (more : List Placed) → IsOrdered o.store.logs o.store.gates o.store.marks → IsSound o → IsSealing o n gate more → IsOwnSeal o n more
own_seal o n gate more i h g = record {
  sound = h;
  ordered = i;
  owner = λ k r u. let l = g.owned k r u in ap (λ x. (o.store.deeds x).lane) l.2 ∙ ((h.looks n).held l.0 l.1 g.exchange.unfenced).names;
  rise = g.rise;
}

pub not_others : (o : Owners) (n k : ℕ) (more : List Placed) → IsOwnSeal o n more → owner_in o.store k ≢ n → unmerged k 0 more ≡ None
not_others o n k more z d = elim (none_or_some (unmerged k 0 more)) [ inl e ↦ e | inr s ↦ absurd (d (z.owner k s.0 s.1)) ]

-- what waits then, and the authority
sealed_waits : (o : Owners) (n k : ℕ) (gate : Gate) (more : List Placed) → IsOwnSeal o n more
    → waiting (sealed o.store n gate more) (owner_in o.store k) k ≡ or_before (unmerged k 0 more) (waiting o.store (owner_in o.store k) k)
sealed_waits o n k gate more z =
    let s : StoreState = o.store in
    let m : ℕ = owner_in s k in
    at_by (λ x. unmerged k (s.marks m) x ≡ or_before (unmerged k 0 more) (unmerged k (s.marks m) (s.logs m))) s.logs n (s.logs n ++ more) m
    (λ e. let P : ℕ → Type 0 = λ y. unmerged k (s.marks y) (s.logs n ++ more) ≡ or_before (unmerged k 0 more) (unmerged k (s.marks y) (s.logs y)) in
    subst P (sym e) (last_more k (s.marks n) (s.gates n).len (s.logs n) more z.rise (z.ordered.merged n)))
    (λ d. sym (ap (λ x. or_before x (unmerged k (s.marks m) (s.logs m))) (not_others o n k more z d)))

pub authority_new : (o : Owners) (n k : ℕ) (gate : Gate) (more : List Placed) (r : Record) → IsOwnSeal o n more → unmerged k 0 more ≡ Some r → authority_in (sealed o.store n gate more) k ≡ Says (Some r)
authority_new o n k gate more r z e = ap (λ x. authority_by (sealed o.store n gate more).logs k x (o.store.index k))
    (sealed_waits o n k gate more z ∙ ap (λ x. or_before x (waiting o.store (owner_in o.store k) k)) e)

pub authority_old : (o : Owners) (n k : ℕ) (gate : Gate) (more : List Placed) → IsOwnSeal o n more → unmerged k 0 more ≡ None → authority_in (sealed o.store n gate more) k ≡ authority_in o.store k
authority_old o n k gate more z e =
    let s : StoreState = o.store in
    let now : ℕ → List Placed = (sealed s n gate more).logs in
    ap (λ x. authority_by now k x (s.index k)) (sealed_waits o n k gate more z ∙ ap (λ x. or_before x (waiting s (owner_in s k) k)) e)
    ∙ by_index s.logs now k (waiting s (owner_in s k) k) (s.index k)
    (λ w f. let was = z.sound.leading.leads k w f in record { entry = was.0; was = was.1; is = record_more s.logs n more (ref_of w) was.0 was.1 })

-- ---- what is pending then
pending_append : (xs ys : List Placed) → pending_in (xs ++ ys) ≡ pending_in xs ++ pending_in ys
pending_append [] ys = refl
pending_append (p ∷ ps) ys =
    let rest = pending_append ps ys in
    ap (λ x. pending_of p.offset p.entry ++ x) rest ∙ sym (append_assoc (pending_of p.offset p.entry) (pending_in ps) (pending_in ys))

all_past : (a b : ℕ) (more : List Placed) → Rise b more → a ≤ b → filter (λ (p : Placed). nat_le a p.offset) more ≡ more
all_past a b [] r le = refl
all_past a b (p ∷ ps) r le =
    let low : a ≤ p.offset = omega (arith, r.0, le) in
    let t : nat_le a p.offset ≡ true = grind (arith, nat_tests) in
    ap (λ c. cond c (p ∷ filter (λ (q : Placed). nat_le a q.offset) ps) (filter (λ (q : Placed). nat_le a q.offset) ps)) t ∙ ap (λ xs. p ∷ xs) (all_past a (p.offset + 1) ps r.1 (omega (arith, low)))

pending_more : (a b : ℕ) (log more : List Placed) → Rise b more → a ≤ b → pending_from a log ++ pending_in more ≡ pending_from a (log ++ more)
pending_more a b log more r le =
    let t : Placed → Bool = λ p. nat_le a p.offset in
    sym (ap pending_in (filter-append t log more) ∙ pending_append (filter t log) (filter t more) ∙ ap (λ xs. pending_from a log ++ pending_in xs) (all_past a b more r le))

-- ---- what the lane that seals knows
record IsInformedBy (o : Owners) (n : ℕ) (gate : Gate) (more : List Placed) (m : ℕ) (v : Knows) (log : List Placed) (now : Gate) : Type 0 where
  looks : IsLooking o.store.deeds now m v
  past : IsPast o.store.deeds now v
  pending : IsPending log (o.store.marks m) v
  counted : IsCounted log now (o.store.marks m) o.store.deeds m v
  told : IsTold log now o.store.deeds (authority_in (sealed o.store n gate more)) m v

abbrev pub knows_sealed : Owners → ℕ → List Placed → Knows
knows_sealed o n more = record (o.knows n) { pending = (o.knows n).pending ++ pending_in more }

owns_old : (o : Owners) (n : ℕ) (gate : Gate) (more : List Placed) (k m : ℕ) → IsSealing o n gate more → Owns (o.knows n).running gate (o.store.deeds (slot_of k)) m → m ≡ n
    → Owns (o.knows n).running (o.store.gates n) (o.store.deeds (slot_of k)) n
owns_old o n gate more k m g w e = record { is_running = w.is_running; unfenced = g.exchange.unfenced; names = w.names ∙ e }

sealing_informed : (o : Owners) (n : ℕ) (gate : Gate) (more : List Placed) → IsOwnSeal o n more → IsSealing o n gate more
    → IsInformedBy o n gate more n (knows_sealed o n more) (o.store.logs n ++ more) gate
sealing_informed o n gate more z g =
    let s : StoreState = o.store in
    let h = z.sound in
    let r : IsRisen (s.gates n) gate = exchanged (s.gates n) gate n g.exchange g.longer in
    let was = h.looks n in
    record {
      looks = looking_risen s.deeds (s.gates n) gate n (knows_sealed o n more) r (record { held = was.held; learnt = was.learnt; running = was.running });
      past = past_risen s.deeds (s.gates n) gate (knows_sealed o n more) r (record { each = (h.past n).each });
      pending = record {
        keeps = λ e. ap (λ x. x ++ pending_in more) ((h.pending n).keeps e) ∙ pending_more (o.knows n).dropped (s.gates n).len (s.logs n) more g.rise (omega (arith, (h.pending n).low e, z.ordered.merged n));
        low = (h.pending n).low;
      };
      counted = record {
        each = λ k p w c le a. elim (Contains-append_cases (s.logs n) more p c) [
          | inl b ↦ (h.counted n).each k p (owns_old o n gate more k n g w refl) b le a
          | inr b ↦ (
              let x = found_last k 0 more p (record { has = b; from = omega arith; authority = a }) in
              let l = g.owned k x.0 x.1 in
              let held = was.held l.0 l.1 g.exchange.unfenced in
              let known = was.learnt l.0 l.1 in
              record {
                of = known.of;
                is = ap (o.knows n).learnt l.2 ∙ known.is;
                same = known.same ∙ sym held.epoch ∙ ap (λ y. (s.deeds y).epoch) (sym l.2);
                before = omega (arith, known.before, rise_from (s.gates n).len more p g.rise b);
              })
        ];
      };
      told = record {
        each = λ k c q w f e u.
            let low : c.from ≤ (s.gates n).len = ((h.past n).each (slot_of k) c f).1 in
            let split : unmerged k c.from (s.logs n ++ more) ≡ or_before (unmerged k 0 more) (unmerged k c.from (s.logs n)) = last_more k c.from (s.gates n).len (s.logs n) more g.rise low in
            elim (none_or_some (unmerged k 0 more)) [
              | inr b ↦ (
                  let same : b.0 ≡ q = same_some b.0 q (sym (split ∙ ap (λ x. or_before x (unmerged k c.from (s.logs n))) b.1) ∙ u) in
                  inl (authority_new o n k gate more b.0 z b.1 ∙ ap (λ x. Says (Some x)) same))
              | inl b ↦ (
                  let P : Found (Option Record) → Type 0 = λ x. Agrees x k q in
                  subst P (sym (authority_old o n k gate more z b))
                  ((h.told n).each k c q (owns_old o n gate more k n g w refl) f e (sym (split ∙ ap (λ x. or_before x (unmerged k c.from (s.logs n))) b) ∙ u)))
            ];
      };
    }

-- and another lane
other_informed : (o : Owners) (n : ℕ) (gate : Gate) (more : List Placed) (m : ℕ) → IsOwnSeal o n more → m ≢ n → IsInformedBy o n gate more m (o.knows m) (o.store.logs m) (o.store.gates m)
other_informed o n gate more m z d =
    let h = z.sound in
    record {
      looks = h.looks m;
      past = h.past m;
      pending = h.pending m;
      counted = h.counted m;
      told = record {
        each = λ k c q w f e u. let P : Found (Option Record) → Type 0 = λ x. Agrees x k q in
            subst P (sym (authority_old o n k gate more z (not_others o n k more z (λ x. d (sym w.names ∙ x))))) ((h.told m).each k c q w f e u);
      };
    }

-- ---- a seal
pub seal_kept : (o : Owners) (n : ℕ) (gate : Gate) (more : List Placed) → IsOrdered o.store.logs o.store.gates o.store.marks → IsSound o → IsSealing o n gate more → IsSound (happens o (Seal n gate more))
seal_kept o n gate more i h g =
    let s : StoreState = o.store in
    let z : IsOwnSeal o n more = own_seal o n gate more i h g in
    let now : StoreState = sealed s n gate more in
    let log : List Placed = s.logs n ++ more in
    let v : Knows = knows_sealed o n more in
    let risen : (m : ℕ) → IsRisen (s.gates m) (now.gates m) = risen_at s.gates n gate (exchanged (s.gates n) gate n g.exchange g.longer) in
    let old : (m : ℕ) (p : Placed) → Contains (now.logs m) p → Contains (s.logs m) p ⊎ ((m ≡ n) × Contains more p)
    = λ m p. at_by (λ x. Contains x p → Contains (s.logs m) p ⊎ ((m ≡ n) × Contains more p)) s.logs n log m
    (λ e c. elim (Contains-append_cases (s.logs n) more p c) [
      | inl a ↦ (let P : ℕ → Type 0 = λ x. Contains (s.logs x) p in inl (subst P (sym e) a))
      | inr b ↦ inr (e, b)
    ])
    (λ d c. inl c) in
    let each : (m : ℕ) → IsInformedBy o n gate more m (with_at o.knows n v m) (with_at s.logs n log m) (with_at s.gates n gate m)
    = λ m. at_three (IsInformedBy o n gate more m) o.knows s.logs s.gates n v log gate m
    (λ e. let P : ℕ → Type 0 = λ x. IsInformedBy o n gate more x v log gate in subst P (sym e) (sealing_informed o n gate more z g))
    (λ d. other_informed o n gate more m z d) in
    record {
      one = record {
        each = λ m k p c le a. elim (old m p c) [
          | inl b ↦ h.one.each m k p b le a
          | inr b ↦ (let x = found_last k 0 more p (record { has = b.1; from = omega arith; authority = a }) in z.owner k x.0 x.1 ∙ sym b.0)
        ];
      };
      idle = record { slots = h.idle.slots; stamp = no_stamp s.gates n gate (λ e. absurd (omega (arith, e, g.exchange.lane))) h.idle.stamp };
      leading = record { leads = λ k w e. let was = h.leading.leads k w e in (was.0, record_more s.logs n more (ref_of w) was.0 was.1, was.2) };
      looks = λ m. (each m).looks;
      past = λ m. (each m).past;
      pending = λ m. (each m).pending;
      counted = λ m. (each m).counted;
      told = λ m. (each m).told;
      stamps = stamps_risen s.deeds s.gates now.gates o.promised risen h.stamps;
      watched = λ w e. let was = h.watched w e in record {
        past = elim was.past [ inl x ↦ inl x | inr b ↦ inr (bit_stays (s.gates w.lane).fenced (now.gates w.lane).fenced (risen w.lane).clear b) ];
        names = was.names;
        ended = λ k p c a t. elim (old w.lane p c) [
          | inl b ↦ was.ended k p b a t
          | inr b ↦ (
              let x = found_last k 0 more p (record { has = b.1; from = omega arith; authority = a }) in
              let l = g.owned k x.0 x.1 in
              absurd (not_watched o n l.0 w h l.1 g.exchange.unfenced e (sym l.2 ∙ t)))
        ];
        stamps = was.stamps;
      };
    }
