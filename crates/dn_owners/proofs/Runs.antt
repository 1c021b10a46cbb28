use Rattle.std.proofs.Common.{ℕ, ◌<◌, ◌≤◌, ◌≡◌, inl, inr, true, false, List, [], ◌∷◌, ◌++◌, Contains, Option, Some, None, refl, sym, ◌∙◌, ap, arith}
use Rattle.std.proofs.lemmas.Bool.{false≢true}
use Rattle.std.proofs.lemmas.Bool.Decides.{nat_tests}
use Rattle.dn_word.specs.Ref.{ref_of, ref_word}
use Rattle.dn_word.specs.Gate.{gate_of}
use Rattle.dn_word.specs.declared.packed.gate.Gate.{Gate}
use Rattle.dn_word.specs.declared.packed.deed.DeedState.TheVariants.{Nobody, Owned, Leaving, Released}
use Rattle.dn_record.specs.declared.records.Record.{Record}
use Rattle.dn_record.specs.declared.records.Record.TheVariants.{Put}
use Rattle.dn_model.specs.Regions.{slot_of}
use Rattle.dn_model.specs.declared.logs.Placed.{Placed}
use Rattle.dn_model.specs.Held.{Found, Says, is_authority, unmerged, record_at}
use Rattle.dn_store.specs.State.{with_at}
use Rattle.dn_store.specs.Holding.{owner_in, holds}
use Rattle.dn_store.proofs.At.{at_by}
use Rattle.dn_owners.specs.Known.{Owners}
use Rattle.dn_owners.specs.Sound.{IsOrdered, IsSound, Rise}
use Rattle.dn_owners.specs.Events.{Event, happens}
use Rattle.dn_owners.specs.Runs.{IsRun, after}
use Rattle.dn_owners.specs.Moving.{opened, first_put, putting, merging, leaving, released, its_gate, loading, granting, returning, moving}
use Rattle.dn_owners.specs.Given.{At_gate}
use Rattle.dn_owners.proofs.Ats.{at_three, none_some, same_some}
use Rattle.dn_owners.proofs.Last.{last_found}
use Rattle.dn_owners.proofs.Logs.{nil_has, head_has, cons_cases}
use Rattle.dn_owners.proofs.Tables.{kept}

-- A run keeps every part, and one that is done by hand.

pub run_sound : (o : Owners) (es : List Event) → IsRun o es → IsSound o → IsSound (after o es)
run_sound o [] r h = h
run_sound o (e ∷ es) r h = run_sound (happens o e) es r.2 (kept o e r.0 h r.1)

-- ---- the opening
not_nobody : Owned ≡ Nobody → ⊥
not_nobody e = absurd (cc e)

opened_sound : (pool : ℕ) → IsSound (opened pool)
opened_sound pool = record {
  one = record { each = λ n k p c le a. absurd (nil_has p c) };
  idle = record { slots = λ t lt e. absurd (not_nobody e); stamp = refl };
  leading = record { leads = λ k w e. absurd (none_some w e) };
  looks = λ n. record {
    held = λ l e f. absurd (none_some l e);
    learnt = λ l e. absurd (none_some l e);
    running = λ l e. absurd (none_some l e);
  };
  past = λ n. record { each = λ t c e. absurd (none_some c e) };
  pending = λ n. record { keeps = λ e. refl; low = λ e. omega arith };
  counted = λ n. record { each = λ k p o c le a. absurd (nil_has p c) };
  told = λ n. record { each = λ k c r o e f u. absurd (none_some c e) };
  stamps = record { each = λ k. omega arith };
  watched = λ w e. absurd (none_some w e);
}

-- ---- logs in order: none, one put, and that one merged
abbrev no_logs : ℕ → List Placed
no_logs n = []

abbrev no_gates : ℕ → Gate
no_gates n = gate_of 0

abbrev no_marks : ℕ → ℕ
no_marks n = 0

abbrev one_log : ℕ → List Placed
one_log = with_at no_logs 1 (first_put ∷ [])

abbrev new_gate : Gate
new_gate = record { fenced = false; stamp = 1; len = 3 }

abbrev one_gate : ℕ → Gate
one_gate = with_at no_gates 1 new_gate

empty_ordered : IsOrdered no_logs no_gates no_marks
empty_ordered = record { rise = λ n. tt; below = λ n p c. absurd (nil_has p c); merged = λ n. omega arith; nobody = refl }

rise_one : (n : ℕ) → Rise 0 (one_log n)
rise_one n = at_by (λ log. Rise 0 log) no_logs 1 (first_put ∷ []) n (λ e. (omega arith, tt)) (λ d. tt)

below_put : (p : Placed) → Contains (first_put ∷ []) p → p.offset < 3
below_put p c = elim (cons_cases first_put [] p c) [
  | inl e ↦ omega (arith, ap (λ (q : Placed). q.offset) e)
  | inr d ↦ absurd (nil_has p d)
]

below_one : (n : ℕ) → (p : Placed) → Contains (one_log n) p → p.offset < (one_gate n).len
below_one n = at_three (λ (log : List Placed) (g : Gate) (m : ℕ). (p : Placed) → Contains log p → p.offset < g.len) no_logs no_gates no_marks 1 (first_put ∷ []) new_gate 0 n
    (λ e. below_put) (λ d p c. absurd (nil_has p c))

sealed_ordered : IsOrdered one_log one_gate no_marks
sealed_ordered = record { rise = rise_one; below = below_one; merged = λ n. omega arith; nobody = refl }

merged_ordered : IsOrdered one_log one_gate (with_at no_marks 1 3)
merged_ordered = record {
  rise = rise_one;
  below = below_one;
  merged = λ n. at_three (λ (log : List Placed) (g : Gate) (m : ℕ). m ≤ g.len) no_logs no_gates no_marks 1 (first_put ∷ []) new_gate 3 n (λ e. omega arith) (λ d. omega arith);
  nobody = refl;
}

-- ---- what the premises ask
of_key : (k : ℕ) → is_authority k (Put 5 (97 ∷ [])) ≡ true → k ≡ 5
of_key k e = grind (arith, nat_tests)

own_key : (k : ℕ) (r : Record) → unmerged k 0 (first_put ∷ []) ≡ Some r → k ≡ 5
own_key k r e =
    let c = last_found k 0 (first_put ∷ []) r e in
    elim (cons_cases first_put [] c.of c.found.has) [
      | inl s ↦ of_key k (ap (λ (p : Placed). is_authority k p.entry) s ∙ c.found.authority)
      | inr d ↦ absurd (nil_has c.of d)
    ]

slot_is : (k : ℕ) → k ≡ 5 → slot_of k ≡ 3
slot_is k e = ap slot_of e

abbrev its_place : ℕ
its_place = ref_word (record { lane = 1; offset = 0 })

place_leads : (w : ℕ) → Some its_place ≡ Some w → record_at one_log (ref_of w) ≡ Some (Put 5 (97 ∷ []))
place_leads w e = ap (λ x. record_at one_log (ref_of x)) (sym (same_some its_place w e))

pub moving_given : (pool : ℕ) → IsRun (opened pool) moving
moving_given pool =
    -- the put
    (
      empty_ordered,
      (record { running = refl; state = refl; names = refl; epoch = refl; floor = refl }, λ h. none_some h.0 h.1),
      (
        empty_ordered,
        record {
          running = refl;
          exchange = record { lane = omega arith; unfenced = refl; stays = refl; stamp = omega arith };
          longer = omega arith;
          rise = (omega arith, tt);
          owned = λ k r e. (record { slot = 3; epoch = 1; floor = 0 }, refl, slot_is k (own_key k r e));
        },
        (
          sealed_ordered,
          At_gate (record { slot = 3; epoch = 1; floor = 0 }) refl (slot_is 5 refl) refl (omega arith),
          (
            sealed_ordered,
            tt,
            -- it is merged
            (
              sealed_ordered,
              record { has = head_has first_put []; unmerged = omega arith; authority = refl; leads = place_leads },
              (
                sealed_ordered,
                record {
                  before = [];
                  after = [];
                  log = refl;
                  at = refl;
                  past = omega arith;
                  rest = λ q c. absurd (nil_has q c);
                  followed = λ k e. inl (its_place, ap (λ x. with_at (λ q. None) 5 (Some its_place) x) (of_key k e), refl);
                },
                (
                  merged_ordered,
                  (omega arith, omega arith),
                  -- the slot moves
                  (
                    merged_ordered,
                    record { was = refl; is = refl; epoch = refl; lane = refl; floor = refl },
                    (
                      merged_ordered,
                      (record { was = refl; is = refl; epoch = refl; lane = refl; floor = refl }, refl),
                      (
                        merged_ordered,
                        record { past = inl refl; names = refl; len = refl; stamp = refl },
                        (
                          merged_ordered,
                          record {
                            watch = refl;
                            merged = omega arith;
                            new = record { epoch = omega arith; floor = omega arith; idle = λ e. absurd (not_nobody e) };
                            stamp = omega arith;
                          },
                          (
                            merged_ordered,
                            (record { running = refl; state = refl; names = refl; epoch = refl; floor = refl }, λ h. none_some h.0 h.1),
                            tt,
                          ),
                        ),
                      ),
                    ),
                  ),
                ),
              ),
            ),
          ),
        ),
      ),
    )

pub moving_sound : (pool : ℕ) → IsSound (after (opened pool) moving)
moving_sound pool = run_sound (opened pool) moving (moving_given pool) (opened_sound pool)

pub moving_owner : (pool : ℕ) → owner_in (after (opened pool) moving).store 5 ≡ 2
moving_owner pool = refl

pub moving_held : (pool : ℕ) → holds (after (opened pool) moving).store 5 ≡ Says (Some (97 ∷ []))
moving_held pool = refl

-- ---- with one thing left out
pub unmerged_wrong : (pool : ℕ) → IsSound (after (opened pool) (putting ++ leaving ++ released ++ loading ++ granting 2 1)) → ⊥
unmerged_wrong pool h =
    let e : 2 ≡ 1 = h.one.each 1 5 first_put (head_has first_put []) (omega arith) refl in
    omega (arith, e)

pub forgetful_wrong : (pool : ℕ) → IsSound (after (opened pool) (putting ++ merging ++ leaving ++ released ++ loading ++ granting 2 0)) → ⊥
forgetful_wrong pool h =
    let e : 1 ≤ 0 = h.stamps.each 5 in
    omega (arith, e)

not_released : Leaving ≡ Released → ⊥
not_released e = absurd (cc e)

pub early_wrong : (pool : ℕ) → IsSound (after (opened pool) (putting ++ merging ++ leaving ++ loading)) → ⊥
early_wrong pool h = elim ((h.watched its_gate refl).past) [ inl e ↦ not_released e | inr e ↦ false≢true e ]

not_other : (let x : Found (Option Record) = Says (Some (Put 5 (98 ∷ []))) in x) ≡ Says (Some (Put 5 (97 ∷ []))) → ⊥
not_other e = (let f : 98 ≡ 97 = ap byte e in omega (arith, f)) where
  byte : Found (Option Record) → ℕ
  byte (Says (Some (Put key (x ∷ xs)))) = x
  byte f = 0

not_none : (let x : Found (Option Record) = Says (Some (Put 5 (98 ∷ []))) in x) ≡ Says None → ⊥
not_none e = absurd (cc e)

-- lane 1 takes its first put, of which it has learnt the epoch, for the key's authority
pub same_epoch_wrong : (pool : ℕ) → IsSound (after (opened pool) (putting ++ merging ++ leaving ++ released ++ loading ++ granting 1 1 ++ returning 1)) → ⊥
same_epoch_wrong pool h = elim ((h.told 1).each 5 (record { epoch = 1; from = 0 }) (Put 5 (97 ∷ [])) (record { is_running = refl; unfenced = refl; names = refl }) refl refl refl) [
  | inl e ↦ not_other e
  | inr e ↦ not_none e.0
]
