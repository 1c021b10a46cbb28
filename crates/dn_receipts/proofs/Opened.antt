use Rattle.std.proofs.Common.{ℕ, ◌/◌, ◌%◌, ◌^◌, ◌<◌, ◌≤◌, ◌≡◌, inl, Bool, true, false, nat_eq, if◌then◌else◌, List, [], Contains, refl, subst, arith}
use Rattle.std.proofs.lemmas.Bool.Decides.{nat_tests}
use Rattle.dn_word.specs.Deed.{state_of, deed_of}
use Rattle.dn_word.specs.declared.packed.deed.DeedState.TheVariants.{Nobody, Owned}
use Rattle.dn_hist.specs.declared.receipts.Receipt.{Receipt}
use Rattle.dn_model.specs.Register.{nothing, IsRegister}
use Rattle.dn_store.specs.Fresh.{IsFreshPool, first_deed}
use Rattle.dn_store.proofs.Frames.{none_of}
use Rattle.dn_store.proofs.Fresh.{fresh_represents}
use Rattle.dn_owners.specs.Sound.{IsSound}
use Rattle.dn_owners.specs.Fresh.{fresh_owners}
use Rattle.dn_owners.proofs.Ats.{none_some}
use Rattle.dn_beside.specs.Pool.{IsDeed, IsWhole}
use Rattle.dn_receipts.specs.Receipts.{AreReceipts}
use Rattle.dn_receipts.specs.Fresh.{fresh_pool}

-- The pool that an opening leaves is whole, and no call was made over it.

-- ---- a grant names its lane in epoch 1
its_lane : (m : ℕ) → m ≤ 63 → first_deed m / 2 ^ 31 % 2 ^ 8 ≡ m
its_lane m le = omega (arith, le)

its_epoch : (m : ℕ) → m ≤ 63 → first_deed m / 2 ^ 39 % 2 ^ 23 ≡ 1
its_epoch m le = omega (arith, le)

granted_by : (m : ℕ) (b : Bool) → nat_eq m 0 ≡ b → m ≤ 63 → IsDeed (deed_of (if b then 0 else first_deed m))
granted_by m true e le = record { names = λ d. absurd (d refl); granted = λ d. absurd (d refl) }
granted_by m false e le =
    let lane : first_deed m / 2 ^ 31 % 2 ^ 8 ≡ m = its_lane m le in
    let epoch : first_deed m / 2 ^ 39 % 2 ^ 23 ≡ 1 = its_epoch m le in
    let some : 0 < m = grind (arith, nat_tests) in
    record {
      names = λ d. record { positive = omega (arith, lane, some); below = omega (arith, lane, le) };
      granted = λ d. omega (arith, epoch);
    }

its_state : (m : ℕ) → m ≤ 63 → first_deed m / 2 ^ 62 ≡ 1
its_state m le = omega (arith, le)

idle_by : (m : ℕ) (b : Bool) → m ≤ 63 → (deed_of (if b then 0 else first_deed m)).state ≡ Nobody → (deed_of (if b then 0 else first_deed m)).lane ≡ 0
idle_by m true le e = refl
idle_by m false le e =
    let P : ℕ → Type 0 = λ x. state_of x ≡ Nobody in
    let owned : Owned ≡ Nobody = subst P (its_state m le) e in
    absurd (cc owned)

-- ---- nothing is sealed, known, watched or promised
fresh_sound : (words : List ℕ) (pool lanes : ℕ) (owners : ℕ → ℕ) → IsFreshPool words pool lanes owners → IsSound (fresh_owners pool lanes owners)
fresh_sound words pool lanes owners h = record {
  one = record { each = λ n k p c. absurd (none_of p c) };
  idle = record { slots = λ t lt. idle_by (owners t) (nat_eq (owners t) 0) (omega (arith, h.known t lt, h.few)); stamp = refl };
  leading = record { leads = λ k w e. absurd (none_some w e) };
  looks = λ n. record { held = λ l e. absurd (none_some l e); learnt = λ l e. absurd (none_some l e); running = λ l e. absurd (none_some l e) };
  past = λ n. record { each = λ t c e. absurd (none_some c e) };
  pending = λ n. record { keeps = λ runs. refl; low = λ runs. omega arith };
  counted = λ n. record { each = λ k p owns c. absurd (none_of p c) };
  told = λ n. record { each = λ k c r owns e. absurd (none_some c e) };
  stamps = record { each = λ k. omega arith };
  watched = λ w e. absurd (none_some w e);
}

pub fresh_whole : (words : List ℕ) (pool lanes : ℕ) (owners : ℕ → ℕ) → IsFreshPool words pool lanes owners → IsWhole (fresh_pool words pool lanes owners)
fresh_whole words pool lanes owners h = record {
  represents = fresh_represents words pool lanes owners h;
  sound = fresh_sound words pool lanes owners h;
  deeds = λ t lt. granted_by (owners t) (nat_eq (owners t) 0) refl (omega (arith, h.known t lt, h.few));
  plain = λ n r c. absurd (none_of r c);
}

-- ---- no receipts
no_receipt : (r : Receipt) → Contains [] r → ⊥
no_receipt r c = absurd (omega (arith, c.1))

pub empty_register : (bound : ℕ → ℕ) → IsRegister nothing bound []
empty_register bound = record {
  legal = record {
    replies = λ r c. absurd (no_receipt r c);
    first = λ r c. absurd (no_receipt r c);
    alone = λ r s c. absurd (no_receipt r c);
    behind = λ r s c. absurd (no_receipt r c);
  };
  stamps = λ r c. absurd (no_receipt r c);
  values = λ k. inl (record { none = λ r c w. no_receipt r c; is = refl });
}

pub no_receipts : (words : List ℕ) (pool lanes : ℕ) (owners : ℕ → ℕ) → AreReceipts (fresh_pool words pool lanes owners) []
no_receipts words pool lanes owners = record {
  held = nothing;
  there = λ k pos. refl;
  register = empty_register (λ k. 0);
  keyed = λ r c. absurd (no_receipt r c);
  recorded = λ r c. absurd (no_receipt r c);
}
