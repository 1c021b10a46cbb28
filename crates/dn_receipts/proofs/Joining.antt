use Rattle.std.proofs.Common.{ℕ, ◌<◌, ◌≤◌, ◌≡◌, ◌≢◌, inl, inr, true, false, List, [], ◌∷◌, ◌++◌, Option, Some, None, Contains, refl, sym, ◌∙◌, ap, subst, arith}
use Rattle.std.proofs.lemmas.Bool.{cases_eq}
use Rattle.std.proofs.lemmas.List.Elements.{Contains-push_cases}
use Rattle.dn_hist.specs.Calls.{IsWrite, key_of, found_of}
use Rattle.dn_hist.specs.declared.calls.Call.{Call}
use Rattle.dn_hist.specs.declared.calls.Call.TheVariants.{Get, Put, Delete}
use Rattle.dn_hist.specs.declared.calls.Reply.{Reply}
use Rattle.dn_hist.specs.declared.calls.Reply.TheVariants.{Stored, Deleted}
use Rattle.dn_hist.specs.declared.receipts.Receipt.{Receipt}
use Rattle.dn_model.specs.Held.{Says}
use Rattle.dn_model.specs.Register.{nothing, is_write, written_by, LeavesFrom, IsRightFrom}
use Rattle.dn_model.proofs.RegisterSteps.{register_same, register_read, register_write}
use Rattle.dn_store.specs.State.{with_at}
use Rattle.dn_store.specs.Holding.{holds}
use Rattle.dn_store.proofs.At.{at_same, at_other, at_by}
use Rattle.dn_beside.specs.Pool.{Pool, store_in}
use Rattle.dn_beside.specs.Grown.{Grows}
use Rattle.dn_beside.specs.Step.{IsQuiet}
use Rattle.dn_receipts.specs.Joined.{IsRead, IsWritten, IsEffect, IsJoined}
use Rattle.dn_receipts.specs.Receipts.{IsRecorded, AreReceipts}
use Rattle.dn_receipts.proofs.Spelled.{recorded_lasts}

-- What a step does to receipts.

-- ---- none joins
pub none_joins : (p q : Pool) (rs : List Receipt) → AreReceipts p rs → Grows p q → IsQuiet p q → AreReceipts q rs
none_joins p q rs h g still = record {
  held = h.held;
  there = λ k pos. still.held k (h.held k) pos (h.there k pos);
  register = register_same h.held h.held p.owners.promised q.owners.promised rs h.register (λ k. refl) (λ k. omega (arith, still.promised k));
  keyed = h.keyed;
  recorded = λ r c. recorded_lasts p q r g (h.recorded r c);
}

-- ---- one joins
-- promises rise
rises : (p q : Pool) (r : Receipt) → IsJoined p q r → (k : ℕ) → p.owners.promised k ≤ q.owners.promised k
rises p q r j k = elim (cases_eq k (key_of r.call)) [
  | inl s ↦ omega (arith, j.least, j.promised, ap p.owners.promised s, ap q.owners.promised s)
  | inr s ↦ omega (arith, j.elsewhere.promised k s)
]

-- what was known of the receipts is known with one more
all_keyed : (rs : List Receipt) (r : Receipt) → ((x : Receipt) → Contains rs x → key_of x.call ≢ 0) → key_of r.call ≢ 0 → (x : Receipt) → Contains (rs ++ r ∷ []) x → key_of x.call ≢ 0
all_keyed rs r h n x c = elim (Contains-push_cases rs r x c) [
  | inl i ↦ h x i
  | inr e ↦ (let P : Receipt → Type 0 = λ y. key_of y.call ≢ 0 in subst P e n)
]

all_recorded : (p q : Pool) (rs : List Receipt) (r : Receipt) → Grows p q → ((x : Receipt) → Contains rs x → IsRecorded p x) → IsRecorded q r → (x : Receipt) → Contains (rs ++ r ∷ []) x → IsRecorded q x
all_recorded p q rs r g h n x c = elim (Contains-push_cases rs r x c) [
  | inl i ↦ recorded_lasts p q x g (h x i)
  | inr e ↦ (let P : Receipt → Type 0 = λ y. IsRecorded q y in subst P e n)
]

-- a receipt with this call is a get's, and none of its own is a record
read_records : (q : Pool) (r : Receipt) (key : ℕ) → r.call ≡ Get key → IsRecorded q r
read_records q r key e w = let P : Call → Type 0 = λ c. IsWrite c in absurd (subst P e w)

right_read : (rs : List Receipt) (t key : ℕ) (v : Option (List ℕ)) (c : Call) (reply : Reply) → c ≡ Get key → LeavesFrom nothing rs key t v → reply ≡ found_of v → IsRightFrom nothing rs t c reply
right_read rs t key v c reply e l f = let P : Call → Type 0 = λ x. IsRightFrom nothing rs t x reply in subst P (sym e) (v, l, f)

read_joins : (p q : Pool) (rs : List Receipt) (r : Receipt) (key : ℕ) → r.call ≡ Get key → AreReceipts p rs → Grows p q → IsJoined p q r → IsRead p q r key → key_of r.call ≢ 0 → AreReceipts q (rs ++ r ∷ [])
read_joins p q rs r key e h g j read nonzero =
    let own : key_of r.call ≡ key = ap key_of e in
    let pos : 0 < key = omega (arith, nonzero, own) in
    let raised = register_same h.held h.held p.owners.promised q.owners.promised rs h.register (λ k. refl) (rises p q r j) in
    let top : q.owners.promised key ≡ r.position.stamp = ap q.owners.promised (sym own) ∙ j.promised in
    let leaves : LeavesFrom nothing rs key r.position.stamp (h.held key) = let P : ℕ → Type 0 = λ t. LeavesFrom nothing rs key t (h.held key) in subst P top (raised.values key) in
    let is_read : is_write r.call r.reply ≡ false = ap (λ c. is_write c r.reply) e in
    record {
      held = h.held;
      there = λ k some. elim (cases_eq k key) [
        | inl s ↦ (let P : ℕ → Type 0 = λ x. holds (store_in q) x ≡ Says (h.held x) in subst P (sym s) (read.held (h.held key) (h.there key pos)))
        | inr s ↦ j.elsewhere.held k (h.held k) some (λ x. s (x ∙ own)) (h.there k some)
      ];
      register = register_read h.held q.owners.promised rs r raised (record {
        read = is_read;
        old = omega (arith, j.promised);
        right = right_read rs r.position.stamp key (h.held key) r.call r.reply e leaves (read.right (h.held key) (h.there key pos));
        behind = λ x c k t w. elim read.behind [
          | inl lt ↦ absurd (omega (arith, h.register.stamps x c, ap p.owners.promised (k ∙ own), t, lt))
          | inr lt ↦ lt
        ];
      });
      keyed = all_keyed rs r h.keyed nonzero;
      recorded = all_recorded p q rs r g h.recorded (read_records q r key e);
    }

write_joins : (p q : Pool) (rs : List Receipt) (r : Receipt) (key : ℕ) (value : Option (List ℕ)) → key_of r.call ≡ key → is_write r.call r.reply ≡ true → written_by r.call ≡ value
    → IsRightFrom nothing rs r.position.stamp r.call r.reply → AreReceipts p rs → Grows p q → IsJoined p q r → IsWritten p q r key value → key_of r.call ≢ 0 → AreReceipts q (rs ++ r ∷ [])
write_joins p q rs r key value own write is right h g j w nonzero = record {
  held = with_at h.held key value;
  there = λ k some. at_by (λ v. holds (store_in q) k ≡ Says v) h.held key value k
      (λ s. ap (λ x. holds (store_in q) x) s ∙ w.held)
      (λ d. j.elsewhere.held k (h.held k) some (λ x. d (x ∙ own)) (h.there k some));
  register = register_write h.held (with_at h.held key value) p.owners.promised q.owners.promised rs r h.register (record {
    write = write;
    first = w.first;
    past = omega (arith, w.past, ap p.owners.promised own);
    right = right;
  }) j.promised (rises p q r j)
      (at_same h.held key value (key_of r.call) own ∙ sym is)
      (λ k d. at_other h.held key value k (λ s. d (s ∙ sym own)));
  keyed = all_keyed rs r h.keyed nonzero;
  recorded = all_recorded p q rs r g h.recorded (λ x. w.sealed);
}

right_put : (rs : List Receipt) (t key : ℕ) (value : List ℕ) (c : Call) (reply : Reply) → c ≡ Put key value → reply ≡ Stored → IsRightFrom nothing rs t c reply
right_put rs t key value c reply e f = let P : Call → Type 0 = λ x. IsRightFrom nothing rs t x reply in subst P (sym e) f

right_delete : (rs : List Receipt) (t key : ℕ) (c : Call) (reply : Reply) → c ≡ Delete key → reply ≡ Deleted → IsRightFrom nothing rs t c reply
right_delete rs t key c reply e f = let P : Call → Type 0 = λ x. IsRightFrom nothing rs t x reply in subst P (sym e) f

joins_by : (p q : Pool) (rs : List Receipt) (r : Receipt) (c : Call) → r.call ≡ c → IsEffect p q r c → AreReceipts p rs → Grows p q → IsJoined p q r → key_of r.call ≢ 0 → AreReceipts q (rs ++ r ∷ [])
joins_by p q rs r (Get key) e effect h g j n = read_joins p q rs r key e h g j effect n
joins_by p q rs r (Put key value) e effect h g j n =
    write_joins p q rs r key (Some value) (ap key_of e) (ap (λ x. is_write x r.reply) e) (ap written_by e) (right_put rs r.position.stamp key value r.call r.reply e effect.1) h g j effect.0 n
joins_by p q rs r (Delete key) e effect h g j n =
    write_joins p q rs r key None (ap key_of e) (ap (λ x. is_write x r.reply) e) (ap written_by e) (right_delete rs r.position.stamp key r.call r.reply e effect.1) h g j effect.0 n

pub one_joins : (p q : Pool) (rs : List Receipt) (r : Receipt) → AreReceipts p rs → Grows p q → IsJoined p q r → key_of r.call ≢ 0 → AreReceipts q (rs ++ r ∷ [])
one_joins p q rs r h g j n = joins_by p q rs r r.call refl j.effect h g j n

-- ---- a read may be left out: its stamp stays promised
pub read_passes : (p q : Pool) (rs : List Receipt) (r : Receipt) (key : ℕ) → r.call ≡ Get key → AreReceipts p rs → Grows p q → IsJoined p q r → key_of r.call ≢ 0 → AreReceipts q rs
read_passes p q rs r key e h g j nonzero =
    let own : key_of r.call ≡ key = ap key_of e in
    let read : IsRead p q r key = subst (IsEffect p q r) e j.effect in
    let pos : 0 < key = omega (arith, nonzero, own) in
    record {
      held = h.held;
      there = λ k some. elim (cases_eq k key) [
        | inl s ↦ (let P : ℕ → Type 0 = λ x. holds (store_in q) x ≡ Says (h.held x) in subst P (sym s) (read.held (h.held key) (h.there key pos)))
        | inr s ↦ j.elsewhere.held k (h.held k) some (λ x. s (x ∙ own)) (h.there k some)
      ];
      register = register_same h.held h.held p.owners.promised q.owners.promised rs h.register (λ k. refl) (rises p q r j);
      keyed = h.keyed;
      recorded = λ x c. recorded_lasts p q x g (h.recorded x c);
    }
