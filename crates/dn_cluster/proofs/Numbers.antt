use Rattle.std.proofs.Common.{ℕ, zero, suc, ◌+◌, ◌-◌, ◌<◌, ◌≤◌, ◌≡◌, ◌≢◌, inl, inr, Bool, true, false, List, [], ◌∷◌, ◌++◌, Option, Some, None, length, slice_get, slice_set, nat_lt, if◌then◌else◌, refl, sym, ◌∙◌, ap, subst, arith}
use Rattle.std.proofs.lemmas.Bool.{cases_eq, false≢true}
use Rattle.std.proofs.lemmas.Bool.Decides.{nat_tests}
use Rattle.std.proofs.lemmas.Option.{none-some, same_Some, slice_get_within}
use Rattle.dn_store.specs.State.{with_at}
use Rattle.dn_store.proofs.At.{at_same, at_other}
use Rattle.dn_cluster.specs.State.{numbered}

-- Lists whose members have the numbers from 1 on.

-- ---- a list in which one member is another, or there is one more
get_set_same : {A : Type 0} (xs : List A) (i : ℕ) (v : A) → i < length xs → slice_get (slice_set xs i v) i ≡ Some v
get_set_same [] i v h = absurd (omega (arith, h))
get_set_same (x ∷ xs) zero v h = refl
get_set_same (x ∷ xs) (suc i) v h = get_set_same xs i v (omega (arith, h))

get_set_other : {A : Type 0} (xs : List A) (i k : ℕ) (v : A) → k ≢ i → slice_get (slice_set xs i v) k ≡ slice_get xs k
get_set_other [] i k v d = refl
get_set_other (x ∷ xs) zero zero v d = absurd (d refl)
get_set_other (x ∷ xs) zero (suc k) v d = refl
get_set_other (x ∷ xs) (suc i) zero v d = refl
get_set_other (x ∷ xs) (suc i) (suc k) v d = get_set_other xs i k v (λ e. d (ap suc e))

get_push_same : {A : Type 0} (xs : List A) (v : A) → slice_get (xs ++ v ∷ []) (length xs) ≡ Some v
get_push_same [] v = refl
get_push_same (x ∷ xs) v = get_push_same xs v

get_push_other : {A : Type 0} (xs : List A) (k : ℕ) (v : A) → k ≢ length xs → slice_get (xs ++ v ∷ []) k ≡ slice_get xs k
get_push_other [] zero v d = absurd (d refl)
get_push_other [] (suc k) v d = refl
get_push_other (x ∷ xs) zero v d = refl
get_push_other (x ∷ xs) (suc k) v d = get_push_other xs k v (λ e. d (ap suc e))

-- ---- by numbers
chosen : {A : Type 0} (u v : A) (b : Bool) → b ≡ true → (if b then u else v) ≡ u
chosen u v true e = refl
chosen u v false e = absurd (false≢true e)

pub numbered_is : {A : Type 0} (xs : List A) (at n : ℕ) → at + 1 ≡ n → numbered xs n ≡ slice_get xs at
numbered_is xs at n e =
    let behind : n - 1 ≡ at = omega (arith, e) in
    chosen (slice_get xs (n - 1)) None (nat_lt 0 n) (let pos : 0 < n = omega (arith, e) in grind (arith, nat_tests)) ∙ ap (slice_get xs) behind

pub numbered_some : {A : Type 0} (xs : List A) (n : ℕ) (x : A) → numbered xs n ≡ Some x → (1 ≤ n) × (slice_get xs (n - 1) ≡ Some x)
numbered_some xs zero x e = absurd (none-some x e)
numbered_some xs (suc k) x e = (omega arith, sym (numbered_is xs (suc k - 1) (suc k) (omega arith)) ∙ e)

-- other numbers name what they named, if all other places do
numbered_like : {A : Type 0} (xs ys : List A) (at k : ℕ) → ((i : ℕ) → i ≢ at → slice_get ys i ≡ slice_get xs i) → k ≢ at + 1 → numbered ys k ≡ numbered xs k
numbered_like xs ys at zero like d = refl
numbered_like xs ys at (suc k) like d =
    numbered_is ys k (suc k) (omega arith) ∙ like k (λ e. d (omega (arith, e))) ∙ sym (numbered_is xs k (suc k) (omega arith))

view_like : {A B : Type 0} (f : ℕ → Option A → B) (xs ys : List A) (at n : ℕ) (v : A) → at + 1 ≡ n → slice_get ys at ≡ Some v → ((i : ℕ) → i ≢ at → slice_get ys i ≡ slice_get xs i)
    → (k : ℕ) → f k (numbered ys k) ≡ with_at (λ m. f m (numbered xs m)) n (f n (Some v)) k
view_like f xs ys at n v e here like k = elim (cases_eq k n) [
  | inl s ↦ ap (f k) (numbered_is ys at k (e ∙ sym s) ∙ here) ∙ ap (λ m. f m (Some v)) s ∙ sym (at_same (λ m. f m (numbered xs m)) n (f n (Some v)) k s)
  | inr d ↦ ap (f k) (numbered_like xs ys at k like (λ s. d (s ∙ e))) ∙ sym (at_other (λ m. f m (numbered xs m)) n (f n (Some v)) k d)
]

-- what is seen of each, by its number, where one is another
pub view_set : {A B : Type 0} (f : ℕ → Option A → B) (xs : List A) (at n : ℕ) (v : A) → at + 1 ≡ n → at < length xs
    → (k : ℕ) → f k (numbered (slice_set xs at v) k) ≡ with_at (λ m. f m (numbered xs m)) n (f n (Some v)) k
view_set f xs at n v e lt k = view_like f xs (slice_set xs at v) at n v e (get_set_same xs at v lt) (λ i d. get_set_other xs at i v d) k

pub view_push : {A B : Type 0} (f : ℕ → Option A → B) (xs : List A) (n : ℕ) (v : A) → length xs + 1 ≡ n
    → (k : ℕ) → f k (numbered (xs ++ v ∷ []) k) ≡ with_at (λ m. f m (numbered xs m)) n (f n (Some v)) k
view_push f xs n v e k = view_like f xs (xs ++ v ∷ []) (length xs) n v e (get_push_same xs v) (λ i d. get_push_other xs i v d) k

-- where the one that is another is seen as before
pub view_still : {A B : Type 0} (f : ℕ → Option A → B) (xs : List A) (at n : ℕ) (x v : A) → at + 1 ≡ n → slice_get xs at ≡ Some x → f n (Some v) ≡ f n (Some x)
    → (k : ℕ) → f k (numbered (slice_set xs at v) k) ≡ f k (numbered xs k)
view_still f xs at n x v e is same k = elim (cases_eq k n) [
  | inl s ↦
      ap (f k) (numbered_is (slice_set xs at v) at k (e ∙ sym s) ∙ get_set_same xs at v (slice_get_within xs at x is))
      ∙ ap (λ m. f m (Some v)) s ∙ same ∙ ap (λ m. f m (Some x)) (sym s)
      ∙ ap (f k) (sym (numbered_is xs at k (e ∙ sym s) ∙ is))
  | inr d ↦ ap (f k) (numbered_like xs (slice_set xs at v) at k (λ i c. get_set_other xs at i v c) (λ s. d (s ∙ e)))
]

-- ---- what is so of each at its place, where one is another, or there is one more
pub each_set : {A : Type 0} (P : ℕ → A → Type 0) (xs : List A) (at : ℕ) (v : A) → ((k : ℕ) (x : A) → slice_get xs k ≡ Some x → P k x) → P at v
    → (k : ℕ) (x : A) → slice_get (slice_set xs at v) k ≡ Some x → P k x
each_set P [] at v each own k x e = each k x e
each_set P (y ∷ ys) zero v each own zero x e = subst (P zero) (same_Some v x e) own
each_set P (y ∷ ys) zero v each own (suc k) x e = each (suc k) x e
each_set P (y ∷ ys) (suc at) v each own zero x e = each zero x e
each_set P (y ∷ ys) (suc at) v each own (suc k) x e = each_set (λ i. P (suc i)) ys at v (λ i z f. each (suc i) z f) own k x e

pub each_push : {A : Type 0} (P : ℕ → A → Type 0) (xs : List A) (v : A) → ((k : ℕ) (x : A) → slice_get xs k ≡ Some x → P k x) → P (length xs) v
    → (k : ℕ) (x : A) → slice_get (xs ++ v ∷ []) k ≡ Some x → P k x
each_push P [] v each own zero x e = subst (P zero) (same_Some v x e) own
each_push P [] v each own (suc k) x e = each (suc k) x e
each_push P (y ∷ ys) v each own zero x e = each zero x e
each_push P (y ∷ ys) v each own (suc k) x e = each_push (λ i. P (suc i)) ys v (λ i z f. each (suc i) z f) own k x e
