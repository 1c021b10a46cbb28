use Rattle.std.proofs.Common.{ℕ, ◌≡◌, ◌≢◌, ◌+◌, ◌<◌, ◌≤◌, ◌==◌, ◌⊎◌, inl, inr, Bool, true, false, List, [], ◌∷◌, ◌++◌, zero, suc, cond, length, refl, sym, ap, subst, ◌∙◌, arith, Contains, get_or}
use Rattle.std.proofs.lemmas.Bool.{eq-eqb, eqb-true, cases_eq}
use Rattle.std.proofs.lemmas.List.Elements.{Contains-append_cases}
use Rattle.dn_hist.specs.declared.receipts.SessionView.{SessionView}
use Rattle.dn_waiting.specs.Sound.{how_often}

-- How often sessions are among attempts.

pub own_test : (s : ℕ) → (s == s) ≡ true
own_test s = eq-eqb s s refl

pub other_test : (a b : ℕ) → a ≢ b → (a == b) ≡ false
other_test a b d = by_test (a == b) refl
  where
    by_test : (t : Bool) → (a == b) ≡ t → (a == b) ≡ false
    by_test true e = absurd (d (eqb-true a b e))
    by_test false e = e

-- the attempts of others
apart : ℕ → List SessionView → List SessionView
apart s [] = []
apart s (v ∷ vs) = cond (v.session == s) (apart s vs) (v ∷ apart s vs)

length_step : (t : Bool) (o m : ℕ) (v : SessionView) (rest : List SessionView) → o + length rest ≡ m
    → (cond t 1 0 + o) + length (cond t rest (v ∷ rest)) ≡ suc m
length_step true o m v rest h = omega (arith, h)
length_step false o m v rest h = omega (arith, h)

length_apart : (s : ℕ) (vs : List SessionView) → how_often s vs + length (apart s vs) ≡ length vs
unfolding apart
length_apart s [] = refl
length_apart s (v ∷ vs) = length_step (v.session == s) (how_often s vs) (length vs) v (apart s vs) (length_apart s vs)

often_step : (t : Bool) (k m : ℕ) (v : SessionView) (rest : List SessionView) → how_often k rest ≤ m
    → how_often k (cond t rest (v ∷ rest)) ≤ cond (v.session == k) 1 0 + m
often_step true k m v rest h = omega (arith, h)
often_step false k m v rest h = omega (arith, h)

often_apart : (s k : ℕ) (vs : List SessionView) → how_often k (apart s vs) ≤ how_often k vs
unfolding apart
often_apart s k [] = omega arith
often_apart s k (v ∷ vs) = often_step (v.session == s) k (how_often k vs) v (apart s vs) (often_apart s k vs)

none_step : (t : Bool) (s : ℕ) (v : SessionView) (rest : List SessionView) → (v.session == s) ≡ t → how_often s rest ≡ 0
    → how_often s (cond t rest (v ∷ rest)) ≡ 0
none_step true s v rest e h = h
none_step false s v rest e h = rw e (omega (arith, h))

none_apart : (s : ℕ) (vs : List SessionView) → how_often s (apart s vs) ≡ 0
unfolding apart
none_apart s [] = refl
none_apart s (v ∷ vs) = none_step (v.session == s) s v (apart s vs) refl (none_apart s vs)

pub first_often : (v : SessionView) (vs : List SessionView) → 1 ≤ how_often v.session (v ∷ vs)
first_often v vs = rw (own_test v.session) (omega arith)

-- where each of the sessions below a number is there at most once, there are no more attempts than sessions
pub few : (n : ℕ) (vs : List SessionView) → ((k : ℕ) → how_often k vs ≤ 1) → ((k : ℕ) → n ≤ k → how_often k vs ≡ 0) → length vs ≤ n
few zero [] once past = omega arith
few zero (v ∷ vs) once past = absurd (omega (arith, past v.session (omega arith), first_often v vs))
few (suc n) vs once past =
    let rest : length (apart n vs) ≤ n = few n (apart n vs) (λ k. omega (arith, once k, often_apart n k vs)) (λ k h. by_case k h (cases_eq k n)) in
    omega (arith, rest, length_apart n vs, once n)
  where
    by_case : (k : ℕ) → n ≤ k → (k ≡ n) ⊎ (k ≡ n → ⊥) → how_often k (apart n vs) ≡ 0
    by_case k h (inl e) = subst (λ m. how_often m (apart n vs) ≡ 0) (sym e) (none_apart n vs)
    by_case k h (inr d) = let above : suc n ≤ k = omega (arith, h, d) in omega (arith, often_apart n k vs, past k above)

-- ---- one more
pub often_pushed : (k : ℕ) (vs : List SessionView) (v : SessionView) → how_often k (vs ++ v ∷ []) ≡ how_often k vs + cond (v.session == k) 1 0
often_pushed k [] v = omega arith
often_pushed k (u ∷ vs) v = omega (arith, often_pushed k vs v)

pub often_pushed_own : (vs : List SessionView) (v : SessionView) → how_often v.session (vs ++ v ∷ []) ≡ how_often v.session vs + 1
often_pushed_own vs v = often_pushed v.session vs v ∙ ap (λ (b : Bool). how_often v.session vs + cond {A = ℕ} b 1 0) (own_test v.session)

pub often_pushed_other : (k : ℕ) (vs : List SessionView) (v : SessionView) → k ≢ v.session → how_often k (vs ++ v ∷ []) ≡ how_often k vs
often_pushed_other k vs v d =
    let e : cond {A = ℕ} (v.session == k) 1 0 ≡ 0 = ap (λ (b : Bool). cond {A = ℕ} b 1 0) (other_test v.session k (λ e. d (sym e))) in
    omega (arith, often_pushed k vs v, e)

-- ---- one of them
often_at : (u : SessionView) (xs : List SessionView) (k : ℕ) → k < length xs → get_or xs k u ≡ u → 1 ≤ how_often u.session xs
often_at u [] k h e = absurd (omega (arith, h))
often_at u (x ∷ xs) zero h e = rw (ap (λ (v : SessionView). v.session == u.session) e ∙ own_test u.session) (omega arith)
often_at u (x ∷ xs) (suc k) h e = omega (arith, often_at u xs k (omega (arith, h)) e)

pub often_contained : (vs : List SessionView) (u : SessionView) → Contains vs u → 1 ≤ how_often u.session vs
often_contained vs u (k, h, e) = often_at u vs k h e

-- one of those before, or the one that was put behind them
pub contained_pushed : (vs : List SessionView) (v u : SessionView) → Contains (vs ++ v ∷ []) u → Contains vs u ⊎ (u ≡ v)
contained_pushed vs v u h = by_side (Contains-append_cases vs (v ∷ []) u h)
  where
    by_side : Contains vs u ⊎ Contains (v ∷ []) u → Contains vs u ⊎ (u ≡ v)
    by_side (inl x) = inl x
    by_side (inr (zero, h, e)) = inr (sym e)
    by_side (inr (suc k, h, e)) = absurd (omega (arith, h))

-- one behind the first is one of all
pub contained_behind : (v : SessionView) (vs : List SessionView) (u : SessionView) → Contains vs u → Contains (v ∷ vs) u
contained_behind v vs u (k, h, e) = (suc k, omega (arith, h), e)

pub contained_first : (v : SessionView) (vs : List SessionView) → Contains (v ∷ vs) v
contained_first v vs = (0, omega arith, refl)
