use Rattle.std.proofs.Common.{ℕ, ◌≡◌, ◌+◌, ◌<◌, ◌≤◌, ◌==◌, ◌||◌, ◌⊎◌, inl, inr, Bool, true, false, List, [], ◌∷◌, ◌++◌, zero, suc, cond, refl, ap, subst, ◌∙◌, arith}
use Rattle.std.proofs.lemmas.Bool.{eq-eqb, eqb-true, cases_eq}
use Rattle.std.proofs.lemmas.List.Folds.{list_any-append}
use Rattle.dn_tend.specs.declared.tasks.Task.{Task}
use Rattle.dn_tend.specs.declared.tasks.Task.TheVariants.{Release, Trim, Share, Unshare}
use Rattle.dn_waiting.specs.Queues.{is_release, is_queued}
use Rattle.dn_waiting.specs.Room.{unqueued_below}

-- Room for releases: of how many slots none waits, as tasks arrive and leave.

cond_most : (b : Bool) → cond b 0 1 ≤ 1
cond_most true = omega arith
cond_most false = omega arith

-- at most all slots
pub unqueued_most : (tasks : List Task) (n : ℕ) → unqueued_below tasks n ≤ n
unfolding unqueued_below
unqueued_most tasks zero = omega arith
unqueued_most tasks (suc n) = omega (arith, unqueued_most tasks n, cond_most (is_queued n tasks))

or_less : (a b : Bool) → cond (a || b) 0 1 ≤ cond a 0 1
or_less true b = omega arith
or_less false b = omega (arith, cond_most b)

fewer : (tasks : List Task) (task : Task) (slot : ℕ) → cond (is_queued slot (tasks ++ task ∷ [])) 0 1 ≤ cond (is_queued slot tasks) 0 1
fewer tasks task slot =
    rw (list_any-append (is_release slot) tasks (task ∷ [])) (or_less (is_queued slot tasks) (is_queued slot (task ∷ [])))

-- a task that arrives makes them no more
pub unqueued_pushed : (tasks : List Task) (task : Task) (n : ℕ) → unqueued_below (tasks ++ task ∷ []) n ≤ unqueued_below tasks n
unfolding unqueued_below
unqueued_pushed tasks task zero = omega arith
unqueued_pushed tasks task (suc n) = omega (arith, unqueued_pushed tasks task n, fewer tasks task n)

or_true : (a : Bool) → (a || (true || false)) ≡ true
or_true true = refl
or_true false = refl

there : (tasks : List Task) (slot : ℕ) → is_queued slot (tasks ++ Release slot ∷ []) ≡ true
there tasks slot =
    list_any-append (is_release slot) tasks (Release slot ∷ [])
    ∙ (rw (eq-eqb slot slot refl) (or_true (is_queued slot tasks)))

release_step : (tasks : List Task) (slot n : ℕ) → is_queued slot tasks ≡ false
    → (slot < n → unqueued_below (tasks ++ Release slot ∷ []) n + 1 ≤ unqueued_below tasks n)
    → slot < suc n → (slot ≡ n) ⊎ (slot ≡ n → ⊥)
    → unqueued_below (tasks ++ Release slot ∷ []) (suc n) + 1 ≤ unqueued_below tasks (suc n)
unfolding unqueued_below
release_step tasks slot n none ih h (inl e) =
    let now : cond {A = ℕ} (is_queued n (tasks ++ Release slot ∷ [])) 0 1 ≡ 0 = subst (λ (k : ℕ). cond {A = ℕ} (is_queued k (tasks ++ Release slot ∷ [])) 0 1 ≡ 0) e (ap (λ (b : Bool). cond {A = ℕ} b 0 1) (there tasks slot)) in
    let before : cond {A = ℕ} (is_queued n tasks) 0 1 ≡ 1 = subst (λ (k : ℕ). cond {A = ℕ} (is_queued k tasks) 0 1 ≡ 1) e (ap (λ (b : Bool). cond {A = ℕ} b 0 1) none) in
    omega (arith, now, before, unqueued_pushed tasks (Release slot) n)
release_step tasks slot n none ih h (inr d) =
    let below : slot < n = omega (arith, h, d) in
    omega (arith, ih below, fewer tasks (Release slot) n)

-- a release of a slot that didn't wait makes them one less
pub unqueued_released : (tasks : List Task) (slot n : ℕ) → is_queued slot tasks ≡ false → slot < n → unqueued_below (tasks ++ Release slot ∷ []) n + 1 ≤ unqueued_below tasks n
unqueued_released tasks slot zero none h = absurd (omega (arith, h))
unqueued_released tasks slot (suc n) none h =
    release_step tasks slot n none (unqueued_released tasks slot n none) h (cases_eq slot n)

-- how many slots below a number a task is a release of
hits : Task → ℕ → ℕ
hits task zero = 0
hits task (suc n) = cond (is_release n task) 1 0 + hits task n

past_step : (slot n rest : ℕ) → suc n ≤ slot → rest ≡ 0 → (b : Bool) → (slot == n) ≡ b → cond (slot == n) 1 0 + rest ≡ 0
past_step slot n rest h ih true e = absurd (omega (arith, h, eqb-true slot n e))
past_step slot n rest h ih false e = rw e (omega (arith, ih))

hits_past : (slot n : ℕ) → n ≤ slot → hits (Release slot) n ≡ 0
unfolding hits
hits_past slot zero h = refl
hits_past slot (suc n) h = past_step slot n (hits (Release slot) n) h (hits_past slot n (omega (arith, h))) (slot == n) refl

one_step : (slot n rest : ℕ) → (n ≤ slot → rest ≡ 0) → rest ≤ 1 → (b : Bool) → (slot == n) ≡ b → cond (slot == n) 1 0 + rest ≤ 1
one_step slot n rest past ih true e =
    let none : rest ≡ 0 = past (omega (arith, eqb-true slot n e)) in
    rw e (omega (arith, none))
one_step slot n rest past ih false e = rw e (omega (arith, ih))

hits_one : (slot n : ℕ) → hits (Release slot) n ≤ 1
unfolding hits
hits_one slot zero = omega arith
hits_one slot (suc n) = one_step slot n (hits (Release slot) n) (λ h. hits_past slot n h) (hits_one slot n) (slot == n) refl

hits_none : (task : Task) → ((slot : ℕ) → is_release slot task ≡ false) → (n : ℕ) → hits task n ≡ 0
unfolding hits
hits_none task none zero = refl
hits_none task none (suc n) = rw (none n) (omega (arith, hits_none task none n))

hits_most : (task : Task) (n : ℕ) → hits task n ≤ 1
hits_most (Release slot) n = hits_one slot n
hits_most Trim n = omega (arith, hits_none Trim (λ s. refl) n)
hits_most (Share key) n = omega (arith, hits_none (Share key) (λ s. refl) n)
hits_most (Unshare key) n = omega (arith, hits_none (Unshare key) (λ s. refl) n)

or_more : (a b : Bool) → cond b 0 1 ≤ cond (a || b) 0 1 + cond a 1 0
or_more true b = omega (arith, cond_most b)
or_more false b = omega arith

unqueued_hits : (task : Task) (tasks : List Task) (n : ℕ) → unqueued_below tasks n ≤ unqueued_below (task ∷ tasks) n + hits task n
unfolding unqueued_below hits
unqueued_hits task tasks zero = omega arith
unqueued_hits task tasks (suc n) = omega (arith, unqueued_hits task tasks n, or_more (is_release n task) (is_queued n tasks))

-- the first that leaves makes them one more at most
pub unqueued_popped : (task : Task) (tasks : List Task) (n : ℕ) → unqueued_below tasks n ≤ unqueued_below (task ∷ tasks) n + 1
unqueued_popped task tasks n = omega (arith, unqueued_hits task tasks n, hits_most task n)
