use Rattle.std.proofs.Common.{ℕ, ◌≡◌, ◌<◌, ◌^◌, ◌+◌, Bool, List, [], ◌∷◌, ◌++◌, cond, length, count_by, ◌∙◌, ap, arith}
use Rattle.std.proofs.lemmas.List.Sums.{sum_by-append, count_by-le-length}
use Rattle.dn_run.specs.Counts.{counts_of, numbers_call, gives_up, is_of_get, gets, is_pending, is_index}
use Rattle.dn_run.specs.Happening.{Happening, makes_call}
use Rattle.dn_run.specs.declared.counts.Counts.{Counts}
use Rattle.dn_play.specs.Tally.{one_if, added, HasRoom}

-- What one happening more adds to the counts.

count_one : {X : Type 0} (p : X → Bool) (xs : List X) (x : X) → count_by p (xs ++ x ∷ []) ≡ count_by p xs + one_if (p x)
count_one p xs x = (let sum = sum_by-append (λ y. cond (p y) 1 0) xs (x ∷ []) in omega (arith, sum))

-- by the outcome, the receipt and whether an attempt was refused
same_counts : (c d : Counts) → c.calls ≡ d.calls → c.made ≡ d.made → c.refused ≡ d.refused → c.given ≡ d.given → c.pending ≡ d.pending → c.index ≡ d.index → c ≡ d
same_counts c d a b e f g h =
    ap (λ (n : ℕ). record c { calls = n }) a ∙ ap (λ (n : ℕ). record c { calls = d.calls; made = n }) b ∙ ap (λ (n : ℕ). record c { calls = d.calls; made = d.made; refused = n }) e
    ∙ ap (λ (n : ℕ). record d { given = n; pending = c.pending; index = c.index }) f ∙ ap (λ (n : ℕ). record d { pending = n; index = c.index }) g ∙ ap (λ (n : ℕ). record d { index = n }) h

pub counts_more : (past : List Happening) (x : Happening) → counts_of (past ++ x ∷ []) ≡ added (counts_of past) x.outcome (is_of_get x.receipt) x.refused
counts_more past x = same_counts (counts_of (past ++ x ∷ [])) (added (counts_of past) x.outcome (is_of_get x.receipt) x.refused)
    (count_one (λ (y : Happening). numbers_call y.outcome) past x)
    (count_one (λ (y : Happening). makes_call y.outcome) past x)
    (count_one (λ (y : Happening). y.refused) past x)
    (count_one (λ (y : Happening). gives_up y.outcome) past x)
    (count_one (gets is_pending) past x)
    (count_one (gets is_index) past x)

-- there is room for one more
pub counts_room : (past : List Happening) → length past < 2 ^ 31 → HasRoom (counts_of past)
counts_room past few = record {
  calls = (let le = count_by-le-length (λ (y : Happening). numbers_call y.outcome) past in omega (arith, le, few));
  made = (let le = count_by-le-length (λ (y : Happening). makes_call y.outcome) past in omega (arith, le, few));
  refused = (let le = count_by-le-length (λ (y : Happening). y.refused) past in omega (arith, le, few));
  given = (let le = count_by-le-length (λ (y : Happening). gives_up y.outcome) past in omega (arith, le, few));
  pending = (let le = count_by-le-length (gets is_pending) past in omega (arith, le, few));
  index = (let le = count_by-le-length (gets is_index) past in omega (arith, le, few));
}
