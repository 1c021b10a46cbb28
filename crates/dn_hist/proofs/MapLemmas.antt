use Rattle.std.proofs.Common.{◌≡◌, ℕ, ◌+◌, cond, List, [], ◌∷◌, length, Some, None, refl, ap, sym, ◌∙◌, add-one}
use Rattle.std.specs.declared.cmp.Ordering.TheVariants.{Less}
use Rattle.std.specs.Ordering.{nat_cmp}
use Rattle.std.specs.Cmp.{nat_cmp_total}
use Rattle.std.specs.BTreeMap.{is_at}
use Rattle.std.specs.Map.{lookup, keys_of}
use Rattle.std.specs.List.{AllByRecursion}
use Rattle.std.specs.List.Sorted.{IsStrictlySortedBy}
use Rattle.std.specs.FinMap.{find, get, insert, remove, len, from_entries, get-from_entries, get-insert, get-remove, len-empty, len-insert, same_map}
use Rattle.std.proofs.lemmas.Cmp.{eq_by_cmp_equiv}
use Rattle.std.proofs.lemmas.Map.Lookups.{exact_unsigned}
use Rattle.std.proofs.lemmas.Map.Keys.{sorted_head, sorted_tail}

Values : Type 0
Values = List (ℕ × List ℕ)

find_at : (es : List (ℕ × List ℕ)) (q : ℕ) → find nat_cmp q es ≡ lookup (is_at (nat_cmp q)) es
find_at [] q = refl
find_at (e ∷ es) q = ap (cond (is_at (nat_cmp q) e.0) (Some e.1)) (find_at es q)

-- what the map of the entries has at a key
pub get_at : (es : List (ℕ × List ℕ)) (q : ℕ) → get (from_entries {R = nat_cmp} es) q ≡ lookup (is_at (nat_cmp q)) es
get_at es q = get-from_entries nat_cmp_total es q ∙ find_at es q

-- entries that differ by a write at one key make maps that do
pub one_put : (es fs : List (ℕ × List ℕ)) (k : ℕ) (v : List ℕ) → ((q : ℕ) → lookup (is_at (nat_cmp q)) fs ≡ cond (is_at (nat_cmp k) q) (Some v) (lookup (is_at (nat_cmp q)) es)) → from_entries {R = nat_cmp} fs ≡ insert (from_entries es) k v
one_put es fs k v h = same_map nat_cmp_total exact_unsigned _ _ (λ q.
    get_at fs q ∙ h q ∙ ap (λ b. cond b (Some v) (lookup (is_at (nat_cmp q)) es)) ((eq_by_cmp_equiv nat_cmp_total).symm k q)
    ∙ sym (get-insert nat_cmp_total (from_entries es) k v q ∙ ap (cond (is_at (nat_cmp q) k) (Some v)) (get_at es q)))

pub one_removed : (es fs : List (ℕ × List ℕ)) (k : ℕ) → ((q : ℕ) → lookup (is_at (nat_cmp q)) fs ≡ cond (is_at (nat_cmp k) q) None (lookup (is_at (nat_cmp q)) es)) → from_entries {R = nat_cmp} fs ≡ remove (from_entries es) k
one_removed es fs k h = same_map nat_cmp_total exact_unsigned _ _ (λ q.
    get_at fs q ∙ h q ∙ ap (λ b. cond b None (lookup (is_at (nat_cmp q)) es)) ((eq_by_cmp_equiv nat_cmp_total).symm k q)
    ∙ sym (get-remove nat_cmp_total (from_entries es) k q ∙ ap (cond (is_at (nat_cmp q) k) None) (get_at es q)))

-- a key below all others isn't among them
absent : (k : ℕ) (es : List (ℕ × List ℕ)) → AllByRecursion (λ y. nat_cmp k y ≡ Less) (keys_of es) → lookup (is_at (nat_cmp k)) es ≡ None
absent k [] h = refl
absent k (e ∷ es) h = rw h.0 (absent k es h.1)

pub len_of : (es : List (ℕ × List ℕ)) → IsStrictlySortedBy nat_cmp (keys_of es) → len (from_entries {R = nat_cmp} es) ≡ length es
len_of [] h = len-empty nat_cmp (List ℕ)
len_of (e ∷ es) h =
    let none : get (from_entries {R = nat_cmp} es) e.0 ≡ None = get_at es e.0 ∙ absent e.0 es (sorted_head nat_cmp e.0 (keys_of es) h) in
    len-insert nat_cmp_total (from_entries es) e.0 e.1 ∙ rw none (ap (λ n. n + 1) (len_of es (sorted_tail nat_cmp e.0 (keys_of es) h)) ∙ add-one (length es))
