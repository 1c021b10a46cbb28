use Rattle.std.proofs.Common.{◌≡◌, ℕ, suc, zero, ◌+◌, ◌-◌, ◌<◌, ◌≤◌, ◌==◌, Bool, true, false, Option, Some, None, ◌⊎◌, inl, inr, List, [], ◌∷◌, ◌++◌, length, drop, reverse, refl, sym, ap, ◌∙◌, arith, subst, slice_index_or, All, AllPairs, Contains, find, nat_lt, nat_le, IsSomeAnd, IfSome, if◌then◌else◌, is_some}
use Rattle.std.proofs.lemmas.Bool.{eqb-true, eq-eqb, ltb-true, ltb-false, lt-leb, le-leb, leb-true}
use Rattle.std.proofs.lemmas.List.{reverse-append, reverse-reverse, length-reverse, get_or-reverse}
use Rattle.std.proofs.lemmas.List.Elements.{All-cons, All-head, All-tail, Contains-append_cases, Contains-append_right, filter_passes}
use Rattle.std.proofs.lemmas.List.Folds.{find-append}
use Rattle.std.specs.Option.{option_map, option_or}
use Rattle.std.specs.List.{prefix_len}
use Rattle.dn_pending.specs.declared.entries.Entry.{Entry}
use Rattle.dn_pending.specs.Entries.{last_of, kept_from, IsRising}
use Rattle.dn_pending.proofs.ListLemmas.{Contains-reverse}

-- of entries, the newest first: each place is less than the one before it
abbrev IsFalling : List Entry → Type 0
IsFalling entries = AllPairs (λ (a b : Entry). b.at < a.at) entries

falling : (entries : List Entry) → IsRising entries → IsFalling (reverse entries)
falling entries rises i j d h k =
    let n = length entries in
    let within : j < n = omega (arith, k, length-reverse entries) in
    let lower : n - 1 - j < n - 1 - i = omega (arith, h, within) in
    let step : (slice_index_or entries (n - 1 - j) d).at < (slice_index_or entries (n - 1 - i) d).at = rises (n - 1 - j) (n - 1 - i) d lower (omega (arith, h, within)) in
    rw (get_or-reverse entries i d (omega (arith, h, within)), get_or-reverse entries j d within) step

falling-tail : (entry : Entry) (entries : List Entry) → IsFalling (entry ∷ entries) → IsFalling entries
falling-tail entry entries falls i j d h k = falls (suc i) (suc j) d (omega (arith, h)) (omega (arith, k))

falling-head : (entry : Entry) (entries : List Entry) → IsFalling (entry ∷ entries) → All (λ (e : Entry). e.at < entry.at) entries
falling-head entry entries falls k d h = falls 0 (suc k) d (omega arith) (omega (arith, h))

-- an entry that has the key is the one with its place
abbrev pub entry_of : ℕ → ℕ → Entry
entry_of key at = record { key = key; at = at }

same_entry : (entry : Entry) (key at : ℕ) → entry.key ≡ key → entry.at ≡ at → entry ≡ entry_of key at
same_entry entry key at k a = ap (λ n. entry_of n entry.at) k ∙ ap (λ n. entry_of key n) a

-- what is found is an entry
found_held : (key : ℕ) (entries : List Entry) (at : ℕ) → option_map (λ (e : Entry). e.at) (find (λ (e : Entry). e.key == key) entries) ≡ Some at → Contains entries (record { key = key; at = at })
found_held key [] at h = cc
found_held key (entry ∷ entries) at h = by_test (entry.key == key) refl h (λ g. found_held key entries at g)
  where
    by_test : (b : Bool) → (entry.key == key) ≡ b → option_map (λ (e : Entry). e.at) (if b then Some entry else find (λ (e : Entry). e.key == key) entries) ≡ Some at
        → (option_map (λ (e : Entry). e.at) (find (λ (e : Entry). e.key == key) entries) ≡ Some at → Contains entries (record { key = key; at = at }))
        → Contains (entry ∷ entries) (record { key = key; at = at })
    by_test true t e more = (0, omega arith, same_entry entry key at (eqb-true entry.key key t) cc)
    by_test false t e more = Contains-append_right (entry ∷ []) entries _ (more e)

pub last_of-held : (key : ℕ) (entries : List Entry) (at : ℕ) → last_of key entries ≡ Some at → Contains entries (record { key = key; at = at })
last_of-held key entries at h = Contains-reverse entries _ (found_held key (reverse entries) at h)

-- and no entry of the key lies past it
found_greatest : (key : ℕ) (entries : List Entry) (at : ℕ) → IsFalling entries → Contains entries (record { key = key; at = at }) → IsSomeAnd (option_map (λ (e : Entry). e.at) (find (λ (e : Entry). e.key == key) entries)) (λ last. at ≤ last)
found_greatest key [] at falls held = absurd (none_below held.0 held.1)
  where
    none_below : (k : ℕ) → k < 0 → ⊥
    none_below k h = omega arith
found_greatest key (entry ∷ entries) at falls held =
    by_test (entry.key == key) refl (Contains-append_cases (entry ∷ []) entries _ held) (λ g. found_greatest key entries at (falling-tail entry entries falls) g)
  where
    le_same : (a b : ℕ) → b ≡ a → a ≤ b
    le_same a b e = omega arith

    lt_le : (a b : ℕ) → a < b → a ≤ b
    lt_le a b h = omega arith

    denied : (entry.key == key) ≡ false → entry.key ≡ key → ⊥
    denied t e = let same : (entry.key == key) ≡ true = eq-eqb entry.key key e in cc

    too_far : (k : ℕ) → suc k < 1 → ⊥
    too_far k h = omega arith

    first_at : (e : Entry) (k : ℕ) → k < 1 → slice_index_or (entry ∷ []) k e ≡ e → entry ≡ e
    first_at e zero h i = i
    first_at e (suc k) h i = absurd (too_far k h)

    first_is : (e : Entry) → Contains (entry ∷ []) e → entry ≡ e
    first_is e h = first_at e h.0 h.1 h.2

    among : (e : Entry) → Contains entries e → e.at < entry.at
    among e h = subst (λ (x : Entry). x.at < entry.at) h.2 (falling-head entry entries falls h.0 e h.1)

    by_test : (b : Bool) → (entry.key == key) ≡ b → Contains (entry ∷ []) (record { key = key; at = at }) ⊎ Contains entries (record { key = key; at = at })
        → (Contains entries (record { key = key; at = at }) → IsSomeAnd (option_map (λ (e : Entry). e.at) (find (λ (e : Entry). e.key == key) entries)) (λ last. at ≤ last))
        → IsSomeAnd (option_map (λ (e : Entry). e.at) (if b then Some entry else find (λ (e : Entry). e.key == key) entries)) (λ last. at ≤ last)
    by_test true t (inl h) more = le_same at entry.at (ap (λ (e : Entry). e.at) (first_is _ h))
    by_test true t (inr h) more = lt_le at entry.at (among _ h)
    by_test false t (inl h) more = absurd (denied t (ap (λ (e : Entry). e.key) (first_is _ h)))
    by_test false t (inr h) more = more h

pub last_of-greatest : (key : ℕ) (entries : List Entry) (at : ℕ) → IsRising entries → Contains entries (record { key = key; at = at }) → IsSomeAnd (last_of key entries) (λ last. at ≤ last)
last_of-greatest key entries at rises held =
    found_greatest key (reverse entries) at (falling entries rises)
    (Contains-reverse (reverse entries) _ (subst (λ (xs : List Entry). Contains xs (record { key = key; at = at })) (sym (reverse-reverse entries)) held))

-- entries that all lie at the mark or past it are all kept
kept_all : (mark : ℕ) (entries : List Entry) → All (λ (e : Entry). mark ≤ e.at) entries → kept_from mark entries ≡ entries
kept_all mark [] h = refl
kept_all mark (entry ∷ entries) h =
    ap (λ b. if b then entry ∷ kept_from mark entries else kept_from mark entries) (le-leb mark entry.at (All-head (λ (e : Entry). mark ≤ e.at) entry entries h))
    ∙ ap (λ es. entry ∷ es) (kept_all mark entries (All-tail (λ (e : Entry). mark ≤ e.at) entry entries h))

rising-tail : (entry : Entry) (entries : List Entry) → IsRising (entry ∷ entries) → IsRising entries
rising-tail entry entries rises i j d h k = rises (suc i) (suc j) d (omega (arith, h)) (omega (arith, k))

rising-head : (entry : Entry) (entries : List Entry) → IsRising (entry ∷ entries) → All (λ (e : Entry). entry.at < e.at) entries
rising-head entry entries rises k d h = rises 0 (suc k) d (omega arith) (omega (arith, h))

-- what is kept is what lies behind the entries in front that lie below the mark
pub kept_from-front : (mark : ℕ) (entries : List Entry) → IsRising entries → kept_from mark entries ≡ drop (prefix_len (λ (e : Entry). nat_lt e.at mark) entries) entries
kept_from-front mark [] rises = refl
kept_from-front mark (entry ∷ entries) rises = by_test (nat_lt entry.at mark) refl (kept_from-front mark entries (rising-tail entry entries rises))
  where
    suc_one : (k : ℕ) → suc k ≡ 1 + k
    suc_one k = omega arith

    past : (at : ℕ) → mark ≤ entry.at → entry.at < at → mark ≤ at
    past at h k = omega arith

    by_test : (b : Bool) → nat_lt entry.at mark ≡ b
        → kept_from mark entries ≡ drop (prefix_len (λ (e : Entry). nat_lt e.at mark) entries) entries
        → kept_from mark (entry ∷ entries) ≡ drop (if b then 1 + prefix_len (λ (e : Entry). nat_lt e.at mark) entries else 0) (entry ∷ entries)
    by_test true t more =
        ap (λ b. if b then entry ∷ kept_from mark entries else kept_from mark entries) (lt-leb mark entry.at (ltb-true entry.at mark t))
        ∙ more
        ∙ ap (λ k. drop k (entry ∷ entries)) (suc_one (prefix_len (λ (e : Entry). nat_lt e.at mark) entries))
    by_test false t more =
        kept_all mark (entry ∷ entries)
        (All-cons (λ (e : Entry). mark ≤ e.at) entry entries (ltb-false entry.at mark t)
        (λ k d h. past (slice_index_or entries k d).at (ltb-false entry.at mark t) (rising-head entry entries rises k d h)))

-- each entry that is kept lies at the mark or past it
pub kept_from-past : (mark : ℕ) (entries : List Entry) → All (λ (e : Entry). mark ≤ e.at) (kept_from mark entries)
kept_from-past mark entries k d h = leb-true mark _ (filter_passes (λ (e : Entry). nat_le mark e.at) entries k d h)

-- the last of two lists is that of the second, where it has one
pub last_of-append : (key : ℕ) (front back : List Entry) → last_of key (front ++ back) ≡ option_or (last_of key back) (last_of key front)
last_of-append key front back =
    ap (λ es. option_map (λ (e : Entry). e.at) (find (λ (e : Entry). e.key == key) es)) (reverse-append front back)
    ∙ ap (option_map (λ (e : Entry). e.at)) (find-append (λ (e : Entry). e.key == key) (reverse back) (reverse front))
    ∙ map_or (find (λ (e : Entry). e.key == key) (reverse back)) (find (λ (e : Entry). e.key == key) (reverse front))
  where
    map_or : (a b : Option Entry) → option_map (λ (e : Entry). e.at) (option_or a b) ≡ option_or (option_map (λ (e : Entry). e.at) a) (option_map (λ (e : Entry). e.at) b)
    map_or (Some e) b = refl
    map_or None b = refl

-- no entry has a key that each differs from
pub last_of-none : (key : ℕ) (entries : List Entry) → All (λ (e : Entry). e.key ≡ key → ⊥) (reverse entries) → last_of key entries ≡ None
last_of-none key entries h = ap (option_map (λ (e : Entry). e.at)) (none_of (reverse entries) h)
  where
    differs : (entry : Entry) → (entry.key ≡ key → ⊥) → (b : Bool) → (entry.key == key) ≡ b → b ≡ false
    differs entry d true t = absurd (d (eqb-true entry.key key t))
    differs entry d false t = refl

    none_of : (es : List Entry) → All (λ (e : Entry). e.key ≡ key → ⊥) es → find (λ (e : Entry). e.key == key) es ≡ None
    none_of [] h = refl
    none_of (e ∷ es) h =
        ap (λ b. if b then Some e else find (λ (e : Entry). e.key == key) es) (differs e (All-head (λ (e : Entry). e.key ≡ key → ⊥) e es h) (e.key == key) refl)
        ∙ none_of es (All-tail (λ (e : Entry). e.key ≡ key → ⊥) e es h)

-- a found entry of the back is the last of all
pub last_of-found : (key : ℕ) (front back : List Entry) (found : Option ℕ) → found ≡ last_of key back → is_some found ≡ true → found ≡ last_of key (front ++ back)
last_of-found key front back None e h = cc
last_of-found key front back (Some at) e h = ap (λ o. option_or o (last_of key front)) e ∙ sym (last_of-append key front back)

-- where the back has none the last is that of the front
pub last_of-past : (key : ℕ) (front back : List Entry) → last_of key back ≡ None → last_of key (front ++ back) ≡ last_of key front
last_of-past key front back h = last_of-append key front back ∙ ap (λ o. option_or o (last_of key front)) h

-- both as clauses of an answer
pub held_by : (key : ℕ) (entries : List Entry) (found : Option ℕ) → found ≡ last_of key entries → IfSome found (λ at. Contains entries (record { key = key; at = at }))
held_by key entries None e = tt
held_by key entries (Some at) e = last_of-held key entries at (sym e)

pub greatest_by : (key : ℕ) (entries : List Entry) (found : Option ℕ) (at : ℕ) → found ≡ last_of key entries → IsRising entries → Contains entries (record { key = key; at = at }) → IsSomeAnd found (λ last. at ≤ last)
greatest_by key entries found at e rises held = subst (λ (o : Option ℕ). IsSomeAnd o (λ last. at ≤ last)) (sym e) (last_of-greatest key entries at rises held)
