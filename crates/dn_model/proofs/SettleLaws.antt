use Rattle.std.proofs.Common.{ℕ, ◌+◌, ◌<◌, ◌≤◌, ◌≡◌, ◌≢◌, ◌⊎◌, inl, inr, Bool, true, false, nat_eq, if◌then◌else◌, List, [], ◌∷◌, length, get_or, All, Option, Some, None, refl, sym, ◌∙◌, ap, subst, arith}
use Rattle.std.proofs.lemmas.Grind.{common_steps}
use Rattle.std.proofs.lemmas.Bool.{cases_eq, cases_lt}
use Rattle.std.proofs.lemmas.Bool.Decides.{nat_tests}
use Rattle.std.proofs.lemmas.List.Elements.{All-cons, All-nil}
use Rattle.std.proofs.lemmas.List.{get_or_default}
use Rattle.std.proofs.Math.ListN.{get_or-eq_default}
use Rattle.std.specs.Ordering.{nat_cmp}
use Rattle.std.specs.FinMap.{get, insert, remove, empty, gets}
use Rattle.dn_hist.specs.Calls.{Bytes}
use Rattle.dn_model.specs.Regions.{cell, mark, owner, home_of, bucket}
use Rattle.dn_record.specs.declared.records.Record.{Record}
use Rattle.dn_model.specs.Log.{Placed}
use Rattle.dn_model.specs.Index.{Leads, slots, first_place, index}
use Rattle.dn_model.specs.Held.{Found, Says, Astray, Reads, is_authority, unmerged, authority_by, held_from}
use Rattle.dn_model.specs.PoolMap.{HoldsMap, IsUnreadable}
use Rattle.dn_model.specs.declared.maps.MapFault.{MapFault}
use Rattle.dn_model.specs.declared.maps.MapFault.TheVariants.{Unreadable, OutOfMemory}
use Rattle.dn_model.specs.Told.{Says_of, logs_of, chains_of, holds_of, AreLogs, AreChains, SomeLog, SomeChain, Stray, Towards, IsRight, IsRightFor, AreRightFor, IsRightIn, IsRightBelow}
use Rattle.dn_model.proofs.HashLaws.{home_below}
use Rattle.dn_model.proofs.HeldLaws.{Each, unmerged_is}
use Rattle.dn_model.proofs.MapLaws.{one_held}

-- a chain's buckets are buckets
pub chain_below : (words : List ℕ) (b : ℕ) (cs : List ℕ) → Leads words b cs → All (λ c. c < 8192) cs
chain_below words b [] h = All-nil (λ c. c < 8192)
chain_below words b (c ∷ cs) h = All-cons (λ x. x < 8192) c cs h.2 (chain_below words c cs h.3)

-- ---- one key made right
put_same : (m : Bytes) (key : ℕ) (value : List ℕ) → get (insert m key value) key ≡ Some value
put_same m key value = grind (arith, common_steps, gets)

put_other : (m : Bytes) (key : ℕ) (value : List ℕ) (q : ℕ) → (q ≡ key → ⊥) → get (insert m key value) q ≡ get m q
put_other m key value q e = grind (arith, common_steps, gets)

gone_same : (m : Bytes) (key : ℕ) → get (remove m key) key ≡ None
gone_same m key = grind (arith, common_steps, gets)

gone_other : (m : Bytes) (key : ℕ) (q : ℕ) → (q ≡ key → ⊥) → get (remove m key) q ≡ get m q
gone_other m key q e = grind (arith, common_steps, gets)

towards_by : (holds : ℕ → Found (Option (List ℕ))) (m n : Bytes) (key : ℕ) → 0 < key → holds key ≡ Says (get n key) → ((q : ℕ) → (q ≡ key → ⊥) → get n q ≡ get m q) → Towards holds m n
towards_by holds m n key pos here there = record {
  kept = λ k p h. elim (cases_eq k key) [
    | inl s ↦ (let P : ℕ → Type 0 = λ x. holds x ≡ Says (get n x) in subst P (sym s) here)
    | inr s ↦ h ∙ ap Says (sym (there k s))
  ];
  changed = λ k p. elim (cases_eq k key) [
    | inl s ↦ (let P : ℕ → Type 0 = λ x. holds x ≡ Says (get n x) in inr (subst P (sym s) here))
    | inr s ↦ inl (there k s)
  ];
  zero_kept = there 0 (λ e. absurd (omega (arith, e, pos)));
}

pub towards_gone : (holds : ℕ → Found (Option (List ℕ))) (m n : Bytes) (key : ℕ) → n ≡ remove m key → key ≢ 0 → Says None ≡ holds key → Towards holds m n
towards_gone holds m n key is pos h = towards_by holds m n key (omega (arith, pos)) (sym h ∙ ap Says (sym (ap (λ x. get x key) is ∙ gone_same m key))) (λ q e. ap (λ x. get x q) is ∙ gone_other m key q e)

pub towards_put : (holds : ℕ → Found (Option (List ℕ))) (m n : Bytes) (key : ℕ) (v : List ℕ) → n ≡ insert m key v → key ≢ 0 → Says (Some v) ≡ holds key → Towards holds m n
towards_put holds m n key v is pos h = towards_by holds m n key (omega (arith, pos)) (sym h ∙ ap Says (sym (ap (λ x. get x key) is ∙ put_same m key v))) (λ q e. ap (λ x. get x q) is ∙ put_other m key v q e)

pub right_gone : (holds : ℕ → Found (Option (List ℕ))) (m n : Bytes) (key : ℕ) → n ≡ remove m key → Says None ≡ holds key → IsRight holds n key
right_gone holds m n key is h pos = sym h ∙ ap Says (sym (ap (λ x. get x key) is ∙ gone_same m key))

pub right_put : (holds : ℕ → Found (Option (List ℕ))) (m n : Bytes) (key : ℕ) (v : List ℕ) → n ≡ insert m key v → Says (Some v) ≡ holds key → IsRight holds n key
right_put holds m n key v is h pos = sym h ∙ ap Says (sym (ap (λ x. get x key) is ∙ put_same m key v))

pub towards_then : (holds : ℕ → Found (Option (List ℕ))) (a b c : Bytes) → Towards holds a b → Towards holds b c → Towards holds a c
towards_then holds a b c h g = record {
  kept = λ k p e. g.kept k p (h.kept k p e);
  changed = λ k p. elim (g.changed k p) [
    | inl s ↦ elim (h.changed k p) [ inl t ↦ inl (s ∙ t) | inr t ↦ inr (t ∙ ap Says (sym s)) ]
    | inr s ↦ inr s
  ];
  zero_kept = g.zero_kept ∙ h.zero_kept;
}

pub right_on : (holds : ℕ → Found (Option (List ℕ))) (a b : Bytes) (k : ℕ) → Towards holds a b → IsRight holds a k → IsRight holds b k
right_on holds a b k t h pos = t.kept k pos (h pos)

-- ---- the readings
pub reads_of : (words : List ℕ) (ls : List (List Placed)) (cs : List (List ℕ)) → AreLogs words 64 ls → AreChains words 4096 cs → Reads words (logs_of ls) (chains_of cs)
reads_of words ls cs h g = record {
  logs_are = λ n l. h.each n l l.below;
  no_more = λ n out. elim (cases_lt n 64) [
    | inl lt ↦ elim (cases_lt 0 n) [
      | inl pos ↦ absurd (out (record { positive = pos; below = lt }))
      | inr z ↦ (let e : n ≡ 0 = omega (arith, z) in ap (λ x. logs_of ls x) e ∙ h.first)
    ]
    | inr le ↦ past ls n (omega (arith, h.count, le))
  ];
  chains_are = λ home lt. g.each home lt;
} where
  past : (xs : List (List Placed)) (n : ℕ) → length xs ≤ n → logs_of xs n ≡ []
  past xs n le = grind (arith, common_steps, get_or-eq_default)

-- ---- where nothing is read at a key nothing is held there
right_each : (X : Type 0) (k : ℕ) (log : List Placed) → ((i : ℕ) (p : Placed) → i < length log → p ≡ get_or log i p → is_authority k p.entry ≡ true → X) → Each (λ p. is_authority k p.entry ≡ true → X) log
right_each X k [] h = tt
right_each X k (p ∷ ps) h = (λ a. h 0 p (omega arith) refl a, right_each X k ps (λ i q lt e a. h (i + 1) q (omega arith) (grind (arith, common_steps, e)) a))

met_by : (X : Type 0) (k x place : ℕ) (b : Bool) (more : Option ℕ) (p : ℕ) → nat_eq x k ≡ b → (x ≡ k → X) → (more ≡ Some p → X) → (if b then Some place else more) ≡ Some p → X
met_by X k x place true more p t here rest e = here (grind (arith, nat_tests))
met_by X k x place false more p t here rest e = rest e

no_place : (X : Type 0) (p : ℕ) → None ≡ Some p → X
no_place X p e = absurd (nothing p e) where
  nothing : (q : ℕ) → None ≡ Some q → ⊥
  nothing q f = cc

pub met_in : (X : Type 0) (words : List ℕ) (b : ℕ) (cs : List ℕ) (k p : ℕ) → b < 8192 → Leads words b cs → ((c i : ℕ) → c < 8192 → 0 < i → i < 4 → bucket words c i ≡ k → X) → first_place k (slots words (b ∷ cs)) ≡ Some p → X
met_in X words b [] k p lt l f e =
    met_by X k (bucket words b 1) (bucket words b 4) (nat_eq (bucket words b 1) k) _ p refl (f b 1 lt (omega arith) (omega arith))
    (met_by X k (bucket words b 2) (bucket words b 5) (nat_eq (bucket words b 2) k) _ p refl (f b 2 lt (omega arith) (omega arith))
    (met_by X k (bucket words b 3) (bucket words b 6) (nat_eq (bucket words b 3) k) None p refl (f b 3 lt (omega arith) (omega arith)) (no_place X p))) e
met_in X words b (c ∷ cs) k p lt l f e =
    met_by X k (bucket words b 1) (bucket words b 4) (nat_eq (bucket words b 1) k) _ p refl (f b 1 lt (omega arith) (omega arith))
    (met_by X k (bucket words b 2) (bucket words b 5) (nat_eq (bucket words b 2) k) _ p refl (f b 2 lt (omega arith) (omega arith))
    (met_by X k (bucket words b 3) (bucket words b 6) (nat_eq (bucket words b 3) k) (first_place k (slots words (c ∷ cs))) p refl (f b 3 lt (omega arith) (omega arith))
    (met_in X words c cs k p l.2 l.3 f))) e

nothing_read : (words : List ℕ) (logs : ℕ → List Placed) (holds : Found (Option (List ℕ))) (m : Bytes) (k : ℕ) (u : Option Record) (i : Option ℕ) → holds ≡ held_from (cell words) logs k (authority_by logs k u i)
    → ((r : Record) → u ≡ Some r → holds ≡ Says (get m k)) → ((p : ℕ) → i ≡ Some p → holds ≡ Says (get m k)) → (get m k ≡ None) ⊎ (holds ≡ Says (get m k)) → holds ≡ Says (get m k)
nothing_read words logs holds m k (Some r) i e f g c = f r refl
nothing_read words logs holds m k None (Some p) e f g c = g p refl
nothing_read words logs holds m k None None e f g (inl n) = e ∙ ap Says (sym n)
nothing_read words logs holds m k None None e f g (inr n) = n

right_all : (words : List ℕ) (ls : List (List Placed)) (cs : List (List ℕ)) (m : Bytes) (k : ℕ) → Reads words (logs_of ls) (chains_of cs) → Towards (holds_of words ls cs) empty m
    → ((n : ℕ) → IsRightFor (holds_of words ls cs) m (logs_of ls n) (length (logs_of ls n))) → IsRightBelow words (holds_of words ls cs) m 8192 → 0 < k → holds_of words ls cs k ≡ Says (get m k)
right_all words ls cs m k h t inlogs below pos =
    let X : Type 0 = holds_of words ls cs k ≡ Says (get m k) in
    let n : ℕ = owner words k in
    let chain = h.chains_are (home_of k) (home_below k) in
    let none : get (empty {K = ℕ} {X = List ℕ} {R = nat_cmp}) k ≡ None = grind (arith, common_steps, gets) in
    nothing_read words (logs_of ls) (holds_of words ls cs k) m k (unmerged k (mark words n) (logs_of ls n)) (index words (chains_of cs (home_of k)) k) refl
    (unmerged_is (λ r. X) k (mark words n) (logs_of ls n) (right_each X k (logs_of ls n) (λ i p lt e a. inlogs n i k p lt e a pos)))
    (λ p e. met_in X words (home_of k) (chains_of cs (home_of k)) k p (let b = home_below k in omega (arith, b)) chain.leads
    (λ c i lt low high s. let P : ℕ → Type 0 = λ x. 0 < x → holds_of words ls cs x ≡ Says (get m x) in subst P s (below c i lt low high) pos) e)
    (elim (t.changed k pos) [ inl s ↦ inl (s ∙ none) | inr s ↦ inr s ])

pub map_of : (words : List ℕ) (ls : List (List Placed)) (cs : List (List ℕ)) (m : Bytes) → AreLogs words 64 ls → AreChains words 4096 cs → Towards (holds_of words ls cs) empty m
    → ((n : ℕ) → IsRightFor (holds_of words ls cs) m (logs_of ls n) (length (logs_of ls n))) → IsRightBelow words (holds_of words ls cs) m 8192 → HoldsMap words m
map_of words ls cs m h g t inlogs below = record {
  logs = logs_of ls;
  chains = chains_of cs;
  reads = reads_of words ls cs h g;
  holds = λ k pos. right_all words ls cs m k (reads_of words ls cs h g) t inlogs below pos;
  no_key = (let none : get (empty {K = ℕ} {X = List ℕ} {R = nat_cmp}) 0 ≡ None = grind (arith, common_steps, gets) in t.zero_kept ∙ none);
}

-- ---- the faults
pub no_map_log : (words : List ℕ) → SomeLog words → IsUnreadable words
no_map_log words (n, lane, none) map h = none (h.logs n) (h.reads.logs_are n lane)

pub no_map_chain : (words : List ℕ) → SomeChain words → IsUnreadable words
no_map_chain words (home, lt, none) map h = none (h.chains home) (h.reads.chains_are home lt)

astray_says : (v : Option (List ℕ)) → Astray ≡ Says v → ⊥
astray_says v e = cc

pub no_map_stray : (words : List ℕ) (ls : List (List Placed)) (cs : List (List ℕ)) → AreLogs words 64 ls → AreChains words 4096 cs → Stray (holds_of words ls cs) → IsUnreadable words
no_map_stray words ls cs a b (k, pos, e) map h =
    astray_says (get map k) (sym e ∙ one_held words (logs_of ls) h.logs (chains_of cs) h.chains k (reads_of words ls cs a b) h.reads ∙ h.holds k pos)

-- ---- one step of each loop
pub right_more : (holds : ℕ → Found (Option (List ℕ))) (a b : Bytes) (log : List Placed) (i : ℕ) (item : Placed) (key : ℕ) → IsRightFor holds a log i → Towards holds a b → item ≡ get_or log i item → i < length log
    → ((k : ℕ) → is_authority k item.entry ≡ true → key ≡ k) → IsRight holds b key → IsRightFor holds b log (i + 1)
right_more holds a b log i item key h t at lt own right j k p jl e auth = elim (cases_lt j i) [
  | inl below ↦ right_on holds a b k t (h j k p below e auth)
  | inr above ↦ (let s : j ≡ i = omega (arith, jl, above) in
      let same : item ≡ p = at ∙ get_or_default log i item p lt ∙ sym (ap (λ x. get_or log x p) s) ∙ sym e in
      let P : ℕ → Type 0 = λ x. IsRight holds b x in
      let Q : Placed → Type 0 = λ x. is_authority k x.entry ≡ true in
      subst P (own k (subst Q (sym same) auth)) right)
]

pub logs_more : (holds : ℕ → Found (Option (List ℕ))) (a b : Bytes) (ls : List (List Placed)) (i : ℕ) (log : List Placed) → AreRightFor holds a ls i → Towards holds a b → logs_of ls i ≡ log → IsRightFor holds b log (length log) → AreRightFor holds b ls (i + 1)
logs_more holds a b ls i log h t at right n nl = elim (cases_lt n i) [
  | inl below ↦ (λ j k p jl e auth. right_on holds a b k t (h n below j k p jl e auth))
  | inr above ↦ (let s : n ≡ i = omega (arith, nl, above) in
      let P : List Placed → Type 0 = λ xs. IsRightFor holds b xs (length xs) in
      subst P (sym (ap (λ x. logs_of ls x) s ∙ at)) right)
]

pub in_more : (words : List ℕ) (holds : ℕ → Found (Option (List ℕ))) (a b : Bytes) (c i key : ℕ) → IsRightIn words holds a c i → Towards holds a b → key ≡ bucket words c i → IsRight holds b key → IsRightIn words holds b c (i + 1)
in_more words holds a b c i key h t at right j pos jl = elim (cases_lt j i) [
  | inl below ↦ right_on holds a b (bucket words c j) t (h j pos below)
  | inr above ↦ (let s : j ≡ i = omega (arith, jl, above) in
      let P : ℕ → Type 0 = λ x. IsRight holds b x in
      subst P (at ∙ ap (λ x. bucket words c x) (sym s)) right)
]

pub below_more : (words : List ℕ) (holds : ℕ → Found (Option (List ℕ))) (a b : Bytes) (c : ℕ) → IsRightBelow words holds a c → Towards holds a b → IsRightIn words holds b c 4 → IsRightBelow words holds b (c + 1)
below_more words holds a b c h t right d i dl pos il = elim (cases_lt d c) [
  | inl below ↦ right_on holds a b (bucket words d i) t (h d i below pos il)
  | inr above ↦ (let s : d ≡ c = omega (arith, dl, above) in
      let P : ℕ → Type 0 = λ x. IsRight holds b (bucket words x i) in
      subst P (sym s) (right i pos il))
]

-- the logs of no lane are empty, so that the map is right for them
pub all_logs : (holds : ℕ → Found (Option (List ℕ))) (m : Bytes) (ls : List (List Placed)) → AreRightFor holds m ls (length ls) → (n : ℕ) → IsRightFor holds m (logs_of ls n) (length (logs_of ls n))
all_logs holds m ls h n = elim (cases_lt n (length ls)) [
  | inl lt ↦ h n lt
  | inr le ↦ (let e : length (logs_of ls n) ≡ 0 = ap length (past ls n le) in λ i k p il s auth. absurd (omega (arith, e, il)))
] where
  past : (xs : List (List Placed)) (q : ℕ) → length xs ≤ q → logs_of xs q ≡ []
  past xs q le = grind (arith, common_steps, get_or-eq_default)

pub final_map : (words : List ℕ) (ls : List (List Placed)) (cs : List (List ℕ)) (m0 m1 m2 : Bytes) → AreLogs words 64 ls → AreChains words 4096 cs → m0 ≡ empty
    → Towards (holds_of words ls cs) m0 m1 → AreRightFor (holds_of words ls cs) m1 ls (length ls) → Towards (holds_of words ls cs) m1 m2 → IsRightBelow words (holds_of words ls cs) m2 8192 → HoldsMap words m2
final_map words ls cs m0 m1 m2 a b start t inlogs u below =
    let holds : ℕ → Found (Option (List ℕ)) = holds_of words ls cs in
    let P : Bytes → Type 0 = λ m. Towards holds m m2 in
    map_of words ls cs m2 a b (subst P start (towards_then holds m0 m1 m2 t u))
    (all_logs holds m2 ls (λ n lt i k p il e auth. right_on holds m1 m2 k u (inlogs n lt i k p il e auth))) below

-- a fault that says one thing says what follows
pub says_on : (A B : Type 0) (f : MapFault) → (A → B) → Says_of A f → Says_of B f
says_on A B Unreadable g h = g h
says_on A B OutOfMemory g h = tt
