use Rattle.std.proofs.Common.{ℕ, ◌+◌, ◌<◌, ◌≡◌, ◌≢◌, inl, inr, Bool, true, false, ◌&&◌, nat_le, nat_eq, List, [], ◌∷◌, ◌++◌, All, Option, Some, None, if◌then◌else◌, cond, refl, sym, ◌∙◌, ap, subst, arith, append-nil, length, take, get_or}
use Rattle.std.proofs.lemmas.Bool.{false≢true, cases_eq}
use Rattle.std.proofs.lemmas.Bool.Decides.{nat_tests}
use Rattle.std.proofs.lemmas.List.Elements.{filter-append, All-head, All-tail}
use Rattle.std.proofs.lemmas.List.{take_more}
use Rattle.std.specs.FinMap.{get}
use Rattle.std.specs.List.{filter, last_or}
use Rattle.std.specs.Option.{option_and_then}
use Rattle.dn_hist.specs.Calls.{Bytes}
use Rattle.dn_record.specs.Record.{value_of}
use Rattle.dn_record.specs.declared.records.Record.{Record}
use Rattle.dn_record.specs.declared.records.Record.TheVariants.{Put, Delete, Share, Unshare, Loose, LooseDelete, Pad}
use Rattle.dn_model.specs.Same.{SamePool}
use Rattle.dn_model.specs.Regions.{gate, mark, owner, cell, slot_of, IsLane}
use Rattle.dn_model.specs.Log.{Placed, IsLog}
use Rattle.dn_model.specs.Index.{index}
use Rattle.dn_model.specs.Held.{Reads, is_authority, authorities, entry_of, entry_at, unmerged, Says, authority_by, held_by, held_from, held}
use Rattle.dn_model.specs.PoolMap.{HoldsMap}
use Rattle.dn_model.specs.OneLog.{is_plain, left_in, IsOneLog}
use Rattle.dn_model.proofs.HashLaws.{home_below, slot_below}
use Rattle.dn_model.proofs.IndexLaws.{chain_frame, empty_chain, empty_index}
use Rattle.dn_model.proofs.LogLaws.{log_frame}

-- ---- one more record in a log
last_push : {A : Type 0} (o : Option A) (xs : List A) (x : A) → last_or o (xs ++ x ∷ []) ≡ Some x
last_push o [] x = refl
last_push o (y ∷ ys) x = last_push (Some y) ys x

counts : ℕ → ℕ → Placed → Bool
counts k merged p = nat_le merged p.offset && is_authority k p.entry

push_by : (k : ℕ) (p : Placed) (found : List Placed) (b : Bool) → entry_of (last_or None (found ++ cond b (p ∷ []) [])) ≡ (if b then Some p.entry else entry_of (last_or None found))
push_by k p found true = ap entry_of (last_push None found p)
push_by k p found false = ap (λ xs. entry_of (last_or None xs)) (append-nil found)

pub unmerged_push : (k merged : ℕ) (log : List Placed) (p : Placed) → unmerged k merged (log ++ p ∷ []) ≡ (if nat_le merged p.offset && is_authority k p.entry then Some p.entry else unmerged k merged log)
unmerged_push k merged log p =
    ap (λ xs. entry_of (last_or None xs)) (filter-append (λ (q : Placed). nat_le merged q.offset && is_authority k q.entry) log (p ∷ []))
    ∙ push_by k p (authorities k merged log) (nat_le merged p.offset && is_authority k p.entry)

-- what is left where a record is added: its own value at its key
left_by : (k : ℕ) (r : Record) (b : Bool) (old : Option Record) → option_and_then value_of (if b then Some r else old) ≡ (if b then value_of r else option_and_then value_of old)
left_by k r true old = refl
left_by k r false old = refl

pub unmerged_more : (k merged : ℕ) (log : List Placed) (i : ℕ) (p : Placed) → i < length log → p ≡ get_or log i p → unmerged k merged (take (i + 1) log) ≡ (if nat_le merged p.offset && is_authority k p.entry then Some p.entry else unmerged k merged (take i log))
unmerged_more k merged log i p lt e =
    ap (λ xs. unmerged k merged xs) (take_more log i p lt ∙ ap (λ x. take i log ++ x ∷ []) (sym e)) ∙ unmerged_push k merged (take i log) p

-- every offset is past the merged mark of a log that nothing has merged
pub from_start : (offset : ℕ) (b : Bool) → (nat_le 0 offset && b) ≡ b
from_start offset b = grind (arith, nat_tests)

pub left_push : (k : ℕ) (log : List Placed) (p : Placed) → left_in k (log ++ p ∷ []) ≡ (if is_authority k p.entry then value_of p.entry else left_in k log)
left_push k log p =
    ap (λ r. option_and_then value_of r) (unmerged_push k 0 log p ∙ ap (λ b. if b then Some p.entry else unmerged k 0 log) (from_start p.offset (is_authority k p.entry)))
    ∙ left_by k p.entry (is_authority k p.entry) (unmerged k 0 log)

-- ---- what is found in a log is one of its records
abbrev pub Each : (Placed → Type 0) → List Placed → Type 0
Each P [] = Unit {0}
Each P (p ∷ ps) = P p × Each P ps

-- what holds of each record that passes the test holds of the last of these
picked_by : (P : Record → Type 0) (t : Placed → Bool) (o : Option Placed) (p : Placed) (ps : List Placed) (r : Record) (b : Bool) → t p ≡ b → ((q : Record) → entry_of o ≡ Some q → P q) → (t p ≡ true → P p.entry)
    → ((x : Option Placed) → ((q : Record) → entry_of x ≡ Some q → P q) → entry_of (last_or x (filter t ps)) ≡ Some r → P r)
    → entry_of (last_or o (cond b (p ∷ filter t ps) (filter t ps))) ≡ Some r → P r
picked_by P t o p ps r true is first here rest e = rest (Some p) (λ q f. let same : p.entry ≡ q = cc in subst P same (here is)) e
picked_by P t o p ps r false is first here rest e = rest o first e

picked : (P : Record → Type 0) (t : Placed → Bool) (o : Option Placed) (log : List Placed) → ((q : Record) → entry_of o ≡ Some q → P q) → Each (λ p. t p ≡ true → P p.entry) log → (r : Record) → entry_of (last_or o (filter t log)) ≡ Some r → P r
picked P t o [] first each r e = first r e
picked P t o (p ∷ ps) first each r e = picked_by P t o p ps r (t p) refl first each.0 (λ x f g. picked P t x ps f each.1 r g) e

pub unmerged_is : (P : Record → Type 0) (k merged : ℕ) (log : List Placed) → Each (λ p. is_authority k p.entry ≡ true → P p.entry) log → (r : Record) → unmerged k merged log ≡ Some r → P r
unmerged_is P k merged log each r e = picked P (λ (p : Placed). nat_le merged p.offset && is_authority k p.entry) None log (λ q f. absurd (none_some q f)) (weaker log each) r e where
  none_some : (q : Record) → entry_of None ≡ Some q → ⊥
  none_some q f = cc

  weaker : (ps : List Placed) → Each (λ p. is_authority k p.entry ≡ true → P p.entry) ps → Each (λ p. (nat_le merged p.offset && is_authority k p.entry) ≡ true → P p.entry) ps
  weaker [] h = tt
  weaker (p ∷ ps) h = (λ x. h.0 (grind (arith, nat_tests)), weaker ps h.1)

no_entry : {A : Type 0} (q : A) → None ≡ Some q → ⊥
no_entry q f = cc

entry_by : (P : Record → Type 0) (o : ℕ) (p : Placed) (ps : List Placed) (r : Record) (b : Bool) → P p.entry → (entry_at o ps ≡ Some r → P r) → (if b then Some p.entry else entry_at o ps) ≡ Some r → P r
entry_by P o p ps r true here rest f = let same : p.entry ≡ r = cc in subst P same here
entry_by P o p ps r false here rest f = rest f

pub entry_at_is : (P : Record → Type 0) (o : ℕ) (log : List Placed) → Each (λ p. P p.entry) log → (r : Record) → entry_at o log ≡ Some r → P r
entry_at_is P o [] each r e = absurd (no_entry r e)
entry_at_is P o (p ∷ ps) each r e = entry_by P o p ps r (nat_eq p.offset o) each.0 (entry_at_is P o ps each.1 r) e

pub reads_frame : (words now : List ℕ) (logs : ℕ → List Placed) (chains : ℕ → List ℕ) → SamePool words now → Reads words logs chains → Reads now logs chains
reads_frame words now logs chains s h = record {
  logs_are = λ n l. log_frame words now n (logs n) (h.logs_are n l) (s.logs n l);
  no_more = h.no_more;
  chains_are = λ home lt. chain_frame words now home (chains home) lt s.buckets (h.chains_are home lt);
}

-- ---- the pool before anything is merged, moved or shared
abbrev pub only : ℕ → List Placed → ℕ → List Placed
only n log m = if nat_eq m n then log else []

only_own : (n : ℕ) (log : List Placed) → only n log n ≡ log
only_own n log = grind (arith, nat_tests)

only_other : (n : ℕ) (log : List Placed) (m : ℕ) → m ≢ n → only n log m ≡ []
only_other n log m d = grind (arith, nat_tests)

abbrev no_overflow : ℕ → List ℕ
no_overflow home = []

pub one_log_reads : (words : List ℕ) (n : ℕ) (log : List Placed) → IsOneLog words n log → Reads words (only n log) no_overflow
one_log_reads words n log h = record {
  logs_are = λ m l. elim (cases_eq m n) [
    | inl s ↦ (let P : ℕ → Type 0 = λ x. IsLog words x (only n log x) in
        let Q : List Placed → Type 0 = λ x. IsLog words n x in
        subst P (sym s) (subst Q (sym (only_own n log)) h.own))
    | inr d ↦ (let Q : List Placed → Type 0 = λ x. IsLog words m x in
        let z : (gate words m).len ≡ 0 = h.others m l d in
        subst Q (sym (only_other n log m d)) (record { tiled = sym z; covered = λ o lt. absurd (omega (arith, z, lt)) }))
  ];
  no_more = λ m l. only_other n log m (λ e. let P : ℕ → Type 0 = λ x. IsLane x in l (subst P (sym e) h.lane));
  chains_are = λ home lt. empty_chain words home lt h.index;
}

-- a put or delete of k says what is held
plain_held : (words : List ℕ) (logs : ℕ → List Placed) (k : ℕ) (r : Record) → is_authority k r ≡ true → is_plain r ≡ true → held_by (cell words) logs k r ≡ Says (value_of r)
plain_held words logs k (Put key value) a p = refl
plain_held words logs k (Delete key) a p = refl
plain_held words logs k (Share key j opening) a p = absurd (false≢true p)
plain_held words logs k (Unshare key at) a p = absurd (false≢true p)
plain_held words logs k (Loose key value) a p = absurd (false≢true a)
plain_held words logs k (LooseDelete key) a p = absurd (false≢true a)
plain_held words logs k (Pad n) a p = absurd (false≢true a)

record IsPlainOf (k : ℕ) (r : Record) : Type 0 where
  of_key : is_authority k r ≡ true
  plain : is_plain r ≡ true

plain_each : (k : ℕ) (log : List Placed) → All (λ (p : Placed). is_plain p.entry ≡ true) log → Each (λ p. is_authority k p.entry ≡ true → IsPlainOf k p.entry) log
plain_each k [] h = tt
plain_each k (p ∷ ps) h = (λ a. record { of_key = a; plain = All-head (λ (q : Placed). is_plain q.entry ≡ true) p ps h }, plain_each k ps (All-tail (λ (q : Placed). is_plain q.entry ≡ true) p ps h))

one_held : (words : List ℕ) (logs : ℕ → List Placed) (k : ℕ) (found : Option Record) → ((r : Record) → found ≡ Some r → IsPlainOf k r) → held_from (cell words) logs k (authority_by logs k found None) ≡ Says (option_and_then value_of found)
one_held words logs k None h = refl
one_held words logs k (Some r) h = let p = h r refl in plain_held words logs k r p.of_key p.plain

-- what the pool holds at a key is what the log leaves there
pub one_log_held : (words : List ℕ) (n : ℕ) (log : List Placed) (k : ℕ) → 0 < k → IsOneLog words n log → held words (only n log) no_overflow k ≡ Says (left_in k log)
one_log_held words n log k pos h =
    let o : owner words k ≡ n = h.owns (slot_of k) (slot_below k) in
    let at = λ (m : ℕ). unmerged k (mark words m) (only n log m) in
    let u : unmerged k (mark words (owner words k)) (only n log (owner words k)) ≡ unmerged k 0 log =
    ap at o ∙ ap (λ x. unmerged k x (only n log n)) h.merged ∙ ap (λ x. unmerged k 0 x) (only_own n log) in
    ap (λ x. held_from (cell words) (only n log) k (authority_by (only n log) k x (index words [] k))) u
    ∙ ap (λ x. held_from (cell words) (only n log) k (authority_by (only n log) k (unmerged k 0 log) x)) (empty_index words k pos (home_below k) h.index)
    ∙ one_held words (only n log) k (unmerged k 0 log) (unmerged_is (λ r. IsPlainOf k r) k 0 log (plain_each k log h.plain))

-- so the pool's map is what the log leaves at each key
pub one_log_map : (words : List ℕ) (n : ℕ) (log : List Placed) (map : Bytes) → IsOneLog words n log → ((k : ℕ) → 0 < k → get map k ≡ left_in k log) → get map 0 ≡ None → HoldsMap words map
one_log_map words n log map h same none = record {
  logs = only n log;
  chains = no_overflow;
  reads = one_log_reads words n log h;
  holds = λ k pos. one_log_held words n log k pos h ∙ ap Says (sym (same k pos));
  no_key = none;
}
