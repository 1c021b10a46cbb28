use Rattle.std.proofs.Common.{◌≡◌, ◌≤◌, ◌<◌, ◌+◌, ℕ, Bool, true, false, cond, not, Option, Some, None, IfSome, IfOk, List, [], ◌∷◌, length, nat_eq, nat_lt, count_by, refl, subst, arith, Result, Ok, Err}
use Rattle.std.proofs.lemmas.Grind.{common_steps}
use Rattle.std.proofs.lemmas.List.{length-append}
use Rattle.std.specs.List.{list_all}
use Rattle.dn_script.specs.declared.faults.Cause.{Cause}
use Rattle.dn_script.specs.declared.faults.Cause.TheVariants as cause
use Rattle.dn_script.specs.declared.verbs.Verb.{Verb}
use Rattle.dn_script.specs.declared.rows.Row.{Row}
use Rattle.dn_script.specs.declared.meanings.Header.{Header}
use Rattle.dn_script.specs.declared.meanings.Meaning.{Meaning}
use Rattle.dn_script.specs.declared.meanings.Meaning.TheVariants as gives
use Rattle.dn_script.specs.declared.fields.Rules.{Rules}
use Rattle.dn_script.specs.Number.{is_within}
use Rattle.dn_script.specs.Sentence.{fields_of, row_of, judged, judged_by, is_idle, line_meaning}
use Rattle.dn_script.specs.Script.{BadLine, Draft, with_meaning, numbered, is_late, drafted}
use Rattle.dn_script.proofs.SaidFits.{then_fits}

-- What holds of all that lines give holds of the script.

-- ---- one line
sentence_gives : (P : Meaning → Type 0) (rules : Rules) (header : Header) (late : Bool) (fields : List (List ℕ)) (row : Option Row) (meaning : Option Meaning)
    → ((r : Row) (m : Meaning) → row ≡ Some r → judged rules header late fields r ≡ Ok m → P m) → judged_by rules header late fields row ≡ Ok meaning → IfSome meaning P
sentence_gives P rules header late fields None meaning h e = absurd (cc)
sentence_gives P rules header late fields (Some row) meaning h e =
    then_fits P (λ m. IfSome m P) (judged rules header late fields row) (λ m. Ok (Some m)) meaning (λ m f. h row m refl f)
    (λ m k f. let same : Some m ≡ meaning = cc in subst (λ x. IfSome x P) same k) e

line_by : (P : Meaning → Type 0) (rules : Rules) (header : Header) (late : Bool) (a b c : Bool) (fields : List (List ℕ)) (row : Option Row) (meaning : Option Meaning)
    → ((r : Row) (m : Meaning) → row ≡ Some r → judged rules header late fields r ≡ Ok m → P m)
    → cond a (Err cause.Long) (cond b (Err cause.Byte) (cond c (Ok None) (judged_by rules header late fields row))) ≡ Ok meaning → IfSome meaning P
line_by P rules header late true b c fields row meaning h e = absurd (cc)
line_by P rules header late false true c fields row meaning h e = absurd (cc)
line_by P rules header late false false true fields row meaning h e = let same : None ≡ meaning = cc in subst (λ x. IfSome x P) same tt
line_by P rules header late false false false fields row meaning h e = sentence_gives P rules header late fields row meaning h e

pub line_gives : (P : Meaning → Type 0) (verbs : List Verb) (rules : Rules) (header : Header) (late : Bool) (line : List ℕ) (meaning : Option Meaning)
    → ((r : Row) (m : Meaning) → row_of verbs (fields_of line) ≡ Some r → judged rules header late (fields_of line) r ≡ Ok m → P m)
    → line_meaning verbs rules header late line ≡ Ok meaning → IfSome meaning P
line_gives P verbs rules header late line meaning h e =
    line_by P rules header late (nat_lt 4096 (length line)) (not (list_all (is_within 32 126) line)) (is_idle line) (fields_of line) (row_of verbs (fields_of line)) meaning h e

-- ---- all lines

-- one line more at most
longer : (draft : Draft) (meaning : Option Meaning) → length (with_meaning draft meaning).lines ≤ length draft.lines + 1
longer draft None = omega arith
longer draft (Some (gives.Segments n)) = omega arith
longer draft (Some (gives.Nodes n)) = omega arith
longer draft (Some (gives.Units n)) = omega arith
longer draft (Some (gives.Line line)) = omega (arith, length-append draft.lines (line ∷ []))

-- a draft of which this holds, with one line more at most for each text that ends with a newline
pub record Grows (D : Draft → Type 0) (lines texts : ℕ) (draft : Draft) : Type 0 where
  pub fit : D draft
  pub few : length draft.lines < lines + texts

numbered_fits : (P : Draft → Type 0) (number : ℕ) (read : Result (Option Meaning) Cause) (follow : Option Meaning → Result Draft BadLine) (draft : Draft)
    → ((meaning : Option Meaning) → read ≡ Ok meaning → follow meaning ≡ Ok draft → P draft) → numbered number read follow ≡ Ok draft → P draft
numbered_fits P number (Ok meaning) follow draft h e = h meaning refl e
numbered_fits P number (Err bad) follow draft h e = absurd (cc)

last_fits : (D : Draft → Type 0) (bad : BadLine) (b : Bool) (old draft : Draft) → D old → cond b (Ok old) (Err bad) ≡ Ok draft → Grows D (length old.lines) 1 draft
last_fits D bad true old draft d e = let same : old ≡ draft = cc in subst (Grows D (length old.lines) 1) same (record { fit = d; few = omega arith })
last_fits D bad false old draft d e = absurd (cc)

pub drafted_keeps : (P : Meaning → Type 0) (D : Draft → Type 0) (verbs : List Verb) (rules : Rules)
    → ((draft : Draft) (meaning : Option Meaning) → D draft → IfSome meaning P → D (with_meaning draft meaning))
    → ((header : Header) (late : Bool) (line : List ℕ) (meaning : Option Meaning) → line_meaning verbs rules header late line ≡ Ok meaning → IfSome meaning P)
    → (number : ℕ) (old draft : Draft) (texts : List (List ℕ)) → D old → 0 < length texts
    → drafted verbs rules number old texts ≡ Ok draft → Grows D (length old.lines) (length texts) draft
drafted_keeps P D verbs rules step line_has number old draft [] d some e = absurd (omega (arith, some))
drafted_keeps P D verbs rules step line_has number old draft (last ∷ []) d some e = last_fits D (record { line = number; cause = cause.Cut }) (nat_eq (length last) 0) old draft d e
drafted_keeps P D verbs rules step line_has number old draft (line ∷ next ∷ more) d some e =
    numbered_fits (Grows D (length old.lines) (length (line ∷ next ∷ more))) number (line_meaning verbs rules old.header (is_late old) line)
    (λ meaning. drafted verbs rules (number + 1) (with_meaning old meaning) (next ∷ more)) draft
    (λ meaning f g.
    let kept = step old meaning d (line_has old.header (is_late old) line meaning f) in
    let rest = drafted_keeps P D verbs rules step line_has (number + 1) (with_meaning old meaning) draft (next ∷ more) kept (omega arith) g in
    record { fit = rest.fit; few = omega (arith, rest.few, longer old meaning) }) e

pub count_few : (p : ℕ → Bool) (xs : List ℕ) → count_by p xs ≤ length xs
count_few p xs = grind (arith, common_steps)

-- ---- an answer
pub if_ok : {A E : Type 0} {P Q : A → Type 0} (result : Result A E) → ((a : A) → P a → Q a) → IfOk result P → IfOk result Q
if_ok (Ok a) f h = f a h
if_ok (Err e) f h = tt
