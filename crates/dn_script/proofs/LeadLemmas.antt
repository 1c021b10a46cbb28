use Rattle.std.proofs.Common.{◌≡◌, ◌&&◌, ℕ, Bool, true, false, cond, Option, Some, None, List, [], ◌∷◌, length, nat_eq, nat_lt, codes, refl, sym, ap, subst, ◌∙◌, arith}
use Rattle.std.proofs.lemmas.Bool.Decides.{nat_tests}
use Rattle.std.specs.Cmp.Lexicographic.{pointwise, same_text}
use Rattle.std.specs.List.{list_all, find}
use Rattle.dn_script.specs.declared.verbs.Verb.{Verb}
use Rattle.dn_script.specs.declared.verbs.Verb.TheVariants as verb
use Rattle.dn_script.specs.declared.rows.Part.{Part}
use Rattle.dn_script.specs.declared.rows.Part.TheVariants as part
use Rattle.dn_script.specs.declared.rows.Form.TheVariants.{Plain, Named, Started, NamedStarted}
use Rattle.dn_script.specs.declared.rows.Row.{Row}
use Rattle.dn_script.specs.declared.rows.Row.TheVariants.{Pool, Nodes, Cache, Get, Put, Delete, Step, Flow, Merge, Monitor, Add, Move, Fence, Takeover, StartMove, StartTakeover, Balance, Remove, Stop, Fuse, Fail, Trim, Tell}
use Rattle.dn_script.specs.Number.{is_digit}
use Rattle.dn_script.specs.Table.{parts_of}
use Rattle.dn_script.specs.Sentence.{is_session, looks_like, begins, is_known, is_begun, row_of}
use Rattle.dn_script.specs.Lead.{call_of, lead_of, if_known}

-- ---- rows that a line doesn't begin

first_fails : (a b c : Bool) → a ≡ false → ((a && b) && c) ≡ false
first_fails true b c h = absurd (cc)
first_fails false b c h = refl

second_fails : (a b c d : Bool) → b ≡ false → ((a && (b && c)) && d) ≡ false
second_fails a true c d h = absurd (cc)
second_fails true false c d h = refl
second_fails false false c d h = refl

-- by its first field
first_other : (verbs : List Verb) (f : List ℕ) (fs : List (List ℕ)) (row : Row) (part : Part) (parts : List Part) → parts_of row ≡ part ∷ parts → looks_like part f ≡ false
    → is_begun verbs (f ∷ fs) row ≡ false
first_other verbs f fs row part parts e h =
    ap (λ (ps : List Part). begins ps (f ∷ fs) && list_all (is_known verbs) ps) e
    ∙ first_fails (looks_like part f) (begins parts fs) (list_all (is_known verbs) (part ∷ parts)) h

-- by its second field
second_other : (verbs : List Verb) (f g : List ℕ) (fs : List (List ℕ)) (row : Row) (part next : Part) (parts : List Part) → parts_of row ≡ part ∷ next ∷ parts → looks_like next g ≡ false
    → is_begun verbs (f ∷ g ∷ fs) row ≡ false
second_other verbs f g fs row part next parts e h =
    ap (λ (ps : List Part). begins ps (f ∷ g ∷ fs) && list_all (is_known verbs) ps) e
    ∙ second_fails (looks_like part f) (looks_like next g) (begins parts fs) (list_all (is_known verbs) (part ∷ next ∷ parts)) h

passes : {b : Bool} {rest found : Option Row} (row : Row) → b ≡ false → rest ≡ found → cond b (Some row) rest ≡ found
passes {b} {rest} {found} row h k = ap (λ c. cond c (Some row) rest) h ∙ k

stops : {b c : Bool} {rest : Option Row} (row : Row) → b ≡ c → rest ≡ None → cond b (Some row) rest ≡ cond c (Some row) None
stops {b} {c} {rest} row h k = ap (λ t. cond t (Some row) rest) h ∙ ap (cond c (Some row)) k

-- ---- a session

-- behind the calls
abbrev words : List Row
words = Step ∷ Flow ∷ Merge ∷ Monitor ∷ Add ∷ Move ∷ Fence ∷ Takeover ∷ StartMove ∷ StartTakeover ∷ Balance ∷ Remove ∷ Stop ∷ Fuse ∷ Fail ∷ Trim ∷ Tell ∷ []

both : (a b : Bool) → (a && b) ≡ true → (a ≡ true) × (b ≡ true)
both true b e = (refl, e)
both false b e = absurd (cc)

-- what a session is none of
record IsOfCalls (verbs : List Verb) (f : List ℕ) : Type 0 where
  pool : looks_like (part.Word verb.Pool) f ≡ false
  nodes : looks_like (part.Word verb.Nodes) f ≡ false
  cache : looks_like (part.Word verb.Cache) f ≡ false
  later : (fs : List (List ℕ)) → find (is_begun verbs (f ∷ fs)) words ≡ None

digit_is_no_letter : (b : ℕ) → is_digit b ≡ true → nat_eq b 97 ≡ false
digit_is_no_letter b h = grind (arith, nat_tests)

of_calls : (verbs : List Verb) (b : ℕ) (rest : List ℕ) → is_digit b ≡ true → IsOfCalls verbs (99 ∷ b ∷ rest)
of_calls verbs b rest h = record {
  pool = refl;
  nodes = refl;
  cache = ap (λ t. t && pointwise nat_eq rest (codes "che")) (digit_is_no_letter b h);
  later = λ fs. refl;
}

session_calls : (verbs : List Verb) (f : List ℕ) → is_session f ≡ true → IsOfCalls verbs f
session_calls verbs [] h = absurd (grind (arith, nat_tests))
session_calls verbs (a ∷ []) h = absurd (grind (arith, nat_tests))
session_calls verbs (a ∷ b ∷ rest) h =
    let tests = both (nat_eq a 99 && nat_lt 1 (length (a ∷ b ∷ rest))) (list_all is_digit (b ∷ rest)) h in
    let led : 99 ≡ a = grind (arith, nat_tests, (both (nat_eq a 99) (nat_lt 1 (length (a ∷ b ∷ rest))) tests.0).0) in
    subst (λ c. IsOfCalls verbs (c ∷ b ∷ rest)) led (of_calls verbs b rest (both (is_digit b) (list_all is_digit rest) tests.1).0)

-- ---- a call

-- no row of the calls that name a lane, or are only begun, nor any behind them
no_later : (verbs : List Verb) (f g : List ℕ) (fs : List (List ℕ)) → IsOfCalls verbs f → looks_like part.Named g ≡ false → looks_like (part.Word verb.Start) g ≡ false
    → find (is_begun verbs (f ∷ g ∷ fs)) (Get Named ∷ Put Named ∷ Delete Named ∷ Get Started ∷ Put Started ∷ Delete Started ∷ Get NamedStarted ∷ Put NamedStarted ∷ Delete NamedStarted ∷ words) ≡ None
no_later verbs f g fs calls lane start =
    passes (Get Named) (second_other verbs f g fs (Get Named) _ _ _ refl lane)
    (passes (Put Named) (second_other verbs f g fs (Put Named) _ _ _ refl lane)
    (passes (Delete Named) (second_other verbs f g fs (Delete Named) _ _ _ refl lane)
    (passes (Get Started) (second_other verbs f g fs (Get Started) _ _ _ refl start)
    (passes (Put Started) (second_other verbs f g fs (Put Started) _ _ _ refl start)
    (passes (Delete Started) (second_other verbs f g fs (Delete Started) _ _ _ refl start)
    (passes (Get NamedStarted) (second_other verbs f g fs (Get NamedStarted) _ _ _ refl lane)
    (passes (Put NamedStarted) (second_other verbs f g fs (Put NamedStarted) _ _ _ refl lane)
    (passes (Delete NamedStarted) (second_other verbs f g fs (Delete NamedStarted) _ _ _ refl lane) (calls.later (g ∷ fs))))))))))

-- no header row
no_header : {rest found : Option Row} (verbs : List Verb) (f : List ℕ) (fs : List (List ℕ)) → IsOfCalls verbs f → rest ≡ found
    → cond (is_begun verbs (f ∷ fs) Pool) (Some Pool) (cond (is_begun verbs (f ∷ fs) Nodes) (Some Nodes) (cond (is_begun verbs (f ∷ fs) Cache) (Some Cache) rest)) ≡ found
no_header verbs f fs calls k =
    passes Pool (first_other verbs f fs Pool _ _ refl calls.pool)
    (passes Nodes (first_other verbs f fs Nodes _ _ refl calls.nodes)
    (passes Cache (first_other verbs f fs Cache _ _ refl calls.cache) k))

-- a key and a value look like anything
key_begins : (fs : List (List ℕ)) → begins (part.Key ∷ []) fs ≡ true
key_begins [] = refl
key_begins (x ∷ xs) = refl

put_begins : (fs : List (List ℕ)) → begins (part.Key ∷ part.Value ∷ []) fs ≡ true
put_begins [] = refl
put_begins (x ∷ []) = refl
put_begins (x ∷ y ∷ zs) = refl

all_begins : (a b c d : Bool) → a ≡ true → b ≡ true → c ≡ true → ((a && (b && c)) && d) ≡ d
all_begins true true true d e f g = refl
all_begins false b c d e f g = absurd (cc)
all_begins true false c d e f g = absurd (cc)
all_begins true true false d e f g = absurd (cc)

get_led : (verbs : List Verb) (f g : List ℕ) (fs : List (List ℕ)) → is_session f ≡ true → g ≡ codes "get" → row_of verbs (f ∷ g ∷ fs) ≡ if_known verbs (Get Plain)
get_led verbs f g fs s e =
    let calls = session_calls verbs f s in
    let looks : (x : Part) → looks_like x g ≡ looks_like x (codes "get") = λ x. ap (looks_like x) e in
    no_header verbs f (g ∷ fs) calls
    (stops (Get Plain) (all_begins (is_session f) (looks_like (part.Word verb.Get) g) (begins (part.Key ∷ []) fs) _ s (looks (part.Word verb.Get)) (key_begins fs))
    (passes (Put Plain) (second_other verbs f g fs (Put Plain) _ _ _ refl (looks (part.Word verb.Put)))
    (passes (Delete Plain) (second_other verbs f g fs (Delete Plain) _ _ _ refl (looks (part.Word verb.Delete)))
    (no_later verbs f g fs calls (looks part.Named) (looks (part.Word verb.Start))))))

put_led : (verbs : List Verb) (f g : List ℕ) (fs : List (List ℕ)) → is_session f ≡ true → g ≡ codes "put" → row_of verbs (f ∷ g ∷ fs) ≡ if_known verbs (Put Plain)
put_led verbs f g fs s e =
    let calls = session_calls verbs f s in
    let looks : (x : Part) → looks_like x g ≡ looks_like x (codes "put") = λ x. ap (looks_like x) e in
    no_header verbs f (g ∷ fs) calls
    (passes (Get Plain) (second_other verbs f g fs (Get Plain) _ _ _ refl (looks (part.Word verb.Get)))
    (stops (Put Plain) (all_begins (is_session f) (looks_like (part.Word verb.Put) g) (begins (part.Key ∷ part.Value ∷ []) fs) _ s (looks (part.Word verb.Put)) (put_begins fs))
    (passes (Delete Plain) (second_other verbs f g fs (Delete Plain) _ _ _ refl (looks (part.Word verb.Delete)))
    (no_later verbs f g fs calls (looks part.Named) (looks (part.Word verb.Start))))))

delete_led : (verbs : List Verb) (f g : List ℕ) (fs : List (List ℕ)) → is_session f ≡ true → g ≡ codes "del" → row_of verbs (f ∷ g ∷ fs) ≡ if_known verbs (Delete Plain)
delete_led verbs f g fs s e =
    let calls = session_calls verbs f s in
    let looks : (x : Part) → looks_like x g ≡ looks_like x (codes "del") = λ x. ap (looks_like x) e in
    no_header verbs f (g ∷ fs) calls
    (passes (Get Plain) (second_other verbs f g fs (Get Plain) _ _ _ refl (looks (part.Word verb.Get)))
    (passes (Put Plain) (second_other verbs f g fs (Put Plain) _ _ _ refl (looks (part.Word verb.Put)))
    (stops (Delete Plain) (all_begins (is_session f) (looks_like (part.Word verb.Delete) g) (begins (part.Key ∷ []) fs) _ s (looks (part.Word verb.Delete)) (key_begins fs))
    (no_later verbs f g fs calls (looks part.Named) (looks (part.Word verb.Start))))))

-- ---- the row that a line leads to

by_word : (verbs : List Verb) (f g : List ℕ) (fs : List (List ℕ)) (row : Row) (get put delete : Bool) → is_session f ≡ true
    → pointwise nat_eq g (codes "get") ≡ get → pointwise nat_eq g (codes "put") ≡ put → pointwise nat_eq g (codes "del") ≡ delete
    → cond get (Some (Get Plain)) (cond put (Some (Put Plain)) (cond delete (Some (Delete Plain)) None)) ≡ Some row
    → row_of verbs (f ∷ g ∷ fs) ≡ if_known verbs row
by_word verbs f g fs row true put delete s a b c e =
    let same : Get Plain ≡ row = cc in subst (λ r. row_of verbs (f ∷ g ∷ fs) ≡ if_known verbs r) same (get_led verbs f g fs s (same_text g (codes "get") (sym a)))
by_word verbs f g fs row false true delete s a b c e =
    let same : Put Plain ≡ row = cc in subst (λ r. row_of verbs (f ∷ g ∷ fs) ≡ if_known verbs r) same (put_led verbs f g fs s (same_text g (codes "put") (sym b)))
by_word verbs f g fs row false false true s a b c e =
    let same : Delete Plain ≡ row = cc in subst (λ r. row_of verbs (f ∷ g ∷ fs) ≡ if_known verbs r) same (delete_led verbs f g fs s (same_text g (codes "del") (sym c)))
by_word verbs f g fs row false false false s a b c e = absurd (cc)

by_session : (verbs : List Verb) (f g : List ℕ) (fs : List (List ℕ)) (row : Row) (b : Bool) → is_session f ≡ b → cond b (call_of g) None ≡ Some row → row_of verbs (f ∷ g ∷ fs) ≡ if_known verbs row
by_session verbs f g fs row true s e =
    by_word verbs f g fs row (pointwise nat_eq g (codes "get")) (pointwise nat_eq g (codes "put")) (pointwise nat_eq g (codes "del")) s refl refl refl e
by_session verbs f g fs row false s e = absurd (cc)

-- the row that the first fields lead to is the one that the line begins, where it is played
pub led : (verbs : List Verb) (fields : List (List ℕ)) (row : Row) → lead_of fields ≡ Some row → row_of verbs fields ≡ if_known verbs row
led verbs [] row e = absurd (cc)
led verbs (f ∷ []) row e = absurd (cc)
led verbs (f ∷ g ∷ fs) row e = by_session verbs f g fs row (is_session f) refl e
