use Rattle.std.specs.Prelude.{ℕ, ◌||◌, Bool, true, false, List, [], ◌∷◌, Option, Some, None, Result, Ok, Err, drop}
use Rattle.dn_script.specs.declared.faults.Cause.{Cause}
use Rattle.dn_script.specs.declared.faults.Cause.TheVariants as cause
use Rattle.dn_script.specs.declared.verbs.Verb.{Verb}
use Rattle.dn_script.specs.declared.verbs.Verb.TheVariants.{Start}
use Rattle.dn_script.specs.declared.rows.Part.{Part}
use Rattle.dn_script.specs.declared.rows.Part.TheVariants.{Word, Session, Named, Lane, Key, Value, Segments, Nodes, Units, Count, Actions, Index, From, To}
use Rattle.dn_script.specs.declared.fields.Rules.{Rules}
use Rattle.dn_script.specs.Number.{number_in}
use Rattle.dn_script.specs.Value.{value_of}

-- what the fields of a line say, by name
pub record Said : Type 0 where
  pub session : ℕ
  pub named : Option ℕ
  pub start : Bool
  pub lane : ℕ
  pub key : ℕ
  pub value : List ℕ
  pub segments : ℕ
  pub nodes : ℕ
  pub units : ℕ
  pub count : ℕ
  pub index : ℕ
  pub from : ℕ
  pub to : ℕ

-- before a field was read: a count that is left out is 1
abbrev pub unsaid : Said
unsaid =
    record {
      session = 1;
      named = None;
      start = false;
      lane = 1;
      key = 1;
      value = [];
      segments = 1;
      nodes = 1;
      units = 4096;
      count = 1;
      index = 0;
      from = 1;
      to = 1;
    }

-- what a field says, or the cause for which it is bad
abbrev pub told : {A : Type 0} → Cause → Option A → (A → Said) → Result Said Cause
told cause None says = Err cause
told cause (Some found) says = Ok (says found)

-- a word says nothing more, but for `start`
abbrev pub is_start : Verb → Bool
is_start Start = true
is_start _ = false

abbrev pub with_word : Verb → Said → Said
with_word verb said = record said { start = is_start verb || said.start }

-- a number that is no session, lane, key or number of segments
abbrev pub with_number : Part → List ℕ → Said → Result Said Cause
with_number Nodes field said = told cause.Number (number_in 1 63 field) (λ n. record said { nodes = n })
with_number Units field said = told cause.Number (number_in 0 1000000 field) (λ n. record said { units = n })
with_number Count field said = told cause.Number (number_in 1 1000000 field) (λ n. record said { count = n })
with_number Actions field said = told cause.Number (number_in 1 1000000 field) (λ n. record said { count = n })
with_number Index field said = told cause.Number (number_in 0 139 field) (λ n. record said { index = n })
with_number _ field said = Err cause.Number

-- what the field of a part adds to what the fields before it say
abbrev pub with_field : Rules → Part → List ℕ → Said → Result Said Cause
with_field rules (Word verb) field said = Ok (with_word verb said)
with_field rules Session field said =
    told cause.Session (number_in 1 rules.sessions (drop 1 field)) (λ n. record said { session = n })
with_field rules Named field said =
    told cause.Lane (number_in 1 63 (drop 1 field)) (λ n. record said { named = Some n })
with_field rules Lane field said = told cause.Lane (number_in 1 63 field) (λ n. record said { lane = n })
with_field rules Key field said = told cause.Key (number_in 1 18446744073709551615 field) (λ n. record said { key = n })
with_field rules Value field said = told cause.Value (value_of field) (λ bytes. record said { value = bytes })
with_field rules Segments field said =
    told cause.Pool (number_in 1 rules.segments field) (λ n. record said { segments = n })
with_field rules From field said = told cause.Session (number_in 1 rules.sessions field) (λ n. record said { from = n })
with_field rules To field said = told cause.Session (number_in 1 rules.sessions field) (λ n. record said { to = n })
with_field rules part field said = with_number part field said

-- a cause, or what follows from what was read
abbrev pub and_then : {A B : Type 0} → Result A Cause → (A → Result B Cause) → Result B Cause
and_then (Ok read) follow = follow read
and_then (Err bad) follow = Err bad

-- what the fields of these parts say, or the cause of the first bad one
abbrev pub reading : Rules → List Part → List (List ℕ) → Said → Result Said Cause
reading rules [] fields said = Ok said
reading rules (part ∷ parts) [] said = Ok said
reading rules (part ∷ parts) (field ∷ fields) said =
    and_then (with_field rules part field said) (λ more. reading rules parts fields more)
