use Rattle.std.proofs.Common.{◌≡◌, ◌≤◌, ℕ, Option, Some, None, IfSome, List, [], ◌∷◌, drop, refl, subst, arith, Result, Ok, Err}
use Rattle.dn_script.specs.declared.faults.Cause.{Cause}
use Rattle.dn_script.specs.declared.faults.Cause.TheVariants as cause
use Rattle.dn_script.specs.declared.rows.Part.{Part}
use Rattle.dn_script.specs.declared.rows.Part.TheVariants.{Word, Session, Named, Lane, Key, Value, Segments, Nodes, Units, Count, Actions, Index, From, To}
use Rattle.dn_script.specs.declared.fields.Rules.{Rules}
use Rattle.dn_script.specs.Number.{number_in}
use Rattle.dn_script.specs.Value.{value_of}
use Rattle.dn_script.specs.Said.{Said, unsaid, told, with_word, with_number, with_field, and_then, reading}
use Rattle.dn_script.specs.Fit.{IsValue, IsIn, IsKey, IsLane, IsCount}
use Rattle.dn_script.proofs.ValueFits.{in_range, value_fits, no_bytes}

-- rules with 1,000 sessions or fewer
pub record AreRules (rules : Rules) : Type 0 where
  pub few : 1 ≤ rules.sessions
  pub most : rules.sessions ≤ 1000

-- each number that fields say lies in its range
pub record IsSaid (rules : Rules) (said : Said) : Type 0 where
  pub session : IsIn 1 rules.sessions said.session
  pub named : IfSome said.named IsLane
  pub lane : IsLane said.lane
  pub key : IsKey said.key
  pub value : IsValue said.value
  pub segments : 1 ≤ rules.segments → IsIn 1 rules.segments said.segments
  pub nodes : IsIn 1 63 said.nodes
  pub units : IsIn 0 1000000 said.units
  pub count : IsCount said.count
  pub index : IsIn 0 139 said.index
  pub from : IsIn 1 rules.sessions said.from
  pub to : IsIn 1 rules.sessions said.to

is_in : (least most n : ℕ) → least ≤ n → n ≤ most → IsIn least most n
is_in least most n a b = record { least_of = a; most_of = b }

pub unsaid_fits : (rules : Rules) → AreRules rules → IsSaid rules unsaid
unsaid_fits rules r = record {
  session = is_in 1 rules.sessions 1 (omega arith) r.few;
  named = tt;
  lane = is_in 1 63 1 (omega arith) (omega arith);
  key = ((λ e. absurd (cc)), omega arith);
  value = no_bytes;
  segments = λ some. is_in 1 rules.segments 1 (omega arith) some;
  nodes = is_in 1 63 1 (omega arith) (omega arith);
  units = is_in 0 1000000 4096 (omega arith) (omega arith);
  count = is_in 1 1000000 1 (omega arith) (omega arith);
  index = is_in 0 139 0 (omega arith) (omega arith);
  from = is_in 1 rules.sessions 1 (omega arith) r.few;
  to = is_in 1 rules.sessions 1 (omega arith) r.few;
}

told_fits : {A : Type 0} (rules : Rules) (bad : Cause) (found : Option A) (says : A → Said) (said : Said) → ((x : A) → found ≡ Some x → IsSaid rules (says x)) → told bad found says ≡ Ok said → IsSaid rules said
told_fits rules bad None says said h e = absurd (cc)
told_fits rules bad (Some x) says said h e = let same : says x ≡ said = cc in subst (IsSaid rules) same (h x refl)

key_of : (n : ℕ) → IsIn 1 18446744073709551615 n → IsKey n
key_of n h = ((λ e. absurd (omega (arith, e, h.least_of))), omega (arith, h.most_of))

number_fits : (rules : Rules) (part : Part) (field : List ℕ) (old said : Said) → IsSaid rules old → with_number part field old ≡ Ok said → IsSaid rules said
number_fits rules Nodes field old said h e = told_fits rules cause.Number (number_in 1 63 field) (λ n. record old { nodes = n }) said (λ n f. record { session = h.session; named = h.named; lane = h.lane; key = h.key; value = h.value; segments = h.segments; nodes = in_range 1 63 field n f; units = h.units; count = h.count; index = h.index; from = h.from; to = h.to }) e
number_fits rules Units field old said h e = told_fits rules cause.Number (number_in 0 1000000 field) (λ n. record old { units = n }) said (λ n f. record { session = h.session; named = h.named; lane = h.lane; key = h.key; value = h.value; segments = h.segments; nodes = h.nodes; units = in_range 0 1000000 field n f; count = h.count; index = h.index; from = h.from; to = h.to }) e
number_fits rules Count field old said h e = told_fits rules cause.Number (number_in 1 1000000 field) (λ n. record old { count = n }) said (λ n f. record { session = h.session; named = h.named; lane = h.lane; key = h.key; value = h.value; segments = h.segments; nodes = h.nodes; units = h.units; count = in_range 1 1000000 field n f; index = h.index; from = h.from; to = h.to }) e
number_fits rules Actions field old said h e = told_fits rules cause.Number (number_in 1 1000000 field) (λ n. record old { count = n }) said (λ n f. record { session = h.session; named = h.named; lane = h.lane; key = h.key; value = h.value; segments = h.segments; nodes = h.nodes; units = h.units; count = in_range 1 1000000 field n f; index = h.index; from = h.from; to = h.to }) e
number_fits rules Index field old said h e = told_fits rules cause.Number (number_in 0 139 field) (λ n. record old { index = n }) said (λ n f. record { session = h.session; named = h.named; lane = h.lane; key = h.key; value = h.value; segments = h.segments; nodes = h.nodes; units = h.units; count = h.count; index = in_range 0 139 field n f; from = h.from; to = h.to }) e
number_fits rules (Word verb) field old said h e = absurd (cc)
number_fits rules Session field old said h e = absurd (cc)
number_fits rules Named field old said h e = absurd (cc)
number_fits rules Lane field old said h e = absurd (cc)
number_fits rules Key field old said h e = absurd (cc)
number_fits rules Value field old said h e = absurd (cc)
number_fits rules Segments field old said h e = absurd (cc)
number_fits rules From field old said h e = absurd (cc)
number_fits rules To field old said h e = absurd (cc)

field_fits : (rules : Rules) (part : Part) (field : List ℕ) (old said : Said) → IsSaid rules old → with_field rules part field old ≡ Ok said → IsSaid rules said
field_fits rules (Word verb) field old said h e =
    let same : with_word verb old ≡ said = cc in
    subst (IsSaid rules) same (record { session = h.session; named = h.named; lane = h.lane; key = h.key; value = h.value; segments = h.segments; nodes = h.nodes; units = h.units; count = h.count; index = h.index; from = h.from; to = h.to })
field_fits rules Session field old said h e = told_fits rules cause.Session (number_in 1 rules.sessions (drop 1 field)) (λ n. record old { session = n }) said (λ n f. record { session = in_range 1 rules.sessions (drop 1 field) n f; named = h.named; lane = h.lane; key = h.key; value = h.value; segments = h.segments; nodes = h.nodes; units = h.units; count = h.count; index = h.index; from = h.from; to = h.to }) e
field_fits rules Named field old said h e = told_fits rules cause.Lane (number_in 1 63 (drop 1 field)) (λ n. record old { named = Some n }) said (λ n f. record { session = h.session; named = in_range 1 63 (drop 1 field) n f; lane = h.lane; key = h.key; value = h.value; segments = h.segments; nodes = h.nodes; units = h.units; count = h.count; index = h.index; from = h.from; to = h.to }) e
field_fits rules Lane field old said h e = told_fits rules cause.Lane (number_in 1 63 field) (λ n. record old { lane = n }) said (λ n f. record { session = h.session; named = h.named; lane = in_range 1 63 field n f; key = h.key; value = h.value; segments = h.segments; nodes = h.nodes; units = h.units; count = h.count; index = h.index; from = h.from; to = h.to }) e
field_fits rules Key field old said h e = told_fits rules cause.Key (number_in 1 18446744073709551615 field) (λ n. record old { key = n }) said (λ n f. record { session = h.session; named = h.named; lane = h.lane; key = key_of n (in_range 1 18446744073709551615 field n f); value = h.value; segments = h.segments; nodes = h.nodes; units = h.units; count = h.count; index = h.index; from = h.from; to = h.to }) e
field_fits rules Value field old said h e = told_fits rules cause.Value (value_of field) (λ n. record old { value = n }) said (λ n f. record { session = h.session; named = h.named; lane = h.lane; key = h.key; value = value_fits field n f; segments = h.segments; nodes = h.nodes; units = h.units; count = h.count; index = h.index; from = h.from; to = h.to }) e
field_fits rules Segments field old said h e = told_fits rules cause.Pool (number_in 1 rules.segments field) (λ n. record old { segments = n }) said (λ n f. record { session = h.session; named = h.named; lane = h.lane; key = h.key; value = h.value; segments = λ _. in_range 1 rules.segments field n f; nodes = h.nodes; units = h.units; count = h.count; index = h.index; from = h.from; to = h.to }) e
field_fits rules From field old said h e = told_fits rules cause.Session (number_in 1 rules.sessions field) (λ n. record old { from = n }) said (λ n f. record { session = h.session; named = h.named; lane = h.lane; key = h.key; value = h.value; segments = h.segments; nodes = h.nodes; units = h.units; count = h.count; index = h.index; from = in_range 1 rules.sessions field n f; to = h.to }) e
field_fits rules To field old said h e = told_fits rules cause.Session (number_in 1 rules.sessions field) (λ n. record old { to = n }) said (λ n f. record { session = h.session; named = h.named; lane = h.lane; key = h.key; value = h.value; segments = h.segments; nodes = h.nodes; units = h.units; count = h.count; index = h.index; from = h.from; to = in_range 1 rules.sessions field n f }) e
field_fits rules Nodes field old said h e = number_fits rules Nodes field old said h e
field_fits rules Units field old said h e = number_fits rules Units field old said h e
field_fits rules Count field old said h e = number_fits rules Count field old said h e
field_fits rules Actions field old said h e = number_fits rules Actions field old said h e
field_fits rules Index field old said h e = number_fits rules Index field old said h e

pub then_fits : {A B : Type 0} (P : A → Type 0) (Q : B → Type 0) (read : Result A Cause) (follow : A → Result B Cause) (b : B) → ((a : A) → read ≡ Ok a → P a) → ((a : A) → P a → follow a ≡ Ok b → Q b) → and_then read follow ≡ Ok b → Q b
then_fits P Q (Ok a) follow b h g e = g a (h a refl) e
then_fits P Q (Err bad) follow b h g e = absurd (cc)

pub reading_fits : (rules : Rules) (parts : List Part) (fields : List (List ℕ)) (old said : Said) → IsSaid rules old → reading rules parts fields old ≡ Ok said → IsSaid rules said
reading_fits rules [] fields old said h e = let same : old ≡ said = cc in subst (IsSaid rules) same h
reading_fits rules (part ∷ parts) [] old said h e = let same : old ≡ said = cc in subst (IsSaid rules) same h
reading_fits rules (part ∷ parts) (field ∷ fields) old said h e =
    then_fits (IsSaid rules) (IsSaid rules) (with_field rules part field old) (λ more. reading rules parts fields more) said
    (λ more f. field_fits rules part field old more h f) (λ more k f. reading_fits rules parts fields more said k f) e
