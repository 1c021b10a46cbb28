use Rattle.std.specs.Prelude.{ℕ, List, [], ◌∷◌, Option, Some, None, if◌then◌else◌}
use Rattle.std.specs.List.{list_all}
use Rattle.dn_script.specs.declared.verbs.Verb.{Verb}
use Rattle.dn_script.specs.declared.verbs.Verb.TheVariants as verb
use Rattle.dn_script.specs.declared.rows.Part.TheVariants as part
use Rattle.dn_script.specs.declared.rows.Form.TheVariants.{Plain}
use Rattle.dn_script.specs.declared.rows.Row.{Row}
use Rattle.dn_script.specs.declared.rows.Row.TheVariants.{Get, Put, Delete}
use Rattle.dn_script.specs.Table.{parts_of}
use Rattle.dn_script.specs.Sentence.{is_session, looks_like, is_known}

-- Which row the first fields of a line lead to, if they do: no line that begins so begins another row.

-- the row of a call that is run to its answer and names no lane, by the field of its word
abbrev pub call_of : List ℕ → Option Row
call_of field =
    if looks_like (part.Word verb.Get) field then Some (Get Plain)
    else (if looks_like (part.Word verb.Put) field then Some (Put Plain)
    else (if looks_like (part.Word verb.Delete) field then Some (Delete Plain) else None))

abbrev pub lead_of : List (List ℕ) → Option Row
lead_of [] = None
lead_of (first ∷ []) = None
lead_of (first ∷ second ∷ more) = if is_session first then call_of second else None

-- the row, where all of it is played
abbrev pub if_known : List Verb → Row → Option Row
if_known verbs row = if list_all (is_known verbs) (parts_of row) then Some row else None
