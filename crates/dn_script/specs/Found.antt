use Rattle.std.specs.Prelude.{ℕ, List, [], Option, Some, None, Result, Ok, Err}
use Rattle.std.specs.Borrow.{Bor}
use Rattle.dn_script.specs.declared.faults.Cause.{Cause}
use Rattle.dn_script.specs.declared.fields.Found.{Found}
use Rattle.dn_script.specs.Spelled.{bytes_of}
use Rattle.dn_script.specs.Said.{Said}
use Rattle.dn_script.specs.Sentence.{fields_of}

-- the fields that are left, where there is a text of them
abbrev pub left_of : Option (Bor (List ℕ)) → List (List ℕ)
left_of None = []
left_of (Some text) = fields_of text.now

-- what was found, without where a value lies in memory
abbrev pub said_by : Found → Said
said_by found = record {
  session = found.session;
  named = found.named;
  start = found.start;
  lane = found.lane;
  key = found.key;
  value = bytes_of found.value;
  segments = found.segments;
  nodes = found.nodes;
  units = found.units;
  count = found.count;
  index = found.index;
  from = found.from;
  to = found.to;
}

abbrev pub said_in : Result Found Cause → Result Said Cause
said_in (Ok found) = Ok (said_by found)
said_in (Err bad) = Err bad
