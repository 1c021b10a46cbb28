use Rattle.dn_record.specs.declared.records.Record.{Record}
use Rattle.dn_record.specs.declared.records.Record.TheVariants as entry
use Rattle.dn_hist.specs.declared.calls.Call.{Call}
use Rattle.dn_hist.specs.declared.calls.Call.TheVariants.{Get, Put, Delete}

-- the record that a put or delete seals; a get seals none
abbrev pub record_of : Call → Record
record_of (Get key) = entry.Delete key
record_of (Put key value) = entry.Put key value
record_of (Delete key) = entry.Delete key
