use Rattle.std.specs.Prelude.{ℕ}
use Rattle.dn_io.specs.declared.statuses.Status.{Status}
use Rattle.dn_io.specs.declared.statuses.Status.TheVariants as status

-- the number that a process ends with
abbrev pub code_of : Status → ℕ
code_of status.Ok = 0
code_of status.BadWords = 2
code_of status.ReadFault = 3
code_of status.WriteFault = 4
code_of status.OutOfMemory = 5
code_of status.BadScript = 6
code_of status.TooLong = 7
code_of status.PoolFault = 8
code_of status.IndexFull = 9
