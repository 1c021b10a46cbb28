use Rattle.std.specs.Prelude.{ℕ, List, codes}
use Rattle.dn_script.specs.declared.faults.Cause.{Cause}
use Rattle.dn_script.specs.declared.faults.Cause.TheVariants.{Cut, Long, Byte, Verb, Mode, Header, Count, Session, Lane, Key, Value, Pool, Number}

-- the word for a cause
abbrev pub name_of : Cause → List ℕ
name_of Cut = codes "cut"
name_of Long = codes "long"
name_of Byte = codes "byte"
name_of Verb = codes "verb"
name_of Mode = codes "mode"
name_of Header = codes "header"
name_of Count = codes "count"
name_of Session = codes "session"
name_of Lane = codes "lane"
name_of Key = codes "key"
name_of Value = codes "value"
name_of Pool = codes "pool"
name_of Number = codes "number"
