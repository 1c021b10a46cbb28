use Rattle.dn_record.proofs.LookLemmas.{no_record, some_record}
use Rattle.dn_record.proofs.reading.read.Goals as goal

pub returns-in-None-clause-record : goal.returns-in-None-clause-record
returns-in-None-clause-record c = λ r f. no_record r (c.in-None.ensures.record r f)

pub returns-in-Some-clause-record : goal.returns-in-Some-clause-record
returns-in-Some-clause-record c = λ r f. some_record r c.with.result c.in-Some.seen c.look.new.room c.in_ok-room.room (c.in-Some.ensures.record r f) (c.in-Some.ensures.value r f) c.with.ensures
