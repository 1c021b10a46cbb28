use Rattle.dn_learnt.proofs.Lessons.{begins, stops, learns_last}
use Rattle.dn_learnt.proofs.laws.lasting.Goals as goal

pub returns-clause-begin : goal.returns-clause-begin
returns-clause-begin c = begins

pub returns-clause-stop : goal.returns-clause-stop
returns-clause-stop c = stops

pub returns-clause-lasts : goal.returns-clause-lasts
returns-clause-lasts c = learns_last
