use Rattle.dn_machine.proofs.Histories as machine
use Rattle.dn_outcomes.proofs.laws.histories.Goals as goal

pub returns-clause-legal : goal.returns-clause-legal
returns-clause-legal c = λ w hs h of. machine.legal w.segments w.machine hs h.machine of

pub returns-clause-order : goal.returns-clause-order
returns-clause-order c = λ w hs h of. machine.callers_order w.segments w.machine hs h.machine of

pub returns-clause-map : goal.returns-clause-map
returns-clause-map c = λ w hs h of. machine.map_is w.segments w.machine hs h.machine of

pub returns-clause-alone : goal.returns-clause-alone
returns-clause-alone c = λ w hs map h of is. machine.map_alone w.segments w.machine hs map h.machine of is
