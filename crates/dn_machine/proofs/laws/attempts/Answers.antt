use Rattle.dn_machine.proofs.Attempts.{made_reply, made_map, unmade_keeps}
use Rattle.dn_machine.proofs.laws.attempts.Goals as goal

pub returns-clause-reply : goal.returns-clause-reply
returns-clause-reply c = λ segments m n l action r map h there next is x. made_reply segments m n l action r map (record { sound = h; there = there; next = next }) is x

pub returns-clause-map : goal.returns-clause-map
returns-clause-map c = λ segments m n l action r map h there next is x. made_map segments m n l action r map (record { sound = h; there = there; next = next }) is x

pub returns-clause-unmade : goal.returns-clause-unmade
returns-clause-unmade c = λ segments m n l action map h there next none x. unmade_keeps segments m n l action map (record { sound = h; there = there; next = next }) none x
