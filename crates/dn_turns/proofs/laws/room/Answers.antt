use Rattle.dn_turns.proofs.Claims.{asking_most, asking_at}
use Rattle.dn_turns.proofs.Room.{room_steps, room_fails}
use Rattle.dn_turns.proofs.laws.room.Goals as goal

pub returns-clause-most : goal.returns-clause-most
returns-clause-most c = asking_most

pub returns-clause-changes : goal.returns-clause-changes
returns-clause-changes c = λ mergers n m l. asking_at mergers n m l.positive l.below

pub returns-clause-steps : goal.returns-clause-steps
returns-clause-steps c = room_steps

pub returns-clause-fails : goal.returns-clause-fails
returns-clause-fails c = room_fails
