use Rattle.std.proofs.Common.{arith}
use Rattle.dn_waiting.proofs.Changes.{nothing_sound, started_sound, loaded_sound, unloaded_sound, answered_sound, taken_up_sound, tasked_sound, released_sound}
use Rattle.dn_waiting.proofs.Stopping.{stopped_sound}
use Rattle.dn_waiting.proofs.laws.changes.Goals as goal

pub returns-clause-opening : goal.returns-clause-opening
returns-clause-opening c = nothing_sound

pub returns-clause-started : goal.returns-clause-started
returns-clause-started c = started_sound

pub returns-clause-loaded : goal.returns-clause-loaded
returns-clause-loaded c = loaded_sound

pub returns-clause-unloaded : goal.returns-clause-unloaded
returns-clause-unloaded c = unloaded_sound

pub returns-clause-answered : goal.returns-clause-answered
returns-clause-answered c = answered_sound

pub returns-clause-taken_up : goal.returns-clause-taken_up
returns-clause-taken_up c = taken_up_sound

pub returns-clause-tasked : goal.returns-clause-tasked
returns-clause-tasked c = tasked_sound

pub returns-clause-released : goal.returns-clause-released
returns-clause-released c = released_sound

pub returns-clause-stopped : goal.returns-clause-stopped
returns-clause-stopped c = λ w lane sound h. stopped_sound w lane sound (omega (arith, h.1))
