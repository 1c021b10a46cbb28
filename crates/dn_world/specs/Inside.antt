use Rattle.std.specs.Prelude.{map}
use Rattle.dn_callers.specs.Callers.{Standing as Stands}
use Rattle.dn_world.specs.State.{CrewState, WorldState}
use Rattle.dn_world.specs.declared.crews.Crew.TheInside.{Inside}
use Rattle.dn_world.specs.declared.worlds.Standing.{Standing}
use Rattle.dn_world.specs.declared.worlds.World.TheInside.{Inside as WithHistory}

abbrev pub state_of : Inside → CrewState
state_of i = record { cluster = i.cluster; waiting = i.waiting; live = i.live.items }

-- the receipts that stand
abbrev pub stands_as : Standing → Stands
stands_as x = record { receipt = x.receipt; answered = x.answered }

abbrev pub world_in : WithHistory → WorldState
world_in i = record { crew = i.crew; history = map stands_as i.standing.items; ended = i.ended.items }
