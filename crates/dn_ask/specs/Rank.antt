use Rattle.std.specs.Prelude.{ℕ, Bool, true, false}
use Rattle.dn_plan.specs.Rank as call
use Rattle.dn_tend.specs.Rank as task
use Rattle.dn_ask.specs.declared.asks.Act.{Act}
use Rattle.dn_ask.specs.declared.asks.Act.TheVariants as act
use Rattle.dn_ask.specs.declared.asks.Locate.{Locate}
use Rattle.dn_ask.specs.declared.asks.Locate.TheVariants as locate
use Rattle.dn_ask.specs.declared.asks.FindRoom.{FindRoom}
use Rattle.dn_ask.specs.declared.asks.FindRoom.TheVariants as find
use Rattle.dn_ask.specs.declared.asks.Seal.{Seal}
use Rattle.dn_ask.specs.declared.asks.Seal.TheVariants as seal
use Rattle.dn_ask.specs.declared.asks.Then.{Then}
use Rattle.dn_ask.specs.declared.asks.Then.TheVariants as thence
use Rattle.dn_ask.specs.declared.asks.After.{After}
use Rattle.dn_ask.specs.declared.asks.After.TheVariants as after
use Rattle.dn_ask.specs.declared.asks.Next.{Next}
use Rattle.dn_ask.specs.declared.asks.Next.TheVariants as next

-- Each step leads to a lower rank, so that a plan ends after so many waits.
abbrev pub rank_act : Act → ℕ
rank_act (act.Call phase) = call.rank_act phase
rank_act (act.Task phase) = task.rank_act phase

abbrev pub rank_locate : Locate → ℕ
rank_locate (locate.Call phase) = call.rank_locate phase
rank_locate (locate.Task phase) = 8

abbrev pub rank_room : FindRoom → ℕ
rank_room (find.Call phase) = call.rank_room phase
rank_room (find.Task phase) = 6

abbrev pub rank_seal : Seal → ℕ
rank_seal (seal.Call phase) = call.rank_seal phase
rank_seal (seal.Task phase) = 2

abbrev pub rank_then : Then → ℕ
rank_then (thence.Act wait) = rank_act wait
rank_then (thence.Seal wait) = rank_seal wait
rank_then (thence.End ending) = 0

abbrev pub rank_after : After → ℕ
rank_after (after.Room wait) = rank_room wait
rank_after (after.Then to) = rank_then to

abbrev pub rank_next : Next → ℕ
rank_next (next.Locate wait) = rank_locate wait
rank_next (next.After to) = rank_after to

-- How many records a plan may still seal. Words wait for one only where it has it sealed.
abbrev pub records_act : Act → ℕ
records_act (act.Call phase) = call.records_act phase
records_act (act.Task phase) = task.records_act phase

abbrev pub records_locate : Locate → ℕ
records_locate (locate.Call phase) = call.records_locate phase
records_locate (locate.Task phase) = 1

abbrev pub records_room : FindRoom → ℕ
records_room (find.Call phase) = call.records_room phase
records_room (find.Task phase) = 1

abbrev pub records_seal : Seal → ℕ
records_seal (seal.Call phase) = call.records_seal phase
records_seal (seal.Task phase) = 1

abbrev pub records_then : Then → ℕ
records_then (thence.Act wait) = records_act wait
records_then (thence.Seal wait) = records_seal wait
records_then (thence.End ending) = 0

abbrev pub records_after : After → ℕ
records_after (after.Room wait) = records_room wait
records_after (after.Then to) = records_then to

abbrev pub records_next : Next → ℕ
records_next (next.Locate wait) = records_locate wait
records_next (next.After to) = records_after to

-- Whether room was found before a wait, for a record that isn't sealed yet.
abbrev pub has_room_act : Act → Bool
has_room_act (act.Call phase) = call.has_room_act phase
has_room_act (act.Task phase) = task.has_room_act phase

abbrev pub has_room_then : Then → Bool
has_room_then (thence.Act wait) = has_room_act wait
has_room_then (thence.Seal wait) = true
has_room_then (thence.End ending) = false

abbrev pub has_room_after : After → Bool
has_room_after (after.Room wait) = false
has_room_after (after.Then to) = has_room_then to

abbrev pub has_room_next : Next → Bool
has_room_next (next.Locate wait) = false
has_room_next (next.After to) = has_room_after to
