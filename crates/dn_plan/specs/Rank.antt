use Rattle.std.specs.Prelude.{ℕ, Bool, true, false}
use Rattle.dn_plan.specs.declared.phases.ActPhase.{ActPhase}
use Rattle.dn_plan.specs.declared.phases.ActPhase.TheVariants as at
use Rattle.dn_plan.specs.declared.phases.LocatePhase.{LocatePhase}
use Rattle.dn_plan.specs.declared.phases.LocatePhase.TheVariants as locate
use Rattle.dn_plan.specs.declared.phases.RoomPhase.{RoomPhase}
use Rattle.dn_plan.specs.declared.phases.RoomPhase.TheVariants as find
use Rattle.dn_plan.specs.declared.phases.SealPhase.{SealPhase}
use Rattle.dn_plan.specs.declared.phases.SealPhase.TheVariants as seal
use Rattle.dn_plan.specs.declared.results.Then.{Then}
use Rattle.dn_plan.specs.declared.results.Then.TheVariants as thence
use Rattle.dn_plan.specs.declared.results.After.{After}
use Rattle.dn_plan.specs.declared.results.After.TheVariants as after
use Rattle.dn_plan.specs.declared.results.Next.{Next}
use Rattle.dn_plan.specs.declared.results.Next.TheVariants as next

-- Each step leads to a lower rank, so that a plan ends after so many waits.
abbrev pub rank_act : ActPhase → ℕ
rank_act at.Look = 5
rank_act (at.Gate look located) = 3
rank_act (at.Raise r) = 1

abbrev pub rank_locate : LocatePhase → ℕ
rank_locate (locate.Owner look) = 4

abbrev pub rank_room : RoomPhase → ℕ
rank_room (find.Write r) = 2

abbrev pub rank_seal : SealPhase → ℕ
rank_seal (seal.Write r) = 1

abbrev pub rank_then : Then → ℕ
rank_then (thence.Act phase) = rank_act phase
rank_then (thence.Seal phase) = rank_seal phase
rank_then (thence.End ending) = 0

abbrev pub rank_after : After → ℕ
rank_after (after.Room phase) = rank_room phase
rank_after (after.Then to) = rank_then to

abbrev pub rank_next : Next → ℕ
rank_next (next.Locate phase) = rank_locate phase
rank_next (next.After to) = rank_after to

-- How many records a plan may still seal. Words wait for one only in the phase that has it sealed.
abbrev pub records_act : ActPhase → ℕ
records_act at.Look = 1
records_act (at.Gate look located) = 1
records_act (at.Raise r) = 0

abbrev pub records_locate : LocatePhase → ℕ
records_locate (locate.Owner look) = 1

abbrev pub records_room : RoomPhase → ℕ
records_room (find.Write r) = 1

abbrev pub records_seal : SealPhase → ℕ
records_seal (seal.Write r) = 1

abbrev pub records_then : Then → ℕ
records_then (thence.Act phase) = records_act phase
records_then (thence.Seal phase) = records_seal phase
records_then (thence.End ending) = 0

abbrev pub records_after : After → ℕ
records_after (after.Room phase) = records_room phase
records_after (after.Then to) = records_then to

abbrev pub records_next : Next → ℕ
records_next (next.Locate phase) = records_locate phase
records_next (next.After to) = records_after to

-- Whether room was found before a phase, for a record that isn't sealed yet. Only the finding of room leads from a
-- phase where it wasn't to one where it was, and a record is sealed only there.
abbrev pub has_room_act : ActPhase → Bool
has_room_act at.Look = false
has_room_act (at.Gate look located) = false
has_room_act (at.Raise r) = false

abbrev pub has_room_then : Then → Bool
has_room_then (thence.Act phase) = has_room_act phase
has_room_then (thence.Seal phase) = true
has_room_then (thence.End ending) = false

abbrev pub has_room_after : After → Bool
has_room_after (after.Room phase) = false
has_room_after (after.Then to) = has_room_then to

abbrev pub has_room_next : Next → Bool
has_room_next (next.Locate phase) = false
has_room_next (next.After to) = has_room_after to
