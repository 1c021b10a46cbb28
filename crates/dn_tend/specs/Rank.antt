use Rattle.std.specs.Prelude.{ℕ, Bool, true, false}
use Rattle.dn_tend.specs.declared.phases.TendAct.{TendAct}
use Rattle.dn_tend.specs.declared.phases.TendAct.TheVariants as at
use Rattle.dn_tend.specs.declared.phases.TendThen.{TendThen}
use Rattle.dn_tend.specs.declared.phases.TendThen.TheVariants as thence
use Rattle.dn_tend.specs.declared.phases.TendAfter.{TendAfter}
use Rattle.dn_tend.specs.declared.phases.TendAfter.TheVariants as after
use Rattle.dn_tend.specs.declared.phases.TendNext.{TendNext}
use Rattle.dn_tend.specs.declared.phases.TendNext.TheVariants as next

-- Each step leads to a lower rank, so that a task ends after so many waits.
abbrev pub rank_act : TendAct → ℕ
rank_act (at.Deed slot) = 2
rank_act (at.GiveUp slot deed) = 1
rank_act at.Mark = 1
rank_act (at.ShareLook key) = 9
rank_act (at.ShareGate key look place) = 7
rank_act (at.Count share) = 5
rank_act (at.Claim share) = 4
rank_act (at.Name share cell) = 3
rank_act (at.Open share cell) = 1
rank_act (at.UnshareLook key) = 9
rank_act (at.UnshareGate unshare) = 7
rank_act (at.Cell unshare gate) = 5
rank_act (at.Close unshare gate seen stamp) = 4

abbrev pub rank_then : TendThen → ℕ
rank_then (thence.Act phase) = rank_act phase
rank_then (thence.Seal phase) = 2
rank_then (thence.Done answer) = 0

abbrev pub rank_after : TendAfter → ℕ
rank_after (after.Room phase) = 6
rank_after (after.Then to) = rank_then to

abbrev pub rank_next : TendNext → ℕ
rank_next (next.Locate phase) = 8
rank_next (next.After to) = rank_after to

-- How many records a task may still seal. Words wait for one only in the phase that has it sealed.
abbrev pub records_act : TendAct → ℕ
records_act (at.Deed slot) = 0
records_act (at.GiveUp slot deed) = 0
records_act at.Mark = 0
records_act (at.ShareLook key) = 1
records_act (at.ShareGate key look place) = 1
records_act (at.Count share) = 1
records_act (at.Claim share) = 1
records_act (at.Name share cell) = 1
records_act (at.Open share cell) = 0
records_act (at.UnshareLook key) = 1
records_act (at.UnshareGate unshare) = 1
records_act (at.Cell unshare gate) = 1
records_act (at.Close unshare gate seen stamp) = 1

abbrev pub records_then : TendThen → ℕ
records_then (thence.Act phase) = records_act phase
records_then (thence.Seal phase) = 1
records_then (thence.Done answer) = 0

abbrev pub records_after : TendAfter → ℕ
records_after (after.Room phase) = 1
records_after (after.Then to) = records_then to

abbrev pub records_next : TendNext → ℕ
records_next (next.Locate phase) = 1
records_next (next.After to) = records_after to

-- Whether room was found before a phase, for a record that isn't sealed yet. Only the finding of room leads from a
-- phase where it wasn't to one where it was, and a record is sealed only there.
abbrev pub has_room_act : TendAct → Bool
has_room_act (at.Deed slot) = false
has_room_act (at.GiveUp slot deed) = false
has_room_act at.Mark = false
has_room_act (at.ShareLook key) = false
has_room_act (at.ShareGate key look place) = false
has_room_act (at.Count share) = true
has_room_act (at.Claim share) = true
has_room_act (at.Name share cell) = true
has_room_act (at.Open share cell) = false
has_room_act (at.UnshareLook key) = false
has_room_act (at.UnshareGate unshare) = false
has_room_act (at.Cell unshare gate) = true
has_room_act (at.Close unshare gate seen stamp) = true

abbrev pub has_room_then : TendThen → Bool
has_room_then (thence.Act phase) = has_room_act phase
has_room_then (thence.Seal phase) = true
has_room_then (thence.Done answer) = false

abbrev pub has_room_after : TendAfter → Bool
has_room_after (after.Room phase) = false
has_room_after (after.Then to) = has_room_then to

abbrev pub has_room_next : TendNext → Bool
has_room_next (next.Locate phase) = false
has_room_next (next.After to) = has_room_after to
