use Rattle.std.proofs.Common.{◌≡◌, drop, map}
use Rattle.dn_callers.specs.Callers.{receipts_of}
use Rattle.dn_hist.specs.Calls.{Bytes}
use Rattle.dn_hist.specs.Replay.{map_from, map_left}
use Rattle.dn_world.specs.Inside.{stands_as}
use Rattle.dn_report.specs.Keys.{HasSameKeys}
use Rattle.dn_report.proofs.key_counts.keys_left.Given as goal

-- the map has the keys of one of which the calls that are left make what all leave
abbrev pub invariant-loop-standing : goal.invariant-loop-standing
invariant-loop-standing l = record {
  of : Bytes;
  left : map_from of (receipts_of (map stands_as (drop l.standing-index l.history))) ≡ map_left (receipts_of (map stands_as l.history));
  same : HasSameKeys l.map of;
}
