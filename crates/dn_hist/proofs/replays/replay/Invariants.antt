use Rattle.std.proofs.Common.{◌≡◌, take}
use Rattle.dn_hist.specs.Replay.{IsLegal, map_left}
use Rattle.dn_hist.proofs.replays.replay.Given as goal

-- the receipts so far are legal, and the map is theirs
abbrev pub invariant-loop-place : goal.invariant-loop-place
invariant-loop-place l = record {
  legal : IsLegal (take l.place l.receipts);
  map : l.map ≡ map_left (take l.place l.receipts);
}
