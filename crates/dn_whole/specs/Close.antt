use Rattle.std.specs.Prelude.{◌≡◌, ◌≤◌, ℕ, List, [], ◌++◌, length}
use Rattle.std.specs.FinMap.{len}
use Rattle.std.specs.List.Sorted.{IsPermutation}
use Rattle.dn_callers.specs.Callers.{Standing, receipts_of}
use Rattle.dn_drain.specs.Drained.{IsFull}
use Rattle.dn_hist.specs.Calls.{Bytes}
use Rattle.dn_hist.specs.Receipt.{IsInOrder}
use Rattle.dn_hist.specs.Replay.{map_left}
use Rattle.dn_model.specs.PoolMap.{HoldsMap}
use Rattle.dn_model.specs.Regions.{gate, mark}
use Rattle.dn_outcomes.specs.Runs.{after}
use Rattle.dn_outcomes.specs.State.{World}
use Rattle.dn_outcomes.specs.declared.events.Event.{Event}
use Rattle.dn_play.specs.At.{IsAt, IsFollowed}
use Rattle.dn_play.specs.declared.players.Player.{Player}
use Rattle.dn_play.specs.declared.stops.Stop.{Stop}
use Rattle.dn_play.specs.declared.stops.Stop.TheVariants as stop
use Rattle.dn_report.specs.Counted.{counted_by}
use Rattle.dn_route.specs.CallersOrder.{Told}
use Rattle.dn_run.specs.Output.{output_of, all_events_text, history_text, lanes_text}
use Rattle.dn_run.specs.Run.{Run}
use Rattle.dn_run.specs.declared.counts.Counts.{Counts}
use Rattle.dn_script.specs.declared.scripts.Line.{Line}
use Rattle.dn_world.specs.Drains.{DrainsAll, FillsIndex}
use Rattle.dn_world.specs.Finishes.{AreMerges}
use Rattle.dn_world.specs.State.{WorldState, world_of}
use Rattle.dn_whole.specs.declared.ends.End.{End}
use Rattle.dn_whole.specs.declared.ends.End.TheVariants.{Done, Long, IndexFull}

-- The end of a play whose run is over.

-- Of a finished world all is printed that follows the calls without an answer, by this history: all that stands, in order.
pub record Reports (words : List ℕ) (told : List Told) (w : WorldState) (counts : Counts) (waiting : ℕ) (old new : List ℕ) : Type 0 where
  pub history : List Standing
  pub once : IsPermutation w.history history
  pub sorted : IsInOrder (receipts_of history)
  pub printed : new ≡ old ++ (history_text history
      ++ (lanes_text (world_of words w.crew told w.history) words (length w.crew.cluster.nodes)
      ++ counted_by counts waiting (len (map_left (receipts_of history)))))

-- ---- the drain
-- Since the run is over, the mergers of lanes 1 to n alone have acted, and this is what they left of the words, which hold the
-- map that they held.
pub record IsDrained (r : Run) (n : ℕ) (now : List ℕ) : Type 0 where
  pub es : List (Event × List ℕ)
  pub merges : AreMerges n es
  pub words : (after r.world es).machine.words ≡ now
  pub map : (held : Bytes) → HoldsMap r.world.machine.words held → HoldsMap now held

-- all that a lane has sealed is merged
pub record AreMerged (n : ℕ) (words : List ℕ) : Type 0 where
  pub all : (k : ℕ) → 1 ≤ k → k ≤ n → (gate words k).len ≡ mark words k

-- ---- how it ends
pub record IsDone (r : Run) (now out : List ℕ) : Type 0 where
  pub drained : IsDrained r r.world.made now
  pub drains : DrainsAll r.world now
  pub merged : AreMerged r.world.made now
  pub history : List Standing
  pub once : IsPermutation r.world.machine.callers.receipts history
  pub sorted : IsInOrder (receipts_of history)
  pub output : out ≡ output_of r now history

-- by the last action of this lane's merger
pub record IsIndexFull (r : Run) (now out : List ℕ) : Type 0 where
  pub lane : ℕ
  pub counter : ℕ
  pub drained : IsDrained r lane now
  pub fills : FillsIndex r.world lane counter now
  pub full : IsFull now lane counter
  pub output : out ≡ all_events_text r

abbrev pub Ends : Run → List ℕ → List ℕ → End → Type 0
Ends r now out Done = IsDone r now out
Ends r now out Long = ⊥
Ends r now out IndexFull = IsIndexFull r now out

-- or stops: the words are those after some actions of mergers
pub record Leaves (r : Run) (now : List ℕ) : Type 0 where
  pub lanes : ℕ
  pub es : List (Event × List ℕ)
  pub merges : AreMerges lanes es
  pub words : (after r.world es).machine.words ≡ now

abbrev pub Stops : Run → List ℕ → Stop → Type 0
Stops r now stop.Long = ⊥
Stops r now stop.Pool = Unit {0}
Stops r now stop.OutOfMemory = Leaves r now

-- whatever run the player is at the end of
pub record Closes (words : List ℕ) (p : Player) (old now new : List ℕ) (end : End) : Type 0 where
  pub is : (w : World) (lines : List Line) (r : Run) → IsAt w lines words p old r → IsFollowed r [] → Ends r now new end

pub record StopsClose (words : List ℕ) (p : Player) (old now : List ℕ) (stop : Stop) : Type 0 where
  pub is : (w : World) (lines : List Line) (r : Run) → IsAt w lines words p old r → IsFollowed r [] → Stops r now stop
