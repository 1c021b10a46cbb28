use Rattle.std.proofs.Common.{ℕ, zero, suc, ◌≡◌, ◌≤◌, ◌++◌, ◌+◌, List, [], length, Option, refl, sym, ◌∙◌, ap, subst, append_assoc, arith}
use Rattle.std.specs.FinMap.{len}
use Rattle.std.specs.List.Sorted.{IsPermutation}
use Rattle.dn_callers.specs.Callers.{Standing, receipts_of}
use Rattle.dn_drain.specs.Acted.{LeavesActors}
use Rattle.dn_drain.specs.All.{AreDrained, IsLaneFault}
use Rattle.dn_drain.specs.declared.drains.DrainFault.TheVariants as drain
use Rattle.dn_hist.specs.Receipt.{IsInOrder}
use Rattle.dn_hist.specs.Replay.{map_left}
use Rattle.dn_lane.specs.State.{LaneState}
use Rattle.dn_model.specs.PoolMap.{HoldsMap}
use Rattle.dn_model.specs.Regions.{gate, mark}
use Rattle.dn_outcomes.specs.Runs.{after}
use Rattle.dn_outcomes.specs.Sound.{IsWorld}
use Rattle.dn_outcomes.specs.State.{World}
use Rattle.dn_play.specs.At.{IsAt}
use Rattle.dn_play.specs.declared.players.Player.{Player}
use Rattle.dn_play.proofs.Stopping.{words_at}
use Rattle.dn_print.specs.SummaryLine.{lane_text}
use Rattle.dn_run.specs.Counts.{counts_of}
use Rattle.dn_run.specs.Output.{all_events_text, history_text, lanes_text, lane_line, state_by, unanswered_text, unanswered_in}
use Rattle.dn_run.specs.Run.{Run}
use Rattle.dn_run.specs.declared.counts.Counts.{Counts}
use Rattle.dn_report.specs.Counted.{counted_by}
use Rattle.dn_route.specs.CallersOrder.{Told}
use Rattle.dn_waiting.specs.Stops.{waiting_from}
use Rattle.dn_script.specs.declared.scripts.Line.{Line}
use Rattle.dn_word.specs.Gate.{gate_of}
use Rattle.dn_world.specs.Drains.{DrainsAll, FillsIndex}
use Rattle.dn_world.specs.Finishes.{Finishes, HaveEnded}
use Rattle.dn_world.specs.State.{WorldState, world_of}
use Rattle.dn_drain.specs.declared.drains.Merged.{Merged}
use Rattle.dn_world.proofs.Draining.{drains_all, fills_index}
use Rattle.dn_whole.specs.Close.{AreMerged, IsDone, IsDrained, Leaves, Reports}

-- A player at the end of its run is closed.

-- ---- the drain
pub drained_of : (w : World) (lines : List Line) (words : List ℕ) (p : Player) (old : List ℕ) (r : Run) (now : List ℕ) (v : WorldState) (n : ℕ) → IsAt w lines words p old r → Finishes words p.world now v n → IsDrained r n now
drained_of w lines words p old r now v n at fin =
    let f = fin.is r.world.machine.callers.told (subst IsWorld (sym at.world) at.going.sound) in record {
      es = fin.es;
      merges = fin.merges;
      words = ap (λ (x : World). (after x fin.es).machine.words) (sym at.world) ∙ ap (λ (x : World). x.machine.words) (sym f.world);
      map = λ held h. fin.map held (subst (λ (ws : List ℕ). HoldsMap ws held) (words_at w lines words p old r at) h);
    }

pub made_of : (w : World) (lines : List Line) (words : List ℕ) (p : Player) (old : List ℕ) (r : Run) → IsAt w lines words p old r → length p.world.crew.cluster.nodes ≡ r.world.made
made_of w lines words p old r at = ap (λ (x : World). x.made) at.world

pub merged_of : (n : ℕ) (words : List ℕ) (ended : List Merged) → HaveEnded words n ended → AreMerged n words
merged_of n words ended h = record { all = λ k lo hi. (let e = h.each k lo hi in ap (λ (g : ℕ). (gate_of g).len) e.gate_is ∙ e.all ∙ sym e.mark_is) }

-- ---- how far
sound_at : (w : World) (lines : List Line) (words : List ℕ) (p : Player) (old : List ℕ) (r : Run) → IsAt w lines words p old r → IsWorld (world_of words p.world.crew r.world.machine.callers.told p.world.history)
sound_at w lines words p old r at = subst IsWorld (sym at.world) at.going.sound

drains_of : (w : World) (lines : List Line) (words : List ℕ) (p : Player) (old : List ℕ) (r : Run) (now : List ℕ) (v : WorldState) → IsAt w lines words p old r
    → AreDrained words p.world.crew.cluster (length p.world.crew.cluster.nodes) now v.crew.cluster → DrainsAll r.world now
drains_of w lines words p old r now v at h =
    subst (λ (x : World). DrainsAll x now) at.world (drains_all words p.world now v.crew.cluster r.world.machine.callers.told (sound_at w lines words p old r at) h)

pub fills_of : (w : World) (lines : List Line) (words : List ℕ) (p : Player) (old : List ℕ) (r : Run) (now : List ℕ) (v : WorldState) (lane counter : ℕ) → IsAt w lines words p old r
    → length v.crew.cluster.nodes ≡ length p.world.crew.cluster.nodes → IsLaneFault words p.world.crew.cluster now v.crew.cluster (record { lane = lane; fault = drain.IndexFull counter }) → FillsIndex r.world lane counter now
fills_of w lines words p old r now v lane counter at many h =
    let most : lane ≤ length v.crew.cluster.nodes = h.made.1 in
    subst (λ (x : World). FillsIndex x lane counter now) at.world
    (fills_index words p.world now v.crew.cluster r.world.machine.callers.told lane counter (sound_at w lines words p old r at) (omega (arith, most, many)) h)

-- ---- what is printed
abbrev line_of : List ℕ → ℕ → Option LaneState → List ℕ
line_of words n l = lane_text (record { lane = n; state = state_by l (gate words n).fenced; stamp = (gate words n).stamp; len = (gate words n).len; mark = mark words n })

lanes_same : (v w : World) (words : List ℕ) (n : ℕ) → ((k : ℕ) → v.machine.lanes k ≡ w.machine.lanes k) → lanes_text v words n ≡ lanes_text w words n
lanes_same v w words zero same = refl
lanes_same v w words (suc n) same =
    ap (λ (xs : List ℕ). xs ++ lane_line v words (n + 1)) (lanes_same v w words n same) ∙ ap (λ (l : Option LaneState). lanes_text w words n ++ line_of words (n + 1) l) (same (n + 1))

pub lanes_printed : (w : World) (lines : List Line) (words : List ℕ) (p : Player) (old : List ℕ) (r : Run) (now : List ℕ) (v : WorldState) → IsAt w lines words p old r → LeavesActors p.world.crew.cluster v.crew.cluster → length v.crew.cluster.nodes ≡ length p.world.crew.cluster.nodes
    → lanes_text (world_of now v.crew r.world.machine.callers.told v.history) now (length v.crew.cluster.nodes) ≡ lanes_text r.world now r.world.made
lanes_printed w lines words p old r now v at leaves many =
    let lanes = λ (k : ℕ). leaves.lanes k ∙ ap (λ (x : World). x.machine.lanes k) at.world in
    lanes_same (world_of now v.crew r.world.machine.callers.told v.history) r.world now (length v.crew.cluster.nodes) lanes
    ∙ ap (lanes_text r.world now) (many ∙ made_of w lines words p old r at)

waiting_of : (w : World) (lines : List Line) (words : List ℕ) (p : Player) (old : List ℕ) (r : Run) → IsAt w lines words p old r → waiting_from 0 p.world.crew.waiting.calls ≡ unanswered_in r.world
waiting_of w lines words p old r at = ap (λ (x : World). waiting_from 0 x.waiting.calls) at.world

pub events_printed : (w : World) (lines : List Line) (words : List ℕ) (p : Player) (old mid : List ℕ) (r : Run) (calls : List (ℕ × ℕ)) → IsAt w lines words p old r → calls ≡ waiting_from 0 p.world.crew.waiting.calls → mid ≡ old ++ unanswered_text calls → mid ≡ all_events_text r
events_printed w lines words p old mid r calls at are printed =
    printed ∙ ap (λ (o : List ℕ). o ++ unanswered_text calls) at.printed ∙ ap (λ (cs : List (ℕ × ℕ)). r.printed ++ unanswered_text cs) (are ∙ waiting_of w lines words p old r at)

-- ---- all is done
abbrev pub keys : List Standing → ℕ
keys history = len (map_left (receipts_of history))

pub record IsClosed (words : List ℕ) (p : Player) (mid now : List ℕ) (v : WorldState) (calls : List (ℕ × ℕ)) (waiting : ℕ) (old new : List ℕ) : Type 0 where
  pub calls_are : calls ≡ waiting_from 0 p.world.crew.waiting.calls
  pub unanswered : mid ≡ old ++ unanswered_text calls
  pub many : waiting ≡ length calls
  pub finishes : Finishes words p.world now v (length p.world.crew.cluster.nodes)
  pub all : AreDrained words p.world.crew.cluster (length p.world.crew.cluster.nodes) now v.crew.cluster
  pub ended : HaveEnded now (length p.world.crew.cluster.nodes) v.ended
  pub leaves : LeavesActors p.world.crew.cluster v.crew.cluster
  pub lanes : length v.crew.cluster.nodes ≡ length p.world.crew.cluster.nodes
  pub stays : v.history ≡ p.world.history
  pub reports : (told : List Told) → Reports now told v p.counts waiting mid new

pub done_of : (w : World) (lines : List Line) (words : List ℕ) (p : Player) (old mid now new : List ℕ) (r : Run) (v : WorldState) (calls : List (ℕ × ℕ)) (waiting : ℕ) → IsAt w lines words p old r → IsClosed words p mid now v calls waiting old new → IsDone r now new
done_of w lines words p old mid now new r v calls waiting at h =
    let rep = h.reports r.world.machine.callers.told in
    let made = made_of w lines words p old r at in record {
      drained = subst (λ (n : ℕ). IsDrained r n now) made (drained_of w lines words p old r now v (length p.world.crew.cluster.nodes) at h.finishes);
      drains = drains_of w lines words p old r now v at h.all;
      merged = subst (λ (n : ℕ). AreMerged n now) made (merged_of (length p.world.crew.cluster.nodes) now v.ended h.ended);
      history = rep.history;
      once = subst (λ (hs : List Standing). IsPermutation hs rep.history) (h.stays ∙ ap (λ (x : World). x.machine.callers.receipts) at.world) rep.once;
      sorted = rep.sorted;
      output = rep.printed ∙ ap (λ (o : List ℕ). o ++ (history_text rep.history ++ (lanes_text (world_of now v.crew r.world.machine.callers.told v.history) now (length v.crew.cluster.nodes) ++ counted_by p.counts waiting (keys rep.history)))) (events_printed w lines words p old mid r calls at h.calls_are h.unanswered)
          ∙ ap (λ (o : List ℕ). all_events_text r ++ (history_text rep.history ++ (o ++ counted_by p.counts waiting (keys rep.history)))) (lanes_printed w lines words p old r now v at h.leaves h.lanes)
          ∙ ap (λ (c : Counts). all_events_text r ++ (history_text rep.history ++ (lanes_text r.world now r.world.made ++ counted_by c waiting (keys rep.history)))) at.counts
          ∙ ap (λ (n : ℕ). all_events_text r ++ (history_text rep.history ++ (lanes_text r.world now r.world.made ++ counted_by (counts_of r.past) n (keys rep.history)))) (h.many ∙ ap (λ (cs : List (ℕ × ℕ)). length cs) (h.calls_are ∙ waiting_of w lines words p old r at));
    }

-- ---- the summary
pub reports_of : (words : List ℕ) (told : List Told) (w : WorldState) (counts : Counts) (waiting count : ℕ) (old mid both new tail : List ℕ) (history : List Standing)
    → IsPermutation w.history history → IsInOrder (receipts_of history) → tail ≡ lanes_text (world_of words w.crew told w.history) words (length w.crew.cluster.nodes) → mid ≡ old ++ history_text history → both ≡ mid ++ tail
    → count ≡ keys history → new ≡ both ++ counted_by counts waiting count → Reports words told w counts waiting old new
reports_of words told w counts waiting count old mid both new tail history once sorted tails first second counted last =
    let all : List ℕ = lanes_text (world_of words w.crew told w.history) words (length w.crew.cluster.nodes) in record {
      history = history;
      once = once;
      sorted = sorted;
      printed = last ∙ ap (λ (n : ℕ). both ++ counted_by counts waiting n) counted ∙ ap (λ (xs : List ℕ). xs ++ counted_by counts waiting (keys history)) (second ∙ ap (λ (xs : List ℕ). xs ++ tail) first ∙ ap (λ (xs : List ℕ). (old ++ history_text history) ++ xs) tails)
          ∙ append_assoc (old ++ history_text history) all (counted_by counts waiting (keys history)) ∙ append_assoc old (history_text history) (all ++ counted_by counts waiting (keys history));
    }

-- ---- it stops
pub leaves_now : (w : World) (lines : List Line) (words : List ℕ) (p : Player) (old : List ℕ) (r : Run) (now : List ℕ) → IsAt w lines words p old r → now ≡ words → Leaves r now
leaves_now w lines words p old r now at same = record { lanes = 0; es = []; merges = refl; words = words_at w lines words p old r at ∙ sym same }

pub leaves_drained : (r : Run) (n : ℕ) (now : List ℕ) → IsDrained r n now → Leaves r now
leaves_drained r n now h = record { lanes = n; es = h.es; merges = h.merges; words = h.words }
