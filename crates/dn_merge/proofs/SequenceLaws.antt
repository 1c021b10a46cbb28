use Rattle.std.proofs.Common.{◌≡◌, ℕ, ◌+◌, ◌==◌, Option, Some, None, Bool, true, false, if◌then◌else◌, refl}
use Rattle.dn_word.specs.Gate.{gate_of}
use Rattle.dn_record.specs.Head.{head_words}
use Rattle.dn_record.specs.Reading.{head_in}
use Rattle.dn_record.specs.declared.heads.Head.{Head}
use Rattle.dn_record.specs.declared.heads.Head.TheVariants as head
use Rattle.dn_model.specs.Regions.{home_of, place_in}
use Rattle.dn_model.specs.Program.{Program, Return, ◌>>=◌, Turn, Goes, Ends, Runs, lifted}
use Rattle.dn_model.proofs.ProgramLaws.{runs_then}
use Rattle.dn_index.specs.Walk.{Walking, begun, walk_next, walk_turn, walk_after}
use Rattle.dn_index.specs.Sequence.{set_program, remove_program, turn_by, walk_taken, Walks}
use Rattle.dn_index.specs.declared.places.Errand.TheVariants as errand
use Rattle.dn_index.specs.declared.places.WalkTurn.{WalkTurn}
use Rattle.dn_index.specs.declared.places.WalkTurn.TheVariants as walk
use Rattle.dn_index.proofs.SequenceLaws.{set_run, remove_run}
use Rattle.dn_merge.specs.Merge.{Merging, started, ended, on, change_of, by_change, headed, walked, merge_next}
use Rattle.dn_merge.specs.Sequence.{pass, pass_after, set_by, remove_by, by_kind, by_header, record_at, sequence, turn_at, merge_taken, Merges}
use Rattle.dn_merge.specs.declared.places.Change.TheVariants.{Set, Remove}
use Rattle.dn_merge.specs.declared.places.MergePlace.{MergePlace}
use Rattle.dn_merge.specs.declared.places.MergePlace.TheVariants as at
use Rattle.dn_merge.specs.declared.mergers.MergeTurn.{MergeTurn}
use Rattle.dn_merge.specs.declared.mergers.MergeTurn.TheVariants.{Idle, IndexFull}
use Rattle.dn_merge.specs.declared.steps.MergeStep.{MergeStep}

abbrev Ran : Program MergeTurn → Turn Merging MergeTurn → Type 0
Ran program turn = Runs merge_next merge_taken program turn

-- the merger of a lane at a place
abbrev merging : ℕ → MergePlace → Merging
merging lane place = record { lane = lane; place = place }

-- the turn that a step is
abbrev stepped : ℕ → MergeStep → Turn Merging MergeTurn
stepped lane step = turn_at step.turn (merging lane step.place) step.place

-- ---- the store of the mark
pass_run : (lane to : ℕ) → Ran (pass lane to) (Goes (merging lane (at.Pass to)))
pass_run lane to = (merging lane (at.Pass to), refl, refl, λ old. refl)

-- ---- the walk within the merger
-- how the merger goes on once the walk has ended
abbrev walk_ended : ℕ → ℕ → WalkTurn → Turn Merging MergeTurn
walk_ended lane to walk.More = Goes (merging lane (at.Pass to))
walk_ended lane to (walk.Found place) = Goes (merging lane (at.Pass to))
walk_ended lane to walk.Absent = Goes (merging lane (at.Pass to))
walk_ended lane to walk.Written = Goes (merging lane (at.Pass to))
walk_ended lane to (walk.IndexFull counter) = Ends (IndexFull counter)

walk_step : (lane to : ℕ) (turn : WalkTurn) (w : Walking)
    → stepped lane (walked to turn w) ≡ lifted (λ v. merging lane (at.Walk to v)) (walk_ended lane to) (turn_by turn w)
walk_step lane to walk.More w = refl
walk_step lane to (walk.Found place) w = refl
walk_step lane to walk.Absent w = refl
walk_step lane to walk.Written w = refl
walk_step lane to (walk.IndexFull counter) w = refl

pass_after_run : (lane to : ℕ) (turn : WalkTurn) → Ran (pass_after lane to turn) (walk_ended lane to turn)
pass_after_run lane to walk.More = pass_run lane to
pass_after_run lane to (walk.Found place) = pass_run lane to
pass_after_run lane to walk.Absent = pass_run lane to
pass_after_run lane to walk.Written = pass_run lane to
pass_after_run lane to (walk.IndexFull counter) = refl

-- the merger does what its walk does, and then goes on
walk_run : (lane to : ℕ) (w : Walking) (program : Program WalkTurn) → Walks w program
    → Ran (program >>= λ turn. pass_after lane to turn) (Goes (merging lane (at.Walk to w)))
walk_run lane to w program h =
    runs_then walk_next walk_taken merge_next merge_taken (λ v. merging lane (at.Walk to v)) (walk_ended lane to) (λ v. refl)
    (λ v word. walk_step lane to (walk_turn v word) (walk_after v word))
    program (λ turn. pass_after lane to turn) (Goes w) h.runs (λ turn. pass_after_run lane to turn)

-- ---- the record at the mark
set_by_run : (lane mark from to : ℕ) → Ran (set_by lane mark from to) (Goes (merging lane (at.Key mark from to Set)))
set_by_run lane mark from to = (
  merging lane (at.Key mark from to Set),
  refl,
  refl,
  λ key. walk_run lane to (begun key (home_of key) (errand.Set (record { lane = lane; offset = mark }))) (set_program key (record { lane = lane; offset = mark })) (set_run key (record { lane = lane; offset = mark })),
)

remove_by_run : (lane mark from to : ℕ) → Ran (remove_by lane from to) (Goes (merging lane (at.Key mark from to Remove)))
remove_by_run lane mark from to = (
  merging lane (at.Key mark from to Remove),
  refl,
  refl,
  λ key. walk_run lane to (begun key (home_of key) errand.Remove) (remove_program key) (remove_run key),
)

kind_run : (lane mark from to : ℕ) (found : Head) → Ran (by_kind lane mark from to found) (stepped lane (by_change mark from to (change_of found)))
kind_run lane mark from to (head.Put bytes) = set_by_run lane mark from to
kind_run lane mark from to head.Delete = remove_by_run lane mark from to
kind_run lane mark from to (head.Share cell) = set_by_run lane mark from to
kind_run lane mark from to head.Unshare = set_by_run lane mark from to
kind_run lane mark from to (head.Loose bytes) = pass_run lane to
kind_run lane mark from to head.LooseDelete = pass_run lane to
kind_run lane mark from to (head.Pad words) = pass_run lane to

header_run : (lane mark from : ℕ) (found : Option Head) → Ran (by_header lane mark from found) (stepped lane (headed mark from found))
header_run lane mark from None = refl
header_run lane mark from (Some found) = kind_run lane mark from (mark + head_words found) found

record_run : (lane mark : ℕ) → Ran (record_at lane mark) (Goes (merging lane (at.Directory mark)))
record_run lane mark = (
  merging lane (at.Directory mark),
  refl,
  refl,
  λ directory. (
    merging lane (at.Header mark (place_in directory mark)),
    refl,
    refl,
    λ header. header_run lane mark (place_in directory mark) (head_in header),
  ),
)

-- ---- the turn
marked_run : (lane gate mark : ℕ) (same : Bool)
    → Ran (if same then Return (Idle gate mark) else record_at lane mark) (stepped lane (if same then ended (Idle gate mark) else on (at.Directory mark)))
marked_run lane gate mark true = refl
marked_run lane gate mark false = record_run lane mark

-- at the beginning of a turn the merger runs the whole turn
pub sequence_run : (lane : ℕ) → Merges (started lane) (sequence lane)
sequence_run lane = record {
  runs = (
    started lane,
    refl,
    refl,
    λ gate. (
      merging lane (at.Mark gate),
      refl,
      refl,
      λ mark. marked_run lane gate mark ((gate_of gate).len == mark),
    ),
  );
}
