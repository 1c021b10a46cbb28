use Rattle.std.specs.Prelude.{ℕ, ◌+◌, ◌/◌, ◌==◌, Option, Some, None, if◌then◌else◌}
use Rattle.dn_word.specs.Gate.{gate_of}
use Rattle.dn_record.specs.Head.{head_words}
use Rattle.dn_record.specs.Reading.{head_in}
use Rattle.dn_record.specs.declared.heads.Head.{Head}
use Rattle.dn_record.specs.declared.heads.Head.TheVariants as head
use Rattle.dn_model.specs.Regions.{gate_at, mark_at, directory_at, place_in}
use Rattle.dn_model.specs.Program.{Program, Return, ◌>>=◌, load, store, Turn, Goes, Ends, Runs}
use Rattle.dn_index.specs.Sequence.{set_program, remove_program}
use Rattle.dn_index.specs.declared.places.WalkTurn.{WalkTurn}
use Rattle.dn_index.specs.declared.places.WalkTurn.TheVariants as walk
use Rattle.dn_merge.specs.Merge.{Merging, merge_next, merge_turn, merge_after}
use Rattle.dn_merge.specs.declared.places.MergePlace.{MergePlace}
use Rattle.dn_merge.specs.declared.places.MergePlace.TheVariants as at
use Rattle.dn_merge.specs.declared.mergers.MergeTurn.{MergeTurn}
use Rattle.dn_merge.specs.declared.mergers.MergeTurn.TheVariants.{More, Idle, IndexFull}

-- A turn of a lane's merger, as a program; it answers More where it has moved the mark.

-- the mark moves past the record
abbrev pub pass : ℕ → ℕ → Program MergeTurn
pass lane to = store (mark_at lane) to >>= λ old. Return More

-- it moves only once the index is changed
abbrev pub pass_after : ℕ → ℕ → WalkTurn → Program MergeTurn
pass_after lane to walk.More = pass lane to
pass_after lane to (walk.Found at) = pass lane to
pass_after lane to walk.Absent = pass lane to
pass_after lane to walk.Written = pass lane to
pass_after lane to (walk.IndexFull counter) = Return (IndexFull counter)

-- the index gives this record for the key of the record at this word of the pool
abbrev pub set_by : ℕ → ℕ → ℕ → ℕ → Program MergeTurn
set_by lane mark from to =
    load (from + 1) >>= λ key. set_program key (record { lane = lane; offset = mark }) >>= λ turn. pass_after lane to turn

-- the index gives nothing for its key
abbrev pub remove_by : ℕ → ℕ → ℕ → Program MergeTurn
remove_by lane from to = load (from + 1) >>= λ key. remove_program key >>= λ turn. pass_after lane to turn

-- by the record's kind; behind `to` the next one begins
abbrev pub by_kind : ℕ → ℕ → ℕ → ℕ → Head → Program MergeTurn
by_kind lane mark from to (head.Put bytes) = set_by lane mark from to
by_kind lane mark from to head.Delete = remove_by lane from to
by_kind lane mark from to (head.Share cell) = set_by lane mark from to
by_kind lane mark from to head.Unshare = set_by lane mark from to
by_kind lane mark from to (head.Loose bytes) = pass lane to
by_kind lane mark from to head.LooseDelete = pass lane to
by_kind lane mark from to (head.Pad words) = pass lane to

-- a header outside the grammar, which no sealed log has, ends the turn
abbrev pub by_header : ℕ → ℕ → ℕ → Option Head → Program MergeTurn
by_header lane mark from None = Return More
by_header lane mark from (Some found) = by_kind lane mark from (mark + head_words found) found

-- the record at the mark
abbrev pub record_at : ℕ → ℕ → Program MergeTurn
record_at lane mark =
    load (directory_at lane (mark / 1024)) >>= λ directory.
    load (place_in directory mark) >>= λ header.
    by_header lane mark (place_in directory mark) (head_in header)

-- the whole turn
abbrev pub sequence : ℕ → Program MergeTurn
sequence lane =
    load (gate_at lane) >>= λ gate.
    load (mark_at lane) >>= λ mark.
    if (gate_of gate).len == mark then Return (Idle gate mark) else record_at lane mark

-- ---- the merger as a machine
-- a turn goes on, or has ended with its answer where the next one begins
abbrev pub turn_at : MergeTurn → Merging → MergePlace → Turn Merging MergeTurn
turn_at turn m at.Gate = Ends turn
turn_at turn m (at.Mark gate) = Goes m
turn_at turn m (at.Directory mark) = Goes m
turn_at turn m (at.Header mark from) = Goes m
turn_at turn m (at.Key mark from to change) = Goes m
turn_at turn m (at.Walk to w) = Goes m
turn_at turn m (at.Pass to) = Goes m

abbrev pub merge_taken : Merging → ℕ → Turn Merging MergeTurn
merge_taken m word = turn_at (merge_turn m word) (merge_after m word) (merge_after m word).place

-- from here the merger runs this program to its end
pub record Merges (m : Merging) (program : Program MergeTurn) : Type 0 where
  pub runs : Runs merge_next merge_taken program (Goes m)
