use Rattle.std.specs.Prelude.{◌≡◌, ◌≢◌, ℕ, ◌+◌, ◌/◌, ◌^◌, ◌<◌, ◌≤◌, ◌==◌, Option, Some, None, if◌then◌else◌}
use Rattle.dn_word.specs.Regions.{segments_at}
use Rattle.dn_act.specs.Words.{pool_size}
use Rattle.dn_word.specs.Gate.{gate_of}
use Rattle.dn_word.specs.declared.packed.place.Ref.{Ref}
use Rattle.dn_act.specs.declared.actions.Action.{Action}
use Rattle.dn_act.specs.declared.actions.Action.TheVariants.{Load, Store}
use Rattle.dn_record.specs.Head.{head_words}
use Rattle.dn_record.specs.Reading.{head_in}
use Rattle.dn_record.specs.declared.heads.Head.{Head}
use Rattle.dn_record.specs.declared.heads.Head.TheVariants as head
use Rattle.dn_model.specs.Regions.{gate_at, mark_at, directory_at, place_in, home_of}
use Rattle.dn_index.specs.Walk.{Walking, begun, walk_next, walk_turn, walk_after, IsFull as NeedsMore}
use Rattle.dn_index.specs.declared.places.Errand.{Errand}
use Rattle.dn_index.specs.declared.places.Errand.TheVariants as errand
use Rattle.dn_index.specs.declared.places.WalkTurn.{WalkTurn}
use Rattle.dn_index.specs.declared.places.WalkTurn.TheVariants as walk
use Rattle.dn_merge.specs.declared.places.Change.{Change}
use Rattle.dn_merge.specs.declared.places.Change.TheVariants.{Set, Remove}
use Rattle.dn_merge.specs.declared.places.MergePlace.{MergePlace}
use Rattle.dn_merge.specs.declared.places.MergePlace.TheVariants.{Gate as AtGate, Mark, Directory, Header, Key, Walk, Pass}
use Rattle.dn_merge.specs.declared.mergers.MergeTurn.{MergeTurn}
use Rattle.dn_merge.specs.declared.mergers.MergeTurn.TheVariants.{More, Idle, IndexFull}
use Rattle.dn_merge.specs.declared.steps.MergeStep.{MergeStep}

-- a merger: the number of its lane, and where it is in its turn
pub record Merging : Type 0 where
  pub lane : ℕ
  pub place : MergePlace

-- at the beginning of a turn
abbrev pub started : ℕ → Merging
started lane = record { lane = lane; place = AtGate }

-- the turn ends, and the next one begins
abbrev pub ended : MergeTurn → MergeStep
ended turn = record { place = AtGate; turn = turn }

-- the turn goes on at a place
abbrev pub on : MergePlace → MergeStep
on place = record { place = place; turn = More }

-- what a record asks of the index: a Put, Share or Unshare that it gives this record for the key, a Delete that it gives none; what a cell leads to, and a Pad, nothing
abbrev pub change_of : Head → Option Change
change_of (head.Put bytes) = Some Set
change_of head.Delete = Some Remove
change_of (head.Share cell) = Some Set
change_of head.Unshare = Some Set
change_of (head.Loose bytes) = None
change_of head.LooseDelete = None
change_of (head.Pad words) = None

-- after the mark: all is merged where the gate's length is the mark
abbrev pub marked : ℕ → ℕ → MergeStep
marked gate mark = if (gate_of gate).len == mark then ended (Idle gate mark) else on (Directory mark)

-- after the header: the mark passes the record at once, or the record's key is loaded
abbrev pub by_change : ℕ → ℕ → ℕ → Option Change → MergeStep
by_change mark from to None = on (Pass to)
by_change mark from to (Some change) = on (Key mark from to change)

-- a header outside the grammar, which no sealed log has, ends the turn
abbrev pub headed : ℕ → ℕ → Option Head → MergeStep
headed mark from None = ended More
headed mark from (Some head) = by_change mark from (mark + head_words head) (change_of head)

-- the errand of the walk that makes a change, by the record at this place
abbrev pub errand_of : Change → Ref → Errand
errand_of Set at = errand.Set at
errand_of Remove at = errand.Remove

-- after the key word
abbrev pub keyed : Ref → ℕ → Change → ℕ → MergeStep
keyed at to change key = on (Walk to (begun key (home_of key) (errand_of change at)))

-- after a word of the walk
abbrev pub walked : ℕ → WalkTurn → Walking → MergeStep
walked to walk.More w = on (Walk to w)
walked to (walk.Found at) w = on (Pass to)
walked to walk.Absent w = on (Pass to)
walked to walk.Written w = on (Pass to)
walked to (walk.IndexFull counter) w = ended (IndexFull counter)

-- the loads of a turn, its walk, and the store of the mark
abbrev pub next_in : ℕ → MergePlace → Action
next_in lane AtGate = Load (gate_at lane)
next_in lane (Mark gate) = Load (mark_at lane)
next_in lane (Directory mark) = Load (directory_at lane (mark / 1024))
next_in lane (Header mark from) = Load from
next_in lane (Key mark from to change) = Load (from + 1)
next_in lane (Walk to w) = walk_next w
next_in lane (Pass to) = Store (mark_at lane) to

abbrev pub merge_next : Merging → Action
merge_next m = next_in m.lane m.place

-- where the turn goes on by the word that its action found
abbrev pub step_in : ℕ → ℕ → MergePlace → MergeStep
step_in lane word AtGate = on (Mark word)
step_in lane word (Mark gate) = marked gate word
step_in lane word (Directory mark) = on (Header mark (place_in word mark))
step_in lane word (Header mark from) = headed mark from (head_in word)
step_in lane word (Key mark from to change) = keyed (record { lane = lane; offset = mark }) to change word
step_in lane word (Walk to w) = walked to (walk_turn w word) (walk_after w word)
step_in lane word (Pass to) = ended More

abbrev pub merge_step : Merging → ℕ → MergeStep
merge_step m word = step_in m.lane word m.place

-- what a merger answers when it takes a word, and where it is then
abbrev pub merge_turn : Merging → ℕ → MergeTurn
merge_turn m word = (merge_step m word).turn

abbrev pub merge_after : Merging → ℕ → Merging
merge_after m word = record { lane = m.lane; place = (merge_step m word).place }

-- what is asked of the word that an action finds: a mark lies in a log, a directory word names a segment of the pool, a key isn't 0
abbrev pub Meets : ℕ → MergePlace → Type 0
Meets word AtGate = Unit {0}
Meets word (Mark gate) = word ≤ 262144
Meets word (Directory mark) = (0 < word) × (word ≤ 8192)
Meets word (Header mark from) = Unit {0}
Meets word (Key mark from to change) = word ≢ 0
Meets word (Walk to w) = Unit {0}
Meets word (Pass to) = Unit {0}

-- the gate and the mark that this turn loaded name one length
abbrev pub IsIdle : ℕ → ℕ → ℕ → MergePlace → Type 0
IsIdle gate mark word AtGate = ⊥
IsIdle gate mark word (Mark loaded) = (loaded ≡ gate) × (word ≡ mark) × ((gate_of gate).len ≡ mark)
IsIdle gate mark word (Directory at) = ⊥
IsIdle gate mark word (Header at from) = ⊥
IsIdle gate mark word (Key at from to change) = ⊥
IsIdle gate mark word (Walk to w) = ⊥
IsIdle gate mark word (Pass to) = ⊥

-- the walk of this turn needs a bucket, and the overflow counter that it read is this one, at least 4,096
abbrev pub IsFull : ℕ → ℕ → MergePlace → Type 0
IsFull counter word AtGate = ⊥
IsFull counter word (Mark gate) = ⊥
IsFull counter word (Directory mark) = ⊥
IsFull counter word (Header mark from) = ⊥
IsFull counter word (Key mark from to change) = ⊥
IsFull counter word (Walk to w) = (word ≡ counter) × NeedsMore w.place word
IsFull counter word (Pass to) = ⊥

-- the turn ends: with all merged, without a bucket, or with the store of the mark
abbrev pub EndsTurn : MergeTurn → MergePlace → Type 0
EndsTurn (Idle gate mark) place = Unit {0}
EndsTurn (IndexFull counter) place = Unit {0}
EndsTurn More AtGate = ⊥
EndsTurn More (Mark gate) = ⊥
EndsTurn More (Directory mark) = ⊥
EndsTurn More (Header mark from) = ⊥
EndsTurn More (Key mark from to change) = ⊥
EndsTurn More (Walk to w) = ⊥
EndsTurn More (Pass to) = Unit {0}

-- what a merger knows at a place: a mark of a log, a word of the pool's segments, a walk with a next action
abbrev pub FitsAt : MergePlace → Type 0
FitsAt AtGate = Unit {0}
FitsAt (Mark gate) = gate < 2 ^ 64
FitsAt (Directory mark) = mark ≤ 262144
FitsAt (Header mark from) = (mark ≤ 262144) × (segments_at ≤ from) × (from < pool_size 8192)
FitsAt (Key mark from to change) = (mark ≤ 262144) × (segments_at ≤ from) × (from < pool_size 8192) × (to < 327680)
FitsAt (Walk to w) = to < 327680
FitsAt (Pass to) = to < 327680

pub record IsMerger (m : Merging) : Type 0 where
  pub least : 0 < m.lane
  pub most : m.lane < 64
  pub fits : FitsAt m.place
