use Rattle.std.specs.Prelude.{ℕ, ◌==◌, [], false, if◌then◌else◌}
use Rattle.dn_word.specs.Regions.{gate_at}
use Rattle.dn_act.specs.declared.actions.Action.TheVariants.{Cas}
use Rattle.dn_hist.specs.Calls.{key_of}
use Rattle.dn_plan.specs.Program.{Plan, Return, Learn, Do as PlanDo, Locate, FindRoom, Seal}
use Rattle.dn_plan.specs.Sequence.{call_plan}
use Rattle.dn_plan.specs.declared.results.Effect.TheVariants.{Bar}
use Rattle.dn_plan.specs.declared.phases.Located.{Located}
use Rattle.dn_plan.specs.declared.phases.Room.{Room}
use Rattle.dn_plan.specs.declared.phases.Room.TheVariants as room
use Rattle.dn_plan.specs.declared.phases.Way.{Way}
use Rattle.dn_record.specs.Record.{spelling}
use Rattle.dn_tend.specs.Program as task
use Rattle.dn_tend.specs.Program.{TaskPlan}
use Rattle.dn_tend.specs.Sequence.{task_plan}
use Rattle.dn_tend.specs.declared.tasks.Task.{Task}
use Rattle.dn_tend.specs.declared.tasks.Task.TheVariants as tasks
use Rattle.dn_tend.specs.declared.tasks.TaskAnswer.TheVariants.{Full, Fenced}
use Rattle.dn_tend.specs.declared.tasks.TendFound.{TendFound}
use Rattle.dn_tend.specs.declared.tasks.TendFound.TheVariants.{Nothing as NoValue}
use Rattle.dn_locate.specs.declared.fetches.Wish.TheVariants.{Place}
use Rattle.dn_ask.specs.Ask.{call_wish}
use Rattle.dn_ask.specs.declared.asks.End.TheVariants as end
use Rattle.dn_find.specs.Sequence.{Location, Record, Nothing, locate}
use Rattle.dn_known.specs.Counting.{pending_of}
use Rattle.dn_known.specs.Learnt.{learnt}
use Rattle.dn_known.specs.State.{KnownState}
use Rattle.dn_services.specs.Sealing.{call_seal, task_seal, place_in, new_gate, known_after}
use Rattle.dn_services.specs.Sequence.{room_program}
use Rattle.dn_services.specs.Spelled.{call_words, call_spelling, task_record}
use Rattle.dn_services.specs.Staged.{staged_of}
use Rattle.dn_services.specs.declared.seals.Seal.{Seal as SealOf}
use Rattle.dn_lane.specs.Asked.{brief_of, call_in, kind_of, words_in}
use Rattle.dn_lane.specs.Ends.{turn_by}
use Rattle.dn_lane.specs.Found.{Kept, kept_in, value_in, said_in}
use Rattle.dn_lane.specs.Program.{LaneProgram, End, Do, Flow, ◌>>>◌}
use Rattle.dn_lane.specs.declared.asked.Asked.{Asked}
use Rattle.dn_lane.specs.declared.asked.Asked.TheVariants as asked

-- What a lane does for a call or task: its plan, with the lane's services in it as programs.

-- once the words have flowed the gate is exchanged
abbrev pub exchange : KnownState → SealOf → (ℕ → LaneProgram) → LaneProgram
exchange k s behind = Do (Cas (gate_at k.log.lane) s.gate (new_gate k s)) behind

-- ---- a call
-- what was located: the room holds the value of the record, if it has one
abbrev pub by_kept : (Asked → Located → LaneProgram) → Way → Kept → LaneProgram
by_kept rest way kept = rest kept.asked (record { way = way; held = kept.held })

abbrev pub by_location : (Asked → Located → LaneProgram) → Asked → Location → LaneProgram
by_location rest a (Record way place words) = by_kept rest way (kept_in a (value_in words))
by_location rest a (Nothing way) = rest a (record { way = way; held = false })

-- a lane that knows this, in a pool of so many segments, for what was asked
abbrev pub call_program : ℕ → KnownState → Asked → Plan → LaneProgram
call_program segments k a (Return ending) = End (turn_by a (end.Call ending)) k
call_program segments k a (Learn effect behind) = call_program segments (learnt k effect) a behind
call_program segments k a (PlanDo action behind) = Do action (λ word. call_program segments k a (behind word))
call_program segments k a (Locate behind) =
    locate segments (key_of (call_in a)) (call_wish (kind_of (call_in a))) (pending_of k (key_of (call_in a)))
    >>> by_location (λ a located. call_program segments k a (behind located)) a
call_program segments k a (FindRoom behind) =
    room_program k (words_in a) >>> (λ found. call_program segments found.known a (behind found.room))
call_program segments k a (Seal sealing behind) =
    Flow (staged_of k.log (call_words (call_in a)) (call_spelling (call_in a)))
    (exchange k (call_seal (call_in a) sealing) (λ word.
    call_program segments (known_after k (call_seal (call_in a) sealing) word []) a (behind (place_in k (call_seal (call_in a) sealing)) word)))

-- the whole call
abbrev pub call_sequence : ℕ → KnownState → Asked → LaneProgram
call_sequence segments k a = call_program segments k a (call_plan (brief_of k.log.lane a))

-- ---- a task, of this key where it has one
abbrev pub said_of : Location → TendFound
said_of (Record way place words) = said_in words place
said_of (Nothing way) = NoValue

-- without room it ends
abbrev pub task_room : Room → KnownState → LaneProgram → LaneProgram
task_room room.Found k behind = behind
task_room (room.Full counter segments) k behind = End (turn_by asked.Task (end.Task (Full counter segments))) k

abbrev pub task_program : ℕ → ℕ → KnownState → TaskPlan → LaneProgram
task_program segments key k (task.Return answer) = End (turn_by asked.Task (end.Task answer)) k
task_program segments key k (task.Learn effect behind) = task_program segments key (learnt k effect) behind
task_program segments key k (task.Do action behind) = Do action (λ word. task_program segments key k (behind word))
task_program segments key k (task.Locate behind) =
    locate segments key Place (pending_of k key) >>> (λ location. task_program segments key k (behind (said_of location)))
task_program segments key k (task.FindRoom behind) =
    room_program k 3 >>> (λ found. task_room found.room found.known (task_program segments key found.known behind))
task_program segments key k (task.Seal sealing behind) =
    Flow (staged_of k.log 3 (spelling (task_record key sealing)))
    (exchange k (task_seal key sealing) (λ word.
    if word == (task_seal key sealing).gate
    then task_program segments key (known_after k (task_seal key sealing) word []) behind
    else End (turn_by asked.Task (end.Task (Fenced word))) (learnt k (Bar word))))

abbrev pub key_in : Task → ℕ
key_in (tasks.Release slot) = 0
key_in tasks.Trim = 0
key_in (tasks.Share key) = key
key_in (tasks.Unshare key) = key

abbrev pub task_sequence : ℕ → KnownState → Task → LaneProgram
task_sequence segments k t = task_program segments (key_in t) k (task_plan k.log.lane t)
