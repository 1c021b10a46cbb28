use Rattle.std.proofs.Common.{◌≡◌, ℕ, ◌==◌, [], Bool, true, false, Option, Some, None, refl, sym, subst, ap, ◌∙◌, if◌then◌else◌}
use Rattle.dn_word.specs.declared.packed.place.Ref.{Ref}
use Rattle.dn_act.specs.declared.actions.Action.{Action}
use Rattle.dn_locate.specs.Fetch.{Fetching}
use Rattle.dn_locate.specs.declared.fetches.Wish.TheVariants.{Place}
use Rattle.dn_model.specs.Program as plain
use Rattle.dn_plan.specs.declared.phases.Room.{Room}
use Rattle.dn_plan.specs.declared.phases.Room.TheVariants as room
use Rattle.dn_plan.specs.declared.phases.Way.{Way}
use Rattle.dn_plan.specs.declared.results.Effect.{Effect}
use Rattle.dn_plan.specs.declared.results.Effect.TheVariants.{Bar}
use Rattle.dn_record.specs.Record.{spelling}
use Rattle.dn_tend.specs.Plan.{tending, step_next, turn_next, located_next, roomed_next, sealed_next}
use Rattle.dn_tend.specs.Program.{TaskPlan, Return, Learn, Do, Locate, FindRoom, Seal, Follows}
use Rattle.dn_tend.specs.Tend.{action_in, taken_in, located_in, roomed_in, seal_in, sealed_in, acts, rooms as asks_room, seals as asks_seal, ends}
use Rattle.dn_tend.specs.declared.tasks.TaskAnswer.{TaskAnswer}
use Rattle.dn_tend.specs.declared.tasks.TaskAnswer.TheVariants.{Fenced}
use Rattle.dn_tend.specs.declared.tasks.TendFound.{TendFound}
use Rattle.dn_tend.specs.declared.tasks.TendFound.TheVariants as no_value
use Rattle.dn_tend.specs.declared.tasks.TendSeal.{TendSeal}
use Rattle.dn_tend.specs.declared.tasks.TendStep.TheVariants as step
use Rattle.dn_tend.specs.declared.phases.TendAct.{TendAct}
use Rattle.dn_tend.specs.declared.phases.TendLocate.{TendLocate}
use Rattle.dn_tend.specs.declared.phases.TendRoom.{TendRoom}
use Rattle.dn_tend.specs.declared.phases.TendSealing.{TendSealing}
use Rattle.dn_tend.specs.declared.phases.TendThen.TheVariants as thence
use Rattle.dn_tend.specs.declared.phases.TendAfter.TheVariants as after
use Rattle.dn_tend.specs.declared.phases.TendNext.{TendNext}
use Rattle.dn_tend.specs.declared.phases.TendNext.TheVariants as next
use Rattle.dn_ask.specs.Ask.{roomed_in as asked_room, task_step, task_key, task_gate, task_record_key, after_task_seal, barred, goes as goes_on, task_next}
use Rattle.dn_ask.specs.declared.asks.End.TheVariants as end
use Rattle.dn_ask.specs.declared.asks.FindRoom.TheVariants as find_room
use Rattle.dn_ask.specs.declared.asks.Locate.TheVariants as locates
use Rattle.dn_ask.specs.declared.asks.Seal.TheVariants as seal_wait
use Rattle.dn_find.specs.Find.{started}
use Rattle.dn_find.specs.Sequence.{locate, located, turn_by as find_turn, locate_next, locate_taken}
use Rattle.dn_find.specs.declared.finds.Found.TheVariants as found
use Rattle.dn_known.specs.Counting.{pending_of}
use Rattle.dn_known.specs.Learnt.{learnt}
use Rattle.dn_known.specs.Sealed.{sealed_by}
use Rattle.dn_known.specs.State.{KnownState}
use Rattle.dn_services.specs.Room.{looked_for}
use Rattle.dn_services.specs.Sealing.{task_seal, known_after, plan_in}
use Rattle.dn_services.specs.Sequence.{RoomEnd, room_program}
use Rattle.dn_services.specs.Spelled.{task_record}
use Rattle.dn_services.specs.Staged.{staged_of}
use Rattle.dn_services.specs.declared.seals.Seal.{Seal as SealOf}
use Rattle.dn_services.proofs.SequenceLaws as room_laws
use Rattle.dn_lane.specs.Ends.{turn_by}
use Rattle.dn_lane.specs.Found.{said_in}
use Rattle.dn_lane.specs.Program.{LaneProgram, End, Flow, ◌>>>◌, Answered, Runs}
use Rattle.dn_lane.specs.Sequence.{exchange, said_of, task_room, task_program}
use Rattle.dn_lane.specs.Taken.{entered, entered_then, arrived_at, here_of}
use Rattle.dn_lane.specs.declared.asked.Asked.TheVariants as asked
use Rattle.dn_lane.specs.declared.base.Base.{Base}
use Rattle.dn_lane.proofs.CallRuns.{learnt_lane, begun, started_pool}
use Rattle.dn_lane.proofs.ServiceRuns.{at, by, finds, rooms, seals}
use Rattle.dn_lane.proofs.StepLemmas.{task_seal_gate, sealed_by_lane}
use Rattle.dn_lane.proofs.TaskKeys.{KeyNext, taken_keys, located_keys, roomed_keys, sealed_keys}

-- A lane that follows the plan of a task runs the task's program.

-- ---- what a task waits for, by what it asks
done_wait : (lane : ℕ) (w : TendNext) (answer : TaskAnswer) → step_next lane w ≡ step.Done answer → w ≡ ends answer
done_wait lane (next.Locate phase) answer e = cc
done_wait lane (next.After (after.Room phase)) answer e = cc
done_wait lane (next.After (after.Then (thence.Act phase))) answer e = cc
done_wait lane (next.After (after.Then (thence.Seal phase))) answer e = cc
done_wait lane (next.After (after.Then (thence.Done a))) answer e = cc

pub record Acts (lane : ℕ) (w : TendNext) (action : Action) : Type 0 where
  pub phase : TendAct
  pub is : w ≡ acts phase
  pub act : action_in lane phase ≡ action

act_wait : (lane : ℕ) (w : TendNext) (action : Action) → step_next lane w ≡ step.Act action → Acts lane w action
act_wait lane (next.Locate phase) action e = absurd cc
act_wait lane (next.After (after.Room phase)) action e = absurd cc
act_wait lane (next.After (after.Then (thence.Act phase))) action e = record { phase = phase; is = refl; act = cc }
act_wait lane (next.After (after.Then (thence.Seal phase))) action e = absurd cc
act_wait lane (next.After (after.Then (thence.Done a))) action e = absurd cc

pub record Locates (w : TendNext) : Type 0 where
  pub phase : TendLocate
  pub is : w ≡ next.Locate phase

locate_wait : (lane : ℕ) (w : TendNext) → step_next lane w ≡ step.Locate → Locates w
locate_wait lane (next.Locate phase) e = record { phase = phase; is = refl }
locate_wait lane (next.After (after.Room phase)) e = absurd cc
locate_wait lane (next.After (after.Then (thence.Act phase))) e = absurd cc
locate_wait lane (next.After (after.Then (thence.Seal phase))) e = absurd cc
locate_wait lane (next.After (after.Then (thence.Done a))) e = absurd cc

pub record Rooms (w : TendNext) : Type 0 where
  pub phase : TendRoom
  pub is : w ≡ asks_room phase

room_wait : (lane : ℕ) (w : TendNext) → step_next lane w ≡ step.Room → Rooms w
room_wait lane (next.Locate phase) e = absurd cc
room_wait lane (next.After (after.Room phase)) e = record { phase = phase; is = refl }
room_wait lane (next.After (after.Then (thence.Act phase))) e = absurd cc
room_wait lane (next.After (after.Then (thence.Seal phase))) e = absurd cc
room_wait lane (next.After (after.Then (thence.Done a))) e = absurd cc

pub record Seals (w : TendNext) (seal : TendSeal) : Type 0 where
  pub phase : TendSealing
  pub is : w ≡ asks_seal phase
  pub seals : seal_in phase ≡ seal

seal_wait_of : (lane : ℕ) (w : TendNext) (seal : TendSeal) → step_next lane w ≡ step.Seal seal → Seals w seal
seal_wait_of lane (next.Locate phase) seal e = absurd cc
seal_wait_of lane (next.After (after.Room phase)) seal e = absurd cc
seal_wait_of lane (next.After (after.Then (thence.Act phase))) seal e = absurd cc
seal_wait_of lane (next.After (after.Then (thence.Seal phase))) seal e = record { phase = phase; is = refl; seals = cc }
seal_wait_of lane (next.After (after.Then (thence.Done a))) seal e = absurd cc

-- ---- the plan
-- what a lane that has a task comes to where the task has told it this, and waits for that
abbrev came : Base → Option Effect → TendNext → Answered
came g effect w = by asked.Task (entered g asked.Task (task_step (record { effect = effect; next = w })))

-- the exchange was done, or the gate is closed to the lane
abbrev with_seal : Base → SealOf → Base
with_seal g s = record g { known = sealed_by g.known (plan_in g.known s) (Some s.key); staging = [] }

exchanged_run : (g : Base) (s : SealOf) (phase : TendSealing) (word : ℕ) (behind : KnownState → LaneProgram) (b : Bool)
    → Runs (behind (sealed_by g.known (plan_in g.known s) (Some s.key))) (came (with_seal g s) None (sealed_in phase))
    → Runs (if b then behind (if b then sealed_by g.known (plan_in g.known s) (Some s.key) else g.known)
    else End (turn_by asked.Task (end.Task (Fenced word))) (learnt g.known (Bar word)))
    (by asked.Task (entered (record g { known = if b then sealed_by g.known (plan_in g.known s) (Some s.key) else g.known; staging = [] }) asked.Task
    (if b then goes_on (task_next (sealed_in phase)) else barred word)))
exchanged_run g s phase word behind true h = h
exchanged_run g s phase word behind false h = (refl, refl, refl, refl)

sealed_run : (g : Base) (s : SealOf) (phase : TendSealing) (word gate : ℕ) (behind : KnownState → LaneProgram) → s.gate ≡ gate
    → Runs (behind (sealed_by g.known (plan_in g.known s) (Some s.key))) (came (with_seal g s) None (sealed_in phase))
    → Runs (if word == s.gate then behind (known_after g.known s word []) else End (turn_by asked.Task (end.Task (Fenced word))) (learnt g.known (Bar word)))
    (by asked.Task (entered (record g { known = known_after g.known s word []; staging = [] }) asked.Task (after_task_seal phase gate word)))
sealed_run g s phase word gate behind same h =
    subst (λ n. Runs (if word == s.gate then behind (known_after g.known s word []) else End (turn_by asked.Task (end.Task (Fenced word))) (learnt g.known (Bar word)))
    (by asked.Task (entered (record g { known = known_after g.known s word []; staging = [] }) asked.Task (after_task_seal phase n word)))) same
    (exchanged_run g s phase word behind (word == s.gate) h)

-- a task without room ends
room_run : (there : Room) (g : Base) (segments key : ℕ) (behind : TaskPlan) (phase : TendRoom) → g.staging ≡ []
    → Runs (task_program segments key g.known behind) (came g None (next.After (after.Then (roomed_in phase))))
    → Runs (task_room there g.known (task_program segments key g.known behind))
    (by asked.Task (entered_then g asked.Task (asked_room there (find_room.Task phase))))
room_run room.Found g segments key behind phase empty h = h
room_run (room.Full counter full) g segments key behind phase empty h = (refl, refl, refl, empty)

located_run : (there : Bool) (way : Way) (f : Fetching) (g : Base) (phase : TendLocate) (rest : TendFound → LaneProgram)
    → ((said : TendFound) → Runs (rest said) (came (record g { fetch = f }) None (next.After (located_in phase said))))
    → Runs (rest (said_of (located way there f))) (at (arrived_at (record g { fetch = f }) (locates.Task phase) (here_of asked.Task f way there)))
located_run true way f g phase rest h = h (said_in f.words f.at)
located_run false way f g phase rest h = h no_value.Nothing

-- the seal of a record for this key, in a task of that one
abbrev sealing_program : ℕ → ℕ → ℕ → KnownState → TendSeal → TaskPlan → LaneProgram
sealing_program segments key own k sealed behind =
    Flow (staged_of k.log 3 (spelling (task_record own sealed)))
    (exchange k (task_seal own sealed) (λ word.
    if word == (task_seal own sealed).gate
    then task_program segments key (known_after k (task_seal own sealed) word []) behind
    else End (turn_by asked.Task (end.Task (Fenced word))) (learnt k (Bar word))))

pub tasks : (plan : TaskPlan) (g : Base) (key : ℕ) (effect : Option Effect) (w : TendNext) (segments : ℕ) → g.staging ≡ [] → g.fetch.segments ≡ segments → KeyNext key w
    → Follows plan effect (tending g.known.log.lane w)
    → Runs (task_program segments key g.known plan) (came g effect w)
tasks (Return answer) g key effect w segments empty pool keys (e, s) =
    subst (λ x. Runs (task_program segments key g.known (Return answer)) (came g x w)) (sym e)
    (subst (λ x. Runs (task_program segments key g.known (Return answer)) (came g None x)) (sym (done_wait g.known.log.lane w answer s)) (refl, refl, refl, empty))
tasks (Learn effect behind) g key told w segments empty pool keys (e, h) =
    subst (λ x. Runs (task_program segments key g.known (Learn effect behind)) (came g x w)) (sym e)
    (tasks behind (record g { known = learnt g.known effect }) key None w segments empty pool keys
    (subst (λ n. Follows behind None (tending n w)) (sym (learnt_lane g.known effect)) h))
tasks (Do action behind) g key effect w segments empty pool keys (e, s, h) =
    let a : Acts g.known.log.lane w action = act_wait g.known.log.lane w action s in
    let owned : KeyNext key (acts a.phase) = subst (λ x. KeyNext key x) a.is keys in
    let more : (word : ℕ) → Follows (behind word) (turn_next g.known.log.lane word (acts a.phase)).effect
    (tending g.known.log.lane (turn_next g.known.log.lane word (acts a.phase)).next) =
    subst (λ x. (word : ℕ) → Follows (behind word) (turn_next g.known.log.lane word x).effect (tending g.known.log.lane (turn_next g.known.log.lane word x).next)) a.is h in
    subst (λ x. Runs (task_program segments key g.known (Do action behind)) (came g x w)) (sym e)
    (subst (λ x. Runs (task_program segments key g.known (Do action behind)) (came g None x)) (sym a.is) (
      refl,
      ap (λ (x : Action). Some x) a.act,
      λ word.
          tasks (behind word) g key (taken_in g.known.log.lane a.phase word).effect (taken_in g.known.log.lane a.phase word).next segments empty pool
          (taken_keys g.known.log.lane key a.phase word owned) (more word),
    ))
tasks (FindRoom behind) g key effect w segments empty pool keys (e, s, h) =
    let a : Rooms w = room_wait g.known.log.lane w s in
    let owned : KeyNext key (asks_room a.phase) = subst (λ x. KeyNext key x) a.is keys in
    let more : Follows behind None (tending g.known.log.lane (roomed_next (asks_room a.phase))) =
    subst (λ x. Follows behind None (tending g.known.log.lane (roomed_next x))) a.is h in
    subst (λ x. Runs (task_program segments key g.known (FindRoom behind)) (came g x w)) (sym e)
    (subst (λ x. Runs (task_program segments key g.known (FindRoom behind)) (came g None x)) (sym a.is)
    (rooms g asked.Task (find_room.Task a.phase) (λ (found : RoomEnd). task_room found.room found.known (task_program segments key found.known behind))
    (λ there k lane.
    room_run there (record g { known = k }) segments key behind a.phase empty
    (tasks behind (record g { known = k }) key None (next.After (after.Then (roomed_in a.phase))) segments empty pool (roomed_keys key a.phase owned)
    (subst (λ n. Follows behind None (tending n (next.After (after.Then (roomed_in a.phase))))) (sym lane) more)))
    (room_program g.known 3) (looked_for g.known 3) g.known refl (room_laws.finds g.known 3 (looked_for g.known 3) refl).runs))
tasks (Locate behind) g key effect w segments empty pool keys (e, s, h) =
    let a : Locates w = locate_wait g.known.log.lane w s in
    let owned : task_key a.phase ≡ key = subst (λ x. KeyNext key x) a.is keys in
    let more : (f : TendFound) → Follows (behind f) None (tending g.known.log.lane (next.After (located_in a.phase f))) =
    subst (λ x. (f : TendFound) → Follows (behind f) None (tending g.known.log.lane (located_next f x))) a.is h in
    let pending : Option Ref = pending_of g.known (task_key a.phase) in
    subst (λ x. Runs (task_program segments key g.known (Locate behind)) (came g x w)) (sym e)
    (subst (λ x. Runs (task_program segments key g.known (Locate behind)) (came g None x)) (sym a.is)
    (subst (λ q. Runs (locate segments q Place (pending_of g.known q) >>> (λ location. task_program segments key g.known (behind (said_of location)))) (came g None (next.Locate a.phase))) owned
    (finds g asked.Task (locates.Task a.phase) (λ location. task_program segments key g.known (behind (said_of location)))
    (λ way there f same.
    located_run there way f g a.phase (λ found. task_program segments key g.known (behind found))
    (λ found. tasks (behind found) (record g { fetch = f }) key None (next.After (located_in a.phase found)) segments empty (same ∙ pool)
    (located_keys key a.phase found owned) (more found)))
    (locate segments (task_key a.phase) Place pending) (found.More (started g.fetch (task_key a.phase) Place pending).find)
    (started g.fetch (task_key a.phase) Place pending).fetch (started_pool g.fetch (task_key a.phase) Place pending)
    (subst (λ n. plain.Runs locate_next (locate_taken (task_key a.phase) Place) (locate n (task_key a.phase) Place pending)
    (find_turn (found.More (started g.fetch (task_key a.phase) Place pending).find) (started g.fetch (task_key a.phase) Place pending).fetch)) pool
    (begun g.fetch (task_key a.phase) Place pending)))))
tasks (Seal sealed behind) g key effect w segments empty pool keys (e, s, h) =
    let a : Seals w sealed = seal_wait_of g.known.log.lane w sealed s in
    let owned : task_record_key a.phase ≡ key = subst (λ x. KeyNext key x) a.is keys in
    let more : Follows behind None (tending g.known.log.lane (sealed_in a.phase)) =
    subst (λ x. Follows behind None (tending g.known.log.lane (sealed_next x))) a.is h in
    subst (λ x. Runs (task_program segments key g.known (Seal sealed behind)) (came g x w)) (sym e)
    (subst (λ x. Runs (task_program segments key g.known (Seal sealed behind)) (came g None x)) (sym a.is)
    (subst (λ x. Runs (task_program segments key g.known (Seal x behind)) (came g None (asks_seal a.phase))) a.seals
    (subst (λ q. Runs (sealing_program segments key q g.known (seal_in a.phase) behind) (came g None (asks_seal a.phase))) owned
    (seals g asked.Task (seal_wait.Task a.phase) (task_seal (task_record_key a.phase) (seal_in a.phase))
    (staged_of g.known.log 3 (spelling (task_record (task_record_key a.phase) (seal_in a.phase))))
    (λ word.
    if word == (task_seal (task_record_key a.phase) (seal_in a.phase)).gate
    then task_program segments key (known_after g.known (task_seal (task_record_key a.phase) (seal_in a.phase)) word []) behind
    else End (turn_by asked.Task (end.Task (Fenced word))) (learnt g.known (Bar word)))
    (λ word.
    sealed_run g (task_seal (task_record_key a.phase) (seal_in a.phase)) a.phase word (task_gate (seal_in a.phase))
    (λ k. task_program segments key k behind) (task_seal_gate (task_record_key a.phase) (seal_in a.phase))
    (tasks behind (with_seal g (task_seal (task_record_key a.phase) (seal_in a.phase))) key None (sealed_in a.phase) segments refl pool
    (sealed_keys key a.phase owned)
    (subst (λ n. Follows behind None (tending n (sealed_in a.phase)))
    (sym (sealed_by_lane g.known (plan_in g.known (task_seal (task_record_key a.phase) (seal_in a.phase))) (Some (task_record_key a.phase)))) more)))))))
