use Rattle.std.proofs.Common.{◌≡◌, ℕ, ◌==◌, List, [], Bool, true, false, Option, Some, None, refl, sym, subst, ap, ◌∙◌, slice_index, slice_set, if◌then◌else◌}
use Rattle.dn_word.specs.declared.packed.place.Ref.{Ref}
use Rattle.dn_act.specs.declared.actions.Action.{Action}
use Rattle.dn_hist.specs.Calls.{key_of}
use Rattle.dn_hist.specs.declared.calls.Call.{Call}
use Rattle.dn_hist.specs.declared.receipts.SessionView.{SessionView}
use Rattle.dn_locate.specs.Fetch.{Fetching}
use Rattle.dn_locate.specs.declared.fetches.Wish.{Wish}
use Rattle.dn_plan.specs.Plan.{goes, seals as seal_phase, taken_of, located_of, roomed_of, sealing_of, sealed_of}
use Rattle.dn_plan.specs.Program.{Plan, Return, Learn, Do, Locate, FindRoom, Seal, Follows}
use Rattle.dn_plan.specs.declared.phases.Located.{Located}
use Rattle.dn_plan.specs.declared.phases.LocatePhase.{LocatePhase}
use Rattle.dn_plan.specs.declared.phases.Way.{Way}
use Rattle.dn_plan.specs.declared.results.After.TheVariants as after
use Rattle.dn_plan.specs.declared.results.Effect.{Effect}
use Rattle.dn_plan.specs.declared.results.Effect.TheVariants.{Epoch, DropBelow, Bar}
use Rattle.dn_plan.specs.declared.results.Next.TheVariants as next
use Rattle.dn_plan.specs.declared.results.Step.{Step}
use Rattle.dn_index.specs.Walk.{begun as start_walk}
use Rattle.dn_index.specs.declared.places.Errand.TheVariants as errand
use Rattle.dn_model.specs.Program as plain
use Rattle.dn_model.specs.Regions.{home_of}
use Rattle.dn_ask.specs.Ask.{call_step, call_wish}
use Rattle.dn_ask.specs.declared.asks.FindRoom.TheVariants as find_room
use Rattle.dn_ask.specs.declared.asks.Locate.TheVariants as locates
use Rattle.dn_ask.specs.declared.asks.Seal.TheVariants as seal
use Rattle.dn_find.specs.Find.{started}
use Rattle.dn_find.specs.Sequence.{locate, located, turn_by as find_turn, locate_next, locate_taken}
use Rattle.dn_find.specs.declared.finds.Found.TheVariants as found
use Rattle.dn_find.proofs.SequenceLaws.{fetch_begun, walk_begun}
use Rattle.dn_known.specs.Counting.{pending_of}
use Rattle.dn_known.specs.Learnt.{learnt}
use Rattle.dn_known.specs.State.{KnownState}
use Rattle.dn_services.specs.Room.{looked_for}
use Rattle.dn_services.specs.Sealing.{call_seal, known_after, place_in}
use Rattle.dn_services.specs.Sequence.{RoomEnd, room_program}
use Rattle.dn_services.specs.Spelled.{call_words, call_spelling}
use Rattle.dn_services.specs.Staged.{staged_of}
use Rattle.dn_services.proofs.SequenceLaws as room_laws
use Rattle.dn_lane.specs.Asked.{brief_of, kind_of, words_in}
use Rattle.dn_lane.specs.Found.{kept_by, value_in}
use Rattle.dn_lane.specs.Program.{LaneProgram, Answered, Runs}
use Rattle.dn_lane.specs.Sequence.{call_program, by_kept, by_location}
use Rattle.dn_lane.specs.Taken.{entered, arrived, arrived_at, here_of}
use Rattle.dn_lane.specs.declared.asked.Asked.{Asked}
use Rattle.dn_lane.specs.declared.asked.Asked.TheVariants as asked
use Rattle.dn_lane.specs.declared.base.Base.{Base}
use Rattle.dn_lane.proofs.ServiceRuns.{at, by, finds, rooms, seals}
use Rattle.dn_lane.proofs.StepLemmas.{after_lane}

-- A lane that follows the plan of a call runs the call's program.

-- ---- what a lane learns leaves its log
met_lane : (k : KnownState) (slot epoch : ℕ) (b : Bool)
    → (if b then k else record k { epochs = slice_set k.epochs slot epoch; counts = slice_set k.counts slot k.log.len }).log.lane ≡ k.log.lane
met_lane k slot epoch true = refl
met_lane k slot epoch false = refl

pub learnt_lane : (k : KnownState) (effect : Effect) → (learnt k effect).log.lane ≡ k.log.lane
learnt_lane k (Epoch slot epoch) = met_lane k slot epoch (slice_index k.epochs slot == epoch)
learnt_lane k (DropBelow mark) = refl
learnt_lane k (Bar gate) = refl

-- a location that a lane begins runs its program
pub begun : (f : Fetching) (key : ℕ) (wish : Wish) (pending : Option Ref) → let l = started f key wish pending in
    plain.Runs locate_next (locate_taken key wish) (locate f.segments key wish pending) (find_turn (found.More l.find) l.fetch)
begun f key wish (Some place) = (fetch_begun f (started f key wish (Some place)).fetch key wish (Some place) place refl refl).runs
begun f key wish None = (walk_begun f (start_walk key (home_of key) errand.Find) key wish None refl refl).runs

pub started_pool : (f : Fetching) (key : ℕ) (wish : Wish) (pending : Option Ref) → (started f key wish pending).fetch.segments ≡ f.segments
started_pool f key wish (Some place) = refl
started_pool f key wish None = refl

-- what a lane that was asked this call comes to by a step of its plan
abbrev stepped : Base → Asked → Step → Answered
stepped g a step = by a (entered g a (call_step step))

abbrev call_of : Call → SessionView → List ℕ → Asked
call_of call view room = asked.Call call view room

-- the value that was located is held in the room
kept_run : (g : Base) (call : Call) (view : SessionView) (room : List ℕ) (phase : LocatePhase) (way : Way) (f : Fetching) (rest : Asked → Located → LaneProgram)
    (value : Option (List ℕ))
    → ((room : List ℕ) (found : Located) → Runs (rest (call_of call view room) found) (stepped (record g { fetch = f }) (call_of call view room) (goes (next.After (located_of phase found)))))
    → Runs (by_kept rest way (kept_by call view room value)) (at (arrived_at (record g { fetch = f }) (locates.Call phase) (arrived way f (kept_by call view room value))))
kept_run g call view room phase way f rest None h = h room (record { way = way; held = false })
kept_run g call view room phase way f rest (Some value) h = h value (record { way = way; held = true })

there_run : (g : Base) (call : Call) (view : SessionView) (room : List ℕ) (phase : LocatePhase) (way : Way) (there : Bool) (f : Fetching) (rest : Asked → Located → LaneProgram)
    → ((room : List ℕ) (found : Located) → Runs (rest (call_of call view room) found) (stepped (record g { fetch = f }) (call_of call view room) (goes (next.After (located_of phase found)))))
    → Runs (by_location rest (call_of call view room) (located way there f))
    (at (arrived_at (record g { fetch = f }) (locates.Call phase) (here_of (call_of call view room) f way there)))
there_run g call view room phase way true f rest h = kept_run g call view room phase way f rest (value_in f.words) h
there_run g call view room phase way false f rest h = h room (record { way = way; held = false })

pub calls : (plan : Plan) (g : Base) (call : Call) (view : SessionView) (room : List ℕ) (step : Step) (segments : ℕ) → g.staging ≡ [] → g.fetch.segments ≡ segments
    → Follows (brief_of g.known.log.lane (call_of call view room)) plan step
    → Runs (call_program segments g.known (call_of call view room) plan) (stepped g (call_of call view room) step)
calls (Return ending) g call view room step segments empty pool e =
    subst (λ s. Runs (call_program segments g.known (call_of call view room) (Return ending)) (stepped g (call_of call view room) s)) (sym e) (refl, refl, refl, empty)
calls (Learn effect behind) g call view room step segments empty pool (e, h) =
    let a : Asked = call_of call view room in
    subst (λ s. Runs (call_program segments g.known a (Learn effect behind)) (stepped g a s)) (sym e)
    (calls behind (record g { known = learnt g.known effect }) call view room (goes step.next) segments empty pool
    (subst (λ n. Follows (brief_of n a) behind (goes step.next)) (sym (learnt_lane g.known effect)) h))
calls (Do action behind) g call view room step segments empty pool (phase, e, act, h) =
    let a : Asked = call_of call view room in
    subst (λ s. Runs (call_program segments g.known a (Do action behind)) (stepped g a s)) (sym e)
    (refl, ap (λ (x : Action). Some x) act, λ word. calls (behind word) g call view room (taken_of (brief_of g.known.log.lane a) phase word) segments empty pool (h word))
calls (Locate behind) g call view room step segments empty pool (phase, e, h) =
    let a : Asked = call_of call view room in
    let key : ℕ = key_of call in
    let wish : Wish = call_wish (kind_of call) in
    subst (λ s. Runs (call_program segments g.known a (Locate behind)) (stepped g a s)) (sym e)
    (finds g a (locates.Call phase) (by_location (λ b found. call_program segments g.known b (behind found)) a)
    (λ way there f same.
    there_run g call view room phase way there f (λ b found. call_program segments g.known b (behind found))
    (λ kept found. calls (behind found) (record g { fetch = f }) call view kept (goes (next.After (located_of phase found))) segments empty (same ∙ pool) (h found)))
    (locate segments key wish (pending_of g.known key)) (found.More (started g.fetch key wish (pending_of g.known key)).find)
    (started g.fetch key wish (pending_of g.known key)).fetch (started_pool g.fetch key wish (pending_of g.known key))
    (subst (λ n. plain.Runs locate_next (locate_taken key wish) (locate n key wish (pending_of g.known key))
    (find_turn (found.More (started g.fetch key wish (pending_of g.known key)).find) (started g.fetch key wish (pending_of g.known key)).fetch)) pool
    (begun g.fetch key wish (pending_of g.known key))))
calls (FindRoom behind) g call view room step segments empty pool (phase, e, h) =
    let a : Asked = call_of call view room in
    subst (λ s. Runs (call_program segments g.known a (FindRoom behind)) (stepped g a s)) (sym e)
    (rooms g a (find_room.Call phase) (λ (end : RoomEnd). call_program segments end.known a (behind end.room))
    (λ there k lane.
    calls (behind there) (record g { known = k }) call view room (goes (next.After (after.Then (roomed_of phase there)))) segments empty pool
    (subst (λ n. Follows (brief_of n a) (behind there) (goes (next.After (after.Then (roomed_of phase there))))) (sym lane) (h there)))
    (room_program g.known (words_in a)) (looked_for g.known (words_in a)) g.known refl (room_laws.finds g.known (words_in a) (looked_for g.known (words_in a)) refl).runs)
calls (Seal sealing behind) g call view room step segments empty pool (phase, e, s, h) =
    let a : Asked = call_of call view room in
    subst (λ s. Runs (call_program segments g.known a (Seal sealing behind)) (stepped g a s)) (sym e)
    (subst (λ x. Runs (call_program segments g.known a (Seal x behind)) (stepped g a (goes (seal_phase phase)))) s
    (seals g a (seal.Call phase) (call_seal call (sealing_of phase)) (staged_of g.known.log (call_words call) (call_spelling call))
    (λ word.
    call_program segments (known_after g.known (call_seal call (sealing_of phase)) word []) a (behind (place_in g.known (call_seal call (sealing_of phase))) word))
    (λ word.
    calls (behind (place_in g.known (call_seal call (sealing_of phase))) word)
    (record g { known = known_after g.known (call_seal call (sealing_of phase)) word []; staging = [] }) call view room
    (sealed_of phase (place_in g.known (call_seal call (sealing_of phase))) word) segments refl pool
    (subst (λ n. Follows (brief_of n a) (behind (place_in g.known (call_seal call (sealing_of phase))) word)
    (sealed_of phase (place_in g.known (call_seal call (sealing_of phase))) word)) (sym (after_lane g.known (call_seal call (sealing_of phase)) word []))
    (h (place_in g.known (call_seal call (sealing_of phase))) word)))))
