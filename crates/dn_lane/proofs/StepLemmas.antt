use Rattle.std.proofs.Common.{◌≡◌, ℕ, ◌*◌, ◌==◌, List, [], ◌∷◌, Bool, true, false, Option, Some, None, nat_lt, length, if◌then◌else◌, refl, ap, subst, ◌∙◌}
use Rattle.dn_hist.specs.declared.calls.Call.{Call}
use Rattle.dn_hist.specs.declared.calls.Call.TheVariants.{Get, Put, Delete}
use Rattle.dn_log.specs.Log.{Log, plan_of, reach_of}
use Rattle.dn_log.specs.declared.claims.ClaimTurn.{ClaimTurn}
use Rattle.dn_log.specs.declared.claims.ClaimTurn.TheVariants as told
use Rattle.dn_log.specs.declared.plans.Plan.{Plan}
use Rattle.dn_log.specs.declared.staging.Staged.{Staged}
use Rattle.dn_plan.specs.Fit.{IsWrite as IsWriteKind}
use Rattle.dn_plan.specs.declared.phases.Room.{Room}
use Rattle.dn_plan.specs.declared.phases.Room.TheVariants.{Found}
use Rattle.dn_plan.specs.declared.phases.RoomPhase.TheVariants as phase
use Rattle.dn_tend.specs.declared.tasks.TendSeal.{TendSeal}
use Rattle.dn_tend.specs.declared.tasks.TendSeal.TheVariants as tend
use Rattle.dn_ask.specs.Ask.{task_gate}
use Rattle.dn_ask.specs.Fit.{FitsRoom}
use Rattle.dn_ask.specs.declared.asks.FindRoom.{FindRoom}
use Rattle.dn_ask.specs.declared.asks.Sealed.{Sealed}
use Rattle.dn_ask.specs.declared.asks.Sealed.TheVariants as sealed
use Rattle.dn_ask.specs.declared.asks.FindRoom.TheVariants as find
use Rattle.dn_known.specs.Sealed.{sealed_by}
use Rattle.dn_known.specs.State.{KnownState}
use Rattle.dn_services.specs.Room.{claimed_by, FitsTurn}
use Rattle.dn_services.specs.Sealing.{task_seal, known_after, plan_in}
use Rattle.dn_services.specs.Spelled.{IsWrite}
use Rattle.dn_services.specs.declared.rooms.RoomTurn.TheVariants.{Told}
use Rattle.dn_services.specs.declared.seals.Seal.{Seal}
use Rattle.dn_lane.specs.Asked.{brief_of, kind_of, FitsAsked, MaySeal}
use Rattle.dn_lane.specs.declared.asked.Asked.{Asked}
use Rattle.dn_lane.specs.declared.asked.Asked.TheVariants as asked
use Rattle.dn_lane.specs.declared.base.Base.{Base}
use Rattle.dn_lane.specs.Fit.{SameLane}
use Rattle.dn_lane.specs.Taken.{sealing_by}

-- ---- who looks for room seals a record
writes : (call : Call) → IsWriteKind (kind_of call) → IsWrite call
writes (Get key) h = h
writes (Put key value) h = h
writes (Delete key) h = h

pub may_seal : (lane : ℕ) (a : Asked) (wait : FindRoom) → FitsAsked a → FitsRoom (brief_of lane a) wait → MaySeal a
may_seal lane asked.Nothing wait f h = tt
may_seal lane asked.Task wait f h = tt
may_seal lane (asked.Call call view room) (find.Call (phase.Write raised)) f h = writes call h.1.1
may_seal lane (asked.Call call view room) (find.Task wait) f h = absurd (f.0 h.0.no_key)

-- the room that was found reaches for the record
pub room_told : (log : Log) (words : ℕ) (room : Room) → FitsTurn log words (Told room) → room ≡ Found → (plan_of log words).need_segment ≡ false
room_told log words room fits found = subst (λ r. FitsTurn log words (Told r)) found fits

-- ---- a task's record is sealed from the gate that the task loaded
pub task_seal_gate : (key : ℕ) (s : TendSeal) → (task_seal key s).gate ≡ task_gate s
task_seal_gate key (tend.Share cell opening gate) = refl
task_seal_gate key (tend.Unshare place stamp gate) = refl

-- and each record from the gate that its plan loaded
abbrev pub gate_in : Sealed → ℕ
gate_in (sealed.Call sealing) = sealing.gate
gate_in (sealed.Task key s) = task_gate s

seal_gate_of : (a : Asked) (s : Sealed) → (sealing_by a s).gate ≡ gate_in s
seal_gate_of a (sealed.Call sealing) = refl
seal_gate_of a (sealed.Task key s) = task_seal_gate key s

pub seal_gate : (a : Asked) (s : Seal) (of : Sealed) → s ≡ sealing_by a of → s.gate ≡ gate_in of
seal_gate a s of same = ap (λ (x : Seal). x.gate) same ∙ seal_gate_of a of

-- ---- a lane keeps its number and its pool
pub claimed_lane : (k : KnownState) (t : ClaimTurn) → (claimed_by k t).log.lane ≡ k.log.lane
claimed_lane k told.More = refl
claimed_lane k (told.Got segment) = refl
claimed_lane k (told.Full counter segments) = refl

pub claimed_pool : (k : KnownState) (t : ClaimTurn) → (claimed_by k t).log.pool ≡ k.log.pool
claimed_pool k told.More = refl
claimed_pool k (told.Got segment) = refl
claimed_pool k (told.Full counter segments) = refl

sealed_lane : (log : Log) (plan : Plan) (b : Bool)
    → (if b then record log { len = plan.len; segments = reach_of log; spare = None } else record log { len = plan.len }).lane ≡ log.lane
sealed_lane log plan true = refl
sealed_lane log plan false = refl

sealed_pool : (log : Log) (plan : Plan) (b : Bool)
    → (if b then record log { len = plan.len; segments = reach_of log; spare = None } else record log { len = plan.len }).pool ≡ log.pool
sealed_pool log plan true = refl
sealed_pool log plan false = refl

pub sealed_by_lane : (k : KnownState) (plan : Plan) (key : Option ℕ) → (sealed_by k plan key).log.lane ≡ k.log.lane
sealed_by_lane k plan key = sealed_lane k.log plan (nat_lt (1024 * length k.log.segments) plan.len)

exchanged_lane : (k : KnownState) (plan : Plan) (key : Option ℕ) (b : Bool) → (if b then sealed_by k plan key else k).log.lane ≡ k.log.lane
exchanged_lane k plan key true = sealed_by_lane k plan key
exchanged_lane k plan key false = refl

exchanged_pool : (k : KnownState) (plan : Plan) (key : Option ℕ) (b : Bool) → (if b then sealed_by k plan key else k).log.pool ≡ k.log.pool
exchanged_pool k plan key true = sealed_pool k.log plan (nat_lt (1024 * length k.log.segments) plan.len)
exchanged_pool k plan key false = refl

pub after_lane : (k : KnownState) (s : Seal) (word : ℕ) (waits : List Staged) → (known_after k s word waits).log.lane ≡ k.log.lane
after_lane k s word [] = exchanged_lane k (plan_in k s) (Some s.key) (word == s.gate)
after_lane k s word (w ∷ ws) = refl

pub after_pool : (k : KnownState) (s : Seal) (word : ℕ) (waits : List Staged) → (known_after k s word waits).log.pool ≡ k.log.pool
after_pool k s word [] = exchanged_pool k (plan_in k s) (Some s.key) (word == s.gate)
after_pool k s word (w ∷ ws) = refl

pub same_lane : (old mid new : Base) → SameLane mid new → mid.known.log.lane ≡ old.known.log.lane → mid.known.log.pool ≡ old.known.log.pool
    → mid.fetch.segments ≡ old.fetch.segments → SameLane old new
same_lane old mid new same lane pool fetch = record { number = same.number ∙ lane; pool = same.pool ∙ pool; fetch = same.fetch ∙ fetch }
