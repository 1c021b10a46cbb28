use Rattle.std.specs.Prelude.{◌≡◌, ◌<◌, ℕ, Bool, true, false, List, [], Option, None}
use Rattle.dn_act.specs.Words.{word_at}
use Rattle.dn_record.specs.Record.{value_of}
use Rattle.dn_record.specs.declared.records.Record.{Record}
use Rattle.dn_hist.specs.Calls.{found_of}
use Rattle.dn_hist.specs.declared.calls.Call.{Call}
use Rattle.dn_hist.specs.declared.calls.Call.TheVariants.{Get, Put, Delete}
use Rattle.dn_hist.specs.declared.calls.Reply.{Reply}
use Rattle.dn_model.specs.Held.{is_authority}
use Rattle.dn_model.specs.OneLog.{is_plain}
use Rattle.dn_model.specs.Regions.{gate_at}
use Rattle.dn_store.specs.Holding.{authority_in}
use Rattle.dn_owners.specs.Known.{Look}
use Rattle.dn_owners.specs.Sound.{Agrees}
use Rattle.dn_find.specs.declared.finds.Find.{Find}
use Rattle.dn_log.specs.declared.claims.Claim.{Claim}
use Rattle.dn_plan.specs.Fit.{IsRead, IsWrite}
use Rattle.dn_plan.specs.declared.phases.ActPhase.{ActPhase}
use Rattle.dn_plan.specs.declared.phases.ActPhase.TheVariants as phase
use Rattle.dn_plan.specs.declared.phases.LocatePhase.TheVariants.{Owner}
use Rattle.dn_plan.specs.declared.phases.Raised.{Raised}
use Rattle.dn_plan.specs.declared.phases.RoomPhase.TheVariants as rooming
use Rattle.dn_plan.specs.declared.phases.SealPhase.TheVariants as sealing
use Rattle.dn_tend.specs.Tend.{asks_to_leave}
use Rattle.dn_tend.specs.declared.phases.TendAct.{TendAct}
use Rattle.dn_tend.specs.declared.phases.TendAct.TheVariants as at
use Rattle.dn_ask.specs.Ask.{wish_in, record_in}
use Rattle.dn_ask.specs.declared.asks.Act.{Act}
use Rattle.dn_ask.specs.declared.asks.Act.TheVariants as act
use Rattle.dn_ask.specs.declared.asks.FindRoom.TheVariants as room
use Rattle.dn_ask.specs.declared.asks.Locate.{Locate}
use Rattle.dn_ask.specs.declared.asks.Locate.TheVariants as locate
use Rattle.dn_ask.specs.declared.asks.Seal.TheVariants as seal
use Rattle.dn_services.specs.Room.{IsClaimFor}
use Rattle.dn_services.specs.declared.seals.Seal.{Seal}
use Rattle.dn_lane.specs.Asked.{brief_of, call_in}
use Rattle.dn_lane.specs.Ends.{reply_in}
use Rattle.dn_lane.specs.Taken.{sealing_by}
use Rattle.dn_lane.specs.declared.asked.Asked.{Asked}
use Rattle.dn_lane.specs.declared.asked.Asked.TheVariants as asked
use Rattle.dn_lane.specs.declared.base.Base.{Base}
use Rattle.dn_lane.specs.declared.modes.Mode.{Mode}
use Rattle.dn_lane.specs.declared.modes.Mode.TheVariants as mode
use Rattle.dn_beside.specs.Pool.{Pool, store_in}
use Rattle.dn_reach.specs.Placing.{plan_for, staged_for}
use Rattle.dn_reach.specs.Staging.{MayStageAll, AreFlowing}
use Rattle.dn_seek.specs.Loading.{OnlyLoads}
use Rattle.dn_seek.specs.Seeking.{KnowsSeek}
use Rattle.dn_receipts.specs.Sealing.{record_of}
use Rattle.dn_lanes.specs.Calls.{IsCalled, key_in, HasLook, HasRaised}

-- What a lane knows at each phase of a call that a slot's owner makes, and of the tasks release and trim. Keys that
-- lanes share have no phases yet.

-- ---- Always, also behind a fence.
-- By what it has looked at in its call or task. It has looked at nothing:
abbrev pub LooksAtNothing : Option Look → Type 0
LooksAtNothing seen = seen ≡ None

abbrev pub IsCalling : Option Look → ℕ → Asked → ActPhase → Type 0
IsCalling seen n a phase.Look = IsCalled a × LooksAtNothing seen
IsCalling seen n a (phase.Gate look located) = HasLook seen a look
IsCalling seen n a (phase.Raise r) = HasRaised seen n a r × IsRead (brief_of n a).kind

abbrev pub IsTending : Option Look → ℕ → TendAct → Type 0
IsTending seen n (at.Deed slot) = (slot < 64) × LooksAtNothing seen
IsTending seen n (at.GiveUp slot deed) = (slot < 64) × LooksAtNothing seen × (asks_to_leave n deed ≡ true)
IsTending seen n at.Mark = LooksAtNothing seen
IsTending seen n (at.ShareLook key) = ⊥
IsTending seen n (at.ShareGate key look place) = ⊥
IsTending seen n (at.Count share) = ⊥
IsTending seen n (at.Claim share) = ⊥
IsTending seen n (at.Name share cell) = ⊥
IsTending seen n (at.Open share cell) = ⊥
IsTending seen n (at.UnshareLook key) = ⊥
IsTending seen n (at.UnshareGate unshare) = ⊥
IsTending seen n (at.Cell unshare gate) = ⊥
IsTending seen n (at.Close unshare gate found stamp) = ⊥

abbrev pub IsActing : Option Look → ℕ → Asked → Act → Type 0
IsActing seen n a (act.Call phase) = IsCalling seen n a phase
IsActing seen n a (act.Task phase) = IsTending seen n phase

abbrev pub IsFinding : Option Look → Asked → Locate → Find → Type 0
IsFinding seen a (locate.Call (Owner look)) find = HasLook seen a look × OnlyLoads find
IsFinding seen a (locate.Task phase) find = ⊥

-- a put or delete claims a segment for its record
pub record IsClaiming (seen : Option Look) (n : ℕ) (g : Base) (a : Asked) (r : Raised) (c : Claim) : Type 0 where
  pub raised : HasRaised seen n a r
  pub write : IsWrite (brief_of n a).kind
  pub needs : (plan_for g.known.log (record_of (call_in a))).need_segment ≡ true
  pub claims : IsClaimFor g.known.log c

-- or its record has room, and what waits to flow may do so
pub record IsSealing (seen : Option Look) (n : ℕ) (g : Base) (a : Asked) (r : Raised) (s : Seal) : Type 0 where
  pub raised : HasRaised seen n a r
  pub write : IsWrite (brief_of n a).kind
  pub is : s ≡ sealing_by a (record_in (seal.Call (sealing.Write r)))
  pub room : (plan_for g.known.log (record_of (call_in a))).need_segment ≡ false
  pub stages : MayStageAll g.known.log g.staging

abbrev pub IsAt : Option Look → ℕ → Base → Asked → Mode → Type 0
IsAt seen n g a mode.Idle = (g.staging ≡ []) × LooksAtNothing seen × (a ≡ asked.Nothing)
IsAt seen n g a (mode.Acting wait) = (g.staging ≡ []) × IsActing seen n a wait
IsAt seen n g a (mode.Finding wait find) = (g.staging ≡ []) × IsFinding seen a wait find
IsAt seen n g a (mode.Claiming (room.Call (rooming.Write r)) claim) = (g.staging ≡ []) × IsClaiming seen n g a r claim
IsAt seen n g a (mode.Claiming (room.Task phase) claim) = ⊥
IsAt seen n g a (mode.Sealing (seal.Call (sealing.Write r)) s) = IsSealing seen n g a r s
IsAt seen n g a (mode.Sealing (seal.Task phase) s) = ⊥

-- ---- While its gate has no bit.
-- what a get will reply is what is held at its key
pub record IsReply (p : Pool) (key : ℕ) (reply : Reply) : Type 0 where
  pub of : Record
  pub agrees : Agrees (authority_in (store_in p) key) key of
  pub of_key : is_authority key of ≡ true
  pub plain : is_plain of ≡ true
  pub says : reply ≡ found_of (value_of of)

abbrev pub IsReplyTo : Pool → Call → List ℕ → Bool → Type 0
IsReplyTo p (Get key) value held = IsReply p key (reply_in (Get key) value held)
IsReplyTo p (Put key value) room held = Unit {0}
IsReplyTo p (Delete key) room held = Unit {0}

abbrev pub KnowsReply : Pool → Asked → Bool → Type 0
KnowsReply p asked.Nothing held = Unit {0}
KnowsReply p (asked.Call call view room) held = IsReplyTo p call room held
KnowsReply p asked.Task held = Unit {0}

-- the gate that it loaded still stands
abbrev pub KnowsGate : Pool → ℕ → Raised → Type 0
KnowsGate p n r = word_at p.words (gate_at n) ≡ r.gate

abbrev pub KnowsCalling : Pool → ℕ → Asked → ActPhase → Type 0
KnowsCalling p n a phase.Look = Unit {0}
KnowsCalling p n a (phase.Gate look located) = KnowsReply p a located.held
KnowsCalling p n a (phase.Raise r) = KnowsGate p n r × KnowsReply p a r.located.held

abbrev pub KnowsActing : Pool → ℕ → Asked → Act → Type 0
KnowsActing p n a (act.Call phase) = KnowsCalling p n a phase
KnowsActing p n a (act.Task phase) = Unit {0}

abbrev pub Knows : Pool → ℕ → Base → Asked → Mode → Type 0
Knows p n g a mode.Idle = Unit {0}
Knows p n g a (mode.Acting wait) = KnowsActing p n a wait
Knows p n g a (mode.Finding wait find) = KnowsSeek p n (key_in a) (wish_in (brief_of n a) wait) g.fetch find
Knows p n g a (mode.Claiming (room.Call (rooming.Write r)) claim) = KnowsGate p n r
Knows p n g a (mode.Claiming (room.Task phase) claim) = Unit {0}
Knows p n g a (mode.Sealing (seal.Call (sealing.Write r)) s) =
    KnowsGate p n r × AreFlowing p.words g.staging (staged_for g.known.log (record_of (call_in a)))
Knows p n g a (mode.Sealing (seal.Task phase) s) = Unit {0}
