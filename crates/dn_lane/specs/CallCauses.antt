use Rattle.std.specs.Prelude.{◌≡◌, ◌≢◌, ◌⊎◌, ℕ, ◌-◌, ◌^◌, Bool, true, false, Some, None}
use Rattle.dn_word.specs.Gate.{gate_of}
use Rattle.dn_word.specs.Hash.{slot_of}
use Rattle.dn_word.specs.Need.{quiet_of, raised_of}
use Rattle.dn_word.specs.Regions.{gate_at, deed_at, segment_counter_at}
use Rattle.dn_act.specs.declared.actions.Action.{Action}
use Rattle.dn_act.specs.declared.actions.Action.TheVariants.{Load, Cas, Add}
use Rattle.dn_plan.specs.Plan.{is_owner, need_of}
use Rattle.dn_plan.specs.Causes.{HasToRaise}
use Rattle.dn_plan.specs.declared.phases.Brief.{Brief}
use Rattle.dn_plan.specs.declared.phases.Kind.TheVariants.{Get}
use Rattle.dn_plan.specs.declared.phases.Located.{Located}
use Rattle.dn_plan.specs.declared.phases.Raised.{Raised}
use Rattle.dn_plan.specs.declared.phases.Way.{Way}
use Rattle.dn_plan.specs.declared.phases.ActPhase.TheVariants as phase
use Rattle.dn_plan.specs.declared.phases.SealPhase.TheVariants as seal_phase
use Rattle.dn_hist.specs.declared.receipts.Receipt.{Receipt}
use Rattle.dn_ask.specs.declared.asks.Act.TheVariants as act
use Rattle.dn_ask.specs.declared.asks.Seal.TheVariants as seal
use Rattle.dn_services.specs.Room.{HasAll, IsPoolFull}
use Rattle.dn_services.specs.declared.seals.Seal.{Seal}
use Rattle.dn_lane.specs.Asked.{brief_of, call_in, number_in, words_in}
use Rattle.dn_lane.specs.declared.modes.Mode.TheVariants as mode
use Rattle.dn_lane.specs.Next.{next_of}
use Rattle.dn_lane.specs.State.{LaneState}
use Rattle.dn_lane.specs.declared.answers.Answer.{Answer}
use Rattle.dn_lane.specs.declared.answers.Answer.TheVariants.{Made, NotOwner, Fenced, Full, Worn}

-- When each answer of a call comes: after which action, by the word that it found.

abbrev pub brief_in : LaneState → Brief
brief_in l = brief_of l.base.known.log.lane l.asked

-- ---- the last action
abbrev pub Does : LaneState → Action → Type 0
Does l action = next_of l ≡ Some action

-- the load of the deed of the key's slot
abbrev pub Looks : LaneState → Type 0
Looks l = Does l (Load (deed_at (slot_of (brief_in l).key)))

-- the load of the lane's gate, which has no bit or has it
abbrev pub FindsGate : LaneState → ℕ → Bool → Type 0
FindsGate l word fenced = Does l (Load (gate_at l.base.known.log.lane)) × ((gate_of word).fenced ≡ fenced)

-- the exchange of the gate from this word
abbrev pub Exchanges : LaneState → ℕ → Type 0
Exchanges l old = (new : ℕ) × Does l (Cas (gate_at l.base.known.log.lane) old new)

-- the load of the counter of claimed segments, or the add that claims one
abbrev pub Counts : LaneState → Type 0
Counts l = Does l (Load segment_counter_at) ⊎ Does l (Add segment_counter_at 1)

-- ---- the causes
-- the receipt is of this call
pub record IsOfCall (l : LaneState) (receipt : Receipt) : Type 0 where
  pub call : receipt.call ≡ call_in l.asked
  pub number : receipt.number ≡ number_in l.asked

-- the call waits for its gate, and keeps the deed that it had loaded
abbrev pub WaitsForGate : LaneState → ℕ → Located → Type 0
WaitsForGate l look found = l.mode ≡ mode.Acting (act.Call (phase.Gate look found))

-- it waits for an exchange of its gate, for a position that it keeps with that deed and with the gate that it had loaded
abbrev pub WaitsForExchange : LaneState → Raised → Type 0
WaitsForExchange l r =
    (l.mode ≡ mode.Acting (act.Call (phase.Raise r))) ⊎ ((s : Seal) × (l.mode ≡ mode.Sealing (seal.Call (seal_phase.Write r)) s))

-- a get is quiet at the gate that it loaded: its position is the rule's, by that gate and by the deed
pub record IsQuiet (l : LaneState) (word : ℕ) (receipt : Receipt) (way : Way) : Type 0 where
  pub look : ℕ
  pub found : Located
  pub waits : WaitsForGate l look found
  pub loads : FindsGate l word false
  pub get : (brief_in l).kind ≡ Get
  pub owner : is_owner l.base.known.log.lane look ≡ true
  pub rule : quiet_of (need_of (brief_in l) look) (gate_of word).stamp ≡ Some receipt.position
  pub where_from : way ≡ found.way
  pub its : IsOfCall l receipt

-- the exchange of the gate was done: the position is the rule's raised one, by the gate before it and by the deed
pub record IsRaised (l : LaneState) (word : ℕ) (receipt : Receipt) (way : Way) : Type 0 where
  pub raised : Raised
  pub waits : WaitsForExchange l raised
  pub exchanges : Exchanges l word
  pub owner : is_owner l.base.known.log.lane raised.look ≡ true
  pub rule : raised_of (need_of (brief_in l) raised.look) (gate_of word).stamp ≡ Some receipt.position
  pub where_from : way ≡ raised.located.way
  pub its : IsOfCall l receipt

-- the gate that was loaded has the bit, or the exchange found another gate than was loaded
abbrev pub IsShut : LaneState → ℕ → Type 0
IsShut l word = FindsGate l word true ⊎ ((old : ℕ) × Exchanges l old × (word ≢ old))

-- the record needs a segment, and the lane has 256; or the counter is at least the number of the pool's
abbrev pub HasNoRoom : LaneState → ℕ → ℕ → ℕ → Type 0
HasNoRoom l word counter segments =
    (FindsGate l word false × HasAll l.base.known (words_in l.asked) counter segments)
    ⊎ (Counts l × IsPoolFull l.base.known word counter segments)

-- a raised stamp is needed, and none is left behind the gate's, the floor of the deed, and the session's last
pub record IsWorn (l : LaneState) (word stamp : ℕ) : Type 0 where
  pub look : ℕ
  pub found : Located
  pub waits : WaitsForGate l look found
  pub loads : FindsGate l word false
  pub raise : HasToRaise (brief_in l) look (gate_of word).stamp (brief_in l).kind
  pub last : stamp ≡ 2 ^ 31 - 1
  pub none : raised_of (need_of (brief_in l) look) (gate_of word).stamp ≡ None

abbrev pub CallCause : LaneState → ℕ → Answer → Type 0
CallCause l word (Made receipt way) = IsQuiet l word receipt way ⊎ IsRaised l word receipt way
CallCause l word (NotOwner look cell) = Looks l × (look ≡ word) × (is_owner l.base.known.log.lane word ≡ false) × (cell ≡ None)
CallCause l word (Fenced told) = (told ≡ word) × IsShut l word
CallCause l word (Full counter segments) = HasNoRoom l word counter segments
CallCause l word (Worn stamp) = IsWorn l word stamp
