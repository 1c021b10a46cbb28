use Rattle.std.proofs.Common.{ℕ, ◌-◌, ◌^◌, ◌≤◌, ◌≡◌, inl, inr, max, Bool, true, false, List, Option, Some, None, if◌then◌else◌, refl, ◌∙◌, sym, ap, arith}
use Rattle.dn_word.specs.Gate.{gate_of}
use Rattle.dn_word.specs.Need.{quiet_of, raised_of}
use Rattle.dn_word.specs.declared.packed.gate.Gate.{Gate}
use Rattle.dn_word.specs.declared.positions.Need.{Need}
use Rattle.dn_word.specs.declared.positions.Position.{Position}
use Rattle.dn_act.specs.Action.{Performs}
use Rattle.dn_act.specs.declared.actions.Action.TheVariants.{Load}
use Rattle.dn_act.specs.Words.{word_at}
use Rattle.dn_record.specs.Record.{value_of}
use Rattle.dn_hist.specs.Calls.{found_of}
use Rattle.dn_hist.specs.declared.calls.Call.TheVariants.{Get, Put, Delete}
use Rattle.dn_hist.specs.declared.receipts.Receipt.{Receipt}
use Rattle.dn_hist.specs.declared.receipts.SessionView.{SessionView}
use Rattle.dn_model.specs.Held.{Says}
use Rattle.dn_model.specs.Regions.{gate_at, slot_of, IsLane}
use Rattle.dn_plan.specs.Fit.{IsRead as IsReadKind, IsWrite as IsWriteKind}
use Rattle.dn_plan.specs.Plan.{need_of, raised_at, raises, reads, writes, opened, barred, goes as plan_goes}
use Rattle.dn_plan.specs.declared.phases.ActPhase.TheVariants as phase
use Rattle.dn_plan.specs.declared.phases.Located.{Located}
use Rattle.dn_plan.specs.declared.results.Ending.TheVariants.{Made, Fenced, Worn}
use Rattle.dn_plan.specs.declared.results.Next.TheVariants as next
use Rattle.dn_ask.specs.Ask.{call_after, call_step}
use Rattle.dn_ask.specs.declared.asks.Act.TheVariants as act
use Rattle.dn_ask.specs.declared.asks.End.TheVariants as end
use Rattle.dn_store.specs.Holding.{holds}
use Rattle.dn_owners.specs.Known.{Look}
use Rattle.dn_owners.specs.Sound.{IsHeld}
use Rattle.dn_lane.specs.Asked.{brief_of}
use Rattle.dn_lane.specs.Ends.{receipt_of}
use Rattle.dn_lane.specs.State.{LaneState}
use Rattle.dn_lane.specs.Taken.{by, entered, entered_after, taken_by}
use Rattle.dn_lane.specs.declared.asked.Asked.{Asked}
use Rattle.dn_lane.specs.declared.asked.Asked.TheVariants as asked
use Rattle.dn_lane.specs.declared.base.Base.{Base}
use Rattle.dn_lane.specs.declared.modes.Going.TheVariants.{End}
use Rattle.dn_lane.specs.declared.modes.Mode.TheVariants as mode
use Rattle.dn_beside.specs.Pool.{Pool, store_in, IsWhole}
use Rattle.dn_learnt.specs.Heeding.{look_by}
use Rattle.dn_seek.proofs.Seeks.{agreed_held}
use Rattle.dn_lanes.specs.Calls.{HasLook, HasRaised}
use Rattle.dn_lanes.specs.Phases.{IsReply}
use Rattle.dn_lanes.specs.Lane.{IsLaneAt}
use Rattle.dn_lanes.specs.Stepped.{ComesTo}
use Rattle.dn_lanes.proofs.Positions.{IsQuietAt, quiet_is}
use Rattle.dn_lanes.proofs.Ends.{HasDone, IsMaking, ends_so, goes_so, made_so}
use Rattle.dn_lanes.proofs.Loads.{loads, same_quiet, done_same, fenced_untold, worn_untold}
use Rattle.dn_lanes.proofs.Rooms.{rooms_from}

-- A lane loads its gate, once the key of its call is located.

-- ---- what the load begins with
abbrev pub opening : Base → Asked → ℕ → Located → LaneState
opening g a look located = record { base = g; asked = a; mode = mode.Acting (act.Call (phase.Gate look located)) }

pub record IsOpening (p : Pool) (g : Base) (a : Asked) (look : ℕ) (located : Located) (word : ℕ) (now : List ℕ) : Type 0 where
  pub whole : IsWhole p
  pub lane : IsLane g.known.log.lane
  pub at : IsLaneAt g.known.log.lane (opening g a look located) p
  pub found : word ≡ word_at p.words (gate_at g.known.log.lane)
  pub same : now ≡ p.words

opened_done : (p : Pool) (g : Base) (a : Asked) (look : ℕ) (located : Located) (word : ℕ) (now : List ℕ) → IsOpening p g a look located word now → HasDone p g.known.log.lane now g p
opened_done p g a look located word now h = done_same p g.known.log.lane (opening g a look located) now h.whole h.same h.at

-- what it finds is the gate
gate_is : (p : Pool) (g : Base) (a : Asked) (look : ℕ) (located : Located) (word : ℕ) (now : List ℕ) → IsOpening p g a look located word now → gate_of word ≡ (store_in p).gates g.known.log.lane
gate_is p g a look located word now h = ap gate_of h.found ∙ h.whole.represents.table.gates g.known.log.lane h.lane.below

-- ---- with the bit
barred_done : (p : Pool) (n : ℕ) (now : List ℕ) (g : Base) (word : ℕ) → HasDone p n now g p → HasDone p n now (record g { known = record g.known { barred = Some word } }) p
barred_done p n now g word h = record {
  words = h.words;
  by = h.by;
  log = h.log;
  learns = record { running = h.learns.running; epochs = h.learns.epochs; counts = h.learns.counts; met = h.learns.met; pending = h.learns.pending };
  fetch = h.fetch;
}

fenced_ends : (p : Pool) (g : Base) (a : Asked) (look : ℕ) (located : Located) (word : ℕ) (now : List ℕ) → IsOpening p g a look located word now
    → ComesTo p g.known.log.lane (opening g a look located) now (by a (entered g a (call_step (barred word))))
fenced_ends p g a look located word now h =
    ends_so p p g.known.log.lane (opening g a look located) now (record g { known = record g.known { barred = Some word } }) a (end.Call (Fenced word))
    (barred_done p g.known.log.lane now g word (opened_done p g a look located word now h)) (same_quiet p) h.at.at.0 (fenced_untold a word) (omega arith)

-- ---- without it
pub record IsOpen (p : Pool) (g : Base) (a : Asked) (look : ℕ) (located : Located) (word : ℕ) (now : List ℕ) : Type 0 where
  pub load : IsOpening p g a look located word now
  pub free : (gate_of word).fenced ≡ false

clear_is : (p : Pool) (g : Base) (a : Asked) (look : ℕ) (located : Located) (word : ℕ) (now : List ℕ) → IsOpen p g a look located word now → ((store_in p).gates g.known.log.lane).fenced ≡ false
clear_is p g a look located word now h = sym (ap (λ (x : Gate). x.fenced) (gate_is p g a look located word now h.load)) ∙ h.free

worn_ends : (p : Pool) (g : Base) (a : Asked) (look : ℕ) (located : Located) (word : ℕ) (now : List ℕ) (stamp : ℕ) → IsOpen p g a look located word now
    → ComesTo p g.known.log.lane (opening g a look located) now (record { going = End (end.Call (Worn stamp)); base = g; asked = a })
worn_ends p g a look located word now stamp h =
    ends_so p p g.known.log.lane (opening g a look located) now g a (end.Call (Worn stamp)) (opened_done p g a look located word now h.load) (same_quiet p) h.load.at.at.0 (worn_untold a stamp) (omega arith)

-- the position that a raise takes
has_raised : (p : Pool) (g : Base) (a : Asked) (look : ℕ) (located : Located) (word : ℕ) (now : List ℕ) (to : Position) → IsOpen p g a look located word now
    → raised_of (need_of (brief_of g.known.log.lane a) look) (gate_of word).stamp ≡ Some to → HasRaised (p.owners.knows g.known.log.lane).look g.known.log.lane a (raised_at look located word to)
has_raised p g a look located word now to h e = record { look = h.load.at.at.1; clear = h.free; rule = e }

-- ---- a put or delete
writes_by : (p : Pool) (g : Base) (a : Asked) (look : ℕ) (located : Located) (word : ℕ) (now : List ℕ) (o : Option Position) → IsOpen p g a look located word now → IsWriteKind (brief_of g.known.log.lane a).kind
    → raised_of (need_of (brief_of g.known.log.lane a) look) (gate_of word).stamp ≡ o
    → ComesTo p g.known.log.lane (opening g a look located) now (by a (entered_after g a (call_after (writes look located word o))))
writes_by p g a look located word now None h kind e = worn_ends p g a look located word now (2 ^ 31 - 1) h
writes_by p g a look located word now (Some to) h kind e =
    rooms_from p p g.known.log.lane (opening g a look located) now g a (raised_at look located word to) (opened_done p g a look located word now h.load) (same_quiet p)
    (record { raised = has_raised p g a look located word now to h e; write = kind; knows = λ clear. sym h.load.found }) h.load.at.at.0 (omega arith)

-- ---- a get that raises its stamp
raises_by : (p : Pool) (g : Base) (a : Asked) (look : ℕ) (located : Located) (word : ℕ) (now : List ℕ) (o : Option Position) → IsOpen p g a look located word now → IsReadKind (brief_of g.known.log.lane a).kind
    → raised_of (need_of (brief_of g.known.log.lane a) look) (gate_of word).stamp ≡ o
    → ComesTo p g.known.log.lane (opening g a look located) now (by a (entered_after g a (call_after (raises look located word o))))
raises_by p g a look located word now None h kind e = worn_ends p g a look located word now (2 ^ 31 - 1) h
raises_by p g a look located word now (Some to) h kind e =
    goes_so p p g.known.log.lane (opening g a look located) now g a (mode.Acting (act.Call (phase.Raise (raised_at look located word to)))) (opened_done p g a look located word now h.load) (same_quiet p)
    (h.load.at.at.0, (has_raised p g a look located word now to h e, kind)) (λ clear. (sym h.load.found, h.load.at.knows clear)) (inl (omega arith))

-- ---- a get that is quiet is made at the gate's stamp
said_same : (v w : Option (List ℕ)) → Says v ≡ Says w → v ≡ w
said_same v w e = cc

pub reply_right : (p : Pool) (key : ℕ) (r : Receipt) → IsReply p key r.reply → (v : Option (List ℕ)) → holds (store_in p) key ≡ Says v → r.reply ≡ found_of v
reply_right p key r h v e = h.says ∙ ap found_of (said_same (value_of h.of) v (sym (agreed_held (store_in p) key h.of h.of_key h.plain h.agrees) ∙ e))

-- what was promised of a key of its look's slot isn't above its gate's stamp or the look's floor
pub promised_upto : (p : Pool) (n key : ℕ) (look : Look) → IsWhole p → (p.owners.knows n).look ≡ Some look → slot_of key ≡ look.slot → ((store_in p).gates n).fenced ≡ false
    → p.owners.promised key ≤ max look.floor ((store_in p).gates n).stamp
promised_upto p n key look h looks slot clear =
    let held : IsHeld ((store_in p).deeds look.slot) n look = (h.sound.looks n).held look looks clear in
    let floor : ((store_in p).deeds (slot_of key)).floor ≡ look.floor = ap (λ t. ((store_in p).deeds t).floor) slot ∙ held.floor in
    let stamp : ((store_in p).gates ((store_in p).deeds (slot_of key)).lane).stamp ≡ ((store_in p).gates n).stamp = ap (λ m. ((store_in p).gates m).stamp) (ap (λ t. ((store_in p).deeds t).lane) slot ∙ held.names) in
    omega (arith, h.sound.stamps.each key, floor, stamp)

quiet_made : (p : Pool) (g : Base) (key : ℕ) (view : SessionView) (room : List ℕ) (look : ℕ) (located : Located) (word : ℕ) (now : List ℕ) (to : Position) → let a = asked.Call (Get key) view room in
    IsOpen p g a look located word now → quiet_of (need_of (brief_of g.known.log.lane a) look) (gate_of word).stamp ≡ Some to
    → ComesTo p g.known.log.lane (opening g a look located) now (record { going = End (end.Call (Made to None located)); base = g; asked = a })
quiet_made p g key view room look located word now to h e =
    let a : Asked = asked.Call (Get key) view room in
    let n : ℕ = g.known.log.lane in
    let r : Receipt = receipt_of (Get key) view room to None located.held in
    let need : Need = need_of (brief_of n a) look in
    let has : HasLook (p.owners.knows n).look a look = h.load.at.at.1 in
    let quiet : IsQuietAt need (gate_of word).stamp to = quiet_is need (gate_of word).stamp to e in
    let clear : ((store_in p).gates n).fenced ≡ false = clear_is p g a look located word now h in
    let stamp : (gate_of word).stamp ≡ ((store_in p).gates n).stamp = ap (λ (x : Gate). x.stamp) (gate_is p g a look located word now h.load) in
    let upto : p.owners.promised key ≤ max (look_by (slot_of key) look).floor ((store_in p).gates n).stamp = promised_upto p n key (look_by (slot_of key) look) h.load.whole has.looked refl clear in
    let making : IsMaking p p n r (look_by (slot_of key) look) = record {
      looks = has.looked;
      slot = refl;
      clear = clear;
      most = omega (arith, quiet.stamp_is, stamp);
      least = omega (arith, quiet.stamp_is, stamp, quiet.floor, upto);
      held = λ k v pos d held. held;
      promised = λ k. refl;
      effect = record { held = λ v held. held; right = reply_right p key r (h.load.at.knows clear); behind = inr quiet.behind };
    } in
    made_so p p n (opening g a look located) now g a (end.Call (Made to None located)) r (look_by (slot_of key) look) (opened_done p g a look located word now h.load) h.load.at.at.0 refl
    (record { call = refl; number = refl; session = quiet.session; later = quiet.later }) making (omega arith)

reads_by : (p : Pool) (g : Base) (key : ℕ) (view : SessionView) (room : List ℕ) (look : ℕ) (located : Located) (word : ℕ) (now : List ℕ) (o : Option Position) → let a = asked.Call (Get key) view room in
    IsOpen p g a look located word now → quiet_of (need_of (brief_of g.known.log.lane a) look) (gate_of word).stamp ≡ o
    → ComesTo p g.known.log.lane (opening g a look located) now
    (by a (entered_after g a (call_after (reads look located word o (raised_of (need_of (brief_of g.known.log.lane a) look) (gate_of word).stamp)))))
reads_by p g key view room look located word now (Some to) h e = quiet_made p g key view room look located word now to h e
reads_by p g key view room look located word now None h e =
    let a : Asked = asked.Call (Get key) view room in
    raises_by p g a look located word now (raised_of (need_of (brief_of g.known.log.lane a) look) (gate_of word).stamp) h tt refl

-- ---- by what was asked
open_so : (p : Pool) (g : Base) (a : Asked) (look : ℕ) (located : Located) (word : ℕ) (now : List ℕ) → IsOpen p g a look located word now
    → ComesTo p g.known.log.lane (opening g a look located) now (by a (entered_after g a (call_after (opened (brief_of g.known.log.lane a) look located word (brief_of g.known.log.lane a).kind))))
open_so p g asked.Nothing look located word now h = absurd h.load.at.at.1.called
open_so p g (asked.Call (Get key) view room) look located word now h =
    reads_by p g key view room look located word now (quiet_of (need_of (brief_of g.known.log.lane (asked.Call (Get key) view room)) look) (gate_of word).stamp) h refl
open_so p g (asked.Call (Put key value) view room) look located word now h =
    writes_by p g (asked.Call (Put key value) view room) look located word now (raised_of (need_of (brief_of g.known.log.lane (asked.Call (Put key value) view room)) look) (gate_of word).stamp) h tt refl
open_so p g (asked.Call (Delete key) view room) look located word now h =
    writes_by p g (asked.Call (Delete key) view room) look located word now (raised_of (need_of (brief_of g.known.log.lane (asked.Call (Delete key) view room)) look) (gate_of word).stamp) h tt refl
open_so p g asked.Task look located word now h = absurd h.load.at.at.1.called

opens_by : (p : Pool) (g : Base) (a : Asked) (look : ℕ) (located : Located) (word : ℕ) (now : List ℕ) (fenced : Bool) → IsOpening p g a look located word now → (gate_of word).fenced ≡ fenced
    → ComesTo p g.known.log.lane (opening g a look located) now
    (by a (entered g a (call_step (if fenced then barred word else plan_goes (next.After (opened (brief_of g.known.log.lane a) look located word (brief_of g.known.log.lane a).kind))))))
opens_by p g a look located word now true h e = fenced_ends p g a look located word now h
opens_by p g a look located word now false h e = open_so p g a look located word now (record { load = h; free = e })

pub opens : (p : Pool) (g : Base) (a : Asked) (look : ℕ) (located : Located) (word : ℕ) (now : List ℕ) → IsWhole p → IsLane g.known.log.lane → IsLaneAt g.known.log.lane (opening g a look located) p
    → Performs (Load (gate_at g.known.log.lane)) word p.words now → ComesTo p g.known.log.lane (opening g a look located) now (taken_by g a (mode.Acting (act.Call (phase.Gate look located))) word)
opens p g a look located word now h lane at done =
    opens_by p g a look located word now (gate_of word).fenced
    (record { whole = h; lane = lane; at = at; found = done.answer; same = loads (gate_at g.known.log.lane) word p.words now done }) refl
