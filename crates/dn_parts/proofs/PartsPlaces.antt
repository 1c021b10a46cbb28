use Rattle.std.proofs.Common.{ℕ, ◌<◌, ◌≤◌, ◌≡◌, true, false, List, [], ◌++◌, Option, Some, None, sym, ◌∙◌, ap, subst, arith}
use Rattle.dn_act.specs.Words.{word_at}
use Rattle.dn_ask.specs.Ask.{wish_in}
use Rattle.dn_ask.specs.declared.asks.Act.{Act}
use Rattle.dn_beside.specs.Pool.{Pool, store_in, IsWhole}
use Rattle.dn_hist.specs.Calls.{found_of, key_of}
use Rattle.dn_hist.specs.declared.calls.Call.{Call}
use Rattle.dn_hist.specs.declared.calls.Call.TheVariants.{Get}
use Rattle.dn_hist.specs.declared.calls.Reply.{Reply}
use Rattle.dn_hist.specs.declared.receipts.SessionView.{SessionView}
use Rattle.dn_index.specs.Walk.{Walking}
use Rattle.dn_lane.specs.Asked.{call_in, brief_of}
use Rattle.dn_lane.specs.Ends.{reply_in}
use Rattle.dn_lane.specs.State.{LaneState}
use Rattle.dn_lane.specs.declared.asked.Asked.{Asked}
use Rattle.dn_lane.specs.declared.base.Base.{Base}
use Rattle.dn_lane.specs.declared.modes.Mode.{Mode}
use Rattle.dn_lanes.proofs.Called.{is_call, call_record, call_key, positive}
use Rattle.dn_lanes.specs.Calls.{key_in}
use Rattle.dn_lanes.specs.Lane.{IsLaneAt}
use Rattle.dn_lanes.specs.Phases.{IsReply, KnowsReply, KnowsGate, KnowsActing, Knows, IsSealing, IsAt}
use Rattle.dn_log.specs.Log.{Log, new_segment_of}
use Rattle.dn_log.specs.declared.plans.Plan.{Plan}
use Rattle.dn_log.specs.declared.staging.Staged.{Staged}
use Rattle.dn_parts.proofs.PartsRead.{by_words, seen, is_clear, sealed_has, has_sealed, IsRecordAt, record_found}
use Rattle.dn_parts.proofs.PartsWalking.{has_walked, lane_behind}
use Rattle.dn_parts.specs.Owning.{IsClear, IsLatestAt}
use Rattle.dn_parts.specs.Places.{located_at, located_in, raised_at, raised_in, IsReplyFor, IsSealingIn, AllMerged, KnowPlaces}
use Rattle.dn_machine.specs.Sound.{IsCallOf, IsMachineAt, IsSound}
use Rattle.dn_machine.specs.State.{Machine}
use Rattle.dn_parts.specs.Walking.{IsBehind, HasWalked}
use Rattle.dn_model.specs.Held.{Found, Says, is_authority, entry_at}
use Rattle.dn_model.specs.Log.{Tiles}
use Rattle.dn_model.specs.Regions.{gate_at, offsets, slot_of}
use Rattle.dn_owners.proofs.Ats.{none_some, same_some}
use Rattle.dn_owners.proofs.Last.{none_found}
use Rattle.dn_owners.specs.Known.{Look}
use Rattle.dn_owners.specs.Sound.{Agrees}
use Rattle.dn_plan.specs.declared.phases.LocatePhase.TheVariants.{Owner}
use Rattle.dn_plan.specs.declared.phases.Located.{Located}
use Rattle.dn_plan.specs.declared.phases.Raised.{Raised}
use Rattle.dn_plan.specs.declared.phases.Way.{Way}
use Rattle.dn_reach.proofs.Grown.{AreThere, all_there, there_left, IsReached, reached}
use Rattle.dn_reach.proofs.Tiled.{placed_tiled}
use Rattle.dn_reach.specs.OwnLog.{HoldsLog}
use Rattle.dn_reach.specs.Placing.{plan_for, staged_for, placed_by}
use Rattle.dn_reach.specs.Staging.{AreFlowing}
use Rattle.dn_receipts.specs.Sealing.{record_of}
use Rattle.dn_record.specs.Grammar.{IsRecord}
use Rattle.dn_record.specs.Record.{length_in_words, spelling, value_of, key_of as key_of_record}
use Rattle.dn_record.specs.declared.records.Record.{Record}
use Rattle.dn_seek.proofs.Seeks.{agreed_held}
use Rattle.dn_seek.specs.Seeking.{KnowsWalk as KnowsIndexed, KnowsRecord}
use Rattle.dn_services.specs.Staged.{directory_staged, pad_staged, placed}
use Rattle.dn_services.specs.declared.seals.Seal.{Seal}
use Rattle.dn_store.proofs.Holding.{held_is, authority_is}
use Rattle.dn_store.specs.Holding.{holds, authority_in, waiting}
use Rattle.dn_word.specs.declared.packed.place.Ref.{Ref}
use Rattle.dn_plan.specs.declared.phases.ActPhase.TheVariants as phase
use Rattle.dn_plan.specs.declared.phases.RoomPhase.TheVariants as rooming
use Rattle.dn_plan.specs.declared.phases.SealPhase.TheVariants as sealing
use Rattle.dn_ask.specs.declared.asks.Act.TheVariants as act
use Rattle.dn_ask.specs.declared.asks.FindRoom.TheVariants as room
use Rattle.dn_ask.specs.declared.asks.Seal.TheVariants as seal
use Rattle.dn_lane.specs.declared.asked.Asked.TheVariants as asked
use Rattle.dn_lane.specs.declared.modes.Mode.TheVariants as mode
use Rattle.dn_find.specs.declared.finds.Find.TheVariants as find
use Rattle.dn_ask.specs.declared.asks.Locate.TheVariants as locate

-- What a lane knows at the phases of its call.

-- ---- while its gate has no bit
knows : (p : Pool) (m : Machine) (n : ℕ) (l : LaneState) → IsMachineAt p m → IsClear (seen p m) n l → Knows p n l.base l.asked l.mode
knows p m n l h c = (h.know.lanes n l c.runs).knows (is_clear p m n l h c)

-- ---- its gate
gate_by : (p : Pool) (n : ℕ) (found r : Raised) → KnowsGate p n found → Some found ≡ Some r → word_at p.words (gate_at n) ≡ r.gate
gate_by p n found r h e = h ∙ ap (λ (x : Raised). x.gate) (same_some found r e)

acting_gate : (p : Pool) (n : ℕ) (a : Asked) (w : Act) (r : Raised) → KnowsActing p n a w → raised_at w ≡ Some r → word_at p.words (gate_at n) ≡ r.gate
acting_gate p n a (act.Call phase.Look) r h e = absurd (none_some r e)
acting_gate p n a (act.Call (phase.Gate look located)) r h e = absurd (none_some r e)
acting_gate p n a (act.Call (phase.Raise x)) r h e = gate_by p n x r h.0 e
acting_gate p n a (act.Task phase) r h e = absurd (none_some r e)

gate_known : (p : Pool) (n : ℕ) (g : Base) (a : Asked) (w : Mode) (r : Raised) → Knows p n g a w → raised_in w ≡ Some r → word_at p.words (gate_at n) ≡ r.gate
gate_known p n g a mode.Idle r h e = absurd (none_some r e)
gate_known p n g a (mode.Acting wait) r h e = acting_gate p n a wait r h e
gate_known p n g a (mode.Finding wait find) r h e = absurd (none_some r e)
gate_known p n g a (mode.Claiming (room.Call (rooming.Write x)) claim) r h e = gate_by p n x r h e
gate_known p n g a (mode.Claiming (room.Task phase) claim) r h e = absurd (none_some r e)
gate_known p n g a (mode.Sealing (seal.Call (sealing.Write x)) s) r h e = gate_by p n x r h.0 e
gate_known p n g a (mode.Sealing (seal.Task phase) s) r h e = absurd (none_some r e)

-- ---- its reply
reply_by : (p : Pool) (a : Asked) (found located : Located) → KnowsReply p a found.held → Some found ≡ Some located → KnowsReply p a located.held
reply_by p a found located h e = subst (λ (x : Located). KnowsReply p a x.held) (same_some found located e) h

acting_reply : (p : Pool) (n : ℕ) (a : Asked) (w : Act) (located : Located) → KnowsActing p n a w → located_at w ≡ Some located → KnowsReply p a located.held
acting_reply p n a (act.Call phase.Look) located h e = absurd (none_some located e)
acting_reply p n a (act.Call (phase.Gate look found)) located h e = reply_by p a found located h e
acting_reply p n a (act.Call (phase.Raise x)) located h e = reply_by p a x.located located h.1 e
acting_reply p n a (act.Task phase) located h e = absurd (none_some located e)

reply_known : (p : Pool) (n : ℕ) (g : Base) (a : Asked) (w : Mode) (located : Located) → Knows p n g a w → located_in w ≡ Some located → KnowsReply p a located.held
reply_known p n g a mode.Idle located h e = absurd (none_some located e)
reply_known p n g a (mode.Acting wait) located h e = acting_reply p n a wait located h e
reply_known p n g a (mode.Finding wait find) located h e = absurd (none_some located e)
reply_known p n g a (mode.Claiming wait claim) located h e = absurd (none_some located e)
reply_known p n g a (mode.Sealing wait s) located h e = absurd (none_some located e)

same_said : (a b : Option (List ℕ)) → (let x : Found (Option (List ℕ)) = Says a in x) ≡ Says b → a ≡ b
same_said a b e = cc

reply_at : (p : Pool) (m : Machine) (key : ℕ) (reply : Reply) → IsMachineAt p m → 0 < key → IsReply p key reply → IsReplyFor p.words key reply
reply_at p m key reply h pos i =
    let there : holds (store_in p) key ≡ Says (h.receipts.held key) = h.receipts.there key pos in
    let same : value_of i.of ≡ h.receipts.held key = same_said (value_of i.of) (h.receipts.held key) (sym (agreed_held (store_in p) key i.of i.of_key i.plain i.agrees) ∙ there) in
    record {
      value = h.receipts.held key;
      held = record {
        logs = (store_in p).logs;
        chains = p.chains;
        reads = h.whole.represents.reads;
        is = held_is p.words p.chains (store_in p) key pos h.whole.represents ∙ there;
      };
      says = i.says ∙ ap found_of same;
    }

reply_for : (p : Pool) (m : Machine) (n key : ℕ) (l : LaneState) (view : SessionView) (value : List ℕ) (located : Located) → IsMachineAt p m → IsClear (seen p m) n l → l.asked ≡ asked.Call (Get key) view value → located_in l.mode ≡ Some located
    → IsReplyFor p.words key (reply_in (Get key) value located.held)
reply_for p m n key l view value located h c e f =
    let P : Asked → Type 0 = λ a. KnowsReply p a located.held in
    let Q : Asked → Type 0 = λ a. IsCallOf m.callers a in
    let call = subst Q e (h.actors.calls n l c.runs) in
    let pos : 0 < key = omega (arith, call.1) in
    reply_at p m key (reply_in (Get key) value located.held) h pos (subst P e (reply_known p n l.base l.asked l.mode located (knows p m n l h c) f))

-- ---- the record that it seals
spelled_by : (p : Pool) (n : ℕ) (log : Log) (r : Record) (k : ℕ) → HoldsLog p n log → IsRecord r → key_of_record r ≡ Some k → (plan_for log r).need_segment ≡ false → AreFlowing p.words [] (staged_for log r)
    → Tiles (offsets p.words n) log.len (placed_by (plan_for log r) r) (plan_for log r).len
spelled_by p n log r k own s e room flowed =
    let plan : Plan = plan_for log r in
    let there : AreThere p.words (staged_for log r) = all_there p.words (staged_for log r) flowed in
    let reach : IsReached p.words log plan = reached p.words log (length_in_words r) own.directory room
    (there_left p.words (directory_staged log (new_segment_of log plan)) (pad_staged log plan.pad ++ placed log plan.at (spelling r)) there) in
    let TilesAt : ℕ → Type 0 = λ i. Tiles (offsets p.words i) log.len (placed_by plan r) plan.len in
    subst TilesAt own.lane (placed_tiled p.words log r k reach.segments reach.spare s e reach.grows there)

sealing_at : (p : Pool) (n : ℕ) (g : Base) (a : Asked) (r : Raised) (s : Seal) (found : Option Look) → HoldsLog p n g.known.log → IsSealing found n g a r s → AreFlowing p.words g.staging (staged_for g.known.log (record_of (call_in a))) → g.staging ≡ []
    → Tiles (offsets p.words n) g.known.log.len (placed_by (plan_for g.known.log (record_of (call_in a))) (record_of (call_in a))) (plan_for g.known.log (record_of (call_in a))).len
sealing_at p n g a r s found own i flowing none =
    let call : Call = call_in a in
    let P : List Staged → Type 0 = λ xs. AreFlowing p.words xs (staged_for g.known.log (record_of call)) in
    spelled_by p n g.known.log (record_of call) (key_of call) own (call_record call (is_call a i.raised.look.called)) (call_key call) i.room (subst P none flowing)

seals_at : (p : Pool) (m : Machine) (n : ℕ) (l : LaneState) (r : Raised) (s : Seal) → IsMachineAt p m → IsClear (seen p m) n l → l.mode ≡ mode.Sealing (seal.Call (sealing.Write r)) s → IsSealingIn p.words n l
seals_at p m n l r s h c e =
    let at : IsLaneAt n l p = h.know.lanes n l c.runs in
    let P : Mode → Type 0 = λ w. IsAt (p.owners.knows n).look n l.base l.asked w in
    let Q : Mode → Type 0 = λ w. Knows p n l.base l.asked w in
    let flowing = (subst Q e (knows p m n l h c)).1 in
    record {
      flowing = flowing;
      spelled = λ none. sealing_at p n l.base l.asked r s (p.owners.knows n).look at.log (subst P e at.at) flowing none;
    }

-- ---- the index
all_merged : (p : Pool) (n k : ℕ) → IsWhole p → ((store_in p).deeds (slot_of k)).lane ≡ n → waiting (store_in p) n k ≡ None → AllMerged p.words k
all_merged p n k h owner none j x s le =
    let has = sealed_has p j x h s.sealed in
    let past : (store_in p).marks j ≤ x.offset = omega (arith, le, h.represents.table.marks j s.sealed.lane.below) in
    let same : j ≡ n = sym (h.sound.one.each j k x has past s.authority) ∙ owner in
    let P : ℕ → Type 0 = λ i. waiting (store_in p) i k ≡ None in
    none_found k ((store_in p).marks j) ((store_in p).logs j) x (subst P (sym same) none) (record { has = has; from = past; authority = s.authority })

lane_walks : (p : Pool) (m : Machine) (n look : ℕ) (l : LaneState) (w : Walking) → IsMachineAt p m → IsClear (seen p m) n l → l.mode ≡ mode.Finding (locate.Call (Owner look)) (find.Walk w)
    → (w.key ≡ key_in l.asked) × HasWalked p.words w × AllMerged p.words w.key
lane_walks p m n look l w h c e =
    let P : Mode → Type 0 = λ y. Knows p n l.base l.asked y in
    let x : KnowsIndexed p n (key_in l.asked) l.base.fetch w = subst P e (knows p m n l h c) in
    let Q : ℕ → Type 0 = λ k. IsBehind p.words p.chains k w.place in
    let R : ℕ → Type 0 = λ k. AllMerged p.words k in (
      x.key_is,
      has_walked p w h.whole (subst Q (sym x.key_is) (lane_behind p.words p.chains (key_in l.asked) w.place x.finds)),
      subst R (sym x.key_is) (all_merged p n (key_in l.asked) h.whole x.owner x.none),
    )

-- ---- the record that is fetched
fetched : (p : Pool) (m : Machine) (k : ℕ) (r : Record) (at : Ref) → IsMachineAt p m → 0 < k → entry_at at.offset ((store_in p).logs at.lane) ≡ Some r → is_authority k r ≡ true → Agrees (authority_in (store_in p) k) k r
    → IsLatestAt (seen p m) at.lane k at.offset
fetched p m k r at h pos there auth agrees =
    let x : IsRecordAt at.offset ((store_in p).logs at.lane) r = record_found at.offset ((store_in p).logs at.lane) r there in
    let P : Found (Option Record) → Type 0 = λ f. Agrees f k x.p.entry in
    let Q : Record → Type 0 = λ y. Agrees (authority_in (store_in p) k) k y in
    record {
      p = x.p;
      at = x.offset;
      of = record { sealed = has_sealed p at.lane x.p h.whole x.has; authority = ap (is_authority k) x.entry ∙ auth };
      latest = record {
        logs = (store_in p).logs;
        chains = p.chains;
        reads = h.whole.represents.reads;
        agrees = subst P (sym (authority_is p.words p.chains (store_in p) k pos h.whole.represents)) (subst Q (sym x.entry) agrees);
      };
    }

lane_fetches : (p : Pool) (m : Machine) (n look : ℕ) (l : LaneState) (way : Way) → IsMachineAt p m → IsClear (seen p m) n l → l.mode ≡ mode.Finding (locate.Call (Owner look)) (find.Fetch way)
    → IsLatestAt (seen p m) l.base.fetch.at.lane (key_in l.asked) l.base.fetch.at.offset
lane_fetches p m n look l way h c e =
    let at : IsLaneAt n l p = h.know.lanes n l c.runs in
    let P : Mode → Type 0 = λ y. Knows p n l.base l.asked y in
    let Q : Mode → Type 0 = λ y. IsAt (p.owners.knows n).look n l.base l.asked y in
    let x : KnowsRecord p (key_in l.asked) (wish_in (brief_of n l.asked) (locate.Call (Owner look))) l.base.fetch = subst P e (knows p m n l h c) in
    let pos : 0 < key_in l.asked = positive l.asked (subst Q e at.at).1.0.called in
    fetched p m (key_in l.asked) x.of l.base.fetch.at h pos x.fetch.sealed.there x.fetch.sealed.of_key x.agrees

-- ---- all of them
places_at : (p : Pool) (m : Machine) → IsMachineAt p m → KnowPlaces (seen p m)
places_at p m h = record {
  gates = λ n l r c e. gate_known p n l.base l.asked l.mode r (knows p m n l h c) e;
  replies = λ n key l view value located c e f. reply_for p m n key l view value located h c e f;
  seals = λ n l r s c e. seals_at p m n l r s h c e;
  walks = λ n look l w c e. lane_walks p m n look l w h c e;
  fetches = λ n look l way c e. lane_fetches p m n look l way h c e;
}

pub know_places : (segments : ℕ) (m : Machine) → IsSound segments m → KnowPlaces m
know_places segments m h = by_words KnowPlaces h.p m h.at.words (places_at h.p m h.at)
