use Rattle.std.proofs.Common.{ℕ, ◌<◌, ◌≤◌, ◌≡◌, inl, inr, List, map, Contains, Option, Some, None, slice_index, refl, sym, ◌∙◌, ap, subst, arith}
use Rattle.std.specs.Option.{option_map}
use Rattle.dn_word.specs.declared.packed.deed.Deed.{Deed}
use Rattle.dn_word.specs.declared.packed.place.Ref.{Ref}
use Rattle.dn_record.specs.declared.records.Record.{Record}
use Rattle.dn_model.specs.Regions.{mark, deed, slot_of}
use Rattle.dn_model.specs.Held.{Found}
use Rattle.dn_model.specs.declared.logs.Placed.{Placed}
use Rattle.dn_model.proofs.HashLaws.{slot_below}
use Rattle.dn_store.proofs.Holding.{owner_is, authority_is}
use Rattle.dn_plan.specs.declared.phases.ActPhase.TheVariants as phase
use Rattle.dn_plan.specs.declared.phases.LocatePhase.TheVariants.{Owner}
use Rattle.dn_plan.specs.declared.phases.RoomPhase.TheVariants as rooming
use Rattle.dn_plan.specs.declared.phases.SealPhase.TheVariants as sealing
use Rattle.dn_ask.specs.declared.asks.Act.{Act}
use Rattle.dn_ask.specs.declared.asks.Act.TheVariants as act
use Rattle.dn_ask.specs.declared.asks.FindRoom.TheVariants as room
use Rattle.dn_ask.specs.declared.asks.Locate.TheVariants as locate
use Rattle.dn_ask.specs.declared.asks.Seal.TheVariants as seal
use Rattle.dn_pending.specs.declared.entries.Entry.{Entry}
use Rattle.dn_pending.specs.Entries.{last_of}
use Rattle.dn_known.specs.State.{KnownState}
use Rattle.dn_known.specs.Counting.{count_of, at_least, place_of, pending_of, IsCounting}
use Rattle.dn_lane.specs.State.{LaneState}
use Rattle.dn_lane.specs.declared.asked.Asked.{Asked}
use Rattle.dn_lane.specs.declared.base.Base.{Base}
use Rattle.dn_lane.specs.declared.modes.Mode.{Mode}
use Rattle.dn_lane.specs.declared.modes.Mode.TheVariants as mode
use Rattle.dn_owners.specs.declared.plain.Pending.{Pending}
use Rattle.dn_owners.specs.Counting.{pending_from, last_counting}
use Rattle.dn_owners.specs.Known.{Look, Learnt}
use Rattle.dn_owners.specs.Sound.{Owns, IsHeld, Agrees}
use Rattle.dn_owners.specs.Merging.{IsRecordOf}
use Rattle.dn_owners.proofs.Ats.{none_some, same_some}
use Rattle.dn_owners.proofs.Logs.{ordered}
use Rattle.dn_owners.proofs.Counting.{counting_some}
use Rattle.dn_beside.specs.Pool.{Pool, store_in, IsWhole}
use Rattle.dn_learnt.specs.Learning.{Learns, pending_by}
use Rattle.dn_learnt.specs.Heeding.{look_by}
use Rattle.dn_learnt.specs.Pendings.{IsPendingAt}
use Rattle.dn_learnt.proofs.Asks.{IsNow, pending_is}
use Rattle.dn_learnt.proofs.Lasts.{Rises, pending_rises, counted_at, counted_by, counted_last}
use Rattle.dn_lanes.specs.Calls.{key_in, IsCalled, HasLook}
use Rattle.dn_lanes.proofs.Called.{positive}
use Rattle.dn_lanes.specs.Lane.{IsLaneAt}
use Rattle.dn_lanes.specs.Phases.{IsActing, IsAt}
use Rattle.dn_machine.specs.State.{Machine}
use Rattle.dn_machine.specs.Sound.{IsMachineAt, IsSound}
use Rattle.dn_parts.specs.Sealed.{IsSealedOf}
use Rattle.dn_parts.specs.Owning.{IsInOneLog, IsClear, looked_at, look_in, HoldLooks, OwnsSlot, HasMet, IsLatestAt, KnowPending}
use Rattle.dn_parts.proofs.PartsRead.{by_words, seen, is_clear, sealed_has, has_sealed, deed_is}
use Rattle.dn_parts.proofs.PartsPending.{entry_has, has_entry, pending_has, has_pending}

-- Owners, as a reader of words and lanes finds them.

-- ---- one log
-- it isn't merged by the words
not_merged : (p : Pool) (n k : ℕ) (x : Placed) → IsWhole p → IsSealedOf p.words n k x → mark p.words n ≤ x.offset → (store_in p).marks n ≤ x.offset
not_merged p n k x h s le = omega (arith, le, h.represents.table.marks n s.sealed.lane.below)

one_at : (p : Pool) (m : Machine) → IsMachineAt p m → IsInOneLog (seen p m)
one_at p m h = record {
  each = λ n k x s le. owner_is p.words p.chains (store_in p) k h.whole.represents
      ∙ h.whole.sound.one.each n k x (sealed_has p n x h.whole s.sealed) (not_merged p n k x h.whole s le) s.authority;
}

pub in_one_log : (segments : ℕ) (m : Machine) → IsSound segments m → IsInOneLog m
in_one_log segments m h = by_words IsInOneLog h.p m h.at.words (one_at h.p m h.at)

-- ---- after a look
record HasLooked (found : Option Look) (a : Asked) (word : ℕ) : Type 0 where
  called : IsCalled a
  look : found ≡ Some (look_by (slot_of (key_in a)) word)

its_look : (found : Option Look) (a : Asked) (look word : ℕ) → HasLook found a look → Some look ≡ Some word → HasLooked found a word
its_look found a look word h e = record { called = h.called; look = h.looked ∙ ap (λ w. Some (look_by (slot_of (key_in a)) w)) (same_some look word e) }

acting_look : (found : Option Look) (n : ℕ) (a : Asked) (w : Act) (word : ℕ) → IsActing found n a w → looked_at w ≡ Some word → HasLooked found a word
acting_look found n a (act.Call phase.Look) word h e = absurd (none_some word e)
acting_look found n a (act.Call (phase.Gate look located)) word h e = its_look found a look word h e
acting_look found n a (act.Call (phase.Raise r)) word h e = its_look found a r.look word h.0.look e
acting_look found n a (act.Task phase) word h e = absurd (none_some word e)

look_of : (found : Option Look) (n : ℕ) (g : Base) (a : Asked) (w : Mode) (word : ℕ) → IsAt found n g a w → look_in w ≡ Some word → HasLooked found a word
look_of found n g a mode.Idle word h e = absurd (none_some word e)
look_of found n g a (mode.Acting wait) word h e = acting_look found n a wait word h.1 e
look_of found n g a (mode.Finding (locate.Call (Owner look)) find) word h e = its_look found a look word h.1.0 e
look_of found n g a (mode.Finding (locate.Task phase) find) word h e = absurd (none_some word e)
look_of found n g a (mode.Claiming (room.Call (rooming.Write r)) claim) word h e = its_look found a r.look word h.1.raised.look e
look_of found n g a (mode.Claiming (room.Task phase) claim) word h e = absurd (none_some word e)
look_of found n g a (mode.Sealing (seal.Call (sealing.Write r)) s) word h e = its_look found a r.look word h.raised.look e
look_of found n g a (mode.Sealing (seal.Task phase) s) word h e = absurd (none_some word e)

looked_by : (p : Pool) (m : Machine) (n word : ℕ) (l : LaneState) → IsMachineAt p m → m.lanes n ≡ Some l → look_in l.mode ≡ Some word → HasLooked (p.owners.knows n).look l.asked word
looked_by p m n word l h is e = look_of (p.owners.knows n).look n l.base l.asked l.mode word (h.know.lanes n l is).at e

looks_at : (p : Pool) (m : Machine) → IsMachineAt p m → HoldLooks (seen p m)
looks_at p m h = record {
  each = λ n word l c e.
      let key : ℕ = key_in l.asked in
      let look : Look = look_by (slot_of key) word in
      let P : Deed → Type 0 = λ d. IsHeld d n look in
      subst P (sym (deed_is p key h.whole)) ((h.whole.sound.looks n).held look (looked_by p m n word l h c.runs e).look (is_clear p m n l h c));
}

pub hold_looks : (segments : ℕ) (m : Machine) → IsSound segments m → HoldLooks m
hold_looks segments m h = by_words HoldLooks h.p m h.at.words (looks_at h.p m h.at)

-- ---- pending records
-- those of a lane that runs, by its table and by its log
pendings_are : (p : Pool) (n : ℕ) (k : KnownState) → IsWhole p → Learns p n k → map pending_by k.pending.entries ≡ pending_from (p.owners.knows n).dropped ((store_in p).logs n)
pendings_are p n k h l = sym l.pending ∙ (h.sound.pending n).keeps l.running

record IsEntry (p : Pool) (n : ℕ) (e : Entry) : Type 0 where
  x : Placed
  at : x.offset ≡ e.at
  of : IsSealedOf p.words n e.key x

entry_is : (p : Pool) (n : ℕ) (k : KnownState) (e : Entry) → IsWhole p → Learns p n k → Contains k.pending.entries e → IsEntry p n e
entry_is p n k e h l c =
    let P : List Pending → Type 0 = λ qs. Contains qs (pending_by e) in
    let f = pending_has (p.owners.knows n).dropped ((store_in p).logs n) (pending_by e) (subst P (pendings_are p n k h l) (entry_has k.pending.entries e c)) in
    record { x = f.p; at = sym f.of.offset; of = record { sealed = has_sealed p n f.p h f.has; authority = f.of.authority } }

owns_by : (p : Pool) (m : Machine) (n k : ℕ) (l : LaneState) → IsMachineAt p m → OwnsSlot (seen p m) n (slot_of k) l → Owns (p.owners.knows n).running ((store_in p).gates n) ((store_in p).deeds (slot_of k)) n
owns_by p m n k l h o = record {
  is_running = (h.know.lanes n l o.clear.runs).learns.running;
  unfenced = is_clear p m n l h o.clear;
  names = ap (λ (d : Deed). d.lane) (sym (deed_is p k h.whole)) ∙ o.names;
}

-- the epoch of now, where the lane has learnt it
record IsLearntNow (p : Pool) (n key : ℕ) (k : KnownState) : Type 0 where
  now : IsNow p n key k
  epoch : slice_index k.epochs (slot_of key) ≡ (deed p.words (slot_of key)).epoch

now_by : (p : Pool) (m : Machine) (n k : ℕ) (l : LaneState) (c : Learnt) → IsMachineAt p m → OwnsSlot (seen p m) n (slot_of k) l → (p.owners.knows n).learnt (slot_of k) ≡ Some c
    → c.epoch ≡ ((store_in p).deeds (slot_of k)).epoch → IsLearntNow p n k l.base.known
now_by p m n k l c h o is e =
    let met = (h.know.lanes n l o.clear.runs).learns.met (slot_of k) (slot_below k) in
    let same : (c.epoch ≡ slice_index l.base.known.epochs (slot_of k)) × (c.from ≡ slice_index l.base.known.counts (slot_of k)) = elim (met.older c is) [
      | inl less ↦ absurd (omega (arith, less, met.upto, e))
      | inr same ↦ same
    ] in
    record {
      now = record { learnt = c; is = is; now = e; from = same.1; owns = owns_by p m n k l h o };
      epoch = sym same.0 ∙ e ∙ ap (λ (d : Deed). d.epoch) (sym (deed_is p k h.whole));
    }

-- ---- a record that isn't merged
record IsCounted (p : Pool) (n k : ℕ) (x : Placed) (known : KnownState) : Type 0 where
  learnt : IsLearntNow p n k known
  from : learnt.now.learnt.from ≤ x.offset

counted : (p : Pool) (m : Machine) (n k : ℕ) (l : LaneState) (x : Placed) → IsMachineAt p m → OwnsSlot (seen p m) n (slot_of k) l → IsSealedOf p.words n k x → mark p.words n ≤ x.offset → IsCounted p n k x l.base.known
unfolding now_by
counted p m n k l x h o s le =
    let c = (h.whole.sound.counted n).each k x (owns_by p m n k l h o) (sealed_has p n x h.whole s.sealed) (not_merged p n k x h.whole s le) s.authority in
    record { learnt = now_by p m n k l c.of h o c.is c.same; from = c.before }

counts_at : (p : Pool) (m : Machine) (n k : ℕ) (l : LaneState) (x : Placed) → IsMachineAt p m → OwnsSlot (seen p m) n (slot_of k) l → IsSealedOf p.words n k x → mark p.words n ≤ x.offset → IsCounting l.base.known k x.offset
counts_at p m n k l x h o s le =
    let c : IsCounted p n k x l.base.known = counted p m n k l x h o s le in
    let learns = (h.know.lanes n l o.clear.runs).learns in
    let past : (p.owners.knows n).dropped ≤ x.offset = omega (arith, (h.whole.sound.pending n).low learns.running, not_merged p n k x h.whole s le) in
    let P : List Pending → Type 0 = λ qs. Contains {X = Pending} qs (record { key = k; offset = x.offset }) in
    record {
      held = has_entry l.base.known.pending.entries k x.offset (subst P (sym (pendings_are p n l.base.known h.whole learns))
          (has_pending (p.owners.knows n).dropped ((store_in p).logs n) x k past (sealed_has p n x h.whole s.sealed) s.authority));
      counts = omega (arith, c.from, c.learnt.now.from);
    }

-- ---- the last that counts
last_is : (p : Pool) (n key : ℕ) (k : KnownState) (i : IsNow p n key k) → IsWhole p → Learns p n k
    → last_counting key i.learnt.from (p.owners.knows n).pending ≡ counted_by key (at_least (count_of k key) (last_of key k.pending.entries))
last_is p n key k i h l =
    let order = ordered p.words p.chains (store_in p) h.represents in
    let rises : Rises 0 (map pending_by k.pending.entries) = subst (Rises 0) (sym (pendings_are p n k h l)) (pending_rises 0 (p.owners.knows n).dropped ((store_in p).logs n) (order.rise n)) in
    ap (λ xs. last_counting key i.learnt.from xs) l.pending
    ∙ counted_last key i.learnt.from 0 k.pending.entries rises
    ∙ ap (λ c. counted_by key (at_least c (last_of key k.pending.entries))) i.from

place_counts : (k : KnownState) (key : ℕ) (o : Option ℕ) (at : Ref) → option_map (place_of k) o ≡ Some at → counted_by key o ≡ Some (counted_at key at.offset)
place_counts k key None at e = absurd (none_some at e)
place_counts k key (Some x) at e = ap (λ (r : Ref). Some (counted_at key r.offset)) (same_some (place_of k x) at e)

place_lane : (k : KnownState) (o : Option ℕ) (at : Ref) → option_map (place_of k) o ≡ Some at → at.lane ≡ k.log.lane
place_lane k None at e = absurd (none_some at e)
place_lane k (Some x) at e = sym (ap (λ (r : Ref). r.lane) (same_some (place_of k x) at e))

latest : (p : Pool) (m : Machine) (n k : ℕ) (x : Placed) (q : Pending) → IsMachineAt p m → 0 < k → (r : IsRecordOf p.owners n k q) → IsLatestAt (seen p m) n k q.offset
latest p m n k x q h pos r =
    let P : Found (Option Record) → Type 0 = λ f. Agrees f k r.of.entry in
    record {
      p = r.of;
      at = r.at;
      of = record { sealed = has_sealed p n r.of h.whole r.has; authority = r.authority };
      latest = record {
        logs = (store_in p).logs;
        chains = p.chains;
        reads = h.whole.represents.reads;
        agrees = subst P (sym (authority_is p.words p.chains (store_in p) k pos h.whole.represents)) r.agrees;
      };
    }

last_at : (p : Pool) (m : Machine) (n k : ℕ) (l : LaneState) (at : Ref) → IsMachineAt p m → 0 < k → HasMet (seen p m) n (slot_of k) l → pending_of l.base.known k ≡ Some at
    → (at.lane ≡ n) × IsLatestAt (seen p m) n k at.offset
last_at p m n k l at h pos o e =
    let known : KnownState = l.base.known in
    let lane : IsLaneAt n l p = h.know.lanes n l o.owns.clear.runs in
    let d = deed_is p k h.whole in
    let c = (lane.learns.met (slot_of k) (slot_below k)).owner (ap (λ (x : Deed). x.state) (sym d) ∙ o.state) (owns_by p m n k l h o.owns).names (o.epoch ∙ ap (λ (x : Deed). x.epoch) d) in
    let i : IsNow p n k known = (now_by p m n k l c.0 h o.owns c.1 (c.2 ∙ o.epoch ∙ ap (λ (x : Deed). x.epoch) d)).now in
    let counting : Option ℕ = at_least (count_of known k) (last_of k known.pending.entries) in
    let r : IsRecordOf p.owners n k (counted_at k at.offset) = counting_some p.owners n k i.learnt (counted_at k at.offset) (ordered p.words p.chains (store_in p) h.whole.represents) h.whole.sound i.owns i.is i.now
    (last_is p n k known i h.whole lane.learns ∙ place_counts known k counting at e) in
    (place_lane known counting at e ∙ lane.log.lane, latest p m n k r.of (counted_at k at.offset) h pos r)

-- and after a look
looked_at_last : (p : Pool) (m : Machine) (n word : ℕ) (l : LaneState) (at : Ref) → IsMachineAt p m → IsClear (seen p m) n l → look_in l.mode ≡ Some word → pending_of l.base.known (key_in l.asked) ≡ Some at
    → (at.lane ≡ n) × IsLatestAt (seen p m) n (key_in l.asked) at.offset
looked_at_last p m n word l at h c e f =
    let key : ℕ = key_in l.asked in
    let lane : IsLaneAt n l p = h.know.lanes n l c.runs in
    let look = looked_by p m n word l h c.runs e in
    let i : IsPendingAt p n key at = pending_is p n key l.base.known at h.whole (slot_below key) lane.log.lane
    (record { learns = lane.learns; look = look_by (slot_of key) word; looks = look.look; slot = refl; clear = is_clear p m n l h c }) f in
    let P : ℕ → Type 0 = λ o. IsLatestAt (seen p m) n key o in
    (i.lane, subst P (sym i.offset) (latest p m n key i.of.of i.q h (positive l.asked look.called) i.of))

pending_at : (p : Pool) (m : Machine) → IsMachineAt p m → KnowPending (seen p m)
pending_at p m h = record {
  past = λ n t l is lt. omega (arith, ((h.know.lanes n l is).learns.met t lt).upto, ap (λ (d : Deed). d.epoch) (h.whole.represents.table.deeds t lt));
  looked = λ n word l at c e f. looked_at_last p m n word l at h c e f;
  sealed = λ n l e is c. let f = entry_is p n l.base.known e h.whole (h.know.lanes n l is).learns c in (f.x, f.at, f.of);
  counts = λ n k l x o s le. counts_at p m n k l x h o s le;
  met = λ n k l x o s le. (counted p m n k l x h o s le).learnt.epoch;
  last = λ n k l at pos o e. last_at p m n k l at h pos o e;
}

pub know_pending : (segments : ℕ) (m : Machine) → IsSound segments m → KnowPending m
know_pending segments m h = by_words KnowPending h.p m h.at.words (pending_at h.p m h.at)
