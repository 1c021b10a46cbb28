use Rattle.std.proofs.Common.{ℕ, ◌+◌, ◌^◌, ◌<◌, ◌≤◌, ◌≡◌, ◌≢◌, ◌++◌, inl, inr, true, List, [], ◌∷◌, All, Contains, length, slice_set, slice_index, Option, refl, sym, ◌∙◌, ap, subst, arith}
use Rattle.std.proofs.lemmas.List.Elements.{Contains-append_cases}
use Rattle.dn_word.specs.Gate.{gate_of, gate_word}
use Rattle.dn_word.specs.declared.packed.gate.Gate.{Gate}
use Rattle.dn_record.specs.Record.{spelling, length_in_words, value_of}
use Rattle.dn_record.specs.declared.records.Record.{Record}
use Rattle.dn_log.specs.Log.{Log, sealed_of, new_segment_of, IsFit, IsApart}
use Rattle.dn_log.specs.declared.plans.Plan.{Plan}
use Rattle.dn_model.specs.declared.logs.Placed.{Placed}
use Rattle.dn_model.specs.Regions.{gate_at, slot_of, directory, offsets}
use Rattle.dn_model.specs.Log.{Tiles, IsCovered}
use Rattle.dn_model.specs.Held.{Says}
use Rattle.dn_model.specs.OneLog.{is_plain}
use Rattle.dn_model.proofs.LogLaws.{tiles_le, some_words}
use Rattle.dn_services.specs.Staged.{placed, directory_staged, pad_staged}
use Rattle.dn_store.specs.State.{with_at}
use Rattle.dn_store.specs.Changes.{sealed}
use Rattle.dn_store.specs.Represents.{Represents}
use Rattle.dn_store.specs.Holding.{holds}
use Rattle.dn_store.proofs.At.{at_by, at_same, at_other}
use Rattle.dn_store.proofs.Lanes.{seal}
use Rattle.dn_owners.specs.Counting.{pending_in}
use Rattle.dn_owners.specs.Known.{Knows}
use Rattle.dn_owners.specs.Events.{Event, Seal}
use Rattle.dn_owners.specs.Given.{IsGiven}
use Rattle.dn_owners.specs.Later.{IsHeldAfterSeal}
use Rattle.dn_owners.specs.Sound.{Rise}
use Rattle.dn_owners.proofs.Logs.{ordered, rise_low}
use Rattle.dn_owners.proofs.Grown.{later}
use Rattle.dn_owners.proofs.Tables.{kept, held_after, located}
use Rattle.dn_beside.specs.Pool.{Pool, store_in, IsWhole, ArePlain}
use Rattle.dn_beside.specs.Step.{IsStepBy, by_lane}
use Rattle.dn_reach.specs.Directory.{NamesSegments}
use Rattle.dn_reach.specs.OwnLog.{HoldsLog, IsLaneOf}
use Rattle.dn_reach.specs.Placing.{plan_for, staged_for, placed_by}
use Rattle.dn_reach.specs.Exchange.{open_gate, IsExchanged}
use Rattle.dn_reach.specs.Steps.{after_seal}
use Rattle.dn_reach.specs.Sealing.{MaySeal}
use Rattle.dn_reach.proofs.OwnSteps.{IsOwnStep, own_step, stored_alike, low_not_of}
use Rattle.dn_reach.proofs.Grown.{AreThere, all_there, there_left, IsGrown, IsReached, reached, grown, grown_covered, end_fits}
use Rattle.dn_reach.proofs.Tiled.{placed_tiled}
use Rattle.dn_reach.proofs.Added.{placed_plain, placed_key, placed_none, placed_last, placed_pending}
use Rattle.dn_reach.proofs.Gates.{IsGateStored, gate_stored, gate_directory}

-- The exchange of a gate that seals a put or delete.

tiled_rise : (w : ℕ → ℕ) (o end : ℕ) (log : List Placed) → Tiles w o log end → Rise o log
tiled_rise w o end [] h = tt
tiled_rise w o end (p ∷ ps) h = (
  omega (arith, h.0),
  rise_low (o + length_in_words p.entry) (p.offset + 1) ps (omega (arith, h.0, some_words p.entry h.1.is_record)) (tiled_rise w (o + length_in_words p.entry) end ps h.2),
)

-- ---- what the lane's words say then
pub record IsSealable (p : Pool) (n : ℕ) (log : Log) (r : Record) (old stamp : ℕ) (now : List ℕ) : Type 0 where
  pub reach : IsReached p.words log (plan_for log r)
  pub stored : IsGateStored p n old stamp (plan_for log r).len now
  pub tiled : Tiles (offsets p.words n) ((store_in p).gates n).len (placed_by (plan_for log r) r) (plan_for log r).len
  pub covered : IsCovered p.words n (plan_for log r).len

pub sealable : (p : Pool) (n : ℕ) (log : Log) (k : ℕ) (r : Record) (old stamp : ℕ) (now : List ℕ) → IsLaneOf p n log → MaySeal p n log k r → IsExchanged p n old stamp (plan_for log r).len now → IsSealable p n log r old stamp now
sealable p n log k r old stamp now h m x =
    let s = h.own in
    let plan : Plan = plan_for log r in
    let there : AreThere p.words (staged_for log r) = all_there p.words (staged_for log r) m.flowed in
    let reach : IsReached p.words log plan = reached p.words log (length_in_words r) s.directory m.may.room
    (there_left p.words (directory_staged log (new_segment_of log plan)) (pad_staged log plan.pad ++ placed log plan.at (spelling r)) there) in
    let fits : plan.len < 2 ^ 24 = end_fits p.words log plan.len reach.segments reach.spare reach.grows s.fit in
    let TilesAt : ℕ → Type 0 = λ l. Tiles (offsets p.words l) log.len (placed_by plan r) plan.len in
    let TilesFrom : ℕ → Type 0 = λ o. Tiles (offsets p.words n) o (placed_by plan r) plan.len in
    let CoversAt : ℕ → Type 0 = λ l. IsCovered p.words l plan.len in
    record {
      reach = reach;
      stored = gate_stored p n old stamp plan.len now h.whole h.lane fits x;
      tiled = subst TilesFrom (sym s.len) (subst TilesAt s.lane (placed_tiled p.words log r k reach.segments reach.spare m.may.spelled m.may.key reach.grows there));
      covered = subst CoversAt s.lane (grown_covered p.words log plan.len reach.segments reach.spare reach.grows s.fit);
    }

-- ---- the event
abbrev event : ℕ → Log → Record → ℕ → Event
event n log r stamp = Seal n (open_gate stamp (plan_for log r).len) (placed_by (plan_for log r) r)

seal_given : (p : Pool) (n : ℕ) (log : Log) (k : ℕ) (r : Record) (old stamp : ℕ) (now : List ℕ) → IsLaneOf p n log → MaySeal p n log k r → IsSealable p n log r old stamp now → IsGiven p.owners (event n log r stamp)
seal_given p n log k r old stamp now h m z = record {
  running = (h.whole.sound.looks n).running m.may.look m.may.looked;
  exchange = z.stored.exchange;
  longer = tiles_le (offsets p.words n) ((store_in p).gates n).len (plan_for log r).len (placed_by (plan_for log r) r) z.tiled;
  rise = tiled_rise (offsets p.words n) ((store_in p).gates n).len (plan_for log r).len (placed_by (plan_for log r) r) z.tiled;
  owned = λ q s u. (m.may.look, m.may.looked, ap slot_of (placed_key (plan_for log r) r s k q m.may.plain m.may.key u).1 ∙ m.may.slot);
}

-- ---- the step
seal_represents : (p : Pool) (n : ℕ) (log : Log) (r : Record) (old stamp : ℕ) (now : List ℕ) → IsLaneOf p n log → IsSealable p n log r old stamp now
    → Represents now p.chains (sealed (store_in p) n (open_gate stamp (plan_for log r).len) (placed_by (plan_for log r) r))
seal_represents p n log r old stamp now h z =
    let s = store_in p in
    let end : ℕ = (plan_for log r).len in
    let more : List Placed = placed_by (plan_for log r) r in
    let new : ℕ = gate_word (open_gate stamp end) in
    let ends : end ≡ (gate_of new).len = ap (λ (g : Gate). g.len) (sym z.stored.reads) in
    let TilesTo : ℕ → Type 0 = λ o. Tiles (offsets p.words n) (s.gates n).len more o in
    let CoversTo : ℕ → Type 0 = λ o. IsCovered p.words n o in
    let P : List ℕ → Type 0 = λ ws. Represents ws p.chains (sealed s n (open_gate stamp end) more) in
    let Q : Gate → Type 0 = λ g. Represents (slice_set p.words (gate_at n) new) p.chains (sealed s n g more) in
    subst P (sym z.stored.stored) (subst Q z.stored.reads (seal p.words p.chains s n new more h.whole.represents h.lane (subst TilesTo ends z.tiled) (subst CoversTo ends z.covered)))

seal_plain : (p : Pool) (n : ℕ) (log : Log) (k : ℕ) (r : Record) → IsWhole p → MaySeal p n log k r → ArePlain (with_at (store_in p).logs n ((store_in p).logs n ++ placed_by (plan_for log r) r))
seal_plain p n log k r h m = λ i x.
    at_by (λ xs. Contains xs x → is_plain x.entry ≡ true) (store_in p).logs n ((store_in p).logs n ++ placed_by (plan_for log r) r) i
    (λ e c. elim (Contains-append_cases ((store_in p).logs n) (placed_by (plan_for log r) r) x c) [
      | inl old ↦ h.plain n x old
      | inr new ↦ placed_plain (plan_for log r) r x m.may.plain new
    ])
    (λ d c. h.plain i x c)

seal_own : (p : Pool) (n : ℕ) (log : Log) (k : ℕ) (r : Record) (old stamp : ℕ) (now : List ℕ) → IsLaneOf p n log → MaySeal p n log k r → IsSealable p n log r old stamp now → IsOwnStep n (gate_at n) p (after_seal p n log r stamp now)
seal_own p n log k r old stamp now h m z =
    let s = store_in p in
    let plan : Plan = plan_for log r in
    let gate : Gate = open_gate stamp plan.len in
    let e : Event = event n log r stamp in
    let lane = h.lane in
    let given = seal_given p n log k r old stamp now h m z in
    let order = ordered p.words p.chains s h.whole.represents in
    let more : List Placed = s.logs n ++ placed_by plan r in
    record {
      whole = h.whole;
      after = record {
        represents = seal_represents p n log r old stamp now h z;
        sound = kept p.owners e order h.whole.sound given;
        deeds = h.whole.deeds;
        plain = seal_plain p n log k r h.whole m;
      };
      lane = lane;
      alike = stored_alike p.words now (gate_at n) (gate_word gate) z.stored.stored;
      beside = inl (omega (arith, lane.below));
      not_of = λ i l d. low_not_of i (gate_at n) s.holders (omega (arith, lane.below)) (λ f. d (omega (arith, f)));
      later = later p.owners e given;
      named = λ i j l lt f. absurd (omega (arith, f, lane.below));
      chains = refl;
      pool = refl;
      gates = λ i d. at_other s.gates n gate i d;
      logs = λ i d. at_other s.logs n more i d;
      knows = λ i d. at_other p.owners.knows n _ i d;
      holders = λ i f l own. own;
      marks = λ i. refl;
      deeds = λ t. refl;
      index = refl;
      takers = refl;
      bucket_count = refl;
      segments = omega arith;
      watch = refl;
      located = λ i q l x d look slot clear a. located p.owners e i q l x order h.whole.sound given look slot clear (at_other s.logs n more i d) a;
    }

pub seal_step : (p : Pool) (n : ℕ) (log : Log) (k : ℕ) (r : Record) (old stamp : ℕ) (now : List ℕ) → IsLaneOf p n log → MaySeal p n log k r → IsExchanged p n old stamp (plan_for log r).len now → IsStepBy (by_lane n) p (after_seal p n log r stamp now)
seal_step p n log k r old stamp now h m x = own_step n (gate_at n) p (after_seal p n log r stamp now) (seal_own p n log k r old stamp now h m (sealable p n log k r old stamp now h m x))

-- ---- the lane's log
seal_names : (words : List ℕ) (log : Log) (end : ℕ) (segments : List ℕ) (spare : Option ℕ) → IsGrown words log end segments spare → NamesSegments words log → NamesSegments words (grown log end segments spare)
seal_names words log end segments spare g d =
    let P : List ℕ → Type 0 = λ gs. (q : ℕ) → q < 256 → 0 < directory words log.lane q → (q < length gs) × (directory words log.lane q ≡ slice_index gs q + 1) in
    record { named = g.named; no_more = subst P (sym g.reach) d.no_more }

grown_fit : (words : List ℕ) (log : Log) (end : ℕ) (segments : List ℕ) (spare : Option ℕ) → IsGrown words log end segments spare → IsFit log → IsFit (grown log end segments spare)
grown_fit words log end segments spare g fit =
    let Few : List ℕ → Type 0 = λ gs. length gs ≤ 256 in
    let Each : List ℕ → Type 0 = λ gs. All (λ x. x < log.pool) gs in
    record { lane = fit.lane; pool = fit.pool; count = subst Few (sym g.reach) fit.count; len = g.enough; each = subst Each (sym g.reach) fit.each }

pub seal_log : (p : Pool) (n : ℕ) (log : Log) (k : ℕ) (r : Record) (old stamp : ℕ) (now : List ℕ) → IsLaneOf p n log → MaySeal p n log k r → IsExchanged p n old stamp (plan_for log r).len now
    → HoldsLog (after_seal p n log r stamp now) n (sealed_of log (plan_for log r))
seal_log p n log k r old stamp now h m x =
    let s = h.own in
    let plan : Plan = plan_for log r in
    let z = sealable p n log k r old stamp now h m x in
    let g = z.reach.grows in
    let after : Log = grown log plan.len z.reach.segments z.reach.spare in
    let fit : IsFit after = grown_fit p.words log plan.len z.reach.segments z.reach.spare g s.fit in
    let Apart : List ℕ → Type 0 = λ gs. IsApart gs in
    let Holds : List ℕ → Type 0 = λ gs. All (λ y. (store_in p).holders y ≡ n) gs in
    let Names : List ℕ → Type 0 = λ ws. NamesSegments ws after in
    let P : Log → Type 0 = λ l. HoldsLog (after_seal p n log r stamp now) n l in
    subst P (sym z.reach.sealed) (record {
      lane = s.lane;
      pool = s.pool;
      len = ap (λ (y : Gate). y.len) (at_same (store_in p).gates n (open_gate stamp plan.len) n refl);
      fit = fit;
      apart = subst Apart (sym g.reach) s.apart;
      holders = subst Holds (sym g.reach) s.holders;
      directory = subst Names (sym z.stored.stored) (gate_directory p.words n (gate_word (open_gate stamp plan.len)) after s.lane h.lane.below fit
          (seal_names p.words log plan.len z.reach.segments z.reach.spare g s.directory));
    })

-- ---- what is held
seal_held : (p : Pool) (n : ℕ) (log : Log) (k : ℕ) (r : Record) (old stamp : ℕ) (now : List ℕ) (q : ℕ) → IsLaneOf p n log → MaySeal p n log k r → IsExchanged p n old stamp (plan_for log r).len now
    → IsHeldAfterSeal p.owners n (open_gate stamp (plan_for log r).len) (placed_by (plan_for log r) r) q
seal_held p n log k r old stamp now q h m x =
    held_after p.owners (event n log r stamp) q (ordered p.words p.chains (store_in p) h.whole.represents) h.whole.sound (seal_given p n log k r old stamp now h m (sealable p n log k r old stamp now h m x))

pub seal_key : (p : Pool) (n : ℕ) (log : Log) (k : ℕ) (r : Record) (old stamp : ℕ) (now : List ℕ) → IsLaneOf p n log → MaySeal p n log k r → IsExchanged p n old stamp (plan_for log r).len now
    → holds (store_in (after_seal p n log r stamp now)) k ≡ Says (value_of r)
seal_key p n log k r old stamp now h m x = (seal_held p n log k r old stamp now k h m x).plain r (placed_last (plan_for log r) r k m.may.plain m.may.key) m.may.plain

pub seal_others : (p : Pool) (n : ℕ) (log : Log) (k : ℕ) (r : Record) (old stamp : ℕ) (now : List ℕ) (q : ℕ) (v : Option (List ℕ)) → IsLaneOf p n log → MaySeal p n log k r → IsExchanged p n old stamp (plan_for log r).len now
    → q ≢ k → holds (store_in p) q ≡ Says v → holds (store_in (after_seal p n log r stamp now)) q ≡ Says v
seal_others p n log k r old stamp now q v h m x d e = (seal_held p n log k r old stamp now q h m x).other v (placed_none (plan_for log r) r k q m.may.plain m.may.key d) e

-- ---- and the lane's gate and sealed log
pub seal_gate : (p : Pool) (n : ℕ) (log : Log) (r : Record) (stamp : ℕ) (now : List ℕ) → (store_in (after_seal p n log r stamp now)).gates n ≡ open_gate stamp (plan_for log r).len
seal_gate p n log r stamp now = at_same (store_in p).gates n (open_gate stamp (plan_for log r).len) n refl

pub seal_logs : (p : Pool) (n : ℕ) (log : Log) (r : Record) (stamp : ℕ) (now : List ℕ) → (store_in (after_seal p n log r stamp now)).logs n ≡ (store_in p).logs n ++ placed_by (plan_for log r) r
seal_logs p n log r stamp now = at_same (store_in p).logs n ((store_in p).logs n ++ placed_by (plan_for log r) r) n refl

-- and it has one more pending record
pub seal_knows : (p : Pool) (n : ℕ) (log : Log) (k : ℕ) (r : Record) (stamp : ℕ) (now : List ℕ) → MaySeal p n log k r
    → (after_seal p n log r stamp now).owners.knows n ≡ record (p.owners.knows n) { pending = (p.owners.knows n).pending ++ record { key = k; offset = (plan_for log r).at } ∷ [] }
seal_knows p n log k r stamp now m =
    let v : Knows = p.owners.knows n in
    at_same p.owners.knows n (record v { pending = v.pending ++ pending_in (placed_by (plan_for log r) r) }) n refl
    ∙ ap (λ xs. (let w : Knows = record v { pending = v.pending ++ xs } in w)) (placed_pending (plan_for log r) r k m.may.plain m.may.key)

pub seal_promised : (p : Pool) (n : ℕ) (log : Log) (r : Record) (stamp : ℕ) (now : List ℕ) (q : ℕ) → (after_seal p n log r stamp now).owners.promised q ≡ p.owners.promised q
seal_promised p n log r stamp now q = refl
