use Rattle.std.proofs.Common.{ℕ, ◌+◌, ◌*◌, ◌≤◌, ◌≡◌, ◌≢◌, ◌⊎◌, inl, inr, false, [], Option, Some, None, refl, sym, ◌∙◌, ap, subst, arith, append-nil}
use Rattle.dn_record.specs.declared.records.Record.{Record}
use Rattle.dn_model.specs.declared.logs.Placed.{Placed}
use Rattle.dn_model.specs.Regions.{gate_at, directory_at, slot_of, IsLane}
use Rattle.dn_model.specs.Held.{Found, held_from}
use Rattle.dn_store.specs.State.{StoreState, with_at}
use Rattle.dn_store.specs.Holding.{waiting, authority_in}
use Rattle.dn_owners.specs.Known.{Look, Owners}
use Rattle.dn_owners.specs.Sound.{IsSound, Agrees}
use Rattle.dn_owners.specs.Events.{Set, happens}
use Rattle.dn_owners.specs.Given.{IsSetting}
use Rattle.dn_owners.specs.Later.{IsLater}
use Rattle.dn_owners.specs.Merging.{IsWaiting}
use Rattle.dn_owners.proofs.Ats.{none_some}
use Rattle.dn_owners.proofs.Grown.{risen_same}
use Rattle.dn_owners.proofs.Last.{found_last}
use Rattle.dn_owners.proofs.Merging.{chain_alone}
use Rattle.dn_owners.proofs.Sets.{authority_set, set_kept}
use Rattle.dn_beside.specs.Pool.{Pool, store_in, IsWhole}
use Rattle.dn_beside.specs.Grown.{Grows}
use Rattle.dn_beside.specs.Lanes.{LeavesOwn, LeavesLane}
use Rattle.dn_beside.specs.Mergers.{LeavesMerger}
use Rattle.dn_beside.specs.Step.{IsStepBy, IsQuiet, by_merger}
use Rattle.dn_walks.specs.IndexStep.{IndexState, with_index, IsIndexStep}

-- An action on the index for a record that waits in lane n's log, as all others see it.

pub record IsIndexWork (n k : ℕ) (want : Option ℕ) (p : Pool) (i : IndexState) : Type 0 where
  pub whole : IsWhole p
  pub lane : IsLane n
  pub of : Placed
  pub setting : IsSetting p.owners n k of want
  pub step : IsIndexStep n k want p i
  pub raised : (store_in p).bucket_count ≤ i.bucket_count

waits : (n k : ℕ) (want : Option ℕ) (p : Pool) (i : IndexState) → (g : IsIndexWork n k want p i) → IsWaiting p.owners n k g.of
waits n k want p i g = record { has = g.setting.has; unmerged = g.setting.unmerged; authority = g.setting.authority }

-- ---- the owners: their parts read neither the counter of buckets nor who has claimed them
record IsReindexed (o : Owners) (s : StoreState) : Type 0 where
  sound : IsSound (record o { store = s })
  authority : (k : ℕ) → authority_in s k ≡ authority_in o.store k

abbrev pub store_with : StoreState → (ℕ → Option ℕ) → ℕ → (ℕ → ℕ) → StoreState
store_with s index count takers = record s { index = index; bucket_count = count; takers = takers }

roomed : (o : Owners) (count : ℕ) (takers : ℕ → ℕ) → IsSound o → IsSound (record o { store = record o.store { bucket_count = count; takers = takers } })
roomed o count takers h = record {
  one = h.one;
  idle = h.idle;
  leading = h.leading;
  looks = h.looks;
  past = h.past;
  pending = h.pending;
  counted = h.counted;
  told = h.told;
  stamps = h.stamps;
  watched = h.watched;
}

reindexed : (o : Owners) (n k : ℕ) (of : Placed) (want : Option ℕ) (index : ℕ → Option ℕ) (count : ℕ) (takers : ℕ → ℕ) → IsSound o → IsSetting o n k of want
    → (index ≡ o.store.index) ⊎ (index ≡ with_at o.store.index k want) → IsReindexed o (store_with o.store index count takers)
reindexed o n k of want index count takers h g (inl e) =
    let P : (ℕ → Option ℕ) → Type 0 = λ x. IsReindexed o (store_with o.store x count takers) in
    subst P (sym e) (record { sound = roomed o count takers h; authority = λ q. refl })
reindexed o n k of want index count takers h g (inr e) =
    let P : (ℕ → Option ℕ) → Type 0 = λ x. IsReindexed o (store_with o.store x count takers) in
    subst P (sym e) (record {
      sound = roomed (happens o (Set n k of want)) count takers (set_kept o n k of want h g);
      authority = λ q. authority_set o n k of want q h g;
    })

-- ---- lanes
own_left : (n k : ℕ) (want : Option ℕ) (p : Pool) (i : IndexState) (j : ℕ) → IsIndexWork n k want p i → IsLane j → LeavesOwn j p (with_index p i)
own_left n k want p i j g l = record {
  pool = refl;
  len = refl;
  gate = λ f. g.step.outside (gate_at j) (λ e. absurd (omega (arith, e))) (inl (omega (arith, l.below)));
  directory = λ q lt. g.step.outside (directory_at j q) (λ e. absurd (omega (arith, e))) (inl (omega (arith, lt, l.below)));
  holders = λ x own. own;
  segments = λ x v lt own. g.step.outside (98304 + (x * 1024 + v)) (λ e. absurd (omega (arith, e))) (inr (omega arith));
}

-- the key of a record that waits isn't one of which another lane, or the lane itself, has none
other_key : (n k : ℕ) (want : Option ℕ) (p : Pool) (i : IndexState) (j q : ℕ) (l : Look) → IsIndexWork n k want p i → (p.owners.knows j).look ≡ Some l → slot_of q ≡ l.slot → ((store_in p).gates j).fenced ≡ false
    → waiting (store_in p) j q ≡ None → q ≢ k
other_key n k want p i j q l g look slot clear none e =
    let s : StoreState = store_in p in
    let own : (s.deeds (slot_of q)).lane ≡ j = ap (λ t. (s.deeds t).lane) slot ∙ ((g.whole.sound.looks j).held l look clear).names in
    let here : (s.deeds (slot_of k)).lane ≡ n = g.whole.sound.one.each n k g.of g.setting.has g.setting.unmerged g.setting.authority in
    let same : j ≡ n = sym own ∙ ap (λ x. (s.deeds (slot_of x)).lane) e ∙ here in
    let found = found_last k (s.marks n) (s.logs n) g.of (record { has = g.setting.has; from = g.setting.unmerged; authority = g.setting.authority }) in
    none_some found.0 (sym none ∙ ap (λ x. waiting s x q) same ∙ ap (λ x. waiting s n x) e ∙ found.1)

lane_left : (n k : ℕ) (want : Option ℕ) (p : Pool) (i : IndexState) (j : ℕ) → IsIndexWork n k want p i → IsReindexed p.owners (store_in (with_index p i)) → IsLane j → LeavesLane j p (with_index p i)
lane_left n k want p i j g r l = record {
  own = own_left n k want p i j g l;
  log = refl;
  knows = refl;
  deeds = λ t lt. inl refl;
  keys = λ q x pos look slot clear. record {
    located = λ y a. let P : Found (Option Record) → Type 0 = λ z. Agrees z q y in subst P (sym (r.authority q)) a;
    found = λ none. g.step.path q pos (other_key n k want p i j q x g look slot clear none);
  };
}

-- ---- mergers
merger_left : (n k : ℕ) (want : Option ℕ) (p : Pool) (i : IndexState) (m : ℕ) → IsIndexWork n k want p i → IsLane m → m ≢ n → LeavesMerger m p (with_index p i)
merger_left n k want p i m g l d = record {
  mark = refl;
  chains = λ q r pos w. g.step.chain m q l.positive d (λ e. d (chain_alone p.owners m n q k r g.of g.whole.sound w (waits n k want p i g) e));
}

-- ---- all
index_later : (p : Pool) (i : IndexState) → IsLater p.owners (with_index p i).owners
index_later p i = record {
  logs = λ n. ([], sym (append-nil ((store_in p).logs n)));
  gates = λ n. risen_same ((store_in p).gates n);
  marks = λ n. omega arith;
  epochs = λ t. omega arith;
  floors = λ t. omega arith;
  promised = λ k. omega arith;
}

index_grows : (n k : ℕ) (want : Option ℕ) (p : Pool) (i : IndexState) → IsIndexWork n k want p i → Grows p (with_index p i)
index_grows n k want p i g = record {
  later = index_later p i;
  pool = refl;
  segments = omega arith;
  buckets = g.raised;
  named = λ m q l lt.
      let o = g.whole.represents.reads.logs_are m l in
      let len = ap (λ x. x.len) (g.whole.represents.table.gates m l.below) in
      let c = (o.covered (q * 1024) (omega (arith, lt, len))).0 in
      g.step.outside (directory_at m q) (λ e. absurd (omega (arith, e))) (inl (omega (arith, c, l.below)));
}

pub index_step : (n k : ℕ) (want : Option ℕ) (p : Pool) (i : IndexState) → IsIndexWork n k want p i → IsStepBy (by_merger n) p (with_index p i)
index_step n k want p i g =
    let r = reindexed p.owners n k g.of want i.index i.bucket_count i.takers g.whole.sound g.setting g.step.change in
    record {
      whole = record { represents = g.step.represents; sound = r.sound; deeds = g.whole.deeds; plain = g.whole.plain };
      grows = index_grows n k want p i g;
      lanes = λ j l d. lane_left n k want p i j g r l;
      mergers = λ m l d. merger_left n k want p i m g l d;
      order = λ f. record { watch = refl; deeds = λ t lt. inl refl };
      segment_count = λ f. refl;
      bucket_count = λ f. absurd (omega (arith, f, g.lane.positive));
    }

pub index_quiet : (n k : ℕ) (want : Option ℕ) (p : Pool) (i : IndexState) → IsIndexWork n k want p i → IsQuiet p (with_index p i)
index_quiet n k want p i g =
    let r = reindexed p.owners n k g.of want i.index i.bucket_count i.takers g.whole.sound g.setting g.step.change in
    record { held = λ q v pos h. ap (held_from (store_in p).cells (store_in p).logs q) (r.authority q) ∙ h; promised = λ q. refl }
