use Rattle.std.proofs.Common.{ℕ, zero, suc, ◌≤◌, ◌<◌, ◌≡◌, inl, inr, Bool, true, false, nat_le, cond, List, [], ◌∷◌, ◌++◌, map, replicate, length, Option, None, refl, sym, ◌∙◌, ap, subst, arith, slice_index}
use Rattle.std.specs.List.{filter}
use Rattle.dn_act.specs.Words.{word_at}
use Rattle.dn_word.specs.declared.packed.deed.Deed.{Deed}
use Rattle.dn_word.specs.declared.packed.deed.DeedState.TheVariants.{Owned, Nobody}
use Rattle.dn_model.specs.Regions.{mark_at, IsLane}
use Rattle.dn_store.proofs.At.{at_same}
use Rattle.dn_pending.specs.declared.entries.Entry.{Entry}
use Rattle.dn_known.specs.State.{KnownState}
use Rattle.dn_known.specs.Learnt.{kept_past}
use Rattle.dn_owners.specs.declared.plain.Pending.{Pending}
use Rattle.dn_owners.specs.Known.{Learnt, Knows, knowing_nothing}
use Rattle.dn_owners.specs.Sound.{IsSound}
use Rattle.dn_owners.specs.Events.{Trim, End, Begin, Stop, learns}
use Rattle.dn_owners.proofs.Ats.{none_some}
use Rattle.dn_owners.proofs.Logs.{ordered}
use Rattle.dn_owners.proofs.Tables.{kept}
use Rattle.dn_beside.specs.Pool.{Pool, store_in, IsWhole}
use Rattle.dn_beside.specs.Grown.{Grows}
use Rattle.dn_beside.specs.Lanes.{IsMoved, LeavesLane}
use Rattle.dn_learnt.specs.Learning.{IsMet, Heeds, Learns, pending_by}
use Rattle.dn_learnt.specs.Heeding.{IsTaught, IsTrimmed, IsStopped}
use Rattle.dn_learnt.proofs.Looks.{lesson}

-- A lane learns by other means than a deed, and what it knows lasts.

-- ---- it lasts while deeds move
met_moved : (learnt : Option Learnt) (epoch count : ℕ) (d e : Deed) (n : ℕ) → IsMoved d e → d.epoch ≤ e.epoch → IsMet learnt epoch count d n → IsMet learnt epoch count e n
met_moved learnt epoch count d e n m le h = record {
  upto = omega (arith, h.upto, le);
  older = h.older;
  owner = λ s l f. elim m [
    | inl same ↦ h.owner (sym (ap (λ (x : Deed). x.state) same) ∙ s) (sym (ap (λ (x : Deed). x.lane) same) ∙ l) (f ∙ ap (λ (x : Deed). x.epoch) same)
    | inr moved ↦ absurd (moved (omega (arith, h.upto, le, f)) s)
  ];
}

pub heeds_moved : (v : Knows) (deeds after : ℕ → Deed) (n : ℕ) (k : KnownState) → ((t : ℕ) → t < 64 → IsMoved (deeds t) (after t)) → ((t : ℕ) → (deeds t).epoch ≤ (after t).epoch) → Heeds v deeds n k → Heeds v after n k
heeds_moved v deeds after n k moved later h = record {
  running = h.running;
  epochs = h.epochs;
  counts = h.counts;
  met = λ t lt. met_moved (v.learnt t) (slice_index k.epochs t) (slice_index k.counts t) (deeds t) (after t) n (moved t lt) (later t) (h.met t lt);
  pending = h.pending;
}

pub learns_last : (p q : Pool) (n : ℕ) (k : KnownState) → Grows p q → LeavesLane n p q → Learns p n k → Learns q n k
learns_last p q n k grows leaves h = subst (λ v. Heeds v (store_in q).deeds n k) (sym leaves.knows) (heeds_moved (p.owners.knows n) (store_in p).deeds (store_in q).deeds n k leaves.deeds grows.later.epochs h)

-- ---- it drops the pending records that are merged
filtered : (to : ℕ) (es : List Entry) → filter (λ (q : Pending). nat_le to q.offset) (map pending_by es) ≡ map pending_by (filter (λ (e : Entry). nat_le to e.at) es)
filtered to [] = refl
filtered to (x ∷ es) = by_test (filtered to es) (nat_le to x.at) where
  by_test : filter (λ (q : Pending). nat_le to q.offset) (map pending_by es) ≡ map pending_by (filter (λ (e : Entry). nat_le to e.at) es) → (b : Bool)
      → cond b (pending_by x ∷ filter (λ (q : Pending). nat_le to q.offset) (map pending_by es)) (filter (λ (q : Pending). nat_le to q.offset) (map pending_by es))
      ≡ map pending_by (cond b (x ∷ filter (λ (e : Entry). nat_le to e.at) es) (filter (λ (e : Entry). nat_le to e.at) es))
  by_test rest true = ap (λ qs. pending_by x ∷ qs) rest
  by_test rest false = rest

abbrev pub trimmed : Knows → ℕ → Knows
trimmed v to = record v { pending = filter (λ (q : Pending). nat_le to q.offset) v.pending; dropped = to }

pub record IsLessonBy (p : Pool) (n : ℕ) (v : Knows) (k : KnownState) : Type 0 where
  pub sound : IsSound (learns p.owners n v)
  pub heeds : Heeds v (store_in p).deeds n k

pub learns_by : (p : Pool) (n : ℕ) (v : Knows) (k : KnownState) → Heeds v (store_in p).deeds n k → Learns (record p { owners = learns p.owners n v }) n k
learns_by p n v k h = subst (λ w. Heeds w (store_in p).deeds n k) (sym (at_same p.owners.knows n v n refl)) h

pub trims : (p : Pool) (n word : ℕ) (k : KnownState) → IsWhole p → IsLane n → Learns p n k → word ≡ word_at p.words (mark_at n) → IsLessonBy p n (trimmed (p.owners.knows n) word) (record k { pending = kept_past word k.pending })
trims p n word k h l e found =
    let is : word ≡ (store_in p).marks n = found ∙ h.represents.table.marks n l.below in
    record {
      sound = kept p.owners (Trim n word) (ordered p.words p.chains p.owners.store h.represents) h.sound (omega (arith, (h.sound.pending n).low e.running, is), omega (arith, is));
      heeds = record {
        running = e.running;
        epochs = e.epochs;
        counts = e.counts;
        met = e.met;
        pending = ap (λ qs. filter (λ (q : Pending). nat_le word q.offset) qs) e.pending ∙ filtered word k.pending.entries;
      };
    }

pub trims_step : (p : Pool) (n word : ℕ) (k : KnownState) → IsWhole p → IsLane n → Learns p n k → word ≡ word_at p.words (mark_at n) → IsTrimmed p n (record k { pending = kept_past word k.pending })
trims_step p n word k h l e found =
    let v : Knows = trimmed (p.owners.knows n) word in
    let by : IsLessonBy p n v (record k { pending = kept_past word k.pending }) = trims p n word k h l e found in
    record {
      q = record p { owners = learns p.owners n v };
      lesson = lesson p n v h by.sound;
      learns = learns_by p n v (record k { pending = kept_past word k.pending }) by.heeds;
      look = ap (λ (w : Knows). w.look) (at_same p.owners.knows n v n refl);
    }

-- ---- its call or task ends
pub ends : (p : Pool) (n : ℕ) (k : KnownState) → IsWhole p → Learns p n k → IsTaught p n k
ends p n k h e =
    let v : Knows = record (p.owners.knows n) { look = None } in
    let sound : IsSound (learns p.owners n v) = kept p.owners (End n) (ordered p.words p.chains p.owners.store h.represents) h.sound tt in
    record {
      q = record p { owners = learns p.owners n v };
      lesson = lesson p n v h sound;
      learns = learns_by p n v k (record { running = e.running; epochs = e.epochs; counts = e.counts; met = e.met; pending = e.pending });
      ended = ap (λ (w : Knows). w.look) (at_same p.owners.knows n v n refl);
    }

-- ---- it seals records
map_append : (xs ys : List Entry) → map pending_by (xs ++ ys) ≡ map pending_by xs ++ map pending_by ys
map_append [] ys = refl
map_append (x ∷ xs) ys = ap (λ qs. pending_by x ∷ qs) (map_append xs ys)

pub heeds_more : (v : Knows) (deeds : ℕ → Deed) (n : ℕ) (k after : KnownState) (more : List Pending) (new : List Entry) → after.epochs ≡ k.epochs → after.counts ≡ k.counts
    → after.pending.entries ≡ k.pending.entries ++ new → more ≡ map pending_by new → Heeds v deeds n k → Heeds (record v { pending = v.pending ++ more }) deeds n after
heeds_more v deeds n k after more new epochs counts entries same h = record {
  running = h.running;
  epochs = ap length epochs ∙ h.epochs;
  counts = ap length counts ∙ h.counts;
  met = λ t lt.
      let P : List ℕ → List ℕ → Type 0 = λ xs ys. IsMet (v.learnt t) (slice_index xs t) (slice_index ys t) (deeds t) n in
      let first : P after.epochs k.counts = subst (λ xs. P xs k.counts) (sym epochs) (h.met t lt) in
      subst (λ ys. P after.epochs ys) (sym counts) first;
  pending = ap (λ qs. qs ++ more) h.pending ∙ ap (λ qs. map pending_by k.pending.entries ++ qs) same ∙ sym (map_append k.pending.entries new) ∙ sym (ap (map pending_by) entries);
}

-- ---- it begins, with an empty log
zero_at : (m t : ℕ) → slice_index (replicate m 0) t ≡ 0
zero_at zero t = refl
zero_at (suc m) zero = refl
zero_at (suc m) (suc t) = zero_at m t

pub begins : (p : Pool) (n : ℕ) (k : KnownState) → IsWhole p → (store_in p).logs n ≡ [] → k.epochs ≡ replicate 64 0 → k.counts ≡ replicate 64 0 → k.pending.entries ≡ [] → IsTaught p n k
begins p n k h empty epochs counts entries =
    let v : Knows = knowing_nothing true in
    let sound : IsSound (learns p.owners n v) = kept p.owners (Begin n) (ordered p.words p.chains p.owners.store h.represents) h.sound empty in
    record {
      q = record p { owners = learns p.owners n v };
      lesson = lesson p n v h sound;
      learns = learns_by p n v k (record {
        running = refl;
        epochs = ap length epochs;
        counts = ap length counts;
        met = λ t lt.
            let zero_is : slice_index k.epochs t ≡ 0 = ap (λ xs. slice_index xs t) epochs ∙ zero_at 64 t in
            record {
              upto = omega (arith, zero_is);
              older = λ c e. absurd (none_some c e);
              owner = λ s l e. absurd (omega (arith, zero_is, e, (h.deeds t lt).granted (λ f. owned_nobody (sym s ∙ f))));
            };
        pending = sym (ap (map pending_by) entries);
      });
      ended = ap (λ (w : Knows). w.look) (at_same p.owners.knows n v n refl);
    }
  where
    owned_nobody : Owned ≡ Nobody → ⊥
    owned_nobody e = absurd (cc e)

-- ---- it is stopped: nothing is known of it
pub stops : (p : Pool) (n : ℕ) → IsWhole p → IsStopped p n
stops p n h = record {
  q = record p { owners = learns p.owners n (knowing_nothing false) };
  lesson = lesson p n (knowing_nothing false) h (kept p.owners (Stop n) (ordered p.words p.chains p.owners.store h.represents) h.sound tt);
  nothing = at_same p.owners.knows n (knowing_nothing false) n refl;
}
