use Rattle.std.proofs.Common.{ℕ, ◌≤◌, ◌≡◌, ◌⊎◌, inl, inr, List, ◌∷◌, ◌++◌, Contains, None, sym, ◌∙◌, ap, subst, arith, append_assoc}
use Rattle.std.proofs.lemmas.List.Elements.{Contains-append_left}
use Rattle.dn_word.specs.declared.packed.deed.Deed.{Deed}
use Rattle.dn_word.specs.declared.packed.deed.DeedState.{DeedState}
use Rattle.dn_word.specs.declared.packed.deed.DeedState.TheVariants.{Leaving, Released}
use Rattle.dn_model.specs.Regions.{home_of}
use Rattle.dn_model.specs.declared.logs.Placed.{Placed}
use Rattle.dn_store.specs.Standing.{IsPlaceOf}
use Rattle.dn_store.specs.Holding.{waiting}
use Rattle.dn_owners.specs.Given.{IsStep}
use Rattle.dn_owners.specs.Later.{IsLater}
use Rattle.dn_owners.specs.Merging.{IsWaiting}
use Rattle.dn_owners.proofs.Last.{none_found, found_none}
use Rattle.dn_beside.specs.Pool.{Pool, store_in}
use Rattle.dn_beside.specs.Grown.{Grows}
use Rattle.dn_beside.specs.Chains.{IsChainKept, IsPathKept}
use Rattle.dn_beside.specs.Lanes.{LeavesOwn, IsMoved, LeavesKey, LeavesLane}
use Rattle.dn_beside.specs.Mergers.{LeavesMerger}
use Rattle.dn_beside.specs.Orders.{LeavesOrder}
use Rattle.dn_beside.specs.Step.{Acting, IsStepBy, IsQuiet}

-- Two steps of one actor, one behind the other, are a step of it.

later_then : (p q r : Pool) → IsLater p.owners q.owners → IsLater q.owners r.owners → IsLater p.owners r.owners
later_then p q r a b = record {
  logs = λ n. ((a.logs n).0 ++ (b.logs n).0, (b.logs n).1 ∙ ap (λ xs. xs ++ (b.logs n).0) (a.logs n).1 ∙ append_assoc (p.owners.store.logs n) (a.logs n).0 (b.logs n).0);
  gates = λ n. record {
    len = omega (arith, (a.gates n).len, (b.gates n).len);
    stamp = omega (arith, (a.gates n).stamp, (b.gates n).stamp);
    clear = λ f. (a.gates n).clear ((b.gates n).clear f);
  };
  marks = λ n. omega (arith, a.marks n, b.marks n);
  epochs = λ t. omega (arith, a.epochs t, b.epochs t);
  floors = λ t. omega (arith, a.floors t, b.floors t);
  promised = λ k. omega (arith, a.promised k, b.promised k);
}

pub grows_then : (p q r : Pool) → Grows p q → Grows q r → Grows p r
grows_then p q r a b = record {
  later = later_then p q r a.later b.later;
  pool = b.pool ∙ a.pool;
  segments = omega (arith, a.segments, b.segments);
  buckets = omega (arith, a.buckets, b.buckets);
  named = λ n i l lt. b.named n i l (omega (arith, lt, (a.later.gates n).len)) ∙ a.named n i l lt;
}

own_then : (n : ℕ) (p q r : Pool) → Grows q r → LeavesOwn n p q → LeavesOwn n q r → LeavesOwn n p r
own_then n p q r g a b = record {
  pool = b.pool ∙ a.pool;
  len = b.len ∙ a.len;
  gate = λ f. b.gate f ∙ a.gate ((g.later.gates n).clear f);
  directory = λ i lt. b.directory i lt ∙ a.directory i lt;
  holders = λ s own. b.holders s (a.holders s own);
  segments = λ s i lt own. b.segments s i lt (a.holders s own) ∙ a.segments s i lt own;
}

grown_place : (chains after : ℕ → List ℕ) (k b i : ℕ) (more : List ℕ) → after k ≡ chains k ++ more → Contains (k ∷ chains k) b → Contains (k ∷ after k) b
grown_place chains after k b i more e c = subst (λ xs. Contains (k ∷ xs) b) (sym e) (Contains-append_left (k ∷ chains k) more b c)

path_then : (k : ℕ) (p q r : Pool) → IsPathKept k p q → IsPathKept k q r → IsPathKept k p r
path_then k p q r a b = record {
  more = a.more ++ b.more;
  grows = b.grows ∙ ap (λ xs. xs ++ b.more) a.grows ∙ append_assoc (p.chains (home_of k)) a.more b.more;
  keys = λ c i place.
      let there : IsPlaceOf q.chains k c i = record { has = grown_place p.chains q.chains (home_of k) c i a.more a.grows place.has; three = place.three } in
      (λ e. (a.keys c i place).0 ((b.keys c i there).0 e), λ e. (b.keys c i there).1 ((a.keys c i place).1 e));
  index = b.index ∙ a.index;
}

chain_then : (n k : ℕ) (p q r : Pool) → IsChainKept n k p q → IsChainKept n k q r → IsChainKept n k p r
chain_then n k p q r a b = record {
  chain = b.chain ∙ a.chain;
  words = λ c i li has. b.words c i li (subst (λ xs. Contains (home_of k ∷ xs) c) (sym a.chain) has) ∙ a.words c i li has;
  takers = λ c own. b.takers c (a.takers c own);
  taken = λ c i li own. b.taken c i li (a.takers c own) ∙ a.taken c i li own;
  index = b.index ∙ a.index;
}

moved_then : (d e f : Deed) → d.epoch ≤ e.epoch → e.epoch ≤ f.epoch → IsMoved d e → IsMoved e f → IsMoved d f
moved_then d e f le lf (inl same) (inl again) = inl (again ∙ same)
moved_then d e f le lf (inl same) (inr m) = inr (λ x. m (x ∙ sym (ap (λ (y : Deed). y.epoch) same)))
moved_then d e f le lf (inr m) (inl again) = inr (λ x s. m (sym (ap (λ (y : Deed). y.epoch) again) ∙ x) (sym (ap (λ (y : Deed). y.state) again) ∙ s))
moved_then d e f le lf (inr m) (inr o) = inr (λ x s. o (omega (arith, x, le, lf)) s)

-- a key of which no record waits: none does where the log is the same and more of it is merged
pub waits_none : (n k : ℕ) (p q : Pool) → (store_in q).logs n ≡ (store_in p).logs n → (store_in p).marks n ≤ (store_in q).marks n → waiting (store_in p) n k ≡ None → waiting (store_in q) n k ≡ None
waits_none n k p q log mark none = found_none k ((store_in q).marks n) ((store_in q).logs n) (λ x found.
    none_found k ((store_in p).marks n) ((store_in p).logs n) x none (record {
      has = subst (λ (xs : List Placed). Contains xs x) log found.has;
      from = omega (arith, mark, found.from);
      authority = found.authority;
    }))

lane_then : (n : ℕ) (p q r : Pool) → Grows p q → Grows q r → LeavesLane n p q → LeavesLane n q r → LeavesLane n p r
lane_then n p q r g h a b = record {
  own = own_then n p q r h a.own b.own;
  log = b.log ∙ a.log;
  knows = b.knows ∙ a.knows;
  deeds = λ t lt. moved_then ((store_in p).deeds t) ((store_in q).deeds t) ((store_in r).deeds t) (g.later.epochs t) (h.later.epochs t) (a.deeds t lt) (b.deeds t lt);
  keys = λ k l pos looks slot clear.
      let one : LeavesKey n k p q = a.keys k l pos looks slot ((h.later.gates n).clear clear) in
      let two : LeavesKey n k q r = b.keys k l pos (ap (λ v. v.look) a.knows ∙ looks) slot clear in
      record {
        located = λ x agrees. two.located x (one.located x agrees);
        found = λ none. path_then k p q r (one.found none) (two.found (waits_none n k p q a.log (g.later.marks n) none));
      };
}

merger_then : (n : ℕ) (p q r : Pool) → Grows p q → LeavesMerger n p q → LeavesMerger n q r → LeavesMerger n p r
merger_then n p q r g a b = record {
  mark = b.mark ∙ a.mark;
  chains = λ k x pos waits.
      let has : Contains ((store_in q).logs n) x = subst (λ (xs : List Placed). Contains xs x) (sym (g.later.logs n).1) (Contains-append_left ((store_in p).logs n) (g.later.logs n).0 x waits.has) in
      let still : IsWaiting q.owners n k x = record { has = has; unmerged = omega (arith, waits.unmerged, a.mark); authority = waits.authority } in
      chain_then n k p q r (a.chains k x pos waits) (b.chains k x pos still);
}

given_then : (d e f : Deed) → (e ≡ d) ⊎ IsStep d e Leaving Released → (f ≡ e) ⊎ IsStep e f Leaving Released → (f ≡ d) ⊎ IsStep d f Leaving Released
given_then d e f (inl same) (inl again) = inl (again ∙ same)
given_then d e f (inl same) (inr s) = inr (subst (λ x. IsStep x f Leaving Released) same s)
given_then d e f (inr s) (inl again) = inr (subst (λ x. IsStep d x Leaving Released) (sym again) s)
given_then d e f (inr s) (inr t) = absurd (apart (sym s.is ∙ t.was)) where
  apart : (let x : DeedState = Released in x) ≡ Leaving → ⊥
  apart x = absurd (cc x)

order_then : (p q r : Pool) → LeavesOrder p q → LeavesOrder q r → LeavesOrder p r
order_then p q r a b = record {
  watch = b.watch ∙ a.watch;
  deeds = λ t lt. given_then ((store_in p).deeds t) ((store_in q).deeds t) ((store_in r).deeds t) (a.deeds t lt) (b.deeds t lt);
}

pub step_then : (who : Acting) (p q r : Pool) → IsStepBy who p q → IsStepBy who q r → IsStepBy who p r
step_then who p q r a b = record {
  whole = b.whole;
  grows = grows_then p q r a.grows b.grows;
  lanes = λ n l d. lane_then n p q r a.grows b.grows (a.lanes n l d) (b.lanes n l d);
  mergers = λ n l d. merger_then n p q r a.grows (a.mergers n l d) (b.mergers n l d);
  order = λ f. order_then p q r (a.order f) (b.order f);
  segment_count = λ f. b.segment_count f ∙ a.segment_count f;
  bucket_count = λ f. b.bucket_count f ∙ a.bucket_count f;
}

pub quiet_then : (p q r : Pool) → IsQuiet p q → IsQuiet q r → IsQuiet p r
quiet_then p q r a b = record { held = λ k v pos h. b.held k v pos (a.held k v pos h); promised = λ k. b.promised k ∙ a.promised k }
