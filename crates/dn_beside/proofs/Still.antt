use Rattle.std.proofs.Common.{ℕ, ◌≤◌, ◌≡◌, ◌≢◌, inl, false, [], refl, sym, ◌∙◌, ap, subst, arith, append-nil}
use Rattle.dn_store.specs.Holding.{authority_in, holds}
use Rattle.dn_owners.specs.Sound.{Agrees}
use Rattle.dn_owners.proofs.Grown.{risen_same}
use Rattle.dn_model.specs.Regions.{home_of}
use Rattle.dn_owners.specs.Known.{Owners}
use Rattle.dn_owners.specs.Later.{IsRisen, IsLater}
use Rattle.dn_beside.specs.Pool.{Pool, IsWhole}
use Rattle.dn_beside.specs.Grown.{Grows}
use Rattle.dn_beside.specs.Chains.{IsChainKept, IsPathKept}
use Rattle.dn_beside.specs.Lanes.{LeavesOwn, LeavesLane}
use Rattle.dn_beside.specs.Mergers.{LeavesMerger}
use Rattle.dn_beside.specs.Orders.{LeavesOrder}
use Rattle.dn_beside.specs.Step.{Acting, IsStepBy, IsQuiet}

-- What a step leaves that changes no word and nothing of the store.

pub own_still : (n : ℕ) (p : Pool) (o : Owners) → o.store ≡ p.owners.store → LeavesOwn n p (record p { owners = o })
own_still n p o e = record {
  pool = ap (λ s. s.pool) e;
  len = ap (λ s. (s.gates n).len) e;
  gate = λ f. refl;
  directory = λ i lt. refl;
  holders = λ g own. ap (λ s. s.holders g) e ∙ own;
  segments = λ g i lt own. refl;
}

pub chain_still : (n k : ℕ) (p : Pool) (o : Owners) → o.store ≡ p.owners.store → IsChainKept n k p (record p { owners = o })
chain_still n k p o e = record {
  chain = refl;
  words = λ b i li c. refl;
  takers = λ c own. ap (λ s. s.takers c) e ∙ own;
  taken = λ c i li own. refl;
  index = ap (λ s. s.index k) e;
}

pub path_still : (k : ℕ) (p : Pool) (o : Owners) → o.store ≡ p.owners.store → IsPathKept k p (record p { owners = o })
path_still k p o e = record {
  more = [];
  grows = sym (append-nil (p.chains (home_of k)));
  keys = λ b i place. (λ x. x, λ x. x);
  index = ap (λ s. s.index k) e;
}

later_still : (p : Pool) (o : Owners) → o.store ≡ p.owners.store → ((k : ℕ) → p.owners.promised k ≤ o.promised k) → IsLater p.owners o
later_still p o e more = record {
  logs = λ n. ([], ap (λ s. s.logs n) e ∙ sym (append-nil (p.owners.store.logs n)));
  gates = λ n. subst (λ s. IsRisen (p.owners.store.gates n) (s.gates n)) (sym e) (risen_same (p.owners.store.gates n));
  marks = λ n. omega (arith, ap (λ s. s.marks n) e);
  epochs = λ t. omega (arith, ap (λ s. (s.deeds t).epoch) e);
  floors = λ t. omega (arith, ap (λ s. (s.deeds t).floor) e);
  promised = more;
}

pub grows_still : (p : Pool) (o : Owners) → o.store ≡ p.owners.store → ((k : ℕ) → p.owners.promised k ≤ o.promised k) → Grows p (record p { owners = o })
grows_still p o e more = record { later = later_still p o e more; pool = ap (λ s. s.pool) e; segments = omega (arith, ap (λ s. s.segment_count) e); buckets = omega (arith, ap (λ s. s.bucket_count) e); named = λ n i l lt. refl }

lane_still : (n : ℕ) (p : Pool) (o : Owners) → o.store ≡ p.owners.store → o.knows n ≡ p.owners.knows n → LeavesLane n p (record p { owners = o })
lane_still n p o e knows = record {
  own = own_still n p o e;
  log = ap (λ s. s.logs n) e;
  knows = knows;
  deeds = λ t lt. inl (ap (λ s. s.deeds t) e);
  keys = λ k l pos look slot clear. record {
    located = λ r. subst (λ s. Agrees (authority_in p.owners.store k) k r → Agrees (authority_in s k) k r) (sym e) (λ x. x);
    found = λ none. path_still k p o e;
  };
}

merger_still : (n : ℕ) (p : Pool) (o : Owners) → o.store ≡ p.owners.store → LeavesMerger n p (record p { owners = o })
merger_still n p o e = record { mark = ap (λ s. s.marks n) e; chains = λ k r pos waits. chain_still n k p o e }

order_still : (p : Pool) (o : Owners) → o.store ≡ p.owners.store → o.watch ≡ p.owners.watch → LeavesOrder p (record p { owners = o })
order_still p o e watch = record { watch = watch; deeds = λ t lt. inl (ap (λ s. s.deeds t) e) }

-- an actor learns something, or promises
pub learning_step : (a : Acting) (p : Pool) (o : Owners) → o.store ≡ p.owners.store → IsWhole (record p { owners = o }) → ((k : ℕ) → p.owners.promised k ≤ o.promised k)
    → ((n : ℕ) → n ≢ a.lane → o.knows n ≡ p.owners.knows n) → (a.monitor ≡ false → o.watch ≡ p.owners.watch) → IsStepBy a p (record p { owners = o })
learning_step a p o e whole more knows watch = record {
  whole = whole;
  grows = grows_still p o e more;
  lanes = λ n l d. lane_still n p o e (knows n d);
  mergers = λ n l d. merger_still n p o e;
  order = λ f. order_still p o e (watch f);
  segment_count = λ f. ap (λ s. s.segment_count) e;
  bucket_count = λ f. ap (λ s. s.bucket_count) e;
}

pub quiet_still : (p : Pool) (o : Owners) → o.store ≡ p.owners.store → ((k : ℕ) → o.promised k ≡ p.owners.promised k) → IsQuiet p (record p { owners = o })
quiet_still p o e same = record { held = λ k v pos h. ap (λ s. holds s k) e ∙ h; promised = same }
