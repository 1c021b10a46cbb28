use Rattle.std.proofs.Common.{ℕ, ◌+◌, ◌*◌, ◌<◌, ◌≤◌, ◌≡◌, ◌≢◌, ◌⊎◌, inl, inr, List, [], Option, sym, ◌∙◌, ap, arith, append-nil}
use Rattle.dn_act.specs.Words.{word_at}
use Rattle.dn_model.specs.Regions.{gate_at, directory, directory_at, bucket, bucket_at, home_of, IsLane}
use Rattle.dn_owners.specs.Later.{IsLater}
use Rattle.dn_beside.specs.Pool.{Pool, store_in, IsWhole}
use Rattle.dn_beside.specs.Grown.{Grows}
use Rattle.dn_beside.specs.Chains.{IsChainKept, IsPathKept}
use Rattle.dn_beside.specs.Lanes.{LeavesOwn}

-- What a step leaves that stores at most one word, by the region of that word.

pub record IsAlike (words now : List ℕ) (at : ℕ) : Type 0 where
  pub other : (i : ℕ) → i ≢ at → word_at now i ≡ word_at words i

-- ---- lane n's own words, where none of them is stored
pub own_apart : (n at : ℕ) (p q : Pool) → IsAlike p.words q.words at → (store_in q).pool ≡ (store_in p).pool
    → ((store_in q).gates n).len ≡ ((store_in p).gates n).len
    → ((g : ℕ) → (store_in p).holders g ≡ n → (store_in q).holders g ≡ n)
    → gate_at n ≢ at → ((i : ℕ) → i < 256 → directory_at n i ≢ at)
    → ((g i : ℕ) → i < 1024 → (store_in p).holders g ≡ n → 98304 + (g * 1024 + i) ≢ at) → LeavesOwn n p q
own_apart n at p q s pool len holders gate directory segment = record {
  pool = pool;
  len = len;
  gate = λ f. s.other (gate_at n) gate;
  directory = λ i lt. s.other (directory_at n i) (directory i lt);
  holders = holders;
  segments = λ g i lt own. s.other (98304 + (g * 1024 + i)) (segment g i lt own);
}

-- ---- a step that stores no word of a bucket
abbrev pub IsOutside : ℕ → Type 0
IsOutside at = (at < 32768) ⊎ (98304 ≤ at)

bucket_apart : (words now : List ℕ) (at b i : ℕ) → IsAlike words now at → IsOutside at → b < 8192 → i < 8 → bucket now b i ≡ bucket words b i
bucket_apart words now at b i s (inl low) lb li = s.other (bucket_at b i) (λ e. absurd (omega (arith, e, low)))
bucket_apart words now at b i s (inr high) lb li = s.other (bucket_at b i) (λ e. absurd (omega (arith, e, high, lb, li)))

pub chain_apart : (n k at : ℕ) (p q : Pool) → IsWhole p → 0 < n → IsAlike p.words q.words at → IsOutside at → home_of k < 4096 → q.chains ≡ p.chains
    → (store_in q).takers ≡ (store_in p).takers → (store_in q).index ≡ (store_in p).index → IsChainKept n k p q
chain_apart n k at p q h pos s out lt chains takers index = record {
  chain = ap (λ (f : ℕ → List ℕ). f (home_of k)) chains;
  words = λ b i li c. bucket_apart p.words q.words at b i s out (h.represents.indexed.below (home_of k) b lt c) li;
  takers = λ c e. ap (λ (f : ℕ → ℕ). f c) takers ∙ e;
  taken = λ c i li e. bucket_apart p.words q.words at c i s out (h.represents.overflow.taken c (omega (arith, pos, e))).2 li;
  index = ap (λ (f : ℕ → Option ℕ). f k) index;
}

pub path_apart : (k at : ℕ) (p q : Pool) → IsWhole p → IsAlike p.words q.words at → IsOutside at → home_of k < 4096 → q.chains ≡ p.chains
    → (store_in q).index ≡ (store_in p).index → IsPathKept k p q
path_apart k at p q h s out lt chains index = record {
  more = [];
  grows = ap (λ (f : ℕ → List ℕ). f (home_of k)) chains ∙ sym (append-nil (p.chains (home_of k)));
  keys = λ b i place.
      let same : bucket q.words b (i + 1) ≡ bucket p.words b (i + 1) = bucket_apart p.words q.words at b (i + 1) s out (h.represents.indexed.below (home_of k) b lt place.has) (omega (arith, place.three)) in
      (λ e. sym same ∙ e, λ e. same ∙ e);
  index = ap (λ (f : ℕ → Option ℕ). f k) index;
}

-- ---- what grows, where no directory word is stored that names a sealed segment
pub grows_apart : (at : ℕ) (p q : Pool) → IsAlike p.words q.words at → IsLater p.owners q.owners → (store_in q).pool ≡ (store_in p).pool
    → (store_in p).segment_count ≤ (store_in q).segment_count → (store_in p).bucket_count ≤ (store_in q).bucket_count
    → ((n i : ℕ) → IsLane n → i * 1024 < ((store_in p).gates n).len → directory_at n i ≢ at) → Grows p q
grows_apart at p q s later pool segments buckets apart = record {
  later = later;
  pool = pool;
  segments = segments;
  buckets = buckets;
  named = λ n i l lt. s.other (directory_at n i) (apart n i l lt);
}

-- ---- a walk's chain that is kept whole is kept for those who find
pub path_of_chain : (n k : ℕ) (p q : Pool) → IsChainKept n k p q → IsPathKept k p q
path_of_chain n k p q c = record {
  more = [];
  grows = c.chain ∙ sym (append-nil (p.chains (home_of k)));
  keys = λ b i place.
      let same : bucket q.words b (i + 1) ≡ bucket p.words b (i + 1) = c.words b (i + 1) (omega (arith, place.three)) place.has in
      (λ e. sym same ∙ e, λ e. same ∙ e);
  index = c.index;
}
