use Rattle.std.proofs.Common.{ℕ, ◌+◌, ◌*◌, ◌≤◌, ◌<◌, ◌≡◌, ◌≢◌, inl, false, List, Some, sym, ◌∙◌, ap, arith, slice_set}
use Rattle.std.proofs.lemmas.Nat.{same_from_place}
use Rattle.dn_act.specs.Words.{word_at}
use Rattle.dn_act.proofs.Words.{word_at-set_other}
use Rattle.dn_record.specs.declared.records.Record.{Record}
use Rattle.dn_model.specs.Regions.{gate_at, directory_at, slot_of, IsLane}
use Rattle.dn_model.proofs.HashLaws.{home_below}
use Rattle.dn_store.specs.Holding.{authority_in}
use Rattle.dn_owners.specs.Known.{Look}
use Rattle.dn_owners.specs.Later.{IsLater}
use Rattle.dn_owners.specs.Sound.{Agrees}
use Rattle.dn_beside.specs.Pool.{Pool, store_in, IsWhole}
use Rattle.dn_beside.specs.Lanes.{LeavesOwn, LeavesLane}
use Rattle.dn_beside.specs.Step.{IsStepBy, by_lane}
use Rattle.dn_beside.proofs.Apart.{IsAlike, IsOutside, own_apart, chain_apart, path_apart, grows_apart}

-- A step of lane n that stores one word of its own, or adds to the counter of segments, as all others see it.

pub stored_alike : (words now : List ℕ) (at new : ℕ) → now ≡ slice_set words at new → IsAlike words now at
stored_alike words now at new e = record { other = λ i d. ap (λ ws. word_at ws i) e ∙ word_at-set_other words at i new d }

-- ---- a word that is none of lane m's
pub record IsNotOf (m at : ℕ) (holders : ℕ → ℕ) : Type 0 where
  pub gate : gate_at m ≢ at
  pub directory : (i : ℕ) → i < 256 → directory_at m i ≢ at
  pub segment : (g i : ℕ) → i < 1024 → holders g ≡ m → 98304 + (g * 1024 + i) ≢ at

-- words below the directories that are no gate of lane m
pub low_not_of : (m at : ℕ) (holders : ℕ → ℕ) → at < 1024 → gate_at m ≢ at → IsNotOf m at holders
low_not_of m at holders lt d = record {
  gate = d;
  directory = λ i il e. absurd (omega (arith, e, lt));
  segment = λ g i il own e. absurd (omega (arith, e, lt));
}

-- a directory word of lane n, and a word of a segment that it holds
pub directory_not_of : (m n q : ℕ) (holders : ℕ → ℕ) → m ≢ n → m < 64 → n < 64 → q < 256 → IsNotOf m (directory_at n q) holders
directory_not_of m n q holders d ml nl ql = record {
  gate = λ e. absurd (omega (arith, e, ml));
  directory = λ i il e. d (same_from_place m i n q 256 il ql (omega (arith, e))).0;
  segment = λ g i il own e. absurd (omega (arith, e, ql, nl));
}

pub segment_not_of : (m n g r : ℕ) (holders : ℕ → ℕ) → m ≢ n → m < 64 → r < 1024 → holders g ≡ n → IsNotOf m (98304 + (g * 1024 + r)) holders
segment_not_of m n g r holders d ml rl own = record {
  gate = λ e. absurd (omega (arith, e, ml));
  directory = λ i il e. absurd (omega (arith, e, il, ml));
  segment = λ h i il of e. d (sym of ∙ ap holders (same_from_place h i g r 1024 il rl (omega (arith, e))).0 ∙ own);
}

-- ---- the step
pub record IsOwnStep (n at : ℕ) (p q : Pool) : Type 0 where
  pub whole : IsWhole p
  pub after : IsWhole q
  pub lane : IsLane n
  pub alike : IsAlike p.words q.words at
  pub beside : IsOutside at
  pub not_of : (m : ℕ) → IsLane m → m ≢ n → IsNotOf m at (store_in p).holders
  pub later : IsLater p.owners q.owners
  pub named : (m i : ℕ) → IsLane m → i * 1024 < ((store_in p).gates m).len → directory_at m i ≢ at
  -- what it leaves
  pub chains : q.chains ≡ p.chains
  pub pool : (store_in q).pool ≡ (store_in p).pool
  pub gates : (m : ℕ) → m ≢ n → (store_in q).gates m ≡ (store_in p).gates m
  pub logs : (m : ℕ) → m ≢ n → (store_in q).logs m ≡ (store_in p).logs m
  pub knows : (m : ℕ) → m ≢ n → q.owners.knows m ≡ p.owners.knows m
  pub holders : (m g : ℕ) → IsLane m → (store_in p).holders g ≡ m → (store_in q).holders g ≡ m
  pub marks : (m : ℕ) → (store_in q).marks m ≡ (store_in p).marks m
  pub deeds : (t : ℕ) → (store_in q).deeds t ≡ (store_in p).deeds t
  pub index : (store_in q).index ≡ (store_in p).index
  pub takers : (store_in q).takers ≡ (store_in p).takers
  pub bucket_count : (store_in q).bucket_count ≡ (store_in p).bucket_count
  pub segments : (store_in p).segment_count ≤ (store_in q).segment_count
  pub watch : q.owners.watch ≡ p.owners.watch
  pub located : (m k : ℕ) (l : Look) (r : Record) → m ≢ n → (p.owners.knows m).look ≡ Some l → slot_of k ≡ l.slot
      → ((store_in p).gates m).fenced ≡ false → Agrees (authority_in (store_in p) k) k r → Agrees (authority_in (store_in q) k) k r

own_left : (n at : ℕ) (p q : Pool) (m : ℕ) → IsOwnStep n at p q → IsLane m → m ≢ n → LeavesOwn m p q
own_left n at p q m s l d =
    let z = s.not_of m l d in
    own_apart m at p q s.alike s.pool (ap (λ g. g.len) (s.gates m d)) (λ g own. s.holders m g l own) z.gate z.directory z.segment

lane_left : (n at : ℕ) (p q : Pool) (m : ℕ) → IsOwnStep n at p q → IsLane m → m ≢ n → LeavesLane m p q
lane_left n at p q m s l d = record {
  own = own_left n at p q m s l d;
  log = s.logs m d;
  knows = s.knows m d;
  deeds = λ t lt. inl (s.deeds t);
  keys = λ k lk pos look slot clear. record {
    located = λ r a. s.located m k lk r d look slot (sym (ap (λ g. g.fenced) (s.gates m d)) ∙ clear) a;
    found = λ none. path_apart k at p q s.whole s.alike s.beside (home_below k) s.chains s.index;
  };
}

pub own_step : (n at : ℕ) (p q : Pool) → IsOwnStep n at p q → IsStepBy (by_lane n) p q
own_step n at p q s = record {
  whole = s.after;
  grows = grows_apart at p q s.alike s.later s.pool s.segments (omega (arith, s.bucket_count)) s.named;
  lanes = λ m l d. lane_left n at p q m s l d;
  mergers = λ m l d. record {
    mark = s.marks m;
    chains = λ k r pos waits. chain_apart m k at p q s.whole l.positive s.alike s.beside (home_below k) s.chains s.takers s.index;
  };
  order = λ f. record { watch = s.watch; deeds = λ t lt. inl (s.deeds t) };
  segment_count = λ e. absurd (omega (arith, e, s.lane.positive));
  bucket_count = λ e. s.bucket_count;
}
