use Rattle.std.proofs.Common.{ℕ, ◌+◌, ◌<◌, ◌≡◌, List, [], ◌∷◌, Contains, Option, Some, None, sym, ◌∙◌, subst, arith, append-nil}
use Rattle.dn_model.specs.Regions.{bucket, home_of}
use Rattle.dn_index.specs.declared.places.Spot.{Spot}
use Rattle.dn_index.specs.declared.places.WalkPlace.{WalkPlace}
use Rattle.dn_index.specs.declared.places.WalkPlace.TheVariants.{Key, Next, Match, Counter, Claim, FillPlace, FillKey, Link}
use Rattle.dn_store.specs.Standing.{InChain}
use Rattle.dn_beside.specs.Pool.{Pool}
use Rattle.dn_beside.specs.Chains.{IsChainKept}
use Rattle.dn_beside.proofs.Apart.{path_of_chain}
use Rattle.dn_walks.specs.Trails.{IsFree, MayBeFree}
use Rattle.dn_walks.specs.Changing.{IsLast, Fills, KnowsWalk}
use Rattle.dn_walks.proofs.Lasts.{spot_more, tracks_last, met_lasts}

-- What a merger's walk knows lasts where its chain is kept.

now_in : (n k b : ℕ) (p q : Pool) → IsChainKept n k p q → InChain p.chains (home_of k) b → InChain q.chains (home_of k) b
now_in n k b p q u m = let P : List ℕ → Type 0 = λ x. Contains (home_of k ∷ x) b in subst P (sym u.chain) m

was_behind : (n k c : ℕ) (p q : Pool) → IsChainKept n k p q → Contains (q.chains (home_of k)) c → Contains (p.chains (home_of k)) c
was_behind n k c p q u m = let P : List ℕ → Type 0 = λ x. Contains x c in subst P u.chain m

free_lasts : (n k : ℕ) (s : Spot) (p q : Pool) → IsChainKept n k p q → IsFree p.words p.chains k s → IsFree q.words q.chains k s
free_lasts n k s p q u h = record {
  spot = spot_more p.chains q.chains k s [] (u.chain ∙ sym (append-nil (p.chains (home_of k)))) h.spot;
  free = u.words s.bucket s.number (omega (arith, h.spot.place.three, h.spot.number)) h.spot.place.has ∙ h.free;
}

may_last : (n k : ℕ) (free : Option Spot) (p q : Pool) → IsChainKept n k p q → MayBeFree p.words p.chains k free → MayBeFree q.words q.chains k free
may_last n k None p q u h = record {}
may_last n k (Some s) p q u h = free_lasts n k s p q u h

last_lasts : (n k b : ℕ) (p q : Pool) → IsChainKept n k p q → IsLast k p b → IsLast k q b
last_lasts n k b p q u h = record { has = now_in n k b p q u h.has; end = u.words b 7 (omega arith) h.has ∙ h.end; absent = u.index ∙ h.absent }

fills_last : (n k : ℕ) (s : Spot) (from : Option ℕ) (p q : Pool) → IsChainKept n k p q → Fills n k p s from → Fills n k q s from
fills_last n k s None p q u h = (free_lasts n k s p q u h.0, u.index ∙ h.1)
fills_last n k s (Some last) p q u h = (
  last_lasts n k last p q u h.0,
  record {
    taker = u.takers s.bucket h.1.taker;
    first = h.1.first;
    later = λ c x. h.1.later c (was_behind n k c p q u x);
  },
)

-- the place word of the place that it fills
fills_word : (n k : ℕ) (s : Spot) (from : Option ℕ) (p q : Pool) → IsChainKept n k p q → Fills n k p s from → bucket q.words s.bucket (s.number + 3) ≡ bucket p.words s.bucket (s.number + 3)
fills_word n k s None p q u h = u.words s.bucket (s.number + 3) (omega (arith, h.0.spot.place.three, h.0.spot.number)) h.0.spot.place.has
fills_word n k s (Some last) p q u h = u.taken s.bucket (s.number + 3) (omega (arith, h.1.first)) h.1.taker

pub walk_lasts : (n k : ℕ) (want : Option ℕ) (place : WalkPlace) (p q : Pool) → 0 < n → IsChainKept n k p q → KnowsWalk n k want p place → KnowsWalk n k want q place
walk_lasts n k want (Key errand t number) p q pos u h = (h.0, h.1, tracks_last k t number p q (path_of_chain n k p q u) h.2, may_last n k t.free p q u h.3)
walk_lasts n k want (Next errand t) p q pos u h = (h.0, tracks_last k t 4 p q (path_of_chain n k p q u) h.1, may_last n k t.free p q u h.2)
walk_lasts n k want (Match errand s) p q pos u h = (h.0, met_lasts k s p q (path_of_chain n k p q u) h.1)
walk_lasts n k want (Counter at last) p q pos u h = (h.0, last_lasts n k last p q u h.1)
walk_lasts n k want (Claim at last) p q pos u h = (h.0, last_lasts n k last p q u h.1)
walk_lasts n k want (FillPlace at s from) p q pos u h = (h.0, fills_last n k s from p q u h.1)
walk_lasts n k want (FillKey s from) p q pos u h = (record { word = h.0.word; wants = h.0.wants; stands = fills_word n k s from p q u h.1 ∙ h.0.stands }, fills_last n k s from p q u h.1)
walk_lasts n k want (Link last new) p q pos u h =
    let l = h.2 in (
      record { word = h.0.word; wants = h.0.wants; stands = u.taken new 4 (omega arith) h.1 ∙ h.0.stands },
      u.takers new h.1,
      record {
        has = now_in n k last p q u l.has;
        end = u.words last 7 (omega arith) l.has ∙ l.end;
        own = omega (arith, pos, u.takers new h.1);
        later = λ c x. l.later c (was_behind n k c p q u x);
        key = u.taken new 1 (omega arith) h.1 ∙ l.key;
        absent = u.index ∙ l.absent;
      },
    )
