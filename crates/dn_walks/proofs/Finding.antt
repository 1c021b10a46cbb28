use Rattle.std.proofs.Common.{ℕ, ◌+◌, ◌-◌, ◌==◌, ◌<◌, ◌≡◌, ◌≢◌, inl, inr, Bool, true, false, if◌then◌else◌, List, Option, Some, None, refl, sym, ◌∙◌, ap, subst, arith}
use Rattle.std.proofs.lemmas.Bool.Decides.{nat_tests}
use Rattle.std.proofs.lemmas.List.{set-get_or}
use Rattle.dn_word.specs.Ref.{ref_of}
use Rattle.dn_word.specs.declared.packed.place.Ref.{Ref}
use Rattle.dn_act.specs.Action.{at_of, Performs}
use Rattle.dn_act.specs.Words.{word_at}
use Rattle.dn_model.specs.Regions.{bucket, bucket_at}
use Rattle.dn_index.specs.declared.places.Trail.{Trail}
use Rattle.dn_index.specs.declared.places.Errand.{Errand}
use Rattle.dn_index.specs.declared.places.Errand.TheVariants.{Find, Set, Remove}
use Rattle.dn_index.specs.declared.places.WalkPlace.{WalkPlace}
use Rattle.dn_index.specs.declared.places.WalkPlace.TheVariants.{Key, Next, Match, Counter, Claim, FillPlace, FillKey, Link}
use Rattle.dn_index.specs.declared.places.Step.TheVariants.{On}
use Rattle.dn_index.specs.Walk.{spot, trail, place_at, next_at, noted, past, names_bucket, onward, at_end, step_at, found}
use Rattle.dn_store.specs.State.{StoreState}
use Rattle.dn_store.specs.Represents.{Represents}
use Rattle.dn_walks.specs.Trails.{Tracks}
use Rattle.dn_walks.specs.Finding.{KnowsFind, AnswersFind, KnowsFound}
use Rattle.dn_walks.proofs.Trails.{spot_of, tracks_past, tracks_none, next_none, tracks_on, met_index}

-- A step of a walk that finds: it loads, and then knows more.

find_met : (index : ℕ → Option ℕ) (k word : ℕ) (at : Option Ref) → index k ≡ Some word → ref_of word ≡ at → AnswersFind index k (found at)
find_met index k word None e f = inr (word, e, f)
find_met index k word (Some at) e f = (word, e, f)

find_key : (words : List ℕ) (chains : ℕ → List ℕ) (s : StoreState) (k : ℕ) (errand : Errand) (t : Trail) (number word : ℕ) → KnowsFind words chains k (Key errand t number) → word ≡ bucket words t.bucket number
    → KnowsFound words chains s.index k (step_at k (Key errand t number) word)
find_key words chains s k errand t number word a w = by_key (word == k) refl where
  by_number : (b : Bool) → (number == 3) ≡ b → bucket words t.bucket number ≢ k → KnowsFound words chains s.index k (if b then On (Next errand (noted t number word)) else On (Key errand (noted t number word) (number + 1)))
  by_number true e d = (a.0, (let P : ℕ → Type 0 = λ x. Tracks words chains k (noted t number word) x in subst P (let z : number + 1 ≡ 4 = grind (arith, nat_tests) in z) (tracks_past words chains k t number word a.2 d)))
  by_number false e d = (a.0, (let le = a.1 in let z : number ≢ 3 = grind (arith, nat_tests) in omega (arith, le, z)), tracks_past words chains k t number word a.2 d)

  by_key : (b : Bool) → (word == k) ≡ b → KnowsFound words chains s.index k (if b then On (Match errand (spot t.bucket number)) else past errand (noted t number word) number)
  by_key true e = (a.0, record { spot = spot_of words chains k t number a.2 a.1; key = sym w ∙ (let z : word ≡ k = grind (arith, nat_tests) in z) })
  by_key false e = by_number (number == 3) refl (λ f. let z : word ≢ k = grind (arith, nat_tests) in z (w ∙ f))

find_next : (words : List ℕ) (chains : ℕ → List ℕ) (s : StoreState) (k : ℕ) (errand : Errand) (t : Trail) (word : ℕ) → Represents words chains s → 0 < k → KnowsFind words chains k (Next errand t) → word ≡ bucket words t.bucket 7
    → KnowsFound words chains s.index k (step_at k (Next errand t) word)
find_next words chains s k (Set at) t word h kp a w = absurd a.0
find_next words chains s k Remove t word h kp a w = absurd a.0
find_next words chains s k Find t word h kp a w = by_word (names_bucket word) refl where
  by_left : (b : Bool) → (t.left == 0) ≡ b → word ≢ 0 → KnowsFound words chains s.index k (if b then at_end Find t else On (Key Find (trail word (t.left - 1) t.free) 1))
  by_left true e d = absurd ((tracks_on words chains s k t word h a.1 (sym w) d).0 (let z : t.left ≡ 0 = grind (arith, nat_tests) in z))
  by_left false e d = (a.0, omega arith, (tracks_on words chains s k t word h a.1 (sym w) d).1)

  by_word : (b : Bool) → names_bucket word ≡ b → KnowsFound words chains s.index k (if b then onward Find t word else at_end Find t)
  by_word true e = by_left (t.left == 0) refl (let z : word ≢ 0 = grind (arith, nat_tests) in z)
  by_word false e = inl (tracks_none words chains s k t h kp a.1 (sym w ∙ next_none words chains s k t word h a.1 (sym w) e))

pub find_steps : (words : List ℕ) (chains : ℕ → List ℕ) (s : StoreState) (k : ℕ) (place : WalkPlace) (word : ℕ) → Represents words chains s → 0 < k → KnowsFind words chains k place → word ≡ word_at words (at_of (next_at k place))
    → KnowsFound words chains s.index k (step_at k place word)
find_steps words chains s k (Key errand t number) word h kp a w = find_key words chains s k errand t number word a w
find_steps words chains s k (Next errand t) word h kp a w = find_next words chains s k errand t word h kp a w
find_steps words chains s k (Match Find sp) word h kp a w = find_met s.index k word (ref_of word) (met_index words chains s k sp h kp a.1 ∙ ap (λ z. Some z) (sym w)) refl
find_steps words chains s k (Match (Set at) sp) word h kp a w = absurd a.0
find_steps words chains s k (Match Remove sp) word h kp a w = absurd a.0
find_steps words chains s k (Counter at last) word h kp a w = absurd a
find_steps words chains s k (Claim at last) word h kp a w = absurd a
find_steps words chains s k (FillPlace at sp from) word h kp a w = absurd a
find_steps words chains s k (FillKey sp from) word h kp a w = absurd a
find_steps words chains s k (Link last new) word h kp a w = absurd a

-- the words stay
pub find_loads : (words now : List ℕ) (chains : ℕ → List ℕ) (k : ℕ) (place : WalkPlace) (word : ℕ) → KnowsFind words chains k place → Performs (next_at k place) word words now → now ≡ words
find_loads words now chains k (Key errand t number) word a p = p.change ∙ set-get_or words (bucket_at t.bucket number) 0
find_loads words now chains k (Next errand t) word a p = p.change ∙ set-get_or words (bucket_at t.bucket 7) 0
find_loads words now chains k (Match Find sp) word a p = p.change ∙ set-get_or words (place_at sp) 0
find_loads words now chains k (Match (Set at) sp) word a p = absurd a.0
find_loads words now chains k (Match Remove sp) word a p = absurd a.0
find_loads words now chains k (Counter at last) word a p = absurd a
find_loads words now chains k (Claim at last) word a p = absurd a
find_loads words now chains k (FillPlace at sp from) word a p = absurd a
find_loads words now chains k (FillKey sp from) word a p = absurd a
find_loads words now chains k (Link last new) word a p = absurd a
