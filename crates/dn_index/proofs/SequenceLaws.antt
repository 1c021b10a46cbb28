use Rattle.std.proofs.Common.{◌≡◌, ℕ, ◌+◌, ◌-◌, ◌==◌, zero, suc, Option, Some, None, Bool, true, false, if◌then◌else◌, nat_lt, refl, sym, ◌∙◌, ap, subst, arith}
use Rattle.std.proofs.lemmas.Grind.{common_steps}
use Rattle.dn_word.specs.Ref.{ref_of}
use Rattle.dn_word.specs.declared.packed.place.Ref.{Ref}
use Rattle.dn_model.specs.Regions.{home_of}
use Rattle.dn_model.specs.Program.{Program, Return, ◌>>=◌, add, Turn, Goes, Runs}
use Rattle.dn_index.specs.Walk.{Walking, spot, trail, begun, noted, at_end, onward, names_bucket, found, turn_of, after_of, walk_next}
use Rattle.dn_index.specs.Sequence.{Reached, At, Out, free_after, in_bucket, along, read_place, find_program, fill, link, put, set_program, clear, remove_program, turn_by, walk_taken, Walks}
use Rattle.dn_index.specs.declared.places.Spot.{Spot}
use Rattle.dn_index.specs.declared.places.Errand.{Errand}
use Rattle.dn_index.specs.declared.places.Errand.TheVariants.{Find, Set, Remove}
use Rattle.dn_index.specs.declared.places.WalkPlace.{WalkPlace}
use Rattle.dn_index.specs.declared.places.WalkPlace.TheVariants.{Key, Next, Match, Counter, Claim, FillPlace, FillKey, Link}
use Rattle.dn_index.specs.declared.places.WalkTurn.{WalkTurn}
use Rattle.dn_index.specs.declared.places.WalkTurn.TheVariants.{Written, IndexFull}
use Rattle.dn_index.specs.declared.places.Step.{Step}
use Rattle.dn_index.specs.declared.places.Step.TheVariants.{On, End}

abbrev Ran : Program WalkTurn → Turn Walking WalkTurn → Type 0
Ran program turn = Runs walk_next walk_taken program turn

-- a walk of this key at a place
abbrev at : ℕ → WalkPlace → Walking
at key place = record { key = key; place = place }

-- the turn that a step is
abbrev stepped : Walking → Step → Turn Walking WalkTurn
stepped w step = turn_by (turn_of step) (after_of w step)

-- what comes behind the chain, for this errand
pub record Goes_on (key : ℕ) (errand : Errand) (rest : Reached → Program WalkTurn) : Type 0 where
  pub met : (s : Spot) → Ran (rest (At s)) (Goes (at key (Match errand s)))
  pub ended : (w : Walking) (b left : ℕ) (free : Option Spot) → w.key ≡ key → Ran (rest (Out b free)) (stepped w (at_end errand (trail b left free)))

-- ---- a bucket
-- after a key word, by whether it is the key
key_by : (key : ℕ) (errand : Errand) (rest : Reached → Program WalkTurn) (w : Walking) (s : Spot) (more : Program Reached) (place : WalkPlace) (same : Bool) → w.key ≡ key → Goes_on key errand rest
    → Ran (more >>= rest) (Goes (at key place))
    → Ran ((if same then Return (At s) else more) >>= rest) (stepped w (if same then On (Match errand s) else On place))
key_by key errand rest w s more place true e g h =
    let P : ℕ → Type 0 = λ k. Ran (rest (At s)) (Goes (at k (Match errand s))) in
    subst P (sym e) (g.met s)
key_by key errand rest w s more place false e g h =
    let P : ℕ → Type 0 = λ k. Ran (more >>= rest) (Goes (at k place)) in
    subst P (sym e) h

-- after a next word, by whether it names a bucket
next_by : (key : ℕ) (errand : Errand) (rest : Reached → Program WalkTurn) (w : Walking) (b left : ℕ) (free : Option Spot) (more : Program Reached) (step : Step) (named : Bool) → w.key ≡ key → Goes_on key errand rest
    → Ran (more >>= rest) (stepped w step)
    → Ran ((if named then more else Return (Out b free)) >>= rest) (stepped w (if named then step else at_end errand (trail b left free)))
next_by key errand rest w b left free more step true e g h = h
next_by key errand rest w b left free more step false e g h = g.ended w b left free e

bucket_run : (key : ℕ) (errand : Errand) (rest : Reached → Program WalkTurn) (b left : ℕ) (free : Option Spot) (more : ℕ → Option Spot → Program Reached) → Goes_on key errand rest
    → ((w : Walking) (next : ℕ) (now : Option Spot) → w.key ≡ key → Ran (more next now >>= rest) (stepped w (onward errand (trail b left now) next)))
    → Ran (in_bucket more key b free >>= rest) (Goes (at key (Key errand (trail b left free) 1)))
bucket_run key errand rest b left free more g h = (
  at key (Key errand (trail b left free) 1),
  refl,
  refl,
  λ one. key_by key errand rest (at key (Key errand (trail b left free) 1)) (spot b 1) _ (Key errand (noted (trail b left free) 1 one) 2) (one == key) refl g (
    at key (Key errand (noted (trail b left free) 1 one) 2),
    refl,
    refl,
    λ two. key_by key errand rest (at key (Key errand (noted (trail b left free) 1 one) 2)) (spot b 2) _ (Key errand (noted (noted (trail b left free) 1 one) 2 two) 3) (two == key) refl g (
      at key (Key errand (noted (noted (trail b left free) 1 one) 2 two) 3),
      refl,
      refl,
      λ three. key_by key errand rest (at key (Key errand (noted (noted (trail b left free) 1 one) 2 two) 3)) (spot b 3) _ (Next errand (trail b left (free_after b free one two three))) (three == key) refl g (
        at key (Next errand (trail b left (free_after b free one two three))),
        refl,
        refl,
        λ next. next_by key errand rest (at key (Next errand (trail b left (free_after b free one two three)))) b left (free_after b free one two three) (more next (free_after b free one two three)) (onward errand (trail b left (free_after b free one two three)) next) (names_bucket next) refl g
            (h (at key (Next errand (trail b left (free_after b free one two three)))) next (free_after b free one two three) refl),
      ),
    ),
  ),
)

-- ---- a chain
less : (left : ℕ) → suc left - 1 ≡ left
less left = omega arith

tested : (left : ℕ) → (suc left == 0) ≡ false
tested left = grind (arith, common_steps)

onward-more : (errand : Errand) (b left next : ℕ) (now : Option Spot) → onward errand (trail b (suc left) now) next ≡ On (Key errand (trail next left now) 1)
onward-more errand b left next now =
    ap (λ test. if test then at_end errand (trail b (suc left) now) else On (Key errand (trail next (suc left - 1) now) 1)) (tested left)
    ∙ ap (λ n. On (Key errand (trail next n now) 1)) (less left)

along_run : (left key b : ℕ) (errand : Errand) (rest : Reached → Program WalkTurn) (free : Option Spot) → Goes_on key errand rest
    → Ran (along left key b free >>= rest) (Goes (at key (Key errand (trail b left free) 1)))
along_run zero key b errand rest free g =
    bucket_run key errand rest b zero free (λ next now. Return (Out b now)) g (λ w next now e. g.ended w b zero now e)
along_run (suc left) key b errand rest free g =
    bucket_run key errand rest b (suc left) free (λ next now. along left key next now) g (λ w next now e.
    let P : ℕ → Type 0 = λ k. Ran (along left key next now >>= rest) (Goes (at k (Key errand (trail next left now) 1))) in
    let Q : Step → Type 0 = λ step. Ran (along left key next now >>= rest) (stepped w step) in
    subst Q (sym (onward-more errand b left next now)) (subst P (sym e) (along_run left key next errand rest now g)))

-- ---- find
read_goes_on : (key : ℕ) → Goes_on key Find read_place
read_goes_on key = record {
  met = λ s. (at key (Match Find s), refl, refl, λ word. found_run key s (ref_of word));
  ended = λ w b left free e. refl;
} where
  found_run : (key : ℕ) (s : Spot) (ref : Option Ref) → Ran (Return (found ref)) (stepped (at key (Match Find s)) (End (found ref)))
  found_run key s None = refl
  found_run key s (Some ref) = refl

pub find_run : (key : ℕ) → Walks (begun key (home_of key) Find) (find_program key)
find_run key = record { runs = along_run 4096 key (home_of key) Find read_place None (read_goes_on key) }

-- ---- remove
clear_goes_on : (key : ℕ) → Goes_on key Remove clear
clear_goes_on key = record {
  met = λ s. (at key (Match Remove s), refl, refl, λ word. refl);
  ended = λ w b left free e. refl;
}

pub remove_run : (key : ℕ) → Walks (begun key (home_of key) Remove) (remove_program key)
remove_run key = record { runs = along_run 4096 key (home_of key) Remove clear None (clear_goes_on key) }

-- ---- set
filled_run : (key : ℕ) (r : Ref) (s : Spot) → Ran (fill key r s (Return Written)) (Goes (at key (FillPlace r s None)))
filled_run key r s = (
  at key (FillPlace r s None),
  refl,
  refl,
  λ place. (at key (FillKey s None), refl, refl, λ word. refl),
)

linked_run : (key : ℕ) (r : Ref) (last new : ℕ) → Ran (fill key r (spot new 1) (link last new)) (Goes (at key (FillPlace r (spot new 1) (Some last))))
linked_run key r last new = (
  at key (FillPlace r (spot new 1) (Some last)),
  refl,
  refl,
  λ place. (
    at key (FillKey (spot new 1) (Some last)),
    refl,
    refl,
    λ word. (at key (Link last new), refl, refl, λ next. refl),
  ),
)

claimed_by : (key : ℕ) (r : Ref) (last number : ℕ) (below : Bool)
    → Ran (if below then fill key r (spot (4096 + number) 1) (link last (4096 + number)) else Return (IndexFull number))
    (stepped (at key (Claim r last)) (if below then On (FillPlace r (spot (4096 + number) 1) (Some last)) else End (IndexFull number)))
claimed_by key r last number true = linked_run key r last (4096 + number)
claimed_by key r last number false = refl

counted_by : (key : ℕ) (r : Ref) (last counter : ℕ) (below : Bool)
    → Ran (if below then (add 3 1 >>= λ number. if nat_lt number 4096 then fill key r (spot (4096 + number) 1) (link last (4096 + number)) else Return (IndexFull number)) else Return (IndexFull counter))
    (stepped (at key (Counter r last)) (if below then On (Claim r last) else End (IndexFull counter)))
counted_by key r last counter true = (at key (Claim r last), refl, refl, λ number. claimed_by key r last number (nat_lt number 4096))
counted_by key r last counter false = refl

put_ended : (key : ℕ) (r : Ref) (w : Walking) (b left : ℕ) (free : Option Spot) → w.key ≡ key → Ran (put key r (Out b free)) (stepped w (at_end (Set r) (trail b left free)))
put_ended key r w b left None e =
    let P : ℕ → Type 0 = λ k. Ran (put key r (Out b None)) (Goes (at k (Counter r b))) in
    subst P (sym e) (at key (Counter r b), refl, refl, λ counter. counted_by key r b counter (nat_lt counter 4096))
put_ended key r w b left (Some s) e =
    let P : ℕ → Type 0 = λ k. Ran (put key r (Out b (Some s))) (Goes (at k (FillPlace r s None))) in
    subst P (sym e) (filled_run key r s)

put_goes_on : (key : ℕ) (r : Ref) → Goes_on key (Set r) (λ reached. put key r reached)
put_goes_on key r = record {
  met = λ s. (at key (Match (Set r) s), refl, refl, λ word. refl);
  ended = λ w b left free e. put_ended key r w b left free e;
}

pub set_run : (key : ℕ) (r : Ref) → Walks (begun key (home_of key) (Set r)) (set_program key r)
set_run key r = record { runs = along_run 4096 key (home_of key) (Set r) (λ reached. put key r reached) None (put_goes_on key r) }
