use Rattle.std.proofs.Common.{ℕ, ◌+◌, ◌==◌, ◌<◌, ◌≤◌, ◌≡◌, ◌≢◌, ◌⊎◌, inl, inr, Bool, true, false, nat_lt, if◌then◌else◌, List, Option, Some, None, refl, sym, ◌∙◌, ap, subst, arith}
use Rattle.std.proofs.lemmas.Bool.Decides.{nat_tests}
use Rattle.std.proofs.lemmas.List.{set-get_or}
use Rattle.dn_word.specs.Ref.{ref_word}
use Rattle.dn_word.specs.declared.packed.place.Ref.{Ref}
use Rattle.dn_act.specs.Action.{at_of, words_after, Performs}
use Rattle.dn_act.specs.Words.{word_at}
use Rattle.dn_model.specs.Program.{Program, Runs, Goes}
use Rattle.dn_model.specs.Regions.{bucket_at, home_of}
use Rattle.dn_index.specs.declared.places.Spot.{Spot}
use Rattle.dn_index.specs.declared.places.Errand.{Errand}
use Rattle.dn_index.specs.declared.places.Errand.TheVariants.{Find, Set, Remove}
use Rattle.dn_index.specs.declared.places.WalkPlace.{WalkPlace}
use Rattle.dn_index.specs.declared.places.WalkPlace.TheVariants.{Key, Next, Match, Counter, Claim, FillPlace, FillKey, Link}
use Rattle.dn_index.specs.declared.places.WalkTurn.{WalkTurn}
use Rattle.dn_index.specs.declared.places.WalkTurn.TheVariants.{More, Found, Absent, Written, IndexFull}
use Rattle.dn_index.specs.declared.places.Step.{Step}
use Rattle.dn_index.specs.declared.places.Step.TheVariants.{On, End}
use Rattle.dn_index.specs.Walk.{Walking, begun, noted, past, at_end, onward, names_bucket, next_at, step_at, walk_next, walk_step, turn_of, after_of}
use Rattle.dn_index.specs.Sequence.{walk_taken, turn_by, set_program, remove_program}
use Rattle.dn_index.proofs.SequenceLaws.{set_run, remove_run}
use Rattle.dn_store.specs.State.{StoreState}
use Rattle.dn_store.specs.Represents.{Represents}
use Rattle.dn_store.proofs.At.{at_same, at_other}
use Rattle.dn_owners.specs.Known.{knowing_nothing}
use Rattle.dn_beside.specs.Pool.{Pool, store_in}
use Rattle.dn_walks.specs.IndexStep.{IndexState, with_index, IsIndexStep}
use Rattle.dn_walks.specs.Changing.{Wants, KnowsWalk, KnowsStep}
use Rattle.dn_walks.specs.Alone.{Alone}
use Rattle.dn_walks.specs.Gives.{Gives, IsBetween, IsFullIndex, SetEnds, RemoveEnds}
use Rattle.dn_walks.proofs.Trails.{tracks_begun}
use Rattle.dn_walks.proofs.Seen.{index_of}
use Rattle.dn_walks.proofs.Changing.{IsFew, walk_goes}
use Rattle.dn_walks.proofs.Alone.{TurnAt, IsLone, alone_runs, alone_ends}

-- A walk that sets or removes, alone: as the walk of any lane's merger, over a pool of which nothing else is known.

abbrev pool_of : List ℕ → (ℕ → List ℕ) → StoreState → Pool
pool_of words chains s = record {
  words = words;
  chains = chains;
  owners = record { store = s; knows = λ n. knowing_nothing false; watch = None; promised = λ k. 0 };
}

-- ---- the index so far
record IsNow (p : Pool) (k : ℕ) (want : Option ℕ) (now : List ℕ) (i : IndexState) : Type 0 where
  words : i.words ≡ now
  represents : Represents i.words i.chains (store_in (with_index p i))
  own : (i.index k ≡ (store_in p).index k) ⊎ (i.index k ≡ want)
  others : (q : ℕ) → q ≢ k → i.index q ≡ (store_in p).index q

gives : (p : Pool) (k : ℕ) (want place : Option ℕ) (now : List ℕ) (i : IndexState) → IsNow p k want now i → i.index k ≡ place → Gives (store_in p) k place now
gives p k want place now i h e = record {
  chains = i.chains;
  index = i.index;
  bucket_count = i.bucket_count;
  takers = i.takers;
  represents = (let P : List ℕ → Type 0 = λ x. Represents x i.chains (store_in (with_index p i)) in subst P h.words h.represents);
  own = e;
  others = h.others;
}

between : (p : Pool) (k : ℕ) (want : Option ℕ) (now : List ℕ) (i : IndexState) → IsNow p k want now i → IsBetween (store_in p) k want now
between p k want now i h = elim h.own [
  | inl e ↦ inl (gives p k want ((store_in p).index k) now i h e)
  | inr e ↦ inr (gives p k want want now i h e)
]

now_on : (n k : ℕ) (want : Option ℕ) (p : Pool) (old now : List ℕ) (i j : IndexState) → IsNow p k want old i → IsIndexStep n k want (with_index p i) j → j.words ≡ now → IsNow p k want now j
now_on n k want p old now i j h u e = record {
  words = e;
  represents = u.represents;
  own = elim u.change [
    | inl f ↦ (let P : Option ℕ → Type 0 = λ x. (x ≡ (store_in p).index k) ⊎ (x ≡ want) in subst P (sym (ap (λ g. g k) f)) h.own)
    | inr f ↦ inr (ap (λ g. g k) f ∙ at_same i.index k want k refl)
  ];
  others = λ q d. elim u.change [
    | inl f ↦ ap (λ g. g q) f ∙ h.others q d
    | inr f ↦ ap (λ g. g q) f ∙ at_other i.index k want q d ∙ h.others q d
  ];
}

-- ---- until it stores, the words are what they were; so it adds to the counter only below the limit that it read
abbrev IsUnwritten : List ℕ → List ℕ → WalkPlace → Type 0
IsUnwritten words now (Key errand t number) = now ≡ words
IsUnwritten words now (Next errand t) = now ≡ words
IsUnwritten words now (Match errand s) = Unit {0}
IsUnwritten words now (Counter at last) = now ≡ words
IsUnwritten words now (Claim at last) = (now ≡ words) × (word_at words 3 < 4096)
IsUnwritten words now (FillPlace at s from) = Unit {0}
IsUnwritten words now (FillKey s from) = Unit {0}
IsUnwritten words now (Link last new) = Unit {0}

record IsFullAt (words : List ℕ) (want : Option ℕ) (now : List ℕ) (counter : ℕ) : Type 0 where
  read : counter ≡ word_at words 3
  limit : 4096 ≤ counter
  stays : now ≡ words
  wanted : want ≢ None

abbrev EndsUnwritten : List ℕ → Option ℕ → List ℕ → WalkTurn → Type 0
EndsUnwritten words want now More = Unit {0}
EndsUnwritten words want now (Found at) = Unit {0}
EndsUnwritten words want now Absent = Unit {0}
EndsUnwritten words want now Written = Unit {0}
EndsUnwritten words want now (IndexFull counter) = IsFullAt words want now counter

abbrev StaysUnwritten : List ℕ → Option ℕ → List ℕ → Step → Type 0
StaysUnwritten words want now (On place) = IsUnwritten words now place
StaysUnwritten words want now (End turn) = EndsUnwritten words want now turn

chosen : (words : List ℕ) (want : Option ℕ) (now : List ℕ) (x y : Step) (b : Bool) → StaysUnwritten words want now x → StaysUnwritten words want now y → StaysUnwritten words want now (if b then x else y)
chosen words want now x y true h g = h
chosen words want now x y false h g = g

end_unwritten : (words : List ℕ) (want : Option ℕ) (now : List ℕ) (errand : Errand) (b left : ℕ) (free : Option Spot) → now ≡ words → StaysUnwritten words want now (at_end errand (record { bucket = b; left = left; free = free }))
end_unwritten words want now Find b left free e = record {}
end_unwritten words want now (Set at) b left None e = e
end_unwritten words want now (Set at) b left (Some s) e = record {}
end_unwritten words want now Remove b left free e = record {}

given_some : (r : ℕ) → Some r ≡ None → ⊥
given_some r e = cc

counted_unwritten : (words : List ℕ) (want : Option ℕ) (now : List ℕ) (at : Ref) (last word : ℕ) (b : Bool) → nat_lt word 4096 ≡ b → now ≡ words → word ≡ word_at words 3 → want ≡ Some (ref_word at)
    → StaysUnwritten words want now (if b then On (Claim at last) else End (IndexFull word))
counted_unwritten words want now at last word true e s w g = (s, (let lt : word < 4096 = grind (arith, nat_tests) in omega (arith, lt, w)))
counted_unwritten words want now at last word false e s w g = record { read = w; limit = (let le : 4096 ≤ word = grind (arith, nat_tests) in le); stays = s; wanted = λ f. given_some (ref_word at) (sym g ∙ f) }

claimed_unwritten : (words : List ℕ) (want : Option ℕ) (now : List ℕ) (at : Ref) (s : Spot) (from : Option ℕ) (word : ℕ) (b : Bool) → nat_lt word 4096 ≡ b → word < 4096 → StaysUnwritten words want now (if b then On (FillPlace at s from) else End (IndexFull word))
claimed_unwritten words want now at s from word true e lt = record {}
claimed_unwritten words want now at s from word false e lt = absurd (let le : 4096 ≤ word = grind (arith, nat_tests) in omega (arith, le, lt))

unwritten : (words old : List ℕ) (n k : ℕ) (want : Option ℕ) (p : Pool) (place : WalkPlace) (word : ℕ) → KnowsWalk n k want p place → IsUnwritten words old place → word ≡ word_at old (at_of (next_at k place))
    → StaysUnwritten words want (words_after (next_at k place) old) (step_at k place word)
unwritten words old n k want p (Key errand t number) word a u e =
    let s : words_after (next_at k (Key errand t number)) old ≡ words = set-get_or old (bucket_at t.bucket number) 0 ∙ u in
    let now : List ℕ = words_after (next_at k (Key errand t number)) old in
    chosen words want now (On (Match errand (record { bucket = t.bucket; number = number }))) (past errand (noted t number word) number) (word == k) (record {})
    (chosen words want now (On (Next errand (noted t number word))) (On (Key errand (noted t number word) (number + 1))) (number == 3) s s)
unwritten words old n k want p (Next errand t) word a u e =
    let s : words_after (next_at k (Next errand t)) old ≡ words = set-get_or old (bucket_at t.bucket 7) 0 ∙ u in
    let now : List ℕ = words_after (next_at k (Next errand t)) old in
    let ended : StaysUnwritten words want now (at_end errand t) = end_unwritten words want now errand t.bucket t.left t.free s in
    chosen words want now (onward errand t word) (at_end errand t) (names_bucket word) (chosen words want now (at_end errand t) _ (t.left == 0) ended s) ended
unwritten words old n k want p (Match Find s) word a u e = absurd a.0
unwritten words old n k want p (Match (Set at) s) word a u e = record {}
unwritten words old n k want p (Match Remove s) word a u e = record {}
unwritten words old n k want p (Counter at last) word a u e =
    counted_unwritten words want (words_after (next_at k (Counter at last)) old) at last word (nat_lt word 4096) refl (set-get_or old 3 0 ∙ u) (e ∙ ap (λ x. word_at x 3) u) a.0
unwritten words old n k want p (Claim at last) word a u e =
    claimed_unwritten words want (words_after (next_at k (Claim at last)) old) at (record { bucket = 4096 + word; number = 1 }) (Some last) word (nat_lt word 4096) refl (let w = e ∙ ap (λ x. word_at x 3) u.0 in omega (arith, w, u.1))
unwritten words old n k want p (FillPlace at s from) word a u e = record {}
unwritten words old n k want p (FillKey s None) word a u e = record {}
unwritten words old n k want p (FillKey s (Some last)) word a u e = record {}
unwritten words old n k want p (Link last new) word a u e = record {}

few : (words now : List ℕ) (p : Pool) (i : IndexState) (place : WalkPlace) → Represents i.words i.chains (store_in (with_index p i)) → i.words ≡ now → IsUnwritten words now place → IsFew (with_index p i) place
few words now p i (Claim at last) h e u asks = let count = sym h.table.bucket_count ∙ ap (λ x. word_at x 3) (e ∙ u.0) in omega (arith, count, u.1)
few words now p i (Key errand t number) h e u asks = absurd (omega (arith, asks))
few words now p i (Next errand t) h e u asks = absurd (omega (arith, asks))
few words now p i (Match errand s) h e u asks = absurd (omega (arith, asks))
few words now p i (Counter at last) h e u asks = absurd (omega (arith, asks))
few words now p i (FillPlace at s from) h e u asks = absurd (omega (arith, asks))
few words now p i (FillKey s from) h e u asks = absurd (omega (arith, asks))
few words now p i (Link last new) h e u asks = absurd (omega (arith, asks))

-- ---- what it knows, and how it ends
record ChangeAt (p : Pool) (k : ℕ) (want : Option ℕ) (w : Walking) (now : List ℕ) : Type 0 where
  key : w.key ≡ k
  index : IndexState
  is : IsNow p w.key want now index
  knows : KnowsWalk 1 w.key want (with_index p index) w.place
  unwritten : IsUnwritten p.words now w.place

abbrev ChangeEnds : Pool → ℕ → Option ℕ → List ℕ → WalkTurn → Type 0
ChangeEnds p k want now More = ⊥
ChangeEnds p k want now (Found at) = ⊥
ChangeEnds p k want now Absent = ⊥
ChangeEnds p k want now Written = Gives (store_in p) k want now
ChangeEnds p k want now (IndexFull counter) = IsFullIndex p.words (store_in p) k now counter × (want ≢ None)

abbrev ChangeTurn : Pool → ℕ → Option ℕ → Walking → Step → List ℕ → Type 0
ChangeTurn p k want w step now = TurnAt (λ x. IsBetween (store_in p) k want x) (λ x answer. ChangeEnds p k want x answer) (λ v x. ChangeAt p k want v x) (turn_by (turn_of step) (after_of w step)) now

was_absent : (p : Pool) (k : ℕ) (want : Option ℕ) (now : List ℕ) (i : IndexState) → IsNow p k want now i → i.index k ≡ None → want ≢ None → (store_in p).index k ≡ None
was_absent p k want now i h e d = elim h.own [ inl f ↦ sym f ∙ e | inr f ↦ absurd (d (sym f ∙ e)) ]

ended : (p : Pool) (k : ℕ) (want : Option ℕ) (turn : WalkTurn) (now : List ℕ) (i : IndexState) → IsNow p k want now i → KnowsStep 1 k want (with_index p i) (End turn) → EndsUnwritten p.words want now turn → ChangeEnds p k want now turn
ended p k want More now i h a u = a
ended p k want (Found at) now i h a u = a
ended p k want Absent now i h a u = a
ended p k want Written now i h a u = gives p k want want now i h a
ended p k want (IndexFull counter) now i h a u = (record { read = u.read; limit = u.limit; stays = u.stays; absent = was_absent p k want now i h a u.wanted }, u.wanted)

over : (p : Pool) (k : ℕ) (want : Option ℕ) (w : Walking) (turn : WalkTurn) (now : List ℕ) → IsBetween (store_in p) k want now → ChangeEnds p k want now turn → ChangeTurn p k want w (End turn) now
over p k want w More now b a = absurd a
over p k want w (Found at) now b a = absurd a
over p k want w Absent now b a = absurd a
over p k want w Written now b a = (b, a)
over p k want w (IndexFull counter) now b a = (b, a)

change_turn : (p : Pool) (k : ℕ) (want : Option ℕ) (w : Walking) (step : Step) (now : List ℕ) (i : IndexState) → w.key ≡ k → IsNow p w.key want now i → KnowsStep 1 w.key want (with_index p i) step → StaysUnwritten p.words want now step
    → ChangeTurn p k want w step now
change_turn p k want w (On place) now i e h a u = record { key = e; index = i; is = h; knows = a; unwritten = u }
change_turn p k want w (End turn) now i e h a u =
    let P : ℕ → Type 0 = λ x. ChangeTurn p x want w (End turn) now in
    subst P e (over p w.key want w turn now (between p w.key want now i h) (ended p w.key want turn now i h a u))

change_lone : (p : Pool) (k : ℕ) (want : Option ℕ) → 0 < k → IsLone (λ x. IsBetween (store_in p) k want x) (λ x answer. ChangeEnds p k want x answer) (λ v x. ChangeAt p k want v x)
change_lone p k want pos = record {
  holds = λ w now g. (let P : ℕ → Type 0 = λ x. IsBetween (store_in p) x want now in subst P g.key (between p w.key want now g.index g.is));
  steps = λ w old g.
      let i : IndexState = g.index in
      let word : ℕ = word_at old (at_of (walk_next w)) in
      let now : List ℕ = words_after (walk_next w) old in
      let e : Performs (walk_next w) word i.words now = record { answer = ap (λ x. word_at x (at_of (walk_next w))) (sym g.is.words); change = ap (λ x. words_after (walk_next w) x) (sym g.is.words) } in
      let c = walk_goes 1 want (with_index p i) w word now (record { was = g.is.represents; lane = omega arith; key = omega (arith, pos, g.key) }) (few p.words old p i w.place g.is.represents g.is.words g.unwritten) g.knows e in
      change_turn p k want w (walk_step w word) now c.index g.key (now_on 1 w.key want p old now i c.index g.is c.is c.words) c.knows
      (unwritten p.words old 1 w.key want (with_index p i) w.place word g.knows g.unwritten refl);
}

change_alone : (p : Pool) (k : ℕ) (want : Option ℕ) (errand : Errand) (program : Program WalkTurn) → Represents p.words p.chains (store_in p) → 0 < k → Wants want errand → Runs walk_next walk_taken program (Goes (begun k (home_of k) errand))
    → Alone (λ x. IsBetween (store_in p) k want x) (λ x answer. ChangeEnds p k want x answer) program p.words
change_alone p k want errand program h pos a r =
    alone_runs (λ x. IsBetween (store_in p) k want x) (λ x answer. ChangeEnds p k want x answer) (λ v x. ChangeAt p k want v x) program (Goes (begun k (home_of k) errand)) p.words (change_lone p k want pos) r (record {
      key = refl;
      index = index_of p;
      is = record { words = refl; represents = h; own = inl refl; others = λ q d. refl };
      knows = (a, omega arith, tracks_begun p.words p.chains k, record {});
      unwritten = refl;
    })

-- ---- set
set_ends : (words : List ℕ) (chains : ℕ → List ℕ) (s : StoreState) (k : ℕ) (at : Ref) (now : List ℕ) (answer : WalkTurn) → ChangeEnds (pool_of words chains s) k (Some (ref_word at)) now answer → SetEnds words s k at now answer
set_ends words chains s k at now More h = h
set_ends words chains s k at now (Found place) h = h
set_ends words chains s k at now Absent h = h
set_ends words chains s k at now Written h = h
set_ends words chains s k at now (IndexFull counter) h = h.0

pub set_alone : (words : List ℕ) (chains : ℕ → List ℕ) (s : StoreState) (k : ℕ) (at : Ref) → Represents words chains s → 0 < k
    → Alone (λ x. IsBetween s k (Some (ref_word at)) x) (λ x answer. SetEnds words s k at x answer) (set_program k at) words
set_alone words chains s k at h pos =
    alone_ends (λ x. IsBetween s k (Some (ref_word at)) x) (λ x answer. ChangeEnds (pool_of words chains s) k (Some (ref_word at)) x answer) (λ x answer. SetEnds words s k at x answer) (set_program k at) words (set_ends words chains s k at)
    (change_alone (pool_of words chains s) k (Some (ref_word at)) (Set at) (set_program k at) h pos refl (set_run k at).runs)

-- ---- remove
remove_ends : (words : List ℕ) (chains : ℕ → List ℕ) (s : StoreState) (k : ℕ) (now : List ℕ) (answer : WalkTurn) → ChangeEnds (pool_of words chains s) k None now answer → RemoveEnds s k now answer
remove_ends words chains s k now More h = absurd h
remove_ends words chains s k now (Found place) h = absurd h
remove_ends words chains s k now Absent h = absurd h
remove_ends words chains s k now Written h = record { is = refl; none = h }
remove_ends words chains s k now (IndexFull counter) h = absurd (h.1 refl)

pub remove_alone : (words : List ℕ) (chains : ℕ → List ℕ) (s : StoreState) (k : ℕ) → Represents words chains s → 0 < k → Alone (λ x. IsBetween s k None x) (λ x answer. RemoveEnds s k x answer) (remove_program k) words
remove_alone words chains s k h pos =
    alone_ends (λ x. IsBetween s k None x) (λ x answer. ChangeEnds (pool_of words chains s) k None x answer) (λ x answer. RemoveEnds s k x answer) (remove_program k) words (remove_ends words chains s k)
    (change_alone (pool_of words chains s) k None Remove (remove_program k) h pos refl (remove_run k).runs)
