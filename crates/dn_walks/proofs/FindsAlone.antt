use Rattle.std.proofs.Common.{ℕ, ◌^◌, ◌+◌, ◌<◌, ◌≡◌, ◌≢◌, inl, inr, List, Some, refl, sym, ◌∙◌, ap, arith}
use Rattle.std.proofs.lemmas.Grind.{common_steps}
use Rattle.dn_word.specs.Ref.{ref_word}
use Rattle.dn_word.specs.declared.packed.place.Ref.{Ref}
use Rattle.dn_act.specs.Action.{at_of, words_after, Performs}
use Rattle.dn_act.specs.Words.{word_at}
use Rattle.dn_model.specs.Program.{Goes}
use Rattle.dn_model.specs.Regions.{home_of}
use Rattle.dn_index.specs.declared.places.Errand.TheVariants.{Find}
use Rattle.dn_index.specs.declared.places.WalkTurn.TheVariants.{More, Found, Absent, Written, IndexFull}
use Rattle.dn_index.specs.declared.places.Step.{Step}
use Rattle.dn_index.specs.declared.places.Step.TheVariants.{On, End}
use Rattle.dn_index.specs.Walk.{Walking, begun, walk_next, walk_step, turn_of, after_of, found}
use Rattle.dn_index.specs.Sequence.{turn_by, find_program}
use Rattle.dn_index.proofs.SequenceLaws.{find_run}
use Rattle.dn_store.specs.State.{StoreState}
use Rattle.dn_store.specs.Represents.{Represents}
use Rattle.dn_walks.specs.Finding.{KnowsFind, KnowsFound}
use Rattle.dn_walks.specs.Alone.{Alone}
use Rattle.dn_walks.specs.Gives.{told}
use Rattle.dn_walks.proofs.Trails.{tracks_begun}
use Rattle.dn_walks.proofs.Finding.{find_steps, find_loads}
use Rattle.dn_walks.proofs.Alone.{TurnAt, IsLone, alone_runs}

-- A walk that finds, alone: it knows what it knows beside others, and that the words stay.

record FindAt (words : List ℕ) (chains : ℕ → List ℕ) (k : ℕ) (w : Walking) (now : List ℕ) : Type 0 where
  key : w.key ≡ k
  stays : now ≡ words
  knows : KnowsFind words chains w.key w.place

abbrev FindTurn : List ℕ → (ℕ → List ℕ) → StoreState → ℕ → Walking → Step → List ℕ → Type 0
FindTurn words chains s k w step now = TurnAt (λ x. x ≡ words) (λ x answer. answer ≡ told (s.index k)) (λ v x. FindAt words chains k v x) (turn_by (turn_of step) (after_of w step)) now

find_turn : (words : List ℕ) (chains : ℕ → List ℕ) (s : StoreState) (k : ℕ) (w : Walking) (step : Step) (now : List ℕ) → w.key ≡ k → now ≡ words → KnowsFound words chains s.index w.key step → FindTurn words chains s k w step now
find_turn words chains s k w (On place) now e z a = record { key = e; stays = z; knows = a }
find_turn words chains s k w (End More) now e z a = absurd a
find_turn words chains s k w (End (Found at)) now e z a = (z, sym (ap (λ x. told (s.index x)) (sym e) ∙ ap (λ x. told x) a.1 ∙ ap (λ x. found x) a.2))
find_turn words chains s k w (End Absent) now e z (inl f) = (z, sym (ap (λ x. told (s.index x)) (sym e) ∙ ap (λ x. told x) f))
find_turn words chains s k w (End Absent) now e z (inr a) = (z, sym (ap (λ x. told (s.index x)) (sym e) ∙ ap (λ x. told x) a.1 ∙ ap (λ x. found x) a.2))
find_turn words chains s k w (End Written) now e z a = absurd a
find_turn words chains s k w (End (IndexFull counter)) now e z a = absurd a

find_lone : (words : List ℕ) (chains : ℕ → List ℕ) (s : StoreState) (k : ℕ) → Represents words chains s → 0 < k → IsLone (λ x. x ≡ words) (λ x answer. answer ≡ told (s.index k)) (λ v x. FindAt words chains k v x)
find_lone words chains s k h pos = record {
  holds = λ w now g. g.stays;
  steps = λ w now g.
      let word : ℕ = word_at now (at_of (walk_next w)) in
      let was : word ≡ word_at words (at_of (walk_next w)) = ap (λ x. word_at x (at_of (walk_next w))) g.stays in
      let p : Performs (walk_next w) word words (words_after (walk_next w) now) = record { answer = was; change = ap (λ x. words_after (walk_next w) x) g.stays } in
      find_turn words chains s k w (walk_step w word) (words_after (walk_next w) now) g.key
      (find_loads words (words_after (walk_next w) now) chains w.key w.place word g.knows p)
      (find_steps words chains s w.key w.place word h (omega (arith, pos, g.key)) g.knows was);
}

pub find_alone : (words : List ℕ) (chains : ℕ → List ℕ) (s : StoreState) (k : ℕ) → Represents words chains s → 0 < k → Alone (λ x. x ≡ words) (λ x answer. answer ≡ told (s.index k)) (find_program k) words
find_alone words chains s k h pos =
    alone_runs (λ x. x ≡ words) (λ x answer. answer ≡ told (s.index k)) (λ v x. FindAt words chains k v x) (find_program k) (Goes (begun k (home_of k) Find)) words (find_lone words chains s k h pos) (find_run k).runs
    (record { key = refl; stays = refl; knows = (record {}, omega arith, tracks_begun words chains k) })

-- the word of a place is read as that place
pub told_again : (at : Ref) → at.lane < 2 ^ 8 → at.offset < 2 ^ 24 → at.lane + at.offset ≢ 0 → told (Some (ref_word at)) ≡ Found at
told_again at l o n = grind (arith, common_steps)
