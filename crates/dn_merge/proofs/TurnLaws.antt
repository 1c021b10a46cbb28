use Rattle.std.proofs.Common.{◌≡◌, ℕ, ◌+◌, ◌==◌, Option, Some, None, Bool, true, false, if◌then◌else◌, refl, ap, subst}
use Rattle.dn_word.specs.Gate.{gate_of}
use Rattle.dn_record.specs.Head.{head_words}
use Rattle.dn_record.specs.Reading.{head_in}
use Rattle.dn_record.specs.declared.heads.Head.{Head}
use Rattle.dn_index.specs.Walk.{Walking, walk_turn, walk_after}
use Rattle.dn_index.specs.declared.places.WalkTurn.{WalkTurn}
use Rattle.dn_index.specs.declared.places.WalkTurn.TheVariants as walk
use Rattle.dn_merge.specs.Merge.{ended, on, marked, change_of, by_change, headed, walked, step_in, EndsTurn}
use Rattle.dn_merge.specs.declared.places.Change.{Change}
use Rattle.dn_merge.specs.declared.places.MergePlace.{MergePlace}
use Rattle.dn_merge.specs.declared.places.MergePlace.TheVariants as at
use Rattle.dn_merge.specs.declared.mergers.MergeTurn.TheVariants.{Idle}
use Rattle.dn_merge.specs.declared.steps.MergeStep.{MergeStep}

marked_begins : (gate mark : ℕ) (same : Bool) (step : MergeStep) → step ≡ (if same then ended (Idle gate mark) else on (at.Directory mark))
    → EndsTurn step.turn (at.Mark gate) → step.place ≡ at.Gate
marked_begins gate mark true step e h = ap (λ (s : MergeStep). s.place) e
marked_begins gate mark false step e h =
    let P : MergeStep → Type 0 = λ s. EndsTurn s.turn (at.Mark gate) in
    absurd (subst P e h)

change_begins : (mark from to : ℕ) (change : Option Change) → EndsTurn (by_change mark from to change).turn (at.Header mark from) → (by_change mark from to change).place ≡ at.Gate
change_begins mark from to None h = absurd h
change_begins mark from to (Some change) h = absurd h

header_begins : (mark from : ℕ) (found : Option Head) → EndsTurn (headed mark from found).turn (at.Header mark from) → (headed mark from found).place ≡ at.Gate
header_begins mark from None h = refl
header_begins mark from (Some found) h = change_begins mark from (mark + head_words found) (change_of found) h

walk_begins : (to : ℕ) (turn : WalkTurn) (now w : Walking) → EndsTurn (walked to turn w).turn (at.Walk to now) → (walked to turn w).place ≡ at.Gate
walk_begins to walk.More now w h = absurd h
walk_begins to (walk.Found place) now w h = absurd h
walk_begins to walk.Absent now w h = absurd h
walk_begins to walk.Written now w h = absurd h
walk_begins to (walk.IndexFull counter) now w h = refl

-- a step that ends the turn comes to the beginning of the next one
pub step_begins : (lane word : ℕ) (place : MergePlace) → EndsTurn (step_in lane word place).turn place → (step_in lane word place).place ≡ at.Gate
step_begins lane word at.Gate h = absurd h
step_begins lane word (at.Mark gate) h = marked_begins gate word ((gate_of gate).len == word) (marked gate word) refl h
step_begins lane word (at.Directory mark) h = absurd h
step_begins lane word (at.Header mark from) h = header_begins mark from (head_in word) h
step_begins lane word (at.Key mark from to change) h = absurd h
step_begins lane word (at.Walk to w) h = walk_begins to (walk_turn w word) w (walk_after w word) h
step_begins lane word (at.Pass to) h = refl
