use Rattle.std.proofs.Common.{ℕ, suc, ◌+◌, ◌==◌, ◌≡◌, Bool, true, false, if◌then◌else◌, List, Option, Some, None, refl, sym, ◌∙◌, ap, subst, arith}
use Rattle.std.proofs.lemmas.Bool.Decides.{nat_tests}
use Rattle.std.proofs.lemmas.List.{set-get_or}
use Rattle.dn_word.specs.Gate.{gate_of}
use Rattle.dn_act.specs.Action.{at_of, words_after}
use Rattle.dn_act.specs.Words.{word_at}
use Rattle.dn_record.specs.Head.{head_words}
use Rattle.dn_record.specs.Reading.{head_in}
use Rattle.dn_record.specs.declared.heads.Head.{Head}
use Rattle.dn_model.specs.Regions.{gate_at, mark_at}
use Rattle.dn_index.specs.Walk.{Walking, walk_turn, walk_after}
use Rattle.dn_index.specs.declared.places.WalkTurn.{WalkTurn}
use Rattle.dn_index.specs.declared.places.WalkTurn.TheVariants as turn
use Rattle.dn_merge.specs.Merge.{ended, on, change_of, marked, by_change, headed, walked, next_in, step_in}
use Rattle.dn_merge.specs.declared.places.Change.{Change}
use Rattle.dn_merge.specs.declared.places.MergePlace.{MergePlace}
use Rattle.dn_merge.specs.declared.places.MergePlace.TheVariants as at
use Rattle.dn_merge.specs.declared.mergers.MergeTurn.{MergeTurn}
use Rattle.dn_merge.specs.declared.mergers.MergeTurn.TheVariants.{More, Idle, IndexFull}
use Rattle.dn_drain.specs.Alone.{Alone, found_by, answer_by, step_by, run_by}
use Rattle.dn_drain.specs.Ends.{HasLoaded}

-- A merger that answers that all is merged has loaded gate and mark one behind the other.

-- ---- where an answer comes from
idle_same : (a b c d : ℕ) → (let t : MergeTurn = Idle a b in t) ≡ Idle c d → (a ≡ c) × (b ≡ d)
idle_same a b c d e = (cc, cc)

more_idle : (gate mark : ℕ) → (let t : MergeTurn = More in t) ≡ Idle gate mark → ⊥
more_idle gate mark e = absurd (cc e)

full_idle : (counter gate mark : ℕ) → (let t : MergeTurn = IndexFull counter in t) ≡ Idle gate mark → ⊥
full_idle counter gate mark e = absurd (cc e)

-- at the mark, with this gate
pub record IsIdleAt (lane word : ℕ) (place : MergePlace) (gate mark : ℕ) : Type 0 where
  pub is_at : place ≡ at.Mark gate
  pub found : word ≡ mark
  pub all : (gate_of gate).len ≡ mark

equal : (a b : ℕ) → (a == b) ≡ true → a ≡ b
equal a b e = grind (arith, nat_tests)

marked_idle : (lane loaded word gate mark : ℕ) → (marked loaded word).turn ≡ Idle gate mark → IsIdleAt lane word (at.Mark loaded) gate mark
marked_idle lane loaded word gate mark = by_len ((gate_of loaded).len == word) refl where
  by_len : (b : Bool) → ((gate_of loaded).len == word) ≡ b → (if b then ended (Idle loaded word) else on (at.Directory word)).turn ≡ Idle gate mark → IsIdleAt lane word (at.Mark loaded) gate mark
  by_len true f e =
      let s : (loaded ≡ gate) × (word ≡ mark) = idle_same loaded word gate mark e in
      record { is_at = ap (λ x. let q : MergePlace = at.Mark x in q) s.0; found = s.1; all = ap (λ x. (gate_of x).len) (sym s.0) ∙ equal (gate_of loaded).len word f ∙ s.1 }
  by_len false f e = absurd (more_idle gate mark e)

headed_idle : (mark from : ℕ) (gate to : ℕ) (head : Option Head) → (headed mark from head).turn ≡ Idle gate to → ⊥
headed_idle mark from gate to None e = more_idle gate to e
headed_idle mark from gate to (Some found) e = by_kind (change_of found) e where
  by_kind : (change : Option Change) → (by_change mark from (mark + head_words found) change).turn ≡ Idle gate to → ⊥
  by_kind None f = more_idle gate to f
  by_kind (Some change) f = more_idle gate to f

walked_idle : (to gate mark : ℕ) (t : WalkTurn) (w : Walking) → (walked to t w).turn ≡ Idle gate mark → ⊥
walked_idle to gate mark turn.More w e = more_idle gate mark e
walked_idle to gate mark (turn.Found x) w e = more_idle gate mark e
walked_idle to gate mark turn.Absent w e = more_idle gate mark e
walked_idle to gate mark turn.Written w e = more_idle gate mark e
walked_idle to gate mark (turn.IndexFull counter) w e = full_idle counter gate mark e

idle_at : (lane word : ℕ) (place : MergePlace) (gate mark : ℕ) → (step_in lane word place).turn ≡ Idle gate mark → IsIdleAt lane word place gate mark
idle_at lane word at.Gate gate mark e = absurd (more_idle gate mark e)
idle_at lane word (at.Mark loaded) gate mark e = marked_idle lane loaded word gate mark e
idle_at lane word (at.Directory m) gate mark e = absurd (more_idle gate mark e)
idle_at lane word (at.Header m from) gate mark e = absurd (headed_idle m from gate mark (head_in word) e)
idle_at lane word (at.Key m from to change) gate mark e = absurd (more_idle gate mark e)
idle_at lane word (at.Walk to w) gate mark e = absurd (walked_idle to gate mark (walk_turn w word) (walk_after w word) e)
idle_at lane word (at.Pass to) gate mark e = absurd (more_idle gate mark e)

-- ---- and what comes before it
mark_same : (a b : ℕ) → (let q : MergePlace = at.Mark a in q) ≡ at.Mark b → a ≡ b
mark_same a b e = cc

gate_mark : (b : ℕ) → (let q : MergePlace = at.Gate in q) ≡ at.Mark b → ⊥
gate_mark b e = absurd (cc e)

pass_mark : (to b : ℕ) → (let q : MergePlace = at.Pass to in q) ≡ at.Mark b → ⊥
pass_mark to b e = absurd (cc e)

marked_on : (loaded word gate : ℕ) → (marked loaded word).place ≡ at.Mark gate → ⊥
marked_on loaded word gate = by_len ((gate_of loaded).len == word) where
  by_len : (b : Bool) → (if b then ended (Idle loaded word) else on (at.Directory word)).place ≡ at.Mark gate → ⊥
  by_len true e = gate_mark gate e
  by_len false e = absurd (cc e)

headed_on : (mark from gate : ℕ) (head : Option Head) → (headed mark from head).place ≡ at.Mark gate → ⊥
headed_on mark from gate None e = gate_mark gate e
headed_on mark from gate (Some found) e = by_kind (change_of found) e where
  by_kind : (change : Option Change) → (by_change mark from (mark + head_words found) change).place ≡ at.Mark gate → ⊥
  by_kind None f = pass_mark (mark + head_words found) gate f
  by_kind (Some change) f = absurd (cc f)

walked_on : (to gate : ℕ) (t : WalkTurn) (w : Walking) → (walked to t w).place ≡ at.Mark gate → ⊥
walked_on to gate turn.More w e = absurd (cc e)
walked_on to gate (turn.Found x) w e = pass_mark to gate e
walked_on to gate turn.Absent w e = pass_mark to gate e
walked_on to gate turn.Written w e = pass_mark to gate e
walked_on to gate (turn.IndexFull counter) w e = gate_mark gate e

pub record IsLoading (word : ℕ) (place : MergePlace) (gate : ℕ) : Type 0 where
  pub is_at : place ≡ at.Gate
  pub found : word ≡ gate

loading : (lane word : ℕ) (place : MergePlace) (gate : ℕ) → (step_in lane word place).place ≡ at.Mark gate → IsLoading word place gate
loading lane word at.Gate gate e = record { is_at = refl; found = mark_same word gate e }
loading lane word (at.Mark loaded) gate e = absurd (marked_on loaded word gate e)
loading lane word (at.Directory m) gate e = absurd (cc e)
loading lane word (at.Header m from) gate e = absurd (headed_on m from gate (head_in word) e)
loading lane word (at.Key m from to change) gate e = absurd (cc e)
loading lane word (at.Walk to w) gate e = absurd (walked_on to gate (walk_turn w word) (walk_after w word) e)
loading lane word (at.Pass to) gate e = absurd (gate_mark gate e)

-- ---- so one that isn't the first of a drain ends it
pub fresh : (a : Alone) (j gate mark : ℕ) → answer_by (run_by a (suc j)) ≡ Idle gate mark → HasLoaded a (suc j) gate
fresh a j gate mark e =
    let b : Alone = run_by a j in
    let now : Alone = step_by b in
    let i : IsIdleAt now.merger.lane (found_by now) now.merger.place gate mark = idle_at now.merger.lane (found_by now) now.merger.place gate mark e in
    let l : IsLoading (found_by b) b.merger.place gate = loading b.merger.lane (found_by b) b.merger.place gate i.is_at in
    record { before = j; last = omega arith; begins = l.is_at; found = l.found }

-- ---- the words
load_still : (words : List ℕ) (lane : ℕ) (place : MergePlace) (gate : ℕ) → place ≡ at.Mark gate → (words_after (next_in lane place) words ≡ words) × (word_at words (at_of (next_in lane place)) ≡ word_at words (mark_at lane))
load_still words lane place gate e =
    let P : MergePlace → Type 0 = λ q. (words_after (next_in lane q) words ≡ words) × (word_at words (at_of (next_in lane q)) ≡ word_at words (mark_at lane)) in
    subst P (sym e) (set-get_or words (mark_at lane) 0, refl)

gate_still : (words : List ℕ) (lane : ℕ) (place : MergePlace) → place ≡ at.Gate → (words_after (next_in lane place) words ≡ words) × (word_at words (at_of (next_in lane place)) ≡ word_at words (gate_at lane))
gate_still words lane place e =
    let P : MergePlace → Type 0 = λ q. (words_after (next_in lane q) words ≡ words) × (word_at words (at_of (next_in lane q)) ≡ word_at words (gate_at lane)) in
    subst P (sym e) (set-get_or words (gate_at lane) 0, refl)

-- the words of gate and mark are those that it has loaded
pub record AreLoaded (words : List ℕ) (lane gate mark : ℕ) : Type 0 where
  pub gate_is : word_at words (gate_at lane) ≡ gate
  pub mark_is : word_at words (mark_at lane) ≡ mark
  pub all : (gate_of gate).len ≡ mark

pub loaded : (a : Alone) (k gate mark : ℕ) → HasLoaded a k gate → answer_by (run_by a k) ≡ Idle gate mark → AreLoaded (step_by (run_by a k)).words (run_by a k).merger.lane gate mark
loaded a k gate mark h e = by_last h.before h.last h.begins h.found where
  by_last : (j : ℕ) → j + 1 ≡ k → (run_by a j).merger.place ≡ at.Gate → found_by (run_by a j) ≡ gate → AreLoaded (step_by (run_by a k)).words (run_by a k).merger.lane gate mark
  by_last j last begins found =
      let P : ℕ → Type 0 = λ i. answer_by (run_by a i) ≡ Idle gate mark → AreLoaded (step_by (run_by a i)).words (run_by a i).merger.lane gate mark in
      subst P (let z : suc j ≡ k = omega (arith, last) in z) (here j begins found) e
    where
      here : (j : ℕ) → (run_by a j).merger.place ≡ at.Gate → found_by (run_by a j) ≡ gate → answer_by (run_by a (suc j)) ≡ Idle gate mark → AreLoaded (step_by (run_by a (suc j))).words (run_by a (suc j)).merger.lane gate mark
      here j begins found e =
          let b : Alone = run_by a j in
          let now : Alone = step_by b in
          let i : IsIdleAt now.merger.lane (found_by now) now.merger.place gate mark = idle_at now.merger.lane (found_by now) now.merger.place gate mark e in
          let g = gate_still b.words b.merger.lane b.merger.place begins in
          let m = load_still now.words now.merger.lane now.merger.place gate i.is_at in
          record {
            gate_is = ap (λ ws. word_at ws (gate_at b.merger.lane)) (m.0 ∙ g.0) ∙ sym g.1 ∙ found;
            mark_is = ap (λ ws. word_at ws (mark_at b.merger.lane)) m.0 ∙ sym m.1 ∙ i.found;
            all = i.all;
          }
