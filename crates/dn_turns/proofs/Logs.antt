use Rattle.std.proofs.Common.{ℕ, ◌+◌, ◌/◌, ◌<◌, ◌≤◌, ◌≡◌, ◌≢◌, ◌^◌, inl, inr, Bool, true, false, nat_eq, if◌then◌else◌, List, [], ◌∷◌, ◌++◌, Contains, Some, refl, sym, ◌∙◌, ap, subst, arith}
use Rattle.std.proofs.lemmas.Bool.Decides.{nat_tests}
use Rattle.std.proofs.lemmas.List.Elements.{Contains-append_right}
use Rattle.std.proofs.lemmas.Grind.{common_steps}
use Rattle.dn_word.specs.declared.packed.gate.Gate.{Gate}
use Rattle.dn_word.specs.Ref.{ref_of, ref_word}
use Rattle.dn_word.specs.declared.packed.place.Ref.{Ref}
use Rattle.dn_record.specs.Record.{length_in_words}
use Rattle.dn_model.specs.declared.logs.Placed.{Placed}
use Rattle.dn_model.specs.Regions.{gate, directory, place, offsets, IsLane}
use Rattle.dn_model.specs.Log.{Tiles, SpellsAt}
use Rattle.dn_model.specs.Held.{entry_at, record_at}
use Rattle.dn_model.proofs.LogLaws.{tiles_le, some_words}
use Rattle.dn_store.specs.Cut.{words_in, IsCut}
use Rattle.dn_owners.specs.Sound.{Rise, IsOrdered}
use Rattle.dn_owners.proofs.Logs.{nil_has, head_has, tail_has, cons_cases, rise_before, ordered}
use Rattle.dn_beside.specs.Pool.{Pool, store_in, IsWhole}
use Rattle.dn_beside.specs.Grown.{Grows}
use Rattle.dn_turns.specs.Knows.{Works}

-- The record at a mark.

-- ---- the records of a log behind so many words
tiles_at : (w : ℕ → ℕ) (o end : ℕ) (before after : List Placed) → Tiles w o (before ++ after) end → Tiles w (o + words_in before) after end
tiles_at w o end [] after t = let P : ℕ → Type 0 = λ x. Tiles w x after end in subst P (let z : o ≡ o + 0 = omega arith in z) t
tiles_at w o end (p ∷ ps) after t =
    let P : ℕ → Type 0 = λ x. Tiles w x after end in
    subst P (let z : o + length_in_words p.entry + words_in ps ≡ o + (length_in_words p.entry + words_in ps) = omega arith in z) (tiles_at w (o + length_in_words p.entry) end ps after t.2)

tiled_from : (w : ℕ → ℕ) (o end : ℕ) (log : List Placed) (q : Placed) → Tiles w o log end → Contains log q → o ≤ q.offset
tiled_from w o end [] q t c = absurd (nil_has q c)
tiled_from w o end (x ∷ xs) q t c = elim (cons_cases x xs q c) [
  | inl e ↦ omega (arith, ap (λ (y : Placed). y.offset) e, t.0)
  | inr d ↦ (let r : o + length_in_words x.entry ≤ q.offset = tiled_from w (o + length_in_words x.entry) end xs q t.2 d in omega (arith, r))
]

-- of lane n's sealed log
marked_tiles : (n : ℕ) (p : Pool) (mark : ℕ) (before after : List Placed) → IsWhole p → IsLane n → (store_in p).logs n ≡ before ++ after → words_in before ≡ mark
    → Tiles (offsets p.words n) mark after ((store_in p).gates n).len
marked_tiles n p mark before after h l e m =
    let t = (h.represents.reads.logs_are n l).tiled in
    let P : List Placed → Type 0 = λ x. Tiles (offsets p.words n) 0 x (gate p.words n).len in
    let Q : ℕ → Type 0 = λ x. Tiles (offsets p.words n) mark after x in
    let R : ℕ → Type 0 = λ x. Tiles (offsets p.words n) x after (gate p.words n).len in
    subst Q (ap (λ (g : Gate). g.len) (h.represents.table.gates n l.below))
    (subst R (let z : 0 + words_in before ≡ mark = omega (arith, m) in z) (tiles_at (offsets p.words n) 0 (gate p.words n).len before after (subst P e t)))

-- what stands at the mark, below the length
pub record_here : (n : ℕ) (p : Pool) (mark : ℕ) → IsWhole p → IsLane n → (store_in p).marks n ≡ mark → mark ≢ ((store_in p).gates n).len → Works n p mark
record_here n p mark h l is ne = by_after c.after refl where
  c : IsCut ((store_in p).logs n) ((store_in p).marks n)
  c = h.represents.merged n

  by_after : (after : List Placed) → c.after ≡ after → Works n p mark
  by_after [] e = absurd (ne (marked_tiles n p mark c.before [] h l (c.whole ∙ ap (λ x. c.before ++ x) e) (c.words ∙ is)))
  by_after (x ∷ xs) e =
      let i : (store_in p).logs n ≡ c.before ++ x ∷ xs = c.whole ∙ ap (λ y. c.before ++ y) e in
      record {
        mark_is = is;
        of = x;
        before = c.before;
        after = xs;
        log = i;
        merged = c.words ∙ is;
        at = (marked_tiles n p mark c.before (x ∷ xs) h l i (c.words ∙ is)).0;
      }

-- it is spelled there, and the next one begins behind it
pub record IsSpelled (n : ℕ) (p : Pool) (mark : ℕ) (of : Placed) (after : List Placed) : Type 0 where
  pub spelled : SpellsAt (offsets p.words n) mark of.entry
  pub inside : mark + length_in_words of.entry ≤ ((store_in p).gates n).len
  pub past : of.offset < mark + length_in_words of.entry
  pub rest : (q : Placed) → Contains after q → mark + length_in_words of.entry ≤ q.offset

pub spelled : (n : ℕ) (p : Pool) (mark : ℕ) → IsWhole p → IsLane n → (w : Works n p mark) → IsSpelled n p mark w.of w.after
spelled n p mark h l w =
    let len : ℕ = ((store_in p).gates n).len in
    let t : Tiles (offsets p.words n) mark (w.of ∷ w.after) len = marked_tiles n p mark w.before (w.of ∷ w.after) h l w.log w.merged in
    record {
      spelled = t.1;
      inside = tiles_le (offsets p.words n) (mark + length_in_words w.of.entry) len w.after t.2;
      past = omega (arith, some_words w.of.entry t.1.is_record, w.at);
      rest = λ q c. tiled_from (offsets p.words n) (mark + length_in_words w.of.entry) len w.after q t.2 c;
    }

pub works_has : (n : ℕ) (p : Pool) (mark : ℕ) → (w : Works n p mark) → Contains ((store_in p).logs n) w.of
works_has n p mark w = let P : List Placed → Type 0 = λ x. Contains x w.of in subst P (sym w.log) (Contains-append_right w.before (w.of ∷ w.after) w.of (head_has w.of w.after))

-- below the log's length
pub mark_below : (n : ℕ) (p : Pool) (mark : ℕ) → IsWhole p → Works n p mark → mark < ((store_in p).gates n).len
mark_below n p mark h w = omega (arith, (ordered p.words p.chains (store_in p) h.represents).below n w.of (works_has n p mark w), w.at)

-- ---- the place of the record leads to it
entry_in : (o : ℕ) (before after : List Placed) (p : Placed) → ((q : Placed) → Contains before q → q.offset ≢ o) → p.offset ≡ o → entry_at o (before ++ p ∷ after) ≡ Some p.entry
entry_in o [] after p d e = by_test (nat_eq p.offset o) refl where
  by_test : (b : Bool) → nat_eq p.offset o ≡ b → (if b then Some p.entry else entry_at o after) ≡ Some p.entry
  by_test true f = refl
  by_test false f = absurd (grind (arith, nat_tests))
entry_in o (q ∷ qs) after p d e = by_test (nat_eq q.offset o) refl (entry_in o qs after p (λ x c. d x (tail_has q qs x c)) e) where
  by_test : (b : Bool) → nat_eq q.offset o ≡ b → entry_at o (qs ++ p ∷ after) ≡ Some p.entry → (if b then Some q.entry else entry_at o (qs ++ p ∷ after)) ≡ Some p.entry
  by_test true f r = absurd (d q (head_has q qs) (let z : q.offset ≡ o = grind (arith, nat_tests) in z))
  by_test false f r = r

ref_again : (at : Ref) → at.lane < 2 ^ 8 → at.offset < 2 ^ 24 → at.lane + at.offset ≢ 0 → ref_of (ref_word at) ≡ Some at
ref_again at l o n = grind (arith, common_steps)

pub leads_there : (n : ℕ) (p : Pool) (mark : ℕ) → IsWhole p → IsLane n → (w : Works n p mark) → record_at (store_in p).logs (ref_of (ref_word (record { lane = n; offset = mark }))) ≡ Some w.of.entry
leads_there n p mark h l w =
    let order : IsOrdered (store_in p).logs (store_in p).gates (store_in p).marks = ordered p.words p.chains (store_in p) h.represents in
    let P : List Placed → Type 0 = λ x. Rise 0 x in
    let rise = subst P w.log (order.rise n) in
    let lt : mark < (gate p.words n).len = omega (arith, mark_below n p mark h w, ap (λ (g : Gate). g.len) (h.represents.table.gates n l.below)) in
    let covered = (h.represents.reads.logs_are n l).covered mark lt in
    ap (λ x. record_at (store_in p).logs x) (ref_again (record { lane = n; offset = mark }) (omega (arith, l.below)) (omega (arith, covered.0)) (omega (arith, l.positive)))
    ∙ ap (λ x. entry_at mark x) w.log ∙ entry_in mark w.before w.after w.of (λ q c f. absurd (omega (arith, rise_before 0 w.before w.after w.of q rise c, w.at, f))) w.at

-- ---- it stays where it is
pub place_lasts : (n : ℕ) (p q : Pool) (mark : ℕ) → IsWhole p → IsLane n → Grows p q → Works n p mark → place q.words n mark ≡ place p.words n mark
place_lasts n p q mark h l g w =
    let d : directory q.words n (mark / 1024) ≡ directory p.words n (mark / 1024) = g.named n (mark / 1024) l (omega (arith, mark_below n p mark h w)) in
    omega (arith, d)
