use Rattle.std.proofs.Common.{ℕ, ◌+◌, ◌<◌, ◌≤◌, ◌≡◌, ◌⊎◌, inl, inr, List, [], ◌∷◌, ◌++◌, Contains, refl, sym, ◌∙◌, ap, subst, arith}
use Rattle.std.proofs.lemmas.List.Elements.{Contains-append_left, Contains-append_right, Contains-append_cases, Contains-push, Contains-push_cases}
use Rattle.dn_word.specs.declared.packed.gate.Gate.{Gate}
use Rattle.dn_record.specs.Record.{length_in_words}
use Rattle.dn_model.specs.declared.logs.Placed.{Placed}
use Rattle.dn_model.specs.Regions.{gate, offsets, IsLane}
use Rattle.dn_model.specs.Log.{Tiles}
use Rattle.dn_model.proofs.LogLaws.{some_words, tiles_le}
use Rattle.dn_model.proofs.MapLaws.{lane_or_not}
use Rattle.dn_store.specs.State.{StoreState}
use Rattle.dn_store.specs.Cut.{words_in}
use Rattle.dn_store.specs.Represents.{Represents}
use Rattle.dn_store.proofs.Same.{merged_within}
use Rattle.dn_owners.specs.Sound.{Rise, IsOrdered}

-- ---- what a list has
pub nil_has : {X : Type 0} (s : X) → Contains [] s → ⊥
nil_has s c = absurd (omega (arith, c.1))

pub head_has : {X : Type 0} (x : X) (xs : List X) → Contains (x ∷ xs) x
head_has x xs = Contains-append_left (x ∷ []) xs x (Contains-push [] x)

pub tail_has : {X : Type 0} (x : X) (xs : List X) (s : X) → Contains xs s → Contains (x ∷ xs) s
tail_has x xs s c = Contains-append_right (x ∷ []) xs s c

pub cons_cases : {X : Type 0} (x : X) (xs : List X) (s : X) → Contains (x ∷ xs) s → (x ≡ s) ⊎ Contains xs s
cons_cases x xs s c = elim (Contains-append_cases (x ∷ []) xs s c) [
  | inl i ↦ elim (Contains-push_cases [] x s i) [ inl j ↦ absurd (nil_has s j) | inr e ↦ inl e ]
  | inr j ↦ inr j
]

-- ---- offsets that rise
pub rise_from : (a : ℕ) (log : List Placed) (p : Placed) → Rise a log → Contains log p → a ≤ p.offset
rise_from a [] p r c = absurd (nil_has p c)
rise_from a (x ∷ xs) p r c = elim (cons_cases x xs p c) [
  | inl e ↦ omega (arith, ap (λ (q : Placed). q.offset) e, r.0)
  | inr d ↦ (let le : x.offset + 1 ≤ p.offset = rise_from (x.offset + 1) xs p r.1 d in omega (arith, le, r.0))
]

pub rise_low : (a b : ℕ) (log : List Placed) → b ≤ a → Rise a log → Rise b log
rise_low a b [] le r = tt
rise_low a b (x ∷ xs) le r = (omega (arith, le, r.0), r.1)

pub rise_before : (a : ℕ) (before after : List Placed) (p q : Placed) → Rise a (before ++ p ∷ after) → Contains before q → q.offset < p.offset
rise_before a [] after p q r c = absurd (nil_has q c)
rise_before a (x ∷ xs) after p q r c = elim (cons_cases x xs q c) [
  | inl e ↦ (
      let le : x.offset + 1 ≤ p.offset = rise_from (x.offset + 1) (xs ++ p ∷ after) p r.1 (Contains-append_right xs (p ∷ after) p (head_has p after)) in
      omega (arith, le, ap (λ (y : Placed). y.offset) e))
  | inr d ↦ rise_before (x.offset + 1) xs after p q r.1 d
]

-- ---- records that tile a log stand in order
tiled_rise : (w : ℕ → ℕ) (o end : ℕ) (log : List Placed) → Tiles w o log end → Rise o log
tiled_rise w o end [] h = tt
tiled_rise w o end (p ∷ ps) h = (
  omega (arith, h.0),
  rise_low (o + length_in_words p.entry) (p.offset + 1) ps (omega (arith, h.0, some_words p.entry h.1.is_record)) (tiled_rise w (o + length_in_words p.entry) end ps h.2),
)

tiled_below : (w : ℕ → ℕ) (o end : ℕ) (log : List Placed) (p : Placed) → Tiles w o log end → Contains log p → p.offset < end
tiled_below w o end [] p h c = absurd (nil_has p c)
tiled_below w o end (x ∷ xs) p h c = elim (cons_cases x xs p c) [
  | inl e ↦ omega (arith, ap (λ (q : Placed). q.offset) e, h.0, some_words x.entry h.1.is_record, tiles_le w (o + length_in_words x.entry) end xs h.2)
  | inr d ↦ tiled_below w (o + length_in_words x.entry) end xs p h.2 d
]

no_lane : IsLane 0 → ⊥
no_lane l = absurd (omega (arith, l.positive))

-- no words of an empty log are merged
front_empty : (before after : List Placed) → before ++ after ≡ [] → words_in before ≡ 0
front_empty [] after e = refl
front_empty (p ∷ ps) after e = absurd (cc e)

none_merged : (words : List ℕ) (chains : ℕ → List ℕ) (s : StoreState) (n : ℕ) → Represents words chains s → (IsLane n → ⊥) → s.marks n ≡ 0
none_merged words chains s n h l =
    let c = h.merged n in
    sym c.words ∙ front_empty c.before c.after (sym c.whole ∙ h.reads.no_more n l)

-- the logs of a store that words represent
pub ordered : (words : List ℕ) (chains : ℕ → List ℕ) (s : StoreState) → Represents words chains s → IsOrdered s.logs s.gates s.marks
ordered words chains s h = record {
  rise = λ n. elim (lane_or_not n) [
    | inl l ↦ tiled_rise (offsets words n) 0 (gate words n).len (s.logs n) (h.reads.logs_are n l).tiled
    | inr l ↦ (let P : List Placed → Type 0 = λ x. Rise 0 x in subst P (sym (h.reads.no_more n l)) tt)
  ];
  below = λ n p c. elim (lane_or_not n) [
    | inl l ↦ (
        let lt : p.offset < (gate words n).len = tiled_below (offsets words n) 0 (gate words n).len (s.logs n) p (h.reads.logs_are n l).tiled c in
        omega (arith, lt, ap (λ (g : Gate). g.len) (h.table.gates n l.below)))
    | inr l ↦ (let P : List Placed → Type 0 = λ x. Contains x p in absurd (nil_has p (subst P (h.reads.no_more n l) c)))
  ];
  merged = λ n. elim (lane_or_not n) [ inl l ↦ merged_within words chains s n h l | inr l ↦ omega (arith, none_merged words chains s n h l) ];
  nobody = h.reads.no_more 0 no_lane;
}
