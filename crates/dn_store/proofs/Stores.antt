use Rattle.std.proofs.Common.{ℕ, ◌+◌, ◌<◌, ◌≤◌, ◌≡◌, ◌≢◌, ◌⊎◌, inl, inr, List, length, refl, sym, ◌∙◌, ap, arith, slice_set}
use Rattle.std.proofs.lemmas.Bool.{cases_eq}
use Rattle.dn_act.specs.Words.{word_at}
use Rattle.dn_act.proofs.Words.{word_at-set_same, word_at-set_other, length-set}
use Rattle.dn_store.specs.State.{with_at}
use Rattle.dn_store.proofs.At.{at_same, at_other}

-- One word is stored: what a region of words says then.

pub record IsStored (words now : List ℕ) (at new : ℕ) : Type 0 where
  pub size : length now ≡ length words
  pub here : word_at now at ≡ new
  pub other : (i : ℕ) → i ≢ at → word_at now i ≡ word_at words i

pub is_stored : (words : List ℕ) (at new : ℕ) → at < length words → IsStored words (slice_set words at new) at new
is_stored words at new lt = record { size = length-set words at new; here = word_at-set_same words at new lt; other = λ i d. word_at-set_other words at i new d }

-- In a region of so many words, each of which says what a function gives, the function then is g in place of f.
abbrev pub Turns : {A : Type 0} → ℕ → ℕ → (ℕ → A) → ℕ → ℕ → (ℕ → A) → (ℕ → A) → Type 0
Turns base count read at new f g = (i : ℕ) → i < count → (base + i ≢ at → g i ≡ f i) × (base + i ≡ at → read new ≡ g i)

-- the store is beside the region, or on its word j
pub aside : {A : Type 0} (base count : ℕ) (read : ℕ → A) (at new : ℕ) (f : ℕ → A) → (at < base) ⊎ (base + count ≤ at) → Turns base count read at new f f
aside base count read at new f (inl low) = λ i l. (λ d. refl, λ e. absurd (omega (arith, low, e)))
aside base count read at new f (inr high) = λ i l. (λ d. refl, λ e. absurd (omega (arith, high, e, l)))

pub inside : {A : Type 0} (base count : ℕ) (read : ℕ → A) (j new : ℕ) (f : ℕ → A) → Turns base count read (base + j) new f (with_at f j (read new))
inside base count read j new f = λ i l. (λ d. at_other f j (read new) i (λ e. d (ap (λ x. base + x) e)), λ e. sym (at_same f j (read new) i (omega (arith, e))))

pub turned : {A : Type 0} (words now : List ℕ) (base count : ℕ) (read : ℕ → A) (at new : ℕ) (f g : ℕ → A) → IsStored words now at new → Turns base count read at new f g
    → ((i : ℕ) → i < count → read (word_at words (base + i)) ≡ f i) → (i : ℕ) → i < count → read (word_at now (base + i)) ≡ g i
turned words now base count read at new f g s t h i l = elim (cases_eq (base + i) at) [
  | inl e ↦ ap (λ x. read (word_at now x)) e ∙ ap read s.here ∙ (t i l).1 e
  | inr d ↦ ap read (s.other (base + i) d) ∙ h i l ∙ sym ((t i l).0 d)
]

-- the same of a single word
abbrev pub Turns_one : ℕ → ℕ → ℕ → ℕ → ℕ → Type 0
Turns_one i at new a b = (i ≢ at → b ≡ a) × (i ≡ at → new ≡ b)

pub one_turned : (words now : List ℕ) (i at new a b : ℕ) → IsStored words now at new → Turns_one i at new a b → word_at words i ≡ a → word_at now i ≡ b
one_turned words now i at new a b s t h = elim (cases_eq i at) [
  | inl e ↦ ap (λ x. word_at now x) e ∙ s.here ∙ t.1 e
  | inr d ↦ s.other i d ∙ h ∙ sym (t.0 d)
]
