use Rattle.std.proofs.Common.{◌≡◌, ◌≢◌, ◌⊎◌, ℕ, zero, suc, ◌<◌, ◌≤◌, List, [], ◌∷◌, ◌++◌, length, Some, Contains, inl, inr, refl, sym, ap, subst, ◌∙◌, arith}
use Rattle.std.specs.List.{slice_get}
use Rattle.std.proofs.lemmas.List.Elements.{Contains-append_cases}
use Rattle.std.proofs.lemmas.Option.{slice_get_within, get_or_from_slice_get}
use Rattle.dn_word.specs.declared.positions.Position.{Position}
use Rattle.dn_hist.specs.CallersOrder.{IsBefore, IsInCallersOrder}
use Rattle.dn_hist.specs.declared.receipts.Receipt.{Receipt}
use Rattle.dn_hist.specs.declared.receipts.SessionView.{SessionView}
use Rattle.dn_route.specs.SessionState.{SessionState, opened, numbered, heard, view_of}
use Rattle.dn_route.specs.CallersOrder.{Told, told_now, IsUpTo, KeepsCallersOrder, Knows, IsGood}
use Rattle.dn_route.proofs.PositionLaws.{upto_before, upto_trans, greater_upto}

-- ---- lists with one more
only : {A : Type 0} (x y : A) → Contains (x ∷ []) y → y ≡ x
only x y (zero, h, e) = sym e
only x y (suc k, h, e) = absurd (omega arith)

-- what holds of each element of a list, and of one more
each_more : {A : Type 0} (P : A → Type 0) (xs : List A) (x : A) → ((y : A) → Contains xs y → P y) → P x → (y : A) → Contains xs y ⊎ Contains (x ∷ []) y → P y
each_more P xs x all here y (inl h) = all y h
each_more P xs x all here y (inr h) = subst P (sym (only x y h)) here

pub more : {A : Type 0} (P : A → Type 0) (xs : List A) (x : A) → ((y : A) → Contains xs y → P y) → P x → (y : A) → Contains (xs ++ x ∷ []) y → P y
more P xs x all here y h = each_more P xs x all here y (Contains-append_cases xs (x ∷ []) y h)

-- what stands at a place of a list with one more
get_push : (rs : List Receipt) (r s : Receipt) (j : ℕ) → slice_get (rs ++ r ∷ []) j ≡ Some s → (slice_get rs j ≡ Some s) ⊎ ((j ≡ length rs) × (s ≡ r))
get_push [] r s zero e = inr (refl, cc)
get_push [] r s (suc j) e = absurd (cc)
get_push (x ∷ rs) r s zero e = inl e
get_push (x ∷ rs) r s (suc j) e = further (get_push rs r s j e)
  where
    further : (slice_get rs j ≡ Some s) ⊎ ((j ≡ length rs) × (s ≡ r)) → (slice_get rs j ≡ Some s) ⊎ ((suc j ≡ suc (length rs)) × (s ≡ r))
    further (inl h) = inl h
    further (inr h) = inr (ap suc h.0, h.1)

contains_at : (rs : List Receipt) (i : ℕ) (r : Receipt) → slice_get rs i ≡ Some r → Contains rs r
contains_at rs i r e = (i, slice_get_within rs i r e, get_or_from_slice_get rs i r r e)

-- ---- what a session knows
pub knows_opened : (told : List Told) (receipts : List Receipt) (n : ℕ) → ((r : Receipt) → Contains receipts r → r.position.session ≢ n)
    → ((t : Told) → Contains told t → t.session ≢ n) → Knows told receipts (opened n)
knows_opened told receipts n none untold = record {
  numbers = λ r c e. absurd (none r c e);
  positions = λ r c e. absurd (none r c e);
  told_numbers = λ t c e. absurd (untold t c e);
  told_positions = λ t c e. absurd (untold t c e);
}

pub knows_numbered : (told : List Told) (receipts : List Receipt) (s : SessionState) → Knows told receipts s → Knows told receipts (numbered s)
knows_numbered told receipts s k = record {
  numbers = λ r c e. omega (arith, k.numbers r c e);
  positions = k.positions;
  told_numbers = λ t c e. omega (arith, k.told_numbers t c e);
  told_positions = k.told_positions;
}

pub good_view : (told : List Told) (receipts : List Receipt) (s : SessionState) (key : ℕ) → Knows told receipts s → IsGood told receipts (view_of (numbered s) key)
good_view told receipts s key k = record {
  numbers = λ r c e. omega (arith, k.numbers r c e);
  positions = k.positions;
  told_positions = λ t c e _. k.told_positions t c e;
}

pub good_again : (told : List Told) (receipts : List Receipt) (s : SessionState) (key : ℕ) → Knows told receipts s
    → ((r : Receipt) → Contains receipts r → r.position.session ≡ s.session → r.number ≢ s.number) → IsGood told receipts (view_of s key)
good_again told receipts s key k unanswered = record {
  numbers = λ r c e. omega (arith, k.numbers r c e, unanswered r c e);
  positions = k.positions;
  told_positions = λ t c e _. k.told_positions t c e;
}

pub good_told : (told : List Told) (receipts : List Receipt) (view : SessionView) (t : Told) → IsGood told receipts view → (t.session ≡ view.session → view.number ≤ t.number)
    → IsGood (told ++ t ∷ []) receipts view
good_told told receipts view t g later = record {
  numbers = g.numbers;
  positions = g.positions;
  told_positions = more (λ (u : Told). u.session ≡ view.session → u.number < view.number → IsUpTo u.position view.last) told t g.told_positions
      (λ e lt. absurd (omega (arith, later e, lt)));
}

pub knows_heard : (told : List Told) (receipts : List Receipt) (s : SessionState) (p : Position) → Knows told receipts s
    → Knows (told ++ told_now s p ∷ []) receipts (heard s p)
knows_heard told receipts s p k =
    let g = greater_upto s.last p in
    record {
      numbers = k.numbers;
      positions = λ r c e. upto_trans _ _ _ (k.positions r c e) g.first;
      told_numbers = more (λ (t : Told). t.session ≡ s.session → t.number ≤ s.number) told _ k.told_numbers (λ _. omega arith);
      told_positions = more (λ (t : Told). t.session ≡ s.session → IsUpTo t.position (heard s p).last) told _
          (λ t c e. upto_trans _ _ _ (k.told_positions t c e) g.first) (λ _. g.second);
    }

pub knows_made : (told : List Told) (receipts : List Receipt) (s : SessionState) (r : Receipt) → Knows told receipts s → r.number ≤ s.number
    → Knows told (receipts ++ r ∷ []) (heard s r.position)
knows_made told receipts s r k number =
    let g = greater_upto s.last r.position in
    record {
      numbers = more (λ (a : Receipt). a.position.session ≡ s.session → a.number ≤ s.number) receipts r k.numbers (λ _. number);
      positions = more (λ (a : Receipt). a.position.session ≡ s.session → IsUpTo a.position (heard s r.position).last) receipts r
          (λ a c e. upto_trans _ _ _ (k.positions a c e) g.first) (λ _. g.second);
      told_numbers = k.told_numbers;
      told_positions = λ t c e. upto_trans _ _ _ (k.told_positions t c e) g.first;
    }

pub knows_others : (told : List Told) (receipts : List Receipt) (s : SessionState) (r : Receipt) → Knows told receipts s → r.position.session ≢ s.session
    → Knows told (receipts ++ r ∷ []) s
knows_others told receipts s r k other = record {
  numbers = more (λ (a : Receipt). a.position.session ≡ s.session → a.number ≤ s.number) receipts r k.numbers (λ e. absurd (other e));
  positions = more (λ (a : Receipt). a.position.session ≡ s.session → IsUpTo a.position s.last) receipts r k.positions (λ e. absurd (other e));
  told_numbers = k.told_numbers;
  told_positions = k.told_positions;
}

-- ---- the order of the calls
pub order_none : (told : List Told) → KeepsCallersOrder told []
order_none told = record { rises = record { rises = λ i j a b _ at_i. absurd (cc) }; behind = λ t r _ c. absurd (omega (arith, c.1)) }

pub order_heard : (told : List Told) (receipts : List Receipt) (s : SessionState) (p : Position) → Knows told receipts s → KeepsCallersOrder told receipts
    → KeepsCallersOrder (told ++ told_now s p ∷ []) receipts
order_heard told receipts s p k o = record {
  rises = o.rises;
  behind = λ t r c d e lt. more (λ (u : Told). r.position.session ≡ u.session → u.number < r.number → IsBefore u.position r.position) told _
      (λ u h. o.behind u r h d) (λ same above. absurd (omega (arith, k.numbers r d same, above))) t c e lt;
}

rises_more : (rs : List Receipt) (r : Receipt) → IsInCallersOrder rs → ((a : Receipt) → Contains rs a → a.position.session ≡ r.position.session → (a.number < r.number) × IsBefore a.position r.position)
    → (i j : ℕ) (a b : Receipt) → i < j → a.position.session ≡ b.position.session → (slice_get rs i ≡ Some a) ⊎ ((i ≡ length rs) × (a ≡ r))
    → (slice_get rs j ≡ Some b) ⊎ ((j ≡ length rs) × (b ≡ r)) → (a.number < b.number) × IsBefore a.position b.position
rises_more rs r o new i j a b lt same (inl p) (inl q) = o.rises i j a b lt p q same
rises_more rs r o new i j a b lt same (inl p) (inr q) =
    let P : Receipt → Type 0 = λ x. a.position.session ≡ x.position.session → (a.number < x.number) × IsBefore a.position x.position in
    subst P (sym q.1) (new a (contains_at rs i a p)) same
rises_more rs r o new i j a b lt same (inr p) (inl q) = absurd (omega (arith, p.0, slice_get_within rs j b q))
rises_more rs r o new i j a b lt same (inr p) (inr q) = absurd (omega (arith, p.0, q.0))

pub order_made : (told : List Told) (receipts : List Receipt) (view : SessionView) (r : Receipt) → KeepsCallersOrder told receipts → IsGood told receipts view
    → r.position.session ≡ view.session → r.number ≡ view.number → IsBefore view.last r.position → KeepsCallersOrder told (receipts ++ r ∷ [])
order_made told receipts view r o g session number later = record {
  rises = record {
    rises = λ i j a b lt at_i at_j same. rises_more receipts r o.rises
        (λ a c e. (omega (arith, g.numbers a c (e ∙ session), number), upto_before _ _ _ (g.positions a c (e ∙ session)) later))
        i j a b lt same (get_push receipts r a i at_i) (get_push receipts r b j at_j);
  };
  behind = λ t a c. more (λ (b : Receipt). b.position.session ≡ t.session → t.number < b.number → IsBefore t.position b.position) receipts r
      (λ b d. o.behind t b c d)
      (λ e lt. upto_before _ _ _ (g.told_positions t c (sym e ∙ session) (omega (arith, lt, number))) later) a;
}
