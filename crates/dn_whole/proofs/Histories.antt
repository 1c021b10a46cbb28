use Rattle.std.proofs.Common.{ℕ, zero, suc, ◌<◌, ◌≡◌, ◌⊎◌, inl, inr, false, List, [], ◌∷◌, Some, Contains, get_or, length, refl, sym, ◌∙◌, ap, subst, arith}
use Rattle.std.specs.List.{slice_get}
use Rattle.std.specs.List.Sorted.{IsPermutation}
use Rattle.std.specs.Option.{option_map}
use Rattle.std.specs.Ordering.{nat_cmp, ordering_then, ordering_reverse, is_lt}
use Rattle.std.specs.declared.cmp.Ordering.{Ordering}
use Rattle.std.specs.declared.cmp.Ordering.TheVariants.{Less, Equal, Greater}
use Rattle.std.proofs.lemmas.Bool.{true≢false}
use Rattle.std.proofs.lemmas.Bool.Decides.{nat_tests}
use Rattle.std.proofs.lemmas.List.MinMax.{ranks_by}
use Rattle.std.proofs.lemmas.List.Sorted.{sorted_far, Contains-permutation, IsPermutation-sym}
use Rattle.std.proofs.lemmas.Option.{slice_get_within, get_or_from_slice_get, slice_get-get_or, slice_get-map}
use Rattle.dn_word.specs.declared.positions.Position.{Position}
use Rattle.dn_callers.specs.Callers.{Standing, receipts_of}
use Rattle.dn_hist.specs.CallersOrder.{IsBefore, IsInCallersOrder}
use Rattle.dn_hist.specs.Receipt.{position_cmp, IsInOrder}
use Rattle.dn_hist.specs.declared.receipts.Receipt.{Receipt}
use Rattle.dn_route.proofs.PositionLaws.{positions_total}
use Rattle.dn_run.specs.Headline.{IsHeadline}
use Rattle.dn_run.specs.Run.{Run}
use Rattle.dn_script.specs.declared.scripts.Line.{Line}

-- A run has one history.

-- ---- positions
not_itself : (o : Ordering) → o ≡ ordering_reverse o → o ≡ Less → ⊥
not_itself Less e l = absurd (cc)
not_itself Equal e l = absurd (cc)
not_itself Greater e l = absurd (cc)

not_both : (a b : Position) → IsBefore a b → IsBefore b a → ⊥
not_both a b h k = not_itself (position_cmp a a) (positions_total.antisymm a a) (positions_total.trans a b a h k)

then_equal : (o p : Ordering) → ordering_then o p ≡ Equal → p ≡ Equal
then_equal Less p e = absurd (cc)
then_equal Equal p e = e
then_equal Greater p e = absurd (cc)

number_same : (a b : ℕ) → nat_cmp a b ≡ Equal → a ≡ b
number_same a b e = grind (arith, nat_tests)

session_same : (a b : Position) → position_cmp a b ≡ Equal → a.session ≡ b.session
session_same a b e =
    number_same a.session b.session (then_equal (nat_cmp a.rank b.rank) (nat_cmp a.session b.session)
    (then_equal (nat_cmp a.stamp b.stamp) (ordering_then (nat_cmp a.rank b.rank) (nat_cmp a.session b.session)) e))

-- ---- in order of position, no two receipts have one position
abbrev Climb : List Receipt → Type 0
Climb hs = (i j : ℕ) (r s : Receipt) → i < j → slice_get hs i ≡ Some r → slice_get hs j ≡ Some s → IsBefore r.position s.position

not_under : (hs : List Receipt) (i j : ℕ) (r s : Receipt) → IsInOrder hs → i < j → slice_get hs i ≡ Some r → slice_get hs j ≡ Some s → is_lt (position_cmp s.position r.position) ≡ false
not_under hs i j r s up lt f g =
    let far : is_lt (position_cmp (get_or hs j s).position (get_or hs i s).position) ≡ false =
    sorted_far (λ (x y : Receipt). is_lt (position_cmp x.position y.position)) (ranks_by positions_total (λ (x : Receipt). x.position)) hs up i j s (omega (arith, lt)) (slice_get_within hs j s g) in
    let P : Receipt → Type 0 = λ x. is_lt (position_cmp s.position x.position) ≡ false in
    let Q : Receipt → Type 0 = λ x. is_lt (position_cmp x.position (get_or hs i s).position) ≡ false in
    subst P (get_or_from_slice_get hs i r s f) (subst Q (get_or_from_slice_get hs j s s g) far)

before_by : (r s : Receipt) (o : Ordering) → position_cmp r.position s.position ≡ o → is_lt (position_cmp s.position r.position) ≡ false
    → (r.position.session ≡ s.position.session → IsBefore r.position s.position) → IsBefore r.position s.position
before_by r s Less e not same = e
before_by r s Equal e not same = same (session_same r.position s.position e)
before_by r s Greater e not same =
    absurd (true≢false (sym (ap is_lt (positions_total.antisymm s.position r.position ∙ ap ordering_reverse e)) ∙ not))

climbs : (hs : List Receipt) → IsInOrder hs → IsInCallersOrder hs → Climb hs
climbs hs up h i j r s lt f g =
    before_by r s (position_cmp r.position s.position) refl (not_under hs i j r s up lt f g) (λ same. (h.rises i j r s lt f g same).1)

-- ---- as standing receipts, each before all that follow it
abbrev Leads : List Standing → Type 0
Leads [] = Unit {0}
Leads (x ∷ xs) = ((y : Standing) → Contains xs y → IsBefore x.receipt.position y.receipt.position) × Leads xs

receipt_at : (xs : List Standing) (y : Standing) → (c : Contains xs y) → slice_get (receipts_of xs) c.0 ≡ Some y.receipt
receipt_at xs y c =
    slice_get-map (λ (x : Standing). x.receipt) xs c.0 ∙ ap (option_map (λ (x : Standing). x.receipt)) (slice_get-get_or xs c.0 y c.1) ∙ ap (λ (x : Standing). Some x.receipt) c.2

leads : (xs : List Standing) → Climb (receipts_of xs) → Leads xs
leads [] h = tt
leads (x ∷ xs) h = (
  λ y c. h 0 (suc c.0) x.receipt y.receipt (omega arith) refl (receipt_at xs y c),
  leads xs (λ i j r s lt f g. h (suc i) (suc j) r s (omega (arith, lt)) f g),
)

-- ---- two such lists of the same receipts are the same
here : (x : Standing) (xs : List Standing) → Contains (x ∷ xs) x
here x xs = (0, omega arith, refl)

there : (x : Standing) (xs : List Standing) (z : Standing) → Contains xs z → Contains (x ∷ xs) z
there x xs z c = (suc c.0, omega (arith, c.1), c.2)

within : (y : Standing) (ys : List Standing) (z : Standing) (k : ℕ) → k < length (y ∷ ys) → get_or (y ∷ ys) k z ≡ z → (y ≡ z) ⊎ Contains ys z
within y ys z zero lt e = inl e
within y ys z (suc k) lt e = inr (k, omega (arith, lt), e)

first_or : (y : Standing) (ys : List Standing) (z : Standing) → Contains (y ∷ ys) z → (y ≡ z) ⊎ Contains ys z
first_or y ys z c = within y ys z c.0 c.1 c.2

none_in : (z : Standing) → Contains [] z → ⊥
none_in z c = omega (arith, c.1)

same_first : (x y : Standing) (xs ys : List Standing) → Leads (x ∷ xs) → Leads (y ∷ ys) → Contains (y ∷ ys) x → Contains (x ∷ xs) y → x ≡ y
same_first x y xs ys h k c d = elim (first_or y ys x c) [
  | inl e ↦ sym e
  | inr later ↦ elim (first_or x xs y d) [
    | inl e ↦ e
    | inr last ↦ absurd (not_both x.receipt.position y.receipt.position (h.0 y last) (k.0 x later))
  ]
]

in_rest : (x y z : Standing) (xs ys : List Standing) → Leads (x ∷ xs) → x ≡ y → Contains xs z → Contains (y ∷ ys) z → Contains ys z
in_rest x y z xs ys h e c d = elim (first_or y ys z d) [
  | inl f ↦ (let later : IsBefore x.receipt.position z.receipt.position = h.0 z c in
      let again : IsBefore x.receipt.position x.receipt.position = subst (λ (v : Standing). IsBefore x.receipt.position v.receipt.position) (sym (e ∙ f)) later in
      absurd (not_both x.receipt.position x.receipt.position again again))
  | inr there ↦ there
]

same_lists : (xs ys : List Standing) → Leads xs → Leads ys → ((z : Standing) → Contains xs z → Contains ys z) → ((z : Standing) → Contains ys z → Contains xs z) → xs ≡ ys
same_lists [] [] h k to from = refl
same_lists [] (y ∷ ys) h k to from = absurd (none_in y (from y (here y ys)))
same_lists (x ∷ xs) [] h k to from = absurd (none_in x (to x (here x xs)))
same_lists (x ∷ xs) (y ∷ ys) h k to from =
    let e : x ≡ y = same_first x y xs ys h k (to x (here x xs)) (from y (here y ys)) in
    ap (λ (z : Standing). z ∷ xs) e ∙ ap (λ (zs : List Standing). y ∷ zs) (same_lists xs ys h.1 k.1
    (λ z c. in_rest x y z xs ys h e c (to z (there x xs z c))) (λ z c. in_rest y x z ys xs k (sym e) c (from z (there y ys z c))))

-- ---- all
its_leads : (lines : List Line) (r : Run) (words : List ℕ) (g : List Standing) → IsHeadline lines r words g → Leads g
its_leads lines r words g h = leads g (climbs (receipts_of g) h.sorted h.order.rises)

passes : (xs g h : List Standing) (z : Standing) → IsPermutation xs g → IsPermutation xs h → Contains g z → Contains h z
passes xs g h z once again c = Contains-permutation xs h z again (Contains-permutation g xs z (IsPermutation-sym xs g once) c)

pub one_history : (lines : List Line) (r : Run) (words fin : List ℕ) (g h : List Standing) → IsHeadline lines r words g → IsHeadline lines r fin h → g ≡ h
one_history lines r words fin g h a b =
    let stands : List Standing = r.world.machine.callers.receipts in
    same_lists g h (its_leads lines r words g a) (its_leads lines r fin h b) (λ z c. passes stands g h z a.once b.once c) (λ z c. passes stands h g z b.once a.once c)
