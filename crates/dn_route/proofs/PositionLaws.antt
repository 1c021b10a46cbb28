use Rattle.std.proofs.Common.{◌≡◌, ℕ, inl, inr, refl, sym, ap, subst, ◌∙◌, if◌then◌else◌, arith}
use Rattle.std.specs.Ordering.{nat_cmp, ordering_then, ordering_reverse, is_lt}
use Rattle.std.specs.declared.cmp.Ordering.{Ordering}
use Rattle.std.specs.declared.cmp.Ordering.TheVariants.{Less, Equal, Greater}
use Rattle.std.specs.Cmp.{IsTotalOrder}
use Rattle.std.proofs.lemmas.Bool.Decides.{nat_tests}
use Rattle.std.proofs.lemmas.Cmp.{nat_cmp_total, then_total, on_total}
use Rattle.dn_word.specs.declared.positions.Position.{Position}
use Rattle.dn_hist.specs.CallersOrder.{IsBefore}
use Rattle.dn_hist.specs.Receipt.{position_cmp}
use Rattle.dn_route.specs.SessionState.{greater_of}
use Rattle.dn_route.specs.CallersOrder.{IsUpTo}

pub positions_total : IsTotalOrder position_cmp
positions_total =
    then_total (on_total (λ (p : Position). p.stamp) nat_cmp_total)
    (then_total (on_total (λ (p : Position). p.rank) nat_cmp_total) (on_total (λ (p : Position). p.session) nat_cmp_total))

-- what is up to a position that stands before another stands before it too
pub upto_before : (a b c : Position) → IsUpTo a b → IsBefore b c → IsBefore a c
upto_before a b c (inl e) later = let P : Position → Type 0 = λ p. IsBefore p c in subst P (sym e) later
upto_before a b c (inr before) later = positions_total.trans a b c before later

pub upto_trans : (a b c : Position) → IsUpTo a b → IsUpTo b c → IsUpTo a c
upto_trans a b c h (inl e) = let P : Position → Type 0 = λ p. IsUpTo a p in subst P e h
upto_trans a b c h (inr before) = inr (upto_before a b c h before)

same_number : (a b : ℕ) → nat_cmp a b ≡ Equal → a ≡ b
same_number a b e = grind (arith, nat_tests)

then_same : (o p : Ordering) → ordering_then o p ≡ Equal → (o ≡ Equal) × (p ≡ Equal)
then_same Less p e = absurd (cc)
then_same Equal p e = (refl, e)
then_same Greater p e = absurd (cc)

built : (s t r q n m : ℕ) → s ≡ t → r ≡ q → n ≡ m → let a : Position = record { stamp = s; rank = r; session = n } in let b : Position = record { stamp = t; rank = q; session = m } in a ≡ b
built s t r q n m f g h = cc

same_position : (a b : Position) → position_cmp a b ≡ Equal → a ≡ b
same_position a b e =
    let h : (nat_cmp a.stamp b.stamp ≡ Equal) × (ordering_then (nat_cmp a.rank b.rank) (nat_cmp a.session b.session) ≡ Equal) = then_same _ _ e in
    let k : (nat_cmp a.rank b.rank ≡ Equal) × (nat_cmp a.session b.session ≡ Equal) = then_same _ _ h.1 in
    built a.stamp b.stamp a.rank b.rank a.session b.session (same_number _ _ h.0) (same_number _ _ k.0) (same_number _ _ k.1)

-- both positions are up to the greater one
pub record AreUpTo (a b c : Position) : Type 0 where
  pub first : IsUpTo a c
  pub second : IsUpTo b c

picked : (a b : Position) (o : Ordering) → position_cmp a b ≡ o → AreUpTo a b (if is_lt o then b else a)
picked a b Less e = record { first = inr e; second = inl refl }
picked a b Equal e = record { first = inl refl; second = inl (sym (same_position a b e)) }
picked a b Greater e = record { first = inl refl; second = inr (positions_total.antisymm b a ∙ ap ordering_reverse e) }

pub greater_upto : (a b : Position) → AreUpTo a b (greater_of a b)
greater_upto a b = picked a b (position_cmp a b) refl
