use Rattle.std.proofs.Common.{ℕ, ◌≡◌, ◌≤◌, ◌&&◌, Bool, true, false, refl, ◌∙◌, arith}
use Rattle.dn_world.specs.Opening.{IsWhole}

-- Whether no access failed, over several.

pub count_whole : (b : Bool) (old new : ℕ) → IsWhole b old new → old ≤ new
count_whole true old new h = (let same : new ≡ old = h.yes_whole refl in omega (arith, same))
count_whole false old new h = (let rose = h.not_whole refl in omega (arith, rose))

pub both_whole : (a b : Bool) (old mid new : ℕ) → IsWhole a old mid → IsWhole b mid new → IsWhole (a && b) old new
both_whole true b old mid new h i = record {
  yes_whole = λ e. i.yes_whole e ∙ h.yes_whole refl;
  not_whole = λ e. (let rose = i.not_whole e in let same : mid ≡ old = h.yes_whole refl in omega (arith, rose, same));
}
both_whole false b old mid new h i = record {
  yes_whole = λ e. absurd (cc);
  not_whole = λ e. (let rose = h.not_whole refl in let le = count_whole b mid new i in omega (arith, rose, le));
}

pub none_failed : (n : ℕ) → IsWhole true n n
none_failed n = record { yes_whole = λ e. refl; not_whole = λ e. absurd (cc) }
