use Rattle.std.proofs.Common.{ℕ, ◌+◌, ◌*◌, ◌/◌, ◌%◌, ◌^◌, ◌<◌, ◌≡◌, true, nat_le, bit_or, refl, ◌∙◌, ap, arith}
use Rattle.std.proofs.lemmas.Nat.{or_mod, or_shr, le_or_r}
use Rattle.std.specs.Int.Bits.{or_zero_r}
use Rattle.std.proofs.lemmas.Bool.Decides.{nat_tests}
use Rattle.dn_word.specs.Gate.{gate_of}
use Rattle.dn_word.specs.Deed.{deed_of, deed_word, state_of, state_number}
use Rattle.dn_word.specs.declared.packed.gate.Gate.{Gate}
use Rattle.dn_word.specs.declared.packed.deed.Deed.{Deed}
use Rattle.dn_word.specs.declared.packed.deed.DeedState.{DeedState}
use Rattle.dn_word.specs.declared.packed.deed.DeedState.TheVariants.{Nobody, Owned, Leaving, Released}

-- ---- a gate that gets the bit keeps the rest
fenced_is : (w : ℕ) → nat_le (2 ^ 63) (bit_or w (2 ^ 63)) ≡ true
fenced_is w = grind (arith, nat_tests, le_or_r w (2 ^ 63))

stamp_is : (w : ℕ) → bit_or w (2 ^ 63) / 2 ^ 32 % 2 ^ 31 ≡ w / 2 ^ 32 % 2 ^ 31
stamp_is w = ap (λ x. x % 2 ^ 31) (or_shr w (2 ^ 63) 32) ∙ or_mod (w / 2 ^ 32) (2 ^ 63 / 2 ^ 32) 31 ∙ or_zero_r (w / 2 ^ 32 % 2 ^ 31)

len_is : (w : ℕ) → bit_or w (2 ^ 63) % 2 ^ 24 ≡ w % 2 ^ 24
len_is w = or_mod w (2 ^ 63) 24 ∙ or_zero_r (w % 2 ^ 24)

pub gate_barred : (w : ℕ) → gate_of (bit_or w (2 ^ 63)) ≡ record (gate_of w) { fenced = true }
gate_barred w =
    ap (λ b. let g : Gate = record { fenced = b; stamp = bit_or w (2 ^ 63) / 2 ^ 32 % 2 ^ 31; len = bit_or w (2 ^ 63) % 2 ^ 24 } in g) (fenced_is w)
    ∙ ap (λ x. let g : Gate = record { fenced = true; stamp = x; len = bit_or w (2 ^ 63) % 2 ^ 24 } in g) (stamp_is w)
    ∙ ap (λ x. let g : Gate = record { fenced = true; stamp = w / 2 ^ 32 % 2 ^ 31; len = x } in g) (len_is w)

-- ---- a deed whose fields are within their widths stands in its word
state_again : (s : DeedState) → state_of (state_number s) ≡ s
state_again Nobody = refl
state_again Owned = refl
state_again Leaving = refl
state_again Released = refl

pub record IsWithin (d : Deed) : Type 0 where
  pub epoch : d.epoch < 2 ^ 23
  pub lane : d.lane < 2 ^ 8
  pub floor : d.floor < 2 ^ 31

state_is : (n e l f : ℕ) → e < 2 ^ 23 → l < 2 ^ 8 → f < 2 ^ 31 → (n * 2 ^ 62 + e * 2 ^ 39 + l * 2 ^ 31 + f) / 2 ^ 62 ≡ n
state_is n e l f he hl hf = omega (arith, he, hl, hf)

epoch_is : (n e l f : ℕ) → e < 2 ^ 23 → l < 2 ^ 8 → f < 2 ^ 31 → (n * 2 ^ 62 + e * 2 ^ 39 + l * 2 ^ 31 + f) / 2 ^ 39 % 2 ^ 23 ≡ e
epoch_is n e l f he hl hf = omega (arith, he, hl, hf)

lane_is : (n e l f : ℕ) → e < 2 ^ 23 → l < 2 ^ 8 → f < 2 ^ 31 → (n * 2 ^ 62 + e * 2 ^ 39 + l * 2 ^ 31 + f) / 2 ^ 31 % 2 ^ 8 ≡ l
lane_is n e l f he hl hf = omega (arith, he, hl, hf)

floor_is : (n e l f : ℕ) → e < 2 ^ 23 → l < 2 ^ 8 → f < 2 ^ 31 → (n * 2 ^ 62 + e * 2 ^ 39 + l * 2 ^ 31 + f) % 2 ^ 31 ≡ f
floor_is n e l f he hl hf = omega (arith, he, hl, hf)

abbrev as_deed : DeedState → ℕ → ℕ → ℕ → Deed
as_deed s e l f = record { state = s; epoch = e; lane = l; floor = f }

pub deed_again : (d : Deed) → IsWithin d → deed_of (deed_word d) ≡ d
deed_again d h =
    let n : ℕ = state_number d.state in
    let w : ℕ = deed_word d in
    ap (λ s. as_deed s (w / 2 ^ 39 % 2 ^ 23) (w / 2 ^ 31 % 2 ^ 8) (w % 2 ^ 31)) (ap state_of (state_is n d.epoch d.lane d.floor h.epoch h.lane h.floor) ∙ state_again d.state)
    ∙ ap (λ x. as_deed d.state x (w / 2 ^ 31 % 2 ^ 8) (w % 2 ^ 31)) (epoch_is n d.epoch d.lane d.floor h.epoch h.lane h.floor)
    ∙ ap (λ x. as_deed d.state d.epoch x (w % 2 ^ 31)) (lane_is n d.epoch d.lane d.floor h.epoch h.lane h.floor)
    ∙ ap (λ x. as_deed d.state d.epoch d.lane x) (floor_is n d.epoch d.lane d.floor h.epoch h.lane h.floor)
