use Rattle.std.proofs.Common.{◌≡◌, ◌≤◌, ◌∙◌, ℕ, List, ◌++◌, length, take, refl, arith}
use Rattle.std.proofs.lemmas.List.{take-append-le, length-append}
use Rattle.std.proofs.Math.Seq.{take-length}
use Rattle.dn_print.specs.Front.{KeepsFront}

-- a line that grows, or doesn't, keeps what stands before it
pub keeps_same : (start : ℕ) (old : List ℕ) → start ≤ length old → KeepsFront start old old
keeps_same start old h = record { reaches = h; kept = refl }

pub keeps_more : (start : ℕ) (old more : List ℕ) → start ≤ length old → KeepsFront start old (old ++ more)
keeps_more start old more h = record {
  reaches = omega (arith, h, length-append old more);
  kept = take-append-le start old more h;
}

pub keeps_on : (start : ℕ) (old mid new : List ℕ) → KeepsFront start old mid → KeepsFront start mid new → KeepsFront start old new
keeps_on start old mid new a b = record { reaches = b.reaches; kept = b.kept ∙ a.kept }

-- a line that is taken back
pub taken_back : (old new : List ℕ) → KeepsFront (length old) old new → take (length old) new ≡ old
taken_back old new h = h.kept ∙ take-length old
