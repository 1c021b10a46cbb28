use Rattle.std.proofs.Common.{ℕ, zero, suc, ◌+◌, ◌<◌, ◌≡◌, ◌≢◌, inl, inr, List, [], ◌∷◌, Some, slice_get, slice_set, refl, sym, ◌∙◌, ap, subst, arith}
use Rattle.std.proofs.lemmas.Bool.{cases_eq}
use Rattle.std.proofs.lemmas.Option.{same_Some}
use Rattle.dn_model.specs.Regions.{gate_at, mark_at, IsLane}
use Rattle.dn_cluster.specs.State.{ClusterState}
use Rattle.dn_cluster.specs.Does.{CanBeSound}
use Rattle.dn_drain.specs.All.{AreDrained, AreMerged, StaysSound}
use Rattle.dn_drain.specs.Drained.{IsDrained, idle_of, IsMerged}
use Rattle.dn_drain.specs.Leaves.{LeavesWords, LeavesLogs}
use Rattle.dn_drain.specs.declared.drains.Merged.{Merged}

-- Lanes are drained one after the other.

-- ---- words
pub same_logs : (words : List ℕ) → LeavesLogs words words
same_logs words = record { size = refl; each = λ at a b c. refl }

pub logs_stay : (n : ℕ) (words mid now : List ℕ) → IsLane n → LeavesLogs words mid → LeavesWords n mid now → LeavesLogs words now
logs_stay n words mid now l h k = record {
  size = k.size ∙ h.size;
  each = λ at a b c. k.each at (a n l) b c ∙ h.each at a b c;
}

-- of another lane gate and mark stay
merged_stays : (n k : ℕ) (mid now : List ℕ) (merged : Merged) → k < n → n < 256 → LeavesWords (n + 1) mid now → IsMerged mid (k + 1) merged → IsMerged now (k + 1) merged
merged_stays n k mid now merged lt low h m = record {
  gate_is = h.each (gate_at (k + 1)) (λ e. absurd (omega (arith, e, lt))) (λ e. absurd (omega (arith, e))) (λ b. absurd (omega (arith, b.0, lt, low))) ∙ m.gate_is;
  mark_is = h.each (mark_at (k + 1)) (λ e. absurd (omega (arith, e, lt))) (λ e. absurd (omega (arith, e))) (λ b. absurd (omega (arith, b.0, lt, low))) ∙ m.mark_is;
  all = m.all;
}

-- ---- what each lane has ended with
set_same : {A : Type 0} (xs : List A) (i : ℕ) (v x : A) → slice_get (slice_set xs i v) i ≡ Some x → v ≡ x
set_same [] i v x e = absurd (cc e)
set_same (y ∷ ys) zero v x e = same_Some v x e
set_same (y ∷ ys) (suc i) v x e = set_same ys i v x e

set_other : {A : Type 0} (xs : List A) (i k : ℕ) (v : A) → k ≢ i → slice_get (slice_set xs i v) k ≡ slice_get xs k
set_other [] i k v d = refl
set_other (y ∷ ys) zero zero v d = absurd (d refl)
set_other (y ∷ ys) zero (suc k) v d = refl
set_other (y ∷ ys) (suc i) zero v d = refl
set_other (y ∷ ys) (suc i) (suc k) v d = set_other ys i k v (λ e. d (ap suc e))

pub merged_none : (words : List ℕ) (ended : List Merged) → AreMerged words 0 ended
merged_none words ended = record { each = λ k merged lt e. absurd (omega (arith, lt)) }

pub merged_more : (n : ℕ) (mid now : List ℕ) (ended : List Merged) (merged : Merged) → n < 256 → AreMerged mid n ended → LeavesWords (n + 1) mid now → IsMerged now (n + 1) merged → AreMerged now (n + 1) (slice_set ended n merged)
merged_more n mid now ended merged low h w m = record {
  each = λ k x lt e. elim (cases_eq k n) [
    | inl same ↦ (
        let P : ℕ → Type 0 = λ i. IsMerged now (i + 1) x in
        let Q : Merged → Type 0 = λ y. IsMerged now (n + 1) y in
        subst P (sym same) (subst Q (set_same ended n merged x (ap (λ i. slice_get (slice_set ended n merged) i) (sym same) ∙ e)) m))
    | inr other ↦ (
        let less : k < n = omega (arith, lt, other) in
        merged_stays n k mid now x less low w (h.each k x less (sym (set_other ended n k merged other) ∙ e)))
  ];
}

pub merged_before : (n : ℕ) (mid now : List ℕ) (ended : List Merged) → n < 256 → AreMerged mid n ended → LeavesWords (n + 1) mid now → AreMerged now n ended
merged_before n mid now ended low h w = record { each = λ k x lt e. merged_stays n k mid now x lt low w (h.each k x lt e) }

-- ---- what all of them do
pub sound_same : (words : List ℕ) (c : ClusterState) → StaysSound words c words c
sound_same words c = record { is = λ told receipts h. h }

pub sound_more : (n : ℕ) (words mid now : List ℕ) (c b d : ClusterState) (merged : Merged) → StaysSound words c mid b → IsDrained mid b now d n (idle_of merged) → StaysSound words c now d
sound_more n words mid now c b d merged h k = record { is = λ told receipts s. (k.acted.is told receipts (h.is told receipts s)).sound }

pub can_still : (words now : List ℕ) (c d : ClusterState) → StaysSound words c now d → CanBeSound words c → CanBeSound now d
can_still words now c d h can = record { told = can.told; receipts = can.receipts; sound = h.is can.told can.receipts can.sound }

pub drained_more : (n : ℕ) (words mid now : List ℕ) (c b d : ClusterState) (merged : Merged) → AreDrained words c n mid b → IsDrained mid b now d (n + 1) (idle_of merged) → AreDrained words c (n + 1) now d
drained_more n words mid now c b d merged h k =
    let next : suc n ≡ n + 1 = omega arith in
    subst (λ (i : ℕ). AreDrained words c i now d) next (mid, b, merged, h, k)
