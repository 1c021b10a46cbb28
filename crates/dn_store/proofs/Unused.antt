use Rattle.std.proofs.Common.{ℕ, ◌<◌, ◌≤◌, ◌≢◌, List, ◌∙◌, arith}
use Rattle.dn_model.specs.Regions.{gate_at, mark_at, directory_at, bucket_at, IsLane}
use Rattle.dn_store.specs.Unused.{IsUnused, IsUsed}
use Rattle.dn_store.proofs.Stores.{IsStored}

-- The unused words stay 0 where others are stored.

pub unused_stays : (words now : List ℕ) (at new : ℕ) → IsStored words now at new → IsUsed at → IsUnused words → IsUnused now
unused_stays words now at new st u h = record {
  low = λ i a b. st.other i (λ e. u.low (omega (arith, a, e)) (omega (arith, b, e))) ∙ h.low i a b;
  middle = λ i a b. st.other i (λ e. u.middle (omega (arith, a, e)) (omega (arith, b, e))) ∙ h.middle i a b;
  high = λ i a b. st.other i (λ e. u.high (omega (arith, a, e)) (omega (arith, b, e))) ∙ h.high i a b;
  no_gate = st.other (gate_at 0) u.no_gate ∙ h.no_gate;
  no_mark = st.other (mark_at 0) u.no_mark ∙ h.no_mark;
  no_directory = λ q lt. st.other (directory_at 0 q) (u.no_directory q lt) ∙ h.no_directory q lt;
  first = λ b lt. st.other (bucket_at b 0) (u.first b lt) ∙ h.first b lt;
}

-- ---- the words that are used
used_by : (at : ℕ) → (4 ≤ at → at < 64 → ⊥) → (768 ≤ at → at < 1024 → ⊥) → (17408 ≤ at → at < 32768 → ⊥) → 64 ≢ at → 128 ≢ at → ((q : ℕ) → q < 256 → directory_at 0 q ≢ at) → ((b : ℕ) → b < 8192 → bucket_at b 0 ≢ at) → IsUsed at
used_by at low middle high gate mark directory bucket = record { low = low; middle = middle; high = high; no_gate = gate; no_mark = mark; no_directory = directory; first = bucket }

-- of the table: a counter, or behind the gates and marks; a gate or a mark of a lane
pub used_counter : (at : ℕ) → at < 4 → IsUsed at
used_counter at lt = used_by at (λ a b. omega (arith, a, lt)) (λ a b. omega (arith, a, lt)) (λ a b. omega (arith, a, lt)) (λ e. absurd (omega (arith, e, lt))) (λ e. absurd (omega (arith, e, lt)))
    (λ q ql e. absurd (omega (arith, e, lt))) (λ b bl e. absurd (omega (arith, e, lt)))

pub used_lane : (at : ℕ) → 64 < at → at < 768 → at ≢ 128 → IsUsed at
used_lane at a b d = used_by at (λ _ f. omega (arith, a, f)) (λ f _. omega (arith, b, f)) (λ f _. omega (arith, b, f)) (λ e. absurd (omega (arith, e, a))) (λ e. d (omega (arith, e)))
    (λ q ql e. absurd (omega (arith, e, b))) (λ c cl e. absurd (omega (arith, e, b)))

pub used_directory : (n q : ℕ) → IsLane n → q < 256 → IsUsed (directory_at n q)
used_directory n q l lt =
    let lo = l.positive in
    let hi = l.below in
    used_by (directory_at n q) (λ _ f. omega (arith, f)) (λ _ f. omega (arith, f)) (λ f _. omega (arith, f, lt, hi)) (λ e. absurd (omega (arith, e))) (λ e. absurd (omega (arith, e)))
    (λ r rl e. absurd (omega (arith, e, rl, lo))) (λ c cl e. absurd (omega (arith, e, lt, hi)))

pub used_bucket : (b i : ℕ) → 0 < i → i < 8 → IsUsed (bucket_at b i)
used_bucket b i lo hi = used_by (bucket_at b i) (λ _ f. omega (arith, f)) (λ _ f. omega (arith, f)) (λ _ f. omega (arith, f)) (λ e. absurd (omega (arith, e))) (λ e. absurd (omega (arith, e)))
    (λ q ql e. absurd (omega (arith, e, ql))) (λ c cl e. absurd (omega (arith, e, lo, hi)))

pub used_segment : (at : ℕ) → 98304 ≤ at → IsUsed at
used_segment at lo = used_by at (λ _ f. omega (arith, f, lo)) (λ _ f. omega (arith, f, lo)) (λ _ f. omega (arith, f, lo)) (λ e. absurd (omega (arith, e, lo))) (λ e. absurd (omega (arith, e, lo)))
    (λ q ql e. absurd (omega (arith, e, ql, lo))) (λ c cl e. absurd (omega (arith, e, cl, lo)))
