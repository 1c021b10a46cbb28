use Rattle.std.proofs.Common.{ℕ, zero, suc, ◌≡◌, ◌<◌, ◌≤◌, ◌++◌, List, [], ◌∷◌, length, refl, sym, ◌∙◌, ap, arith}
use Rattle.dn_act.specs.Words.{IsZeros}
use Rattle.dn_ring.specs.Ring.{IsOwner}
use Rattle.dn_ring.proofs.OwnerLaws.{one_owner}
use Rattle.dn_outcomes.specs.Runs.{after}
use Rattle.dn_outcomes.specs.State.{opened}
use Rattle.dn_outcomes.specs.declared.events.Event.{Event}
use Rattle.dn_world.specs.Opening.{adds_for, grants, grants_to, lanes_to, formatted, IsOpened}
use Rattle.dn_world.specs.State.{WorldState, world_of}

-- An opening leaves one world.

-- ---- zeros of one length are the same words
zeros_behind : (x : ℕ) (xs : List ℕ) → IsZeros (x ∷ xs) → IsZeros xs
zeros_behind x xs h = record { each = λ k. h.each (suc k) }

pub same_zeros : (xs ys : List ℕ) → IsZeros xs → IsZeros ys → length xs ≡ length ys → xs ≡ ys
same_zeros [] [] h k e = refl
same_zeros [] (y ∷ ys) h k e = absurd (omega (arith, e))
same_zeros (x ∷ xs) [] h k e = absurd (omega (arith, e))
same_zeros (x ∷ xs) (y ∷ ys) h k e =
    ap (λ (z : ℕ). z ∷ xs) (h.each 0 ∙ sym (k.each 0)) ∙ ap (λ (zs : List ℕ). y ∷ zs) (same_zeros xs ys (zeros_behind x xs h) (zeros_behind y ys k) (omega (arith, e)))

-- ---- each slot has one owner
same_grants : (live : List ℕ) (a b : ℕ → ℕ) (n : ℕ) → n ≤ 64 → ((slot : ℕ) → slot < 64 → IsOwner live slot (a slot)) → ((slot : ℕ) → slot < 64 → IsOwner live slot (b slot)) → grants_to a n ≡ grants_to b n
same_grants live a b zero le h k = refl
same_grants live a b (suc n) le h k =
    ap (λ (es : List (Event × List ℕ)). es ++ grants n (a n)) (same_grants live a b n (omega (arith, le)) h k)
    ∙ ap (λ (lane : ℕ). grants_to b n ++ grants n lane) (one_owner live n (a n) (b n) (h n (omega (arith, le))) (k n (omega (arith, le))))

-- ---- all
pub one_opening : (before other words now : List ℕ) (w v : WorldState) (segments n : ℕ) → IsZeros before → IsZeros other → length before ≡ length other → IsOpened before words w segments n → IsOpened other now v segments n
    → world_of words w.crew [] [] ≡ world_of now v.crew [] []
one_opening before other words now w v segments n zeros others size h k =
    h.run ∙ ap (λ (ws : List ℕ). after (opened segments (formatted segments ws)) (adds_for n ++ grants_to h.owners 64)) (same_zeros before other zeros others size)
    ∙ ap (λ (es : List (Event × List ℕ)). after (opened segments (formatted segments other)) (adds_for n ++ es)) (same_grants (lanes_to n) h.owners k.owners 64 (omega arith) h.ring k.ring)
    ∙ sym k.run
