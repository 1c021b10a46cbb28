use Rattle.std.proofs.Common.{ℕ, ◌+◌, ◌≤◌, ◌≡◌, inl, inr, List, Option, Some, ap, arith}
use Rattle.dn_model.specs.Regions.{IsLane}
use Rattle.dn_store.specs.State.{with_at}
use Rattle.dn_beside.specs.Pool.{Pool, store_in}
use Rattle.dn_merge.specs.Merge.{Merging, started, merge_after}
use Rattle.dn_turns.specs.Claims.{asks, asking}
use Rattle.dn_turns.specs.Steps.{IsMergerStep, MergerStepped}
use Rattle.dn_turns.proofs.Claims.{asking_most, asking_at}

-- The overflow counter stays near its limit.

pub room_steps : (n : ℕ) (m : Merging) (p : Pool) (word : ℕ) (now : List ℕ) (mergers : ℕ → Option Merging) → (s : MergerStepped n m p word now) → IsLane n → mergers n ≡ Some m
    → (store_in p).bucket_count + asking mergers ≤ 4159 → (store_in s.left.q).bucket_count + asking (with_at mergers n (Some (merge_after m word))) ≤ 4159
room_steps n m p word now mergers s l e room =
    let all = asking_at mergers n (Some (merge_after m word)) l.positive l.below in
    let was = ap asks e in
    elim s.low [
      | inl z ↦ omega (arith, all, was, room, s.left.count, z)
      | inr c ↦ omega (arith, asking_most (with_at mergers n (Some (merge_after m word))), c.1)
    ]

pub room_fails : (n : ℕ) (m : Merging) (p : Pool) (now : List ℕ) (mergers : ℕ → Option Merging) → (s : IsMergerStep n m p now) → IsLane n → mergers n ≡ Some m
    → (store_in p).bucket_count + asking mergers ≤ 4159 → (store_in s.q).bucket_count + asking (with_at mergers n (Some (started n))) ≤ 4159
room_fails n m p now mergers s l e room =
    let all = asking_at mergers n (Some (started n)) l.positive l.below in
    let was = ap asks e in
    omega (arith, all, was, room, s.count)
