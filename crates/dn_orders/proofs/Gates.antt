use Rattle.std.proofs.Common.{ℕ, ◌≡◌, inl, refl, sym, ◌∙◌, ap, arith}
use Rattle.dn_word.specs.Gate.{gate_of}
use Rattle.dn_word.specs.declared.packed.gate.Gate.{Gate}
use Rattle.dn_model.specs.Regions.{gate_at, IsLane}
use Rattle.dn_store.specs.State.{StoreState}
use Rattle.dn_store.proofs.At.{at_same, at_by}
use Rattle.dn_store.proofs.Lanes.{regate}
use Rattle.dn_owners.specs.Events.{Fence}
use Rattle.dn_owners.specs.Given.{IsGiven}
use Rattle.dn_beside.specs.Pool.{Pool, store_in, IsWhole}
use Rattle.dn_beside.specs.Orders.{LeavesOrder}
use Rattle.dn_beside.specs.Step.{Acting, IsStepBy}
use Rattle.dn_beside.proofs.Low.{after_event, low_step}

-- A gate gets the bit and keeps the rest.

-- what the monitor has read of it stays
bit_order : (p : Pool) (n new : ℕ) → LeavesOrder p (after_event p (Fence n (gate_of new)) (gate_at n) new)
bit_order p n new = record { watch = refl; deeds = λ t lt. inl refl }

pub bit_step : (a : Acting) (p : Pool) (n new : ℕ) → IsWhole p → IsLane n → IsGiven p.owners (Fence n (gate_of new))
    → IsStepBy a p (after_event p (Fence n (gate_of new)) (gate_at n) new)
bit_step a p n new h l g =
    let s : StoreState = store_in p in
    let gate : Gate = gate_of new in
    low_step a p (Fence n gate) (gate_at n) new h (omega (arith, l.below)) g (regate p.words p.chains s n new h.represents l g.2) (record {
      pool = refl;
      index = refl;
      holders = refl;
      takers = refl;
      segment_count = refl;
      bucket_count = refl;
      plain = h.plain;
      deeds = h.deeds;
      moved = λ t lt. inl refl;
      logs = λ m d. refl;
      lens = λ m d. at_by (λ (x : Gate). x.len ≡ (s.gates m).len) s.gates n gate m (λ e. g.2 ∙ ap (λ x. (s.gates x).len) (sym e)) (λ f. refl);
      bit = λ m k d e. ap (λ (x : Gate). x.fenced) (at_same s.gates n gate m (omega (arith, e))) ∙ g.0;
      knows = λ m d. refl;
      marks = λ m d. refl;
      order = λ f. bit_order p n new;
    })
