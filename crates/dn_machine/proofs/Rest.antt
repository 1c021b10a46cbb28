use Rattle.std.proofs.Common.{ℕ, ◌+◌, ◌≤◌, ◌≡◌, ◌≢◌, inl, inr, Some, None, refl, sym, ◌∙◌, ap, arith}
use Rattle.dn_act.specs.Action.{at_of, words_after, Performs, MayPerform}
use Rattle.dn_act.specs.Words.{word_at}
use Rattle.dn_act.specs.declared.actions.Action.{Action}
use Rattle.dn_model.specs.Regions.{IsLane}
use Rattle.dn_lane.specs.State.{LaneState}
use Rattle.dn_beside.specs.Pool.{Pool, store_in}
use Rattle.dn_beside.specs.Grown.{Grows}
use Rattle.dn_beside.proofs.Still.{grows_still}
use Rattle.dn_beside.specs.Step.{Acting, IsStepBy, IsQuiet}
use Rattle.dn_lanes.specs.Lane.{IsLaneAt}
use Rattle.dn_lanes.specs.Unmade.{IsUnmade}
use Rattle.dn_receipts.specs.Receipts.{AreReceipts}
use Rattle.dn_receipts.proofs.Joining.{none_joins}
use Rattle.dn_callers.specs.Callers.{receipts_of}
use Rattle.dn_machine.specs.State.{Machine}
use Rattle.dn_machine.specs.Events.{found}
use Rattle.dn_machine.specs.Sound.{claiming, IsMachineAt, IsSound}
use Rattle.dn_machine.specs.Kept.{IsKept}
use Rattle.dn_machine.proofs.Others.{lanes_last}
use Rattle.dn_lanes.proofs.Unmade.{unmade_lasts}

-- What a step that is no lane's leaves of a machine.

-- an action on the machine's words is one on the pool's
pub performs : (p : Pool) (m : Machine) (action : Action) → p.words ≡ m.words → Performs action (found m action) p.words (words_after action m.words)
performs p m action e = record {
  answer = ap (λ ws. word_at ws (at_of action)) (sym e);
  change = ap (λ ws. words_after action ws) (sym e);
}

pub was_done : (p : Pool) (m : Machine) (action : Action) → p.words ≡ m.words → MayPerform action p.words (words_after action m.words)
was_done p m action e = inr (ap (λ ws. words_after action ws) (sym e))

pub was_not_done : (p : Pool) (m : Machine) (action : Action) → p.words ≡ m.words → MayPerform action p.words m.words
was_not_done p m action e = inl (sym e)

-- where nothing happens
pub same_grows : (p : Pool) → Grows p p
same_grows p = grows_still p p.owners refl (λ k. omega arith)

pub stays : (p : Pool) (m : Machine) → IsMachineAt p m → IsKept p m
stays p m h = record { q = p; at = h; grows = same_grows p }

-- where no lane acts, each lane is another than the one that does
no_lane : (a : Acting) (n : ℕ) → a.lane ≡ 0 → IsLane n → n ≢ a.lane
no_lane a n z l e = absurd (omega (arith, z, e, l.positive))

-- All but who acts: lanes, those that weren't made, the size and the segments of the pool, and the receipts.
pub record Rest (q : Pool) (m : Machine) : Type 0 where
  pub lanes : (n : ℕ) (l : LaneState) → m.lanes n ≡ Some l → IsLaneAt n l q
  pub unmade : (n : ℕ) → IsLane n → m.mergers n ≡ None → IsUnmade q n
  pub size : (store_in q).pool ≤ 8192
  pub segments : (store_in q).segment_count + claiming m.lanes ≤ (store_in q).pool + 63
  pub receipts : AreReceipts q (receipts_of m.callers.receipts)

pub rest : (a : Acting) (p q : Pool) (m : Machine) → IsMachineAt p m → IsStepBy a p q → IsQuiet p q → a.lane ≡ 0 → Rest q m
rest a p q m h s quiet z = record {
  lanes = λ n l is.
      let made = h.actors.made n l is in
      let lane : IsLane n = h.actors.numbers n made.0 made.1 in lanes_last a p q m n l h s is (no_lane a n z lane);
  unmade = λ n lane none. unmade_lasts n p q (s.lanes n lane (no_lane a n z lane)) (h.know.unmade n lane none);
  size = omega (arith, h.room.pool, s.grows.pool);
  segments = omega (arith, h.room.segments, s.grows.pool, s.segment_count z);
  receipts = none_joins p q (receipts_of m.callers.receipts) h.receipts s.grows quiet;
}

-- ---- what is sound goes on
pub sound_after : (segments : ℕ) (m now : Machine) (h : IsSound segments m) → IsKept h.p now → IsSound segments now
sound_after segments m now h k = record { p = k.q; at = k.at; pool = k.grows.pool ∙ h.pool }
