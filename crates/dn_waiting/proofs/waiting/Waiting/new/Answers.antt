use Rattle.std.proofs.Common.{◌≡◌, List, Option, None, replicate, refl, ap, sym, subst, ◌∙◌}
use Rattle.dn_waiting.specs.declared.calls.OpenCall.{OpenCall}
use Rattle.dn_waiting.specs.Queues.{AtLane, idle}
use Rattle.dn_waiting.specs.State.{nothing_waits}
use Rattle.dn_waiting.specs.Sound.{IsSound}
use Rattle.dn_waiting.proofs.Joined.{made_of}
use Rattle.dn_waiting.proofs.Stopping.{none_sound}
use Rattle.dn_waiting.proofs.waiting.Waiting.new.Goals as goal

opening : (calls : List (Option OpenCall)) (lanes : List AtLane) → calls ≡ replicate 1001 None → lanes ≡ replicate 64 idle → made_of calls lanes ≡ nothing_waits
unfolding nothing_waits
opening calls lanes e f = ap (λ cs. made_of cs lanes) e ∙ ap (made_of (replicate 1001 None)) f

pub invariant_of-result : goal.invariant_of-result
invariant_of-result c =
    subst (λ cs. IsSound (made_of cs c.in_ok-idle_lanes.field-0.items)) (sym c.in_ok-no_calls.ensures)
    (subst (λ (ls : List AtLane). IsSound (made_of (replicate 1001 None) ls)) (sym c.in_ok-idle_lanes.ensures) (none_sound 1001 64 refl refl))

pub returns : goal.returns
returns c = opening c.in_ok-no_calls.field-0.items c.in_ok-idle_lanes.field-0.items c.in_ok-no_calls.ensures c.in_ok-idle_lanes.ensures
