use Rattle.std.proofs.Common.{ℕ, List, [], ◌∷◌}
use Rattle.dn_outcomes.specs.Does.{queues, does}
use Rattle.dn_outcomes.specs.Runs.{after, IsRun}
use Rattle.dn_outcomes.specs.Sound.{MayHappen, IsWorld}
use Rattle.dn_outcomes.specs.State.{World}
use Rattle.dn_outcomes.specs.Steps.{step, flow, merge}
use Rattle.dn_outcomes.specs.declared.events.Event.{Event}
use Rattle.dn_outcomes.specs.declared.events.Event.TheVariants as event
use Rattle.dn_outcomes.proofs.Facts.{made_lane, made_most}
use Rattle.dn_outcomes.proofs.Others.{on_lane_kept, queues_kept, flow_kept, merge_kept, monitor_kept, give_kept, drops_kept, adds_kept}
use Rattle.dn_outcomes.proofs.Sessions.{start_kept, refresh_kept, tells_kept}
use Rattle.dn_outcomes.proofs.Steps.{step_kept}

-- Every event keeps a world: a table of them all.

pub kept : (w : World) (e : Event) (heirs : List ℕ) → IsWorld w → MayHappen w e heirs → IsWorld (does w e heirs).world
kept w (event.Start s lane call) heirs h may = start_kept w s lane call h may.0 may.1
kept w (event.Step n) heirs h may = on_lane_kept w n (step w n) h (λ e. step_kept w n h (made_lane w n h e))
kept w (event.Flow n index) heirs h may = on_lane_kept w n (flow w n index) h (λ e. flow_kept w n index h (made_lane w n h e))
kept w (event.Merge n) heirs h may = on_lane_kept w n (merge w n) h (λ e. merge_kept w n h (made_most w n h e))
kept w event.Monitor heirs h may = monitor_kept w h
kept w (event.Refresh s) heirs h may = refresh_kept w s h may
kept w (event.Give o) heirs h may = give_kept w o heirs h may.0 may.1
kept w event.DropOrder heirs h may = drops_kept w h
kept w (event.Queue n t) heirs h may = on_lane_kept w n (queues w n t (w.machine.lanes n)) h (λ e. queues_kept w n t (w.machine.lanes n) h (made_lane w n h e) may)
kept w event.Add heirs h may = adds_kept w h
kept w (event.Tell s t) heirs h may = tells_kept w s t h may.0 may.1

pub runs : (w : World) (es : List (Event × List ℕ)) → IsWorld w → IsRun w es → IsWorld (after w es)
runs w [] h run = h
runs w (x ∷ xs) h run = runs (does w x.0 x.1).world xs (kept w x.0 x.1 h run.0) run.1
