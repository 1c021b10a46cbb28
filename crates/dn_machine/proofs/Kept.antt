use Rattle.std.proofs.Common.{ℕ, Bool, List, [], ◌∷◌, sym, subst}
use Rattle.dn_beside.specs.Pool.{Pool, store_in}
use Rattle.dn_machine.specs.State.{Machine}
use Rattle.dn_machine.specs.Events.{Actor, Lane, Merger, Monitor, Session, Event, Acts, Flows, Fails, FlowFails, Asks, Tends, Orders, Loads, Adds, Numbers, Tells, Hints, Stops, Closes, Renews, Drops, happens}
use Rattle.dn_machine.specs.Given.{IsGiven}
use Rattle.dn_machine.specs.Kept.{IsKept}
use Rattle.dn_machine.specs.Runs.{after, IsRun}
use Rattle.dn_machine.specs.Sound.{IsMachineAt, IsSound}
use Rattle.dn_machine.proofs.Rest.{sound_after}
use Rattle.dn_machine.proofs.LaneActs.{lane_acts_kept, lane_flows_kept}
use Rattle.dn_machine.proofs.LaneFails.{lane_fails_kept, flow_fails_kept, stops_kept}
use Rattle.dn_machine.proofs.Begins.{asks, tends}
use Rattle.dn_machine.proofs.Made.{adds}
use Rattle.dn_machine.proofs.Mergers.{merger_acts, merger_gives_up, merger_renews}
use Rattle.dn_machine.proofs.Orders.{monitor_acts, monitor_gives_up, order_begins, order_drops}
use Rattle.dn_machine.proofs.Sessions.{session_acts, session_gives_up, session_loads, session_numbers, session_told, session_hinted, session_closes}

-- Every event keeps a machine sound: a table of them all.

acts_kept : (p : Pool) (m : Machine) (who : Actor) → IsMachineAt p m → IsKept p (happens m (Acts who))
acts_kept p m (Lane n) h = lane_acts_kept p m n h
acts_kept p m (Merger n) h = merger_acts p m n h
acts_kept p m Monitor h = monitor_acts p m h
acts_kept p m (Session s) h = session_acts p m s h

fails_kept : (p : Pool) (m : Machine) (who : Actor) (done : Bool) → IsMachineAt p m → IsKept p (happens m (Fails who done))
fails_kept p m (Lane n) done h = lane_fails_kept p m n done h
fails_kept p m (Merger n) done h = merger_gives_up p m n done h
fails_kept p m Monitor done h = monitor_gives_up p m done h
fails_kept p m (Session s) done h = session_gives_up p m s done h

pub kept : (p : Pool) (m : Machine) (e : Event) → IsMachineAt p m → IsGiven (store_in p).pool m e → IsKept p (happens m e)
kept p m (Acts who) h g = acts_kept p m who h
kept p m (Flows n index) h g = lane_flows_kept p m n index h
kept p m (Fails who done) h g = fails_kept p m who done h
kept p m (FlowFails n index done) h g = flow_fails_kept p m n index done h
kept p m (Asks n view call) h g = asks p m n view call h g
kept p m (Tends n task) h g = tends p m n task h g
kept p m (Orders order heirs) h g = order_begins p m order heirs h g
kept p m (Loads s slot) h g = session_loads p m s slot h g
kept p m (Adds n segments) h g = adds p m n segments h g
kept p m (Numbers s) h g = session_numbers p m s h
kept p m (Tells s position) h g = session_told p m s position h g
kept p m (Hints s pairs) h g = session_hinted p m s pairs h
kept p m (Stops n) h g = stops_kept p m n h
kept p m (Closes s) h g = session_closes p m s h g
kept p m (Renews n) h g = merger_renews p m n h
kept p m Drops h g = order_drops p m h

pub sound : (segments : ℕ) (m : Machine) (e : Event) → IsSound segments m → IsGiven segments m e → IsSound segments (happens m e)
sound segments m e h g = sound_after segments m (happens m e) h (kept h.p m e h.at (subst (λ s. IsGiven s m e) (sym h.pool) g))

pub runs : (segments : ℕ) (m : Machine) (es : List Event) → IsSound segments m → IsRun segments m es → IsSound segments (after m es)
runs segments m [] h g = h
runs segments m (e ∷ es) h g = runs segments (happens m e) es (sound segments m e h g.0) g.1
