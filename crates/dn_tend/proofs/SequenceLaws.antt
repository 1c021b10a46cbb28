use Rattle.std.proofs.Common.{ℕ, ◌+◌, ◌-◌, ◌^◌, ◌==◌, max, nat_lt, Option, Some, None, Bool, true, false, if◌then◌else◌, refl}
use Rattle.dn_word.specs.Cell.{cell_word}
use Rattle.dn_word.specs.Deed.{deed_of, deed_word}
use Rattle.dn_word.specs.Gate.{gate_of}
use Rattle.dn_word.specs.declared.packed.deed.DeedState.TheVariants.{Released as GivenUp}
use Rattle.dn_word.specs.declared.packed.place.Ref.{Ref}
use Rattle.dn_act.specs.declared.actions.Action.TheVariants.{Load, Cas, Add}
use Rattle.dn_model.specs.Regions.{deed_at}
use Rattle.dn_word.specs.Regions.{cell_counter_at, cell_at}
use Rattle.dn_plan.specs.Plan.{is_owner}
use Rattle.dn_plan.specs.declared.results.Effect.TheVariants as effect
use Rattle.dn_tend.specs.Tend.{acts, rooms, seals, ends, goes, barred, asks_to_leave, cell_in, unshare_seal, shares, closes as closing, cell_met, located_in}
use Rattle.dn_tend.specs.Plan.{tending, begun}
use Rattle.dn_tend.specs.Program.{TaskPlan, Return, Learn, Do, Locate, FindRoom, Follows, CarriesOut}
use Rattle.dn_tend.specs.Sequence.{names, claims, share_gate, share_found, unshares, closes, meets_cell, unshare_gate, unshare_found, task_plan}
use Rattle.dn_tend.specs.declared.tasks.Task.{Task}
use Rattle.dn_tend.specs.declared.tasks.Task.TheVariants as task
use Rattle.dn_tend.specs.declared.tasks.TaskAnswer.TheVariants.{Released, NotLeaving, NotOwner, Fenced, Again, NoCell, Worn}
use Rattle.dn_tend.specs.declared.tasks.TendFound.{TendFound}
use Rattle.dn_tend.specs.declared.tasks.TendFound.TheVariants as found
use Rattle.dn_tend.specs.declared.phases.Share.{Share}
use Rattle.dn_tend.specs.declared.phases.Unshare.{Unshare}
use Rattle.dn_tend.specs.declared.phases.TendAct.TheVariants as at
use Rattle.dn_tend.specs.declared.phases.TendLocate.{TendLocate}
use Rattle.dn_tend.specs.declared.phases.TendLocate.TheVariants as locate
use Rattle.dn_tend.specs.declared.phases.TendRoom.TheVariants as find
use Rattle.dn_tend.specs.declared.phases.TendNext.{TendNext}
use Rattle.dn_tend.specs.declared.phases.TendNext.TheVariants as next
use Rattle.dn_tend.specs.declared.phases.TendTurn.{TendTurn}

-- a task that comes to this turn follows the plan
abbrev Comes : ℕ → TaskPlan → TendTurn → Type 0
Comes lane plan turn = Follows plan turn.effect (tending lane turn.next)

-- an exchange, by whether it was done
exchanged_by : (lane old seen : ℕ) (plan : TaskPlan) (to : TendNext) (same : Bool) → Comes lane plan (goes to)
    → Comes lane (if same then plan else Return (Again old seen)) (goes (if same then to else ends (Again old seen)))
exchanged_by lane old seen plan to true h = h
exchanged_by lane old seen plan to false h = (refl, refl)

-- a count of cells, by whether it is below their number
counted_by : (lane counter : ℕ) (plan : TaskPlan) (to : TendNext) (below : Bool) → Comes lane plan (goes to)
    → Comes lane (if below then plan else Return (NoCell counter)) (goes (if below then to else ends (NoCell counter)))
counted_by lane counter plan to true h = h
counted_by lane counter plan to false h = (refl, refl)

-- a gate, by its bit
gated_by : (lane gate : ℕ) (plan : TaskPlan) (turn : TendTurn) (fenced : Bool) → Comes lane plan turn
    → Comes lane (if fenced then Learn (effect.Bar gate) (Return (Fenced gate)) else plan) (if fenced then barred gate else turn)
gated_by lane gate plan turn true h = (refl, (refl, refl))
gated_by lane gate plan turn false h = h

-- a stamp, by whether it is the last one
worn_by : (lane : ℕ) (plan : TaskPlan) (to : TendNext) (last : Bool) → Comes lane plan (goes to)
    → Comes lane (if last then Return (Worn (2 ^ 31 - 1)) else plan) (goes (if last then ends (Worn (2 ^ 31 - 1)) else to))
worn_by lane plan to true h = (refl, refl)
worn_by lane plan to false h = h

-- ---- a release
leave_by : (lane slot deed : ℕ) (asks : Bool)
    → Follows (if asks
    then Do (Cas (deed_at slot) deed (deed_word (record (deed_of deed) { state = GivenUp })))
    (λ seen. if seen == deed then Return Released else Return (Again deed seen))
    else Return (NotLeaving deed)) None (tending lane (if asks then acts (at.GiveUp slot deed) else ends (NotLeaving deed)))
leave_by lane slot deed true = (refl, refl, λ seen. exchanged_by lane deed seen (Return Released) (ends Released) (seen == deed) (refl, refl))
leave_by lane slot deed false = (refl, refl)

-- ---- a Share
names_come : (lane cell : ℕ) (s : Share) → Comes lane (names s.key s.gate s.opening cell) (goes (acts (at.Name s cell)))
names_come lane cell s = (refl, refl, λ old. (refl, refl, (refl, refl, λ found. (refl, refl))))

claim_comes : (lane : ℕ) (s : Share) → Comes lane (claims s.key s.gate s.opening) (goes (acts (at.Count s)))
claim_comes lane s = (
  refl,
  refl,
  λ counter.
      counted_by lane counter (Do (Add cell_counter_at 1) (λ cell. if nat_lt cell 256 then names s.key s.gate s.opening cell else Return (NoCell cell)))
      (acts (at.Claim s)) (nat_lt counter 256)
      (refl, refl, λ cell. counted_by lane cell (names s.key s.gate s.opening cell) (acts (at.Name s cell)) (nat_lt cell 256) (names_come lane cell s)),
)

share_gate_comes : (lane key look : ℕ) (place : Option Ref)
    → Comes lane (share_gate lane key (deed_of look).floor place) (goes (acts (at.ShareGate key look place)))
share_gate_comes lane key look place = (
  refl,
  refl,
  λ gate.
      let s : Share = record { key = key; look = look; gate = gate; opening = cell_word (record { closed = false; stamp = max (gate_of gate).stamp (deed_of look).floor + 1; at = place }) } in
      gated_by lane gate
      (if max (gate_of gate).stamp (deed_of look).floor == 2 ^ 31 - 1 then Return (Worn (2 ^ 31 - 1)) else FindRoom (claims key gate s.opening))
      (goes (shares key look (max (gate_of gate).stamp (deed_of look).floor) place gate)) (gate_of gate).fenced
      (worn_by lane (FindRoom (claims key gate s.opening)) (rooms (find.Share s)) (max (gate_of gate).stamp (deed_of look).floor == 2 ^ 31 - 1) (refl, refl, claim_comes lane s)),
)

share_found_comes : (lane key look : ℕ) (f : TendFound)
    → Comes lane (share_found lane key (deed_of look).floor f) (goes (next.After (located_in (locate.Share key look) f)))
share_found_comes lane key look found.Nothing = share_gate_comes lane key look None
share_found_comes lane key look (found.At place) = share_gate_comes lane key look (Some place)
share_found_comes lane key look (found.Shared cell opening) = (refl, refl)

-- ---- an Unshare
closes_by : (lane gate stamp seen : ℕ) (u : Unshare) (closed : Bool)
    → Comes lane (if closed then unshares gate stamp (cell_in u.opening seen)
    else Do (Cas (cell_at u.cell) seen (cell_word (record (cell_in u.opening seen) { closed = true })))
    (λ found. if found == seen then unshares gate stamp (cell_in u.opening seen) else Return (Again seen found)))
    (goes (if closed then seals (unshare_seal u gate seen stamp) else acts (at.Close u gate seen stamp)))
closes_by lane gate stamp seen u true = (refl, refl, (refl, refl))
closes_by lane gate stamp seen u false = (
  refl,
  refl,
  λ found.
      exchanged_by lane seen found (unshares gate stamp (cell_in u.opening seen)) (seals (unshare_seal u gate seen stamp)) (found == seen)
      (refl, refl, (refl, refl)),
)

cell_comes : (lane gate seen : ℕ) (u : Unshare)
    → Comes lane (meets_cell (deed_of u.look).floor gate u.cell seen (cell_in u.opening seen)) (goes (cell_met u gate seen))
cell_comes lane gate seen u =
    let stamp : ℕ = max (max (gate_of gate).stamp (deed_of u.look).floor) (cell_in u.opening seen).stamp in
    worn_by lane (closes gate (stamp + 1) u.cell seen (cell_in u.opening seen)) (closing u gate seen (stamp + 1)) (stamp == 2 ^ 31 - 1)
    (closes_by lane gate (stamp + 1) seen u (cell_in u.opening seen).closed)

unshare_gate_comes : (lane : ℕ) (u : Unshare) → Comes lane (unshare_gate lane (deed_of u.look).floor u.cell u.opening) (goes (acts (at.UnshareGate u)))
unshare_gate_comes lane u = (
  refl,
  refl,
  λ gate.
      gated_by lane gate (FindRoom (Do (Load (cell_at u.cell)) (λ seen. meets_cell (deed_of u.look).floor gate u.cell seen (cell_in u.opening seen))))
      (goes (rooms (find.Unshare u gate))) (gate_of gate).fenced
      (refl, refl, (refl, refl, λ seen. cell_comes lane gate seen u)),
)

unshare_found_comes : (lane key look : ℕ) (f : TendFound)
    → Comes lane (unshare_found lane (deed_of look).floor f) (goes (next.After (located_in (locate.Unshare key look) f)))
unshare_found_comes lane key look found.Nothing = (refl, refl)
unshare_found_comes lane key look (found.At place) = (refl, refl)
unshare_found_comes lane key look (found.Shared cell opening) =
    unshare_gate_comes lane (record { key = key; look = look; cell = cell; opening = opening })

-- ---- a look
looked_by : (lane look : ℕ) (behind : TendFound → TaskPlan) (phase : TendLocate) (owner : Bool)
    → ((f : TendFound) → Comes lane (behind f) (goes (next.After (located_in phase f))))
    → Follows (if owner then Locate behind else Return (NotOwner look)) None (tending lane (if owner then next.Locate phase else ends (NotOwner look)))
looked_by lane look behind phase true h = (refl, refl, h)
looked_by lane look behind phase false h = (refl, refl)

follows_of : (lane : ℕ) (t : Task) → Follows (task_plan lane t) None (begun lane t)
follows_of lane (task.Release slot) = (refl, refl, λ deed. (refl, leave_by lane slot deed (asks_to_leave lane deed)))
follows_of lane task.Trim = (refl, refl, λ mark. (refl, (refl, refl)))
follows_of lane (task.Share key) = (
  refl,
  refl,
  λ look. (
    refl,
    looked_by lane look (λ f. share_found lane key (deed_of look).floor f) (locate.Share key look) (is_owner lane look)
        (λ f. share_found_comes lane key look f),
  ),
)
follows_of lane (task.Unshare key) = (
  refl,
  refl,
  λ look. (
    refl,
    looked_by lane look (λ f. unshare_found lane (deed_of look).floor f) (locate.Unshare key look) (is_owner lane look)
        (λ f. unshare_found_comes lane key look f),
  ),
)

-- a task that begins runs its whole plan
pub task_runs : (lane : ℕ) (t : Task) → CarriesOut (begun lane t) (task_plan lane t)
task_runs lane t = record { follows = follows_of lane t }
