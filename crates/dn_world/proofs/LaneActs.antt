use Rattle.std.proofs.Common.{ℕ, ◌≡◌, ◌++◌, List, [], Option, Some, None, refl, sym, ◌∙◌, ap}
use Rattle.std.proofs.lemmas.List.{append-nil}
use Rattle.dn_act.specs.declared.actions.Action.{Action}
use Rattle.dn_hist.specs.declared.receipts.Receipt.{Receipt}
use Rattle.dn_route.specs.CallersOrder.{Told}
use Rattle.dn_callers.specs.Callers.{Standing}
use Rattle.dn_lane.specs.Next.{next_of}
use Rattle.dn_lane.specs.State.{LaneState}
use Rattle.dn_lane.specs.Turns.{turn_of}
use Rattle.dn_lane.specs.declared.answers.Turn.{Turn}
use Rattle.dn_lanes.specs.Stepped.{receipt_by}
use Rattle.dn_machine.specs.Events.{Lane, Acts, found, lane_does, of_lane}
use Rattle.dn_cluster.specs.Acting.{lane_answer, lane_found, standing_of}
use Rattle.dn_cluster.specs.Machine.{lane_in}
use Rattle.dn_cluster.specs.State.{ClusterState, numbered}
use Rattle.dn_cluster.specs.declared.actors.Acted.{Acted}
use Rattle.dn_cluster.specs.declared.actors.Acted.TheVariants as acted
use Rattle.dn_outcomes.specs.State.{World, Done, done, with_event}
use Rattle.dn_outcomes.specs.Steps.{by_turn, acts_by, acts_of, acts}
use Rattle.dn_outcomes.specs.declared.outcomes.Outcome.TheVariants.{Nothing}
use Rattle.dn_world.specs.Comes.{Came, Moves, Carries, bare, joining}
use Rattle.dn_world.specs.State.{CrewState, world_of}
use Rattle.dn_world.proofs.Refreshing.{IsActed, acted_world}
use Rattle.dn_world.proofs.Changes.{is_done}

-- A lane carries out its next action.

pub joining_is : (o : Option Receipt) → standing_of o ≡ joining o
joining_is None = refl
joining_is (Some r) = refl

-- ---- what it answers
found_as : (w : World) (n : ℕ) (l : LaneState) (a : Option Action) (turn : Turn) → acted.Lane turn ≡ lane_found w.machine.words l a → acts_by w n l a ≡ by_turn (with_event w (Acts (Lane n))) n turn
found_as w n l None turn e = absurd (cc e)
found_as w n l (Some action) turn e = (let same : turn_of l (found w.machine action) ≡ turn = cc in ap (λ (t : Turn). by_turn (with_event w (Acts (Lane n))) n t) same)

pub acts_as : (w : World) (n : ℕ) (o : Option LaneState) (turn : Turn) → acted.Lane turn ≡ lane_answer w.machine.words o → acts_of w n o ≡ by_turn (with_event w (Acts (Lane n))) n turn
acts_as w n None turn e = absurd (cc e)
acts_as w n (Some l) turn e = found_as w n l (next_of l) turn e

pub lane_turned : (words : List ℕ) (x : CrewState) (now : List ℕ) (k : ClusterState) (y : CrewState) (n : ℕ) (turn : Turn) (came : Came)
    → IsActed words x now (record x { cluster = k }) (standing_of (receipt_by turn)) (Acts (Lane n)) → acted.Lane turn ≡ lane_answer words (lane_in (numbered x.cluster.nodes n))
    → came.receipt ≡ receipt_by turn → Moves now (record x { cluster = k }) now y (bare came.outcome) (λ w. by_turn w n turn) → Carries words x now y came (λ w. acts w n)
lane_turned words x now k y n turn came h answer joins by = record {
  is = λ told receipts sound.
      let w : World = world_of words x told receipts in
      let rs : List Standing = receipts ++ standing_of (receipt_by turn) in
      let b : World = world_of now (record x { cluster = k }) told rs in
      let e : b ≡ with_event w (Acts (Lane n)) = acted_world words x now (record x { cluster = k }) _ (Acts (Lane n)) h told receipts sound in
      let r : acts w n ≡ by_turn b n turn = acts_as w n (lane_in (numbered x.cluster.nodes n)) turn answer ∙ sym (ap (λ (z : World). by_turn z n turn) e) in
      let heard : List Told = (by_turn b n turn).world.machine.callers.told in
      let d = by.is told rs in
      let joined : rs ++ [] ≡ receipts ++ joining came.receipt = append-nil rs ∙ ap (λ (ss : List Standing). receipts ++ ss) (joining_is (receipt_by turn) ∙ ap joining (sym joins)) in
      is_done words x now y came (λ z. acts z n) told receipts heard
      (ap (λ (z : Done). z.world) r ∙ d.world ∙ ap (λ (ss : List Standing). world_of now y heard ss) joined)
      (d.outcome ∙ sym (ap (λ (z : Done). z.outcome) r));
}

-- ---- it has no next action
pub record LaneRests (w : World) (n : ℕ) (o : Option LaneState) (a : Acted) : Type 0 where
  pub is : a ≡ acted.Nothing
  pub nothing : acts_of w n o ≡ done w Nothing
  pub same : of_lane w.machine o (λ l. lane_does w.machine n l (next_of l)) ≡ w.machine

found_rests : (w : World) (n : ℕ) (l : LaneState) (p : Option Action) (a : Acted) → ((turn : Turn) → a ≡ acted.Lane turn → ⊥) → a ≡ lane_found w.machine.words l p
    → (a ≡ acted.Nothing) × (acts_by w n l p ≡ done w Nothing) × (lane_does w.machine n l p ≡ w.machine)
found_rests w n l None a h e = (e, refl, refl)
found_rests w n l (Some action) a h e = absurd (h _ e)

pub lane_rests : (w : World) (n : ℕ) (o : Option LaneState) (a : Acted) → ((turn : Turn) → a ≡ acted.Lane turn → ⊥) → a ≡ lane_answer w.machine.words o → LaneRests w n o a
lane_rests w n None a h e = record { is = e; nothing = refl; same = refl }
lane_rests w n (Some l) a h e = (let f = found_rests w n l (next_of l) a h e in record { is = f.0; nothing = f.1; same = f.2 })
