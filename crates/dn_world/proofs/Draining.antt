use Rattle.std.proofs.Common.{ℕ, zero, suc, ◌+◌, ◌≡◌, ◌≤◌, ◌<◌, inl, inr, List, ◌++◌, replicate, length, refl, sym, ◌∙◌, ap, subst, true, arith}
use Rattle.std.proofs.lemmas.Bool.{cases_eq, cases_lt}
use Rattle.dn_merge.specs.declared.mergers.MergeTurn.{MergeTurn}
use Rattle.dn_merge.specs.declared.mergers.MergeTurn.TheVariants as turn
use Rattle.dn_route.specs.CallersOrder.{Told}
use Rattle.dn_callers.specs.Callers.{Standing}
use Rattle.dn_machine.specs.Sound.{IsSound}
use Rattle.dn_machine.specs.State.{Machine}
use Rattle.dn_cluster.specs.Machine.{machine_of}
use Rattle.dn_cluster.specs.State.{ClusterState}
use Rattle.dn_drain.specs.All.{AreDrained, IsLaneFault}
use Rattle.dn_drain.specs.Drained.{idle_of}
use Rattle.dn_drain.specs.Ends.{Drains}
use Rattle.dn_drain.specs.declared.drains.DrainFault.TheVariants as drain
use Rattle.dn_drain.specs.declared.drains.Merged.{Merged}
use Rattle.dn_drain.proofs.Determined.{one_end}
use Rattle.dn_outcomes.specs.Runs.{after}
use Rattle.dn_outcomes.specs.Sound.{IsWorld}
use Rattle.dn_outcomes.specs.State.{World, is_made}
use Rattle.dn_outcomes.specs.declared.events.Event.{Event}
use Rattle.dn_world.specs.Drains.{alone_of, DrainsLane, DrainsLanes, DrainsAll, FillsIndex}
use Rattle.dn_world.specs.State.{WorldState, world_of}
use Rattle.dn_world.proofs.Finishing.{merge_of, with_machine, after_append, merges_run, AreActed, drained_acted, acted_sound, merges_by, lane_made, acted_run}

-- How far the mergers go that finish a world.

-- ---- they have drained lanes 1 to n
abbrev pub drains_by : (words : List ℕ) (c : ClusterState) (n : ℕ) (now : List ℕ) (d : ClusterState) → AreDrained words c n now d → List (Event × List ℕ)
drains_by words c n now d h = merges_by words c n now d (drained_acted words c n now d h)

pub drains_lanes : (w : World) (words : List ℕ) (c : ClusterState) (n : ℕ) (now : List ℕ) (d : ClusterState) (told : List Told) (receipts : List Standing) → n ≤ w.made → (h : AreDrained words c n now d)
    → IsSound c.segments (machine_of words c told receipts) → DrainsLanes (with_machine w (machine_of words c told receipts)) n (drains_by words c n now d h)
drains_lanes w words c zero now d told receipts le h s = refl
drains_lanes w words c (suc n) now d told receipts le h s =
    let first : World = with_machine w (machine_of words c told receipts) in
    let acted : AreActed words c n h.0 h.1 = drained_acted words c n h.0 h.1 h.3 in
    let led : after first (merges_by words c n h.0 h.1 acted) ≡ with_machine w (machine_of h.0 h.1 told receipts) = acted_run w words c n h.0 h.1 told receipts (omega (arith, le)) acted s in (
      merges_by words c n h.0 h.1 acted,
      h.2,
      drains_lanes w words c n h.0 h.1 told receipts (omega (arith, le)) h.3 s,
      record {
        count = h.4.count;
        drains = subst (λ (v : World). Drains (alone_of v (n + 1)) h.4.count (idle_of h.2)) (sym led) h.4.drains;
        events = refl;
      },
    )

pub drains_all : (words : List ℕ) (w : WorldState) (now : List ℕ) (d : ClusterState) (told : List Told) → IsWorld (world_of words w.crew told w.history)
    → AreDrained words w.crew.cluster (length w.crew.cluster.nodes) now d → DrainsAll (world_of words w.crew told w.history) now
drains_all words w now d told sound h =
    let b : World = world_of words w.crew told w.history in
    let n : ℕ = length w.crew.cluster.nodes in record {
      es = drains_by words w.crew.cluster n now d h;
      drains = drains_lanes b words w.crew.cluster n now d told w.history (omega arith) h sound.machine;
      words = ap (λ (v : World). v.machine.words) (acted_run b words w.crew.cluster n now d told w.history (omega arith) (drained_acted words w.crew.cluster n now d h) sound.machine);
    }

-- ---- the last of them finds the index full
pub fills_index : (words : List ℕ) (w : WorldState) (now : List ℕ) (d : ClusterState) (told : List Told) (lane counter : ℕ) → IsWorld (world_of words w.crew told w.history) → lane ≤ length w.crew.cluster.nodes
    → IsLaneFault words w.crew.cluster now d (record { lane = lane; fault = drain.IndexFull counter }) → FillsIndex (world_of words w.crew told w.history) lane counter now
fills_index words w now d told lane counter sound le f =
    let b : World = world_of words w.crew told w.history in
    let c : ClusterState = w.crew.cluster in
    let lower : f.before ≤ length w.crew.cluster.nodes = omega (arith, le, f.next) in
    let acted : AreActed words c f.before f.left f.cluster = drained_acted words c f.before f.left f.cluster f.drained in
    let es : List (Event × List ℕ) = drains_by words c f.before f.left f.cluster f.drained in
    let mid : World = with_machine b (machine_of f.left f.cluster told w.history) in
    let led : after b es ≡ mid = acted_run b words c f.before f.left f.cluster told w.history lower acted sound.machine in
    let made : is_made mid lane ≡ true = subst (λ (k : ℕ). is_made mid k ≡ true) f.next (lane_made mid f.before (omega (arith, le, f.next))) in
    let last : List (Event × List ℕ) = replicate f.fault.count (merge_of lane) in
    let still : IsSound f.cluster.segments (machine_of f.left f.cluster told w.history) = acted_sound words c f.before f.left f.cluster told w.history acted sound.machine in record {
      before = f.before;
      next = f.next;
      most = le;
      drained = es;
      drains = drains_lanes b words c f.before f.left f.cluster told w.history lower f.drained sound.machine;
      es = es ++ last;
      fills = record {
        count = f.fault.count;
        drains = subst (λ (v : World). Drains (alone_of v lane) f.fault.count (turn.IndexFull counter)) (sym led) f.fault.drains;
        events = refl;
      };
      words = ap (λ (v : World). v.machine.words) (after_append b es last ∙ ap (λ (v : World). after v last) led ∙ merges_run mid lane f.fault.count made
          ∙ ap (λ (m : Machine). with_machine b m) (sym (f.fault.acted.is told w.history still).so));
    }

-- ---- The world determines what they do.
same_lane : (w : World) (n : ℕ) (a b es fs : List (Event × List ℕ)) (e f : MergeTurn) → a ≡ b → DrainsLane w n a es e → DrainsLane w n b fs f → (es ≡ fs) × (e ≡ f)
same_lane w n a b es fs e f same h k =
    let one = one_end (alone_of (after w b) n) h.count k.count e f (subst (λ (xs : List (Event × List ℕ)). Drains (alone_of (after w xs) n) h.count e) same h.drains) k.drains in
    (h.events ∙ ap (λ (xs : List (Event × List ℕ)). xs ++ replicate h.count (merge_of n)) same ∙ ap (λ (i : ℕ). b ++ replicate i (merge_of n)) one.0 ∙ sym k.events, one.1)

same_lanes : (w : World) (n : ℕ) (es fs : List (Event × List ℕ)) → DrainsLanes w n es → DrainsLanes w n fs → es ≡ fs
same_lanes w zero es fs h k = h ∙ sym k
same_lanes w (suc n) es fs h k = (same_lane w (n + 1) h.0 k.0 es fs (idle_of h.1) (idle_of k.1) (same_lanes w n h.0 k.0 h.2 k.2) h.3 k.3).0

pub same_all : (w : World) (now fin : List ℕ) → DrainsAll w now → DrainsAll w fin → now ≡ fin
same_all w now fin h k = sym h.words ∙ ap (λ (xs : List (Event × List ℕ)). (after w xs).machine.words) (same_lanes w w.made h.es k.es h.drains k.drains) ∙ k.words

-- a lane that is drained ends at no full index
not_full : (merged : Merged) (counter : ℕ) → idle_of merged ≡ turn.IndexFull counter → ⊥
not_full merged counter e = cc e

not_drained : (w : World) (n m : ℕ) (es before fs : List (Event × List ℕ)) (counter : ℕ) → m < n → DrainsLanes w n es → DrainsLanes w m before → DrainsLane w (m + 1) before fs (turn.IndexFull counter) → ⊥
not_drained w zero m es before fs counter lt h k full = omega (arith, lt)
not_drained w (suc n) m es before fs counter lt h k full = elim (cases_eq m n) [
  | inl e ↦ (let before_is : h.0 ≡ before = same_lanes w n h.0 before h.2 (subst (λ (i : ℕ). DrainsLanes w i before) e k) in
      let last : DrainsLane w (n + 1) before fs (turn.IndexFull counter) = subst (λ (i : ℕ). DrainsLane w (i + 1) before fs (turn.IndexFull counter)) e full in
      not_full h.1 counter (same_lane w (n + 1) h.0 before es fs (idle_of h.1) (turn.IndexFull counter) before_is h.3 last).1)
  | inr d ↦ not_drained w n m h.0 before fs counter (omega (arith, lt, d)) h.2 k full
]

full_at : (w : World) (lane counter : ℕ) (now : List ℕ) → (h : FillsIndex w lane counter now) → DrainsLane w (h.before + 1) h.drained h.es (turn.IndexFull counter)
full_at w lane counter now h = subst (λ (k : ℕ). DrainsLane w k h.drained h.es (turn.IndexFull counter)) (sym h.next) h.fills

pub fills_not_all : (w : World) (lane counter : ℕ) (now fin : List ℕ) → FillsIndex w lane counter now → DrainsAll w fin → ⊥
fills_not_all w lane counter now fin h k =
    not_drained w w.made h.before k.es h.drained h.es counter (omega (arith, h.next, h.most)) k.drains h.drains (full_at w lane counter now h)

not_lower : (w : World) (lane higher counter other : ℕ) (now fin : List ℕ) → lane < higher → FillsIndex w lane counter now → FillsIndex w higher other fin → ⊥
not_lower w lane higher counter other now fin lt h k =
    not_drained w k.before h.before k.drained h.drained h.es counter (omega (arith, lt, h.next, k.next)) k.drains h.drains (full_at w lane counter now h)

same_filled : (w : World) (lane higher counter other : ℕ) (now fin : List ℕ) → FillsIndex w lane counter now → FillsIndex w higher other fin → lane ≡ higher
same_filled w lane higher counter other now fin h k = elim (cases_eq lane higher) [
  | inl e ↦ e
  | inr d ↦ elim (cases_lt lane higher) [
    | inl lt ↦ absurd (not_lower w lane higher counter other now fin lt h k)
    | inr le ↦ absurd (not_lower w higher lane other counter fin now (omega (arith, le, d)) k h)
  ]
]

same_words : (w : World) (lane counter other : ℕ) (now fin : List ℕ) → FillsIndex w lane counter now → FillsIndex w lane other fin → now ≡ fin
same_words w lane counter other now fin h k =
    let same : h.before ≡ k.before = omega (arith, h.next, k.next) in
    let before : h.drained ≡ k.drained = same_lanes w k.before h.drained k.drained (subst (λ (i : ℕ). DrainsLanes w i h.drained) same h.drains) k.drains in
    let events : h.es ≡ k.es = (same_lane w lane h.drained k.drained h.es k.es (turn.IndexFull counter) (turn.IndexFull other) before h.fills k.fills).0 in
    sym h.words ∙ ap (λ (xs : List (Event × List ℕ)). (after w xs).machine.words) events ∙ k.words

pub same_full : (w : World) (lane higher counter other : ℕ) (now fin : List ℕ) → FillsIndex w lane counter now → FillsIndex w higher other fin → now ≡ fin
same_full w lane higher counter other now fin h k =
    same_words w higher counter other now fin (subst (λ (i : ℕ). FillsIndex w i counter now) (same_filled w lane higher counter other now fin h k) h) k
