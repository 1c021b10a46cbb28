use Rattle.std.proofs.Common.{ℕ, zero, suc, ◌+◌, ◌-◌, ◌≡◌, ◌≤◌, Bool, true, false, ◌&&◌, if◌then◌else◌, List, [], ◌∷◌, ◌++◌, Option, Some, None, replicate, nat_lt, nat_le, ◌<◌, slice_get, take, drop, length, refl, sym, ◌∙◌, ap, subst, arith}
use Rattle.std.proofs.Math.Seq.{take-append_seam}
use Rattle.std.proofs.lemmas.Bool.{le-leb, lt-ltb}
use Rattle.dn_hist.specs.Calls.{Bytes}
use Rattle.dn_model.specs.PoolMap.{HoldsMap}
use Rattle.dn_merge.specs.Merge.{Merging, merge_next, merge_turn, merge_after}
use Rattle.dn_merge.specs.declared.mergers.MergeTurn.{MergeTurn}
use Rattle.dn_merge.specs.declared.mergers.MergeTurn.TheVariants as turn
use Rattle.dn_route.specs.CallersOrder.{Told}
use Rattle.dn_callers.specs.Callers.{Standing}
use Rattle.dn_machine.specs.Events.{Merger, Acts, found, acted, of_merger, with_merger}
use Rattle.dn_machine.specs.Runs.{after as run_on}
use Rattle.dn_machine.specs.Sound.{IsSound}
use Rattle.dn_machine.specs.State.{Machine}
use Rattle.dn_cluster.specs.Machine.{machine_of}
use Rattle.dn_cluster.specs.State.{ClusterState, numbered}
use Rattle.dn_drain.specs.Acted.{actions, HasActed}
use Rattle.dn_drain.specs.All.{AreDrained, IsLaneFault, AreMerged}
use Rattle.dn_drain.specs.Drained.{IsDrained, IsFullFault, IsMerged}
use Rattle.dn_drain.specs.declared.drains.DrainFault.{DrainFault}
use Rattle.dn_drain.specs.declared.drains.DrainFault.TheVariants as drain
use Rattle.dn_drain.specs.declared.drains.Merged.{Merged}
use Rattle.dn_drain.specs.declared.every.LaneFault.{LaneFault}
use Rattle.dn_outcomes.specs.Does.{does}
use Rattle.dn_outcomes.specs.Effects.{Effect}
use Rattle.dn_outcomes.specs.Runs.{after, IsRun}
use Rattle.dn_outcomes.specs.Sound.{IsWorld}
use Rattle.dn_outcomes.specs.State.{World, Done, done, with_event, is_made}
use Rattle.dn_outcomes.specs.Steps.{told_by, merges, merge}
use Rattle.dn_outcomes.specs.declared.events.Event.{Event}
use Rattle.dn_outcomes.specs.declared.events.Event.TheVariants as event
use Rattle.dn_outcomes.specs.declared.outcomes.Outcome.TheVariants.{NoLane}
use Rattle.dn_outcomes.proofs.Effects.{EffectOf}
use Rattle.dn_outcomes.proofs.EffectEvents.{effect}
use Rattle.dn_outcomes.proofs.Kept.{kept, runs}
use Rattle.dn_world.specs.Finishes.{AreMerges, Finishes, IsAt, IsFinishFault, fault_by, ended_at, ended_by, HasEnded, HaveEnded}
use Rattle.dn_world.specs.Happens.{CanBeSound}
use Rattle.dn_world.specs.State.{WorldState, world_of}
use Rattle.dn_world.proofs.Changes.{same_world, where_true}
use Rattle.dn_world.proofs.Stepping.{on_made}

-- The mergers act, lane after lane.

-- ---- runs
pub after_append : (w : World) (xs ys : List (Event × List ℕ)) → after w (xs ++ ys) ≡ after (after w xs) ys
after_append w [] ys = refl
after_append w (x ∷ xs) ys = after_append (does w x.0 x.1).world xs ys

run_append : (w : World) (xs ys : List (Event × List ℕ)) → IsRun w xs → IsRun (after w xs) ys → IsRun w (xs ++ ys)
run_append w [] ys h k = k
run_append w (x ∷ xs) ys h k = (h.0, run_append (does w x.0 x.1).world xs ys h.1 k)

-- ---- one lane's merger
abbrev pub merge_of : ℕ → Event × List ℕ
merge_of n = (event.Merge n, [])

abbrev pub with_machine : World → Machine → World
with_machine w m = record w { machine = m }

one_merge : (w : World) (n : ℕ) (o : Option Merging) → w.machine.mergers n ≡ o → (merges w n o).world ≡ with_event w (Acts (Merger n))
one_merge w n None e = sym (ap (λ (o : Option Merging). with_machine w (of_merger w.machine o (λ x. with_merger (acted w.machine (merge_next x)) n (Some (merge_after x (found w.machine (merge_next x))))))) e)
one_merge w n (Some x) e = refl

does_merge : (w : World) (n : ℕ) → is_made w n ≡ true → (does w (event.Merge n) []).world ≡ with_event w (Acts (Merger n))
does_merge w n e = ap (λ (d : Done). d.world) (on_made w n (merge w n) e) ∙ one_merge w n (w.machine.mergers n) refl

pub merges_run : (w : World) (n k : ℕ) → is_made w n ≡ true → after w (replicate k (merge_of n)) ≡ with_machine w (run_on w.machine (actions n k))
merges_run w n zero e = refl
merges_run w n (suc k) e = ap (λ (v : World). after v (replicate k (merge_of n))) (does_merge w n e) ∙ merges_run (with_event w (Acts (Merger n))) n k e

merges_may : (w : World) (n k : ℕ) → IsRun w (replicate k (merge_of n))
merges_may w n zero = tt
merges_may w n (suc k) = (tt, merges_may (does w (event.Merge n) []).world n k)

-- ---- the map
told_map : (w now : World) (held : Bytes) (t : MergeTurn) → Effect w.machine.callers.receipts now held (told_by t) → HoldsMap now.machine.words held
told_map w now held turn.More h = h
told_map w now held (turn.Idle gate mark) h = h
told_map w now held (turn.IndexFull counter) h = h

merges_map : (w : World) (n : ℕ) (held : Bytes) (o : Option Merging) → EffectOf w (merges w n o) held → HoldsMap (merges w n o).world.machine.words held
merges_map w n held None h = h
merges_map w n held (Some x) h = told_map w (with_event w (Acts (Merger n))) held (merge_turn x (found w.machine (merge_next x))) h

lane_map : (w : World) (n : ℕ) (held : Bytes) (b : Bool) → EffectOf w (if b then merge w n else done w NoLane) held → HoldsMap (if b then merge w n else done w NoLane).world.machine.words held
lane_map w n held true h = merges_map w n held (w.machine.mergers n) h
lane_map w n held false h = h

run_map : (w : World) (n k : ℕ) (held : Bytes) → IsWorld w → HoldsMap w.machine.words held → HoldsMap (after w (replicate k (merge_of n))).machine.words held
run_map w n zero held h holds = holds
run_map w n (suc k) held h holds =
    run_map (does w (event.Merge n) []).world n k held (kept w (event.Merge n) [] h tt) (lane_map w n held (is_made w n) (effect w (event.Merge n) [] held h holds))

-- ---- lanes 1 to n
pub are_may : (n : ℕ) (es : List (Event × List ℕ)) (w : World) → AreMerges n es → IsRun w es
are_may zero es w h = subst (λ (xs : List (Event × List ℕ)). IsRun w xs) (sym h) tt
are_may (suc n) es w h = subst (λ (xs : List (Event × List ℕ)). IsRun w xs) (sym h.3)
    (run_append w h.0 (replicate h.1 (merge_of (n + 1))) (are_may n h.0 w h.2) (merges_may (after w h.0) (n + 1) h.1))

pub are_map : (n : ℕ) (es : List (Event × List ℕ)) (w : World) (held : Bytes) → AreMerges n es → IsWorld w → HoldsMap w.machine.words held → HoldsMap (after w es).machine.words held
are_map zero es w held h sound holds = subst (λ (xs : List (Event × List ℕ)). HoldsMap (after w xs).machine.words held) (sym h) holds
are_map (suc n) es w held h sound holds =
    let last : List (Event × List ℕ) = replicate h.1 (merge_of (n + 1)) in
    let mid : World = after w h.0 in
    subst (λ (xs : List (Event × List ℕ)). HoldsMap (after w xs).machine.words held) (sym h.3)
    (subst (λ (v : World). HoldsMap v.machine.words held) (sym (after_append w h.0 last))
    (run_map mid (n + 1) h.1 held (runs w h.0 sound (are_may n h.0 w h.2)) (are_map n h.0 w held h.2 sound holds)))

-- they have acted, one after the other
abbrev pub AreActed : List ℕ → ClusterState → ℕ → List ℕ → ClusterState → Type 0
AreActed words c zero now d = (now ≡ words) × (d ≡ c)
AreActed words c (suc n) now d = (left : List ℕ) × (b : ClusterState) × (count : ℕ) × AreActed words c n left b × HasActed left b now d (n + 1) count

abbrev pub drained_acted : (words : List ℕ) (c : ClusterState) (n : ℕ) (now : List ℕ) (d : ClusterState) → AreDrained words c n now d → AreActed words c n now d
drained_acted words c zero now d h = h
drained_acted words c (suc n) now d h = (h.0, h.1, h.4.count, drained_acted words c n h.0 h.1 h.3, h.4.acted)

pub acted_sound : (words : List ℕ) (c : ClusterState) (n : ℕ) (now : List ℕ) (d : ClusterState) (told : List Told) (receipts : List Standing) → AreActed words c n now d
    → IsSound c.segments (machine_of words c told receipts) → IsSound d.segments (machine_of now d told receipts)
acted_sound words c zero now d told receipts h s =
    subst (λ (x : ClusterState). IsSound x.segments (machine_of now x told receipts)) (sym h.1) (subst (λ (ws : List ℕ). IsSound c.segments (machine_of ws c told receipts)) (sym h.0) s)
acted_sound words c (suc n) now d told receipts h s = (h.4.is told receipts (acted_sound words c n h.0 h.1 told receipts h.3 s)).sound

abbrev pub merges_by : (words : List ℕ) (c : ClusterState) (n : ℕ) (now : List ℕ) (d : ClusterState) → AreActed words c n now d → List (Event × List ℕ)
merges_by words c zero now d h = []
merges_by words c (suc n) now d h = merges_by words c n h.0 h.1 h.3 ++ replicate h.2 (merge_of (n + 1))

are_merges : (words : List ℕ) (c : ClusterState) (n : ℕ) (now : List ℕ) (d : ClusterState) → (h : AreActed words c n now d) → AreMerges n (merges_by words c n now d h)
are_merges words c zero now d h = refl
are_merges words c (suc n) now d h = (merges_by words c n h.0 h.1 h.3, h.2, are_merges words c n h.0 h.1 h.3, refl)

pub lane_made : (w : World) (n : ℕ) → n + 1 ≤ w.made → is_made w (n + 1) ≡ true
lane_made w n le = ap (λ (b : Bool). b && nat_le (n + 1) w.made) (lt-ltb 0 (n + 1) (omega arith)) ∙ le-leb (n + 1) w.made le

pub acted_run : (w : World) (words : List ℕ) (c : ClusterState) (n : ℕ) (now : List ℕ) (d : ClusterState) (told : List Told) (receipts : List Standing) → n ≤ w.made → (h : AreActed words c n now d)
    → IsSound c.segments (machine_of words c told receipts) → after (with_machine w (machine_of words c told receipts)) (merges_by words c n now d h) ≡ with_machine w (machine_of now d told receipts)
acted_run w words c zero now d told receipts le h s = λ i. with_machine w (machine_of (sym h.0 i) (sym h.1 i) told receipts)
acted_run w words c (suc n) now d told receipts le h s =
    let first : World = with_machine w (machine_of words c told receipts) in
    let mid : World = with_machine w (machine_of h.0 h.1 told receipts) in
    let last : List (Event × List ℕ) = replicate h.2 (merge_of (n + 1)) in
    after_append first (merges_by words c n h.0 h.1 h.3) last
    ∙ ap (λ (v : World). after v last) (acted_run w words c n h.0 h.1 told receipts (omega (arith, le)) h.3 s)
    ∙ merges_run mid (n + 1) h.2 (lane_made mid n (omega (arith, le)))
    ∙ ap (λ (m : Machine). with_machine w m) (sym (h.4.is told receipts (acted_sound words c n h.0 h.1 told receipts h.3 s)).so)

-- ---- of a world
pub record Stays (w v : WorldState) : Type 0 where
  pub segments : v.crew.cluster.segments ≡ w.crew.cluster.segments
  pub lanes : length v.crew.cluster.nodes ≡ length w.crew.cluster.nodes
  pub waiting : v.crew.waiting ≡ w.crew.waiting
  pub live : v.crew.live ≡ w.crew.live
  pub history : v.history ≡ w.history

pub finished : (words : List ℕ) (w : WorldState) (now : List ℕ) (v : WorldState) (n : ℕ) → CanBeSound words w → Stays w v → n ≤ length w.crew.cluster.nodes → AreActed words w.crew.cluster n now v.crew.cluster → Finishes words w now v n
finished words w now v n can stays le h =
    let es : List (Event × List ℕ) = merges_by words w.crew.cluster n now v.crew.cluster h in
    let merged : AreMerges n es = are_merges words w.crew.cluster n now v.crew.cluster h in
    let so : (told : List Told) → IsWorld (world_of words w.crew told w.history) → world_of now v.crew told v.history ≡ after (world_of words w.crew told w.history) es =
    λ told sound.
    let b : World = world_of words w.crew told w.history in
    same_world (world_of now v.crew told v.history) (with_machine b (machine_of now v.crew.cluster told w.history)) (record {
      segments = stays.segments;
      made = stays.lanes;
      machine = ap (λ (rs : List Standing). machine_of now v.crew.cluster told rs) stays.history;
      waiting = stays.waiting;
      live = stays.live;
    })
    ∙ sym (acted_run b words w.crew.cluster n now v.crew.cluster told w.history le h sound.machine) in
    record {
      es = es;
      merges = merged;
      is = λ told sound.
          let b : World = world_of words w.crew told w.history in
          record {
            world = so told sound;
            sound = subst IsWorld (sym (so told sound)) (runs b es sound (are_may n es b merged));
          };
      map = λ held holds.
          let b : World = world_of words w.crew can.told w.history in
          subst (λ (x : World). HoldsMap x.machine.words held) (sym (so can.told can.sound)) (are_map n es b held merged can.sound holds);
    }

-- the last of them ended at a full index
fault_acted : (words : List ℕ) (c : ClusterState) (n lane : ℕ) (left now : List ℕ) (b d : ClusterState) (end : MergeTurn) → n + 1 ≡ lane → AreDrained words c n left b → IsDrained left b now d lane end → AreActed words c lane now d
fault_acted words c n lane left now b d end next h k =
    let P : ℕ → Type 0 = λ i. AreActed words c i now d in
    let same : suc n ≡ lane = omega (arith, next) in
    subst P same (left, b, k.count, drained_acted words c n left b h, subst (λ (i : ℕ). HasActed left b now d i k.count) (sym next) k.acted)

pub faulted : (words : List ℕ) (w : WorldState) (now : List ℕ) (v : WorldState) (at : LaneFault) → CanBeSound words w → Stays w v → IsLaneFault words w.crew.cluster now v.crew.cluster at → IsFullFault now at.lane at.fault
    → IsFinishFault words w now v (fault_by at.fault)
faulted words w now v at can stays h full = by_fault at.fault h full where
  by_fault : (k : DrainFault) → IsAt words w now v at.lane k → IsFullFault now at.lane k → IsFinishFault words w now v (fault_by k)
  by_fault drain.Pool e f = record { lane = at.lane; at = e }
  by_fault (drain.IndexFull counter) e f = record {
    lane = at.lane;
    at = e;
    finishes = finished words w now v at.lane can stays (omega (arith, e.made.1, stays.lanes))
        (fault_acted words w.crew.cluster e.before at.lane e.left now e.cluster v.crew.cluster (turn.IndexFull counter) e.next e.drained e.fault);
    full = f;
  }

-- ---- what each lane has ended with
-- as many as there is place for
pub filled : (n : ℕ) (xs ys : List Merged) → length xs ≡ n → take n (xs ++ drop (length xs) ys) ≡ xs
filled n xs ys e = ap (λ (k : ℕ). take k (xs ++ drop (length xs) ys)) (sym e) ∙ take-append_seam xs (drop (length xs) ys)

got : {A : Type 0} (xs : List A) (k : ℕ) → k < length xs → (x : A) × (slice_get xs k ≡ Some x)
got [] k lt = absurd (omega (arith, lt))
got (x ∷ xs) zero lt = (x, refl)
got (x ∷ xs) (suc k) lt = got xs k (omega (arith, lt))

numbered_is : (ended : List Merged) (k : ℕ) → numbered ended (k + 1) ≡ slice_get ended k
numbered_is ended k =
    let same : k + 1 - 1 ≡ k = omega arith in
    where_true (nat_lt 0 (k + 1)) (slice_get ended (k + 1 - 1)) None (lt-ltb 0 (k + 1) (omega arith)) ∙ ap (λ (i : ℕ). slice_get ended i) same

has_ended : (words : List ℕ) (n k : ℕ) (ended : List Merged) → AreMerged words n ended → length ended ≡ n → k < n → HasEnded words (k + 1) (ended_at ended (k + 1))
has_ended words n k ended h many lt =
    let x = got ended k (omega (arith, lt, many)) in
    let m : IsMerged words (k + 1) x.0 = h.each k x.0 lt x.1 in
    subst (λ (e : ℕ × ℕ). HasEnded words (k + 1) e) (sym (ap ended_by (numbered_is ended k ∙ x.1))) (record { gate_is = m.gate_is; mark_is = m.mark_is; all = m.all })

pub have_ended : (words : List ℕ) (n : ℕ) (ended : List Merged) → AreMerged words n ended → length ended ≡ n → HaveEnded words n ended
have_ended words n ended h many = record { each = λ k one most. each k one most } where
  each : (k : ℕ) → 1 ≤ k → k ≤ n → HasEnded words k (ended_at ended k)
  each zero one most = absurd (omega (arith, one))
  each (suc k) one most =
      let next : k + 1 ≡ suc k = omega arith in
      subst (λ (i : ℕ). HasEnded words i (ended_at ended i)) next (has_ended words n k ended h many (omega (arith, most)))
