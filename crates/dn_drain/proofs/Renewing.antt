use Rattle.std.proofs.Common.{ℕ, zero, suc, ◌≡◌, Bool, true, false, List, Option, Some, sym, ◌∙◌, ap, subst}
use Rattle.dn_merge.specs.Merge.{Merging, started, merge_next}
use Rattle.dn_route.specs.CallersOrder.{Told}
use Rattle.dn_callers.specs.Callers.{Standing}
use Rattle.dn_machine.specs.State.{Machine}
use Rattle.dn_machine.specs.Events.{Merger, Fails, Renews, acted_if, with_merger, of_merger, happens}
use Rattle.dn_machine.specs.Sound.{IsSound}
use Rattle.dn_machine.proofs.Kept.{sound}
use Rattle.dn_cluster.specs.State.{ClusterState}
use Rattle.dn_cluster.specs.Does.{Does, FailsAs}
use Rattle.dn_cluster.specs.Machine.{machine_of, IsMade}
use Rattle.dn_cluster.proofs.Given.{given_sound}
use Rattle.dn_drain.specs.All.{AreDrained, IsLaneFault, StaysSound}
use Rattle.dn_drain.specs.Alone.{alone_in}
use Rattle.dn_drain.specs.Drained.{IsCutOff, IsDrainFault}
use Rattle.dn_drain.specs.declared.drains.DrainFault.{DrainFault}
use Rattle.dn_drain.specs.declared.drains.DrainFault.TheVariants.{Pool, IndexFull}
use Rattle.dn_drain.specs.declared.every.LaneFault.{LaneFault}
use Rattle.dn_drain.proofs.Acting.{made_is}

-- A merger is renewed after a fault.

-- ---- its last action failed, and was done or not done
anew : (words ws : List ℕ) (c : ClusterState) (n : ℕ) (told : List Told) (receipts : List Standing) (x : Merging) (done : Bool) → ws ≡ (acted_if (machine_of words c told receipts) (merge_next x) done).words
    → with_merger (machine_of ws c told receipts) n (Some (started n)) ≡ with_merger (acted_if (machine_of words c told receipts) (merge_next x) done) n (Some (started n))
anew words ws c n told receipts x true e = ap (λ (v : List ℕ). with_merger (machine_of v c told receipts) n (Some (started n))) e
anew words ws c n told receipts x false e = ap (λ (v : List ℕ). with_merger (machine_of v c told receipts) n (Some (started n))) e

renews_as : (words now : List ℕ) (c d : ClusterState) (n : ℕ) (told : List Told) (receipts : List Standing) → IsMade c n → (f : FailsAs words c now (Fails (Merger n))) → Does c d (Renews n)
    → machine_of now d told receipts ≡ happens (machine_of words c told receipts) (Fails (Merger n) f.done)
renews_as words now c d n told receipts made f does =
    let m : Machine = machine_of words c told receipts in
    let x : Merging = (alone_in words c n).merger in
    let failed : happens m (Fails (Merger n) f.done) ≡ with_merger (acted_if m (merge_next x) f.done) n (Some (started n)) =
    ap (λ (o : Option Merging). of_merger m o (λ y. with_merger (acted_if m (merge_next y) f.done) n (Some (started n)))) (made_is c n made) in
    let ws : now ≡ (acted_if m (merge_next x) f.done).words = f.so told receipts ∙ ap (λ (y : Machine). y.words) failed in
    does.is now told receipts
    ∙ ap (λ (o : Option Merging). of_merger (machine_of now c told receipts) o (λ y. with_merger (machine_of now c told receipts) n (Some (started n)))) (made_is c n made)
    ∙ anew words now c n told receipts x f.done ws ∙ sym failed

cut_renewed : (words now : List ℕ) (c d e : ClusterState) (n : ℕ) → IsCutOff words c now d n → IsMade d n → Does d e (Renews n) → e.segments ≡ d.segments → StaysSound words c now e
cut_renewed words now c d e n f made does same = record {
  is = λ told receipts h.
      let m : Machine = machine_of f.left d told receipts in
      let after : IsSound d.segments (happens m (Fails (Merger n) f.fails.done)) = sound d.segments m (Fails (Merger n) f.fails.done) (f.acted.is told receipts h).sound tt in
      subst (λ (k : ℕ). IsSound k (machine_of now e told receipts)) (sym same)
      (subst (λ (y : Machine). IsSound d.segments y) (sym (renews_as f.left now d e n told receipts made f.fails does)) after);
}

-- ---- or it answered, and the index was full
full_renewed : (words now : List ℕ) (c d e : ClusterState) (n : ℕ) → StaysSound words c now d → Does d e (Renews n) → e.segments ≡ d.segments → StaysSound words c now e
full_renewed words now c d e n h does same = record {
  is = λ told receipts s.
      subst (λ (k : ℕ). IsSound k (machine_of now e told receipts)) (sym same) (given_sound now d e (Renews n) told receipts does (h.is told receipts s) tt);
}

pub fault_renewed : (words now : List ℕ) (c d e : ClusterState) (n : ℕ) (why : DrainFault) → IsDrainFault words c now d n why → IsMade d n → Does d e (Renews n) → e.segments ≡ d.segments → StaysSound words c now e
fault_renewed words now c d e n Pool f made does same = cut_renewed words now c d e n f made does same
fault_renewed words now c d e n (IndexFull counter) f made does same = full_renewed words now c d e n (record { is = λ told receipts h. (f.acted.is told receipts h).sound }) does same

-- ---- of one lane behind others
pub sound_then : (words mid now : List ℕ) (c b d : ClusterState) → StaysSound words c mid b → StaysSound mid b now d → StaysSound words c now d
sound_then words mid now c b d h k = record { is = λ told receipts s. k.is told receipts (h.is told receipts s) }

drained_sound : (words : List ℕ) (c : ClusterState) (n : ℕ) (now : List ℕ) (d : ClusterState) → AreDrained words c n now d → StaysSound words c now d
drained_sound words c zero now d h =
    let P : List ℕ → ClusterState → Type 0 = λ ws x. StaysSound words c ws x in
    let here : P words c = record { is = λ told receipts s. s } in
    subst (λ (x : ClusterState). P now x) (sym h.1) (subst (λ (ws : List ℕ). P ws c) (sym h.0) here)
drained_sound words c (suc n) now d h =
    sound_then words h.0 now c h.1 d (drained_sound words c n h.0 h.1 h.3) (record { is = λ told receipts s. (h.4.acted.is told receipts s).sound })

pub lane_renewed : (words now : List ℕ) (c d e : ClusterState) (at : LaneFault) → IsLaneFault words c now d at → Does d e (Renews at.lane) → e.segments ≡ d.segments → StaysSound words c now e
lane_renewed words now c d e at f does same =
    sound_then words f.left now c f.cluster e (drained_sound words c f.before f.left f.cluster f.drained)
    (fault_renewed f.left now f.cluster d e at.lane at.fault f.fault f.made does same)
