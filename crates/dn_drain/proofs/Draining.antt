use Rattle.std.proofs.Common.{ℕ, zero, suc, ◌≡◌, inl, inr, List, Option, Some, None, replicate, refl, sym, ◌∙◌, ap, subst, arith}
use Rattle.std.proofs.lemmas.Bool.{cases_eq}
use Rattle.dn_merge.specs.declared.mergers.MergeTurn.{MergeTurn}
use Rattle.dn_merge.specs.declared.mergers.MergeTurn.TheVariants.{More, Idle, IndexFull}
use Rattle.dn_machine.specs.State.{Machine}
use Rattle.dn_machine.specs.Events.{Event, Merger, Acts, Fails, happens}
use Rattle.dn_machine.specs.Runs.{after}
use Rattle.dn_cluster.specs.State.{ClusterState}
use Rattle.dn_cluster.specs.Does.{CanBeSound, FailsAs}
use Rattle.dn_cluster.specs.Machine.{machine_of, IsMade}
use Rattle.dn_drain.specs.Acted.{IsActed, HasActed}
use Rattle.dn_drain.specs.Alone.{Alone, alone_in, answer_by, step_by, run_by}
use Rattle.dn_drain.specs.Drained.{IsDrained, IsCutOff, IsDrainFault, IsMerged}
use Rattle.dn_drain.specs.Stepped.{turn_in, IsStepped, IsStepFault}
use Rattle.dn_drain.specs.Ends.{HasLoaded, EndsBy, EndsAt, GoesOn}
use Rattle.dn_drain.specs.declared.drains.DrainFault.{DrainFault}
use Rattle.dn_drain.specs.declared.drains.DrainFault.TheVariants as fault
use Rattle.dn_drain.specs.declared.drains.Merged.{Merged}
use Rattle.dn_drain.proofs.Acting.{does_so}
use Rattle.dn_drain.proofs.Running.{AreLoaded, fresh, loaded}

-- A drain, an action at a time.

-- ---- events of one kind
after_more : (m : Machine) (e : Event) (k : ℕ) → after m (replicate (suc k) e) ≡ happens (after m (replicate k e)) e
after_more m e zero = refl
after_more m e (suc k) = after_more (happens m e) e k

acted_none : (words : List ℕ) (c : ClusterState) (n : ℕ) → HasActed words c words c n 0
acted_none words c n = record { is = λ told receipts h. record { so = refl; sound = h } }

acted_more : (words mid now : List ℕ) (c b d : ClusterState) (n k : ℕ) → HasActed words c mid b n k → HasActed mid b now d n 1 → HasActed words c now d n (suc k)
acted_more words mid now c b d n k first second = record {
  is = λ told receipts h.
      let u : IsActed words c mid b n k told receipts = first.is told receipts h in
      let v : IsActed mid b now d n 1 told receipts = second.is told receipts u.sound in
      record {
        so = v.so ∙ ap (λ (m : Machine). happens m (Acts (Merger n))) u.so ∙ sym (after_more (machine_of words c told receipts) (Acts (Merger n)) k);
        sound = v.sound;
      };
}

pub still_sound : (words now : List ℕ) (c d : ClusterState) (n k : ℕ) → HasActed words c now d n k → CanBeSound words c → CanBeSound now d
still_sound words now c d n k h can = record { told = can.told; receipts = can.receipts; sound = (h.is can.told can.receipts can.sound).sound }

-- ---- a drain that goes on: it has made k actions
pub record IsGoing (words : List ℕ) (c : ClusterState) (now : List ℕ) (d : ClusterState) (n k : ℕ) : Type 0 where
  pub place : alone_in now d n ≡ run_by (alone_in words c n) k
  pub goes_on : GoesOn (alone_in words c n) k
  pub acted : HasActed words c now d n k

pub begins : (words : List ℕ) (c : ClusterState) (n : ℕ) → IsGoing words c words c n 0
begins words c n = record {
  place = refl;
  goes_on = record { each = λ j lt. absurd (omega (arith, lt)) };
  acted = acted_none words c n;
}

-- what the next action answers
its_answer : (words mid now : List ℕ) (c b d : ClusterState) (n k : ℕ) (turn : MergeTurn) → IsGoing words c mid b n k → IsStepped mid b now d n turn → answer_by (run_by (alone_in words c n) k) ≡ turn
its_answer words mid now c b d n k turn h s = sym (ap answer_by h.place) ∙ s.answer_is

goes_on : (a : Alone) (k : ℕ) → GoesOn a k → (EndsAt a k → ⊥) → GoesOn a (suc k)
goes_on a k h e = record {
  each = λ j lt. elim (cases_eq j k) [
    | inl same ↦ (let P : ℕ → Type 0 = λ i. EndsAt a i → ⊥ in subst P (sym same) e)
    | inr other ↦ h.each j (omega (arith, lt, other))
  ];
}

pub goes_further : (words mid now : List ℕ) (c b d : ClusterState) (n k : ℕ) (turn : MergeTurn) → IsGoing words c mid b n k → IsStepped mid b now d n turn → (EndsBy (alone_in words c n) k turn → ⊥)
    → IsGoing words c now d n (suc k)
goes_further words mid now c b d n k turn h s e = record {
  place = s.after ∙ ap step_by h.place;
  goes_on = goes_on (alone_in words c n) k h.goes_on (subst (λ (t : MergeTurn). EndsBy (alone_in words c n) k t → ⊥) (sym (its_answer words mid now c b d n k turn h s)) e);
  acted = acted_more words mid now c b d n k h.acted s.acted;
}

-- ---- its end
drained : (words mid now : List ℕ) (c b d : ClusterState) (n k : ℕ) (turn : MergeTurn) → IsGoing words c mid b n k → IsStepped mid b now d n turn → EndsBy (alone_in words c n) k turn → IsDrained words c now d n turn
drained words mid now c b d n k turn h s e = record {
  count = suc k;
  drains = record { before = k; last = omega arith; goes_on = h.goes_on; answer = its_answer words mid now c b d n k turn h s; ends = e };
  acted = acted_more words mid now c b d n k h.acted s.acted;
}

pub drained_full : (words mid now : List ℕ) (c b d : ClusterState) (n k counter : ℕ) → IsGoing words c mid b n k → IsStepped mid b now d n (IndexFull counter) → IsDrained words c now d n (IndexFull counter)
drained_full words mid now c b d n k counter h s = drained words mid now c b d n k (IndexFull counter) h s (record {})

its_load : (words mid now : List ℕ) (c b d : ClusterState) (n j gate mark : ℕ) → IsGoing words c mid b n (suc j) → IsStepped mid b now d n (Idle gate mark) → HasLoaded (alone_in words c n) (suc j) gate
its_load words mid now c b d n j gate mark h s = fresh (alone_in words c n) j gate mark (its_answer words mid now c b d n (suc j) (Idle gate mark) h s)

pub drained_idle : (words mid now : List ℕ) (c b d : ClusterState) (n j gate mark : ℕ) → IsGoing words c mid b n (suc j) → IsStepped mid b now d n (Idle gate mark) → IsDrained words c now d n (Idle gate mark)
drained_idle words mid now c b d n j gate mark h s = drained words mid now c b d n (suc j) (Idle gate mark) h s (its_load words mid now c b d n j gate mark h s)

pub merged : (words mid now : List ℕ) (c b d : ClusterState) (n j gate mark : ℕ) → IsGoing words c mid b n (suc j) → IsStepped mid b now d n (Idle gate mark) → CanBeSound mid b → IsMade b n
    → IsMerged now n (record { gate = gate; mark = mark })
merged words mid now c b d n j gate mark h s can made =
    let a : Alone = alone_in words c n in
    let l : AreLoaded (step_by (run_by a (suc j))).words (run_by a (suc j)).merger.lane gate mark =
    loaded a (suc j) gate mark (its_load words mid now c b d n j gate mark h s) (its_answer words mid now c b d n (suc j) (Idle gate mark) h s) in
    let ws : (step_by (run_by a (suc j))).words ≡ now = sym (ap (λ (x : Alone). x.words) (s.after ∙ ap step_by h.place)) in
    let lane : (run_by a (suc j)).merger.lane ≡ n = sym (ap (λ (x : Alone). x.merger.lane) h.place) ∙ (does_so mid b n can made).number in
    let P : List ℕ → ℕ → Type 0 = λ x y. AreLoaded x y gate mark in
    let Q : List ℕ → Type 0 = λ x. AreLoaded x n gate mark in
    let r : AreLoaded now n gate mark = subst Q ws (subst (P (step_by (run_by a (suc j))).words) lane l) in
    record { gate_is = r.gate_is; mark_is = r.mark_is; all = r.all }

pub cut_off : (words mid now : List ℕ) (c b d : ClusterState) (n k : ℕ) → IsGoing words c mid b n k → d ≡ b → FailsAs mid b now (Fails (Merger n)) → IsCutOff words c now d n
cut_off words mid now c b d n k h e f = record {
  count = k;
  goes_on = h.goes_on;
  left = mid;
  acted = subst (λ (x : ClusterState). HasActed words c mid x n k) (sym e) h.acted;
  fails = subst (λ (x : ClusterState). FailsAs mid x now (Fails (Merger n))) (sym e) f;
}

pub fault_so : (words mid now : List ℕ) (c b d : ClusterState) (n k : ℕ) (why : DrainFault) → IsGoing words c mid b n k → IsStepFault mid b now d n why → IsDrainFault words c now d n why
fault_so words mid now c b d n k fault.Pool h f = cut_off words mid now c b d n k h f.0 f.1
fault_so words mid now c b d n k (fault.IndexFull counter) h f = drained_full words mid now c b d n k counter h f

-- ---- its beginning: the first action may say that all is merged, by a gate that was loaded before
no_load : (a : Alone) (gate : ℕ) → HasLoaded a 0 gate → ⊥
no_load a gate h = absurd (omega (arith, h.last))

begins_on : (a : Alone) (o : Option Merged) → EndsBy a 0 (turn_in o) → ⊥
begins_on a None e = e
begins_on a (Some x) e = no_load a x.gate e

pub begun : (words now : List ℕ) (c d : ClusterState) (n : ℕ) (o : Option Merged) → IsStepped words c now d n (turn_in o) → IsGoing words c now d n 1
begun words now c d n o s = goes_further words words now c c d n 0 (turn_in o) (begins words c n) s (begins_on (alone_in words c n) o)

pub further : (words mid now : List ℕ) (c b d : ClusterState) (n k : ℕ) → IsGoing words c mid b n k → IsStepped mid b now d n More → IsGoing words c now d n (suc k)
further words mid now c b d n k h s = goes_further words mid now c b d n k More h s (λ e. e)
