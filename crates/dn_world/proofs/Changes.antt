use Rattle.std.proofs.Common.{ℕ, ◌≡◌, ◌<◌, ◌++◌, List, length, Bool, true, false, if◌then◌else◌, refl, sym, ◌∙◌, ap, subst}
use Rattle.std.proofs.lemmas.List.{append-nil}
use Rattle.dn_route.specs.CallersOrder.{Told}
use Rattle.dn_callers.specs.Callers.{Standing}
use Rattle.dn_machine.specs.Events.{Event}
use Rattle.dn_cluster.specs.Does.{Does}
use Rattle.dn_outcomes.specs.State.{World, Done, done, with_event}
use Rattle.dn_outcomes.specs.declared.outcomes.Outcome.{Outcome}
use Rattle.dn_world.specs.State.{CrewState, world_of}
use Rattle.dn_world.specs.Comes.{Came, Turns, IsDone, Moves, Carries, Comes, CountsFault, bare, joining, has_failed}

-- What a call does to a crew, from what it does to its parts.

pub record SameWorld (w v : World) : Type 0 where
  pub segments : w.segments ≡ v.segments
  pub made : w.made ≡ v.made
  pub machine : w.machine ≡ v.machine
  pub waiting : w.waiting ≡ v.waiting
  pub live : w.live ≡ v.live

pub same_world : (w v : World) → SameWorld w v → w ≡ v
same_world w v h = λ i. record {
  segments = h.segments i;
  made = h.made i;
  machine = h.machine i;
  waiting = h.waiting i;
  live = h.live i;
}

-- ---- the cluster does an event that touches no word
pub record IsClustered (x y : CrewState) (e : Event) : Type 0 where
  pub does : Does x.cluster y.cluster e
  pub segments : y.cluster.segments ≡ x.cluster.segments
  pub lanes : length y.cluster.nodes ≡ length x.cluster.nodes
  pub waiting : y.waiting ≡ x.waiting
  pub live : y.live ≡ x.live

pub clustered : (x y : CrewState) (e : Event) → IsClustered x y e → Turns x y (λ w. with_event w e)
clustered x y e h = record {
  is = λ words told receipts. same_world _ _ (record {
    segments = h.segments;
    made = h.lanes;
    machine = h.does.is words told receipts;
    waiting = h.waiting;
    live = h.live;
  });
}

-- ---- what is done, and its outcome
pub is_done : (words : List ℕ) (x : CrewState) (now : List ℕ) (y : CrewState) (came : Came) (f : World → Done) (told : List Told) (receipts : List Standing) (heard : List Told)
    → (f (world_of words x told receipts)).world ≡ world_of now y heard (receipts ++ joining came.receipt)
    → came.outcome ≡ (f (world_of words x told receipts)).outcome → IsDone words x now y came f told receipts
is_done words x now y came f told receipts heard e o = record {
  world = e ∙ ap (λ (ts : List Told). world_of now y ts (receipts ++ joining came.receipt)) (sym (ap (λ (w : World). w.machine.callers.told) e));
  outcome = o;
}

-- no receipt comes
pub no_receipt : (words : List ℕ) (x : CrewState) (now : List ℕ) (y : CrewState) (outcome : Outcome) (f : World → Done) (told : List Told) (receipts : List Standing) (heard : List Told)
    → f (world_of words x told receipts) ≡ done (world_of now y heard receipts) outcome → IsDone words x now y (bare outcome) f told receipts
no_receipt words x now y outcome f told receipts heard e = is_done words x now y (bare outcome) f told receipts heard
    (ap (λ (d : Done). d.world) e ∙ ap (λ (rs : List Standing). world_of now y heard rs) (sym (append-nil receipts)))
    (sym (ap (λ (d : Done). d.outcome) e))

-- nothing is changed
pub stays : (words : List ℕ) (x : CrewState) (outcome : Outcome) (f : World → Done)
    → ((told : List Told) (receipts : List Standing) → f (world_of words x told receipts) ≡ done (world_of words x told receipts) outcome) → Carries words x words x (bare outcome) f
stays words x outcome f h = record { is = λ told receipts sound. no_receipt words x words x outcome f told receipts told (h told receipts) }

-- no word is touched
pub turns : (words : List ℕ) (x y : CrewState) (outcome : Outcome) (f : World → Done) (g : World → World) → Turns x y g
    → ((told : List Told) (receipts : List Standing) → f (world_of words x told receipts) ≡ done (g (world_of words x told receipts)) outcome) → Carries words x words y (bare outcome) f
turns words x y outcome f g by h = record {
  is = λ told receipts sound. no_receipt words x words y outcome f told receipts told
      (h told receipts ∙ ap (λ (w : World). done w outcome) (sym (by.is words told receipts)));
}

-- ---- one change and then another
pub then_turns : (x y z : CrewState) (f g : World → World) → Turns x y f → Turns y z g → Turns x z (λ w. g (f w))
then_turns x y z f g a b = record { is = λ words told receipts. b.is words told receipts ∙ ap g (a.is words told receipts) }

-- ---- choices
pub where_true : {A : Type 0} → (b : Bool) (x y : A) → b ≡ true → (if b then x else y) ≡ x
where_true true x y e = refl
where_true false x y e = absurd (cc e)

pub where_false : {A : Type 0} → (b : Bool) (x y : A) → b ≡ false → (if b then x else y) ≡ y
where_false true x y e = absurd (cc e)
where_false false x y e = refl

-- ---- the same said of another function with the same values
pub moves_by : (words : List ℕ) (x : CrewState) (now : List ℕ) (y : CrewState) (came : Came) (f g : World → Done) → ((w : World) → f w ≡ g w) → Moves words x now y came f → Moves words x now y came g
moves_by words x now y came f g e h = subst (λ (k : World → Done). Moves words x now y came k) (λ i w. e w i) h

-- ---- the count of faults
pub counts_done : (o : Outcome) (old new : ℕ) → has_failed o ≡ false → new ≡ old → CountsFault o old new
counts_done o old new f e = record { done = λ _. e; fault = λ t. absurd (true_false (sym t ∙ f)) } where
  true_false : (let b : Bool = true in b) ≡ false → ⊥
  true_false e = cc e

pub counts_fault : (o : Outcome) (old new : ℕ) → has_failed o ≡ true → old < new → CountsFault o old new
counts_fault o old new t lt = record { done = λ f. absurd (true_false (sym t ∙ f)); fault = λ _. lt } where
  true_false : (let b : Bool = true in b) ≡ false → ⊥
  true_false e = cc e

pub comes_of : (words : List ℕ) (x : CrewState) (now : List ℕ) (y : CrewState) (came : Came) (f : World → Done) → Carries words x now y came f → Comes words x now y came f
comes_of words x now y came f h = record { is = λ told receipts sound. h.is told receipts sound.machine }

-- ---- whatever was told and stands
pub stays_so : (words : List ℕ) (x : CrewState) (outcome : Outcome) (f : World → Done)
    → ((told : List Told) (receipts : List Standing) → f (world_of words x told receipts) ≡ done (world_of words x told receipts) outcome) → Moves words x words x (bare outcome) f
stays_so words x outcome f h = record { is = λ told receipts. no_receipt words x words x outcome f told receipts told (h told receipts) }

pub turns_so : (words : List ℕ) (x y : CrewState) (outcome : Outcome) (f : World → Done) (g : World → World) → Turns x y g
    → ((told : List Told) (receipts : List Standing) → f (world_of words x told receipts) ≡ done (g (world_of words x told receipts)) outcome) → Moves words x words y (bare outcome) f
turns_so words x y outcome f g by h = record {
  is = λ told receipts. no_receipt words x words y outcome f told receipts told
      (h told receipts ∙ ap (λ (w : World). done w outcome) (sym (by.is words told receipts)));
}
