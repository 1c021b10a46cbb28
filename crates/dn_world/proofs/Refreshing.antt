use Rattle.std.proofs.Common.{ℕ, ◌≡◌, ◌++◌, length, List, [], Option, Some, None, true, false, refl, sym, ◌∙◌, ap, subst}
use Rattle.std.proofs.lemmas.List.{append-nil}
use Rattle.dn_hist.specs.declared.receipts.SessionView.{SessionView}
use Rattle.dn_route.specs.CallersOrder.{Told}
use Rattle.dn_route.specs.SessionState.{SessionState}
use Rattle.dn_callers.specs.Callers.{Standing}
use Rattle.dn_callers.specs.Sessions.{IsSession}
use Rattle.dn_store.proofs.At.{at_by}
use Rattle.dn_machine.specs.State.{Machine}
use Rattle.dn_machine.specs.Events.{Event, Session, Acts, loaded, happens}
use Rattle.dn_machine.specs.Sound.{IsSound}
use Rattle.dn_cluster.specs.Acting.{session_answer, failed}
use Rattle.dn_cluster.specs.Does.{Happens}
use Rattle.dn_cluster.specs.Machine.{load_in, machine_of}
use Rattle.dn_cluster.specs.State.{ClusterState, numbered}
use Rattle.dn_cluster.specs.declared.actors.Acted.{Acted}
use Rattle.dn_cluster.specs.declared.actors.Acted.TheVariants as acted
use Rattle.dn_waiting.specs.Sound.{Shows}
use Rattle.dn_waiting.specs.State.{call_of}
use Rattle.dn_outcomes.specs.Sound.{IsWorld}
use Rattle.dn_outcomes.specs.Starts.{refresh_of, refresh, routes}
use Rattle.dn_outcomes.specs.State.{World, Done, done, with_event}
use Rattle.dn_outcomes.specs.declared.outcomes.Outcome.{Outcome}
use Rattle.dn_outcomes.specs.declared.outcomes.Outcome.TheVariants.{Nothing}
use Rattle.dn_outcomes.proofs.Facts.{loads_for}
use Rattle.dn_world.specs.State.{CrewState, world_of}
use Rattle.dn_world.specs.Comes.{Moves, Carries, bare, has_failed}
use Rattle.dn_world.proofs.Changes.{same_world, is_done}

-- ---- an event of the cluster with an action, as one of the world
pub record IsActed (words : List ℕ) (x : CrewState) (now : List ℕ) (y : CrewState) (joined : List Standing) (e : Event) : Type 0 where
  pub happens_so : Happens words x.cluster now y.cluster joined e
  pub segments : y.cluster.segments ≡ x.cluster.segments
  pub lanes : length y.cluster.nodes ≡ length x.cluster.nodes
  pub waiting : y.waiting ≡ x.waiting
  pub live : y.live ≡ x.live

pub acted_world : (words : List ℕ) (x : CrewState) (now : List ℕ) (y : CrewState) (joined : List Standing) (e : Event) → IsActed words x now y joined e
    → (told : List Told) (receipts : List Standing) → IsSound x.cluster.segments (machine_of words x.cluster told receipts) → world_of now y told (receipts ++ joined) ≡ with_event (world_of words x told receipts) e
acted_world words x now y joined e h told receipts sound = same_world _ _ (record {
  segments = h.segments;
  made = h.lanes;
  machine = (h.happens_so.is told receipts sound).happens_so;
  waiting = h.waiting;
  live = h.live;
})

-- ---- a session loads
pub session_answered : (words : List ℕ) (o : Option ℕ) (word : ℕ) → acted.Session word ≡ session_answer words o → (slot : ℕ) × (o ≡ Some slot)
session_answered words None word e = absurd (cc e)
session_answered words (Some slot) word e = (slot, refl)

-- its number stays
pub number_stays : (m : Machine) (s slot : ℕ) → m.loads s ≡ Some slot → ((happens m (Acts (Session s))).callers.sessions s).number ≡ (m.callers.sessions s).number
number_stays m s slot e =
    ap (λ (o : Option ℕ). ((loaded m s o).callers.sessions s).number) e
    ∙ at_by (λ (x : SessionState). x.number ≡ (m.callers.sessions s).number) m.callers.sessions s _ s (λ same. refl) (λ differ. refl)

-- a view with that number is of its call
pub shows_so : (w : World) (s slot : ℕ) (view : SessionView) → IsWorld w → IsSession s → w.machine.loads s ≡ Some slot → view.number ≡ (w.machine.callers.sessions s).number → Shows view (call_of w.waiting s)
shows_so w s slot view h is loads e =
    let f = loads_for w s slot h is loads in
    subst (Shows view) (sym f.1.is) (f.1.number ∙ sym e)

pub refreshed_by : (w : World) (s slot : ℕ) → w.machine.loads s ≡ Some slot → refresh w s ≡ routes (with_event w (Acts (Session s))) s (call_of w.waiting s)
refreshed_by w s slot e = ap (λ (o : Option ℕ). refresh_of w s o) e

pub refreshed_none : (w : World) (s : ℕ) → w.machine.loads s ≡ None → refresh w s ≡ done w Nothing
refreshed_none w s e = ap (λ (o : Option ℕ). refresh_of w s o) e

-- ---- what comes of it
pub not_failed : (a : Acted) → (a ≡ acted.Fault → ⊥) → failed a ≡ false
not_failed acted.Nothing h = refl
not_failed (acted.Lane turn) h = refl
not_failed (acted.Merger turn) h = refl
not_failed (acted.Monitor turn) h = refl
not_failed (acted.Session word) h = refl
not_failed acted.Fault h = absurd (h refl)

pub refresh_routed : (words : List ℕ) (x : CrewState) (now : List ℕ) (k : ClusterState) (y : CrewState) (s slot : ℕ) (o : Outcome)
    → IsActed words x now (record x { cluster = k }) [] (Acts (Session s)) → load_in (numbered x.cluster.clients s) ≡ Some slot
    → Moves now (record x { cluster = k }) now y (bare o) (λ w. routes w s (call_of w.waiting s)) → Carries words x now y (bare o) (λ w. refresh w s)
refresh_routed words x now k y s slot o h loads by = record {
  is = λ told receipts sound.
      let w : World = world_of words x told receipts in
      let b : World = world_of now (record x { cluster = k }) told (receipts ++ []) in
      let e : b ≡ with_event w (Acts (Session s)) = acted_world words x now (record x { cluster = k }) [] (Acts (Session s)) h told receipts sound in
      let r : refresh w s ≡ routes b s (call_of x.waiting s) = refreshed_by w s slot loads ∙ sym (ap (λ (z : World). routes z s (call_of x.waiting s)) e) in
      let d = by.is told (receipts ++ []) in
      is_done words x now y (bare o) (λ z. refresh z s) told receipts (routes b s (call_of x.waiting s)).world.machine.callers.told
      (ap (λ (z : Done). z.world) r ∙ d.world ∙ ap (λ (rs : List Standing). world_of now y (routes b s (call_of x.waiting s)).world.machine.callers.told rs) (append-nil (receipts ++ [])))
      (d.outcome ∙ sym (ap (λ (z : Done). z.outcome) r));
}

-- an event, and its outcome
pub acts_done : (words : List ℕ) (x : CrewState) (now : List ℕ) (k : ClusterState) (e : Event) (o : Outcome) (f : World → Done)
    → IsActed words x now (record x { cluster = k }) [] e
    → ((told : List Told) (receipts : List Standing) → f (world_of words x told receipts) ≡ done (with_event (world_of words x told receipts) e) o)
    → Carries words x now (record x { cluster = k }) (bare o) f
acts_done words x now k e o f h does = record {
  is = λ told receipts sound.
      let b : world_of now (record x { cluster = k }) told (receipts ++ []) ≡ with_event (world_of words x told receipts) e = acted_world words x now (record x { cluster = k }) [] e h told receipts sound in
      is_done words x now (record x { cluster = k }) (bare o) f told receipts told
      (ap (λ (z : Done). z.world) (does told receipts) ∙ sym b) (sym (ap (λ (z : Done). z.outcome) (does told receipts)));
}

-- nothing is to be done: the world stays
pub acts_rest : (words : List ℕ) (x : CrewState) (now : List ℕ) (k : ClusterState) (e : Event) (f : World → Done)
    → IsActed words x now (record x { cluster = k }) [] e
    → ((told : List Told) (receipts : List Standing) → f (world_of words x told receipts) ≡ done (world_of words x told receipts) Nothing)
    → ((told : List Told) (receipts : List Standing) → with_event (world_of words x told receipts) e ≡ world_of words x told receipts)
    → Carries words x now (record x { cluster = k }) (bare Nothing) f
acts_rest words x now k e f h nothing same = record {
  is = λ told receipts sound.
      let w : World = world_of words x told receipts in
      let b : world_of now (record x { cluster = k }) told (receipts ++ []) ≡ w = acted_world words x now (record x { cluster = k }) [] e h told receipts sound ∙ same told receipts in
      is_done words x now (record x { cluster = k }) (bare Nothing) f told receipts told
      (ap (λ (z : Done). z.world) (nothing told receipts) ∙ sym b) (sym (ap (λ (z : Done). z.outcome) (nothing told receipts)));
}

-- the same said of equal crews and outcomes
pub carries_as : (words : List ℕ) (x v : CrewState) (now : List ℕ) (y z : CrewState) (o r : Outcome) (f : World → Done) → v ≡ x → y ≡ z → o ≡ r → Carries words v now z (bare r) f → Carries words x now y (bare o) f
carries_as words x v now y z o r f e a b h =
    subst (λ (u : CrewState). Carries words u now y (bare o) f) e (subst (λ (u : CrewState). Carries words v now u (bare o) f) (sym a) (subst (λ (q : Outcome). Carries words v now z (bare q) f) (sym b) h))

pub no_fault : (o r : Outcome) → o ≡ r → has_failed r ≡ true → has_failed o ≡ false → ⊥
no_fault o r e t f = (let k : true ≡ false = sym t ∙ sym (ap has_failed e) ∙ f in cc k)

-- a session that loads nothing
pub record Rests (o : Option ℕ) (a : Acted) : Type 0 where
  pub is : a ≡ acted.Nothing
  pub nothing : o ≡ None

pub session_rests : (words : List ℕ) (o : Option ℕ) (a : Acted) → ((word : ℕ) → a ≡ acted.Session word → ⊥) → a ≡ session_answer words o → Rests o a
session_rests words None a h e = record { is = e; nothing = refl }
session_rests words (Some slot) a h e = absurd (h _ e)

pub loads_none : (w : World) (s : ℕ) → w.machine.loads s ≡ None → with_event w (Acts (Session s)) ≡ w
loads_none w s e = ap (λ (o : Option ℕ). record w { machine = loaded w.machine s o }) e
