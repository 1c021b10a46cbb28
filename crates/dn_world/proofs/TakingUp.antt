use Rattle.std.proofs.Common.{ℕ, ◌≡◌, ◌≢◌, ◌<◌, ◌^◌, false, List, [], ◌∷◌, Option, Some, None, length, refl, sym, ◌∙◌, ap, subst, arith}
use Rattle.std.proofs.lemmas.List.{get_or-set_same}
use Rattle.dn_hist.specs.Calls.{key_of}
use Rattle.dn_hist.specs.declared.receipts.SessionView.{SessionView}
use Rattle.dn_model.specs.Regions.{IsLane}
use Rattle.dn_route.specs.CallersOrder.{Told}
use Rattle.dn_tend.specs.Fit.{FitsTask}
use Rattle.dn_tend.specs.declared.tasks.Task.{Task}
use Rattle.dn_tend.specs.declared.tasks.Task.TheVariants as task
use Rattle.dn_tend.specs.declared.tasks.TaskAnswer.TheVariants as answer
use Rattle.dn_lane.specs.Left.{is_working}
use Rattle.dn_lane.specs.Refused.{refused_by, barred_by as cause_by, Refuses}
use Rattle.dn_lane.specs.State.{LaneState}
use Rattle.dn_lane.specs.declared.answers.Refuse.{Refuse}
use Rattle.dn_lane.specs.declared.answers.Refuse.TheVariants as refuse
use Rattle.dn_lane.specs.declared.modes.Mode.{Mode}
use Rattle.dn_lane.specs.declared.modes.Mode.TheVariants as mode
use Rattle.dn_callers.specs.Callers.{Standing}
use Rattle.dn_lanes.specs.Begun.{IsOwnTask}
use Rattle.dn_machine.specs.Events.{Event, Tends, Asks}
use Rattle.dn_machine.specs.Sound.{IsSound}
use Rattle.dn_cluster.specs.Does.{Does}
use Rattle.dn_cluster.proofs.Given.{given_sound}
use Rattle.dn_cluster.specs.Asks.{refused_in, refused_by as refused_of}
use Rattle.dn_cluster.specs.Machine.{machine_of, lane_in}
use Rattle.dn_cluster.specs.State.{ClusterState, numbered}
use Rattle.dn_waiting.specs.Queues.{AtLane, idle}
use Rattle.dn_waiting.specs.Sound.{IsLane as IsNumber}
use Rattle.dn_waiting.specs.State.{WaitingState, at_lane, call_of}
use Rattle.dn_waiting.specs.declared.calls.OpenCall.{OpenCall}
use Rattle.dn_callers.specs.Sessions.{IsSession}
use Rattle.dn_waiting.specs.Turns.{next_of, next_at, left_of, left_at, taken, taken_up}
use Rattle.dn_waiting.specs.declared.calls.Next.{Next}
use Rattle.dn_waiting.specs.declared.calls.Next.TheVariants.{Tend, Try}
use Rattle.dn_outcomes.specs.Sound.{IsWorld}
use Rattle.dn_outcomes.specs.State.{World, Done, done, with_event}
use Rattle.dn_outcomes.specs.Steps.{acts, takes_up, tends, tries}
use Rattle.dn_outcomes.specs.declared.outcomes.Outcome.{Outcome}
use Rattle.dn_outcomes.specs.declared.outcomes.Outcome.TheVariants.{Tended}
use Rattle.dn_outcomes.specs.Going.{called, ends}
use Rattle.dn_outcomes.specs.declared.outcomes.CallAnswer.TheVariants.{Fenced}
use Rattle.dn_outcomes.proofs.Facts.{rests_begun, tend_own, is_free, may_ask, try_session, try_call, try_key, try_stamp, try_hint}
use Rattle.dn_world.specs.Comes.{Came, Moves, Carries, Comes, bare}
use Rattle.dn_world.specs.State.{CrewState, world_of}
use Rattle.dn_world.specs.Takes.{Takes, barred_by, tends_at, tries_at}
use Rattle.dn_world.proofs.Changes.{is_done, no_receipt, clustered}

-- A lane with nothing under way takes up what is next.

pub lane_is : (n : ℕ) → IsNumber n → IsLane n
lane_is n h = record { positive = omega (arith, h.0); below = omega (arith, h.1) }

-- ---- the attempt that is under way then
left_tend : (at : AtLane) (tasks : List Task) (queue : List SessionView) (t : Task) → next_of tasks queue ≡ Tend t → (left_of at tasks queue).begun ≡ at.begun
left_tend at [] [] t e = refl
left_tend at [] (view ∷ queue) t e = absurd (cc e)
left_tend at (x ∷ tasks) queue t e = refl

left_try : (at : AtLane) (tasks : List Task) (queue : List SessionView) (view : SessionView) → next_of tasks queue ≡ Try view → (left_of at tasks queue).begun ≡ Some view
left_try at [] [] view e = absurd (cc e)
left_try at [] (v ∷ queue) view e = (let same : v ≡ view = cc in ap Some same)
left_try at (x ∷ tasks) queue view e = absurd (cc e)

pub taken_tend : (w : WaitingState) (n : ℕ) (t : Task) → next_at (at_lane w n) ≡ Tend t → n < length w.lanes → (at_lane (taken_up w n) n).begun ≡ (at_lane w n).begun
taken_tend w n t e h = ap (λ (k : Next). (at_lane (taken w n k) n).begun) e
    ∙ ap (λ (q : AtLane). q.begun) (get_or-set_same w.lanes n (left_at (at_lane w n)) idle h) ∙ left_tend (at_lane w n) (at_lane w n).tasks (at_lane w n).queue t e

pub taken_try : (w : WaitingState) (n : ℕ) (view : SessionView) → next_at (at_lane w n) ≡ Try view → n < length w.lanes → (at_lane (taken_up w n) n).begun ≡ Some view
taken_try w n view e h = ap (λ (k : Next). (at_lane (taken w n k) n).begun) e
    ∙ ap (λ (q : AtLane). q.begun) (get_or-set_same w.lanes n (left_at (at_lane w n)) idle h) ∙ left_try (at_lane w n) (at_lane w n).tasks (at_lane w n).queue view e

-- ---- why it would begin nothing
rest_cause : (l : LaneState) (m : Mode) → is_working m ≡ false → refused_by l m ≡ cause_by l.base.known.barred
rest_cause l mode.Idle e = refl
rest_cause l (mode.Acting wait) e = absurd (cc e)
rest_cause l (mode.Finding wait find) e = absurd (cc e)
rest_cause l (mode.Claiming wait claim) e = absurd (cc e)
rest_cause l (mode.Sealing wait seal) e = absurd (cc e)

cause_at : (c : ClusterState) (n : ℕ) (l : LaneState) → lane_in (numbered c.nodes n) ≡ Some l → is_working l.mode ≡ false → refused_in c n ≡ cause_by l.base.known.barred
cause_at c n l is e = ap (λ (o : Option LaneState). refused_of o) is ∙ rest_cause l l.mode e

no_cause : (b : Option ℕ) → cause_by b ≡ None → b ≡ None
no_cause None e = refl
no_cause (Some word) e = absurd (cc e)

fenced_cause : (b : Option ℕ) (word : ℕ) → Refuses (cause_by b) (refuse.Fenced word) → b ≡ Some word
fenced_cause None word h = absurd (cc h)
fenced_cause (Some k) word h = (let same : k ≡ word = cc in ap Some same)

pub is_unbarred : (c : ClusterState) (n : ℕ) (l : LaneState) → lane_in (numbered c.nodes n) ≡ Some l → is_working l.mode ≡ false → refused_in c n ≡ None → l.base.known.barred ≡ None
is_unbarred c n l is e h = no_cause l.base.known.barred (sym (cause_at c n l is e) ∙ h)

pub is_barred : (c : ClusterState) (n : ℕ) (l : LaneState) (word : ℕ) → lane_in (numbered c.nodes n) ≡ Some l → is_working l.mode ≡ false → Refuses (refused_in c n) (refuse.Fenced word) → l.base.known.barred ≡ Some word
is_barred c n l word is e h = fenced_cause l.base.known.barred word (subst (λ (o : Option Refuse). Refuses o (refuse.Fenced word)) (cause_at c n l is e) h)

-- ---- it takes that up and then acts
pub record Leads (words : List ℕ) (x z : CrewState) (n : ℕ) (f : World → Done) (told : List Told) (receipts : List Standing) : Type 0 where
  pub leads : f (world_of words x told receipts) ≡ acts (world_of words z told receipts) n
  pub sound : IsSound z.cluster.segments (machine_of words z.cluster told receipts)

pub then_acts : (words : List ℕ) (x z : CrewState) (now : List ℕ) (y : CrewState) (came : Came) (n : ℕ) (f : World → Done)
    → ((told : List Told) (receipts : List Standing) → IsWorld (world_of words x told receipts) → Leads words x z n f told receipts)
    → Carries words z now y came (λ w. acts w n) → Comes words x now y came f
then_acts words x z now y came n f h by = record {
  is = λ told receipts sound.
      let l = h told receipts sound in
      let d = by.is told receipts l.sound in
      is_done words x now y came f told receipts (acts (world_of words z told receipts) n).world.machine.callers.told
      (ap (λ (k : Done). k.world) l.leads ∙ d.world) (d.outcome ∙ sym (ap (λ (k : Done). k.outcome) l.leads));
}

-- ---- a task
own_fits : (t : Task) → IsOwnTask t → FitsTask t
own_fits (task.Release slot) h = h
own_fits task.Trim h = tt
own_fits (task.Share key) h = absurd h
own_fits (task.Unshare key) h = absurd h

pub takes_begun : (words : List ℕ) (x : CrewState) (n : ℕ) (next : Next) → Takes words x n next → (at_lane x.waiting n).begun ≡ None
takes_begun words x n next h = rests_begun (world_of words x h.can.told h.can.receipts) n h.lane h.can.sound (lane_is n h.number) h.runs h.rests

pub takes_room : (words : List ℕ) (x : CrewState) (n : ℕ) (next : Next) → Takes words x n next → n < length x.waiting.lanes
takes_room words x n next h = omega (arith, h.number.1, h.can.sound.waiting.made)

takes_own : (words : List ℕ) (x : CrewState) (n : ℕ) (t : Task) → Takes words x n (Tend t) → IsOwnTask t
takes_own words x n t h = tend_own (world_of words x h.can.told h.can.receipts) n t h.can.sound (lane_is n h.number) h.next_is

pub takes_fits : (words : List ℕ) (x : CrewState) (n : ℕ) (t : Task) → Takes words x n (Tend t) → FitsTask t
takes_fits words x n t h = own_fits t (takes_own words x n t h)

pub tends_sound : (words : List ℕ) (x : CrewState) (n : ℕ) (t : Task) (k : ClusterState) (told : List Told) (receipts : List Standing) → Takes words x n (Tend t) → Does x.cluster k (Tends n t) → k.segments ≡ x.cluster.segments
    → IsSound x.cluster.segments (machine_of words x.cluster told receipts) → IsSound k.segments (machine_of words k told receipts)
tends_sound words x n t k told receipts h does same sound =
    subst (λ (s : ℕ). IsSound s (machine_of words k told receipts)) (sym same)
    (given_sound words x.cluster k (Tends n t) told receipts does sound (is_free (machine_of words x.cluster told receipts) n h.lane h.runs h.rests, takes_own words x n t h))

-- the crew that has taken it up
abbrev pub after_taking : CrewState → ClusterState → ℕ → CrewState
after_taking x k n = record { cluster = k; waiting = taken_up x.waiting n; live = x.live }

pub record IsGivenTo (x : CrewState) (k : ClusterState) (e : Event) : Type 0 where
  pub does : Does x.cluster k e
  pub segments : k.segments ≡ x.cluster.segments
  pub lanes : length k.nodes ≡ length x.cluster.nodes

taking_world : (x : CrewState) (k : ClusterState) (n : ℕ) (e : Event) (words : List ℕ) (told : List Told) (receipts : List Standing) → IsGivenTo x k e
    → world_of words (after_taking x k n) told receipts ≡ with_event (takes_up (world_of words x told receipts) n) e
taking_world x k n e words told receipts h = (clustered (record x { waiting = taken_up x.waiting n }) (after_taking x k n) e
    (record { does = h.does; segments = h.segments; lanes = h.lanes; waiting = refl; live = refl })).is words told receipts

pub tends_so : (words : List ℕ) (x : CrewState) (n : ℕ) (t : Task) (k : ClusterState) → Takes words x n (Tend t) → IsGivenTo x k (Tends n t) → refused_in x.cluster n ≡ None
    → (told : List Told) (receipts : List Standing) → IsWorld (world_of words x told receipts) → Leads words x (after_taking x k n) n (λ w. tends_at w n t) told receipts
tends_so words x n t k h given free told receipts sound = record {
  leads =
      let w : World = world_of words x told receipts in
      ap (λ (o : Option LaneState). tends w n t (barred_by o)) h.runs
      ∙ ap (λ (b : Option ℕ). tends w n t b) (is_unbarred x.cluster n h.lane h.runs h.rests free)
      ∙ ap (λ (z : World). acts z n) (sym (taking_world x k n (Tends n t) words told receipts given));
  sound = tends_sound words x n t k told receipts h given.does given.segments sound.machine;
}

pub tends_barred : (words : List ℕ) (x : CrewState) (n : ℕ) (t : Task) (word : ℕ) → Takes words x n (Tend t) → Refuses (refused_in x.cluster n) (refuse.Fenced word)
    → (told : List Told) (receipts : List Standing) → tends_at (world_of words x told receipts) n t ≡ done (world_of words (after_taking x x.cluster n) told receipts) (Tended (answer.Fenced word))
tends_barred words x n t word h cause told receipts =
    let w : World = world_of words x told receipts in
    ap (λ (o : Option LaneState). tends w n t (barred_by o)) h.runs ∙ ap (λ (b : Option ℕ). tends w n t b) (is_barred x.cluster n h.lane word h.runs h.rests cause)

-- ---- what it takes up is refused at once
pub refused_now : (words : List ℕ) (x y : CrewState) (k : ClusterState) (v : WaitingState) (n : ℕ) (came : Came) (outcome : Outcome) (f : World → Done) → k ≡ x.cluster → v ≡ taken_up x.waiting n → came ≡ bare outcome
    → y ≡ record { cluster = k; waiting = v; live = x.live }
    → ((told : List Told) (receipts : List Standing) → f (world_of words x told receipts) ≡ done (world_of words (after_taking x x.cluster n) told receipts) outcome) → Comes words x words y came f
refused_now words x y k v n came outcome f same after is at h =
    let z : CrewState = after_taking x x.cluster n in
    let e : y ≡ z = at ∙ ap (λ (c : ClusterState). record { cluster = c; waiting = v; live = x.live }) same ∙ ap (λ (u : WaitingState). record { cluster = x.cluster; waiting = u; live = x.live }) after in
    subst (λ (u : CrewState). Comes words x words u came f) (sym e) (subst (λ (c : Came). Comes words x words z c f) (sym is) (record {
      is = λ told receipts sound. no_receipt words x words z outcome f told receipts told (h told receipts);
    }))

-- ---- an attempt of a call
pub record MayTry (x : CrewState) (view : SessionView) : Type 0 where
  pub session : IsSession view.session
  pub call : OpenCall
  pub call_is : call_of x.waiting view.session ≡ Some call
  pub key : key_of (called (call_of x.waiting view.session)) ≢ 0
  pub stamp : view.last.stamp < 2 ^ 31
  pub hint : view.hint ≡ None

pub may_try : (words : List ℕ) (x : CrewState) (n : ℕ) (view : SessionView) → Takes words x n (Try view) → MayTry x view
may_try words x n view h =
    let w : World = world_of words x h.can.told h.can.receipts in
    let lane : IsLane n = lane_is n h.number in
    let there = try_call w n view h.can.sound lane h.next_is in
    record {
      session = try_session w n view h.can.sound lane h.next_is;
      call = there.0;
      call_is = there.1;
      key = try_key w n view h.can.sound lane h.next_is;
      stamp = try_stamp w n view h.can.sound lane h.next_is;
      hint = try_hint w n view h.can.sound lane h.next_is;
    }

pub tries_sound : (words : List ℕ) (x : CrewState) (n : ℕ) (view : SessionView) (k : ClusterState) (told : List Told) (receipts : List Standing) → Takes words x n (Try view)
    → IsGivenTo x k (Asks n view (called (call_of x.waiting view.session))) → IsWorld (world_of words x told receipts) → IsSound k.segments (machine_of words k told receipts)
tries_sound words x n view k told receipts h given sound =
    subst (λ (s : ℕ). IsSound s (machine_of words k told receipts)) (sym given.segments)
    (given_sound words x.cluster k (Asks n view (called (call_of x.waiting view.session))) told receipts given.does sound.machine
    (may_ask (world_of words x told receipts) n h.lane view sound (lane_is n h.number) h.runs h.rests h.next_is))

pub tries_so : (words : List ℕ) (x : CrewState) (n : ℕ) (view : SessionView) (k : ClusterState) → Takes words x n (Try view) → IsGivenTo x k (Asks n view (called (call_of x.waiting view.session))) → refused_in x.cluster n ≡ None
    → (told : List Told) (receipts : List Standing) → IsWorld (world_of words x told receipts) → Leads words x (after_taking x k n) n (λ w. tries_at w n view) told receipts
tries_so words x n view k h given free told receipts sound = record {
  leads =
      let w : World = world_of words x told receipts in
      ap (λ (o : Option LaneState). tries w n view (barred_by o)) h.runs
      ∙ ap (λ (b : Option ℕ). tries w n view b) (is_unbarred x.cluster n h.lane h.runs h.rests free)
      ∙ ap (λ (z : World). acts z n) (sym (taking_world x k n (Asks n view (called (call_of x.waiting view.session))) words told receipts given));
  sound = tries_sound words x n view k told receipts h given sound;
}

-- refused at once, it ends
pub tries_barred : (words : List ℕ) (x y : CrewState) (n : ℕ) (view : SessionView) (word : ℕ) (o : Outcome) → Takes words x n (Try view) → Refuses (refused_in x.cluster n) (refuse.Fenced word)
    → Moves words (after_taking x x.cluster n) words y (bare o) (λ w. ends w n (Fenced word)) → Comes words x words y (bare o) (λ w. tries_at w n view)
tries_barred words x y n view word o h cause by = record {
  is = λ told receipts sound.
      let w : World = world_of words x told receipts in
      let b : World = world_of words (after_taking x x.cluster n) told receipts in
      let e : tries_at w n view ≡ ends b n (Fenced word) = ap (λ (p : Option LaneState). tries w n view (barred_by p)) h.runs ∙ ap (λ (q : Option ℕ). tries w n view q) (is_barred x.cluster n h.lane word h.runs h.rests cause) in
      let d = by.is told receipts in
      is_done words x words y (bare o) (λ z. tries_at z n view) told receipts (ends b n (Fenced word)).world.machine.callers.told
      (ap (λ (k : Done). k.world) e ∙ d.world) (d.outcome ∙ sym (ap (λ (k : Done). k.outcome) e));
}
