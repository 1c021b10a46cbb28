use Rattle.std.proofs.Common.{ℕ, ◌+◌, ◌<◌, ◌≤◌, ◌^◌, ◌≡◌, ◌≢◌, inl, inr, List, [], ◌∷◌, ◌++◌, Option, Some, None, All, length, refl, sym, ◌∙◌, ap, subst, arith}
use Rattle.std.specs.Prelude.{IsSome, Result, Ok, Err, OnOk, OnErr, IfOk}
use Rattle.std.proofs.lemmas.Bool.{false≢true, cases_eq, cases_lt}
use Rattle.std.proofs.lemmas.Option.{none-some}
use Rattle.dn_word.specs.declared.positions.Position.{Position}
use Rattle.dn_hist.specs.Calls.{key_of}
use Rattle.dn_hist.specs.declared.calls.Call.{Call}
use Rattle.dn_hist.specs.declared.calls.Call.TheVariants.{Get, Put, Delete}
use Rattle.dn_hist.specs.declared.receipts.SessionView.{SessionView}
use Rattle.dn_tend.specs.declared.tasks.Task.{Task}
use Rattle.dn_monitor.specs.Heirs.{AreHeirs}
use Rattle.dn_monitor.specs.Monitor.{Monitoring, IsOrder}
use Rattle.dn_monitor.specs.declared.orders.Order.{Order}
use Rattle.dn_monitor.specs.declared.orders.Order.TheVariants.{Format, Takeover}
use Rattle.dn_orders.specs.Knowing.{AreLanes}
use Rattle.dn_orders.proofs.Takeovers.{heirs_are}
use Rattle.dn_route.specs.SessionState.{view_of}
use Rattle.dn_route.specs.CallersOrder.{Told, told_now}
use Rattle.dn_callers.specs.Callers.{Standing}
use Rattle.dn_callers.specs.Sessions.{IsSession, IsUnderWay}
use Rattle.dn_lane.specs.Asked.{view_in}
use Rattle.dn_lane.specs.Refused.{refused_by}
use Rattle.dn_lane.specs.State.{LaneState}
use Rattle.dn_lane.specs.declared.answers.Refuse.{Refuse}
use Rattle.dn_lane.specs.declared.asked.Asked.{Asked}
use Rattle.dn_lane.specs.declared.asked.Asked.TheVariants as asked
use Rattle.dn_lane.specs.declared.modes.Mode.{Mode}
use Rattle.dn_lane.specs.declared.modes.Mode.TheVariants as mode
use Rattle.dn_lanes.specs.Begun.{IsOwnTask}
use Rattle.dn_lanes.specs.Calls.{IsCall}
use Rattle.dn_machine.specs.State.{Machine}
use Rattle.dn_machine.specs.Events.{Event, Asks, Tends, Orders, Adds, Numbers}
use Rattle.dn_machine.specs.Given.{IsGiven, IsOfSession, HasNoCall, IsFree}
use Rattle.dn_machine.specs.Sound.{IsSound}
use Rattle.dn_cluster.specs.State.{ClusterState, numbered}
use Rattle.dn_cluster.specs.Machine.{machine_of, lane_in, merger_in, session_at, IsOpen, Runs}
use Rattle.dn_cluster.specs.Asks.{refused_in, refused_by as refused_there}
use Rattle.dn_cluster.specs.Does.{CanBeSound, Does, IsTold, Happens}
use Rattle.dn_cluster.specs.declared.clusters.AddFault.{AddFault}
use Rattle.dn_cluster.proofs.Given.{given_sound, first_view, told_sound}
use Rattle.dn_cluster.proofs.Places.{no_place}

-- What a play of the tests keeps: its cluster can be sound over the words of its pool.

pub given_can : (words : List ℕ) (c d : ClusterState) (e : Event) → Does c d e → d.segments ≡ c.segments → ((told : List Told) (receipts : List Standing) → IsGiven c.segments (machine_of words c told receipts) e)
    → CanBeSound words c → CanBeSound words d
given_can words c d e does same given h = record {
  told = h.told;
  receipts = h.receipts;
  sound = subst (λ (k : ℕ). IsSound k (machine_of words d h.told h.receipts)) (sym same) (given_sound words c d e h.told h.receipts does h.sound (given h.told h.receipts));
}

pub acted_can : (words now : List ℕ) (c d : ClusterState) (joins : List Standing) (e : Event) → Happens words c now d joins e → CanBeSound words c → CanBeSound now d
acted_can words now c d joins e so h = record { told = h.told; receipts = h.receipts ++ joins; sound = (so.is h.told h.receipts h.sound).sound }

pub told_can : (words : List ℕ) (c d : ClusterState) (s : ℕ) (position : Position) → IsTold c d s position → d.segments ≡ c.segments → IsSession s → IsOpen c s → CanBeSound words c → CanBeSound words d
told_can words c d s position does same is unclosed h = record {
  told = h.told ++ told_now (session_at c s) position ∷ [];
  receipts = h.receipts;
  sound = subst (λ (k : ℕ). IsSound k (machine_of words d (h.told ++ told_now (session_at c s) position ∷ []) h.receipts)) (sym same) (told_sound words c d s position h.told h.receipts does is unclosed h.sound);
}

-- ---- a lane that runs and refuses nothing is free
idle_by : (l : LaneState) (m : Mode) → refused_by l m ≡ None → m ≡ mode.Idle
idle_by l mode.Idle e = refl
idle_by l (mode.Acting wait) e = absurd (none-some _ (sym e))
idle_by l (mode.Finding wait find) e = absurd (none-some _ (sym e))
idle_by l (mode.Claiming wait claim) e = absurd (none-some _ (sym e))
idle_by l (mode.Sealing wait seal) e = absurd (none-some _ (sym e))

free_of : (words : List ℕ) (c : ClusterState) (n : ℕ) (told : List Told) (receipts : List Standing) → Runs c n → refused_in c n ≡ None → IsFree (machine_of words c told receipts) n
free_of words c n told receipts r none = record { lane = r.0; runs = r.1; idle = idle_by r.0 r.0.mode (sym (ap refused_there r.1) ∙ none) }

pub tended_can : (words : List ℕ) (c d : ClusterState) (n : ℕ) (task : Task) → Does c d (Tends n task) → d.segments ≡ c.segments → Runs c n → refused_in c n ≡ None → IsOwnTask task → CanBeSound words c → CanBeSound words d
tended_can words c d n task does same r none own h = given_can words c d (Tends n task) does same (λ told receipts. (free_of words c n told receipts r none, own)) h

-- ---- a session's next call is numbered and given
lanes_stay : (c d : ClusterState) (s n : ℕ) → Does c d (Numbers s) → lane_in (numbered d.nodes n) ≡ lane_in (numbered c.nodes n)
lanes_stay c d s n does = ap (λ (m : Machine). m.lanes n) (does.is [] [] [])

pub runs_still : (c d : ClusterState) (s n : ℕ) → Does c d (Numbers s) → Runs c n → Runs d n
runs_still c d s n does r = (r.0, lanes_stay c d s n does ∙ r.1)

alone_still : (c d : ClusterState) (s k : ℕ) → Does c d (Numbers s) → k ≡ s → HasNoCall (machine_of [] c [] []) s → HasNoCall (machine_of [] d [] []) k
alone_still c d s k does is alone n l lane runs of = alone n l lane (sym (lanes_stay c d s n does) ∙ runs) (subst (λ (i : ℕ). IsOfSession i l.asked) is of)

pub asked_can : (words : List ℕ) (c d f : ClusterState) (s n key : ℕ) (view : SessionView) (call : Call) → Does c d (Numbers s) → d.segments ≡ c.segments → view ≡ view_of (session_at d s) key → IsSession s → IsOpen c s
    → HasNoCall (machine_of [] c [] []) s → Runs c n → IsCall call → view.last.stamp < 2 ^ 31 → view.hint ≡ None → refused_in d n ≡ None → Does d f (Asks n view call) → f.segments ≡ d.segments → CanBeSound words c → CanBeSound words f
asked_can words c d f s n key view call does same is session unclosed alone r fits last hint none asks then_same h = record {
  told = h.told;
  receipts = h.receipts;
  sound = subst (λ (k : ℕ). IsSound k (machine_of words f h.told h.receipts)) (sym then_same) (given_sound words d f (Asks n view call) h.told h.receipts asks sound (record {
    free = free_of words d n h.told h.receipts (runs_still c d s n does r) none;
    fits = fits;
    last = last;
    hint = hint;
    good = subst (λ (x : SessionView). IsUnderWay (machine_of words d h.told h.receipts).callers x) (sym is) (first_view words c d s key h.told h.receipts does h.sound session unclosed);
    alone = alone_still c d s view.session does own alone;
  }));
} where
  sound : IsSound d.segments (machine_of words d h.told h.receipts)
  sound = subst (λ (k : ℕ). IsSound k (machine_of words d h.told h.receipts)) (sym same) (given_sound words c d (Numbers s) h.told h.receipts does h.sound tt)

  own : view.session ≡ s
  own = ap (λ (x : SessionView). x.session) is ∙ sound.at.callers.numbers s session

pub numbered_can : (words : List ℕ) (c d : ClusterState) (s : ℕ) → Does c d (Numbers s) → d.segments ≡ c.segments → CanBeSound words c → CanBeSound words d
numbered_can words c d s does same h = given_can words c d (Numbers s) does same (λ told receipts. tt) h

-- ---- orders, and a further lane
heirs_by : (order : Order) (live heirs : List ℕ) → All (λ lane. (1 ≤ lane) × (lane < 64)) live → ((lane : ℕ) → order ≡ Takeover lane → AreHeirs live heirs) → (lane : ℕ) → order ≡ Takeover lane → AreLanes heirs
heirs_by order live heirs all are lane is = heirs_are live heirs all (are lane is)

pub ordered_can : (words : List ℕ) (c d : ClusterState) (order : Order) (live : List ℕ) → IsSome d.monitor → ((x : Monitoring) → d.monitor ≡ Some x → Does c d (Orders order x.heirs))
    → ((lane : ℕ) (x : Monitoring) → order ≡ Takeover lane → d.monitor ≡ Some x → AreHeirs live x.heirs) → d.segments ≡ c.segments
    → c.monitor ≡ None → IsOrder order → ((segments : ℕ) → order ≡ Format segments → ⊥) → All (λ lane. (1 ≤ lane) × (lane < 64)) live → CanBeSound words c → CanBeSound words d
ordered_can words c d order live some does are same free fits unformatted all h = by_monitor d.monitor refl some where
  by_monitor : (o : Option Monitoring) → d.monitor ≡ o → IsSome o → CanBeSound words d
  by_monitor None e i = absurd (false≢true i)
  by_monitor (Some x) e i = given_can words c d (Orders order x.heirs) (does x e) same (λ told receipts. record {
    free = free;
    fits = fits;
    formatted = unformatted;
    lanes = heirs_by order live x.heirs all (λ lane is. are lane x is e);
  }) h

pub added_can : (words : List ℕ) (c d : ClusterState) (n : ℕ) → n ≡ length c.nodes + 1 → length c.nodes < 63 → Does c d (Adds n c.segments) → d.segments ≡ c.segments → CanBeSound words c → CanBeSound words d
added_can words c d n is few does same h = given_can words c d (Adds n c.segments) does same (λ told receipts. (
  record { positive = omega (arith, is); below = omega (arith, is, few) },
  ap merger_in (no_place c.nodes n (λ pos. omega (arith, is))),
  refl,
)) h

-- ---- by what a call answers
pub tended_by : (words : List ℕ) (c d : ClusterState) (n : ℕ) (task : Task) (r : Result (Unit {0}) Refuse) → OnOk r (Does c d (Tends n task)) → OnOk r (refused_in c n ≡ None) → OnErr r (d ≡ c) → d.segments ≡ c.segments
    → Runs c n → IsOwnTask task → CanBeSound words c → CanBeSound words d
tended_by words c d n task (Ok u) does none same segments r own h = tended_can words c d n task does segments r none own h
tended_by words c d n task (Err e) does none same segments r own h = subst (λ (x : ClusterState). CanBeSound words x) (sym same) h

pub asked_by : (words : List ℕ) (c d f : ClusterState) (s n key : ℕ) (view : SessionView) (call : Call) (r : Result (Unit {0}) Refuse) → Does c d (Numbers s) → d.segments ≡ c.segments → view ≡ view_of (session_at d s) key
    → IsSession s × IsOpen c s × HasNoCall (machine_of [] c [] []) s → Runs c n → IsCall call → view.last.stamp < 2 ^ 31 → view.hint ≡ None
    → OnOk r (refused_in d n ≡ None) → OnOk r (Does d f (Asks n view call)) → OnErr r (f ≡ d) → f.segments ≡ d.segments → CanBeSound words c → CanBeSound words f
asked_by words c d f s n key view call (Ok u) does same is idle r fits last hint none asks left then_same h =
    asked_can words c d f s n key view call does same is idle.0 idle.1 idle.2 r fits last hint none asks then_same h
asked_by words c d f s n key view call (Err e) does same is idle r fits last hint none asks left then_same h = subst (λ (x : ClusterState). CanBeSound words x) (sym left) (numbered_can words c d s does same h)

-- the session that the view shows
pub shows : (d : ClusterState) (s key : ℕ) (view : SessionView) (words : List ℕ) → view ≡ view_of (session_at d s) key → IsSession s → CanBeSound words d → IsSession view.session
shows d s key view words is session h = subst IsSession (sym (ap (λ (x : SessionView). x.session) is ∙ h.sound.at.callers.numbers s session)) session

pub added_by : (words : List ℕ) (c d : ClusterState) (r : Result ℕ AddFault) → IfOk r (λ n. n ≡ length c.nodes + 1) → IfOk r (λ n. length c.nodes < 63) → IfOk r (λ n. Does c d (Adds n c.segments)) → OnErr r (d ≡ c) → d.segments ≡ c.segments
    → CanBeSound words c → CanBeSound words d
added_by words c d (Ok n) is few does same segments h = added_can words c d n is few does segments h
added_by words c d (Err e) is few does same segments h = subst (λ (x : ClusterState). CanBeSound words x) (sym same) h

-- ---- the session of a lane's call
pub its_session : (s : ℕ) (a : Asked) → IsOfSession s a → (view_in a).session ≡ s
its_session s asked.Nothing o = absurd o
its_session s (asked.Call call view room) o = o
its_session s asked.Task o = absurd o

-- no lane below a number has a call of it
abbrev pub AreNotBelow : ClusterState → ℕ → ℕ → Type 0
AreNotBelow c s most = (n : ℕ) (l : LaneState) → 0 < n → n ≤ most → lane_in (numbered c.nodes n) ≡ Some l → IsOfSession s l.asked → ⊥

pub none_below : (c : ClusterState) (s : ℕ) → AreNotBelow c s 0
none_below c s n l pos le is of = omega (arith, pos, le)

pub one_more_not : (c : ClusterState) (s k : ℕ) → AreNotBelow c s k → ((l : LaneState) → lane_in (numbered c.nodes (k + 1)) ≡ Some l → IsOfSession s l.asked → ⊥) → AreNotBelow c s (k + 1)
one_more_not c s k below last n l pos le is of = elim (cases_eq n (k + 1)) [
  | inl e ↦ last l (ap (λ (i : ℕ). lane_in (numbered c.nodes i)) (sym e) ∙ is) of
  | inr d ↦ below n l pos (omega (arith, le, d)) is of
]

pub all_below : (c : ClusterState) (s : ℕ) → AreNotBelow c s (length c.nodes) → HasNoCall (machine_of [] c [] []) s
all_below c s below n l lane is of = elim (cases_lt (length c.nodes) n) [
  | inl lt ↦ none-some l (sym (ap lane_in (no_place c.nodes n (λ pos. lt))) ∙ is)
  | inr le ↦ below n l lane.positive (omega (arith, le)) is of
]

pub keyed : (call : Call) → IsCall call → key_of call ≢ 0
keyed (Get key) h = h
keyed (Put key value) h = h.0
keyed (Delete key) h = h
