use Rattle.std.proofs.Common.{ℕ, ◌≡◌, ◌<◌, Bool, false, List, Option, Some, None, sym, arith}
use Rattle.std.proofs.lemmas.Option.{same_Some, none-some}
use Rattle.dn_word.specs.declared.positions.Position.{Position}
use Rattle.dn_word.specs.Regions.{deed_at}
use Rattle.dn_act.specs.declared.actions.Action.TheVariants.{Load}
use Rattle.dn_hist.specs.declared.receipts.SessionView.{SessionView}
use Rattle.dn_model.specs.Regions.{IsLane}
use Rattle.dn_store.specs.State.{with_at}
use Rattle.dn_store.proofs.At.{at_by}
use Rattle.dn_lane.specs.State.{LaneState}
use Rattle.dn_lane.specs.declared.asked.Asked.{Asked}
use Rattle.dn_lane.specs.declared.asked.Asked.TheVariants as asked
use Rattle.dn_beside.specs.Pool.{Pool}
use Rattle.dn_receipts.specs.Receipts.{AreReceipts}
use Rattle.dn_callers.specs.Callers.{Callers, receipts_of}
use Rattle.dn_callers.specs.Sessions.{IsSession, AreSessions, IsUnderWay}
use Rattle.dn_callers.specs.Changes.{numbered_at, told_at, closed_at, routed_at, hinted_at}
use Rattle.dn_callers.proofs.Learning.{numbers_sessions, numbers_calls, routes_sessions, routes_calls, hints_sessions, hints_calls}
use Rattle.dn_callers.proofs.Telling.{told_sessions, told_calls}
use Rattle.dn_callers.proofs.Answering.{closed_sessions, closed_calls}
use Rattle.dn_machine.specs.State.{Machine}
use Rattle.dn_machine.specs.Events.{Session, Acts, Fails, Loads, Numbers, Tells, Hints, Closes, found, loaded, happens}
use Rattle.dn_machine.specs.Given.{IsOfSession, HasNoCall}
use Rattle.dn_machine.specs.Sound.{IsCallOf, IsMachineAt}
use Rattle.dn_machine.specs.Kept.{IsKept}
use Rattle.dn_machine.proofs.Rest.{stays, same_grows}

-- What sessions do to a machine: they learn of the pool and of each other, and store no word.

-- ---- the pool and all who act on it stay
record Learnt (p : Pool) (m : Machine) (c : Callers) (loads : ℕ → Option ℕ) : Type 0 where
  pub callers : AreSessions c
  pub receipts : AreReceipts p (receipts_of c.receipts)
  pub calls : (n : ℕ) (l : LaneState) → m.lanes n ≡ Some l → IsCallOf c l.asked
  pub slots : (s slot : ℕ) → loads s ≡ Some slot → slot < 64

learnt_kept : (p : Pool) (m : Machine) (c : Callers) (loads : ℕ → Option ℕ) → IsMachineAt p m → Learnt p m c loads → IsKept p (record m { callers = c; loads = loads })
learnt_kept p m c loads h s = record {
  q = p;
  at = record {
    words = h.words;
    whole = h.whole;
    actors = record {
      made = h.actors.made;
      numbers = h.actors.numbers;
      loads = s.slots;
      calls = s.calls;
      alone = h.actors.alone;
    };
    know = record {
      lanes = h.know.lanes;
      mergers = h.know.mergers;
      monitor = h.know.monitor;
      unmade = h.know.unmade;
    };
    room = record { pool = h.room.pool; buckets = h.room.buckets; segments = h.room.segments };
    receipts = s.receipts;
    callers = s.callers;
  };
  grows = same_grows p;
}

-- ---- calls under way stay so
pub call_by : (c d : Callers) → ((view : SessionView) → IsUnderWay c view → IsUnderWay d view) → (a : Asked) → IsCallOf c a → IsCallOf d a
call_by c d by asked.Nothing h = record {}
call_by c d by (asked.Call call view room) h = (by view h.0, h.1)
call_by c d by asked.Task h = record {}

-- but those of a session that is closed
pub call_unclosed : (c : Callers) (s : ℕ) (a : Asked) → (IsOfSession s a → ⊥) → IsCallOf c a → IsCallOf (closed_at c s) a
call_unclosed c s asked.Nothing no_call h = record {}
call_unclosed c s (asked.Call call view room) no_call h = (closed_calls c s view h.0 (λ e. no_call (sym e)), h.1)
call_unclosed c s asked.Task no_call h = record {}

-- ---- what slots are loaded
slots_with : (loads : ℕ → Option ℕ) (s : ℕ) (v : Option ℕ) → ((k slot : ℕ) → loads k ≡ Some slot → slot < 64) → ((slot : ℕ) → v ≡ Some slot → slot < 64) → (k slot : ℕ) → with_at loads s v k ≡ Some slot → slot < 64
slots_with loads s v h new k slot = at_by (λ (x : Option ℕ). x ≡ Some slot → slot < 64) loads s v k (λ e f. new slot f) (λ d f. h k slot f)

nothing_to_load : (slot : ℕ) → None ≡ Some slot → slot < 64
nothing_to_load slot e = absurd (none-some slot e)

-- callers change so, and loads stay
changed : (p : Pool) (m : Machine) (c : Callers) → IsMachineAt p m → AreSessions c → AreReceipts p (receipts_of c.receipts) → ((n : ℕ) (l : LaneState) → m.lanes n ≡ Some l → IsCallOf c l.asked)
    → IsKept p (record m { callers = c })
changed p m c h sessions receipts calls = learnt_kept p m c m.loads h (record { callers = sessions; receipts = receipts; calls = calls; slots = h.actors.loads })

-- loads change so, and callers stay
loads_kept : (p : Pool) (m : Machine) (s : ℕ) (v : Option ℕ) → IsMachineAt p m → ((slot : ℕ) → v ≡ Some slot → slot < 64) → IsKept p (record m { loads = with_at m.loads s v })
loads_kept p m s v h new = learnt_kept p m m.callers (with_at m.loads s v) h (record {
  callers = h.callers;
  receipts = h.receipts;
  calls = h.actors.calls;
  slots = slots_with m.loads s v h.actors.loads new;
})

-- ---- the load of a deed
route_learnt : (p : Pool) (m : Machine) (s : ℕ) → IsMachineAt p m → (o : Option ℕ) → IsKept p (loaded m s o)
route_learnt p m s h None = stays p m h
route_learnt p m s h (Some slot) =
    let word : ℕ = found m (Load (deed_at slot)) in
    let c : Callers = routed_at m.callers s slot word in
    learnt_kept p m c (with_at m.loads s None) h (record {
      callers = routes_sessions m.callers s slot word h.callers;
      receipts = h.receipts;
      calls = λ n l is. call_by m.callers c (λ view u. routes_calls m.callers s slot word view u) l.asked (h.actors.calls n l is);
      slots = slots_with m.loads s None h.actors.loads nothing_to_load;
    })

-- ---- the events
pub session_acts : (p : Pool) (m : Machine) (s : ℕ) → IsMachineAt p m → IsKept p (happens m (Acts (Session s)))
session_acts p m s h = route_learnt p m s h (m.loads s)

pub session_gives_up : (p : Pool) (m : Machine) (s : ℕ) (done : Bool) → IsMachineAt p m → IsKept p (happens m (Fails (Session s) done))
session_gives_up p m s done h = loads_kept p m s None h nothing_to_load

pub session_loads : (p : Pool) (m : Machine) (s slot : ℕ) → IsMachineAt p m → slot < 64 → IsKept p (happens m (Loads s slot))
session_loads p m s slot h lt = loads_kept p m s (Some slot) h (λ k e. omega (arith, same_Some slot k e, lt))

pub session_numbers : (p : Pool) (m : Machine) (s : ℕ) → IsMachineAt p m → IsKept p (happens m (Numbers s))
session_numbers p m s h =
    let c : Callers = numbered_at m.callers s in
    changed p m c h (numbers_sessions m.callers s h.callers) h.receipts
    (λ n l is. call_by m.callers c (λ view u. numbers_calls m.callers s view u) l.asked (h.actors.calls n l is))

pub session_told : (p : Pool) (m : Machine) (s : ℕ) (at : Position) → IsMachineAt p m → IsSession s × (m.callers.closed s ≡ false) → IsKept p (happens m (Tells s at))
session_told p m s at h may =
    let c : Callers = told_at m.callers s at in
    changed p m c h (told_sessions m.callers s at h.callers may.0 may.1) h.receipts
    (λ n l is. call_by m.callers c (λ view u. told_calls m.callers s at view h.callers may.0 u) l.asked (h.actors.calls n l is))

pub session_hinted : (p : Pool) (m : Machine) (s : ℕ) (pairs : List (ℕ × ℕ)) → IsMachineAt p m → IsKept p (happens m (Hints s pairs))
session_hinted p m s pairs h =
    let c : Callers = hinted_at m.callers s pairs in
    changed p m c h (hints_sessions m.callers s pairs h.callers) h.receipts
    (λ n l is. call_by m.callers c (λ view u. hints_calls m.callers s pairs view u) l.asked (h.actors.calls n l is))

pub session_closes : (p : Pool) (m : Machine) (s : ℕ) → IsMachineAt p m → HasNoCall m s → IsKept p (happens m (Closes s))
session_closes p m s h alone =
    changed p m (closed_at m.callers s) h (closed_sessions m.callers s h.callers) h.receipts
    (λ n l is.
    let made = h.actors.made n l is in
    let lane : IsLane n = h.actors.numbers n made.0 made.1 in
    call_unclosed m.callers s l.asked (alone n l lane is) (h.actors.calls n l is))
