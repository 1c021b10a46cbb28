use Rattle.std.proofs.Common.{ℕ, ◌<◌, ◌≡◌, ◌≢◌, ◌⊎◌, inl, inr, Bool, true, false, ◌==◌, nat_eq, if◌then◌else◌, List, [], None, slice_set, refl, sym, ◌∙◌, ap, subst, arith}
use Rattle.std.proofs.lemmas.Bool.Decides.{nat_tests}
use Rattle.dn_act.specs.Action.{Performs}
use Rattle.dn_act.specs.declared.actions.Action.TheVariants.{Load, Cas}
use Rattle.dn_act.specs.Words.{word_at}
use Rattle.dn_act.proofs.Words.{word_at-set_other}
use Rattle.dn_word.specs.Deed.{deed_of}
use Rattle.dn_word.specs.declared.packed.deed.Deed.{Deed}
use Rattle.dn_word.specs.declared.packed.deed.DeedState.TheVariants.{Nobody, Owned, Leaving, Released}
use Rattle.dn_model.specs.Regions.{mark_at, deed_at, IsLane}
use Rattle.dn_store.specs.State.{StoreState, with_at}
use Rattle.dn_store.proofs.At.{at_by}
use Rattle.dn_known.specs.State.{KnownState}
use Rattle.dn_known.specs.Learnt.{kept_past}
use Rattle.dn_owners.specs.Events.{Release}
use Rattle.dn_owners.specs.Given.{IsGiven, IsStep}
use Rattle.dn_owners.proofs.Logs.{ordered}
use Rattle.dn_owners.proofs.Tables.{held_after}
use Rattle.dn_tend.specs.Tend.{action_in, given_up, asks_to_leave, acts, ends as ends_by}
use Rattle.dn_tend.specs.declared.phases.TendAct.{TendAct}
use Rattle.dn_tend.specs.declared.phases.TendAct.TheVariants as at
use Rattle.dn_tend.specs.declared.tasks.TaskAnswer.TheVariants.{Released as Was_released, NotLeaving, Trimmed, Again}
use Rattle.dn_ask.specs.Ask.{task_next}
use Rattle.dn_ask.specs.declared.asks.Act.TheVariants as act
use Rattle.dn_ask.specs.declared.asks.End.TheVariants as end
use Rattle.dn_lane.specs.State.{LaneState}
use Rattle.dn_lane.specs.Taken.{by, entered_next}
use Rattle.dn_lane.specs.declared.asked.Asked.{Asked}
use Rattle.dn_lane.specs.declared.base.Base.{Base}
use Rattle.dn_lane.specs.declared.modes.Mode.TheVariants as mode
use Rattle.dn_beside.specs.Pool.{Pool, store_in, IsWhole, IsDeed}
use Rattle.dn_beside.specs.Lanes.{IsMoved, LeavesOwn}
use Rattle.dn_beside.specs.Orders.{LeavesOrder}
use Rattle.dn_beside.specs.Step.{IsStepBy, IsQuiet, by_lane}
use Rattle.dn_beside.proofs.Apart.{own_apart}
use Rattle.dn_beside.proofs.Low.{after_event}
use Rattle.dn_beside.proofs.Deeds.{deed_step}
use Rattle.dn_learnt.specs.Learning.{Learns}
use Rattle.dn_learnt.specs.Heeding.{IsTrimmed}
use Rattle.dn_learnt.proofs.Lessons.{heeds_moved, trims_step}
use Rattle.dn_reach.proofs.Lasts.{log_lasts}
use Rattle.dn_reach.proofs.Gates.{missed}
use Rattle.dn_seek.proofs.Spelled.{HasLoaded, loads}
use Rattle.dn_lanes.specs.Lane.{IsLaneAt}
use Rattle.dn_lanes.specs.Stepped.{ComesTo, LaneStepped}
use Rattle.dn_lanes.proofs.Ends.{HasDone, ends_so, goes_so}
use Rattle.dn_lanes.proofs.GivenUp.{is_asked, gives_up}
use Rattle.dn_lanes.proofs.Heeds.{HasFound, IsHeeded, still_lesson, has_learnt, heeding, heeded}

-- A lane's tasks that concern no shared key: it gives up a slot that it was asked to leave, and drops what is merged.

abbrev pub tending : Base → Asked → TendAct → LaneState
tending g a phase = record { base = g; asked = a; mode = mode.Acting (act.Task phase) }

-- at such an action, on a whole pool
pub record IsTendingAt (p : Pool) (n : ℕ) (g : Base) (a : Asked) (phase : TendAct) : Type 0 where
  pub whole : IsWhole p
  pub lane : IsLane n
  pub at : IsLaneAt n (tending g a phase) p

found_so : (p : Pool) (n : ℕ) (g : Base) (a : Asked) (phase : TendAct) → IsTendingAt p n g a phase → HasFound p n g
found_so p n g a phase h = record { whole = h.whole; log = h.at.log; learns = h.at.learns; fetch = h.at.fetch }

-- ---- the deed is loaded
deed_by : (p : Pool) (n slot word : ℕ) (now : List ℕ) (g : Base) (a : Asked) → slot < 64 → g.staging ≡ [] → IsHeeded p n slot word now g → (b : Bool) → asks_to_leave n word ≡ b
    → ComesTo p n (tending g a (at.Deed slot)) now (by a (entered_next (heeding g slot word) a (task_next (if b then acts (at.GiveUp slot word) else ends_by (NotLeaving word)))))
deed_by p n slot word now g a lt empty h true asked =
    goes_so p h.q n (tending g a (at.Deed slot)) now (heeding g slot word) a (mode.Acting (act.Task (at.GiveUp slot word))) h.done h.lesson.quiet
    (empty, (lt, h.nothing, asked)) (λ clear. tt) (inl (omega (arith, ap (λ (s : StoreState). s.segment_count) h.lesson.store)))
deed_by p n slot word now g a lt empty h false asked =
    ends_so p h.q n (tending g a (at.Deed slot)) now (heeding g slot word) a (end.Task (NotLeaving word)) h.done h.lesson.quiet
    empty refl (omega (arith, ap (λ (s : StoreState). s.segment_count) h.lesson.store))

pub deed_taken : (p : Pool) (g : Base) (a : Asked) (slot word : ℕ) (now : List ℕ) → IsTendingAt p g.known.log.lane g a (at.Deed slot) → Performs (Load (deed_at slot)) word p.words now
    → LaneStepped p g.known.log.lane (tending g a (at.Deed slot)) word now
deed_taken p g a slot word now h did =
    let n : ℕ = g.known.log.lane in
    deed_by p n slot word now g a h.at.at.1.0 h.at.at.0
    (heeded p n slot word now g (record { found = found_so p n g a (at.Deed slot) h; lane = h.lane; there = h.at.at.1.0; performs = did }) h.at.at.1.1)
    (asks_to_leave n word) refl

-- ---- the deed is exchanged
-- the lane that it names has looked at nothing, and the deed still stands
pub record MayGiveUp (p : Pool) (n slot deed : ℕ) (g : Base) : Type 0 where
  pub found : HasFound p n g
  pub lane : IsLane n
  pub there : slot < 64
  pub nothing : (p.owners.knows n).look ≡ None
  pub asked : asks_to_leave n deed ≡ true
  pub stands : word_at p.words (deed_at slot) ≡ deed

abbrev pub given_pool : Pool → ℕ → ℕ → Pool
given_pool p slot deed = after_event p (Release slot (deed_of (given_up deed))) (deed_at slot) (given_up deed)

was_deed : (p : Pool) (n slot deed : ℕ) (g : Base) → MayGiveUp p n slot deed g → deed_of deed ≡ (store_in p).deeds slot
was_deed p n slot deed g h = sym (ap deed_of h.stands) ∙ h.found.whole.represents.table.deeds slot h.there

released : (p : Pool) (n slot deed : ℕ) (g : Base) → MayGiveUp p n slot deed g → IsStep ((store_in p).deeds slot) (deed_of (given_up deed)) Leaving Released
released p n slot deed g h =
    subst (λ x. IsStep x (deed_of (given_up deed)) Leaving Released) (was_deed p n slot deed g h) (gives_up deed (is_asked n deed h.asked).state)

released_given : (p : Pool) (n slot deed : ℕ) (g : Base) → MayGiveUp p n slot deed g → IsGiven p.owners (Release slot (deed_of (given_up deed)))
released_given p n slot deed g h =
    let names : ((store_in p).deeds slot).lane ≡ n = sym (ap (λ (d : Deed). d.lane) (was_deed p n slot deed g h)) ∙ (is_asked n deed h.asked).names in
    (released p n slot deed g h, ap (λ m. (p.owners.knows m).look) names ∙ h.nothing)

not_nobody : (d : Deed) → d.state ≡ Leaving → d.state ≡ Nobody → ⊥
not_nobody d e f = cc

not_owned : (d : Deed) → d.state ≡ Released → d.state ≡ Owned → ⊥
not_owned d e f = cc

released_moved : (p : Pool) (n slot deed : ℕ) (g : Base) → MayGiveUp p n slot deed g → IsMoved ((store_in p).deeds slot) (deed_of (given_up deed))
released_moved p n slot deed g h = inr (λ e. not_owned (deed_of (given_up deed)) (released p n slot deed g h).is)

released_order : (p : Pool) (n slot deed : ℕ) (g : Base) → MayGiveUp p n slot deed g → LeavesOrder p (given_pool p slot deed)
released_order p n slot deed g h =
    let s : StoreState = store_in p in
    let d : Deed = deed_of (given_up deed) in
    record {
      watch = refl;
      deeds = λ t lt. at_by (λ x. (x ≡ s.deeds t) ⊎ IsStep (s.deeds t) x Leaving Released) s.deeds slot d t
          (λ e. inr (subst (λ u. IsStep (s.deeds u) d Leaving Released) (sym e) (released p n slot deed g h)))
          (λ f. inl refl);
    }

released_step : (p : Pool) (n slot deed : ℕ) (g : Base) → MayGiveUp p n slot deed g → IsStepBy (by_lane n) p (given_pool p slot deed)
released_step p n slot deed g h =
    let s : StoreState = store_in p in
    let d : Deed = deed_of (given_up deed) in
    let r : IsStep (s.deeds slot) d Leaving Released = released p n slot deed g h in
    let named : IsDeed (s.deeds slot) = h.found.whole.deeds slot h.there in
    deed_step (by_lane n) p (Release slot d) slot (given_up deed) h.found.whole
    (record {
      slot = h.there;
      given = released_given p n slot deed g h;
      store = refl;
      deed = record {
        names = λ e. subst IsLane (sym r.lane) (named.names (not_nobody (s.deeds slot) r.was));
        granted = λ e. omega (arith, r.epoch, named.granted (not_nobody (s.deeds slot) r.was));
      };
      moved = released_moved p n slot deed g h;
      knows = λ m f. refl;
      watch = λ f. refl;
    })
    (λ f. released_order p n slot deed g h)

released_quiet : (p : Pool) (n slot deed : ℕ) (g : Base) → MayGiveUp p n slot deed g → IsQuiet p (given_pool p slot deed)
released_quiet p n slot deed g h = record {
  held = λ k v pos held.
      held_after p.owners (Release slot (deed_of (given_up deed))) k (ordered p.words p.chains (store_in p) h.found.whole.represents) h.found.whole.sound (released_given p n slot deed g h) ∙ held;
  promised = λ k. refl;
}

released_own : (p : Pool) (n slot deed : ℕ) (g : Base) → MayGiveUp p n slot deed g → LeavesOwn n p (given_pool p slot deed)
released_own p n slot deed g h =
    own_apart n (deed_at slot) p (given_pool p slot deed) (record { other = λ i d. word_at-set_other p.words (deed_at slot) i (given_up deed) d }) refl refl
    (λ t own. own) (λ e. absurd (omega (arith, e, h.lane.below))) (λ i lt e. absurd (omega (arith, e, h.there))) (λ t i lt own e. absurd (omega (arith, e, h.there)))

released_learns : (p : Pool) (n slot deed : ℕ) (g : Base) → MayGiveUp p n slot deed g → Learns (given_pool p slot deed) n g.known
released_learns p n slot deed g h =
    let s : StoreState = store_in p in
    let d : Deed = deed_of (given_up deed) in
    heeds_moved (p.owners.knows n) s.deeds (with_at s.deeds slot d) n g.known
    (λ t lt. at_by (λ x. IsMoved (s.deeds t) x) s.deeds slot d t (λ e. subst (λ u. IsMoved (s.deeds u) d) (sym e) (released_moved p n slot deed g h)) (λ f. inl refl))
    (released_step p n slot deed g h).grows.later.epochs h.found.learns

pub released_done : (p : Pool) (n slot deed : ℕ) (now : List ℕ) (g : Base) → MayGiveUp p n slot deed g → now ≡ slice_set p.words (deed_at slot) (given_up deed) → HasDone p n now g (given_pool p slot deed)
released_done p n slot deed now g h is = record {
  words = sym is;
  by = released_step p n slot deed g h;
  log = log_lasts p (given_pool p slot deed) n g.known.log (released_own p n slot deed g h) h.found.log;
  learns = released_learns p n slot deed g h;
  fetch = h.found.fetch;
}

exchanged_words : (words now : List ℕ) (at old new word : ℕ) → Performs (Cas at old new) word words now → word ≡ old → now ≡ slice_set words at new
exchanged_words words now at old new word f e = f.change ∙ by_test (nat_eq (word_at words at) old) (grind (arith, nat_tests, sym f.answer ∙ e)) where
  by_test : (b : Bool) → b ≡ true → slice_set words at (if b then new else word_at words at) ≡ slice_set words at new
  by_test true e = refl
  by_test false e = absurd (cc e)

is_same : (word deed : ℕ) → (word == deed) ≡ true → word ≡ deed
is_same word deed e = grind (arith, nat_tests, e)

is_other : (word deed : ℕ) → (word == deed) ≡ false → word ≢ deed
is_other word deed e s = grind (arith, nat_tests, e, s)

-- ---- an action that found what changes nothing
pub still_done : (p : Pool) (n : ℕ) (now : List ℕ) (g : Base) → HasFound p n g → now ≡ p.words → HasDone p n now g p
still_done p n now g h same = has_learnt p p n now g g.known h same (still_lesson n p h.whole) refl h.learns

given_by : (p : Pool) (n slot deed word : ℕ) (now : List ℕ) (g : Base) (a : Asked) → IsTendingAt p n g a (at.GiveUp slot deed) → Performs (Cas (deed_at slot) deed (given_up deed)) word p.words now
    → (b : Bool) → (word == deed) ≡ b → ComesTo p n (tending g a (at.GiveUp slot deed)) now (by a (entered_next g a (task_next (if b then ends_by Was_released else ends_by (Again deed word)))))
given_by p n slot deed word now g a h did true same =
    let is : word ≡ deed = is_same word deed same in
    let may : MayGiveUp p n slot deed g = record {
      found = found_so p n g a (at.GiveUp slot deed) h;
      lane = h.lane;
      there = h.at.at.1.0;
      nothing = h.at.at.1.1;
      asked = h.at.at.1.2;
      stands = sym did.answer ∙ is;
    } in
    ends_so p (given_pool p slot deed) n (tending g a (at.GiveUp slot deed)) now g a (end.Task Was_released)
    (released_done p n slot deed now g may (exchanged_words p.words now (deed_at slot) deed (given_up deed) word did is))
    (released_quiet p n slot deed g may) h.at.at.0 refl (omega arith)
given_by p n slot deed word now g a h did false same =
    let f : HasFound p n g = found_so p n g a (at.GiveUp slot deed) h in
    let stays : now ≡ p.words = missed p.words now (deed_at slot) deed (given_up deed) word did (is_other word deed same) in
    ends_so p p n (tending g a (at.GiveUp slot deed)) now g a (end.Task (Again deed word)) (still_done p n now g f stays) (still_lesson n p h.whole).quiet h.at.at.0 refl (omega arith)

pub given_taken : (p : Pool) (g : Base) (a : Asked) (slot deed word : ℕ) (now : List ℕ) → IsTendingAt p g.known.log.lane g a (at.GiveUp slot deed)
    → Performs (Cas (deed_at slot) deed (given_up deed)) word p.words now → LaneStepped p g.known.log.lane (tending g a (at.GiveUp slot deed)) word now
given_taken p g a slot deed word now h did = given_by p g.known.log.lane slot deed word now g a h did (word == deed) refl

-- ---- the mark is loaded
pub mark_taken : (p : Pool) (g : Base) (a : Asked) (word : ℕ) (now : List ℕ) → IsTendingAt p g.known.log.lane g a at.Mark → Performs (Load (mark_at g.known.log.lane)) word p.words now
    → LaneStepped p g.known.log.lane (tending g a at.Mark) word now
mark_taken p g a word now h did =
    let n : ℕ = g.known.log.lane in
    let f : HasLoaded (mark_at n) word p.words now = loads (mark_at n) word p.words now did in
    let k : KnownState = record g.known { pending = kept_past word g.known.pending } in
    let t : IsTrimmed p n k = trims_step p n word g.known h.whole h.lane h.at.learns f.word_is in
    ends_so p t.q n (tending g a at.Mark) now (record g { known = k }) a (end.Task (Trimmed word))
    (has_learnt p t.q n now g k (found_so p n g a at.Mark h) f.stays t.lesson refl t.learns)
    t.lesson.quiet h.at.at.0 refl (omega (arith, ap (λ (s : StoreState). s.segment_count) t.lesson.store))

-- ---- whichever action it is
pub task_taken : (p : Pool) (g : Base) (a : Asked) (phase : TendAct) (word : ℕ) (now : List ℕ) → IsTendingAt p g.known.log.lane g a phase → Performs (action_in g.known.log.lane phase) word p.words now
    → LaneStepped p g.known.log.lane (tending g a phase) word now
task_taken p g a (at.Deed slot) word now h did = deed_taken p g a slot word now h did
task_taken p g a (at.GiveUp slot deed) word now h did = given_taken p g a slot deed word now h did
task_taken p g a at.Mark word now h did = mark_taken p g a word now h did
task_taken p g a (at.ShareLook key) word now h did = absurd h.at.at.1
task_taken p g a (at.ShareGate key look place) word now h did = absurd h.at.at.1
task_taken p g a (at.Count share) word now h did = absurd h.at.at.1
task_taken p g a (at.Claim share) word now h did = absurd h.at.at.1
task_taken p g a (at.Name share cell) word now h did = absurd h.at.at.1
task_taken p g a (at.Open share cell) word now h did = absurd h.at.at.1
task_taken p g a (at.UnshareLook key) word now h did = absurd h.at.at.1
task_taken p g a (at.UnshareGate unshare) word now h did = absurd h.at.at.1
task_taken p g a (at.Cell unshare gate) word now h did = absurd h.at.at.1
task_taken p g a (at.Close unshare gate seen stamp) word now h did = absurd h.at.at.1
