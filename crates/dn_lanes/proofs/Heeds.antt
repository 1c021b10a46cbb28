use Rattle.std.proofs.Common.{ℕ, ◌<◌, ◌≡◌, Bool, true, false, ◌==◌, if◌then◌else◌, List, None, slice_index, slice_set, refl, sym, ◌∙◌, ap, subst, arith}
use Rattle.dn_act.specs.Action.{Performs}
use Rattle.dn_act.specs.declared.actions.Action.TheVariants.{Load}
use Rattle.dn_word.specs.Deed.{deed_of}
use Rattle.dn_model.specs.Regions.{deed_at, IsLane}
use Rattle.dn_store.specs.State.{StoreState}
use Rattle.dn_plan.specs.Plan.{is_owner}
use Rattle.dn_known.specs.State.{KnownState}
use Rattle.dn_known.specs.Learnt.{met}
use Rattle.dn_lane.specs.declared.base.Base.{Base}
use Rattle.dn_beside.specs.Pool.{Pool, store_in, IsWhole}
use Rattle.dn_beside.specs.Step.{by_lane}
use Rattle.dn_beside.proofs.Still.{learning_step, quiet_still}
use Rattle.dn_beside.proofs.Chained.{step_then, quiet_then}
use Rattle.dn_learnt.specs.Learning.{Learns}
use Rattle.dn_learnt.specs.Heeding.{HasLooked, IsLesson, IsLooked, IsTaught}
use Rattle.dn_learnt.proofs.Looks.{looked, unlooked}
use Rattle.dn_learnt.proofs.Lessons.{ends}
use Rattle.dn_reach.specs.OwnLog.{HoldsLog}
use Rattle.dn_reach.proofs.Lasts.{log_lasts}
use Rattle.dn_seek.proofs.Spelled.{HasLoaded, loads}
use Rattle.dn_lanes.proofs.Ends.{HasDone, own_lesson}

-- A lane loads a deed, and meets its epoch.

-- ---- an action that changes no word, before the lane learns by it
pub record HasFound (p : Pool) (n : ℕ) (g : Base) : Type 0 where
  pub whole : IsWhole p
  pub log : HoldsLog p n g.known.log
  pub learns : Learns p n g.known
  pub fetch : g.fetch.segments ≡ (store_in p).pool

pub still_lesson : (n : ℕ) (p : Pool) → IsWhole p → IsLesson n p p
still_lesson n p h = record {
  words = refl;
  chains = refl;
  store = refl;
  promised = refl;
  watch = refl;
  by = learning_step (by_lane n) p p.owners refl h (λ k. omega arith) (λ m d. refl) (λ f. refl);
  quiet = quiet_still p p.owners refl (λ k. refl);
}

pub lesson_then : (n : ℕ) (p q r : Pool) → IsLesson n p q → IsLesson n q r → IsLesson n p r
lesson_then n p q r a b = record {
  words = b.words ∙ a.words;
  chains = b.chains ∙ a.chains;
  store = b.store ∙ a.store;
  promised = b.promised ∙ a.promised;
  watch = b.watch ∙ a.watch;
  by = step_then (by_lane n) p q r a.by b.by;
  quiet = quiet_then p q r a.quiet b.quiet;
}

pub has_learnt : (p q : Pool) (n : ℕ) (now : List ℕ) (g : Base) (k : KnownState) → HasFound p n g → now ≡ p.words → IsLesson n p q → k.log ≡ g.known.log → Learns q n k → HasDone p n now (record g { known = k }) q
has_learnt p q n now g k h same s log learns = record {
  words = s.words ∙ sym same;
  by = s.by;
  log = subst (HoldsLog q n) (sym log) (log_lasts p q n g.known.log (own_lesson n p q s) h.log);
  learns = learns;
  fetch = h.fetch ∙ sym (ap (λ (t : StoreState). t.pool) s.store);
}

-- ---- what the lane knows once it has met the deed's epoch
pub met_log : (k : KnownState) (slot epoch : ℕ) → (met k slot epoch).log ≡ k.log
met_log k slot epoch = by_test (slice_index k.epochs slot == epoch) where
  by_test : (b : Bool) → (let m : KnownState = (if b then k else record k { epochs = slice_set k.epochs slot epoch; counts = slice_set k.counts slot k.log.len }) in m).log ≡ k.log
  by_test true = refl
  by_test false = refl

abbrev pub heeding : Base → ℕ → ℕ → Base
heeding g slot word = record g { known = met g.known slot (deed_of word).epoch }

pub record IsHeeding (p : Pool) (n slot word : ℕ) (now : List ℕ) (g : Base) : Type 0 where
  pub found : HasFound p n g
  pub lane : IsLane n
  pub there : slot < 64
  pub performs : Performs (Load (deed_at slot)) word p.words now

-- whatever it says
pub record IsHeeded (p : Pool) (n slot word : ℕ) (now : List ℕ) (g : Base) : Type 0 where
  pub q : Pool
  pub lesson : IsLesson n p q
  pub done : HasDone p n now (heeding g slot word) q
  pub nothing : (q.owners.knows n).look ≡ None

-- it says that the lane is owner: the lane has looked then
pub record IsSeen (p : Pool) (n slot word : ℕ) (now : List ℕ) (g : Base) : Type 0 where
  pub q : Pool
  pub lesson : IsLesson n p q
  pub done : HasDone p n now (heeding g slot word) q
  pub looked : HasLooked q n slot word

loaded : (p : Pool) (n slot word : ℕ) (now : List ℕ) (g : Base) → IsHeeding p n slot word now g → HasLoaded (deed_at slot) word p.words now
loaded p n slot word now g h = loads (deed_at slot) word p.words now h.performs

pub seen : (p : Pool) (n slot word : ℕ) (now : List ℕ) (g : Base) → IsHeeding p n slot word now g → is_owner n word ≡ true → IsSeen p n slot word now g
seen p n slot word now g h o =
    let f : HasLoaded (deed_at slot) word p.words now = loaded p n slot word now g h in
    let l : IsLooked p n slot word g.known =
    looked p n slot word g.known (record { whole = h.found.whole; lane = h.lane; there = h.there; learns = h.found.learns; len = sym h.found.log.len; found = f.word_is }) o in
    let k : KnownState = met g.known slot (deed_of word).epoch in
    record {
      q = l.q;
      lesson = l.lesson;
      done = has_learnt p l.q n now g k h.found f.stays l.lesson (met_log g.known slot (deed_of word).epoch) l.learns;
      looked = l.looked;
    }

heeded_by : (p : Pool) (n slot word : ℕ) (now : List ℕ) (g : Base) → IsHeeding p n slot word now g → (p.owners.knows n).look ≡ None → (b : Bool) → is_owner n word ≡ b → IsHeeded p n slot word now g
heeded_by p n slot word now g h none true o =
    let f : HasLoaded (deed_at slot) word p.words now = loaded p n slot word now g h in
    let k : KnownState = met g.known slot (deed_of word).epoch in
    let s : IsSeen p n slot word now g = seen p n slot word now g h o in
    let t : IsTaught s.q n k = ends s.q n k s.done.by.whole s.done.learns in
    let lesson : IsLesson n p t.q = lesson_then n p s.q t.q s.lesson t.lesson in
    record {
      q = t.q;
      lesson = lesson;
      done = has_learnt p t.q n now g k h.found f.stays lesson (met_log g.known slot (deed_of word).epoch) t.learns;
      nothing = t.ended;
    }
heeded_by p n slot word now g h none false o =
    let f : HasLoaded (deed_at slot) word p.words now = loaded p n slot word now g h in
    let k : KnownState = met g.known slot (deed_of word).epoch in
    let learns : Learns p n k = unlooked p n slot word g.known h.found.whole h.there h.found.learns f.word_is o in
    let lesson : IsLesson n p p = still_lesson n p h.found.whole in
    record {
      q = p;
      lesson = lesson;
      done = has_learnt p p n now g k h.found f.stays lesson (met_log g.known slot (deed_of word).epoch) learns;
      nothing = none;
    }

pub heeded : (p : Pool) (n slot word : ℕ) (now : List ℕ) (g : Base) → IsHeeding p n slot word now g → (p.owners.knows n).look ≡ None → IsHeeded p n slot word now g
heeded p n slot word now g h none = heeded_by p n slot word now g h none (is_owner n word) refl
