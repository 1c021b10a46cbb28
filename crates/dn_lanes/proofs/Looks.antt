use Rattle.std.proofs.Common.{ℕ, ◌≡◌, ◌==◌, inl, Bool, true, false, List, Option, Some, None, slice_index, slice_set, if◌then◌else◌, refl, ◌∙◌, sym, ap, subst, arith}
use Rattle.dn_word.specs.Deed.{deed_of}
use Rattle.dn_word.specs.declared.packed.place.Ref.{Ref}
use Rattle.dn_act.specs.Action.{Performs}
use Rattle.dn_act.specs.declared.actions.Action.TheVariants.{Load}
use Rattle.dn_act.specs.Words.{word_at}
use Rattle.dn_log.specs.Log.{Log}
use Rattle.dn_model.specs.Regions.{deed_at, slot_of, IsLane}
use Rattle.dn_model.proofs.HashLaws.{slot_below}
use Rattle.dn_locate.specs.Fetch.{Fetching}
use Rattle.dn_locate.specs.declared.fetches.Wish.{Wish}
use Rattle.dn_plan.specs.Plan.{is_owner, ends as plan_ends}
use Rattle.dn_plan.specs.declared.phases.ActPhase.TheVariants as phase
use Rattle.dn_plan.specs.declared.phases.LocatePhase.TheVariants.{Owner}
use Rattle.dn_plan.specs.declared.results.Ending.TheVariants.{NotOwner}
use Rattle.dn_plan.specs.declared.results.Next.TheVariants as next
use Rattle.dn_ask.specs.Ask.{call_next, call_wish}
use Rattle.dn_ask.specs.declared.asks.Act.TheVariants as act
use Rattle.dn_ask.specs.declared.asks.End.TheVariants as end
use Rattle.dn_ask.specs.declared.asks.Locate.TheVariants as locate
use Rattle.dn_find.specs.Find.{Locating, started}
use Rattle.dn_known.specs.State.{KnownState}
use Rattle.dn_known.specs.Learnt.{met}
use Rattle.dn_known.specs.Counting.{pending_of}
use Rattle.dn_store.specs.State.{StoreState}
use Rattle.dn_lane.specs.Asked.{kind_of, call_in}
use Rattle.dn_lane.specs.State.{LaneState}
use Rattle.dn_lane.specs.Taken.{by, entered_next, taken_by}
use Rattle.dn_lane.specs.declared.asked.Asked.{Asked}
use Rattle.dn_lane.specs.declared.base.Base.{Base}
use Rattle.dn_lane.specs.declared.modes.Mode.TheVariants as mode
use Rattle.dn_beside.specs.Pool.{Pool, store_in, IsWhole}
use Rattle.dn_learnt.specs.Heeding.{look_by, IsLooked}
use Rattle.dn_learnt.specs.Pendings.{MayAsk, IsPendingAt, HasNone}
use Rattle.dn_learnt.proofs.Looks.{looked, unlooked}
use Rattle.dn_learnt.proofs.Asks.{pending_is, pending_none}
use Rattle.dn_walks.proofs.Trails.{tracks_begun}
use Rattle.dn_reach.specs.OwnLog.{HoldsLog}
use Rattle.dn_reach.proofs.Lasts.{log_lasts}
use Rattle.dn_seek.specs.Seeking.{KnowsSeek}
use Rattle.dn_seek.proofs.Seeks.{begun_pending}
use Rattle.dn_seek.proofs.Loads.{begins_loading}
use Rattle.dn_lanes.specs.Calls.{key_in}
use Rattle.dn_lanes.specs.Lane.{IsLaneAt}
use Rattle.dn_lanes.specs.Stepped.{ComesTo}
use Rattle.dn_lanes.proofs.Ends.{HasDone, own_lesson, ends_so, goes_so}
use Rattle.dn_lanes.proofs.Loads.{loads, same_step, same_quiet, not_owner_untold}

-- A lane loads the deed of its call's key.

-- ---- what it has met
pub met_log : (k : KnownState) (slot epoch : ℕ) → (met k slot epoch).log ≡ k.log
met_log k slot epoch = by_test (slice_index k.epochs slot == epoch) where
  by_test : (b : Bool) → (if b then k else record k { epochs = slice_set k.epochs slot epoch; counts = slice_set k.counts slot k.log.len }).log ≡ k.log
  by_test true = refl
  by_test false = refl

-- ---- the location of the key begins
started_segments : (f : Fetching) (key : ℕ) (wish : Wish) (o : Option Ref) → (started f key wish o).fetch.segments ≡ f.segments
started_segments f key wish (Some at) = refl
started_segments f key wish None = refl

pub seeks_from : (p : Pool) (n key : ℕ) (wish : Wish) (f : Fetching) (k : KnownState) (o : Option Ref) → IsWhole p → f.segments ≡ (store_in p).pool → k.log.lane ≡ n → MayAsk p n key k → pending_of k key ≡ o
    → KnowsSeek p n key wish (started f key wish o).fetch (started f key wish o).find
seeks_from p n key wish f k (Some at) h segments lane may e =
    let i : IsPendingAt p n key at = pending_is p n key k at h (slot_below key) lane may e in
    begun_pending p n key wish f at i.q h segments i.of i.lane i.offset
seeks_from p n key wish f k None h segments lane may e =
    let i : HasNone p n key = pending_none p n key k h (slot_below key) may e in
    record { key_is = refl; owner = i.owner; none = i.waits n; finds = (record {}, omega arith, tracks_begun p.words p.chains key); segments_is = segments }

-- ---- what the load begins with
abbrev pub looking : Base → Asked → LaneState
looking g a = record { base = g; asked = a; mode = mode.Acting (act.Call phase.Look) }

abbrev pub told_by : Base → Asked → ℕ → Base
told_by g a word = record g { known = met g.known (slot_of (key_in a)) (deed_of word).epoch }

pub record IsLook (p : Pool) (g : Base) (a : Asked) (word : ℕ) (now : List ℕ) : Type 0 where
  pub whole : IsWhole p
  pub lane : IsLane g.known.log.lane
  pub at : IsLaneAt g.known.log.lane (looking g a) p
  pub found : word ≡ word_at p.words (deed_at (slot_of (key_in a)))
  pub same : now ≡ p.words

-- ---- by a deed that names it the lane has looked, and locates the key
owner_looks : (p : Pool) (g : Base) (a : Asked) (word : ℕ) (now : List ℕ) → IsLook p g a word now → is_owner g.known.log.lane word ≡ true
    → ComesTo p g.known.log.lane (looking g a) now (by a (entered_next (told_by g a word) a (call_next (next.Locate (Owner word)))))
owner_looks p g a word now h owner =
    let n : ℕ = g.known.log.lane in
    let k : KnownState = met g.known (slot_of (key_in a)) (deed_of word).epoch in
    let wish : Wish = call_wish (kind_of (call_in a)) in
    let l : Locating = started g.fetch (key_in a) wish (pending_of k (key_in a)) in
    let s : IsLooked p n (slot_of (key_in a)) word g.known = looked p n (slot_of (key_in a)) word g.known
    (record { whole = h.whole; lane = h.lane; there = slot_below (key_in a); learns = h.at.learns; len = sym h.at.log.len; found = h.found }) owner in
    let same_log : k.log ≡ g.known.log = met_log g.known (slot_of (key_in a)) (deed_of word).epoch in
    let log : HoldsLog s.q n k.log = subst (λ (x : Log). HoldsLog s.q n x) (sym same_log) (log_lasts p s.q n g.known.log (own_lesson n p s.q s.lesson) h.at.log) in
    let segments : g.fetch.segments ≡ (store_in s.q).pool = h.at.fetch ∙ sym (ap (λ (t : StoreState). t.pool) s.lesson.store) in
    let done : HasDone p n now (record g { known = k; fetch = l.fetch }) s.q = record {
      words = s.lesson.words ∙ sym h.same;
      by = s.lesson.by;
      log = log;
      learns = s.learns;
      fetch = started_segments g.fetch (key_in a) wish (pending_of k (key_in a)) ∙ segments;
    } in
    goes_so p s.q n (looking g a) now (record g { known = k; fetch = l.fetch }) a (mode.Finding (locate.Call (Owner word)) l.find) done s.lesson.quiet
    (h.at.at.0, (record { called = h.at.at.1.0; looked = s.looked.look }, begins_loading (key_in a) wish g.fetch (pending_of k (key_in a))))
    (λ clear. seeks_from s.q n (key_in a) wish g.fetch k (pending_of k (key_in a)) s.lesson.by.whole segments log.lane
    (record { learns = s.learns; look = look_by (slot_of (key_in a)) word; looks = s.looked.look; slot = refl; clear = clear }) refl)
    (inl (omega (arith, ap (λ (t : StoreState). t.segment_count) s.lesson.store)))

-- ---- by another one its call ends
other_looks : (p : Pool) (g : Base) (a : Asked) (word : ℕ) (now : List ℕ) → IsLook p g a word now → is_owner g.known.log.lane word ≡ false
    → ComesTo p g.known.log.lane (looking g a) now (by a (entered_next (told_by g a word) a (call_next (plan_ends (NotOwner word)))))
other_looks p g a word now h other =
    let n : ℕ = g.known.log.lane in
    let k : KnownState = met g.known (slot_of (key_in a)) (deed_of word).epoch in
    let done : HasDone p n now (record g { known = k }) p = record {
      words = sym h.same;
      by = same_step n p h.whole;
      log = subst (λ (x : Log). HoldsLog p n x) (sym (met_log g.known (slot_of (key_in a)) (deed_of word).epoch)) h.at.log;
      learns = unlooked p n (slot_of (key_in a)) word g.known h.whole (slot_below (key_in a)) h.at.learns h.found other;
      fetch = h.at.fetch;
    } in
    ends_so p p n (looking g a) now (record g { known = k }) a (end.Call (NotOwner word)) done (same_quiet p) h.at.at.0 (not_owner_untold a word) (omega arith)

looks_by : (p : Pool) (g : Base) (a : Asked) (word : ℕ) (now : List ℕ) (b : Bool) → IsLook p g a word now → is_owner g.known.log.lane word ≡ b
    → ComesTo p g.known.log.lane (looking g a) now (by a (entered_next (told_by g a word) a (call_next (if b then next.Locate (Owner word) else plan_ends (NotOwner word)))))
looks_by p g a word now true h e = owner_looks p g a word now h e
looks_by p g a word now false h e = other_looks p g a word now h e

pub looks : (p : Pool) (g : Base) (a : Asked) (word : ℕ) (now : List ℕ) → IsWhole p → IsLane g.known.log.lane → IsLaneAt g.known.log.lane (looking g a) p
    → Performs (Load (deed_at (slot_of (key_in a)))) word p.words now → ComesTo p g.known.log.lane (looking g a) now (taken_by g a (mode.Acting (act.Call phase.Look)) word)
looks p g a word now h lane at done =
    let found : IsLook p g a word now = record { whole = h; lane = lane; at = at; found = done.answer; same = loads (deed_at (slot_of (key_in a))) word p.words now done } in
    looks_by p g a word now (is_owner g.known.log.lane word) found refl
