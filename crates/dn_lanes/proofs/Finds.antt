use Rattle.std.proofs.Common.{ℕ, ◌≡◌, inl, Bool, true, false, List, Option, Some, None, refl, ◌∙◌, sym, ap, arith}
use Rattle.dn_word.specs.declared.packed.place.Ref.{Ref}
use Rattle.dn_act.specs.Action.{Performs}
use Rattle.dn_record.specs.Record.{value_of}
use Rattle.dn_record.specs.declared.records.Record.{Record}
use Rattle.dn_hist.specs.Calls.{found_of}
use Rattle.dn_hist.specs.declared.calls.Call.TheVariants.{Get, Put, Delete}
use Rattle.dn_hist.specs.declared.receipts.SessionView.{SessionView}
use Rattle.dn_index.specs.Walk.{Walking, walk_after, walk_turn}
use Rattle.dn_index.specs.declared.places.WalkTurn.{WalkTurn}
use Rattle.dn_index.specs.declared.places.WalkTurn.TheVariants as turned
use Rattle.dn_model.specs.Regions.{IsLane}
use Rattle.dn_locate.specs.Fetch.{Fetching, joined, after_in, fetch_after, fetch_step, fetch_turn}
use Rattle.dn_locate.specs.declared.fetches.FetchPlace.{FetchPlace}
use Rattle.dn_locate.specs.declared.fetches.FetchPlace.TheVariants.{Idle, Directory, Header, Content, Link}
use Rattle.dn_locate.specs.declared.fetches.FetchTurn.{FetchTurn}
use Rattle.dn_locate.specs.declared.fetches.FetchTurn.TheVariants as loaded
use Rattle.dn_locate.specs.declared.fetches.Wish.{Wish}
use Rattle.dn_locate.specs.declared.fetches.Wish.TheVariants.{Value}
use Rattle.dn_locate.specs.declared.steps.FetchStep.{FetchStep}
use Rattle.dn_plan.specs.declared.phases.ActPhase.TheVariants as phase
use Rattle.dn_plan.specs.declared.phases.LocatePhase.TheVariants.{Owner}
use Rattle.dn_plan.specs.declared.phases.Way.{Way}
use Rattle.dn_ask.specs.Ask.{call_wish}
use Rattle.dn_ask.specs.declared.asks.Act.TheVariants as act
use Rattle.dn_ask.specs.declared.asks.Locate.TheVariants as locate
use Rattle.dn_find.specs.Find.{Sought, find_next, walked_by, fetched_by, found_of as sought_of}
use Rattle.dn_find.specs.declared.finds.Find.{Find}
use Rattle.dn_find.specs.declared.finds.Find.TheVariants.{Walk, Fetch}
use Rattle.dn_find.specs.declared.finds.Found.{Found}
use Rattle.dn_find.specs.declared.finds.Found.TheVariants.{More, Here}
use Rattle.dn_owners.specs.Known.{Look}
use Rattle.dn_lane.specs.Asked.{kind_of, call_in}
use Rattle.dn_lane.specs.Found.{kept_by, kept_in, value_in, value_behind}
use Rattle.dn_lane.specs.State.{LaneState}
use Rattle.dn_lane.specs.Taken.{by, goes, sought_by, taken_by}
use Rattle.dn_lane.specs.declared.asked.Asked.{Asked}
use Rattle.dn_lane.specs.declared.asked.Asked.TheVariants as asked
use Rattle.dn_lane.specs.declared.base.Base.{Base}
use Rattle.dn_lane.specs.declared.modes.Mode.TheVariants as mode
use Rattle.dn_beside.specs.Pool.{Pool, store_in, IsWhole}
use Rattle.dn_seek.specs.Values.{ReadsValues}
use Rattle.dn_seek.specs.Located.{IsLocatedAs}
use Rattle.dn_seek.specs.Seeking.{KnowsSought}
use Rattle.dn_seek.specs.Loading.{OnlyLoads, StillLoads}
use Rattle.dn_seek.proofs.Loads.{only_loads, still_loads}
use Rattle.dn_seek.proofs.Seeks.{seek_goes}
use Rattle.dn_seek.proofs.Values.{located_value}
use Rattle.dn_lanes.specs.Calls.{key_in, HasLook}
use Rattle.dn_lanes.specs.Phases.{KnowsReply}
use Rattle.dn_lanes.specs.Lane.{IsLaneAt}
use Rattle.dn_lanes.specs.Stepped.{ComesTo}
use Rattle.dn_lanes.proofs.Called.{positive}
use Rattle.dn_lanes.proofs.Ends.{HasDone, goes_so}
use Rattle.dn_lanes.proofs.Loads.{same_step, same_quiet}

-- A lane loads a word to locate the key of its call.

-- ---- its fetch knows the pool's size throughout
joined_segments : (f : Fetching) (word : ℕ) (place : FetchPlace) (o : Option Ref) → (joined f word place o).segments ≡ f.segments
joined_segments f word place None = refl
joined_segments f word place (Some at) = refl

after_segments : (f : Fetching) (word : ℕ) (place : FetchPlace) (step : FetchStep) → (after_in f word place step).segments ≡ f.segments
after_segments f word Idle step = refl
after_segments f word Directory step = refl
after_segments f word (Header from) step = joined_segments f word step.place step.follow
after_segments f word (Content from count) step = joined_segments f word step.place step.follow
after_segments f word (Link from) step = joined_segments f word step.place step.follow

walked_segments : (f : Fetching) (key : ℕ) (wish : Wish) (w : Walking) (turn : WalkTurn) → (walked_by f key wish w turn).fetch.segments ≡ f.segments
walked_segments f key wish w turned.More = refl
walked_segments f key wish w (turned.Found at) = refl
walked_segments f key wish w turned.Absent = refl
walked_segments f key wish w turned.Written = refl
walked_segments f key wish w (turned.IndexFull counter) = refl

fetched_segments : (way : Way) (f : Fetching) (turn : FetchTurn) → (fetched_by way f turn).fetch.segments ≡ f.segments
fetched_segments way f loaded.More = refl
fetched_segments way f loaded.Done = refl
fetched_segments way f loaded.Absent = refl

pub sought_segments : (f : Fetching) (key : ℕ) (wish : Wish) (find : Find) (word : ℕ) → (sought_of f key wish find word).fetch.segments ≡ f.segments
sought_segments f key wish (Walk w) word = walked_segments f key wish (walk_after w word) (walk_turn w word)
sought_segments f key wish (Fetch way) word = fetched_segments way (fetch_after f word) (fetch_turn f word) ∙ after_segments f word f.place (fetch_step f word)

-- ---- the value that it keeps for a get is what is held
pub lane_reads : ReadsValues value_in value_behind
lane_reads = record { by_head = λ w ws. refl; of_put = λ bytes ws. refl; of_delete = λ ws. refl; of_pad = λ n ws. refl }

look_kept : (seen : Option Look) (a : Asked) (v : Option (List ℕ)) (deed : ℕ) → HasLook seen a deed → HasLook seen (kept_in a v).asked deed
look_kept seen asked.Nothing v deed h = h
look_kept seen (asked.Call call view room) None deed h = h
look_kept seen (asked.Call call view room) (Some value) deed h = record { called = h.called; looked = h.looked }
look_kept seen asked.Task v deed h = h

get_kept : (p : Pool) (key : ℕ) (view : SessionView) (room : List ℕ) (f : Fetching) (way : Way) (fetched : Bool) (v : Option (List ℕ)) → (h : IsLocatedAs p key Value f way fetched) → v ≡ value_of h.of
    → KnowsReply p (kept_by (Get key) view room v).asked (kept_by (Get key) view room v).held
get_kept p key view room f way fetched None h e = record { of = h.of; agrees = h.agrees; of_key = h.of_key; plain = h.plain; says = ap found_of e }
get_kept p key view room f way fetched (Some value) h e = record { of = h.of; agrees = h.agrees; of_key = h.of_key; plain = h.plain; says = ap found_of e }

put_kept : (p : Pool) (key : ℕ) (bytes : List ℕ) (view : SessionView) (room : List ℕ) (v : Option (List ℕ)) → KnowsReply p (kept_by (Put key bytes) view room v).asked (kept_by (Put key bytes) view room v).held
put_kept p key bytes view room None = tt
put_kept p key bytes view room (Some value) = tt

delete_kept : (p : Pool) (key : ℕ) (view : SessionView) (room : List ℕ) (v : Option (List ℕ)) → KnowsReply p (kept_by (Delete key) view room v).asked (kept_by (Delete key) view room v).held
delete_kept p key view room None = tt
delete_kept p key view room (Some value) = tt

reply_kept : (p : Pool) (a : Asked) (f : Fetching) (way : Way) → IsWhole p → IsLocatedAs p (key_in a) (call_wish (kind_of (call_in a))) f way true → KnowsReply p (kept_in a (value_in f.words)).asked (kept_in a (value_in f.words)).held
reply_kept p asked.Nothing f way w h = tt
reply_kept p (asked.Call (Get key) view room) f way w h = get_kept p key view room f way true (value_in f.words) h (located_value value_in value_behind p key f way true lane_reads w h)
reply_kept p (asked.Call (Put key value) view room) f way w h = put_kept p key value view room (value_in f.words)
reply_kept p (asked.Call (Delete key) view room) f way w h = delete_kept p key view room (value_in f.words)
reply_kept p asked.Task f way w h = tt

reply_without : (p : Pool) (a : Asked) (f : Fetching) (way : Way) → IsLocatedAs p (key_in a) (call_wish (kind_of (call_in a))) f way false → KnowsReply p a false
reply_without p asked.Nothing f way h = tt
reply_without p (asked.Call (Get key) view room) f way h =
    record { of = h.of; agrees = h.agrees; of_key = h.of_key; plain = h.plain; says = sym (ap (λ (r : Record). found_of (value_of r)) (h.without refl).0) }
reply_without p (asked.Call (Put key value) view room) f way h = tt
reply_without p (asked.Call (Delete key) view room) f way h = tt
reply_without p asked.Task f way h = tt

-- ---- what the load begins with
abbrev pub finding : Base → Asked → ℕ → Find → LaneState
finding g a look find = record { base = g; asked = a; mode = mode.Finding (locate.Call (Owner look)) find }

pub record IsFind (p : Pool) (g : Base) (a : Asked) (look : ℕ) (find : Find) (now : List ℕ) (f : Fetching) : Type 0 where
  pub whole : IsWhole p
  pub at : IsLaneAt g.known.log.lane (finding g a look find) p
  pub same : now ≡ p.words
  pub segments : f.segments ≡ g.fetch.segments

done_find : (p : Pool) (g : Base) (a : Asked) (look : ℕ) (find : Find) (now : List ℕ) (f : Fetching) → IsFind p g a look find now f → HasDone p g.known.log.lane now (record g { fetch = f }) p
done_find p g a look find now f h = record { words = sym h.same; by = same_step g.known.log.lane p h.whole; log = h.at.log; learns = h.at.learns; fetch = h.segments ∙ h.at.fetch }

-- ---- the key is located: the gate is next
gate_next : (p : Pool) (g : Base) (a : Asked) (look : ℕ) (find : Find) (now : List ℕ) (f : Fetching) (b : Asked) (way : Way) (held : Bool) → IsFind p g a look find now f
    → HasLook (p.owners.knows g.known.log.lane).look b look → (((store_in p).gates g.known.log.lane).fenced ≡ false → KnowsReply p b held)
    → ComesTo p g.known.log.lane (finding g a look find) now (by b (goes (record g { fetch = f }) (mode.Acting (act.Call (phase.Gate look (record { way = way; held = held }))))))
gate_next p g a look find now f b way held h has knows =
    goes_so p p g.known.log.lane (finding g a look find) now (record g { fetch = f }) b (mode.Acting (act.Call (phase.Gate look (record { way = way; held = held }))))
    (done_find p g a look find now f h) (same_quiet p) (h.at.at.0, has) knows (inl (omega arith))

-- ---- by what it has found
found_by : (p : Pool) (g : Base) (a : Asked) (look : ℕ) (find : Find) (now : List ℕ) (f : Fetching) (found : Found) → IsFind p g a look find now f → StillLoads found
    → (((store_in p).gates g.known.log.lane).fenced ≡ false → KnowsSought p g.known.log.lane (key_in a) (call_wish (kind_of (call_in a))) f found)
    → ComesTo p g.known.log.lane (finding g a look find) now (sought_by (record g { fetch = f }) a (locate.Call (Owner look)) found)
found_by p g a look find now f (More more) h loads knows =
    goes_so p p g.known.log.lane (finding g a look find) now (record g { fetch = f }) a (mode.Finding (locate.Call (Owner look)) more) (done_find p g a look find now f h) (same_quiet p)
    (h.at.at.0, (h.at.at.1.0, loads)) knows (inl (omega arith))
found_by p g a look find now f (Here way true) h loads knows =
    gate_next p g a look find now f (kept_in a (value_in f.words)).asked way (kept_in a (value_in f.words)).held h
    (look_kept (p.owners.knows g.known.log.lane).look a (value_in f.words) look h.at.at.1.0) (λ clear. reply_kept p a f way h.whole (knows clear))
found_by p g a look find now f (Here way false) h loads knows = gate_next p g a look find now f a way false h h.at.at.1.0 (λ clear. reply_without p a f way (knows clear))

pub finds : (p : Pool) (g : Base) (a : Asked) (look : ℕ) (find : Find) (word : ℕ) (now : List ℕ) → IsWhole p → IsLane g.known.log.lane → IsLaneAt g.known.log.lane (finding g a look find) p
    → Performs (find_next g.fetch find) word p.words now → ComesTo p g.known.log.lane (finding g a look find) now (taken_by g a (mode.Finding (locate.Call (Owner look)) find) word)
finds p g a look find word now h lane at done =
    let wish : Wish = call_wish (kind_of (call_in a)) in
    let s : Sought = sought_of g.fetch (key_in a) wish find word in
    let loads : OnlyLoads find = at.at.1.1 in
    found_by p g a look find now s.fetch s.found
    (record { whole = h; at = at; same = only_loads g.fetch find word p.words now loads done; segments = sought_segments g.fetch (key_in a) wish find word })
    (still_loads (key_in a) wish g.fetch find word loads)
    (λ clear. (seek_goes p g.known.log.lane (key_in a) wish g.fetch find word now h (positive a at.at.1.0.called) (at.knows clear) done).1)
