use Rattle.std.proofs.Common.{◌≡◌, ℕ, ◌==◌, List, [], Bool, true, false, Option, Some, None, refl, sym, subst, ap, ◌∙◌, if◌then◌else◌}
use Rattle.dn_word.specs.declared.packed.place.Ref.{Ref}
use Rattle.dn_act.specs.declared.actions.Action.{Action}
use Rattle.dn_index.specs.Walk.{Walking, walk_after, walk_turn}
use Rattle.dn_index.specs.declared.places.WalkTurn.{WalkTurn}
use Rattle.dn_index.specs.declared.places.WalkTurn.TheVariants as walk
use Rattle.dn_locate.specs.Fetch.{Fetching, joined, after_in, fetch_after, fetch_turn, fetch_step}
use Rattle.dn_locate.specs.declared.fetches.FetchPlace.{FetchPlace}
use Rattle.dn_locate.specs.declared.fetches.FetchPlace.TheVariants as fetch
use Rattle.dn_locate.specs.declared.fetches.FetchTurn.{FetchTurn}
use Rattle.dn_locate.specs.declared.fetches.FetchTurn.TheVariants as loaded
use Rattle.dn_locate.specs.declared.steps.FetchStep.{FetchStep}
use Rattle.dn_locate.specs.declared.fetches.Wish.{Wish}
use Rattle.dn_log.specs.Claim.{turn_of as claim_turn_of, claim_after}
use Rattle.dn_log.specs.declared.staging.Staged.{Staged}
use Rattle.dn_model.specs.Program.{Program, Return, Turn as Turned, Goes, Ends}
use Rattle.dn_model.specs.Program as plain
use Rattle.dn_plan.specs.declared.phases.Room.{Room}
use Rattle.dn_plan.specs.declared.phases.Way.{Way}
use Rattle.dn_ask.specs.Ask.{key_in, wish_in, roomed_in, sealed_in}
use Rattle.dn_ask.specs.declared.asks.FindRoom.{FindRoom}
use Rattle.dn_ask.specs.declared.asks.Locate.{Locate}
use Rattle.dn_ask.specs.declared.asks.Seal.{Seal as SealWait}
use Rattle.dn_find.specs.Find.{Locating, walked_by, fetched_by, found_of}
use Rattle.dn_find.specs.Sequence.{Location, located, turn_by as find_turn, locate_next, locate_taken}
use Rattle.dn_find.specs.declared.finds.Find.{Find}
use Rattle.dn_find.specs.declared.finds.Find.TheVariants as find
use Rattle.dn_find.specs.declared.finds.Found.{Found}
use Rattle.dn_find.specs.declared.finds.Found.TheVariants as found
use Rattle.dn_known.specs.State.{KnownState}
use Rattle.dn_services.specs.Room.{claimed_by, turn_by as room_turn_by}
use Rattle.dn_services.specs.Sealing.{known_after, place_in}
use Rattle.dn_services.specs.Sequence.{RoomEnd, Claiming, turn_in, claim_next, claim_turn}
use Rattle.dn_services.specs.declared.rooms.RoomTurn.{RoomTurn}
use Rattle.dn_services.specs.declared.rooms.RoomTurn.TheVariants as room
use Rattle.dn_services.specs.declared.seals.Seal.{Seal}
use Rattle.dn_services.specs.declared.seals.SealTurn.TheVariants as turn
use Rattle.dn_lane.proofs.StepLemmas.{claimed_lane}
use Rattle.dn_lane.specs.Asked.{brief_of}
use Rattle.dn_lane.specs.Program.{LaneProgram, Flow, ◌>>>◌, Runs, Answered}
use Rattle.dn_lane.specs.Sequence.{exchange}
use Rattle.dn_lane.specs.Taken.{Entered, Taken, goes, entered, entered_then, arrived_at, here_of, sought_by, roomed_by, sealed_by}
use Rattle.dn_lane.specs.Turns.{turned, left}
use Rattle.dn_lane.specs.declared.asked.Asked.{Asked}
use Rattle.dn_lane.specs.declared.base.Base.{Base}
use Rattle.dn_lane.specs.declared.modes.Mode.TheVariants as mode

-- Each service of a lane runs its program once, whatever plan asks for it, and goes on by what came of it.

-- what a lane has come to
abbrev pub at : Taken → Answered
at t = record { turn = turned t; lane = left t }

abbrev pub by : Asked → Entered → Answered
by a e = at (record { going = e.going; base = e.base; asked = a })

-- ---- a location
-- the pool of a fetch stays
joined_pool : (f : Fetching) (word : ℕ) (place : FetchPlace) (follow : Option Ref) → (joined f word place follow).segments ≡ f.segments
joined_pool f word place None = refl
joined_pool f word place (Some at) = refl

after_pool : (f : Fetching) (word : ℕ) (place : FetchPlace) (step : FetchStep) → (after_in f word place step).segments ≡ f.segments
after_pool f word fetch.Idle step = refl
after_pool f word fetch.Directory step = refl
after_pool f word (fetch.Header from) step = joined_pool f word step.place step.follow
after_pool f word (fetch.Content from count) step = joined_pool f word step.place step.follow
after_pool f word (fetch.Link from) step = joined_pool f word step.place step.follow

walked_pool : (f : Fetching) (key : ℕ) (wish : Wish) (w : Walking) (t : WalkTurn) → (walked_by f key wish w t).fetch.segments ≡ f.segments
walked_pool f key wish w walk.More = refl
walked_pool f key wish w (walk.Found at) = refl
walked_pool f key wish w walk.Absent = refl
walked_pool f key wish w walk.Written = refl
walked_pool f key wish w (walk.IndexFull counter) = refl

fetched_pool : (way : Way) (f : Fetching) (t : FetchTurn) → (fetched_by way f t).fetch.segments ≡ f.segments
fetched_pool way f loaded.More = refl
fetched_pool way f loaded.Done = refl
fetched_pool way f loaded.Absent = refl

found_pool : (f : Fetching) (key : ℕ) (wish : Wish) (find : Find) (word : ℕ) → (found_of f key wish find word).fetch.segments ≡ f.segments
found_pool f key wish (find.Walk w) word = walked_pool f key wish (walk_after w word) (walk_turn w word)
found_pool f key wish (find.Fetch way) word =
    fetched_pool way (fetch_after f word) (fetch_turn f word) ∙ after_pool f word f.place (fetch_step f word)

abbrev state_in : Locating → Turned Locating Location → Locating
state_in l (Goes s) = s
state_in l (Ends location) = l

abbrev end_in : Location → Turned Locating Location → Location
end_in d (Goes l) = d
end_in d (Ends location) = location

not_ended : (l : Locating) (location : Location) → Goes l ≡ Ends location → ⊥
not_ended l location e = cc

not_under_way : (location : Location) (l : Locating) → Ends location ≡ Goes l → ⊥
not_under_way location l e = cc

pub finds : (g : Base) (a : Asked) (wait : Locate) (rest : Location → LaneProgram)
    → ((way : Way) (there : Bool) (f : Fetching) → f.segments ≡ g.fetch.segments
    → Runs (rest (located way there f)) (at (arrived_at (record g { fetch = f }) wait (here_of a f way there))))
    → (p : Program Location) (n : Found) (f : Fetching) → f.segments ≡ g.fetch.segments
    → plain.Runs locate_next (locate_taken (key_in (brief_of g.known.log.lane a) wait) (wish_in (brief_of g.known.log.lane a) wait)) p (find_turn n f)
    → Runs (p >>> rest) (at (sought_by (record g { fetch = f }) a wait n))
finds g a wait rest h (Return location) (found.More find) f pool e = absurd (not_ended (record { find = find; fetch = f }) location e)
finds g a wait rest h (Return location) (found.Here way there) f pool e =
    subst (λ x. Runs (rest x) (at (arrived_at (record g { fetch = f }) wait (here_of a f way there)))) (ap (end_in location) e) (h way there f pool)
finds g a wait rest h (plain.Do action behind) (found.More find) f pool (l, e, next, more) =
    let same : record { find = find; fetch = f } ≡ l = ap (state_in (record { find = find; fetch = f })) e in (
      refl,
      ap (λ (x : Action). Some x) (ap locate_next same ∙ next),
      λ word.
          finds g a wait rest h (behind word) (found_of f (key_in (brief_of g.known.log.lane a) wait) (wish_in (brief_of g.known.log.lane a) wait) find word).found
          (found_of f (key_in (brief_of g.known.log.lane a) wait) (wish_in (brief_of g.known.log.lane a) wait) find word).fetch
          (found_pool f (key_in (brief_of g.known.log.lane a) wait) (wish_in (brief_of g.known.log.lane a) wait) find word ∙ pool)
          (subst (λ (x : Locating).
          plain.Runs locate_next (locate_taken (key_in (brief_of g.known.log.lane a) wait) (wish_in (brief_of g.known.log.lane a) wait)) (behind word)
          (locate_taken (key_in (brief_of g.known.log.lane a) wait) (wish_in (brief_of g.known.log.lane a) wait) x word)) (sym same) (more word)),
    )
finds g a wait rest h (plain.Do action behind) (found.Here way there) f pool (l, e, next, more) = absurd (not_under_way (located way there f) l e)

-- ---- the finding of room
abbrev claim_in : Claiming → Turned Claiming RoomEnd → Claiming
claim_in c (Goes s) = s
claim_in c (Ends end) = c

abbrev room_in : RoomEnd → Turned Claiming RoomEnd → RoomEnd
room_in d (Goes c) = d
room_in d (Ends end) = end

not_told : (c : Claiming) (end : RoomEnd) → Goes c ≡ Ends end → ⊥
not_told c end e = cc

not_claiming : (end : RoomEnd) (c : Claiming) → Ends end ≡ Goes c → ⊥
not_claiming end c e = cc

pub rooms : (g : Base) (a : Asked) (wait : FindRoom) (rest : RoomEnd → LaneProgram)
    → ((there : Room) (k : KnownState) → k.log.lane ≡ g.known.log.lane → Runs (rest (record { room = there; known = k })) (by a (entered_then (record g { known = k }) a (roomed_in there wait))))
    → (p : Program RoomEnd) (t : RoomTurn) (k : KnownState) → k.log.lane ≡ g.known.log.lane
    → plain.Runs claim_next claim_turn p (turn_in k t)
    → Runs (p >>> rest) (by a (roomed_by (record g { known = k }) a wait t))
rooms g a wait rest h (Return end) (room.More claim) k lane e = absurd (not_told (record { claim = claim; known = k }) end e)
rooms g a wait rest h (Return end) (room.Told there) k lane e =
    subst (λ x. Runs (rest x) (by a (entered_then (record g { known = k }) a (roomed_in there wait)))) (ap (room_in end) e) (h there k lane)
rooms g a wait rest h (plain.Do action behind) (room.More claim) k lane (c, e, next, more) =
    let same : record { claim = claim; known = k } ≡ c = ap (claim_in (record { claim = claim; known = k })) e in (
      refl,
      ap (λ (x : Action). Some x) (ap claim_next same ∙ next),
      λ word.
          rooms g a wait rest h (behind word) (room_turn_by (claim_after claim word) (claim_turn_of claim word)) (claimed_by k (claim_turn_of claim word))
          (claimed_lane k (claim_turn_of claim word) ∙ lane)
          (subst (λ (x : Claiming). plain.Runs claim_next claim_turn (behind word) (claim_turn x word)) (sym same) (more word)),
    )
rooms g a wait rest h (plain.Do action behind) (room.Told there) k lane (c, e, next, more) = absurd (not_claiming (record { room = there; known = k }) c e)

-- ---- the seal
exchanges : (g : Base) (a : Asked) (wait : SealWait) (s : Seal) (place : Ref) (word : ℕ) (p : LaneProgram) (b : Bool)
    → Runs p (by a (entered g a (sealed_in place word wait)))
    → Runs p (by a (sealed_by g a wait s word (if b then turn.Sealed place else turn.Shut place)))
exchanges g a wait s place word p true h = h
exchanges g a wait s place word p false h = h

pub seals : (g : Base) (a : Asked) (wait : SealWait) (s : Seal) (waits : List Staged) (rest : ℕ → LaneProgram)
    → ((word : ℕ) → Runs (rest word) (by a (entered (record g { known = known_after g.known s word []; staging = [] }) a (sealed_in (place_in g.known s) word wait))))
    → Runs (Flow waits (exchange g.known s rest)) (by a (goes (record g { staging = waits }) (mode.Sealing wait s)))
seals g a wait s waits rest h = (
  refl,
  refl,
  record { next = λ w ws. refl; taken = λ w ws word. refl; goes = λ w ws word. refl; any = λ ws index. refl },
  (
    refl,
    refl,
    λ word.
        exchanges (record g { known = known_after g.known s word []; staging = [] }) a wait s (place_in g.known s) word (rest word) (word == s.gate) (h word),
  ),
)
