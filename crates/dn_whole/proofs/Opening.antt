use Rattle.std.proofs.Common.{ℕ, ◌≡◌, List, [], All, inl, inr, refl, sym, ◌∙◌, subst, arith}
use Rattle.dn_callers.specs.Callers.{Standing}
use Rattle.dn_hist.specs.Calls.{Bytes}
use Rattle.dn_model.specs.PoolMap.{HoldsMap}
use Rattle.dn_outcomes.specs.Sound.{IsWorld}
use Rattle.dn_outcomes.specs.State.{World}
use Rattle.dn_play.specs.At.{IsAt, IsStarted, IsFollowed, CanGo, Follow, Reached, Reaches, Halts, StopsOpening}
use Rattle.dn_play.specs.declared.players.Player.{Player}
use Rattle.dn_play.specs.declared.stops.Stop.{Stop}
use Rattle.dn_play.specs.declared.stops.Stop.TheVariants as stop
use Rattle.dn_play.proofs.Stopping.{words_at}
use Rattle.dn_run.specs.Headline.{IsHeadline}
use Rattle.dn_run.specs.Run.{Run, run_of, after_steps}
use Rattle.dn_run.proofs.Going.{goes, uncalled}
use Rattle.dn_run.proofs.Asked as asking
use Rattle.dn_run.proofs.Balance as balance
use Rattle.dn_run.proofs.Heads.{heads}
use Rattle.dn_run.proofs.Knowledge as knowledge
use Rattle.dn_script.specs.Fit.{IsLine}
use Rattle.dn_script.specs.declared.scripts.Line.{Line}
use Rattle.dn_script.specs.declared.scripts.Script.{Script}
use Rattle.dn_world.specs.State.{world_of}
use Rattle.dn_world.proofs.Finishing.{are_map}
use Rattle.dn_whole.specs.Close.{Closes, StopsClose, Ends, Stops, Leaves}
use Rattle.dn_whole.specs.Whole.{IsMoment, IsShort, IsLong, LeavesMoment, Plays, StopsPlay}
use Rattle.dn_whole.proofs.Sorting.{sorted, sorted_once, sorted_in_order}
use Rattle.dn_whole.proofs.Unheard.{opened_unheard}
use Rattle.dn_whole.specs.declared.ends.End.{End}
use Rattle.dn_whole.specs.declared.ends.End.TheVariants.{Done, Long, IndexFull}

-- A script is played from the opening on.

-- ---- the run, over the world of the player that was opened
abbrev pub first : List ℕ → Player → World
first words p = world_of words p.world.crew [] []

abbrev pub run_from : Script → List ℕ → Player → Run
run_from script words p = run_of (first words p) script.lines

-- a script whose play was opened
pub record IsOpen (script : Script) (before words : List ℕ) (p : Player) (out : List ℕ) : Type 0 where
  pub started : IsStarted before words p script.segments script.nodes
  pub fit : All IsLine script.lines
  pub empty : out ≡ []

at_first : (script : Script) (before words : List ℕ) (p : Player) (out : List ℕ) → IsOpen script before words p out → IsAt (first words p) script.lines words p out (run_from script words p)
at_first script before words p out h = subst (λ (o : List ℕ). IsAt (first words p) script.lines words p o (run_from script words p)) (sym h.empty) (h.started.is script.lines h.fit)

follows_first : (script : Script) (words : List ℕ) (p : Player) (ls : List Line) → ls ≡ script.lines → IsFollowed (run_from script words p) ls
follows_first script words p ls is = subst (λ (xs : List Line). IsFollowed (run_from script words p) xs) (sym is) (record { between = record { loads = refl; doing = refl }; lines = refl })

pub can_start : (script : Script) (before words : List ℕ) (p : Player) (out : List ℕ) (ls : List Line) → IsOpen script before words p out → ls ≡ script.lines → CanGo words p out (Follow ls)
can_start script before words p out ls h is = record {
  start = first words p;
  lines = script.lines;
  run = run_from script words p;
  at = at_first script before words p out h;
  may_go = follows_first script words p ls is;
}

pub reached_lines : (script : Script) (before words now : List ℕ) (p q : Player) (out new : List ℕ) (ls : List Line) → IsOpen script before words p out → ls ≡ script.lines → Reaches words p out now q new (Follow ls) []
    → Reached (first words p) script.lines now q new (run_from script words p) []
reached_lines script before words now p q out new ls h is all = all.is (first words p) script.lines (run_from script words p) (at_first script before words p out h) (follows_first script words p ls is)

pub can_close : (script : Script) (words now : List ℕ) (p q : Player) (new : List ℕ) → Reached (first words p) script.lines now q new (run_from script words p) [] → CanGo now q new (Follow [])
can_close script words now p q new h = record {
  start = first words p;
  lines = script.lines;
  run = after_steps h.count (run_from script words p);
  at = h.at;
  may_go = h.followed;
}

-- ---- how it ends
moment_of : (script : Script) (before words : List ℕ) (p : Player) (out : List ℕ) (count : ℕ) → IsOpen script before words p out → IsMoment script before (after_steps count (run_from script words p))
moment_of script before words p out count h = record { words = words; opening = p.world; opened = h.started.opened; count = count; is = refl }

short_of : (w : World) (lines : List Line) (words : List ℕ) (p : Player) (out : List ℕ) (r : Run) → IsAt w lines words p out r → IsShort r
short_of w lines words p out r at = omega (arith, at.events, at.few)

-- the receipts that stand at a moment, in order of position, are a history of which the headline holds, with words that hold the
-- map of the moment's
abbrev stands_in : Run → List Standing
stands_in r = r.world.machine.callers.receipts

heads_at : (script : Script) (before words : List ℕ) (p : Player) (out : List ℕ) (count : ℕ) (now : List ℕ) → IsOpen script before words p out
    → ((held : Bytes) → HoldsMap (after_steps count (run_from script words p)).world.machine.words held → HoldsMap now held)
    → IsHeadline script.lines (after_steps count (run_from script words p)) now (sorted (stands_in (after_steps count (run_from script words p))))
heads_at script before words p out count now h map =
    let at = at_first script before words p out h in
    let stands : List Standing = stands_in (after_steps count (run_from script words p)) in
    heads (first words p) script.lines count now (sorted stands) at.start at.fresh h.fit (sorted_once stands) (sorted_in_order stands) map

pub plays_end : (script : Script) (before words now fin : List ℕ) (p q : Player) (out new last : List ℕ) (end : End) → IsOpen script before words p out → Reached (first words p) script.lines now q new (run_from script words p) [] → Closes now q new fin last end
    → Plays script before fin last end
plays_end script before words now fin p q out new last end h reached closes =
    by end (closes.is (first words p) script.lines (after_steps reached.count (run_from script words p)) reached.at reached.followed) where
      by : (end : End) → Ends (after_steps reached.count (run_from script words p)) fin last end → Plays script before fin last end
      by Done d = record {
        run = after_steps reached.count (run_from script words p);
        moment = moment_of script before words p out reached.count h;
        over = record { between = reached.followed.between; lines = reached.followed.lines };
        short = short_of (first words p) script.lines now q new (after_steps reached.count (run_from script words p)) reached.at;
        drained = d.drained;
        drains = d.drains;
        merged = d.merged;
        history = d.history;
        headline = heads (first words p) script.lines reached.count fin d.history reached.at.start reached.at.fresh h.fit d.once d.sorted d.drained.map;
        asked = asking.asked (first words p) script.lines reached.count reached.at.start reached.at.fresh h.fit (record { between = reached.followed.between; lines = reached.followed.lines });
        adds_up = balance.adds_up (first words p) script.lines reached.count reached.at.start reached.at.fresh h.fit;
        knows = knowledge.knows (first words p) script.lines reached.count reached.at.start reached.at.fresh (opened_unheard before words p.world script.segments script.nodes h.started.opened) h.fit;
        output = d.output;
      }
      by Long d = absurd d
      by IndexFull d = record {
        run = after_steps reached.count (run_from script words p);
        moment = moment_of script before words p out reached.count h;
        over = record { between = reached.followed.between; lines = reached.followed.lines };
        short = short_of (first words p) script.lines now q new (after_steps reached.count (run_from script words p)) reached.at;
        lane = d.lane;
        counter = d.counter;
        drained = d.drained;
        fills = d.fills;
        full = d.full;
        history = sorted (stands_in (after_steps reached.count (run_from script words p)));
        headline = heads_at script before words p out reached.count fin h d.drained.map;
        asked = asking.asked (first words p) script.lines reached.count reached.at.start reached.at.fresh h.fit (record { between = reached.followed.between; lines = reached.followed.lines });
        adds_up = balance.adds_up (first words p) script.lines reached.count reached.at.start reached.at.fresh h.fit;
        knows = knowledge.knows (first words p) script.lines reached.count reached.at.start reached.at.fresh (opened_unheard before words p.world script.segments script.nodes h.started.opened) h.fit;
        output = d.output;
      }

pub plays_long : (script : Script) (before words now : List ℕ) (p q : Player) (out new : List ℕ) (ls : List Line) → IsOpen script before words p out → ls ≡ script.lines → Halts words p out now q new (Follow ls) stop.Long → IsLong script before now new
plays_long script before words now p q out new ls h is halts =
    let l = halts.is (first words p) script.lines (run_from script words p) (at_first script before words p out h) (follows_first script words p ls is) in
    let r : Run = after_steps l.count (run_from script words p) in
    let left : r.world.machine.words ≡ now = words_at (first words p) script.lines now q new r l.at in
    record {
      run = r;
      moment = moment_of script before words p out l.count h;
      all = sym l.at.events ∙ l.all;
      more = l.more;
      words = left;
      history = sorted (stands_in r);
      headline = heads_at script before words p out l.count now h (λ held holds. subst (λ (ws : List ℕ). HoldsMap ws held) left holds);
      knows = knowledge.knows (first words p) script.lines l.count l.at.start l.at.fresh (opened_unheard before words p.world script.segments script.nodes h.started.opened) h.fit;
      output = l.at.printed;
    }

-- ---- or stops
-- what mergers alone leave holds the map
map_left_by : (r : Run) (now : List ℕ) (held : Bytes) → IsWorld r.world → Leaves r now → HoldsMap r.world.machine.words held → HoldsMap now held
map_left_by r now held sound h holds = subst (λ (ws : List ℕ). HoldsMap ws held) h.words (are_map h.lanes h.es r.world held h.merges sound holds)

leaves_moment : (script : Script) (before words : List ℕ) (p : Player) (out : List ℕ) (count : ℕ) (now : List ℕ) → IsOpen script before words p out → Leaves (after_steps count (run_from script words p)) now → LeavesMoment script before now
leaves_moment script before words p out count now h leaves =
    let w : World = first words p in
    let r : Run = after_steps count (run_from script words p) in
    let at = at_first script before words p out h in
    let sound : IsWorld r.world = (goes w script.lines count at.start (uncalled w at.fresh) h.fit).sound in record {
      run = r;
      moment = moment_of script before words p out count h;
      leaves = leaves;
      history = sorted (stands_in r);
      headline = heads_at script before words p out count now h (λ held holds. map_left_by r now held sound leaves holds);
    }

pub stops_opening : (script : Script) (before now : List ℕ) (why : Stop) → StopsOpening before now why → StopsPlay script before now why
stops_opening script before now stop.Long h = h
stops_opening script before now stop.Pool h = tt
stops_opening script before now stop.OutOfMemory h = inl h

pub stops_lines : (script : Script) (before words now : List ℕ) (p q : Player) (out new : List ℕ) (ls : List Line) (why : Stop) → IsOpen script before words p out → ls ≡ script.lines → (why ≡ stop.Long → ⊥) → Halts words p out now q new (Follow ls) why → StopsPlay script before now why
stops_lines script before words now p q out new ls stop.Long h is short halts = absurd (short refl)
stops_lines script before words now p q out new ls stop.Pool h is short halts = tt
stops_lines script before words now p q out new ls stop.OutOfMemory h is short halts =
    let l = halts.is (first words p) script.lines (run_from script words p) (at_first script before words p out h) (follows_first script words p ls is) in
    inr (leaves_moment script before words p out l.count now h (record { lanes = 0; es = []; merges = refl; words = l.words }))

pub stops_close : (script : Script) (before words now fin : List ℕ) (p q : Player) (out new : List ℕ) (why : Stop) → IsOpen script before words p out → Reached (first words p) script.lines now q new (run_from script words p) [] → StopsClose now q new fin why
    → StopsPlay script before fin why
stops_close script before words now fin p q out new why h reached stops =
    by why (stops.is (first words p) script.lines (after_steps reached.count (run_from script words p)) reached.at reached.followed) where
      by : (why : Stop) → Stops (after_steps reached.count (run_from script words p)) fin why → StopsPlay script before fin why
      by stop.Long s = s
      by stop.Pool s = tt
      by stop.OutOfMemory s = inr (leaves_moment script before words p out reached.count fin h s)
