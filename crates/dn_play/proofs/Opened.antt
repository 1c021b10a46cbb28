use Rattle.std.proofs.Common.{ℕ, zero, suc, ◌≡◌, false, List, [], ◌∷◌, ◌++◌, All, Option, None, inl, inr, replicate, refl, ◌∙◌, ap, arith}
use Rattle.std.proofs.lemmas.List.Elements.{All-nil, All-cons, All-head, All-tail, All-append, All-replicate}
use Rattle.std.proofs.lemmas.Bool.{cases_lt}
use Rattle.std.proofs.lemmas.List.{get_or-replicate, get_or_past, length-replicate}
use Rattle.dn_callers.specs.Callers.{Standing}
use Rattle.dn_outcomes.specs.Does.{does}
use Rattle.dn_outcomes.specs.Runs.{after}
use Rattle.dn_outcomes.specs.State.{World, opened}
use Rattle.dn_outcomes.specs.Told.{starts}
use Rattle.dn_outcomes.specs.declared.events.Event.{Event}
use Rattle.dn_outcomes.specs.declared.events.Event.TheVariants.{Add, Give, Monitor}
use Rattle.dn_monitor.specs.Heirs.{no_heirs}
use Rattle.dn_monitor.specs.declared.orders.Order.TheVariants.{Move}
use Rattle.dn_outcomes.proofs.Numbers.{number_kept}
use Rattle.dn_script.specs.Fit.{IsLine}
use Rattle.dn_script.specs.declared.scripts.Line.{Line}
use Rattle.dn_waiting.specs.State.{WaitingState, call_of, nothing_waits}
use Rattle.dn_waiting.specs.declared.calls.OpenCall.{OpenCall}
use Rattle.dn_world.specs.Opening.{IsOpened, adds_for, grants, grants_to, formatted}
use Rattle.dn_world.specs.State.{WorldState, world_of}
use Rattle.dn_run.specs.Counts.{counts_of}
use Rattle.dn_run.specs.Run.{run_of}
use Rattle.dn_run.specs.Uncalled.{IsUncalled}
use Rattle.dn_run.proofs.Going.{start_going, uncalled}
use Rattle.dn_play.specs.At.{IsAt, CanGo, Follow, IsStarted}
use Rattle.dn_play.specs.declared.players.Player.{Player}

-- An opening makes no call.

-- ---- its events start none
abbrev StartsNone : ℕ → Event × List ℕ → Type 0
StartsNone k x = starts x.0 k ≡ false

grant_none : (k slot lane : ℕ) → All (StartsNone k) (grants slot lane)
grant_none k slot lane =
    All-cons (StartsNone k) (Give (Move slot lane), no_heirs) ((Monitor, []) ∷ (Monitor, []) ∷ []) refl
    (All-cons (StartsNone k) (Monitor, []) ((Monitor, []) ∷ []) refl (All-cons (StartsNone k) (Monitor, []) [] refl (All-nil (StartsNone k))))

grants_none : (owners : ℕ → ℕ) (k n : ℕ) → All (StartsNone k) (grants_to owners n)
grants_none owners k zero = All-nil (StartsNone k)
grants_none owners k (suc n) = All-append (StartsNone k) (grants_to owners n) (grants n (owners n)) (grants_none owners k n) (grant_none k n (owners n))

opening_none : (owners : ℕ → ℕ) (k n : ℕ) → All (StartsNone k) (adds_for n ++ grants_to owners 64)
opening_none owners k n = All-append (StartsNone k) (adds_for n) (grants_to owners 64) (All-replicate (StartsNone k) n (Add, []) refl) (grants_none owners k 64)

abbrev number_in : World → ℕ → ℕ
number_in w k = (w.machine.callers.sessions k).number

number_after : (w : World) (es : List (Event × List ℕ)) (k : ℕ) → All (StartsNone k) es → number_in (after w es) k ≡ number_in w k
number_after w [] k none = refl
number_after w (x ∷ es) k none = number_after (does w x.0 x.1).world es k (All-tail (StartsNone k) x es none) ∙ number_kept w x.0 x.1 k (All-head (StartsNone k) x es none)

-- ---- no call waits
abbrev no_open : Option OpenCall
no_open = None

call_none : (s : ℕ) → call_of nothing_waits s ≡ None
unfolding nothing_waits
call_none s = elim (cases_lt s 1001) [
  | inl lt ↦ get_or-replicate 1001 s no_open no_open lt
  | inr le ↦ get_or_past (replicate 1001 no_open) s no_open (omega (arith, le, length-replicate 1001 no_open))
]

no_call : (x : WaitingState) (s : ℕ) → x ≡ nothing_waits → call_of x s ≡ None
no_call x s is = ap (λ (y : WaitingState). call_of y s) is ∙ call_none s

pub opened_uncalled : (before words : List ℕ) (w : WorldState) (segments n : ℕ) → IsOpened before words w segments n → IsUncalled (world_of words w.crew [] [])
opened_uncalled before words w segments n h = record {
  receipts = refl;
  told = refl;
  numbers = λ s. ap (λ (v : World). number_in v s) h.run ∙ number_after (opened segments (formatted segments before)) (adds_for n ++ grants_to h.owners 64) s (opening_none h.owners s n);
  calls = λ s. no_call w.crew.waiting s h.waits;
}

-- ---- a player that has had its events is at the start of a run
pub starts_at : (before words : List ℕ) (p : Player) (segments n : ℕ) (lines : List Line) → IsOpened before words p.world segments n → p.counts ≡ counts_of [] → p.events ≡ 129 → p.order ≡ None → All IsLine lines
    → IsAt (world_of words p.world.crew [] []) lines words p [] (run_of (world_of words p.world.crew [] []) lines)
starts_at before words p segments n lines h counts events none fit =
    let w : World = world_of words p.world.crew [] [] in
    let fresh = opened_uncalled before words p.world segments n h in record {
      start = h.sound;
      fresh = fresh;
      going = start_going w lines h.sound (uncalled w fresh) fit;
      world = ap (λ (hs : List Standing). world_of words p.world.crew [] hs) h.history;
      counts = counts;
      events = events;
      few = omega (arith, events);
      order = none;
      printed = refl;
    }

-- its lines may be played
pub can_play : (before words : List ℕ) (p : Player) (segments n : ℕ) (lines : List Line) → IsStarted before words p segments n → All IsLine lines → CanGo words p [] (Follow lines)
can_play before words p segments n lines h fit = record {
  start = world_of words p.world.crew [] [];
  lines = lines;
  run = run_of (world_of words p.world.crew [] []) lines;
  at = h.is lines fit;
  may_go = record { between = record { loads = refl; doing = refl }; lines = refl };
}
