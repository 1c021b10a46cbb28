use Rattle.std.proofs.Common.{ℕ, ◌≡◌, List, sym, ◌∙◌, ap, subst}
use Rattle.dn_route.specs.CallersOrder.{Told}
use Rattle.dn_callers.specs.Callers.{Standing}
use Rattle.dn_outcomes.specs.Does.{does}
use Rattle.dn_outcomes.specs.Sound.{MayHappen}
use Rattle.dn_outcomes.specs.declared.events.Event.{Event}
use Rattle.dn_outcomes.specs.declared.outcomes.Outcome.{Outcome}
use Rattle.dn_outcomes.specs.State.{World, Done}
use Rattle.dn_world.specs.Comes.{Came, Moves, Comes, CountsFault}
use Rattle.std.specs.Option.{is_some}
use Rattle.dn_monitor.specs.Monitor.{Monitoring}
use Rattle.dn_monitor.specs.declared.orders.Order.{Order}
use Rattle.dn_outcomes.specs.Sound.{TakesSo}
use Rattle.dn_world.specs.Gives.{IsGivenBy}
use Rattle.dn_world.specs.Happens.{HappensTo}
use Rattle.dn_world.proofs.Giving.{given}
use Rattle.dn_world.specs.State.{CrewState, world_of}

-- What comes of an event.

pub comes_moved : (words : List ℕ) (x y : CrewState) (came : Came) (f : World → Done) → Moves words x words y came f → Comes words x words y came f
comes_moved words x y came f h = record { is = λ told receipts sound. h.is told receipts }

-- it may happen, and is done
pub happens_by : (words : List ℕ) (x : CrewState) (now : List ℕ) (y : CrewState) (came : Came) (e : Event) (heirs : List ℕ)
    → ((told : List Told) (receipts : List Standing) → MayHappen (world_of words x told receipts) e heirs) → Comes words x now y came (λ w. does w e heirs) → HappensTo words x now y came e
happens_by words x now y came e heirs may h = record {
  heirs = heirs;
  is = λ told receipts sound. record { may = may told receipts; is = h.is told receipts sound };
}

-- the same said of equal words, crews, outcomes and events
pub record Same (now was : List ℕ) (y z : CrewState) (came said : Came) (e k : Event) : Type 0 where
  pub words : now ≡ was
  pub crew : y ≡ z
  pub told : came ≡ said
  pub event_is : e ≡ k

pub happens_as : (words : List ℕ) (x : CrewState) (now was : List ℕ) (y z : CrewState) (came said : Came) (e k : Event) → Same now was y z came said e k → HappensTo words x was z said k → HappensTo words x now y came e
happens_as words x now was y z came said e k s h =
    subst (λ (v : Event). HappensTo words x now y came v) (sym s.event_is) (subst (λ (c : Came). HappensTo words x now y c k) (sym s.told)
    (subst (λ (u : CrewState). HappensTo words x now u said k) (sym s.crew) (subst (λ (ws : List ℕ). HappensTo words x ws z said k) (sym s.words) h)))

pub counts_as : (o p : Outcome) (old new was : ℕ) → o ≡ p → new ≡ was → CountsFault p old was → CountsFault o old new
counts_as o p old new was e f h = subst (λ (n : ℕ). CountsFault o old n) (sym f) (subst (λ (q : Outcome). CountsFault q old was) (sym e) h)

-- a takeover's lanes, where the order isn't refused
pub given_takes : (words : List ℕ) (x y : CrewState) (o : Outcome) (k : Order) → (h : IsGivenBy words x y o k) → (told : List Told) (receipts : List Standing) → TakesSo (world_of words x told receipts) k h.heirs
given_takes words x y o k h told receipts may none =
    let w : World = world_of words x told receipts in
    h.takes ((h.is.is told receipts).outcome ∙ ap (λ (d : Done). d.outcome) (given w k h.heirs may (ap (is_some {T = Monitoring}) none)))
