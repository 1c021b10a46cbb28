use Rattle.std.proofs.Common.{ℕ, ◌≡◌, ◌++◌, ◌∷◌, [], List, Option, Some, None, map, true, refl, sym, ◌∙◌, ap}
use Rattle.std.proofs.lemmas.List.{append-nil, map-append}
use Rattle.dn_hist.specs.declared.receipts.Receipt.{Receipt}
use Rattle.dn_callers.specs.Callers.{Standing}
use Rattle.dn_drain.specs.declared.drains.Merged.{Merged}
use Rattle.dn_outcomes.specs.Does.{does}
use Rattle.dn_outcomes.specs.declared.events.Event.{Event}
use Rattle.dn_outcomes.specs.declared.outcomes.Outcome.{Outcome}
use Rattle.dn_outcomes.proofs.Kept.{kept}
use Rattle.dn_world.specs.Comes.{Came, Keeps, bare, joining}
use Rattle.dn_world.specs.Happens.{HappensTo, Happens}
use Rattle.dn_world.specs.Inside.{stands_as}
use Rattle.dn_world.specs.State.{CrewState, world_of}
use Rattle.dn_world.specs.declared.worlds.Standing.{Standing as Kept}

-- A world keeps the receipts that stand.

pub world_happens : (words : List ℕ) (x : CrewState) (now : List ℕ) (y : CrewState) (came : Came) (e : Event) (h now_stands : List Standing) (ended now_ended : List Merged) → now_stands ≡ h ++ joining came.receipt → HappensTo words x now y came e
    → Happens words (record { crew = x; history = h; ended = ended }) now (record { crew = y; history = now_stands; ended = now_ended }) e came.outcome
world_happens words x now y came e h now_stands ended now_ended joined done = record {
  heirs = done.heirs;
  is = λ told sound.
      let it = done.is told h sound in
      record {
        may = it.may;
        world = it.is.world ∙ ap (λ (rs : List Standing). world_of now y (does (world_of words x told h) e done.heirs).world.machine.callers.told rs) (sym joined);
        outcome_is = it.is.outcome;
        sound = kept (world_of words x told h) e done.heirs sound it.may;
      };
}

-- the receipts after one came to stand, or none
pub one_more : (xs : List Kept) (now was : List Kept) (r : Receipt) (o : Option Receipt) → now ≡ was ++ (record { receipt = r; answered = true }) ∷ [] → was ≡ xs → o ≡ Some r
    → map stands_as now ≡ map stands_as xs ++ joining o
one_more xs now was r o e same is = ap (λ (ks : List Kept). map stands_as ks) (e ∙ ap (λ (ks : List Kept). ks ++ (record { receipt = r; answered = true }) ∷ []) same)
    ∙ map-append stands_as xs ((record { receipt = r; answered = true }) ∷ []) ∙ ap (λ (p : Option Receipt). map stands_as xs ++ joining p) (sym is)

pub no_more : (xs was : List Kept) (o : Option Receipt) → was ≡ xs → o ≡ None → map stands_as was ≡ map stands_as xs ++ joining o
no_more xs was o same is = ap (λ (ks : List Kept). map stands_as ks) same ∙ sym (append-nil (map stands_as xs)) ∙ ap (λ (p : Option Receipt). map stands_as xs ++ joining p) (sym is)

-- none came
pub keeps_none : (was now : List Kept) (o : Outcome) (P : Came → Type 0) → now ≡ was → P (bare o) → Keeps was now o P
keeps_none was now o P same h = record { receipt = None; kept = no_more was now None same refl; is = h }

-- the same receipt stands, and this is so besides
pub keeps_as : (was now : List Kept) (o : Outcome) (P Q : Came → Type 0) → ((came : Came) → P came → Q came) → Keeps was now o P → Keeps was now o Q
keeps_as was now o P Q f h = record { receipt = h.receipt; kept = h.kept; is = f (record { outcome = o; receipt = h.receipt }) h.is }
