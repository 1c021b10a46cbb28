use Rattle.std.proofs.Common.{ℕ, zero, suc, ◌≡◌, List, [], ◌∷◌, ◌++◌, All, ◌∙◌, ap}
use Rattle.std.proofs.lemmas.List.Elements.{All-nil, All-cons, All-append, All-replicate}
use Rattle.dn_callers.specs.Callers.{Callers}
use Rattle.dn_monitor.specs.Heirs.{no_heirs}
use Rattle.dn_monitor.specs.declared.orders.Order.TheVariants.{Move}
use Rattle.dn_outcomes.specs.State.{World, opened}
use Rattle.dn_outcomes.specs.declared.events.Event.{Event}
use Rattle.dn_outcomes.specs.declared.events.Event.TheVariants.{Add, Give, Monitor}
use Rattle.dn_run.specs.Knowledge.{IsUnheard}
use Rattle.dn_run.proofs.Hearing.{IsQuiet, quiet_after}
use Rattle.dn_world.specs.Opening.{adds_for, grants, grants_to, formatted, IsOpened}
use Rattle.dn_world.specs.State.{WorldState, world_of}

-- An opening tells no session anything.

grant_quiet : (slot lane : ℕ) → All IsQuiet (grants slot lane)
grant_quiet slot lane =
    All-cons IsQuiet (Give (Move slot lane), no_heirs) ((Monitor, []) ∷ (Monitor, []) ∷ []) tt
    (All-cons IsQuiet (Monitor, []) ((Monitor, []) ∷ []) tt (All-cons IsQuiet (Monitor, []) [] tt (All-nil IsQuiet)))

grants_quiet : (owners : ℕ → ℕ) (n : ℕ) → All IsQuiet (grants_to owners n)
grants_quiet owners zero = All-nil IsQuiet
grants_quiet owners (suc n) = All-append IsQuiet (grants_to owners n) (grants n (owners n)) (grants_quiet owners n) (grant_quiet n (owners n))

opening_quiet : (owners : ℕ → ℕ) (n : ℕ) → All IsQuiet (adds_for n ++ grants_to owners 64)
opening_quiet owners n = All-append IsQuiet (adds_for n) (grants_to owners 64) (All-replicate IsQuiet n (Add, []) tt) (grants_quiet owners 64)

pub opened_unheard : (before words : List ℕ) (w : WorldState) (segments n : ℕ) → IsOpened before words w segments n → IsUnheard (world_of words w.crew [] [])
opened_unheard before words w segments n h =
    let first : World = opened segments (formatted segments before) in
    let es : List (Event × List ℕ) = adds_for n ++ grants_to h.owners 64 in
    let is : (world_of words w.crew [] []).machine.callers ≡ first.machine.callers =
    ap (λ (v : World). v.machine.callers) h.run ∙ quiet_after first es (opening_quiet h.owners n) in record {
      lasts = λ s. ap (λ (c : Callers). (c.sessions s).last) is;
      unclosed = λ s. ap (λ (c : Callers). c.closed s) is;
    }
