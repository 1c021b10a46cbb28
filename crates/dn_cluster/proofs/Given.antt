use Rattle.std.proofs.Common.{ℕ, ◌≡◌, List, [], ◌∷◌, ◌++◌, sym, ap, subst}
use Rattle.dn_word.specs.declared.positions.Position.{Position}
use Rattle.dn_hist.specs.declared.receipts.SessionView.{SessionView}
use Rattle.dn_route.specs.CallersOrder.{Told, told_now}
use Rattle.dn_route.specs.SessionState.{view_of}
use Rattle.dn_callers.specs.Callers.{Standing, Callers}
use Rattle.dn_callers.specs.Changes.{numbered_at}
use Rattle.dn_callers.specs.Sessions.{IsSession, IsUnderWay}
use Rattle.dn_callers.proofs.Learning.{numbers_first, numbers_further}
use Rattle.dn_machine.specs.State.{Machine}
use Rattle.dn_machine.specs.Events.{Event, Numbers, Tells}
use Rattle.dn_machine.specs.Given.{IsGiven}
use Rattle.dn_machine.specs.Sound.{IsSound}
use Rattle.dn_machine.proofs.Kept.{sound}
use Rattle.dn_cluster.specs.State.{ClusterState}
use Rattle.dn_cluster.specs.Machine.{machine_of, session_at, IsOpen}
use Rattle.dn_cluster.specs.Does.{Does, IsTold}

pub given_sound : (words : List ℕ) (c d : ClusterState) (e : Event) (told : List Told) (receipts : List Standing) → Does c d e → IsSound c.segments (machine_of words c told receipts)
    → IsGiven c.segments (machine_of words c told receipts) e → IsSound c.segments (machine_of words d told receipts)
given_sound words c d e told receipts does h given =
    subst (λ (m : Machine). IsSound c.segments m) (sym (does.is words told receipts)) (sound c.segments (machine_of words c told receipts) e h given)

pub first_view : (words : List ℕ) (c d : ClusterState) (s key : ℕ) (told : List Told) (receipts : List Standing) → Does c d (Numbers s) → IsSound c.segments (machine_of words c told receipts) → IsSession s → IsOpen c s
    → IsUnderWay (machine_of words d told receipts).callers (view_of (session_at d s) key)
first_view words c d s key told receipts does h is unclosed =
    let so : (machine_of words d told receipts).callers ≡ numbered_at (machine_of words c told receipts).callers s = ap (λ (m : Machine). m.callers) (does.is words told receipts) in
    subst (λ (x : Callers). IsUnderWay x (view_of (x.sessions s) key)) (sym so) (numbers_first (machine_of words c told receipts).callers s key h.at.callers is unclosed)

pub further_view : (words : List ℕ) (c : ClusterState) (view : SessionView) (key : ℕ) (told : List Told) (receipts : List Standing) → IsSound c.segments (machine_of words c told receipts)
    → IsUnderWay (machine_of words c told receipts).callers view → view.number ≡ (session_at c view.session).number → IsUnderWay (machine_of words c told receipts).callers (view_of (session_at c view.session) key)
further_view words c view key told receipts h under same = numbers_further (machine_of words c told receipts).callers view key h.at.callers under same

pub told_sound : (words : List ℕ) (c d : ClusterState) (s : ℕ) (position : Position) (told : List Told) (receipts : List Standing) → IsTold c d s position → IsSession s → IsOpen c s → IsSound c.segments (machine_of words c told receipts)
    → IsSound c.segments (machine_of words d (told ++ told_now (session_at c s) position ∷ []) receipts)
told_sound words c d s position told receipts does is unclosed h =
    subst (λ (m : Machine). IsSound c.segments m) (sym (does.is words told receipts)) (sound c.segments (machine_of words c told receipts) (Tells s position) h (is, unclosed))
