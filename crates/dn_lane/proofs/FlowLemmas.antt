use Rattle.std.proofs.Common.{rules, ◌≡◌, ◌<◌, ℕ, suc, List, [], ◌++◌, take, drop, ap, ◌∙◌}
use Rattle.std.specs.List.{remove}
use Rattle.std.proofs.lemmas.List.Elements.{All-append, All-take, All-drop}
use Rattle.dn_act.specs.Words.{pool_size}
use Rattle.dn_log.specs.declared.staging.Staged.{Staged}
use Rattle.dn_services.specs.Sealing.{IsSealing}
use Rattle.dn_lane.specs.Fit.{FitsMode}
use Rattle.dn_lane.specs.declared.asked.Asked.{Asked}
use Rattle.dn_lane.specs.declared.base.Base.{Base}
use Rattle.dn_lane.specs.declared.modes.Mode.{Mode}
use Rattle.dn_lane.specs.declared.modes.Mode.TheVariants as mode

none_left : (xs : List Staged) (i : ℕ) → xs ≡ [] → remove xs i ≡ []
none_left xs i e = ap (λ (ys : List Staged). remove ys i) e ∙ none i
  where
    none : (i : ℕ) → take i (let n : List Staged = [] in n) ++ drop (suc i) (let n : List Staged = [] in n) ≡ []
    none i = search rules

-- a lane stays within its ranges where a staged word flows out of turn
pub flowed_fits : (g : Base) (a : Asked) (i : ℕ) (m : Mode) → FitsMode g a m → FitsMode (record g { staging = remove g.staging i }) a m
flowed_fits g a i mode.Idle f = none_left g.staging i f
flowed_fits g a i (mode.Acting wait) f = (none_left g.staging i f.0, f.1, f.2, f.3)
flowed_fits g a i (mode.Finding wait find) f = (none_left g.staging i f.0, f.1, f.2, f.3)
flowed_fits g a i (mode.Claiming wait claim) f = (none_left g.staging i f.0, f.1, f.2, f.3)
flowed_fits g a i (mode.Sealing wait seal) f =
    let P : Staged → Type 0 = λ s. s.at < pool_size g.known.log.pool in
    let h : IsSealing g.known seal g.staging = f.2 in (
      f.0,
      f.1,
      record {
        least = h.least;
        most = h.most;
        stamp = h.stamp;
        ready = h.ready;
        within = All-append P (take i g.staging) (drop (suc i) g.staging) (All-take P i g.staging h.within) (All-drop P (suc i) g.staging h.within);
      },
      f.3,
    )
