use Rattle.std.proofs.Common.{◌≡◌, ◌↔◌, false, sym, subst}
use Rattle.dn_find.specs.Causes.{IsWithout}
use Rattle.dn_find.specs.declared.finds.Find.{Find}
use Rattle.dn_find.specs.declared.finds.Found.TheVariants.{Here}
use Rattle.dn_find.proofs.finds.Find.take.Goals as goal

pub returns-in-Fetch-clause-without : goal.returns-in-Fetch-clause-without
returns-in-Fetch-clause-without c = λ way.
    let P : Find → Type 0 = λ find. c.fetch_on.result ≡ Here way false ↔ IsWithout c.args.fetch.now c.args.word way find in
    subst P (sym c.in-Fetch.is) (c.fetch_on.ensures.without way)
