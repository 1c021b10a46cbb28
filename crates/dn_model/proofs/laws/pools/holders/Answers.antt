use Rattle.std.proofs.Common.{refl}
use Rattle.dn_model.proofs.ChangeLaws.{own_holder, shared_holder, unshared_holder, named_holder, its_holder}
use Rattle.dn_model.proofs.laws.pools.holders.Goals as goal

pub returns-clause-held : goal.returns-clause-held
returns-clause-held c = λ words logs chains k. refl

pub returns-clause-own : goal.returns-clause-own
returns-clause-own c = own_holder

pub returns-clause-shared : goal.returns-clause-shared
returns-clause-shared c = shared_holder

pub returns-clause-unshared : goal.returns-clause-unshared
returns-clause-unshared c = unshared_holder

pub returns-clause-named : goal.returns-clause-named
returns-clause-named c = named_holder

pub returns-clause-its : goal.returns-clause-its
returns-clause-its c = its_holder
