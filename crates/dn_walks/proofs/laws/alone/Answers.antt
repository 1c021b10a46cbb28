use Rattle.dn_store.proofs.Places.{index_is}
use Rattle.dn_walks.proofs.FindsAlone.{find_alone, told_again}
use Rattle.dn_walks.proofs.ChangesAlone.{set_alone, remove_alone}
use Rattle.dn_walks.proofs.laws.alone.Goals as goal

pub returns-clause-given : goal.returns-clause-given
returns-clause-given c = λ words chains s k h pos. index_is words chains k (s.index k) (h.indexed.stands k pos)

pub returns-clause-find : goal.returns-clause-find
returns-clause-find c = find_alone

pub returns-clause-again : goal.returns-clause-again
returns-clause-again c = told_again

pub returns-clause-set : goal.returns-clause-set
returns-clause-set c = set_alone

pub returns-clause-remove : goal.returns-clause-remove
returns-clause-remove c = remove_alone
