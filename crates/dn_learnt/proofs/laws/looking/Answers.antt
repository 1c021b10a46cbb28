use Rattle.dn_learnt.proofs.Looks.{looked, unlooked}
use Rattle.dn_learnt.proofs.laws.looking.Goals as goal

pub returns-clause-owner : goal.returns-clause-owner
returns-clause-owner c = λ p n slot word k h lane there learns len found o. looked p n slot word k (record { whole = h; lane = lane; there = there; learns = learns; len = len; found = found }) o

pub returns-clause-other : goal.returns-clause-other
returns-clause-other c = λ p n slot word k h there learns found o. unlooked p n slot word k h there learns found o
