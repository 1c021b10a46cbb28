use Rattle.dn_store.proofs.Lanes.{seal, regate, mark_stored, deed_exchanged}
use Rattle.dn_store.proofs.Frames.{cut_past}
use Rattle.dn_store.proofs.laws.lanes.Goals as goal

pub returns-clause-seal : goal.returns-clause-seal
returns-clause-seal c = seal

pub returns-clause-gate : goal.returns-clause-gate
returns-clause-gate c = regate

pub returns-clause-mark : goal.returns-clause-mark
returns-clause-mark c = mark_stored

pub returns-clause-past : goal.returns-clause-past
returns-clause-past c = cut_past

pub returns-clause-deed : goal.returns-clause-deed
returns-clause-deed c = deed_exchanged
