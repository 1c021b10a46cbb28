use Rattle.dn_store.proofs.Flows.{segment_flow, directory_flow, again}
use Rattle.dn_store.proofs.laws.flows.Goals as goal

pub returns-clause-segment : goal.returns-clause-segment
returns-clause-segment c = segment_flow

pub returns-clause-directory : goal.returns-clause-directory
returns-clause-directory c = directory_flow

pub returns-clause-again : goal.returns-clause-again
returns-clause-again c = again
