use Rattle.dn_store.proofs.Claims.{cell_claim, cell_miss, key_word_stored, cell_stored}
use Rattle.dn_store.proofs.laws.cells.Goals as goal

pub returns-clause-claim : goal.returns-clause-claim
returns-clause-claim c = cell_claim

pub returns-clause-miss : goal.returns-clause-miss
returns-clause-miss c = cell_miss

pub returns-clause-key : goal.returns-clause-key
returns-clause-key c = key_word_stored

pub returns-clause-word : goal.returns-clause-word
returns-clause-word c = cell_stored
