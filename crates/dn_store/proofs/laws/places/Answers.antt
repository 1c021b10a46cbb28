use Rattle.dn_store.proofs.Buckets.{place_filled, place_replaced, key_stored, key_cleared}
use Rattle.dn_store.proofs.laws.places.Goals as goal

pub returns-clause-free : goal.returns-clause-free
returns-clause-free c = place_filled

pub returns-clause-place : goal.returns-clause-place
returns-clause-place c = place_replaced

pub returns-clause-key : goal.returns-clause-key
returns-clause-key c = key_stored

pub returns-clause-clear : goal.returns-clause-clear
returns-clause-clear c = key_cleared
