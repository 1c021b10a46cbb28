use Rattle.dn_store.proofs.Claims.{bucket_claim, bucket_miss}
use Rattle.dn_store.proofs.Buckets.{own_placed, own_keyed}
use Rattle.dn_store.proofs.Links.{link}
use Rattle.dn_store.proofs.laws.buckets.Goals as goal

pub returns-clause-claim : goal.returns-clause-claim
returns-clause-claim c = bucket_claim

pub returns-clause-miss : goal.returns-clause-miss
returns-clause-miss c = bucket_miss

pub returns-clause-place : goal.returns-clause-place
returns-clause-place c = own_placed

pub returns-clause-key : goal.returns-clause-key
returns-clause-key c = own_keyed

pub returns-clause-link : goal.returns-clause-link
returns-clause-link c = link
