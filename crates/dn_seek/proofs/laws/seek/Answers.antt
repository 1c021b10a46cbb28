use Rattle.std.proofs.Common.{refl, arith}
use Rattle.dn_walks.proofs.Trails.{tracks_begun}
use Rattle.dn_seek.proofs.Seeks.{begun_pending, seek_goes, looked_lasts}
use Rattle.dn_seek.proofs.laws.seek.Goals as goal

pub returns-clause-pending : goal.returns-clause-pending
returns-clause-pending c = begun_pending

pub returns-clause-index : goal.returns-clause-index
returns-clause-index c = λ p n key wish f e owner none. record { key_is = refl; owner = owner; none = none; finds = (record {}, omega arith, tracks_begun p.words p.chains key); segments_is = e }

pub returns-clause-step : goal.returns-clause-step
returns-clause-step c = seek_goes

pub returns-clause-lasts : goal.returns-clause-lasts
returns-clause-lasts c = looked_lasts
