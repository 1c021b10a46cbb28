use Rattle.std.proofs.Common.{refl}
use Rattle.dn_seek.proofs.Contents.{fetch_goes}
use Rattle.dn_seek.proofs.Lasting.{fetch_lasts}
use Rattle.dn_seek.proofs.laws.fetch.Goals as goal

pub returns-clause-begins : goal.returns-clause-begins
returns-clause-begins c = λ p key wish r f at e s. record { sealed = s; key_is = refl; wish_is = refl; segments_is = e; loaded = refl }

pub returns-clause-step : goal.returns-clause-step
returns-clause-step c = fetch_goes

pub returns-clause-lasts : goal.returns-clause-lasts
returns-clause-lasts c = fetch_lasts
