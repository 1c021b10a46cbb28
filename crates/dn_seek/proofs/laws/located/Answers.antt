use Rattle.std.proofs.Common.{◌∙◌, sym, ap}
use Rattle.dn_model.specs.Held.{Says}
use Rattle.dn_beside.specs.Pool.{store_in}
use Rattle.dn_seek.proofs.Seeks.{agreed_held, stays, located_lasts}
use Rattle.dn_seek.proofs.Values.{located_value}
use Rattle.dn_seek.proofs.laws.located.Goals as goal

pub returns-clause-held : goal.returns-clause-held
returns-clause-held c = λ p key wish f way fetched a. agreed_held (store_in p) key a.of a.of_key a.plain a.agrees

pub returns-clause-told : goal.returns-clause-told
returns-clause-told c = λ value_in behind p key f way fetched reads h a. agreed_held (store_in p) key a.of a.of_key a.plain a.agrees ∙ sym (ap Says (located_value value_in behind p key f way fetched reads h a))

pub returns-clause-lasts : goal.returns-clause-lasts
returns-clause-lasts c = λ p q n key wish f way fetched l g v pos look slot clear a. located_lasts p q n key wish f way fetched (stays p q n key l g v pos look slot clear) a
