use Rattle.dn_waiting.proofs.Changes.{all_turns}
use Rattle.dn_waiting.proofs.laws.turns_of_a_lane.Goals as goal

pub returns : goal.returns
returns c = all_turns
