use Rattle.std.proofs.Common.{ℕ, ◌≡◌, ◌<◌, ◌≤◌, ◌-◌, ◌++◌, List, vec_len}
use Rattle.dn_model.specs.Index.{Leads, IsChain}
use Rattle.dn_model.proofs.indexes.chain_of.Given as goal

-- where the words lead to an end from here, the chain is what came so far and that; and the home's chain goes on from here
abbrev pub invariant-loop-next : goal.invariant-loop-next
invariant-loop-next l = record {
  bucket : l.at < 8192;
  few : vec_len l.chain ≤ 4096;
  way : (more : List ℕ) → Leads l.words l.at more → Leads l.words l.home (l.chain.items ++ more);
  rest : (full : List ℕ) → IsChain l.words l.home full → (more : List ℕ) × (full ≡ l.chain.items ++ more) × Leads l.words l.at more;
}

abbrev pub decreases-loop-next : goal.decreases-loop-next
decreases-loop-next l = 4097 - vec_len l.chain
