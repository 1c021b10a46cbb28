use Rattle.std.specs.Prelude.{ℕ, zero, suc, List, Option, Some, None}
use Rattle.dn_act.specs.Action.{at_of, words_after}
use Rattle.dn_act.specs.Words.{word_at}
use Rattle.dn_merge.specs.Merge.{Merging, started, merge_next, merge_turn, merge_after}
use Rattle.dn_merge.specs.declared.mergers.MergeTurn.{MergeTurn}
use Rattle.dn_cluster.specs.State.{ClusterState, numbered}
use Rattle.dn_cluster.specs.Machine.{merger_in}

-- The words of a pool and the merger of one lane, while nobody else acts.
pub record Alone : Type 0 where
  pub words : List ℕ
  pub merger : Merging

-- the word that its next action finds
abbrev pub found_by : Alone → ℕ
found_by a = word_at a.words (at_of (merge_next a.merger))

-- what it answers to that word
abbrev pub answer_by : Alone → MergeTurn
answer_by a = merge_turn a.merger (found_by a)

-- the words after the action, and where the merger is then
abbrev pub step_by : Alone → Alone
step_by a = record { words = words_after (merge_next a.merger) a.words; merger = merge_after a.merger (found_by a) }

-- after so many of its actions
abbrev pub run_by : Alone → ℕ → Alone
run_by a zero = a
run_by a (suc k) = step_by (run_by a k)

-- ---- lane n's merger of a cluster, over these words
abbrev pub merger_or : ℕ → Option Merging → Merging
merger_or n None = started n
merger_or n (Some x) = x

abbrev pub alone_in : List ℕ → ClusterState → ℕ → Alone
alone_in words c n = record { words = words; merger = merger_or n (merger_in (numbered c.nodes n)) }
