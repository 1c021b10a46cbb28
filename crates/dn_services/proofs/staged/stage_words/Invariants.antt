use Rattle.std.proofs.Common.{◌≡◌, ◌+◌, ◌++◌, take, length}
use Rattle.dn_services.specs.Staged.{placed, AreWithin}
use Rattle.dn_services.proofs.staged.stage_words.Given as goal

-- the words so far are staged behind those before
abbrev pub invariant-loop-index : goal.invariant-loop-index
invariant-loop-index l = record {
  staged : l.staging ≡ l.fn.staging ++ placed l.log l.at (take l.index l.words);
  within : AreWithin l.log.pool l.staging;
  count : length l.staging ≡ length l.fn.staging + l.index;
}
