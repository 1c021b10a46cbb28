use Rattle.std.proofs.Common.{◌≡◌, ◌-◌, ◌*◌, ◌++◌, take, drop}
use Rattle.dn_record.specs.Values.{words_from}
use Rattle.dn_record.proofs.writing.write_bytes.Given as goal

-- what was written and what is left to write are the words of the value; the rest stays
abbrev pub invariant-loop-index : goal.invariant-loop-index
invariant-loop-index l = record {
  value : take l.index l.out ++ words_from (l.count - l.index) (drop (8 * l.index) l.bytes) ≡ words_from l.count l.bytes;
  rest : drop l.count l.out ≡ drop l.count l.initial.out;
}
