use Rattle.std.proofs.Common.{◌≡◌, ◌≤◌, ◌+◌, ◌-◌, ◌*◌, ◌++◌, length, take, drop, vec_len, vec_capacity}
use Rattle.dn_word.specs.Bytes.{bytes_of}
use Rattle.dn_word.proofs.rooms.ValueRoom.fill_words.Given as goal

-- what was written and what is left are the first bytes of all words
abbrev pub invariant-loop-word : goal.invariant-loop-word
invariant-loop-word l = record {
  count : vec_len l.self-inside.bytes + l.left ≡ l.bytes;
  room : 1024 ≤ vec_capacity l.self-inside.bytes;
  left : l.left ≤ 8 * (length l.words - l.word-index);
  value : l.self-inside.bytes.items ++ take l.left (bytes_of (drop l.word-index l.words)) ≡ take l.bytes (bytes_of l.words);
}
