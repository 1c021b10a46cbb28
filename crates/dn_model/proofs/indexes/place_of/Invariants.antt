use Rattle.std.proofs.Common.{◌≡◌, drop}
use Rattle.dn_model.specs.Index.{first_place, slots, index}
use Rattle.dn_model.proofs.indexes.place_of.Given as goal

-- none so far, so it is the rest that decides
abbrev pub invariant-loop-bucket : goal.invariant-loop-bucket
invariant-loop-bucket l = index l.words l.overflow l.key ≡ first_place l.key (slots l.words (drop l.bucket-index l.overflow))
