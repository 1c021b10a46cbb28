use Rattle.std.proofs.Common.{◌≡◌, drop}
use Rattle.dn_store.specs.Plain.{place_in}
use Rattle.dn_store.proofs.plain.place_of.Given as goal

-- no entry passed so far has the key
abbrev pub invariant-loop-entry : goal.invariant-loop-entry
invariant-loop-entry l = place_in l.key l.index ≡ place_in l.key (drop l.entry-index l.index)
