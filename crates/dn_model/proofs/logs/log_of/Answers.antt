use Rattle.std.proofs.Common.{ℕ, ◌≡◌, ◌+◌, ◌/◌, ◌++◌, ◌∷◌, [], Some, None, sym, ◌∙◌, ap, arith}
use Rattle.std.proofs.lemmas.Grind.{common_steps}
use Rattle.dn_act.specs.Words.{word_at}
use Rattle.dn_record.specs.Record.{length_in_words}
use Rattle.dn_record.specs.declared.records.Record.{Record}
use Rattle.dn_model.specs.Regions.{directory, offsets}
use Rattle.dn_model.specs.Log.{SpellsAt}
use Rattle.dn_model.proofs.PieceLaws.{no_record, record_read, tiles_push, covered_push, not_beyond}
use Rattle.dn_model.proofs.logs.log_of.Goals as goal

some_none : (r : Record) → None ≡ Some r → ⊥
some_none r e = cc

some_one : (a b : Record) → Some a ≡ Some b → a ≡ b
some_one a b e = cc

pub returns-in-None-clause-none : goal.returns-in-None-clause-none
returns-in-None-clause-none c = λ full h.
    let m = c.loop-offset.invariant.rest full h in
    no_record (offsets c.args.words.now c.args.lane) c.loop-offset.offset c.read-len.result.len m.0 m.1 (omega arith) (λ r s. some_none r (sym c.in-None.is ∙ c.in_ok-entry.ensures.found r s))

pub returns-else-offset-len-clause-none : goal.returns-else-offset-len-clause-none
returns-else-offset-len-clause-none c = λ full h.
    let m = c.loop-offset.invariant.rest full h in
    not_beyond (offsets c.args.words.now c.args.lane) c.loop-offset.offset c.read-len.result.len m.0 m.1 (omega arith)

pub loop-offset-preserved : goal.loop-offset-preserved
loop-offset-preserved c =
    let w : ℕ → ℕ = offsets c.args.words.now c.args.lane in
    let o : ℕ = c.loop-offset.offset in
    let e : Record = c.in-Some.entry in
    let spells : SpellsAt w o e = rw c.in-Some.is at c.in_ok-entry.ensures.only in
    let is : o + c.words_of.result ≡ o + length_in_words e = ap (λ x. o + x) c.words_of.ensures in
    let items : c.push.new.self.items ≡ c.loop-offset.log.items ++ record { offset = o; entry = e } ∷ [] = grind (arith, common_steps) in
    let at : directory c.args.words.now c.args.lane (o / 1024) ≡ c.word-else-offset-ge262144.result =
    ap (λ x. word_at c.args.words.now x) (omega (arith, c.directory_at.ensures)) ∙ sym c.word-else-offset-ge262144.ensures in
    record {
      tiled = tiles_push w o (o + c.words_of.result) c.loop-offset.log.items c.push.new.self.items e is items c.loop-offset.invariant.tiled spells;
      covered = covered_push c.args.words.now c.args.lane o (o + c.words_of.result) e is c.loop-offset.invariant.covered spells.fits (omega arith) (omega (arith, at, c.if-word-eq0.false));
      rest = λ full h. let m = c.loop-offset.invariant.rest full h in
          record_read w o (o + c.words_of.result) c.read-len.result.len e m.0 is m.1 (omega arith) (λ r s. some_one e r (sym c.in-Some.is ∙ c.in_ok-entry.ensures.found r s));
    }
