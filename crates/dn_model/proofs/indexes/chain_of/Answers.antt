use Rattle.std.proofs.Common.{ℕ, ◌≡◌, ◌++◌, ◌∷◌, [], List, sym, arith}
use Rattle.std.proofs.lemmas.Grind.{common_steps}
use Rattle.dn_model.specs.Regions.{bucket}
use Rattle.dn_model.proofs.ChainLaws.{next_low, next_high, next_many, way_on, rest_on}
use Rattle.dn_model.proofs.indexes.chain_of.Goals as goal

pub returns-then-next-lt4096-clause-none : goal.returns-then-next-lt4096-clause-none
returns-then-next-lt4096-clause-none c = λ full h.
    let m = c.loop-next.invariant.rest full h in
    next_low c.args.words.now c.loop-next.at c.bucket_word-next.result m.0 m.2 (sym c.bucket_word-next.ensures) (omega arith) (omega arith)

pub returns-then-next-ge8192-clause-none : goal.returns-then-next-ge8192-clause-none
returns-then-next-ge8192-clause-none c = λ full h.
    let m = c.loop-next.invariant.rest full h in
    next_high c.args.words.now c.loop-next.at c.bucket_word-next.result m.0 m.2 (sym c.bucket_word-next.ensures) (omega arith) (omega arith)

pub returns-then-len-eq4096-clause-none : goal.returns-then-len-eq4096-clause-none
returns-then-len-eq4096-clause-none c = λ full h.
    let m = c.loop-next.invariant.rest full h in
    next_many c.args.words.now c.args.home c.loop-next.at c.bucket_word-next.result full c.loop-next.chain.items m.0 h m.1 (grind (arith, common_steps)) m.2 (sym c.bucket_word-next.ensures) (omega arith)

pub loop-next-preserved : goal.loop-next-preserved
loop-next-preserved c =
    let words : List ℕ = c.args.words.now in
    let next : ℕ = c.bucket_word-next.result in
    let items : c.push.new.self.items ≡ c.loop-next.chain.items ++ next ∷ [] = grind (arith, common_steps) in
    let e : bucket words c.loop-next.at 7 ≡ next = sym c.bucket_word-next.ensures in
    record {
      bucket = omega arith;
      few = grind (arith, common_steps);
      way = λ more l. way_on words c.args.home c.loop-next.at next c.loop-next.chain.items c.push.new.self.items more items c.loop-next.invariant.way e (omega arith) (omega arith) l;
      rest = λ full h. let m = c.loop-next.invariant.rest full h in
          rest_on words c.loop-next.at next full c.loop-next.chain.items c.push.new.self.items m.0 items m.1 m.2 e (omega arith);
    }
