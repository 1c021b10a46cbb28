use Rattle.std.proofs.Common.{ℕ, ◌≡◌, ◌<◌, List, All, Some, None, sym, ◌∙◌, ap, subst, arith}
use Rattle.dn_model.specs.Regions.{home_of}
use Rattle.dn_model.specs.Held.{Says}
use Rattle.dn_model.specs.Told.{told, logs_of, chains_of, held_with, holds_of}
use Rattle.dn_model.proofs.HashLaws.{home_below}
use Rattle.dn_model.proofs.SettleLaws.{chain_below, towards_gone, towards_put, right_gone, right_put}
use Rattle.dn_model.proofs.maps.settle.Goals as goal

pub held_at-requires : goal.held_at-requires
held_at-requires c =
    let k : ℕ = c.args.key in
    let P : List ℕ → Type 0 = λ xs. All (λ b. b < 8192) xs in
    subst P (sym c.overflow_of.ensures) (chain_below c.args.words.now (home_of k) (chains_of c.args.chains.now (home_of k)) (c.requires.each (home_of k) (home_below k)).leads)

pub returns-in-Nothing-clause-towards : goal.returns-in-Nothing-clause-towards
returns-in-Nothing-clause-towards c =
    let k : ℕ = c.args.key in
    let says : Says None ≡ holds_of c.args.words.now c.args.logs.now c.args.chains.now k =
    sym (ap told c.in-Nothing.is) ∙ c.held_at.ensures ∙ ap (λ o. held_with c.args.words.now (logs_of c.args.logs.now) o k) c.overflow_of.ensures in
    towards_gone (holds_of c.args.words.now c.args.logs.now c.args.chains.now) c.args.map.now c.remove.new.self k c.remove.ensures (omega arith) says

pub returns-in-Nothing-clause-right : goal.returns-in-Nothing-clause-right
returns-in-Nothing-clause-right c =
    let k : ℕ = c.args.key in
    let says : Says None ≡ holds_of c.args.words.now c.args.logs.now c.args.chains.now k =
    sym (ap told c.in-Nothing.is) ∙ c.held_at.ensures ∙ ap (λ o. held_with c.args.words.now (logs_of c.args.logs.now) o k) c.overflow_of.ensures in
    right_gone (holds_of c.args.words.now c.args.logs.now c.args.chains.now) c.args.map.now c.remove.new.self k c.remove.ensures says

pub returns-in-Ok-insert-clause-towards : goal.returns-in-Ok-insert-clause-towards
returns-in-Ok-insert-clause-towards c =
    let k : ℕ = c.args.key in
    let says : Says (Some c.in-Ok.value) ≡ holds_of c.args.words.now c.args.logs.now c.args.chains.now k =
    ap (λ v. Says (Some v)) c.in-Ok.ensures ∙ sym (ap told c.in-Is.is) ∙ c.held_at.ensures ∙ ap (λ o. held_with c.args.words.now (logs_of c.args.logs.now) o k) c.overflow_of.ensures in
    towards_put (holds_of c.args.words.now c.args.logs.now c.args.chains.now) c.args.map.now c.insert.new.self k c.in-Ok.value c.in-Ok-insert.ensures.ok (omega arith) says

pub returns-in-Ok-insert-clause-right : goal.returns-in-Ok-insert-clause-right
returns-in-Ok-insert-clause-right c =
    let k : ℕ = c.args.key in
    let says : Says (Some c.in-Ok.value) ≡ holds_of c.args.words.now c.args.logs.now c.args.chains.now k =
    ap (λ v. Says (Some v)) c.in-Ok.ensures ∙ sym (ap told c.in-Is.is) ∙ c.held_at.ensures ∙ ap (λ o. held_with c.args.words.now (logs_of c.args.logs.now) o k) c.overflow_of.ensures in
    right_put (holds_of c.args.words.now c.args.logs.now c.args.chains.now) c.args.map.now c.insert.new.self k c.in-Ok.value c.in-Ok-insert.ensures.ok says
