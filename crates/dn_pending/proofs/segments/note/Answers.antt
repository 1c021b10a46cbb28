use Rattle.std.proofs.Common.{◌≡◌, ◌≤◌, ◌/◌, ◌%◌, ◌++◌, ◌∷◌, [], arith, subst, sym, ap, ◌∙◌}
use Rattle.dn_pending.specs.Filter.{bits_of, AreInside}
use Rattle.dn_pending.specs.Segments.{IsFit}
use Rattle.dn_pending.proofs.CoverLemmas.{IsFit-more, IsFit-first, room_left, begun, grown}
use Rattle.dn_pending.proofs.ListLemmas.{take-front}
use Rattle.dn_pending.proofs.segments.note.Goals as goal

pub with-requires-clause-room : goal.with-requires-clause-room
with-requires-clause-room c =
    let h = rw c.in-Some.is at c.split_last.ensures.cases in
    let front = c.in-Some.field-0-1.now in
    let newest = c.in-Some.field-0-0.now in
    let items : c.args.segments.now.items ≡ front ++ newest ∷ [] = sym c.as_slice.ensures ∙ h.0 in
    let number : newest.number ≡ c.args.at / 1024 = c.if-newest-number.true ∙ c.number_of-number.ensures in
    let room : newest.count ≤ c.args.at % 1024 = room_left front newest c.requires.fit.0 c.args.at (subst (λ ss. IsFit ss c.requires.fit.0) items c.requires.fit.1) c.requires.fit.2 number in
    omega (arith, room)

pub returns-in-Some-clause-fit : goal.returns-in-Some-clause-fit
returns-in-Some-clause-fit c = λ entries fit past.
    let h = rw c.in-Some.is at c.split_last.ensures.cases in
    let front = c.in-Some.field-0-1.now in
    let newest = c.in-Some.field-0-0.now in
    let items : c.args.segments.now.items ≡ front ++ newest ∷ [] = sym c.as_slice.ensures ∙ h.0 in
    let number : newest.number ≡ c.args.at / 1024 = c.if-newest-number.true ∙ c.number_of-number.ensures in
    let inside : AreInside (bits_of c.args.key) = subst AreInside c.of-bits.ensures.value c.of-bits.ensures.inside in
    let more : c.with.result ≡ grown newest (bits_of c.args.key) = c.with.ensures ∙ ap (grown newest) c.of-bits.ensures.value in
    subst (λ ss. IsFit ss (entries ++ record { key = c.args.key; at = c.args.at } ∷ []))
    (sym (c.replace_last.ensures.items ∙ ap (λ ss. ss ++ c.with.result ∷ []) (take-front front newest c.args.segments.now.items items) ∙ ap (λ s. front ++ s ∷ []) more))
    (IsFit-more front newest entries c.args.key c.args.at inside (subst (λ ss. IsFit ss entries) items fit) past number)

pub returns-in_default-clause-fit : goal.returns-in_default-clause-fit
returns-in_default-clause-fit c = λ entries fit past.
    let inside : AreInside (bits_of c.args.key) = subst AreInside c.of-bits.ensures.value c.of-bits.ensures.inside in
    let first : c.first.result ≡ begun (c.args.at / 1024) (bits_of c.args.key) =
    c.first.ensures ∙ ap (λ n. begun n c.of-bits.result) c.number_of-number.ensures ∙ ap (λ b. begun (c.args.at / 1024) b) c.of-bits.ensures.value in
    subst (λ ss. IsFit ss (entries ++ record { key = c.args.key; at = c.args.at } ∷ []))
    (sym (c.push.ensures.items ∙ ap (λ s. c.args.segments.now.items ++ s ∷ []) first))
    (IsFit-first c.args.segments.now.items entries c.args.key c.args.at inside fit past)
