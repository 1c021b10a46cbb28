use Rattle.std.proofs.Common.{◌≡◌, ◌++◌, ◌-◌, None, Option, Some, ℕ, false, List, sym, ap, ◌∙◌, take, drop, length, take-append-drop, is_some, refl}
use Rattle.dn_pending.specs.declared.entries.Entry.{Entry}
use Rattle.dn_pending.specs.Entries.{last_of}
use Rattle.dn_pending.specs.Filter.{bits_of, may_hold}
use Rattle.dn_pending.proofs.CoverLemmas.{own_by, Covers-passed, last_of-denied, last_of-empty}
use Rattle.dn_pending.proofs.EntryLaws.{last_of-found, last_of-past}
use Rattle.dn_pending.proofs.segments.last_in.Goals as goal

-- the two parts of a list give it back
parts : (n : ℕ) (left earlier own : List Entry) → earlier ≡ take n left → own ≡ drop n left → earlier ++ own ≡ left
parts n left earlier own e o = ap (λ es. es ++ own) e ∙ ap (λ es. take n left ++ es) o ∙ take-append-drop n left

none_by : (found : Option ℕ) → is_some found ≡ false → found ≡ None
none_by None h = refl
none_by (Some at) h = cc

pub returns-then-is_some : goal.returns-then-is_some
returns-then-is_some c =
    last_of-found c.args.key c.split_at.result.0.now c.split_at.result.1.now c.last_of-found.result c.last_of-found.ensures (sym c.is_some.ensures ∙ c.if-is_some.true)
    ∙ ap (last_of c.args.key) (parts c.saturating_sub.result c.loop-newest.left.now c.split_at.result.0.now c.split_at.result.1.now c.split_at.ensures.front c.split_at.ensures.back)
    ∙ sym c.loop-newest.invariant.same

pub loop-newest-preserved-else-is_some : goal.loop-newest-preserved-else-is_some
loop-newest-preserved-else-is_some c =
    let h = rw c.in-Some.is at c.split_last.ensures.cases in
    let left = c.loop-newest.left.now in
    let mid : c.saturating_sub.result ≡ length left - c.in-Some.newest.now.count = c.saturating_sub.ensures in
    let none : last_of c.args.key c.split_at.result.1.now ≡ None = sym c.last_of-found.ensures ∙ none_by c.last_of-found.result (sym c.is_some.ensures ∙ c.if-is_some.false) in
    record {
      covers = Covers-passed c.in-Some.older.now c.in-Some.newest.now c.loop-newest.unseen.now left c.split_at.result.0.now h.0
          (c.split_at.ensures.front ∙ ap (λ n. take n left) mid) c.loop-newest.invariant.covers;
      same = c.loop-newest.invariant.same
          ∙ sym (ap (last_of c.args.key) (parts c.saturating_sub.result left c.split_at.result.0.now c.split_at.result.1.now c.split_at.ensures.front c.split_at.ensures.back))
          ∙ last_of-past c.args.key c.split_at.result.0.now c.split_at.result.1.now none;
      bits = c.loop-newest.invariant.bits;
      inside = c.loop-newest.invariant.inside;
    }

pub loop-newest-preserved : goal.loop-newest-preserved
loop-newest-preserved c =
    let h = rw c.in-Some.is at c.split_last.ensures.cases in
    let left = c.loop-newest.left.now in
    let newest = c.in-Some.newest.now in
    let mid : c.saturating_sub.result ≡ length left - newest.count = c.saturating_sub.ensures in
    let denied : may_hold newest.filter.words (bits_of c.args.key) ≡ false =
    ap (λ b. may_hold newest.filter.words b) (sym c.loop-newest.invariant.bits) ∙ sym c.may_hold.ensures ∙ c.if-may_hold.false in
    let none : last_of c.args.key c.split_at.result.1.now ≡ None =
    last_of-denied c.args.key newest c.split_at.result.1.now
    (own_by c.in-Some.older.now newest c.loop-newest.unseen.now left c.split_at.result.1.now h.0 (c.split_at.ensures.back ∙ ap (λ n. drop n left) mid) c.loop-newest.invariant.covers)
    denied in
    record {
      covers = Covers-passed c.in-Some.older.now newest c.loop-newest.unseen.now left c.split_at.result.0.now h.0
          (c.split_at.ensures.front ∙ ap (λ n. take n left) mid) c.loop-newest.invariant.covers;
      same = c.loop-newest.invariant.same
          ∙ sym (ap (last_of c.args.key) (parts c.saturating_sub.result left c.split_at.result.0.now c.split_at.result.1.now c.split_at.ensures.front c.split_at.ensures.back))
          ∙ last_of-past c.args.key c.split_at.result.0.now c.split_at.result.1.now none;
      bits = c.loop-newest.invariant.bits;
      inside = c.loop-newest.invariant.inside;
    }

pub returns : goal.returns
returns c =
    let h = rw c.in_default.is at c.split_last.ensures.cases in
    last_of-empty c.args.key c.loop-newest.unseen.now c.loop-newest.left.now h c.loop-newest.invariant.covers ∙ sym c.loop-newest.invariant.same
