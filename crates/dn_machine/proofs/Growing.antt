use Rattle.std.proofs.Common.{ℕ, ◌≡◌, Bool, true, false, refl, sym, ◌∙◌, ap, subst, arith}
use Rattle.std.proofs.lemmas.Bool.{false≢true}
use Rattle.dn_word.specs.declared.packed.gate.Gate.{Gate}
use Rattle.dn_word.specs.declared.packed.deed.Deed.{Deed}
use Rattle.dn_model.specs.Regions.{gate}
use Rattle.dn_beside.specs.Pool.{Pool, IsWhole}
use Rattle.dn_beside.specs.Grown.{Grows}
use Rattle.dn_machine.specs.State.{Machine}
use Rattle.dn_machine.specs.Events.{Event, happens}
use Rattle.dn_machine.specs.Given.{IsGiven}
use Rattle.dn_machine.specs.Growing.{HaveGrown}
use Rattle.dn_machine.specs.Kept.{IsKept}
use Rattle.dn_machine.specs.Sound.{IsSound}
use Rattle.dn_machine.proofs.Kept.{kept}

-- What only grows, in the words.

bit_by : (a b : Bool) → (b ≡ false → a ≡ false) → a ≡ true → b ≡ true
bit_by a true h e = refl
bit_by a false h e = absurd (false≢true (sym (h refl) ∙ e))

grown : (p q : Pool) → IsWhole p → IsWhole q → Grows p q → HaveGrown p.words q.words
grown p q h k g =
    let old = h.represents.table in
    let new = k.represents.table in
    record {
      len = λ n l. omega (arith, (g.later.gates n).len, ap (λ (x : Gate). x.len) (old.gates n l.below), ap (λ (x : Gate). x.len) (new.gates n l.below));
      stamp = λ n l. omega (arith, (g.later.gates n).stamp, ap (λ (x : Gate). x.stamp) (old.gates n l.below), ap (λ (x : Gate). x.stamp) (new.gates n l.below));
      bit = λ n l. bit_by (gate p.words n).fenced (gate q.words n).fenced
          (λ f. ap (λ (x : Gate). x.fenced) (old.gates n l.below) ∙ (g.later.gates n).clear (sym (ap (λ (x : Gate). x.fenced) (new.gates n l.below)) ∙ f));
      mark = λ n l. omega (arith, g.later.marks n, old.marks n l.below, new.marks n l.below);
      epoch = λ t lt. omega (arith, g.later.epochs t, ap (λ (x : Deed). x.epoch) (old.deeds t lt), ap (λ (x : Deed). x.epoch) (new.deeds t lt));
      floor = λ t lt. omega (arith, g.later.floors t, ap (λ (x : Deed). x.floor) (old.deeds t lt), ap (λ (x : Deed). x.floor) (new.deeds t lt));
      segments = omega (arith, g.segments, old.segment_count, new.segment_count);
      buckets = omega (arith, g.buckets, old.bucket_count, new.bucket_count);
    }

pub grows : (segments : ℕ) (m : Machine) (e : Event) → IsSound segments m → IsGiven segments m e → HaveGrown m.words (happens m e).words
grows segments m e h g =
    let k : IsKept h.p (happens m e) = kept h.p m e h.at (subst (λ s. IsGiven s m e) (sym h.pool) g) in
    let both : HaveGrown h.p.words k.q.words = grown h.p k.q h.at.whole k.at.whole k.grows in
    let one : HaveGrown m.words k.q.words = subst (λ ws. HaveGrown ws k.q.words) h.at.words both in
    subst (λ ws. HaveGrown m.words ws) k.at.words one
