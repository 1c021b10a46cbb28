use Rattle.std.proofs.Common.{ℕ, ◌<◌, ◌≡◌, ◌≢◌, inl, inr, Bool, true, false, ◌&&◌, ◌==◌, if◌then◌else◌, Option, Some, refl, sym, ◌∙◌, ap, subst, arith, slice_index, slice_set}
use Rattle.std.proofs.lemmas.Bool.Decides.{nat_tests}
use Rattle.std.proofs.lemmas.Bool.{cases_eq, false≢true}
use Rattle.dn_word.specs.Deed.{deed_of}
use Rattle.dn_word.specs.declared.packed.deed.Deed.{Deed}
use Rattle.dn_word.specs.declared.packed.deed.DeedState.{DeedState}
use Rattle.dn_word.specs.declared.packed.deed.DeedState.TheVariants.{Nobody, Owned, Leaving, Released}
use Rattle.dn_act.specs.Words.{word_at}
use Rattle.dn_act.proofs.Words.{word_at-set_same, word_at-set_other, length-set}
use Rattle.dn_model.specs.Regions.{deed_at, IsLane}
use Rattle.dn_plan.specs.Plan.{is_owned, is_owner}
use Rattle.dn_store.specs.State.{with_at}
use Rattle.dn_store.proofs.At.{at_same, at_other}
use Rattle.dn_known.specs.State.{KnownState}
use Rattle.dn_known.specs.Learnt.{met}
use Rattle.dn_owners.specs.Known.{Look, Learnt, Knows}
use Rattle.dn_owners.specs.Sound.{IsSound}
use Rattle.dn_owners.specs.Events.{Look_known, Look_new, learns}
use Rattle.dn_owners.specs.Given.{IsOwner, HasLearnt}
use Rattle.dn_owners.proofs.Ats.{same_some}
use Rattle.dn_owners.proofs.Logs.{ordered}
use Rattle.dn_owners.proofs.Tables.{kept}
use Rattle.dn_beside.specs.Pool.{Pool, store_in, IsWhole}
use Rattle.dn_beside.specs.Step.{by_lane}
use Rattle.dn_beside.proofs.Still.{learning_step, quiet_still}
use Rattle.dn_learnt.specs.Learning.{IsMet, Heeds, Learns}
use Rattle.dn_learnt.specs.Heeding.{look_by, HasLooked, IsLesson, IsLooked}

-- A lane loads a deed.

-- ---- nobody else sees that it learns
pub lesson : (p : Pool) (n : ℕ) (v : Knows) → IsWhole p → IsSound (learns p.owners n v) → IsLesson n p (record p { owners = learns p.owners n v })
lesson p n v h s = record {
  words = refl;
  chains = refl;
  store = refl;
  promised = refl;
  watch = refl;
  by = learning_step (by_lane n) p (learns p.owners n v) refl (record { represents = h.represents; sound = s; deeds = h.deeds; plain = h.plain })
      (λ k. omega arith) (λ m d. at_other p.owners.knows n v m d) (λ f. refl);
  quiet = quiet_still p (learns p.owners n v) refl (λ k. refl);
}

-- ---- what the word says
agree : (a b : ℕ) → (a == b) ≡ true → a ≡ b
agree a b e = grind (arith, nat_tests, e)

differ : (a b : ℕ) → (a == b) ≡ false → a ≢ b
differ a b e s = grind (arith, nat_tests, e, s)

owned_by : (s : DeedState) → is_owned s ≡ true → s ≡ Owned
owned_by Nobody e = absurd (false≢true e)
owned_by Owned e = refl
owned_by Leaving e = absurd (false≢true e)
owned_by Released e = absurd (false≢true e)

both : (a b : Bool) → (a && b) ≡ true → (a ≡ true) × (b ≡ true)
both true b e = (refl, e)
both false b e = absurd (false≢true e)

pub owner_says : (n word : ℕ) → is_owner n word ≡ true → ((deed_of word).state ≡ Owned) × ((deed_of word).lane ≡ n)
owner_says n word e =
    let two = both (is_owned (deed_of word).state) ((deed_of word).lane == n) e in
    (owned_by (deed_of word).state two.0, grind (arith, nat_tests, two.1))

pub says_owner : (n word : ℕ) → (deed_of word).state ≡ Owned → (deed_of word).lane ≡ n → is_owner n word ≡ true
says_owner n word s l =
    let same : ((deed_of word).lane == n) ≡ true = grind (arith, nat_tests, l) in
    ap (λ x. is_owned x && ((deed_of word).lane == n)) s ∙ same

-- ---- a slot whose epoch is another one than the lane has met
pub record IsNews (k : KnownState) (v : Knows) (deeds : ℕ → Deed) (n slot : ℕ) : Type 0 where
  pub there : slot < 64
  pub heeds : Heeds v deeds n k
  pub other : slice_index k.epochs slot ≢ (deeds slot).epoch

newer : (k : KnownState) (v : Knows) (deeds : ℕ → Deed) (n slot : ℕ) → IsNews k v deeds n slot → slice_index k.epochs slot < (deeds slot).epoch
newer k v deeds n slot h = omega (arith, h.other, (h.heeds.met slot h.there).upto)

abbrev pub renewed : KnownState → ℕ → ℕ → KnownState
renewed k slot epoch = record k { epochs = slice_set k.epochs slot epoch; counts = slice_set k.counts slot k.log.len }

-- it is met, and where the lane is owner it is learnt
pub record IsTold (v w : Knows) (k : KnownState) (deeds : ℕ → Deed) (n slot : ℕ) : Type 0 where
  pub running : w.running ≡ v.running
  pub pending : w.pending ≡ v.pending
  pub others : (t : ℕ) → t ≢ slot → w.learnt t ≡ v.learnt t
  pub here : IsMet (w.learnt slot) (deeds slot).epoch k.log.len (deeds slot) n

pub renewed_heeds : (k : KnownState) (v w : Knows) (deeds : ℕ → Deed) (n slot : ℕ) → IsNews k v deeds n slot → IsTold v w k deeds n slot → Heeds w deeds n (renewed k slot (deeds slot).epoch)
renewed_heeds k v w deeds n slot h g = record {
  running = g.running ∙ h.heeds.running;
  epochs = length-set k.epochs slot (deeds slot).epoch ∙ h.heeds.epochs;
  counts = length-set k.counts slot k.log.len ∙ h.heeds.counts;
  met = λ t lt. elim (cases_eq t slot) [
    | inl e ↦
        let P : ℕ → ℕ → Type 0 = λ a b. IsMet (w.learnt slot) a b (deeds slot) n in
        let first : P (slice_index (slice_set k.epochs slot (deeds slot).epoch) slot) k.log.len =
        subst (λ a. P a k.log.len) (sym (word_at-set_same k.epochs slot (deeds slot).epoch (omega (arith, h.there, h.heeds.epochs)))) g.here in
        let both_are : P (slice_index (slice_set k.epochs slot (deeds slot).epoch) slot) (slice_index (slice_set k.counts slot k.log.len) slot) =
        subst (λ b. P (slice_index (slice_set k.epochs slot (deeds slot).epoch) slot) b) (sym (word_at-set_same k.counts slot k.log.len (omega (arith, h.there, h.heeds.counts)))) first in
        subst (λ u. IsMet (w.learnt u) (slice_index (slice_set k.epochs slot (deeds slot).epoch) u) (slice_index (slice_set k.counts slot k.log.len) u) (deeds u) n) (sym e) both_are
    | inr d ↦
        let old : IsMet (v.learnt t) (slice_index k.epochs t) (slice_index k.counts t) (deeds t) n = h.heeds.met t lt in
        let P : Option Learnt → ℕ → ℕ → Type 0 = λ x a b. IsMet x a b (deeds t) n in
        let one : P (w.learnt t) (slice_index k.epochs t) (slice_index k.counts t) = subst (λ x. P x (slice_index k.epochs t) (slice_index k.counts t)) (sym (g.others t d)) old in
        let two : P (w.learnt t) (slice_index (slice_set k.epochs slot (deeds slot).epoch) t) (slice_index k.counts t) =
        subst (λ a. P (w.learnt t) a (slice_index k.counts t)) (sym (word_at-set_other k.epochs slot t (deeds slot).epoch d)) one in
        subst (λ b. P (w.learnt t) (slice_index (slice_set k.epochs slot (deeds slot).epoch) t) b) (sym (word_at-set_other k.counts slot t k.log.len d)) two
  ];
  pending = g.pending ∙ h.heeds.pending;
}

-- ---- the lane isn't owner: it has met the epoch
pub unowned : (k : KnownState) (v : Knows) (deeds : ℕ → Deed) (n slot : ℕ) → IsNews k v deeds n slot → ((deeds slot).state ≡ Owned → (deeds slot).lane ≡ n → ⊥) → IsTold v v k deeds n slot
unowned k v deeds n slot h never = record {
  running = refl;
  pending = refl;
  others = λ t d. refl;
  here = record {
    upto = omega arith;
    older = λ c e. elim ((h.heeds.met slot h.there).older c e) [
      | inl lt ↦ inl (omega (arith, lt, newer k v deeds n slot h))
      | inr eq ↦ inl (omega (arith, eq.0, newer k v deeds n slot h))
    ];
    owner = λ s l e. absurd (never s l);
  };
}

-- ---- the lane is owner: it has learnt it
abbrev pub taught : Knows → Look → ℕ → Knows
taught v l from = record v { look = Some l; learnt = with_at v.learnt l.slot (Some (record { epoch = l.epoch; from = from })) }

pub owned : (k : KnownState) (v : Knows) (deeds : ℕ → Deed) (n : ℕ) (l : Look) (len : ℕ) → IsNews k v deeds n l.slot → k.log.len ≡ len → (deeds l.slot).epoch ≡ l.epoch → IsTold v (taught v l len) k deeds n l.slot
owned k v deeds n l len h same epoch = record {
  running = refl;
  pending = refl;
  others = λ t d. at_other v.learnt l.slot (Some (record { epoch = l.epoch; from = len })) t d;
  here =
      let at : with_at v.learnt l.slot (Some (record { epoch = l.epoch; from = len })) l.slot ≡ Some (record { epoch = l.epoch; from = len }) = at_same v.learnt l.slot (Some (record { epoch = l.epoch; from = len })) l.slot refl in
      record {
        upto = omega arith;
        older = λ c e.
            let is : record { epoch = l.epoch; from = len } ≡ c = same_some (record { epoch = l.epoch; from = len }) c (sym at ∙ e) in
            inr (sym (ap (λ (x : Learnt). x.epoch) is) ∙ sym epoch, sym (ap (λ (x : Learnt). x.from) is) ∙ sym same);
        owner = λ s m e. (record { epoch = l.epoch; from = len }, at, sym epoch);
      };
}

-- ---- the look
pub record IsLoad (p : Pool) (n slot word : ℕ) (k : KnownState) : Type 0 where
  pub whole : IsWhole p
  pub lane : IsLane n
  pub there : slot < 64
  pub learns : Learns p n k
  pub len : k.log.len ≡ ((store_in p).gates n).len
  pub found : word ≡ word_at p.words (deed_at slot)

deed_is : (p : Pool) (slot word : ℕ) → IsWhole p → slot < 64 → word ≡ word_at p.words (deed_at slot) → deed_of word ≡ (store_in p).deeds slot
deed_is p slot word h lt e = ap deed_of e ∙ h.represents.table.deeds slot lt

owner_of : (p : Pool) (n slot word : ℕ) (k : KnownState) → IsLoad p n slot word k → is_owner n word ≡ true → IsOwner p.owners n (look_by slot word)
owner_of p n slot word k h o =
    let is : deed_of word ≡ (store_in p).deeds slot = deed_is p slot word h.whole h.there h.found in
    let says = owner_says n word o in
    record {
      running = h.learns.running;
      state = ap (λ (d : Deed). d.state) (sym is) ∙ says.0;
      names = ap (λ (d : Deed). d.lane) (sym is) ∙ says.1;
      epoch = ap (λ (d : Deed). d.epoch) (sym is);
      floor = ap (λ (d : Deed). d.floor) (sym is);
    }

-- what is known then, by whether the epoch was met before
looked_by : (p : Pool) (n slot word : ℕ) (k : KnownState) → IsLoad p n slot word k → is_owner n word ≡ true → (b : Bool) → (slice_index k.epochs slot == (deed_of word).epoch) ≡ b
    → (q : Pool) × IsLesson n p q × HasLooked q n slot word × Learns q n (if b then k else renewed k slot (deed_of word).epoch)
looked_by p n slot word k h o true e =
    let l : Look = look_by slot word in
    let v : Knows = record (p.owners.knows n) { look = Some l } in
    let is : deed_of word ≡ (store_in p).deeds slot = deed_is p slot word h.whole h.there h.found in
    let own : IsOwner p.owners n l = owner_of p n slot word k h o in
    let same : slice_index k.epochs slot ≡ (deed_of word).epoch = agree (slice_index k.epochs slot) (deed_of word).epoch e in
    let has = (h.learns.met slot h.there).owner own.state own.names (same ∙ ap (λ (d : Deed). d.epoch) is) in
    let learnt : HasLearnt p.owners n l = (has.0, has.1, has.2 ∙ same) in
    let sound : IsSound (learns p.owners n v) = kept p.owners (Look_known n l) (ordered p.words p.chains p.owners.store h.whole.represents) h.whole.sound (own, learnt) in
    let at : with_at p.owners.knows n v n ≡ v = at_same p.owners.knows n v n refl in
    let heeds : Heeds v (store_in p).deeds n k = record { running = h.learns.running; epochs = h.learns.epochs; counts = h.learns.counts; met = h.learns.met; pending = h.learns.pending } in
    (record p { owners = learns p.owners n v }, lesson p n v h.whole sound, record { look = ap (λ (w : Knows). w.look) at }, subst (λ w. Heeds w (store_in p).deeds n k) (sym at) heeds)
looked_by p n slot word k h o false e =
    let l : Look = look_by slot word in
    let v : Knows = taught (p.owners.knows n) l ((store_in p).gates n).len in
    let is : deed_of word ≡ (store_in p).deeds slot = deed_is p slot word h.whole h.there h.found in
    let own : IsOwner p.owners n l = owner_of p n slot word k h o in
    let differs : slice_index k.epochs slot ≢ (deed_of word).epoch = differ (slice_index k.epochs slot) (deed_of word).epoch e in
    let news : IsNews k (p.owners.knows n) (store_in p).deeds n slot = record { there = h.there; heeds = h.learns; other = λ s. differs (s ∙ sym (ap (λ (d : Deed). d.epoch) is)) } in
    let unlearnt : HasLearnt p.owners n l → ⊥ = λ x. elim ((h.learns.met slot h.there).older x.0 x.1) [
      | inl lt ↦ omega (arith, lt, newer k (p.owners.knows n) (store_in p).deeds n slot news, x.2, ap (λ (d : Deed). d.epoch) is)
      | inr eq ↦ omega (arith, eq.0, newer k (p.owners.knows n) (store_in p).deeds n slot news, x.2, ap (λ (d : Deed). d.epoch) is)
    ] in
    let sound : IsSound (learns p.owners n v) = kept p.owners (Look_new n l) (ordered p.words p.chains p.owners.store h.whole.represents) h.whole.sound (own, unlearnt) in
    let at : with_at p.owners.knows n v n ≡ v = at_same p.owners.knows n v n refl in
    let told : IsTold (p.owners.knows n) v k (store_in p).deeds n slot = owned k (p.owners.knows n) (store_in p).deeds n l ((store_in p).gates n).len news h.len own.epoch in
    let heeds : Heeds v (store_in p).deeds n (renewed k slot (deed_of word).epoch) =
    subst (λ x. Heeds v (store_in p).deeds n (renewed k slot x)) (sym (ap (λ (d : Deed). d.epoch) is)) (renewed_heeds k (p.owners.knows n) v (store_in p).deeds n slot news told) in
    (record p { owners = learns p.owners n v }, lesson p n v h.whole sound, record { look = ap (λ (w : Knows). w.look) at }, subst (λ w. Heeds w (store_in p).deeds n (renewed k slot (deed_of word).epoch)) (sym at) heeds)

pub looked : (p : Pool) (n slot word : ℕ) (k : KnownState) → IsLoad p n slot word k → is_owner n word ≡ true → IsLooked p n slot word k
looked p n slot word k h o =
    let r = looked_by p n slot word k h o (slice_index k.epochs slot == (deed_of word).epoch) refl in
    record { q = r.0; lesson = r.1; looked = r.2; learns = r.3 }

pub unlooked : (p : Pool) (n slot word : ℕ) (k : KnownState) → IsWhole p → slot < 64 → Learns p n k → word ≡ word_at p.words (deed_at slot) → is_owner n word ≡ false → Learns p n (met k slot (deed_of word).epoch)
unlooked p n slot word k h there heeds found o = by_test (slice_index k.epochs slot == (deed_of word).epoch) refl where
  is : deed_of word ≡ (store_in p).deeds slot
  is = deed_is p slot word h there found

  by_test : (b : Bool) → (slice_index k.epochs slot == (deed_of word).epoch) ≡ b → Learns p n (if b then k else renewed k slot (deed_of word).epoch)
  by_test true e = heeds
  by_test false e =
      let differs : slice_index k.epochs slot ≢ (deed_of word).epoch = differ (slice_index k.epochs slot) (deed_of word).epoch e in
      let news : IsNews k (p.owners.knows n) (store_in p).deeds n slot = record { there = there; heeds = heeds; other = λ s. differs (s ∙ sym (ap (λ (d : Deed). d.epoch) is)) } in
      let never : ((store_in p).deeds slot).state ≡ Owned → ((store_in p).deeds slot).lane ≡ n → ⊥ = λ s l.
      false≢true (sym o ∙ says_owner n word (ap (λ (d : Deed). d.state) is ∙ s) (ap (λ (d : Deed). d.lane) is ∙ l)) in
      subst (λ x. Learns p n (renewed k slot x)) (sym (ap (λ (d : Deed). d.epoch) is)) (renewed_heeds k (p.owners.knows n) (p.owners.knows n) (store_in p).deeds n slot news (unowned k (p.owners.knows n) (store_in p).deeds n slot news never))
