use Rattle.std.proofs.Common.{ℕ, ◌+◌, ◌^◌, ◌==◌, ◌<◌, ◌≤◌, ◌≡◌, ◌≢◌, inr, Bool, true, false, if◌then◌else◌, nat_eq, bit_or, List, Option, Some, None, slice_set, refl, sym, ◌∙◌, ap, subst, arith}
use Rattle.std.proofs.lemmas.List.{set-get_or}
use Rattle.std.proofs.lemmas.Bool.{eqb-true}
use Rattle.std.proofs.lemmas.Bool.Decides.{nat_tests}
use Rattle.dn_word.specs.Gate.{gate_of}
use Rattle.dn_word.specs.Deed.{deed_of}
use Rattle.dn_word.specs.declared.packed.gate.Gate.{Gate}
use Rattle.dn_word.specs.declared.packed.deed.Deed.{Deed}
use Rattle.dn_word.specs.declared.packed.deed.DeedState.TheVariants.{Nobody, Owned, Leaving}
use Rattle.dn_act.specs.Words.{word_at}
use Rattle.dn_model.specs.Regions.{gate_at, deed_at, IsLane}
use Rattle.dn_store.specs.State.{StoreState}
use Rattle.dn_store.specs.Changes.{gated}
use Rattle.dn_owners.specs.Known.{Watch, Owners}
use Rattle.dn_owners.specs.Sound.{IsOrdered}
use Rattle.dn_owners.specs.Events.{Fence, Leave, Watches, Grant, Adopt, happens}
use Rattle.dn_owners.specs.Given.{IsStep, IsNewDeed, IsGrant, IsAdoption, IsWatching}
use Rattle.dn_owners.proofs.Logs.{ordered}
use Rattle.dn_owners.proofs.Tables.{kept, held_after}
use Rattle.dn_monitor.specs.Grant.{raised, granted, granted_word, leaving, leaving_word}
use Rattle.dn_beside.specs.Pool.{Pool, store_in, IsWhole, IsDeed}
use Rattle.dn_beside.specs.Step.{by_monitor}
use Rattle.dn_beside.proofs.Still.{learning_step, quiet_still}
use Rattle.dn_orders.specs.Changing.{Same, Asks, Grants, Adopts, Fences}
use Rattle.dn_orders.specs.Step.{IsOrderStep}
use Rattle.dn_orders.proofs.Words.{gate_barred, deed_again}
use Rattle.dn_beside.proofs.Low.{after_event}
use Rattle.dn_orders.proofs.Gates.{bit_step}
use Rattle.dn_beside.proofs.Deeds.{deed_step}

-- Each kind of action of the monitor, as a step.

pub in_order : (p : Pool) → IsWhole p → IsOrdered (store_in p).logs (store_in p).gates (store_in p).marks
in_order p h = ordered p.words p.chains (store_in p) h.represents

-- ---- one that leaves each word as it stands
pub same_words : (words : List ℕ) (at : ℕ) → words ≡ slice_set words at (word_at words at)
same_words words at = sym (set-get_or words at 0)

pub same_step : (p : Pool) (now : List ℕ) → IsWhole p → p.words ≡ now → IsOrderStep p p now
same_step p now h e = record {
  words = e;
  chains = refl;
  step = learning_step by_monitor p p.owners refl h (λ k. omega arith) (λ n d. refl) (λ f. refl);
  quiet = quiet_still p p.owners refl (λ k. refl);
  change = Same refl;
}

-- the load of a gate past Released or the bit
abbrev pub watching : Pool → Watch → Pool
watching p w = record p { owners = happens p.owners (Watches w) }

pub watch_step : (p : Pool) (w : Watch) (now : List ℕ) → IsWhole p → IsWatching p.owners w → p.words ≡ now → IsOrderStep p (watching p w) now
watch_step p w now h g e =
    let o : Owners = happens p.owners (Watches w) in
    record {
      words = e;
      chains = refl;
      step = learning_step by_monitor p o refl (record { represents = h.represents; sound = kept p.owners (Watches w) (in_order p h) h.sound g; deeds = h.deeds; plain = h.plain })
          (λ k. omega arith) (λ n d. refl) (λ f. absurd (cc f));
      quiet = quiet_still p o refl (λ k. refl);
      change = Same refl;
    }

-- ---- the or of the bit
abbrev pub fence_word : Pool → ℕ → ℕ
fence_word p n = bit_or (word_at p.words (gate_at n)) (2 ^ 63)

abbrev pub fenced_pool : Pool → ℕ → Pool
fenced_pool p n = after_event p (Fence n (gate_of (fence_word p n))) (gate_at n) (fence_word p n)

pub fence_step : (p : Pool) (n : ℕ) → IsWhole p → IsLane n → IsOrderStep p (fenced_pool p n) (slice_set p.words (gate_at n) (fence_word p n))
fence_step p n h l =
    let s : StoreState = store_in p in
    let new : ℕ = fence_word p n in
    let is : gate_of new ≡ record (s.gates n) { fenced = true } = gate_barred (word_at p.words (gate_at n)) ∙ ap (λ (g : Gate). let x : Gate = record g { fenced = true } in x) (h.represents.table.gates n l.below) in
    record {
      words = refl;
      chains = refl;
      step = bit_step by_monitor p n new h l (ap (λ (g : Gate). g.fenced) is, ap (λ (g : Gate). g.stamp) is, ap (λ (g : Gate). g.len) is);
      quiet = record { held = λ k v pos held. held; promised = λ k. refl };
      change = Fences n l (ap (gated s n) is);
    }

-- ---- the exchange of a deed
-- the deed that stands, where it is the one that was loaded
pub stands : (p : Pool) (t deed : ℕ) → IsWhole p → t < 64 → nat_eq (word_at p.words (deed_at t)) deed ≡ true → (store_in p).deeds t ≡ deed_of deed
stands p t deed h lt e = sym (h.represents.table.deeds t lt) ∙ ap deed_of (eqb-true (word_at p.words (deed_at t)) deed e)

epoch_below : (w : ℕ) → (deed_of w).epoch < 2 ^ 23
epoch_below w = omega arith

lane_below : (w : ℕ) → (deed_of w).lane < 2 ^ 8
lane_below w = omega arith

floor_below : (w : ℕ) → (deed_of w).floor < 2 ^ 31
floor_below w = omega arith

-- the owner is asked to leave
leaving_again : (deed : ℕ) → deed_of (leaving_word deed) ≡ leaving (deed_of deed)
leaving_again deed = deed_again (leaving (deed_of deed)) (record { epoch = epoch_below deed; lane = lane_below deed; floor = floor_below deed })

abbrev pub leave_pool : Pool → ℕ → ℕ → Pool
leave_pool p t deed = after_event p (Leave t (deed_of (leaving_word deed))) (deed_at t) (leaving_word deed)

not_nobody : (d : Deed) → d.state ≡ Owned → d.state ≡ Nobody → ⊥
not_nobody d e f = cc

not_owned : (d : Deed) → d.state ≡ Leaving → d.state ≡ Owned → ⊥
not_owned d e f = cc

leaves : (old d : Deed) (deed : ℕ) → old ≡ deed_of deed → d ≡ leaving (deed_of deed) → (deed_of deed).state ≡ Owned → IsStep old d Owned Leaving
leaves old d deed was is owned = record {
  was = ap (λ (x : Deed). x.state) was ∙ owned;
  is = ap (λ (x : Deed). x.state) is;
  epoch = ap (λ (x : Deed). x.epoch) is ∙ sym (ap (λ (x : Deed). x.epoch) was);
  lane = ap (λ (x : Deed). x.lane) is ∙ sym (ap (λ (x : Deed). x.lane) was);
  floor = ap (λ (x : Deed). x.floor) is ∙ sym (ap (λ (x : Deed). x.floor) was);
}

pub leave_step : (p : Pool) (t deed : ℕ) → IsWhole p → t < 64 → (deed_of deed).state ≡ Owned → (store_in p).deeds t ≡ deed_of deed
    → IsOrderStep p (leave_pool p t deed) (slice_set p.words (deed_at t) (leaving_word deed))
leave_step p t deed h lt owned was =
    let s : StoreState = store_in p in
    let d : Deed = deed_of (leaving_word deed) in
    let g : IsStep (s.deeds t) d Owned Leaving = leaves (s.deeds t) d deed was (leaving_again deed) owned in
    let named : IsDeed (s.deeds t) = h.deeds t lt in
    let P : ℕ → Type 0 = λ x. IsLane x in
    record {
      words = refl;
      chains = refl;
      step = deed_step by_monitor p (Leave t d) t (leaving_word deed) h (record {
        slot = lt;
        given = g;
        store = refl;
        deed = record { names = λ e. subst P (sym g.lane) (named.names (not_nobody (s.deeds t) g.was)); granted = λ e. omega (arith, g.epoch, named.granted (not_nobody (s.deeds t) g.was)) };
        moved = inr (λ e. not_owned d g.is);
        knows = λ n f. refl;
        watch = λ f. refl;
      }) (λ f. absurd (cc f));
      quiet = record { held = λ k v pos held. held_after p.owners (Leave t d) k (in_order p h) h.sound g ∙ held; promised = λ k. refl };
      change = Asks t d lt g refl;
    }

-- ---- a grant
abbrev pub MayStamp : Option Gate → Type 0
MayStamp None = Unit {0}
MayStamp (Some gate) = gate.stamp < 2 ^ 31

raised_below : (floor : ℕ) (gate : Option Gate) → floor < 2 ^ 31 → MayStamp gate → raised floor gate < 2 ^ 31
raised_below floor None lt m = lt
raised_below floor (Some gate) lt m = omega (arith, lt, m)

raised_above : (floor : ℕ) (gate : Option Gate) → floor ≤ raised floor gate
raised_above floor None = omega arith
raised_above floor (Some gate) = omega arith

-- what is so of a grant's numbers
pub record IsGrantable (deed to : ℕ) (gate : Option Gate) : Type 0 where
  pub epoch : (deed_of deed).epoch + 1 < 2 ^ 23
  pub heir : to < 64
  pub stamp : MayStamp gate

granted_again : (deed to : ℕ) (gate : Option Gate) → IsGrantable deed to gate → deed_of (granted_word deed gate to) ≡ granted (deed_of deed) gate to
granted_again deed to gate g =
    deed_again (granted (deed_of deed) gate to) (record { epoch = g.epoch; lane = omega (arith, g.heir); floor = raised_below (deed_of deed).floor gate (floor_below deed) g.stamp })

nobody_by : (to : ℕ) (b : Bool) → (to == 0) ≡ b → (if b then Nobody else Owned) ≡ Nobody → to ≡ 0
nobody_by to true e f = grind (arith, nat_tests)
nobody_by to false e f = absurd (cc f)

some_by : (to : ℕ) (b : Bool) → (to == 0) ≡ b → (if b then Nobody else Owned) ≢ Nobody → 0 < to
some_by to true e f = absurd (f refl)
some_by to false e f = grind (arith, nat_tests)

granted_names : (old : Deed) (gate : Option Gate) (to : ℕ) → to < 64 → IsDeed (granted old gate to)
granted_names old gate to lt = record { names = λ e. record { positive = some_by to (to == 0) refl e; below = lt }; granted = λ e. omega arith }

granted_new : (old : Deed) (gate : Option Gate) (to : ℕ) → IsNewDeed old (granted old gate to)
granted_new old gate to = record { epoch = omega arith; floor = raised_above old.floor gate; idle = nobody_by to (to == 0) refl }

-- of the deed that stands, and the one that is written
pub record IsGranted (old d : Deed) (deed to : ℕ) (gate : Option Gate) : Type 0 where
  pub was : old ≡ deed_of deed
  pub is : d ≡ granted (deed_of deed) gate to

new_deed : (old d : Deed) (deed to : ℕ) (gate : Option Gate) → IsGranted old d deed to gate → IsNewDeed old d
new_deed old d deed to gate g =
    let P : Deed → Type 0 = λ x. IsNewDeed x d in
    subst P (sym g.was) (subst (IsNewDeed (deed_of deed)) (sym g.is) (granted_new (deed_of deed) gate to))

later_epoch : (old d : Deed) → IsNewDeed old d → d.epoch ≡ old.epoch → d.state ≢ Owned
later_epoch old d g e = absurd (omega (arith, e, g.epoch))

-- to a lane whose log is merged
abbrev pub grant_pool : Pool → Watch → ℕ → ℕ → Gate → Pool
grant_pool p w deed to gate = after_event p (Grant w (deed_of (granted_word deed (Some gate) to))) (deed_at w.slot) (granted_word deed (Some gate) to)

stamp_covered : (floor : ℕ) (gate : Gate) → gate.stamp ≤ raised floor (Some gate)
stamp_covered floor gate = omega arith

pub grant_step : (p : Pool) (w : Watch) (deed to : ℕ) (gate : Gate) → IsWhole p → w.slot < 64 → IsGrantable deed to (Some gate) → (store_in p).deeds w.slot ≡ deed_of deed
    → p.owners.watch ≡ Some w → w.len ≤ (store_in p).marks w.lane → w.stamp ≡ gate.stamp
    → IsOrderStep p (grant_pool p w deed to gate) (slice_set p.words (deed_at w.slot) (granted_word deed (Some gate) to))
grant_step p w deed to gate h lt may was watch merged stamp =
    let s : StoreState = store_in p in
    let new : ℕ = granted_word deed (Some gate) to in
    let d : Deed = deed_of new in
    let is : d ≡ granted (deed_of deed) (Some gate) to = granted_again deed to (Some gate) may in
    let fresh : IsNewDeed (s.deeds w.slot) d = new_deed (s.deeds w.slot) d deed to (Some gate) (record { was = was; is = is }) in
    let g : IsGrant p.owners w d = record {
      watch = watch;
      merged = merged;
      new = fresh;
      stamp = omega (arith, stamp, stamp_covered (deed_of deed).floor gate, ap (λ (x : Deed). x.floor) is);
    } in
    record {
      words = refl;
      chains = refl;
      step = deed_step by_monitor p (Grant w d) w.slot new h (record {
        slot = lt;
        given = g;
        store = refl;
        deed = subst IsDeed (sym is) (granted_names (deed_of deed) (Some gate) to may.heir);
        moved = inr (later_epoch (s.deeds w.slot) d fresh);
        knows = λ n f. refl;
        watch = λ f. absurd (cc f);
      }) (λ f. absurd (cc f));
      quiet = record { held = λ k v pos held. held_after p.owners (Grant w d) k (in_order p h) h.sound g ∙ held; promised = λ k. refl };
      change = Grants w d lt g refl;
    }

-- of a slot of nobody
abbrev pub adopt_pool : Pool → ℕ → ℕ → ℕ → Pool
adopt_pool p t deed to = after_event p (Adopt t (deed_of (granted_word deed None to))) (deed_at t) (granted_word deed None to)

pub adopt_step : (p : Pool) (t deed to : ℕ) → IsWhole p → t < 64 → IsGrantable deed to None → (store_in p).deeds t ≡ deed_of deed → (deed_of deed).state ≡ Nobody
    → IsOrderStep p (adopt_pool p t deed to) (slice_set p.words (deed_at t) (granted_word deed None to))
adopt_step p t deed to h lt may was nobody =
    let s : StoreState = store_in p in
    let new : ℕ = granted_word deed None to in
    let d : Deed = deed_of new in
    let is : d ≡ granted (deed_of deed) None to = granted_again deed to None may in
    let fresh : IsNewDeed (s.deeds t) d = new_deed (s.deeds t) d deed to None (record { was = was; is = is }) in
    let g : IsAdoption p.owners t d = record { slot = lt; was = ap (λ (x : Deed). x.state) was ∙ nobody; new = fresh } in
    record {
      words = refl;
      chains = refl;
      step = deed_step by_monitor p (Adopt t d) t new h (record {
        slot = lt;
        given = g;
        store = refl;
        deed = subst IsDeed (sym is) (granted_names (deed_of deed) None to may.heir);
        moved = inr (later_epoch (s.deeds t) d fresh);
        knows = λ n f. refl;
        watch = λ f. absurd (cc f);
      }) (λ f. absurd (cc f));
      quiet = record { held = λ k v pos held. held_after p.owners (Adopt t d) k (in_order p h) h.sound g ∙ held; promised = λ k. refl };
      change = Adopts t d g refl;
    }
