use Rattle.std.proofs.Common.{ℕ, ◌^◌, ◌<◌, ◌≡◌, ◌⊎◌, inl, inr, Bool, true, false, if◌then◌else◌, nat_eq, List, Option, Some, None, slice_set, refl, sym, ◌∙◌, ap, subst, arith}
use Rattle.std.proofs.lemmas.Bool.{false≢true}
use Rattle.std.proofs.lemmas.Bool.Decides.{nat_tests}
use Rattle.dn_word.specs.Gate.{gate_of}
use Rattle.dn_word.specs.Deed.{deed_of}
use Rattle.dn_word.specs.Format.{format_word}
use Rattle.dn_word.specs.declared.packed.gate.Gate.{Gate}
use Rattle.dn_word.specs.declared.packed.deed.Deed.{Deed}
use Rattle.dn_word.specs.declared.packed.deed.DeedState.{DeedState}
use Rattle.dn_word.specs.declared.packed.deed.DeedState.TheVariants.{Nobody, Owned, Leaving, Released}
use Rattle.dn_act.specs.Action.{at_of, words_after, Performs, MayPerform}
use Rattle.dn_act.specs.Words.{word_at}
use Rattle.dn_act.specs.declared.actions.Action.{Action}
use Rattle.dn_act.specs.declared.actions.Action.TheVariants.{Load, Store, Cas, Or}
use Rattle.dn_word.specs.Regions.{format_at}
use Rattle.dn_model.specs.Regions.{gate_at, mark_at, deed_at, IsLane}
use Rattle.dn_owners.specs.Known.{Watch}
use Rattle.dn_owners.specs.Given.{IsWatching}
use Rattle.dn_owners.proofs.Ats.{same_some, none_some}
use Rattle.dn_monitor.specs.Grant.{granted_word, leaving_word}
use Rattle.dn_monitor.specs.Causes.{IsGivenUp}
use Rattle.dn_monitor.specs.Monitor.{Monitoring, is_lane, slot_in, heir_of, next_in, monitor_next, on, told, ended, after_deed, by_gate, after_gate, after_mark, won, step_in, monitor_after, IsErrand, NamesLane, IsPlace, MayGate}
use Rattle.dn_monitor.specs.declared.orders.MonitorAnswer.TheVariants.{Held, NotFenced}
use Rattle.dn_monitor.specs.declared.places.Errand.{Errand}
use Rattle.dn_monitor.specs.declared.places.Errand.TheVariants.{Move, Takeover}
use Rattle.dn_monitor.specs.declared.places.MonitorPlace.{MonitorPlace}
use Rattle.dn_monitor.specs.declared.places.MonitorPlace.TheVariants as at
use Rattle.dn_beside.specs.Pool.{Pool, store_in, IsWhole}
use Rattle.dn_orders.specs.Knowing.{IsStill, watch_of, HasFound, HasNobody, takes, is_taking, AreLanes, KnowsOrder}
use Rattle.dn_orders.specs.Step.{IsOrderStep}
use Rattle.dn_orders.proofs.Lasting.{slot_below}
use Rattle.dn_orders.proofs.Takeovers.{was_taking}
use Rattle.dn_orders.proofs.Places.{IsKnown, done_known, deed_known, after_deed_known, after_mark_known, won_known}
use Rattle.dn_orders.proofs.Actions.{same_words, same_step, watching, watch_step, fenced_pool, fence_step, stands, leave_pool, leave_step, MayStamp, IsGrantable, grant_pool, grant_step, adopt_pool, adopt_step}

-- The action at each place of an order: the pool after it, and what the monitor knows there then.

pub record Outcome (p : Pool) (now : List ℕ) (place : MonitorPlace) : Type 0 where
  pub q : Pool
  pub step : IsOrderStep p q now
  pub known : IsKnown q place

stays : (p : Pool) (now : List ℕ) (place : MonitorPlace) → IsWhole p → p.words ≡ now → IsKnown p place → Outcome p now place
stays p now place h e k = record { q = p; step = same_step p now h e; known = k }

loads : (p : Pool) (spot : ℕ) (place : MonitorPlace) → IsWhole p → IsKnown p place → Outcome p (slice_set p.words spot (word_at p.words spot)) place
loads p spot place h k = stays p (slice_set p.words spot (word_at p.words spot)) place h (same_words p.words spot) k

lane_of : (deed : ℕ) → NamesLane deed → IsLane (deed_of deed).lane
lane_of deed h = record { positive = h.0; below = h.1 }

-- ---- the format that stands is stored
format_at_all : (p : Pool) (segments : ℕ) → IsWhole p → segments ≡ (store_in p).pool
    → Outcome p (slice_set p.words 0 (format_word (record { segments = segments; number = 1 }))) at.Done
format_at_all p segments h e =
    let same : word_at p.words 0 ≡ format_word (record { segments = segments; number = 1 }) =
    h.represents.table.format ∙ ap (λ n. format_word (record { segments = n; number = 1 })) (sym e) in
    stays p (slice_set p.words 0 (format_word (record { segments = segments; number = 1 }))) at.Done h
    (same_words p.words 0 ∙ ap (slice_set p.words 0) same) (done_known p)

-- ---- the gate is loaded
stamp_below : (w : ℕ) → (gate_of w).stamp < 2 ^ 31
stamp_below w = omega arith

len_below : (w : ℕ) → (gate_of w).len < 2 ^ 24
len_below w = omega arith

-- past Released or the bit
watches : (p : Pool) (errand : Errand) (deed word spot : ℕ) → IsWhole p → IsErrand errand → NamesLane deed → IsStill p errand deed → gate_of word ≡ (store_in p).gates (deed_of deed).lane
    → (((store_in p).deeds (slot_in errand)).state ≡ Released) ⊎ ((gate_of word).fenced ≡ true)
    → Outcome p (slice_set p.words spot (word_at p.words spot)) (at.Mark errand deed (gate_of word))
watches p errand deed word spot h i l still is past =
    let w : Watch = watch_of errand deed (gate_of word) in
    let g : IsWatching p.owners w = record {
      past = elim past [ inl r ↦ inl r | inr b ↦ inr (ap (λ (g : Gate). g.fenced) (sym is) ∙ b) ];
      names = still.names;
      len = ap (λ (g : Gate). g.len) is;
      stamp = ap (λ (g : Gate). g.stamp) is;
    } in
    record {
      q = watching p w;
      step = watch_step p w (slice_set p.words spot (word_at p.words spot)) h g (same_words p.words spot);
      known = record { is = (i, l, (stamp_below word, len_below word)); found = refl };
    }

-- what is so at the load of a gate
record IsAtGate (p : Pool) (errand : Errand) (deed word : ℕ) : Type 0 where
  whole : IsWhole p
  errand_is : IsErrand errand
  names : NamesLane deed
  still : IsStill p errand deed
  gate : gate_of word ≡ (store_in p).gates (deed_of deed).lane

watched : (p : Pool) (errand : Errand) (deed word spot : ℕ) → IsAtGate p errand deed word
    → (((store_in p).deeds (slot_in errand)).state ≡ Released) ⊎ ((gate_of word).fenced ≡ true)
    → Outcome p (slice_set p.words spot (word_at p.words spot)) (at.Mark errand deed (gate_of word))
watched p errand deed word spot g past = watches p errand deed word spot g.whole g.errand_is g.names g.still g.gate past

leaving_by : (p : Pool) (slot to deed word spot : ℕ) (b : Bool) → (gate_of word).fenced ≡ b → IsAtGate p (Move slot to) deed word
    → Outcome p (slice_set p.words spot (word_at p.words spot)) (if b then on (at.Mark (Move slot to) deed (gate_of word)) else told (at.Deed (Move slot to)) (Held deed)).place
leaving_by p slot to deed word spot true e g = watched p (Move slot to) deed word spot g (inr e)
leaving_by p slot to deed word spot false e g = loads p spot (at.Deed (Move slot to)) g.whole (deed_known p (Move slot to) g.errand_is)

not_left : (deed : ℕ) (s : DeedState) → IsGivenUp deed → (deed_of deed).state ≡ s → (s ≡ Leaving) ⊎ (s ≡ Released)
not_left deed s (inl e) f = inl (sym f ∙ e)
not_left deed s (inr e) f = inr (sym f ∙ e)

nobody_left : ((let s : DeedState = Nobody in s) ≡ Leaving) ⊎ ((let s : DeedState = Nobody in s) ≡ Released) → ⊥
nobody_left (inl e) = absurd (cc e)
nobody_left (inr e) = absurd (cc e)

owned_left : ((let s : DeedState = Owned in s) ≡ Leaving) ⊎ ((let s : DeedState = Owned in s) ≡ Released) → ⊥
owned_left (inl e) = absurd (cc e)
owned_left (inr e) = absurd (cc e)

move_gate : (p : Pool) (slot to deed word spot : ℕ) (s : DeedState) → (deed_of deed).state ≡ s → IsAtGate p (Move slot to) deed word
    → Outcome p (slice_set p.words spot (word_at p.words spot)) (by_gate slot to deed (gate_of word) s).place
move_gate p slot to deed word spot Nobody e g = absurd (nobody_left (not_left deed Nobody g.still.left e))
move_gate p slot to deed word spot Owned e g = absurd (owned_left (not_left deed Owned g.still.left e))
move_gate p slot to deed word spot Leaving e g = leaving_by p slot to deed word spot (gate_of word).fenced refl g
move_gate p slot to deed word spot Released e g = watched p (Move slot to) deed word spot g (inl (g.still.released e))

takeover_by : (p : Pool) (lane slot n deed word spot : ℕ) (b : Bool) → (gate_of word).fenced ≡ b → IsAtGate p (Takeover lane slot n) deed word
    → Outcome p (slice_set p.words spot (word_at p.words spot)) (if b then on (at.Mark (Takeover lane slot n) deed (gate_of word)) else ended (NotFenced word)).place
takeover_by p lane slot n deed word spot true e g = watched p (Takeover lane slot n) deed word spot g (inr e)
takeover_by p lane slot n deed word spot false e g = loads p spot at.Done g.whole (done_known p)

at_gate : (p : Pool) (errand : Errand) (deed word spot : ℕ) → IsAtGate p errand deed word → Outcome p (slice_set p.words spot (word_at p.words spot)) (after_gate errand deed word).place
at_gate p (Move slot to) deed word spot g = move_gate p slot to deed word spot (deed_of deed).state refl g
at_gate p (Takeover lane slot n) deed word spot g = takeover_by p lane slot n deed word spot (gate_of word).fenced refl g

-- ---- the owner is asked to leave, or the exchange finds another deed
leaves_by : (p : Pool) (slot to deed : ℕ) (b : Bool) → nat_eq (word_at p.words (deed_at slot)) deed ≡ b → IsWhole p → IsErrand (Move slot to) → (deed_of deed).state ≡ Owned
    → Outcome p (slice_set p.words (deed_at slot) (if b then leaving_word deed else word_at p.words (deed_at slot))) (at.Deed (Move slot to))
leaves_by p slot to deed true e h i owned = record {
  q = leave_pool p slot deed;
  step = leave_step p slot deed h i.0 owned (stands p slot deed h i.0 e);
  known = deed_known (leave_pool p slot deed) (Move slot to) i;
}
leaves_by p slot to deed false e h i owned = loads p (deed_at slot) (at.Deed (Move slot to)) h (deed_known p (Move slot to) i)

-- ---- a grant, or the exchange finds another deed
heir_below : (heirs : List ℕ) (errand : Errand) → (takes errand ≡ true → AreLanes heirs) → IsErrand errand → heir_of heirs errand < 64
heir_below heirs (Move slot to) h i = i.2
heir_below heirs (Takeover lane slot n) h i = (h refl).below slot i.0

may_stamp : (gate : Option Gate) → MayGate gate → MayStamp gate
may_stamp None h = tt
may_stamp (Some gate) h = h.0

grantable : (heirs : List ℕ) (errand : Errand) (deed : ℕ) (gate : Option Gate) → (takes errand ≡ true → AreLanes heirs) → IsPlace (at.Grant errand deed gate) → IsGrantable deed (heir_of heirs errand) gate
grantable heirs errand deed gate l i = record { epoch = i.1; heir = heir_below heirs errand l i.0; stamp = may_stamp gate i.2 }

-- the deed that stands and has no lane is nobody's
nobody_in : (s : DeedState) → (s ≡ Nobody) ⊎ ((s ≡ Nobody) → ⊥)
nobody_in Nobody = inl refl
nobody_in Owned = inr (λ e. absurd (cc e))
nobody_in Leaving = inr (λ e. absurd (cc e))
nobody_in Released = inr (λ e. absurd (cc e))

lane_true : (n : ℕ) → IsLane n → is_lane n ≡ true
lane_true n l = grind (arith, nat_tests, l.positive, l.below)

is_nobody : (p : Pool) (slot deed : ℕ) → IsWhole p → slot < 64 → (store_in p).deeds slot ≡ deed_of deed → HasNobody deed → (deed_of deed).state ≡ Nobody
is_nobody p slot deed h lt was (inl e) = e
is_nobody p slot deed h lt was (inr e) = elim (nobody_in (deed_of deed).state) [
  | inl y ↦ y
  | inr no_one ↦ (
      let lane : IsLane ((store_in p).deeds slot).lane = (h.deeds slot lt).names (λ f. no_one (sym (ap (λ (d : Deed). d.state) was) ∙ f)) in
      let P : ℕ → Type 0 = λ x. IsLane x in
      absurd (false≢true (sym e ∙ lane_true (deed_of deed).lane (subst P (ap (λ (d : Deed). d.lane) was) lane))))
]

-- what is so at a grant
record IsAtGrant (p : Pool) (heirs : List ℕ) (errand : Errand) (deed : ℕ) (gate : Option Gate) : Type 0 where
  whole : IsWhole p
  heirs_are : takes errand ≡ true → AreLanes heirs
  is : IsPlace (at.Grant errand deed gate)
  found : HasFound p (at.Grant errand deed gate)

granted_to : (p : Pool) (heirs : List ℕ) (errand : Errand) (deed : ℕ) (gate : Option Gate) → nat_eq (word_at p.words (deed_at (slot_in errand))) deed ≡ true → IsAtGrant p heirs errand deed gate
    → Outcome p (slice_set p.words (deed_at (slot_in errand)) (granted_word deed gate (heir_of heirs errand))) (won errand deed gate).place
granted_to p heirs errand deed None e g =
    let slot : ℕ = slot_in errand in
    let lt : slot < 64 = slot_below errand g.is.0 in
    let was : (store_in p).deeds slot ≡ deed_of deed = stands p slot deed g.whole lt e in
    record {
      q = adopt_pool p slot deed (heir_of heirs errand);
      step = adopt_step p slot deed (heir_of heirs errand) g.whole lt (grantable heirs errand deed None g.heirs_are g.is) was (is_nobody p slot deed g.whole lt was g.found);
      known = won_known (adopt_pool p slot deed (heir_of heirs errand)) errand deed None g.is.0;
    }
granted_to p heirs errand deed (Some gate) e g =
    let w : Watch = watch_of errand deed gate in
    let lt : slot_in errand < 64 = slot_below errand g.is.0 in
    record {
      q = grant_pool p w deed (heir_of heirs errand) gate;
      step = grant_step p w deed (heir_of heirs errand) gate g.whole lt (grantable heirs errand deed (Some gate) g.heirs_are g.is) (stands p (slot_in errand) deed g.whole lt e) g.found.watch g.found.merged refl;
      known = won_known (grant_pool p w deed (heir_of heirs errand) gate) errand deed (Some gate) g.is.0;
    }

grants_by : (p : Pool) (heirs : List ℕ) (errand : Errand) (deed : ℕ) (gate : Option Gate) (b : Bool) → nat_eq (word_at p.words (deed_at (slot_in errand))) deed ≡ b → IsAtGrant p heirs errand deed gate
    → Outcome p (slice_set p.words (deed_at (slot_in errand)) (if b then granted_word deed gate (heir_of heirs errand) else word_at p.words (deed_at (slot_in errand)))) (if b then won errand deed gate else on (at.Deed errand)).place
grants_by p heirs errand deed gate true e g = granted_to p heirs errand deed gate e g
grants_by p heirs errand deed gate false e g = loads p (deed_at (slot_in errand)) (at.Deed errand) g.whole (deed_known p errand g.is.0)

-- ---- all places
abbrev Results : Pool → MonitorPlace → Action → Type 0
Results p place action = Outcome p (words_after action p.words) (step_in (word_at p.words (at_of action)) place).place

is_action : (p : Pool) (place : MonitorPlace) (one action : Action) → Some one ≡ Some action → Results p place one → Results p place action
is_action p place one action e r = subst (Results p place) (same_some one action e) r

action_at : (p : Pool) (heirs : List ℕ) (place : MonitorPlace) (action : Action) → IsWhole p → (is_taking place ≡ true → AreLanes heirs) → IsPlace place → HasFound p place → next_in heirs place ≡ Some action → Results p place action
action_at p heirs at.Done action h l i f e = absurd (none_some action e)
action_at p heirs (at.Format segments) action h l i f e =
    is_action p (at.Format segments) (Store format_at (format_word (record { segments = segments; number = 1 }))) action e (format_at_all p segments h f)
action_at p heirs (at.Look slot) action h l i f e = is_action p (at.Look slot) (Load (deed_at slot)) action e (loads p (deed_at slot) at.Done h (done_known p))
action_at p heirs (at.Fence lane) action h l i f e =
    is_action p (at.Fence lane) (Or (gate_at lane) (2 ^ 63)) action e (record { q = fenced_pool p lane; step = fence_step p lane h (record { positive = i.0; below = i.1 }); known = done_known (fenced_pool p lane) })
action_at p heirs (at.Deed errand) action h l i f e =
    let spot : ℕ = deed_at (slot_in errand) in
    is_action p (at.Deed errand) (Load spot) action e
    (loads p spot (after_deed errand (word_at p.words spot)).place h (after_deed_known p errand (word_at p.words spot) i (sym (h.represents.table.deeds (slot_in errand) (slot_below errand i)))))
action_at p heirs (at.Leave slot to deed) action h l i f e =
    is_action p (at.Leave slot to deed) (Cas (deed_at slot) deed (leaving_word deed)) action e (leaves_by p slot to deed (nat_eq (word_at p.words (deed_at slot)) deed) refl h i f)
action_at p heirs (at.Gate errand deed) action h l i f e =
    let spot : ℕ = gate_at (deed_of deed).lane in
    is_action p (at.Gate errand deed) (Load spot) action e
    (at_gate p errand deed (word_at p.words spot) spot (record { whole = h; errand_is = i.0; names = i.1; still = f; gate = h.represents.table.gates (deed_of deed).lane i.1.1 }))
action_at p heirs (at.Mark errand deed gate) action h l i f e =
    let spot : ℕ = mark_at (deed_of deed).lane in
    is_action p (at.Mark errand deed gate) (Load spot) action e
    (loads p spot (after_mark errand deed gate (word_at p.words spot)).place h (after_mark_known p errand deed gate (word_at p.words spot) i f (omega (arith, h.represents.table.marks (deed_of deed).lane i.1.1))))
action_at p heirs (at.Grant errand deed gate) action h l i f e =
    is_action p (at.Grant errand deed gate) (Cas (deed_at (slot_in errand)) deed (granted_word deed gate (heir_of heirs errand))) action e
    (grants_by p heirs errand deed gate (nat_eq (word_at p.words (deed_at (slot_in errand))) deed) refl (record { whole = h; heirs_are = l; is = i; found = f }))

-- ---- the laws
performed : (p : Pool) (m : Monitoring) (action : Action) → IsWhole p → KnowsOrder p m → monitor_next m ≡ Some action → Results p m.place action
performed p m action h k e = action_at p m.heirs m.place action h k.heirs k.place k.found e

pub step : (p : Pool) (m : Monitoring) (action : Action) (word : ℕ) (now : List ℕ) → IsWhole p → KnowsOrder p m → monitor_next m ≡ Some action → Performs action word p.words now
    → (q : Pool) × IsOrderStep p q now × KnowsOrder q (monitor_after m word)
step p m action word now h k e does =
    let r = performed p m action h k e in
    let P : ℕ → Type 0 = λ w. KnowsOrder r.q (monitor_after m w) in (
      r.q,
      subst (IsOrderStep p r.q) (sym does.change) r.step,
      subst P (sym does.answer) (record { heirs = λ f. k.heirs (was_taking (word_at p.words (at_of action)) m.place f); place = r.known.is; found = r.known.found }),
    )

pub failed : (p : Pool) (m : Monitoring) (action : Action) (now : List ℕ) → IsWhole p → KnowsOrder p m → monitor_next m ≡ Some action → MayPerform action p.words now
    → (q : Pool) × IsOrderStep p q now
failed p m action now h k e (inl same) = (p, same_step p now h (sym same))
failed p m action now h k e (inr done) =
    let r = performed p m action h k e in
    (r.q, subst (IsOrderStep p r.q) (sym done) r.step)
