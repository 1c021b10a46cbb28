use Rattle.std.proofs.Common.{ℕ, zero, suc, ◌+◌, ◌++◌, ◌∷◌, Contains, length, ◌≡◌, ◌<◌, ◌≤◌, ◌==◌, Bool, true, List, [], Option, Some, None, refl, sym, ◌∙◌, ap, subst, slice_set, arith}
use Rattle.std.specs.Option.{is_some}
use Rattle.std.proofs.lemmas.List.{set-get_or, append-nil}
use Rattle.dn_act.specs.Action.{words_after, word_after}
use Rattle.dn_act.specs.Words.{word_at}
use Rattle.dn_act.specs.declared.actions.Action.TheVariants.{Load, Cas}
use Rattle.dn_model.specs.Regions.{deed_at}
use Rattle.dn_word.specs.Deed.{deed_word}
use Rattle.dn_word.specs.declared.packed.deed.DeedState.{DeedState}
use Rattle.dn_word.specs.declared.packed.deed.DeedState.TheVariants.{Nobody, Owned}
use Rattle.std.proofs.lemmas.Bool.Decides.{nat_tests}
use Rattle.std.proofs.lemmas.Cmp.{nat_eq_equiv}
use Rattle.std.proofs.lemmas.List.Elements.{All-contains}
use Rattle.std.proofs.lemmas.Map.Views.{list_any-from_Contains}
use Rattle.dn_world.proofs.Changes.{where_false}
use Rattle.dn_monitor.specs.Grant.{granted_word}
use Rattle.dn_monitor.specs.Heirs.{no_heirs}
use Rattle.dn_monitor.specs.Monitor.{Monitoring, begun, monitor_next, monitor_turn, monitor_after}
use Rattle.dn_monitor.specs.declared.orders.Order.TheVariants.{Move}
use Rattle.dn_monitor.specs.declared.places.Errand.TheVariants.{Move as Moves_to}
use Rattle.dn_monitor.specs.declared.places.MonitorPlace.TheVariants.{Grant}
use Rattle.dn_route.specs.CallersOrder.{Told}
use Rattle.dn_callers.specs.Callers.{Standing}
use Rattle.dn_machine.specs.Events.{ordered}
use Rattle.dn_ring.specs.Ring.{IsOwner}
use Rattle.std.specs.List.{list_any}
use Rattle.dn_act.proofs.Words.{word_at-set_other}
use Rattle.dn_outcomes.specs.Does.{does}
use Rattle.dn_outcomes.specs.Runs.{after}
use Rattle.dn_outcomes.specs.declared.events.Event.{Event}
use Rattle.dn_store.specs.Fresh.{first_deed}
use Rattle.dn_outcomes.specs.Orders.{give, monitor, release, leaves_by}
use Rattle.dn_outcomes.specs.Sound.{IsWorld}
use Rattle.dn_outcomes.specs.State.{World, Done, is_live}
use Rattle.dn_outcomes.specs.declared.outcomes.Outcome.{Outcome}
use Rattle.dn_outcomes.proofs.Others.{give_kept, monitor_kept}
use Rattle.dn_world.specs.Comes.{Moves, bare}
use Rattle.dn_world.specs.Gives.{IsGivenBy}
use Rattle.dn_world.specs.Opening.{MayGoOn, Leads, MayGrant, IsGranted, MayGrantAll, AreGranted, grants, grants_to, with_words, granted_to, all_granted}
use Rattle.dn_world.specs.State.{CrewState, world_of}
use Rattle.dn_world.proofs.Dropping.{may_lead}
use Rattle.dn_world.proofs.Giving.{given}

-- A slot that nobody has had is given to a lane by the monitor's order and its two actions.

-- ---- the monitor's actions
abbrev pub with_order : World → Option Monitoring → World
with_order w x = record w { machine = record w.machine { monitor = x } }

abbrev pub granting : List ℕ → ℕ → ℕ → Monitoring
granting heirs slot lane = record { heirs = heirs; place = Grant (Moves_to slot lane) 0 None }

-- where the monitor is in an order, it finds this word, and these are the words then
abbrev goes : World → Monitoring → ℕ → List ℕ → World
goes u x word ws = release (record u { machine = record u.machine { words = ws; monitor = ordered x word } }) (leaves_by (monitor_next x) (monitor_turn x word) (monitor_next (monitor_after x word)))

-- it loads the deed, which is 0
pub looks : (w : World) (slot lane : ℕ) (heirs : List ℕ) → word_at w.machine.words (deed_at slot) ≡ 0
    → (monitor (with_order w (Some (begun (Move slot lane) heirs)))).world ≡ with_order w (Some (granting heirs slot lane))
looks w slot lane heirs e =
    let x : Monitoring = begun (Move slot lane) heirs in
    let u : World = with_order w (Some x) in
    ap (λ (word : ℕ). goes u x word (words_after (Load (deed_at slot)) w.machine.words)) e
    ∙ ap (λ (ws : List ℕ). goes u x 0 ws) (set-get_or w.machine.words (deed_at slot) 0)

-- and exchanges it
first_word : (lane : ℕ) → 0 < lane → granted_word 0 None lane ≡ first_deed lane
first_word lane pos = ap (λ (s : DeedState). deed_word (record { state = s; epoch = 1; lane = lane; floor = 0 })) (where_false (lane == 0) Nobody Owned (grind (arith, nat_tests)))

pub exchanges : (w : World) (slot lane : ℕ) (heirs : List ℕ) → 0 < lane → word_at w.machine.words (deed_at slot) ≡ 0
    → (monitor (with_order w (Some (granting heirs slot lane)))).world ≡ with_order (with_words w (granted_to w.machine.words slot lane)) None
exchanges w slot lane heirs pos e =
    let x : Monitoring = granting heirs slot lane in
    let u : World = with_order w (Some x) in
    let at : ℕ = deed_at slot in
    ap (λ (word : ℕ). goes u x word (slice_set w.machine.words at (word_after (Cas at 0 (granted_word 0 None lane)) word))) e
    ∙ ap (λ (word : ℕ). goes u x 0 (slice_set w.machine.words at word)) (first_word lane pos)

-- ---- the crew's calls
pub moves_lead : (words : List ℕ) (x : CrewState) (now : List ℕ) (y : CrewState) (o : Outcome) (f : World → Done) → Moves words x now y (bare o) f → Leads words x now y f
moves_lead words x now y o f h = record {
  is = λ told receipts sound.
      (h.is told receipts).world ∙ ap (λ (rs : List Standing). world_of now y (f (world_of words x told receipts)).world.machine.callers.told rs) (append-nil receipts);
}

-- nothing is told
pub leads_to : (words : List ℕ) (x : CrewState) (now : List ℕ) (y : CrewState) (f : World → Done) (v : World) → Leads words x now y f → IsWorld (world_of words x [] [])
    → (f (world_of words x [] [])).world ≡ v → v.machine.callers.told ≡ [] → world_of now y [] [] ≡ v
leads_to words x now y f v h sound e none =
    let u : World = (f (world_of words x [] [])).world in
    sym (h.is [] [] sound.machine ∙ ap (λ (ts : List Told). world_of now y ts []) (ap (λ (k : World). k.machine.callers.told) e ∙ none)) ∙ e

pub given_on : (words : List ℕ) (x y : CrewState) (o : Outcome) (slot lane : ℕ) → slot < 64 → 0 < lane → lane < 64 → IsGivenBy words x y o (Move slot lane) → MayGoOn words x → MayGoOn words y
given_on words x y o slot lane lt pos low h can = may_lead words x words y (λ w. give w (Move slot lane) h.heirs) (moves_lead words x words y o (λ w. give w (Move slot lane) h.heirs) h.is)
    (λ w sound. give_kept w (Move slot lane) h.heirs sound (lt, pos, low) (λ may none. h.nobody (λ n e. absurd (cc e)))) can

pub record IsGranting (words : List ℕ) (x y : CrewState) (o : Outcome) (then_words : List ℕ) (z : CrewState) (now : List ℕ) (v : CrewState) (slot lane : ℕ) : Type 0 where
  pub low : slot < 64
  pub some : 0 < lane
  pub most : lane < 64
  pub gives : IsGivenBy words x y o (Move slot lane)
  pub looks_so : Leads words y then_words z monitor
  pub exchanges_so : Leads then_words z now v monitor

pub granted_so : (words : List ℕ) (x y : CrewState) (o : Outcome) (then_words : List ℕ) (z : CrewState) (now : List ℕ) (v : CrewState) (slot lane : ℕ)
    → IsGranting words x y o then_words z now v slot lane → MayGrant words x slot lane → IsGranted words x now v slot lane
granted_so words x y o then_words z now v slot lane h may =
    let w : World = world_of words x [] [] in
    let heirs : List ℕ = h.gives.heirs in
    let order : World → Done = λ u. give u (Move slot lane) heirs in
    let gave : (order w).world ≡ with_order w (Some (begun (Move slot lane) heirs)) =
    ap (λ (d : Done). d.world) (given w (Move slot lane) heirs may.lane_is (ap (is_some {T = Monitoring}) may.order)) in
    let first : world_of words y [] [] ≡ with_order w (Some (begun (Move slot lane) heirs)) =
    leads_to words x words y order _ (moves_lead words x words y o order h.gives.is) may.sound gave refl in
    let sound_first : IsWorld (world_of words y [] []) =
    subst IsWorld (gave ∙ sym first) (give_kept w (Move slot lane) heirs may.sound (h.low, h.some, h.most) (λ can none. h.gives.nobody (λ n e. absurd (cc e)))) in
    let looked : (monitor (world_of words y [] [])).world ≡ with_order w (Some (granting heirs slot lane)) =
    ap (λ (u : World). (monitor u).world) first ∙ looks w slot lane heirs may.deed in
    let second : world_of then_words z [] [] ≡ with_order w (Some (granting heirs slot lane)) =
    leads_to words y then_words z monitor _ h.looks_so sound_first looked refl in
    let sound_second : IsWorld (world_of then_words z [] []) = subst IsWorld (looked ∙ sym second) (monitor_kept (world_of words y [] []) sound_first) in
    let exchanged : (monitor (world_of then_words z [] [])).world ≡ with_words w (granted_to words slot lane) =
    ap (λ (u : World). (monitor u).world) second ∙ exchanges w slot lane heirs h.some may.deed
    ∙ ap (λ (m : Option Monitoring). with_order (with_words w (granted_to words slot lane)) m) (sym may.order) in
    let third : world_of now v [] [] ≡ with_words w (granted_to words slot lane) = leads_to then_words z now v monitor _ h.exchanges_so sound_second exchanged refl in
    record { sound = subst IsWorld (exchanged ∙ sym third) (monitor_kept (world_of then_words z [] []) sound_second); is = third }

-- ---- slot after slot
pub record IsSoFar (words : List ℕ) (x : CrewState) (now : List ℕ) (y : CrewState) (owners : ℕ → ℕ) (n : ℕ) : Type 0 where
  pub sound : IsWorld (world_of now y [] [])
  pub is : world_of now y [] [] ≡ with_words (world_of words x [] []) (all_granted owners n words)

-- a deed behind those that were granted stays
not_yet : (owners : ℕ → ℕ) (n t : ℕ) (words : List ℕ) → n ≤ t → word_at (all_granted owners n words) (deed_at t) ≡ word_at words (deed_at t)
not_yet owners zero t words le = refl
not_yet owners (suc n) t words le =
    word_at-set_other (all_granted owners n words) (deed_at n) (deed_at t) (first_deed (owners n)) (λ e. omega (arith, le, e)) ∙ not_yet owners n t words (omega (arith, le))

pub is_lane : (words : List ℕ) (x : CrewState) (slot lane : ℕ) → IsWorld (world_of words x [] []) → IsOwner x.live slot lane → (1 ≤ lane) × (lane < 64)
is_lane words x slot lane h owner =
    let both = All-contains (λ (n : ℕ). (1 ≤ n) × (n ≤ length x.cluster.nodes)) x.live lane h.live.lanes owner.is_live in
    (both.0, omega (arith, both.1, h.made.most))

pub is_live_so : (live : List ℕ) (lane : ℕ) → Contains live lane → list_any (λ (k : ℕ). k == lane) live ≡ true
is_live_so live lane has =
    ap (λ (p : ℕ → Bool). list_any p live) (λ i k. nat_eq_equiv.symm k lane i) ∙ list_any-from_Contains nat_eq_equiv lane live has

pub may_grant : (words : List ℕ) (x : CrewState) (now : List ℕ) (y : CrewState) (owners : ℕ → ℕ) (n : ℕ) → n < 64 → MayGrantAll words x → IsOwner x.live n (owners n) → IsSoFar words x now y owners n → MayGrant now y n (owners n)
may_grant words x now y owners n lt may owner so = record {
  sound = so.sound;
  order = ap (λ (w : World). w.machine.monitor) so.is ∙ may.order;
  lane_is = ap (λ (w : World). is_live w (owners n)) so.is ∙ is_live_so x.live (owners n) owner.is_live;
  deed = ap (λ (w : World). word_at w.machine.words (deed_at n)) so.is ∙ not_yet owners n n words (omega arith) ∙ may.deeds n lt;
}

pub so_far_none : (words : List ℕ) (x : CrewState) (owners : ℕ → ℕ) → MayGrantAll words x → IsSoFar words x words x owners 0
so_far_none words x owners may = record { sound = may.sound; is = refl }

pub so_far_more : (words : List ℕ) (x : CrewState) (then_words : List ℕ) (z : CrewState) (now : List ℕ) (y : CrewState) (owners : ℕ → ℕ) (n : ℕ) → IsSoFar words x then_words z owners n
    → IsGranted then_words z now y n (owners n) → IsSoFar words x now y owners (n + 1)
so_far_more words x then_words z now y owners n so granted = record {
  sound = granted.sound;
  is = let more : suc n ≡ n + 1 = omega arith in
      subst (λ (k : ℕ). world_of now y [] [] ≡ with_words (world_of words x [] []) (all_granted owners k words)) more
      (granted.is ∙ ap (λ (w : World). with_words w (granted_to w.machine.words n (owners n))) so.is);
}

-- ---- as a run
pub after_both : (w : World) (es fs : List (Event × List ℕ)) → after w (es ++ fs) ≡ after (after w es) fs
after_both w [] fs = refl
after_both w (e ∷ es) fs = after_both (does w e.0 e.1).world es fs

-- one slot of a world
grants_one : (w : World) (slot lane : ℕ) → w.machine.monitor ≡ None → is_live w lane ≡ true → 0 < lane → word_at w.machine.words (deed_at slot) ≡ 0
    → after w (grants slot lane) ≡ with_words w (granted_to w.machine.words slot lane)
grants_one w slot lane none live pos deed =
    ap (λ (d : Done). (monitor (monitor d.world).world).world) (given w (Move slot lane) no_heirs live (ap (is_some {T = Monitoring}) none))
    ∙ ap (λ (u : World). (monitor u).world) (looks w slot lane no_heirs deed) ∙ exchanges w slot lane no_heirs pos deed
    ∙ ap (λ (m : Option Monitoring). with_order (with_words w (granted_to w.machine.words slot lane)) m) (sym none)

pub grants_all : (w : World) (owners : ℕ → ℕ) (n : ℕ) → n ≤ 64 → w.machine.monitor ≡ None → ((t : ℕ) → t < 64 → (is_live w (owners t) ≡ true) × (0 < owners t) × (word_at w.machine.words (deed_at t) ≡ 0))
    → after w (grants_to owners n) ≡ with_words w (all_granted owners n w.machine.words)
grants_all w owners zero le none each = refl
grants_all w owners (suc n) le none each =
    let at = each n (omega (arith, le)) in
    after_both w (grants_to owners n) (grants n (owners n))
    ∙ ap (λ (u : World). after u (grants n (owners n))) (grants_all w owners n (omega (arith, le)) none each)
    ∙ grants_one (with_words w (all_granted owners n w.machine.words)) n (owners n) none at.0 at.1 (not_yet owners n n w.machine.words (omega arith) ∙ at.2)

pub all_so : (words : List ℕ) (x : CrewState) (now : List ℕ) (y : CrewState) (owners : ℕ → ℕ) (n : ℕ) → n ≡ 64 → MayGrantAll words x → ((t : ℕ) → t < 64 → IsOwner x.live t (owners t)) → IsSoFar words x now y owners n → AreGranted words x now y
all_so words x now y owners n e may ring so =
    let is : world_of now y [] [] ≡ with_words (world_of words x [] []) (all_granted owners 64 words) = so.is ∙ ap (λ (k : ℕ). with_words (world_of words x [] []) (all_granted owners k words)) e in
    record {
      sound = so.sound;
      owners = owners;
      ring = ring;
      is = is;
      run = is ∙ sym (grants_all (world_of words x [] []) owners 64 (omega arith) may.order
          (λ t lt. (is_live_so x.live (owners t) (ring t lt).is_live, omega (arith, (is_lane words x t (owners t) may.sound (ring t lt)).0), may.deeds t lt)));
    }
