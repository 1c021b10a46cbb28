use Rattle.std.proofs.Common.{ℕ, ◌≡◌, ◌≢◌, ◌<◌, inl, inr, List, Some, sym, ◌∙◌, ap, subst, arith}
use Rattle.std.proofs.lemmas.Bool.{cases_eq}
use Rattle.dn_word.specs.Deed.{deed_of}
use Rattle.dn_word.specs.declared.packed.deed.Deed.{Deed}
use Rattle.dn_act.specs.Action.{at_of, words_after}
use Rattle.dn_act.specs.Words.{word_at}
use Rattle.dn_act.specs.declared.actions.Action.{Action}
use Rattle.dn_act.proofs.Words.{word_at-set_other}
use Rattle.dn_model.specs.Regions.{deed, deed_at}
use Rattle.dn_monitor.specs.Monitor.{Monitoring, monitor_next}
use Rattle.dn_beside.specs.Pool.{Pool, store_in, IsWhole}
use Rattle.dn_orders.proofs.Steps.{step}
use Rattle.dn_callers.specs.Callers.{receipts_of}
use Rattle.dn_machine.specs.State.{Machine}
use Rattle.dn_machine.specs.Events.{found}
use Rattle.dn_machine.specs.Sound.{IsSound}
use Rattle.dn_machine.proofs.Rest.{performs}
use Rattle.dn_moves.specs.Grants.{Grants, HasLeft, IsFloor, IsGranted}
use Rattle.dn_moves.specs.Unmerged.{IsUnmerged}
use Rattle.dn_moves.proofs.Pools.{IsGrantOf, granted, all_merged, floor_is}

-- What the monitor's action does to deeds.

-- ---- an action changes one word
same_deed : (action : Action) (words : List ℕ) (t : ℕ) → deed_at t ≢ at_of action → deed (words_after action words) t ≡ deed words t
same_deed action words t ne = ap deed_of (word_at-set_other words (at_of action) (deed_at t) _ ne)

one_word : (action : Action) (words : List ℕ) (t at : ℕ) → Grants words (words_after action words) t → at ≢ deed_at t → word_at (words_after action words) at ≡ word_at words at
one_word action words t at g ne = elim (cases_eq at (at_of action)) [
  | inr away ↦ word_at-set_other words (at_of action) at _ away
  | inl here ↦ elim (cases_eq (deed_at t) (at_of action)) [
    | inl same ↦ absurd (ne (here ∙ sym same))
    | inr away ↦ absurd (omega (arith, g, ap (λ (x : Deed). x.epoch) (same_deed action words t away)))
  ]
]

-- ---- a grant
-- the deed of a slot, in the words and in the store that they represent
pub deed_is : (p : Pool) (words : List ℕ) (t : ℕ) → IsWhole p → p.words ≡ words → t < 64 → deed words t ≡ (store_in p).deeds t
deed_is p words t h e lt = subst (λ ws. deed ws t ≡ (store_in p).deeds t) e (h.represents.table.deeds t lt)

pub monitor_grants : (segments : ℕ) (m : Machine) (x : Monitoring) (action : Action) (t : ℕ) → IsSound segments m → m.monitor ≡ Some x → monitor_next x ≡ Some action → t < 64
    → Grants m.words (words_after action m.words) t → IsGranted m.words (words_after action m.words) (receipts_of m.callers.receipts) t
monitor_grants segments m x action t h is e lt g =
    let p : Pool = h.p in
    let now : List ℕ = words_after action m.words in
    let s = step p x action (found m action) now h.at.whole (h.at.know.monitor x is) e (performs p m action h.at.words) in
    let old = deed_is p m.words t h.at.whole h.at.words lt in
    let new = deed_is s.0 now t s.1.step.whole s.1.words lt in
    let later : ((store_in p).deeds t).epoch < ((store_in s.0).deeds t).epoch = omega (arith, g, ap (λ (d : Deed). d.epoch) old, ap (λ (d : Deed). d.epoch) new) in
    let o : IsGrantOf p s.0 t = granted p s.0 t h.at.whole s.1.change later in record {
      left = subst (λ ws. HasLeft ws t) h.at.words o.left;
      merged = λ n u. all_merged p s.0 n t h.at.whole o (subst (λ ws. IsUnmerged ws n t) (sym h.at.words) u);
      floor = subst (λ (d : Deed). IsFloor (receipts_of m.callers.receipts) t d.floor) (sym new) (floor_is p s.0 t (receipts_of m.callers.receipts) h.at.receipts o);
      alone = λ at ne. one_word action m.words t at g ne;
    }
