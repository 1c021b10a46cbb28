use Rattle.std.proofs.Common.{ℕ, ◌≡◌, ◌≤◌, ◌<◌, Contains, max, sym, ◌∙◌, ap, subst, arith}
use Rattle.dn_word.specs.declared.packed.deed.Deed.{Deed}
use Rattle.dn_word.specs.declared.packed.gate.Gate.{Gate}
use Rattle.dn_hist.specs.Calls.{key_of}
use Rattle.dn_hist.specs.declared.receipts.Receipt.{Receipt}
use Rattle.dn_model.specs.Regions.{gate, deed, slot_of}
use Rattle.dn_model.proofs.HashLaws.{slot_below}
use Rattle.dn_beside.specs.Pool.{Pool, store_in, IsWhole}
use Rattle.dn_callers.specs.Callers.{receipts_of}
use Rattle.dn_outcomes.specs.Sound.{IsWorld}
use Rattle.dn_outcomes.specs.State.{World}
use Rattle.dn_moves.specs.Stamps.{bound_in}
use Rattle.dn_moves.specs.Unmerged.{IsUnmerged}
use Rattle.dn_moves.proofs.Pools.{IsWaitingIn, waits_in, lane_below}

-- What slots owe to the lanes that their deeds name.

-- ---- what isn't merged
alone_in : (p : Pool) (n t : ℕ) → IsWhole p → IsUnmerged p.words n t → (deed p.words t).lane ≡ n
alone_in p n t h u =
    let w : IsWaitingIn p n u.key u.entry = waits_in p n t h u in
    let lt : t < 64 = subst (λ k. k < 64) u.slot (slot_below u.key) in
    ap (λ (d : Deed). d.lane) (h.represents.table.deeds t lt) ∙ ap (λ k. ((store_in p).deeds k).lane) (sym u.slot) ∙ h.sound.one.each n u.key u.entry w.has w.above u.authority

pub alone : (w : World) (n t : ℕ) → IsWorld w → IsUnmerged w.machine.words n t → (deed w.machine.words t).lane ≡ n
alone w n t h = subst (λ ws. IsUnmerged ws n t → (deed ws t).lane ≡ n) h.machine.at.words (alone_in h.machine.p n t h.machine.at.whole)

-- ---- stamps
bound_is : (p : Pool) (t : ℕ) → IsWhole p → t < 64 → bound_in p.words t ≡ max ((store_in p).deeds t).floor ((store_in p).gates ((store_in p).deeds t).lane).stamp
bound_is p t h lt =
    let d : Deed = (store_in p).deeds t in
    ap (λ (x : Deed). max x.floor (gate p.words x.lane).stamp) (h.represents.table.deeds t lt)
    ∙ ap (λ (g : Gate). max d.floor g.stamp) (h.represents.table.gates d.lane (lane_below p t h lt))

pub stamps : (w : World) (r : Receipt) → IsWorld w → Contains (receipts_of w.machine.callers.receipts) r → r.position.stamp ≤ bound_in w.machine.words (slot_of (key_of r.call))
stamps w r h has =
    let p : Pool = h.machine.p in
    let t : ℕ = slot_of (key_of r.call) in
    subst (λ ws. r.position.stamp ≤ bound_in ws t) h.machine.at.words
    (omega (arith, h.machine.at.receipts.register.stamps r has, h.machine.at.whole.sound.stamps.each (key_of r.call), bound_is p t h.machine.at.whole (slot_below (key_of r.call))))
