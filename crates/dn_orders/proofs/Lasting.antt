use Rattle.std.proofs.Common.{ℕ, ◌<◌, ◌≡◌, inl, inr, List, Some, None, refl, sym, ◌∙◌, ap, arith}
use Rattle.std.proofs.lemmas.Bool.{false≢true}
use Rattle.dn_word.specs.Deed.{deed_of}
use Rattle.dn_word.specs.declared.packed.deed.Deed.{Deed}
use Rattle.dn_monitor.specs.Monitor.{Monitoring, IsPlace, IsErrand, slot_in, begun, IsOrder}
use Rattle.dn_monitor.specs.declared.orders.Order.{Order}
use Rattle.dn_monitor.specs.declared.orders.Order.TheVariants as order
use Rattle.dn_monitor.specs.declared.places.Errand.{Errand}
use Rattle.dn_monitor.specs.declared.places.Errand.TheVariants.{Move, Takeover}
use Rattle.dn_monitor.specs.declared.places.MonitorPlace.{MonitorPlace}
use Rattle.dn_monitor.specs.declared.places.MonitorPlace.TheVariants as at
use Rattle.dn_beside.specs.Pool.{Pool}
use Rattle.dn_beside.specs.Grown.{Grows}
use Rattle.dn_beside.specs.Orders.{LeavesOrder}
use Rattle.dn_orders.specs.Knowing.{IsStill, HasFound, AreLanes, KnowsOrder}

-- What the monitor has found stays under the steps of others.

pub slot_below : (errand : Errand) → IsErrand errand → slot_in errand < 64
slot_below (Move slot to) h = h.0
slot_below (Takeover lane slot n) h = h.0

still_lasts : (p q : Pool) (errand : Errand) (deed : ℕ) → IsErrand errand → IsStill p errand deed → LeavesOrder p q → IsStill q errand deed
still_lasts p q errand deed i h o = elim (o.deeds (slot_in errand) (slot_below errand i)) [
  | inl e ↦ record {
    names = ap (λ (d : Deed). d.lane) e ∙ h.names;
    released = λ r. ap (λ (d : Deed). d.state) e ∙ h.released r;
    left = h.left;
  }
  | inr s ↦ record { names = s.lane ∙ h.names; released = λ r. s.is; left = h.left }
]

found_lasts : (p q : Pool) (place : MonitorPlace) → IsPlace place → HasFound p place → Grows p q → LeavesOrder p q → HasFound q place
found_lasts p q at.Done i h g o = tt
found_lasts p q (at.Format segments) i h g o = h ∙ sym g.pool
found_lasts p q (at.Look slot) i h g o = tt
found_lasts p q (at.Fence lane) i h g o = tt
found_lasts p q (at.Deed errand) i h g o = tt
found_lasts p q (at.Leave slot to deed) i h g o = h
found_lasts p q (at.Gate errand deed) i h g o = still_lasts p q errand deed i.0 h o
found_lasts p q (at.Mark errand deed gate) i h g o = o.watch ∙ h
found_lasts p q (at.Grant errand deed None) i h g o = h
found_lasts p q (at.Grant errand deed (Some gate)) i h g o = record { watch = o.watch ∙ h.watch; merged = omega (arith, h.merged, g.later.marks (deed_of deed).lane) }

pub lasts : (p q : Pool) (m : Monitoring) → KnowsOrder p m → Grows p q → LeavesOrder p q → KnowsOrder q m
lasts p q m h g o = record { heirs = h.heirs; place = h.place; found = found_lasts p q m.place h.place h.found g o }

-- ---- an order begins, with nothing found
pub begins : (p : Pool) (o : Order) (heirs : List ℕ) → IsOrder o → ((segments : ℕ) → o ≡ order.Format segments → ⊥) → ((lane : ℕ) → o ≡ order.Takeover lane → AreLanes heirs)
    → KnowsOrder p (begun o heirs)
begins p (order.Format segments) heirs i f l = absurd (f segments refl)
begins p (order.Look slot) heirs i f l = record { heirs = λ e. absurd (false≢true e); place = i; found = tt }
begins p (order.Move slot to) heirs i f l = record { heirs = λ e. absurd (false≢true e); place = i; found = tt }
begins p (order.Fence lane) heirs i f l = record { heirs = λ e. absurd (false≢true e); place = i; found = tt }
begins p (order.Takeover lane) heirs i f l = record { heirs = λ e. l lane refl; place = (omega arith, i.0, i.1, omega arith); found = tt }
