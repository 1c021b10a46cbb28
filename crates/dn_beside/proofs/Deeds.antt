use Rattle.std.proofs.Common.{ℕ, ◌<◌, ◌≡◌, ◌≢◌, inl, false, slice_set, refl, sym, ap, subst, arith}
use Rattle.dn_word.specs.Deed.{deed_of}
use Rattle.dn_word.specs.declared.packed.deed.Deed.{Deed}
use Rattle.dn_model.specs.Regions.{deed_at}
use Rattle.dn_store.specs.State.{StoreState}
use Rattle.dn_store.specs.Changes.{deeded}
use Rattle.dn_store.specs.Represents.{Represents}
use Rattle.dn_store.proofs.At.{at_by}
use Rattle.dn_store.proofs.Lanes.{deed_exchanged}
use Rattle.dn_owners.specs.Events.{Event, happens}
use Rattle.dn_owners.specs.Given.{IsGiven}
use Rattle.dn_beside.specs.Pool.{Pool, store_in, IsWhole, IsDeed, ArePlain}
use Rattle.dn_beside.specs.Lanes.{IsMoved}
use Rattle.dn_beside.specs.Orders.{LeavesOrder}
use Rattle.dn_beside.specs.Step.{Acting, IsStepBy}
use Rattle.dn_beside.proofs.Low.{after_event, low_step}

-- The deed of a slot is exchanged, by an event that changes it alone of the store.

pub record IsDeedEvent (a : Acting) (p : Pool) (e : Event) (t : ℕ) (d : Deed) : Type 0 where
  pub slot : t < 64
  pub given : IsGiven p.owners e
  pub store : (happens p.owners e).store ≡ deeded (store_in p) t d
  pub deed : IsDeed d
  pub moved : IsMoved ((store_in p).deeds t) d
  pub knows : (n : ℕ) → n ≢ a.lane → (happens p.owners e).knows n ≡ p.owners.knows n
  pub watch : a.monitor ≡ false → (happens p.owners e).watch ≡ p.owners.watch

pub deed_step : (a : Acting) (p : Pool) (e : Event) (t new : ℕ) → IsWhole p → IsDeedEvent a p e t (deed_of new)
    → (a.monitor ≡ false → LeavesOrder p (after_event p e (deed_at t) new)) → IsStepBy a p (after_event p e (deed_at t) new)
deed_step a p e t new h c order =
    let s : StoreState = store_in p in
    let d : Deed = deed_of new in
    low_step a p e (deed_at t) new h (omega (arith, c.slot)) c.given
    (subst (Represents (slice_set p.words (deed_at t) new) p.chains) (sym c.store) (deed_exchanged p.words p.chains s t new h.represents c.slot))
    (record {
      pool = ap (λ (x : StoreState). x.pool) c.store;
      index = ap (λ (x : StoreState). x.index) c.store;
      holders = ap (λ (x : StoreState). x.holders) c.store;
      takers = ap (λ (x : StoreState). x.takers) c.store;
      segment_count = ap (λ (x : StoreState). x.segment_count) c.store;
      bucket_count = ap (λ (x : StoreState). x.bucket_count) c.store;
      plain = (let P : StoreState → Type 0 = λ x. ArePlain x.logs in subst P (sym c.store) h.plain);
      deeds = λ u lt. (let P : StoreState → Type 0 = λ x. IsDeed (x.deeds u) in subst P (sym c.store) (at_by IsDeed s.deeds t d u (λ e. c.deed) (λ f. h.deeds u lt)));
      moved = λ u lt. (
          let P : StoreState → Type 0 = λ x. IsMoved (s.deeds u) (x.deeds u) in
          subst P (sym c.store) (at_by (λ x. IsMoved (s.deeds u) x) s.deeds t d u
          (λ e. let Q : ℕ → Type 0 = λ x. IsMoved (s.deeds x) d in subst Q (sym e) c.moved) (λ f. inl refl)));
      logs = λ n f. ap (λ (x : StoreState). x.logs n) c.store;
      lens = λ n f. ap (λ (x : StoreState). (x.gates n).len) c.store;
      bit = λ n l f s. absurd (omega (arith, s, l.below));
      knows = c.knows;
      marks = λ n f. ap (λ (x : StoreState). x.marks n) c.store;
      order = order;
    })
