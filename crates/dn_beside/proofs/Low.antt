use Rattle.std.proofs.Common.{ℕ, ◌+◌, ◌*◌, ◌<◌, ◌≡◌, ◌≢◌, inl, inr, true, false, slice_set, refl, sym, ◌∙◌, ap, arith}
use Rattle.std.proofs.lemmas.Bool.{cases_eq, false≢true}
use Rattle.dn_act.proofs.Words.{word_at-set_other}
use Rattle.dn_model.specs.Regions.{gate_at, directory_at, IsLane}
use Rattle.dn_model.proofs.HashLaws.{home_below}
use Rattle.dn_store.specs.Represents.{Represents}
use Rattle.dn_owners.specs.Sound.{IsOrdered}
use Rattle.dn_owners.specs.Events.{Event, happens}
use Rattle.dn_owners.specs.Given.{IsGiven}
use Rattle.dn_owners.specs.Later.{IsLater}
use Rattle.dn_owners.proofs.Logs.{ordered}
use Rattle.dn_owners.proofs.Grown.{later}
use Rattle.dn_owners.proofs.Tables.{kept, located}
use Rattle.dn_beside.specs.Pool.{Pool, store_in, IsWhole, IsDeed, ArePlain}
use Rattle.dn_beside.specs.Lanes.{IsMoved}
use Rattle.dn_beside.specs.Orders.{LeavesOrder}
use Rattle.dn_beside.specs.Step.{Acting, IsStepBy}
use Rattle.dn_beside.proofs.Apart.{IsAlike, chain_apart, path_apart, grows_apart}

-- A step that stores one word below the directories, by an event.

abbrev pub after_event : Pool → Event → ℕ → ℕ → Pool
after_event p e at new = record { words = slice_set p.words at new; chains = p.chains; owners = happens p.owners e }

-- what the event leaves of the store, and what of it is others' to know
pub record IsLowChange (a : Acting) (p q : Pool) (at : ℕ) : Type 0 where
  pub pool : (store_in q).pool ≡ (store_in p).pool
  pub index : (store_in q).index ≡ (store_in p).index
  pub holders : (store_in q).holders ≡ (store_in p).holders
  pub takers : (store_in q).takers ≡ (store_in p).takers
  pub segment_count : (store_in q).segment_count ≡ (store_in p).segment_count
  pub bucket_count : (store_in q).bucket_count ≡ (store_in p).bucket_count
  pub plain : ArePlain (store_in q).logs
  pub deeds : (t : ℕ) → t < 64 → IsDeed ((store_in q).deeds t)
  pub moved : (t : ℕ) → t < 64 → IsMoved ((store_in p).deeds t) ((store_in q).deeds t)
  pub logs : (n : ℕ) → n ≢ a.lane → (store_in q).logs n ≡ (store_in p).logs n
  pub lens : (n : ℕ) → n ≢ a.lane → ((store_in q).gates n).len ≡ ((store_in p).gates n).len
  pub bit : (n : ℕ) → IsLane n → n ≢ a.lane → gate_at n ≡ at → ((store_in q).gates n).fenced ≡ true
  pub knows : (n : ℕ) → n ≢ a.lane → q.owners.knows n ≡ p.owners.knows n
  pub marks : (n : ℕ) → n ≢ a.merger → (store_in q).marks n ≡ (store_in p).marks n
  pub order : a.monitor ≡ false → LeavesOrder p q

pub low_step : (a : Acting) (p : Pool) (e : Event) (at new : ℕ) → IsWhole p → at < 1024 → IsGiven p.owners e
    → Represents (slice_set p.words at new) p.chains (happens p.owners e).store → IsLowChange a p (after_event p e at new) at
    → IsStepBy a p (after_event p e at new)
low_step a p e at new h low g rep c =
    let q : Pool = after_event p e at new in
    let order : IsOrdered (store_in p).logs (store_in p).gates (store_in p).marks = ordered p.words p.chains (store_in p) h.represents in
    let grown : IsLater p.owners q.owners = later p.owners e g in
    let alike : IsAlike p.words q.words at = record { other = λ i d. word_at-set_other p.words at i new d } in
    record {
      whole = record { represents = rep; sound = kept p.owners e order h.sound g; deeds = c.deeds; plain = c.plain };
      grows = grows_apart at p q alike grown c.pool (omega (arith, c.segment_count)) (omega (arith, c.bucket_count)) (λ n i l lt s. absurd (omega (arith, s, low)));
      lanes = λ n l d. record {
        own = record {
          pool = c.pool;
          len = c.lens n d;
          gate = λ f. elim (cases_eq (gate_at n) at) [
            | inl s ↦ absurd (false≢true (sym f ∙ c.bit n l d s))
            | inr s ↦ alike.other (gate_at n) s
          ];
          directory = λ i lt. alike.other (directory_at n i) (λ s. absurd (omega (arith, s, low)));
          holders = λ t own. ap (λ (f : ℕ → ℕ). f t) c.holders ∙ own;
          segments = λ t i lt own. alike.other (98304 + (t * 1024 + i)) (λ s. absurd (omega (arith, s, low)));
        };
        log = c.logs n d;
        knows = c.knows n d;
        deeds = c.moved;
        keys = λ k look pos see slot clear. record {
          located = λ r was. located p.owners e n k look r order h.sound g see slot ((grown.gates n).clear clear) (c.logs n d) was;
          found = λ none. path_apart k at p q h alike (inl (omega (arith, low))) (home_below k) refl c.index;
        };
      };
      mergers = λ n l d. record {
        mark = c.marks n d;
        chains = λ k r pos waits. chain_apart n k at p q h l.positive alike (inl (omega (arith, low))) (home_below k) refl c.takers c.index;
      };
      order = c.order;
      segment_count = λ f. c.segment_count;
      bucket_count = λ f. c.bucket_count;
    }
