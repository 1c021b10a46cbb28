use Rattle.std.proofs.Common.{ℕ, ◌≢◌, inl, refl, ◌∙◌, arith, slice_set}
use Rattle.dn_act.proofs.Words.{word_at-set_other}
use Rattle.dn_model.specs.declared.logs.Placed.{Placed}
use Rattle.dn_model.specs.Regions.{mark_at, IsLane}
use Rattle.dn_model.proofs.HashLaws.{home_below}
use Rattle.dn_store.specs.Cut.{IsCut}
use Rattle.dn_store.proofs.At.{at_other}
use Rattle.dn_store.proofs.Lanes.{mark_stored}
use Rattle.dn_owners.specs.Sound.{IsOrdered}
use Rattle.dn_owners.specs.Events.{Pass, happens}
use Rattle.dn_owners.specs.Given.{IsPassing}
use Rattle.dn_owners.proofs.Grown.{later}
use Rattle.dn_owners.proofs.Logs.{ordered}
use Rattle.dn_owners.proofs.Marks.{pass_kept}
use Rattle.dn_owners.proofs.Tables.{held_after, located}
use Rattle.dn_beside.specs.Pool.{Pool, store_in, IsWhole}
use Rattle.dn_beside.specs.Lanes.{LeavesLane}
use Rattle.dn_beside.specs.Mergers.{LeavesMerger}
use Rattle.dn_beside.specs.Step.{IsStepBy, IsQuiet, by_merger}
use Rattle.dn_beside.proofs.Apart.{IsAlike, own_apart, chain_apart, path_apart, grows_apart}

-- The store of a mark, past a record that the index follows, as all others see it.

pub record IsPassWork (n to : ℕ) (of : Placed) (p : Pool) : Type 0 where
  pub whole : IsWhole p
  pub lane : IsLane n
  pub cut : IsCut ((store_in p).logs n) to
  pub passing : IsPassing p.owners n to of

abbrev pub passed : ℕ → ℕ → Placed → Pool → Pool
passed n to of p = record { words = slice_set p.words (mark_at n) to; chains = p.chains; owners = happens p.owners (Pass n to of) }

alike : (n to : ℕ) (of : Placed) (p : Pool) → IsAlike p.words (passed n to of p).words (mark_at n)
alike n to of p = record { other = λ i d. word_at-set_other p.words (mark_at n) i to d }

order : (n to : ℕ) (of : Placed) (p : Pool) → IsPassWork n to of p → IsOrdered (store_in p).logs (store_in p).gates (store_in p).marks
order n to of p g = ordered p.words p.chains (store_in p) g.whole.represents

lane_left : (n to : ℕ) (of : Placed) (p : Pool) (j : ℕ) → IsPassWork n to of p → IsLane j → LeavesLane j p (passed n to of p)
lane_left n to of p j g l = record {
  own = own_apart j (mark_at n) p (passed n to of p) (alike n to of p) refl refl (λ x own. own) (λ e. absurd (omega (arith, e, l.below))) (λ i lt e. absurd (omega (arith, e, lt, g.lane.below))) (λ x i lt own e. absurd (omega (arith, e, g.lane.below)));
  log = refl;
  knows = refl;
  deeds = λ t lt. inl refl;
  keys = λ k x pos look slot clear. record {
    located = λ r a. located p.owners (Pass n to of) j k x r (order n to of p g) g.whole.sound g.passing look slot clear refl a;
    found = λ none. path_apart k (mark_at n) p (passed n to of p) g.whole (alike n to of p) (inl (omega (arith, g.lane.below))) (home_below k) refl refl;
  };
}

merger_left : (n to : ℕ) (of : Placed) (p : Pool) (m : ℕ) → IsPassWork n to of p → IsLane m → m ≢ n → LeavesMerger m p (passed n to of p)
merger_left n to of p m g l d = record {
  mark = at_other (store_in p).marks n to m d;
  chains = λ k r pos w. chain_apart m k (mark_at n) p (passed n to of p) g.whole l.positive (alike n to of p) (inl (omega (arith, g.lane.below))) (home_below k) refl refl refl;
}

pub pass_step : (n to : ℕ) (of : Placed) (p : Pool) → IsPassWork n to of p → IsStepBy (by_merger n) p (passed n to of p)
pass_step n to of p g = record {
  whole = record {
    represents = mark_stored p.words p.chains (store_in p) n to g.whole.represents g.lane g.cut;
    sound = pass_kept p.owners n to of (order n to of p g) g.whole.sound g.passing;
    deeds = g.whole.deeds;
    plain = g.whole.plain;
  };
  grows = grows_apart (mark_at n) p (passed n to of p) (alike n to of p) (later p.owners (Pass n to of) g.passing) refl (omega arith) (omega arith) (λ m i l lt e. absurd (omega (arith, e, g.lane.below)));
  lanes = λ j l d. lane_left n to of p j g l;
  mergers = λ m l d. merger_left n to of p m g l d;
  order = λ f. record { watch = refl; deeds = λ t lt. inl refl };
  segment_count = λ f. refl;
  bucket_count = λ f. refl;
}

pub pass_quiet : (n to : ℕ) (of : Placed) (p : Pool) → IsPassWork n to of p → IsQuiet p (passed n to of p)
pass_quiet n to of p g = record { held = λ k v pos h. held_after p.owners (Pass n to of) k (order n to of p g) g.whole.sound g.passing ∙ h; promised = λ k. refl }
