use Rattle.std.proofs.Common.{ℕ, ◌+◌, ◌^◌, ◌<◌, ◌≡◌, inl, inr, List, Option, refl, sym, ◌∙◌, ap, subst, arith}
use Rattle.dn_act.specs.Action.{Performs, MayPerform, at_of}
use Rattle.dn_act.specs.Words.{word_at}
use Rattle.dn_model.specs.Regions.{IsLane}
use Rattle.dn_index.specs.Walk.{Walking, walk_step}
use Rattle.dn_store.specs.Cut.{IsCut}
use Rattle.dn_store.proofs.Frames.{cut_past}
use Rattle.dn_beside.specs.Pool.{Pool, store_in, IsWhole}
use Rattle.dn_beside.specs.Step.{by_merger}
use Rattle.dn_beside.proofs.Still.{learning_step, quiet_still}
use Rattle.dn_walks.specs.IndexStep.{IndexState, with_index}
use Rattle.dn_walks.specs.Changing.{IsWalked}
use Rattle.dn_walks.proofs.Changing.{walk_steps}
use Rattle.dn_merge.specs.Merge.{Merging, merge_next, next_in, step_in}
use Rattle.dn_merge.specs.declared.places.MergePlace.{MergePlace}
use Rattle.dn_merge.specs.declared.places.MergePlace.TheVariants as at
use Rattle.dn_turns.specs.Knows.{want_of, Follows, AtWalk, AtPass, KnowsMerge, IsMergerAt}
use Rattle.dn_turns.specs.Claims.{asks_in}
use Rattle.dn_turns.specs.Steps.{IsMergerStep, MergerStepped}
use Rattle.dn_turns.proofs.Claims.{few_asks, walked_asks, load_asks, step_asks}
use Rattle.dn_turns.proofs.Loads.{Loads, load_knows, load_leaves}
use Rattle.dn_turns.proofs.Walks.{walk_setting, walk_knows, pass_passing}
use Rattle.dn_turns.proofs.Index.{IsIndexWork, index_step, index_quiet}
use Rattle.dn_turns.proofs.Passes.{IsPassWork, passed, pass_step, pass_quiet}

-- An action of a merger, place by place.

-- ---- what each rests on
pub record IsTurn (n : ℕ) (p : Pool) : Type 0 where
  pub whole : IsWhole p
  pub lane : IsLane n
  pub few : (store_in p).bucket_count + 1 < 2 ^ 64

abbrev pub at_place : ℕ → MergePlace → Merging
at_place n place = record { lane = n; place = place }

-- ---- nothing is stored
pub left_still : (n : ℕ) (m : Merging) (p : Pool) (now : List ℕ) → IsWhole p → now ≡ p.words → IsMergerStep n m p now
left_still n m p now h e = record {
  q = p;
  words = sym e;
  step = learning_step (by_merger n) p p.owners refl h (λ k. omega arith) (λ j d. refl) (λ f. refl);
  quiet = quiet_still p p.owners refl (λ k. refl);
  owners = refl;
  mark = inl refl;
  count = omega arith;
}

load_step : (n : ℕ) (p : Pool) (place : MergePlace) (word : ℕ) (now : List ℕ) → IsTurn n p → Loads place → KnowsMerge n p place → Performs (next_in n place) word p.words now → MergerStepped n (at_place n place) p word now
unfolding left_still
load_step n p place word now t o k e = record {
  left = left_still n (at_place n place) p now t.whole (load_leaves p.words now n place o e.change);
  knows = record { number = refl; knows = load_knows n p place word t.whole t.lane o k e.answer };
  low = inl (load_asks n word place o);
}

-- ---- the walk
walk_turn : (n : ℕ) (p : Pool) (to : ℕ) (w : Walking) (word : ℕ) (now : List ℕ) → IsTurn n p → AtWalk n p to w → Performs (next_in n (at.Walk to w)) word p.words now → MergerStepped n (at_place n (at.Walk to w)) p word now
walk_turn n p to w word now t a e =
    let want : Option ℕ = want_of a.change (record { lane = n; offset = a.mark }) in
    let d : IsWalked n want p w word now = walk_steps n want p w word now (record { was = t.whole.represents; lane = t.lane.positive; key = a.positive; few = t.few }) a.walk e in
    let i : IndexState = d.index in
    let g : IsIndexWork n w.key want p i = record { whole = t.whole; lane = t.lane; of = a.works.of; setting = walk_setting n p to w t.whole t.lane a; step = d.is; raised = omega (arith, d.count) } in
    let asks : asks_in (step_in n word (at.Walk to w)).place ≡ step_asks (walk_step w word) = walked_asks n w.key want (with_index p i) to w (walk_step w word) d.knows in
    record {
      left = record {
        q = with_index p i;
        words = d.words;
        step = index_step n w.key want p i g;
        quiet = index_quiet n w.key want p i g;
        owners = refl;
        mark = inl refl;
        count = omega (arith, d.count);
      };
      knows = record { number = refl; knows = walk_knows n p i to w a (walk_step w word) d.knows };
      low = elim (few_asks w.key w.place word) [
        | inl z ↦ inl (asks ∙ z)
        | inr c ↦ (
            let here : word ≡ (store_in p).bucket_count = e.answer ∙ ap (λ x. word_at p.words x) c.at ∙ t.whole.represents.table.bucket_count in
            inr (asks ∙ c.one, omega (arith, d.count, c.before, c.low, here)))
      ];
    }

-- ---- the mark
pass_turn : (n : ℕ) (p : Pool) (to word : ℕ) (now : List ℕ) → IsTurn n p → AtPass n p to → Performs (next_in n (at.Pass to)) word p.words now → MergerStepped n (at_place n (at.Pass to)) p word now
pass_turn n p to word now t a e =
    let P : ℕ → Type 0 = λ x. IsCut ((store_in p).logs n) x in
    let g : IsPassWork n to a.works.of p = record {
      whole = t.whole;
      lane = t.lane;
      cut = subst P (sym a.to_is) (cut_past ((store_in p).logs n) a.works.before a.works.after a.works.of a.mark a.works.log a.works.merged);
      passing = pass_passing n p to t.whole t.lane a;
    } in
    record {
      left = record {
        q = passed n to a.works.of p;
        words = sym e.change;
        step = pass_step n to a.works.of p g;
        quiet = pass_quiet n to a.works.of p g;
        owners = refl;
        mark = inr (record { to = to; of = a.works.of; passing = g.passing; follows = subst (λ o. Follows (store_in p).index (record { lane = n; offset = o }) a.works.of.entry) (sym a.works.mark_is) a.follows; marks = refl });
        count = omega arith;
      };
      knows = record { number = refl; knows = record {} };
      low = inl refl;
    }

-- ---- any place
by_place : (n : ℕ) (p : Pool) (place : MergePlace) (word : ℕ) (now : List ℕ) → IsTurn n p → KnowsMerge n p place → Performs (next_in n place) word p.words now → MergerStepped n (at_place n place) p word now
by_place n p at.Gate word now t k e = load_step n p at.Gate word now t (record {}) k e
by_place n p (at.Mark gate) word now t k e = load_step n p (at.Mark gate) word now t (record {}) k e
by_place n p (at.Directory mark) word now t k e = load_step n p (at.Directory mark) word now t (record {}) k e
by_place n p (at.Header mark from) word now t k e = load_step n p (at.Header mark from) word now t (record {}) k e
by_place n p (at.Key mark from to change) word now t k e = load_step n p (at.Key mark from to change) word now t (record {}) k e
by_place n p (at.Walk to w) word now t k e = walk_turn n p to w word now t k e
by_place n p (at.Pass to) word now t k e = pass_turn n p to word now t k e

pub merger_steps : (n : ℕ) (m : Merging) (p : Pool) (word : ℕ) (now : List ℕ) → IsTurn n p → IsMergerAt n m p → Performs (merge_next m) word p.words now → MergerStepped n m p word now
merger_steps n m p word now t a e =
    let P : ℕ → Type 0 = λ x. Performs (next_in x m.place) word p.words now → MergerStepped n (at_place x m.place) p word now in
    subst P (sym a.number) (λ f. by_place n p m.place word now t a.knows f) e

-- ---- an action that failed
pub merger_fails : (n : ℕ) (m : Merging) (p : Pool) (now : List ℕ) → IsTurn n p → IsMergerAt n m p → MayPerform (merge_next m) p.words now → IsMergerStep n m p now
merger_fails n m p now t a (inl e) = left_still n m p now t.whole e
merger_fails n m p now t a (inr e) = (merger_steps n m p (word_at p.words (at_of (merge_next m))) now t a (record { answer = refl; change = e })).left
