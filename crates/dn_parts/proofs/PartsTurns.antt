use Rattle.std.proofs.Common.{ℕ, ◌+◌, ◌<◌, ◌≤◌, ◌≡◌, inl, inr, List, ◌∷◌, Contains, Option, Some, None, refl, sym, ◌∙◌, ap, subst, arith}
use Rattle.std.proofs.lemmas.List.Elements.{Contains-append_right}
use Rattle.dn_word.specs.Gate.{gate_of}
use Rattle.dn_word.specs.Ref.{ref_word}
use Rattle.dn_word.specs.declared.packed.gate.Gate.{Gate as GateOf}
use Rattle.dn_record.specs.Record.{length_in_words}
use Rattle.dn_model.specs.Regions.{gate, mark, home_of, IsLane}
use Rattle.dn_model.specs.declared.logs.Placed.{Placed}
use Rattle.dn_model.proofs.HashLaws.{home_below}
use Rattle.dn_store.proofs.Places.{index_is}
use Rattle.dn_index.specs.Walk.{Walking}
use Rattle.dn_merge.specs.declared.places.MergePlace.{MergePlace}
use Rattle.dn_merge.specs.declared.places.MergePlace.TheVariants.{Gate, Mark, Directory, Header, Key, Walk, Pass}
use Rattle.dn_owners.proofs.Logs.{head_has}
use Rattle.dn_beside.specs.Pool.{Pool, store_in, IsWhole}
use Rattle.dn_turns.specs.Knows.{Works, KnowsMerge, AtWalk as KnowsAtWalk, AtPass as KnowsAtPass}
use Rattle.dn_machine.specs.State.{Machine}
use Rattle.dn_machine.specs.Sound.{IsMachineAt, IsSound}
use Rattle.dn_parts.specs.Sealed.{GivesAt}
use Rattle.dn_parts.specs.Turns.{Merges, AtWalk, AtPass, IsTurnAt, KnowTurns}
use Rattle.dn_parts.proofs.PartsRead.{by_words, seen, has_sealed}
use Rattle.dn_parts.proofs.PartsWalking.{merger_behind, has_walked}

-- What a merger knows at the places of its turn.

-- ---- its record
merges : (p : Pool) (n at : ℕ) (w : Works n p at) → IsWhole p → IsLane n → Merges p.words n at w.of
merges p n at w h l =
    let P : List Placed → Type 0 = λ log. Contains log w.of in
    record {
      sealed = has_sealed p n w.of h (subst P (sym w.log) (Contains-append_right w.before (w.of ∷ w.after) w.of (head_has w.of w.after)));
      offset = w.at;
      is_mark = h.represents.table.marks n l.below ∙ w.mark_is;
    }

at_itself : (p : Pool) (n at : ℕ) (w : Works n p at) → IsWhole p → IsLane n → Merges p.words n w.of.offset w.of
at_itself p n at w h l =
    let x = merges p n at w h l in
    record { sealed = x.sealed; offset = refl; is_mark = x.is_mark ∙ sym w.at }

ends_at : (p : Pool) (n at to : ℕ) (w : Works n p at) → to ≡ at + length_in_words w.of.entry → to ≡ w.of.offset + length_in_words w.of.entry
ends_at p n at to w e = e ∙ ap (λ o. o + length_in_words w.of.entry) (sym w.at)

-- ---- the index
gives : (p : Pool) (k : ℕ) (place : Option ℕ) → IsWhole p → 0 < k → (store_in p).index k ≡ place → GivesAt p.words k place
gives p k place h pos e = record {
  overflow = p.chains (home_of k);
  chain = h.represents.reads.chains_are (home_of k) (home_below k);
  is = index_is p.words p.chains k ((store_in p).index k) (h.represents.indexed.stands k pos) ∙ e;
}

at_walk : (p : Pool) (n to : ℕ) (w : Walking) → IsWhole p → IsLane n → KnowsAtWalk n p to w → AtWalk p.words n to w
at_walk p n to w h l a = record {
  p = a.works.of;
  merges = at_itself p n a.mark a.works h l;
  ends = ends_at p n a.mark to a.works a.to_is;
  authority = a.authority;
  walked = has_walked p w h (merger_behind n w.key _ p w.place h a.positive a.walk);
}

at_pass : (p : Pool) (n to : ℕ) → IsWhole p → IsLane n → KnowsAtPass n p to → AtPass p.words n to
at_pass p n to h l a =
    let of : Placed = a.works.of in
    record {
      p = of;
      merges = at_itself p n a.mark a.works h l;
      ends = ends_at p n a.mark to a.works a.to_is;
      followed = λ k pos auth. elim (a.follows k auth) [
        | inl e ↦ inl (gives p k (Some (ref_word (record { lane = n; offset = of.offset }))) h pos (e.0 ∙ ap (λ o. Some (ref_word (record { lane = n; offset = o }))) (sym a.works.at)))
        | inr f ↦ inr (gives p k None h pos f.0, f.1)
      ];
    }

-- ---- all places
at_mark : (p : Pool) (n word : ℕ) → IsWhole p → IsLane n → ((store_in p).marks n ≤ (gate_of word).len) × ((gate_of word).len ≤ ((store_in p).gates n).len)
    → (mark p.words n ≤ (gate_of word).len) × ((gate_of word).len ≤ (gate p.words n).len)
at_mark p n word h l x = (
  omega (arith, x.0, h.represents.table.marks n l.below),
  omega (arith, x.1, ap (λ (g : GateOf). g.len) (h.represents.table.gates n l.below)),
)

turn_at : (p : Pool) (n : ℕ) (x : MergePlace) → IsWhole p → IsLane n → KnowsMerge n p x → IsTurnAt p.words n x
turn_at p n Gate h l k = tt
turn_at p n (Mark word) h l k = at_mark p n word h l k
turn_at p n (Directory at) h l k = record { p = k.of; merges = merges p n at k h l }
turn_at p n (Header at from) h l k = record { p = k.works.of; merges = merges p n at k.works h l; begins = k.from_is }
turn_at p n (Key at from to change) h l k = record { p = k.works.of; merges = merges p n at k.works h l; begins = k.from_is; ends = k.to_is; changes = k.change_is }
turn_at p n (Walk to w) h l k = at_walk p n to w h l k
turn_at p n (Pass to) h l k = at_pass p n to h l k

turns_at : (p : Pool) (m : Machine) → IsMachineAt p m → KnowTurns (seen p m)
turns_at p m h = record { each = λ n x is. turn_at p n x.place h.whole (h.actors.numbers n x is) (h.know.mergers n x is).knows }

pub know_turns : (segments : ℕ) (m : Machine) → IsSound segments m → KnowTurns m
know_turns segments m h = by_words KnowTurns h.p m h.at.words (turns_at h.p m h.at)
