use Rattle.std.proofs.Common.{ℕ, ◌<◌, ◌≤◌, ◌≡◌, inl, inr, List, sym, ◌∙◌, ap, arith}
use Rattle.dn_word.specs.declared.packed.gate.Gate.{Gate}
use Rattle.dn_model.specs.Regions.{home_of, IsLane}
use Rattle.dn_model.specs.Index.{index}
use Rattle.dn_model.proofs.HashLaws.{home_below}
use Rattle.dn_model.proofs.IndexLaws.{chain_one}
use Rattle.dn_model.proofs.MapLaws.{lane_or_not, one_log}
use Rattle.dn_store.specs.State.{StoreState}
use Rattle.dn_store.specs.Represents.{Represents}
use Rattle.dn_store.specs.SameStore.{IsSameStore}
use Rattle.dn_store.proofs.Frames.{cut_within}
use Rattle.dn_store.proofs.Places.{index_is}

-- Words represent one store, but for the ghosts.

pub same_chains : (words : List ℕ) (chains others : ℕ → List ℕ) (s t : StoreState) → Represents words chains s → Represents words others t → (home : ℕ) → home < 4096 → chains home ≡ others home
same_chains words chains others s t h g home lt = chain_one words home (chains home) (others home) (h.reads.chains_are home lt) (g.reads.chains_are home lt)

pub same_store : (words : List ℕ) (chains others : ℕ → List ℕ) (s t : StoreState) → Represents words chains s → Represents words others t → IsSameStore s t
same_store words chains others s t h g = record {
  pool = omega (arith, h.table.format, g.table.format);
  logs = λ n. elim (lane_or_not n) [
    | inl l ↦ one_log words n (s.logs n) (t.logs n) (h.reads.logs_are n l) (g.reads.logs_are n l)
    | inr l ↦ h.reads.no_more n l ∙ sym (g.reads.no_more n l)
  ];
  gates = λ n lt. sym (h.table.gates n lt) ∙ g.table.gates n lt;
  marks = λ n lt. sym (h.table.marks n lt) ∙ g.table.marks n lt;
  deeds = λ d lt. sym (h.table.deeds d lt) ∙ g.table.deeds d lt;
  index = λ k pos. sym (index_is words chains k (s.index k) (h.indexed.stands k pos))
      ∙ ap (λ cs. index words cs k) (same_chains words chains others s t h g (home_of k) (home_below k))
      ∙ index_is words others k (t.index k) (g.indexed.stands k pos);
  cells = λ j lt. sym (h.table.cells j lt) ∙ g.table.cells j lt;
  keys = λ j lt. sym (h.table.keys j lt) ∙ g.table.keys j lt;
  segment_count = sym h.table.segment_count ∙ g.table.segment_count;
  cell_count = sym h.table.cell_count ∙ g.table.cell_count;
  bucket_count = sym h.table.bucket_count ∙ g.table.bucket_count;
}

-- what is merged of a log was sealed
pub merged_within : (words : List ℕ) (chains : ℕ → List ℕ) (s : StoreState) (n : ℕ) → Represents words chains s → IsLane n → s.marks n ≤ (s.gates n).len
merged_within words chains s n h l =
    let le = cut_within words n (s.logs n) (s.marks n) (h.reads.logs_are n l) (h.merged n) in
    omega (arith, le, ap (λ (g : Gate). g.len) (h.table.gates n l.below))
