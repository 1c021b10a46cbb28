use Rattle.std.proofs.Common.{ℕ, ◌+◌, ◌<◌, ◌≤◌, ◌≡◌, ◌≢◌, inr, List, [], Option, refl, sym, ◌∙◌, subst, arith}
use Rattle.dn_word.specs.Gate.{gate_of}
use Rattle.dn_word.specs.Deed.{deed_of}
use Rattle.dn_model.specs.Regions.{gate_at, directory_at, bucket_at, IsLane}
use Rattle.dn_model.specs.Log.{IsLog}
use Rattle.dn_store.specs.State.{StoreState}
use Rattle.dn_store.specs.Cut.{IsCut}
use Rattle.dn_store.specs.Unused.{IsUsed}
use Rattle.dn_store.specs.Space.{IsSpace}
use Rattle.dn_store.specs.CellSpace.{IsCellSpace}
use Rattle.dn_store.specs.Standing.{IsIndexed}
use Rattle.dn_store.specs.Overflow.{IsOverflow}
use Rattle.dn_store.specs.Represents.{IsTable, Represents}
use Rattle.dn_store.proofs.Unused.{unused_stays}
use Rattle.dn_store.proofs.Stores.{IsStored, Turns, turned, aside, Turns_one, one_turned}
use Rattle.dn_store.proofs.Frames.{log_stays, chain_stays, space_stays, overflow_stays}
use Rattle.dn_store.proofs.Standings.{index_stays, stored_shape}

-- The table of words that say one thing each, and the words behind it.

abbrev pub itself : ℕ → ℕ
itself w = w

-- what each region of the table says after a store
pub record IsTurned (s t : StoreState) (at new : ℕ) : Type 0 where
  pub pool : t.pool ≡ s.pool
  pub format : 0 ≢ at
  pub segment_count : Turns_one 1 at new s.segment_count t.segment_count
  pub cell_count : Turns_one 2 at new s.cell_count t.cell_count
  pub bucket_count : Turns_one 3 at new s.bucket_count t.bucket_count
  pub gates : Turns 64 64 gate_of at new s.gates t.gates
  pub marks : Turns 128 64 itself at new s.marks t.marks
  pub deeds : Turns 192 64 deed_of at new s.deeds t.deeds
  pub cells : Turns 256 256 itself at new s.cells t.cells
  pub keys : Turns 512 256 itself at new s.keys t.keys

pub table_turned : (words now : List ℕ) (s t : StoreState) (at new : ℕ) → IsStored words now at new → IsTurned s t at new → IsTable words s → IsTable now t
table_turned words now s t at new st d h = record {
  size = omega (arith, st.size, h.size, d.pool);
  format = st.other 0 d.format ∙ h.format ∙ omega (arith, d.pool);
  segment_count = one_turned words now 1 at new s.segment_count t.segment_count st d.segment_count h.segment_count;
  cell_count = one_turned words now 2 at new s.cell_count t.cell_count st d.cell_count h.cell_count;
  bucket_count = one_turned words now 3 at new s.bucket_count t.bucket_count st d.bucket_count h.bucket_count;
  gates = turned words now 64 64 gate_of at new s.gates t.gates st d.gates h.gates;
  marks = turned words now 128 64 itself at new s.marks t.marks st d.marks h.marks;
  deeds = turned words now 192 64 deed_of at new s.deeds t.deeds st d.deeds h.deeds;
  cells = turned words now 256 256 itself at new s.cells t.cells st d.cells h.cells;
  keys = turned words now 512 256 itself at new s.keys t.keys st d.keys h.keys;
}

-- the store is on another word, or on this one
pub one_aside : (i at new a : ℕ) → i ≢ at → Turns_one i at new a a
one_aside i at new a d = (λ _. refl, λ e. absurd (d e))

pub one_inside : (i new a : ℕ) → Turns_one i i new a new
one_inside i new a = (λ d. absurd (d refl), λ e. refl)

-- behind the table nothing of it is stored
pub table_beside : (words now : List ℕ) (s : StoreState) (index : ℕ → Option ℕ) (takers : ℕ → ℕ) (at new : ℕ) → IsStored words now at new → 768 ≤ at → IsTable words s
    → IsTable now (record s { index = index; takers = takers })
table_beside words now s index takers at new st high h = table_turned words now s (record s { index = index; takers = takers }) at new st (record {
  pool = refl;
  format = λ e. absurd (omega (arith, e, high));
  segment_count = one_aside 1 at new s.segment_count (λ e. absurd (omega (arith, e, high)));
  cell_count = one_aside 2 at new s.cell_count (λ e. absurd (omega (arith, e, high)));
  bucket_count = one_aside 3 at new s.bucket_count (λ e. absurd (omega (arith, e, high)));
  gates = aside 64 64 gate_of at new s.gates (inr (omega (arith, high)));
  marks = aside 128 64 itself at new s.marks (inr (omega (arith, high)));
  deeds = aside 192 64 deed_of at new s.deeds (inr (omega (arith, high)));
  cells = aside 256 256 itself at new s.cells (inr (omega (arith, high)));
  keys = aside 512 256 itself at new s.keys (inr (omega (arith, high)));
}) h

-- ---- a word of the table is stored: the directories, the segments and the buckets stay
pub record TableChange (words now : List ℕ) (chains : ℕ → List ℕ) (s t : StoreState) (at new : ℕ) : Type 0 where
  pub stored : IsStored words now at new
  pub low : at < 1024
  pub used : IsUsed at
  pub turned : IsTurned s t at new
  pub logs : (n : ℕ) → IsLane n → IsLog now n (t.logs n)
  pub no_more : (n : ℕ) → (IsLane n → ⊥) → t.logs n ≡ []
  pub merged : (n : ℕ) → IsCut (t.logs n) (t.marks n)
  pub index : t.index ≡ s.index
  pub space : IsSpace words t.pool t.segment_count t.holders
  pub cell_space : IsCellSpace t.cells t.keys t.cell_count t.cell_holders
  pub overflow : IsOverflow words chains t.bucket_count t.takers

pub table_changed : (words now : List ℕ) (chains : ℕ → List ℕ) (s t : StoreState) (at new : ℕ) → TableChange words now chains s t at new → Represents words chains s → Represents now chains t
table_changed words now chains s t at new c h =
    let low = c.low in
    let buckets : (b i : ℕ) → bucket_at b i ≢ at = λ b i e. absurd (omega (arith, e, low)) in
    let P : (ℕ → Option ℕ) → Type 0 = λ x. IsIndexed now chains x in
    record {
      table = table_turned words now s t at new c.stored c.turned h.table;
      unused = unused_stays words now at new c.stored c.used h.unused;
      reads = record {
        logs_are = c.logs;
        no_more = c.no_more;
        chains_are = λ home lt. chain_stays words now home (chains home) (λ b _. c.stored.other (bucket_at b 7) (buckets b 7)) (h.reads.chains_are home lt);
      };
      merged = c.merged;
      space = space_stays words now t.pool t.segment_count t.holders (λ n q l lt. c.stored.other (directory_at n q) (λ e. absurd (omega (arith, e, low)))) c.space;
      cell_space = c.cell_space;
      indexed = subst P (sym c.index) (index_stays words now chains chains s.index h.indexed
          (stored_shape words now chains s.index at new h.indexed c.stored (λ g b i _ _ _ e _. absurd (buckets b (i + 1) e)))
          (λ k pos. record {
            back = λ b i p e. (p, sym (c.stored.other (bucket_at b (i + 1)) (buckets b (i + 1))) ∙ e);
            forth = λ b i p e. (p, c.stored.other (bucket_at b (i + 1)) (buckets b (i + 1)) ∙ e, c.stored.other (bucket_at b (i + 4)) (buckets b (i + 4)));
          }));
      overflow = overflow_stays words now chains t.bucket_count t.takers (λ b i _ _ _. c.stored.other (bucket_at b i) (buckets b i)) (λ b i _ _ _ _. c.stored.other (bucket_at b i) (buckets b i)) c.overflow;
    }

-- logs stay where no gate is stored
pub table_log : (words now : List ℕ) (at new n : ℕ) (s : StoreState) (chains : ℕ → List ℕ) → Represents words chains s → IsStored words now at new → at < 1024 → gate_at n ≢ at → IsLane n → IsLog now n (s.logs n)
table_log words now at new n s chains h st low ne l = log_stays words now at new n (s.logs n) st ne (λ q _ _ e. absurd (omega (arith, e, low))) (λ o _ pos e. absurd (omega (arith, e, low))) (h.reads.logs_are n l)
