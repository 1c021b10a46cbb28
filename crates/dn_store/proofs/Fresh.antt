use Rattle.std.proofs.Common.{ℕ, ◌+◌, ◌<◌, ◌≡◌, inl, inr, List, [], refl, sym, ◌∙◌, ap, arith}
use Rattle.dn_word.specs.Gate.{gate_of}
use Rattle.dn_word.specs.Deed.{deed_of}
use Rattle.dn_word.specs.declared.packed.gate.Gate.{Gate}
use Rattle.dn_act.specs.Words.{word_at}
use Rattle.dn_model.specs.Regions.{gate_at, mark_at, cell_at, bucket_at, bucket, directory, directory_at}
use Rattle.dn_store.specs.Standing.{InChain}
use Rattle.dn_store.specs.Represents.{Represents}
use Rattle.dn_store.specs.Fresh.{IsFreshPool, fresh_store, no_overflow}
use Rattle.dn_store.proofs.Frames.{first_or_behind, none_of}

-- The pool that an opening leaves represents a store: no law of this crate stands over nothing.

home_alone : (home b : ℕ) → InChain no_overflow home b → b ≡ home
home_alone home b m = elim (first_or_behind home [] b m) [ inl e ↦ sym e | inr n ↦ absurd (none_of b n) ]

pub fresh_represents : (words : List ℕ) (pool lanes : ℕ) (owners : ℕ → ℕ) → IsFreshPool words pool lanes owners → Represents words no_overflow (fresh_store pool owners)
fresh_represents words pool lanes owners h =
    let buckets : (b i : ℕ) → bucket words b i ≡ 0 = λ b i. h.zeros (bucket_at b i) (λ e. absurd (omega (arith, e))) (inr (omega arith)) in
    let directories : (n q : ℕ) → directory words n q ≡ 0 = λ n q. h.zeros (directory_at n q) (λ e. absurd (omega (arith, e))) (inr (omega arith)) in
    let gates : (n : ℕ) → n < 64 → gate_of (word_at words (gate_at n)) ≡ gate_of 0 = λ n lt. ap gate_of (h.zeros (gate_at n) (λ e. absurd (omega (arith, e))) (inl (omega (arith, lt)))) in
    record {
      table = record {
        size = h.size;
        format = h.format;
        segment_count = h.zeros 1 (λ e. absurd (omega (arith, e))) (inl (omega arith));
        cell_count = h.zeros 2 (λ e. absurd (omega (arith, e))) (inl (omega arith));
        bucket_count = h.zeros 3 (λ e. absurd (omega (arith, e))) (inl (omega arith));
        gates = gates;
        marks = λ n lt. h.zeros (mark_at n) (λ e. absurd (omega (arith, e))) (inl (omega (arith, lt)));
        deeds = λ t lt. ap deed_of (h.deeds t lt);
        cells = λ j lt. h.zeros (cell_at j) (λ e. absurd (omega (arith, e))) (inr (omega arith));
        keys = λ j lt. h.zeros (512 + j) (λ e. absurd (omega (arith, e))) (inr (omega arith));
      };
      unused = record {
        low = λ at a b. h.zeros at (λ e. absurd (omega (arith, e, a))) (inl (omega (arith, b)));
        middle = λ at a b. h.zeros at (λ e. absurd (omega (arith, e, a))) (inr (omega (arith, a)));
        high = λ at a b. h.zeros at (λ e. absurd (omega (arith, e, a))) (inr (omega (arith, a)));
        no_gate = h.zeros (gate_at 0) (λ e. absurd (omega (arith, e))) (inl (omega arith));
        no_mark = h.zeros (mark_at 0) (λ e. absurd (omega (arith, e))) (inl (omega arith));
        no_directory = λ q lt. directories 0 q;
        first = λ b lt. buckets b 0;
      };
      reads = record {
        logs_are = λ n l. let len : (gate_of (word_at words (gate_at n))).len ≡ 0 = ap (λ (g : Gate). g.len) (gates n l.below) in record { tiled = sym len; covered = λ o lt. absurd (omega (arith, len, lt)) };
        no_more = λ n l. refl;
        chains_are = λ home lt. record { leads = buckets home 7; few = omega arith };
      };
      merged = λ n. record { before = []; after = []; whole = refl; words = refl };
      space = record {
        claimed = λ g pos. absurd (omega (arith, pos));
        named = λ n q g l lt e. absurd (omega (arith, e, directories n q));
        once = λ n q r l a b e pos. absurd (omega (arith, pos, directories n q));
      };
      cell_space = record {
        claimed = λ j pos. absurd (omega (arith, pos));
        zero = λ j le lt. refl;
        no_key = λ j le lt. refl;
      };
      indexed = record {
        below = λ home b lt m. omega (arith, lt, home_alone home b m);
        apart = λ g f b gl fl m n. sym (home_alone g b m) ∙ home_alone f b n;
        homed = λ home b i lt m il pos. absurd (omega (arith, pos, buckets b (i + 1)));
        stands = λ k pos b i p e. absurd (omega (arith, pos, e, buckets b (i + 1)));
      };
      overflow = record {
        claimed = λ home c lt m. absurd (none_of c m);
        rise = λ home lt. record {};
        taken = λ c pos. absurd (omega (arith, pos));
        loose = λ c home pos lt m. none_of c m;
        untouched = λ c i le lt il. buckets c i;
        new = λ c i pos il one four. absurd (omega (arith, pos));
      };
    }
