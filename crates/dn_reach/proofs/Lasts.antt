use Rattle.std.proofs.Common.{ℕ, ◌+◌, ◌*◌, ◌/◌, ◌%◌, ◌<◌, ◌≤◌, ◌≡◌, inl, inr, List, length, slice_index, refl, sym, ◌∙◌, ap, subst, arith}
use Rattle.std.proofs.lemmas.Nat.{mod_below}
use Rattle.std.proofs.lemmas.List.Elements.{All-get_or, All-nil}
use Rattle.dn_act.specs.Words.{word_at}
use Rattle.dn_log.specs.Log.{Log, reach_of, IsFit}
use Rattle.dn_log.specs.declared.staging.Staged.{Staged}
use Rattle.dn_model.specs.Regions.{directory, directory_at, IsLane}
use Rattle.dn_beside.specs.Pool.{Pool, store_in}
use Rattle.dn_beside.specs.Lanes.{LeavesOwn}
use Rattle.dn_reach.specs.Directory.{NamesSegments}
use Rattle.dn_reach.specs.OwnLog.{HoldsLog, empty_log}
use Rattle.dn_reach.specs.Staging.{MayStage, MayStageAll, AreFlowing}
use Rattle.dn_reach.proofs.Within.{few_segments, directory_inside}

-- What a lane knows of its log lasts under steps that leave its own words.

pub directory_kept : (words now : List ℕ) (n : ℕ) (log : Log) → log.lane ≡ n → IsFit log → ((q : ℕ) → q < 256 → directory now n q ≡ directory words n q) → NamesSegments words log → NamesSegments now log
directory_kept words now n log e fit same d =
    let here : (q : ℕ) → q < 256 → directory now log.lane q ≡ directory words log.lane q = λ q lt. let P : ℕ → Type 0 = λ m. directory now m q ≡ directory words m q in subst P (sym e) (same q lt) in
    record {
      named = λ q lt. here q (omega (arith, lt, few_segments log fit)) ∙ d.named q lt;
      no_more = λ q lt pos. let m = d.no_more q lt (omega (arith, pos, here q lt)) in (m.0, here q lt ∙ m.1);
    }

-- it begins with an empty log
nothing : (i : ℕ) → i < 0 → ⊥
nothing i lt = omega (arith, lt)

pub log_begins : (p : Pool) (n : ℕ) → IsLane n → (store_in p).pool ≤ 8192 → ((store_in p).gates n).len ≡ 0 → ((q : ℕ) → q < 256 → directory p.words n q ≡ 0) → HoldsLog p n (empty_log n (store_in p).pool)
log_begins p n l few len none = record {
  lane = refl;
  pool = refl;
  len = len;
  fit = record { lane = l.below; pool = few; count = omega arith; len = omega arith; each = All-nil (λ g. g < (store_in p).pool) };
  apart = record { each = λ i j il jl e. absurd (nothing i il) };
  holders = All-nil (λ g. (store_in p).holders g ≡ n);
  directory = record { named = λ q lt. absurd (nothing q lt); no_more = λ q lt pos. absurd (omega (arith, pos, none q lt)) };
}

pub log_lasts : (p q : Pool) (n : ℕ) (log : Log) → LeavesOwn n p q → HoldsLog p n log → HoldsLog q n log
log_lasts p q n log l h = record {
  lane = h.lane;
  pool = h.pool ∙ sym l.pool;
  len = l.len ∙ h.len;
  fit = h.fit;
  apart = h.apart;
  holders = λ i d lt. l.holders _ (h.holders i d lt);
  directory = directory_kept p.words q.words n log h.lane h.fit l.directory h.directory;
}

-- ---- the words that a lane may stage
word_stays : (p q : Pool) (n : ℕ) (log : Log) (x : Staged) → LeavesOwn n p q → HoldsLog p n log → MayStage log x → word_at q.words x.at ≡ word_at p.words x.at
word_stays p q n log x l h (inl d) =
    let at : directory_at n (length log.segments) ≡ x.at = ap (λ m. directory_at m (length log.segments)) (sym h.lane) ∙ sym d.at_is in
    let P : ℕ → Type 0 = λ a. word_at q.words a ≡ word_at p.words a in
    subst P at (l.directory (length log.segments) (directory_inside log x h.fit d).0)
word_stays p q n log x l h (inr w) =
    let inside : w.offset / 1024 < length (reach_of log) = omega (arith, w.within) in
    let g : ℕ = slice_index (reach_of log) (w.offset / 1024) in
    let own : (store_in p).holders g ≡ n = All-get_or (λ g. (store_in p).holders g ≡ n) (reach_of log) (w.offset / 1024) 0 inside h.holders in
    let at : 98304 + (g * 1024 + w.offset % 1024) ≡ x.at = omega (arith, w.at_is) in
    let P : ℕ → Type 0 = λ a. word_at q.words a ≡ word_at p.words a in
    subst P at (l.segments g (w.offset % 1024) (mod_below w.offset 1024 (omega arith)) own)

pub flowing_lasts : (p q : Pool) (n : ℕ) (log : Log) (staged all : List Staged) → LeavesOwn n p q → HoldsLog p n log → MayStageAll log all → AreFlowing p.words staged all → AreFlowing q.words staged all
flowing_lasts p q n log staged all l h may f = record {
  there = λ x c. elim (f.there x c) [
    | inl s ↦ inl s
    | inr e ↦ inr (word_stays p q n log x l h (may x c) ∙ e)
  ];
  known = f.known;
}

-- words that have just been staged are all on their way
pub all_staged : (words : List ℕ) (all : List Staged) → AreFlowing words all all
all_staged words all = record { there = λ x c. inl c; known = λ x c. c }
