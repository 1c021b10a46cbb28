use Rattle.std.proofs.Common.{ℕ, zero, suc, ◌+◌, ◌/◌, ◌<◌, ◌≤◌, ◌≡◌, ◌≢◌, ◌⊎◌, inl, inr, List, [], ◌∷◌, ◌++◌, Contains, sym, ◌∙◌, ap, arith, append_assoc}
use Rattle.std.proofs.lemmas.List.Elements.{Contains-append_left, Contains-append_right, Contains-push}
use Rattle.dn_word.specs.Gate.{gate_of}
use Rattle.dn_act.specs.Words.{word_at}
use Rattle.dn_record.specs.Record.{length_in_words}
use Rattle.dn_model.specs.Regions.{gate, gate_at, directory, directory_at, place, bucket, IsLane}
use Rattle.dn_model.specs.declared.logs.Placed.{Placed}
use Rattle.dn_model.specs.Log.{Tiles, IsLog}
use Rattle.dn_model.specs.Index.{Leads, IsChain}
use Rattle.dn_model.proofs.LogLaws.{log_frame}
use Rattle.dn_store.specs.Cut.{words_in, IsCut}
use Rattle.dn_store.specs.Space.{IsSpace}
use Rattle.dn_store.specs.Overflow.{IsOverflow}
use Rattle.dn_store.proofs.Stores.{IsStored}

-- What stays of each part beside a store.

-- ---- members of a list
pub first_of : {X : Type 0} (x : X) (xs : List X) → Contains (x ∷ xs) x
first_of x xs = Contains-append_left (x ∷ []) xs x (Contains-push [] x)

pub behind_first : {X : Type 0} (x : X) (xs : List X) (y : X) → Contains xs y → Contains (x ∷ xs) y
behind_first x xs y c = Contains-append_right (x ∷ []) xs y c

pub first_or_behind : {X : Type 0} (x : X) (xs : List X) (y : X) → Contains (x ∷ xs) y → (x ≡ y) ⊎ Contains xs y
first_or_behind x xs y (zero, l, e) = inl e
first_or_behind x xs y (suc k, l, e) = inr (k, omega (arith, l), e)

pub none_of : {X : Type 0} (y : X) → Contains [] y → ⊥
none_of y (k, l, e) = absurd (omega (arith, l))

-- ---- a lane's log, where neither its gate, nor a directory word that names a segment, nor a sealed word is stored
pub log_stays : (words now : List ℕ) (at new n : ℕ) (log : List Placed) → IsStored words now at new → gate_at n ≢ at → ((q : ℕ) → q < 256 → 0 < directory words n q → directory_at n q ≢ at)
    → ((o : ℕ) → o < (gate words n).len → 0 < directory words n (o / 1024) → place words n o ≢ at) → IsLog words n log → IsLog now n log
log_stays words now at new n log s g d w h = log_frame words now n log h (record {
  len_is = ap (λ w. (gate_of w).len) (s.other (gate_at n) g);
  directory_is = λ q lt pos. s.other (directory_at n q) (d q lt pos);
  words_are = λ o lt. s.other (place words n o) (w o lt (h.covered o lt).1);
})

-- ---- the segments, where no directory word is stored
pub space_stays : (words now : List ℕ) (pool count : ℕ) (holders : ℕ → ℕ) → ((n q : ℕ) → IsLane n → q < 256 → directory now n q ≡ directory words n q) → IsSpace words pool count holders → IsSpace now pool count holders
space_stays words now pool count holders d h = record {
  claimed = h.claimed;
  named = λ n q g l lt e. h.named n q g l lt (sym (d n q l lt) ∙ e);
  once = λ n q r l a b e pos. h.once n q r l a b (sym (d n q l a) ∙ e ∙ d n r l b) (omega (arith, d n q l a, pos));
}

-- ---- a chain, where the next words of its buckets stay
pub leads_stay : (words now : List ℕ) (b : ℕ) (cs : List ℕ) → ((c : ℕ) → Contains (b ∷ cs) c → bucket now c 7 ≡ bucket words c 7) → Leads words b cs → Leads now b cs
leads_stay words now b [] e h = e b (first_of b []) ∙ h
leads_stay words now b (c ∷ cs) e h = (e b (first_of b (c ∷ cs)) ∙ h.0, h.1, h.2, leads_stay words now c cs (λ d m. e d (behind_first b (c ∷ cs) d m)) h.3)

pub chain_stays : (words now : List ℕ) (home : ℕ) (cs : List ℕ) → ((c : ℕ) → Contains (home ∷ cs) c → bucket now c 7 ≡ bucket words c 7) → IsChain words home cs → IsChain now home cs
chain_stays words now home cs e h = record { leads = leads_stay words now home cs e h.leads; few = h.few }

-- ---- the overflow buckets, where words of buckets that weren't claimed or aren't linked stay
pub overflow_stays : (words now : List ℕ) (chains : ℕ → List ℕ) (count : ℕ) (takers : ℕ → ℕ) → ((c i : ℕ) → 4096 + count ≤ c → c < 8192 → i < 8 → bucket now c i ≡ bucket words c i)
    → ((c i : ℕ) → 0 < takers c → i < 8 → i ≢ 1 → i ≢ 4 → bucket now c i ≡ bucket words c i) → IsOverflow words chains count takers → IsOverflow now chains count takers
overflow_stays words now chains count takers fresh own h = record {
  claimed = h.claimed;
  rise = h.rise;
  taken = h.taken;
  loose = h.loose;
  untouched = λ c i le lt il. fresh c i le lt il ∙ h.untouched c i le lt il;
  new = λ c i pos il one four. own c i pos il one four ∙ h.new c i pos il one four;
}

-- ---- whole records of a log
pub cut_more : (log more : List Placed) (mark : ℕ) → IsCut log mark → IsCut (log ++ more) mark
cut_more log more mark h = record {
  before = h.before;
  after = h.after ++ more;
  whole = ap (λ xs. xs ++ more) h.whole ∙ append_assoc h.before h.after more;
  words = h.words;
}

words_append : (xs ys : List Placed) → words_in (xs ++ ys) ≡ words_in xs + words_in ys
words_append [] ys = omega arith
words_append (p ∷ ps) ys = omega (arith, words_append ps ys)

tiled_words : (w : ℕ → ℕ) (o end : ℕ) (log : List Placed) → Tiles w o log end → o + words_in log ≡ end
tiled_words w o end [] h = omega (arith, h)
tiled_words w o end (p ∷ ps) h = let r = tiled_words w (o + length_in_words p.entry) end ps h.2 in omega (arith, r)

-- they aren't more words than the log has
pub cut_within : (words : List ℕ) (n : ℕ) (log : List Placed) (mark : ℕ) → IsLog words n log → IsCut log mark → mark ≤ (gate words n).len
cut_within words n log mark h c =
    let all = tiled_words (λ o. word_at words (place words n o)) 0 (gate words n).len log h.tiled in
    omega (arith, all, ap words_in c.whole, words_append c.before c.after, c.words)

-- the record that begins at a cut ends at one
pub cut_past : (log before after : List Placed) (p : Placed) (mark : ℕ) → log ≡ before ++ p ∷ after → words_in before ≡ mark → IsCut log (mark + length_in_words p.entry)
cut_past log before after p mark whole words = record {
  before = before ++ p ∷ [];
  after = after;
  whole = whole ∙ sym (append_assoc before (p ∷ []) after);
  words = omega (arith, words_append before (p ∷ []), words);
}
