use Rattle.std.proofs.Common.{ℕ, zero, suc, ◌+◌, ◌-◌, ◌*◌, ◌/◌, ◌%◌, ◌^◌, ◌<◌, ◌≤◌, ◌≡◌, ◌⊎◌, inl, inr, ⊎_elim, List, [], ◌∷◌, ◌++◌, length, take, drop, set, get_or, replicate, min, All, refl, sym, ◌∙◌, ap, subst, arith, append_assoc}
use Rattle.std.proofs.lemmas.Grind.{common_steps}
use Rattle.std.proofs.lemmas.Nat.{le_bytes_8, from_le_bytes-to_le_bytes_8}
use Rattle.std.proofs.lemmas.List.{take-append-le, take_all, append-nil, take-append-drop, drop-drop, get_or-drop}
use Rattle.std.proofs.Math.Seq.{take-append-add, take-append_seam, drop-append_seam}
use Rattle.std.proofs.lemmas.List.Elements.{All-head, All-tail, All-take, All-drop}
use Rattle.std.proofs.lemmas.Bool.{cases_lt}
use Rattle.std.specs.Int.{w64, to_le_bytes, from_le_bytes}
use Rattle.dn_word.specs.Bytes.{bytes_of}
use Rattle.dn_record.specs.Values.{words_for, word_of, words_from}

-- words of the same bytes are the same
pub same_word : (a b : List ℕ) → ((i : ℕ) → get_or a i 0 ≡ get_or b i 0) → from_le_bytes w64 a ≡ from_le_bytes w64 b
same_word a b h = cc (h 0, h 1, h 2, h 3, h 4, h 5, h 6, h 7)

-- zeros behind a list are what a list has past its end
pub get_filled : (xs zs : List ℕ) → ((k : ℕ) → get_or zs k 0 ≡ 0) → (i : ℕ) → get_or (xs ++ zs) i 0 ≡ get_or xs i 0
get_filled [] zs h i = h i
get_filled (x ∷ xs) zs h zero = refl
get_filled (x ∷ xs) zs h (suc i) = get_filled xs zs h i

pub get_zeros : (n k : ℕ) → get_or (replicate {A = ℕ} n 0) k 0 ≡ 0
get_zeros zero k = refl
get_zeros (suc n) zero = refl
get_zeros (suc n) (suc k) = get_zeros n k

small_at : (v : List ℕ) → All (λ byte. byte < 2 ^ 8) v → (i : ℕ) → get_or v i 0 < 256
small_at [] h i = omega arith
small_at (x ∷ v) h zero = All-head (λ byte. byte < 2 ^ 8) x v h
small_at (x ∷ v) h (suc i) = small_at v (All-tail (λ byte. byte < 2 ^ 8) x v h) i

-- eight bytes of a value, filled with zeros
pub eight : List ℕ → List ℕ
eight v = take 8 v ++ replicate (8 - length v) 0

length_eight : (v : List ℕ) → length (eight v) ≡ 8
unfolding eight
length_eight v = grind (arith, common_steps)

word_eight : (v : List ℕ) → word_of v ≡ from_le_bytes w64 (eight v)
unfolding eight word_of
word_eight v = same_word (take 8 v) (take 8 v ++ replicate (8 - length v) 0) (λ i. sym (get_filled (take 8 v) (replicate (8 - length v) 0) (get_zeros (8 - length v)) i))

small_eight : (v : List ℕ) → All (λ byte. byte < 2 ^ 8) v → (i : ℕ) → get_or (eight v) i 0 < 256
unfolding eight
small_eight v h i =
    let e : get_or (take 8 v ++ replicate (8 - length v) 0) i 0 ≡ get_or (take 8 v) i 0 = get_filled (take 8 v) (replicate (8 - length v) 0) (get_zeros (8 - length v)) i in
    let k : get_or (take 8 v) i 0 < 256 = small_at (take 8 v) (All-take (λ byte. byte < 2 ^ 8) 8 v h) i in
    omega arith

-- a word of a value gives its bytes back
pub bytes_word : (v : List ℕ) → All (λ byte. byte < 2 ^ 8) v → to_le_bytes w64 (word_of v) ≡ eight v
bytes_word v h = le_bytes_8 (eight v) (word_of v) (length_eight v) (small_eight v h) (word_eight v)

pub length_words_from : (n : ℕ) (v : List ℕ) → length (words_from n v) ≡ n
length_words_from zero v = refl
length_words_from (suc n) v = let e = length_words_from n (drop 8 v) in omega (arith, e)

again_short : (v rest : List ℕ) → length v < 8 → take (length v) (eight v ++ rest) ≡ v
unfolding eight
again_short v rest h =
    let whole : take 8 v ≡ v = take_all 8 v (omega arith) in
    ap (λ a. take (length v) ((a ++ replicate (8 - length v) 0) ++ rest)) whole ∙ grind (arith, common_steps, append_assoc, take-append-le, take_all)

again_long : (v rest : List ℕ) → take (length v - 8) rest ≡ drop 8 v → 8 ≤ length v → take (length v) (eight v ++ rest) ≡ v
unfolding eight
again_long v rest e h =
    let none : replicate {A = ℕ} (8 - length v) 0 ≡ [] = (let z : 8 - length v ≡ 0 = omega arith in ap (λ k. replicate {A = ℕ} k 0) z) in
    let n : length (take 8 v) + (length v - 8) ≡ length v = grind (arith, common_steps) in
    let more : take (length (take 8 v) + (length v - 8)) (take 8 v ++ rest) ≡ take 8 v ++ take (length v - 8) rest = take-append-add (take 8 v) rest (length v - 8) in
    ap (λ z. take (length v) ((take 8 v ++ z) ++ rest)) none ∙ ap (λ l. take (length v) (l ++ rest)) (append-nil (take 8 v)) ∙ ap (λ k. take k (take 8 v ++ rest)) (sym n) ∙ more ∙ ap (λ t. take 8 v ++ t) e ∙ take-append-drop 8 v

again_by : (v rest : List ℕ) → take (length v - 8) rest ≡ drop 8 v → take (length v) (eight v ++ rest) ≡ v
unfolding eight
again_by v rest h = ⊎_elim (again_short v rest) (again_long v rest h) (cases_lt (length v) 8)

-- a value is read from its words
pub value_again : (n : ℕ) (v : List ℕ) → All (λ byte. byte < 2 ^ 8) v → length v ≤ 8 * n → take (length v) (bytes_of (words_from n v)) ≡ v
value_again zero [] h b = refl
value_again zero (x ∷ v) h b = absurd (omega arith)
value_again (suc n) v h b =
    let rest : List ℕ = bytes_of (words_from n (drop 8 v)) in
    let small : length (drop 8 v) ≤ 8 * n = grind (arith, common_steps) in
    let shorter : length (drop 8 v) ≡ length v - 8 = grind (arith, common_steps) in
    let again : take (length (drop 8 v)) rest ≡ drop 8 v = value_again n (drop 8 v) (All-drop (λ byte. byte < 2 ^ 8) 8 v h) small in
    ap (λ bs. take (length v) (bs ++ rest)) (bytes_word v h) ∙ again_by v rest (ap (λ k. take k rest) (sym shorter) ∙ again)

-- nothing stands in the last word above the bytes
abbrev pub Filled : ℕ → ℕ → Type 0
Filled bytes last = (bytes % 8 ≡ 0) ⊎ (last / 2 ^ (8 * (bytes % 8)) ≡ 0)

abbrev pub last_word : List ℕ → ℕ
last_word [] = 0
last_word (w ∷ []) = w
last_word (w ∷ x ∷ ws) = last_word (x ∷ ws)

pub last_at : (n : ℕ) (ws rest : List ℕ) → length ws ≡ suc n → get_or (ws ++ rest) n 0 ≡ last_word ws
last_at n [] rest h = absurd (omega arith)
last_at zero (w ∷ []) rest h = refl
last_at (suc n) (w ∷ []) rest h = absurd (omega arith)
last_at zero (w ∷ x ∷ ws) rest h = absurd (omega arith)
last_at (suc n) (w ∷ x ∷ ws) rest h = last_at n (x ∷ ws) rest (omega arith)

-- a word of fewer than eight bytes has nothing above them
filled_word : (v : List ℕ) → ((i : ℕ) → get_or v i 0 < 256) → length v ≤ 8 → Filled (length v) (word_of v)
unfolding word_of
filled_word [] h b = inl refl
filled_word (a ∷ []) h b = inr (omega (arith, h 0))
filled_word (a ∷ b ∷ []) h l = inr (omega (arith, h 0, h 1))
filled_word (a ∷ b ∷ c ∷ []) h l = inr (omega (arith, h 0, h 1, h 2))
filled_word (a ∷ b ∷ c ∷ d ∷ []) h l = inr (omega (arith, h 0, h 1, h 2, h 3))
filled_word (a ∷ b ∷ c ∷ d ∷ e ∷ []) h l = inr (omega (arith, h 0, h 1, h 2, h 3, h 4))
filled_word (a ∷ b ∷ c ∷ d ∷ e ∷ f ∷ []) h l = inr (omega (arith, h 0, h 1, h 2, h 3, h 4, h 5))
filled_word (a ∷ b ∷ c ∷ d ∷ e ∷ f ∷ g ∷ []) h l = inr (omega (arith, h 0, h 1, h 2, h 3, h 4, h 5, h 6))
filled_word (a ∷ b ∷ c ∷ d ∷ e ∷ f ∷ g ∷ i ∷ []) h l = inl refl
filled_word (a ∷ b ∷ c ∷ d ∷ e ∷ f ∷ g ∷ i ∷ j ∷ v) h l = absurd (omega arith)

-- the words of a value have nothing above its bytes
pub filled_words : (n : ℕ) (v : List ℕ) → All (λ byte. byte < 2 ^ 8) v → words_for (length v) ≡ n → Filled (length v) (last_word (words_from n v))
filled_words zero v h e = inl (omega arith)
filled_words (suc zero) v h e = filled_word v (small_at v h) (omega arith)
filled_words (suc (suc n)) v h e =
    let shorter : length (drop 8 v) ≡ length v - 8 = grind (arith, common_steps) in
    let m : length (drop 8 v) % 8 ≡ length v % 8 = omega arith in
    let again : Filled (length (drop 8 v)) (last_word (words_from (suc n) (drop 8 v))) = filled_words (suc n) (drop 8 v) (All-drop (λ byte. byte < 2 ^ 8) 8 v h) (omega arith) in
    subst (λ k. (k ≡ 0) ⊎ (last_word (words_from (suc n) (drop 8 v)) / 2 ^ (8 * k) ≡ 0)) m again

-- more than the eight bytes of a word
taken_more : (a rest : List ℕ) (b : ℕ) → length a ≡ 8 → 8 ≤ b → take b (a ++ rest) ≡ a ++ take (b - 8) rest
taken_more a rest b e h =
    let n : length a + (b - 8) ≡ b = omega arith in
    ap (λ k. take k (a ++ rest)) (sym n) ∙ take-append-add a rest (b - 8)

first_word : (a rest : List ℕ) (b : ℕ) → length a ≡ 8 → 8 ≤ b → take 8 (take b (a ++ rest)) ≡ a
first_word a rest b e h = ap (λ t. take 8 t) (taken_more a rest b e h) ∙ ap (λ k. take k (a ++ take (b - 8) rest)) (sym e) ∙ take-append_seam a (take (b - 8) rest)

later_words : (a rest : List ℕ) (b : ℕ) → length a ≡ 8 → 8 ≤ b → drop 8 (take b (a ++ rest)) ≡ take (b - 8) rest
later_words a rest b e h = ap (λ t. drop 8 t) (taken_more a rest b e h) ∙ ap (λ k. drop k (a ++ take (b - 8) rest)) (sym e) ∙ drop-append_seam a (take (b - 8) rest)

word_first : (w b : ℕ) (rest : List ℕ) → w < 2 ^ 64 → 8 ≤ b → word_of (take b (to_le_bytes w64 w ++ rest)) ≡ w
unfolding word_of
word_first w b rest h l = ap (from_le_bytes w64) (first_word (to_le_bytes w64 w) rest b refl l) ∙ from_le_bytes-to_le_bytes_8 w h

word_last : (b w : ℕ) → w < 2 ^ 64 → 1 ≤ b → b ≤ 8 → Filled b w → word_of (take b (to_le_bytes w64 w)) ≡ w
unfolding word_of
word_last zero w h l m f = absurd (omega arith)
word_last (suc zero) w h l m f = ⊎_elim (λ z. absurd (omega arith)) (λ z. omega (arith, from_le_bytes-to_le_bytes_8 w h)) f
word_last (suc (suc zero)) w h l m f = ⊎_elim (λ z. absurd (omega arith)) (λ z. omega (arith, from_le_bytes-to_le_bytes_8 w h)) f
word_last (suc (suc (suc zero))) w h l m f = ⊎_elim (λ z. absurd (omega arith)) (λ z. omega (arith, from_le_bytes-to_le_bytes_8 w h)) f
word_last (suc (suc (suc (suc zero)))) w h l m f = ⊎_elim (λ z. absurd (omega arith)) (λ z. omega (arith, from_le_bytes-to_le_bytes_8 w h)) f
word_last (suc (suc (suc (suc (suc zero))))) w h l m f = ⊎_elim (λ z. absurd (omega arith)) (λ z. omega (arith, from_le_bytes-to_le_bytes_8 w h)) f
word_last (suc (suc (suc (suc (suc (suc zero)))))) w h l m f = ⊎_elim (λ z. absurd (omega arith)) (λ z. omega (arith, from_le_bytes-to_le_bytes_8 w h)) f
word_last (suc (suc (suc (suc (suc (suc (suc zero))))))) w h l m f = ⊎_elim (λ z. absurd (omega arith)) (λ z. omega (arith, from_le_bytes-to_le_bytes_8 w h)) f
word_last (suc (suc (suc (suc (suc (suc (suc (suc zero)))))))) w h l m f = from_le_bytes-to_le_bytes_8 w h
word_last (suc (suc (suc (suc (suc (suc (suc (suc (suc b))))))))) w h l m f = absurd (omega arith)

-- the words of the bytes that words have are these words
pub words_again : (ws : List ℕ) (b : ℕ) → words_for b ≡ length ws → All (λ w. w < 2 ^ 64) ws → Filled b (last_word ws) → words_from (length ws) (take b (bytes_of ws)) ≡ ws
words_again [] b e h f = refl
words_again (w ∷ []) b e h f =
    let here : w < 2 ^ 64 = All-head (λ w. w < 2 ^ 64) w [] h in
    ap (λ x. x ∷ []) (word_last b w here (omega arith) (omega arith) f)
words_again (w ∷ x ∷ ws) b e h f =
    let here : w < 2 ^ 64 = All-head (λ w. w < 2 ^ 64) w (x ∷ ws) h in
    let more : 8 ≤ b = omega arith in
    let m : b % 8 ≡ (b - 8) % 8 = omega arith in
    let rest : List ℕ = bytes_of (x ∷ ws) in
    let filled : Filled (b - 8) (last_word (x ∷ ws)) = subst (λ k. (k ≡ 0) ⊎ (last_word (x ∷ ws) / 2 ^ (8 * k) ≡ 0)) m f in
    let again : words_from (length (x ∷ ws)) (take (b - 8) rest) ≡ x ∷ ws = words_again (x ∷ ws) (b - 8) (omega arith) (All-tail (λ w. w < 2 ^ 64) w (x ∷ ws) h) filled in
    ap (λ y. y ∷ words_from (length (x ∷ ws)) (drop 8 (take b (to_le_bytes w64 w ++ rest)))) (word_first w b rest here more)
    ∙ ap (λ bs. w ∷ words_from (length (x ∷ ws)) bs) (later_words (to_le_bytes w64 w) rest b refl more)
    ∙ ap (λ t. w ∷ t) again

fewer : (v : List ℕ) (n : ℕ) → n ≡ min (length v) 8 → take n v ≡ take 8 v
fewer v n e = ⊎_elim (λ (h : length v < 8). take_all n v (omega arith) ∙ sym (take_all 8 v (omega arith))) (λ (h : 8 ≤ length v). (let m : n ≡ 8 = omega arith in ap (λ k. take k v) m)) (cases_lt (length v) 8)

-- the word of a value's bytes written over eight zeros
pub word_filled : (v new : List ℕ) (n w : ℕ) → n ≡ min (length v) 8 → new ≡ take n v → w ≡ from_le_bytes w64 (new ++ drop n (0 ∷ 0 ∷ 0 ∷ 0 ∷ 0 ∷ 0 ∷ 0 ∷ 0 ∷ [])) → w ≡ word_of v
unfolding word_of
word_filled v new n w e p r =
    let zeros : List ℕ = replicate 8 0 in
    let none : (k : ℕ) → get_or (drop n zeros) k 0 ≡ 0 = λ k. get_or-drop n zeros k 0 ∙ get_zeros 8 (n + k) in
    r ∙ ap (λ t. from_le_bytes w64 (t ++ drop n zeros)) p ∙ same_word (take n v ++ drop n zeros) (take n v) (λ i. get_filled (take n v) (drop n zeros) none i) ∙ ap (from_le_bytes w64) (fewer v n e)

-- one more word of a value, written at a place
pub one_more : (out bytes : List ℕ) (i count : ℕ) (w : ℕ) (all : List ℕ)
    → i < length out → i < count → w ≡ word_of (take (length bytes - 8 * i) (drop (8 * i) bytes))
    → take i out ++ words_from (count - i) (drop (8 * i) bytes) ≡ all
    → take (i + 1) (set out i w) ++ words_from (count - (i + 1)) (drop (8 * (i + 1)) bytes) ≡ all
one_more out bytes i count w all h l e g =
    let n : count - i ≡ suc (count - (i + 1)) = omega arith in
    let more : take (i + 1) (set out i w) ≡ take i out ++ w ∷ [] = grind (arith, common_steps) in
    let next : drop (8 * (i + 1)) bytes ≡ drop 8 (drop (8 * i) bytes) = (let k : 8 * (i + 1) ≡ 8 * i + 8 = omega arith in ap (λ k. drop k bytes) k ∙ sym (drop-drop 8 (8 * i) bytes)) in
    let whole : take (length bytes - 8 * i) (drop (8 * i) bytes) ≡ drop (8 * i) bytes = take_all (length bytes - 8 * i) (drop (8 * i) bytes) (grind (arith, common_steps)) in
    ap (λ t. t ++ words_from (count - (i + 1)) (drop (8 * (i + 1)) bytes)) more
    ∙ ap (λ t. (take i out ++ w ∷ []) ++ words_from (count - (i + 1)) t) next
    ∙ append_assoc (take i out) (w ∷ []) (words_from (count - (i + 1)) (drop 8 (drop (8 * i) bytes)))
    ∙ ap (λ x. take i out ++ x ∷ words_from (count - (i + 1)) (drop 8 (drop (8 * i) bytes))) (e ∙ ap word_of whole)
    ∙ ap (λ k. take i out ++ words_from k (drop (8 * i) bytes)) (sym n)
    ∙ g

pub rest_stays : (out old : List ℕ) (i count : ℕ) (w : ℕ) → i < count → drop count out ≡ drop count old → drop count (set out i w) ≡ drop count old
rest_stays out old i count w h e = grind (arith, common_steps)
