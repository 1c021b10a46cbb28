use Rattle.std.proofs.Common.{ℕ, ◌+◌, ◌<◌, ◌≤◌, ◌≡◌, inl, inr, true, false, List, [], ◌∷◌, ◌++◌, length, get_or, Option, Some, None, Contains, refl, sym, ◌∙◌, ap, subst, arith}
use Rattle.std.proofs.lemmas.Grind.{common_steps}
use Rattle.std.proofs.lemmas.Bool.{false≢true, cases_eq}
use Rattle.std.proofs.lemmas.List.Elements.{Contains-append_left, Contains-push, Contains-push_cases}
use Rattle.std.proofs.lemmas.List.Sorted.{sorted_far}
use Rattle.std.proofs.lemmas.List.MinMax.{ranks_by}
use Rattle.std.proofs.lemmas.List.{get_or_append_left, get_or-append-add, get_or_default}
use Rattle.std.proofs.lemmas.Cmp.{nat_cmp_total, on_total, then_total, ranked}
use Rattle.std.proofs.Math.Seq.{get_or-append_seam}
use Rattle.std.specs.Cmp.{IsTotalOrder}
use Rattle.std.specs.FinMap.{get, insert, remove, gets}
use Rattle.std.specs.Ordering.{nat_cmp, ordering_then, is_lt}
use Rattle.std.specs.declared.cmp.Ordering.{Ordering}
use Rattle.std.specs.declared.cmp.Ordering.TheVariants.{Less, Equal, Greater}
use Rattle.dn_word.specs.declared.positions.Position.{Position}
use Rattle.dn_hist.specs.Calls.{Bytes, key_of, map_after}
use Rattle.dn_hist.specs.Receipt.{position_cmp, IsInOrder}
use Rattle.dn_hist.specs.declared.calls.Call.{Call}
use Rattle.dn_hist.specs.declared.calls.Call.TheVariants.{Get, Put, Delete}
use Rattle.dn_hist.specs.declared.calls.Reply.{Reply}
use Rattle.dn_hist.specs.declared.receipts.Receipt.{Receipt}
use Rattle.dn_model.specs.Register.{is_write, written_by, Writes, StandsBefore, LeavesFrom, IsRightFrom, IsLegalByStampFrom}

-- ---- one more receipt
writes_along : (r s : Receipt) (k t : ℕ) → r ≡ s → Writes r k t → Writes s k t
writes_along r s k t e w = let P : Receipt → Type 0 = λ x. Writes x k t in subst P e w

-- one that doesn't write k up to t leaves what was left there
pub stands_other : (start : ℕ → Option (List ℕ)) (rs : List Receipt) (d : Receipt) (k t : ℕ) (v : Option (List ℕ)) → (Writes d k t → ⊥) → StandsBefore start rs k t v → StandsBefore start (rs ++ d ∷ []) k t v
stands_other start rs d k t v other (inl h) = inl (record {
  none = λ r among w. elim (Contains-push_cases rs d r among) [ inl i ↦ h.none r i w | inr e ↦ other (writes_along r d k t (sym e) w) ];
  is = h.is;
})
stands_other start rs d k t v other (inr h) = inr (record {
  last = h.last;
  among = Contains-append_left rs (d ∷ []) h.last h.among;
  writes = h.writes;
  greatest = λ r among w. elim (Contains-push_cases rs d r among) [ inl i ↦ h.greatest r i w | inr e ↦ absurd (other (writes_along r d k t (sym e) w)) ];
  is = h.is;
})

-- one that writes k at a stamp past the others' leaves its own value
pub stands_write : (start : ℕ → Option (List ℕ)) (rs : List Receipt) (d : Receipt) (k t : ℕ) → Writes d k t → ((r : Receipt) → Contains rs r → Writes r k t → r.position.stamp ≤ d.position.stamp) → StandsBefore start (rs ++ d ∷ []) k t (written_by d.call)
stands_write start rs d k t w top = inr (record {
  last = d;
  among = Contains-push rs d;
  writes = w;
  greatest = λ r among v. elim (Contains-push_cases rs d r among) [ inl i ↦ top r i v | inr e ↦ omega (arith, ap (λ (x : Receipt). x.position.stamp) e) ];
  is = refl;
})

-- ---- the order of positions
pub record Precedes (a b : Position) : Type 0 where
  pub stamp : a.stamp ≤ b.stamp
  pub rank : a.stamp ≡ b.stamp → a.rank ≤ b.rank

by_rank : (a b : Position) (o : Ordering) → b.stamp ≡ a.stamp → o ≡ nat_cmp b.rank a.rank → is_lt (ordering_then o (nat_cmp b.session a.session)) ≡ false → Precedes a b
by_rank a b Less e r h = absurd (false≢true (sym h))
by_rank a b Equal e r h = let f : b.rank ≡ a.rank = ranked b.rank a.rank Equal r in record { stamp = omega arith; rank = λ _. omega arith }
by_rank a b Greater e r h = let f : a.rank < b.rank = ranked b.rank a.rank Greater r in record { stamp = omega arith; rank = λ _. omega arith }

by_stamp : (a b : Position) (o : Ordering) → o ≡ nat_cmp b.stamp a.stamp → is_lt (ordering_then o (ordering_then (nat_cmp b.rank a.rank) (nat_cmp b.session a.session))) ≡ false → Precedes a b
by_stamp a b Less e h = absurd (false≢true (sym h))
by_stamp a b Equal e h = by_rank a b (nat_cmp b.rank a.rank) (ranked b.stamp a.stamp Equal e) refl h
by_stamp a b Greater e h = let f : a.stamp < b.stamp = ranked b.stamp a.stamp Greater e in record { stamp = omega arith; rank = λ s. absurd (omega arith) }

precedes : (a b : Position) → is_lt (position_cmp b a) ≡ false → Precedes a b
precedes a b h = by_stamp a b (nat_cmp b.stamp a.stamp) refl h

position_total : IsTotalOrder position_cmp
position_total = then_total (on_total (λ (p : Position). p.stamp) nat_cmp_total) (then_total (on_total (λ (p : Position). p.rank) nat_cmp_total) (on_total (λ (p : Position). p.session) nat_cmp_total))

at_far : (hs : List Receipt) (i j : ℕ) (a b : Receipt) → IsInOrder hs → i ≤ j → j < length hs → get_or hs i a ≡ a → get_or hs j b ≡ b → Precedes a.position b.position
at_far hs i j a b up le lt e f =
    let far = sorted_far (λ (x y : Receipt). is_lt (position_cmp x.position y.position)) (ranks_by position_total (λ (r : Receipt). r.position)) hs up i j a le lt in
    let g : get_or hs j a ≡ b = get_or_default hs j a b lt ∙ f in
    let P : Receipt → Type 0 = λ x. is_lt (position_cmp x.position (get_or hs i a).position) ≡ false in
    let Q : Receipt → Type 0 = λ x. is_lt (position_cmp b.position x.position) ≡ false in
    precedes a.position b.position (subst Q e (subst P g far))

length-seam : (pre : List Receipt) (d : Receipt) (ds : List Receipt) → length pre < length (pre ++ d ∷ ds)
length-seam pre d ds = grind (arith, common_steps)

pub order_before : (pre : List Receipt) (d : Receipt) (ds : List Receipt) (w : Receipt) → IsInOrder (pre ++ d ∷ ds) → Contains pre w → Precedes w.position d.position
order_before pre d ds w up c = at_far (pre ++ d ∷ ds) c.0 (length pre) w d up (omega (arith, c.1)) (length-seam pre d ds)
    (get_or_append_left pre (d ∷ ds) w c.0 c.1 ∙ c.2) (get_or-append_seam pre d ds d)

pub order_after : (pre : List Receipt) (d : Receipt) (ds : List Receipt) (w : Receipt) → IsInOrder (pre ++ d ∷ ds) → Contains ds w → Precedes d.position w.position
order_after pre d ds w up c =
    let at : get_or (pre ++ d ∷ ds) (length pre + (c.0 + 1)) w ≡ w = get_or-append-add pre (d ∷ ds) (c.0 + 1) w ∙ grind (arith, common_steps, c.2) in
    at_far (pre ++ d ∷ ds) (length pre) (length pre + (c.0 + 1)) d w up (omega arith) (let l : c.0 < length ds = c.1 in grind (arith, common_steps)) (get_or-append_seam pre d ds d) at

-- ---- one list in place of another with the same receipts
pub stands_along : (start : ℕ → Option (List ℕ)) (rs hs : List Receipt) (k t : ℕ) (v : Option (List ℕ)) → ((r : Receipt) → Contains rs r → Contains hs r) → ((r : Receipt) → Contains hs r → Contains rs r) → StandsBefore start rs k t v → StandsBefore start hs k t v
stands_along start rs hs k t v to from (inl h) = inl (record { none = λ r among w. h.none r (from r among) w; is = h.is })
stands_along start rs hs k t v to from (inr h) = inr (record {
  last = h.last;
  among = to h.last h.among;
  writes = h.writes;
  greatest = λ r among w. h.greatest r (from r among) w;
  is = h.is;
})

right_along : (start : ℕ → Option (List ℕ)) (rs hs : List Receipt) (t : ℕ) (call : Call) (reply : Reply) → ((r : Receipt) → Contains rs r → Contains hs r) → ((r : Receipt) → Contains hs r → Contains rs r) → IsRightFrom start rs t call reply → IsRightFrom start hs t call reply
right_along start rs hs t (Get key) reply to from h = (h.0, stands_along start rs hs key (t + 1) h.0 to from h.1, h.2)
right_along start rs hs t (Put key value) reply to from h = h
right_along start rs hs t (Delete key) reply to from h = h

pub legal_along : (start : ℕ → Option (List ℕ)) (rs hs : List Receipt) → ((r : Receipt) → Contains rs r → Contains hs r) → ((r : Receipt) → Contains hs r → Contains rs r) → IsLegalByStampFrom start rs → IsLegalByStampFrom start hs
legal_along start rs hs to from h = record {
  replies = λ r c. right_along start rs hs r.position.stamp r.call r.reply to from (h.replies r (from r c));
  first = λ r c. h.first r (from r c);
  alone = λ r s c d. h.alone r s (from r c) (from s d);
  behind = λ r s c d. h.behind r s (from r c) (from s d);
}

-- ---- what the writes leave is one value
pub stands_one : (start : ℕ → Option (List ℕ)) (rs : List Receipt) (k t : ℕ) (v u : Option (List ℕ)) → IsLegalByStampFrom start rs → StandsBefore start rs k t v → StandsBefore start rs k t u → v ≡ u
stands_one start rs k t v u l (inl a) (inl b) = a.is ∙ sym b.is
stands_one start rs k t v u l (inl a) (inr b) = absurd (a.none b.last b.among b.writes)
stands_one start rs k t v u l (inr a) (inl b) = absurd (b.none a.last a.among a.writes)
stands_one start rs k t v u l (inr a) (inr b) =
    let low = a.greatest b.last b.among b.writes in
    let high = b.greatest a.last a.among a.writes in
    let same : a.last ≡ b.last = l.alone a.last b.last a.among b.among (a.writes.key ∙ sym b.writes.key) (omega arith) a.writes.write b.writes.write in
    a.is ∙ ap (λ (r : Receipt). written_by r.call) same ∙ sym b.is

-- past the stamps of a key the bound doesn't matter
pub stands_past : (start : ℕ → Option (List ℕ)) (rs : List Receipt) (k t u : ℕ) (v : Option (List ℕ)) → ((r : Receipt) → Contains rs r → key_of r.call ≡ k → r.position.stamp < t) → t ≤ u → StandsBefore start rs k t v → StandsBefore start rs k u v
stands_past start rs k t u v top le (inl h) = inl (record { none = λ r c w. h.none r c (record { write = w.write; key = w.key; below = top r c w.key }); is = h.is })
stands_past start rs k t u v top le (inr h) = inr (record {
  last = h.last;
  among = h.among;
  writes = record { write = h.writes.write; key = h.writes.key; below = (let f : h.last.position.stamp < t = h.writes.below in omega arith) };
  greatest = λ r c w. h.greatest r c (record { write = w.write; key = w.key; below = top r c w.key });
  is = h.is;
})

pub leaves_past : (start : ℕ → Option (List ℕ)) (rs : List Receipt) (k t u : ℕ) (v : Option (List ℕ)) → ((r : Receipt) → Contains rs r → key_of r.call ≡ k → r.position.stamp ≤ t) → t ≤ u → LeavesFrom start rs k t v → LeavesFrom start rs k u v
leaves_past start rs k t u v top le h = stands_past start rs k (t + 1) (u + 1) v (λ r c e. omega (arith, top r c e)) (omega arith) h

-- ---- the plain map behind the calls so far has what their writes leave
not_write : (c : Call) (reply : Reply) (key : ℕ) → c ≡ Get key → is_write c reply ≡ true → ⊥
not_write c reply key e w = false≢true (sym (ap (λ x. is_write x reply) e) ∙ w)

pub map_write : (start : ℕ → Option (List ℕ)) (pre : List Receipt) (d : Receipt) (m : Bytes) (key q T : ℕ) (new : Option (List ℕ)) (n : Bytes) → (is_write d.call d.reply ≡ true) → (key_of d.call ≡ key) → d.position.stamp ≤ T → new ≡ written_by d.call
    → ((r : Receipt) → Contains pre r → Precedes r.position d.position)
    → ((q ≡ key) → get n q ≡ new) → ((q ≡ key → ⊥) → get n q ≡ get m q)
    → LeavesFrom start pre q T (get m q) → LeavesFrom start (pre ++ d ∷ []) q T (get n q)
map_write start pre d m key q T new n w e le is before here there h = elim (cases_eq q key) [
  | inl s ↦ (let P : Option (List ℕ) → Type 0 = λ v. LeavesFrom start (pre ++ d ∷ []) q T v in
      subst P (sym (here s ∙ is)) (stands_write start pre d q (T + 1) (record { write = w; key = e ∙ sym s; below = omega (arith, le) }) (λ r c x. (before r c).stamp)))
  | inr s ↦ (let P : Option (List ℕ) → Type 0 = λ v. LeavesFrom start (pre ++ d ∷ []) q T v in
      subst P (sym (there s)) (stands_other start pre d q (T + 1) (get m q) (λ x. s (sym x.key ∙ e)) h))
]

put_same : (m : Bytes) (key : ℕ) (value : List ℕ) (q : ℕ) → q ≡ key → get (insert m key value) q ≡ Some value
put_same m key value q e = grind (arith, common_steps, gets)

put_other : (m : Bytes) (key : ℕ) (value : List ℕ) (q : ℕ) → (q ≡ key → ⊥) → get (insert m key value) q ≡ get m q
put_other m key value q e = grind (arith, common_steps, gets)

gone_same : (m : Bytes) (key : ℕ) (q : ℕ) → q ≡ key → get (remove m key) q ≡ None
gone_same m key q e = grind (arith, common_steps, gets)

gone_other : (m : Bytes) (key : ℕ) (q : ℕ) → (q ≡ key → ⊥) → get (remove m key) q ≡ get m q
gone_other m key q e = grind (arith, common_steps, gets)

pub map_step : (start : ℕ → Option (List ℕ)) (pre : List Receipt) (d : Receipt) (m : Bytes) (q T : ℕ) (c : Call) → d.call ≡ c → d.position.stamp ≤ T → ((r : Receipt) → Contains pre r → Precedes r.position d.position) → LeavesFrom start pre q T (get m q) → LeavesFrom start (pre ++ d ∷ []) q T (get (map_after c m) q)
map_step start pre d m q T (Get key) e le before h = stands_other start pre d q (T + 1) (get m q) (λ w. not_write d.call d.reply key e w.write) h
map_step start pre d m q T (Put key value) e le before h = map_write start pre d m key q T (Some value) (insert m key value) (ap (λ x. is_write x d.reply) e) (ap key_of e) le (sym (ap written_by e)) before (put_same m key value q) (put_other m key value q) h
map_step start pre d m q T (Delete key) e le before h = map_write start pre d m key q T None (remove m key) (ap (λ x. is_write x d.reply) e) (ap key_of e) le (sym (ap written_by e)) before (gone_same m key q) (gone_other m key q) h
