use Rattle.std.proofs.Common.{ℕ, ◌+◌, ◌<◌, ◌≤◌, ◌≡◌, inl, inr, true, false, List, [], ◌∷◌, ◌++◌, max, Option, Contains, refl, sym, ◌∙◌, ap, subst, arith, append_assoc, append-nil}
use Rattle.std.proofs.lemmas.Grind.{common_steps}
use Rattle.std.proofs.lemmas.Bool.{false≢true, cases_lt}
use Rattle.std.proofs.lemmas.List.Elements.{Contains-append_left, Contains-append_right, Contains-append_cases}
use Rattle.std.proofs.lemmas.List.Sorted.{Contains-permutation, IsPermutation-sym}
use Rattle.std.specs.FinMap.{get, empty, gets}
use Rattle.std.specs.List.Sorted.{IsPermutation}
use Rattle.std.specs.Ordering.{nat_cmp}
use Rattle.dn_hist.specs.Calls.{Bytes, key_of, found_of, reply_of, map_after}
use Rattle.dn_hist.specs.Receipt.{IsInOrder}
use Rattle.dn_hist.specs.Replay.{IsLegalFrom, map_from, IsLegal, map_left}
use Rattle.dn_hist.specs.declared.calls.Call.{Call}
use Rattle.dn_hist.specs.declared.calls.Call.TheVariants.{Get, Put, Delete}
use Rattle.dn_hist.specs.declared.calls.Reply.{Reply}
use Rattle.dn_hist.specs.declared.receipts.Receipt.{Receipt}
use Rattle.dn_model.specs.Register.{is_write, written_by, Writes, StandsBefore, LeavesFrom, IsRightFrom, IsLegalByStampFrom, IsRegisterFrom, IsLegalByStamp, IsRegister, nothing}
use Rattle.dn_model.proofs.RegisterLaws.{Precedes, order_before, order_after, stands_along, legal_along, stands_one, leaves_past, map_step}

-- ---- a list that holds the history is at hand all the time
head_in : (pre : List Receipt) (d : Receipt) (ds : List Receipt) → Contains (pre ++ d ∷ ds) d
head_in pre d ds = Contains-append_right pre (d ∷ ds) d (0, omega arith, refl)

front_in : (pre : List Receipt) (d : Receipt) (ds : List Receipt) (w : Receipt) → Contains pre w → Contains (pre ++ d ∷ ds) w
front_in pre d ds w c = Contains-append_left pre (d ∷ ds) w c

one_in : (d w : Receipt) → Contains (d ∷ []) w → d ≡ w
one_in d w j = grind (arith, common_steps, j.1, j.2)

-- where a write up to a read's stamp stands: before the read
stands_before : (start : ℕ → Option (List ℕ)) (pre : List Receipt) (d : Receipt) (ds : List Receipt) (w : Receipt) → IsInOrder (pre ++ d ∷ ds) → IsLegalByStampFrom start (pre ++ d ∷ ds) → is_write d.call d.reply ≡ false → Contains (pre ++ d ∷ ds) w → Writes w (key_of d.call) (d.position.stamp + 1) → Contains pre w
stands_before start pre d ds w up l f c h = elim (Contains-append_cases pre (d ∷ ds) w c) [
  | inl i ↦ i
  | inr i ↦ elim (Contains-append_cases (d ∷ []) ds w i) [
    | inl j ↦ absurd (false≢true (sym f ∙ ap (λ (r : Receipt). is_write r.call r.reply) (one_in d w j) ∙ h.write))
    | inr j ↦ absurd (late (order_after pre d ds w up j))
  ]
] where
  late : Precedes d.position w.position → ⊥
  late p =
      let e : w.position.stamp ≡ d.position.stamp = omega (arith, p.stamp, h.below) in
      let r : 0 < d.position.rank = l.behind w d c (head_in pre d ds) h.key e h.write f in
      omega (arith, r, p.rank (sym e), l.first w c h.write)

-- and a write below a write's stamp before that
stands_below : (pre : List Receipt) (d : Receipt) (ds : List Receipt) (w : Receipt) → IsInOrder (pre ++ d ∷ ds) → Contains (pre ++ d ∷ ds) w → Writes w (key_of d.call) d.position.stamp → Contains pre w
stands_below pre d ds w up c h = elim (Contains-append_cases pre (d ∷ ds) w c) [
  | inl i ↦ i
  | inr i ↦ elim (Contains-append_cases (d ∷ []) ds w i) [
    | inl j ↦ absurd (omega (arith, h.below, ap (λ (r : Receipt). r.position.stamp) (one_in d w j)))
    | inr j ↦ absurd (omega (arith, h.below, (order_after pre d ds w up j).stamp))
  ]
]

-- what the calls before a receipt leave is what stands there, where the writes that count are the same: those of its key before a
-- stamp, in the whole list, and those before it
same_by : (start : ℕ → Option (List ℕ)) (all pre : List Receipt) (k t u : ℕ) (v w : Option (List ℕ)) → IsLegalByStampFrom start all → ((r : Receipt) → Contains pre r → Contains all r)
    → ((r : Receipt) → Contains all r → Writes r k t → Contains pre r × Writes r k u) → ((r : Receipt) → Contains pre r → Writes r k u → Writes r k t)
    → StandsBefore start all k t v → StandsBefore start pre k u w → v ≡ w
same_by start all pre k t u v w l in_all to from (inl a) (inl b) = a.is ∙ sym b.is
same_by start all pre k t u v w l in_all to from (inl a) (inr b) = absurd (a.none b.last (in_all b.last b.among) (from b.last b.among b.writes))
same_by start all pre k t u v w l in_all to from (inr a) (inl b) = (let m = to a.last a.among a.writes in absurd (b.none a.last m.0 m.1))
same_by start all pre k t u v w l in_all to from (inr a) (inr b) =
    let m = to a.last a.among a.writes in
    let high = b.greatest a.last m.0 m.1 in
    let back = in_all b.last b.among in
    let low = a.greatest b.last back (from b.last b.among b.writes) in
    let same : a.last ≡ b.last = l.alone a.last b.last a.among back (a.writes.key ∙ sym b.writes.key) (omega (arith, high, low)) a.writes.write b.writes.write in
    a.is ∙ ap (λ (r : Receipt). written_by r.call) same ∙ sym b.is

-- what the plain map has is what the read is right by
same_left : (start : ℕ → Option (List ℕ)) (pre : List Receipt) (d : Receipt) (ds : List Receipt) (T : ℕ) (v u : Option (List ℕ)) → IsInOrder (pre ++ d ∷ ds) → IsLegalByStampFrom start (pre ++ d ∷ ds) → is_write d.call d.reply ≡ false → ((r : Receipt) → Contains (pre ++ d ∷ ds) r → r.position.stamp ≤ T)
    → LeavesFrom start (pre ++ d ∷ ds) (key_of d.call) d.position.stamp v → LeavesFrom start pre (key_of d.call) T u → v ≡ u
same_left start pre d ds T v u up l f top h g =
    same_by start (pre ++ d ∷ ds) pre (key_of d.call) (d.position.stamp + 1) (T + 1) v u l (λ r c. front_in pre d ds r c)
    (λ r c w. (stands_before start pre d ds r up l f c w, record { write = w.write; key = w.key; below = omega (arith, top r c) }))
    (λ r c w. record { write = w.write; key = w.key; below = omega (arith, (order_before pre d ds r up c).stamp) }) h g

-- a write that isn't met before has a stamp of its own
own_stamp : (start : ℕ → Option (List ℕ)) (pre : List Receipt) (d : Receipt) (ds : List Receipt) (r : Receipt) → IsInOrder (pre ++ d ∷ ds) → IsLegalByStampFrom start (pre ++ d ∷ ds) → is_write d.call d.reply ≡ true → (Contains pre d → ⊥)
    → Contains pre r → is_write r.call r.reply ≡ true → key_of r.call ≡ key_of d.call → r.position.stamp < d.position.stamp
own_stamp start pre d ds r up l w once c x k = elim (cases_lt r.position.stamp d.position.stamp) [
  | inl lt ↦ lt
  | inr le ↦ (let same : r ≡ d = l.alone r d (front_in pre d ds r c) (head_in pre d ds) k (omega (arith, le, (order_before pre d ds r up c).stamp)) x w in
      let P : Receipt → Type 0 = λ y. Contains pre y in absurd (once (subst P same c)))
]

-- what the plain map has is what stood before the write
same_stood : (start : ℕ → Option (List ℕ)) (pre : List Receipt) (d : Receipt) (ds : List Receipt) (T : ℕ) (v u : Option (List ℕ)) → IsInOrder (pre ++ d ∷ ds) → IsLegalByStampFrom start (pre ++ d ∷ ds) → is_write d.call d.reply ≡ true → (Contains pre d → ⊥) → ((r : Receipt) → Contains (pre ++ d ∷ ds) r → r.position.stamp ≤ T)
    → StandsBefore start (pre ++ d ∷ ds) (key_of d.call) d.position.stamp v → LeavesFrom start pre (key_of d.call) T u → v ≡ u
same_stood start pre d ds T v u up l f once top h g =
    same_by start (pre ++ d ∷ ds) pre (key_of d.call) d.position.stamp (T + 1) v u l (λ r c. front_in pre d ds r c)
    (λ r c w. (stands_below pre d ds r up c w, record { write = w.write; key = w.key; below = omega (arith, top r c) }))
    (λ r c w. record { write = w.write; key = w.key; below = own_stamp start pre d ds r up l f once c w.write w.key }) h g

answer : (start : ℕ → Option (List ℕ)) (rs : List Receipt) (t : ℕ) (c : Call) (reply : Reply) (m : Bytes) → IsRightFrom start rs t c reply → ((v : Option (List ℕ)) → is_write c reply ≡ false → LeavesFrom start rs (key_of c) t v → v ≡ get m (key_of c)) → reply ≡ reply_of c m
answer start rs t (Get key) reply m h f = h.2 ∙ ap found_of (f h.0 refl h.1)
answer start rs t (Put key value) reply m h f = h
answer start rs t (Delete key) reply m h f = h

-- ---- the history, from a place on, with the map of the calls before it
along : (P : List Receipt → Type 0) (xs ys : List Receipt) → xs ≡ ys → P xs → P ys
along P xs ys e h = subst P e h

-- what a part of the history leaves
left_walk : (start : ℕ → Option (List ℕ)) (pre ds rest : List Receipt) (m : Bytes) (T : ℕ) → IsInOrder (pre ++ (ds ++ rest)) → ((r : Receipt) → Contains (pre ++ (ds ++ rest)) r → r.position.stamp ≤ T)
    → ((q : ℕ) → LeavesFrom start pre q T (get m q)) → (q : ℕ) → LeavesFrom start (pre ++ ds) q T (get (map_from m ds) q)
left_walk start pre [] rest m T up top h q = along (λ xs. LeavesFrom start xs q T (get m q)) pre (pre ++ []) (sym (append-nil pre)) (h q)
left_walk start pre (d ∷ ds) rest m T up top h q =
    let e : pre ++ (d ∷ (ds ++ rest)) ≡ (pre ++ d ∷ []) ++ (ds ++ rest) = sym (append_assoc pre (d ∷ []) (ds ++ rest)) in
    let step : (x : ℕ) → LeavesFrom start (pre ++ d ∷ []) x T (get (map_after d.call m) x) = λ x.
    map_step start pre d m x T d.call refl (top d (head_in pre d (ds ++ rest))) (λ r c. order_before pre d (ds ++ rest) r up c) (h x) in
    along (λ xs. LeavesFrom start xs q T (get (map_from (map_after d.call m) ds) q)) ((pre ++ d ∷ []) ++ ds) (pre ++ d ∷ ds) (append_assoc pre (d ∷ []) ds)
    (left_walk start (pre ++ d ∷ []) ds rest (map_after d.call m) T (along (λ xs. IsInOrder xs) (pre ++ (d ∷ (ds ++ rest))) ((pre ++ d ∷ []) ++ (ds ++ rest)) e up)
    (along (λ xs. (r : Receipt) → Contains xs r → r.position.stamp ≤ T) (pre ++ (d ∷ (ds ++ rest))) ((pre ++ d ∷ []) ++ (ds ++ rest)) e top) step q)

pub walk : (start : ℕ → Option (List ℕ)) (hs pre ds : List Receipt) (m : Bytes) (T : ℕ) → hs ≡ pre ++ ds → IsInOrder hs → IsLegalByStampFrom start hs → ((r : Receipt) → Contains hs r → r.position.stamp ≤ T)
    → ((q : ℕ) → LeavesFrom start pre q T (get m q)) → IsLegalFrom m ds × ((q : ℕ) → LeavesFrom start hs q T (get (map_from m ds) q))
walk start hs pre [] m T e up l top h = (tt, λ q. let P : List Receipt → Type 0 = λ xs. LeavesFrom start xs q T (get m q) in subst P (sym (e ∙ append-nil pre)) (h q))
walk start hs pre (d ∷ ds) m T e up l top h =
    let Up : List Receipt → Type 0 = λ xs. IsInOrder xs in
    let Legal : List Receipt → Type 0 = λ xs. IsLegalByStampFrom start xs in
    let Top : List Receipt → Type 0 = λ xs. (r : Receipt) → Contains xs r → r.position.stamp ≤ T in
    let up' = subst Up e up in
    let l' = subst Legal e l in
    let top' = subst Top e top in
    let step : (q : ℕ) → LeavesFrom start (pre ++ d ∷ []) q T (get (map_after d.call m) q) = λ q. map_step start pre d m q T d.call refl (top' d (head_in pre d ds)) (λ r c. order_before pre d ds r up' c) (h q) in
    let rest = walk start hs (pre ++ d ∷ []) ds (map_after d.call m) T (e ∙ sym (append_assoc pre (d ∷ []) ds)) up l top step in
    ((answer start (pre ++ d ∷ ds) d.position.stamp d.call d.reply m (l'.replies d (head_in pre d ds)) (λ v w x. same_left start pre d ds T v (get m (key_of d.call)) up' l' w top' x (h (key_of d.call))), rest.0), rest.1)

-- a bound of all stamps
abbrev top_of : List Receipt → ℕ
top_of [] = 0
top_of (r ∷ rs) = max r.position.stamp (top_of rs)

under_top : (rs : List Receipt) (r : Receipt) → Contains rs r → r.position.stamp ≤ top_of rs
under_top [] r c = absurd (omega (arith, c.1))
under_top (x ∷ rs) r c = elim (Contains-append_cases (x ∷ []) rs r c) [
  | inl i ↦ (let e : x ≡ r = grind (arith, common_steps, i.1, i.2) in omega (arith, ap (λ (y : Receipt). y.position.stamp) e))
  | inr i ↦ omega (arith, under_top rs r i)
]

none_yet : (start : ℕ → Option (List ℕ)) (m : Bytes) (q T : ℕ) → get m q ≡ start q → LeavesFrom start [] q T (get m q)
none_yet start m q T e = inl (record { none = λ r c w. absurd (omega (arith, c.1)); is = e })

-- receipts that are legal by their stamps make a legal history, in whatever order of position they stand
pub legal_in_order_from : (start : ℕ → Option (List ℕ)) (m : Bytes) (rs hs : List Receipt) → ((k : ℕ) → get m k ≡ start k) → IsLegalByStampFrom start rs → IsPermutation rs hs → IsInOrder hs → IsLegalFrom m hs
legal_in_order_from start m rs hs e l p up =
    let legal = legal_along start rs hs (λ r c. Contains-permutation rs hs r p c) (λ r c. Contains-permutation hs rs r (IsPermutation-sym rs hs p) c) l in
    (walk start hs [] hs m (top_of hs) refl up legal (under_top hs) (λ q. none_yet start m q (top_of hs) (e q))).0

-- ---- the same of a register, with the map that the history leaves
pub register_in_order_from : (start held : ℕ → Option (List ℕ)) (m : Bytes) (bound : ℕ → ℕ) (rs hs : List Receipt) → ((k : ℕ) → get m k ≡ start k) → IsRegisterFrom start held bound rs → IsPermutation rs hs → IsInOrder hs
    → IsLegalFrom m hs × ((k : ℕ) → get (map_from m hs) k ≡ held k)
register_in_order_from start held m bound rs hs e g p up =
    let to : (r : Receipt) → Contains rs r → Contains hs r = λ r c. Contains-permutation rs hs r p c in
    let from : (r : Receipt) → Contains hs r → Contains rs r = λ r c. Contains-permutation hs rs r (IsPermutation-sym rs hs p) c in
    let legal = legal_along start rs hs to from g.legal in
    let both = walk start hs [] hs m (top_of hs) refl up legal (under_top hs) (λ q. none_yet start m q (top_of hs) (e q)) in (
      both.0,
      λ k.
          let T : ℕ = top_of hs + bound k in
          let left = leaves_past start hs k (top_of hs) T (get (map_from m hs) k) (λ r c x. under_top hs r c) (omega arith) (both.1 k) in
          let kept = stands_along start rs hs k (bound k + 1) (held k) to from (g.values k) in
          let right = leaves_past start hs k (bound k) T (held k) (λ r c x. omega (arith, g.stamps r (from r c), ap bound x)) (omega arith) kept in
          stands_one start hs k (T + 1) (get (map_from m hs) k) (held k) legal left right,
    )

-- what stands before a write is what the history before it leaves, where the write is met once
pub stood_before : (start : ℕ → Option (List ℕ)) (m : Bytes) (pre ds : List Receipt) (d : Receipt) (v : Option (List ℕ)) → ((k : ℕ) → get m k ≡ start k) → IsLegalByStampFrom start (pre ++ d ∷ ds) → IsInOrder (pre ++ d ∷ ds)
    → is_write d.call d.reply ≡ true → (Contains pre d → ⊥) → StandsBefore start (pre ++ d ∷ ds) (key_of d.call) d.position.stamp v → v ≡ get (map_from m pre) (key_of d.call)
stood_before start m pre ds d v e l up w once h =
    let T : ℕ = top_of (pre ++ d ∷ ds) in
    same_stood start pre d ds T v (get (map_from m pre) (key_of d.call)) up l w once (under_top (pre ++ d ∷ ds)) h
    (left_walk start [] pre (d ∷ ds) m T up (under_top (pre ++ d ∷ ds)) (λ q. none_yet start m q T (e q)) (key_of d.call))

-- ---- and of the register that starts empty
empty_start : (k : ℕ) → get (empty {K = ℕ} {X = List ℕ} {R = nat_cmp}) k ≡ nothing k
empty_start k = grind (arith, common_steps, gets)

pub legal_in_order : (rs hs : List Receipt) → IsLegalByStamp rs → IsPermutation rs hs → IsInOrder hs → IsLegal hs
legal_in_order rs hs = legal_in_order_from nothing empty rs hs empty_start

pub register_in_order : (held : ℕ → Option (List ℕ)) (bound : ℕ → ℕ) (rs hs : List Receipt) → IsRegister held bound rs → IsPermutation rs hs → IsInOrder hs → IsLegal hs × ((k : ℕ) → get (map_left hs) k ≡ held k)
register_in_order held bound rs hs = register_in_order_from nothing held empty bound rs hs empty_start
