use Rattle.std.proofs.Common.{ℕ, ◌+◌, ◌<◌, ◌≤◌, ◌≡◌, ◌⊎◌, inl, inr, Bool, true, false, if◌then◌else◌, List, [], ◌∷◌, ◌++◌, Contains, Some, nat_eq, refl, sym, ◌∙◌, ap, subst, arith}
use Rattle.std.proofs.lemmas.Bool.Decides.{nat_tests}
use Rattle.dn_word.specs.declared.packed.gate.Gate.{Gate}
use Rattle.dn_word.specs.declared.packed.deed.DeedState.{DeedState}
use Rattle.dn_word.specs.declared.packed.deed.DeedState.TheVariants.{Nobody, Owned, Leaving, Released}
use Rattle.dn_record.specs.Record.{length_in_words}
use Rattle.dn_record.specs.declared.records.Record.{Record}
use Rattle.dn_model.specs.Regions.{gate, deed, slot_of, offsets, IsLane}
use Rattle.dn_model.specs.Log.{Tiles}
use Rattle.dn_model.specs.declared.logs.Placed.{Placed}
use Rattle.dn_model.specs.Held.{entry_at}
use Rattle.dn_model.proofs.HashLaws.{slot_below}
use Rattle.dn_model.proofs.MapLaws.{one_log, lane_or_not}
use Rattle.dn_store.specs.Cut.{words_in}
use Rattle.dn_owners.proofs.Ats.{none_some, same_some}
use Rattle.dn_owners.proofs.Logs.{nil_has, head_has, tail_has, cons_cases}
use Rattle.dn_beside.specs.Pool.{Pool, store_in, IsWhole}
use Rattle.dn_lane.specs.State.{LaneState}
use Rattle.dn_machine.specs.State.{Machine}
use Rattle.dn_machine.specs.Sound.{IsMachineAt}
use Rattle.dn_parts.specs.Sealed.{IsSealed}
use Rattle.dn_parts.specs.Owning.{IsClear}

-- What a reader of the words finds is what the pool has.

-- a machine with the pool's words is the machine
pub by_words : (P : Machine → Type 0) (p : Pool) (m : Machine) → p.words ≡ m.words → P (record m { words = p.words }) → P m
by_words P p m e h = subst (λ (ws : List ℕ). P (record m { words = ws })) e h

abbrev pub seen : Pool → Machine → Machine
seen p m = record m { words = p.words }

-- ---- lanes
pub lane_of : (p : Pool) (m : Machine) (n : ℕ) (l : LaneState) → IsMachineAt p m → m.lanes n ≡ Some l → IsLane n
lane_of p m n l h is = let made = h.actors.made n l is in h.actors.numbers n made.0 made.1

pub is_clear : (p : Pool) (m : Machine) (n : ℕ) (l : LaneState) → IsMachineAt p m → IsClear (seen p m) n l → ((store_in p).gates n).fenced ≡ false
is_clear p m n l h c = ap (λ (g : Gate). g.fenced) (sym (h.whole.represents.table.gates n (lane_of p m n l h c.runs).below)) ∙ c.unfenced

-- ---- sealed records
pub sealed_has : (p : Pool) (n : ℕ) (x : Placed) → IsWhole p → IsSealed p.words n x → Contains ((store_in p).logs n) x
sealed_has p n x h s =
    let P : List Placed → Type 0 = λ log. Contains log x in
    subst P (one_log p.words n s.log ((store_in p).logs n) s.is (h.represents.reads.logs_are n s.lane)) s.has

pub has_sealed : (p : Pool) (n : ℕ) (x : Placed) → IsWhole p → Contains ((store_in p).logs n) x → IsSealed p.words n x
has_sealed p n x h c = elim (lane_or_not n) [
  | inl l ↦ record { lane = l; log = (store_in p).logs n; is = h.represents.reads.logs_are n l; has = c }
  | inr l ↦ (let P : List Placed → Type 0 = λ log. Contains log x in absurd (nil_has x (subst P (h.represents.reads.no_more n l) c)))
]

-- the record at an offset stands in the log
pub record IsRecordAt (o : ℕ) (log : List Placed) (r : Record) : Type 0 where
  pub p : Placed
  pub has : Contains log p
  pub offset : p.offset ≡ o
  pub entry : p.entry ≡ r

record_by : (o : ℕ) (x : Placed) (xs : List Placed) (r : Record) (b : Bool) → nat_eq x.offset o ≡ b → (entry_at o xs ≡ Some r → IsRecordAt o xs r)
    → (if b then Some x.entry else entry_at o xs) ≡ Some r → IsRecordAt o (x ∷ xs) r
record_by o x xs r true t rest e = record { p = x; has = head_has x xs; offset = grind (arith, nat_tests, t); entry = same_some x.entry r e }
record_by o x xs r false t rest e = let y = rest e in record { p = y.p; has = tail_has x xs y.p y.has; offset = y.offset; entry = y.entry }

pub record_found : (o : ℕ) (log : List Placed) (r : Record) → entry_at o log ≡ Some r → IsRecordAt o log r
record_found o [] r e = absurd (none_some r e)
record_found o (x ∷ xs) r e = record_by o x xs r (nat_eq x.offset o) refl (record_found o xs r) e

-- ---- a record that begins below the mark is merged whole
tiled_from : (w : ℕ → ℕ) (o end : ℕ) (log : List Placed) (p : Placed) → Tiles w o log end → Contains log p → o ≤ p.offset
tiled_from w o end [] p h c = absurd (nil_has p c)
tiled_from w o end (x ∷ xs) p h c = elim (cons_cases x xs p c) [
  | inl e ↦ omega (arith, ap (λ (y : Placed). y.offset) e, h.0)
  | inr d ↦ omega (arith, tiled_from w (o + length_in_words x.entry) end xs p h.2 d)
]

whole_below : (w : ℕ → ℕ) (o end : ℕ) (before after : List Placed) (p : Placed) → Tiles w o (before ++ after) end → Contains (before ++ after) p → p.offset < o + words_in before
    → p.offset + length_in_words p.entry ≤ o + words_in before
whole_below w o end [] after p h c lt = absurd (omega (arith, lt, tiled_from w o end after p h c))
whole_below w o end (x ∷ xs) after p h c lt = elim (cons_cases x (xs ++ after) p c) [
  | inl e ↦ omega (arith, h.0, ap (λ (y : Placed). y.offset) e, ap (λ (y : Placed). length_in_words y.entry) e)
  | inr d ↦ (
      let le = whole_below w (o + length_in_words x.entry) end xs after p h.2 d (omega (arith, lt)) in omega (arith, le))
]

pub merged_whole : (p : Pool) (n : ℕ) (x : Placed) → IsWhole p → IsSealed p.words n x → x.offset < (store_in p).marks n → x.offset + length_in_words x.entry ≤ (store_in p).marks n
merged_whole p n x h s lt =
    let cut = h.represents.merged n in
    let words = cut.words in
    let P : List Placed → Type 0 = λ log. Tiles (offsets p.words n) 0 log (gate p.words n).len in
    let Q : List Placed → Type 0 = λ log. Contains log x in
    let le = whole_below (offsets p.words n) 0 (gate p.words n).len cut.before cut.after x (subst P cut.whole (h.represents.reads.logs_are n s.lane).tiled)
    (subst Q cut.whole (sealed_has p n x h s)) (omega (arith, lt, words)) in
    omega (arith, le, words)

-- ---- deeds
nobody_in : (s : DeedState) → (s ≡ Nobody) ⊎ ((s ≡ Nobody) → ⊥)
nobody_in Nobody = inl refl
nobody_in Owned = inr (λ e. absurd (cc e))
nobody_in Leaving = inr (λ e. absurd (cc e))
nobody_in Released = inr (λ e. absurd (cc e))

-- a deed's lane has a gate: it is a lane, or 0
pub deed_low : (p : Pool) (t : ℕ) → IsWhole p → t < 64 → ((store_in p).deeds t).lane < 64
deed_low p t h lt = elim (nobody_in ((store_in p).deeds t).state) [
  | inl e ↦ omega (arith, h.sound.idle.slots t lt e)
  | inr d ↦ ((h.deeds t lt).names d).below
]

pub deed_is : (p : Pool) (k : ℕ) → IsWhole p → deed p.words (slot_of k) ≡ (store_in p).deeds (slot_of k)
deed_is p k h = h.represents.table.deeds (slot_of k) (slot_below k)

pub owner_low : (p : Pool) (k : ℕ) → IsWhole p → ((store_in p).deeds (slot_of k)).lane < 64
owner_low p k h = deed_low p (slot_of k) h (slot_below k)
