use Rattle.std.proofs.Common.{ℕ, ◌+◌, ◌≤◌, ◌≡◌, Bool, true, false, ◌&&◌, ◌==◌, nat_le, nat_eq, cond, if◌then◌else◌, List, [], ◌∷◌, ◌++◌, map, Option, Some, None, refl, sym, ◌∙◌, ap, arith}
use Rattle.std.proofs.lemmas.Bool.Decides.{nat_tests}
use Rattle.std.specs.List.{filter, last_or}
use Rattle.std.specs.Option.{option_map, option_or}
use Rattle.dn_pending.specs.declared.entries.Entry.{Entry}
use Rattle.dn_pending.specs.Entries.{last_of}
use Rattle.dn_pending.proofs.EntryLaws.{last_of-append}
use Rattle.dn_known.specs.Counting.{at_least}
use Rattle.dn_record.specs.declared.records.Record.{Record}
use Rattle.dn_record.specs.declared.records.Record.TheVariants.{Put, Delete, Share, Unshare, Loose, LooseDelete, Pad}
use Rattle.dn_model.specs.declared.logs.Placed.{Placed}
use Rattle.dn_owners.specs.declared.plain.Pending.{Pending}
use Rattle.dn_owners.specs.Counting.{pending_of, pending_in, pending_from, counts, last_counting}
use Rattle.dn_owners.specs.Sound.{Rise}
use Rattle.dn_owners.proofs.Ats.{same_some, none_some}
use Rattle.dn_learnt.specs.Learning.{pending_by}

-- The last entry of a key that counts, as the table finds it and as the records of a log have it.

-- ---- pending records whose offsets rise
abbrev pub Rises : ℕ → List Pending → Type 0
Rises a [] = Unit {0}
Rises a (q ∷ qs) = (a ≤ q.offset) × Rises (q.offset + 1) qs

rises_low : (a b : ℕ) (qs : List Pending) → b ≤ a → Rises a qs → Rises b qs
rises_low a b [] le r = tt
rises_low a b (q ∷ qs) le r = (omega (arith, le, r.0), r.1)

rises_of : (at : ℕ) (r : Record) (qs : List Pending) → Rises (at + 1) qs → Rises at (pending_of at r ++ qs)
rises_of at (Put key value) qs h = (omega arith, h)
rises_of at (Delete key) qs h = (omega arith, h)
rises_of at (Share key cell opening) qs h = (omega arith, h)
rises_of at (Unshare key named) qs h = (omega arith, h)
rises_of at (Loose key value) qs h = rises_low (at + 1) at qs (omega arith) h
rises_of at (LooseDelete key) qs h = rises_low (at + 1) at qs (omega arith) h
rises_of at (Pad words) qs h = rises_low (at + 1) at qs (omega arith) h

pub pending_rises : (a from : ℕ) (log : List Placed) → Rise a log → Rises a (pending_from from log)
pending_rises a from [] r = tt
pending_rises a from (p ∷ ps) r = by_test (pending_rises (p.offset + 1) from ps r.1) (nat_le from p.offset) where
  later : List Placed
  later = filter (λ (q : Placed). nat_le from q.offset) ps

  by_test : Rises (p.offset + 1) (pending_in later) → (b : Bool) → Rises a (pending_in (cond b (p ∷ later) later))
  by_test rest true = rises_low p.offset a (pending_of p.offset p.entry ++ pending_in later) r.0 (rises_of p.offset p.entry (pending_in later) rest)
  by_test rest false = rises_low (p.offset + 1) a (pending_in later) (omega (arith, r.0)) rest

-- ---- the last of a list
last_over : (x : Pending) (qs : List Pending) → last_or (Some x) qs ≡ option_or (last_or None qs) (Some x)
last_over x [] = refl
last_over x (q ∷ qs) = last_over q qs ∙ over (last_or None qs) ∙ ap (λ o. option_or o (Some x)) (sym (last_over q qs)) where
  over : (o : Option Pending) → option_or o (Some q) ≡ option_or (option_or o (Some q)) (Some x)
  over None = refl
  over (Some y) = refl

-- ---- the table's last entry of a key, where it counts
abbrev pub counted_at : ℕ → ℕ → Pending
counted_at key at = record { key = key; offset = at }

-- the last one is past the first
last_past : (key a at : ℕ) (es : List Entry) → Rises a (map pending_by es) → last_of key es ≡ Some at → a ≤ at
last_past key a at [] r e = absurd (none_some at e)
last_past key a at (x ∷ es) r e = by_rest (λ y f. last_past key (x.at + 1) y es r.1 f) (last_of key es) refl (sym (last_of-append key (x ∷ []) es) ∙ e) where
  alone : (b : Bool) → option_map (λ (y : Entry). y.at) (cond b (Some x) None) ≡ Some at → a ≤ at
  alone true f = omega (arith, r.0, same_some x.at at f)
  alone false f = absurd (none_some at f)

  by_rest : ((y : ℕ) → last_of key es ≡ Some y → x.at + 1 ≤ y) → (o : Option ℕ) → last_of key es ≡ o → option_or o (last_of key (x ∷ [])) ≡ Some at → a ≤ at
  by_rest past None f g = alone (x.key == key) g
  by_rest past (Some y) f g = let le : x.at + 1 ≤ y = past y f in omega (arith, le, r.0, same_some y at g)

abbrev pub counted_by : ℕ → Option ℕ → Option Pending
counted_by key o = option_map (counted_at key) o

at_test : (from at : ℕ) (u : Bool) → nat_le from at ≡ u → at_least from (Some at) ≡ (if u then Some at else None)
at_test from at u e = ap (λ (b : Bool). if b then Some at else None) e

same_key : (k key at : ℕ) → nat_eq k key ≡ true → counted_at k at ≡ counted_at key at
same_key k key at e = ap (λ x. counted_at x at) (agree k key e) where
  agree : (i j : ℕ) → nat_eq i j ≡ true → i ≡ j
  agree i j f = grind (arith, nat_tests, f)

still_counts : (from at y : ℕ) → nat_le from at ≡ true → at + 1 ≤ y → nat_le from y ≡ true
still_counts from at y e le = grind (arith, nat_tests, e, le)

pub counted_last : (key from a : ℕ) (es : List Entry) → Rises a (map pending_by es) → last_counting key from (map pending_by es) ≡ counted_by key (at_least from (last_of key es))
counted_last key from a [] r = refl
counted_last key from a (x ∷ es) r =
    by_rest (last_of key es) refl (counted_last key from (x.at + 1) es r.1) (nat_eq x.key key) refl (nat_le from x.at) refl
    ∙ ap (λ o. counted_by key (at_least from o)) (sym (last_of-append key (x ∷ []) es))
  where
    later : List Pending
    later = filter (counts key from) (map pending_by es)

    first : (o : Option Pending) → last_or None later ≡ o → last_or (Some (pending_by x)) later ≡ option_or o (Some (pending_by x))
    first o e = last_over (pending_by x) later ∙ ap (λ y. option_or y (Some (pending_by x))) e

    by_rest : (o : Option ℕ) → last_of key es ≡ o → last_or None later ≡ counted_by key (at_least from (last_of key es)) → (t : Bool) → nat_eq x.key key ≡ t → (u : Bool) → nat_le from x.at ≡ u
        → last_or None (cond (t && u) (pending_by x ∷ later) later) ≡ counted_by key (at_least from (option_or o (option_map (λ (y : Entry). y.at) (cond t (Some x) None))))
    by_rest None e rest true t true u =
        first None (rest ∙ ap (λ o. counted_by key (at_least from o)) e) ∙ ap Some (same_key x.key key x.at t) ∙ sym (ap (counted_by key) (at_test from x.at true u))
    by_rest None e rest true t false u = rest ∙ ap (λ o. counted_by key (at_least from o)) e ∙ sym (ap (counted_by key) (at_test from x.at false u))
    by_rest None e rest false t u f = rest ∙ ap (λ o. counted_by key (at_least from o)) e
    by_rest (Some y) e rest true t true u =
        let sees : nat_le from y ≡ true = still_counts from x.at y u (last_past key (x.at + 1) y es r.1 e) in
        let is : counted_by key (at_least from (Some y)) ≡ Some (counted_at key y) = ap (counted_by key) (at_test from y true sees) in
        first (Some (counted_at key y)) (rest ∙ ap (λ o. counted_by key (at_least from o)) e ∙ is) ∙ sym is
    by_rest (Some y) e rest true t false u = rest ∙ ap (λ o. counted_by key (at_least from o)) e
    by_rest (Some y) e rest false t u f = rest ∙ ap (λ o. counted_by key (at_least from o)) e
