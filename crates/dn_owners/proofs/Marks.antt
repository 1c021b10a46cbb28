use Rattle.std.proofs.Common.{ℕ, ◌≤◌, ◌≡◌, ◌⊎◌, inl, inr, true, if◌then◌else◌, List, ◌∷◌, ◌++◌, Contains, Option, Some, None, refl, sym, ◌∙◌, ap, subst, arith}
use Rattle.std.proofs.lemmas.List.Elements.{Contains-append_cases}
use Rattle.dn_word.specs.Ref.{ref_of}
use Rattle.dn_record.specs.declared.records.Record.{Record}
use Rattle.dn_record.specs.declared.records.Record.TheVariants.{Delete}
use Rattle.dn_model.specs.declared.logs.Placed.{Placed}
use Rattle.dn_model.specs.Held.{Found, Says, Astray, is_authority, unmerged, record_at, authority_by, led_to}
use Rattle.dn_store.specs.State.{StoreState}
use Rattle.dn_store.specs.Changes.{marked}
use Rattle.dn_store.specs.Holding.{owner_in, authority_in}
use Rattle.dn_store.proofs.At.{at_by}
use Rattle.dn_owners.specs.Known.{Owners}
use Rattle.dn_owners.specs.Sound.{Rise, IsOrdered, IsSound}
use Rattle.dn_owners.specs.Events.{Pass, happens}
use Rattle.dn_owners.specs.Given.{IsPassing}
use Rattle.dn_owners.specs.Later.{Forgets}
use Rattle.dn_owners.proofs.Ats.{none_or_some}
use Rattle.dn_owners.proofs.Logs.{cons_cases, rise_before}
use Rattle.dn_owners.proofs.Last.{IsFound, last_found, found_last, none_found, same_last}
use Rattle.dn_owners.proofs.Moves.{Moves, told_moved}

-- A mark goes past a record that the index follows.

-- ---- what waits in the log
record IsPast (log : List Placed) (old to : ℕ) (p : Placed) : Type 0 where
  rises : Rise 0 log
  before : List Placed
  after : List Placed
  is : log ≡ before ++ p ∷ after
  at : old ≡ p.offset
  rest : (q : Placed) → Contains after q → to ≤ q.offset

-- what waited and waits no more is the record that was passed
passed_one : (log : List Placed) (old to : ℕ) (p q : Placed) → IsPast log old to p → Contains log q → old ≤ q.offset → (to ≤ q.offset → ⊥) → p ≡ q
passed_one log old to p q h c le low =
    let P : List Placed → Type 0 = λ x. Contains x q in
    let R : List Placed → Type 0 = λ x. Rise 0 x in
    elim (Contains-append_cases h.before (p ∷ h.after) q (subst P h.is c)) [
      | inl i ↦ absurd (omega (arith, rise_before 0 h.before h.after p q (subst R h.is h.rises) i, le, h.at))
      | inr j ↦ elim (cons_cases p h.after q j) [ inl e ↦ e | inr i ↦ absurd (low (h.rest q i)) ]
    ]

-- the same waits of the key as before, or the passed record did and nothing does
data Waits (k : ℕ) (p : Placed) (old new : Option Record) : Type 0 where
  Same : new ≡ old → Waits k p old new
  Gone : new ≡ None → old ≡ Some p.entry → is_authority k p.entry ≡ true → Waits k p old new

waits : (k : ℕ) (log : List Placed) (old to : ℕ) (p : Placed) → IsPast log old to p → old ≤ to → Waits k p (unmerged k old log) (unmerged k to log)
waits k log old to p h le = elim (none_or_some (unmerged k to log)) [
  | inr s ↦ (
      let c = last_found k to log s.0 s.1 in
      let f : IsFound k old log c.of = record { has = c.found.has; from = omega (arith, c.found.from, le); authority = c.found.authority } in
      let was = found_last k old log c.of f in
      Same (s.1 ∙ ap Some (same_last k to old log s.0 was.0 h.rises s.1 was.1) ∙ sym was.1))
  | inl n ↦ elim (none_or_some (unmerged k old log)) [
    | inl m ↦ Same (n ∙ sym m)
    | inr s ↦ (
        let c = last_found k old log s.0 s.1 in
        let e : p ≡ c.of = passed_one log old to p c.of h c.found.has c.found.from (λ t. none_found k to log c.of n (record { has = c.found.has; from = t; authority = c.found.authority })) in
        Gone n (s.1 ∙ ap Some (sym (ap (λ (q : Placed). q.entry) e ∙ c.is))) (ap (λ (q : Placed). is_authority k q.entry) e ∙ c.found.authority))
  ]
]

-- ---- the authority: what the index gives is the same record, or the Delete is forgotten
led_is : (k : ℕ) (r : Record) (x : Option Record) → x ≡ Some r → is_authority k r ≡ true → led_to k x ≡ Says (Some r)
led_is k r x e a = ap (led_to k) e ∙ ap (λ b. if b then Says (Some r) else Astray) a

abbrev pub MovesPast : Placed → Found (Option Record) → Found (Option Record) → ℕ → Type 0
MovesPast p old new k = (new ≡ old) ⊎ ((p.entry ≡ Delete k) × Forgets old new k)

moved_by : (o : Owners) (n to : ℕ) (p : Placed) (k : ℕ) (old new : Option Record) → IsPassing o n to p → Waits k p old new
    → MovesPast p (authority_by o.store.logs k old (o.store.index k)) (authority_by o.store.logs k new (o.store.index k)) k
moved_by o n to p k old new g (Same e) = inl (ap (λ x. authority_by o.store.logs k x (o.store.index k)) e)
moved_by o n to p k old new g (Gone e f a) =
    let logs = o.store.logs in
    let was : authority_by logs k old (o.store.index k) ≡ Says (Some p.entry) = ap (λ x. authority_by logs k x (o.store.index k)) f in
    let is : authority_by logs k new (o.store.index k) ≡ authority_by logs k None (o.store.index k) = ap (λ x. authority_by logs k x (o.store.index k)) e in
    elim (g.followed k a) [
      | inl w ↦ inl (is ∙ ap (λ x. authority_by logs k None x) w.1 ∙ led_is k p.entry (record_at logs (ref_of w.0)) w.2 a ∙ sym was)
      | inr d ↦ inr (d.1, (was ∙ ap (λ r. Says (Some r)) d.1, is ∙ ap (λ x. authority_by logs k None x) d.0))
    ]

pub authority_passed : (o : Owners) (n to : ℕ) (p : Placed) (k : ℕ) → IsOrdered o.store.logs o.store.gates o.store.marks → IsPassing o n to p
    → MovesPast p (authority_in o.store k) (authority_in (marked o.store n to) k) k
authority_passed o n to p k i g =
    let s : StoreState = o.store in
    let m : ℕ = owner_in s k in
    at_by (λ x. MovesPast p (authority_in s k) (authority_by s.logs k (unmerged k x (s.logs m)) (s.index k)) k) s.marks n to m
    (λ e. let past : IsPast (s.logs m) (s.marks m) to p = record { rises = i.rise m; before = g.before; after = g.after; is = ap s.logs e ∙ g.log; at = ap s.marks e ∙ g.at; rest = g.rest } in
    moved_by o n to p k (unmerged k (s.marks m) (s.logs m)) (unmerged k to (s.logs m)) g (waits k (s.logs m) (s.marks m) to p past (omega (arith, ap s.marks e, g.at, g.past))))
    (λ d. inl refl)

pub moves_past : (p : Placed) (old new : Found (Option Record)) (k : ℕ) → MovesPast p old new k → Moves old new k
moves_past p old new k m = elim m [ inl e ↦ inl e | inr d ↦ inr d.1 ]

pub pass_kept : (o : Owners) (n to : ℕ) (p : Placed) → IsOrdered o.store.logs o.store.gates o.store.marks → IsSound o → IsPassing o n to p → IsSound (happens o (Pass n to p))
pass_kept o n to p i h g =
    let s : StoreState = o.store in
    let now : StoreState = marked s n to in
    let grows : (m : ℕ) → s.marks m ≤ now.marks m = λ m. at_by (λ x. s.marks m ≤ x) s.marks n to m (λ e. omega (arith, ap s.marks e, g.at, g.past)) (λ d. omega arith) in
    record {
      one = record { each = λ m k q c le a. h.one.each m k q c (omega (arith, grows m, le)) a };
      idle = h.idle;
      leading = h.leading;
      looks = h.looks;
      past = h.past;
      pending = λ m. record { keeps = (h.pending m).keeps; low = λ e. omega (arith, (h.pending m).low e, grows m) };
      counted = λ m. record { each = λ k q w c le a. (h.counted m).each k q w c (omega (arith, grows m, le)) a };
      told = λ m. told_moved (s.logs m) (s.gates m) s.deeds (authority_in s) (authority_in now) m (o.knows m)
          (λ k. moves_past p (authority_in s k) (authority_in now k) k (authority_passed o n to p k i g)) (h.told m);
      stamps = h.stamps;
      watched = h.watched;
    }
