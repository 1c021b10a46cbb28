use Rattle.std.proofs.Common.{ℕ, ◌≡◌, ◌≢◌, inl, inr, true, List, [], ◌∷◌, ◌++◌, Contains, Option, Some, None, sym, ◌∙◌, ap, arith}
use Rattle.std.proofs.lemmas.Bool.{false≢true}
use Rattle.std.proofs.lemmas.Bool.Decides.{nat_tests}
use Rattle.std.proofs.lemmas.List.Elements.{Contains-append_right}
use Rattle.dn_record.specs.Record.{key_of}
use Rattle.dn_record.specs.declared.records.Record.{Record}
use Rattle.dn_record.specs.declared.records.Record.TheVariants.{Put, Delete, Share, Unshare, Loose, LooseDelete, Pad}
use Rattle.dn_log.specs.declared.plans.Plan.{Plan}
use Rattle.dn_model.specs.declared.logs.Placed.{Placed}
use Rattle.dn_model.specs.Held.{is_authority, unmerged}
use Rattle.dn_model.specs.OneLog.{is_plain}
use Rattle.dn_owners.specs.Counting.{pending_in}
use Rattle.dn_owners.specs.declared.plain.Pending.{Pending}
use Rattle.dn_owners.proofs.Ats.{same_some, none_some}
use Rattle.dn_owners.proofs.Logs.{nil_has, head_has, cons_cases}
use Rattle.dn_owners.proofs.Last.{last_found, found_last, found_none}
use Rattle.dn_reach.specs.Placing.{pads_of, placed_by}

-- The records that a seal of a put or delete adds to a log.

-- a plain record with a key is an authority record of that key alone
alone : (r : Record) (k q : ℕ) → is_plain r ≡ true → key_of r ≡ Some k → is_authority q r ≡ true → q ≡ k
alone (Put key value) k q p e a = let s = same_some key k e in grind (arith, nat_tests)
alone (Delete key) k q p e a = let s = same_some key k e in grind (arith, nat_tests)
alone (Share key cell opening) k q p e a = absurd (false≢true p)
alone (Unshare key at) k q p e a = absurd (false≢true p)
alone (Loose key value) k q p e a = absurd (false≢true p)
alone (LooseDelete key) k q p e a = absurd (false≢true p)
alone (Pad words) k q p e a = absurd (false≢true a)

own_authority : (r : Record) (k : ℕ) → is_plain r ≡ true → key_of r ≡ Some k → is_authority k r ≡ true
own_authority (Put key value) k p e = let s = same_some key k e in grind (arith, nat_tests)
own_authority (Delete key) k p e = let s = same_some key k e in grind (arith, nat_tests)
own_authority (Share key cell opening) k p e = absurd (false≢true p)
own_authority (Unshare key at) k p e = absurd (false≢true p)
own_authority (Loose key value) k p e = absurd (false≢true p)
own_authority (LooseDelete key) k p e = absurd (false≢true p)
own_authority (Pad words) k p e = absurd (none_some k e)

-- ---- each of them is a pad or the record
abbrev both : Option (ℕ × ℕ) → ℕ → Record → List Placed
both pad at r = pads_of pad ++ record { offset = at; entry = r } ∷ []

last_own : (at : ℕ) (r : Record) (p : Placed) → Contains (both None at r) p → p.entry ≡ r
last_own at r p c = elim (cons_cases (record { offset = at; entry = r }) [] p c) [
  | inl s ↦ ap (λ (x : Placed). x.entry) (sym s)
  | inr n ↦ absurd (nil_has p n)
]

both_own : (pad : Option (ℕ × ℕ)) (at : ℕ) (r : Record) (q : ℕ) (p : Placed) → Contains (both pad at r) p → is_authority q p.entry ≡ true → p.entry ≡ r
both_own None at r q p c e = last_own at r p c
both_own (Some pad) at r q p c e = elim (cons_cases (record { offset = pad.0; entry = Pad pad.1 }) (both None at r) p c) [
  | inl s ↦ absurd (false≢true (ap (λ (x : Placed). is_authority q x.entry) s ∙ e))
  | inr n ↦ last_own at r p n
]

both_plain : (pad : Option (ℕ × ℕ)) (at : ℕ) (r : Record) (p : Placed) → is_plain r ≡ true → Contains (both pad at r) p → is_plain p.entry ≡ true
both_plain None at r p e c = ap is_plain (last_own at r p c) ∙ e
both_plain (Some pad) at r p e c = elim (cons_cases (record { offset = pad.0; entry = Pad pad.1 }) (both None at r) p c) [
  | inl s ↦ ap (λ (x : Placed). is_plain x.entry) (sym s)
  | inr n ↦ ap is_plain (last_own at r p n) ∙ e
]

pub placed_plain : (plan : Plan) (r : Record) (p : Placed) → is_plain r ≡ true → Contains (placed_by plan r) p → is_plain p.entry ≡ true
placed_plain plan r p e c = both_plain plan.pad plan.at r p e c

-- ---- what they leave at a key
pub placed_key : (plan : Plan) (r s : Record) (k q : ℕ) → is_plain r ≡ true → key_of r ≡ Some k → unmerged q 0 (placed_by plan r) ≡ Some s → (s ≡ r) × (q ≡ k)
placed_key plan r s k q p e u =
    let c = last_found q 0 (placed_by plan r) s u in
    let own : c.of.entry ≡ r = both_own plan.pad plan.at r q c.of c.found.has c.found.authority in
    (sym c.is ∙ own, alone r k q p e (ap (is_authority q) (sym own) ∙ c.found.authority))

pub placed_none : (plan : Plan) (r : Record) (k q : ℕ) → is_plain r ≡ true → key_of r ≡ Some k → q ≢ k → unmerged q 0 (placed_by plan r) ≡ None
placed_none plan r k q p e d = found_none q 0 (placed_by plan r) (λ x c.
    let own : x.entry ≡ r = both_own plan.pad plan.at r q x c.has c.authority in
    d (alone r k q p e (ap (is_authority q) (sym own) ∙ c.authority)))

pub placed_last : (plan : Plan) (r : Record) (k : ℕ) → is_plain r ≡ true → key_of r ≡ Some k → unmerged k 0 (placed_by plan r) ≡ Some r
placed_last plan r k p e =
    let last : Placed = record { offset = plan.at; entry = r } in
    let f = found_last k 0 (placed_by plan r) last (record { has = Contains-append_right (pads_of plan.pad) (last ∷ []) last (head_has last []); from = omega arith; authority = own_authority r k p e }) in
    f.1 ∙ ap Some (placed_key plan r f.0 k k p e f.1).0

-- ---- and the lane has one more pending record
alone_pending : (at : ℕ) (r : Record) (k : ℕ) → is_plain r ≡ true → key_of r ≡ Some k → pending_in (record { offset = at; entry = r } ∷ []) ≡ record { key = k; offset = at } ∷ []
alone_pending at (Put key value) k p e = ap (λ x. (let y : Pending = record { key = x; offset = at } in y) ∷ []) (same_some key k e)
alone_pending at (Delete key) k p e = ap (λ x. (let y : Pending = record { key = x; offset = at } in y) ∷ []) (same_some key k e)
alone_pending at (Share key cell opening) k p e = absurd (false≢true p)
alone_pending at (Unshare key named) k p e = absurd (false≢true p)
alone_pending at (Loose key value) k p e = absurd (false≢true p)
alone_pending at (LooseDelete key) k p e = absurd (false≢true p)
alone_pending at (Pad words) k p e = absurd (none_some k e)

both_pending : (pad : Option (ℕ × ℕ)) (at : ℕ) (r : Record) (k : ℕ) → is_plain r ≡ true → key_of r ≡ Some k → pending_in (both pad at r) ≡ record { key = k; offset = at } ∷ []
both_pending None at r k p e = alone_pending at r k p e
both_pending (Some pad) at r k p e = alone_pending at r k p e

pub placed_pending : (plan : Plan) (r : Record) (k : ℕ) → is_plain r ≡ true → key_of r ≡ Some k → pending_in (placed_by plan r) ≡ record { key = k; offset = plan.at } ∷ []
placed_pending plan r k p e = both_pending plan.pad plan.at r k p e
