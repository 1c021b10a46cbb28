use Rattle.std.proofs.Common.{ℕ, ◌≤◌, ◌≡◌, inl, Bool, true, false, nat_le, cond, if◌then◌else◌, List, [], ◌∷◌, ◌++◌, Option, Some, refl, sym, ◌∙◌, ap, arith}
use Rattle.std.proofs.lemmas.Bool.Decides.{nat_tests}
use Rattle.std.proofs.lemmas.List.Elements.{filter-append}
use Rattle.std.specs.List.{filter}
use Rattle.dn_word.specs.Ref.{ref_of}
use Rattle.dn_record.specs.declared.records.Record.{Record}
use Rattle.dn_record.specs.declared.records.Record.TheVariants.{Put, Delete, Share, Unshare, Loose, LooseDelete, Pad}
use Rattle.dn_model.specs.declared.logs.Placed.{Placed}
use Rattle.dn_model.specs.Held.{is_authority, record_at, authority_by}
use Rattle.dn_store.specs.State.{StoreState}
use Rattle.dn_store.specs.Changes.{indexed}
use Rattle.dn_store.specs.Holding.{owner_in, waiting, authority_in}
use Rattle.dn_store.proofs.At.{at_by}
use Rattle.dn_owners.specs.declared.plain.Pending.{Pending}
use Rattle.dn_owners.specs.Counting.{pending_of, pending_in, pending_from}
use Rattle.dn_owners.specs.Known.{Knows, Owners}
use Rattle.dn_owners.specs.Sound.{IsSound}
use Rattle.dn_owners.specs.Events.{Set, Trim, happens}
use Rattle.dn_owners.specs.Given.{IsSetting, IsGiven}
use Rattle.dn_owners.proofs.Last.{found_last}
use Rattle.dn_owners.proofs.Moves.{told_moved}
use Rattle.dn_owners.proofs.Looks.{learns_kept}

-- ---- A merger sets the index: the record waits, so it stays the authority.
pub waits_in : (o : Owners) (n k : ℕ) (p : Placed) (place : Option ℕ) → IsSound o → IsSetting o n k p place → (r : Record) × (waiting o.store (owner_in o.store k) k ≡ Some r)
waits_in o n k p place h g =
    let s : StoreState = o.store in
    let found = found_last k (s.marks n) (s.logs n) p (record { has = g.has; from = g.unmerged; authority = g.authority }) in
    (found.0, ap (λ m. waiting s m k) (h.one.each n k p g.has g.unmerged g.authority) ∙ found.1)

pub authority_set : (o : Owners) (n q : ℕ) (p : Placed) (place : Option ℕ) (k : ℕ) → IsSound o → IsSetting o n q p place → authority_in (indexed o.store q place) k ≡ authority_in o.store k
authority_set o n q p place k h g =
    let s : StoreState = o.store in
    at_by (λ x. authority_by s.logs k (waiting s (owner_in s k) k) x ≡ authority_in s k) s.index q place k
    (λ e. let w = waits_in o n q p place h g in
    let is : waiting s (owner_in s k) k ≡ Some w.0 = ap (λ y. waiting s (owner_in s y) y) e ∙ w.1 in
    ap (λ x. authority_by s.logs k x place) is ∙ sym (ap (λ x. authority_by s.logs k x (s.index k)) is))
    (λ d. refl)

pub set_kept : (o : Owners) (n k : ℕ) (p : Placed) (place : Option ℕ) → IsSound o → IsSetting o n k p place → IsSound (happens o (Set n k p place))
set_kept o n k p place h g =
    let s : StoreState = o.store in
    let now : StoreState = indexed s k place in
    record {
      one = h.one;
      idle = h.idle;
      leading = record {
        leads = λ q w. at_by (λ x. x ≡ Some w → (r : Record) × (record_at s.logs (ref_of w) ≡ Some r) × (is_authority q r ≡ true)) s.index k place q
            (λ e f. (p.entry, g.leads w f, ap (λ y. is_authority y p.entry) e ∙ g.authority)) (λ d. h.leading.leads q w);
      };
      looks = h.looks;
      past = h.past;
      pending = h.pending;
      counted = h.counted;
      told = λ m. told_moved (s.logs m) (s.gates m) s.deeds (authority_in s) (authority_in now) m (o.knows m) (λ q. inl (authority_set o n k p place q h g)) (h.told m);
      stamps = h.stamps;
      watched = h.watched;
    }

-- ---- A lane drops pending records.
none_left : (b : Bool) → (let e : List Pending = [] in e) ≡ (if b then [] else [])
none_left true = refl
none_left false = refl

one_left : (to at : ℕ) (r : Record) → filter (λ (q : Pending). nat_le to q.offset) (pending_of at r) ≡ (if nat_le to at then pending_of at r else [])
one_left to at (Put key value) = refl
one_left to at (Delete key) = refl
one_left to at (Share key cell opening) = refl
one_left to at (Unshare key x) = refl
one_left to at (Loose key value) = none_left (nat_le to at)
one_left to at (LooseDelete key) = none_left (nat_le to at)
one_left to at (Pad words) = none_left (nat_le to at)

left_from : (from to : ℕ) (log : List Placed) → from ≤ to → filter (λ (q : Pending). nat_le to q.offset) (pending_from from log) ≡ pending_from to log
left_from from to [] le = refl
left_from from to (p ∷ ps) le = by_tests (nat_le from p.offset) (nat_le to p.offset) refl refl (left_from from to ps le) where
  rest : ℕ → List Placed
  rest a = filter (λ (q : Placed). nat_le a q.offset) ps

  by_tests : (b c : Bool) → nat_le from p.offset ≡ b → nat_le to p.offset ≡ c → filter (λ (q : Pending). nat_le to q.offset) (pending_in (rest from)) ≡ pending_in (rest to)
      → filter (λ (q : Pending). nat_le to q.offset) (pending_in (cond b (p ∷ rest from) (rest from))) ≡ pending_in (cond c (p ∷ rest to) (rest to))
  by_tests true true e f h = filter-append (λ (q : Pending). nat_le to q.offset) (pending_of p.offset p.entry) (pending_in (rest from))
      ∙ ap (λ x. x ++ filter (λ (q : Pending). nat_le to q.offset) (pending_in (rest from))) (one_left to p.offset p.entry ∙ ap (λ b. if b then pending_of p.offset p.entry else []) f)
      ∙ ap (λ x. pending_of p.offset p.entry ++ x) h
  by_tests true false e f h = filter-append (λ (q : Pending). nat_le to q.offset) (pending_of p.offset p.entry) (pending_in (rest from))
      ∙ ap (λ x. x ++ filter (λ (q : Pending). nat_le to q.offset) (pending_in (rest from))) (one_left to p.offset p.entry ∙ ap (λ b. if b then pending_of p.offset p.entry else []) f)
      ∙ h
  by_tests false true e f h = absurd (grind (arith, nat_tests))
  by_tests false false e f h = h

pub trim_kept : (o : Owners) (n to : ℕ) → IsSound o → IsGiven o (Trim n to) → IsSound (happens o (Trim n to))
trim_kept o n to h g =
    let was : Knows = o.knows n in
    learns_kept o n (record was { pending = filter (λ (q : Pending). nat_le to q.offset) was.pending; dropped = to }) h (record {
      looks = record { held = (h.looks n).held; learnt = (h.looks n).learnt; running = (h.looks n).running };
      past = record { each = (h.past n).each };
      pending = record {
        keeps = λ e. ap (filter (λ (q : Pending). nat_le to q.offset)) ((h.pending n).keeps e) ∙ left_from was.dropped to (o.store.logs n) g.0;
        low = λ e. g.1;
      };
      counted = record { each = (h.counted n).each };
      told = record { each = (h.told n).each };
    })
