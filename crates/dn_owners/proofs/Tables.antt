use Rattle.std.proofs.Common.{ℕ, ◌≡◌, inl, inr, true, false, List, [], ◌∷◌, ◌++◌, Option, Some, None, refl, sym, ◌∙◌, ap}
use Rattle.std.proofs.lemmas.Bool.{false≢true}
use Rattle.dn_word.specs.Ref.{ref_of}
use Rattle.dn_word.specs.declared.packed.place.Ref.{Ref}
use Rattle.dn_word.specs.declared.packed.deed.Deed.{Deed}
use Rattle.dn_record.specs.Record.{value_of}
use Rattle.dn_record.specs.declared.records.Record.{Record}
use Rattle.dn_record.specs.declared.records.Record.TheVariants.{Put, Delete, Share, Unshare, Loose, LooseDelete, Pad}
use Rattle.dn_model.specs.Regions.{slot_of}
use Rattle.dn_model.specs.OneLog.{is_plain}
use Rattle.dn_model.specs.declared.logs.Placed.{Placed}
use Rattle.dn_model.specs.Held.{Found, Says, Astray, is_authority, unmerged, record_at, holder_at, holder_from, value_in, held_by, held_from, named, cell_word}
use Rattle.dn_store.specs.State.{with_at}
use Rattle.dn_store.specs.Holding.{owner_in, authority_in}
use Rattle.dn_store.proofs.At.{at_same, at_by}
use Rattle.dn_owners.specs.Known.{Look, Owners}
use Rattle.dn_owners.specs.Sound.{IsOrdered, IsSound, Agrees}
use Rattle.dn_owners.specs.Events.{Event, Look_known, Look_new, End, Raise, Seal, Promise, Trim, Set, Pass, Fence, Leave, Release, Watches, Grant, Adopt, Stop, Begin, happens}
use Rattle.dn_owners.specs.Given.{IsGiven}
use Rattle.dn_owners.specs.Later.{AuthorityAfter, HeldAfter}
use Rattle.dn_owners.proofs.Ats.{none_some, none_or_some}
use Rattle.dn_owners.proofs.Last.{last_found}
use Rattle.dn_owners.proofs.Moves.{Moves, agrees_moved, said_moved, authority_deeds}
use Rattle.dn_owners.proofs.Gates.{raise_kept, fence_kept}
use Rattle.dn_owners.proofs.Deeds.{leave_kept, release_kept, watch_kept}
use Rattle.dn_owners.proofs.Looks.{look_known_kept, look_new_kept, end_kept, stop_kept, begin_kept, promise_kept}
use Rattle.dn_owners.proofs.Marks.{authority_passed, moves_past, pass_kept}
use Rattle.dn_owners.proofs.Sets.{authority_set, set_kept, trim_kept}
use Rattle.dn_owners.proofs.Grants.{watched_grant, idle_grant, grant_authority, grant_kept, adopt_kept}
use Rattle.dn_owners.proofs.Seals.{IsOwnSeal, own_seal, authority_new, authority_old, record_more, seal_kept}

-- ---- each event keeps every part
pub kept : (o : Owners) (e : Event) → IsOrdered o.store.logs o.store.gates o.store.marks → IsSound o → IsGiven o e → IsSound (happens o e)
kept o (Look_known n l) i h g = look_known_kept o n l h g
kept o (Look_new n l) i h g = look_new_kept o n l i h g
kept o (End n) i h g = end_kept o n h
kept o (Raise n gate) i h g = raise_kept o n gate h g
kept o (Seal n gate more) i h g = seal_kept o n gate more i h g
kept o (Promise n k stamp) i h g = promise_kept o n k stamp h g
kept o (Trim n to) i h g = trim_kept o n to h g
kept o (Set n k p place) i h g = set_kept o n k p place h g
kept o (Pass n to p) i h g = pass_kept o n to p i h g
kept o (Fence n gate) i h g = fence_kept o n gate h g
kept o (Leave t d) i h g = leave_kept o t d h g
kept o (Release t d) i h g = release_kept o t d h g
kept o (Watches w) i h g = watch_kept o w i h g
kept o (Grant w d) i h g = grant_kept o w d h g
kept o (Adopt t d) i h g = adopt_kept o t d i h g
kept o (Stop n) i h g = stop_kept o n h
kept o (Begin n) i h g = begin_kept o n h g

-- ---- authorities
same_lane : (deeds : ℕ → Deed) (t u : ℕ) (d : Deed) → d.lane ≡ (deeds t).lane → (with_at deeds t d u).lane ≡ (deeds u).lane
same_lane deeds t u d e = at_by (λ (x : Deed). x.lane ≡ (deeds u).lane) deeds t d u (λ f. e ∙ ap (λ x. (deeds x).lane) (sym f)) (λ f. refl)

pub authority_after : (o : Owners) (e : Event) (k : ℕ) → IsOrdered o.store.logs o.store.gates o.store.marks → IsSound o → IsGiven o e → AuthorityAfter o e k
authority_after o (Look_known n l) k i h g = refl
authority_after o (Look_new n l) k i h g = refl
authority_after o (End n) k i h g = refl
authority_after o (Raise n gate) k i h g = refl
authority_after o (Seal n gate more) k i h g =
    let z : IsOwnSeal o n more = own_seal o n gate more i h g in
    (λ e. authority_old o n k gate more z e, λ r e. (z.owner k r e, authority_new o n k gate more r z e))
authority_after o (Promise n q stamp) k i h g = refl
authority_after o (Trim n to) k i h g = refl
authority_after o (Set n q p place) k i h g = authority_set o n q p place k h g
authority_after o (Pass n to p) k i h g = authority_passed o n to p k i g
authority_after o (Fence n gate) k i h g = refl
authority_after o (Leave t d) k i h g = authority_deeds o.store (with_at o.store.deeds t d) k (same_lane o.store.deeds t (slot_of k) d g.lane)
authority_after o (Release t d) k i h g = authority_deeds o.store (with_at o.store.deeds t d) k (same_lane o.store.deeds t (slot_of k) d g.0.lane)
authority_after o (Watches w) k i h g = refl
authority_after o (Grant w d) k i h g = grant_authority o w.slot d k (watched_grant o w d h g)
authority_after o (Adopt t d) k i h g = grant_authority o t d k (idle_grant o t d i h g)
authority_after o (Stop n) k i h g = refl
authority_after o (Begin n) k i h g = refl

-- ---- what a record says is held: a place that names something names it behind longer logs too
found_some : (k : ℕ) (o h : Option Record) → holder_at k o ≡ Says h → (r : Record) × (o ≡ Some r)
found_some k None h e = absurd (astray_not h e) where
  astray_not : (h : Option Record) → (let x : Found (Option Record) = Astray in x) ≡ Says h → ⊥
  astray_not h e = absurd (cc e)
found_some k (Some r) h e = (r, refl)

named_more : (logs : ℕ → List Placed) (n : ℕ) (more : List Placed) (k : ℕ) (at : Option Ref) (h : Option Record) → named logs k at ≡ Says h → named (with_at logs n (logs n ++ more)) k at ≡ Says h
named_more logs n more k None h e = e
named_more logs n more k (Some at) h e =
    let r = found_some k (record_at logs (Some at)) h e in
    ap (holder_at k) (record_more logs n more (Some at) r.0 r.1 ∙ sym r.1) ∙ e

holder_more : (cells : ℕ → ℕ) (logs : ℕ → List Placed) (n : ℕ) (more : List Placed) (k : ℕ) (f : Found (Option Record)) (h : Option Record) → holder_from cells logs k f ≡ Says h
    → holder_from cells (with_at logs n (logs n ++ more)) k f ≡ Says h
holder_more cells logs n more k Astray h e = e
holder_more cells logs n more k (Says None) h e = e
holder_more cells logs n more k (Says (Some (Put key value))) h e = e
holder_more cells logs n more k (Says (Some (Delete key))) h e = e
holder_more cells logs n more k (Says (Some (Share key j w))) h e = named_more logs n more k (ref_of (cell_word w (cells j))) h e
holder_more cells logs n more k (Says (Some (Unshare key at))) h e = named_more logs n more k at h e
holder_more cells logs n more k (Says (Some (Loose key value))) h e = e
holder_more cells logs n more k (Says (Some (LooseDelete key))) h e = e
holder_more cells logs n more k (Says (Some (Pad words))) h e = e

-- where a value is said, some holder is found
says_of : (x : Found (Option Record)) (v : Option (List ℕ)) → value_in x ≡ Says v → (h : Option Record) × (x ≡ Says h)
says_of Astray v e = absurd (astray_not v e) where
  astray_not : (v : Option (List ℕ)) → (let x : Found (Option (List ℕ)) = Astray in x) ≡ Says v → ⊥
  astray_not v e = absurd (cc e)
says_of (Says h) v e = (h, refl)

said_more : (cells : ℕ → ℕ) (logs : ℕ → List Placed) (n : ℕ) (more : List Placed) (k : ℕ) (f : Found (Option Record)) (v : Option (List ℕ)) → held_from cells logs k f ≡ Says v
    → held_from cells (with_at logs n (logs n ++ more)) k f ≡ Says v
said_more cells logs n more k f v e =
    let h = says_of (holder_from cells logs k f) v e in
    ap value_in (holder_more cells logs n more k f h.0 h.1 ∙ sym h.1) ∙ e

plain_said : (cells : ℕ → ℕ) (logs : ℕ → List Placed) (k : ℕ) (r : Record) → is_authority k r ≡ true → is_plain r ≡ true → held_by cells logs k r ≡ Says (value_of r)
plain_said cells logs k (Put key value) a p = refl
plain_said cells logs k (Delete key) a p = refl
plain_said cells logs k (Share key j opening) a p = absurd (false≢true p)
plain_said cells logs k (Unshare key at) a p = absurd (false≢true p)
plain_said cells logs k (Loose key value) a p = absurd (false≢true a)
plain_said cells logs k (LooseDelete key) a p = absurd (false≢true a)
plain_said cells logs k (Pad words) a p = absurd (false≢true a)

-- ---- what is held
pub held_after : (o : Owners) (e : Event) (k : ℕ) → IsOrdered o.store.logs o.store.gates o.store.marks → IsSound o → IsGiven o e → HeldAfter o e k
held_after o (Look_known n l) k i h g = refl
held_after o (Look_new n l) k i h g = refl
held_after o (End n) k i h g = refl
held_after o (Raise n gate) k i h g = refl
held_after o (Seal n gate more) k i h g =
    let z : IsOwnSeal o n more = own_seal o n gate more i h g in
    let logs : ℕ → List Placed = with_at o.store.logs n (o.store.logs n ++ more) in
    record {
      other = λ v e f. ap (held_from o.store.cells logs k) (authority_old o n k gate more z e) ∙ said_more o.store.cells o.store.logs n more k (authority_in o.store k) v f;
      last = λ r e. ap (held_from o.store.cells logs k) (authority_new o n k gate more r z e);
      plain = λ r e f.
          let c = last_found k 0 more r e in
          ap (held_from o.store.cells logs k) (authority_new o n k gate more r z e)
          ∙ plain_said o.store.cells logs k r (ap (is_authority k) (sym c.is) ∙ c.found.authority) f;
    }
held_after o (Promise n q stamp) k i h g = refl
held_after o (Trim n to) k i h g = refl
held_after o (Set n q p place) k i h g = ap (held_from o.store.cells o.store.logs k) (authority_after o (Set n q p place) k i h g)
held_after o (Pass n to p) k i h g =
    let now = (happens o (Pass n to p)).store in
    said_moved o.store.cells o.store.logs k (authority_in o.store k) (authority_in now k) (moves_past p (authority_in o.store k) (authority_in now k) k (authority_after o (Pass n to p) k i h g))
held_after o (Fence n gate) k i h g = refl
held_after o (Leave t d) k i h g = ap (held_from o.store.cells o.store.logs k) (authority_after o (Leave t d) k i h g)
held_after o (Release t d) k i h g = ap (held_from o.store.cells o.store.logs k) (authority_after o (Release t d) k i h g)
held_after o (Watches w) k i h g = refl
held_after o (Grant w d) k i h g = ap (held_from o.store.cells o.store.logs k) (authority_after o (Grant w d) k i h g)
held_after o (Adopt t d) k i h g = ap (held_from o.store.cells o.store.logs k) (authority_after o (Adopt t d) k i h g)
held_after o (Stop n) k i h g = refl
held_after o (Begin n) k i h g = refl

-- ---- a located record stays the authority
no_more : (log more : List Placed) → log ++ more ≡ log → more ≡ []
no_more [] more e = e
no_more (p ∷ ps) more e = no_more ps more (cc)

pub located : (o : Owners) (e : Event) (n k : ℕ) (l : Look) (r : Record) → IsOrdered o.store.logs o.store.gates o.store.marks → IsSound o → IsGiven o e
    → (o.knows n).look ≡ Some l → slot_of k ≡ l.slot → (o.store.gates n).fenced ≡ false → (happens o e).store.logs n ≡ o.store.logs n
    → Agrees (authority_in o.store k) k r → Agrees (authority_in (happens o e).store k) k r
located o e n k l r i h g q t b same a = agrees_moved k (authority_in o.store k) (authority_in (happens o e).store k) r (by_event e g same) a where
  mine : owner_in o.store k ≡ n
  mine = ap (λ x. (o.store.deeds x).lane) t ∙ ((h.looks n).held l q b).names

  by_event : (e : Event) → IsGiven o e → (happens o e).store.logs n ≡ o.store.logs n → Moves (authority_in o.store k) (authority_in (happens o e).store k) k
  by_event (Look_known m x) g same = inl refl
  by_event (Look_new m x) g same = inl refl
  by_event (End m) g same = inl refl
  by_event (Raise m gate) g same = inl refl
  by_event (Seal m gate more) g same =
      let c = authority_after o (Seal m gate more) k i h g in
      elim (none_or_some (unmerged k 0 more)) [
        | inl f ↦ inl (c.0 f)
        | inr s ↦ (
            let me : n ≡ m = sym mine ∙ (c.1 s.0 s.1).0 in
            let P : ℕ → Type 0 = λ x. with_at o.store.logs x (o.store.logs x ++ more) n ≡ o.store.logs x in
            let here : o.store.logs m ++ more ≡ o.store.logs m = sym (at_same o.store.logs m (o.store.logs m ++ more) n me) ∙ same ∙ ap o.store.logs me in
            let none : unmerged k 0 more ≡ None = ap (unmerged k 0) (no_more (o.store.logs m) more here) in
            absurd (none_some s.0 (sym none ∙ s.1)))
      ]
  by_event (Promise m x stamp) g same = inl refl
  by_event (Trim m to) g same = inl refl
  by_event (Set m x p place) g same = inl (authority_after o (Set m x p place) k i h g)
  by_event (Pass m to p) g same = moves_past p (authority_in o.store k) (authority_in (happens o (Pass m to p)).store k) k (authority_after o (Pass m to p) k i h g)
  by_event (Fence m gate) g same = inl refl
  by_event (Leave u x) g same = inl (authority_after o (Leave u x) k i h g)
  by_event (Release u x) g same = inl (authority_after o (Release u x) k i h g)
  by_event (Watches w) g same = inl refl
  by_event (Grant w x) g same = inl (authority_after o (Grant w x) k i h g)
  by_event (Adopt u x) g same = inl (authority_after o (Adopt u x) k i h g)
  by_event (Stop m) g same = inl refl
  by_event (Begin m) g same = inl refl
