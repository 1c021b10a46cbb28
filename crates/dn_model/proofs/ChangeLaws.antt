use Rattle.std.proofs.Common.{ℕ, ◌<◌, ◌≡◌, ◌≢◌, inl, inr, Bool, true, false, if◌then◌else◌, List, [], ◌∷◌, Option, Some, None, refl, sym, ◌∙◌, ap, subst, arith}
use Rattle.std.proofs.lemmas.Grind.{common_steps}
use Rattle.std.proofs.lemmas.Bool.{false≢true, cases_eq}
use Rattle.std.specs.FinMap.{get, insert, remove, gets}
use Rattle.dn_word.specs.Ref.{ref_of}
use Rattle.dn_word.specs.declared.packed.place.Ref.{Ref}
use Rattle.dn_hist.specs.Calls.{Bytes}
use Rattle.dn_record.specs.declared.records.Record.{Record}
use Rattle.dn_record.specs.declared.records.Record.TheVariants.{Put, Delete, Share, Unshare, Loose, LooseDelete, Pad}
use Rattle.dn_model.specs.Regions.{mark, owner, cell, home_of}
use Rattle.dn_model.specs.Log.{Placed}
use Rattle.dn_model.specs.Index.{index}
use Rattle.dn_model.specs.Held.{Found, Reads, Says, Astray, is_authority, is_holder, unmerged, record_at, led_to, authority_by, authority, holder, holder_at, holder_by, holder_from, held, named, cell_word}
use Rattle.dn_model.specs.PoolMap.{HoldsMap}
use Rattle.dn_model.specs.OneLog.{is_plain}
use Rattle.dn_model.proofs.HeldLaws.{Each, unmerged_is}
use Rattle.dn_model.proofs.MapLaws.{one_held}

-- The map changes where what is held changes.

-- what is held, by any reading of the words
held_in : (words : List ℕ) (logs : ℕ → List Placed) (chains : ℕ → List ℕ) (map : Bytes) (k : ℕ) → Reads words logs chains → 0 < k → HoldsMap words map → held words logs chains k ≡ Says (get map k)
held_in words logs chains map k r pos h = one_held words logs h.logs chains h.chains k r h.reads ∙ h.holds k pos

pub map_same : (words now : List ℕ) (logs later : ℕ → List Placed) (chains after : ℕ → List ℕ) (map : Bytes) → Reads words logs chains → Reads now later after
    → ((k : ℕ) → 0 < k → held now later after k ≡ held words logs chains k) → HoldsMap words map → HoldsMap now map
map_same words now logs later chains after map r s same h = record {
  logs = later;
  chains = after;
  reads = s;
  holds = λ k pos. same k pos ∙ held_in words logs chains map k r pos h;
  no_key = h.no_key;
}

-- at one key alone
map_at : (words now : List ℕ) (logs later : ℕ → List Placed) (chains after : ℕ → List ℕ) (map new : Bytes) (k : ℕ) → Reads words logs chains → Reads now later after → 0 < k
    → held now later after k ≡ Says (get new k) → ((q : ℕ) → 0 < q → q ≢ k → held now later after q ≡ held words logs chains q)
    → ((q : ℕ) → q ≢ k → get new q ≡ get map q) → HoldsMap words map → HoldsMap now new
map_at words now logs later chains after map new k r s pos here there other h = record {
  logs = later;
  chains = after;
  reads = s;
  holds = λ q p. elim (cases_eq q k) [
    | inl e ↦ (let P : ℕ → Type 0 = λ x. held now later after x ≡ Says (get new x) in subst P (sym e) here)
    | inr d ↦ there q p d ∙ held_in words logs chains map q r p h ∙ ap Says (sym (other q d))
  ];
  no_key = other 0 (λ e. absurd (omega (arith, e, pos))) ∙ h.no_key;
}

put_same : (m : Bytes) (k : ℕ) (value : List ℕ) → get (insert m k value) k ≡ Some value
put_same m k value = grind (arith, common_steps, gets)

put_other : (m : Bytes) (k : ℕ) (value : List ℕ) (q : ℕ) → q ≢ k → get (insert m k value) q ≡ get m q
put_other m k value q d = grind (arith, common_steps, gets)

gone_same : (m : Bytes) (k : ℕ) → get (remove m k) k ≡ None
gone_same m k = grind (arith, common_steps, gets)

gone_other : (m : Bytes) (k q : ℕ) → q ≢ k → get (remove m k) q ≡ get m q
gone_other m k q d = grind (arith, common_steps, gets)

pub map_put : (words now : List ℕ) (logs later : ℕ → List Placed) (chains after : ℕ → List ℕ) (map : Bytes) (k : ℕ) (value : List ℕ) → Reads words logs chains → Reads now later after → 0 < k
    → held now later after k ≡ Says (Some value) → ((q : ℕ) → 0 < q → q ≢ k → held now later after q ≡ held words logs chains q) → HoldsMap words map → HoldsMap now (insert map k value)
map_put words now logs later chains after map k value r s pos here there h =
    map_at words now logs later chains after map (insert map k value) k r s pos (here ∙ ap Says (sym (put_same map k value))) there (put_other map k value) h

pub map_gone : (words now : List ℕ) (logs later : ℕ → List Placed) (chains after : ℕ → List ℕ) (map : Bytes) (k : ℕ) → Reads words logs chains → Reads now later after → 0 < k
    → held now later after k ≡ Says None → ((q : ℕ) → 0 < q → q ≢ k → held now later after q ≡ held words logs chains q) → HoldsMap words map → HoldsMap now (remove map k)
map_gone words now logs later chains after map k r s pos here there h =
    map_at words now logs later chains after map (remove map k) k r s pos (here ∙ ap Says (sym (gone_same map k))) there (gone_other map k) h

-- ---- the holder, by the authority
own_by : (cells : ℕ → ℕ) (logs : ℕ → List Placed) (k : ℕ) (r : Record) → is_plain r ≡ true → is_authority k r ≡ true → holder_by cells logs k r ≡ Says (Some r)
own_by cells logs k (Put key value) p a = refl
own_by cells logs k (Delete key) p a = refl
own_by cells logs k (Share key j opening) p a = absurd (false≢true p)
own_by cells logs k (Unshare key at) p a = absurd (false≢true p)
own_by cells logs k (Loose key value) p a = absurd (false≢true a)
own_by cells logs k (LooseDelete key) p a = absurd (false≢true a)
own_by cells logs k (Pad n) p a = absurd (false≢true a)

pub own_holder : (words : List ℕ) (logs : ℕ → List Placed) (chains : ℕ → List ℕ) (k : ℕ) (r : Record) → authority words logs chains k ≡ Says (Some r) → is_plain r ≡ true → is_authority k r ≡ true → holder words logs chains k ≡ Says (Some r)
own_holder words logs chains k r e p a = ap (λ x. holder_from (cell words) logs k x) e ∙ own_by (cell words) logs k r p a

pub shared_holder : (words : List ℕ) (logs : ℕ → List Placed) (chains : ℕ → List ℕ) (k j opening : ℕ) → authority words logs chains k ≡ Says (Some (Share k j opening))
    → holder words logs chains k ≡ named logs k (ref_of (cell_word opening (cell words j)))
shared_holder words logs chains k j opening e = ap (λ x. holder_from (cell words) logs k x) e

pub unshared_holder : (words : List ℕ) (logs : ℕ → List Placed) (chains : ℕ → List ℕ) (k : ℕ) (at : Option Ref) → authority words logs chains k ≡ Says (Some (Unshare k at)) → holder words logs chains k ≡ named logs k at
unshared_holder words logs chains k at e = ap (λ x. holder_from (cell words) logs k x) e

-- ---- and what it is
by_test : (r : Record) (b : Bool) → b ≡ true → (if b then Says (Some r) else Astray) ≡ Says (Some r)
by_test r true e = refl
by_test r false e = absurd (false≢true e)

pub named_holder : (logs : ℕ → List Placed) (k : ℕ) (at : Ref) (r : Record) → record_at logs (Some at) ≡ Some r → is_holder k r ≡ true → named logs k (Some at) ≡ Says (Some r)
named_holder logs k at r e h = ap (holder_at k) e ∙ by_test r (is_holder k r) h

same_found : (a b : Record) → (let x : Found (Option Record) = Says (Some a) in x) ≡ Says (Some b) → a ≡ b
same_found a b e = cc

none_found : (b : Record) → (let x : Found (Option Record) = Says None in x) ≡ Says (Some b) → ⊥
none_found b e = absurd (cc e)

lost_found : (b : Record) → (let x : Found (Option Record) = Astray in x) ≡ Says (Some b) → ⊥
lost_found b e = absurd (cc e)

tested : (k : ℕ) (a r : Record) (b : Bool) → is_holder k a ≡ b → (if b then Says (Some a) else Astray) ≡ Says (Some r) → is_holder k r ≡ true
tested k a r true t e = ap (is_holder k) (sym (same_found a r e)) ∙ t
tested k a r false t e = absurd (lost_found r e)

at_its : (k : ℕ) (o : Option Record) (r : Record) → holder_at k o ≡ Says (Some r) → is_holder k r ≡ true
at_its k None r e = absurd (lost_found r e)
at_its k (Some a) r e = tested k a r (is_holder k a) refl e

named_its : (logs : ℕ → List Placed) (k : ℕ) (at : Option Ref) (r : Record) → named logs k at ≡ Says (Some r) → is_holder k r ≡ true
named_its logs k None r e = absurd (none_found r e)
named_its logs k (Some at) r e = at_its k (record_at logs (Some at)) r e

by_its : (cells : ℕ → ℕ) (logs : ℕ → List Placed) (k : ℕ) (a r : Record) → is_authority k a ≡ true → holder_by cells logs k a ≡ Says (Some r) → is_holder k r ≡ true
by_its cells logs k (Put key value) r t e = ap (is_holder k) (sym (same_found (Put key value) r e)) ∙ t
by_its cells logs k (Delete key) r t e = ap (is_holder k) (sym (same_found (Delete key) r e)) ∙ t
by_its cells logs k (Share key j opening) r t e = named_its logs k (ref_of (cell_word opening (cells j))) r e
by_its cells logs k (Unshare key at) r t e = named_its logs k at r e
by_its cells logs k (Loose key value) r t e = absurd (lost_found r e)
by_its cells logs k (LooseDelete key) r t e = absurd (lost_found r e)
by_its cells logs k (Pad n) r t e = absurd (lost_found r e)

led_its : (cells : ℕ → ℕ) (logs : ℕ → List Placed) (k : ℕ) (a r : Record) (b : Bool) → is_authority k a ≡ b → holder_from cells logs k (if b then Says (Some a) else Astray) ≡ Says (Some r) → is_holder k r ≡ true
led_its cells logs k a r true t e = by_its cells logs k a r t e
led_its cells logs k a r false t e = absurd (lost_found r e)

led_to_its : (cells : ℕ → ℕ) (logs : ℕ → List Placed) (k : ℕ) (o : Option Record) (r : Record) → holder_from cells logs k (led_to k o) ≡ Says (Some r) → is_holder k r ≡ true
led_to_its cells logs k None r e = absurd (lost_found r e)
led_to_its cells logs k (Some a) r e = led_its cells logs k a r (is_authority k a) refl e

from_its : (cells : ℕ → ℕ) (logs : ℕ → List Placed) (k : ℕ) (u : Option Record) (p : Option ℕ) (r : Record) → ((a : Record) → u ≡ Some a → is_authority k a ≡ true) → holder_from cells logs k (authority_by logs k u p) ≡ Says (Some r)
    → is_holder k r ≡ true
from_its cells logs k (Some a) p r h e = by_its cells logs k a r (h a refl) e
from_its cells logs k None None r h e = absurd (none_found r e)
from_its cells logs k None (Some word) r h e = led_to_its cells logs k (record_at logs (ref_of word)) r e

each_own : (k : ℕ) (log : List Placed) → Each (λ p. is_authority k p.entry ≡ true → is_authority k p.entry ≡ true) log
each_own k [] = tt
each_own k (p ∷ ps) = (λ a. a, each_own k ps)

pub its_holder : (words : List ℕ) (logs : ℕ → List Placed) (chains : ℕ → List ℕ) (k : ℕ) (r : Record) → holder words logs chains k ≡ Says (Some r) → is_holder k r ≡ true
its_holder words logs chains k r e =
    let n : ℕ = owner words k in
    from_its (cell words) logs k (unmerged k (mark words n) (logs n)) (index words (chains (home_of k)) k) r
    (unmerged_is (λ a. is_authority k a ≡ true) k (mark words n) (logs n) (each_own k (logs n))) e
