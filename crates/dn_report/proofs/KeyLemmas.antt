use Rattle.std.proofs.Common.{◌≡◌, ◌+◌, ◌-◌, ℕ, Bool, true, false, cond, List, Option, Some, None, refl, ap, sym, subst, ◌∙◌}
use Rattle.std.specs.Prelude.{is_some}
use Rattle.std.specs.Cmp.{nat_cmp_total}
use Rattle.std.specs.FinMap.{empty, get, insert, remove, len, get-insert, get-remove, len-insert, len-remove}
use Rattle.dn_hist.specs.Calls.{Bytes, map_after}
use Rattle.dn_hist.specs.declared.calls.Call.{Call}
use Rattle.dn_hist.specs.declared.calls.Call.TheVariants.{Put, Delete}
use Rattle.dn_report.specs.Keys.{HasSameKeys}

-- Which keys a map has, whatever their values.

pub same_empty : HasSameKeys empty empty
same_empty = record { keys = λ k. refl; count = refl }

if_put : (b : Bool) (v w : List ℕ) (x y : Option (List ℕ)) → is_some x ≡ is_some y → is_some (cond b (Some v) x) ≡ is_some (cond b (Some w) y)
if_put true v w x y h = refl
if_put false v w x y h = h

if_removed : (b : Bool) (x y : Option (List ℕ)) → is_some x ≡ is_some y → is_some (cond b None x) ≡ is_some (cond b None y)
if_removed true x y h = refl
if_removed false x y h = h

pub same_put : (map of : Bytes) (k : ℕ) (v w : List ℕ) → HasSameKeys map of → HasSameKeys (insert map k v) (insert of k w)
same_put map of k v w h = record {
  keys = λ q. ap is_some (get-insert nat_cmp_total map k v q) ∙ if_put _ v w (get map q) (get of q) (h.keys q) ∙ sym (ap is_some (get-insert nat_cmp_total of k w q));
  count = len-insert nat_cmp_total map k v ∙ ap (λ b. cond b (len map) (len map + 1)) (h.keys k) ∙ ap (λ n. cond (is_some (get of k)) n (n + 1)) h.count ∙ sym (len-insert nat_cmp_total of k w);
}

pub same_removed : (map of : Bytes) (k : ℕ) → HasSameKeys map of → HasSameKeys (remove map k) (remove of k)
same_removed map of k h = record {
  keys = λ q. ap is_some (get-remove nat_cmp_total map k q) ∙ if_removed _ (get map q) (get of q) (h.keys q) ∙ sym (ap is_some (get-remove nat_cmp_total of k q));
  count = len-remove nat_cmp_total map k ∙ ap (λ b. cond b (len map - 1) (len map)) (h.keys k) ∙ ap (λ n. cond (is_some (get of k)) (n - 1) n) h.count ∙ sym (len-remove nat_cmp_total of k);
}

-- a call does the same to both
pub put_keys : (map now of : Bytes) (call : Call) (k : ℕ) (v w : List ℕ) → call ≡ Put k w → now ≡ insert map k v → HasSameKeys map of → HasSameKeys now (map_after call of)
put_keys map now of call k v w is put h =
    let P : Call → Type 0 = λ c. HasSameKeys now (map_after c of) in
    subst P (sym is) (subst (λ m. HasSameKeys m (insert of k w)) (sym put) (same_put map of k v w h))

pub removed_keys : (map now of : Bytes) (call : Call) (k : ℕ) → call ≡ Delete k → now ≡ remove map k → HasSameKeys map of → HasSameKeys now (map_after call of)
removed_keys map now of call k is removed h =
    let P : Call → Type 0 = λ c. HasSameKeys now (map_after c of) in
    subst P (sym is) (subst (λ m. HasSameKeys m (remove of k)) (sym removed) (same_removed map of k h))
