use Rattle.std.proofs.Common.{ℕ, ◌<◌, ◌≡◌, ◌≢◌, inl, inr, List, [], ◌∷◌, ◌++◌, Some, None, refl, sym, ◌∙◌, ap, subst, arith}
use Rattle.std.proofs.lemmas.Grind.{common_steps}
use Rattle.std.proofs.lemmas.Bool.{cases_eq}
use Rattle.std.specs.FinMap.{get, insert, remove, empty, gets}
use Rattle.std.specs.Ordering.{nat_cmp}
use Rattle.dn_hist.specs.Calls.{Bytes, key_of, reply_of, map_after}
use Rattle.dn_hist.specs.Replay.{map_from}
use Rattle.dn_hist.specs.declared.calls.Call.{Call}
use Rattle.dn_hist.specs.declared.calls.Call.TheVariants.{Get, Put, Delete}
use Rattle.dn_hist.specs.declared.receipts.Receipt.{Receipt}
use Rattle.dn_hist.proofs.ReplayLemmas.{legal_push, map_push}
use Rattle.dn_model.specs.Held.{Says}
use Rattle.dn_model.specs.PoolMap.{HoldsMap}
use Rattle.dn_model.proofs.MapLaws.{one_held}
use Rattle.dn_store.specs.Fresh.{IsFreshPool}
use Rattle.dn_store.specs.Holding.{holds}
use Rattle.dn_store.proofs.Holding.{held_is}
use Rattle.dn_beside.specs.Pool.{Pool, store_in, IsWhole}
use Rattle.dn_beside.specs.Step.{IsQuiet}
use Rattle.dn_receipts.specs.Joined.{IsElsewhere, IsEffect, IsJoined}
use Rattle.dn_receipts.specs.SoFar.{IsLegalSoFar}
use Rattle.dn_receipts.specs.Fresh.{fresh_pool}
use Rattle.dn_receipts.proofs.Opened.{fresh_whole}

-- Each step does to the pool's map what a plain map does.

-- ---- the map of a whole pool, by its store
pub map_of : (p : Pool) (m : Bytes) → IsWhole p → ((k : ℕ) → 0 < k → holds (store_in p) k ≡ Says (get m k)) → get m 0 ≡ None → HoldsMap p.words m
map_of p m w h zero = record {
  logs = (store_in p).logs;
  chains = p.chains;
  reads = w.represents.reads;
  holds = λ k pos. held_is p.words p.chains (store_in p) k pos w.represents ∙ h k pos;
  no_key = zero;
}

pub says_map : (p : Pool) (m : Bytes) → IsWhole p → HoldsMap p.words m → (k : ℕ) → 0 < k → holds (store_in p) k ≡ Says (get m k)
says_map p m w h k pos =
    sym (held_is p.words p.chains (store_in p) k pos w.represents)
    ∙ one_held p.words (store_in p).logs h.logs p.chains h.chains k w.represents.reads h.reads
    ∙ h.holds k pos

-- ---- a step
pub none_keeps : (p q : Pool) (m : Bytes) → IsWhole p → IsWhole q → IsQuiet p q → HoldsMap p.words m → HoldsMap q.words m
none_keeps p q m w v still h = map_of q m v (λ k pos. still.held k (get m k) pos (says_map p m w h k pos)) h.no_key

reply_by : (p q : Pool) (r : Receipt) (m : Bytes) (c : Call) → IsWhole p → IsEffect p q r c → key_of c ≢ 0 → HoldsMap p.words m → r.reply ≡ reply_of c m
reply_by p q r m (Get key) w effect d h = effect.right (get m key) (says_map p m w h key (omega (arith, d)))
reply_by p q r m (Put key value) w effect d h = effect.1
reply_by p q r m (Delete key) w effect d h = effect.1

pub its_reply : (p q : Pool) (r : Receipt) (m : Bytes) → IsWhole p → IsJoined p q r → key_of r.call ≢ 0 → HoldsMap p.words m → r.reply ≡ reply_of r.call m
its_reply p q r m w j d h = reply_by p q r m r.call w j.effect d h

-- a map that has another value at one key
changed : (p q : Pool) (m n : Bytes) (key : ℕ) → IsWhole p → IsWhole q → IsElsewhere key p q → key ≢ 0 → holds (store_in q) key ≡ Says (get n key) → ((k : ℕ) → k ≢ key → get n k ≡ get m k)
    → HoldsMap p.words m → HoldsMap q.words n
changed p q m n key w v e d here there h = map_of q n v at (there 0 (λ s. d (sym s)) ∙ h.no_key) where
  at : (k : ℕ) → 0 < k → holds (store_in q) k ≡ Says (get n k)
  at k pos = elim (cases_eq k key) [
    | inl s ↦ (let P : ℕ → Type 0 = λ x. holds (store_in q) x ≡ Says (get n x) in subst P (sym s) here)
    | inr s ↦ e.held k (get m k) pos s (says_map p m w h k pos) ∙ ap Says (sym (there k s))
  ]

put_here : (m : Bytes) (key : ℕ) (value : List ℕ) → get (insert m key value) key ≡ Some value
put_here m key value = grind (arith, common_steps, gets)

put_there : (m : Bytes) (key : ℕ) (value : List ℕ) (k : ℕ) → k ≢ key → get (insert m key value) k ≡ get m k
put_there m key value k d = grind (arith, common_steps, gets)

gone_here : (m : Bytes) (key : ℕ) → get (remove m key) key ≡ None
gone_here m key = grind (arith, common_steps, gets)

gone_there : (m : Bytes) (key k : ℕ) → k ≢ key → get (remove m key) k ≡ get m k
gone_there m key k d = grind (arith, common_steps, gets)

map_by : (p q : Pool) (r : Receipt) (m : Bytes) (c : Call) → IsWhole p → IsWhole q → IsElsewhere (key_of c) p q → IsEffect p q r c → key_of c ≢ 0 → HoldsMap p.words m → HoldsMap q.words (map_after c m)
map_by p q r m (Get key) w v e effect d h = changed p q m m key w v e d (effect.held (get m key) (says_map p m w h key (omega (arith, d)))) (λ k s. refl) h
map_by p q r m (Put key value) w v e effect d h = changed p q m (insert m key value) key w v e d (effect.0.held ∙ ap Says (sym (put_here m key value))) (put_there m key value) h
map_by p q r m (Delete key) w v e effect d h = changed p q m (remove m key) key w v e d (effect.0.held ∙ ap Says (sym (gone_here m key))) (gone_there m key) h

pub its_change : (p q : Pool) (r : Receipt) (m : Bytes) → IsWhole p → IsWhole q → IsJoined p q r → key_of r.call ≢ 0 → HoldsMap p.words m → HoldsMap q.words (map_after r.call m)
its_change p q r m w v j d h = map_by p q r m r.call w v j.elsewhere j.effect d h

-- ---- all of them
empty_start : (k : ℕ) → get (empty {K = ℕ} {X = List ℕ} {R = nat_cmp}) k ≡ None
empty_start k = grind (arith, common_steps, gets)

pub fresh_so_far : (words : List ℕ) (pool lanes : ℕ) (owners : ℕ → ℕ) → IsFreshPool words pool lanes owners → IsLegalSoFar (fresh_pool words pool lanes owners) []
fresh_so_far words pool lanes owners h = record { legal = tt; map = map_of (fresh_pool words pool lanes owners) empty (fresh_whole words pool lanes owners h) (λ k pos. ap Says (sym (empty_start k))) (empty_start 0) }

pub none_so_far : (p q : Pool) (rs : List Receipt) → IsWhole p → IsWhole q → IsQuiet p q → IsLegalSoFar p rs → IsLegalSoFar q rs
none_so_far p q rs w v still h = record { legal = h.legal; map = none_keeps p q (map_from empty rs) w v still h.map }

pub one_so_far : (p q : Pool) (rs : List Receipt) (r : Receipt) → IsWhole p → IsWhole q → IsJoined p q r → key_of r.call ≢ 0 → IsLegalSoFar p rs → IsLegalSoFar q (rs ++ r ∷ [])
one_so_far p q rs r w v j d h = record {
  legal = legal_push empty rs r h.legal (its_reply p q r (map_from empty rs) w j d h.map);
  map = (let P : Bytes → Type 0 = λ m. HoldsMap q.words m in subst P (sym (map_push empty rs r)) (its_change p q r (map_from empty rs) w v j d h.map));
}
