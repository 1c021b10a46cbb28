use Rattle.std.proofs.Common.{ℕ, ◌+◌, ◌≡◌, inl, inr, List, Option, None, sym, ◌∙◌, ap}
use Rattle.std.specs.List.Sorted.{IsPermutation}
use Rattle.dn_hist.specs.Calls.{Bytes}
use Rattle.dn_hist.specs.Receipt.{IsInOrder}
use Rattle.dn_hist.specs.Replay.{IsLegal, map_left}
use Rattle.dn_hist.specs.declared.receipts.Receipt.{Receipt}
use Rattle.dn_model.specs.Held.{Says}
use Rattle.dn_model.specs.Register.{nothing, StandsBefore}
use Rattle.dn_model.specs.PoolMap.{HoldsMap}
use Rattle.dn_model.proofs.HistoryLaws.{register_in_order}
use Rattle.dn_model.proofs.MapLaws.{one_map}
use Rattle.dn_beside.specs.Pool.{Pool, IsWhole}
use Rattle.dn_receipts.specs.Receipts.{AreReceipts}
use Rattle.dn_receipts.proofs.Plain.{map_of}

-- Receipts over a pool are a history.

pub legal_history : (p : Pool) (rs hs : List Receipt) → AreReceipts p rs → IsPermutation rs hs → IsInOrder hs → IsLegal hs
legal_history p rs hs h o up = (register_in_order h.held p.owners.promised rs hs h.register o up).0

-- 0 is no key, and no receipt has it
nothing_at_zero : (p : Pool) (rs : List Receipt) (t : ℕ) (v : Option (List ℕ)) → AreReceipts p rs → StandsBefore nothing rs 0 t v → v ≡ None
nothing_at_zero p rs t v h (inl u) = u.is
nothing_at_zero p rs t v h (inr w) = absurd (h.keyed w.last w.among w.writes.key)

pub history_map : (p : Pool) (rs hs : List Receipt) → IsWhole p → AreReceipts p rs → IsPermutation rs hs → IsInOrder hs → HoldsMap p.words (map_left hs)
history_map p rs hs w h o up =
    let left = (register_in_order h.held p.owners.promised rs hs h.register o up).1 in
    map_of p (map_left hs) w (λ k pos. h.there k pos ∙ ap Says (sym (left k)))
    (left 0 ∙ nothing_at_zero p rs (p.owners.promised 0 + 1) (h.held 0) h (h.register.values 0))

pub its_map : (p : Pool) (rs hs : List Receipt) (map : Bytes) → IsWhole p → AreReceipts p rs → IsPermutation rs hs → IsInOrder hs → HoldsMap p.words map → map ≡ map_left hs
its_map p rs hs map w h o up m = one_map p.words map (map_left hs) m (history_map p rs hs w h o up)
