use Rattle.std.proofs.Common.{◌≡◌, ◌≤◌, ℕ, true, false, List, Contains, refl, sym, ap, subst, arith}
use Rattle.dn_word.specs.declared.packed.gate.Gate.{Gate}
use Rattle.dn_hist.specs.Calls.{Bytes, IsWrite}
use Rattle.dn_hist.specs.Replay.{IsLegal, map_left}
use Rattle.dn_hist.specs.declared.receipts.Receipt.{Receipt}
use Rattle.dn_model.specs.PoolMap.{HoldsMap}
use Rattle.dn_beside.specs.Pool.{Pool, IsWhole}
use Rattle.dn_route.specs.CallersOrder.{KeepsCallersOrder}
use Rattle.dn_receipts.specs.Receipts.{IsSpelled}
use Rattle.dn_receipts.proofs.Histories.{legal_history, history_map, its_map}
use Rattle.dn_receipts.proofs.Spelled.{spelled_by}
use Rattle.dn_callers.specs.Callers.{Standing, receipts_of}
use Rattle.dn_callers.specs.Sessions.{IsSession}
use Rattle.dn_machine.specs.State.{Machine}
use Rattle.dn_machine.specs.Sound.{IsSound}
use Rattle.dn_machine.specs.Histories.{IsHistory, IsSealedIn}
use Rattle.dn_machine.proofs.CallersOrder.{keeps_in_order}

-- What is so of the receipts of a sound machine.

pub legal : (segments : ℕ) (m : Machine) (hs : List Receipt) → IsSound segments m → IsHistory m hs → IsLegal hs
legal segments m hs s h = legal_history s.p (receipts_of m.callers.receipts) hs s.at.receipts h.once h.order

pub map_is : (segments : ℕ) (m : Machine) (hs : List Receipt) → IsSound segments m → IsHistory m hs → HoldsMap m.words (map_left hs)
map_is segments m hs s h =
    let P : List ℕ → Type 0 = λ ws. HoldsMap ws (map_left hs) in
    subst P s.at.words (history_map s.p (receipts_of m.callers.receipts) hs s.at.whole s.at.receipts h.once h.order)

pub map_alone : (segments : ℕ) (m : Machine) (hs : List Receipt) (map : Bytes) → IsSound segments m → IsHistory m hs → HoldsMap m.words map → map ≡ map_left hs
map_alone segments m hs map s h there =
    let P : List ℕ → Type 0 = λ ws. HoldsMap ws map in
    its_map s.p (receipts_of m.callers.receipts) hs map s.at.whole s.at.receipts h.once h.order (subst P (sym s.at.words) there)

-- ---- the order of each session's calls
pub callers_came : (segments : ℕ) (m : Machine) → IsSound segments m → KeepsCallersOrder m.callers.told (receipts_of m.callers.receipts)
callers_came segments m s = s.at.callers.order

pub callers_order : (segments : ℕ) (m : Machine) (hs : List Receipt) → IsSound segments m → IsHistory m hs → KeepsCallersOrder m.callers.told hs
callers_order segments m hs s h = keeps_in_order m.callers.told (receipts_of m.callers.receipts) hs s.at.callers.order h.once h.order

-- ---- the words of each record
sealed_in : (p : Pool) (r : Receipt) → IsWhole p → IsSpelled p r → IsSealedIn p.words r
sealed_in p r w h = record {
  at = h.at;
  is = h.is;
  lane = h.lane;
  spells = h.spells;
  inside = omega (arith, h.inside, ap (λ (g : Gate). g.len) (w.represents.table.gates h.at.lane h.lane.below));
}

pub words_stand : (segments : ℕ) (m : Machine) (r : Receipt) → IsSound segments m → Contains (receipts_of m.callers.receipts) r → IsWrite r.call → IsSealedIn m.words r
words_stand segments m r s c w =
    let P : List ℕ → Type 0 = λ ws. IsSealedIn ws r in
    subst P s.at.words (sealed_in s.p r s.at.whole (spelled_by s.p r s.at.whole (s.at.receipts.recorded r c) w))

-- ---- answers
pub answered : (segments : ℕ) (m : Machine) (x : Standing) → IsSound segments m → Contains m.callers.receipts x → IsSession x.receipt.position.session
    → m.callers.closed x.receipt.position.session ≡ false → x.answered ≡ true
answered segments m x s c i o = s.at.callers.answered x.receipt.position.session x i o c refl

pub last_call : (segments : ℕ) (m : Machine) (x y : Standing) → IsSound segments m → Contains m.callers.receipts x → Contains m.callers.receipts y
    → y.receipt.position.session ≡ x.receipt.position.session → x.answered ≡ false → y.receipt.number ≤ x.receipt.number
last_call segments m x y s c d e f = s.at.callers.last x y c d e f
