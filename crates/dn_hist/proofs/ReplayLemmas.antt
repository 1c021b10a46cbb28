use Rattle.std.proofs.Common.{◌≡◌, ℕ, zero, suc, ◌+◌, ◌<◌, List, [], ◌∷◌, ◌++◌, length, take, get_or, refl, ap, sym, ◌∙◌, subst, arith}
use Rattle.std.specs.FinMap.{empty}
use Rattle.std.proofs.lemmas.List.{take_more}
use Rattle.dn_hist.specs.Calls.{Bytes, reply_of, map_after}
use Rattle.dn_hist.specs.Replay.{IsLegalFrom, map_from, IsLegal, map_left}
use Rattle.dn_hist.specs.declared.receipts.Receipt.{Receipt}

-- one more legal receipt
pub legal_push : (m : Bytes) (rs : List Receipt) (r : Receipt) → IsLegalFrom m rs → r.reply ≡ reply_of r.call (map_from m rs) → IsLegalFrom m (rs ++ r ∷ [])
legal_push m [] r h e = (e, tt)
legal_push m (x ∷ rs) r h e = (h.0, legal_push (map_after x.call m) rs r h.1 e)

pub map_push : (m : Bytes) (rs : List Receipt) (r : Receipt) → map_from m (rs ++ r ∷ []) ≡ map_after r.call (map_from m rs)
map_push m [] r = refl
map_push m (x ∷ rs) r = map_push (map_after x.call m) rs r

more : (rs : List Receipt) (i : ℕ) (r : Receipt) → i < length rs → r ≡ get_or rs i r → take (i + 1) rs ≡ take i rs ++ r ∷ []
more rs i r h e = take_more rs i r h ∙ ap (λ x. take i rs ++ x ∷ []) (sym e)

pub legal_more : (rs : List Receipt) (i : ℕ) (r : Receipt) → i < length rs → r ≡ get_or rs i r → IsLegal (take i rs) → r.reply ≡ reply_of r.call (map_left (take i rs)) → IsLegal (take (i + 1) rs)
legal_more rs i r h e l p = subst (IsLegalFrom empty) (sym (more rs i r h e)) (legal_push empty (take i rs) r l p)

pub map_more : (rs : List Receipt) (i : ℕ) (r : Receipt) → i < length rs → r ≡ get_or rs i r → map_left (take (i + 1) rs) ≡ map_after r.call (map_left (take i rs))
map_more rs i r h e = ap (map_from empty) (more rs i r h e) ∙ map_push empty (take i rs) r

-- a legal list gives the reply at each of its places
pub legal_at : (m : Bytes) (rs : List Receipt) (i : ℕ) (r : Receipt) → i < length rs → r ≡ get_or rs i r → IsLegalFrom m rs → r.reply ≡ reply_of r.call (map_from m (take i rs))
legal_at m [] i r lt e h = absurd (omega arith)
legal_at m (x ∷ xs) zero r lt e h = let P : Receipt → Type 0 = λ s. s.reply ≡ reply_of s.call m in subst P (sym e) h.0
legal_at m (x ∷ xs) (suc i) r lt e h = legal_at (map_after x.call m) xs i r (omega arith) e h.1
