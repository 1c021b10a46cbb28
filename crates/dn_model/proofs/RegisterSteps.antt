use Rattle.std.proofs.Common.{ℕ, ◌+◌, ◌<◌, ◌≤◌, ◌≡◌, inl, inr, true, false, List, [], ◌∷◌, ◌++◌, Option, Contains, refl, sym, ◌∙◌, ap, subst, arith}
use Rattle.std.proofs.lemmas.Bool.{false≢true, cases_eq}
use Rattle.std.proofs.lemmas.List.Elements.{Contains-push_cases}
use Rattle.dn_hist.specs.Calls.{key_of}
use Rattle.dn_hist.specs.declared.calls.Call.{Call}
use Rattle.dn_hist.specs.declared.calls.Call.TheVariants.{Get, Put, Delete}
use Rattle.dn_hist.specs.declared.calls.Reply.{Reply}
use Rattle.dn_hist.specs.declared.receipts.Receipt.{Receipt}
use Rattle.dn_model.specs.Register.{nothing, is_write, written_by, Writes, StandsBefore, LeavesFrom, IsRightFrom, IsLegalByStampFrom, IsRegisterFrom, IsReadFrom, IsWriteFrom, IsRegister, IsReadOf, IsWriteOf}
use Rattle.dn_model.proofs.RegisterLaws.{stands_other, stands_write, stands_past, leaves_past}

-- ---- one more receipt keeps legality, where no read up to now has missed it
right_push : (start : ℕ → Option (List ℕ)) (rs : List Receipt) (n : Receipt) (t : ℕ) (c : Call) (reply : Reply) → (Writes n (key_of c) (t + 1) → ⊥) → IsRightFrom start rs t c reply → IsRightFrom start (rs ++ n ∷ []) t c reply
right_push start rs n t (Get key) reply f h = (h.0, stands_other start rs n key (t + 1) h.0 f h.1, h.2)
right_push start rs n t (Put key value) reply f h = h
right_push start rs n t (Delete key) reply f h = h

right_new : (start : ℕ → Option (List ℕ)) (rs : List Receipt) (n : Receipt) (t : ℕ) (c : Call) (reply : Reply) → n.call ≡ c → IsRightFrom start rs t c reply → IsRightFrom start (rs ++ n ∷ []) t c reply
right_new start rs n t (Get key) reply e h = (h.0, stands_other start rs n key (t + 1) h.0 (λ w. false≢true (sym (ap (λ x. is_write x n.reply) e) ∙ w.write)) h.1, h.2)
right_new start rs n t (Put key value) reply e h = h
right_new start rs n t (Delete key) reply e h = h

written_at : (n r : Receipt) → key_of n.call ≡ key_of r.call → n.position.stamp ≡ r.position.stamp → is_write n.call n.reply ≡ true → Writes n (key_of r.call) (r.position.stamp + 1)
written_at n r k s w = record { write = w; key = k; below = omega arith }

pub legal_push : (start : ℕ → Option (List ℕ)) (rs : List Receipt) (n : Receipt) → IsLegalByStampFrom start rs
    → ((r : Receipt) → Contains rs r → Writes n (key_of r.call) (r.position.stamp + 1) → ⊥)
    → IsRightFrom start rs n.position.stamp n.call n.reply
    → (is_write n.call n.reply ≡ true → n.position.rank ≡ 0)
    → ((r : Receipt) → Contains rs r → key_of r.call ≡ key_of n.call → r.position.stamp ≡ n.position.stamp → is_write r.call r.reply ≡ true → is_write n.call n.reply ≡ false → 0 < n.position.rank)
    → IsLegalByStampFrom start (rs ++ n ∷ [])
legal_push start rs n l fresh right zero behind = record {
  replies = λ r c. elim (Contains-push_cases rs n r c) [
    | inl i ↦ right_push start rs n r.position.stamp r.call r.reply (fresh r i) (l.replies r i)
    | inr e ↦ (let P : Receipt → Type 0 = λ x. IsRightFrom start (rs ++ n ∷ []) x.position.stamp x.call x.reply in
        subst P e (right_new start rs n n.position.stamp n.call n.reply refl right))
  ];
  first = λ r c w. elim (Contains-push_cases rs n r c) [
    | inl i ↦ l.first r i w
    | inr e ↦ (let P : Receipt → Type 0 = λ x. is_write x.call x.reply ≡ true → x.position.rank ≡ 0 in subst P e zero w)
  ];
  alone = λ r s c d k t v w. elim (Contains-push_cases rs n r c) [
    | inl i ↦ elim (Contains-push_cases rs n s d) [
      | inl j ↦ l.alone r s i j k t v w
      | inr e ↦ (let P : Receipt → Type 0 = λ x. key_of x.call ≡ key_of r.call → x.position.stamp ≡ r.position.stamp → is_write x.call x.reply ≡ true → ⊥ in
          absurd (subst P e (λ a b x. fresh r i (written_at n r a b x)) (sym k) (sym t) w))
    ]
    | inr e ↦ elim (Contains-push_cases rs n s d) [
      | inl j ↦ (let P : Receipt → Type 0 = λ x. key_of x.call ≡ key_of s.call → x.position.stamp ≡ s.position.stamp → is_write x.call x.reply ≡ true → ⊥ in
          absurd (subst P e (λ a b x. fresh s j (written_at n s a b x)) k t v))
      | inr f ↦ sym e ∙ f
    ]
  ];
  behind = λ r s c d k t v w. elim (Contains-push_cases rs n r c) [
    | inl i ↦ elim (Contains-push_cases rs n s d) [
      | inl j ↦ l.behind r s i j k t v w
      | inr e ↦ (let P : Receipt → Type 0 = λ x. key_of r.call ≡ key_of x.call → r.position.stamp ≡ x.position.stamp → is_write x.call x.reply ≡ false → 0 < x.position.rank in
          subst P e (λ a b x. behind r i a b v x) k t w)
    ]
    | inr e ↦ elim (Contains-push_cases rs n s d) [
      | inl j ↦ (let P : Receipt → Type 0 = λ x. key_of x.call ≡ key_of s.call → x.position.stamp ≡ s.position.stamp → is_write x.call x.reply ≡ true → ⊥ in
          absurd (subst P e (λ a b x. fresh s j (written_at n s a b x)) k t v))
      | inr f ↦ absurd (false≢true (sym w ∙ ap (λ (x : Receipt). is_write x.call x.reply) (sym f ∙ e) ∙ v))
    ]
  ];
}

-- ---- the kinds of step
-- no receipt is added and nothing held changes; bounds may rise
pub register_same_from : (start held now : ℕ → Option (List ℕ)) (bound raised : ℕ → ℕ) (rs : List Receipt) → IsRegisterFrom start held bound rs → ((k : ℕ) → now k ≡ held k) → ((k : ℕ) → bound k ≤ raised k) → IsRegisterFrom start now raised rs
register_same_from start held now bound raised rs h e le = record {
  legal = h.legal;
  stamps = λ r c. omega (arith, h.stamps r c, le (key_of r.call));
  values = λ k.
      let P : Option (List ℕ) → Type 0 = λ v. LeavesFrom start rs k (raised k) v in
      subst P (sym (e k)) (leaves_past start rs k (bound k) (raised k) (held k) (λ r c x. omega (arith, h.stamps r c, ap bound x)) (le k) (h.values k));
}

-- a read is added
pub register_read_from : (start held : ℕ → Option (List ℕ)) (bound : ℕ → ℕ) (rs : List Receipt) (n : Receipt) → IsRegisterFrom start held bound rs → IsReadFrom start bound rs n → IsRegisterFrom start held bound (rs ++ n ∷ [])
register_read_from start held bound rs n h w = record {
  legal = legal_push start rs n h.legal (λ r c x. false≢true (sym w.read ∙ x.write)) w.right (λ x. absurd (false≢true (sym w.read ∙ x))) (λ r c k t v _. w.behind r c k t v);
  stamps = λ r c. elim (Contains-push_cases rs n r c) [
    | inl i ↦ h.stamps r i
    | inr e ↦ (let P : Receipt → Type 0 = λ x. x.position.stamp ≤ bound (key_of x.call) in subst P e w.old)
  ];
  values = λ k. stands_other start rs n k (bound k + 1) (held k) (λ x. false≢true (sym w.read ∙ x.write)) (h.values k);
}

-- a write is added: its key has its value, and its stamp as the bound; the other keys keep what they have
pub register_write_from : (start held now : ℕ → Option (List ℕ)) (bound raised : ℕ → ℕ) (rs : List Receipt) (n : Receipt) → IsRegisterFrom start held bound rs → IsWriteFrom start bound rs n
    → raised (key_of n.call) ≡ n.position.stamp → ((k : ℕ) → bound k ≤ raised k)
    → now (key_of n.call) ≡ written_by n.call → ((k : ℕ) → (k ≡ key_of n.call → ⊥) → now k ≡ held k) → IsRegisterFrom start now raised (rs ++ n ∷ [])
register_write_from start held now bound raised rs n h w top le here there = record {
  legal = legal_push start rs n h.legal (λ r c x. omega (arith, h.stamps r c, x.below, ap bound x.key, w.past)) w.right (λ _. w.first) (λ r c k t v x. absurd (false≢true (sym x ∙ w.write)));
  stamps = λ r c. elim (Contains-push_cases rs n r c) [
    | inl i ↦ omega (arith, h.stamps r i, le (key_of r.call))
    | inr e ↦ (let P : Receipt → Type 0 = λ x. x.position.stamp ≤ raised (key_of x.call) in subst P e (omega (arith, top)))
  ];
  values = λ k. elim (cases_eq k (key_of n.call)) [
    | inl s ↦ (let P : Option (List ℕ) → Type 0 = λ v. LeavesFrom start (rs ++ n ∷ []) k (raised k) v in
        subst P (sym (ap now s ∙ here)) (stands_write start rs n k (raised k + 1) (record { write = w.write; key = sym s; below = omega (arith, ap raised s, top) })
        (λ r c x. omega (arith, h.stamps r c, ap bound (x.key ∙ s), w.past))))
    | inr s ↦ (let P : Option (List ℕ) → Type 0 = λ v. LeavesFrom start (rs ++ n ∷ []) k (raised k) v in
        subst P (sym (there k s)) (stands_other start rs n k (raised k + 1) (held k) (λ x. s (sym x.key))
        (leaves_past start rs k (bound k) (raised k) (held k) (λ r c x. omega (arith, h.stamps r c, ap bound x)) (le k) (h.values k))))
  ];
}

-- before a write that may be added stands what is held, and that stays so behind receipts of later stamps
pub register_stands : (start held : ℕ → Option (List ℕ)) (bound : ℕ → ℕ) (rs : List Receipt) (k t : ℕ) → IsRegisterFrom start held bound rs → bound k < t → StandsBefore start rs k t (held k)
register_stands start held bound rs k t h lt = stands_past start rs k (bound k + 1) t (held k) (λ r c e. omega (arith, h.stamps r c, ap bound e)) (omega arith) (h.values k)

pub stands_stays : (start : ℕ → Option (List ℕ)) (rs : List Receipt) (n : Receipt) (k t : ℕ) (v : Option (List ℕ)) → t ≤ n.position.stamp → StandsBefore start rs k t v → StandsBefore start (rs ++ n ∷ []) k t v
stands_stays start rs n k t v le h = stands_other start rs n k t v (λ w. omega (arith, le, w.below)) h

-- ---- and of the register that starts empty
pub register_same : (held now : ℕ → Option (List ℕ)) (bound raised : ℕ → ℕ) (rs : List Receipt) → IsRegister held bound rs → ((k : ℕ) → now k ≡ held k) → ((k : ℕ) → bound k ≤ raised k) → IsRegister now raised rs
register_same held now bound raised rs = register_same_from nothing held now bound raised rs

pub register_read : (held : ℕ → Option (List ℕ)) (bound : ℕ → ℕ) (rs : List Receipt) (n : Receipt) → IsRegister held bound rs → IsReadOf bound rs n → IsRegister held bound (rs ++ n ∷ [])
register_read held bound rs n = register_read_from nothing held bound rs n

pub register_write : (held now : ℕ → Option (List ℕ)) (bound raised : ℕ → ℕ) (rs : List Receipt) (n : Receipt) → IsRegister held bound rs → IsWriteOf bound rs n
    → raised (key_of n.call) ≡ n.position.stamp → ((k : ℕ) → bound k ≤ raised k)
    → now (key_of n.call) ≡ written_by n.call → ((k : ℕ) → (k ≡ key_of n.call → ⊥) → now k ≡ held k) → IsRegister now raised (rs ++ n ∷ [])
register_write held now bound raised rs n = register_write_from nothing held now bound raised rs n
