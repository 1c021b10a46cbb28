use Rattle.std.proofs.Common.{ℕ, ◌≡◌, ◌⊎◌, inl, inr, List, Option, Some, None, sym, ◌∙◌, ap, subst}
use Rattle.dn_word.specs.declared.packed.gate.Gate.{Gate}
use Rattle.dn_word.specs.declared.packed.deed.Deed.{Deed}
use Rattle.dn_record.specs.declared.records.Record.{Record}
use Rattle.dn_record.specs.declared.records.Record.TheVariants.{Delete}
use Rattle.dn_model.specs.declared.logs.Placed.{Placed}
use Rattle.dn_model.specs.Held.{Found, Says, unmerged, authority_by, held_from}
use Rattle.dn_model.specs.Regions.{slot_of}
use Rattle.dn_store.specs.State.{StoreState}
use Rattle.dn_store.specs.Holding.{owner_in, waiting, authority_in}
use Rattle.dn_owners.specs.Known.{Knows}
use Rattle.dn_owners.specs.Sound.{IsTold, Agrees}
use Rattle.dn_owners.specs.Later.{Forgets}

-- How an authority may move but by its owner's seal: not at all, or a Delete is forgotten.
abbrev pub Moves : Found (Option Record) → Found (Option Record) → ℕ → Type 0
Moves old new k = (new ≡ old) ⊎ Forgets old new k

delete_is : (k : ℕ) (r : Record) → (let x : Found (Option Record) = Says (Some (Delete k)) in x) ≡ Says (Some r) → r ≡ Delete k
delete_is k r e = cc

delete_not : (k : ℕ) → (let x : Found (Option Record) = Says (Some (Delete k)) in x) ≡ Says None → ⊥
delete_not k e = absurd (cc e)

pub agrees_moved : (k : ℕ) (old new : Found (Option Record)) (r : Record) → Moves old new k → Agrees old k r → Agrees new k r
agrees_moved k old new r m a = elim m [
  | inl e ↦ (let P : Found (Option Record) → Type 0 = λ x. Agrees x k r in subst P (sym e) a)
  | inr d ↦ elim a [
    | inl f ↦ inr (d.1, delete_is k r (sym d.0 ∙ f))
    | inr f ↦ absurd (delete_not k (sym d.0 ∙ f.0))
  ]
]

pub told_moved : (log : List Placed) (gate : Gate) (deeds : ℕ → Deed) (old new : ℕ → Found (Option Record)) (n : ℕ) (v : Knows) → ((k : ℕ) → Moves (old k) (new k) k)
    → IsTold log gate deeds old n v → IsTold log gate deeds new n v
told_moved log gate deeds old new n v m h = record { each = λ k c r w q e u. agrees_moved k (old k) (new k) r (m k) (h.each k c r w q e u) }

pub said_moved : (cells : ℕ → ℕ) (logs : ℕ → List Placed) (k : ℕ) (old new : Found (Option Record)) → Moves old new k → held_from cells logs k new ≡ held_from cells logs k old
said_moved cells logs k old new m = elim m [
  | inl e ↦ ap (held_from cells logs k) e
  | inr d ↦ ap (held_from cells logs k) d.1 ∙ sym (ap (held_from cells logs k) d.0)
]

-- deeds that name the same lane
pub authority_deeds : (s : StoreState) (deeds : ℕ → Deed) (k : ℕ) → (deeds (slot_of k)).lane ≡ (s.deeds (slot_of k)).lane → authority_in (record s { deeds = deeds }) k ≡ authority_in s k
authority_deeds s deeds k e = ap (λ m. authority_by s.logs k (unmerged k (s.marks m) (s.logs m)) (s.index k)) e

-- deeds that name another, where nothing of the key waits in either log
pub authority_granted : (s : StoreState) (deeds : ℕ → Deed) (k : ℕ) → ((n : ℕ) → waiting s n k ≡ None) → authority_in (record s { deeds = deeds }) k ≡ authority_in s k
authority_granted s deeds k none = ap (λ x. authority_by s.logs k x (s.index k)) (none (deeds (slot_of k)).lane ∙ sym (none (owner_in s k)))
