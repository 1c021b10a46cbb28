use Rattle.std.proofs.Common.{ℕ, ◌≡◌, inl, inr, Bool, true, false, refl, sym, ◌∙◌, ap, arith}
use Rattle.std.proofs.lemmas.Bool.{false≢true}
use Rattle.dn_word.specs.declared.packed.gate.Gate.{Gate}
use Rattle.dn_word.specs.declared.packed.deed.Deed.{Deed}
use Rattle.dn_model.specs.Regions.{slot_of}
use Rattle.dn_store.specs.State.{StoreState, with_at}
use Rattle.dn_store.specs.Changes.{gated}
use Rattle.dn_store.specs.Holding.{authority_in}
use Rattle.dn_store.proofs.At.{at_by}
use Rattle.dn_owners.specs.Known.{Owners}
use Rattle.dn_owners.specs.Sound.{IsSound, AreStamps}
use Rattle.dn_owners.specs.Events.{Raise, Fence, happens}
use Rattle.dn_owners.specs.Given.{IsGiven}
use Rattle.dn_owners.specs.Later.{IsRisen}
use Rattle.dn_owners.proofs.Grown.{risen_at, looking_risen, past_risen, counted_risen, told_risen, exchanged, fenced}

-- A gate's stamp is raised, or its bit is set.

pub bit_stays : (a b : Bool) → (b ≡ false → a ≡ false) → a ≡ true → b ≡ true
bit_stays a true h t = refl
bit_stays a false h t = absurd (false≢true (sym (h refl) ∙ t))

pub stamps_risen : (deeds : ℕ → Deed) (old new : ℕ → Gate) (promised : ℕ → ℕ) → ((m : ℕ) → IsRisen (old m) (new m)) → AreStamps deeds old promised → AreStamps deeds new promised
stamps_risen deeds old new promised r h = record { each = λ k. omega (arith, h.each k, (r (deeds (slot_of k)).lane).stamp) }

pub no_stamp : (gates : ℕ → Gate) (n : ℕ) (gate : Gate) → (0 ≡ n → gate.stamp ≡ 0) → (gates 0).stamp ≡ 0 → (with_at gates n gate 0).stamp ≡ 0
no_stamp gates n gate here was = at_by (λ (x : Gate). x.stamp ≡ 0) gates n gate 0 here (λ d. was)

gated_kept : (o : Owners) (n : ℕ) (gate : Gate) → IsSound o → IsRisen (o.store.gates n) gate → (0 ≡ n → gate.stamp ≡ 0) → IsSound (record o { store = gated o.store n gate })
gated_kept o n gate h r zero =
    let s : StoreState = o.store in
    let now : ℕ → Gate = with_at s.gates n gate in
    let risen : (m : ℕ) → IsRisen (s.gates m) (now m) = risen_at s.gates n gate r in
    record {
      one = h.one;
      idle = record { slots = h.idle.slots; stamp = no_stamp s.gates n gate zero h.idle.stamp };
      leading = h.leading;
      looks = λ m. looking_risen s.deeds (s.gates m) (now m) m (o.knows m) (risen m) (h.looks m);
      past = λ m. past_risen s.deeds (s.gates m) (now m) (o.knows m) (risen m) (h.past m);
      pending = h.pending;
      counted = λ m. counted_risen (s.logs m) (s.gates m) (now m) (s.marks m) s.deeds m (o.knows m) (risen m) (h.counted m);
      told = λ m. told_risen (s.logs m) (s.gates m) (now m) s.deeds (authority_in s) m (o.knows m) (risen m) (h.told m);
      stamps = stamps_risen s.deeds s.gates now o.promised risen h.stamps;
      watched = λ w e. let was = h.watched w e in record {
        past = elim was.past [ inl x ↦ inl x | inr b ↦ inr (bit_stays (s.gates w.lane).fenced (now w.lane).fenced (risen w.lane).clear b) ];
        names = was.names;
        ended = was.ended;
        stamps = was.stamps;
      };
    }

pub raise_kept : (o : Owners) (n : ℕ) (gate : Gate) → IsSound o → IsGiven o (Raise n gate) → IsSound (happens o (Raise n gate))
raise_kept o n gate h g = gated_kept o n gate h (exchanged (o.store.gates n) gate n g.0 (omega (arith, g.1))) (λ e. absurd (omega (arith, e, g.0.lane)))

pub fence_kept : (o : Owners) (n : ℕ) (gate : Gate) → IsSound o → IsGiven o (Fence n gate) → IsSound (happens o (Fence n gate))
fence_kept o n gate h g = gated_kept o n gate h (fenced (o.store.gates n) gate g.0 g.1 g.2) (λ e. g.1 ∙ ap (λ x. (o.store.gates x).stamp) (sym e) ∙ h.idle.stamp)
