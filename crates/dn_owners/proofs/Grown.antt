use Rattle.std.proofs.Common.{ℕ, ◌≤◌, ◌≡◌, Bool, true, max, List, [], ◌++◌, Option, Some, None, sym, ◌∙◌, ap, subst, arith, append-nil}
use Rattle.dn_word.specs.declared.packed.gate.Gate.{Gate}
use Rattle.dn_word.specs.declared.packed.deed.Deed.{Deed}
use Rattle.dn_model.specs.Regions.{slot_of}
use Rattle.dn_model.specs.declared.logs.Placed.{Placed}
use Rattle.dn_store.specs.State.{with_at}
use Rattle.dn_store.proofs.At.{at_by}
use Rattle.dn_store.specs.Changes.{gated, deeded}
use Rattle.dn_owners.specs.Known.{Knows, Watch, Owners}
use Rattle.dn_owners.specs.Sound.{IsLooking, IsPast, IsCounted, IsTold, Owns}
use Rattle.dn_model.specs.Held.{Found}
use Rattle.dn_record.specs.declared.records.Record.{Record}
use Rattle.dn_owners.specs.Events.{Event, Look_known, Look_new, End, Raise, Seal, Promise, Trim, Set, Pass, Fence, Leave, Release, Watches, Grant, Adopt, Stop, Begin, happens}
use Rattle.dn_owners.specs.Given.{IsExchange, IsGiven}
use Rattle.dn_owners.specs.Later.{IsRisen, IsLater}
use Rattle.std.proofs.lemmas.Bool.{false≢true}

-- ---- a gate that has risen: what a lane knows stays
pub risen_same : (g : Gate) → IsRisen g g
risen_same g = record { len = omega arith; stamp = omega arith; clear = λ b. b }

pub risen_at : (gates : ℕ → Gate) (n : ℕ) (gate : Gate) → IsRisen (gates n) gate → (m : ℕ) → IsRisen (gates m) (with_at gates n gate m)
risen_at gates n gate r m = at_by (λ (x : Gate). IsRisen (gates m) x) gates n gate m
    (λ e. let P : ℕ → Type 0 = λ y. IsRisen (gates y) gate in subst P (sym e) r) (λ d. risen_same (gates m))

pub owns_before : (running : Bool) (old new : Gate) (d : Deed) (n : ℕ) → IsRisen old new → Owns running new d n → Owns running old d n
owns_before running old new d n r w = record { is_running = w.is_running; unfenced = r.clear w.unfenced; names = w.names }

pub looking_risen : (deeds : ℕ → Deed) (old new : Gate) (n : ℕ) (v : Knows) → IsRisen old new → IsLooking deeds old n v → IsLooking deeds new n v
looking_risen deeds old new n v r h = record {
  held = λ l q b. h.held l q (r.clear b);
  learnt = λ l q. let was = h.learnt l q in record { of = was.of; is = was.is; same = was.same; before = omega (arith, was.before, r.len) };
  running = h.running;
}

pub past_risen : (deeds : ℕ → Deed) (old new : Gate) (v : Knows) → IsRisen old new → IsPast deeds old v → IsPast deeds new v
past_risen deeds old new v r h = record { each = λ t c q. let was = h.each t c q in (was.0, omega (arith, was.1, r.len)) }

pub counted_risen : (log : List Placed) (old new : Gate) (mark : ℕ) (deeds : ℕ → Deed) (n : ℕ) (v : Knows) → IsRisen old new → IsCounted log old mark deeds n v → IsCounted log new mark deeds n v
counted_risen log old new mark deeds n v r h = record { each = λ k p w. h.each k p (owns_before v.running old new (deeds (slot_of k)) n r w) }

pub told_risen : (log : List Placed) (old new : Gate) (deeds : ℕ → Deed) (authority : ℕ → Found (Option Record)) (n : ℕ) (v : Knows) → IsRisen old new → IsTold log old deeds authority n v
    → IsTold log new deeds authority n v
told_risen log old new deeds authority n v r h = record { each = λ k c q w. h.each k c q (owns_before v.running old new (deeds (slot_of k)) n r w) }

-- ---- what an event leaves grows
same_log : (log : List Placed) → (more : List Placed) × (log ≡ log ++ more)
same_log log = ([], sym (append-nil log))

more_at : (logs : ℕ → List Placed) (n : ℕ) (more : List Placed) (m : ℕ) → (x : List Placed) × (with_at logs n (logs n ++ more) m ≡ logs m ++ x)
more_at logs n more m = at_by (λ y. (x : List Placed) × (y ≡ logs m ++ x)) logs n (logs n ++ more) m (λ e. (more, ap (λ y. logs y ++ more) (sym e))) (λ d. same_log (logs m))

-- an event that leaves the store
left : (o : Owners) (knows : ℕ → Knows) (watch : Option Watch) (promised : ℕ → ℕ) → ((k : ℕ) → o.promised k ≤ promised k)
    → IsLater o (record { store = o.store; knows = knows; watch = watch; promised = promised })
left o knows watch promised p = record {
  logs = λ n. same_log (o.store.logs n);
  gates = λ n. risen_same (o.store.gates n);
  marks = λ n. omega arith;
  epochs = λ t. omega arith;
  floors = λ t. omega arith;
  promised = p;
}

same_promises : (o : Owners) (k : ℕ) → o.promised k ≤ o.promised k
same_promises o k = omega arith

gate_later : (o : Owners) (n : ℕ) (gate : Gate) → IsRisen (o.store.gates n) gate → IsLater o (record o { store = gated o.store n gate })
gate_later o n gate r = record {
  logs = λ m. same_log (o.store.logs m);
  gates = risen_at o.store.gates n gate r;
  marks = λ m. omega arith;
  epochs = λ t. omega arith;
  floors = λ t. omega arith;
  promised = λ k. omega arith;
}

deed_later : (o : Owners) (t : ℕ) (d : Deed) (watch : Option Watch) → (o.store.deeds t).epoch ≤ d.epoch → (o.store.deeds t).floor ≤ d.floor
    → IsLater o (record o { store = deeded o.store t d; watch = watch })
deed_later o t d watch epoch floor = record {
  logs = λ m. same_log (o.store.logs m);
  gates = λ m. risen_same (o.store.gates m);
  marks = λ m. omega arith;
  epochs = λ u. at_by (λ (x : Deed). (o.store.deeds u).epoch ≤ x.epoch) o.store.deeds t d u (λ e. omega (arith, epoch, ap (λ x. (o.store.deeds x).epoch) e)) (λ ne. omega arith);
  floors = λ u. at_by (λ (x : Deed). (o.store.deeds u).floor ≤ x.floor) o.store.deeds t d u (λ e. omega (arith, floor, ap (λ x. (o.store.deeds x).floor) e)) (λ ne. omega arith);
  promised = λ k. omega arith;
}

pub exchanged : (old new : Gate) (n : ℕ) → IsExchange old new n → old.len ≤ new.len → IsRisen old new
exchanged old new n g le = record { len = le; stamp = g.stamp; clear = λ b. g.unfenced }

pub fenced : (old new : Gate) → new.fenced ≡ true → new.stamp ≡ old.stamp → new.len ≡ old.len → IsRisen old new
fenced old new bit stamp len = record { len = omega (arith, len); stamp = omega (arith, stamp); clear = λ b. absurd (false≢true (sym b ∙ bit)) }

pub later : (o : Owners) (e : Event) → IsGiven o e → IsLater o (happens o e)
later o (Look_known n l) g = left o (happens o (Look_known n l)).knows o.watch o.promised (same_promises o)
later o (Look_new n l) g = left o (happens o (Look_new n l)).knows o.watch o.promised (same_promises o)
later o (End n) g = left o (happens o (End n)).knows o.watch o.promised (same_promises o)
later o (Raise n gate) g = gate_later o n gate (exchanged (o.store.gates n) gate n g.0 (omega (arith, g.1)))
later o (Seal n gate more) g = record {
  logs = more_at o.store.logs n more;
  gates = risen_at o.store.gates n gate (exchanged (o.store.gates n) gate n g.exchange g.longer);
  marks = λ m. omega arith;
  epochs = λ t. omega arith;
  floors = λ t. omega arith;
  promised = λ k. omega arith;
}
later o (Promise n k stamp) g = left o o.knows o.watch (happens o (Promise n k stamp)).promised
    (λ q. at_by (λ x. o.promised q ≤ x) o.promised k (max (o.promised k) stamp) q (λ e. omega (arith, ap o.promised e)) (λ ne. omega arith))
later o (Trim n to) g = left o (happens o (Trim n to)).knows o.watch o.promised (same_promises o)
later o (Set n k p place) g = record {
  logs = λ m. same_log (o.store.logs m);
  gates = λ m. risen_same (o.store.gates m);
  marks = λ m. omega arith;
  epochs = λ t. omega arith;
  floors = λ t. omega arith;
  promised = λ q. omega arith;
}
later o (Pass n to p) g = record {
  logs = λ m. same_log (o.store.logs m);
  gates = λ m. risen_same (o.store.gates m);
  marks = λ m. at_by (λ x. o.store.marks m ≤ x) o.store.marks n to m (λ e. omega (arith, ap o.store.marks e, g.at, g.past)) (λ ne. omega arith);
  epochs = λ t. omega arith;
  floors = λ t. omega arith;
  promised = λ k. omega arith;
}
later o (Fence n gate) g = gate_later o n gate (fenced (o.store.gates n) gate g.0 g.1 g.2)
later o (Leave t d) g = deed_later o t d o.watch (omega (arith, g.epoch)) (omega (arith, g.floor))
later o (Release t d) g = deed_later o t d o.watch (omega (arith, g.0.epoch)) (omega (arith, g.0.floor))
later o (Watches w) g = left o o.knows (Some w) o.promised (same_promises o)
later o (Grant w d) g = deed_later o w.slot d None (omega (arith, g.new.epoch)) g.new.floor
later o (Adopt t d) g = deed_later o t d None (omega (arith, g.new.epoch)) g.new.floor
later o (Stop n) g = left o (happens o (Stop n)).knows o.watch o.promised (same_promises o)
later o (Begin n) g = left o (happens o (Begin n)).knows o.watch o.promised (same_promises o)
