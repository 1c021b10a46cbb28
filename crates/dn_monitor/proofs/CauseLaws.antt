use Rattle.std.proofs.Common.{◌≡◌, ◌≢◌, ◌⊎◌, inl, inr, ℕ, ◌+◌, ◌-◌, ◌^◌, ◌==◌, ◌<◌, ◌↔◌, IsTrue, Option, Some, None, Bool, true, false, if◌then◌else◌, nat_lt, refl, sym, ◌∙◌, ap, subst}
use Rattle.std.proofs.lemmas.Bool.{eqb-true, eqb-false, eq-eqb, ne_eqb, ltb-true, ltb-false, lt-ltb, le-ltb}
use Rattle.dn_word.specs.Gate.{gate_of}
use Rattle.dn_word.specs.Deed.{deed_of}
use Rattle.dn_word.specs.declared.packed.gate.Gate.{Gate}
use Rattle.dn_word.specs.declared.packed.deed.DeedState.{DeedState}
use Rattle.dn_word.specs.declared.packed.deed.DeedState.TheVariants.{Nobody, Owned, Leaving, Released}
use Rattle.dn_monitor.specs.Monitor.{Monitoring, is_lane, on, told, ended, granting, yielding, by_state, passed, by_gate, won, step_in, is_last}
use Rattle.dn_monitor.specs.Causes.{IsFormatted, IsLooked, IsMade, WasSo, IsGranted, IsBarred, IsTaken, IsHeld, IsWaiting, IsNotFenced, IsVacant, IsToGrant, IsWorn}
use Rattle.dn_monitor.specs.declared.orders.MonitorAnswer.{MonitorAnswer}
use Rattle.dn_monitor.specs.declared.orders.MonitorAnswer.TheVariants.{Formatted, Looked, Granted, Barred, Taken, Held, Waiting, NotFenced, Worn}
use Rattle.dn_monitor.specs.declared.orders.MonitorTurn.{MonitorTurn}
use Rattle.dn_monitor.specs.declared.orders.MonitorTurn.TheVariants.{More, Answered}
use Rattle.dn_monitor.specs.declared.places.Errand.{Errand}
use Rattle.dn_monitor.specs.declared.places.Errand.TheVariants.{Move, Takeover}
use Rattle.dn_monitor.specs.declared.places.MonitorPlace.{MonitorPlace}
use Rattle.dn_monitor.specs.declared.places.MonitorPlace.TheVariants as at
use Rattle.dn_monitor.specs.declared.steps.MonitorStep.{MonitorStep}

-- ---- where an answer comes
-- what an answer says of the place and the word that it came at
abbrev Says : ℕ → MonitorPlace → MonitorAnswer → Type 0
Says word place (Formatted old) = IsFormatted old word place
Says word place (Looked deed) = IsLooked deed word place
Says word place (Granted deed) = IsGranted deed word place
Says word place (Barred old) = IsBarred old word place
Says word place (Taken slots) = IsTaken slots word place
Says word place (Held deed) = IsHeld deed word place
Says word place (Waiting mark need) = IsWaiting mark need word place
Says word place (NotFenced gate) = IsNotFenced gate word place
Says word place (Worn epoch) = IsWorn epoch word place

abbrev pub Says_at : ℕ → MonitorPlace → MonitorTurn → Type 0
Says_at word place More = Unit {0}
Says_at word place (Answered answer) = Says word place answer

-- and what the grant that is next says
abbrev pub Grants_at : ℕ → MonitorPlace → MonitorPlace → Type 0
Grants_at word place (at.Grant errand deed gate) = IsToGrant deed word place
Grants_at word place next = Unit {0}

-- whether the order is over
abbrev pub is_done : MonitorPlace → Bool
is_done at.Done = true
is_done place = false

done_is : (place : MonitorPlace) → is_done place ≡ true → place ≡ at.Done
done_is at.Done e = refl
done_is (at.Format segments) e = absurd (cc e)
done_is (at.Look slot) e = absurd (cc e)
done_is (at.Fence lane) e = absurd (cc e)
done_is (at.Deed errand) e = absurd (cc e)
done_is (at.Leave slot to deed) e = absurd (cc e)
done_is (at.Gate errand deed) e = absurd (cc e)
done_is (at.Mark errand deed gate) e = absurd (cc e)
done_is (at.Grant errand deed gate) e = absurd (cc e)

pub record Caused (word : ℕ) (place : MonitorPlace) (step : MonitorStep) : Type 0 where
  pub answer : Says_at word place step.turn
  pub grant : Grants_at word place step.place
  pub last : place ≢ at.Done → is_done step.place ≡ is_last step.turn

granting_by : (word : ℕ) (place : MonitorPlace) (errand : Errand) (deed : ℕ) (gate : Option Gate) → IsToGrant deed word place
    → (last : Bool) → ((deed_of deed).epoch == 2 ^ 23 - 1) ≡ last
    → Caused word place (if last then ended (Worn (deed_of deed).epoch) else on (at.Grant errand deed gate))
granting_by word place errand deed gate next true e =
    let is : (deed_of deed).epoch ≡ 2 ^ 23 - 1 = eqb-true (deed_of deed).epoch (2 ^ 23 - 1) e in
    record { answer = record { deed = deed; next = next; last = is; told = is }; grant = tt; last = λ d. refl }
granting_by word place errand deed gate next false e = record { answer = tt; grant = next; last = λ d. refl }

granting_caused : (word : ℕ) (place : MonitorPlace) (errand : Errand) (deed : ℕ) (gate : Option Gate) → IsToGrant deed word place → Caused word place (granting errand deed gate)
granting_caused word place errand deed gate next = granting_by word place errand deed gate next ((deed_of deed).epoch == 2 ^ 23 - 1) refl

passed_by : (word : ℕ) (place : MonitorPlace) (lane slot n : ℕ) → (slot ≡ 63 → IsTaken n word place) → (last : Bool) → (slot == 63) ≡ last
    → Caused word place (if last then ended (Taken n) else on (at.Deed (Takeover lane (slot + 1) n)))
passed_by word place lane slot n taken true e = record { answer = taken (eqb-true slot 63 e); grant = tt; last = λ d. refl }
passed_by word place lane slot n taken false e = record { answer = tt; grant = tt; last = λ d. refl }

-- a slot that is moved
vacant_caused : (slot to word : ℕ) → IsVacant word → Caused word (at.Deed (Move slot to)) (granting (Move slot to) word None)
vacant_caused slot to word vacant =
    granting_caused word (at.Deed (Move slot to)) (Move slot to) word None (inl (record { slot = slot; to = to; here = refl; found = refl; vacant = vacant }))

owned_by : (slot to word : ℕ) → (deed_of word).state ≡ Owned → (target : Bool) → ((deed_of word).lane == to) ≡ target
    → Caused word (at.Deed (Move slot to)) (if target then ended (Granted word) else on (at.Leave slot to word))
owned_by slot to word owned true e =
    record { answer = inr (record { slot = slot; to = to; here = refl; owned = owned; target = eqb-true (deed_of word).lane to e; found = refl }); grant = tt; last = λ d. refl }
owned_by slot to word owned false e = record { answer = tt; grant = tt; last = λ d. refl }

yield_by : (slot to word : ℕ) → ((deed_of word).state ≡ Leaving) ⊎ ((deed_of word).state ≡ Released) → (named : Bool) → is_lane (deed_of word).lane ≡ named
    → Caused word (at.Deed (Move slot to)) (if named then on (at.Gate (Move slot to) word) else granting (Move slot to) word None)
yield_by slot to word left true e = record { answer = tt; grant = tt; last = λ d. refl }
yield_by slot to word left false e = vacant_caused slot to word (inr (left, e))

state_caused : (slot to word : ℕ) (s : DeedState) → (deed_of word).state ≡ s → Caused word (at.Deed (Move slot to)) (by_state slot to word s)
state_caused slot to word Nobody e = vacant_caused slot to word (inl e)
state_caused slot to word Owned e = owned_by slot to word e ((deed_of word).lane == to) refl
state_caused slot to word Leaving e = yield_by slot to word (inl e) (is_lane (deed_of word).lane) refl
state_caused slot to word Released e = yield_by slot to word (inr e) (is_lane (deed_of word).lane) refl

held_by : (slot to deed word : ℕ) → (deed_of deed).state ≡ Leaving → (fenced : Bool) → (gate_of word).fenced ≡ fenced
    → Caused word (at.Gate (Move slot to) deed) (if fenced then on (at.Mark (Move slot to) deed (gate_of word)) else told (at.Deed (Move slot to)) (Held deed))
held_by slot to deed word e true f = record { answer = tt; grant = tt; last = λ d. refl }
held_by slot to deed word e false f = record { answer = record { slot = slot; to = to; here = refl; leaving = e; unfenced = f }; grant = tt; last = λ d. refl }

gate_caused : (slot to deed word : ℕ) (s : DeedState) → (deed_of deed).state ≡ s → Caused word (at.Gate (Move slot to) deed) (by_gate slot to deed (gate_of word) s)
gate_caused slot to deed word Nobody e = record { answer = tt; grant = tt; last = λ d. refl }
gate_caused slot to deed word Owned e = record { answer = tt; grant = tt; last = λ d. refl }
gate_caused slot to deed word Leaving e = held_by slot to deed word e (gate_of word).fenced refl
gate_caused slot to deed word Released e = record { answer = tt; grant = tt; last = λ d. refl }

-- a slot of a takeover
named_by : (lane slot n word : ℕ) (named : Bool) → ((deed_of word).lane == lane) ≡ named
    → Caused word (at.Deed (Takeover lane slot n)) (if named then on (at.Gate (Takeover lane slot n) word) else passed lane slot n)
named_by lane slot n word true e = record { answer = tt; grant = tt; last = λ d. refl }
named_by lane slot n word false e =
    passed_by word (at.Deed (Takeover lane slot n)) lane slot n
    (λ last. inl (record { lane = lane; here = ap (λ s. at.Deed (Takeover lane s n)) last; other = eqb-false (deed_of word).lane lane e }))
    (slot == 63) refl

fenced_by : (lane slot n deed word : ℕ) (fenced : Bool) → (gate_of word).fenced ≡ fenced
    → Caused word (at.Gate (Takeover lane slot n) deed) (if fenced then on (at.Mark (Takeover lane slot n) deed (gate_of word)) else ended (NotFenced word))
fenced_by lane slot n deed word true e = record { answer = tt; grant = tt; last = λ d. refl }
fenced_by lane slot n deed word false e =
    record { answer = record { lane = lane; slot = slot; before = n; deed = deed; here = refl; found = refl; unfenced = e }; grant = tt; last = λ d. refl }

-- the mark, and the exchange
mark_by : (errand : Errand) (deed : ℕ) (gate : Gate) (word : ℕ) (below : Bool) → nat_lt word gate.len ≡ below
    → Caused word (at.Mark errand deed gate) (if below then told (at.Mark errand deed gate) (Waiting word gate.len) else granting errand deed (Some gate))
mark_by errand deed gate word true e =
    record { answer = record { errand = errand; deed = deed; gate = gate; here = refl; found = refl; length = refl; below = ltb-true word gate.len e }; grant = tt; last = λ d. refl }
mark_by errand deed gate word false e =
    granting_caused word (at.Mark errand deed gate) errand deed (Some gate)
    (inr (record { errand = errand; gate = gate; here = refl; merged = ltb-false word gate.len e }))

won_caused : (errand : Errand) (deed : ℕ) (gate : Option Gate) (word : ℕ) → word ≡ deed → Caused word (at.Grant errand deed gate) (won errand deed gate)
won_caused (Move slot to) deed gate word e =
    record { answer = inl (record { slot = slot; to = to; seen = deed; gate = gate; here = refl; done = e; made = refl }); grant = tt; last = λ d. refl }
won_caused (Takeover lane slot n) deed gate word e =
    passed_by word (at.Grant (Takeover lane slot n) deed gate) lane slot (n + 1)
    (λ last. inr (record { lane = lane; before = n; deed = deed; gate = gate; here = ap (λ s. at.Grant (Takeover lane s n) deed gate) last; done = e; count = refl }))
    (slot == 63) refl

grant_by : (errand : Errand) (deed : ℕ) (gate : Option Gate) (word : ℕ) (same : Bool) → (word == deed) ≡ same
    → Caused word (at.Grant errand deed gate) (if same then won errand deed gate else on (at.Deed errand))
grant_by errand deed gate word true e = won_caused errand deed gate word (eqb-true word deed e)
grant_by errand deed gate word false e = record { answer = tt; grant = tt; last = λ d. refl }

-- each answer, and each grant that is next, has its cause
pub step_caused : (word : ℕ) (place : MonitorPlace) → Caused word place (step_in word place)
step_caused word at.Done = record { answer = tt; grant = tt; last = λ d. absurd (d refl) }
step_caused word (at.Format segments) = record { answer = record { segments = segments; here = refl; found = refl }; grant = tt; last = λ d. refl }
step_caused word (at.Look slot) = record { answer = record { slot = slot; here = refl; found = refl }; grant = tt; last = λ d. refl }
step_caused word (at.Fence lane) = record { answer = record { lane = lane; here = refl; found = refl }; grant = tt; last = λ d. refl }
step_caused word (at.Deed (Move slot to)) = state_caused slot to word (deed_of word).state refl
step_caused word (at.Deed (Takeover lane slot n)) = named_by lane slot n word ((deed_of word).lane == lane) refl
step_caused word (at.Leave slot to deed) = record { answer = tt; grant = tt; last = λ d. refl }
step_caused word (at.Gate (Move slot to) deed) = gate_caused slot to deed word (deed_of deed).state refl
step_caused word (at.Gate (Takeover lane slot n) deed) = fenced_by lane slot n deed word (gate_of word).fenced refl
step_caused word (at.Mark errand deed gate) = mark_by errand deed gate word (nat_lt word gate.len) refl
step_caused word (at.Grant errand deed gate) = grant_by errand deed gate word (word == deed) refl

-- ---- and there it comes
-- the turn at a place
abbrev turn_in : ℕ → MonitorPlace → MonitorTurn
turn_in word place = (step_in word place).turn

-- what holds of the turn at a place holds at the same place
moved_to : (word : ℕ) (place here : MonitorPlace) (answer : MonitorAnswer) → place ≡ here → turn_in word here ≡ Answered answer → turn_in word place ≡ Answered answer
moved_to word place here answer e h = ap (turn_in word) e ∙ h

pub formatted_there : (word old : ℕ) (place : MonitorPlace) → IsFormatted old word place → turn_in word place ≡ Answered (Formatted old)
formatted_there word old place h = moved_to word place (at.Format h.segments) (Formatted old) h.here (ap (λ w. Answered (Formatted w)) h.found)

pub looked_there : (word deed : ℕ) (place : MonitorPlace) → IsLooked deed word place → turn_in word place ≡ Answered (Looked deed)
looked_there word deed place h = moved_to word place (at.Look h.slot) (Looked deed) h.here (ap (λ w. Answered (Looked w)) h.found)

pub barred_there : (word old : ℕ) (place : MonitorPlace) → IsBarred old word place → turn_in word place ≡ Answered (Barred old)
barred_there word old place h = moved_to word place (at.Fence h.lane) (Barred old) h.here (ap (λ w. Answered (Barred w)) h.found)

-- a grant by its exchange, by a deed that was so
made_there : (word deed : ℕ) (place : MonitorPlace) → IsMade deed word place → turn_in word place ≡ Answered (Granted deed)
made_there word deed place h =
    moved_to word place (at.Grant (Move h.slot h.to) h.seen h.gate) (Granted deed) h.here (
    ap (λ (b : Bool). (if b then won (Move h.slot h.to) h.seen h.gate else on (at.Deed (Move h.slot h.to))).turn) (eq-eqb word h.seen h.done)
    ∙ ap (λ d. Answered (Granted d)) (sym h.made))

so_there : (word deed : ℕ) (place : MonitorPlace) → WasSo deed word place → turn_in word place ≡ Answered (Granted deed)
so_there word deed place h =
    moved_to word place (at.Deed (Move h.slot h.to)) (Granted deed) h.here (
    ap (λ s. (by_state h.slot h.to word s).turn) h.owned
    ∙ ap (λ (b : Bool). (if b then ended (Granted word) else on (at.Leave h.slot h.to word)).turn) (eq-eqb (deed_of word).lane h.to h.target)
    ∙ ap (λ w. Answered (Granted w)) h.found)

pub granted_there : (word deed : ℕ) (place : MonitorPlace) → IsGranted deed word place → turn_in word place ≡ Answered (Granted deed)
granted_there word deed place (inl h) = made_there word deed place h
granted_there word deed place (inr h) = so_there word deed place h

pub taken_there : (word slots : ℕ) (place : MonitorPlace) → IsTaken slots word place → turn_in word place ≡ Answered (Taken slots)
taken_there word slots place (inl h) =
    moved_to word place (at.Deed (Takeover h.lane 63 slots)) (Taken slots) h.here (
    ap (λ (b : Bool). (if b then on (at.Gate (Takeover h.lane 63 slots) word) else passed h.lane 63 slots).turn) (ne_eqb (deed_of word).lane h.lane h.other))
taken_there word slots place (inr h) =
    moved_to word place (at.Grant (Takeover h.lane 63 h.before) h.deed h.gate) (Taken slots) h.here (
    ap (λ (b : Bool). (if b then passed h.lane 63 (h.before + 1) else on (at.Deed (Takeover h.lane 63 h.before))).turn) (eq-eqb word h.deed h.done)
    ∙ ap (λ n. Answered (Taken n)) (sym h.count))

pub held_there : (word deed : ℕ) (place : MonitorPlace) → IsHeld deed word place → turn_in word place ≡ Answered (Held deed)
held_there word deed place h =
    moved_to word place (at.Gate (Move h.slot h.to) deed) (Held deed) h.here (
    ap (λ s. (by_gate h.slot h.to deed (gate_of word) s).turn) h.leaving
    ∙ ap (λ (b : Bool). (if b then on (at.Mark (Move h.slot h.to) deed (gate_of word)) else told (at.Deed (Move h.slot h.to)) (Held deed)).turn) h.unfenced)

pub waiting_there : (word mark need : ℕ) (place : MonitorPlace) → IsWaiting mark need word place → turn_in word place ≡ Answered (Waiting mark need)
waiting_there word mark need place h =
    let P : ℕ → Type 0 = λ n. mark < n in
    let Q : ℕ → Type 0 = λ m. m < h.gate.len in
    let below : word < h.gate.len = subst Q (sym h.found) (subst P h.length h.below) in
    moved_to word place (at.Mark h.errand h.deed h.gate) (Waiting mark need) h.here (
    ap (λ (b : Bool). (if b then told (at.Mark h.errand h.deed h.gate) (Waiting word h.gate.len) else granting h.errand h.deed (Some h.gate)).turn) (lt-ltb word h.gate.len below)
    ∙ (ap (λ m. Answered (Waiting m h.gate.len)) h.found ∙ ap (λ n. Answered (Waiting mark n)) (sym h.length)))

pub not_fenced_there : (word gate : ℕ) (place : MonitorPlace) → IsNotFenced gate word place → turn_in word place ≡ Answered (NotFenced gate)
not_fenced_there word gate place h =
    moved_to word place (at.Gate (Takeover h.lane h.slot h.before) h.deed) (NotFenced gate) h.here (
    ap (λ (b : Bool). (if b then on (at.Mark (Takeover h.lane h.slot h.before) h.deed (gate_of word)) else ended (NotFenced word)).turn) h.unfenced
    ∙ ap (λ w. Answered (NotFenced w)) h.found)

-- a deed of the last epoch, where its grant is next
worn : (errand : Errand) (deed epoch : ℕ) (gate : Option Gate) → (deed_of deed).epoch ≡ 2 ^ 23 - 1 → epoch ≡ 2 ^ 23 - 1 → (granting errand deed gate).turn ≡ Answered (Worn epoch)
worn errand deed epoch gate last is =
    ap (λ (b : Bool). (if b then ended (Worn (deed_of deed).epoch) else on (at.Grant errand deed gate)).turn) (eq-eqb (deed_of deed).epoch (2 ^ 23 - 1) last)
    ∙ ap (λ e. Answered (Worn e)) (last ∙ sym is)

unnamed : (slot to word : ℕ) → is_lane (deed_of word).lane ≡ false → yielding (Move slot to) word ≡ granting (Move slot to) word None
unnamed slot to word e = ap (λ (b : Bool). if b then on (at.Gate (Move slot to) word) else granting (Move slot to) word None) e

vacant_grants : (slot to word : ℕ) → IsVacant word → step_in word (at.Deed (Move slot to)) ≡ granting (Move slot to) word None
vacant_grants slot to word (inl nobody) = ap (by_state slot to word) nobody
vacant_grants slot to word (inr (inl leaving, e)) = ap (by_state slot to word) leaving ∙ unnamed slot to word e
vacant_grants slot to word (inr (inr released, e)) = ap (by_state slot to word) released ∙ unnamed slot to word e

worn_by : (word epoch deed : ℕ) (place : MonitorPlace) → (deed_of deed).epoch ≡ 2 ^ 23 - 1 → epoch ≡ 2 ^ 23 - 1 → IsToGrant deed word place → turn_in word place ≡ Answered (Worn epoch)
worn_by word epoch deed place last is (inl h) =
    let same : (deed_of word).epoch ≡ 2 ^ 23 - 1 = ap (λ w. (deed_of w).epoch) h.found ∙ last in
    let vacant : IsVacant word = subst IsVacant (sym h.found) h.vacant in
    moved_to word place (at.Deed (Move h.slot h.to)) (Worn epoch) h.here (
    ap (λ (s : MonitorStep). s.turn) (vacant_grants h.slot h.to word vacant) ∙ worn (Move h.slot h.to) word epoch None same is)
worn_by word epoch deed place last is (inr h) =
    moved_to word place (at.Mark h.errand deed h.gate) (Worn epoch) h.here (
    ap (λ (b : Bool). (if b then told (at.Mark h.errand deed h.gate) (Waiting word h.gate.len) else granting h.errand deed (Some h.gate)).turn) (le-ltb word h.gate.len h.merged)
    ∙ worn h.errand deed epoch (Some h.gate) last is)

pub worn_there : (word epoch : ℕ) (place : MonitorPlace) → IsWorn epoch word place → turn_in word place ≡ Answered (Worn epoch)
worn_there word epoch place h = worn_by word epoch h.deed place h.last h.told h.next

-- a monitor that waits stays where it is
waiting_stays : (word mark need : ℕ) (place : MonitorPlace) → IsWaiting mark need word place → (step_in word place).place ≡ place
waiting_stays word mark need place h =
    let P : ℕ → Type 0 = λ n. mark < n in
    let Q : ℕ → Type 0 = λ m. m < h.gate.len in
    let below : word < h.gate.len = subst Q (sym h.found) (subst P h.length h.below) in
    ap (λ p. (step_in word p).place) h.here
    ∙ (ap (λ (b : Bool). (if b then told (at.Mark h.errand h.deed h.gate) (Waiting word h.gate.len) else granting h.errand h.deed (Some h.gate)).place) (lt-ltb word h.gate.len below)
    ∙ sym h.here)

-- ---- a step
said : (word : ℕ) (place : MonitorPlace) (answer : MonitorAnswer) → turn_in word place ≡ Answered answer → Says word place answer
said word place answer e = subst (Says_at word place) e (step_caused word place).answer

-- each answer of a step comes exactly where its cause holds
pub record CausesOf (word : ℕ) (place : MonitorPlace) (step : MonitorStep) : Type 0 where
  pub formatted : (old : ℕ) → (step.turn ≡ Answered (Formatted old)) ↔ IsFormatted old word place
  pub looked : (deed : ℕ) → (step.turn ≡ Answered (Looked deed)) ↔ IsLooked deed word place
  pub granted : (deed : ℕ) → (step.turn ≡ Answered (Granted deed)) ↔ IsGranted deed word place
  pub barred : (old : ℕ) → (step.turn ≡ Answered (Barred old)) ↔ IsBarred old word place
  pub taken : (slots : ℕ) → (step.turn ≡ Answered (Taken slots)) ↔ IsTaken slots word place
  pub held : (deed : ℕ) → (step.turn ≡ Answered (Held deed)) ↔ IsHeld deed word place
  pub waiting : (mark need : ℕ) → (step.turn ≡ Answered (Waiting mark need)) ↔ IsWaiting mark need word place
  pub not_fenced : (gate : ℕ) → (step.turn ≡ Answered (NotFenced gate)) ↔ IsNotFenced gate word place
  pub worn : (epoch : ℕ) → (step.turn ≡ Answered (Worn epoch)) ↔ IsWorn epoch word place
  pub last : place ≢ at.Done → IsTrue (is_last step.turn) ↔ (step.place ≡ at.Done)
  pub stays : (mark need : ℕ) → step.turn ≡ Answered (Waiting mark need) → step.place ≡ place
  pub grants : (errand : Errand) (deed : ℕ) (gate : Option Gate) → step.place ≡ at.Grant errand deed gate → IsToGrant deed word place

causes_in : (word : ℕ) (place : MonitorPlace) → CausesOf word place (step_in word place)
causes_in word place = record {
  formatted = λ old. (said word place (Formatted old), formatted_there word old place);
  looked = λ deed. (said word place (Looked deed), looked_there word deed place);
  granted = λ deed. (said word place (Granted deed), granted_there word deed place);
  barred = λ old. (said word place (Barred old), barred_there word old place);
  taken = λ slots. (said word place (Taken slots), taken_there word slots place);
  held = λ deed. (said word place (Held deed), held_there word deed place);
  waiting = λ mark need. (said word place (Waiting mark need), waiting_there word mark need place);
  not_fenced = λ gate. (said word place (NotFenced gate), not_fenced_there word gate place);
  worn = λ epoch. (said word place (Worn epoch), worn_there word epoch place);
  last = λ begun. (λ l. done_is (step_in word place).place ((step_caused word place).last begun ∙ l), λ d. sym ((step_caused word place).last begun) ∙ ap is_done d);
  stays = λ mark need e. waiting_stays word mark need place (said word place (Waiting mark need) e);
  grants = λ errand deed gate e. subst (Grants_at word place) e (step_caused word place).grant;
}

-- also where the monitor is told by another name
pub causes_of : (word : ℕ) (step : MonitorStep) (m now : Monitoring) → m ≡ now → step ≡ step_in word m.place → CausesOf word now.place step
causes_of word step m now same e =
    let e' : step ≡ step_in word now.place = e ∙ ap (λ (n : Monitoring). step_in word n.place) same in
    subst (CausesOf word now.place) (sym e') (causes_in word now.place)

pub stays_of : (word mark need : ℕ) (step : MonitorStep) (m now : Monitoring) → m ≡ now → step ≡ step_in word m.place
    → step.turn ≡ Answered (Waiting mark need) → record m { place = step.place } ≡ now
stays_of word mark need step m now same e turn =
    let kept : step.place ≡ m.place = (causes_of word step m m refl e).stays mark need turn in
    ap (λ p. record m { place = p }) kept ∙ same
