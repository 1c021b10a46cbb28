use Rattle.std.proofs.Common.{ℕ, ◌+◌, ◌-◌, ◌^◌, ◌<◌, ◌≡◌, Bool, true, false, List, [], Option, Some, append-nil, refl, sym, ◌∙◌, ap, subst, arith}
use Rattle.dn_act.specs.Action.{at_of, words_after}
use Rattle.dn_act.specs.Words.{word_at}
use Rattle.dn_model.specs.Regions.{IsLane}
use Rattle.dn_store.proofs.At.{at_same, at_other}
use Rattle.dn_beside.specs.Pool.{Pool, store_in, IsWhole}
use Rattle.dn_merge.specs.Merge.{Merging, started, merge_next, merge_after, next_in}
use Rattle.dn_merge.specs.declared.places.MergePlace.{MergePlace}
use Rattle.dn_merge.specs.declared.mergers.MergeTurn.{MergeTurn}
use Rattle.dn_merge.specs.declared.mergers.MergeTurn.TheVariants.{More, IndexFull}
use Rattle.dn_turns.specs.Knows.{KnowsMerge, IsMergerAt}
use Rattle.dn_route.specs.CallersOrder.{Told}
use Rattle.dn_callers.specs.Callers.{Standing}
use Rattle.dn_machine.specs.State.{Machine}
use Rattle.dn_machine.specs.Events.{Merger, Acts, Fails, found, acted, acted_if, with_merger, of_merger, happens}
use Rattle.dn_machine.specs.Sound.{IsSound, IsMachineAt}
use Rattle.dn_cluster.specs.State.{ClusterState, numbered}
use Rattle.dn_cluster.specs.Machine.{machine_of, merger_in, IsMade}
use Rattle.dn_cluster.specs.Acting.{actor_of, answer_of, merger_answer, joined, failed, OnDone}
use Rattle.dn_cluster.specs.Does.{CanBeSound, IsEvent, Happens, FailsAs}
use Rattle.dn_cluster.specs.declared.actors.Acted.{Acted}
use Rattle.dn_cluster.specs.declared.actors.Acted.TheVariants as acted
use Rattle.dn_cluster.specs.declared.actors.Actor.TheVariants as actor
use Rattle.dn_cluster.proofs.Places.{HasNode, has_node, merger_is}
use Rattle.dn_drain.specs.Acted.{HasActed, LeavesActors, LeavesOthers}
use Rattle.dn_drain.specs.Alone.{Alone, merger_or, alone_in, answer_by, step_by}
use Rattle.dn_drain.specs.Drained.{IsFull}
use Rattle.dn_drain.specs.Stepped.{IsStepped}
use Rattle.dn_drain.specs.Leaves.{LeavesWords}
use Rattle.dn_drain.specs.Left.{left_by}
use Rattle.dn_drain.proofs.Falling.{falls, full}
use Rattle.dn_drain.proofs.Leaving.{IsActing, same_words, leaves_words}

-- An action of lane n's merger in a cluster.

-- ---- the lane was made
pub made_is : (c : ClusterState) (n : ℕ) → IsMade c n → merger_in (numbered c.nodes n) ≡ Some (merger_or n (merger_in (numbered c.nodes n)))
made_is c n made =
    let h : HasNode c n (n - 1) = has_node c n (n - 1) (omega (arith, made.0)) (omega (arith, made.0, made.1)) in
    let is : merger_in (numbered c.nodes n) ≡ Some h.node.merger = merger_is c n (n - 1) h in
    is ∙ ap (λ (x : Merging). Some x) (sym (ap (merger_or n) is))

-- ---- what the action does to the words
pub record DoesSo (n : ℕ) (a : Alone) : Type 0 where
  pub number : a.merger.lane ≡ n
  pub falls : answer_by a ≡ More → left_by n (step_by a) < left_by n a
  pub full : (counter : ℕ) → answer_by a ≡ IndexFull counter → IsFull (step_by a).words n counter
  pub leaves : LeavesWords n a.words (step_by a).words

does_here : (n : ℕ) (p : Pool) (place : MergePlace) → IsWhole p → IsLane n → (store_in p).bucket_count + 1 < 2 ^ 64 → KnowsMerge n p place → DoesSo n (record { words = p.words; merger = record { lane = n; place = place } })
does_here n p place h l few k =
    let word : ℕ = word_at p.words (at_of (next_in n place)) in
    let now : List ℕ = words_after (next_in n place) p.words in
    let a : IsActing n p place word now = record { whole = h; lane = l; knows = k; does = record { answer = refl; change = refl } } in
    record {
      number = refl;
      falls = falls n p place word now a;
      full = λ counter e. full n p place word now counter few a e;
      leaves = leaves_words n p place word now a;
    }

does_at : (n : ℕ) (p : Pool) (x : Merging) → IsWhole p → IsLane n → (store_in p).bucket_count + 1 < 2 ^ 64 → IsMergerAt n x p → DoesSo n (record { words = p.words; merger = x })
does_at n p x h l few k =
    let P : ℕ → Type 0 = λ lane. DoesSo n (record { words = p.words; merger = record { lane = lane; place = x.place } }) in
    subst P (sym k.number) (does_here n p x.place h l few k.knows)

pub does_so : (words : List ℕ) (c : ClusterState) (n : ℕ) → CanBeSound words c → IsMade c n → DoesSo n (alone_in words c n)
does_so words c n can made =
    let h : IsMachineAt can.sound.p (machine_of words c can.told can.receipts) = can.sound.at in
    let x : Merging = merger_or n (merger_in (numbered c.nodes n)) in
    let is : merger_in (numbered c.nodes n) ≡ Some x = made_is c n made in
    let P : List ℕ → Type 0 = λ ws. DoesSo n (record { words = ws; merger = x }) in
    subst P h.words (does_at n can.sound.p x h.whole (h.actors.numbers n x is) (omega (arith, h.room.buckets)) (h.know.mergers n x is))

pub its_lane : (words : List ℕ) (c : ClusterState) (n : ℕ) → CanBeSound words c → IsMade c n → IsLane n
its_lane words c n can made = can.sound.at.actors.numbers n (merger_or n (merger_in (numbered c.nodes n))) (made_is c n made)

-- ---- as an event
-- the machine after it
abbrev pub moved : Machine → ℕ → Merging → Machine
moved m n x = with_merger (acted m (merge_next x)) n (Some (merge_after x (found m (merge_next x))))

acts_so : (m : Machine) (n : ℕ) (x : Merging) → m.mergers n ≡ Some x → happens m (Acts (Merger n)) ≡ moved m n x
acts_so m n x is = ap (λ (o : Option Merging). of_merger m o (λ y. with_merger (acted m (merge_next y)) n (Some (merge_after y (found m (merge_next y)))))) is

moves : (words now : List ℕ) (c d : ClusterState) (n : ℕ) (told : List Told) (receipts : List Standing) → IsMade c n → IsEvent words c now d [] (Acts (Merger n)) told receipts
    → machine_of now d told receipts ≡ moved (machine_of words c told receipts) n (alone_in words c n).merger
moves words now c d n told receipts made e =
    ap (λ (rs : List Standing). machine_of now d told rs) (sym (append-nil receipts)) ∙ e.happens_so
    ∙ acts_so (machine_of words c told receipts) n (alone_in words c n).merger (made_is c n made)

same_alone : (a b : Alone) → a.words ≡ b.words → a.merger ≡ b.merger → a ≡ b
same_alone a b e f = λ i. record { words = e i; merger = f i }

moved_alone : (words now : List ℕ) (c d : ClusterState) (n : ℕ) (told : List Told) (receipts : List Standing) → machine_of now d told receipts ≡ moved (machine_of words c told receipts) n (alone_in words c n).merger
    → alone_in now d n ≡ step_by (alone_in words c n)
moved_alone words now c d n told receipts e =
    let m : Machine = machine_of words c told receipts in
    let x : Merging = (alone_in words c n).merger in
    same_alone (alone_in now d n) (step_by (alone_in words c n)) (ap (λ (y : Machine). y.words) e)
    (ap (λ (o : Option Merging). merger_or n o) (ap (λ (y : Machine). y.mergers n) e ∙ at_same m.mergers n (Some (merge_after x (found m (merge_next x)))) n refl))

moved_others : (words now : List ℕ) (c d : ClusterState) (n : ℕ) (told : List Told) (receipts : List Standing) → machine_of now d told receipts ≡ moved (machine_of words c told receipts) n (alone_in words c n).merger
    → LeavesOthers n c d
moved_others words now c d n told receipts e =
    let m : Machine = machine_of words c told receipts in
    let x : Merging = (alone_in words c n).merger in
    record {
      actors = record {
        lanes = λ k. ap (λ (y : Machine). y.lanes k) e;
        monitor = ap (λ (y : Machine). y.monitor) e;
        sessions = λ s. ap (λ (y : Machine). y.callers.sessions s) e;
        closed = λ s. ap (λ (y : Machine). y.callers.closed s) e;
        loads = λ s. ap (λ (y : Machine). y.loads s) e;
      };
      mergers = λ k other. ap (λ (y : Machine). y.mergers k) e ∙ at_other m.mergers n (Some (merge_after x (found m (merge_next x)))) k other;
    }

has_moved : (words now : List ℕ) (c d : ClusterState) (n : ℕ) → Happens words c now d [] (Acts (Merger n)) → HasActed words c now d n 1
has_moved words now c d n e = record {
  is = λ told receipts h.
      let v : IsEvent words c now d [] (Acts (Merger n)) told receipts = e.is told receipts h in
      let P : List Standing → Type 0 = λ rs. IsSound d.segments (machine_of now d told rs) in
      record {
        so = ap (λ (rs : List Standing). machine_of now d told rs) (sym (append-nil receipts)) ∙ v.happens_so;
        sound = subst P (append-nil receipts) v.sound;
      };
}

-- ---- what the call says
same_turn : (a b : MergeTurn) → acted.Merger a ≡ acted.Merger b → a ≡ b
same_turn a b e = cc

-- the answer, which is the merger's, and the event
pub record HasCalled (words now : List ℕ) (c d : ClusterState) (n : ℕ) (result : Acted) (turn : MergeTurn) : Type 0 where
  pub is : result ≡ acted.Merger turn
  pub answer : OnDone result (result ≡ answer_of words c (actor.Merger n))
  pub event : OnDone result (Happens words c now d (joined result) (Acts (actor_of (actor.Merger n))))

happened : (words now : List ℕ) (c d : ClusterState) (n : ℕ) (result : Acted) (turn : MergeTurn) → HasCalled words now c d n result turn → Happens words c now d [] (Acts (Merger n))
happened words now c d n result turn h = subst (λ rs. Happens words c now d rs (Acts (Merger n))) (ap joined h.is) (h.event (ap failed h.is))

pub stepped : (words now : List ℕ) (c d : ClusterState) (n : ℕ) (result : Acted) (turn : MergeTurn) → CanBeSound words c → IsMade c n → HasCalled words now c d n result turn → IsStepped words c now d n turn
stepped words now c d n result turn can made h =
    let a : Alone = alone_in words c n in
    let e : Happens words c now d [] (Acts (Merger n)) = happened words now c d n result turn h in
    record {
      answer_is = same_turn (answer_by a) turn (sym (ap (λ (o : Option Merging). merger_answer words o) (made_is c n made)) ∙ sym (h.answer (ap failed h.is)) ∙ h.is);
      after = moved_alone words now c d n can.told can.receipts (moves words now c d n can.told can.receipts made (e.is can.told can.receipts can.sound));
      acted = has_moved words now c d n e;
    }

pub leaves_others : (words now : List ℕ) (c d : ClusterState) (n : ℕ) (result : Acted) (turn : MergeTurn) → CanBeSound words c → IsMade c n → HasCalled words now c d n result turn → LeavesOthers n c d
leaves_others words now c d n result turn can made h =
    moved_others words now c d n can.told can.receipts
    (moves words now c d n can.told can.receipts made ((happened words now c d n result turn h).is can.told can.receipts can.sound))

-- ---- the words after it
now_is : (words now : List ℕ) (c d : ClusterState) (n : ℕ) (turn : MergeTurn) → IsStepped words c now d n turn → (step_by (alone_in words c n)).words ≡ now
now_is words now c d n turn s = sym (ap (λ (a : Alone). a.words) s.after)

pub step_leaves : (words now : List ℕ) (c d : ClusterState) (n : ℕ) (turn : MergeTurn) → CanBeSound words c → IsMade c n → IsStepped words c now d n turn → LeavesWords n words now
step_leaves words now c d n turn can made s = subst (λ ws. LeavesWords n words ws) (now_is words now c d n turn s) (does_so words c n can made).leaves

pub step_falls : (words now : List ℕ) (c d : ClusterState) (n : ℕ) → CanBeSound words c → IsMade c n → IsStepped words c now d n More → left_by n (alone_in now d n) < left_by n (alone_in words c n)
step_falls words now c d n can made s =
    subst (λ (a : Alone). left_by n a < left_by n (alone_in words c n)) (sym s.after) ((does_so words c n can made).falls s.answer_is)

pub step_full : (words now : List ℕ) (c d : ClusterState) (n counter : ℕ) → CanBeSound words c → IsMade c n → IsStepped words c now d n (IndexFull counter) → IsFull now n counter
step_full words now c d n counter can made s = subst (λ ws. IsFull ws n counter) (now_is words now c d n (IndexFull counter) s) ((does_so words c n can made).full counter s.answer_is)

-- ---- an access that failed
fail_words : (words : List ℕ) (c : ClusterState) (n : ℕ) (told : List Told) (receipts : List Standing) (done : Bool) → CanBeSound words c → IsMade c n
    → LeavesWords n words (acted_if (machine_of words c told receipts) (merge_next (alone_in words c n).merger) done).words
fail_words words c n told receipts true can made = (does_so words c n can made).leaves
fail_words words c n told receipts false can made = same_words n words words refl

pub fail_leaves : (words now : List ℕ) (c : ClusterState) (n : ℕ) → CanBeSound words c → IsMade c n → FailsAs words c now (Fails (Merger n)) → LeavesWords n words now
fail_leaves words now c n can made f =
    let m : Machine = machine_of words c can.told can.receipts in
    let x : Merging = (alone_in words c n).merger in
    let is : now ≡ (acted_if m (merge_next x) f.done).words =
    f.so can.told can.receipts ∙ ap (λ (o : Option Merging). (of_merger m o (λ y. with_merger (acted_if m (merge_next y) f.done) n (Some (started n)))).words) (made_is c n made) in
    subst (λ ws. LeavesWords n words ws) (sym is) (fail_words words c n can.told can.receipts f.done can made)

pub same_actors : (c : ClusterState) → LeavesActors c c
same_actors c = record {
  lanes = λ k. refl;
  monitor = refl;
  sessions = λ s. refl;
  closed = λ s. refl;
  loads = λ s. refl;
}

pub same_others : (n : ℕ) (c d : ClusterState) → d ≡ c → LeavesOthers n c d
same_others n c d e = subst (λ (x : ClusterState). LeavesOthers n c x) (sym e) (record { actors = same_actors c; mergers = λ k other. refl })

pub actors_stay : (b c d : ClusterState) → LeavesActors b c → LeavesActors c d → LeavesActors b d
actors_stay b c d h k = record {
  lanes = λ i. k.lanes i ∙ h.lanes i;
  monitor = k.monitor ∙ h.monitor;
  sessions = λ s. k.sessions s ∙ h.sessions s;
  closed = λ s. k.closed s ∙ h.closed s;
  loads = λ s. k.loads s ∙ h.loads s;
}

pub others_stay : (n : ℕ) (b c d : ClusterState) → LeavesOthers n b c → LeavesOthers n c d → LeavesOthers n b d
others_stay n b c d h k = record {
  actors = actors_stay b c d h.actors k.actors;
  mergers = λ i other. k.mergers i other ∙ h.mergers i other;
}

-- ---- the call does nothing else
abbrev pub IsOfMerger : Acted → Type 0
IsOfMerger acted.Nothing = ⊥
IsOfMerger (acted.Lane turn) = ⊥
IsOfMerger (acted.Merger turn) = Unit {0}
IsOfMerger (acted.Monitor turn) = ⊥
IsOfMerger (acted.Session word) = ⊥
IsOfMerger acted.Fault = Unit {0}

answered_so : (words : List ℕ) (c : ClusterState) (n : ℕ) (result : Acted) → IsMade c n → result ≡ answer_of words c (actor.Merger n) → IsOfMerger result
answered_so words c n result made e = subst IsOfMerger (sym (e ∙ ap (λ (o : Option Merging). merger_answer words o) (made_is c n made))) (record {})

pub of_merger_alone : (words : List ℕ) (c : ClusterState) (n : ℕ) (result : Acted) → IsMade c n → OnDone result (result ≡ answer_of words c (actor.Merger n)) → IsOfMerger result
of_merger_alone words c n acted.Nothing made h = answered_so words c n acted.Nothing made (h refl)
of_merger_alone words c n (acted.Lane turn) made h = answered_so words c n (acted.Lane turn) made (h refl)
of_merger_alone words c n (acted.Merger turn) made h = record {}
of_merger_alone words c n (acted.Monitor turn) made h = answered_so words c n (acted.Monitor turn) made (h refl)
of_merger_alone words c n (acted.Session word) made h = answered_so words c n (acted.Session word) made (h refl)
of_merger_alone words c n acted.Fault made h = record {}
