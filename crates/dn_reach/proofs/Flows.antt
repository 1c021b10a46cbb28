use Rattle.std.proofs.Common.{ℕ, zero, suc, ◌+◌, ◌*◌, ◌/◌, ◌%◌, ◌<◌, ◌≤◌, ◌≡◌, ◌≢◌, ◌⊎◌, inl, inr, List, [], ◌∷◌, Contains, length, slice_index, slice_get, get_or, slice_set, Some, refl, sym, ◌∙◌, ap, subst, arith, append-nil}
use Rattle.std.specs.List.{remove}
use Rattle.std.proofs.lemmas.Bool.{cases_eq, cases_lt}
use Rattle.std.proofs.lemmas.Nat.{mod_below}
use Rattle.std.proofs.lemmas.List.{get_or_default}
use Rattle.std.proofs.lemmas.List.Elements.{All-get_or}
use Rattle.dn_act.specs.Words.{word_at}
use Rattle.dn_act.specs.Action.{Performs}
use Rattle.dn_act.specs.declared.actions.Action.TheVariants.{Store}
use Rattle.dn_act.proofs.Words.{word_at-set_same, word_at-set_other}
use Rattle.dn_log.specs.Log.{Log, reach_of, word_of}
use Rattle.dn_log.specs.declared.staging.Staged.{Staged}
use Rattle.dn_log.proofs.WordLaws.{word_of-past}
use Rattle.dn_model.specs.Regions.{directory, directory_at, IsLane}
use Rattle.dn_store.specs.Represents.{Represents}
use Rattle.dn_store.proofs.Flows.{segment_flow, directory_flow, again}
use Rattle.dn_services.specs.Staged.{GoApart}
use Rattle.dn_owners.specs.Later.{IsLater}
use Rattle.dn_owners.proofs.Grown.{risen_same}
use Rattle.dn_owners.proofs.Ats.{same_some, none_some}
use Rattle.dn_owners.proofs.Logs.{nil_has, tail_has, cons_cases}
use Rattle.dn_beside.specs.Pool.{Pool, store_in}
use Rattle.dn_beside.specs.Step.{IsStepBy, IsQuiet, by_lane}
use Rattle.dn_reach.specs.Directory.{NamesSegments}
use Rattle.dn_reach.specs.OwnLog.{HoldsLog, IsLaneOf}
use Rattle.dn_reach.specs.Staging.{IsDirectoryWord, MayStage, MayStageAll, AreFlowing}
use Rattle.dn_reach.specs.Steps.{after_flow}
use Rattle.dn_reach.proofs.Within.{reach_longer, spare_last, directory_inside, may_outside, may_below}
use Rattle.dn_reach.proofs.Lasts.{directory_kept}
use Rattle.dn_reach.proofs.OwnSteps.{IsNotOf, IsOwnStep, own_step, stored_alike, directory_not_of, segment_not_of}

-- A staged word flows.

pub record IsFlow (p : Pool) (n : ℕ) (log : Log) (x : Staged) (now : List ℕ) : Type 0 where
  pub of : IsLaneOf p n log
  pub may : MayStage log x
  pub stored : now ≡ slice_set p.words x.at x.word

pub flow_of : (p : Pool) (n : ℕ) (log : Log) (x : Staged) (word : ℕ) (now : List ℕ) → IsLaneOf p n log → MayStage log x → Performs (Store x.at x.word) word p.words now → IsFlow p n log x now
flow_of p n log x word now h m f = record { of = h; may = m; stored = f.change }

-- ---- the store stays
-- the directory of the lane names segment q of its reach by that number alone
named_once : (p : Pool) (n : ℕ) (log : Log) (q r : ℕ) → HoldsLog p n log → r < 256 → q < length (reach_of log) → directory p.words n r ≡ slice_index (reach_of log) q + 1 → r ≡ q
named_once p n log q r h rl ql e =
    let P : ℕ → Type 0 = λ m. directory p.words m r ≡ slice_index (reach_of log) q + 1 in
    let here : directory p.words log.lane r ≡ slice_index (reach_of log) q + 1 = subst P (sym h.lane) e in
    let m = h.directory.no_more r rl (omega (arith, here)) in
    h.apart.each r q m.0 ql (omega (arith, m.1, here))

-- where the directory's word for the spare isn't 0 it stands already
spare_named : (words : List ℕ) (log : Log) (x : Staged) → length log.segments < 256 → NamesSegments words log → IsDirectoryWord log x → 0 < directory words log.lane (length log.segments) → directory words log.lane (length log.segments) ≡ x.word
spare_named words log x few names d pos =
    let m = names.no_more (length log.segments) few pos in
    omega (arith, m.1, spare_last log d.segment d.is_spare, d.word_is)

spare_flows : (p : Pool) (n : ℕ) (log : Log) (x : Staged) → IsLaneOf p n log → (d : IsDirectoryWord log x) → (directory p.words n (length log.segments) ≡ 0) ⊎ (directory p.words n (length log.segments) ≢ 0)
    → Represents (slice_set p.words (directory_at n (length log.segments)) x.word) p.chains (store_in p)
spare_flows p n log x f d (inl z) =
    let q : ℕ = length log.segments in
    let h = f.own in
    let inside : q < length (reach_of log) = omega (arith, reach_longer log d.segment d.is_spare) in
    let last : slice_index (reach_of log) q ≡ d.segment = spare_last log d.segment d.is_spare in
    let own : (store_in p).holders d.segment ≡ n = ap (store_in p).holders (sym last) ∙ All-get_or (λ g. (store_in p).holders g ≡ n) (reach_of log) q 0 inside h.holders in
    let P : ℕ → Type 0 = λ w. Represents (slice_set p.words (directory_at n q) w) p.chains (store_in p) in
    subst P (sym d.word_is) (directory_flow p.words p.chains (store_in p) n q d.segment f.whole.represents f.lane (directory_inside log x h.fit d).0 own z
    (λ r rl e. let one = named_once p n log q r h rl inside (omega (arith, e, last)) in absurd (omega (arith, e, z, ap (directory p.words n) one))))
spare_flows p n log x f d (inr z) =
    let q : ℕ = length log.segments in
    let at = ap (λ m. directory p.words m q) f.own.lane in
    let e : directory p.words n q ≡ x.word = sym at ∙ spare_named p.words log x (directory_inside log x f.own.fit d).0 f.own.directory d (omega (arith, z, at)) in
    again p.words p.chains (store_in p) (directory_at n q) x.word f.whole.represents e

log_flows : (p : Pool) (n : ℕ) (log : Log) (o new : ℕ) → IsLaneOf p n log → log.len ≤ o → o < 1024 * length (reach_of log) → Represents (slice_set p.words (word_of log o) new) p.chains (store_in p)
log_flows p n log o new f past within =
    let q : ℕ = o / 1024 in
    let g : ℕ = slice_index (reach_of log) q in
    let inside : q < length (reach_of log) = omega (arith, within) in
    let own : (store_in p).holders g ≡ n = All-get_or (λ g. (store_in p).holders g ≡ n) (reach_of log) q 0 inside f.own.holders in
    let at : 97280 + ((g + 1) * 1024 + o % 1024) ≡ word_of log o = omega arith in
    let P : ℕ → Type 0 = λ a. Represents (slice_set p.words a new) p.chains (store_in p) in
    subst P at (segment_flow p.words p.chains (store_in p) n g o new f.whole.represents f.lane own
    (λ r rl e. let one = named_once p n log q r f.own rl inside e in omega (arith, one, past, f.own.len)))

flow_represents : (p : Pool) (n : ℕ) (log : Log) (x : Staged) → IsLaneOf p n log → MayStage log x → Represents (slice_set p.words x.at x.word) p.chains (store_in p)
flow_represents p n log x f (inl d) =
    let q : ℕ = length log.segments in
    let at : directory_at n q ≡ x.at = ap (λ m. directory_at m q) (sym f.own.lane) ∙ sym d.at_is in
    let P : ℕ → Type 0 = λ a. Represents (slice_set p.words a x.word) p.chains (store_in p) in
    subst P at (spare_flows p n log x f d (cases_eq (directory p.words n q) 0))
flow_represents p n log x f (inr w) =
    let P : ℕ → Type 0 = λ a. Represents (slice_set p.words a x.word) p.chains (store_in p) in
    subst P (sym w.at_is) (log_flows p n log w.offset x.word f w.past w.within)

-- ---- as others see it
not_of : (p : Pool) (n : ℕ) (log : Log) (x : Staged) (m : ℕ) → IsLaneOf p n log → IsLane m → m ≢ n → MayStage log x → IsNotOf m x.at (store_in p).holders
not_of p n log x m f l e (inl d) =
    let q : ℕ = length log.segments in
    let at : directory_at n q ≡ x.at = ap (λ m. directory_at m q) (sym f.own.lane) ∙ sym d.at_is in
    let P : ℕ → Type 0 = λ a. IsNotOf m a (store_in p).holders in
    subst P at (directory_not_of m n q (store_in p).holders e l.below f.lane.below (directory_inside log x f.own.fit d).0)
not_of p n log x m f l e (inr w) =
    let g : ℕ = slice_index (reach_of log) (w.offset / 1024) in
    let inside : w.offset / 1024 < length (reach_of log) = omega (arith, w.within) in
    let own : (store_in p).holders g ≡ n = All-get_or (λ g. (store_in p).holders g ≡ n) (reach_of log) (w.offset / 1024) 0 inside f.own.holders in
    let at : 98304 + (g * 1024 + w.offset % 1024) ≡ x.at = omega (arith, w.at_is) in
    let P : ℕ → Type 0 = λ a. IsNotOf m a (store_in p).holders in
    subst P at (segment_not_of m n g (w.offset % 1024) (store_in p).holders e l.below (mod_below w.offset 1024 (omega arith)) own)

-- no directory word that names a sealed segment
not_sealed : (p : Pool) (n : ℕ) (log : Log) (x : Staged) (m i : ℕ) → IsLaneOf p n log → IsLane m → i * 1024 < ((store_in p).gates m).len → MayStage log x → directory_at m i ≢ x.at
not_sealed p n log x m i f l lt may e = elim (cases_eq m n) [
  | inl same ↦ own same may
  | inr d ↦ (let c = (f.whole.represents.reads.logs_are m l).covered (i * 1024) (omega (arith, lt, ap (λ g. g.len) (f.whole.represents.table.gates m l.below))) in
      (not_of p n log x m f l d may).directory i (omega (arith, c.0)) e)
] where
  own : m ≡ n → MayStage log x → ⊥
  own same (inl d) = (let len : ((store_in p).gates m).len ≡ log.len = ap (λ m. ((store_in p).gates m).len) same ∙ f.own.len in
      let lane : log.lane ≡ m = f.own.lane ∙ sym same in
      absurd (omega (arith, e, d.at_is, lane, lt, len, f.own.fit.len)))
  own same (inr w) = (let c = (f.whole.represents.reads.logs_are m l).covered (i * 1024) (omega (arith, lt, ap (λ g. g.len) (f.whole.represents.table.gates m l.below))) in
      absurd (omega (arith, e, w.at_is, word_of-past log w.offset, l.below, c.0)))

pub later_same : (p : Pool) → IsLater p.owners p.owners
later_same p = record {
  logs = λ n. ([], sym (append-nil ((store_in p).logs n)));
  gates = λ n. risen_same ((store_in p).gates n);
  marks = λ n. omega arith;
  epochs = λ t. omega arith;
  floors = λ t. omega arith;
  promised = λ k. omega arith;
}

flow_own : (p : Pool) (n : ℕ) (log : Log) (x : Staged) (now : List ℕ) → IsFlow p n log x now → IsOwnStep n x.at p (after_flow p now)
flow_own p n log x now f =
    let h = f.of.whole in
    let P : List ℕ → Type 0 = λ ws. Represents ws p.chains (store_in p) in
    record {
      whole = h;
      after = record { represents = subst P (sym f.stored) (flow_represents p n log x f.of f.may); sound = h.sound; deeds = h.deeds; plain = h.plain };
      lane = f.of.lane;
      alike = stored_alike p.words now x.at x.word f.stored;
      beside = may_outside log x f.of.own.fit f.may;
      not_of = λ m l d. not_of p n log x m f.of l d f.may;
      later = later_same p;
      named = λ m i l lt. not_sealed p n log x m i f.of l lt f.may;
      chains = refl;
      pool = refl;
      gates = λ m d. refl;
      logs = λ m d. refl;
      knows = λ m d. refl;
      holders = λ m g l e. e;
      marks = λ m. refl;
      deeds = λ t. refl;
      index = refl;
      takers = refl;
      bucket_count = refl;
      segments = omega arith;
      watch = refl;
      located = λ m k l r d look slot clear a. a;
    }

pub flow_step : (p : Pool) (n : ℕ) (log : Log) (x : Staged) (word : ℕ) (now : List ℕ) → IsLaneOf p n log → MayStage log x → Performs (Store x.at x.word) word p.words now → IsStepBy (by_lane n) p (after_flow p now)
flow_step p n log x word now h m f = own_step n x.at p (after_flow p now) (flow_own p n log x now (flow_of p n log x word now h m f))

pub flow_quiet : (p : Pool) (now : List ℕ) → IsQuiet p (after_flow p now)
flow_quiet p now = record { held = λ k v pos h. h; promised = λ k. refl }

-- ---- the lane's own log
flow_long : (p : Pool) (n : ℕ) (log : Log) (x : Staged) → IsLaneOf p n log → MayStage log x → x.at < length p.words
flow_long p n log x h m = let size = h.whole.represents.table.size in omega (arith, may_below log x h.own.fit m, h.own.pool, size)

-- its directory names the spare once that word has flowed
spare_directory : (words : List ℕ) (log : Log) (x : Staged) → x.at < length words → NamesSegments words log → (d : IsDirectoryWord log x) → NamesSegments (slice_set words (directory_at log.lane (length log.segments)) x.word) log
spare_directory words log x long names d =
    let at : ℕ = directory_at log.lane (length log.segments) in
    let now : List ℕ = slice_set words at x.word in
    let other : (q : ℕ) → q ≢ length log.segments → directory now log.lane q ≡ directory words log.lane q = λ q f. word_at-set_other words at (directory_at log.lane q) x.word (λ e. f (omega (arith, e))) in
    let here : directory now log.lane (length log.segments) ≡ x.word = word_at-set_same words at x.word (omega (arith, long, d.at_is)) in
    record {
      named = λ q l. other q (λ e. absurd (omega (arith, e, l))) ∙ names.named q l;
      no_more = λ q l pos. elim (cases_eq q (length log.segments)) [
        | inl e ↦ (
          omega (arith, e, reach_longer log d.segment d.is_spare),
          (let P : ℕ → Type 0 = λ m. directory now log.lane m ≡ slice_index (reach_of log) m + 1 in
              subst P (sym e) (here ∙ d.word_is ∙ ap (λ g. g + 1) (sym (spare_last log d.segment d.is_spare)))),
        )
        | inr f ↦ (let m = names.no_more q l (omega (arith, pos, other q f)) in (m.0, other q f ∙ m.1))
      ];
    }

flow_directory : (p : Pool) (n : ℕ) (log : Log) (x : Staged) → IsLaneOf p n log → MayStage log x → NamesSegments (slice_set p.words x.at x.word) log
flow_directory p n log x h (inl d) =
    let P : ℕ → Type 0 = λ a. NamesSegments (slice_set p.words a x.word) log in
    subst P (sym d.at_is) (spare_directory p.words log x (flow_long p n log x h (inl d)) h.own.directory d)
flow_directory p n log x h (inr w) =
    directory_kept p.words (slice_set p.words x.at x.word) log.lane log refl h.own.fit
    (λ q lt. word_at-set_other p.words x.at (directory_at log.lane q) x.word (λ e. absurd (omega (arith, e, lt, h.own.fit.lane, w.at_is, word_of-past log w.offset)))) h.own.directory

pub flow_log : (p : Pool) (n : ℕ) (log : Log) (x : Staged) (word : ℕ) (now : List ℕ) → IsLaneOf p n log → MayStage log x → Performs (Store x.at x.word) word p.words now → HoldsLog (after_flow p now) n log
flow_log p n log x word now h m f =
    let s = h.own in
    let P : List ℕ → Type 0 = λ ws. NamesSegments ws log in
    record {
      lane = s.lane;
      pool = s.pool;
      len = s.len;
      fit = s.fit;
      apart = s.apart;
      holders = s.holders;
      directory = subst P (sym f.change) (flow_directory p n log x h m);
    }

-- ---- and the words that are on their way are one less
pub head_is : {X : Type 0} (x : X) (xs : List X) (y : X) → x ≡ y → Contains (x ∷ xs) y
head_is x xs y e = (0, omega arith, e)

-- without the element at i
pub removed_cases : {X : Type 0} (xs : List X) (i : ℕ) (x s : X) → slice_get xs i ≡ Some x → Contains xs s → (s ≡ x) ⊎ Contains (remove xs i) s
removed_cases [] i x s e c = absurd (nil_has s c)
removed_cases (y ∷ ys) zero x s e c = elim (cons_cases y ys s c) [
  | inl f ↦ inl (sym f ∙ same_some y x e)
  | inr k ↦ inr k
]
removed_cases (y ∷ ys) (suc i) x s e c = elim (cons_cases y ys s c) [
  | inl f ↦ inr (head_is y (remove ys i) s f)
  | inr k ↦ elim (removed_cases ys i x s e k) [
    | inl f ↦ inl f
    | inr r ↦ inr (tail_has y (remove ys i) s r)
  ]
]

pub removed_has : {X : Type 0} (xs : List X) (i : ℕ) (x s : X) → slice_get xs i ≡ Some x → Contains (remove xs i) s → Contains xs s
removed_has [] i x s e c = absurd (none_some x e)
removed_has (y ∷ ys) zero x s e c = tail_has y ys s c
removed_has (y ∷ ys) (suc i) x s e c = elim (cons_cases y (remove ys i) s c) [
  | inl f ↦ head_is y ys s f
  | inr k ↦ tail_has y ys s (removed_has ys i x s e k)
]

pub get_has : {X : Type 0} (xs : List X) (i : ℕ) (x : X) → slice_get xs i ≡ Some x → Contains xs x
get_has [] i x e = absurd (none_some x e)
get_has (y ∷ ys) zero x e = head_is y ys x (same_some y x e)
get_has (y ∷ ys) (suc i) x e = tail_has y ys x (get_has ys i x e)

-- of words that go apart two with one place are the same
pub apart_same : (all : List Staged) (a b : Staged) → GoApart all → Contains all a → Contains all b → a.at ≡ b.at → a ≡ b
apart_same all a b apart c d e = elim (cases_lt c.0 d.0) [
  | inl lt ↦ (let at : get_or all d.0 a ≡ b = get_or_default all d.0 a b d.1 ∙ d.2 in
      absurd (apart c.0 d.0 a lt d.1 (ap (λ (z : Staged). z.at) c.2 ∙ e ∙ sym (ap (λ (z : Staged). z.at) at))))
  | inr ge ↦ elim (cases_lt d.0 c.0) [
    | inl lt ↦ (let at : get_or all c.0 b ≡ a = get_or_default all c.0 b a c.1 ∙ c.2 in
        absurd (apart d.0 c.0 b lt c.1 (ap (λ (z : Staged). z.at) d.2 ∙ sym e ∙ sym (ap (λ (z : Staged). z.at) at))))
    | inr le ↦ (let one : c.0 ≡ d.0 = omega (arith, ge, le) in
        sym c.2 ∙ ap (λ i. get_or all i a) one ∙ get_or_default all d.0 a b d.1 ∙ d.2)
  ]
]

pub flow_flowing : (p : Pool) (n : ℕ) (log : Log) (staged all : List Staged) (i : ℕ) (x : Staged) (word : ℕ) (now : List ℕ) → IsLaneOf p n log → MayStageAll log all → GoApart all → AreFlowing p.words staged all → slice_get staged i ≡ Some x
    → Performs (Store x.at x.word) word p.words now → AreFlowing now (remove staged i) all
flow_flowing p n log staged all i x word now h may apart f e g =
    let has : Contains all x = f.known x (get_has staged i x e) in
    let long : x.at < length p.words = flow_long p n log x h (may x has) in
    let P : List ℕ → Type 0 = λ ws. AreFlowing ws (remove staged i) all in
    subst P (sym g.change) (record {
      there = λ s c. elim (cases_eq s.at x.at) [
        | inl same ↦ inr (let one : s ≡ x = apart_same all s x apart c has same in
            let Q : Staged → Type 0 = λ z. word_at (slice_set p.words x.at x.word) z.at ≡ z.word in
            subst Q (sym one) (word_at-set_same p.words x.at x.word long))
        | inr d ↦ elim (f.there s c) [
          | inl m ↦ elim (removed_cases staged i x s e m) [
            | inl same ↦ absurd (d (ap (λ (z : Staged). z.at) same))
            | inr k ↦ inl k
          ]
          | inr stands ↦ inr (word_at-set_other p.words x.at s.at x.word d ∙ stands)
        ]
      ];
      known = λ s c. f.known s (removed_has staged i x s e c);
    })
