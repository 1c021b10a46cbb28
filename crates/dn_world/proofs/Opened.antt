use Rattle.std.proofs.Common.{ℕ, zero, suc, ◌+◌, ◌≡◌, ◌≢◌, ◌⊎◌, inl, inr, ◌<◌, ◌≤◌, ◌++◌, ◌∷◌, [], nat_eq, length, List, None, refl, sym, ◌∙◌, ap, subst, arith}
use Rattle.std.proofs.lemmas.Bool.{cases_eq}
use Rattle.std.proofs.lemmas.Bool.Decides.{nat_tests}
use Rattle.std.proofs.lemmas.List.Elements.{All-contains}
use Rattle.std.proofs.lemmas.Option.{none-some}
use Rattle.dn_word.specs.Format.{format_word}
use Rattle.dn_word.specs.Regions.{format_at}
use Rattle.dn_act.specs.Action.{MayPerform}
use Rattle.dn_cluster.specs.Acting.{format_of}
use Rattle.dn_machine.proofs.Formatting.{formats}
use Rattle.dn_act.specs.Words.{IsZeros, word_at, pool_size}
use Rattle.dn_act.proofs.Words.{word_at-set_same, word_at-set_other, length-set}
use Rattle.dn_cluster.specs.Machine.{merger_in}
use Rattle.dn_cluster.specs.State.{numbered}
use Rattle.dn_cluster.specs.declared.nodes.Node.{Node}
use Rattle.dn_machine.specs.Sound.{IsSound}
use Rattle.dn_machine.specs.State.{Machine, resting}
use Rattle.dn_model.specs.Regions.{deed_at}
use Rattle.dn_ring.specs.Ring.{IsOwner}
use Rattle.dn_store.specs.Fresh.{first_deed, IsFreshPool}
use Rattle.dn_outcomes.specs.Does.{adds, does}
use Rattle.dn_outcomes.specs.declared.events.Event.{Event}
use Rattle.dn_outcomes.specs.Runs.{after, IsRun}
use Rattle.dn_outcomes.specs.Sound.{IsWorld}
use Rattle.dn_outcomes.specs.State.{World, opened}
use Rattle.dn_outcomes.proofs.Opening.{opening}
use Rattle.dn_world.specs.Opening.{adds_for, grants, grants_to, lanes_to, formatted, HasFormat, IsOpened, IsNew, MayGoOn, MayGrantAll, AreGranted, all_granted}
use Rattle.dn_callers.specs.Callers.{Standing}
use Rattle.dn_drain.specs.declared.drains.Merged.{Merged}
use Rattle.dn_world.specs.Happens.{CanBeSound}
use Rattle.dn_world.specs.State.{CrewState, WorldState, world_of}
use Rattle.dn_world.proofs.Adding.{HasAdded, has_added, added_sound}
use Rattle.dn_world.proofs.Changes.{same_world, where_false}
use Rattle.dn_world.proofs.Granting.{after_both}

-- What an opening leaves.

-- ---- a crew without lanes
none_made : (nodes : List Node) → merger_in (numbered nodes 1) ≡ None → length nodes ≡ 0
none_made [] e = refl
none_made (x ∷ xs) e = absurd (none-some x.merger (sym e))

new_world : (segments : ℕ) (words : List ℕ) (x : CrewState) → IsNew segments x → world_of words x [] [] ≡ opened segments words
new_world segments words x h = same_world _ _ (record {
  segments = h.segments_are;
  made = none_made x.cluster.nodes (ap (λ (m : Machine). m.mergers 1) (h.rests.is []));
  machine = h.rests.is words;
  waiting = h.waits;
  live = h.live;
})

-- ---- and with lanes, over the words of a formatted pool
pub record IsReady (segments n : ℕ) (words now : List ℕ) (x y : CrewState) : Type 0 where
  pub size : pool_size segments ≤ length words
  pub zeros : IsZeros words
  pub some : 1 ≤ n
  pub most : n ≤ 63
  pub new : IsNew segments x
  pub few : segments ≤ 8192
  pub format : now ≡ formatted segments words
  pub added : world_of now y [] [] ≡ after (world_of now x [] []) (adds_for n)

abbrev ready_world : ℕ → ℕ → List ℕ → World
ready_world segments n now = after (opened segments now) (adds_for n)

ready_is : (segments n : ℕ) (words now : List ℕ) (x y : CrewState) → IsReady segments n words now x y → world_of now y [] [] ≡ ready_world segments n now
ready_is segments n words now x y h = h.added ∙ ap (λ (w : World). after w (adds_for n)) (new_world segments now x h.new)

ready_has : (segments n : ℕ) (words now : List ℕ) (x y : CrewState) → IsReady segments n words now x y → HasAdded segments now n (world_of now y [] [])
ready_has segments n words now x y h = subst (λ (w : World). HasAdded segments now n w) (sym (ready_is segments n words now x y h)) (has_added segments now n h.most)

pub added_segments : (segments n : ℕ) (x y : CrewState) → n ≤ 63 → IsNew segments x
    → ((words : List ℕ) → world_of words y [] [] ≡ after (world_of words x [] []) (adds_for n)) → y.cluster.segments ≡ segments
added_segments segments n x y most new added =
    ap (λ (w : World). w.segments) (added [] ∙ ap (λ (w : World). after w (adds_for n)) (new_world segments [] x new)) ∙ (has_added segments [] n most).segments_are

some_lanes : (n : ℕ) (live : List ℕ) → 1 ≤ n → live ≡ lanes_to n → live ≢ []
some_lanes zero live le e none = omega (arith, le)
some_lanes (suc n) live le e none = none_last (lanes_to n) (sym e ∙ none) where
  none_last : (ks : List ℕ) → ks ++ suc n ∷ [] ≡ [] → ⊥
  none_last [] f = cc f
  none_last (k ∷ ks) f = cc f

formatted_zero : (segments at : ℕ) (words : List ℕ) → IsZeros words → at ≢ 0 → word_at (formatted segments words) at ≡ 0
formatted_zero segments at words zeros d = word_at-set_other words format_at at (format_word (record { segments = segments; number = 1 })) d ∙ zeros.each at

pub ready_sound : (segments n : ℕ) (words now : List ℕ) (x y : CrewState) → IsReady segments n words now x y → IsWorld (world_of now y [] [])
ready_sound segments n words now x y h = subst IsWorld (sym (ready_is segments n words now x y h)) (added_sound (opened segments now) n
    (opening segments now (subst (λ (ws : List ℕ). IsSound segments (resting ws)) (sym h.format) (formats words segments [] h.zeros h.size h.few))))

pub ready_may : (segments n : ℕ) (words now : List ℕ) (x y : CrewState) → IsReady segments n words now x y → MayGrantAll now y
ready_may segments n words now x y h =
    let has : HasAdded segments now n (world_of now y [] []) = ready_has segments n words now x y h in record {
      sound = ready_sound segments n words now x y h;
      order = has.order;
      some = some_lanes n y.live h.some has.live;
      deeds = λ slot lt. ap (λ (ws : List ℕ). word_at ws (deed_at slot)) (h.format) ∙ formatted_zero segments (deed_at slot) words h.zeros (λ e. omega (arith, e));
    }

-- ---- the words
length_granted : (owners : ℕ → ℕ) (n : ℕ) (words : List ℕ) → length (all_granted owners n words) ≡ length words
length_granted owners zero words = refl
length_granted owners (suc n) words = length-set (all_granted owners n words) (deed_at n) (first_deed (owners n)) ∙ length_granted owners n words

deeds_granted : (owners : ℕ → ℕ) (n t : ℕ) (words : List ℕ) → t < n → 192 + n ≤ length words → word_at (all_granted owners n words) (deed_at t) ≡ first_deed (owners t)
deeds_granted owners zero t words lt size = absurd (omega (arith, lt))
deeds_granted owners (suc n) t words lt size = elim (cases_eq t n) [
  | inl e ↦ ap (λ (k : ℕ). word_at (all_granted owners (suc n) words) (deed_at k)) e
      ∙ word_at-set_same (all_granted owners n words) (deed_at n) (first_deed (owners n)) (omega (arith, size, length_granted owners n words)) ∙ ap (λ (k : ℕ). first_deed (owners k)) (sym e)
  | inr d ↦ word_at-set_other (all_granted owners n words) (deed_at n) (deed_at t) (first_deed (owners n)) (λ e. d (omega (arith, e)))
      ∙ deeds_granted owners n t words (omega (arith, lt, d)) (omega (arith, size))
]

others_stay : (owners : ℕ → ℕ) (n at : ℕ) (words : List ℕ) → n ≤ 64 → (at < 192) ⊎ (256 ≤ at) → word_at (all_granted owners n words) at ≡ word_at words at
others_stay owners zero at words le other = refl
others_stay owners (suc n) at words le other =
    word_at-set_other (all_granted owners n words) (deed_at n) at (first_deed (owners n)) (λ e. beside other e) ∙ others_stay owners n at words (omega (arith, le)) other
  where
    beside : (at < 192) ⊎ (256 ≤ at) → at ≡ deed_at n → ⊥
    beside (inl low) e = omega (arith, low, e)
    beside (inr high) e = omega (arith, high, e, le)

fresh_so : (segments n : ℕ) (words now : List ℕ) (owners : ℕ → ℕ) → pool_size segments ≤ length words → IsZeros words → 1 ≤ n → n ≤ 63 → ((t : ℕ) → t < 64 → (1 ≤ owners t) × (owners t ≤ n))
    → now ≡ all_granted owners 64 (formatted segments words) → IsFreshPool now segments n owners
fresh_so segments n words now owners size zeros some most each e =
    let ws : List ℕ = formatted segments words in
    let word : ℕ = format_word (record { segments = segments; number = 1 }) in
    let same : pool_size segments ≤ length ws = omega (arith, size, length-set words format_at word) in
    subst (λ (us : List ℕ). IsFreshPool us segments n owners) (sym e) (record {
      some = some;
      few = most;
      size = omega (arith, same, length_granted owners 64 ws);
      format = others_stay owners 64 format_at ws (omega arith) (inl (omega arith)) ∙ word_at-set_same words format_at word (omega (arith, size));
      known = λ t lt. (each t lt).1;
      deeds = λ t lt. deeds_granted owners 64 t ws lt (omega (arith, same))
          ∙ sym (where_false (nat_eq (owners t) 0) 0 (first_deed (owners t)) (let pos = (each t lt).0 in grind (arith, nat_tests, pos)));
      zeros = λ at d other. others_stay owners 64 at ws (omega arith) other ∙ formatted_zero segments at words zeros d;
    })

owner_made : (words : List ℕ) (x : CrewState) (slot lane n : ℕ) → IsWorld (world_of words x [] []) → length x.cluster.nodes ≡ n → IsOwner x.live slot lane → (1 ≤ lane) × (lane ≤ n)
owner_made words x slot lane n h made owner =
    let both = All-contains (λ (k : ℕ). (1 ≤ k) × (k ≤ length x.cluster.nodes)) x.live lane h.live.lanes owner.is_live in
    (both.0, omega (arith, both.1, made))

-- ---- its events may happen
run_both : (w : World) (es fs : List (Event × List ℕ)) → IsRun w es → IsRun (after w es) fs → IsRun w (es ++ fs)
run_both w [] fs run then_run = then_run
run_both w (e ∷ es) fs run then_run = (run.0, run_both (does w e.0 e.1).world es fs run.1 then_run)

adds_run : (w : World) (n : ℕ) → IsRun w (adds_for n)
adds_run w zero = tt
adds_run w (suc n) = (tt, adds_run (adds w).world n)

grants_run : (w : World) (owners : ℕ → ℕ) (n : ℕ) → n ≤ 64 → ((t : ℕ) → t < 64 → (0 < owners t) × (owners t < 64)) → IsRun w (grants_to owners n)
grants_run w owners zero le each = tt
grants_run w owners (suc n) le each =
    let at = each n (omega (arith, le)) in
    run_both w (grants_to owners n) (grants n (owners n)) (grants_run w owners n (omega (arith, le)) each) (((omega (arith, le), at.0, at.1), λ may none. refl), (tt, (tt, tt)))

-- ---- all
pub opened_so : (segments n : ℕ) (words mid : List ℕ) (x y : CrewState) (now : List ℕ) (z : CrewState) → IsReady segments n words mid x y → AreGranted mid y now z
    → IsOpened words now (record { crew = z; history = []; ended = [] }) segments n
opened_so segments n words mid x y now z h g =
    let has : HasAdded segments mid n (world_of mid y [] []) = ready_has segments n words mid x y h in
    let may : MayGrantAll mid y = ready_may segments n words mid x y h in
    let formed : mid ≡ formatted segments words = h.format in record {
      sound = g.sound;
      history = refl;
      segments_are = ap (λ (w : World). w.segments) g.is ∙ has.segments_are;
      made = ap (λ (w : World). w.made) g.is ∙ has.made;
      live = ap (λ (w : World). w.live) g.is ∙ has.live;
      waits = ap (λ (w : World). w.waiting) g.is ∙ has.waits;
      order = ap (λ (w : World). w.machine.monitor) g.is ∙ has.order;
      idle = λ k l is. has.idle k l (sym (ap (λ (w : World). w.machine.lanes k) g.is) ∙ is);
      owners = g.owners;
      ring = λ slot lt. subst (λ (live : List ℕ). IsOwner live slot (g.owners slot)) has.live (g.ring slot lt);
      fresh = fresh_so segments n words now g.owners h.size h.zeros h.some h.most (λ t lt. owner_made mid y t (g.owners t) n may.sound has.made (g.ring t lt))
          (ap (λ (w : World). w.machine.words) g.is ∙ ap (λ (ws : List ℕ). all_granted g.owners 64 ws) formed);
      may = run_both (opened segments (formatted segments words)) (adds_for n) (grants_to g.owners 64) (adds_run (opened segments (formatted segments words)) n)
          (grants_run (after (opened segments (formatted segments words)) (adds_for n)) g.owners 64 (omega arith)
          (λ t lt. (let both = owner_made mid y t (g.owners t) n may.sound has.made (g.ring t lt) in (omega (arith, both.0), omega (arith, both.1, h.most)))));
      run = g.run ∙ ap (λ (w : World). after w (grants_to g.owners 64)) (ready_is segments n words mid x y h)
          ∙ sym (after_both (opened segments mid) (adds_for n) (grants_to g.owners 64))
          ∙ ap (λ (ws : List ℕ). after (opened segments ws) (adds_for n ++ grants_to g.owners 64)) formed;
    }

pub opened_sound : (before words : List ℕ) (w : WorldState) (segments n : ℕ) → IsOpened before words w segments n → CanBeSound words w
opened_sound before words w segments n h = record { told = []; sound = subst (λ (hs : List Standing). IsWorld (world_of words w.crew [] hs)) (sym h.history) h.sound }

-- ---- where an access failed
-- the store that formats the pool was done or not done
pub cut_off : (segments n : ℕ) (words now : List ℕ) (x y : CrewState) → (now ≡ formatted segments words → IsReady segments n words now x y) → IsZeros words
    → MayPerform (format_of segments) words now → HasFormat segments now → MayGoOn now y
cut_off segments n words now x y ready zeros (inl same) has =
    absurd (let none : word_at now format_at ≡ 0 = ap (λ (ws : List ℕ). word_at ws format_at) same ∙ zeros.each format_at in omega (arith, has, none))
cut_off segments n words now x y ready zeros (inr done) has = record { told = []; sound = ready_sound segments n words now x y (ready done) }

pub goes_on_so : (words : List ℕ) (x : CrewState) (h : List Standing) (es : List Merged) → h ≡ [] → MayGoOn words x → CanBeSound words (record { crew = x; history = h; ended = es })
goes_on_so words x h es e can = record { told = can.told; sound = subst (λ (hs : List Standing). IsWorld (world_of words x can.told hs)) (sym e) can.sound }
