use Rattle.std.proofs.Common.{ℕ, ◌^◌, ◌<◌, ◌≡◌, ◌≢◌, inl, nat_eq, if◌then◌else◌, List, slice_set, refl, sym, ◌∙◌, ap, subst, arith}
use Rattle.std.proofs.lemmas.Bool.{eq-eqb, ne_eqb}
use Rattle.std.proofs.lemmas.Bool.Decides.{nat_tests}
use Rattle.std.proofs.lemmas.List.{set-get_or}
use Rattle.dn_word.specs.Gate.{gate_of, gate_word}
use Rattle.dn_word.specs.declared.packed.gate.Gate.{Gate}
use Rattle.dn_act.specs.Words.{word_at}
use Rattle.dn_act.specs.Action.{Performs}
use Rattle.dn_act.specs.declared.actions.Action.TheVariants.{Cas}
use Rattle.dn_act.proofs.Words.{word_at-set_other}
use Rattle.dn_log.specs.Log.{Log, IsFit}
use Rattle.dn_model.specs.Regions.{gate_at, directory_at, IsLane}
use Rattle.dn_store.specs.Changes.{gated}
use Rattle.dn_store.specs.Represents.{Represents}
use Rattle.dn_store.proofs.At.{at_same, at_other}
use Rattle.dn_store.proofs.Lanes.{regate}
use Rattle.dn_owners.specs.Events.{Event, Raise}
use Rattle.dn_owners.specs.Given.{IsExchange, IsGiven}
use Rattle.dn_owners.proofs.Logs.{ordered}
use Rattle.dn_owners.proofs.Grown.{later}
use Rattle.dn_owners.proofs.Tables.{kept, located}
use Rattle.dn_beside.specs.Pool.{Pool, store_in, IsWhole}
use Rattle.dn_beside.specs.Step.{IsStepBy, IsQuiet, by_lane}
use Rattle.dn_reach.specs.Directory.{NamesSegments}
use Rattle.dn_reach.specs.OwnLog.{HoldsLog, IsLaneOf}
use Rattle.dn_reach.specs.Exchange.{open_gate, IsExchanged}
use Rattle.dn_reach.specs.Steps.{after_raise}
use Rattle.dn_reach.proofs.Lasts.{directory_kept}
use Rattle.dn_reach.proofs.OwnSteps.{IsOwnStep, own_step, stored_alike, low_not_of}

-- The exchange of a gate that changes no length.

-- an open gate's word reads as it was made
gate_again : (stamp len : ℕ) → stamp < 2 ^ 31 → len < 2 ^ 24 → gate_of (gate_word (open_gate stamp len)) ≡ open_gate stamp len
gate_again stamp len s l = grind (arith, nat_tests)

-- ---- what an exchange that is done finds and stores
pub record IsGateStored (p : Pool) (n old stamp len : ℕ) (now : List ℕ) : Type 0 where
  pub stored : now ≡ slice_set p.words (gate_at n) (gate_word (open_gate stamp len))
  pub reads : gate_of (gate_word (open_gate stamp len)) ≡ open_gate stamp len
  pub was : gate_of old ≡ (store_in p).gates n
  pub exchange : IsExchange ((store_in p).gates n) (open_gate stamp len) n

chosen : (words now : List ℕ) (at a old new : ℕ) → old ≡ a → now ≡ slice_set words at (if nat_eq a old then new else a) → now ≡ slice_set words at new
chosen words now at a old new e c = c ∙ ap (λ b. slice_set words at (if b then new else a)) (eq-eqb a old (sym e))

pub gate_stored : (p : Pool) (n old stamp len : ℕ) (now : List ℕ) → IsWhole p → IsLane n → len < 2 ^ 24 → IsExchanged p n old stamp len now → IsGateStored p n old stamp len now
gate_stored p n old stamp len now h l short x =
    let was : gate_of old ≡ (store_in p).gates n = ap gate_of x.performs.answer ∙ h.represents.table.gates n l.below in
    record {
      stored = chosen p.words now (gate_at n) (word_at p.words (gate_at n)) old (gate_word (open_gate stamp len)) x.performs.answer x.performs.change;
      reads = gate_again stamp len x.low short;
      was = was;
      exchange = record {
        lane = l.positive;
        unfenced = ap (λ (g : Gate). g.fenced) (sym was) ∙ x.unfenced;
        stays = refl;
        stamp = omega (arith, x.rises, ap (λ (g : Gate). g.stamp) was);
      };
    }

-- ---- and one that finds another word leaves all words
kept_word : (words now : List ℕ) (at old new word : ℕ) → word ≡ word_at words at → word ≢ old → now ≡ slice_set words at (if nat_eq (word_at words at) old then new else word_at words at) → now ≡ words
kept_word words now at old new word e d c =
    c ∙ ap (λ b. slice_set words at (if b then new else word_at words at)) (ne_eqb (word_at words at) old (λ f. d (e ∙ f))) ∙ set-get_or words at 0

pub missed : (words now : List ℕ) (at old new word : ℕ) → Performs (Cas at old new) word words now → word ≢ old → now ≡ words
missed words now at old new word f d = kept_word words now at old new word f.answer d f.change

-- ---- no directory word is a gate
pub gate_directory : (words : List ℕ) (n new : ℕ) (log : Log) → log.lane ≡ n → n < 64 → IsFit log → NamesSegments words log → NamesSegments (slice_set words (gate_at n) new) log
gate_directory words n new log e l fit d = directory_kept words (slice_set words (gate_at n) new) log.lane log refl fit
    (λ q lt. word_at-set_other words (gate_at n) (directory_at log.lane q) new (λ f. absurd (omega (arith, f, l)))) d

-- ---- the stamp is raised
raise_given : (p : Pool) (n old stamp : ℕ) (now : List ℕ) → IsGateStored p n old stamp (gate_of old).len now → IsGiven p.owners (Raise n (open_gate stamp (gate_of old).len))
raise_given p n old stamp now g = (g.exchange, ap (λ (x : Gate). x.len) g.was)

raise_represents : (p : Pool) (n old stamp : ℕ) (now : List ℕ) → IsWhole p → IsLane n → IsGateStored p n old stamp (gate_of old).len now → Represents now p.chains (gated (store_in p) n (open_gate stamp (gate_of old).len))
raise_represents p n old stamp now h l g =
    let P : List ℕ → Type 0 = λ ws. Represents ws p.chains (gated (store_in p) n (open_gate stamp (gate_of old).len)) in
    let Q : Gate → Type 0 = λ x. Represents (slice_set p.words (gate_at n) (gate_word (open_gate stamp (gate_of old).len))) p.chains (gated (store_in p) n x) in
    subst P (sym g.stored) (subst Q g.reads (regate p.words p.chains (store_in p) n (gate_word (open_gate stamp (gate_of old).len)) h.represents l
    (ap (λ (x : Gate). x.len) g.reads ∙ ap (λ (x : Gate). x.len) g.was)))

raise_own : (p : Pool) (n old stamp : ℕ) (now : List ℕ) → IsWhole p → IsLane n → IsGateStored p n old stamp (gate_of old).len now → IsOwnStep n (gate_at n) p (after_raise p n old stamp now)
raise_own p n old stamp now h lane g =
    let s = store_in p in
    let gate : Gate = open_gate stamp (gate_of old).len in
    let e : Event = Raise n gate in
    let given = raise_given p n old stamp now g in
    let order = ordered p.words p.chains s h.represents in
    record {
      whole = h;
      after = record { represents = raise_represents p n old stamp now h lane g; sound = kept p.owners e order h.sound given; deeds = h.deeds; plain = h.plain };
      lane = lane;
      alike = stored_alike p.words now (gate_at n) (gate_word gate) g.stored;
      beside = inl (omega (arith, lane.below));
      not_of = λ m l d. low_not_of m (gate_at n) s.holders (omega (arith, lane.below)) (λ f. d (omega (arith, f)));
      later = later p.owners e given;
      named = λ m i l lt f. absurd (omega (arith, f, lane.below));
      chains = refl;
      pool = refl;
      gates = λ m d. at_other s.gates n gate m d;
      logs = λ m d. refl;
      knows = λ m d. refl;
      holders = λ m f l own. own;
      marks = λ m. refl;
      deeds = λ t. refl;
      index = refl;
      takers = refl;
      bucket_count = refl;
      segments = omega arith;
      watch = refl;
      located = λ m k l r d look slot clear a. located p.owners e m k l r order h.sound given look slot clear refl a;
    }

gate_short : (old : ℕ) → (gate_of old).len < 2 ^ 24
gate_short old = omega arith

pub raise_step : (p : Pool) (n old stamp : ℕ) (now : List ℕ) → IsWhole p → IsLane n → IsExchanged p n old stamp (gate_of old).len now → IsStepBy (by_lane n) p (after_raise p n old stamp now)
raise_step p n old stamp now h l x = own_step n (gate_at n) p (after_raise p n old stamp now) (raise_own p n old stamp now h l (gate_stored p n old stamp (gate_of old).len now h l (gate_short old) x))

pub raise_quiet : (p : Pool) (n old stamp : ℕ) (now : List ℕ) → IsQuiet p (after_raise p n old stamp now)
raise_quiet p n old stamp now = record { held = λ k v pos h. h; promised = λ k. refl }

pub raise_log : (p : Pool) (n : ℕ) (log : Log) (old stamp : ℕ) (now : List ℕ) → IsLaneOf p n log → IsExchanged p n old stamp (gate_of old).len now → HoldsLog (after_raise p n old stamp now) n log
raise_log p n log old stamp now h x =
    let s = h.own in
    let gate : Gate = open_gate stamp (gate_of old).len in
    let g = gate_stored p n old stamp (gate_of old).len now h.whole h.lane (gate_short old) x in
    let P : List ℕ → Type 0 = λ ws. NamesSegments ws log in
    record {
      lane = s.lane;
      pool = s.pool;
      len = ap (λ (y : Gate). y.len) (at_same (store_in p).gates n gate n refl) ∙ ap (λ (y : Gate). y.len) g.was ∙ s.len;
      fit = s.fit;
      apart = s.apart;
      holders = s.holders;
      directory = subst P (sym g.stored) (gate_directory p.words n (gate_word gate) log s.lane h.lane.below s.fit s.directory);
    }

-- the gate then is the one that was stored
pub raise_gate : (p : Pool) (n old stamp : ℕ) (now : List ℕ) → (store_in (after_raise p n old stamp now)).gates n ≡ open_gate stamp (gate_of old).len
raise_gate p n old stamp now = at_same (store_in p).gates n (open_gate stamp (gate_of old).len) n refl
