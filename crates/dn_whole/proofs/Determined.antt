use Rattle.std.proofs.Common.{ℕ, ◌+◌, ◌≤◌, ◌^◌, ◌≡◌, List, length, refl, sym, ◌∙◌, ap, subst, arith}
use Rattle.dn_act.specs.Words.{IsZeros}
use Rattle.dn_callers.specs.Callers.{Standing}
use Rattle.dn_run.specs.Headline.{IsHeadline}
use Rattle.dn_run.specs.Output.{output_of, all_events_text}
use Rattle.dn_run.specs.Run.{Run}
use Rattle.dn_script.specs.declared.scripts.Script.{Script}
use Rattle.dn_world.specs.Drains.{DrainsAll, FillsIndex}
use Rattle.dn_world.proofs.Draining.{same_all, same_full, fills_not_all}
use Rattle.dn_whole.specs.Whole.{IsShort, IsPlayed, IsLong, IsFullAtEnd, Plays, AreSame}
use Rattle.dn_whole.specs.declared.ends.End.{End}
use Rattle.dn_whole.specs.declared.ends.End.TheVariants.{Done, Long, IndexFull}
use Rattle.dn_whole.proofs.Histories.{one_history}
use Rattle.dn_whole.proofs.Moments.{AreOfOne, are_of_one, same_over, same_long, not_either, turned}

-- Two plays of a script come to the same.

-- ---- each by itself, of moments of one run
both_played : (script : Script) (before other now fin out last : List ℕ) → (h : IsPlayed script before now out) → (k : IsPlayed script other fin last) → AreOfOne h.run k.run → AreSame now out Done fin last Done
both_played script before other now fin out last h k one =
    let run : h.run ≡ k.run = same_over h.run k.run one h.over k.over in
    let words : now ≡ fin = same_all k.run.world now fin (subst (λ (r : Run). DrainsAll r.world now) run h.drains) k.drains in
    let history : h.history ≡ k.history = one_history script.lines k.run now fin h.history k.history (subst (λ (r : Run). IsHeadline script.lines r now h.history) run h.headline) k.headline in record {
      ends = refl;
      words = words;
      outputs = h.output ∙ ap (λ (r : Run). output_of r now h.history) run ∙ ap (λ (ws : List ℕ). output_of k.run ws h.history) words
          ∙ ap (λ (hs : List Standing). output_of k.run fin hs) history ∙ sym k.output;
    }

both_long : (script : Script) (before other now fin out last : List ℕ) → (h : IsLong script before now out) → (k : IsLong script other fin last) → AreOfOne h.run k.run → AreSame now out Long fin last Long
both_long script before other now fin out last h k one =
    let same : length h.run.past ≡ length k.run.past = omega (arith, h.all, k.all) in
    let run : h.run ≡ k.run = same_long h.run k.run one same h.more k.more in record {
      ends = refl;
      words = sym h.words ∙ ap (λ (r : Run). r.world.machine.words) run ∙ k.words;
      outputs = h.output ∙ ap (λ (r : Run). r.printed) run ∙ sym k.output;
    }

both_full : (script : Script) (before other now fin out last : List ℕ) → (h : IsFullAtEnd script before now out) → (k : IsFullAtEnd script other fin last) → AreOfOne h.run k.run
    → AreSame now out IndexFull fin last IndexFull
both_full script before other now fin out last h k one =
    let run : h.run ≡ k.run = same_over h.run k.run one h.over k.over in record {
      ends = refl;
      words = same_full k.run.world h.lane k.lane h.counter k.counter now fin (subst (λ (r : Run). FillsIndex r.world h.lane h.counter now) run h.fills) k.fills;
      outputs = h.output ∙ ap all_events_text run ∙ sym k.output;
    }

-- ---- one play doesn't end in two ways
played_not_full : (script : Script) (before other now fin out last : List ℕ) → (h : IsPlayed script before now out) → (k : IsFullAtEnd script other fin last) → AreOfOne h.run k.run → ⊥
played_not_full script before other now fin out last h k one =
    fills_not_all k.run.world k.lane k.counter fin now k.fills (subst (λ (r : Run). DrainsAll r.world now) (same_over h.run k.run one h.over k.over) h.drains)

short_past : (r q : Run) → IsShort r → 129 + length q.past ≡ 2 ^ 22 → length r.past ≤ length q.past
short_past r q short all = omega (arith, short, all)

played_not_long : (script : Script) (before other now fin out last : List ℕ) → (h : IsPlayed script before now out) → (k : IsLong script other fin last) → AreOfOne h.run k.run → ⊥
played_not_long script before other now fin out last h k one = not_either h.run k.run one (short_past h.run k.run h.short k.all) h.over k.more

full_not_long : (script : Script) (before other now fin out last : List ℕ) → (h : IsFullAtEnd script before now out) → (k : IsLong script other fin last) → AreOfOne h.run k.run → ⊥
full_not_long script before other now fin out last h k one = not_either h.run k.run one (short_past h.run k.run h.short k.all) h.over k.more

-- ---- all
pub determined : (script : Script) (before other now fin out last : List ℕ) (end stop : End) → IsZeros before → IsZeros other → length before ≡ length other
    → Plays script before now out end → Plays script other fin last stop → AreSame now out end fin last stop
determined script before other now fin out last Done Done zeros others size h k =
    both_played script before other now fin out last h k (are_of_one script before other h.run k.run zeros others size h.moment k.moment)
determined script before other now fin out last Done Long zeros others size h k =
    absurd (played_not_long script before other now fin out last h k (are_of_one script before other h.run k.run zeros others size h.moment k.moment))
determined script before other now fin out last Done IndexFull zeros others size h k =
    absurd (played_not_full script before other now fin out last h k (are_of_one script before other h.run k.run zeros others size h.moment k.moment))
determined script before other now fin out last Long Done zeros others size h k =
    absurd (played_not_long script other before fin now last out k h (turned h.run k.run (are_of_one script before other h.run k.run zeros others size h.moment k.moment)))
determined script before other now fin out last Long Long zeros others size h k =
    both_long script before other now fin out last h k (are_of_one script before other h.run k.run zeros others size h.moment k.moment)
determined script before other now fin out last Long IndexFull zeros others size h k =
    absurd (full_not_long script other before fin now last out k h (turned h.run k.run (are_of_one script before other h.run k.run zeros others size h.moment k.moment)))
determined script before other now fin out last IndexFull Done zeros others size h k =
    absurd (played_not_full script other before fin now last out k h (turned h.run k.run (are_of_one script before other h.run k.run zeros others size h.moment k.moment)))
determined script before other now fin out last IndexFull Long zeros others size h k =
    absurd (full_not_long script before other now fin out last h k (are_of_one script before other h.run k.run zeros others size h.moment k.moment))
determined script before other now fin out last IndexFull IndexFull zeros others size h k =
    both_full script before other now fin out last h k (are_of_one script before other h.run k.run zeros others size h.moment k.moment)
