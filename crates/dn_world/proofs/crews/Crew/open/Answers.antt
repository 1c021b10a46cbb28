use Rattle.std.proofs.Common.{ℕ, Bool, ◌≡◌, ◌∙◌, List, [], refl, sym, ap, subst, arith}
use Rattle.dn_act.specs.Action.{MayPerform}
use Rattle.dn_cluster.specs.Acting.{format_of}
use Rattle.dn_world.specs.Opening.{HasFormat, IsOpened, IsWhole, MayGoOn, formatted}
use Rattle.dn_world.specs.State.{CrewState}
use Rattle.dn_world.proofs.Opened.{IsReady, ready_may, opened_so, cut_off, added_segments}
use Rattle.dn_world.proofs.Whole.{count_whole}
use Rattle.dn_world.proofs.crews.Crew.open.Goals as goal
use Rattle.dn_world.proofs.crews.Crew.open.Goals.{then-formatted, else-formatted}

pub format-formatted-requires : goal.format-formatted-requires
format-formatted-requires g c =
    omega (arith, c.requires.size, added_segments c.args.segments c.args.nodes c.in_ok-crew.crew c.add_lanes.new.self c.requires.most c.in_ok-crew.ensures c.in_ok-add_lanes.ensures)

pub grant_slots-whole-requires : goal.grant_slots-whole-requires
grant_slots-whole-requires g c =
    let words : List ℕ = g.M.Memory.words c.args.mem.now in
    let mid : List ℕ = g.M.Memory.words c.format-formatted.new.mem in
    let segments_are = added_segments c.args.segments c.args.nodes c.in_ok-crew.crew c.add_lanes.new.self c.requires.most c.in_ok-crew.ensures c.in_ok-add_lanes.ensures in
    ready_may c.args.segments c.args.nodes words mid c.in_ok-crew.crew c.add_lanes.new.self (record {
      size = c.requires.size;
      zeros = c.requires.zeros;
      some = c.requires.some;
      most = c.requires.most;
      new = c.in_ok-crew.ensures;
      few = c.requires.segments;
      format = c.if-formatted.ensures.done refl ∙ ap (λ (k : ℕ). formatted k words) segments_are;
      added = c.in_ok-add_lanes.ensures mid;
    })

pub returns : goal.returns
returns g c =
    let words : List ℕ = g.M.Memory.words c.args.mem.now in
    let mid : List ℕ = g.M.Memory.words c.format-formatted.new.mem in
    let now : List ℕ = g.M.Memory.words c.if-formatted.mem in
    let segments : ℕ = c.args.segments in
    let segments_are : c.add_lanes.new.self.cluster.segments ≡ segments =
    added_segments segments c.args.nodes c.in_ok-crew.crew c.add_lanes.new.self c.requires.most c.in_ok-crew.ensures c.in_ok-add_lanes.ensures in
    let ready : mid ≡ formatted segments words → IsReady segments c.args.nodes words mid c.in_ok-crew.crew c.add_lanes.new.self = λ formed. record {
      size = c.requires.size;
      zeros = c.requires.zeros;
      some = c.requires.some;
      most = c.requires.most;
      new = c.in_ok-crew.ensures;
      few = c.requires.segments;
      format = formed;
      added = c.in_ok-add_lanes.ensures mid;
    } in
    elim c.if-formatted.branch [
      | then-formatted w ↦
          let kept : g.M.Memory.faults c.format-formatted.new.mem ≡ g.M.Memory.faults c.args.mem.now = w.if-formatted.ensures.same refl in
          let count : g.M.Memory.faults c.if-formatted.mem ≡ g.M.Memory.faults w.grant_slots-whole.new.mem = ap g.M.Memory.faults w.mem-is in
          let words_are : now ≡ g.M.Memory.words w.grant_slots-whole.new.mem = ap g.M.Memory.words w.mem-is in
          let formed : mid ≡ formatted segments words = w.if-formatted.ensures.done refl ∙ ap (λ (k : ℕ). formatted k words) segments_are in
          record {
            opened = λ same.
                subst (λ (z : CrewState). IsOpened words now (record { crew = z; history = []; ended = [] }) segments c.args.nodes) (sym w.crew-is)
                (subst (λ (ws : List ℕ). IsOpened words ws (record { crew = w.grant_slots-whole.new.self; history = []; ended = [] }) segments c.args.nodes) (sym words_are)
                (opened_so segments c.args.nodes words mid c.in_ok-crew.crew c.add_lanes.new.self (g.M.Memory.words w.grant_slots-whole.new.mem) w.grant_slots-whole.new.self
                (ready formed) (w.grant_slots-whole.ensures.granted (sym count ∙ same ∙ sym kept))));
            formatted = λ _.
                subst (λ (z : CrewState). MayGoOn now z) (sym w.crew-is) (subst (λ (ws : List ℕ). MayGoOn ws w.grant_slots-whole.new.self) (sym words_are) w.grant_slots-whole.ensures.sound);
            whole = subst (λ (b : Bool). IsWhole b (g.M.Memory.faults c.args.mem.now) (g.M.Memory.faults c.if-formatted.mem)) (sym w.whole-is)
                (subst (λ (n : ℕ). IsWhole w.grant_slots-whole.result (g.M.Memory.faults c.args.mem.now) n) (sym count)
                (subst (λ (n : ℕ). IsWhole w.grant_slots-whole.result n (g.M.Memory.faults w.grant_slots-whole.new.mem)) kept w.grant_slots-whole.ensures.whole));
            count = (let rose = count_whole w.grant_slots-whole.result (g.M.Memory.faults c.format-formatted.new.mem) (g.M.Memory.faults w.grant_slots-whole.new.mem) w.grant_slots-whole.ensures.whole in omega (arith, kept, count, rose));
            words = tt;
            faults = tt;
          }
      | else-formatted w ↦
          let lost = w.if-formatted.ensures.fault refl in
          let count : g.M.Memory.faults c.if-formatted.mem ≡ g.M.Memory.faults c.format-formatted.new.mem = ap g.M.Memory.faults w.mem-is in
          let words_are : now ≡ mid = ap g.M.Memory.words w.mem-is in
          record {
            opened = λ same. absurd (omega (arith, lost, count, same));
            formatted = λ has.
                subst (λ (z : CrewState). MayGoOn now z) (sym w.crew-is) (subst (λ (ws : List ℕ). MayGoOn ws c.add_lanes.new.self) (sym words_are)
                (cut_off segments c.args.nodes words mid c.in_ok-crew.crew c.add_lanes.new.self ready c.requires.zeros
                (subst (λ (k : ℕ). MayPerform (format_of k) words mid) segments_are (w.if-formatted.ensures.fails refl))
                (subst (HasFormat segments) words_are has)));
            whole = subst (λ (b : Bool). IsWhole b (g.M.Memory.faults c.args.mem.now) (g.M.Memory.faults c.if-formatted.mem)) (sym w.whole-is)
                (record { yes_whole = λ e. absurd (cc); not_whole = λ _. omega (arith, lost, count) });
            count = omega (arith, lost, count);
            words = tt;
            faults = tt;
          }
    ]
