use Rattle.std.proofs.Common.{ℕ, ◌==◌, Option, Some, None, Bool, true, false, if◌then◌else◌, refl}
use Rattle.dn_word.specs.Gate.{gate_of}
use Rattle.dn_word.specs.Need.{quiet_of, raised_of}
use Rattle.dn_word.specs.declared.positions.Position.{Position}
use Rattle.dn_plan.specs.Plan.{is_owner, need_of, acts, ends, goes, barred, raised_at, raises, reads, writes, opened, roomed_of}
use Rattle.dn_plan.specs.Program.{Return, Locate, Follows, Runs}
use Rattle.dn_plan.specs.Sequence.{shut, raise, read, in_room, write, by_kind, pass_gate, call_plan}
use Rattle.dn_plan.specs.declared.phases.Kind.{Kind}
use Rattle.dn_plan.specs.declared.phases.Kind.TheVariants as kind
use Rattle.dn_plan.specs.declared.phases.Brief.{Brief}
use Rattle.dn_plan.specs.declared.phases.Located.{Located}
use Rattle.dn_plan.specs.declared.phases.Room.{Room}
use Rattle.dn_plan.specs.declared.phases.Room.TheVariants as room
use Rattle.dn_plan.specs.declared.phases.ActPhase.TheVariants as at
use Rattle.dn_plan.specs.declared.phases.LocatePhase.TheVariants as locate
use Rattle.dn_plan.specs.declared.phases.RoomPhase.TheVariants as find
use Rattle.dn_plan.specs.declared.phases.SealPhase.TheVariants as seal
use Rattle.dn_plan.specs.declared.results.Ending.{Ending}
use Rattle.dn_plan.specs.declared.results.Ending.TheVariants.{NotOwner}
use Rattle.dn_plan.specs.declared.results.After.TheVariants as after
use Rattle.dn_plan.specs.declared.results.Next.TheVariants as next

-- an exchange of the gate, by whether it was done
exchanged_follows : (b : Brief) (found : ℕ) (ending : Ending) (same : Bool)
    → Follows b (if same then Return ending else shut found) (if same then goes (ends ending) else barred found)
exchanged_follows b found ending true = refl
exchanged_follows b found ending false = (refl, refl)

-- ---- a get
raise_follows : (b : Brief) (look : ℕ) (located : Located) (gate : ℕ) (to : Option Position)
    → Follows b (raise b located gate to) (goes (next.After (raises look located gate to)))
raise_follows b look located gate None = refl
raise_follows b look located gate (Some to) = (at.Raise (raised_at look located gate to), refl, refl, λ found. exchanged_follows b found _ (found == gate))

read_follows : (b : Brief) (look : ℕ) (located : Located) (gate : ℕ) (quiet to : Option Position)
    → Follows b (read b located gate quiet to) (goes (next.After (reads look located gate quiet to)))
read_follows b look located gate (Some quiet) to = refl
read_follows b look located gate None to = raise_follows b look located gate to

-- ---- a put or delete
room_follows : (b : Brief) (look : ℕ) (located : Located) (gate : ℕ) (to : Position) (r : Room)
    → Follows b (in_room located gate to r) (goes (next.After (after.Then (roomed_of (find.Write (raised_at look located gate to)) r))))
room_follows b look located gate to room.Found =
    (seal.Write (raised_at look located gate to), refl, refl, λ place found. exchanged_follows b found _ (found == gate))
room_follows b look located gate to (room.Full counter segments) = refl

write_follows : (b : Brief) (look : ℕ) (located : Located) (gate : ℕ) (to : Option Position)
    → Follows b (write located gate to) (goes (next.After (writes look located gate to)))
write_follows b look located gate None = refl
write_follows b look located gate (Some to) = (find.Write (raised_at look located gate to), refl, λ r. room_follows b look located gate to r)

-- ---- the gate
kind_follows : (b : Brief) (look : ℕ) (located : Located) (gate : ℕ) (k : Kind)
    → Follows b (by_kind b look located gate k) (goes (next.After (opened b look located gate k)))
kind_follows b look located gate kind.Get =
    read_follows b look located gate (quiet_of (need_of b look) (gate_of gate).stamp) (raised_of (need_of b look) (gate_of gate).stamp)
kind_follows b look located gate kind.Put = write_follows b look located gate (raised_of (need_of b look) (gate_of gate).stamp)
kind_follows b look located gate kind.Delete = write_follows b look located gate (raised_of (need_of b look) (gate_of gate).stamp)

gate_by : (b : Brief) (look : ℕ) (located : Located) (gate : ℕ) (fenced : Bool)
    → Follows b (if fenced then shut gate else by_kind b look located gate b.kind)
    (if fenced then barred gate else goes (next.After (opened b look located gate b.kind)))
gate_by b look located gate true = (refl, refl)
gate_by b look located gate false = kind_follows b look located gate b.kind

gate_follows : (b : Brief) (look : ℕ) (located : Located)
    → Follows b (pass_gate b look located) (goes (acts (at.Gate look located)))
gate_follows b look located =
    (at.Gate look located, refl, refl, λ gate. gate_by b look located gate (gate_of gate).fenced)

-- ---- the look
owner_by : (b : Brief) (look : ℕ) (owner : Bool)
    → Follows b (if owner then Locate (λ located. pass_gate b look located) else Return (NotOwner look))
    (goes (if owner then next.Locate (locate.Owner look) else ends (NotOwner look)))
owner_by b look true = (locate.Owner look, refl, λ located. gate_follows b look located)
owner_by b look false = refl

-- a call that begins with its look runs its whole plan
pub call_runs : (b : Brief) → Runs b (call_plan b) at.Look
call_runs b = record { follows = (at.Look, refl, refl, λ look. (refl, owner_by b look (is_owner b.lane look))) }
