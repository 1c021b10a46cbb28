use Rattle.std.proofs.Common.{ℕ, ◌≡◌, ◌≤◌, List, [], Option, Some, length, sym, ◌∙◌, ap, subst}
use Rattle.std.proofs.lemmas.Option.{same_Some}
use Rattle.dn_act.specs.Action.{words_after, Performs}
use Rattle.dn_act.specs.Words.{IsZeros, pool_size}
use Rattle.dn_act.specs.declared.actions.Action.{Action}
use Rattle.dn_monitor.specs.Monitor.{Monitoring, begun, monitor_next}
use Rattle.dn_monitor.specs.declared.orders.Order.TheVariants.{Format}
use Rattle.dn_machine.specs.State.{Machine, resting}
use Rattle.dn_machine.specs.Sound.{IsSound}
use Rattle.dn_machine.proofs.Formatting.{formats}
use Rattle.dn_cluster.specs.State.{ClusterState}
use Rattle.dn_cluster.specs.Acting.{format_of}
use Rattle.dn_cluster.specs.Does.{Rests}
use Rattle.dn_cluster.specs.Machine.{machine_of}

-- A pool of zeros is formatted.

-- the order's one action
pub its_store : (segments : ℕ) (x : Monitoring) (o : Option Action) (action : Action) → x ≡ begun (Format segments) x.heirs → o ≡ monitor_next x → o ≡ Some action → action ≡ format_of segments
its_store segments x o action is next some = same_Some action (format_of segments) (sym some ∙ next ∙ ap monitor_next is)

pub stored : (segments : ℕ) (words now : List ℕ) (action : Action) (word : ℕ) → action ≡ format_of segments → Performs action word words now → now ≡ words_after (format_of segments) words
stored segments words now action word is does = does.change ∙ ap (λ (a : Action). words_after a words) is

pub formatted : (c : ClusterState) (words now : List ℕ) (action : Action) (word : ℕ) → c.segments ≤ 8192 → pool_size c.segments ≤ length words → action ≡ format_of c.segments → Performs action word words now → IsZeros words → Rests c
    → IsSound c.segments (machine_of now c [] [])
formatted c words now action word most size is does zeros rests =
    let after : now ≡ words_after (format_of c.segments) words = stored c.segments words now action word is does in
    subst (λ (m : Machine). IsSound c.segments m) (ap resting (sym after) ∙ sym (rests.is now)) (formats words c.segments [] zeros size most)
