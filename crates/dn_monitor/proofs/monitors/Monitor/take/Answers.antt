use Rattle.dn_monitor.proofs.SequenceLaws.{rounds_run}
use Rattle.dn_monitor.proofs.CauseLaws.{causes_of, stays_of}
use Rattle.dn_monitor.proofs.monitors.Monitor.take.Goals as goal

pub returns-clause-rounds : goal.returns-clause-rounds
returns-clause-rounds c = rounds_run (record { heirs = c.self.inside.heirs; place = c.after-step.result.place })

pub returns-clause-waits : goal.returns-clause-waits
returns-clause-waits c mark need = stays_of c.args.word mark need c.after-step.result (record { heirs = c.self.inside.heirs; place = c.self.inside.place }) c.args.self.now c.self.view_is c.after-step.ensures.value

pub returns-clause-last : goal.returns-clause-last
returns-clause-last c = (causes_of c.args.word c.after-step.result (record { heirs = c.self.inside.heirs; place = c.self.inside.place }) c.args.self.now c.self.view_is c.after-step.ensures.value).last c.requires

pub returns-clause-formatted : goal.returns-clause-formatted
returns-clause-formatted c = (causes_of c.args.word c.after-step.result (record { heirs = c.self.inside.heirs; place = c.self.inside.place }) c.args.self.now c.self.view_is c.after-step.ensures.value).formatted

pub returns-clause-looked : goal.returns-clause-looked
returns-clause-looked c = (causes_of c.args.word c.after-step.result (record { heirs = c.self.inside.heirs; place = c.self.inside.place }) c.args.self.now c.self.view_is c.after-step.ensures.value).looked

pub returns-clause-granted : goal.returns-clause-granted
returns-clause-granted c = (causes_of c.args.word c.after-step.result (record { heirs = c.self.inside.heirs; place = c.self.inside.place }) c.args.self.now c.self.view_is c.after-step.ensures.value).granted

pub returns-clause-barred : goal.returns-clause-barred
returns-clause-barred c = (causes_of c.args.word c.after-step.result (record { heirs = c.self.inside.heirs; place = c.self.inside.place }) c.args.self.now c.self.view_is c.after-step.ensures.value).barred

pub returns-clause-taken : goal.returns-clause-taken
returns-clause-taken c = (causes_of c.args.word c.after-step.result (record { heirs = c.self.inside.heirs; place = c.self.inside.place }) c.args.self.now c.self.view_is c.after-step.ensures.value).taken

pub returns-clause-held : goal.returns-clause-held
returns-clause-held c = (causes_of c.args.word c.after-step.result (record { heirs = c.self.inside.heirs; place = c.self.inside.place }) c.args.self.now c.self.view_is c.after-step.ensures.value).held

pub returns-clause-waiting : goal.returns-clause-waiting
returns-clause-waiting c = (causes_of c.args.word c.after-step.result (record { heirs = c.self.inside.heirs; place = c.self.inside.place }) c.args.self.now c.self.view_is c.after-step.ensures.value).waiting

pub returns-clause-not_fenced : goal.returns-clause-not_fenced
returns-clause-not_fenced c = (causes_of c.args.word c.after-step.result (record { heirs = c.self.inside.heirs; place = c.self.inside.place }) c.args.self.now c.self.view_is c.after-step.ensures.value).not_fenced

pub returns-clause-worn : goal.returns-clause-worn
returns-clause-worn c = (causes_of c.args.word c.after-step.result (record { heirs = c.self.inside.heirs; place = c.self.inside.place }) c.args.self.now c.self.view_is c.after-step.ensures.value).worn

pub returns-clause-grants : goal.returns-clause-grants
returns-clause-grants c = (causes_of c.args.word c.after-step.result (record { heirs = c.self.inside.heirs; place = c.self.inside.place }) c.args.self.now c.self.view_is c.after-step.ensures.value).grants
