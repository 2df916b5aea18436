use Rattle.std.proofs.Common.{inl, inr}
use Rattle.hz_answer_model.specs.TableAnswers.{HasTables, TablesFaultAt, WalksTrace}
use Rattle.hz_front_model.specs.Phases.{TellsFault}
use Rattle.hz_tables.specs.Machines.{machine_of}
use Rattle.hz_tabtext_model.specs.Judging.{tables_word}
use Rattle.hz_tool.proofs.DecideLemmas.{decides_weaker, hands_on}
use Rattle.hz_tool.proofs.commands.walk.judge_walk.Goals as goal

pub returns-in_err-machine : goal.returns-in_err-machine
returns-in_err-machine c =
    let order = c.args.order.now in
    hands_on (TellsFault tables_word (TablesFaultAt c.args.tabled.now) order.tables.now) (HasTables order.tables.now c.args.tabled.now (WalksTrace order.trace.now c.args.trace.now)) (λ s t h. inr h)
    c.from_residual.result c.in_err-machine.field-0.0 c.from_residual.ensures.1 (c.in_err-machine.ensures.kind, c.in_err-machine.ensures.err)

pub returns : goal.returns
returns c =
    let order = c.args.order.now in
    let m = machine_of c.in_ok-machine.machine in
    decides_weaker (WalksTrace order.trace.now c.args.trace.now m) (HasTables order.tables.now c.args.tabled.now (WalksTrace order.trace.now c.args.trace.now))
    (λ s t h. inl (m, c.in_ok-machine.ensures.ok, h)) c.walk_trace.result c.walk_trace.ensures
