use Rattle.hz_answer_model.specs.Answers.{ReplaysTrace}
use Rattle.hz_answer_model.specs.TableAnswers.{WalksTrace}
use Rattle.hz_tables.specs.Machines.{machine_of}
use Rattle.hz_tool.proofs.CommandLemmas.{decided_then, front_machine, uncompiled}
use Rattle.hz_tool.proofs.MachineLemmas.{walk_replays}
use Rattle.hz_tool.proofs.commands.replay.judge_replay.Goals as goal

pub returns-in_err-front : goal.returns-in_err-front
returns-in_err-front c =
    let order = c.args.order.now in
    uncompiled order.description.now c.args.described.now (ReplaysTrace order.trace.now c.args.trace.now) c.from_residual.result c.in_err-front.field-0.0 c.from_residual.ensures.1 c.in_err-front.ensures

pub returns : goal.returns
returns c =
    let order = c.args.order.now in
    let front = c.in_ok-front.front in
    let is = c.in_ok-front.ensures in
    let m = machine_of front.compiled.machine in
    decided_then order.description.now c.args.described.now (ReplaysTrace order.trace.now c.args.trace.now) front is (WalksTrace order.trace.now c.args.trace.now m)
    (walk_replays is.checked.d is.checked.is.known m (front_machine c.args.described.now front is) order.trace.now c.args.trace.now) c.walk_trace.result c.walk_trace.ensures
