use Rattle.std.proofs.Common.{ℕ, ◌∙◌, subst}
use Rattle.hz_pipeline_model.specs.Traces.Drills.{Drawn}
use Rattle.hz_replay.specs.Drilling.{WalksFrom}
use Rattle.hz_replay.specs.Replaying.{Standing}
use Rattle.hz_replay.specs.Traces.{events_in}
use Rattle.hz_tables.specs.Machines.{machine_of}
use Rattle.hz_tool.proofs.commands.drill.drilled_on.Goals as goal
use Rattle.hz_pipeline_model.specs.Tables.Machines.{IsWalked}

pub returns-clause-drawn : goal.returns-clause-drawn
returns-clause-drawn g c =
    let order = c.args.order.now in
    let t = events_in c.in_ok-events.events.items in
    let here = subst (λ (s : Standing). Drawn (WalksFrom s) c.len.result order.number order.turns t) c.start-replayer.ensures c.in_ok-events.ensures.drawn in
    subst (λ (n : ℕ). Drawn (IsWalked (machine_of c.args.machine.now)) n order.number order.turns t) (c.len.ensures ∙ c.args.machine.now.classes.ok.0) here
