use Rattle.std.proofs.Common.{ℕ, IfOk, ◌∙◌, subst}
use Rattle.hz_pipeline_model.specs.Traces.Drills.{Drawn}
use Rattle.hz_tables.specs.Machines.{machine_of}
use Rattle.hz_replay.specs.Drilling.{WalksFrom}
use Rattle.hz_replay.specs.Replaying.{Standing}
use Rattle.hz_replay.specs.Traces.{events_in}
use Rattle.hz_replay.proofs.drilling.drill_uncounted.Goals as goal
use Rattle.hz_pipeline_model.specs.Tables.Machines.{IsWalked}

pub returns-clause-drawn : goal.returns-clause-drawn
returns-clause-drawn g c =
    let numbered = subst (λ (s : Standing). IfOk c.drill_from.result (λ events. Drawn (WalksFrom s) c.len.result c.args.number c.args.turns (events_in events.items))) c.start-replayer.ensures c.drill_from.ensures.drawn in
    subst (λ (n : ℕ). IfOk c.drill_from.result (λ events. Drawn (IsWalked (machine_of c.args.machine.now)) n c.args.number c.args.turns (events_in events.items))) (c.len.ensures ∙ c.args.machine.now.classes.ok.0) numbered
