use Rattle.std.proofs.Common.{◌≡◌, ◌-◌, List, Ok, length, ap, ◌∙◌, arith}
use Rattle.hz_answer_model.specs.DrillAnswers.{Drills}
use Rattle.hz_pipeline_model.specs.Accepting.Events.{issues_of, cycles_of}
use Rattle.hz_replay.specs.declared.event.Event.{Event}
use Rattle.hz_replay.specs.Traces.{events_in}
use Rattle.hz_tables.specs.Machines.{machine_of}
use Rattle.hz_tool.proofs.CommandLemmas.{decided_then, uncompiled}
use Rattle.hz_tool.proofs.DrillLemmas.{drill_reported, turns_counted}
use Rattle.hz_tool.specs.declared.done.Done.TheVariants.{Drilled}
use Rattle.hz_tool.proofs.commands.drill.judge_drill.Goals as goal

pub returns-in_err-front : goal.returns-in_err-front
returns-in_err-front c =
    let order = c.args.order.now in
    uncompiled order.description.now c.args.described.now (λ d known. Drills d known order.number order.turns) c.from_residual.result c.in_err-front.field-0.0 c.from_residual.ensures.1 c.in_err-front.ensures

pub overflow_sub-result : goal.overflow_sub-result
overflow_sub-result c =
    let order = c.args.order.now in
    let machine = c.in_ok-front.front.compiled.machine in
    let t = events_in c.in-Ok.drilled.events.items in
    let sum = turns_counted (machine_of machine) (length machine.classes.items) order.number order.turns t c.in-Ok.ensures.drawn in
    let counted : c.count_issues-issues.result ≡ issues_of t = c.count_issues-issues.ensures ∙ ap (λ (es : List Event). issues_of (events_in es)) c.deref.ensures.value in
    omega (arith, sum, counted, c.from.ensures)

pub returns : goal.returns
returns c =
    let order = c.args.order.now in
    let front = c.in_ok-front.front in
    let is = c.in_ok-front.ensures in
    let d = is.checked.d in
    let known = is.checked.is.known in
    let all = front.compiled in
    let t = events_in c.in-Ok.drilled.events.items in
    let issues = c.count_issues-issues.result in
    let sum = turns_counted (machine_of all.machine) (length all.machine.classes.items) order.number order.turns t c.in-Ok.ensures.drawn in
    let counted : c.count_issues-issues.result ≡ issues_of t = c.count_issues-issues.ensures ∙ ap (λ (es : List Event). issues_of (events_in es)) c.deref.ensures.value in
    let passed : c.from.result - c.count_issues-issues.result ≡ cycles_of t = omega (arith, sum, counted, c.from.ensures) in
    decided_then order.description.now c.args.described.now (λ d known. Drills d known order.number order.turns) front is (Drills d known order.number order.turns) (λ s t h. h)
    (Ok (Drilled order.turns issues (c.from.result - issues) c.in-Ok.drilled.states))
    (tt, drill_reported d front.checked is.checked.is all is.compiled all.machine.kept order.number order.turns issues (c.from.result - issues) t c.in-Ok.drilled.states.items c.in-Ok.ensures.drawn c.in-Ok.ensures.left counted passed)
