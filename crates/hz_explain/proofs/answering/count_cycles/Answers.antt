use Rattle.std.proofs.Common.{◌≡◌, ◌+◌, ◌<◌, length, take, arith}
use Rattle.hz_pipeline_model.specs.Accepting.Events.{cycles_of}
use Rattle.hz_replay.specs.Traces.{events_in}
use Rattle.hz_replay.proofs.EventLemmas.{cycles_more, cycles_front}
use Rattle.hz_explain.proofs.answering.count_cycles.Goals as goal

pub overflow_add-cycles : goal.overflow_add-cycles
overflow_add-cycles c =
    let es = c.args.events.now in
    let i = c.loop-event.event-index in
    let inside : i < length es = omega arith in
    let more = cycles_more es i inside in
    let front = cycles_front es (i + 1) in
    omega (arith, c.cycles_at-cycles.ensures, c.loop-event.invariant, c.requires)

pub loop-event-preserved : goal.loop-event-preserved
loop-event-preserved c =
    let es = c.args.events.now in
    let i = c.loop-event.event-index in
    let inside : i < length es = omega arith in
    let more = cycles_more es i inside in
    let next : c.loop-event.cycles + c.cycles_at-cycles.result ≡ cycles_of (events_in (take (i + 1) es)) = omega (arith, c.cycles_at-cycles.ensures, c.loop-event.invariant) in
    next
