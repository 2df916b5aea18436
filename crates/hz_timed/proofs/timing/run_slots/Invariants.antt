use Rattle.std.proofs.Common.{◌<◌, map, All}
use Rattle.hz_rtl.specs.Shape.{instructions}
use Rattle.hz_rtl.specs.States.{words}
use Rattle.hz_sched.specs.Shape.{slots_of}
use Rattle.hz_timed.specs.Shape.{read_of}
use Rattle.hz_timed.specs.Writes.{number_by, place_count, IsIndexed}
use Rattle.hz_timed.proofs.WholeLemmas.{TimedSoFar}
use Rattle.hz_timed.proofs.timing.run_slots.Given as goal

abbrev pub invariant-loop-number : goal.invariant-loop-number
invariant-loop-number l =
    IsIndexed l.written
    × All (λ w. w.place < place_count l.fn.waits) l.written.writes.items
    × TimedSoFar (instructions l.fn.waits.block.now) (number_by l.fn.waits) (words l.fn.start) (slots_of l.fn.slots) l.written (map read_of l.reads.items) l.number
