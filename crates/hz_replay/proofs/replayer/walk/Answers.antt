use Rattle.std.proofs.Common.{◌<◌, ◌∙◌, sym, subst, get_or}
use Rattle.std.proofs.lemmas.List.{length-set}
use borrow.Author.Count.{falls}
use Rattle.hz_tables.specs.Machines.{machine_of}
use Rattle.hz_replay.proofs.WalkLemmas as walks
use Rattle.hz_replay.proofs.replayer.walk.Goals as goal

pub loop-part-init : goal.loop-part-init
loop-part-init g c = record {
  walked = walks.so_far_none (machine_of c.args.machine.now).parts c.args.states.now c.args.class c.args.before.now;
  room = c.told-before;
  cost = walks.cost_none c.args.steps.now;
}

pub offset_bounds-states-part : goal.offset_bounds-states-part
offset_bounds-states-part g c = walks.as_offset c.args.machine.now c.loop-part.part c.len-part-end.result c.len-part-end.ensures c.loop-part-test.true

pub bounds-states-part : goal.bounds-states-part
bounds-states-part g c = walks.in_states c.args.machine.now c.loop-part.part c.len-part-end.result c.len-part-end.ensures c.loop-part-test.true c.args.states.now c.loop-part.states c.requires.states.each c.loop-part.invariant.walked.count

pub overflow_cast-part : goal.overflow_cast-part
overflow_cast-part g c = walks.as_part c.args.machine.now c.loop-part.part c.len-part-end.result c.len-part-end.ensures c.loop-part-test.true

pub step-requires-clause-part : goal.step-requires-clause-part
step-requires-clause-part g c = walks.in_parts c.args.machine.now c.loop-part.part c.len-part-end.result c.len-part-end.ensures c.loop-part-test.true

pub step-requires-clause-state : goal.step-requires-clause-state
step-requires-clause-state g c = walks.state_within (machine_of c.args.machine.now).parts c.args.states.now c.args.class c.loop-part.part c.loop-part.states c.loop-part.before c.loop-part.invariant.walked
    (walks.among_parts c.args.machine.now c.loop-part.part c.len-part-end.result c.len-part-end.ensures c.loop-part-test.true) c.requires.states.each (c.requires.states.within c.loop-part.part (walks.among_parts c.args.machine.now c.loop-part.part c.len-part-end.result c.len-part-end.ensures c.loop-part-test.true))

pub step-requires-clause-class : goal.step-requires-clause-class
step-requires-clause-class g c = c.requires.class

pub offset_bounds-before-part : goal.offset_bounds-before-part
offset_bounds-before-part g c = walks.as_offset c.args.machine.now c.loop-part.part c.len-part-end.result c.len-part-end.ensures c.loop-part-test.true

pub bounds-before-part : goal.bounds-before-part
bounds-before-part g c = walks.in_room c.args.machine.now c.loop-part.part c.len-part-end.result c.len-part-end.ensures c.loop-part-test.true

pub offset_bounds-states-part-in-Some : goal.offset_bounds-states-part-in-Some
offset_bounds-states-part-in-Some g c = walks.as_offset c.args.machine.now c.loop-part.part c.len-part-end.result c.len-part-end.ensures c.loop-part-test.true

pub bounds-states-part-in-Some : goal.bounds-states-part-in-Some
bounds-states-part-in-Some g c = walks.in_states c.args.machine.now c.loop-part.part c.len-part-end.result c.len-part-end.ensures c.loop-part-test.true c.args.states.now c.loop-part.states c.requires.states.each c.loop-part.invariant.walked.count

pub loop-part-smaller : goal.loop-part-smaller
loop-part-smaller g c = falls c.len-part-end.result c.loop-part.part c.loop-part-test.true

pub loop-part-preserved : goal.loop-part-preserved
loop-part-preserved g c = record {
  walked =
      walks.so_far_more (machine_of c.args.machine.now).parts c.args.states.now c.args.class c.loop-part.part c.loop-part.states c.loop-part.before c.loop-part.invariant.walked
      (walks.among_parts c.args.machine.now c.loop-part.part c.len-part-end.result c.len-part-end.ensures c.loop-part-test.true) c.requires.states.each c.step.result c.in-Some.next (subst (λ n. c.loop-part.part < n) (sym c.loop-part.invariant.room) (walks.in_room c.args.machine.now c.loop-part.part c.len-part-end.result c.len-part-end.ensures c.loop-part-test.true)) c.step.ensures.next c.in-Some.is;
  room = length-set c.loop-part.before c.loop-part.part (get_or c.loop-part.states c.loop-part.part 0) ∙ c.loop-part.invariant.room;
  cost = walks.cost_more c.loop-part.part c.args.steps.now c.loop-part.steps c.step.new.steps c.loop-part.invariant.cost c.step.ensures.cost;
}

pub put_back-requires-clause-within : goal.put_back-requires-clause-within
put_back-requires-clause-within g c = walks.up_to_states c.args.machine.now c.loop-part.part c.len-part-end.result c.len-part-end.ensures c.loop-part-test.true c.args.states.now c.loop-part.states c.requires.states.each c.loop-part.invariant.walked.count

pub put_back-requires-clause-few : goal.put_back-requires-clause-few
put_back-requires-clause-few g c = walks.up_to_room c.args.machine.now c.loop-part.part c.len-part-end.result c.len-part-end.ensures c.loop-part-test.true

pub returns-in-None-clause-next : goal.returns-in-None-clause-next
returns-in-None-clause-next g c = tt

pub returns-in-None-clause-none : goal.returns-in-None-clause-none
returns-in-None-clause-none g c = walks.so_far_stuck (machine_of c.args.machine.now).parts c.args.states.now c.args.class c.loop-part.part c.loop-part.states c.loop-part.before c.loop-part.invariant.walked
    (walks.among_parts c.args.machine.now c.loop-part.part c.len-part-end.result c.len-part-end.ensures c.loop-part-test.true) c.requires.states.each c.step.result c.step.ensures.next c.in-None.is

pub returns-in-None-clause-stays : goal.returns-in-None-clause-stays
returns-in-None-clause-stays g c = walks.so_far_back (machine_of c.args.machine.now).parts c.args.states.now c.args.class c.loop-part.part c.loop-part.states c.loop-part.before c.loop-part.invariant.walked c.put_back.new.states c.put_back.ensures

pub returns-in-None-clause-cost : goal.returns-in-None-clause-cost
returns-in-None-clause-cost g c = walks.cost_less c.args.machine.now c.loop-part.part c.len-part-end.result c.len-part-end.ensures c.loop-part-test.true c.args.steps.now c.loop-part.steps c.step.new.steps c.loop-part.invariant.cost c.step.ensures.cost

pub returns-clause-next : goal.returns-clause-next
returns-clause-next g c = walks.so_far_all (machine_of c.args.machine.now).parts c.args.states.now c.args.class c.loop-part.part c.loop-part.states c.loop-part.before c.loop-part.invariant.walked
    (walks.past_parts c.args.machine.now c.loop-part.part c.len-part-end.result c.len-part-end.ensures c.loop-part-test.false) c.requires.states.each

pub returns-clause-none : goal.returns-clause-none
returns-clause-none g c = tt

pub returns-clause-stays : goal.returns-clause-stays
returns-clause-stays g c = tt

pub returns-clause-cost : goal.returns-clause-cost
returns-clause-cost g c = walks.cost_all c.args.machine.now c.loop-part.part c.len-part-end.result c.args.steps.now c.loop-part.steps c.len-part-end.ensures c.loop-part.auto.part-end c.loop-part.invariant.cost
