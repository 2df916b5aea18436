use Rattle.std.proofs.Common.{◌≡◌, ◌+◌, ◌-◌, Some, [], ◌∷◌, refl, sym, ◌∙◌, subst, arith}
use Rattle.hz_block_model.specs.Scheduling.Machines.{Settles}
use Rattle.hz_pipeline_model.specs.Accepting.Events.{advance}
use Rattle.hz_pipeline_model.specs.Tables.Machines.{Machine, parts_walk}
use Rattle.hz_modulo.proofs.AdvanceLemmas.{advance_more, advance_none, starts_rest}
use Rattle.hz_modulo.proofs.walking.advance_by.Goals as goal

pub loop-cycle-init : goal.loop-cycle-init
loop-cycle-init g c = record { machine = refl; walked = advance_none c.args.walker.now.machine.parts c.args.walker.now.states c.args.walker.now.states c.requires.stands }

pub loop-cycle-preserved : goal.loop-cycle-preserved
loop-cycle-preserved g c = record {
  machine = c.advance.ensures.machine ∙ c.loop-cycle.invariant.machine;
  walked = advance_more c.args.walker.now.machine.parts c.args.walker.now.states c.loop-cycle.walker.states c.advance.new.self.states c.loop-cycle._cycle 1 (c.loop-cycle._cycle + 1) refl c.loop-cycle.invariant.walked
      (subst (λ (m : Machine). parts_walk m.parts c.loop-cycle.walker.states (advance 1 ∷ []) ≡ Some c.advance.new.self.states) c.loop-cycle.invariant.machine c.advance.ensures.taken);
}

pub returns-then-is_at_start-clause-taken : goal.returns-then-is_at_start-clause-taken
returns-then-is_at_start-clause-taken g c =
    advance_more c.args.walker.now.machine.parts c.args.walker.now.states c.loop-cycle.walker.states c.loop-cycle.walker.states c.loop-cycle._cycle (c.args.cycles - c.loop-cycle._cycle) c.args.cycles (omega (arith, c.loop-cycle-test.true)) c.loop-cycle.invariant.walked
    (subst (λ (m : Machine). parts_walk m.parts c.loop-cycle.walker.states (advance (c.args.cycles - c.loop-cycle._cycle) ∷ []) ≡ Some c.loop-cycle.walker.states) c.loop-cycle.invariant.machine
    (starts_rest c.loop-cycle.walker.machine c.is_at_start.ensures.machine (subst Settles (sym c.loop-cycle.invariant.machine) c.requires.settles) c.loop-cycle.walker.states (c.is_at_start.ensures.start.0 c.if-is_at_start.true) (c.args.cycles - c.loop-cycle._cycle)))
