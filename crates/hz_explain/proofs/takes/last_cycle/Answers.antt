use Rattle.std.proofs.Common.{◌+◌, ℕ, sym, ap, ◌∙◌, arith}
use Rattle.std.specs.Prelude.{nat_lt}
use Rattle.std.proofs.lemmas.Bool.{and_parts, ltb-true}
use Rattle.hz_description_model.specs.Reservations.Automata.{UnitPlace}
use Rattle.hz_reasons.specs.Plans.{unit_of}
use Rattle.hz_reasons.specs.Taken.{is_held}
use Rattle.hz_explain.specs.Taking.{runs_to}
use Rattle.hz_reasons.specs.declared.plan.AutomatonUnit.{AutomatonUnit}
use Rattle.hz_explain.proofs.TakingLaws.{runs_more, runs_end}
use Rattle.hz_explain.proofs.takes.last_cycle.Goals as goal

pub loop-unit-preserved : goal.loop-unit-preserved
loop-unit-preserved c =
    let parts = c.args.parts.now in
    let next : ℕ = c.loop-unit.last + 1 in
    let u : UnitPlace = unit_of c.unit_at-unit.result in
    let taken = sym c.is_taken_after.ensures ∙ c.loop-unit-test.true in
    let both = and_parts (nat_lt next c.args.cycles) (is_held parts next u) taken in
    let under = ltb-true next c.args.cycles both.0 in
    record {
      low = omega arith;
      come = runs_more parts c.args.cycles u c.loop-unit.last next (omega arith) taken ∙ c.loop-unit.invariant.come;
    }

pub returns : goal.returns
returns c =
    let parts = c.args.parts.now in
    let u : UnitPlace = unit_of c.unit_at-unit.result in
    runs_end parts c.args.cycles u c.loop-unit.last (c.loop-unit.last + 1) (omega arith) (sym c.is_taken_after.ensures ∙ c.loop-unit-test.false)
    ∙ (c.loop-unit.invariant.come ∙ ap (λ (unit : AutomatonUnit). runs_to parts c.args.cycles (unit_of unit) c.args.pair.cycle) c.unit_at-unit.ensures)
