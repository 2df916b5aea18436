use Rattle.std.proofs.Common.{Bool, ap, ◌∙◌}
use Rattle.std.specs.Option.{is_some}
use Rattle.hz_reasons.specs.Breaking.{is_held_with, looked_in, breaks}
use Rattle.hz_reasons.specs.Plans.{statement_of}
use Rattle.hz_reasons.specs.Taken.{is_held}
use Rattle.hz_reasons.proofs.BreakingLaws.{broken_test, found_of}
use Rattle.hz_reasons.proofs.statements.is_broken.Goals as goal

pub returns : goal.returns
returns c =
    let s = statement_of c.args.set.now in
    let wanted = c.wants_pattern-wanted.result in
    let unit = c.breaking_unit-unit.result in
    let number = c.found_pattern-pattern.result in
    c.is_break.ensures
    ∙ ap (λ (b : Bool). breaks wanted b c.is_some-2.result) c.is_some.ensures
    ∙ ap (λ (b : Bool). breaks wanted (is_some unit) b) c.is_some-2.ensures
    ∙ broken_test s.units s.patterns (is_held c.args.grids.now c.args.cycle) (is_held c.args.parts.now c.args.cycle) (is_held_with c.args.grids.now c.args.parts.now c.args.cycle) s.kind wanted unit number
    c.wants_pattern-wanted.ensures c.breaking_unit-unit.ensures c.found_pattern-pattern.ensures.within
    (found_of (looked_in s.kind (is_held c.args.grids.now c.args.cycle) (is_held_with c.args.grids.now c.args.parts.now c.args.cycle)) s.patterns number c.found_pattern-pattern.ensures.number)
