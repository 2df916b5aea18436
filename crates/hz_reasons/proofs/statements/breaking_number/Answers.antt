use Rattle.std.proofs.Common.{◌≡◌, Bool, false, None, cond, sym, ap, ◌∙◌}
use Rattle.std.specs.List.{list_all}
use Rattle.hz_reasons.specs.Breaking.{is_held_with, looked_in, wants, first_number_from}
use Rattle.hz_reasons.specs.Plans.{statement_of}
use Rattle.hz_reasons.specs.Taken.{is_held}
use Rattle.hz_reasons.proofs.BreakingLaws.{pattern_number, the_pattern, found_of}
use Rattle.hz_reasons.proofs.statements.breaking_number.Goals as goal

pub returns-clause-number : goal.returns-clause-number
returns-clause-number c =
    let s = statement_of c.args.set.now in
    let source = is_held c.args.grids.now c.args.cycle in
    let result = is_held_with c.args.grids.now c.args.parts.now c.args.cycle in
    let wants_none : wants s.kind ≡ false = sym c.wants_pattern.ensures ∙ c.if-wants_pattern.false in
    c.found_pattern.ensures.number ∙ sym (ap (λ (b : Bool). cond b None (first_number_from (list_all (looked_in s.kind source result)) 0 s.patterns)) wants_none)

pub returns-clause-pattern : goal.returns-clause-pattern
returns-clause-pattern c =
    let s = statement_of c.args.set.now in
    let source = is_held c.args.grids.now c.args.cycle in
    let added = is_held c.args.parts.now c.args.cycle in
    let result = is_held_with c.args.grids.now c.args.parts.now c.args.cycle in
    pattern_number (looked_in s.kind source result) s.patterns c.found_pattern.result (found_of (looked_in s.kind source result) s.patterns c.found_pattern.result c.found_pattern.ensures.number)
    ∙ the_pattern s.units s.patterns source added result s.kind (sym c.wants_pattern.ensures ∙ c.if-wants_pattern.false)
