use Rattle.std.proofs.Common.{sym, ap, ◌∙◌}
use Rattle.std.specs.Option.{option_and_then}
use Rattle.hz_reasons.specs.Breaking.{is_held_with, broken_by}
use Rattle.hz_reasons.specs.Plans.{statement_of}
use Rattle.hz_reasons.specs.Taken.{is_held}
use Rattle.hz_reasons.proofs.statements.first_break.Goals as goal

pub returns-in-Some-clause-broken : goal.returns-in-Some-clause-broken
returns-in-Some-clause-broken c = λ now.
    c.break_in.ensures.broken now
    ∙ ap (option_and_then (λ p. broken_by (is_held c.args.grids.now) (is_held c.args.parts.now) (is_held_with c.args.grids.now c.args.parts.now) now c.args.statement (statement_of c.args.set.now) p.cycle))
    (sym c.in-Some.is ∙ c.first_broken_pair.ensures)
