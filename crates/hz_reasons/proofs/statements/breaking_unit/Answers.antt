use Rattle.std.proofs.Common.{ap, ◌∙◌}
use Rattle.std.specs.List.{find}
use Rattle.hz_unitsets.specs.SetRules.{kind_of}
use Rattle.hz_why_model.specs.Reasons.{breaking}
use Rattle.hz_reasons.specs.Breaking.{seen_in, is_held_with}
use Rattle.hz_reasons.specs.Plans.{unit_of}
use Rattle.hz_reasons.specs.Taken.{is_held}
use Rattle.hz_reasons.proofs.BreakingLaws.{found_unit}
use Rattle.hz_reasons.proofs.statements.breaking_unit.Goals as goal

pub returns : goal.returns
returns c =
    let grids = c.args.grids.now in
    let parts = c.args.parts.now in
    let cycle = c.args.cycle in
    found_unit (seen_in c.breaking_units.result grids parts cycle) (breaking (kind_of c.args.set.now.kind) (is_held parts cycle) (is_held_with grids parts cycle))
    (c.breaking_units.ensures (is_held grids cycle) (is_held parts cycle) (is_held_with grids parts cycle))
    c.args.set.now.units.items c.first_seen.result (c.first_seen.ensures ∙ ap (find (λ u. seen_in c.breaking_units.result grids parts cycle (unit_of u))) c.deref.ensures.value)
