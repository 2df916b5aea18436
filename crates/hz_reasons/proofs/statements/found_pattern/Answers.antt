use Rattle.std.proofs.Common.{◌≡◌, List, subst}
use Rattle.std.specs.List.{list_all}
use Rattle.std.specs.declared.alloc.Global.{Global}
use Rattle.std.specs.declared.vec.Vec.{Vec}
use Rattle.hz_unitsets.specs.SetRules.{kind_of}
use Rattle.hz_reasons.specs.Breaking.{seen_in, is_held_with, looked_in, first_number_from}
use Rattle.hz_reasons.specs.Plans.{unit_of}
use Rattle.hz_reasons.specs.Taken.{is_held}
use Rattle.hz_reasons.specs.declared.plan.AutomatonUnit.{AutomatonUnit}
use Rattle.hz_reasons.proofs.BreakingLaws.{numbered_whole}
use Rattle.hz_reasons.proofs.statements.found_pattern.Goals as goal

pub returns-clause-number : goal.returns-clause-number
returns-clause-number c =
    let grids = c.args.grids.now in
    let parts = c.args.parts.now in
    let cycle = c.args.cycle in
    numbered_whole (seen_in c.pattern_units.result grids parts cycle) (looked_in (kind_of c.args.set.now.kind) (is_held grids cycle) (is_held_with grids parts cycle))
    (c.pattern_units.ensures (is_held grids cycle) (is_held parts cycle) (is_held_with grids parts cycle))
    c.args.set.now.patterns.items c.first_whole.result
    (subst (λ (ps : List (Vec AutomatonUnit Global)). c.first_whole.result ≡ first_number_from (λ pattern. list_all (λ u. seen_in c.pattern_units.result grids parts cycle (unit_of u)) pattern.items) 0 ps) c.deref.ensures.value c.first_whole.ensures.number)
