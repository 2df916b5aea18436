use Rattle.std.proofs.Common.{⊎_elim, sym, subst, List, ℕ, Contains}
use Rattle.std.proofs.lemmas.List.Elements.{All-contains}
use Rattle.hz_base_model.proofs.Elements.{Contains-from_map}
use Rattle.hz_grid.specs.Rows.{IsWithin}
use Rattle.hz_unitsets.proofs.Cycles.{exclusion_alone}
use Rattle.hz_unitsets.proofs.RowUnits.{unit_from_units_in}
use Rattle.hz_unitsets.proofs.row_rules.Rule.triggers.Goals as goal
use Rattle.hz_grid.specs.Stored.{units_of}

pub returns-in-Exclusion : goal.returns-in-Exclusion
returns-in-Exclusion c = λ unit is. ⊎_elim
    (λ own. c.joined.ensures.units unit (unit_from_units_in c.args.self.now.units unit own))
    (λ pattern.
    let found = Contains-from_map units_of c.args.self.now.patterns.items pattern.1 pattern.2 in
    let has = subst (λ (units : List ℕ). Contains units unit) (sym found.2) pattern.3 in
    All-contains (λ other. IsWithin other c.joined.result) c.args.self.now.patterns.items found.0 (rw c.deref.ensures.value at c.joined.ensures.others) found.1 unit (unit_from_units_in found.0 unit has))
    is

pub returns-in_default : goal.returns-in_default
returns-in_default c = λ unit is. ⊎_elim
    (λ own. unit_from_units_in c.args.self.now.units unit own)
    (λ pattern. absurd (c.in_default.not-Exclusion (exclusion_alone _ pattern.0)))
    is
