use Rattle.std.proofs.Common.{◌≡◌, All, map, take}
use Rattle.hz_mdread.specs.Shape.{description, set_item}
use Rattle.hz_check.specs.Parts.Assembly.{placed_statement, IsPlaced}
use Rattle.hz_description_model.specs.Check.Places.{statement_of}
use Rattle.hz_check.proofs.parts.placed_sets.placed_sets.Given as goal

abbrev pub invariant-loop-set : goal.invariant-loop-set
invariant-loop-set l = record {
  statements : map placed_statement l.sets.items ≡ map (λ s. statement_of (description l.names.desc.now) (set_item s)) (take l.set-index l.set-items);
  within : All IsPlaced l.sets.items;
}
