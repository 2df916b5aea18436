use Rattle.std.proofs.Common.{◌≡◌, ◌++◌, map, filter, drop}
use Rattle.hz_check.specs.Parts.Assembly.{placed_statement}
use Rattle.hz_description_model.specs.Reservations.Inside.{inside_statement, is_inside}
use Rattle.hz_unitsets.specs.SetRules.{statements_of}
use Rattle.hz_check.proofs.parts.rules.rules.Given as goal

abbrev pub invariant-loop-set : goal.invariant-loop-set
invariant-loop-set l = statements_of l.rules.items ++ map inside_statement (filter (is_inside l.automaton) (map placed_statement (drop l.set-index l.sets))) ≡ map inside_statement (filter (is_inside l.automaton) (map placed_statement l.sets))
