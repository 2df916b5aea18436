use Rattle.std.proofs.Common.{◌≡◌, map}
use Rattle.hz_description_model.specs.Reading.DescriptionForms as model
use Rattle.hz_mdread.proofs.patterns.single_patterns.Given as goal

abbrev pub invariant-loop-name : goal.invariant-loop-name
invariant-loop-name l = map (λ pattern. pattern.items) l.patterns.items ≡ model.single_patterns l.yielded
