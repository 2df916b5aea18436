use Rattle.std.proofs.Common.{◌≡◌, drop, map}
use Rattle.hz_description_model.specs.Reading.Descriptions.{no_options}
use Rattle.hz_description_model.specs.Reading.DescriptionForms as model
use Rattle.hz_base_model.specs.Lines.{trimmed}
use Rattle.hz_mdread.specs.Shape.{options}
use Rattle.hz_mdread.proofs.options.options_of.Given as goal

-- what is left makes of the options so far what all make
abbrev pub invariant-loop-piece : goal.invariant-loop-piece
invariant-loop-piece l = model.with_options (options l.options) (map (λ piece. trimmed piece.now) (drop l.piece-index l.piece-items)) ≡ model.with_options no_options (map (λ piece. trimmed piece.now) l.piece-items)
