-- The columns that events take, to prove with.
use Rattle.std.specs.Prelude.{ℕ, List, [], ◌∷◌, ◌++◌, replicate}
use Rattle.hz_pipeline_model.specs.Accepting.Events.{Event, issue, advance, ask}

-- the columns that events take: an issue that of its class, an advance of n cycles the advance n times, an ask none
abbrev pub spelled : ℕ → List Event → List ℕ
spelled columns [] = []
spelled columns (issue class ∷ t) = class ∷ spelled columns t
spelled columns (advance n ∷ t) = replicate n columns ++ spelled columns t
spelled columns (ask a u ∷ t) = spelled columns t
