use Rattle.std.proofs.Common.{◌≡◌, ℕ, List, map, drop}
use Rattle.std.specs.List.{position_from}
use Rattle.std.specs.Option.{option_or}
use Rattle.std.specs.Str.{bytes_eq}
use Rattle.hz_check.specs.Names.Held.{held}
use Rattle.hz_check.proofs.names.tables.places_of.Given as goal

abbrev pub invariant-loop-place : goal.invariant-loop-place
invariant-loop-place g l =
    (name : List ℕ) → option_or (held l.table name) (position_from (bytes_eq name) l.place (map (λ i. (g.T.Defines.site i).name) (drop l.place l.items)))
    ≡ position_from (bytes_eq name) 0 (map (λ i. (g.T.Defines.site i).name) l.items)
