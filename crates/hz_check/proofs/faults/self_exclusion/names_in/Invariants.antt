use Rattle.std.proofs.Common.{◌≡◌, ℕ, List, drop, ◌||◌}
use Rattle.std.specs.List.{list_any, flat_map}
use Rattle.std.specs.Str.{bytes_eq}
use Rattle.hz_check.specs.Names.Held.{is_held}
use Rattle.hz_check.proofs.faults.self_exclusion.names_in.Given as goal

abbrev pub invariant-loop-pattern : goal.invariant-loop-pattern
invariant-loop-pattern l =
    (name : List ℕ) → (is_held l.table name || list_any (bytes_eq name) (flat_map (λ pattern. pattern.items) (drop l.pattern-index l.patterns)))
    ≡ list_any (bytes_eq name) (flat_map (λ pattern. pattern.items) l.patterns)
