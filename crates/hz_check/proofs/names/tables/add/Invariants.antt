use Rattle.std.proofs.Common.{◌≡◌, ℕ, List, drop, ◌||◌}
use Rattle.std.specs.List.{list_any}
use Rattle.std.specs.Str.{bytes_eq}
use Rattle.hz_check.specs.Names.Held.{is_held}
use Rattle.hz_check.proofs.names.tables.add.Given as goal

abbrev pub invariant-loop-name : goal.invariant-loop-name
invariant-loop-name l =
    (name : List ℕ) → (is_held l.table name || list_any (bytes_eq name) (drop l.name-index l.names)) ≡ (is_held l.initial.table name || list_any (bytes_eq name) l.names)
