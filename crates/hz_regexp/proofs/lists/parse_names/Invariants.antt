use Rattle.std.proofs.Common.{◌≡◌, true, map, take}
use Rattle.std.specs.List.{list_all}
use Rattle.hz_base_model.specs.Lines.{trimmed}
use Rattle.hz_base_model.specs.Names.{is_name}
use Rattle.hz_regexp.proofs.lists.parse_names.Given as goal

-- the pieces so far are names, and those that are held
abbrev pub invariant-loop-piece : goal.invariant-loop-piece
invariant-loop-piece l = record {
  names : l.names.items ≡ map (λ piece. trimmed piece.now) (take l.piece-index l.piece-items);
  good : list_all is_name l.names.items ≡ true;
}
