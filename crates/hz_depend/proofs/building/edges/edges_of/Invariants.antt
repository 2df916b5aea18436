use Rattle.std.proofs.Common.{◌≡◌, ℕ, length, map}
use Rattle.std.specs.Prelude.{slice_index}
use Rattle.hz_depend.specs.Numbers.{numbers_in}
use Rattle.hz_depend.specs.GraphShape.{edge_of}
use Rattle.hz_depend.specs.Held.{held, last_of, all_found}
use Rattle.hz_depend.proofs.NotedPlaces.{AreNoted}
use Rattle.hz_depend.specs.Tables.{tables_of}
use Rattle.hz_depend.proofs.building.edges.edges_of.Given as goal

-- the edges to the instructions so far, their last writers, and the tables in which they are noted
abbrev pub invariant-loop-place : goal.invariant-loop-place
invariant-loop-place l = record {
  edges : map edge_of l.edges.items ≡ all_found (numbers_in l.numbers) (map held l.nodes) l.place;
  size : length l.last ≡ 256;
  last : (r : ℕ) → slice_index l.last r ≡ last_of (map held l.nodes) l.place r;
  noted : AreNoted (map held l.nodes) l.place (tables_of l.tables);
  stamps : length l.stamps ≡ length l.nodes;
}
