use Rattle.std.proofs.Common.{List, ◌++◌, length, map, refl, ap, ◌∙◌, arith, rules}
use Rattle.std.proofs.lemmas.Option.{slice_get_read}
use Rattle.hz_depend.specs.Numbers.{numbers_in}
use Rattle.hz_block_model.specs.Dependences.Graphs.{Edge}
use Rattle.hz_depend.specs.GraphShape.{edge_of}
use Rattle.hz_depend.specs.Held.{held}
use Rattle.hz_depend.specs.Tables.{tables_of}
use Rattle.hz_depend.proofs.EdgeLemmas.{zeros, more_edges, more_written}
use Rattle.hz_depend.proofs.TableLemmas.{blank_noted, more_noted_node, among_all}
use Rattle.hz_depend.proofs.building.edges.edges_of.Goals as goal

pub loop-place-init : goal.loop-place-init
loop-place-init c = record {
  edges = search rules;
  size = refl;
  last = λ r. zeros 256 r;
  noted = blank_noted (map held c.args.nodes.now) (tables_of c.in_ok-tables.tables) c.in_ok-tables.ensures;
  stamps = let l = c.in_ok-held.ensures.len in let s = c.as_mut_slice-stamps.ensures.len in omega arith;
}

pub loop-place-preserved : goal.loop-place-preserved
loop-place-preserved c =
    let at = slice_get_read c.args.nodes.now (length c.args.nodes.now) c.loop-place.place c.index-nodes-place.result refl (omega arith) c.index-nodes-place.is in
    let all = among_all c.args.nodes.now c.loop-place.place (held c.index-nodes-place.result) (numbers_in c.args.numbers.now) c.loop-place.last (tables_of c.loop-place.tables) c.loop-place.stamps c.mark.new.stamps
    c.loop-place.invariant.last c.loop-place.invariant.noted c.loop-place.invariant.stamps (omega arith) c.mark.ensures in
    record {
      edges = more_edges c.args.nodes.now c.loop-place.place c.index-nodes-place.result at (numbers_in c.args.numbers.now) c.loop-place.last (map edge_of c.loop-place.edges.items) (map edge_of c.add_edges.new.edges.items)
          c.loop-place.invariant.last c.loop-place.invariant.edges (c.in_ok-add_edges.ensures ∙ ap (λ (es : List Edge). map edge_of c.loop-place.edges.items ++ es) all);
      size = omega arith;
      last = more_written c.args.nodes.now c.loop-place.place c.index-nodes-place.result at c.loop-place.last c.note_written.new.last c.loop-place.invariant.last c.note_written.ensures;
      noted = more_noted_node c.args.nodes.now c.loop-place.place c.index-nodes-place.result (tables_of c.loop-place.tables) (tables_of c.note.new.self) at c.loop-place.invariant.noted c.in_ok-note.ensures;
      stamps = let long = c.mark.auto.stamps in let was = c.loop-place.invariant.stamps in omega arith;
    }
