use Rattle.std.proofs.Common.{◌++◌, map, slice_index, codes}
use Rattle.std.specs.List.{flat_map}
use Rattle.hz_io.proofs.Writing.{cut_before, writes_then}
use Rattle.hz_measure_model.specs.Bounds.Texts.{number_field}
use Rattle.hz_bound.proofs.writing.put_path.Goals as goal

pub returns-in-Ok : goal.returns-in-Ok
returns-in-Ok g c = writes_then c.put_chain.new.out (flat_map number_field (map (slice_index (map (λ i. i.number) c.args.graph.now.insns.items)) c.args.places.now) ++ codes "\n") c.put_chain.result c.in-Ok.ensures c.put_chain.ensures

pub returns-in-Err : goal.returns-in-Err
returns-in-Err g c = cut_before (flat_map number_field (map (slice_index (map (λ i. i.number) c.args.graph.now.insns.items)) c.args.places.now) ++ codes "\n") c.in-Err.ensures
