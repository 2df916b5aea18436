use Rattle.std.proofs.Common.{take, map}
use Rattle.hz_pipeline_model.specs.Compiling.AutomatonPipelines.{lists_at}
use Rattle.hz_pipeline_model.specs.Compiling.ClassColumns.{IsColumns}
use Rattle.hz_checked.specs.Shape.{class_of}
use Rattle.hz_auto.proofs.columns.columns_of.Given as goal

abbrev pub invariant-loop-class : goal.invariant-loop-class
invariant-loop-class l = IsColumns (lists_at (map class_of (take l.class-index l.classes)) l.automaton) l.lists.keys l.map.items
