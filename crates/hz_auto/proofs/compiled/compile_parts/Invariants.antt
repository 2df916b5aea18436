use Rattle.std.proofs.Common.{All, length}
use Rattle.hz_pipeline_model.specs.Tables.Machines.{IsPart}
use Rattle.hz_tables.specs.Parts.{part_of}
use Rattle.hz_auto.specs.Parts.{IsKept}
use Rattle.hz_auto.specs.Machines.{AreCompiled}
use Rattle.hz_auto.proofs.compiled.compile_parts.Given as goal

abbrev pub invariant-loop-automaton : goal.invariant-loop-automaton
invariant-loop-automaton l = record {
  compiled : AreCompiled l.checked l.automaton l.all.parts.items l.all.reports.items;
  kept : All (λ part. IsPart (length l.checked.classes.items) (part_of part)) l.all.parts.items;
  forms : All (λ part. IsKept l.checked.options.no_comb_vect part.table) l.all.parts.items;
}
