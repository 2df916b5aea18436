-- What is compiled of a checked description.
use Rattle.std.specs.Prelude.{◌≡◌, map}
use Rattle.hz_auto.specs.declared.compiled.Compiled.{Compiled}
use Rattle.hz_auto.specs.Machines.{reports_of}
use Rattle.hz_pipeline_model.specs.Compiling.Compiled.{IsCompiled}
use Rattle.hz_checked.specs.declared.checked.Checked.{Checked}
use Rattle.hz_checked.specs.Shape.{automaton_of, class_of}
use Rattle.hz_mdread.specs.Shape.{options as options_of}
use Rattle.hz_tables.specs.Machines.{machine_of}

-- The machine and the reports are what is compiled of what was checked, with its options.
pub record IsCompiledBy (checked : Checked) (all : Compiled) : Type 0 where
  pub compiled : IsCompiled (options_of checked.options) (map automaton_of checked.automata.items) (map class_of checked.classes.items) (machine_of all.machine) (reports_of all.reports.items)
  pub options : all.options ≡ checked.options
