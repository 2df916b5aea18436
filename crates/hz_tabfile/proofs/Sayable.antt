-- What compiling answers can be written.
use Rattle.std.proofs.Common.{◌≡◌, map, sym, subst}
use Rattle.hz_mdread.specs.declared.options.Options.{Options}
use Rattle.hz_mdread.specs.Shape.{options as options_of}
use Rattle.hz_checked.specs.declared.checked.Checked.{Checked}
use Rattle.hz_checked.specs.Shape.{automaton_of, class_of, bypass_of, attribute_of}
use Rattle.hz_tables.specs.Machines.{machine_of}
use Rattle.hz_auto.specs.declared.compiled.Compiled.{Compiled}
use Rattle.hz_auto.specs.Machines.{reports_of}
use Rattle.hz_pipeline_model.specs.Compiling.Compiled.{IsCompiled}
use Rattle.hz_tabtext_model.specs.Said.{CanBeSaid}
use Rattle.hz_tabtext_model.proofs.CompiledSaid.{can_be_said}
use Rattle.hz_tabfile.specs.Saying.{IsSayable}

pub compiled_is_sayable : (all : Compiled) (checked : Checked) → IsCompiled (options_of checked.options) (map automaton_of checked.automata.items) (map class_of checked.classes.items) (machine_of all.machine) (reports_of all.reports.items) → all.options ≡ checked.options → IsSayable all checked
compiled_is_sayable all checked is same =
    subst (λ (options : Options). CanBeSaid (options_of options) (map automaton_of checked.automata.items) (reports_of all.reports.items) (machine_of all.machine)) (sym same)
    (can_be_said (options_of checked.options) (map automaton_of checked.automata.items) (map class_of checked.classes.items) (map bypass_of checked.bypasses.items) (map attribute_of checked.attributes.items) checked.kept (machine_of all.machine) (reports_of all.reports.items) all.machine.kept is)
