-- The tables of what is compiled are those of the description.
use Rattle.std.proofs.Common.{◌≡◌, List, All, map, refl, ap, ◌∙◌}
use Rattle.hz_answer_model.specs.TableAnswers.{WritesTablesOf}
use Rattle.hz_auto.specs.declared.compiled.Compiled.{Compiled}
use Rattle.hz_auto.specs.Machines.{reports_of}
use Rattle.hz_checked.specs.declared.checked.Checked.{Checked}
use Rattle.hz_check.specs.Checked.{IsCheckedOf}
use Rattle.hz_checked.specs.Shape.{automaton_of}
use Rattle.hz_description_model.specs.Check.CheckedParts.{AutomatonParts}
use Rattle.hz_mdread.specs.Shape.{options as options_of}
use Rattle.hz_description_model.specs.Reading.Descriptions.{Description, Options}
use Rattle.hz_tabfile.specs.Saying.{says}
use Rattle.hz_pipeline_model.specs.Single.Reported.{ListsAscending}
use Rattle.hz_tables.specs.Machines.{machine_of}
use Rattle.hz_tabtext_model.specs.Said.{tables_said}
use Rattle.hz_tabtext_model.specs.Texts.{TableText, spelled}
use Rattle.hz_tool.proofs.MachineLemmas.{compiled_of}
use Rattle.hz_tool.specs.Compiled.{IsCompiledBy}

pub tables_reported : (d : Description) (checked : Checked) (is : IsCheckedOf d checked) (all : Compiled) → IsCompiledBy checked all → All ListsAscending (reports_of all.reports.items) → TableText (spelled (says all checked)) (machine_of all.machine) → WritesTablesOf d is.known 0 (spelled (says all checked))
tables_reported d checked is all by listed stands =
    let m = machine_of all.machine in
    let reports = reports_of all.reports.items in
    let compiled = compiled_of d checked is m reports by.compiled in
    let options : options_of all.options ≡ d.options = ap options_of by.options ∙ is.options in (
      refl,
      record {
        machine = m;
        reports = reports;
        compiled = compiled;
        listed = listed;
        stands = stands;
        spells = ap (λ (o : Options). spelled (tables_said o (map automaton_of checked.automata.items) reports m)) options ∙ ap (λ (parts : List AutomatonParts). spelled (tables_said d.options parts reports m)) is.automata;
      },
    )
