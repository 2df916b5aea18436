-- The text of the tables of a description is one.
use Rattle.std.proofs.Common.{◌≡◌, ℕ, List, map, sym, ap, ◌∙◌}
use Rattle.hz_pipeline_model.specs.Compiling.Compiled.{Report}
use Rattle.hz_description_model.specs.Check.CheckedParts.{automata_of, class_parts}
use Rattle.hz_description_model.specs.Check.Places.{Known}
use Rattle.hz_description_model.specs.Reading.Descriptions.{Description}
use Rattle.hz_pipeline_model.proofs.Single.MachineLaws.{one_machine, one_reported}
use Rattle.hz_pipeline_model.specs.Tables.Machines.{Machine}
use Rattle.hz_tabtext_model.specs.Said.{tables_said}
use Rattle.hz_tabtext_model.specs.Texts.{spelled}
use Rattle.hz_tabtext_model.proofs.MachineLaws.{text_machine}
use Rattle.hz_answer_model.specs.TableAnswers.{IsTablesOf}

pub one_tables_text : (d : Description) (known : Known) (s t : List ℕ) → IsTablesOf d known s → IsTablesOf d known t → s ≡ t
one_tables_text d known s t one two =
    let first = text_machine s one.machine one.stands in
    let second = text_machine t two.machine two.stands in
    let machine : one.machine ≡ two.machine = one_machine d.options (automata_of d) (map (class_parts d known) d.classes) one.machine two.machine one.reports two.reports first second one.compiled two.compiled in
    let reports : one.reports ≡ two.reports = one_reported d.options (automata_of d) (map (class_parts d known) d.classes) one.machine two.machine one.reports two.reports first second one.compiled two.compiled one.listed two.listed in
    one.spells
    ∙ (ap (λ (m : Machine). spelled (tables_said d.options (automata_of d) one.reports m)) machine
    ∙ (ap (λ (rs : List Report). spelled (tables_said d.options (automata_of d) rs two.machine)) reports ∙ sym two.spells))
