use Rattle.std.proofs.Common.{◌≡◌, None, sym, subst}
use Rattle.std.specs.Prelude.{IfOk, IfErr}
use Rattle.hz_mdread.specs.declared.description.Description.{Description}
use Rattle.hz_mdread.specs.Shape.{description}
use Rattle.hz_check.specs.Faults.{Tells, IsReportedAt}
use Rattle.hz_check.specs.Parts.{IsPartsOf}
use Rattle.hz_description_model.specs.Check.CheckFaults.{faults_of_names}
use Rattle.hz_description_model.specs.Check.FirstReported.{first_reported}
use Rattle.hz_description_model.specs.Reading.DescriptionShape.{IsCheckable}
use Rattle.hz_check.proofs.parts.parts_of.Goals as goal

pub named_parts-requires-clause-free : goal.named_parts-requires-clause-free
named_parts-requires-clause-free c = subst (λ (desc : Description). first_reported (faults_of_names (description desc)) ≡ None) (sym c.in-Ok.ensures.names) c.in-Ok.ensures.free

pub named_parts-requires-clause-formed : goal.named_parts-requires-clause-formed
named_parts-requires-clause-formed c = subst (λ (desc : Description). IsCheckable (description desc)) (sym c.in-Ok.ensures.names) c.requires.formed

pub returns-in-Ok-clause-ok : goal.returns-in-Ok-clause-ok
returns-in-Ok-clause-ok c = subst (λ (desc : Description). IfOk c.named_parts.result (IsPartsOf (description desc))) c.in-Ok.ensures.names c.named_parts.ensures.ok

pub returns-in-Ok-clause-err : goal.returns-in-Ok-clause-err
returns-in-Ok-clause-err c = subst (λ (desc : Description). IfErr c.named_parts.result (Tells (IsReportedAt (description desc)))) c.in-Ok.ensures.names c.named_parts.ensures.err
