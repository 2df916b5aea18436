use Rattle.std.proofs.Common.{◌≡◌, ◌⊎◌, ℕ, List, Result, Ok, Err, refl, inl, inr}
use Rattle.hz_pipeline_model.specs.Tables.Machines.{Machine}
use Rattle.hz_tabtext_model.specs.Judging.{Fault}
use Rattle.hz_tabtext_model.specs.Texts.{TableText}
use Rattle.hz_tabtext_model.specs.Reading.{tables_in}
use Rattle.hz_tabtext_model.proofs.TextTakes.{tables_take}
use Rattle.hz_tabtext_model.proofs.TextAgain.{tables_again}
use Rattle.hz_tabtext_model.proofs.tables.machines_or_faults.Goals as goal

one_of : (text : List ℕ) (r : Result Machine Fault) → tables_in text ≡ r → ((machine : Machine) × TableText text machine) ⊎ ((fault : Fault) × (tables_in text ≡ Err fault))
one_of text (Ok machine) is = inl (machine, tables_take text machine is)
one_of text (Err fault) is = inr (fault, is)

pub returns-clause-one : goal.returns-clause-one
returns-clause-one c = λ text. one_of text (tables_in text) refl

pub returns-clause-not_both : goal.returns-clause-not_both
returns-clause-not_both c = λ text machine fault t e. let h = tables_again text machine t in cc
