-- The text of the tables of a description is within its limit of bytes, where nothing is reported of states.
use Rattle.std.proofs.Common.{◌≡◌, ℕ, ◌≤◌, false, List, length, sym, subst, arith}
use Rattle.hz_pipeline_model.specs.Compiling.Compiled.{shows_states}
use Rattle.hz_description_model.specs.Reading.Limits.{description_limit}
use Rattle.hz_description_model.specs.Check.Places.{Known}
use Rattle.hz_laws.proofs.Sizes.TablesSizes.{tables_most}
use Rattle.hz_description_model.specs.Reading.Descriptions.{Description}
use Rattle.hz_tabtext_model.proofs.MachineLaws.{text_machine}
use Rattle.hz_answer_model.specs.Headline.{IsDescribed}
use Rattle.hz_answer_model.specs.TableAnswers.{tables_limit, IsTablesOf}
use Rattle.hz_description_model.proofs.Check.QueryLaws.{asks_nothing}

pub tables_short : (bytes : List ℕ) (d : Description) (known : Known) (text : List ℕ) → length bytes ≤ description_limit → IsDescribed bytes d known → IsTablesOf d known text → shows_states d.options ≡ false → length text ≤ tables_limit
tables_short bytes d known text few is t hidden =
    subst (λ (x : List ℕ). length x ≤ tables_limit) (sym t.spells)
    (omega (arith, few, tables_most d known t.machine t.reports t.compiled bytes is.read is.forms is.says (asks_nothing d known is.sound) (text_machine text t.machine t.stands) hidden))
