-- A class in two parts: its name with its latency, and what comes after them. `class_form` of the description's forms.
use Rattle.std.specs.Prelude.{ℕ, List, Result, Ok}
use Rattle.std.specs.Option.{ok_or}
use Rattle.hz_base_model.specs.Forms.Trees.{Tree}
use Rattle.hz_description_model.specs.Reading.DescriptionForms.{DescriptionFault, Addition, class, bad_condition, and_then, shaped, name_in, limited_number, condition_in, expression_in}
use Rattle.hz_mdread.specs.Reading.{reading}

-- the name and the latency
unfoldable pub class_head : Tree → Tree → Result (List ℕ × ℕ) DescriptionFault
class_head name latency =
    and_then (shaped (name_in name)) (λ name.
    and_then (limited_number latency) (λ latency.
    Ok (name, latency)))

-- the class of a name and a latency
unfoldable pub class_with : ℕ → ℕ → List ℕ × ℕ → Tree → Tree → Result Addition DescriptionFault
class_with line form head condition regexp =
    and_then (ok_or (condition_in condition) bad_condition) (λ condition.
    and_then (expression_in reading regexp) (λ value.
    Ok (class (record { line = line; form = form; name = head.0; latency = head.1; condition = condition; expression = value }))))
