-- The issues of a description's pipeline are named by its classes.
use Rattle.std.proofs.Common.{◌≡◌, ℕ, List, Option, Some, None, slice_get, refl, sym, ap, ◌∙◌}
use Rattle.std.proofs.lemmas.Option.{none-some, same_Some, slice_get-map}
use Rattle.std.specs.Option.{option_map}
use Rattle.hz_pipeline_model.specs.Accepting.Events.{Event, issue}
use Rattle.hz_pipeline_model.specs.Pipelines.Pipelines.{class_of, pipeline_with}
use Rattle.hz_front_model.specs.Replays.{IsIssueOf}
use Rattle.hz_description_model.specs.Check.Places.{class_names, Known}
use Rattle.hz_description_model.specs.Reading.Descriptions.{Description, ClassItem}

-- an issue is of the class of its number
pub issue_named : (d : Description) (known : Known) (e : Option Event) (k : ℕ) (name : List ℕ) → e ≡ Some (issue k) → slice_get (class_names d) k ≡ Some name → IsIssueOf (pipeline_with d known) e name
issue_named d known e k name is there = found (slice_get d.classes k) refl
  where
    found : (o : Option ClassItem) → slice_get d.classes k ≡ o → IsIssueOf (pipeline_with d known) e name
    found None none = absurd (none-some name (sym (slice_get-map (λ (c : ClassItem). c.name) d.classes k ∙ ap (option_map (λ c. c.name)) none) ∙ there))
    found (Some c) some = (k, class_of known c, is, slice_get-map (class_of known) d.classes k ∙ ap (option_map (class_of known)) some, same_Some _ _ (sym (slice_get-map (λ (c : ClassItem). c.name) d.classes k ∙ ap (option_map (λ c. c.name)) some) ∙ there))
