-- What is held of a description without a fault.
use Rattle.std.specs.Prelude.{◌≡◌, map}
use Rattle.hz_checked.specs.declared.checked.Checked.{Checked}
use Rattle.hz_checked.specs.Shape.{automaton_of, class_of, bypass_of, attribute_of}
use Rattle.hz_mdread.specs.Shape.{options as options_of}
use Rattle.hz_description_model.specs.Check.CheckedParts.{automata_of, class_parts, bypass_parts, attributes_of, defaults_of}
use Rattle.hz_description_model.specs.Check.CheckFaults.{IsSound}
use Rattle.hz_description_model.specs.Check.Places.{Known}
use Rattle.hz_description_model.specs.Reading.Descriptions.{Description}

-- What is held is what a description without a fault gives.
pub record IsCheckedOf (d : Description) (checked : Checked) : Type 0 where
  pub known : Known
  pub sound : IsSound d known
  pub automata : map automaton_of checked.automata.items ≡ automata_of d
  pub classes : map class_of checked.classes.items ≡ map (class_parts d known) d.classes
  pub bypasses : map bypass_of checked.bypasses.items ≡ map (bypass_parts d) d.bypasses
  pub attributes : map attribute_of checked.attributes.items ≡ attributes_of d
  pub defaults : checked.defaults.items ≡ defaults_of d
  pub options : options_of checked.options ≡ d.options
