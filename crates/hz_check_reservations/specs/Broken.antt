-- Which classes break the two rules on units of several automata.
use Rattle.std.specs.Prelude.{◌≡◌}
use Rattle.hz_description_model.specs.Check.Places.{Known, IsKnown}
use Rattle.hz_description_model.specs.Check.Sites.{earliest}
use Rattle.hz_description_model.specs.Check.SplitClasses.{mixed_classes, uneven_classes}
use Rattle.hz_description_model.specs.Reading.Descriptions.{Description}
use Rattle.hz_check_reservations.specs.declared.rules.breaking.BrokenRules.{BrokenRules}
use Rattle.hz_check_reservations.specs.Places.{reported}

-- each rule is broken first at the site that is reported, and nowhere where none is
pub record AreBroken (d : Description) (broken : BrokenRules) : Type 0 where
  pub mixed : (known : Known) → IsKnown d known → reported broken.mixed ≡ earliest (mixed_classes d known)
  pub uneven : (known : Known) → IsKnown d known → reported broken.uneven ≡ earliest (uneven_classes d known)
