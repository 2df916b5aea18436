-- What is known between the steps of the check.
use Rattle.std.specs.Prelude.{◌≡◌, ℕ, List, None, drop}
use Rattle.hz_description_model.specs.Check.CheckFaults.{faults_of_names, self_exclusions, sets_across_automata, second_numbers, queries_under_ndfa, automaton_sites, class_sites, past_units}
use Rattle.hz_description_model.specs.Check.FirstReported.{first_reported}
use Rattle.hz_description_model.specs.Reading.DescriptionShape.{IsCheckable}
use Rattle.hz_description_model.specs.Reading.Descriptions.{Description}
use Rattle.hz_base_model.specs.Limits.{automaton_limit, class_limit}
use Rattle.hz_description_model.specs.Check.Places.{Known, IsKnown, unit_places}
use Rattle.hz_description_model.specs.Check.SplitClasses.{mixed_classes, uneven_classes}
use Rattle.hz_description_model.specs.Check.Sites.{earliest}
use Rattle.hz_check_reservations.specs.Answers.{AreExpanded}
use Rattle.hz_check_reservations.specs.Orders.{IsOrder, reservings}
use Rattle.hz_check_reservations.specs.Past.{AreWithinExtents}
use Rattle.hz_altern.specs.declared.alternative.Alt.{Alt}
use Rattle.std.specs.declared.alloc.Global.{Global}
use Rattle.std.specs.declared.vec.Vec.{Vec}

-- the names are right, and reservations and classes have this counting order
pub record IsOrdered (d : Description) (order : List ℕ) : Type 0 where
  pub named : first_reported (faults_of_names d) ≡ None
  pub formed : IsCheckable d
  pub ordered : IsOrder d order

-- the sets are right, and the limits of automata, units and classes are kept
pub record AreWithin (d : Description) : Type 0 where
  pub apart : earliest (self_exclusions d) ≡ None
  pub together : earliest (sets_across_automata d) ≡ None
  pub automata : earliest (drop automaton_limit (automaton_sites d)) ≡ None
  pub units : earliest (past_units d.units (unit_places d)) ≡ None
  pub classes : earliest (drop class_limit (class_sites d)) ≡ None

-- no class breaks one of the two rules on units of several automata
pub record AreUnbroken (d : Description) : Type 0 where
  pub mixed : (known : Known) → IsKnown d known → earliest (mixed_classes d known) ≡ None
  pub uneven : (known : Known) → IsKnown d known → earliest (uneven_classes d known) ≡ None

-- these are the alternatives of the classes, of which none is too large, and none of the last faults stands
pub record AreLists (d : Description) (order : List ℕ) (lists : List (Vec Alt Global)) : Type 0 where
  pub expanded : AreExpanded d (reservings d order) lists
  pub extents : AreWithinExtents d (reservings d order)
  pub rules : AreUnbroken d
  pub once : earliest (second_numbers d) ≡ None
  pub queries : earliest (queries_under_ndfa d) ≡ None
