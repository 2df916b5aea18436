-- The classes that break one of the two rules on units of several automata, where they stand. This profile, docs/RULES.md,
-- 'Automata and lists'.
use Rattle.std.specs.Prelude.{Bool, List, map, filter, length}
use Rattle.hz_description_model.specs.Reservations.Alternatives.{Expression}
use Rattle.hz_description_model.specs.Reading.Descriptions.{Description}
use Rattle.hz_description_model.specs.Splits.Rules.{is_mixed_class, is_uneven_class}
use Rattle.hz_description_model.specs.Check.CountingOrder.{classes_of}
use Rattle.hz_description_model.specs.Check.Places.{Known, meaning}
use Rattle.hz_description_model.specs.Check.Sites.{Site}

-- the sites of the classes whose expressions pass a test; a reservation that no class uses is none of them
abbrev pub classes_where : (Expression → Bool) → Description → List Site
classes_where test d = map (λ c. c.site) (filter (λ c. test c.expression) (classes_of d))

-- the classes with an alternation that holds units of two automata; names are replaced as often as there are reservations
abbrev pub mixed_classes : Description → Known → List Site
mixed_classes d known = classes_where (is_mixed_class (meaning d) (length d.reservations) known) d

-- the classes of two automata with a part of two lengths before a comma or in a repeat
abbrev pub uneven_classes : Description → Known → List Site
uneven_classes d known = classes_where (is_uneven_class (meaning d) (length d.reservations) known) d
