-- What a plan is made of.
use Rattle.std.specs.Prelude.{◌≡◌, ℕ, ◌<◌, List, map, length, get_or}
use Rattle.std.specs.List.{range_with_len}
use Rattle.std.specs.declared.alloc.Global.{Global}
use Rattle.std.specs.declared.vec.Vec.{Vec}
use Rattle.hz_altern.specs.Shapes.{alternatives}
use Rattle.hz_altern.specs.declared.alternative.Alt.{Alt}
use Rattle.hz_base_model.specs.Pairs.{Pair}
use Rattle.hz_checked.specs.declared.checked.CheckedAutomaton.{CheckedAutomaton}
use Rattle.hz_check.specs.declared.parts.Parts.{Parts}
use Rattle.hz_check.specs.Parts.{IsPartsOf}
use Rattle.hz_description_model.specs.Reading.Descriptions.{Description}
use Rattle.hz_description_model.specs.Reading.DescriptionShape.{IsCheckable}
use Rattle.hz_description_model.specs.Reservations.Alternatives.{Alternative}
use Rattle.hz_description_model.specs.Reservations.Automata.{UnitPlace, cut}
use Rattle.hz_pipeline_model.specs.Accepting.Fitting.{AskTheSame}
use Rattle.hz_reasons.specs.Calendars.{at}
use Rattle.hz_reasons.specs.Plans.{place_of}
use Rattle.hz_reasons.specs.declared.plan.Choice.{Choice}
use Rattle.hz_description_model.specs.Reservations.Sets.{Statement}
use Rattle.hz_unitsets.specs.SetRules.{statements_of}

-- An alternative in parts: what it takes in each automaton, and all its pairs.
pub record InParts : Type 0 where
  pub parts : List (List (Pair ℕ))
  pub pairs : List (Pair UnitPlace)

-- an alternative that the code holds
abbrev pub parts_in : Choice → InParts
parts_in choice = record { parts = choice.parts.items; pairs = map place_of choice.pairs.items }

-- an alternative over so many automata
abbrev pub in_parts : ℕ → Alternative UnitPlace → InParts
in_parts automata a = record { parts = map (λ n. cut n a.pairs) (range_with_len 0 automata); pairs = a.pairs }

-- the classes' alternatives that the code holds
abbrev pub classes_in : List (Vec Choice Global) → List (List InParts)
classes_in classes = map (λ choices. map parts_in choices.items) classes

-- lists of alternatives over so many automata
abbrev pub in_classes : ℕ → List (Vec Alt Global) → List (List InParts)
in_classes automata lists = map (λ list. map (in_parts automata) (alternatives list.items)) lists

-- up to an automaton the rules ask the same as its statements
pub record AreRulesUpTo (count : ℕ) (automata : List CheckedAutomaton) (rules : List (List (Statement ℕ))) : Type 0 where
  pub each : length rules ≡ count
  pub asks : (a : ℕ) (d : CheckedAutomaton) → a < count → AskTheSame (at rules a) (statements_of (get_or automata a d).sets.items)

-- the parts are those of a description without a fault
abbrev pub AreParts : Parts → Type 0
AreParts parts = (d : Description) × IsCheckable d × IsPartsOf d parts
