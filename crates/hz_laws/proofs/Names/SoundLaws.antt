-- What a description without a fault does not have.
use Rattle.std.proofs.Common.{◌≡◌, List, [], Contains, All, subst, arith}
use Rattle.hz_base_model.proofs.Elements.{Contains-nil}
use Rattle.hz_description_model.specs.Reading.Descriptions.{Description}
use Rattle.hz_description_model.specs.Check.CheckFaults.{CheckFault, IsSound, second_definitions, reserved_names, unknown_names, unknown_automata, units_without_automaton, self_exclusions, sets_across_automata, faults_of_names, faults_of_meanings}
use Rattle.hz_description_model.specs.Check.FirstReported.{Standing}
use Rattle.hz_description_model.specs.Check.Places.{Known}
use Rattle.hz_description_model.specs.Check.Sites.{Site}
use Rattle.hz_description_model.proofs.Check.KeptLaws.{none_stands}
use Rattle.hz_laws.specs.Names.NameFaults.{IsSecondName, IsReservedName, IsUnknownAutomaton, IsWithoutAutomaton, IsSelfExclusion, IsStranger}
use Rattle.hz_laws.specs.Names.UnknownNames.{IsUnknownName}
use Rattle.hz_laws.proofs.Names.NameLaws.{second_name, reserved_name, unknown_automaton, without_automaton, excluded_itself, stranger}
use Rattle.hz_laws.proofs.Names.UnknownLaws.{unknown_name}

-- what is asked for after the end of a list
some_standing : Standing CheckFault
some_standing = record { fault = CheckFault.twice_defined; sites = [] }

module _ (d : Description) (known : Known) (sound : IsSound d known) (s : Site) where
  nothing_of_names : All (λ t. t.sites ≡ []) (faults_of_names d)
  nothing_of_names = none_stands (faults_of_names d) ((sound.unfolded).defined)

  nothing_of_meanings : All (λ t. t.sites ≡ []) (faults_of_meanings d known sound.order)
  nothing_of_meanings = none_stands (faults_of_meanings d known sound.order) sound.free

  none_reported : (sites : List Site) → sites ≡ [] → Contains sites s → ⊥
  none_reported sites e c = Contains-nil s (subst (λ (xs : List Site). Contains xs s) e c)

  pub no_second_name : IsSecondName d s → ⊥
  no_second_name h = none_reported (second_definitions d) (nothing_of_names 0 some_standing (omega arith)) ((second_name d s).1 h)

  pub no_reserved_name : IsReservedName d s → ⊥
  no_reserved_name h = none_reported (reserved_names d) (nothing_of_names 1 some_standing (omega arith)) ((reserved_name d s).1 h)

  pub no_unknown_name : IsUnknownName d s → ⊥
  no_unknown_name h = none_reported (unknown_names d) (nothing_of_names 2 some_standing (omega arith)) ((unknown_name d s).1 h)

  pub no_unknown_automaton : IsUnknownAutomaton d s → ⊥
  no_unknown_automaton h = none_reported (unknown_automata d) (nothing_of_names 3 some_standing (omega arith)) ((unknown_automaton d s).1 h)

  pub none_without_automaton : IsWithoutAutomaton d s → ⊥
  none_without_automaton h = none_reported (units_without_automaton d) (nothing_of_names 4 some_standing (omega arith)) ((without_automaton d s).1 h)

  pub no_self_exclusion : IsSelfExclusion d s → ⊥
  no_self_exclusion h = none_reported (self_exclusions d) (nothing_of_meanings 0 some_standing (omega arith)) ((excluded_itself d s).1 h)

  pub no_stranger : IsStranger d s → ⊥
  no_stranger h = none_reported (sets_across_automata d) (nothing_of_meanings 1 some_standing (omega arith)) ((stranger d s).1 h)
