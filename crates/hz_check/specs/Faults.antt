-- What the code tells, as what the definitions speak of.
pub mod Twice
pub mod PastUnits
pub mod Steps
use Rattle.std.specs.Prelude.{◌≡◌, ℕ, List, ⊤, Option, Some, None, MatchOption, Result, Ok, Err, IsErr}
use Rattle.hz_check.specs.declared.fault.LimitName.{LimitName}
use Rattle.hz_check.specs.declared.fault.LimitName.TheVariants.{Automata, Units, Classes, Alternatives, Cycles, Size}
use Rattle.hz_check.specs.declared.fault.CheckFault.{CheckFault}
use Rattle.hz_check.specs.declared.fault.CheckFault.TheVariants.{TwiceDefined, ReservedName, UnknownName, UnknownAutomaton, UnitNeedsAutomaton, CircularReservation, SelfExclusion, SetAcrossAutomata, Limit, AlternationOfTwoAutomata, AlternationOfTwoLengths, BypassTwice, QueryUnderNdfa, NoMemory}
use Rattle.hz_check.specs.declared.faults.reported.Wrong.{Wrong}
use Rattle.hz_check.specs.declared.faults.reported.Wrong.TheVariants as wrong
use Rattle.hz_check.specs.declared.faults.reported.Reported.{Reported}
use Rattle.hz_check_reservations.specs.declared.listing.unexpanded.Unexpanded.{Unexpanded}
use Rattle.hz_check_reservations.specs.declared.listing.unexpanded.Unexpanded.TheVariants as unexpanded
use Rattle.hz_check_reservations.specs.declared.ordering.fault.OrderFault.{OrderFault}
use Rattle.hz_check_reservations.specs.declared.ordering.fault.OrderFault.TheVariants as order
use Rattle.hz_check_reservations.specs.declared.ordering.site.Site.{Site}
use Rattle.hz_check_reservations.specs.Places.{site_of}
use Rattle.hz_description_model.specs.Check.CheckFaults as model
use Rattle.hz_description_model.specs.Check.FirstReported as first
use Rattle.hz_description_model.specs.Reading.Descriptions.{Description}

-- the name of a limit
abbrev pub limit_of : LimitName → model.LimitName
limit_of Automata = model.automata
limit_of Units = model.units
limit_of Classes = model.classes
limit_of Alternatives = model.alternatives
limit_of Cycles = model.cycles
limit_of Size = model.size

-- the fault of the definitions with its line, and the name that is wrong; want of memory is none
abbrev pub fault_of : CheckFault → Option ((model.CheckFault × ℕ) × List ℕ)
fault_of (TwiceDefined line name) = Some ((model.twice_defined, line), name)
fault_of (ReservedName line name) = Some ((model.reserved_name, line), name)
fault_of (UnknownName line name) = Some ((model.unknown_name, line), name)
fault_of (UnknownAutomaton line name) = Some ((model.unknown_automaton, line), name)
fault_of (UnitNeedsAutomaton line name) = Some ((model.unit_needs_automaton, line), name)
fault_of (CircularReservation line name) = Some ((model.circular_reservation, line), name)
fault_of (SelfExclusion line name) = Some ((model.self_exclusion, line), name)
fault_of (SetAcrossAutomata line name) = Some ((model.set_across_automata, line), name)
fault_of (Limit what line name) = Some ((model.limit (limit_of what), line), name)
fault_of (AlternationOfTwoAutomata line name) = Some ((model.alternation_of_two_automata, line), name)
fault_of (AlternationOfTwoLengths line name) = Some ((model.alternation_of_two_lengths, line), name)
fault_of (BypassTwice line name) = Some ((model.bypass_twice, line), name)
fault_of (QueryUnderNdfa line name) = Some ((model.query_under_ndfa, line), name)
fault_of NoMemory = None

-- what is said of a fault with its line and its name holds of this one; want of memory says nothing
abbrev pub Tells : (model.CheckFault → ℕ → List ℕ → Type 0) → CheckFault → Type 0
Tells P fault = MatchOption (fault_of fault) ⊤ (λ reported. P reported.0.0 reported.0.1 reported.1)

-- the fault is reported of the description, in a form of this line and at this name
abbrev pub IsReportedAt : Description → model.CheckFault → ℕ → List ℕ → Type 0
IsReportedAt d fault line name = (form : ℕ) × model.CheckFaultAt d fault (record { line = line; form = form; name = name })

-- what is wrong
abbrev pub wrong_of : Wrong → model.CheckFault
wrong_of wrong.TwiceDefined = model.twice_defined
wrong_of wrong.ReservedName = model.reserved_name
wrong_of wrong.UnknownName = model.unknown_name
wrong_of wrong.UnknownAutomaton = model.unknown_automaton
wrong_of wrong.UnitNeedsAutomaton = model.unit_needs_automaton
wrong_of wrong.CircularReservation = model.circular_reservation
wrong_of wrong.SelfExclusion = model.self_exclusion
wrong_of wrong.SetAcrossAutomata = model.set_across_automata
wrong_of (wrong.Limit what) = model.limit (limit_of what)
wrong_of wrong.AlternationOfTwoAutomata = model.alternation_of_two_automata
wrong_of wrong.AlternationOfTwoLengths = model.alternation_of_two_lengths
wrong_of wrong.BypassTwice = model.bypass_twice
wrong_of wrong.QueryUnderNdfa = model.query_under_ndfa

-- what is wrong, with a line and a name
abbrev pub fault_named : Wrong → ℕ → List ℕ → CheckFault
fault_named wrong.TwiceDefined line name = TwiceDefined line name
fault_named wrong.ReservedName line name = ReservedName line name
fault_named wrong.UnknownName line name = UnknownName line name
fault_named wrong.UnknownAutomaton line name = UnknownAutomaton line name
fault_named wrong.UnitNeedsAutomaton line name = UnitNeedsAutomaton line name
fault_named wrong.CircularReservation line name = CircularReservation line name
fault_named wrong.SelfExclusion line name = SelfExclusion line name
fault_named wrong.SetAcrossAutomata line name = SetAcrossAutomata line name
fault_named (wrong.Limit what) line name = Limit what line name
fault_named wrong.AlternationOfTwoAutomata line name = AlternationOfTwoAutomata line name
fault_named wrong.AlternationOfTwoLengths line name = AlternationOfTwoLengths line name
fault_named wrong.BypassTwice line name = BypassTwice line name
fault_named wrong.QueryUnderNdfa line name = QueryUnderNdfa line name

-- what is wrong, with a line and the name that was copied; want of memory stays
abbrev pub fault_if_copied : {E : Type 0} → Wrong → ℕ → Result (List ℕ) E → CheckFault
fault_if_copied what line (Ok name) = fault_named what line name
fault_if_copied what line (Err e) = NoMemory

-- what is expanded, or the site where the sizes pass their limit; want of memory stays
abbrev pub IsListsOrSite : {A E : Type 0} → Result A Unexpanded → Result (Result A Site) E → Type 0
IsListsOrSite (Ok lists) reported = reported ≡ Ok (Ok lists)
IsListsOrSite (Err (unexpanded.Size site)) reported = reported ≡ Ok (Err site)
IsListsOrSite (Err unexpanded.NoMemory) reported = IsErr reported

-- the order, or the place of the reservation that reaches itself; want of memory stays
abbrev pub IsOrderOrCircle : {A E : Type 0} → Result A OrderFault → Result (Result A ℕ) E → Type 0
IsOrderOrCircle (Ok counted) reported = reported ≡ Ok (Ok counted)
IsOrderOrCircle (Err (order.Circular place)) reported = reported ≡ Ok (Err place)
IsOrderOrCircle (Err order.NoMemory) reported = IsErr reported

-- what is wrong, and where
abbrev pub reported_of : Reported → first.Reported model.CheckFault
reported_of t = record { fault = wrong_of t.wrong; site = site_of t.site }

-- the fault with its line and its name is this one
pub record IsReportedHere (reported : first.Reported model.CheckFault) (fault : model.CheckFault) (line : ℕ) (name : List ℕ) : Type 0 where
  pub same_fault : fault ≡ reported.fault
  pub same_line : line ≡ reported.site.line
  pub same_name : name ≡ reported.site.name
