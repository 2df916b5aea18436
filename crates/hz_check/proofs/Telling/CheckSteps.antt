-- From what a step finds to the fault that is reported.
use Rattle.std.proofs.Common.{◌≡◌, ℕ, ◌≤◌, true, false, List, [], ◌∷◌, length, drop, get_or, Option, Some, None, Result, Ok, Err, refl, sym, ap, ◌∙◌, subst, arith}
use Rattle.std.specs.Option.{option_map}
use Rattle.std.specs.Prelude.{⊤, IfOk, IfErr, IsSomeAnd, MatchOption, slice_get}
use Rattle.std.proofs.lemmas.List.{length-map, length-drop}
use Rattle.std.proofs.lemmas.Option.{slice_get-map, get_or_from_slice_get}
use Rattle.hz_check.specs.declared.fault.CheckFault.{CheckFault}
use Rattle.hz_check.specs.Faults.Steps.{IsOrdered, AreWithin}
use Rattle.hz_check.specs.Faults.{Tells, IsReportedAt, IsReportedHere, IsListsOrSite, IsOrderOrCircle, fault_if_copied, fault_named, fault_of, reported_of, wrong_of}
use Rattle.hz_check.specs.declared.faults.reported.Reported.{Reported as Stored}
use Rattle.hz_check.specs.declared.faults.reported.Wrong.{Wrong}
use Rattle.hz_check.specs.declared.faults.reported.Wrong.TheVariants as wrong
use Rattle.hz_check_reservations.specs.Answers.{Refuses, IsPastSize}
use Rattle.hz_check_reservations.specs.declared.listing.unexpanded.Unexpanded.{Unexpanded}
use Rattle.hz_check_reservations.specs.declared.listing.unexpanded.Unexpanded.TheVariants as unexpanded
use Rattle.hz_check_reservations.proofs.Unwinding.{unfolded}
use Rattle.hz_description_model.specs.Check.CheckFaults as model
use Rattle.hz_description_model.specs.Check.CheckFaults.{faults_of_meanings, faults_of_names, CheckFaultAt, of_meanings, of_names, of_circle, IsFirst, IsCircular, limit, alternatives, cycles, size, past_limit, second_numbers, queries_under_ndfa, automaton_sites, class_sites}
use Rattle.hz_description_model.specs.Check.CountingOrder.{Reserving, reservation_site}
use Rattle.hz_description_model.specs.Check.FirstReported.{Standing, Reported, first_reported, reported_at}
use Rattle.hz_mdread.specs.declared.description.Description.{Description as StoredDescription}
use Rattle.hz_mdread.specs.declared.items.ReservationItem.{ReservationItem as StoredReservation}
use Rattle.hz_mdread.specs.Shape.{description, reservation_item}
use Rattle.hz_description_model.proofs.Check.EarliestLaws.{no_site}
use Rattle.hz_description_model.specs.Reading.Descriptions.{Description}
use Rattle.hz_base_model.specs.Limits.{automaton_limit, class_limit}
use Rattle.hz_description_model.specs.Check.Places.{IsKnown, Known}
use Rattle.hz_description_model.specs.Check.Sites.{Site, earliest}
use Rattle.hz_description_model.specs.Check.SplitClasses.{mixed_classes, uneven_classes}
use Rattle.hz_check_reservations.specs.Faults.{TellsCircle}
use Rattle.hz_check_reservations.specs.Orders.{reservings}
use Rattle.hz_check_reservations.specs.Places.{site_of}
use Rattle.hz_check_reservations.specs.declared.ordering.fault.OrderFault.{OrderFault}
use Rattle.hz_check_reservations.specs.declared.ordering.fault.OrderFault.TheVariants as order
use Rattle.hz_check_reservations.specs.declared.ordering.site.Site.{Site as StoredSite}

tells_with : (P Q : model.CheckFault → ℕ → List ℕ → Type 0) → ((f : model.CheckFault) (line : ℕ) (name : List ℕ) → P f line name → Q f line name) → (fault : CheckFault) → Tells P fault → Tells Q fault
tells_with P Q to fault tells = go (fault_of fault) tells
  where
    go : (found : Option ((model.CheckFault × ℕ) × List ℕ)) → MatchOption found ⊤ (λ reported. P reported.0.0 reported.0.1 reported.1) → MatchOption found ⊤ (λ reported. Q reported.0.0 reported.0.1 reported.1)
    go (Some reported) tells = to _ _ _ tells
    go None tells = tells

carried : (d : Description) (reported : Reported model.CheckFault) → CheckFaultAt d reported.fault reported.site → (fault : model.CheckFault) (line : ℕ) (name : List ℕ) → IsReportedHere reported fault line name
    → CheckFaultAt d fault (record { line = line; form = reported.site.form; name = name })
carried d reported at fault line name here =
    subst (λ f. CheckFaultAt d f (record { line = line; form = reported.site.form; name = name })) (sym here.same_fault)
    (subst (λ l. CheckFaultAt d reported.fault (record { line = l; form = reported.site.form; name = name })) (sym here.same_line)
    (subst (λ n. CheckFaultAt d reported.fault (record { line = reported.site.line; form = reported.site.form; name = n })) (sym here.same_name) at))

-- a fault that stands at a site is reported there
pub reported_there : (d : Description) (reported : Reported model.CheckFault) → CheckFaultAt d reported.fault reported.site → (fault : CheckFault) → Tells (IsReportedHere reported) fault → Tells (IsReportedAt d) fault
reported_there d reported at fault = tells_with (IsReportedHere reported) (IsReportedAt d) (λ f line name here. (reported.site.form, carried d reported at f line name here)) fault

-- a fault with the line and the name of its site is reported there
pub named_there : (reported : Stored) (line : ℕ) (name : List ℕ) → line ≡ reported.site.line → name ≡ reported.site.name.now → Tells (IsReportedHere (reported_of reported)) (fault_named reported.wrong line name)
named_there reported line name at called = go reported.wrong refl
  where
    here : (w : Wrong) → w ≡ reported.wrong → IsReportedHere (reported_of reported) (wrong_of w) line name
    here w is = record { same_fault = ap wrong_of is; same_line = at; same_name = called }

    go : (w : Wrong) → w ≡ reported.wrong → Tells (IsReportedHere (reported_of reported)) (fault_named w line name)
    go wrong.TwiceDefined is = here wrong.TwiceDefined is
    go wrong.ReservedName is = here wrong.ReservedName is
    go wrong.UnknownName is = here wrong.UnknownName is
    go wrong.UnknownAutomaton is = here wrong.UnknownAutomaton is
    go wrong.UnitNeedsAutomaton is = here wrong.UnitNeedsAutomaton is
    go wrong.CircularReservation is = here wrong.CircularReservation is
    go wrong.SelfExclusion is = here wrong.SelfExclusion is
    go wrong.SetAcrossAutomata is = here wrong.SetAcrossAutomata is
    go (wrong.Limit what) is = here (wrong.Limit what) is
    go wrong.AlternationOfTwoAutomata is = here wrong.AlternationOfTwoAutomata is
    go wrong.AlternationOfTwoLengths is = here wrong.AlternationOfTwoLengths is
    go wrong.BypassTwice is = here wrong.BypassTwice is
    go wrong.QueryUnderNdfa is = here wrong.QueryUnderNdfa is

-- a fault with the line of its site and the name that was copied there is reported there
pub copied_there : {E : Type 0} (reported : Stored) (copied : Result (List ℕ) E) → IfOk copied (λ name. name ≡ reported.site.name.now) → Tells (IsReportedHere (reported_of reported)) (fault_if_copied reported.wrong reported.site.line copied)
copied_there reported (Ok name) same = named_there reported reported.site.line name refl same
copied_there reported (Err e) same = tt

-- a site that is answered is where the sizes pass their limit
pub site_past_size : {A E : Type 0} (d : Description) (order : List Reserving) (expanded : Result A Unexpanded) (reported : Result (Result A StoredSite) E)
    → IfErr expanded (Refuses d order) → IsListsOrSite expanded reported → IfOk reported (λ found. IfErr found (λ site. IsPastSize d order (site_of site)))
site_past_size d order (Ok lists) reported refuses is = subst (λ t. IfOk t (λ found. IfErr found (λ site. IsPastSize d order (site_of site)))) (sym is) tt
site_past_size d order (Err (unexpanded.Size at)) reported refuses is = subst (λ t. IfOk t (λ found. IfErr found (λ site. IsPastSize d order (site_of site)))) (sym is) refuses
site_past_size d order (Err unexpanded.NoMemory) (Ok found) refuses is = absurd (let e : false ≡ true = is in cc)
site_past_size d order (Err unexpanded.NoMemory) (Err e) refuses is = tt

-- a place that is answered is that of the first reservation that reaches itself
pub place_circles : {A E : Type 0} (d : Description) (counted : Result A OrderFault) (reported : Result (Result A ℕ) E)
    → IfErr counted (TellsCircle d) → IsOrderOrCircle counted reported → IfOk reported (λ found. IfErr found (λ place. TellsCircle d (order.Circular place)))
place_circles d (Ok numbers) reported tells is = subst (λ t. IfOk t (λ found. IfErr found (λ place. TellsCircle d (order.Circular place)))) (sym is) tt
place_circles d (Err (order.Circular at)) reported tells is = subst (λ t. IfOk t (λ found. IfErr found (λ place. TellsCircle d (order.Circular place)))) (sym is) tells
place_circles d (Err order.NoMemory) (Ok found) tells is = absurd (let e : false ≡ true = is in cc)
place_circles d (Err order.NoMemory) (Err e) tells is = tt

-- what is reported first of some faults
pub record TellsFirst (faults : List (Standing model.CheckFault)) (reported : Option (Reported model.CheckFault)) : Type 0 where
  pub is : first_reported faults ≡ reported

pub skip : {s : Standing model.CheckFault} {rest : List (Standing model.CheckFault)} {o : Option (Reported model.CheckFault)} → earliest s.sites ≡ None → TellsFirst rest o → TellsFirst (s ∷ rest) o
skip {s} {rest} none later = record { is = ap (λ (site : Option Site). reported_at s.fault site (first_reported rest)) none ∙ later.is }

pub stop : {s : Standing model.CheckFault} {rest : List (Standing model.CheckFault)} {site : Site} → earliest s.sites ≡ Some site → TellsFirst (s ∷ rest) (Some (record { fault = s.fault; site = site }))
stop {s} {rest} some = record { is = ap (λ (site : Option Site). reported_at s.fault site (first_reported rest)) some }

-- a fault of names
pub name_reported : (d : Description) (reported : Reported model.CheckFault) → first_reported (faults_of_names d) ≡ Some reported → (fault : CheckFault) → Tells (IsReportedHere reported) fault → Tells (IsReportedAt d) fault
name_reported d reported is = reported_there d reported (of_names is)

-- a fault after that of circular reservations
pub meaning_reported : (d : Description) (order : List ℕ) → IsOrdered d order → (reported : Reported model.CheckFault) → ((known : Known) → IsKnown d known → TellsFirst (faults_of_meanings d known (reservings d order)) (Some reported))
    → (fault : CheckFault) → Tells (IsReportedHere reported) fault → Tells (IsReportedAt d) fault
meaning_reported d order o reported is =
    let all = unfolded d o.named o.formed order o.ordered in
    reported_there d reported (of_meanings all.1 (is all.0 all.1.right).is)

-- a list with nothing after a number of items is no longer
pub no_more : {A : Type 0} (n : ℕ) (xs : List A) → drop n xs ≡ [] → length xs ≤ n
no_more n xs e = let long = length-drop n xs in let none = ap length e in omega arith

-- the limit of automata is kept where none is reported past it
pub few_automata : (d : Description) → earliest (drop automaton_limit (automaton_sites d)) ≡ None → length d.automata ≤ automaton_limit
few_automata d none =
    let less = no_more automaton_limit (automaton_sites d) (no_site (drop automaton_limit (automaton_sites d)) none) in
    let same : length (automaton_sites d) ≡ length d.automata = length-map d.automata (λ a. record { line = a.line; form = a.form; name = a.name }) in
    omega (arith, less, same)

pub few_classes : (d : Description) → earliest (drop class_limit (class_sites d)) ≡ None → length d.classes ≤ class_limit
few_classes d none =
    let less = no_more class_limit (class_sites d) (no_site (drop class_limit (class_sites d)) none) in
    let same : length (class_sites d) ≡ length d.classes = length-map d.classes (λ c. record { line = c.line; form = c.form; name = c.name }) in
    omega (arith, less, same)

-- the faults after the limits of automata, units and classes, in their order
abbrev pub last_faults : Description → Known → List Reserving → List (Standing model.CheckFault)
last_faults d known order = record { fault = limit alternatives; sites = past_limit d known order alternatives }
    ∷ record { fault = limit cycles; sites = past_limit d known order cycles }
    ∷ record { fault = limit size; sites = past_limit d known order size }
    ∷ record { fault = model.alternation_of_two_automata; sites = mixed_classes d known }
    ∷ record { fault = model.alternation_of_two_lengths; sites = uneven_classes d known }
    ∷ record { fault = model.bypass_twice; sites = second_numbers d }
    ∷ record { fault = model.query_under_ndfa; sites = queries_under_ndfa d }
    ∷ []

pub beyond : (d : Description) (known : Known) (order : List Reserving) → AreWithin d → {o : Option (Reported model.CheckFault)} → TellsFirst (last_faults d known order) o → TellsFirst (faults_of_meanings d known order) o
beyond d known order within is = skip within.apart (skip within.together (skip within.automata (skip within.units (skip within.classes is))))

-- a fault after those limits
pub after_within : (d : Description) (order : List ℕ) → IsOrdered d order → AreWithin d → (reported : Reported model.CheckFault) → ((known : Known) → IsKnown d known → TellsFirst (last_faults d known (reservings d order)) (Some reported))
    → (fault : CheckFault) → Tells (IsReportedHere reported) fault → Tells (IsReportedAt d) fault
after_within d order o within reported is = meaning_reported d order o reported (λ known right. beyond d known (reservings d order) within (is known right))

-- a reservation that reaches itself
pub circle_reported : (desc : StoredDescription) (place : ℕ) → first_reported (faults_of_names (description desc)) ≡ None → IsSomeAnd (slice_get (description desc).reservations place) (IsFirst (IsCircular (description desc)) (description desc).reservations)
    → (r : StoredReservation) → r ≡ get_or desc.reservations.items place r → (site : Site) → site ≡ reservation_site (reservation_item r)
    → (fault : CheckFault) → Tells (IsReportedHere (record { fault = model.circular_reservation; site = site })) fault → Tells (IsReportedAt (description desc)) fault
circle_reported desc place named first r is site at fault tells = found (slice_get desc.reservations.items place) refl
  where
    d : Description
    d = description desc

    by_item : (o : Option StoredReservation) → slice_get desc.reservations.items place ≡ o → IsSomeAnd (option_map reservation_item o) (IsFirst (IsCircular d) d.reservations)
    by_item o e = subst (λ p. IsSomeAnd p (IsFirst (IsCircular d) d.reservations)) (slice_get-map reservation_item desc.reservations.items place ∙ ap (option_map reservation_item) e) first

    found : (o : Option StoredReservation) → slice_get desc.reservations.items place ≡ o → Tells (IsReportedAt d) fault
    found None e = absurd (by_item None e)
    found (Some x) e =
        let same : r ≡ x = is ∙ get_or_from_slice_get desc.reservations.items place x r e in
        reported_there d (record { fault = model.circular_reservation; site = site })
        (subst (λ s. CheckFaultAt d model.circular_reservation s) (sym (at ∙ ap (λ (y : StoredReservation). reservation_site (reservation_item y)) same)) (of_circle named (by_item (Some x) e))) fault tells
