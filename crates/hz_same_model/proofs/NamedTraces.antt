-- Traces by names, as neither of two machines numbers them.
use Rattle.std.proofs.Common.{◌≡◌, ℕ, zero, suc, ◌+◌, ◌-◌, ◌<◌, ◌≤◌, Bool, true, false, cond, List, [], ◌∷◌, ◌++◌, length, map, get_or, slice_get, filter, All, Contains, Option, Some, None, is_some, refl, sym, ap, ◌∙◌, subst, arith, ⊎_elim}
use Rattle.std.specs.Prelude.{◌≢◌}
use Rattle.std.proofs.lemmas.Bool.{cases_lt}
use Rattle.std.proofs.lemmas.List.{length-append, length-map, map-append, get_or-map, get_or_append_left, get_or-append_right, get_or_default}
use Rattle.std.proofs.lemmas.List.Elements.{All-nil, All-cons, All-head, All-tail, All-filter, All-from_get_or, filter_passes, Contains-get_or, Contains-append_left, Contains-append_right}
use Rattle.std.proofs.lemmas.Option.{slice_get-get_or, slice_get_within, get_or_from_slice_get}
use Rattle.hz_base_model.specs.Lines.{place_of}
use Rattle.hz_base_model.proofs.Elements.{Contains-nil, Contains-head, Contains-tail, Contains-cons_cases}
use Rattle.hz_pipeline_model.specs.Accepting.Events.{Event, advance}
use Rattle.hz_pipeline_model.specs.Traces.TraceNames.{TraceNames, found_first, query_place}
use Rattle.hz_pipeline_model.specs.Tables.Machines.{Part, Machine, machine_walk, names_of}
use Rattle.hz_pipeline_model.specs.Tables.MachineNames.{names_of_machine}
use Rattle.hz_pipeline_model.proofs.Traces.NameLaws.{place_named, query_named, no_query_placed}
use Rattle.hz_same_model.specs.Common.{Common, has_class, has_ask, common_of, issue_of, ask_of, events_of, event_at, events_at, advance_symbol, symbol_count}
use Rattle.hz_same_model.specs.Telling.{answer_in, TellsApart}
use Rattle.hz_same_model.proofs.ProductLaws.{has_own}

-- An issue of a class by its name, one cycle, and an ask of a query unit by its name.
pub data Named : Type 0 where
  of_class : (name : List ℕ) → Named
  cycle : Named
  of_ask : (name : List ℕ) → Named

abbrev pub event_named : Machine → Named → Event
event_named m (of_class name) = issue_of m name
event_named m cycle = advance 1
event_named m (of_ask name) = ask_of m name

abbrev pub has_named : Machine → Named → Bool
has_named m (of_class name) = has_class m name
has_named m cycle = true
has_named m (of_ask name) = has_ask m name

abbrev pub is_leading : Named → Bool
is_leading (of_class name) = true
is_leading cycle = true
is_leading (of_ask name) = false

abbrev named_of : Common → List Named
named_of common = map of_class common.classes ++ cycle ∷ map of_ask common.asks

abbrev named_at : Common → ℕ → Named
named_at common symbol = get_or (named_of common) symbol cycle

mapped : {X Y Z : Type 0} (f : Y → Z) (g : X → Y) (xs : List X) → map f (map g xs) ≡ map (λ x. f (g x)) xs
mapped f g [] = refl
mapped f g (x ∷ xs) = ap (λ ys. f (g x) ∷ ys) (mapped f g xs)

events-named : (common : Common) (m : Machine) → events_of common m ≡ map (event_named m) (named_of common)
events-named common m =
    sym (map-append (event_named m) (map of_class common.classes) (cycle ∷ map of_ask common.asks)
    ∙ (λ i. mapped (event_named m) of_class common.classes i ++ advance 1 ∷ mapped (event_named m) of_ask common.asks i))

length-named : (common : Common) → length (named_of common) ≡ symbol_count common
length-named common =
    omega (arith, length-append (map of_class common.classes) (cycle ∷ map of_ask common.asks), length-map common.classes of_class, length-map common.asks of_ask)

event-at-named : (common : Common) (m : Machine) (symbol : ℕ) → symbol < symbol_count common → event_at common m symbol ≡ event_named m (named_at common symbol)
event-at-named common m symbol low =
    ap (λ (es : List Event). get_or es symbol (advance 0)) (events-named common m)
    ∙ get_or-map (event_named m) (named_of common) symbol cycle (advance 0) (omega (arith, low, length-named common))

events-at-named : (common : Common) (m : Machine) (word : List ℕ) → All (λ s. s ≤ advance_symbol common) word → events_at common m word ≡ map (event_named m) (map (named_at common) word)
events-at-named common m [] are = refl
events-at-named common m (symbol ∷ word) are =
    let most : symbol ≤ length common.classes = All-head (λ (s : ℕ). s ≤ advance_symbol common) symbol word are in
    λ i. event-at-named common m symbol (omega arith) i ∷ events-at-named common m word (All-tail (λ (s : ℕ). s ≤ advance_symbol common) symbol word are) i

-- ---- which names there are

class_at : (common : Common) (symbol : ℕ) → symbol < length common.classes → named_at common symbol ≡ of_class (get_or common.classes symbol [])
class_at common symbol low =
    get_or_append_left (map of_class common.classes) (cycle ∷ map of_ask common.asks) cycle symbol (omega (arith, low, length-map common.classes of_class))
    ∙ get_or-map of_class common.classes symbol [] cycle low

cycle_at : (common : Common) (symbol : ℕ) → symbol ≡ length common.classes → named_at common symbol ≡ cycle
cycle_at common symbol is =
    get_or-append_right (map of_class common.classes) (cycle ∷ map of_ask common.asks) (length common.classes) symbol cycle (length-map common.classes of_class) (omega (arith, is))
    ∙ ap (λ (n : ℕ). get_or (cycle ∷ map of_ask common.asks) n cycle) (let none : symbol - length common.classes ≡ 0 = omega (arith, is) in none)

ask_named_at : (common : Common) (symbol number : ℕ) → symbol ≡ length common.classes + suc number → number < length common.asks → named_at common symbol ≡ of_ask (get_or common.asks number [])
ask_named_at common symbol number is low =
    get_or-append_right (map of_class common.classes) (cycle ∷ map of_ask common.asks) (length common.classes) symbol cycle (length-map common.classes of_class) (omega (arith, is))
    ∙ (ap (λ (n : ℕ). get_or (cycle ∷ map of_ask common.asks) n cycle) (let here : symbol - length common.classes ≡ suc number = omega (arith, is) in here)
    ∙ get_or-map of_ask common.asks number [] cycle low)

leads_at : (common : Common) (symbol : ℕ) → symbol ≤ length common.classes → is_leading (named_at common symbol) ≡ true
leads_at common symbol most = ⊎_elim
    (λ (low : symbol < length common.classes). ap is_leading (class_at common symbol low))
    (λ (high : length common.classes ≤ symbol). ap is_leading (cycle_at common symbol (omega arith)))
    (cases_lt symbol (length common.classes))

pub has_own_class : (m : Machine) (name : List ℕ) → Contains m.classes name → has_class m name ≡ true
has_own_class m name h = by_place (place_of name m.classes) refl
  where
    by_place : (o : Option ℕ) → place_of name m.classes ≡ o → is_some o ≡ true
    by_place (Some k) e = refl
    by_place None e =
        let names : TraceNames = record { classes = []; queries = m.classes ∷ [] } in
        let none : query_place names name ≡ None = ap (λ (o : Option ℕ). found_first 0 o None) e in
        absurd (no_query_placed names name none 0 h.0 (slice_get-get_or m.classes h.0 name h.1 ∙ ap (λ (n : List ℕ). let o : Option (List ℕ) = Some n in o) h.2))

module _ (first second : Machine) where
  abbrev common : Common
  common = common_of first second

  abbrev AreShared : Named → Type 0
  AreShared n = (has_named first n ≡ true) × (has_named second n ≡ true)

  shared_at : (symbol : ℕ) → symbol < symbol_count common → AreShared (named_at common symbol)
  shared_at symbol low = ⊎_elim
      (λ (less : symbol < length common.classes).
      let name = get_or common.classes symbol [] in
      let own : has_class first name ≡ true =
      All-filter (has_class second) (λ n. has_class first n ≡ true) first.classes
      (All-from_get_or (λ n. has_class first n ≡ true) first.classes [] (λ i within. has_own_class first (get_or first.classes i []) (Contains-get_or first.classes i [] within))) symbol [] less in
      subst AreShared (sym (class_at common symbol less)) (own, filter_passes (has_class second) first.classes symbol [] less))
      (λ (most : length common.classes ≤ symbol). ⊎_elim
      (λ (less : symbol < length common.classes + 1). subst AreShared (sym (cycle_at common symbol (omega arith))) (refl, refl))
      (λ (more : length common.classes + 1 ≤ symbol).
      let number = symbol - length common.classes - 1 in
      let is : symbol ≡ length common.classes + suc number = omega arith in
      let within : number < length common.asks = omega (arith, low) in
      let own : has_ask first (get_or common.asks number []) ≡ true =
      All-filter (has_ask second) (λ n. has_ask first n ≡ true) (names_of first.parts)
      (All-from_get_or (λ n. has_ask first n ≡ true) (names_of first.parts) [] (λ i inside. has_own first (get_or (names_of first.parts) i []) (Contains-get_or (names_of first.parts) i [] inside))) number [] within in
      subst AreShared (sym (ask_named_at common symbol number is within)) (own, filter_passes (has_ask second) (names_of first.parts) number [] within))
      (cases_lt symbol (length common.classes + 1)))
      (cases_lt symbol (length common.classes))

-- ---- the symbol of a name

pub kept : (p : List ℕ → Bool) (xs : List (List ℕ)) (x : List ℕ) → Contains xs x → p x ≡ true → Contains (filter p xs) x
kept p [] x h passes = absurd (Contains-nil x h)
kept p (y ∷ xs) x h passes = ⊎_elim
    (λ (e : y ≡ x). here (p y) (ap p e ∙ passes) e)
    (λ (rest : Contains xs x). later (p y) (kept p xs x rest passes))
    (Contains-cons_cases y x xs h)
  where
    here : (t : Bool) → t ≡ true → y ≡ x → Contains (cond t (y ∷ filter p xs) (filter p xs)) x
    here true so e = subst (Contains (y ∷ filter p xs)) e (Contains-head y (filter p xs))
    here false so e = cc

    later : (t : Bool) → Contains (filter p xs) x → Contains (cond t (y ∷ filter p xs) (filter p xs)) x
    later true rest = Contains-tail y x (filter p xs) rest
    later false rest = rest

among : (parts : List Part) (a query : ℕ) (name : List ℕ) → slice_get (get_or (map (λ (part : Part). part.asks) parts) a []) query ≡ Some name → Contains (names_of parts) name
among [] a query name h = absurd (let low = slice_get_within [] query name h in omega (arith, low))
among (part ∷ parts) zero query name h =
    Contains-append_left part.asks (names_of parts) name
    (subst (Contains part.asks) (get_or_from_slice_get part.asks query name [] h) (Contains-get_or part.asks query [] (slice_get_within part.asks query name h)))
among (part ∷ parts) (suc a) query name h = Contains-append_right part.asks (names_of parts) name (among parts a query name h)

pub class_there : (m : Machine) (name : List ℕ) → has_class m name ≡ true → Contains m.classes name
class_there m name h = by_place (place_of name m.classes) refl h
  where
    by_place : (o : Option ℕ) → place_of name m.classes ≡ o → is_some o ≡ true → Contains m.classes name
    by_place None e some = cc
    by_place (Some k) e some =
        let there = place_named name m.classes k e in
        subst (Contains m.classes) (get_or_from_slice_get m.classes k name [] there) (Contains-get_or m.classes k [] (slice_get_within m.classes k name there))

pub name_there : (m : Machine) (name : List ℕ) → has_ask m name ≡ true → Contains (names_of m.parts) name
name_there m name h = by_place (query_place (names_of_machine m) name) refl h
  where
    by_place : (o : Option (ℕ × ℕ)) → query_place (names_of_machine m) name ≡ o → is_some o ≡ true → Contains (names_of m.parts) name
    by_place None e some = cc
    by_place (Some place) e some = among m.parts place.0 place.1 name (query_named (names_of_machine m) name place.0 place.1 e)

record IsSymbol (common : Common) (n : Named) : Type 0 where
  symbol : ℕ
  low : symbol < symbol_count common
  is : named_at common symbol ≡ n
  leads : is_leading n ≡ true → symbol ≤ length common.classes

symbol_of : (first second : Machine) (n : Named) → has_named first n ≡ true → has_named second n ≡ true → IsSymbol (common_of first second) n
symbol_of first second cycle own other = record {
  symbol = length (common_of first second).classes;
  low = omega arith;
  is = cycle_at (common_of first second) (length (common_of first second).classes) refl;
  leads = λ h. omega arith;
}
symbol_of first second (of_class name) own other =
    let classes = (common_of first second).classes in
    let at = kept (has_class second) first.classes name (class_there first name own) other in
    let within : at.0 < length classes = at.1 in
    record {
      symbol = at.0;
      low = omega arith;
      is = class_at (common_of first second) at.0 within ∙ ap of_class (get_or_default classes at.0 [] name within ∙ at.2);
      leads = λ h. omega arith;
    }
symbol_of first second (of_ask name) own other =
    let asks = (common_of first second).asks in
    let at = kept (has_ask second) (names_of first.parts) name (name_there first name own) other in
    let within : at.0 < length asks = at.1 in
    let classes = (common_of first second).classes in
    record {
      symbol = length classes + suc at.0;
      low = omega arith;
      is = ask_named_at (common_of first second) (length classes + suc at.0) at.0 refl within ∙ ap of_ask (get_or_default asks at.0 [] name within ∙ at.2);
      leads = λ h. cc;
    }

record IsWord (common : Common) (before : List Named) : Type 0 where
  word : List ℕ
  low : All (λ s. s ≤ advance_symbol common) word
  is : map (named_at common) word ≡ before

word_of : (first second : Machine) (before : List Named) → All (λ n. is_leading n ≡ true) before → All (λ n. has_named first n ≡ true) before → All (λ n. has_named second n ≡ true) before → IsWord (common_of first second) before
word_of first second [] leads own other = record { word = []; low = All-nil (λ (s : ℕ). s ≤ advance_symbol (common_of first second)); is = refl }
word_of first second (n ∷ before) leads own other =
    let one = symbol_of first second n (All-head (λ (x : Named). has_named first x ≡ true) n before own) (All-head (λ (x : Named). has_named second x ≡ true) n before other) in
    let rest = word_of first second before (All-tail (λ (x : Named). is_leading x ≡ true) n before leads) (All-tail (λ (x : Named). has_named first x ≡ true) n before own) (All-tail (λ (x : Named). has_named second x ≡ true) n before other) in
    record {
      word = one.symbol ∷ rest.word;
      low = All-cons (λ (s : ℕ). s ≤ advance_symbol (common_of first second)) one.symbol rest.word (one.leads (All-head (λ (x : Named). is_leading x ≡ true) n before leads)) rest.low;
      is = λ i. one.is i ∷ rest.is i;
    }

-- ---- traces by names that tell machines apart

pub record ApartByName (first second : Machine) (before : List Named) (last : Named) : Type 0 where
  pub leading : All (λ n. is_leading n ≡ true) before
  pub own : All (λ n. has_named first n ≡ true) before
  pub shared : All (λ n. has_named second n ≡ true) before
  pub there : has_named first last ≡ true
  pub there' : has_named second last ≡ true
  pub states : List ℕ
  pub others : List ℕ
  pub one : machine_walk first (map (event_named first) before) ≡ Some states
  pub other : machine_walk second (map (event_named second) before) ≡ Some others
  pub otherwise : answer_in first states (event_named first last) ≢ answer_in second others (event_named second last)

pub by_name : (first second : Machine) (before : List ℕ) (last : ℕ) → TellsApart first second before last → (names : List Named) × (name : Named) × ApartByName first second names name
by_name first second before last t = (
  map (named_at (common_of first second)) before,
  named_at (common_of first second) last,
  record {
    leading = of_all (λ n. is_leading n ≡ true) (λ s low. leads_at (common_of first second) s low);
    own = of_all (λ n. has_named first n ≡ true) (λ s low. (shared_at first second s (omega (arith, low))).0);
    shared = of_all (λ n. has_named second n ≡ true) (λ s low. (shared_at first second s (omega (arith, low))).1);
    there = (shared_at first second last t.there).0;
    there' = (shared_at first second last t.there).1;
    states = t.states;
    others = t.others;
    one = ap (machine_walk first) (sym (events-at-named (common_of first second) first before t.walked)) ∙ t.one;
    other = ap (machine_walk second) (sym (events-at-named (common_of first second) second before t.walked)) ∙ t.other;
    otherwise = λ same. t.otherwise (ap (answer_in first t.states) (event-at-named (common_of first second) first last t.there) ∙ (same ∙ sym (ap (answer_in second t.others) (event-at-named (common_of first second) second last t.there))));
  },
)
  where
    of_all : (P : Named → Type 0) → ((s : ℕ) → s ≤ length (common_of first second).classes → P (named_at (common_of first second) s)) → All P (map (named_at (common_of first second)) before)
    of_all P each = All-from_get_or P (map (named_at (common_of first second)) before) cycle
        (λ i low.
        let within : i < length before = omega (arith, low, length-map before (named_at (common_of first second))) in
        subst P (sym (get_or-map (named_at (common_of first second)) before i 0 cycle within)) (each (get_or before i 0) (t.walked i 0 within)))

pub by_symbol : (first second : Machine) (before : List Named) (last : Named) → ApartByName first second before last → (word : List ℕ) × (symbol : ℕ) × TellsApart first second word symbol
by_symbol first second before last a =
    let c = common_of first second in
    let w = word_of first second before a.leading a.own a.shared in
    let s = symbol_of first second last a.there a.there' in
    let events : (m : Machine) → events_at c m w.word ≡ map (event_named m) before = λ m. events-at-named c m w.word w.low ∙ ap (map (event_named m)) w.is in
    let event : (m : Machine) → event_at c m s.symbol ≡ event_named m last = λ m. event-at-named c m s.symbol s.low ∙ ap (event_named m) s.is in (
      w.word,
      s.symbol,
      record {
        walked = w.low;
        there = s.low;
        states = a.states;
        others = a.others;
        one = ap (machine_walk first) (events first) ∙ a.one;
        other = ap (machine_walk second) (events second) ∙ a.other;
        otherwise = λ same. a.otherwise (ap (answer_in first a.states) (sym (event first)) ∙ (same ∙ ap (answer_in second a.others) (event second)));
      },
    )

pub turned : (first second : Machine) (before : List Named) (last : Named) → ApartByName first second before last → ApartByName second first before last
turned first second before last a = record {
  leading = a.leading;
  own = a.shared;
  shared = a.own;
  there = a.there';
  there' = a.there;
  states = a.others;
  others = a.states;
  one = a.other;
  other = a.one;
  otherwise = λ same. a.otherwise (sym same);
}
