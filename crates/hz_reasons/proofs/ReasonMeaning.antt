-- What forbids an alternative, by automata and by the calendar.
use Rattle.std.proofs.Common.{◌≡◌, ℕ, suc, ◌+◌, ◌<◌, Bool, not, List, [], ◌∷◌, ◌++◌, map, length, Contains, Option, Some, None, refl, sym, ap, ◌∙◌, subst, arith}
use Rattle.std.specs.Prelude.{◌&&◌, ◌||◌, ◌==◌, slice_get, unwrap_or, IfSome}
use Rattle.std.specs.List.{find, list_any, list_all}
use Rattle.std.specs.Option.{option_map, option_and_then}
use Rattle.std.proofs.lemmas.List.Folds.{list_any-append}
use Rattle.std.proofs.lemmas.Simd.{map-map}
use Rattle.hz_base_model.specs.Pairs.{Pair, later, placed}
use Rattle.hz_base_model.proofs.Elements.{Contains-head, Contains-tail, Contains-map}
use Rattle.hz_description_model.specs.Reservations.Alternatives.{Alternative}
use Rattle.hz_description_model.specs.Reservations.Automata.{UnitPlace, place_cmp, ascending}
use Rattle.hz_description_model.specs.Reservations.Sets.{SetKind, exclusion, presence, final_presence, absence, final_absence, Statement}
use Rattle.hz_description_model.proofs.Reservations.AscendingLaws.{same_ascending}
use Rattle.hz_description_model.proofs.Reservations.FitLaws.{holds_moved}
use Rattle.hz_pipeline_model.specs.Accepting.Plays.{has, holds, holds_pattern, asks}
use Rattle.hz_pipeline_model.specs.Accepting.Replay.{Pipeline, State, alternatives_at, pairs_at, chosen}
use Rattle.hz_why_model.specs.Reasons.{taken, broken, or_else, breaking, breaking_pattern, first_whole, is_broken_in, broken_in, broken_first, first_broken, first_reason, reason_of, same_place}
use Rattle.hz_reasons.specs.Breaking.{reason_at, is_broken_by, broken_by, broken_first_by, first_broken_by, is_held_with, IsNumbered}
use Rattle.hz_reasons.specs.Calendars.{parts_of, parts_at}
use Rattle.hz_reasons.specs.Plans as plans
use Rattle.hz_reasons.specs.Plans.{place_of, statement_of, in_automaton, choices_at, part_at, IsPlanOf, AreFuture}
use Rattle.hz_reasons.specs.Taken.{is_held, is_reserved}
use Rattle.hz_reasons.specs.declared.plan.Place.{Place}
use Rattle.hz_reasons.specs.declared.plan.Choice.{Choice}
use Rattle.hz_reasons.specs.declared.plan.Plan.{Plan}
use Rattle.hz_reasons.specs.declared.plan.SetStatement.{SetStatement}
use Rattle.hz_reasons.specs.declared.reasons.Reason.{Reason}
use Rattle.hz_reasons.proofs.Finding.{find_alike, any_alike, all_alike, find_mapped}
use Rattle.hz_reasons.proofs.TakenLaws.{held_alike}

-- ---- a search of pairs that are placed

module _ {A B R : Type 0} (v : A → B) (t : A → Bool) (w : B → Bool) (f : A → Option R) (g : B → Option R) where
  searched_by : ((x : A) → g (v x) ≡ f x) → (found : Option A) → option_and_then g (option_map v found) ≡ option_and_then f found
  searched_by answers None = refl
  searched_by answers (Some x) = answers x

  searched : ((x : A) → w (v x) ≡ t x) → ((x : A) → g (v x) ≡ f x) → (xs : List A) → option_and_then g (find w (map v xs)) ≡ option_and_then f (find t xs)
  searched tests answers xs =
      ap (option_and_then g) (find_mapped v w xs ∙ ap (option_map v) (find_alike (λ x. w (v x)) t xs (λ x there. tests x)))
      ∙ searched_by answers (find t xs)

mapped_twice : {A B C : Type 0} (g : B → C) (f : A → B) (o : Option A) → option_map g (option_map f o) ≡ option_map (λ x. g (f x)) o
mapped_twice g f None = refl
mapped_twice g f (Some x) = refl

-- ---- tests that answer alike on the units of a statement

both : {A B C : Type 0} (h : A → B → C) {a b : A} {x y : B} → a ≡ b → x ≡ y → h a x ≡ h b y
both h e f = rw (e, f) refl

module _ (IsLow : UnitPlace → Type 0) (source added result source2 added2 result2 : UnitPlace → Bool)
    (there : (u : UnitPlace) → IsLow u → source u ≡ source2 u) (more : (u : UnitPlace) → IsLow u → added u ≡ added2 u) (all : (u : UnitPlace) → IsLow u → result u ≡ result2 u)
    (units : List UnitPlace) (low : (u : UnitPlace) → Contains units u → IsLow u)
    (patterns : List (List UnitPlace)) (lower : (pattern : List UnitPlace) → Contains patterns pattern → (u : UnitPlace) → Contains pattern u → IsLow u)
  where
    abbrev Alike : (f g : UnitPlace → Bool) → Type 0
    Alike f g = (u : UnitPlace) → IsLow u → f u ≡ g u

    some : (f g : UnitPlace → Bool) → Alike f g → list_any f units ≡ list_any g units
    some f g e = any_alike f g units (λ u is. e u (low u is))

    whole : (f g : UnitPlace → Bool) → Alike f g → holds_pattern patterns f ≡ holds_pattern patterns g
    whole f g e = any_alike (λ pattern. list_all f pattern) (λ pattern. list_all g pattern) patterns (λ pattern is. all_alike f g pattern (λ u h. e u (lower pattern is u h)))

    first : (f g : UnitPlace → Bool) → Alike f g → first_whole patterns f ≡ first_whole patterns g
    first f g e = ap (λ (o : Option (List UnitPlace)). unwrap_or o [])
        (find_alike (λ pattern. list_all f pattern) (λ pattern. list_all g pattern) patterns (λ pattern is. all_alike f g pattern (λ u h. e u (lower pattern is u h))))

    asks_alike : (kind : SetKind) → asks kind units patterns source added result ≡ asks kind units patterns source2 added2 result2
    asks_alike exclusion = both (λ a b. not (a && b)) (some result result2 all) (whole result result2 all)
    asks_alike presence = both (λ a b. not a || b) (some added added2 more) (whole source source2 there)
    asks_alike final_presence = both (λ a b. not a || b) (some added added2 more) (whole result result2 all)
    asks_alike absence = both (λ a b. not (a && b)) (some added added2 more) (whole source source2 there)
    asks_alike final_absence = both (λ a b. not (a && b)) (some added added2 more) (whole result result2 all)

    breaking_alike : (kind : SetKind) → find (breaking kind added result) units ≡ find (breaking kind added2 result2) units
    breaking_alike exclusion = find_alike result result2 units (λ u is. all u (low u is))
    breaking_alike presence = find_alike added added2 units (λ u is. more u (low u is))
    breaking_alike final_presence = find_alike added added2 units (λ u is. more u (low u is))
    breaking_alike absence = find_alike added added2 units (λ u is. more u (low u is))
    breaking_alike final_absence = find_alike added added2 units (λ u is. more u (low u is))

    pattern_alike : (kind : SetKind) → breaking_pattern kind patterns source result ≡ breaking_pattern kind patterns source2 result2
    pattern_alike exclusion = first result result2 all
    pattern_alike presence = refl
    pattern_alike final_presence = refl
    pattern_alike absence = first source source2 there
    pattern_alike final_absence = first result result2 all

-- ---- by automata and by the calendar

module _ (m : Pipeline UnitPlace) (plan : Plan) (is : IsPlanOf m plan) (grids : List (List (Pair ℕ))) (each : length grids ≡ length plan.rules.items) (s : State UnitPlace) (future : AreFuture grids s) where
  abbrev IsLow : UnitPlace → Type 0
  IsLow u = u.automaton < length grids

  standing : (cycle : ℕ) (u : UnitPlace) → IsLow u → holds same_place s.reserved (s.now + cycle) u ≡ is_held grids cycle u
  standing cycle u low = held_alike grids s.reserved u cycle (s.now + cycle) (future u.automaton u.unit cycle low)

  module _ (k i : ℕ) (lt : i < length (choices_at plan k)) where
    abbrev parts : List (List (Pair ℕ))
    parts = parts_at (choices_at plan k) i

    abbrev pairs : List Place
    pairs = plans.pairs_at (choices_at plan k) i

    abbrev added : List (Pair UnitPlace)
    added = placed s.now (ascending (chosen m k i))

    adding : (cycle : ℕ) (u : UnitPlace) → IsLow u → holds same_place added (s.now + cycle) u ≡ is_held parts cycle u
    adding cycle u low =
        let part = is.parts k i u.automaton u.unit cycle lt (omega arith) in
        let listed = same_ascending (chosen m k i) (in_automaton u.automaton u.unit cycle) in
        let moved = holds_moved s.now cycle (ascending (chosen m k i)) u in
        held_alike parts added u cycle (s.now + cycle) (λ h. moved.0 (listed.1 (part.0 h)), λ h. part.1 (listed.0 (moved.1 h)))

    together : (cycle : ℕ) (u : UnitPlace) → IsLow u → holds same_place (s.reserved ++ added) (s.now + cycle) u ≡ is_held_with grids parts cycle u
    together cycle u low =
        list_any-append (λ q. same_place q.unit u && q.cycle == s.now + cycle) s.reserved added
        ∙ both ◌||◌ (standing cycle u low) (adding cycle u low)

    -- ---- one statement

    module _ (t : Statement UnitPlace) (there : Contains m.statements t) where
      low_units : (u : UnitPlace) → Contains t.units u → IsLow u
      low_units u h = let found = is.statements t there in let a = found.2.units u h in let low = found.1 in omega arith

      low_patterns : (pattern : List UnitPlace) → Contains t.patterns pattern → (u : UnitPlace) → Contains pattern u → IsLow u
      low_patterns pattern h u x = let found = is.statements t there in let a = found.2.patterns pattern h u x in let low = found.1 in omega arith

      test_alike : (cycle : ℕ) → is_broken_in same_place s.reserved added t (s.now + cycle) ≡ is_broken_by (is_held grids) (is_held parts) (is_held_with grids parts) t cycle
      test_alike cycle = ap not (asks_alike IsLow _ _ _ _ _ _ (standing cycle) (adding cycle) (together cycle) t.units low_units t.patterns low_patterns t.kind)

      break_alike : (number cycle : ℕ) → broken_in same_place s.reserved added number t (s.now + cycle) ≡ broken_by (is_held grids) (is_held parts) (is_held_with grids parts) s.now number t cycle
      break_alike number cycle = both (λ (pattern : List UnitPlace) (o : Option UnitPlace). option_map (λ u. broken number (s.now + cycle) u pattern) o)
          (pattern_alike IsLow _ _ _ _ _ _ (standing cycle) (adding cycle) (together cycle) t.units low_units t.patterns low_patterns t.kind)
          (breaking_alike IsLow _ _ _ _ _ _ (standing cycle) (adding cycle) (together cycle) t.units low_units t.patterns low_patterns t.kind)

      -- the same in the first cycle of a pair
      first_alike : (number : ℕ) → broken_first same_place s.reserved added number t ≡ broken_first_by (is_held grids) (is_held parts) (is_held_with grids parts) s.now number t pairs
      first_alike number =
          let list : added ≡ map (λ p. later s.now (place_of p)) pairs = ap (placed s.now) (sym (is.listed k i lt)) ∙ map-map (later s.now) place_of pairs in
          ap (λ (ps : List (Pair UnitPlace)). option_and_then (λ p. broken_in same_place s.reserved added number t p.cycle) (find (λ p. is_broken_in same_place s.reserved added t p.cycle) ps)) list
          ∙ searched (λ p. later s.now (place_of p)) _ _ _ _ (λ p. test_alike p.cycle) (λ p. break_alike number p.cycle) pairs

    -- ---- all of them

    statements_alike : (number : ℕ) (ts : List (Statement UnitPlace)) → ((t : Statement UnitPlace) → Contains ts t → Contains m.statements t) → first_broken same_place s.reserved added number ts ≡ first_broken_by (is_held grids) (is_held parts) (is_held_with grids parts) s.now number ts pairs
    statements_alike number [] there = refl
    statements_alike number (t ∷ ts) there =
        both or_else (first_alike t (there t (Contains-head t ts)) number) (statements_alike (suc number) ts (λ u h. there u (Contains-tail t u ts h)))

    -- the first pair
    low_pair : (p : Place) → Contains pairs p → p.automaton < length grids
    low_pair p h =
        let listed = subst (λ (ps : List (Pair UnitPlace)). Contains ps (place_of p)) (is.listed k i lt) (Contains-map place_of pairs p h) in
        let low = is.pairs k i (place_of p) ((same_ascending (chosen m k i) (place_of p)).0 listed) in
        omega arith

    taken_alike : option_map taken (find (has same_place s.reserved) added) ≡ option_map (λ p. taken (later s.now (place_of p))) (find (is_reserved grids) pairs)
    taken_alike =
        let list : added ≡ map (λ p. later s.now (place_of p)) pairs = ap (placed s.now) (sym (is.listed k i lt)) ∙ map-map (later s.now) place_of pairs in
        let found = find_mapped (λ p. later s.now (place_of p)) (has same_place s.reserved) pairs in
        let same = find_alike (λ p. has same_place s.reserved (later s.now (place_of p))) (is_reserved grids) pairs (λ p h. standing p.cycle (record { automaton = p.automaton; unit = p.unit }) (low_pair p h)) in
        ap (λ (ps : List (Pair UnitPlace)). option_map taken (find (has same_place s.reserved) ps)) list
        ∙ ap (option_map taken) (found ∙ ap (option_map (λ p. later s.now (place_of p))) same)
        ∙ mapped_twice taken (λ p. later s.now (place_of p)) (find (is_reserved grids) pairs)

    pub reason_means : (a : Alternative UnitPlace) → slice_get (alternatives_at m k) i ≡ Some a
        → or_else (option_map (λ p. taken (later s.now (place_of p))) (find (is_reserved grids) pairs)) (first_broken_by (is_held grids) (is_held parts) (is_held_with grids parts) s.now 0 m.statements pairs)
        ≡ reason_of same_place place_cmp m.statements s.reserved s.now a
    reason_means a there =
        sym (both or_else taken_alike (statements_alike 0 m.statements (λ t h. h)))
        ∙ ap (λ (o : Option (Alternative UnitPlace)). first_reason same_place s.reserved (placed s.now (ascending (pairs_at o))) m.statements) there

-- ---- what is answered, of the statements, grids and alternative that are read

-- what is answered in these words
abbrev Answers : (now : ℕ) → Option Reason → List (Statement UnitPlace) → (grids parts : List (List (Pair ℕ))) → List Place → Type 0
Answers now result statements grids parts pairs =
    option_map (reason_at statements now) result
    ≡ or_else (option_map (λ p. taken (later now (place_of p))) (find (is_reserved grids) pairs)) (first_broken_by (is_held grids) (is_held parts) (is_held_with grids parts) now 0 statements pairs)

pub reason_read : (m : Pipeline UnitPlace) (plan : Plan) → IsPlanOf m plan → (grids : List (List (Pair ℕ))) → length grids ≡ length plan.rules.items → (s : State UnitPlace) → AreFuture grids s → (k i : ℕ) → i < length (choices_at plan k) → (a : Alternative UnitPlace) → slice_get (alternatives_at m k) i ≡ Some a
    → (sets : List SetStatement) (read : List (List (Pair ℕ))) (choice : Choice) (result : Option Reason) → sets ≡ plan.sets.items → read ≡ grids → slice_get (choices_at plan k) i ≡ Some choice → Answers s.now result (map statement_of sets) read choice.parts.items choice.pairs.items
    → option_map (reason_at m.statements s.now) result ≡ reason_of same_place place_cmp m.statements s.reserved s.now a
reason_read m plan is grids each s future k i lt a there sets read choice result same grid at answers =
    let first = subst (λ (ts : List (Statement UnitPlace)). Answers s.now result ts read choice.parts.items choice.pairs.items) (ap (map statement_of) same ∙ is.sets) answers in
    let second = subst (λ (gs : List (List (Pair ℕ))). Answers s.now result m.statements gs choice.parts.items choice.pairs.items) grid first in
    let third = subst (λ (o : Option Choice). Answers s.now result m.statements grids (parts_of o) (plans.pairs_of o)) (sym at) second in
    third ∙ reason_means m plan is grids each s future k i lt a there

-- the number of a pattern, where the statements, grids and alternative are read
pub numbered_read : (sets all : List SetStatement) (read grids : List (List (Pair ℕ))) (choices : List Choice) (i : ℕ) (choice : Choice) (result : Option Reason) → sets ≡ all → read ≡ grids → slice_get choices i ≡ Some choice
    → IfSome result (IsNumbered (map statement_of sets) read choice.parts.items) → IfSome result (IsNumbered (map statement_of all) grids (parts_at choices i))
numbered_read sets all read grids choices i choice result same grid at reported =
    let first = subst (λ (ts : List SetStatement). IfSome result (IsNumbered (map statement_of ts) read choice.parts.items)) same reported in
    let second = subst (λ (gs : List (List (Pair ℕ))). IfSome result (IsNumbered (map statement_of all) gs choice.parts.items)) grid first in
    subst (λ (o : Option Choice). IfSome result (IsNumbered (map statement_of all) grids (parts_of o))) (sym at) second
