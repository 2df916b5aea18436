-- How a statement is broken, by tests of units by automaton and number.
use Rattle.std.proofs.Common.{◌≡◌, ◌<◌, ◌≤◌, ◌+◌, ℕ, zero, suc, add-one, drop, drop-cons, get_or, Bool, true, false, not, List, [], ◌∷◌, map, length, Option, Some, None, refl, sym, ap, ◌∙◌, arith}
use Rattle.std.specs.Prelude.{◌&&◌, ◌||◌, slice_get, unwrap_or, IfSome}
use Rattle.std.specs.List.{find, list_any, list_all}
use Rattle.std.specs.Option.{option_map, option_and_then, is_some}
use Rattle.std.specs.declared.alloc.Global.{Global}
use Rattle.std.specs.declared.vec.Vec.{Vec}
use Rattle.std.proofs.lemmas.List.Folds.{list_all-map}
use Rattle.std.proofs.lemmas.Option.{unwrap_or-slice_get, slice_get-map, slice_get_read}
use Rattle.std.proofs.Math.ListN.{drop_of_length-le}
use Rattle.hz_description_model.specs.Reservations.Automata.{UnitPlace}
use Rattle.hz_description_model.specs.Reservations.Sets.{SetKind, exclusion, presence, final_presence, absence, final_absence, Statement}
use Rattle.hz_base_model.specs.Pairs.{Pair}
use Rattle.hz_pipeline_model.specs.Accepting.Plays.{asks, holds_pattern}
use Rattle.hz_why_model.specs.Reasons as model
use Rattle.hz_why_model.specs.Reasons.{patterns_of, or_else, breaking, breaking_pattern, first_whole}
use Rattle.hz_reasons.specs.Breaking.{looked_in, wants, breaks, pattern_at, broken_with, reason_at, broken_first_by, first_broken_by, first_number_from, number_in, HasPatternNumber}
use Rattle.hz_reasons.specs.Plans.{unit_of, statement_of}
use Rattle.hz_reasons.specs.declared.plan.AutomatonUnit.{AutomatonUnit}
use Rattle.hz_reasons.specs.declared.plan.Place.{Place}
use Rattle.hz_reasons.specs.declared.plan.SetStatement.{SetStatement}
use Rattle.hz_reasons.specs.declared.reasons.Break.{Break}
use Rattle.hz_reasons.specs.declared.reasons.Reason.TheVariants.{Broken}
use Rattle.hz_reasons.proofs.Finding.{find_mapped, is_some-find, is_some-map, number_finds, number_mapped}

abbrev units_of : Vec AutomatonUnit Global → List UnitPlace
units_of pattern = map unit_of pattern.items

-- ---- what is found

module _ (t w : UnitPlace → Bool) (same : t ≡ w) where
  pub found_unit : (units : List AutomatonUnit) (found : Option AutomatonUnit) → found ≡ find (λ u. t (unit_of u)) units → option_map unit_of found ≡ find w (map unit_of units)
  found_unit units found is = ap (option_map unit_of) is ∙ sym (find_mapped unit_of t units) ∙ ap (λ (f : UnitPlace → Bool). find f (map unit_of units)) same

  pub numbered_whole : (patterns : List (Vec AutomatonUnit Global)) (found : Option ℕ) → found ≡ first_number_from (λ pattern. list_all (λ u. t (unit_of u)) pattern.items) 0 patterns → found ≡ first_number_from (list_all w) 0 (map units_of patterns)
  numbered_whole patterns found is =
      is
      ∙ number_mapped (list_all t) units_of (λ pattern. list_all (λ u. t (unit_of u)) pattern.items) (λ pattern. sym (list_all-map t unit_of pattern.items)) 0 patterns
      ∙ ap (λ (f : UnitPlace → Bool). first_number_from (list_all f) 0 (map units_of patterns)) same

-- the pattern of that number is found
pub found_of : (t : UnitPlace → Bool) (patterns : List (List UnitPlace)) (found : Option ℕ) → found ≡ first_number_from (list_all t) 0 patterns → option_and_then (slice_get patterns) found ≡ find (λ pattern. list_all t pattern) patterns
found_of t patterns found is = ap (option_and_then (slice_get patterns)) is ∙ number_finds (list_all t) patterns

-- a number within a list is that of an item
some_at : {X : Type 0} (xs : List X) (n : ℕ) → n < length xs → is_some (slice_get xs n) ≡ true
some_at [] n h = absurd (omega arith)
some_at (x ∷ xs) zero h = refl
some_at (x ∷ xs) (suc n) h = some_at xs n (omega arith)

is_some-within : {X : Type 0} (xs : List X) (number : Option ℕ) → IfSome number (λ n. n < length xs) → is_some (option_and_then (slice_get xs) number) ≡ is_some number
is_some-within xs None h = refl
is_some-within xs (Some n) h = some_at xs n h

pub unit_there : (t : UnitPlace → Bool) (units : List UnitPlace) (found : Option AutomatonUnit) → option_map unit_of found ≡ find t units → is_some found ≡ list_any t units
unit_there t units found is = sym (is_some-map unit_of found) ∙ ap is_some is ∙ is_some-find t units

pub whole_there : (t : UnitPlace → Bool) (patterns : List (List UnitPlace)) (found : Option ℕ) → IfSome found (λ n. n < length patterns) → option_and_then (slice_get patterns) found ≡ find (λ pattern. list_all t pattern) patterns
    → is_some found ≡ holds_pattern patterns t
whole_there t patterns found within is = sym (is_some-within patterns found within) ∙ ap is_some is ∙ is_some-find (λ pattern. list_all t pattern) patterns

-- ---- whether a statement is broken, and by which pattern

both : (a b : Bool) → (a && b) ≡ not (not (a && b))
both true true = refl
both true false = refl
both false b = refl

one : (a b : Bool) → (a && not b) ≡ not (not a || b)
one true true = refl
one true false = refl
one false b = refl

module _ (units : List UnitPlace) (patterns : List (List UnitPlace)) (source added result : UnitPlace → Bool) where
  asked : (kind : SetKind) → breaks (wants kind) (list_any (breaking kind added result) units) (holds_pattern patterns (looked_in kind source result)) ≡ not (asks kind units patterns source added result)
  asked exclusion = both (list_any result units) (holds_pattern patterns result)
  asked presence = one (list_any added units) (holds_pattern patterns source)
  asked final_presence = one (list_any added units) (holds_pattern patterns result)
  asked absence = both (list_any added units) (holds_pattern patterns source)
  asked final_absence = both (list_any added units) (holds_pattern patterns result)

  pub no_pattern : (kind : SetKind) → wants kind ≡ true → [] ≡ breaking_pattern kind patterns source result
  no_pattern exclusion e = absurd (cc)
  no_pattern presence e = refl
  no_pattern final_presence e = refl
  no_pattern absence e = absurd (cc)
  no_pattern final_absence e = absurd (cc)

  pub the_pattern : (kind : SetKind) → wants kind ≡ false → first_whole patterns (looked_in kind source result) ≡ breaking_pattern kind patterns source result
  the_pattern exclusion e = refl
  the_pattern presence e = absurd (cc)
  the_pattern final_presence e = absurd (cc)
  the_pattern absence e = refl
  the_pattern final_absence e = refl

pub broken_test : (units : List UnitPlace) (patterns : List (List UnitPlace)) (source added result : UnitPlace → Bool) (kind : SetKind) (wanted : Bool) (unit : Option AutomatonUnit) (number : Option ℕ)
    → wanted ≡ wants kind → option_map unit_of unit ≡ find (breaking kind added result) units → IfSome number (λ n. n < length patterns) → option_and_then (slice_get patterns) number ≡ find (λ pattern. list_all (looked_in kind source result) pattern) patterns
    → breaks wanted (is_some unit) (is_some number) ≡ not (asks kind units patterns source added result)
broken_test units patterns source added result kind wanted unit number w u within p =
    ap (λ (b : Bool). breaks b (is_some unit) (is_some number)) w
    ∙ ap (λ (b : Bool). breaks (wants kind) b (is_some number)) (unit_there (breaking kind added result) units unit u)
    ∙ ap (λ (b : Bool). breaks (wants kind) (list_any (breaking kind added result) units) b) (whole_there (looked_in kind source result) patterns number within p)
    ∙ asked units patterns source added result kind

pub pattern_number : (t : UnitPlace → Bool) (patterns : List (List UnitPlace)) (found : Option ℕ) → option_and_then (slice_get patterns) found ≡ find (λ pattern. list_all t pattern) patterns → pattern_at patterns found ≡ first_whole patterns t
pattern_number t patterns None is = ap (λ (o : Option (List UnitPlace)). unwrap_or o []) is
pattern_number t patterns (Some n) is = sym (unwrap_or-slice_get patterns n []) ∙ ap (λ (o : Option (List UnitPlace)). unwrap_or o []) is

-- a list that is read by another name
pub whole_read : (t : AutomatonUnit → Bool) (xs ys : List AutomatonUnit) (b e : Bool) → b ≡ list_all t xs → xs ≡ ys → b ≡ e → list_all t ys ≡ e
whole_read t xs ys b e is same reported = ap (list_all t) (sym same) ∙ sym is ∙ reported

-- ---- the first statement that is broken

-- the statement at a place
statement_there : (sets : List SetStatement) (number : ℕ) (set : SetStatement) → number < length sets → set ≡ get_or sets number set → (n : ℕ) → n ≡ number → slice_get (map statement_of sets) n ≡ Some (statement_of set)
statement_there sets number set lt is n at =
    ap (slice_get (map statement_of sets)) at ∙ slice_get-map statement_of sets number ∙ ap (option_map statement_of) (slice_get_read sets (length sets) number set refl lt is)

pub numbered_here : (sets : List SetStatement) (number : ℕ) (set : SetStatement) → number < length sets → set ≡ get_or sets number set → (grids parts : List (List (Pair ℕ))) (b : Break) → b.statement ≡ number → b.pattern ≡ number_in (statement_of set) grids parts b.cycle
    → HasPatternNumber (map statement_of sets) grids parts b
numbered_here sets number set lt is grids parts b at reported =
    ap (option_map (λ (s : Statement UnitPlace). number_in s grids parts b.cycle)) (statement_there sets number set lt is b.statement at) ∙ ap Some (sym reported)

module _ (source added result : ℕ → UnitPlace → Bool) (sets : List SetStatement) (pairs : List Place) where
  -- from the statement of a number on
  abbrev pub broken_from : (now number : ℕ) → Option (model.Reason UnitPlace)
  broken_from now number = first_broken_by source added result now number (map statement_of (drop number sets)) pairs

  next_broken : (now number : ℕ) (set : SetStatement) → number < length sets → set ≡ get_or sets number set
      → broken_from now number ≡ or_else (broken_first_by source added result now number (statement_of set) pairs) (broken_from now (suc number))
  next_broken now number set lt is =
      ap (λ (all : List SetStatement). first_broken_by source added result now number (map statement_of all) pairs) (drop-cons sets number set lt)
      ∙ ap (λ (t : SetStatement). or_else (broken_first_by source added result now number (statement_of t) pairs) (broken_from now (suc number))) (sym is)

  module _ (number : ℕ) (come : (now : ℕ) → broken_from now 0 ≡ broken_from now number) (set : SetStatement) (lt : number < length sets) (is : set ≡ get_or sets number set)
      (found : Option Break) (reported : (now : ℕ) → option_map (broken_with (statement_of set).patterns now) found ≡ broken_first_by source added result now number (statement_of set) pairs)
    where
      pub broken_past : found ≡ None → (now : ℕ) → broken_from now 0 ≡ broken_from now (number + 1)
      broken_past none now =
          come now ∙ next_broken now number set lt is
          ∙ ap (λ (o : Option (model.Reason UnitPlace)). or_else o (broken_from now (suc number))) (sym (reported now) ∙ ap (option_map (broken_with (statement_of set).patterns now)) none)
          ∙ ap (broken_from now) (sym (add-one number))

      pub broken_here : (b : Break) → found ≡ Some b → b.statement ≡ number → (now : ℕ) → Some (reason_at (map statement_of sets) now (Broken b)) ≡ broken_from now 0
      broken_here b some at now =
          ap (λ (o : Option (Statement UnitPlace)). Some (broken_with (patterns_of o) now b)) (statement_there sets number set lt is b.statement at)
          ∙ sym (come now ∙ next_broken now number set lt is
          ∙ ap (λ (o : Option (model.Reason UnitPlace)). or_else o (broken_from now (suc number))) (sym (reported now) ∙ ap (option_map (broken_with (statement_of set).patterns now)) some))

  pub broken_end : (number : ℕ) → ((now : ℕ) → broken_from now 0 ≡ broken_from now number) → length sets ≤ number → (now : ℕ) → None ≡ broken_from now 0
  broken_end number come past now =
      sym (come now ∙ ap (λ (all : List SetStatement). first_broken_by source added result now number (map statement_of all) pairs) (drop_of_length-le sets past))
