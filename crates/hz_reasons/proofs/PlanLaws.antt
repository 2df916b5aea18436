-- A plan of the parts of a description is one of its pipeline.
use Rattle.std.proofs.Common.{◌≡◌, ◌≤◌, ⊎_elim, ℕ, zero, suc, ◌+◌, ◌<◌, zero-add, List, [], ◌∷◌, ◌++◌, map, take, length, get_or, Contains, Option, Some, None, All, Bool, refl, sym, ap, ◌∙◌, subst, arith, slice_get}
use Rattle.std.specs.Prelude.{◌↔◌, if◌then◌else◌}
use Rattle.std.specs.List.{range_with_len}
use Rattle.std.specs.Option.{option_map}
use Rattle.std.specs.declared.alloc.Global.{Global}
use Rattle.std.specs.declared.vec.Vec.{Vec}
use Rattle.std.proofs.lemmas.List.{length_push, get_or_push, get_or_append_left, get_or_read_under, length-map, get_or-map, map_more, map_push}
use Rattle.std.proofs.lemmas.Bool.{cases_lt}
use Rattle.std.proofs.lemmas.List.FromFn.{get_or-map-range_with_len, length-map-range_with_len}
use Rattle.hz_description_model.specs.Reservations.Sets.{Statement}
use Rattle.std.proofs.lemmas.Option.{none-some, slice_get-map, slice_get-get_or}
use Rattle.hz_altern.specs.Shapes.{alternatives}
use Rattle.hz_altern.specs.declared.alternative.Alt.{Alt}
use Rattle.hz_base_model.specs.Pairs.{Pair}
use Rattle.hz_checked.specs.declared.checked.CheckedAutomaton.{CheckedAutomaton}
use Rattle.hz_check.specs.declared.parts.Parts.{Parts}
use Rattle.hz_check.specs.Parts.{IsPartsOf}
use Rattle.hz_check.specs.Parts.Assembly.{placed_statement}
use Rattle.hz_checked.specs.Shape.{automaton_of}
use Rattle.hz_check.proofs.Built.PartSteps.{length-automata}
use Rattle.hz_description_model.specs.Check.CheckedParts.{AutomatonParts, automaton_count, automaton_names, automata_from, automata_of, statements_in}
use Rattle.hz_base_model.specs.Limits.{automaton_limit, unit_limit}
use Rattle.hz_description_model.specs.Reading.Descriptions.{Description, ClassItem}
use Rattle.hz_description_model.specs.Reading.DescriptionShape.{IsCheckable}
use Rattle.hz_description_model.specs.Reservations.AlternativeLists.{IsCuttable}
use Rattle.hz_description_model.proofs.Check.KeptLaws.{parts_kept}
use Rattle.hz_description_model.proofs.Reservations.PlacedLaws.{sound_cut}
use Rattle.hz_description_model.specs.Reservations.Alternatives.{Alternative, alternatives_of}
use Rattle.hz_description_model.specs.Reservations.Automata.{UnitPlace, ascending, cut, listed}
use Rattle.hz_description_model.proofs.Reservations.AscendingLaws.{same_ascending}
use Rattle.hz_pipeline_model.specs.Accepting.Replay as replay
use Rattle.hz_pipeline_model.specs.Accepting.Replay.{Pipeline, alternatives_at, chosen, of_class, any_fit, first_fit}
use Rattle.hz_pipeline_model.specs.Accepting.Fitting.{AskTheSame}
use Rattle.hz_unitsets.specs.SetRules.{statement_of as set_statement, statements_of, IsInRange}
use Rattle.hz_pipeline_model.specs.Pipelines.Pipelines.{pipeline_with, class_of}
use Rattle.hz_pipeline_model.proofs.Accepting.InsideFits.{seen_cut}
use Rattle.hz_pipeline_model.proofs.Pipelines.JointLaws.{joint}
use Rattle.hz_pipeline_model.proofs.Pipelines.SideBySide.{chosen_low}
use Rattle.hz_reasons.specs.Calendars.{at, parts_of, parts_at}
use Rattle.hz_reasons.specs.Planning.{InParts, parts_in, in_parts, classes_in, in_classes, AreRulesUpTo}
use Rattle.hz_reasons.specs.Plans.{statement_of, in_automaton, choices_of, choices_at, part_at, pairs_of, pairs_at, place_of, statements_inside, IsPlanOf}
use Rattle.hz_reasons.specs.declared.plan.Choice.{Choice}
use Rattle.hz_reasons.specs.declared.plan.Plan.{Plan}

-- one item more is made
pub made_more : {A B C : Type 0} (f : B → C) (g : A → C) (made : List B) (items : List A) (k : ℕ) (new : B) (item : A) → item ≡ get_or items k item → k < length items
    → map f made ≡ map g (take k items) → f new ≡ g item → map f (made ++ new ∷ []) ≡ map g (take (k + 1) items)
made_more f g made items k new item is low so one =
    map_push f made new ∙ (ap (λ (l : List _). l ++ f new ∷ []) so ∙ (ap (λ (x : _). map g (take k items) ++ x ∷ []) (one ∙ ap g is) ∙ sym (map_more g items k item low)))

pub map_twice : {A B C : Type 0} (f : B → C) (g : A → B) (xs : List A) → map f (map g xs) ≡ map (λ x. f (g x)) xs
map_twice f g [] = refl
map_twice f g (x ∷ xs) = ap (λ (ys : List _). f (g x) ∷ ys) (map_twice f g xs)

-- the rules of one automaton more
pub rules_more : (automata : List CheckedAutomaton) (k : ℕ) (automaton : CheckedAutomaton) (rules new : List (List (Statement ℕ))) (built : List (Statement ℕ)) → automaton ≡ get_or automata k automaton → k < length automata → new ≡ rules ++ built ∷ []
    → AskTheSame built (statements_of automaton.sets.items) → AreRulesUpTo k automata rules → AreRulesUpTo (k + 1) automata new
rules_more automata k automaton rules new built is low pushed same before = record {
  each = omega (arith, ap length pushed, length_push rules built, before.each);
  asks = λ a d lt. ⊎_elim
      (λ (less : a < k).
      let there : at new a ≡ at rules a = ap (λ (rs : List (List (Statement ℕ))). at rs a) pushed ∙ get_or_append_left rules (built ∷ []) [] a (omega (arith, less, before.each)) in
      subst (λ (r : List (Statement ℕ)). AskTheSame r (statements_of (get_or automata a d).sets.items)) (sym there) (before.asks a d less))
      (λ (past : k ≤ a).
      let e : a ≡ k = omega (arith, lt, past) in
      let there : at new a ≡ built = ap (λ (n : ℕ). at new n) e ∙ (ap (λ (rs : List (List (Statement ℕ))). at rs k) pushed ∙ get_or_push rules built [] k before.each) in
      let item : get_or automata a d ≡ automaton = ap (λ (n : ℕ). get_or automata n d) e ∙ sym (get_or_read_under automata k (length automata) automaton d is low refl) in
      subst (λ (r : List (Statement ℕ)). AskTheSame r (statements_of (get_or automata a d).sets.items)) (sym there)
      (subst (λ (x : CheckedAutomaton). AskTheSame built (statements_of x.sets.items)) (sym item) same))
      (cases_lt a k);
}

-- ---- what is read of options

abbrev all_in : Option (List InParts) → List InParts
all_in None = []
all_in (Some x) = x

abbrev parts_from : Option InParts → List (List (Pair ℕ))
parts_from None = []
parts_from (Some x) = x.parts

abbrev pairs_from : Option InParts → List (Pair UnitPlace)
pairs_from None = []
pairs_from (Some x) = x.pairs

read_choices : (o : Option (Vec Choice Global)) → all_in (option_map (λ choices. map parts_in choices.items) o) ≡ map parts_in (choices_of o)
read_choices None = refl
read_choices (Some choices) = refl

read_parts : (o : Option Choice) → parts_from (option_map parts_in o) ≡ parts_of o
read_parts None = refl
read_parts (Some choice) = refl

read_pairs : (o : Option Choice) → pairs_from (option_map parts_in o) ≡ map place_of (pairs_of o)
read_pairs None = refl
read_pairs (Some choice) = refl

-- ---- numbers of automata

at_range : (f : ℕ → List (Pair ℕ)) (count a : ℕ) → a < count → at (map f (range_with_len 0 count)) a ≡ f a
at_range f count a low = get_or-map-range_with_len f 0 count a a [] low (zero-add a)

some_item : {X : Type 0} (xs : List X) (i : ℕ) → i < length xs → X
some_item [] i low = absurd (omega (arith, low))
some_item (x ∷ xs) i low = x

no_item : {X : Type 0} (xs : List X) (i : ℕ) → i < length xs → slice_get xs i ≡ None → ⊥
no_item xs i low e = none-some _ (sym e ∙ slice_get-get_or xs i (some_item xs i low) low)

statements_from : (d : Description) (n : ℕ) (names : List (List ℕ)) (a : ℕ) (other : AutomatonParts) → a < length names → (get_or (automata_from d n names) a other).statements ≡ statements_in d (n + a)
statements_from d n [] a other low = absurd (omega (arith, low))
statements_from d n (name ∷ names) zero other low = ap (statements_in d) (omega arith)
statements_from d n (name ∷ names) (suc a) other low = statements_from d (suc n) names a other (omega (arith, low)) ∙ ap (statements_in d) (omega arith)

module _ (d : Description) (parts : Parts) (is : IsPartsOf d parts) (plan : Plan)
    (rules : AreRulesUpTo (length parts.automata.items) parts.automata.items plan.rules.items)
    (sets : map statement_of plan.sets.items ≡ map placed_statement parts.sets.items)
    (classes : classes_in plan.classes.items ≡ in_classes (length parts.automata.items) parts.lists.items) where
  abbrev known : List ℕ → List (Alternative UnitPlace)
  known = is.known

  abbrev m : Pipeline UnitPlace
  m = pipeline_with d known

  abbrev n : ℕ
  n = length parts.automata.items

  count : n ≡ automaton_count d
  count = sym (length-map parts.automata.items automaton_of) ∙ (ap length is.automata ∙ length-automata d)

  -- ---- the alternatives of a class

  abbrev of_class_item : ClassItem → List InParts
  of_class_item c = map (in_parts n) (map listed (alternatives_of known c.expression))

  whole : classes_in plan.classes.items ≡ map of_class_item d.classes
  whole =
      classes
      ∙ (sym (map_twice (map (in_parts n)) (λ (list : Vec Alt Global). alternatives list.items) parts.lists.items)
      ∙ (ap (map (map (in_parts n))) is.lists
      ∙ map_twice (map (in_parts n)) (λ (c : ClassItem). map listed (alternatives_of known c.expression)) d.classes))

  read_class : (o : Option ClassItem) → all_in (option_map of_class_item o) ≡ map (in_parts n) (map listed (of_class (option_map (class_of known) o)))
  read_class None = refl
  read_class (Some c) = refl

  class_at : (k : ℕ) → map parts_in (choices_at plan k) ≡ map (in_parts n) (map listed (alternatives_at m k))
  class_at k =
      sym (ap all_in (slice_get-map (λ (choices : Vec Choice Global). map parts_in choices.items) plan.classes.items k) ∙ read_choices (slice_get plan.classes.items k))
      ∙ (ap (λ (all : List (List InParts)). all_in (slice_get all k)) whole
      ∙ (ap all_in (slice_get-map of_class_item d.classes k)
      ∙ (read_class (slice_get d.classes k)
      ∙ ap (λ (o : Option _). map (in_parts n) (map listed (of_class o))) (sym (slice_get-map (class_of known) d.classes k)))))

  numbers_at : (k : ℕ) → length (choices_at plan k) ≡ length (alternatives_at m k)
  numbers_at k =
      sym (length-map (choices_at plan k) parts_in)
      ∙ (ap length (class_at k)
      ∙ (length-map (map listed (alternatives_at m k)) (in_parts n)
      ∙ length-map (alternatives_at m k) listed))

  item_at : (k i : ℕ) → option_map parts_in (slice_get (choices_at plan k) i) ≡ option_map (in_parts n) (option_map listed (slice_get (alternatives_at m k) i))
  item_at k i =
      sym (slice_get-map parts_in (choices_at plan k) i)
      ∙ (ap (λ (all : List InParts). slice_get all i) (class_at k)
      ∙ (slice_get-map (in_parts n) (map listed (alternatives_at m k)) i
      ∙ ap (option_map (in_parts n)) (slice_get-map listed (alternatives_at m k) i)))

  -- ---- an alternative

  listed_from : (o : Option (Alternative UnitPlace)) → pairs_from (option_map (in_parts n) (option_map listed o)) ≡ ascending (replay.pairs_at o)
  listed_from None = refl
  listed_from (Some x) = refl

  listed_at : (k i : ℕ) → map place_of (pairs_at (choices_at plan k) i) ≡ ascending (chosen m k i)
  listed_at k i = sym (read_pairs (slice_get (choices_at plan k) i)) ∙ (ap pairs_from (item_at k i) ∙ listed_from (slice_get (alternatives_at m k) i))

  parts_listed : (k i : ℕ) → parts_at (choices_at plan k) i ≡ parts_from (option_map (in_parts n) (option_map listed (slice_get (alternatives_at m k) i)))
  parts_listed k i = sym (read_parts (slice_get (choices_at plan k) i)) ∙ ap parts_from (item_at k i)

  cut_at : (o : Option (Alternative UnitPlace)) (x : Alternative UnitPlace) → o ≡ Some x → (a : ℕ) → a < n → at (parts_from (option_map (in_parts n) (option_map listed o))) a ≡ cut a (ascending x.pairs)
  cut_at o x e a low = rw e (at_range (λ b. cut b (ascending x.pairs)) n a low)

  part_is : (k i a : ℕ) → i < length (choices_at plan k) → a < n → part_at plan k i a ≡ cut a (ascending (chosen m k i))
  part_is k i a low under = by_item (slice_get (alternatives_at m k) i) refl
    where
      by_item : (o : Option (Alternative UnitPlace)) → slice_get (alternatives_at m k) i ≡ o → part_at plan k i a ≡ cut a (ascending (replay.pairs_at o))
      by_item None e = absurd (no_item (alternatives_at m k) i (subst (λ (l : ℕ). i < l) (numbers_at k) low) e)
      by_item (Some x) e = ap (λ (ps : List (List (Pair ℕ))). at ps a) (parts_listed k i) ∙ cut_at (slice_get (alternatives_at m k) i) x e a under

  part_holds : (k i a unit cycle : ℕ) → i < length (choices_at plan k) → a < n → Contains (part_at plan k i a) (record { unit = unit; cycle = cycle }) ↔ Contains (chosen m k i) (in_automaton a unit cycle)
  part_holds k i a unit cycle low under =
      let p : Pair ℕ = record { unit = unit; cycle = cycle } in
      let seen = (seen_cut a (ascending (chosen m k i))).same p in
      let same = same_ascending (chosen m k i) (in_automaton a unit cycle) in
      subst (λ (part : List (Pair ℕ)). Contains part p ↔ Contains (chosen m k i) (in_automaton a unit cycle)) (sym (part_is k i a low under))
      (λ h. same.0 (seen.0 h), λ h. seen.1 (same.1 h))

  -- ---- the statements of an automaton

  asks_at : (a : ℕ) → a < n → AskTheSame (at plan.rules.items a) (statements_inside m a)
  asks_at a low =
      let items = parts.automata.items in
      let some : CheckedAutomaton = some_item items a low in
      let names : a < length (automaton_names d) = omega (arith, low, count) in
      let there : statements_of (get_or items a some).sets.items ≡ statements_inside m a =
      ap (λ (p : AutomatonParts). p.statements) (sym (get_or-map automaton_of items a some (automaton_of some) low))
      ∙ (ap (λ (all : List AutomatonParts). (get_or all a (automaton_of some)).statements) is.automata
      ∙ (statements_from d 0 (automaton_names d) a (automaton_of some) names ∙ ap (statements_in d) (zero-add a))) in
      subst (AskTheSame (at plan.rules.items a)) there (rules.asks a some low)

  pub plan_of : plan.any_fit ≡ d.options.ndfa → IsPlanOf m plan
  plan_of same =
      let all : length plan.rules.items ≡ n = rules.each in
      record {
        sets = sets ∙ is.sets;
        pairs = λ k i p h. let low = chosen_low (automaton_count d) m (joint d known is.sound) k i p h in omega (arith, low, count, all);
        statements = λ s h. let found = (joint d known is.sound).statements s h in (found.0, omega (arith, found.1, count, all), found.2);
        asks = λ a low. asks_at a (omega (arith, low, all));
        numbers = numbers_at;
        parts = λ k i a unit cycle low under. part_holds k i a unit cycle low (omega (arith, under, all));
        listed = λ k i low. listed_at k i;
        treatment = ap (λ (b : Bool). if b then any_fit else first_fit) (sym same);
      }

-- ---- what a plan asks of the parts

-- the lists can be cut down to grids
pub cuttable_lists : (d : Description) (parts : Parts) → IsPartsOf d parts → All (λ list. All IsCuttable (alternatives list.items)) parts.lists.items
cuttable_lists d parts is k e low = sound_cut (alternatives (get_or parts.lists.items k e).items) (is.each k e low)

-- there are not too many automata
pub few_automata : (d : Description) (parts : Parts) → IsCheckable d → IsPartsOf d parts → length parts.automata.items ≤ automaton_limit
few_automata d parts formed is =
    let few = (parts_kept d is.known formed is.sound).few in
    omega (arith, few, length-map parts.automata.items automaton_of, ap length is.automata)

-- as many classes as lists
pub many_classes : (n : ℕ) (classes : List (Vec Choice Global)) (lists : List (Vec Alt Global)) → classes_in classes ≡ in_classes n lists → length classes ≡ length lists
many_classes n classes lists same = omega (arith, ap length same, length-map classes (λ (c : Vec Choice Global). map parts_in c.items), length-map lists (λ (l : Vec Alt Global). map (in_parts n) (alternatives l.items)))

-- each alternative has a part for each automaton
pub wide_of : (n : ℕ) (classes : List (Vec Choice Global)) (lists : List (Vec Alt Global)) → classes_in classes ≡ in_classes n lists → All (λ choices. All (λ choice. length choice.parts.items ≡ n) choices.items) classes
wide_of n classes lists same k e low i f lower =
    let low_lists : k < length lists = omega (arith, low, many_classes n classes lists same) in
    let list : Vec Alt Global = some_item lists k low_lists in
    let alts : List (Alternative UnitPlace) = alternatives (get_or lists k list).items in
    let items : List Choice = (get_or classes k e).items in
    let here : map parts_in items ≡ map (in_parts n) alts =
    sym (get_or-map (λ (c : Vec Choice Global). map parts_in c.items) classes k e [] low) ∙ (ap (λ (all : List (List InParts)). get_or all k []) same ∙ get_or-map (λ (l : Vec Alt Global). map (in_parts n) (alternatives l.items)) lists k list [] low_lists) in
    let within : i < length alts = omega (arith, lower, ap length here, length-map items parts_in, length-map alts (in_parts n)) in
    let a : Alternative UnitPlace = some_item alts i within in
    let one : parts_in (get_or items i f) ≡ in_parts n (get_or alts i a) =
    sym (get_or-map parts_in items i f (parts_in f) lower) ∙ (ap (λ (all : List InParts). get_or all i (parts_in f)) here ∙ get_or-map (in_parts n) alts i a (parts_in f) within) in
    ap (λ (x : InParts). length x.parts) one ∙ length-map-range_with_len (λ (b : ℕ). cut b (get_or alts i a).pairs) 0 n

-- the statements of each automaton name units of it
in_range : (a : CheckedAutomaton) → length a.units.items ≤ unit_limit → All (λ s. All (λ u. u < length a.units.items) s.units × All (λ pattern. All (λ u. u < length a.units.items) pattern) s.patterns) (statements_of a.sets.items) → All IsInRange a.sets.items
in_range a few all k d within =
    let set = get_or a.sets.items k d in
    let is = subst (λ (s : Statement ℕ). All (λ u. u < length a.units.items) s.units × All (λ pattern. All (λ u. u < length a.units.items) pattern) s.patterns) (get_or-map set_statement a.sets.items k d (set_statement d) within) (all k (set_statement d) (omega (arith, within, length-map a.sets.items set_statement))) in
    record {
      units = λ i e low. let below = is.0 i e low in omega (arith, below, few);
      patterns = λ i e low j f under.
          let there = is.1 i e.items (omega (arith, low, length-map set.patterns.items (λ p. p.items))) in
          let below = subst (All (λ u. u < length a.units.items)) (get_or-map (λ p. p.items) set.patterns.items i e e.items low) there j f under in
          omega (arith, below, few);
    }

pub sets_in_range : (d : Description) (parts : Parts) → IsCheckable d → IsPartsOf d parts → All (λ automaton. All IsInRange automaton.sets.items) parts.automata.items
sets_in_range d parts formed is a e low =
    let items = parts.automata.items in
    let kept = parts_kept d is.known formed is.sound in
    let within : a < length (map automaton_of items) = omega (arith, low, length-map items automaton_of) in
    let inside : a < length (automata_of d) = subst (λ (all : List AutomatonParts). a < length all) is.automata within in
    let same : get_or (automata_of d) a (automaton_of e) ≡ automaton_of (get_or items a e) = ap (λ (all : List AutomatonParts). get_or all a (automaton_of e)) (sym is.automata) ∙ get_or-map automaton_of items a e (automaton_of e) low in
    in_range (get_or items a e)
    (subst (λ (p : AutomatonParts). length p.units ≤ unit_limit) same (kept.units a (automaton_of e) inside))
    (subst (λ (p : AutomatonParts). All (λ s. All (λ u. u < length p.units) s.units × All (λ pattern. All (λ u. u < length p.units) pattern) s.patterns) p.statements) same (kept.sets a (automaton_of e) inside))
