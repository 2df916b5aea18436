-- What every checked description keeps, as compiling asks for it.
use Rattle.std.proofs.Common.{◌≡◌, ◌≢◌, ℕ, zero, suc, ◌+◌, ◌<◌, ◌≤◌, List, [], ◌∷◌, ◌++◌, length, map, take, get_or, slice_get, Option, Some, None, All, refl, sym, ap, ◌∙◌, subst, arith, IsTrue}
use Rattle.std.specs.Prelude.{slice_index_or}
use Rattle.std.specs.List.{AllPairs}
use Rattle.std.proofs.lemmas.List.{length-map, get_or-map, take_more, map_push}
use Rattle.std.proofs.lemmas.Option.{none-some, slice_get-get_or}
use Rattle.std.specs.declared.alloc.Global.{Global}
use Rattle.std.specs.declared.vec.Vec.{Vec}
use Rattle.hz_base_model.specs.Pairs.{Pair}
use Rattle.hz_base_model.specs.Limits.{automaton_limit, class_limit, unit_limit}
use Rattle.hz_description_model.specs.Reservations.Sets.{Statement}
use Rattle.hz_description_model.specs.Check.CheckedParts.{AutomatonParts, ClassParts}
use Rattle.hz_description_model.proofs.Check.QueryPlaces.{names_of_their_own}
use Rattle.hz_checked.specs.declared.checked.Checked.{Checked}
use Rattle.hz_checked.specs.declared.checked.CheckedAutomaton.{CheckedAutomaton}
use Rattle.hz_checked.specs.declared.checked.CheckedClass.{CheckedClass}
use Rattle.hz_checked.specs.Shape.{automaton_of, class_of}
use Rattle.hz_unitsets.specs.SetRules.{statement_of, statements_of, IsInRange}
use Rattle.hz_tables.specs.declared.part.Part.{Part}
use Rattle.hz_tables.specs.Parts.{part_of}
use Rattle.hz_pipeline_model.specs.Tables.Machines as model
use Rattle.hz_pipeline_model.specs.Tables.Machines.{IsMachine, IsPart}
use Rattle.hz_auto.specs.Machines.{AskQueries}
use Rattle.hz_pipeline_model.specs.Compiling.AutomatonPipelines.{automaton_at, lists_at, queries_at, no_automaton}

pub map_twice : {A B C : Type 0} (f : B → C) (g : A → B) (xs : List A) → map f (map g xs) ≡ map (λ x. f (g x)) xs
map_twice f g [] = refl
map_twice f g (x ∷ xs) = ap (λ (ys : List _). f (g x) ∷ ys) (map_twice f g xs)

-- an item stands at each place
no_item : {A : Type 0} (xs : List A) (k : ℕ) → k < length xs → slice_get xs k ≡ None → ⊥
no_item [] k low e = omega (arith, low)
no_item (x ∷ xs) k low e = none-some (get_or (x ∷ xs) k x) (sym e ∙ slice_get-get_or (x ∷ xs) k x low)

-- the units that a statement names are below a number
abbrev Names : ℕ → Statement ℕ → Type 0
Names n s = All (λ u. u < n) s.units × All (λ pattern. All (λ u. u < n) pattern) s.patterns

-- the sets of an automaton with few units, whose sets name units of it, are in range
in_range : (a : CheckedAutomaton) → length a.units.items ≤ unit_limit → All (Names (length a.units.items)) (statements_of a.sets.items) → All IsInRange a.sets.items
in_range a few all k d within =
    let set = get_or a.sets.items k d in
    let is : Names (length a.units.items) (statement_of set) = subst (Names (length a.units.items)) (get_or-map statement_of a.sets.items k d (statement_of d) within) (all k (statement_of d) (omega (arith, within, length-map a.sets.items statement_of))) in
    record {
      units = λ i e low. let below = is.0 i e low in omega (arith, below, few);
      patterns = λ i e low j f under.
          let there = is.1 i e.items (omega (arith, low, length-map set.patterns.items (λ p. p.items))) in
          let below = subst (All (λ u. u < length a.units.items)) (get_or-map (λ p. p.items) set.patterns.items i e e.items low) there j f under in
          omega (arith, below, few);
    }

-- numbers of units of an automaton, in ascending order
abbrev AreQueries : AutomatonParts → Type 0
AreQueries p = AllPairs (λ m n. m < n) p.queries × All (λ n. n < length p.units) p.queries

-- ascending numbers below a number are no more
ascending_few : (ns : List ℕ) (limit : ℕ) → AllPairs (λ m n. m < n) ns → All (λ n. n < limit) ns → length ns ≤ limit
ascending_few ns limit up below = from_place (length ns) refl
  where
    high : (i : ℕ) → i < length ns → i ≤ get_or ns i 0
    high zero low = omega arith
    high (suc i) low =
        let before = high i (omega (arith, low)) in
        let less = up i (suc i) 0 (omega arith) low in
        omega (arith, before, less)

    from_place : (n : ℕ) → length ns ≡ n → length ns ≤ limit
    from_place zero e = omega (arith, e)
    from_place (suc n) e =
        let inside : n < length ns = omega (arith, e) in
        let last = high n inside in
        let cap = below n 0 inside in
        omega (arith, e, last, cap)

module _ (checked : Checked) where
  -- the automaton of a number
  pub automaton_there : (a : ℕ) (d : CheckedAutomaton) → a < length checked.automata.items → automaton_at (map automaton_of checked.automata.items) a ≡ automaton_of (get_or checked.automata.items a d)
  automaton_there a d low = get_or-map automaton_of checked.automata.items a d (record { name = []; units = []; queries = []; statements = [] }) low

  pub sets_in_range : (a : ℕ) (d : CheckedAutomaton) → a < length checked.automata.items → All IsInRange (get_or checked.automata.items a d).sets.items
  sets_in_range a d low =
      let items = checked.automata.items in
      let within : a < length (map automaton_of items) = omega (arith, low, length-map items automaton_of) in
      let same : get_or (map automaton_of items) a (automaton_of d) ≡ automaton_of (get_or items a d) = get_or-map automaton_of items a d (automaton_of d) low in
      in_range (get_or items a d)
      (subst (λ (p : AutomatonParts). length p.units ≤ unit_limit) same (checked.kept.units a (automaton_of d) within))
      (subst (λ (p : AutomatonParts). All (Names (length p.units)) p.statements) same (checked.kept.sets a (automaton_of d) within))

  -- the query units of an automaton are units of it
  pub queries_below : (a : ℕ) (d : CheckedAutomaton) → a < length checked.automata.items → All (λ unit. unit < length (get_or checked.automata.items a d).units.items) (get_or checked.automata.items a d).queries.items
  queries_below a d low =
      let items = checked.automata.items in
      let within : a < length (map automaton_of items) = omega (arith, low, length-map items automaton_of) in
      let same : get_or (map automaton_of items) a (automaton_of d) ≡ automaton_of (get_or items a d) = get_or-map automaton_of items a d (automaton_of d) low in
      (subst AreQueries same (checked.kept.queries a (automaton_of d) within)).1

  -- they are not too many
  pub queries_few : (a : ℕ) → a < length checked.automata.items → length (queries_at (map automaton_of checked.automata.items) a) ≤ unit_limit
  queries_few a low =
      let within : a < length (map automaton_of checked.automata.items) = omega (arith, low, length-map checked.automata.items automaton_of) in
      let are = checked.kept.queries a no_automaton within in
      let units = checked.kept.units a no_automaton within in
      let few = ascending_few (queries_at (map automaton_of checked.automata.items) a) (length (automaton_at (map automaton_of checked.automata.items) a).units) are.0 are.1 in
      omega (arith, few, units)

  -- and with the option `ndfa` there is none
  pub no_queries : (a : ℕ) → a < length checked.automata.items → IsTrue checked.options.ndfa → queries_at (map automaton_of checked.automata.items) a ≡ []
  no_queries a low ndfa = checked.asks ndfa a no_automaton (omega (arith, low, length-map checked.automata.items automaton_of))

  -- its classes have different names
  names_apart : AllPairs (λ a b. a ≢ b) (map (λ (c : CheckedClass). c.name) checked.classes.items)
  names_apart = subst (AllPairs (λ a b. a ≢ b)) (map_twice (λ (p : ClassParts). p.name) class_of checked.classes.items) checked.kept.class_names

  -- there are few of them
  pub few_classes : length checked.classes.items ≤ class_limit
  few_classes = let few = checked.kept.class_count in omega (arith, few, length-map checked.classes.items class_of)

  pub few_automata : length checked.automata.items ≤ automaton_limit
  few_automata = let few = checked.kept.few in omega (arith, few, length-map checked.automata.items automaton_of)

  -- each class has a list for each automaton
  pub have_lists : (a : ℕ) → a < length checked.automata.items → All (λ c. a < length c.lists.items) checked.classes.items
  have_lists a low k other within =
      let as_many : ClassParts → Type 0 = λ p. length p.lists ≡ length (map automaton_of checked.automata.items) in
      let there = checked.kept.lists k (class_of other) (omega (arith, within, length-map checked.classes.items class_of)) in
      let here : as_many (class_of (get_or checked.classes.items k other)) = subst as_many (get_or-map class_of checked.classes.items k other (class_of other) within) there in
      omega (arith, here, low, length-map checked.automata.items automaton_of, length-map (get_or checked.classes.items k other).lists.items (λ list. list.items))

  -- what a machine keeps
  pub machine_kept : (names : List (List ℕ)) (parts : List Part) → names ≡ map (λ (c : CheckedClass). c.name) checked.classes.items → length parts ≡ length checked.automata.items → All (λ part. IsPart (length checked.classes.items) (part_of part)) parts → AskQueries checked parts → IsMachine (record { classes = names; parts = map part_of parts })
  machine_kept names parts named each kept asks =
      let some = checked.kept.some in
      let few = checked.kept.few in
      let count = length-map checked.automata.items automaton_of in
      let as_many : length names ≡ length checked.classes.items = ap length named ∙ length-map checked.classes.items (λ c. c.name) in
      record {
        some = omega (arith, some, count, each, length-map parts part_of);
        few = omega (arith, few, count, each, length-map parts part_of);
        class_count = omega (arith, as_many, few_classes);
        class_names = subst (AllPairs (λ a b. a ≢ b)) (sym named) names_apart;
        parts = λ k d low.
            let within : k < length parts = omega (arith, low, length-map parts part_of) in
            subst (λ n. IsPart n (get_or (map part_of parts) k d)) (sym as_many) (kept_at k d within);
        ask_names = subst (AllPairs (λ a b. a ≢ b)) (sym asks) (names_of_their_own (map automaton_of checked.automata.items) checked.kept.unit_names checked.kept.queries);
      }
    where
      kept_at : (k : ℕ) (d : model.Part) → k < length parts → IsPart (length checked.classes.items) (get_or (map part_of parts) k d)
      kept_at k d within = by_part (slice_get parts k) refl
        where
          by_part : (o : Option Part) → slice_get parts k ≡ o → IsPart (length checked.classes.items) (get_or (map part_of parts) k d)
          by_part None e = absurd (no_item parts k within e)
          by_part (Some part) e = subst (IsPart (length checked.classes.items)) (sym (get_or-map part_of parts k part d within)) (kept k part within)

-- one class more is looked at
pub lists_more : (classes : List CheckedClass) (a i : ℕ) (c : CheckedClass) (list : List (List (Pair ℕ))) → i < length classes → c ≡ get_or classes i c → slice_index_or (class_of c).lists a [] ≡ list → lists_at (map class_of (take (i + 1) classes)) a ≡ lists_at (map class_of (take i classes)) a ++ list ∷ []
lists_more classes a i c list low is there =
    ap (λ cs. lists_at (map class_of cs) a) (take_more classes i c low ∙ ap (λ x. take i classes ++ x ∷ []) (sym is))
    ∙ (ap (λ ps. lists_at ps a) (map_push class_of (take i classes) c)
    ∙ (map_push (λ (p : ClassParts). slice_index_or p.lists a []) (map class_of (take i classes)) (class_of c)
    ∙ ap (λ l. lists_at (map class_of (take i classes)) a ++ l ∷ []) there))

-- the list of a class in an automaton
pub list_held : (c : CheckedClass) (a : ℕ) (d : Vec (List (Pair ℕ)) Global) → a < length c.lists.items → slice_index_or (class_of c).lists a [] ≡ (get_or c.lists.items a d).items
list_held c a d low = get_or-map (λ list. list.items) c.lists.items a d [] low

pub lists_count : (classes : List CheckedClass) (a : ℕ) → length (lists_at (map class_of classes) a) ≡ length classes
lists_count classes a = length-map (map class_of classes) (λ p. slice_index_or p.lists a []) ∙ length-map classes class_of
