-- Every description without a fault whose automata are within their limits has a machine that is compiled of it.
use Rattle.std.proofs.Common.{◌==◌, ◌≡◌, ℕ, suc, ◌<◌, ◌≤◌, ⊎_elim, Bool, true, false, List, [], ◌∷◌, length, map, filter, get_or, All, None, Contains, refl, sym, ap, ◌∙◌, subst, arith, ◌+◌, ◌++◌, ◌≢◌, zero}
use Rattle.std.specs.Prelude.{IsTrue, codes, slice_index_or, if◌then◌else◌}
use Rattle.std.specs.Option.{ForSome}
use Rattle.std.proofs.lemmas.List.{length-map, get_or-map, get_or_default}
use Rattle.std.proofs.lemmas.List.Elements.{All-map, All-contains, Contains-get_or}
use Rattle.std.proofs.lemmas.Option.{slice_get-get_or}
use Rattle.hz_base_model.specs.Names.{is_name}
use Rattle.hz_base_model.specs.Pairs.{Pair}
use Rattle.hz_base_model.proofs.Elements.{Contains-nil, Contains-from_map, Contains-from_filter, Contains-cons_cases, Contains-head, Contains-tail}
use Rattle.hz_description_model.specs.Reservations.Alternatives.{alternatives_of}
use Rattle.hz_description_model.specs.Reservations.Automata.{list_in}
use Rattle.hz_pipeline_model.specs.Accepting.Replay.{Pipeline}
use Rattle.hz_pipeline_model.specs.Accepting.Restricted.{restricted}
use Rattle.hz_pipeline_model.proofs.Accepting.Rows.{numbers_tell}
use Rattle.hz_description_model.specs.Reading.Descriptions.{Description, matches, Options, AutomatonItem, UnitItem, ClassItem}
use Rattle.hz_description_model.specs.Reading.DescriptionShape.{IsWellFormed, IsAutomaton, IsUnit, IsClass}
use Rattle.hz_description_model.proofs.Reading.CheckableLaws.{can_be_checked}
use Rattle.hz_description_model.specs.Check.CheckFaults.{IsSound}
use Rattle.hz_description_model.specs.Check.CheckedParts.{AutomatonParts, ClassParts, automaton_names, automaton_count, automaton_parts, automata_from, automata_of, units_in, class_parts, bypass_parts, attributes_of, queries_in}
use Rattle.hz_description_model.specs.Check.CheckedShape.{IsKept, ask_names}
use Rattle.hz_description_model.specs.Check.Places.{Known, automaton_number}
use Rattle.hz_description_model.proofs.Check.KeptLaws.{parts_kept}
use Rattle.hz_pipeline_model.specs.Pipelines.Pipelines.{pipeline_with}
use Rattle.hz_pipeline_model.specs.Tables.Machines.{Machine, Part, IsMachine, IsPart, no_part, names_of}
use Rattle.hz_pipeline_model.specs.Tables.StateLimits.{state_limit}
use Rattle.hz_pipeline_model.proofs.Reaching.CountLaws.{no_count_both}
use Rattle.hz_pipeline_model.specs.Compiling.AutomatonPipelines.{automaton_at, lists_at, class_lists, automaton_pipeline, queries_at, no_automaton}
use Rattle.hz_pipeline_model.specs.Compiling.Compiled.{Report, report_at, shows_states, IsCompiledPart, IsCompiled}
use Rattle.hz_pipeline_model.specs.Compiling.CompiledParts.{HasColumns, cap_of, IsWithinLimits}
use Rattle.hz_pipeline_model.specs.Compiling.DescriptionLimits.{AllKeepLimits}
use Rattle.hz_pipeline_model.proofs.Compiling.CompiledLaws.{above_alike}
use Rattle.hz_pipeline_model.proofs.Compiling.DescriptionLaws.{automata_count, queries_there}
use Rattle.hz_pipeline_model.proofs.Compiling.PipelineLaws.{list_there, restricted_moved}
use Rattle.hz_laws.proofs.Leaving.CountsReported.{counts_reported}
use Rattle.hz_pipeline_model.specs.Single.Reported.{ListsAscending}
use Rattle.hz_tabtext_model.specs.Said.{IsInRange, counts_said}
use Rattle.hz_tabtext_model.specs.Texts.{AreCounts}
use Rattle.hz_laws.proofs.Totality.PartTotal.{AreLow, HasPart, some_part, AreQueries}
use Rattle.hz_laws.proofs.Totality.NumberedTables.{listed_values}
use Rattle.hz_description_model.proofs.Check.QueryLaws.{asks_nothing}
use Rattle.hz_description_model.proofs.Check.QueryPlaces.{names_of_their_own}
use Rattle.hz_pipeline_model.specs.Reaching.Counts.{CountIsAtMost}
use Rattle.std.specs.List.{flat_map, AllPairs}

-- ---- names

abbrev AreNames : List (List ℕ) → Type 0
AreNames names = All (λ name. IsTrue (is_name name)) names

-- what holds of each item holds of all
by_items : {X : Type 0} (P : X → Type 0) (xs : List X) → ((x : X) → Contains xs x → P x) → All P xs
by_items P xs each k d low = each (get_or xs k d) (Contains-get_or xs k d low)

module _ (d : Description) (formed : IsWellFormed d) where
  automaton_named : (name : List ℕ) → Contains (automaton_names d) name → IsTrue (is_name name)
  automaton_named name h = by_test (length d.automata == 0) h
    where
      by_test : (b : Bool) → Contains (if b then codes "-" ∷ [] else map (λ (a : AutomatonItem). a.name) d.automata) name → IsTrue (is_name name)
      by_test true h = ⊎_elim
          (λ (e : codes "-" ≡ name). subst (λ n. IsTrue (is_name n)) e refl)
          (λ none. absurd (Contains-nil name none))
          (Contains-cons_cases (codes "-") name [] h)
      by_test false h =
          let (a, inside, same) = Contains-from_map (λ (a : AutomatonItem). a.name) d.automata name h in
          let is = All-contains (IsAutomaton formed.kinds) d.automata a formed.automata inside in
          subst (λ n. IsTrue (is_name n)) same is.name

  class_named : (known : Known) → AreNames (map (λ (c : ClassParts). c.name) (map (class_parts d known) d.classes))
  class_named known = by_items (λ name. IsTrue (is_name name)) _ (λ name h.
      let (c, inside, same) = Contains-from_map (λ (c : ClassParts). c.name) (map (class_parts d known) d.classes) name h in
      let (item, there, is) = Contains-from_map (class_parts d known) d.classes c inside in
      let named = (All-contains (IsClass formed.kinds) d.classes item formed.classes there).name in
      subst (λ n. IsTrue (is_name n)) (ap (λ (p : ClassParts). p.name) is ∙ same) named)

  units_named : (n : ℕ) → AreNames (units_in d n)
  units_named n = by_items (λ name. IsTrue (is_name name)) (units_in d n) (λ name h.
      let of_it : UnitItem → Bool = λ u. automaton_number d u.automaton == n in
      let (u, inside, same) = Contains-from_map (λ (u : UnitItem). u.name) (filter of_it d.units) name h in
      let there = (Contains-from_filter of_it u d.units inside).0 in
      subst (λ k. IsTrue (is_name k)) same (All-contains (IsUnit formed.kinds) d.units u formed.units there).name)

  -- an automaton with its name and the names of its units
  AreNamed : AutomatonParts → Type 0
  AreNamed a = IsTrue (is_name a.name) × AreNames a.units

  from_named : (n : ℕ) (names : List (List ℕ)) → ((name : List ℕ) → Contains names name → IsTrue (is_name name)) → (a : AutomatonParts) → Contains (automata_from d n names) a → AreNamed a
  unfolding AreNamed
  from_named n [] each a h = absurd (Contains-nil a h)
  from_named n (name ∷ names) each a h = ⊎_elim
      (λ (e : automaton_parts d n name ≡ a). subst AreNamed e (each name (Contains-head name names), units_named n))
      (λ (rest : Contains (automata_from d (suc n) names) a). from_named (suc n) names (λ other k. each other (Contains-tail name other names k)) a rest)
      (Contains-cons_cases (automaton_parts d n name) a (automata_from d (suc n) names) h)

  name_at : (a : ℕ) → a < length (automata_of d) → IsTrue (is_name (automaton_at (automata_of d) a).name)
  unfolding AreNamed
  name_at a low = (from_named 0 (automaton_names d) automaton_named (automaton_at (automata_of d) a) (Contains-get_or (automata_of d) a _ low)).0

  all_units_named : All (λ (a : AutomatonParts). AreNames a.units) (automata_of d)
  unfolding AreNamed
  all_units_named = by_items (λ (a : AutomatonParts). AreNames a.units) (automata_of d) (λ a h. (from_named 0 (automaton_names d) automaton_named a h).1)

-- ---- query units

-- the names of query units are those of units
asks_named : (a : AutomatonParts) → AreNames a.units → All (λ n. n < length a.units) a.queries → AreNames (ask_names a)
asks_named a units queries = All-map (λ name. IsTrue (is_name name)) (λ n. slice_index_or a.units n []) a.queries (λ k e low. units (get_or a.queries k e) [] (queries k e low))

-- ascending numbers below a number are no more
ascending_few : (ns : List ℕ) (limit : ℕ) → AllPairs (λ m n. m < n) ns → All (λ n. n < limit) ns → length ns ≤ limit
ascending_few ns limit up below = from_place (length ns) refl
  where
    high : (i : ℕ) → i < length ns → i ≤ get_or ns i 0
    high zero low = omega arith
    high (suc i) low =
        let before = high i (omega (arith, low)) in
        let less = up i (suc i) 0 (omega arith) low in
        omega (arith, before, less)

    from_place : (n : ℕ) → length ns ≡ n → length ns ≤ limit
    from_place zero e = omega (arith, e)
    from_place (suc n) e =
        let inside : n < length ns = omega (arith, e) in
        let last = high n inside in
        let cap = below n 0 inside in
        omega (arith, e, last, cap)

-- parts that ask for the query units of their automata have the names of all of them
pub same_asks : (parts : List Part) (automata : List AutomatonParts) → length parts ≡ length automata → ((a : ℕ) → a < length automata → (get_or parts a no_part).asks ≡ ask_names (automaton_at automata a)) → names_of parts ≡ flat_map ask_names automata
same_asks [] [] each same = refl
same_asks [] (automaton ∷ automata) each same = absurd (omega (arith, each))
same_asks (part ∷ parts) [] each same = absurd (omega (arith, each))
same_asks (part ∷ parts) (automaton ∷ automata) each same =
    ap (λ (names : List (List ℕ)). names ++ names_of parts) (same zero (omega arith))
    ∙ ap (λ (names : List (List ℕ)). ask_names automaton ++ names) (same_asks parts automata (omega (arith, each)) (λ a low. same (suc a) (omega (arith, low))))

-- ---- the machine

-- A part of an automaton and its report, and what holds of both.
record IsPartOf (options : Options) (automata : List AutomatonParts) (classes : List ClassParts) (a : ℕ) (both : Part × Report) : Type 0 where
  compiled : IsCompiledPart options.no_minimization options automata classes a both.0 both.1
  kept : IsPart (length classes) both.0
  rows : length both.0.rows ≤ state_limit
  counts : AreCounts (counts_said both.1)
  ascending : ListsAscending both.1
  cycles : ForSome both.1.shown (λ shown. All (All AreLow) shown.states)

-- A machine that is compiled of a description, and reports.
pub record HasMachine (d : Description) (known : Known) : Type 0 where
  pub machine : Machine
  pub reports : List Report
  pub compiled : IsCompiled d.options (automata_of d) (map (class_parts d known) d.classes) machine reports
  pub is : IsMachine machine
  pub range : IsInRange (automata_of d) reports machine
  pub listed : All ListsAscending reports

module _ (d : Description) (known : Known) (formed : IsWellFormed d) (sound : IsSound d known) (keep : AllKeepLimits d known) where
  abbrev automata : List AutomatonParts
  automata = automata_of d

  abbrev classes : List ClassParts
  classes = map (class_parts d known) d.classes

  abbrev pipeline_of : ℕ → Pipeline ℕ
  pipeline_of a = automaton_pipeline d.options automata classes a

  kept : IsKept automata classes (map (bypass_parts d) d.bypasses) (attributes_of d)
  kept = parts_kept d known (can_be_checked d formed) sound

  -- the lists of the classes in an automaton
  lists_same : (a : ℕ) → a < automaton_count d → lists_at classes a ≡ class_lists d known a
  lists_same a low = of_items d.classes
    where
      of_items : (items : List ClassItem) → map (λ (p : ClassParts). slice_index_or p.lists a []) (map (class_parts d known) items) ≡ map (λ c. list_in a (alternatives_of known c.expression)) items
      of_items [] = refl
      of_items (c ∷ items) =
          ap (λ (l : List (List (Pair ℕ))). l ∷ map (λ (p : ClassParts). slice_index_or p.lists a []) (map (class_parts d known) items)) (list_there d known a low c)
          ∙ ap (λ (ls : List (List (List (Pair ℕ)))). list_in a (alternatives_of known c.expression) ∷ ls) (of_items items)

  within : (a : ℕ) → a < automaton_count d → IsWithinLimits (shows_states d.options) (lists_at classes a) (length (queries_at automata a)) (pipeline_of a)
  within a low =
      let keeps = keep a low in
      let shown = shows_states d.options in
      let width = keeps.columns + length (queries_at automata a) in
      let same : keeps.columns + length (queries_in d a) ≡ width = ap (λ queries. keeps.columns + length queries) (sym (queries_there d a low)) in record {
        columns = keeps.columns;
        has = subst (λ ls. HasColumns ls keeps.columns) (sym (lists_same a low)) keeps.has;
        counts = λ kind. ⊎_elim
            (λ few. few)
            (λ many. absurd (no_count_both (restricted a (pipeline_with d known)) width (cap_of shown kind) kind
            (above_alike (restricted a (pipeline_with d known)) (pipeline_of a) (restricted_moved d known a low) width (cap_of shown kind) kind many)
            (subst (λ n. CountIsAtMost (restricted a (pipeline_with d known)) n kind (cap_of shown kind)) same (keeps.counts kind))))
            (counts_reported ◌==◌ numbers_tell (pipeline_of a) width kind (cap_of shown kind));
      }

  -- the query units of an automaton are not too many, and there is none with the option `ndfa`
  are_queries : (a : ℕ) → a < length automata → AreQueries d.options automata a
  are_queries a low =
      let queries = kept.queries a no_automaton low in
      let units = kept.units a no_automaton low in
      let few = ascending_few (queries_at automata a) (length (automaton_at automata a).units) queries.0 queries.1 in
      record { few = omega (arith, few, units); none = λ ndfa. asks_nothing d known sound ndfa a no_automaton low }

  lists_low : (a : ℕ) → a < length automata → All (All AreLow) (lists_at classes a)
  lists_low a low i e inside =
      let many : i < length classes = omega (arith, inside, length-map classes (λ (c : ClassParts). slice_index_or c.lists a [])) in
      let fits = kept.grids i none many a (automaton_at automata a) (slice_get-get_or automata a no_automaton low) in
      subst (All AreLow) (sym (get_or-map (λ (c : ClassParts). slice_index_or c.lists a []) classes i none e many)) (λ j f in_list k g in_grid. (fits j f in_list k g in_grid).1)
    where
      none : ClassParts
      none = record { name = []; line = 0; latency = 0; condition = matches [] [] false; lists = [] }

  abbrev IsOf : ℕ → Part × Report → Type 0
  IsOf a both = IsPartOf d.options automata classes a both

  part_there : (a : ℕ) → a < length automata → (both : Part × Report) × IsOf a both
  part_there a low =
      let has : HasPart d.options.no_minimization d.options automata classes a = some_part d.options automata classes a (lists_low a low) (are_queries a low) (within a (omega (arith, low, automata_count d))) in
      ((has.part, has.report), record { compiled = has.compiled; kept = has.kept; rows = has.rows; counts = has.counts; ascending = has.ascending; cycles = has.cycles })

  abbrev no_report : Report
  no_report = record { grids = 0; states = 0; members = 0; shown = None }

  module _ (all : List (Part × Report)) (count : length all ≡ length automata) (are : (a : ℕ) → a < length automata → IsOf a (get_or all a (no_part, no_report))) where
    abbrev parts : List Part
    parts = map (λ (both : Part × Report). both.0) all

    abbrev reports : List Report
    reports = map (λ (both : Part × Report). both.1) all

    abbrev machine : Machine
    machine = record { classes = map (λ (c : ClassParts). c.name) classes; parts = parts }

    -- what holds of the part and the report of each automaton
    each_part : (P : Part → Type 0) → ((a : ℕ) → a < length automata → (both : Part × Report) → IsOf a both → P both.0) → All P parts
    each_part P holds = All-map P (λ (both : Part × Report). both.0) all (λ k e low.
        let inside : k < length automata = omega (arith, low, count) in
        holds k inside (get_or all k e) (subst (IsOf k) (get_or_default all k (no_part, no_report) e low) (are k inside)))

    each_report : (P : Report → Type 0) → ((a : ℕ) → a < length automata → (both : Part × Report) → IsOf a both → P both.1) → All P reports
    each_report P holds = All-map P (λ (both : Part × Report). both.1) all (λ k e low.
        let inside : k < length automata = omega (arith, low, count) in
        holds k inside (get_or all k e) (subst (IsOf k) (get_or_default all k (no_part, no_report) e low) (are k inside)))

    compiled : IsCompiled d.options automata classes machine reports
    compiled = record {
      names = refl;
      each = length-map all (λ both. both.0) ∙ count;
      reported = length-map all (λ both. both.1) ∙ count;
      parts = λ a low.
          let inside : a < length all = omega (arith, low, count) in
          let none : Part × Report = (no_part, no_report) in
          subst (λ p. IsCompiledPart d.options.no_minimization d.options automata classes a p (report_at reports a)) (sym (get_or-map (λ (both : Part × Report). both.0) all a none no_part inside))
          (subst (λ r. IsCompiledPart d.options.no_minimization d.options automata classes a (get_or all a none).0 r) (sym (get_or-map (λ (both : Part × Report). both.1) all a none no_report inside)) (are a low).compiled);
    }

    names_count : length machine.classes ≡ length classes
    names_count = length-map classes (λ c. c.name)

    asked : names_of parts ≡ flat_map ask_names automata
    asked = same_asks parts automata (length-map all (λ both. both.0) ∙ count) (λ a low. ((compiled.parts) a low).asks)

    is_machine : IsMachine machine
    is_machine = record {
      some = let some = kept.some in omega (arith, some, count, length-map all (λ (both : Part × Report). both.0));
      few = let few = kept.few in omega (arith, few, count, length-map all (λ (both : Part × Report). both.0));
      class_count = let few = kept.class_count in omega (arith, few, names_count);
      class_names = kept.class_names;
      parts = subst (λ n. All (IsPart n) parts) (sym names_count) (each_part (IsPart (length classes)) (λ a low both is. is.kept));
      ask_names = subst (λ names. AllPairs (λ a b. a ≢ b) names) (sym asked) (names_of_their_own automata kept.unit_names kept.queries);
    }

    is_in_range : IsInRange automata reports machine
    is_in_range = record {
      classes = class_named d formed known;
      parts = each_part (λ (p : Part). IsTrue (is_name p.name)) (λ a low both is. subst (λ n. IsTrue (is_name n)) (sym is.compiled.name) (name_at d formed a low));
      asks = each_part (λ (p : Part). AreNames p.asks) (λ a low both is. subst AreNames (sym is.compiled.asks) (asks_named (automaton_at automata a) (all_units_named d formed a no_automaton low) (kept.queries a no_automaton low).1));
      rows = each_part (λ (p : Part). length p.rows ≤ state_limit) (λ a low both is. is.rows);
      units = all_units_named d formed;
      counts = each_report (λ (r : Report). AreCounts (counts_said r)) (λ a low both is. is.counts);
      cycles = each_report (λ (r : Report). ForSome r.shown (λ shown. All (All AreLow) shown.states)) (λ a low both is. is.cycles);
    }

    has_machine : HasMachine d known
    has_machine = record {
      machine = machine;
      reports = reports;
      compiled = compiled;
      is = is_machine;
      range = is_in_range;
      listed = each_report ListsAscending (λ a low both is. is.ascending);
    }

  pub some_machine : HasMachine d known
  some_machine =
      let (all, count, are) = listed_values (no_part, no_report) IsOf (length automata) part_there in
      has_machine all count are
