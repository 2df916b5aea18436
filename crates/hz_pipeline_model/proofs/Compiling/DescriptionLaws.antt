-- The machine that is compiled of a description.
use Rattle.std.proofs.Common.{◌≡◌, ℕ, suc, ◌+◌, ◌<◌, List, [], ◌∷◌, length, map, take, Option, Some, None, slice_get, refl, sym, ap, ◌∙◌, subst, arith, Bool, true, false, if◌then◌else◌, zero-add, add-zero, zero}
use Rattle.std.specs.Prelude.{◌↔◌, All, IsSome, slice_index_or, is_some}
use Rattle.std.proofs.lemmas.List.{length-map}
use Rattle.std.proofs.lemmas.List.Elements.{All-take}
use Rattle.std.proofs.lemmas.Option.{slice_get-get_or, slice_get_within, get_or_from_slice_get}
use Rattle.hz_base_model.specs.Pairs.{Pair}
use Rattle.hz_description_model.specs.Reservations.Alternatives.{alternatives_of}
use Rattle.hz_description_model.specs.Reservations.Automata.{list_in}
use Rattle.hz_pipeline_model.specs.Accepting.Events.{Event, IsOfClass}
use Rattle.hz_pipeline_model.specs.Accepting.Replay.{Pipeline, Accepted, FirstRefused, first_fit, any_fit}
use Rattle.hz_pipeline_model.specs.Accepting.Restricted.{restricted}
use Rattle.hz_description_model.specs.Reading.Descriptions.{Description, ClassItem}
use Rattle.hz_description_model.specs.Check.CheckFaults.{IsSound}
use Rattle.hz_description_model.specs.Check.Places.{Known}
use Rattle.hz_description_model.specs.Check.CheckedParts.{ClassParts, automaton_names, automaton_count, automata_from, automata_of, class_parts, queries_in}
use Rattle.hz_pipeline_model.specs.Pipelines.Pipelines.{pipeline_with}
use Rattle.hz_pipeline_model.specs.Tables.Machines.{Machine, no_part, part_at, part_walk, machine_walk, states_tell}
use Rattle.hz_pipeline_model.proofs.Tables.MachineLaws.{machine_walk-each, machine_walk-part, machine_walk-all}
use Rattle.hz_pipeline_model.specs.Reaching.Counts.{Count, CountIsAtMost, CountIsAbove}
use Rattle.hz_pipeline_model.specs.Compiling.AutomatonPipelines.{lists_at, class_lists, automaton_pipeline, queries_at, query_unit, no_automaton}
use Rattle.hz_pipeline_model.specs.Compiling.Compiled.{IsCompiled, IsFirstPast, shows_states, Report}
use Rattle.hz_pipeline_model.specs.Compiling.CompiledParts.{HasColumns, IsWithinLimits, IsPastLimit, cap_of}
use Rattle.hz_pipeline_model.specs.Compiling.DescriptionLimits.{KeepsLimits, PassesLimit, AllKeepLimits, IsFirstPastLimit}
use Rattle.hz_pipeline_model.proofs.Compiling.CompiledLaws.{above_alike, most_alike, held_alike, accepted_alike}
use Rattle.hz_pipeline_model.proofs.Compiling.FactoredLaws.{accepted_in_automata}
use Rattle.hz_pipeline_model.proofs.Compiling.PipelineLaws.{restricted_moved, list_there}
use Rattle.hz_description_model.proofs.Check.QueryLaws.{asks_nothing}
use Rattle.hz_pipeline_model.proofs.Pipelines.JointLaws.{joint}
use Rattle.hz_pipeline_model.proofs.Pipelines.RunLaws.{held_in_one}
use Rattle.hz_pipeline_model.specs.Accepting.Asking.{IsHeld}

some_of : {A : Type 0} (o : Option A) → IsSome o → (x : A) × (o ≡ Some x)
some_of None h = absurd (cc)
some_of (Some x) h = (x, refl)

none_walked : {A : Type 0} (o : Option A) → o ≡ None → IsSome o → ⊥
none_walked o e h = let some = subst IsSome e h in absurd (cc)

-- Where a machine walks what a pipeline accepts, the first event that it does not walk is the first refused.
module _ {U : Type 0} (p : Pipeline U) (m : Machine) (n : ℕ) (walks : (t : List Event) → All (IsOfClass n) t → IsSome (machine_walk m t) ↔ Accepted p t) where
  pub unwalked_refused : (t : List Event) → All (IsOfClass n) t → (i : ℕ) → i < length t → IsSome (machine_walk m (take i t)) → machine_walk m (take (i + 1) t) ≡ None → FirstRefused p t i
  unwalked_refused t all i within before stops = record {
    within = within;
    before = (walks (take i t) (All-take (IsOfClass n) i t all)).0 before;
    refused = λ accepted. none_walked (machine_walk m (take (i + 1) t)) stops ((walks (take (i + 1) t) (All-take (IsOfClass n) (i + 1) t all)).1 accepted);
  }

module _ (d : Description) where
  parts_count : (n : ℕ) (names : List (List ℕ)) → length (automata_from d n names) ≡ length names
  parts_count n [] = refl
  parts_count n (name ∷ names) = ap suc (parts_count (suc n) names)

  -- there are as many automata as names
  pub automata_count : length (automata_of d) ≡ automaton_count d
  automata_count = parts_count 0 (automaton_names d)

  -- the query units of an automaton
  queries_from : (n : ℕ) (names : List (List ℕ)) (a : ℕ) → a < length names → queries_at (automata_from d n names) a ≡ queries_in d (n + a)
  queries_from n [] a low = absurd (omega (arith, low))
  queries_from n (name ∷ names) zero low = ap (queries_in d) (sym (add-zero n))
  queries_from n (name ∷ names) (suc a) low = let next : suc n + a ≡ n + suc a = omega arith in queries_from (suc n) names a (omega (arith, low)) ∙ ap (queries_in d) next

  pub queries_there : (a : ℕ) → a < automaton_count d → queries_at (automata_of d) a ≡ queries_in d a
  queries_there a low = queries_from 0 (automaton_names d) a low ∙ ap (queries_in d) (zero-add a)

  module _ (known : Known) where
    abbrev parts : List ClassParts
    parts = map (class_parts d known) d.classes

    abbrev pipeline_of : ℕ → Pipeline ℕ
    pipeline_of a = automaton_pipeline d.options (automata_of d) parts a

    -- the lists of the classes in an automaton
    lists_same : (a : ℕ) → a < automaton_count d → lists_at parts a ≡ class_lists d known a
    lists_same a low = of_items d.classes
      where
        of_items : (items : List ClassItem) → map (λ (p : ClassParts). slice_index_or p.lists a []) (map (class_parts d known) items) ≡ map (λ c. list_in a (alternatives_of known c.expression)) items
        of_items [] = refl
        of_items (c ∷ items) =
            ap (λ (l : List (List (Pair ℕ))). l ∷ map (λ (p : ClassParts). slice_index_or p.lists a []) (map (class_parts d known) items)) (list_there d known a low c)
            ∙ ap (λ (ls : List (List (List (Pair ℕ)))). list_in a (alternatives_of known c.expression) ∷ ls) (of_items items)

    -- limits of the automata are those of the description
    kept_there : (a : ℕ) → a < automaton_count d → IsWithinLimits (shows_states d.options) (lists_at parts a) (length (queries_at (automata_of d) a)) (pipeline_of a) → KeepsLimits d known a
    kept_there a low h = record {
      columns = h.columns;
      has = subst (λ ls. HasColumns ls h.columns) (lists_same a low) h.has;
      counts = λ kind.
          subst (λ queries. CountIsAtMost (restricted a (pipeline_with d known)) (h.columns + length queries) kind (cap_of (shows_states d.options) kind)) (queries_there a low)
          (most_alike (restricted a (pipeline_with d known)) (pipeline_of a) (restricted_moved d known a low) (h.columns + length (queries_at (automata_of d) a)) _ kind (h.counts kind));
    }

    past_there : (a : ℕ) (kind : Count) → a < automaton_count d → IsPastLimit (shows_states d.options) (lists_at parts a) (length (queries_at (automata_of d) a)) (pipeline_of a) kind → PassesLimit d known a kind
    past_there a kind low h = record {
      columns = h.columns;
      has = subst (λ ls. HasColumns ls h.columns) (lists_same a low) h.has;
      above =
          subst (λ queries. CountIsAbove (restricted a (pipeline_with d known)) (h.columns + length queries) kind (cap_of (shows_states d.options) kind)) (queries_there a low)
          (above_alike (restricted a (pipeline_with d known)) (pipeline_of a) (restricted_moved d known a low) (h.columns + length (queries_at (automata_of d) a)) _ kind h.above);
    }

    pub first_past : (a : ℕ) (kind : Count) → IsFirstPast d.options (automata_of d) parts a kind → IsFirstPastLimit d known a
    first_past a kind first =
        let low : a < automaton_count d = let there = first.there in omega (arith, there, automata_count) in
        record {
          there = low;
          before = λ b less. kept_there b (omega (arith, less, low)) (first.before b less);
          kind = kind;
          past = past_there a kind low first.past;
        }

    module _ (m : Machine) (reports : List Report) (is : IsCompiled d.options (automata_of d) parts m reports) where
      pub all_keep : AllKeepLimits d known
      all_keep a low = kept_there a low ((is.parts a (omega (arith, low, automata_count))).within)

      parts_number : length m.parts ≡ automaton_count d
      parts_number = is.each ∙ automata_count

      classes_number : length parts ≡ length d.classes
      classes_number = length-map d.classes (class_parts d known)

      part_there : (a : ℕ) → a < automaton_count d → slice_get m.parts a ≡ Some (part_at m a)
      part_there a low = slice_get-get_or m.parts a no_part (omega (arith, low, parts_number))

      module _ (t : List Event) (all : All (IsOfClass (length d.classes)) t) where
        walks : (a : ℕ) → a < automaton_count d → IsSome (part_walk (part_at m a) 0 t) ↔ Accepted (pipeline_of a) t
        walks a low = ((is.parts a (omega (arith, low, automata_count))).walks).walks t (subst (λ n. All (IsOfClass n) t) (sym classes_number) all)

        each_part : IsSome (machine_walk m t) → (a : ℕ) → a < automaton_count d → Accepted (pipeline_of a) t
        each_part h a low =
            let end = some_of (machine_walk m t) h in
            let each = machine_walk-each m t end.0 end.1 in
            let there = slice_get-get_or end.0 a 0 (omega (arith, low, each, parts_number)) in
            (walks a low).0 (subst IsSome (sym there ∙ machine_walk-part m t end.0 end.1 a (part_at m a) (part_there a low)) refl)

        every_part : ((a : ℕ) → a < automaton_count d → Accepted (pipeline_of a) t) → IsSome (machine_walk m t)
        every_part each = machine_walk-all m t (λ i part at.
            let within = slice_get_within m.parts i part at in
            let low : i < automaton_count d = omega (arith, within, parts_number) in
            subst (λ p. IsSome (part_walk p 0 t)) (get_or_from_slice_get m.parts i part no_part at) ((walks i low).1 (each i low)))

        -- the machine walks what the description accepts
        pub machine_accepts : IsSound d known → IsSome (machine_walk m t) ↔ Accepted (pipeline_with d known) t
        machine_accepts sound =
            let both = accepted_in_automata d known sound t in
            (λ h. both.1 (each_part h), λ accepted. every_part (both.0 accepted))

        -- a query unit is reported to be reserved where the description holds it
        module _ (sound : IsSound d known) (states : List ℕ) (walked : machine_walk m t ≡ Some states) (a query : ℕ) (low : a < automaton_count d) (asked : query < length (queries_in d a)) where
          abbrev unit : ℕ
          unit = slice_index_or (queries_in d a) query 0

          part_state : part_walk (part_at m a) 0 t ≡ Some (slice_index_or states a 0)
          part_state =
              let each = machine_walk-each m t states walked in
              sym (machine_walk-part m t states walked a (part_at m a) (part_there a low)) ∙ slice_get-get_or states a 0 (omega (arith, low, each, parts_number))

          reported : (states_tell m states a query ≡ true) ↔ IsHeld (pipeline_of a) t unit
          reported = ((is.parts a (omega (arith, low, automata_count))).held).held t (slice_index_or states a 0) query unit (subst (λ n. All (IsOfClass n) t) (sym classes_number) all) part_state
              (ap (λ queries. slice_get queries query) (queries_there a low) ∙ slice_get-get_or (queries_in d a) query 0 asked)

          without_ndfa : d.options.ndfa ≡ false
          without_ndfa = by_option (d.options.ndfa) refl
            where
              by_option : (b : Bool) → d.options.ndfa ≡ b → d.options.ndfa ≡ false
              by_option false e = e
              by_option true e =
                  let nothing = asks_nothing d known sound e a no_automaton (omega (arith, low, automata_count)) in
                  let none = sym (queries_there a low) ∙ nothing in
                  absurd (omega (arith, asked, ap length none))

          accepted : Accepted (pipeline_with d known) t
          accepted = (machine_accepts sound).0 (ap is_some walked)

          pub machine_tells : (states_tell m states a query ≡ true) ↔ IsHeld (pipeline_with d known) t (query_unit d a query)
          machine_tells =
              let first = ap (λ b. if b then any_fit else first_fit) without_ndfa in
              let own = held_alike (restricted a (pipeline_with d known)) (pipeline_of a) (restricted_moved d known a low) first t ((accepted_alike (restricted a (pipeline_with d known)) (pipeline_of a) (restricted_moved d known a low) t).1 ((accepted_in_automata d known sound t).0 accepted a low)) unit in
              let together = held_in_one (automaton_count d) (pipeline_with d known) (joint d known sound) a low first t accepted unit in
              (λ h. together.1 (own.1 (reported.0 h)), λ h. reported.1 (own.0 (together.0 h)))
