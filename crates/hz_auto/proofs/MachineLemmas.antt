-- The automata of a machine, one after another.
use Rattle.std.proofs.Common.{◌≡◌, ℕ, zero, suc, ◌+◌, ◌<◌, ◌≤◌, ◌⊎◌, inl, inr, Bool, true, false, refl, List, [], ◌∷◌, ◌++◌, length, map, get_or, sym, ap, ◌∙◌, subst, arith, ⊎_elim}
use Rattle.std.proofs.lemmas.Bool.{cases_lt}
use Rattle.std.proofs.lemmas.List.{length-map, length_push, map_push, get_or_append_left}
use Rattle.std.proofs.Math.Seq.{get_or-append_seam}
use Rattle.hz_description_model.specs.Reading.Descriptions.{Options}
use Rattle.hz_description_model.specs.Check.CheckedParts.{AutomatonParts, ClassParts}
use Rattle.hz_description_model.specs.Check.CheckedShape.{ask_names}
use Rattle.hz_checked.specs.declared.checked.Checked.{Checked}
use Rattle.hz_auto.proofs.CheckedFacts.{map_twice}
use Rattle.hz_checked.specs.Shape.{automaton_of, class_of}
use Rattle.hz_mdread.specs.Shape.{options as options_of}
use Rattle.std.specs.Prelude.{if◌then◌else◌}
use Rattle.std.specs.List.{sum_by, flat_map}
use Rattle.hz_pipeline_model.specs.Accepting.Replay.{Pipeline, first_fit, any_fit}
use Rattle.hz_pipeline_model.specs.Reaching.Counts.{Count}
use Rattle.hz_pipeline_model.specs.Reaching.Counts as count
use Rattle.hz_pipeline_model.proofs.Reaching.LimitLaws.{grids_above_states, grids_above_members}
use Rattle.hz_states.specs.declared.fault.StateFault.{StateFault}
use Rattle.hz_states.specs.declared.fault.StateFault.TheVariants.{GridLimit, SetLimit, MemberLimit, CellLimit, NoMemory}
use Rattle.hz_tables.specs.declared.part.Part.{Part}
use Rattle.hz_tables.specs.Parts.{part_of}
use Rattle.hz_pipeline_model.specs.Tables.Machines as model
use Rattle.hz_pipeline_model.specs.Tables.Machines.{Machine, no_part, part_at, names_of}
use Rattle.hz_pipeline_model.specs.Compiling.AutomatonPipelines.{automaton_at, lists_at, automaton_pipeline, queries_at}
use Rattle.hz_pipeline_model.specs.Compiling.Compiled.{IsCompiledPart, IsCompiled, IsFirstPast, report_at, shows_states}
use Rattle.hz_pipeline_model.specs.Compiling.CompiledParts.{cap_of, IsPastLimit}
use Rattle.hz_pipeline_model.specs.Pipelines.Pipelines.{treatment_of}
use Rattle.hz_base_model.specs.Pairs.{Pair}
use Rattle.hz_auto.specs.declared.fault.AutoFault.{AutoFault}
use Rattle.hz_auto.specs.declared.fault.AutoFault.TheVariants.{Limit}
use Rattle.hz_auto.specs.declared.fault.Kind.{Kind}
use Rattle.hz_auto.specs.declared.fault.Kind.TheVariants.{Grids, States, Members}
use Rattle.hz_auto.specs.Faults.{count_of}
use Rattle.hz_auto.specs.declared.report.AutoReport.{AutoReport}
use Rattle.hz_auto.specs.Machines.{IsFaultAt, IsFaultOf, AreCompiled, AskQueries, reports_of}
use Rattle.hz_auto.specs.Parts.{IsPastAt}
use Rattle.hz_auto.specs.Reports.{report_of}

-- parts that ask for the query units of their automata have the names of all of them
same_asks : (parts : List model.Part) (automata : List AutomatonParts) → length parts ≡ length automata → ((a : ℕ) → a < length automata → (get_or parts a no_part).asks ≡ ask_names (automaton_at automata a)) → names_of parts ≡ flat_map ask_names automata
same_asks [] [] each same = refl
same_asks [] (automaton ∷ automata) each same = absurd (omega (arith, each))
same_asks (part ∷ parts) [] each same = absurd (omega (arith, each))
same_asks (part ∷ parts) (automaton ∷ automata) each same =
    ap (λ (names : List (List ℕ)). names ++ names_of parts) (same zero (omega arith))
    ∙ ap (λ (names : List (List ℕ)). ask_names automaton ++ names) (same_asks parts automata (omega (arith, each)) (λ a low. same (suc a) (omega (arith, low))))

-- In the first treatment a count of states or members above its limit is one of grids.
module _ (shown : Bool) (options : Options) (lists : List (List (List (Pair ℕ)))) (queries : ℕ) (m : Pipeline ℕ) (treated : m.treatment ≡ treatment_of options) where
  one_fits : options.ndfa ≡ false → m.treatment ≡ first_fit
  one_fits is = treated ∙ ap (λ b. if b then any_fit else first_fit) is

  states_as_grids : IsPastLimit shown lists queries m count.states → options.ndfa ≡ false → IsPastLimit shown lists queries m count.grids
  states_as_grids over is = record {
    columns = over.columns;
    has = over.has;
    above = grids_above_states m (one_fits is) (over.columns + queries) (cap_of shown count.states) over.above;
  }

  -- the limit of members is the greater
  lesser : (shown : Bool) (n : ℕ) → cap_of shown count.members < n → cap_of shown count.grids < n
  lesser true n h = omega (arith, h)
  lesser false n h = omega (arith, h)

  members_as_grids : IsPastLimit shown lists queries m count.members → options.ndfa ≡ false → IsPastLimit shown lists queries m count.grids
  members_as_grids over is =
      let g = grids_above_members m (one_fits is) (over.columns + queries) (cap_of shown count.members) over.above in
      record {
        columns = over.columns;
        has = over.has;
        above = record { items = g.items; reached = g.reached; different = g.different; above = lesser shown (sum_by (λ _. 1) g.items) g.above };
      }

module _ (checked : Checked) where
  abbrev options : Options
  options = options_of checked.options

  abbrev automata : List AutomatonParts
  automata = map automaton_of checked.automata.items

  abbrev classes : List ClassParts
  classes = map class_of checked.classes.items

  -- the machine of these parts
  abbrev machine_with : List Part → Machine
  machine_with parts = record { classes = map (λ c. c.name) checked.classes.items; parts = map part_of parts }

  -- the fault of an automaton after others that are compiled is that of the description
  pub fault_reported : (a : ℕ) (parts : List Part) (reports : List AutoReport) → AreCompiled checked a parts reports → a < length checked.automata.items → (fault : StateFault) (reported : AutoFault) → IsPastAt options automata classes a fault → IsFaultAt checked.options.ndfa a fault reported → IsFaultOf checked reported
  fault_reported a parts reports are low fault reported past is = by_fault fault past is
    where
      Past : Count → Type 0
      Past kind = IsPastLimit (shows_states options) (lists_at classes a) (length (queries_at automata a)) (automaton_pipeline options automata classes a) kind

      first : (kind : Count) → Past kind → (options.ndfa ≡ false → (kind ≡ count.grids) ⊎ (kind ≡ count.cells)) → IsFirstPast options automata classes a kind
      first kind over named = record {
        there = omega (arith, low, length-map checked.automata.items automaton_of);
        before = λ b less. (are.at b less).within;
        past = over;
        named = named;
      }

      -- the kind that is named in each treatment
      by_treatment : (ndfa : Bool) → ndfa ≡ options.ndfa → (kind : Kind) → Past (count_of kind) → (options.ndfa ≡ false → Past count.grids) → reported ≡ Limit a (if ndfa then kind else Grids) → IsFaultOf checked reported
      by_treatment true is kind over grids e = subst (IsFaultOf checked) (sym e) (first (count_of kind) over (λ no. absurd (cc (is, no))))
      by_treatment false is kind over grids e = subst (IsFaultOf checked) (sym e) (first count.grids (grids (sym is)) (λ _. inl refl))

      by_fault : (fault : StateFault) → IsPastAt options automata classes a fault → IsFaultAt checked.options.ndfa a fault reported → IsFaultOf checked reported
      by_fault GridLimit over e = subst (IsFaultOf checked) (sym e) (first count.grids over (λ _. inl refl))
      by_fault SetLimit over e = by_treatment checked.options.ndfa refl States over (states_as_grids (shows_states options) options (lists_at classes a) (length (queries_at automata a)) (automaton_pipeline options automata classes a) refl over) e
      by_fault MemberLimit over e = by_treatment checked.options.ndfa refl Members over (members_as_grids (shows_states options) options (lists_at classes a) (length (queries_at automata a)) (automaton_pipeline options automata classes a) refl over) e
      by_fault CellLimit over e = subst (IsFaultOf checked) (sym e) (first count.cells over (λ _. inr refl))
      by_fault NoMemory over e = subst (IsFaultOf checked) (sym e) tt

  -- one automaton more is compiled
  pub compiled_more : (a : ℕ) (parts new : List Part) (reports reported : List AutoReport) (part : Part) (report : AutoReport) → AreCompiled checked a parts reports → new ≡ parts ++ part ∷ [] → reported ≡ reports ++ report ∷ [] → IsCompiledPart options.no_minimization options automata classes a (part_of part) (report_of report) → AreCompiled checked (a + 1) new reported
  compiled_more a parts new reports reported part report are is also here =
      subst (λ ps. AreCompiled checked (a + 1) ps reported) (sym is) (subst (AreCompiled checked (a + 1) (parts ++ part ∷ [])) (sym also) whole)
    where
      part_before : (b : ℕ) → b < a → part_at (machine_with (parts ++ part ∷ [])) b ≡ part_at (machine_with parts) b
      part_before b less = let each = are.each in ap (λ ps. get_or ps b no_part) (map_push part_of parts part) ∙ get_or_append_left (map part_of parts) (part_of part ∷ []) no_part b (omega (arith, less, each, length-map parts part_of))

      part_last : part_at (machine_with (parts ++ part ∷ [])) a ≡ part_of part
      part_last =
          let each = are.each in
          let last : a ≡ length (map part_of parts) = omega (arith, each, length-map parts part_of) in
          ap (λ ps. get_or ps a no_part) (map_push part_of parts part) ∙ (ap (λ n. get_or (map part_of parts ++ part_of part ∷ []) n no_part) last ∙ get_or-append_seam (map part_of parts) (part_of part) [] no_part)

      report_before : (b : ℕ) → b < a → report_at (reports_of (reports ++ report ∷ [])) b ≡ report_at (reports_of reports) b
      report_before b less = let each = are.reported in ap (λ rs. report_at rs b) (map_push report_of reports report) ∙ get_or_append_left (map report_of reports) (report_of report ∷ []) _ b (omega (arith, less, each, length-map reports report_of))

      report_last : report_at (reports_of (reports ++ report ∷ [])) a ≡ report_of report
      report_last =
          let each = are.reported in
          let last : a ≡ length (map report_of reports) = omega (arith, each, length-map reports report_of) in
          ap (λ rs. report_at rs a) (map_push report_of reports report) ∙ (ap (report_at (map report_of reports ++ report_of report ∷ [])) last ∙ get_or-append_seam (map report_of reports) (report_of report) [] _)

      whole : AreCompiled checked (a + 1) (parts ++ part ∷ []) (reports ++ report ∷ [])
      whole = record {
        each = length_push parts part ∙ ap (λ n. n + 1) are.each;
        reported = length_push reports report ∙ ap (λ n. n + 1) are.reported;
        at = λ b low. ⊎_elim
            (λ (less : b < a). subst (λ p. IsCompiledPart options.no_minimization options automata classes b p (report_at (reports_of (reports ++ report ∷ [])) b)) (sym (part_before b less))
            (subst (IsCompiledPart options.no_minimization options automata classes b (part_at (machine_with parts) b)) (sym (report_before b less)) (are.at b less)))
            (λ (high : a ≤ b). let same : a ≡ b = omega (arith, low, high) in
            subst (λ n. IsCompiledPart options.no_minimization options automata classes n (part_at (machine_with (parts ++ part ∷ [])) n) (report_at (reports_of (reports ++ report ∷ [])) n)) same
            (subst (λ p. IsCompiledPart options.no_minimization options automata classes a p (report_at (reports_of (reports ++ report ∷ [])) a)) (sym part_last)
            (subst (IsCompiledPart options.no_minimization options automata classes a (part_of part)) (sym report_last) here)))
            (cases_lt b a);
      }

  -- what is asked for in all parts
  pub asks_reported : (parts : List Part) (reports : List AutoReport) → AreCompiled checked (length checked.automata.items) parts reports → AskQueries checked parts
  asks_reported parts reports are =
      let count = length-map checked.automata.items automaton_of in
      same_asks (map part_of parts) automata (length-map parts part_of ∙ (are.each ∙ sym count)) (λ a low. (are.at a (omega (arith, low, count))).asks)

  -- all automata are compiled
  pub compiled_all : (parts : List Part) (reports : List AutoReport) (m : Machine) → AreCompiled checked (length checked.automata.items) parts reports → m ≡ machine_with parts → IsCompiled options automata classes m (reports_of reports)
  compiled_all parts reports m are is = subst (λ n. IsCompiled options automata classes n (reports_of reports)) (sym is) (record {
    names = map_twice_back;
    each = length-map parts part_of ∙ (are.each ∙ sym (length-map checked.automata.items automaton_of));
    reported = length-map reports report_of ∙ (are.reported ∙ sym (length-map checked.automata.items automaton_of));
    parts = λ a low. are.at a (omega (arith, low, length-map checked.automata.items automaton_of));
  })
    where
      map_twice_back : map (λ c. c.name) checked.classes.items ≡ map (λ c. c.name) classes
      map_twice_back = sym (map_twice (λ c. c.name) class_of checked.classes.items)
