-- There is an answer to all words, whatever is held.
use Rattle.std.proofs.Common.{◌≡◌, ℕ, zero, suc, ◌+◌, ◌<◌, ◌≤◌, ⊎_elim, inl, inr, sym, ◌++◌, true, false, List, [], ◌∷◌, length, map, take, All, Option, Some, None, MatchOption, MatchBool, nat_lt, get_or, slice_get, refl, subst, arith, ◌⊎◌}
use Rattle.std.proofs.lemmas.Bool.{cases_lt}
use Rattle.std.proofs.lemmas.List.Elements.{All-get_or}
use Rattle.std.proofs.lemmas.Option.{slice_get-get_or, slice_get_within, get_or_from_slice_get}
use Rattle.hz_front_model.proofs.SingleLaws.{ForTexts}
use Rattle.hz_pipeline_model.proofs.Accepting.AskLaws.{held_or_free}
use Rattle.hz_pipeline_model.proofs.Traces.NameLaws.{events_of_classes}
use Rattle.hz_pipeline_model.specs.Compiling.AutomatonPipelines.{query_unit}
use Rattle.hz_pipeline_model.specs.Tables.MachineNames.{names_of_machine}
use Rattle.hz_front_model.specs.Asks.{Tells, trace_names, held_in}
use Rattle.hz_answer_model.specs.TableAnswers.{reported_by, IsTablesOf, WritesTablesOf, HasTables, IsFirstUnwalked, Walks, WalksTrace}
use Rattle.hz_front_model.proofs.AskLaws.{some_reported}
use Rattle.hz_answer_model.proofs.TableLaws.{reported_or_not, walked_or_first, unwalked_issue}
use Rattle.hz_answer_model.proofs.EventLaws.{issue_named}
use Rattle.hz_base_model.proofs.Forms.FormsFront.{every_text}
use Rattle.hz_description_model.proofs.Reading.DescriptionLaws.{every_list}
use Rattle.hz_description_model.proofs.Reading.DescriptionFormedAll.{well_formed}
use Rattle.hz_description_model.proofs.Reading.CheckableLaws.{can_be_checked}
use Rattle.hz_description_model.proofs.Check.CheckTotal.{sound_or_fault}
use Rattle.hz_pipeline_model.proofs.Accepting.AcceptanceLaws.{refused_issue}
use Rattle.hz_pipeline_model.proofs.Accepting.PlayLaws.{accepted_or_first_refused}
use Rattle.hz_pipeline_model.proofs.Accepting.Rows.{same_unit, places_tell}
use Rattle.hz_front_model.specs.Descriptions.{Describes, Checks, HasDescription}
use Rattle.hz_answer_model.specs.Answers.{Compiles, CompilesDescription, DrillsDescription, TimesByDescription, SchedulesTwoByDescription, OverlapsByDescription, ReplaysTrace, ReplaysDescription, Judges, files_of, JudgesOrder, AnswersOrder, Answer}
use Rattle.hz_front_model.specs.Replays.{Replays, IsIssueOf}
use Rattle.hz_description_model.specs.Check.CheckFaults.{CheckFault, CheckFaultAt, IsSound}
use Rattle.hz_description_model.specs.Check.Places.{Known, class_names}
use Rattle.hz_description_model.specs.Reading.DescriptionForms as description_forms
use Rattle.hz_description_model.specs.Reading.DescriptionShape.{IsWellFormed, IsCheckable}
use Rattle.hz_description_model.specs.Reading.Descriptions.{Description}
use Rattle.hz_base_model.specs.Forms.Forms.{form_word}
use Rattle.hz_pipeline_model.specs.Traces.Traces.{trace_word, Trace, TraceFault, TraceFaultAt, event_lines}
use Rattle.hz_block_model.specs.Texts.Operands.{rtl_word, Judged}
use Rattle.hz_tabtext_model.specs.Judging.{tables_word, Fault}
use Rattle.hz_front_model.specs.FaultTexts.{description_line, check_line, check_status}
use Rattle.hz_answer_model.specs.FaultTexts.{class_line, stuck_line}
use Rattle.hz_base_model.specs.Lines.{lines_of}
use Rattle.hz_base_model.specs.Forms.Forms as forms
use Rattle.hz_description_model.specs.Check.CheckedParts.{automaton_names, automaton_count, automata_of, class_parts, bypass_parts, attributes_of}
use Rattle.hz_description_model.proofs.Check.KeptLaws.{parts_kept}
use Rattle.hz_pipeline_model.specs.Pipelines.Pipelines.{pipeline_with}
use Rattle.hz_pipeline_model.specs.Reaching.Counts.{Count}
use Rattle.hz_pipeline_model.specs.Compiling.DescriptionLimits.{KeepsLimits, AllKeepLimits, PassesLimit, IsFirstPastLimit}
use Rattle.hz_pipeline_model.specs.Accepting.Replay.{FirstRefused, Accepted}
use Rattle.hz_pipeline_model.specs.Accepting.Events.{Event, issue, cycles_of, issues_of, IsOfClass}
use Rattle.hz_pipeline_model.proofs.Traces.TraceLaws.{trace_of_every_text, counted_lines}
use Rattle.hz_front_model.specs.Texts.{file_line, limit_line, fault_line, refused_line, accepted_line, states_line, insns_line}
use Rattle.hz_base_model.specs.Forms.Trees.{Trees}
use Rattle.hz_words_model.specs.Words.{Order, compile, replay, walk, schedule, eval, drill, timed, bound, duo, modulo, order_of, usage_line}
use Rattle.hz_base_model.specs.Names.{Held}
use Rattle.hz_front_model.specs.Phases.{Says, Next, FileWord, OpensAll, HasForms}
use Rattle.hz_answer_model.proofs.DrillLaws.{some_drill}
use Rattle.hz_answer_model.specs.DrillAnswers.{Drills}
use Rattle.hz_answer_model.specs.BlockAnswers.{IsBlock, IsState, HasBlock, HasAtMost, Evaluates, JudgesBlock}
use Rattle.hz_answer_model.specs.ScheduleAnswers.{schedule_text, HasClasses, Starts, TellsSchedule}
use Rattle.hz_answer_model.specs.TimedAnswers.{TellsTimed}
use Rattle.hz_answer_model.specs.BoundAnswers.{TellsBound}
use Rattle.hz_answer_model.proofs.ExposedLaws.{leaves_source}
use Rattle.hz_measure_model.specs.Exposed.ByDescription.{exposed_in}
use Rattle.hz_measure_model.specs.Exposed.Texts.{text_of_reads}
use Rattle.hz_block_model.specs.Texts.StateTexts.{IsText}
use Rattle.hz_answer_model.specs.DuoAnswers.{TellsTwo}
use Rattle.hz_answer_model.specs.ModuloAnswers.{TellsKernel}
use Rattle.hz_measure_model.specs.Kernels.Repeats.{body_limit}
use Rattle.hz_answer_model.proofs.KernelLaws.{some_kernel_text}
use Rattle.hz_measure_model.specs.Bounds.Texts.{text_of_bound}
use Rattle.hz_measure_model.proofs.Bounds.BlockBounds.{some_bound_of_a_block}
use Rattle.hz_measure_model.proofs.TwoContexts.OneOfTwo.{some_of_two}
use Rattle.hz_measure_model.specs.TwoContexts.Texts.{text_of_two}
use Rattle.hz_block_model.specs.Dependences.Classes.{ClassFault}
use Rattle.hz_block_model.specs.Scheduled.BlockGraphs.{IsGraphOf, IsFirstClassFault}
use Rattle.hz_block_model.specs.Scheduled.BlockSchedules.{StartsAlone, IsFirstStuck, IsScheduleOf}
use Rattle.hz_block_model.specs.Scheduling.Schedules.{Graph, Slot}
use Rattle.hz_block_model.proofs.Scheduling.AlikeGraphs.{legal_there, greedy_there}
use Rattle.hz_laws.proofs.Leaving.LimitsReported.{are_counted}
use Rattle.hz_block_model.proofs.Schedulable.ScheduleTotal.{some_schedule_of}
use Rattle.hz_block_model.proofs.Scheduled.GraphLaws.{HasClass, graphs_alike}
use Rattle.hz_block_model.proofs.Scheduled.FaultLaws.{classes_or_fault, starts_or_stuck}
use Rattle.hz_answer_model.proofs.ListingTotal.{IsFinite, finite_given, finite_run, has_text}
use Rattle.hz_block_model.specs.Running.Blocks.{Instruction}
use Rattle.hz_block_model.specs.Running.Limits.{instruction_limit}
use Rattle.hz_block_model.specs.Running.States.{State, Store, run, all_stored}
use Rattle.hz_block_model.specs.Texts.BlockForms as blocks
use Rattle.hz_block_model.specs.Texts.StateForms as states
use Rattle.hz_pipeline_model.specs.Tables.Machines.{Machine, IsMachine, machine_walk}
use Rattle.hz_tabtext_model.specs.Reading.{tables_in}
use Rattle.hz_tabtext_model.proofs.MachineLaws.{text_machine}
use Rattle.hz_tabtext_model.proofs.TextTakes.{tables_take}
use Rattle.hz_tabtext_model.proofs.CompiledSaid.{can_be_said}
use Rattle.hz_tabtext_model.proofs.SaidLaws.{said_is_text}
use Rattle.hz_tabtext_model.specs.Said.{tables_said}
use Rattle.hz_tabtext_model.specs.Texts.{spelled}
use Rattle.hz_laws.proofs.Totality.MachineTotal.{HasMachine, some_machine}
use Rattle.std.specs.List.{range_with_len}
use Rattle.std.specs.Prelude.{Ok, Err, Result, IsSome, slice_index_or}

-- some status and text answer
abbrev pub HasOne : (ℕ → List ℕ → Type 0) → Type 0
HasOne answer = (s : ℕ) × (t : List ℕ) × answer s t

says_one : (status : ℕ) (text : List ℕ) → HasOne (Says status text)
says_one status text = (status, text, (refl, refl))

wider : (narrow wide : ℕ → List ℕ → Type 0) → ((s : ℕ) (t : List ℕ) → narrow s t → wide s t) → HasOne narrow → HasOne wide
wider narrow wide f h = (h.0, h.1, f h.0 h.1 h.2)

module _ (d : Description) (known : Known) where
  -- the class of a refused issue has a name
  refused_class : (events : List Event) → All (IsOfClass (length (class_names d))) events → (i : ℕ) → FirstRefused (pipeline_with d known) events i → (class : List ℕ) × IsIssueOf (pipeline_with d known) (slice_get events i) class
  refused_class events of_class i h =
      let found = refused_issue (pipeline_with d known) events i h in
      let within = slice_get_within events i (issue found.0) found.1 in
      let is : get_or events i (issue 0) ≡ issue found.0 = get_or_from_slice_get events i (issue found.0) (issue 0) found.1 in
      let low : found.0 < length (class_names d) = subst (IsOfClass (length (class_names d))) is (All-get_or (IsOfClass (length (class_names d))) events i (issue 0) within of_class) in
      (get_or (class_names d) found.0 [], issue_named d known (slice_get events i) found.0 (get_or (class_names d) found.0 []) found.1 (slice_get-get_or (class_names d) found.0 [] low))

  -- what comes last is reported after the asks
  reported_one : (lines : List ℕ) (events : List Event) (status : ℕ) (text : List ℕ) → HasOne (Tells (held_in d known) (trace_names d) lines events (Says status text))
  reported_one lines events status text =
      let reported = some_reported (held_in d known) (trace_names d) (λ before a u. held_or_free (pipeline_with d known) same_unit places_tell before (query_unit d a u)) lines events (Says status text) status text (refl, refl) in (status, reported.0, reported.1)

  replays_one : (lines : List ℕ) (events : List Event) → length lines ≡ length events → All (IsOfClass (length (class_names d))) events → HasOne (Replays (pipeline_with d known) (held_in d known) (trace_names d) lines events)
  replays_one lines events each of_class = ⊎_elim
      (λ accepted. wider (Tells (held_in d known) (trace_names d) lines events (Says 0 (accepted_line (issues_of events) (cycles_of events)))) _ (λ s t h. inl (accepted, h)) (reported_one lines events 0 (accepted_line (issues_of events) (cycles_of events))))
      (λ refused.
      let class = refused_class events of_class refused.0 refused.1 in
      let i = refused.0 in
      let within = (refused.1).within in
      let line = get_or lines i 0 in
      let there = slice_get-get_or lines i 0 (omega (arith, within, each)) in
      wider (Tells (held_in d known) (trace_names d) lines (take i events) (Says 1 (refused_line line class.0))) _ (λ s t h. inr (i, line, class.0, refused.1, there, class.1, h)) (reported_one lines (take i events) 1 (refused_line line class.0)))
      (accepted_or_first_refused same_unit places_tell (pipeline_with d known) events)

  traces_one : (name text : List ℕ) → HasOne (ReplaysTrace name text d known)
  traces_one name text = ⊎_elim
      (λ (found : (events : List Event) × Trace (trace_names d) text events).
      wider (Replays (pipeline_with d known) (held_in d known) (trace_names d) (event_lines (trace_names d) 1 (lines_of text)) found.0) _ (λ s t h. inl (found.0, found.1, h))
      (replays_one (event_lines (trace_names d) 1 (lines_of text)) found.0 (counted_lines (trace_names d) 1 (found.1).lines) (events_of_classes (trace_names d) (found.1).lines)))
      (λ (wrong : (fault : TraceFault) × (line : ℕ) × TraceFaultAt (trace_names d) text fault line).
      wider (Says 2 (fault_line name wrong.1 (trace_word wrong.0 ∷ []))) _ (λ s t h. inr (wrong.0, wrong.1, wrong.2, h)) (says_one 2 (fault_line name wrong.1 (trace_word wrong.0 ∷ []))))
      (trace_of_every_text (trace_names d) text)

-- All of the first automata keep their limits, or some is the first that does not.
limits_one : (d : Description) (known : Known) → (n : ℕ) → n ≤ automaton_count d → ((a : ℕ) → a < n → KeepsLimits d known a) ⊎ ((a : ℕ) × IsFirstPastLimit d known a)
limits_one d known zero few = inl (λ a low. absurd (omega (arith, low)))
limits_one d known (suc n) few = ⊎_elim
    (λ (kept : (a : ℕ) → a < n → KeepsLimits d known a). ⊎_elim
    (λ (here : KeepsLimits d known n). inl (λ a low. ⊎_elim
    (λ (less : a < n). kept a less)
    (λ (high : n ≤ a). let same : n ≡ a = omega (arith, low, high) in subst (KeepsLimits d known) same here)
    (cases_lt a n)))
    (λ (past : (kind : Count) × PassesLimit d known n kind). inr (n, record { there = omega (arith, few); before = kept; kind = past.0; past = past.1 }))
    (are_counted d known n (omega (arith, few))))
    (λ first. inr first)
    (limits_one d known n (omega (arith, few)))

compiles_one : (name : List ℕ) (d : Description) (known : Known) (next : ℕ → List ℕ → Type 0) → (AllKeepLimits d known → HasOne next) → HasOne (Compiles name d known next)
compiles_one name d known next one = ⊎_elim
    (λ (kept : AllKeepLimits d known). wider next _ (λ s t h. inl (kept, h)) (one kept))
    (λ (first : (a : ℕ) × IsFirstPastLimit d known a).
    let line = states_line name (slice_index_or (automaton_names d) first.0 []) in
    wider (Says 3 line) _ (λ s t h. inr (first.0, first.1, h)) (says_one 3 line))
    (limits_one d known (automaton_count d) (omega arith))

checks_one : (name : List ℕ) (d : Description) (next : Next Known) → IsWellFormed d → ((known : Known) → IsSound d known → HasOne (next known)) → HasOne (Checks name d next)
checks_one name d next formed one = ⊎_elim
    (λ (sound : (known : Known) × IsSound d known). wider (next sound.0) _ (λ s t h. inl (sound.0, sound.1, h)) (one sound.0 sound.1))
    (λ (wrong : (fault : CheckFault) × (site : _) × CheckFaultAt d fault site).
    wider (Says (check_status wrong.0) (check_line name wrong.0 wrong.1)) _ (λ s t h. inr (wrong.0, wrong.1, wrong.2, h)) (says_one (check_status wrong.0) (check_line name wrong.0 wrong.1)))
    (sound_or_fault d (can_be_checked d formed))

describes_one : (name : List ℕ) (read : Trees) (next : Next Description) → ((d : Description) → description_forms.Reads read d → IsWellFormed d → HasOne (next d)) → HasOne (Describes name read next)
describes_one name read next one = ⊎_elim
    (λ (said : (d : Description) × description_forms.Reads read d). wider (next said.0) _ (λ s t h. inl (said.0, said.1, h)) (one said.0 said.1 (well_formed read said.0 said.1).0))
    (λ (wrong : (fault : description_forms.DescriptionFault) × (line : ℕ) × description_forms.FaultAt read fault line).
    wider (Says 2 (description_line name wrong.0 wrong.1)) _ (λ s t h. inr (wrong.0, wrong.1, wrong.2, h)) (says_one 2 (description_line name wrong.0 wrong.1)))
    (every_list read)

forms_one : (name bytes : List ℕ) (next : Next Trees) → ((read : Trees) → forms.Reads bytes read → HasOne (next read)) → HasOne (HasForms name bytes next)
forms_one name bytes next one = ⊎_elim
    (λ read. wider (next read.0) _ (λ s t h. inl (read.0, read.1, h)) (one read.0 read.1))
    (λ wrong. wider (Says 2 (fault_line name wrong.1 (form_word wrong.0 ∷ []))) _ (λ s t h. inr (wrong.0, wrong.1, wrong.2, h)) (says_one 2 (fault_line name wrong.1 (form_word wrong.0 ∷ []))))
    (every_text bytes)

description_one : (name bytes : List ℕ) (next : (d : Description) → Next Known) → ((d : Description) (known : Known) → IsCheckable d → IsSound d known → HasOne (next d known)) → HasOne (HasDescription name bytes next)
description_one name bytes next one =
    forms_one name bytes _ (λ read is.
    describes_one name read _ (λ d says formed.
    checks_one name d (next d) formed (λ known sound. one d known (can_be_checked d formed) sound)))

texts_one : (description described trace traced : List ℕ) → HasOne (Judges description described trace traced)
texts_one description described trace traced =
    description_one description described (ReplaysDescription description trace traced) (λ d known checkable sound.
    compiles_one description d known (ReplaysTrace trace traced d known) (λ kept. traces_one d known trace traced))

-- Blocks and states.

block_one : (name : List ℕ) (read : Trees) (next : Next (List Instruction)) → ((block : List Instruction) → HasOne (next block)) → HasOne (IsBlock name read next)
block_one name read next one = by_judged (blocks.instructions_after [] read) refl
  where
    by_judged : (judged : Judged (List Instruction)) → blocks.instructions_after [] read ≡ judged → HasOne (IsBlock name read next)
    by_judged (Ok block) is = wider (next block) _ (λ s t h. inl (block, is, h)) (one block)
    by_judged (Err (fault, line)) is = wider (Says 2 (fault_line name line (rtl_word fault ∷ []))) _ (λ s t h. inr (fault, line, is, h)) (says_one 2 (fault_line name line (rtl_word fault ∷ [])))

state_one : (name : List ℕ) (read : Trees) (next : Next State) → ((state : State) → IsFinite state → HasOne (next state)) → HasOne (IsState name read next)
state_one name read next one = by_judged (states.stores_after [] read) refl
  where
    by_judged : (judged : Judged (List Store)) → states.stores_after [] read ≡ judged → HasOne (IsState name read next)
    by_judged (Ok given) is = wider (next (all_stored states.empty_state given)) _ (λ s t h. inl (all_stored states.empty_state given, record { given = given; says = is; is = refl }, h)) (one (all_stored states.empty_state given) (finite_given given))
    by_judged (Err (fault, line)) is = wider (Says 2 (fault_line name line (rtl_word fault ∷ []))) _ (λ s t h. inr (fault, line, is, h)) (says_one 2 (fault_line name line (rtl_word fault ∷ [])))

evaluates_one : (block : List Instruction) (state : State) → IsFinite state → HasOne (Evaluates block state)
evaluates_one block state finite =
    let written = has_text (run block (range_with_len 0 (length block)) state) (finite_run block (range_with_len 0 (length block)) state finite) in
    (0, written.0, (refl, written.1))

blocks_one : (block blocked state stated : List ℕ) → HasOne (JudgesBlock block blocked state stated)
blocks_one block blocked state stated =
    forms_one block blocked _ (λ read is.
    block_one block read _ (λ insns.
    forms_one state stated _ (λ other also.
    state_one state other (Evaluates insns) (evaluates_one insns))))

-- reading a file answers where what follows does
opens_one : (o : Option (List ℕ)) (name : List ℕ) (most : ℕ) (next : List ℕ → ℕ → List ℕ → Type 0) → ((bytes : List ℕ) → o ≡ Some bytes → HasOne (next bytes)) → HasOne (λ s t. MatchOption o (Says 6 (file_line name) s t) (λ bytes. MatchBool (nat_lt most (length bytes)) (Says 3 (limit_line name) s t) (next bytes s t)))
opens_one None name most next one = says_one 6 (file_line name)
opens_one (Some bytes) name most next one =
    elim (nat_lt most (length bytes)) as (λ b. HasOne (λ s t. MatchBool b (Says 3 (limit_line name) s t) (next bytes s t))) [
      | true ↦ says_one 3 (limit_line name)
      | false ↦ one bytes refl
    ]

-- Schedules.

classes_one : (name : List ℕ) (d : Description) (block : List Instruction) (next : ℕ → List ℕ → Type 0) → HasOne next → HasOne (HasClasses name d block next)
classes_one name d block next one = ⊎_elim
    (λ (all : All (HasClass d) block). wider next _ (λ s t h. inl (all, h)) one)
    (λ (first : (i : Instruction) × (fault : ClassFault) × IsFirstClassFault d block i fault).
    let line = class_line name (class_names d) first.0 first.1 in
    wider (Says 2 line) _ (λ s t h. inr (first.0, first.1, first.2, h)) (says_one 2 line))
    (classes_or_fault d block)

starts_one : (name : List ℕ) (d : Description) (known : Known) (block : List Instruction) (next : ℕ → List ℕ → Type 0) → (All (StartsAlone d known) block → HasOne next) → HasOne (Starts name d known block next)
starts_one name d known block next one = ⊎_elim
    (λ (all : All (StartsAlone d known) block). wider next _ (λ s t h. inl (all, h)) (one all))
    (λ (first : (i : Instruction) × IsFirstStuck d known block i). wider (Says 2 (stuck_line name first.0)) _ (λ s t h. inr (first.0, first.1, h)) (says_one 2 (stuck_line name first.0)))
    (starts_or_stuck d known block)

-- a description without a fault, and a block whose instructions can be issued from the start
abbrev Answers : ((d : Description) (known : Known) (insns : List Instruction) → ℕ → List ℕ → Type 0) → Type 0
Answers next = (d : Description) (known : Known) (insns : List Instruction) → IsCheckable d → IsSound d known → All (StartsAlone d known) insns → HasOne (next d known insns)

schedule_one : Answers TellsSchedule
schedule_one d known block formed sound all =
    let (g, slots, is) = some_schedule_of d known block formed sound all in
    wider (Says 0 (schedule_text d block g slots)) _ (λ s t h. (g, slots, is, h)) (says_one 0 (schedule_text d block g slots))

timed_one : (d : Description) (known : Known) (block : List Instruction) (state : State) → IsFinite state → IsCheckable d → IsSound d known → All (StartsAlone d known) block → HasOne (TellsTimed d known block state)
timed_one d known block state finite formed sound all =
    let (g, slots, is) = some_schedule_of d known block formed sound all in
    let written = has_text (run block (range_with_len 0 (length block)) state) (finite_run block (range_with_len 0 (length block)) state finite) in
    let left = subst (λ (x : State). IsText x written.0) (sym (leaves_source d known block g slots state is)) written.1 in
    (0, text_of_reads block slots (exposed_in d block g slots state).reads ++ written.0, (g, slots, is, refl, record { tail = written.0; state_is = left; text_is = refl }))

timed_blocks_one : (description described block blocked state stated : List ℕ) → HasOne (HasDescription description described (TimesByDescription description block blocked state stated))
timed_blocks_one description described block blocked state stated =
    description_one description described _ (λ d known formed sound.
    compiles_one description d known _ (λ kept.
    forms_one block blocked _ (λ read reads.
    block_one block read _ (λ insns.
    forms_one state stated _ (λ also too.
    state_one state also _ (λ start finite.
    classes_one block d insns _
    (starts_one block d known insns _ (timed_one d known insns start finite formed sound))))))))

bound_one : Answers TellsBound
bound_one d known block formed sound all =
    let (g, slots, is) = some_schedule_of d known block formed sound all in
    let (b, bounds) = some_bound_of_a_block d known block g is.graph in
    wider (Says 0 (text_of_bound d block b slots)) _ (λ s t h. (g, slots, b, is, bounds, h)) (says_one 0 (text_of_bound d block b slots))

blocked_one : (description described block blocked : List ℕ) (next : (d : Description) (known : Known) (insns : List Instruction) → ℕ → List ℕ → Type 0) → Answers next
    → HasOne (HasDescription description described (λ d known. Compiles description d known (HasBlock block blocked (λ insns. HasClasses block d insns (Starts block d known insns (next d known insns))))))
blocked_one description described block blocked next one =
    description_one description described _ (λ d known formed sound.
    compiles_one description d known _ (λ kept.
    forms_one block blocked _ (λ read reads.
    block_one block read _ (λ insns.
    classes_one block d insns _ (starts_one block d known insns (next d known insns) (one d known insns formed sound))))))

-- Two blocks.

few_one : (most count : ℕ) (name : List ℕ) (next : ℕ → List ℕ → Type 0) → HasOne next → HasOne (HasAtMost most count name next)
few_one most count name next one =
    elim (nat_lt most count) as (λ b. HasOne (λ s t. MatchBool b (Says 3 (insns_line name) s t) (next s t))) [
      | true ↦ says_one 3 (insns_line name)
      | false ↦ one
    ]

-- the schedule of a block, by another of its graphs
by_graph : (d : Description) (known : Known) (block : List Instruction) (g h : Graph) (slots : List Slot) → IsScheduleOf d known block g slots → IsGraphOf d block h → IsScheduleOf d known block h slots
by_graph d known block g h slots is graph =
    let alike = graphs_alike d block g h is.graph graph in
    record {
      graph = graph;
      legal = legal_there (Accepted (pipeline_with d known)) g h alike slots is.legal;
      greedy = greedy_there (Accepted (pipeline_with d known)) g h alike slots is.greedy;
    }

two_one : (d : Description) (known : Known) (first second : List Instruction) → IsCheckable d → IsSound d known → All (StartsAlone d known) first → All (StartsAlone d known) second → HasOne (TellsTwo d known first second)
two_one d known first second formed sound one other =
    let (g, h, slots, is) = some_of_two d known first second formed sound one other in
    let (i, alone, mine) = some_schedule_of d known first formed sound one in
    let (j, others, yours) = some_schedule_of d known second formed sound other in
    let text = text_of_two d first second g h slots alone others in
    wider (Says 0 text) _ (λ s t says. (g, h, slots, alone, others, is, by_graph d known first i g alone mine is.first_graph, by_graph d known second j h others yours is.second_graph, says)) (says_one 0 text)

two_blocks_one : (description described first one second other : List ℕ) → HasOne (HasDescription description described (SchedulesTwoByDescription description first one second other))
two_blocks_one description described first one second other =
    description_one description described _ (λ d known formed sound.
    compiles_one description d known _ (λ kept.
    forms_one first one _ (λ read reads.
    block_one first read _ (λ mine.
    forms_one second other _ (λ more too.
    block_one second more _ (λ yours.
    few_one instruction_limit (length mine + length yours) second _
    (classes_one first d mine _
    (classes_one second d yours _
    (starts_one first d known mine _ (λ all.
    starts_one second d known yours _ (two_one d known mine yours formed sound all)))))))))))

-- Tables.

-- what comes last is reported after the asks
reported_by_one : (m : Machine) (lines : List ℕ) (events : List Event) (status : ℕ) (text : List ℕ) → HasOne (Tells (reported_by m) (names_of_machine m) lines events (Says status text))
reported_by_one m lines events status text = let reported = some_reported (reported_by m) (names_of_machine m) (reported_or_not m) lines events (Says status text) status text (refl, refl) in (status, reported.0, reported.1)

walks_one : (m : Machine) → IsMachine m → (lines : List ℕ) (events : List Event) → length lines ≡ length events → All (IsOfClass (length m.classes)) events → HasOne (Walks m lines events)
walks_one m is lines events each of_class = ⊎_elim
    (λ (walked : IsSome (machine_walk m events)). wider (Tells (reported_by m) (names_of_machine m) lines events (Says 0 (accepted_line (issues_of events) (cycles_of events)))) _ (λ s t h. inl (walked, h)) (reported_by_one m lines events 0 (accepted_line (issues_of events) (cycles_of events))))
    (λ (found : (i : ℕ) × (i < length events) × IsFirstUnwalked m events i).
    let i = found.0 in
    let within = found.1 in
    let issued = unwalked_issue m is events i within found.2 in
    let at : get_or events i (issue 0) ≡ issue issued.0 = get_or_from_slice_get events i (issue issued.0) (issue 0) issued.1 in
    let low : issued.0 < length m.classes = subst (IsOfClass (length m.classes)) at (All-get_or (IsOfClass (length m.classes)) events i (issue 0) within of_class) in
    let class = get_or m.classes issued.0 [] in
    let line = get_or lines i 0 in
    let there = slice_get-get_or lines i 0 (omega (arith, within, each)) in
    wider (Tells (reported_by m) (names_of_machine m) lines (take i events) (Says 1 (refused_line line class))) _ (λ s t h. inr (i, line, class, found.2, there, (issued.0, issued.1, slice_get-get_or m.classes issued.0 [] low), h)) (reported_by_one m lines (take i events) 1 (refused_line line class)))
    (walked_or_first m events)

machine_traces_one : (m : Machine) → IsMachine m → (name text : List ℕ) → HasOne (WalksTrace name text m)
machine_traces_one m is name text = ⊎_elim
    (λ (found : (events : List Event) × Trace (names_of_machine m) text events).
    wider (Walks m (event_lines (names_of_machine m) 1 (lines_of text)) found.0) _ (λ s t h. inl (found.0, found.1, h))
    (walks_one m is (event_lines (names_of_machine m) 1 (lines_of text)) found.0 (counted_lines (names_of_machine m) 1 (found.1).lines) (events_of_classes (names_of_machine m) (found.1).lines)))
    (λ (wrong : (fault : TraceFault) × (line : ℕ) × TraceFaultAt (names_of_machine m) text fault line).
    wider (Says 2 (fault_line name wrong.1 (trace_word wrong.0 ∷ []))) _ (λ s t h. inr (wrong.0, wrong.1, wrong.2, h)) (says_one 2 (fault_line name wrong.1 (trace_word wrong.0 ∷ []))))
    (trace_of_every_text (names_of_machine m) text)

walked_one : (tables tabled trace traced : List ℕ) → HasOne (HasTables tables tabled (WalksTrace trace traced))
walked_one tables tabled trace traced = by_read (tables_in tabled) refl
  where
    by_read : (r : Result Machine Fault) → tables_in tabled ≡ r → HasOne (HasTables tables tabled (WalksTrace trace traced))
    by_read (Ok m) is =
        let stands = tables_take tabled m is in
        wider (WalksTrace trace traced m) _ (λ s t h. inl (m, stands, h)) (machine_traces_one m (text_machine tabled m stands) trace traced)
    by_read (Err fault) is = wider (Says 2 (fault_line tables fault.line (tables_word fault.kind ∷ []))) _ (λ s t h. inr (fault.kind, fault.line, is, h)) (says_one 2 (fault_line tables fault.line (tables_word fault.kind ∷ [])))

-- a description without a fault whose automata keep their limits has tables
some_tables : (d : Description) (known : Known) → IsWellFormed d → IsSound d known → AllKeepLimits d known → (text : List ℕ) × IsTablesOf d known text
some_tables d known formed sound keep =
    let has : HasMachine d known = some_machine d known formed sound keep in
    let automata = automata_of d in
    let classes = map (class_parts d known) d.classes in
    let kept = parts_kept d known (can_be_checked d formed) sound in
    let said = can_be_said d.options automata classes (map (bypass_parts d) d.bypasses) (attributes_of d) kept has.machine has.reports has.is has.compiled in (
      spelled (tables_said d.options automata has.reports has.machine),
      record {
        machine = has.machine;
        reports = has.reports;
        compiled = has.compiled;
        listed = has.listed;
        stands = said_is_text d.options automata has.reports has.machine said has.is has.range;
        spells = refl;
      },
    )

kernel_one : (d : Description) (known : Known) → IsWellFormed d → IsSound d known → AllKeepLimits d known → (body : List Instruction) → All (StartsAlone d known) body → HasOne (TellsKernel d known body)
kernel_one d known formed sound keep body all =
    let has : HasMachine d known = some_machine d known formed sound keep in
    let (g, slots, is) = some_schedule_of d known body (can_be_checked d formed) sound all in
    let found = some_kernel_text d known has.machine has.reports (can_be_checked d formed) sound has.is has.compiled body g slots is in
    (0, found.0, (refl, found.1))

kernels_one : (description described block blocked : List ℕ) → HasOne (HasDescription description described (OverlapsByDescription description block blocked))
kernels_one description described block blocked =
    forms_one description described _ (λ text is.
    describes_one description text _ (λ d says formed.
    checks_one description d _ formed (λ known sound.
    compiles_one description d known _ (λ kept.
    forms_one block blocked _ (λ read reads.
    block_one block read _ (λ body.
    few_one body_limit (length body) block _
    (classes_one block d body _ (starts_one block d known body _ (kernel_one d known formed sound kept body)))))))))

-- it is compiled, where what follows has an answer for its tables
tabled_one : (description described : List ℕ) (next : Description → Known → ℕ → List ℕ → Type 0)
    → ((d : Description) (known : Known) (text : List ℕ) → IsSound d known → IsTablesOf d known text → HasOne (next d known)) → HasOne (HasDescription description described (λ d known. Compiles description d known (next d known)))
tabled_one description described next one =
    forms_one description described _ (λ read is.
    describes_one description read _ (λ d says formed.
    checks_one description d (λ known. Compiles description d known (next d known)) formed (λ known sound.
    compiles_one description d known (next d known) (λ kept. let found = some_tables d known formed sound kept in one d known found.0 sound found.1))))

compiled_one : (description described : List ℕ) → HasOne (HasDescription description described (CompilesDescription description))
compiled_one description described = tabled_one description described WritesTablesOf (λ d known text sound is. (0, text, (refl, is)))

drilled_one : (description described : List ℕ) (number turns : ℕ) → HasOne (HasDescription description described (DrillsDescription description number turns))
drilled_one description described number turns =
    tabled_one description described (λ d known. Drills d known number turns) (λ d known text sound is.
    let found = some_drill d known number turns text sound is in (0, found.0, (refl, found.1)))

files_one : (held : Held) (files : List FileWord) (next : Next (List (List ℕ))) → ForTexts files (λ texts. HasOne (next texts)) → HasOne (OpensAll held files next)
files_one held [] next one = one
files_one held (file ∷ files) next one =
    opens_one (held file.name) file.name file.most (λ bytes. OpensAll held files (λ others. next (bytes ∷ others)))
    (λ bytes is. files_one held files (λ others. next (bytes ∷ others)) (one bytes))

judges_one : (order : Order) → ForTexts (files_of order) (λ texts. HasOne (JudgesOrder order texts))
judges_one (replay description trace) = λ described traced. texts_one description described trace traced
judges_one (compile description) = λ described. compiled_one description described
judges_one (walk tables trace) = λ tabled traced. walked_one tables tabled trace traced
judges_one (schedule description block) = λ described blocked. blocked_one description described block blocked TellsSchedule schedule_one
judges_one (timed description block state) = λ described blocked stated. timed_blocks_one description described block blocked state stated
judges_one (bound description block) = λ described blocked. blocked_one description described block blocked TellsBound bound_one
judges_one (duo description first second) = λ described one other. two_blocks_one description described first one second other
judges_one (modulo description block) = λ described blocked. kernels_one description described block blocked
judges_one (eval block state) = λ blocked stated. blocks_one block blocked state stated
judges_one (drill description number turns) = λ described. drilled_one description described number turns

order_one : (held : Held) (order : Order) → HasOne (AnswersOrder held order)
order_one held order = files_one held (files_of order) (JudgesOrder order) (judges_one order)

-- all words have an answer, whatever is held
pub answer_one : (words : List (List ℕ)) (held : Held) → HasOne (Answer words held)
answer_one words held = by_order (order_of words)
  where
    by_order : (o : Option Order) → HasOne (λ s t. MatchOption o (Says 4 usage_line s t) (λ order. AnswersOrder held order s t))
    by_order None = says_one 4 usage_line
    by_order (Some order) = order_one held order
