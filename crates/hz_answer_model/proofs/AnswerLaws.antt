-- Answers: there is one, and no other.
use Rattle.std.proofs.Common.{refl, ◌≡◌, ℕ, ◌+◌, ◌<◌, ◌≤◌, ⊎_elim, arith, slice_index_or, inl, inr, true, false, List, [], ◌∷◌, ◌++◌, map, take, length, Option, Some, None, MatchOption, MatchBool, nat_lt, slice_get, sym, ap, ◌∙◌, subst}
use Rattle.std.proofs.lemmas.Bool.{cases_lt}
use Rattle.std.proofs.lemmas.Option.{same_Some}
use Rattle.hz_front_model.specs.Descriptions.{HasDescription}
use Rattle.hz_answer_model.specs.Answers.{Compiles, CompilesDescription, DrillsDescription, ReplaysTrace, ReplaysDescription, Judges, TimesByDescription, SchedulesTwoByDescription, OverlapsByDescription, files_of, JudgesOrder, AnswersOrder, Answer}
use Rattle.hz_description_model.specs.Check.Places.{Known, class_names}
use Rattle.hz_description_model.specs.Reading.Descriptions.{Description}
use Rattle.hz_pipeline_model.specs.Traces.Traces.{event_lines}
use Rattle.hz_block_model.specs.Texts.Operands.{rtl_word, RtlFault, Judged}
use Rattle.hz_tabtext_model.specs.Judging.{tables_word, Fault}
use Rattle.hz_answer_model.specs.FaultTexts.{class_line, stuck_line}
use Rattle.hz_base_model.specs.Lines.{lines_of}
use Rattle.hz_description_model.specs.Check.CheckedParts.{automaton_names, queries_in}
use Rattle.hz_pipeline_model.specs.Pipelines.Pipelines.{pipeline_with}
use Rattle.hz_pipeline_model.specs.Accepting.Restricted.{restricted}
use Rattle.hz_pipeline_model.specs.Reaching.Counts.{Count}
use Rattle.hz_pipeline_model.specs.Compiling.AutomatonPipelines.{class_lists}
use Rattle.hz_pipeline_model.specs.Compiling.Compiled.{shows_states}
use Rattle.hz_pipeline_model.specs.Compiling.DescriptionLimits.{KeepsLimits, PassesLimit, IsFirstPastLimit}
use Rattle.hz_pipeline_model.proofs.Compiling.LimitLaws.{within_or_past}
use Rattle.hz_pipeline_model.specs.Accepting.Events.{Event}
use Rattle.hz_front_model.specs.Texts.{fault_line, states_line, refused_line, insns_line}
use Rattle.hz_answer_model.specs.Texts.{slot_line, scheduled_line}
use Rattle.hz_base_model.specs.Forms.Trees.{Trees}
use Rattle.hz_words_model.specs.Words.{Order, compile, replay, walk, schedule, eval, drill, timed, bound, duo, modulo, order_of, usage_line}
use Rattle.hz_base_model.specs.Names.{Held}
use Rattle.hz_front_model.specs.Phases.{Says, Next}
use Rattle.hz_answer_model.specs.TableAnswers.{WritesTablesOf, HasTables, IsIssueIn, Walks, WalksTrace, reported_by}
use Rattle.hz_pipeline_model.specs.Tables.MachineNames.{names_of_machine}
use Rattle.hz_front_model.specs.Asks.{Tells, trace_names, held_in}
use Rattle.hz_front_model.proofs.AskLaws.{one_reported}
use Rattle.hz_front_model.proofs.SingleLaws.{IsSingle, says_single, says_same, replays_single, traces_single, forms_single, description_single, files_single, ForTexts}
use Rattle.hz_answer_model.proofs.TableLaws.{one_unwalked, walked_or_not, one_issue_in}
use Rattle.hz_answer_model.proofs.OneText.{one_tables_text}
use Rattle.hz_answer_model.proofs.DrillLaws.{one_drill_text}
use Rattle.hz_answer_model.specs.DrillAnswers.{Drills}
use Rattle.hz_answer_model.specs.BlockAnswers.{IsBlock, IsState, HasBlock, HasAtMost, Evaluates, JudgesBlock}
use Rattle.hz_answer_model.specs.ScheduleAnswers.{schedule_text, HasClasses, Starts, TellsSchedule}
use Rattle.hz_answer_model.specs.TimedAnswers.{TellsTimed}
use Rattle.hz_answer_model.specs.BoundAnswers.{TellsBound}
use Rattle.hz_answer_model.specs.DuoAnswers.{TellsTwo}
use Rattle.hz_answer_model.specs.ModuloAnswers.{TellsKernel}
use Rattle.hz_measure_model.specs.Kernels.Repeats.{body_limit}
use Rattle.hz_answer_model.proofs.KernelLaws.{one_kernel_text}
use Rattle.hz_block_model.specs.Scheduled.BlockGraphs.{classes_of, timing_in}
use Rattle.hz_block_model.specs.Texts.StateTexts.{IsText}
use Rattle.hz_measure_model.specs.Exposed.ByDescription.{exposed_in}
use Rattle.hz_measure_model.specs.Exposed.Exposed.{Timed, exposed}
use Rattle.hz_measure_model.specs.Exposed.Texts.{text_of_reads}
use Rattle.hz_measure_model.specs.Bounds.Bounds.{Bound}
use Rattle.hz_measure_model.specs.Bounds.Texts.{text_of_bound}
use Rattle.hz_measure_model.proofs.Bounds.BlockBounds.{one_bound_of_a_block}
use Rattle.hz_measure_model.proofs.TwoContexts.OneOfTwo.{one_of_two}
use Rattle.hz_measure_model.specs.TwoContexts.Joining.{in_contexts}
use Rattle.hz_measure_model.specs.TwoContexts.Texts.{issue_line, together_line, alone_line, last_cycle, text_of_two}
use Rattle.hz_block_model.specs.Scheduling.Schedules.{Graph, Slot, present}
use Rattle.hz_block_model.proofs.Scheduled.BlockLaws.{one_of_a_block}
use Rattle.hz_block_model.proofs.Scheduled.FaultLaws.{one_wrong_class, wrong_class_or_all, one_stuck, stuck_or_all}
use Rattle.hz_block_model.specs.Running.Blocks.{Instruction}
use Rattle.hz_block_model.specs.Running.Limits.{instruction_limit}
use Rattle.hz_block_model.specs.Running.States.{State, run, all_stored}
use Rattle.hz_block_model.specs.Texts.BlockForms as blocks
use Rattle.hz_block_model.specs.Texts.StateForms as states
use Rattle.hz_block_model.proofs.Texts.Listings.{same_text}
use Rattle.hz_pipeline_model.specs.Tables.Machines.{Machine}
use Rattle.hz_tabtext_model.proofs.TextAgain.{tables_again}
use Rattle.hz_tabtext_model.proofs.Steps.{ok_is}
use Rattle.std.specs.List.{range_with_len, flat_map}
use Rattle.std.specs.Prelude.{Ok, Err, slice_index, ◌==◌, if◌then◌else◌}

-- what is judged good is not wrong
good_or_wrong : {A : Type 0} (value : A) (wrong : RtlFault × ℕ) (judged : Judged A) → judged ≡ Ok value → judged ≡ Err wrong → ⊥
good_or_wrong value wrong judged h k = absurd (cc)

same_good : {A : Type 0} (value other : A) (judged : Judged A) → judged ≡ Ok value → judged ≡ Ok other → value ≡ other
same_good value other judged h k = cc

same_wrong : {A : Type 0} (wrong other : RtlFault × ℕ) (judged : Judged A) → judged ≡ Err wrong → judged ≡ Err other → wrong ≡ other
same_wrong wrong other judged h k = cc

-- the first automaton past its limits is one, and then not all keep them
pub kept_or_past : (d : Description) (known : Known) (a : ℕ) → KeepsLimits d known a → (kind : Count) → PassesLimit d known a kind → ⊥
kept_or_past d known a kept kind past = within_or_past (class_lists d known a) (shows_states d.options) (length (queries_in d a)) (restricted a (pipeline_with d known)) kind kept past

first_past_one : (d : Description) (known : Known) (a b : ℕ) → IsFirstPastLimit d known a → IsFirstPastLimit d known b → a ≡ b
first_past_one d known a b one other = ⊎_elim
    (λ (less : a < b). absurd (kept_or_past d known a (other.before a less) one.kind one.past))
    (λ (high : b ≤ a). ⊎_elim
    (λ (less : b < a). absurd (kept_or_past d known b (one.before b less) other.kind other.past))
    (λ (low : a ≤ b). omega (arith, high, low))
    (cases_lt b a))
    (cases_lt a b)

compiles_single : (name : List ℕ) (d : Description) (known : Known) (next : ℕ → List ℕ → Type 0) → IsSingle next → IsSingle (Compiles name d known next)
compiles_single name d known next single s s' t t' (inl (kept, x)) (inl (kept', y)) = single s s' t t' x y
compiles_single name d known next single s s' t t' (inl (kept, x)) (inr (a, first, y)) = absurd (kept_or_past d known a (kept a first.there) first.kind first.past)
compiles_single name d known next single s s' t t' (inr (a, first, x)) (inl (kept, y)) = absurd (kept_or_past d known a (kept a first.there) first.kind first.past)
compiles_single name d known next single s s' t t' (inr (a, first, x)) (inr (b, also, y)) =
    says_same 3 3 _ _ refl (ap (λ (n : ℕ). states_line name (slice_index_or (automaton_names d) n [])) (first_past_one d known a b first also)) s s' t t' x y

texts_single : (description described trace traced : List ℕ) → IsSingle (Judges description described trace traced)
texts_single description described trace traced =
    description_single description described (ReplaysDescription description trace traced) (λ d known.
    compiles_single description d known (ReplaysTrace trace traced d known)
    (traces_single (trace_names d) trace traced _ (replays_single (pipeline_with d known) (held_in d known) (trace_names d) (event_lines (trace_names d) 1 (lines_of traced)))))

-- Blocks and states.

block_single : (name : List ℕ) (read : Trees) (next : Next (List Instruction)) → ((block : List Instruction) → IsSingle (next block)) → IsSingle (IsBlock name read next)
block_single name read next single s s' t t' (inl (b, is, x)) (inl (c, also, y)) =
    let same = same_good b c (blocks.instructions_after [] read) is also in
    single b s s' t t' x (subst (λ (k : List Instruction). next k s' t') (sym same) y)
block_single name read next single s s' t t' (inl (b, is, x)) (inr (fault, line, wrong, y)) = absurd (good_or_wrong b (fault, line) (blocks.instructions_after [] read) is wrong)
block_single name read next single s s' t t' (inr (fault, line, wrong, x)) (inl (b, is, y)) = absurd (good_or_wrong b (fault, line) (blocks.instructions_after [] read) is wrong)
block_single name read next single s s' t t' (inr (fault, line, wrong, x)) (inr (other, place, also, y)) =
    let same = same_wrong (fault, line) (other, place) (blocks.instructions_after [] read) wrong also in
    says_same 2 2 (fault_line name line (rtl_word fault ∷ [])) (fault_line name place (rtl_word other ∷ [])) refl (ap (λ (f : RtlFault × ℕ). fault_line name f.1 (rtl_word f.0 ∷ [])) same) s s' t t' x y

state_single : (name : List ℕ) (read : Trees) (next : Next State) → ((state : State) → IsSingle (next state)) → IsSingle (IsState name read next)
state_single name read next single s s' t t' (inl (a, is, x)) (inl (b, also, y)) =
    let given = same_good is.given also.given (states.stores_after [] read) is.says also.says in
    let same : a ≡ b = is.is ∙ (ap (all_stored states.empty_state) given ∙ sym also.is) in
    single a s s' t t' x (subst (λ (k : State). next k s' t') (sym same) y)
state_single name read next single s s' t t' (inl (a, is, x)) (inr (fault, line, wrong, y)) = absurd (good_or_wrong is.given (fault, line) (states.stores_after [] read) is.says wrong)
state_single name read next single s s' t t' (inr (fault, line, wrong, x)) (inl (a, is, y)) = absurd (good_or_wrong is.given (fault, line) (states.stores_after [] read) is.says wrong)
state_single name read next single s s' t t' (inr (fault, line, wrong, x)) (inr (other, place, also, y)) =
    let same = same_wrong (fault, line) (other, place) (states.stores_after [] read) wrong also in
    says_same 2 2 (fault_line name line (rtl_word fault ∷ [])) (fault_line name place (rtl_word other ∷ [])) refl (ap (λ (f : RtlFault × ℕ). fault_line name f.1 (rtl_word f.0 ∷ [])) same) s s' t t' x y

evaluates_single : (block : List Instruction) (state : State) → IsSingle (Evaluates block state)
evaluates_single block state s s' t t' (zero, is) (zero', also) = (zero ∙ sym zero', same_text (run block (range_with_len 0 (length block)) state) t t' is also)

blocks_single : (block blocked state stated : List ℕ) → IsSingle (JudgesBlock block blocked state stated)
blocks_single block blocked state stated =
    forms_single block blocked _ (λ read.
    block_single block read _ (λ insns.
    forms_single state stated _ (λ other.
    state_single state other (Evaluates insns) (evaluates_single insns))))

-- Schedules.

classes_single : (name : List ℕ) (d : Description) (block : List Instruction) (next : ℕ → List ℕ → Type 0) → IsSingle next → IsSingle (HasClasses name d block next)
classes_single name d block next single s s' t t' (inl (all, x)) (inl (also, y)) = single s s' t t' x y
classes_single name d block next single s s' t t' (inl (all, x)) (inr (i, fault, first, y)) = absurd (wrong_class_or_all d block i fault first all)
classes_single name d block next single s s' t t' (inr (i, fault, first, x)) (inl (all, y)) = absurd (wrong_class_or_all d block i fault first all)
classes_single name d block next single s s' t t' (inr (i, fault, first, x)) (inr (j, other, second, y)) =
    let same = one_wrong_class d block i j fault other first second in
    says_same 2 2 _ _ refl (ap (λ (k : Instruction). class_line name (class_names d) k fault) same.0 ∙ ap (class_line name (class_names d) j) same.1) s s' t t' x y

-- the text of a schedule by the classes of its graph
abbrev text_by_classes : Description → List Instruction → List ℕ → List Slot → List ℕ
text_by_classes d block classes slots =
    flat_map (λ x. slot_line x.cycle (slice_index (map (λ i. i.number) block) x.place) (slice_index_or (class_names d) (slice_index classes x.place) [])) slots
    ++ scheduled_line (length slots) (present 0 slots)

same_schedule_text : (d : Description) (block : List Instruction) (g h : Graph) (slots others : List Slot) → classes_of g ≡ classes_of h → slots ≡ others → schedule_text d block g slots ≡ schedule_text d block h others
same_schedule_text d block g h slots others classes same = ap (λ (cs : List ℕ). text_by_classes d block cs slots) classes ∙ ap (schedule_text d block h) same

starts_single : (name : List ℕ) (d : Description) (known : Known) (block : List Instruction) (next : ℕ → List ℕ → Type 0) → IsSingle next → IsSingle (Starts name d known block next)
starts_single name d known block next single s s' t t' (inl (all, x)) (inl (every, y)) = single s s' t t' x y
starts_single name d known block next single s s' t t' (inl (all, x)) (inr (i, first, y)) = absurd (stuck_or_all d known block i first all)
starts_single name d known block next single s s' t t' (inr (i, first, x)) (inl (all, y)) = absurd (stuck_or_all d known block i first all)
starts_single name d known block next single s s' t t' (inr (i, first, x)) (inr (j, second, y)) =
    says_same 2 2 _ _ refl (ap (stuck_line name) (one_stuck d known block i j first second)) s s' t t' x y

schedule_single : (d : Description) (known : Known) (block : List Instruction) → IsSingle (TellsSchedule d known block)
schedule_single d known block s s' t t' (g, slots, is, x) (h, others, also, y) =
    let same = one_of_a_block d known block g h slots others is also in
    says_same 0 0 _ _ refl (same_schedule_text d block g h slots others same.0 same.1) s s' t t' x y

-- what is read by the classes of a graph
abbrev left_by_classes : Description → List Instruction → State → List Slot → List ℕ → Timed
left_by_classes d block state slots classes = exposed block (timing_in d classes block).number state slots

timed_single : (d : Description) (known : Known) (block : List Instruction) (state : State) → IsSingle (TellsTimed d known block state)
timed_single d known block state s s' t t' (g, slots, is, zero, one) (h, others, also, zero', two) = (zero ∙ sym zero', text)
  where
    same : (classes_of g ≡ classes_of h) × (slots ≡ others)
    same = one_of_a_block d known block g h slots others is also

    left : exposed_in d block g slots state ≡ exposed_in d block h others state
    left = ap (left_by_classes d block state slots) same.0 ∙ ap (λ (xs : List Slot). exposed_in d block h xs state) same.1

    tail : one.tail ≡ two.tail
    tail = same_text (exposed_in d block h others state).state one.tail two.tail (subst (λ (x : Timed). IsText x.state one.tail) left one.state_is) two.state_is

    text : t ≡ t'
    text =
        one.text_is
        ∙ (ap (λ (x : Timed). text_of_reads block slots x.reads ++ one.tail) left
        ∙ (ap (λ (xs : List Slot). text_of_reads block xs (exposed_in d block h others state).reads ++ one.tail) same.1
        ∙ (ap (λ (u : List ℕ). text_of_reads block others (exposed_in d block h others state).reads ++ u) tail ∙ sym two.text_is)))

timed_blocks_single : (description described block blocked state stated : List ℕ) → IsSingle (HasDescription description described (TimesByDescription description block blocked state stated))
timed_blocks_single description described block blocked state stated =
    description_single description described _ (λ d known.
    compiles_single description d known _
    (forms_single block blocked _ (λ read.
    block_single block read _ (λ insns.
    forms_single state stated _ (λ also.
    state_single state also _ (λ start.
    classes_single block d insns _
    (starts_single block d known insns _ (timed_single d known insns start))))))))

bound_single : (d : Description) (known : Known) (block : List Instruction) → IsSingle (TellsBound d known block)
bound_single d known block s s' t t' (g, slots, b, is, bounds, x) (h, others, c, also, too, y) =
    let same = one_of_a_block d known block g h slots others is also in
    let one = one_bound_of_a_block d known block g h b c is.graph also.graph bounds too in
    says_same 0 0 _ _ refl (ap (λ (b : Bound). text_of_bound d block b slots) one ∙ ap (text_of_bound d block c) same.1) s s' t t' x y

-- a block by a description leaves no choice where what follows leaves none
blocked_single : (description described block blocked : List ℕ) (next : (d : Description) (known : Known) (insns : List Instruction) → ℕ → List ℕ → Type 0) → ((d : Description) (known : Known) (insns : List Instruction) → IsSingle (next d known insns))
    → IsSingle (HasDescription description described (λ d known. Compiles description d known (HasBlock block blocked (λ insns. HasClasses block d insns (Starts block d known insns (next d known insns))))))
blocked_single description described block blocked next single =
    description_single description described _ (λ d known.
    compiles_single description d known _
    (forms_single block blocked _ (λ read.
    block_single block read _ (λ insns.
    classes_single block d insns _ (starts_single block d known insns (next d known insns) (single d known insns))))))

-- Two blocks.

few_single : (most count : ℕ) (name : List ℕ) (next : ℕ → List ℕ → Type 0) → IsSingle next → IsSingle (HasAtMost most count name next)
few_single most count name next single =
    elim (nat_lt most count) as (λ b. IsSingle (λ s t. MatchBool b (Says 3 (insns_line name) s t) (next s t))) [
      | true ↦ says_single 3 (insns_line name)
      | false ↦ single
    ]

-- the text of a schedule of two blocks by the classes of their graphs
abbrev two_by_classes : Description → List Instruction → List Instruction → (mine yours : List ℕ) → List Slot → (alone other : ℕ) → List ℕ
two_by_classes d first second mine yours slots alone other =
    flat_map (λ x. if x.context == 1
    then issue_line x.cycle x.context (slice_index (map (λ i. i.number) first) x.place) (slice_index_or (class_names d) (slice_index mine x.place) [])
    else issue_line x.cycle x.context (slice_index (map (λ i. i.number) second) x.place) (slice_index_or (class_names d) (slice_index yours x.place) [])) (in_contexts (length first) slots)
    ++ (together_line (length (map (λ i. i.number) first)) (length (map (λ i. i.number) second)) (last_cycle 0 (in_contexts (length first) slots)) ++ alone_line alone other)

same_two_text : (d : Description) (first second : List Instruction) (g h i j : Graph) (slots slots' alone alone' other other' : List Slot) → classes_of g ≡ classes_of i → classes_of h ≡ classes_of j → slots ≡ slots' → alone ≡ alone' → other ≡ other'
    → text_of_two d first second g h slots alone other ≡ text_of_two d first second i j slots' alone' other'
same_two_text d first second g h i j slots slots' alone alone' other other' mine yours together one two =
    ap (λ (cs : List ℕ). two_by_classes d first second cs (classes_of h) slots (present 0 alone) (present 0 other)) mine
    ∙ (ap (λ (cs : List ℕ). two_by_classes d first second (classes_of i) cs slots (present 0 alone) (present 0 other)) yours
    ∙ (ap (λ (all : List Slot). text_of_two d first second i j all alone other) together
    ∙ (ap (λ (all : List Slot). text_of_two d first second i j slots' all other) one ∙ ap (text_of_two d first second i j slots' alone') two)))

two_single : (d : Description) (known : Known) (first second : List Instruction) → IsSingle (TellsTwo d known first second)
two_single d known first second s s' t t' (g, h, slots, alone, other, is, one, two, x) (i, j, slots', alone', other', also, one', two', y) =
    let mine = one_of_a_block d known first g i alone alone' one one' in
    let yours = one_of_a_block d known second h j other other' two two' in
    let together = one_of_two d known first second g h i j slots slots' is also in
    says_same 0 0 _ _ refl (same_two_text d first second g h i j slots slots' alone alone' other other' mine.0 yours.0 together mine.1 yours.1) s s' t t' x y

two_blocks_single : (description described first one second other : List ℕ) → IsSingle (HasDescription description described (SchedulesTwoByDescription description first one second other))
two_blocks_single description described first one second other =
    description_single description described _ (λ d known.
    compiles_single description d known _
    (forms_single first one _ (λ read.
    block_single first read _ (λ mine.
    forms_single second other _ (λ also.
    block_single second also _ (λ yours.
    few_single instruction_limit (length mine + length yours) second _
    (classes_single first d mine _
    (classes_single second d yours _
    (starts_single first d known mine _
    (starts_single second d known yours _ (two_single d known mine yours)))))))))))

-- Kernels.

kernel_single : (d : Description) (known : Known) (body : List Instruction) → IsSingle (TellsKernel d known body)
kernel_single d known body s s' t t' (zero, is) (zero', also) = (zero ∙ sym zero', one_kernel_text d known body t t' is also)

kernels_single : (description described block blocked : List ℕ) → IsSingle (HasDescription description described (OverlapsByDescription description block blocked))
kernels_single description described block blocked =
    description_single description described _ (λ d known.
    compiles_single description d known _
    (forms_single block blocked _ (λ read.
    block_single block read _ (λ body.
    few_single body_limit (length body) block _
    (classes_single block d body _ (starts_single block d known body _ (kernel_single d known body)))))))

-- Tables.

walks_single : (m : Machine) (lines : List ℕ) (events : List Event) → IsSingle (Walks m lines events)
walks_single m lines events s s' t t' (inl a) (inl b) = one_reported (reported_by m) (names_of_machine m) lines events _ (says_single _ _) s s' t t' a.1 b.1
walks_single m lines events s s' t t' (inl a) (inr b) = absurd (walked_or_not m events b.0 a.0 b.3)
walks_single m lines events s s' t t' (inr a) (inl b) = absurd (walked_or_not m events a.0 b.0 a.3)
walks_single m lines events s s' t t' (inr (i, line, class, first, there, named, tells)) (inr (j, line', class', first', there', named', tells')) =
    let place = one_unwalked m events i j first first' in
    let number = same_Some line line' (sym there ∙ (ap (slice_get lines) place ∙ there')) in
    let name = one_issue_in m (slice_get events i) class class' named (subst (λ (n : ℕ). IsIssueIn m (slice_get events n) class') (sym place) named') in
    let same : refused_line line class ≡ refused_line line' class' = ap (λ (n : ℕ). refused_line n class) number ∙ ap (refused_line line') name in
    let again : Tells (reported_by m) (names_of_machine m) lines (take i events) (Says 1 (refused_line line class)) s' t' =
    subst (λ (text : List ℕ). Tells (reported_by m) (names_of_machine m) lines (take i events) (Says 1 text) s' t') (sym same)
    (subst (λ (n : ℕ). Tells (reported_by m) (names_of_machine m) lines (take n events) (Says 1 (refused_line line' class')) s' t') (sym place) tells') in
    one_reported (reported_by m) (names_of_machine m) lines (take i events) _ (says_single _ _) s s' t t' tells again

tables_single : (name bytes : List ℕ) (next : Next Machine) → ((m : Machine) → IsSingle (next m)) → IsSingle (HasTables name bytes next)
tables_single name bytes next single s s' t t' (inl (m, is, a)) (inl (other, also, b)) =
    let same : m ≡ other = ok_is {E = Fault} m other (sym (tables_again bytes m is) ∙ tables_again bytes other also) in
    single m s s' t t' a (subst (λ (x : Machine). next x s' t') (sym same) b)
tables_single name bytes next single s s' t t' (inl (m, is, a)) (inr (kind, line, wrong, b)) = let read = tables_again bytes m is in absurd (cc)
tables_single name bytes next single s s' t t' (inr (kind, line, wrong, a)) (inl (m, is, b)) = let read = tables_again bytes m is in absurd (cc)
tables_single name bytes next single s s' t t' (inr (kind, line, wrong, a)) (inr (other, place, also, b)) =
    let fault : Fault = record { kind = kind; line = line } in
    let second : Fault = record { kind = other; line = place } in
    let same : fault ≡ second = cc in
    says_same 2 2 (fault_line name line (tables_word kind ∷ [])) (fault_line name place (tables_word other ∷ [])) refl (ap (λ (f : Fault). fault_line name f.line (tables_word f.kind ∷ [])) same) s s' t t' a b

walked_single : (tables tabled trace traced : List ℕ) → IsSingle (HasTables tables tabled (WalksTrace trace traced))
walked_single tables tabled trace traced =
    tables_single tables tabled (WalksTrace trace traced) (λ m.
    traces_single (names_of_machine m) trace traced _ (walks_single m (event_lines (names_of_machine m) 1 (lines_of traced))))

compiled_single : (d : Description) (known : Known) → IsSingle (WritesTablesOf d known)
compiled_single d known s s' t t' (zero, is) (zero', also) = (zero ∙ sym zero', one_tables_text d known t t' is also)

drilled_single : (d : Description) (known : Known) (number turns : ℕ) → IsSingle (Drills d known number turns)
drilled_single d known number turns s s' t t' (zero, is) (zero', also) = (zero ∙ sym zero', one_drill_text d known number turns t t' is also)

judges_single : (order : Order) → ForTexts (files_of order) (λ texts. IsSingle (JudgesOrder order texts))
judges_single (replay description trace) = λ described traced. texts_single description described trace traced
judges_single (compile description) =
    λ described. description_single description described (CompilesDescription description) (λ d known.
    compiles_single description d known (WritesTablesOf d known) (compiled_single d known))
judges_single (walk tables trace) = λ tabled traced. walked_single tables tabled trace traced
judges_single (schedule description block) = λ described blocked. blocked_single description described block blocked TellsSchedule schedule_single
judges_single (timed description block state) = λ described blocked stated. timed_blocks_single description described block blocked state stated
judges_single (bound description block) = λ described blocked. blocked_single description described block blocked TellsBound bound_single
judges_single (duo description first second) = λ described one other. two_blocks_single description described first one second other
judges_single (modulo description block) = λ described blocked. kernels_single description described block blocked
judges_single (eval block state) = λ blocked stated. blocks_single block blocked state stated
judges_single (drill description number turns) =
    λ described. description_single description described (DrillsDescription description number turns) (λ d known.
    compiles_single description d known (Drills d known number turns) (drilled_single d known number turns))

order_single : (held : Held) (order : Order) → IsSingle (AnswersOrder held order)
order_single held order = files_single held (files_of order) (JudgesOrder order) (judges_single order)

-- the words and what is held have one answer at most
pub answer_single : (words : List (List ℕ)) (held : Held) → IsSingle (Answer words held)
answer_single words held = by_order (order_of words)
  where
    by_order : (o : Option Order) → IsSingle (λ s t. MatchOption o (Says 4 usage_line s t) (λ order. AnswersOrder held order s t))
    by_order None = says_single 4 usage_line
    by_order (Some order) = order_single held order
