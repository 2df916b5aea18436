-- What is written of a schedule, of tables, of a drill, on an exposed pipeline, of a bound, of two blocks and of a kernel, and what `replay` and `walk` answer of them, in the words of the promise: README.md.
use Rattle.std.specs.List.{repeat}
use Rattle.std.specs.Prelude.{⊤, ◌≡◌, ◌↔◌, ℕ, ◌+◌, ◌≤◌, ◌<◌, false, List, ◌++◌, length, Some}
use Rattle.hz_base_model.specs.Forms.Trees.{Trees}
use Rattle.hz_base_model.specs.Forms.Forms as forms
use Rattle.hz_description_model.specs.Reading.Descriptions.{Description}
use Rattle.hz_description_model.specs.Reading.DescriptionForms as description_forms
use Rattle.hz_description_model.specs.Check.CheckFaults.{IsSound}
use Rattle.hz_description_model.specs.Check.Places.{Known}
use Rattle.hz_pipeline_model.specs.Traces.TraceLimits.{advance_limit, trace_limit}
use Rattle.hz_pipeline_model.specs.Accepting.Events.{Event, issues_of, cycles_of}
use Rattle.hz_pipeline_model.specs.Accepting.Replay.{Accepted}
use Rattle.hz_pipeline_model.specs.Compiling.Compiled.{shows_states}
use Rattle.hz_pipeline_model.specs.Pipelines.Pipelines.{pipeline_with}
use Rattle.hz_block_model.specs.Running.Blocks.{Instruction}
use Rattle.hz_block_model.specs.Running.Limits.{instruction_limit}
use Rattle.hz_block_model.specs.Texts.BlockForms as blocks
use Rattle.hz_block_model.specs.Scheduling.Schedules.{Graph, Slot, Legal, places, present, spell}
use Rattle.hz_block_model.specs.Scheduled.BlockGraphs.{IsGraphOf}
use Rattle.hz_block_model.specs.Scheduled.BlockSchedules.{IsScheduleOf, KeepsBlock}
use Rattle.hz_pipeline_model.specs.Traces.Traces.{Trace}
use Rattle.hz_tabtext_model.specs.Texts.{TableText}
use Rattle.hz_block_model.specs.Running.States.{State, run}
use Rattle.hz_block_model.specs.Texts.StateForms as states
use Rattle.hz_measure_model.specs.Exposed.ByDescription.{exposed_in}
use Rattle.hz_measure_model.specs.Exposed.Texts.{text_of_reads}
use Rattle.hz_block_model.specs.Texts.StateTexts.{IsText}
use Rattle.hz_measure_model.specs.Bounds.Bounds.{Bound, IsBoundOf}
use Rattle.hz_measure_model.specs.Bounds.Texts.{text_of_bound}
use Rattle.hz_measure_model.specs.Kernels.KernelTexts.{IsKernelOf}
use Rattle.hz_measure_model.specs.Kernels.Turns.{turns, run_times}
use Rattle.hz_measure_model.specs.Kernels.Repeats.{body_limit}
use Rattle.hz_measure_model.specs.TwoContexts.Joining.{joined}
use Rattle.hz_measure_model.specs.TwoContexts.Texts.{text_of_two}
use Rattle.hz_measure_model.specs.TwoContexts.TwoContexts.{IsScheduleOfTwo, KeepsBoth}
use Rattle.hz_answer_model.specs.Answers.{AnswersOrder}
use Rattle.hz_front_model.specs.Asks.{trace_names}
use Rattle.hz_answer_model.specs.DrillAnswers.{IsDrillOf}
use Rattle.hz_base_model.specs.Names.{Held}
use Rattle.hz_words_model.specs.Words.{Order, compile, replay, walk, schedule, eval, drill, timed, bound, duo, modulo}
use Rattle.hz_front_model.specs.Texts.{accepted_line}
use Rattle.hz_answer_model.specs.ScheduleAnswers.{schedule_text}
use Rattle.hz_answer_model.specs.TableAnswers.{tables_limit, IsTablesOf}

-- The description that bytes say, and the alternatives of its names.
pub record IsDescribed (bytes : List ℕ) (d : Description) (known : Known) : Type 0 where
  pub read : Trees
  pub forms : forms.Reads bytes read
  pub says : description_forms.Reads read d
  pub sound : IsSound d known

-- The block that bytes say.
pub record IsBlockIn (bytes : List ℕ) (block : List Instruction) : Type 0 where
  pub read : Trees
  pub forms : forms.Reads bytes read
  pub says : blocks.Reads read block

-- The state that bytes say.
pub record IsStateIn (bytes : List ℕ) (state : State) : Type 0 where
  pub read : Trees
  pub forms : forms.Reads bytes read
  pub says : states.Reads read state

-- A description and a block are held.
pub record HoldBlock (held : Held) (description block : List ℕ) (d : Description) (known : Known) (insns : List Instruction) : Type 0 where
  pub described : List ℕ
  pub blocked : List ℕ
  pub first_file : held description ≡ Some described
  pub second_file : held block ≡ Some blocked
  pub is_described : IsDescribed described d known
  pub is_block : IsBlockIn blocked insns

-- The text is that of a schedule of the block by the description: it has the block's instructions each once, every latency and
-- bypass is kept, the description accepts their trace, which has fewer advances than a trace may have, and their order leaves from
-- every state what the order of the source leaves.
pub record WritesSchedule (held : Held) (description block : List ℕ) (text : List ℕ) : Type 0 where
  pub described : List ℕ
  pub blocked : List ℕ
  pub first_file : held description ≡ Some described
  pub second_file : held block ≡ Some blocked
  pub d : Description
  pub known : Known
  pub insns : List Instruction
  pub is_described : IsDescribed described d known
  pub is_block : IsBlockIn blocked insns
  pub g : Graph
  pub slots : List Slot
  pub graph : IsGraphOf d insns g
  pub keeps : KeepsBlock d known insns g slots
  pub short : cycles_of (spell g slots) < advance_limit
  pub text_is : text ≡ schedule_text d insns g slots

-- `replay` accepts the trace of slots, by whatever text it is given: where the same description is held, and a text that is not too
-- long, whose events the slots spell, it answers with status 0 how many issues there are, and the last cycle.
pub record ReplayAccepts (held : Held) (description : List ℕ) (d : Description) (g : Graph) (slots : List Slot) : Type 0 where
  pub answers : (other : Held) (trace traced : List ℕ) → other description ≡ held description → other trace ≡ Some traced → length traced ≤ trace_limit → Trace (trace_names d) traced (spell g slots)
      → AnswersOrder other (replay description trace) 0 (accepted_line (length slots) (present 0 slots))

-- The text says what is compiled of the description that is held, and is within its limit of bytes, unless what each state is is reported.
pub record WritesTables (held : Held) (description text : List ℕ) : Type 0 where
  pub described : List ℕ
  pub file : held description ≡ Some described
  pub d : Description
  pub known : Known
  pub is_described : IsDescribed described d known
  pub tables : IsTablesOf d known text
  pub short : shows_states d.options ≡ false → length text ≤ tables_limit

-- `walk` on a text answers to every trace what `replay` answers on the description, the same status and the same text: where the
-- text is held and not too long.
pub record WalkIsReplay (held : Held) (description text : List ℕ) : Type 0 where
  pub answers : (other : Held) (tables trace : List ℕ) → other description ≡ held description → other tables ≡ Some text → length text ≤ tables_limit
      → (status : ℕ) (said : List ℕ) → AnswersOrder other (walk tables trace) status said ↔ AnswersOrder other (replay description trace) status said

-- The text tells of the drill of the description that is held, which accepts its trace. Its states are those of the tables that
-- `compile` writes.
pub record WritesDrill (held : Held) (description : List ℕ) (number turns : ℕ) (text : List ℕ) : Type 0 where
  pub described : List ℕ
  pub file : held description ≡ Some described
  pub d : Description
  pub known : Known
  pub is_described : IsDescribed described d known
  pub drill : IsDrillOf d known number turns text
  pub accepted : Accepted (pipeline_with d known) drill.events
  pub tables : (other : Held) (written : List ℕ) → other description ≡ Some described → AnswersOrder other (compile description) 0 written → TableText written drill.machine

-- `replay` accepts events, by whatever text it is given: where the same description is held, and a text that is not too long, whose
-- events these are, it answers with status 0 how many issues and how many cycles there are.
pub record ReplayAcceptsEvents (held : Held) (description : List ℕ) (d : Description) (events : List Event) : Type 0 where
  pub answers : (other : Held) (trace traced : List ℕ) → other description ≡ held description → other trace ≡ Some traced → length traced ≤ trace_limit → Trace (trace_names d) traced events
      → AnswersOrder other (replay description trace) 0 (accepted_line (issues_of events) (cycles_of events))

-- what is written is a schedule that keeps its block, and `replay` accepts it
pub record KeepsSchedule (held : Held) (description block text : List ℕ) : Type 0 where
  pub writes : WritesSchedule held description block text
  pub replays : ReplayAccepts held description writes.d writes.g writes.slots

-- what is written are the tables of a description, and `walk` on them is `replay` on it
pub record KeepsTables (held : Held) (description text : List ℕ) : Type 0 where
  pub writes : WritesTables held description text
  pub walks : WalkIsReplay held description text

-- what is written tells of a drill of a description, and `replay` accepts its trace
pub record KeepsDrill (held : Held) (description : List ℕ) (number turns : ℕ) (text : List ℕ) : Type 0 where
  pub writes : WritesDrill held description number turns text
  pub replays : ReplayAcceptsEvents held description writes.d writes.drill.events

-- The lines of a state are what `eval` answers, wherever the same block and the same state are held.
pub record IsAsEval (held : Held) (block state tail : List ℕ) : Type 0 where
  pub answers : (other : Held) → other block ≡ held block → other state ≡ held state → AnswersOrder other (eval block state) 0 tail

-- What is written is what the block's schedule, which is legal and greedy and keeps the block, reads of the state that is held on an
-- exposed pipeline, where nothing waits for what is read. It leaves the state that the block leaves in the order of the source: its
-- lines are those of `eval`.
pub record KeepsTimed (held : Held) (description block state text : List ℕ) : Type 0 where
  pub d : Description
  pub known : Known
  pub insns : List Instruction
  pub holds : HoldBlock held description block d known insns
  pub stated : List ℕ
  pub third_file : held state ≡ Some stated
  pub start : State
  pub is_state : IsStateIn stated start
  pub g : Graph
  pub slots : List Slot
  pub is_schedule : IsScheduleOf d known insns g slots
  pub keeps : KeepsBlock d known insns g slots
  pub tail : List ℕ
  pub state_is : IsText (exposed_in d insns g slots start).state tail
  pub text_is : text ≡ text_of_reads insns slots (exposed_in d insns g slots start).reads ++ tail
  pub as_eval : IsAsEval held block state tail

-- What is written is the bound of the block that is held, with what shows it: the chain, along which the dependences cost its path,
-- and the unit of the greatest load. No legal schedule of the block ends before it, in either treatment. The last line is of the
-- block's schedule, which is legal and greedy, and keeps the block.
pub record KeepsBound (held : Held) (description block text : List ℕ) : Type 0 where
  pub d : Description
  pub known : Known
  pub insns : List Instruction
  pub holds : HoldBlock held description block d known insns
  pub g : Graph
  pub b : Bound
  pub is_bound : IsBoundOf d known g b
  pub none_shorter : (others : List Slot) → Legal (Accepted (pipeline_with d known)) g others → b.value ≤ present 0 others
  pub slots : List Slot
  pub is_schedule : IsScheduleOf d known insns g slots
  pub keeps : KeepsBlock d known insns g slots
  pub text_is : text ≡ text_of_bound d insns b slots

-- What is written is the schedule of the two blocks that are held, in one pipeline. It has the instructions of each once and keeps
-- each context's latencies and bypasses. Its trace is accepted, by the description and by `replay`. It leaves each context what its
-- block in the order of the source leaves, from every pair of states, whatever the other block is. The last line is of each block's
-- own schedule.
pub record KeepsTwo (held : Held) (description first_name second_name text : List ℕ) : Type 0 where
  pub d : Description
  pub known : Known
  pub first : List Instruction
  pub second : List Instruction
  pub holds_first : HoldBlock held description first_name d known first
  pub holds_second : HoldBlock held description second_name d known second
  pub few : length first + length second ≤ instruction_limit
  pub g : Graph
  pub h : Graph
  pub slots : List Slot
  pub is_schedule : IsScheduleOfTwo d known first second g h slots
  pub keeps : KeepsBoth d known first second g h slots
  pub replays : ReplayAccepts held description d (joined g h) slots
  pub alone : List Slot
  pub other : List Slot
  pub first_alone : IsScheduleOf d known first g alone
  pub second_alone : IsScheduleOf d known second h other
  pub text_is : text ≡ text_of_two d first second g h slots alone other

-- What so many turns of a loop's body are, as a kernel overlaps them: a legal schedule of so many copies of the body. `replay` accepts
-- its trace, and in its order the copies leave from every state what the body leaves, so many times.
pub record KeepsTurns (held : Held) (description : List ℕ) (d : Description) (known : Known) (body : List Instruction) (interval : ℕ) (slots : List Slot) (count : ℕ) (g : Graph) : Type 0 where
  pub legal : Legal (Accepted (pipeline_with d known)) g (turns (length body) interval slots count)
  pub replays : ReplayAccepts held description d g (turns (length body) interval slots count)
  pub leaves : (state : State) → run (repeat count body) (places (turns (length body) interval slots count)) state ≡ run_times body count state

-- What is written is the kernel of the loop's body that is held: the least interval at which its schedule repeats on the machine that is
-- compiled. Every number of turns that it overlaps is good.
pub record KeepsKernel (held : Held) (description block text : List ℕ) : Type 0 where
  pub d : Description
  pub known : Known
  pub insns : List Instruction
  pub holds : HoldBlock held description block d known insns
  pub short : length insns ≤ body_limit
  pub kernel : IsKernelOf d known insns text
  pub every : (count : ℕ) (g : Graph) → IsGraphOf d (repeat count insns) g → KeepsTurns held description d known insns kernel.interval kernel.slots count g

-- What status 0 promises of the text that is written, beside that it is the answer: one case for each command that promises more.
abbrev pub Promised : Held → Order → List ℕ → Type 0
Promised held (compile description) text = KeepsTables held description text
Promised held (schedule description block) text = KeepsSchedule held description block text
Promised held (drill description number turns) text = KeepsDrill held description number turns text
Promised held (timed description block state) text = KeepsTimed held description block state text
Promised held (bound description block) text = KeepsBound held description block text
Promised held (duo description first second) text = KeepsTwo held description first second text
Promised held (modulo description block) text = KeepsKernel held description block text
Promised held _ text = ⊤
