-- What `schedule` answers with status 0 is a schedule that keeps its block, what `timed` does what it reads on an
-- exposed pipeline, what `bound` does a bound of it, what `duo` does a schedule that keeps both blocks,
-- and what `modulo` does a kernel whose turns are good.
use Rattle.std.proofs.Common.{◌≡◌, ℕ, ◌+◌, inl, Bool, false, List, [], length, Option, Some, MatchOption, MatchBool, nat_lt, ◌≤◌, refl, sym, ap, ◌∙◌, subst, arith, All}
use Rattle.std.specs.List.{AllPairs, range_with_len, repeat}
use Rattle.std.proofs.lemmas.Bool.{le-ltb, ltb-false}
use Rattle.std.proofs.lemmas.Option.{same_Some}
use Rattle.hz_base_model.proofs.Forms.FormsLaws.{one_reading}
use Rattle.hz_description_model.proofs.Reading.DescriptionLaws.{one_description}
use Rattle.hz_description_model.proofs.Check.CheckLaws.{sound_one}
use Rattle.hz_pipeline_model.specs.Accepting.Events.{issues_of, cycles_of}
use Rattle.hz_pipeline_model.specs.Accepting.Replay.{Accepted}
use Rattle.hz_pipeline_model.specs.Pipelines.Pipelines.{pipeline_with}
use Rattle.hz_pipeline_model.specs.Compiling.DescriptionLimits.{AllKeepLimits}
use Rattle.hz_block_model.proofs.Scheduling.TraceLaws.{issues_spelled, cycles_spelled, asks_spelled}
use Rattle.hz_base_model.specs.Forms.Trees.{Trees}
use Rattle.hz_description_model.specs.Reading.Descriptions.{Description}
use Rattle.hz_description_model.specs.Reading.DescriptionForms as description_forms
use Rattle.hz_description_model.proofs.Reading.CheckableLaws.{can_be_checked}
use Rattle.hz_description_model.proofs.Reading.DescriptionFormedAll.{well_formed}
use Rattle.hz_description_model.specs.Reading.Limits.{description_limit}
use Rattle.hz_pipeline_model.specs.Traces.TraceLimits.{trace_limit}
use Rattle.hz_description_model.specs.Check.CheckFaults.{IsSound}
use Rattle.hz_description_model.specs.Check.Places.{Known}
use Rattle.hz_block_model.proofs.Texts.Numbers.{all_few}
use Rattle.hz_block_model.specs.Running.Blocks.{Instruction}
use Rattle.hz_block_model.specs.Running.Limits.{instruction_limit}
use Rattle.hz_block_model.specs.Scheduling.Schedules.{Graph, Slot, present, spell}
use Rattle.hz_block_model.proofs.Scheduled.BlockLaws.{legal_keeps}
use Rattle.hz_block_model.proofs.Schedulable.ScheduleTotal.{short_trace}
use Rattle.hz_front_model.specs.Texts.{file_line, limit_line, accepted_line}
use Rattle.hz_base_model.specs.Names.{Held}
use Rattle.hz_words_model.specs.Words.{schedule, timed, bound, duo, modulo}
use Rattle.hz_front_model.specs.Phases.{Says, Next, Opens}
use Rattle.hz_answer_model.specs.BlockAnswers.{block_limit, state_text_limit, HasBlock, HasAtMost, IsBlock, IsState, JudgesBlock}
use Rattle.hz_front_model.specs.Descriptions.{HasDescription}
use Rattle.hz_answer_model.specs.Answers.{Compiles, Judges, AnswersOrder, SchedulesByDescription, TimesByDescription, SchedulesTwoByDescription, OverlapsByDescription}
use Rattle.hz_answer_model.specs.ScheduleAnswers.{HasClasses, Starts, TellsSchedule, SchedulesBlock}
use Rattle.hz_answer_model.specs.TimedAnswers.{TellsTimed, Times, TimesFrom, TimesBlock}
use Rattle.hz_answer_model.specs.BoundAnswers.{TellsBound}
use Rattle.hz_answer_model.specs.DuoAnswers.{TellsTwo, StartsTwo, SchedulesTwo, SchedulesBlocks}
use Rattle.hz_answer_model.specs.ModuloAnswers.{TellsKernel, Overlaps, OverlapsBody, OverlapsBlock}
use Rattle.hz_measure_model.specs.Kernels.Repeats.{body_limit}
use Rattle.hz_answer_model.proofs.KernelLaws.{turns_legal, turns_leave_times}
use Rattle.hz_measure_model.specs.Kernels.KernelTexts.{IsKernelOf}
use Rattle.hz_answer_model.specs.Headline.{IsDescribed, IsBlockIn, HoldBlock, WritesSchedule, ReplayAccepts, IsStateIn, IsAsEval, KeepsTimed, KeepsBound, KeepsTwo, KeepsTurns, KeepsKernel}
use Rattle.hz_block_model.specs.Running.States.{State, run}
use Rattle.hz_block_model.specs.Texts.StateTexts.{IsText}
use Rattle.hz_block_model.specs.Scheduled.BlockGraphs.{IsGraphOf}
use Rattle.hz_measure_model.specs.Kernels.Turns.{turns}
use Rattle.hz_answer_model.proofs.ExposedLaws.{leaves_source}
use Rattle.hz_measure_model.proofs.Bounds.BoundLaws.{bound_of_block}
use Rattle.hz_measure_model.proofs.TwoContexts.TwoLaws.{keeps_both}
use Rattle.hz_measure_model.specs.TwoContexts.Joining.{joined}
use Rattle.hz_answer_model.proofs.DoneLaws.{opened, formed_of, given_of, compiled_of, block_of, state_of, classes_of_block, started_of, few_of}
use Rattle.hz_pipeline_model.specs.Traces.Traces.{event_lines}
use Rattle.hz_base_model.specs.Lines.{lines_of}
use Rattle.hz_front_model.specs.Asks.{trace_names, held_in}
use Rattle.hz_front_model.proofs.AskLaws.{AsksNothing, last_reported, none_of_others}

-- ---- the promise

-- What status 0 tells of a description and a block, whatever follows.
pub record IsFront (held : Held) (description block : List ℕ) (next : (d : Description) (known : Known) (insns : List Instruction) → ℕ → List ℕ → Type 0) (text : List ℕ) : Type 0 where
  pub d : Description
  pub known : Known
  pub insns : List Instruction
  pub holds : HoldBlock held description block d known insns
  pub answers : next d known insns 0 text

-- what a description and a block answer
abbrev ByBlock : List ℕ → List ℕ → List ℕ → List ℕ → ((d : Description) (known : Known) (insns : List Instruction) → ℕ → List ℕ → Type 0) → ℕ → List ℕ → Type 0
ByBlock description described block blocked next = HasDescription description described (λ d known. Compiles description d known (HasBlock block blocked (λ insns. HasClasses block d insns (Starts block d known insns (next d known insns)))))

front_of : (held : Held) (description block text : List ℕ) (next : (d : Description) (known : Known) (insns : List Instruction) → ℕ → List ℕ → Type 0)
    → Opens held description description_limit (λ described. Opens held block block_limit (λ blocked. ByBlock description described block blocked next)) 0 text → IsFront held description block next text
front_of held description block text next h =
    let first = opened (held description) description description_limit (λ described. Opens held block block_limit (λ blocked. ByBlock description described block blocked next)) text h in
    let second = opened (held block) block block_limit (λ blocked. ByBlock description first.bytes block blocked next) text first.answers in
    let given = given_of description first.bytes (λ d known. Compiles description d known (HasBlock block second.bytes (λ insns. HasClasses block d insns (Starts block d known insns (next d known insns))))) text second.answers in
    let d = given.d in
    let known = given.known in
    let (read, forms, more) = formed_of block second.bytes (λ read. IsBlock block read (λ insns. HasClasses block d insns (Starts block d known insns (next d known insns)))) text (compiled_of description d known (HasBlock block second.bytes (λ insns. HasClasses block d insns (Starts block d known insns (next d known insns)))) text given.answers).1 in
    let (insns, says, others) = block_of block read (λ insns. HasClasses block d insns (Starts block d known insns (next d known insns))) text more in
    record {
      d = d;
      known = known;
      insns = insns;
      holds = record { described = first.bytes; blocked = second.bytes; first_file = first.is; second_file = second.is; is_described = given.is; is_block = record { read = read; forms = forms; says = says } };
      answers = started_of block d known insns (next d known insns) text (classes_of_block block d insns (Starts block d known insns (next d known insns)) text others);
    }

pub writes_schedule : (held : Held) (description block text : List ℕ) → AnswersOrder held (schedule description block) 0 text → WritesSchedule held description block text
writes_schedule held description block text h =
    let front = front_of held description block text TellsSchedule h in
    let holds = front.holds in
    let (g, slots, is, written) = front.answers in
    let described = holds.is_described in
    let formed = can_be_checked front.d (well_formed described.read front.d described.says).0 in
    let few = all_few [] (holds.is_block).read front.insns (omega arith) (holds.is_block).says in
    let short = short_trace front.d front.known front.insns g slots formed described.sound is in
    record {
      described = holds.described;
      blocked = holds.blocked;
      first_file = holds.first_file;
      second_file = holds.second_file;
      d = front.d;
      known = front.known;
      insns = front.insns;
      is_described = described;
      is_block = holds.is_block;
      g = g;
      slots = slots;
      graph = is.graph;
      keeps = legal_keeps front.d front.known front.insns g slots is.graph is.legal;
      short = omega (arith, few, short);
      text_is = written.1;
    }

pub keeps_bound : (held : Held) (description block text : List ℕ) → AnswersOrder held (bound description block) 0 text → KeepsBound held description block text
keeps_bound held description block text h =
    let front = front_of held description block text TellsBound h in
    let (g, slots, b, is, bounds, written) = front.answers in
    record {
      d = front.d;
      known = front.known;
      insns = front.insns;
      holds = front.holds;
      g = g;
      b = b;
      is_bound = bounds;
      none_shorter = λ others legal. bound_of_block front.d front.known front.insns g b others is.graph bounds legal;
      slots = slots;
      is_schedule = is;
      keeps = legal_keeps front.d front.known front.insns g slots is.graph is.legal;
      text_is = written.1;
    }

-- ---- what `replay` answers

-- a text says one description
pub one_described : (bytes : List ℕ) (d e : Description) (known other : Known) → IsDescribed bytes d known → IsDescribed bytes e other → (d ≡ e) × (known ≡ other)
one_described bytes d e known other one two =
    let read = one_reading bytes one.read two.read one.forms two.forms in
    let same : d ≡ e = one_description two.read d e (subst (λ (t : Trees). description_forms.Reads t d) read one.says) two.says in
    (same, sound_one e known other (subst (λ (x : Description). IsSound x known) same one.sound) two.sound)

-- what follows the reading of a file
pub opens : (o : Option (List ℕ)) (name : List ℕ) (most : ℕ) (next : List ℕ → ℕ → List ℕ → Type 0) (bytes text : List ℕ) → o ≡ Some bytes → nat_lt most (length bytes) ≡ false → next bytes 0 text
    → MatchOption o (Says 6 (file_line name) 0 text) (λ bytes. MatchBool (nat_lt most (length bytes)) (Says 3 (limit_line name) 0 text) (next bytes 0 text))
opens o name most next bytes text is low h =
    subst (λ (p : Option (List ℕ)). MatchOption p (Says 6 (file_line name) 0 text) (λ bytes. MatchBool (nat_lt most (length bytes)) (Says 3 (limit_line name) 0 text) (next bytes 0 text))) (sym is)
    (subst (λ (b : Bool). MatchBool b (Says 3 (limit_line name) 0 text) (next bytes 0 text)) (sym low) h)

-- the line that accepts slots
accepted_slots : (g : Graph) (slots : List Slot) → AllPairs (λ x y. x.cycle ≤ y.cycle) slots → accepted_line (length slots) (present 0 slots) ≡ accepted_line (issues_of (spell g slots)) (cycles_of (spell g slots))
accepted_slots g slots rising =
    ap (λ (n : ℕ). accepted_line n (present 0 slots)) (sym (issues_spelled g slots)) ∙ ap (accepted_line (issues_of (spell g slots))) (sym (cycles_spelled g slots rising))

-- slots ask nothing
slots_ask_nothing : (g : Graph) (slots : List Slot) → All AsksNothing (spell g slots)
slots_ask_nothing g slots = none_of_others (spell g slots) (asks_spelled g slots)

-- `replay` accepts slots whose trace a description accepts
replays_slots : (held : Held) (description described : List ℕ) (d : Description) (known : Known) (g : Graph) (slots : List Slot) → held description ≡ Some described → nat_lt description_limit (length described) ≡ false → IsDescribed described d known → AllKeepLimits d known
    → AllPairs (λ x y. x.cycle ≤ y.cycle) slots → Accepted (pipeline_with d known) (spell g slots) → ReplayAccepts held description d g slots
replays_slots held description described d known g slots file low is kept rising accepted = record {
  answers = λ other trace traced same there short events.
      let line = accepted_line (length slots) (present 0 slots) in
      opens (other description) description description_limit (λ described. Opens other trace trace_limit (λ traced. Judges description described trace traced)) described line (same ∙ file) low
      (opens (other trace) trace trace_limit (λ traced. Judges description described trace traced) traced line there (le-ltb trace_limit (length traced) short)
      (inl (is.read, is.forms, inl (d, is.says, inl (known, is.sound, inl (kept, inl (spell g slots, events, inl (accepted, last_reported (held_in d known) (trace_names d) (event_lines (trace_names d) 1 (lines_of traced)) (spell g slots) (Says 0 (accepted_line (issues_of (spell g slots)) (cycles_of (spell g slots)))) (slots_ask_nothing g slots) 0 line (refl, accepted_slots g slots rising)))))))));
}

-- ---- two blocks

-- what status 0 tells of two blocks whose classes are judged
reported_of_two : (first_name second_name : List ℕ) (d : Description) (known : Known) (first second : List Instruction) (text : List ℕ) → SchedulesTwo first_name second_name d known first second 0 text → TellsTwo d known first second 0 text
reported_of_two first_name second_name d known first second text h =
    started_of second_name d known second both text
    (started_of first_name d known first (Starts second_name d known second both) text
    (classes_of_block second_name d second (StartsTwo first_name second_name d known first second) text
    (classes_of_block first_name d first (HasClasses second_name d second (StartsTwo first_name second_name d known first second)) text h)))
  where
    both : ℕ → List ℕ → Type 0
    both = TellsTwo d known first second

-- What status 0 tells of the texts of two blocks.
record AreBlocks (d : Description) (known : Known) (one other text : List ℕ) : Type 0 where
  first : List Instruction
  second : List Instruction
  is_first : IsBlockIn one first
  is_second : IsBlockIn other second
  few : nat_lt instruction_limit (length first + length second) ≡ false
  reported : TellsTwo d known first second 0 text

blocks_of : (first_name one second_name other : List ℕ) (d : Description) (known : Known) (text : List ℕ) → SchedulesBlocks first_name one second_name other d known 0 text → AreBlocks d known one other text
blocks_of first_name one second_name other d known text h =
    let (read, forms, more) = formed_of first_name one (λ read. IsBlock first_name read second_block) text h in
    let (first, says, next) = block_of first_name read second_block text more in
    let (also, formed, later) = formed_of second_name other (λ read. IsBlock second_name read (together first)) text next in
    let (second, said, last) = block_of second_name also (together first) text later in
    let (few, both) = few_of instruction_limit (length first + length second) second_name (SchedulesTwo first_name second_name d known first second) text last in
    record {
      first = first;
      second = second;
      is_first = record { read = read; forms = forms; says = says };
      is_second = record { read = also; forms = formed; says = said };
      few = few;
      reported = reported_of_two first_name second_name d known first second text both;
    }
  where
    together : List Instruction → Next (List Instruction)
    together first second = HasAtMost instruction_limit (length first + length second) second_name (SchedulesTwo first_name second_name d known first second)

    second_block : Next (List Instruction)
    second_block first = HasBlock second_name other (together first)

-- What status 0 tells of a description and two blocks.
record IsFrontOfTwo (held : Held) (description first_name second_name text : List ℕ) : Type 0 where
  described : List ℕ
  one : List ℕ
  other : List ℕ
  description_file : held description ≡ Some described
  low : nat_lt description_limit (length described) ≡ false
  first_file : held first_name ≡ Some one
  second_file : held second_name ≡ Some other
  d : Description
  known : Known
  is_described : IsDescribed described d known
  kept : AllKeepLimits d known
  blocks : AreBlocks d known one other text

front_of_two : (held : Held) (description first_name second_name text : List ℕ) → AnswersOrder held (duo description first_name second_name) 0 text → IsFrontOfTwo held description first_name second_name text
front_of_two held description first_name second_name text h =
    let file = opened (held description) description description_limit first_block text h in
    let one = opened (held first_name) first_name block_limit (second_block file.bytes) text file.answers in
    let other = opened (held second_name) second_name block_limit (all_texts file.bytes one.bytes) text one.answers in
    let given = given_of description file.bytes (SchedulesTwoByDescription description first_name one.bytes second_name other.bytes) text other.answers in
    let (kept, blocks) = compiled_of description given.d given.known (SchedulesBlocks first_name one.bytes second_name other.bytes given.d given.known) text given.answers in
    record {
      described = file.bytes;
      one = one.bytes;
      other = other.bytes;
      description_file = file.is;
      low = file.low;
      first_file = one.is;
      second_file = other.is;
      d = given.d;
      known = given.known;
      is_described = given.is;
      kept = kept;
      blocks = blocks_of first_name one.bytes second_name other.bytes given.d given.known text blocks;
    }
  where
    all_texts : List ℕ → List ℕ → Next (List ℕ)
    all_texts described one other = HasDescription description described (SchedulesTwoByDescription description first_name one second_name other)

    second_block : List ℕ → Next (List ℕ)
    second_block described one = Opens held second_name block_limit (all_texts described one)

    first_block : Next (List ℕ)
    first_block described = Opens held first_name block_limit (second_block described)

pub keeps_two : (held : Held) (description first_name second_name text : List ℕ) → AnswersOrder held (duo description first_name second_name) 0 text → KeepsTwo held description first_name second_name text
keeps_two held description first_name second_name text h = kept_by (front_of_two held description first_name second_name text h)
  where
    kept_by : IsFrontOfTwo held description first_name second_name text → KeepsTwo held description first_name second_name text
    kept_by front =
        let (g, h, slots, alone, others, is, first_alone, second_alone, written) = front.blocks.reported in
        let keeps = keeps_both front.d front.known front.blocks.first front.blocks.second g h slots is.first_graph is.second_graph is.legal in
        record {
          d = front.d;
          known = front.known;
          first = front.blocks.first;
          second = front.blocks.second;
          holds_first = record { described = front.described; blocked = front.one; first_file = front.description_file; second_file = front.first_file; is_described = front.is_described; is_block = front.blocks.is_first };
          holds_second = record { described = front.described; blocked = front.other; first_file = front.description_file; second_file = front.second_file; is_described = front.is_described; is_block = front.blocks.is_second };
          few = ltb-false instruction_limit (length front.blocks.first + length front.blocks.second) front.blocks.few;
          g = g;
          h = h;
          slots = slots;
          is_schedule = is;
          keeps = keeps;
          replays = replays_slots held description front.described front.d front.known (joined g h) slots front.description_file front.low front.is_described front.kept keeps.rising keeps.accepted;
          alone = alone;
          other = others;
          first_alone = first_alone;
          second_alone = second_alone;
          text_is = written.1;
        }

-- ---- an exposed pipeline

-- What status 0 tells of the texts of a block and a state.
record AreTimed (d : Description) (known : Known) (blocked stated text : List ℕ) : Type 0 where
  insns : List Instruction
  is_block : IsBlockIn blocked insns
  start : State
  is_state : IsStateIn stated start
  reported : TellsTimed d known insns start 0 text

timed_of : (block blocked state stated : List ℕ) (d : Description) (known : Known) (text : List ℕ) → TimesBlock block blocked state stated d known 0 text → AreTimed d known blocked stated text
timed_of block blocked state stated d known text h =
    let (read, forms, more) = formed_of block blocked (λ read. IsBlock block read (TimesFrom block state stated d known)) text h in
    let (insns, says, next) = block_of block read (TimesFrom block state stated d known) text more in
    let (also, formed, later) = formed_of state stated (λ read. IsState state read (classed insns)) text next in
    let (start, said, last) = state_of state also (classed insns) text later in
    record {
      insns = insns;
      is_block = record { read = read; forms = forms; says = says };
      start = start;
      is_state = record { read = also; forms = formed; says = said };
      reported = started_of block d known insns (TellsTimed d known insns start) text (classes_of_block block d insns (Times block d known insns start) text last);
    }
  where
    classed : List Instruction → Next State
    classed insns start = HasClasses block d insns (Times block d known insns start)

-- What status 0 tells of a description, a block and a state.
record IsFrontOfTimed (held : Held) (description block state text : List ℕ) : Type 0 where
  described : List ℕ
  blocked : List ℕ
  stated : List ℕ
  first_file : held description ≡ Some described
  second_file : held block ≡ Some blocked
  third_file : held state ≡ Some stated
  block_low : nat_lt block_limit (length blocked) ≡ false
  state_low : nat_lt state_text_limit (length stated) ≡ false
  d : Description
  known : Known
  is_described : IsDescribed described d known
  texts : AreTimed d known blocked stated text

front_of_timed : (held : Held) (description block state text : List ℕ) → AnswersOrder held (timed description block state) 0 text → IsFrontOfTimed held description block state text
front_of_timed held description block state text h =
    let file = opened (held description) description description_limit block_next text h in
    let one = opened (held block) block block_limit (state_next file.bytes) text file.answers in
    let other = opened (held state) state state_text_limit (all_texts file.bytes one.bytes) text one.answers in
    let given = given_of description file.bytes (TimesByDescription description block one.bytes state other.bytes) text other.answers in
    record {
      described = file.bytes;
      blocked = one.bytes;
      stated = other.bytes;
      first_file = file.is;
      second_file = one.is;
      third_file = other.is;
      block_low = one.low;
      state_low = other.low;
      d = given.d;
      known = given.known;
      is_described = given.is;
      texts = timed_of block one.bytes state other.bytes given.d given.known text (compiled_of description given.d given.known (TimesBlock block one.bytes state other.bytes given.d given.known) text given.answers).1;
    }
  where
    all_texts : List ℕ → List ℕ → Next (List ℕ)
    all_texts described blocked stated = HasDescription description described (TimesByDescription description block blocked state stated)

    state_next : List ℕ → Next (List ℕ)
    state_next described blocked = Opens held state state_text_limit (all_texts described blocked)

    block_next : Next (List ℕ)
    block_next described = Opens held block block_limit (state_next described)

-- `eval` writes the text of the state that a block leaves
evals : (held : Held) (block state blocked stated tail : List ℕ) (insns : List Instruction) (start : State) → held block ≡ Some blocked → held state ≡ Some stated → nat_lt block_limit (length blocked) ≡ false → nat_lt state_text_limit (length stated) ≡ false
    → IsBlockIn blocked insns → IsStateIn stated start → IsText (run insns (range_with_len 0 (length insns)) start) tail → IsAsEval held block state tail
evals held block state blocked stated tail insns start first second low short is_block is_state text = record {
  answers = λ other same also.
      opens (other block) block block_limit (λ blocked. Opens other state state_text_limit (λ stated. JudgesBlock block blocked state stated)) blocked tail (same ∙ first) low
      (opens (other state) state state_text_limit (λ stated. JudgesBlock block blocked state stated) stated tail (also ∙ second) short
      (inl (is_block.read, is_block.forms, inl (insns, is_block.says, inl (is_state.read, is_state.forms, inl (start, is_state.says, (refl, text)))))));
}

pub keeps_timed : (held : Held) (description block state text : List ℕ) → AnswersOrder held (timed description block state) 0 text → KeepsTimed held description block state text
keeps_timed held description block state text h = kept_by (front_of_timed held description block state text h)
  where
    kept_by : IsFrontOfTimed held description block state text → KeepsTimed held description block state text
    kept_by front =
        let texts = front.texts in
        let (g, slots, is, zero, written) = texts.reported in
        record {
          d = front.d;
          known = front.known;
          insns = texts.insns;
          holds = record { described = front.described; blocked = front.blocked; first_file = front.first_file; second_file = front.second_file; is_described = front.is_described; is_block = texts.is_block };
          stated = front.stated;
          third_file = front.third_file;
          start = texts.start;
          is_state = texts.is_state;
          g = g;
          slots = slots;
          is_schedule = is;
          keeps = legal_keeps front.d front.known texts.insns g slots is.graph is.legal;
          tail = written.tail;
          state_is = written.state_is;
          text_is = written.text_is;
          as_eval = evals held block state front.blocked front.stated written.tail texts.insns texts.start front.second_file front.third_file front.block_low front.state_low texts.is_block texts.is_state
              (subst (λ (x : State). IsText x written.tail) (leaves_source front.d front.known texts.insns g slots texts.start is) written.state_is);
        }

-- ---- a kernel

-- What status 0 tells of a description and the body of a loop.
record IsFrontOfKernel (held : Held) (description block text : List ℕ) : Type 0 where
  described : List ℕ
  first_file : held description ≡ Some described
  low : nat_lt description_limit (length described) ≡ false
  d : Description
  known : Known
  is_described : IsDescribed described d known
  kept : AllKeepLimits d known
  body : List Instruction
  blocked : List ℕ
  second_file : held block ≡ Some blocked
  is_block : IsBlockIn blocked body
  few : nat_lt body_limit (length body) ≡ false
  kernel : IsKernelOf d known body text

front_of_kernel : (held : Held) (description block text : List ℕ) → AnswersOrder held (modulo description block) 0 text → IsFrontOfKernel held description block text
front_of_kernel held description block text h =
    let file = opened (held description) description description_limit (λ described. Opens held block block_limit (λ blocked. HasDescription description described (OverlapsByDescription description block blocked))) text h in
    let one = opened (held block) block block_limit (λ blocked. HasDescription description file.bytes (OverlapsByDescription description block blocked)) text file.answers in
    let given = given_of description file.bytes (OverlapsByDescription description block one.bytes) text one.answers in
    let (kept, blocks) = compiled_of description given.d given.known (OverlapsBlock block one.bytes given.d given.known) text given.answers in
    let (read, forms, more) = formed_of block one.bytes (λ read. IsBlock block read (OverlapsBody block given.d given.known)) text blocks in
    let (body, says, next) = block_of block read (OverlapsBody block given.d given.known) text more in
    let (few, rest) = few_of body_limit (length body) block (HasClasses block given.d body (Overlaps block given.d given.known body)) text next in
    let reported = started_of block given.d given.known body (TellsKernel given.d given.known body) text (classes_of_block block given.d body (Overlaps block given.d given.known body) text rest) in
    record {
      described = file.bytes;
      first_file = file.is;
      low = file.low;
      d = given.d;
      known = given.known;
      is_described = given.is;
      kept = kept;
      body = body;
      blocked = one.bytes;
      second_file = one.is;
      is_block = record { read = read; forms = forms; says = says };
      few = few;
      kernel = reported.1;
    }

keeps_turns : (held : Held) (description block text : List ℕ) (front : IsFrontOfKernel held description block text) (count : ℕ) (g : Graph) → IsGraphOf front.d (repeat count front.body) g
    → KeepsTurns held description front.d front.known front.body front.kernel.interval front.kernel.slots count g
keeps_turns held description block text front count g copies =
    let legal = turns_legal front.d front.known front.is_described.sound front.body text front.kernel count g copies in
    record {
      legal = legal;
      replays = replays_slots held description front.described front.d front.known g (turns (length front.body) front.kernel.interval front.kernel.slots count) front.first_file front.low front.is_described front.kept legal.rising legal.accepted;
      leaves = turns_leave_times front.d front.known front.is_described.sound front.body text front.kernel count g copies;
    }

pub keeps_kernel : (held : Held) (description block text : List ℕ) → AnswersOrder held (modulo description block) 0 text → KeepsKernel held description block text
keeps_kernel held description block text h =
    let front = front_of_kernel held description block text h in
    record {
      d = front.d;
      known = front.known;
      insns = front.body;
      holds = record { described = front.described; blocked = front.blocked; first_file = front.first_file; second_file = front.second_file; is_described = front.is_described; is_block = front.is_block };
      short = ltb-false body_limit (length front.body) front.few;
      kernel = front.kernel;
      every = keeps_turns held description block text front;
    }

-- ---- a schedule

module _ (held : Held) (description block text : List ℕ) (w : WritesSchedule held description block text) (h : AnswersOrder held (schedule description block) 0 text) where
  -- the description keeps its limits, and its text does
  limits : AllKeepLimits w.d w.known × (nat_lt description_limit (length w.described) ≡ false)
  limits =
      let first = opened (held description) description description_limit (λ described. Opens held block block_limit (λ blocked. HasDescription description described (SchedulesByDescription description block blocked))) text h in
      let second = opened (held block) block block_limit (λ blocked. HasDescription description first.bytes (SchedulesByDescription description block blocked)) text first.answers in
      let given = given_of description first.bytes (SchedulesByDescription description block second.bytes) text second.answers in
      let kept = (compiled_of description given.d given.known (SchedulesBlock block second.bytes given.d given.known) text given.answers).0 in
      let bytes : first.bytes ≡ w.described = same_Some first.bytes w.described (sym first.is ∙ w.first_file) in
      let one = one_described w.described given.d w.d given.known w.known (subst (λ (b : List ℕ). IsDescribed b given.d given.known) bytes given.is) w.is_described in (
        subst (AllKeepLimits w.d) one.1 (subst (λ (x : Description). AllKeepLimits x given.known) one.0 kept),
        subst (λ (b : List ℕ). nat_lt description_limit (length b) ≡ false) bytes first.low,
      )

  pub accepts_schedule : ReplayAccepts held description w.d w.g w.slots
  accepts_schedule = replays_slots held description w.described w.d w.known w.g w.slots w.first_file limits.1 w.is_described limits.0 (w.keeps).rising (w.keeps).accepted
