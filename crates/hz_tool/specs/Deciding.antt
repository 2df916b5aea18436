-- What is decided before anything is written: what is done, or a refusal.
use Rattle.std.specs.Prelude.{⊤, ℕ, List, map, Option, Result, MatchOption, MatchResult, Contains}
use Rattle.hz_answer_model.specs.Answers.{files_of}
use Rattle.hz_answer_model.specs.Headline.{Promised}
use Rattle.hz_answer_model.specs.Texts.{drill_text}
use Rattle.hz_base_model.specs.Names.{Held}
use Rattle.hz_block_model.specs.Scheduling.Schedules.{present}
use Rattle.hz_block_model.specs.Texts.StateTexts.{listing_text}
use Rattle.hz_bound.specs.Shape.{names_of, bound_of}
use Rattle.hz_bound.specs.Shape as bounds
use Rattle.hz_duo.specs.Shape.{context_slot}
use Rattle.hz_duo.specs.Shape as pairs
use Rattle.hz_front.specs.Endings.{IsAppended}
use Rattle.hz_front.specs.Refusals.{Agrees, Decided, IsJudged, decided_by}
use Rattle.hz_front.specs.declared.refusal.Refusal.{Refusal}
use Rattle.hz_measure_model.specs.Bounds.Texts.{bound_text}
use Rattle.hz_measure_model.specs.Kernels.KernelTexts.{text_of_slots}
use Rattle.hz_measure_model.specs.TwoContexts.Texts.{duo_text}
use Rattle.hz_modulo.specs.Walking.{kernel_slot_of}
use Rattle.hz_replay.specs.declared.outcome.Outcome.{Outcome}
use Rattle.hz_replay.specs.declared.outcome.Outcome.TheVariants.{Accepted, Refused}
use Rattle.hz_report.specs.Replays.{IsReplay, replay_text}
use Rattle.hz_report.specs.Schedules.{IsInRange, schedule_by}
use Rattle.hz_rtl.specs.Listings.{listing}
use Rattle.hz_sched.specs.Shape.{graph_of, slots_of}
use Rattle.hz_tabfile.specs.Saying.{says, IsSayable}
use Rattle.hz_tables.specs.Machines.{machine_of}
use Rattle.hz_tabtext_model.specs.Texts.{spelled}
use Rattle.hz_timed.specs.Shape.{timed_text}
use Rattle.hz_timed.specs.Shape as timings
use Rattle.hz_tool.specs.Kernels.{IsKernelInRange}
use Rattle.hz_tool.specs.declared.done.Done.{Done}
use Rattle.hz_tool.specs.declared.done.Done.TheVariants.{Replayed, Tables, Scheduled, Timed, Bounded, Paired, Overlapped, Drilled, After}
use Rattle.hz_words_model.specs.Words.{Order, order_of}

-- ---- what is done

-- the text that is written
abbrev pub done_text : Done → List ℕ
done_text (Replayed machine events outcome) = replay_text (machine_of machine) events.items outcome
done_text (Tables compiled checked) = spelled (says compiled checked)
done_text (Scheduled machine graph schedule) = schedule_by machine.classes.items (map (λ i. i.number) graph.insns.items) (graph_of graph) (slots_of schedule.slots.items)
done_text (Timed block schedule timed) = timed_text block schedule timed
done_text (Bounded checked graph schedule bound) = bound_text (names_of checked) (map (λ i. i.number) graph.insns.items) (bound_of bound) (present 0 (slots_of schedule.slots.items))
done_text (Paired machine first second slots alone) = duo_text machine.classes.items (map (λ i. i.number) first.insns.items) (map (λ i. i.number) second.insns.items) (graph_of first) (graph_of second) (map context_slot slots.items) alone.0 alone.1
done_text (Overlapped machine graph schedule kernel) = text_of_slots machine.classes.items (map (λ i. i.number) graph.insns.items) (graph_of graph) (map kernel_slot_of kernel.slots.items) kernel.interval kernel.stages kernel.first_edge kernel.second_edge (present 0 (slots_of schedule.slots.items))
done_text (Drilled turns issues cycles states) = drill_text turns issues cycles states.items
done_text (After state) = listing_text (listing state)

-- the status of a replay
abbrev pub replay_status : Outcome → ℕ
replay_status (Accepted issues cycles) = 0
replay_status (Refused event) = 1

-- its status, where the text is written whole
abbrev pub done_status : Done → ℕ
done_status (Replayed machine events outcome) = replay_status outcome
done_status _ = 0

-- what is named is there to be reported: a replay is that of its events, what is reported of each automaton of tables, the instructions and the classes of a schedule,
-- the slots and the instructions of what is read, the instructions and the unit of a bound, the instructions and the classes of two blocks,
-- those of a kernel
abbrev pub CanTell : Done → Type 0
CanTell (Replayed machine events outcome) = IsReplay machine events.items outcome
CanTell (Tables compiled checked) = IsSayable compiled checked
CanTell (Scheduled machine graph schedule) = IsInRange machine graph schedule
CanTell (Timed block schedule timed) = timings.IsInRange block schedule timed
CanTell (Bounded checked graph schedule bound) = bounds.IsInRange checked graph bound
CanTell (Paired machine first second slots alone) = pairs.IsInRange machine first second slots.items
CanTell (Overlapped machine graph schedule kernel) = IsKernelInRange machine graph kernel
CanTell _ = ⊤

-- ---- what is decided

-- what is decided, by the status and the text of what is done
abbrev pub decided_in : Result Done Refusal → Decided
decided_in result = decided_by done_status done_text result

-- what is refused is of texts that were judged, and is what is to be answered
abbrev pub Refuses : (ℕ → List ℕ → Type 0) → Refusal → Type 0
Refuses answer refusal = IsJudged refusal × Agrees answer refusal

-- a phase gives what it judges, or it refuses: `answer` is what it may answer
abbrev pub Gives : {T : Type 0} → (T → Type 0) → (answer : ℕ → List ℕ → Type 0) → Result T Refusal → Type 0
Gives is answer result = MatchResult result is (Refuses answer)

-- what a command does can be reported, and is what is to be answered, or it refuses
abbrev pub Decides : (answer : ℕ → List ℕ → Type 0) → Result Done Refusal → Type 0
Decides answer result = Gives (λ done. CanTell done × answer (done_status done) (done_text done)) answer result

-- no answer
abbrev pub Nothing : ℕ → List ℕ → Type 0
Nothing status text = ⊥

-- ---- of the words

-- the file words of an order
abbrev pub IsFileOf : Order → List ℕ → Type 0
IsFileOf order name = Contains (map (λ file. file.name) (files_of order)) name

-- a file word of the words, where they are an order
abbrev pub IsFileWord : List (List ℕ) → List ℕ → Type 0
IsFileWord words name = MatchOption (order_of words) ⊥ (λ order. IsFileOf order name)

-- the text that was appended keeps what is promised of the order
pub record AppendsPromised (held : Held) (order : Order) (old new : Option (List ℕ)) : Type 0 where
  pub text : List ℕ
  pub promised : Promised held order text
  pub appended : IsAppended old new text
