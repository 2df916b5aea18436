-- What is refused, its text and its status; and what is decided before anything is written.
use Rattle.std.specs.Prelude.{◌≡◌, ℕ, ◌+◌, ◌≤◌, ⊤, List, Result, Ok, Err, MatchBool, Bool, true, false}
use Rattle.hz_base_model.specs.Reported.{reported_in}
use Rattle.hz_check.specs.Faults.{limit_of}
use Rattle.hz_description_model.specs.Check.CheckFaults.{limit_word}
use Rattle.hz_front_model.specs.Texts.{fault_text, passed_line, states_line, limit_line, insns_line, memory_line, file_line}
use Rattle.hz_front.specs.declared.refusal.Refusal.{Refusal}
use Rattle.hz_front.specs.declared.refusal.Refusal.TheVariants.{Fault, Limit, Automaton, Bytes, Insns, Usage, Memory, File}

-- the line that is written
abbrev pub text_of : Refusal → List ℕ
text_of (Fault file line kind insn first second at) = fault_text file.now line kind.now insn first second (reported_in at)
text_of (Limit file line what name) = passed_line file.now line (limit_word (limit_of what)) name
text_of (Automaton file name) = states_line file.now name
text_of (Bytes file) = limit_line file.now
text_of (Insns file) = insns_line file.now
text_of (Usage line) = line.now
text_of Memory = memory_line
text_of (File name) = file_line name.now

-- its status, where the line is written whole
abbrev pub status_of : Refusal → ℕ
status_of (Fault file line kind insn first second at) = 2
status_of (Limit file line what name) = 3
status_of (Automaton file name) = 3
status_of (Bytes file) = 3
status_of (Insns file) = 3
status_of (Usage line) = 4
status_of Memory = 5
status_of (File name) = 6

-- memory ran out
abbrev pub is_memory : Refusal → Bool
is_memory Memory = true
is_memory _ = false

-- a file could not be read
abbrev pub is_file : Refusal → Bool
is_file (File name) = true
is_file _ = false

-- what is refused is what is to be answered; want of memory may come in its place
abbrev pub Agrees : (ℕ → List ℕ → Type 0) → Refusal → Type 0
Agrees answer refusal = MatchBool (is_memory refusal) ⊤ (answer (status_of refusal) (text_of refusal))

-- that a file could not be read comes with one more fault, and anything else with none
abbrev pub CountsRefusal : (old new : ℕ) → Refusal → Type 0
CountsRefusal old new refusal = MatchBool (is_file refusal) (new ≡ old + 1) (new ≡ old)

-- the file that could not be read is one of these
abbrev pub NamesFile : (List ℕ → Type 0) → Refusal → Type 0
NamesFile names (File name) = names name.now
NamesFile names _ = ⊤

-- it is not of the words
abbrev pub IsOfOrder : Refusal → Type 0
IsOfOrder (Usage line) = ⊥
IsOfOrder _ = ⊤

-- it is of texts that were judged, and so nothing of files or words
abbrev pub IsJudged : Refusal → Type 0
IsJudged (Bytes file) = ⊥
IsJudged (Usage line) = ⊥
IsJudged (File name) = ⊥
IsJudged _ = ⊤

-- it is of the words: this usage line, or `memory` holds and memory ran out
abbrev pub SaysUsage : (memory : Type 0) → (usage : List ℕ) → Refusal → Type 0
SaysUsage memory usage (Usage line) = line.now ≡ usage
SaysUsage memory usage Memory = memory
SaysUsage memory usage _ = ⊥

-- ---- what a program decides

-- What is decided: what is done, by its status and its text, or a refusal.
pub data Decided : Type 0 where
  done : (status : ℕ) → (text : List ℕ) → Decided
  refused : (refusal : Refusal) → Decided

-- what is decided of what is done, by its status and its text, or of a refusal
abbrev pub decided_by : {T : Type 0} → (status : T → ℕ) → (text : T → List ℕ) → Result T Refusal → Decided
decided_by status text (Ok x) = done (status x) (text x)
decided_by status text (Err refusal) = refused refusal

-- its text
abbrev pub text_in : Decided → List ℕ
text_in (done status text) = text
text_in (refused refusal) = text_of refusal

-- its status, where the text is written whole
abbrev pub status_in : Decided → ℕ
status_in (done status text) = status
status_in (refused refusal) = status_of refusal

-- what is done has a status of at most 3
abbrev pub IsDoneLow : Decided → Type 0
IsDoneLow (done status text) = status ≤ 3
IsDoneLow (refused refusal) = ⊤

-- what is decided is what is to be answered; want of memory may come in its place
abbrev pub Answers : (ℕ → List ℕ → Type 0) → Decided → Type 0
Answers answer (done status text) = answer status text
Answers answer (refused refusal) = Agrees answer refusal

-- that a file could not be read comes with one more fault, and anything else with none
abbrev pub CountsDecided : (old new : ℕ) → Decided → Type 0
CountsDecided old new (done status text) = new ≡ old
CountsDecided old new (refused refusal) = CountsRefusal old new refusal

-- the file that could not be read is one of these
abbrev pub NamesIn : (List ℕ → Type 0) → Decided → Type 0
NamesIn names (done status text) = ⊤
NamesIn names (refused refusal) = NamesFile names refusal
