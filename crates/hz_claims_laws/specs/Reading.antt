-- A plain reader of answers: a text is lines, a line is words between spaces, and a number is its digits. It is written from
-- docs/FORMATS.md, 'Answers', and not from the definitions of the texts.
use Rattle.std.specs.Prelude.{◌≡◌, ℕ, ◌==◌, false, List, [], ◌∷◌, map, codes, if◌then◌else◌, Option, Some, None}
use Rattle.std.specs.Char.{is_ascii_digit}
use Rattle.std.specs.List.{slice_split, list_all, All}
use Rattle.std.specs.Str.{bytes_eq}
use Rattle.hz_base_model.specs.Lines.{lines_of, number_from}

-- the words of each line
abbrev pub words_of : List ℕ → List (List (List ℕ))
words_of text = map (slice_split (λ b. b == 32)) (lines_of text)

-- what a line of an answer tells
pub data LineMeaning : Type 0 where
  an_acceptance : (issues cycles : ℕ) → LineMeaning
  a_refusal : (line : ℕ) (class : List ℕ) → LineMeaning
  an_ask : (line : ℕ) (unit answer : List ℕ) → LineMeaning
  an_issue : (cycle number : ℕ) (class : List ℕ) → LineMeaning
  an_end : (instructions cycle : ℕ) → LineMeaning
  -- of `duo` the cycle and the context, of `modulo` the offset and the stage
  an_issue_of : (first second number : ℕ) (class : List ℕ) → LineMeaning
  an_end_of_two : (first second cycle : ℕ) → LineMeaning
  both_alone : (first second : ℕ) → LineMeaning
  a_read : (cycle number : ℕ) (kind : List ℕ) (place : ℕ) (writer : List ℕ) → LineMeaning
  a_path : (path : ℕ) (chain : List ℕ) → LineMeaning
  a_load : (unit : List ℕ) (count span value : ℕ) → LineMeaning
  no_load : LineMeaning
  a_bound : (value : ℕ) → LineMeaning
  a_last_cycle : (cycle : ℕ) → LineMeaning
  an_interval : (cycles : ℕ) → LineMeaning
  some_stages : (count : ℕ) → LineMeaning
  some_edges : (first second : ℕ) → LineMeaning
  a_list : (cycle : ℕ) → LineMeaning
  some_turns : (count : ℕ) → LineMeaning
  some_states : (states : List ℕ) → LineMeaning

-- the number of digits
abbrev pub n : List ℕ → ℕ
n digits = number_from 0 digits

-- a meaning, if a word is the one that is wanted there
abbrev pub after : List ℕ → List ℕ → Option LineMeaning → Option LineMeaning
after wanted word meaning = if bytes_eq word wanted then meaning else None

-- a line that begins with a number
abbrev pub meaning_of_number : List ℕ → List (List ℕ) → Option LineMeaning
meaning_of_number first (number ∷ class ∷ []) = Some (an_issue (n first) (n number) class)
meaning_of_number first (second ∷ number ∷ class ∷ []) = Some (an_issue_of (n first) (n second) (n number) class)
meaning_of_number first _ = None

-- `accepted I issues C cycles`
abbrev pub meaning_of_accepted : List (List ℕ) → Option LineMeaning
meaning_of_accepted (issues ∷ a ∷ cycles ∷ b ∷ []) = after (codes "issues") a (after (codes "cycles") b (Some (an_acceptance (n issues) (n cycles))))
meaning_of_accepted _ = None

-- `refused line L CLASS`
abbrev pub meaning_of_refused : List (List ℕ) → Option LineMeaning
meaning_of_refused (a ∷ line ∷ class ∷ []) = after (codes "line") a (Some (a_refusal (n line) class))
meaning_of_refused _ = None

-- `ask line L UNIT reserved`, or `free`
abbrev pub meaning_of_ask : List (List ℕ) → Option LineMeaning
meaning_of_ask (a ∷ line ∷ unit ∷ answer ∷ []) = after (codes "line") a (Some (an_ask (n line) unit answer))
meaning_of_ask _ = None

-- `scheduled N insns C cycles`, and of two blocks `scheduled N + M insns C cycles`
abbrev pub meaning_of_scheduled : List (List ℕ) → Option LineMeaning
meaning_of_scheduled (count ∷ a ∷ cycle ∷ b ∷ []) = after (codes "insns") a (after (codes "cycles") b (Some (an_end (n count) (n cycle))))
meaning_of_scheduled (first ∷ a ∷ second ∷ b ∷ cycle ∷ c ∷ []) = after (codes "+") a (after (codes "insns") b (after (codes "cycles") c (Some (an_end_of_two (n first) (n second) (n cycle)))))
meaning_of_scheduled _ = None

-- `alone A B cycles`
abbrev pub meaning_of_alone : List (List ℕ) → Option LineMeaning
meaning_of_alone (first ∷ second ∷ a ∷ []) = after (codes "cycles") a (Some (both_alone (n first) (n second)))
meaning_of_alone _ = None

-- `read C N reg R from WRITER`, and the same with `mem`
abbrev pub meaning_of_read : List (List ℕ) → Option LineMeaning
meaning_of_read (cycle ∷ number ∷ kind ∷ place ∷ a ∷ writer ∷ []) = after (codes "from") a (Some (a_read (n cycle) (n number) kind (n place) writer))
meaning_of_read _ = None

-- `path P N ..`
abbrev pub meaning_of_path : List (List ℕ) → Option LineMeaning
meaning_of_path (path ∷ chain) = Some (a_path (n path) (map n chain))
meaning_of_path _ = None

-- `load UNIT COUNT SPAN VALUE`, or `load -`
abbrev pub meaning_of_load : List (List ℕ) → Option LineMeaning
meaning_of_load (unit ∷ count ∷ span ∷ value ∷ []) = Some (a_load unit (n count) (n span) (n value))
meaning_of_load (a ∷ []) = after (codes "-") a (Some no_load)
meaning_of_load _ = None

-- one number, and nothing after it
abbrev pub meaning_of_one : (ℕ → LineMeaning) → List (List ℕ) → Option LineMeaning
meaning_of_one tell (number ∷ []) = Some (tell (n number))
meaning_of_one tell _ = None

-- one number, and the word `cycles`
abbrev pub meaning_of_cycles : (ℕ → LineMeaning) → List (List ℕ) → Option LineMeaning
meaning_of_cycles tell (number ∷ a ∷ []) = after (codes "cycles") a (Some (tell (n number)))
meaning_of_cycles tell _ = None

-- `drill T turns`
abbrev pub meaning_of_drill : List (List ℕ) → Option LineMeaning
meaning_of_drill (turns ∷ a ∷ []) = after (codes "turns") a (Some (some_turns (n turns)))
meaning_of_drill _ = None

-- `edge E equals edge F`
abbrev pub meaning_of_edges : List (List ℕ) → Option LineMeaning
meaning_of_edges (first ∷ a ∷ b ∷ second ∷ []) = after (codes "equals") a (after (codes "edge") b (Some (some_edges (n first) (n second))))
meaning_of_edges _ = None

-- a line by its first word
abbrev pub meaning_of_word : List ℕ → List (List ℕ) → Option LineMeaning
meaning_of_word word rest =
    if bytes_eq word (codes "accepted") then meaning_of_accepted rest
    else if bytes_eq word (codes "refused") then meaning_of_refused rest
    else if bytes_eq word (codes "ask") then meaning_of_ask rest
    else if bytes_eq word (codes "scheduled") then meaning_of_scheduled rest
    else if bytes_eq word (codes "alone") then meaning_of_alone rest
    else if bytes_eq word (codes "read") then meaning_of_read rest
    else if bytes_eq word (codes "path") then meaning_of_path rest
    else if bytes_eq word (codes "load") then meaning_of_load rest
    else if bytes_eq word (codes "bound") then meaning_of_one a_bound rest
    else if bytes_eq word (codes "schedule") then meaning_of_cycles a_last_cycle rest
    else if bytes_eq word (codes "interval") then meaning_of_one an_interval rest
    else if bytes_eq word (codes "stages") then meaning_of_one some_stages rest
    else if bytes_eq word (codes "edge") then meaning_of_edges rest
    else if bytes_eq word (codes "list") then meaning_of_cycles a_list rest
    else if bytes_eq word (codes "drill") then meaning_of_drill rest
    else if bytes_eq word (codes "states") then Some (some_states (map n rest))
    else None

-- what a line tells
abbrev pub line_meaning : List (List ℕ) → Option LineMeaning
line_meaning [] = None
line_meaning (word ∷ rest) = if list_all is_ascii_digit word then meaning_of_number word rest else meaning_of_word word rest

-- what the lines of a text tell
abbrev pub read_answer : List ℕ → List (Option LineMeaning)
read_answer text = map line_meaning (words_of text)

-- A word has neither a space nor a line feed.
pub record IsWord (word : List ℕ) : Type 0 where
  pub no_space : All (λ b. (b == 32) ≡ false) word
  pub no_feed : All (λ b. (b == 10) ≡ false) word
