-- What tells two machines apart, by the names that both have. This profile, docs/RULES.md, 'Machines that are compared'.
use Rattle.std.specs.Prelude.{◌≡◌, ◌≢◌, ℕ, ◌<◌, ◌≤◌, List, [], ◌∷◌, ◌++◌, Bool, Some, is_some, All}
use Rattle.hz_pipeline_model.specs.Accepting.Events.{Event, issue, advance, ask}
use Rattle.hz_pipeline_model.specs.Tables.Machines.{Machine, parts_walk, machine_walk, states_tell}
use Rattle.hz_same_model.specs.Words.{IsEarlier}
use Rattle.hz_same_model.specs.Common.{classes_alone, asks_alone, common_of, advance_symbol, symbol_count, event_at, events_at}

-- What a machine answers to an event in these states of its parts: whether an issue or an advance is walked, and of an ask
-- whether the unit is reserved.
abbrev pub answer_in : Machine → List ℕ → Event → Bool
answer_in m states (issue class) = is_some (parts_walk m.parts states (issue class ∷ []))
answer_in m states (advance cycles) = is_some (parts_walk m.parts states (advance cycles ∷ []))
answer_in m states (ask part query) = states_tell m states part query

-- A trace of issues, cycles and one last event tells the machines apart: both walk all before the last event, and they
-- answer that otherwise. An issue is refused by exactly one then, or a unit that is asked for is reserved in exactly one.
pub record TellsApart (first second : Machine) (before : List ℕ) (last : ℕ) : Type 0 where
  pub walked : All (λ symbol. symbol ≤ advance_symbol (common_of first second)) before
  pub there : last < symbol_count (common_of first second)
  pub states : List ℕ
  pub others : List ℕ
  pub one : machine_walk first (events_at (common_of first second) first before) ≡ Some states
  pub other : machine_walk second (events_at (common_of first second) second before) ≡ Some others
  pub otherwise : answer_in first states (event_at (common_of first second) first last) ≢ answer_in second others (event_at (common_of first second) second last)

-- The least trace that tells the machines apart: no earlier one does.
pub record IsLeast (first second : Machine) (trace : List ℕ) : Type 0 where
  pub before : List ℕ
  pub last : ℕ
  pub is : trace ≡ before ++ last ∷ []
  pub tells : TellsApart first second before last
  pub least : (v : List ℕ) (symbol : ℕ) → TellsApart first second v symbol → IsEarlier (v ++ symbol ∷ []) trace → ⊥

-- no trace tells the machines apart
abbrev pub AnswerTheSame : Machine → Machine → Type 0
AnswerTheSame first second = (before : List ℕ) (last : ℕ) → TellsApart first second before last → ⊥

-- Two machines are the same: each name of a class or of a query unit is one of both, and no trace tells them apart.
pub record AreSame (first second : Machine) : Type 0 where
  pub classes : classes_alone first second ≡ []
  pub other_classes : classes_alone second first ≡ []
  pub asks : asks_alone first second ≡ []
  pub other_asks : asks_alone second first ≡ []
  pub answers : AnswerTheSame first second
