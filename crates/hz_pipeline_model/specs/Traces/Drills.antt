-- The trace that `drill` draws: this profile, docs/RULES.md, 'Drills'.
use Rattle.std.specs.Prelude.{◌≡◌, ◌↔◌, ◌⊎◌, ℕ, zero, suc, ◌+◌, ◌*◌, ◌/◌, ◌%◌, ◌^◌, ◌<◌, ◌==◌, List, [], ◌∷◌, ◌++◌, length, Option, Some, None, if◌then◌else◌}
use Rattle.hz_pipeline_model.specs.Accepting.Events.{Event, issue, advance, ask}

-- The numbers are those of a linear congruential generator, below 2^31.
abbrev pub multiplier : ℕ
multiplier = 1103515245

abbrev pub increment : ℕ
increment = 12345

abbrev pub modulus : ℕ
modulus = 2147483648

-- what is drawn are the upper bits of a number, from 2^16 on
abbrev pub upper_from : ℕ
upper_from = 65536

-- the number of the next turn
abbrev pub next_number : ℕ → ℕ
next_number number = (number * multiplier + increment) % modulus

-- the number after so many turns
abbrev pub number_after : (number turns : ℕ) → ℕ
number_after number zero = number
number_after number (suc turns) = number_after (next_number number) turns

-- the class that the number of a turn draws of so many, none where there are no classes
abbrev pub draw : (classes number : ℕ) → Option ℕ
draw classes number = if classes == 0 then None else Some (number / upper_from % classes)

-- The event of a turn after those before it: the issue of the class that is drawn where it is accepted after them, else the advance
-- of one cycle.
abbrev pub IsTurn : (accepts : List Event → Type 0) → (before : List Event) → (drawn : Option ℕ) → Event → Type 0
IsTurn accepts before None e = e ≡ advance 1
IsTurn accepts before (Some class) e =
    (accepts (before ++ issue class ∷ []) × (e ≡ issue class)) ⊎ ((accepts (before ++ issue class ∷ []) → ⊥) × (e ≡ advance 1))

-- An event that a turn can have: an issue of one of the classes, or the advance of one cycle.
abbrev pub IsOfTurn : (classes : ℕ) → Event → Type 0
IsOfTurn classes (issue k) = k < classes
IsOfTurn classes (advance n) = n ≡ 1
IsOfTurn classes (ask a u) = ⊥

-- the events of so many turns after those before them, from a number on
abbrev pub Draws : (accepts : List Event → Type 0) → (classes : ℕ) → (before : List Event) → (number turns : ℕ) → List Event → Type 0
Draws accepts classes before number zero events = events ≡ []
Draws accepts classes before number (suc turns) [] = ⊥
Draws accepts classes before number (suc turns) (e ∷ events) =
    IsTurn accepts before (draw classes (next_number number)) e × Draws accepts classes (before ++ e ∷ []) (next_number number) turns events

-- The trace of so many turns from a number on: one event for each turn, each decided by what is accepted of the events so far with the
-- issue that is drawn.
abbrev pub Drawn : (accepts : List Event → Type 0) → (classes number turns : ℕ) → List Event → Type 0
Drawn accepts classes number turns events = Draws accepts classes [] number turns events

-- this class is drawn at a turn, where turns count from 0 and there are so many classes
abbrev pub IsDrawnAt : (classes number turn class : ℕ) → Type 0
IsDrawnAt classes number turn class = (0 < classes) × (class ≡ number_after number (turn + 1) / 2 ^ 16 % classes)

-- An event is the issue of a class exactly where the class is drawn at its turn and the issue is accepted after the events of the turns
-- before. It is the advance of one cycle exactly where no such issue is. Law: `each_turn_issues_what_it_draws`.
pub record IsAsDrawn (accepts : List Event → Type 0) (classes number : ℕ) (before : List Event) (e : Event) : Type 0 where
  pub issued : (class : ℕ) → (e ≡ issue class) ↔ (IsDrawnAt classes number (length before) class × accepts (before ++ issue class ∷ []))
  pub waited : (e ≡ advance 1) ↔ ((class : ℕ) → IsDrawnAt classes number (length before) class → accepts (before ++ issue class ∷ []) → ⊥)
