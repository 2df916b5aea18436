-- What every command on a description begins with.
use Rattle.std.specs.Prelude.{◌≡◌, ℕ, List, length}
use Rattle.hz_answer_model.specs.Answers.{Compiles}
use Rattle.hz_block_model.specs.Scheduling.Machines.{Settles}
use Rattle.hz_front.specs.Fronts.{IsCheckedIn}
use Rattle.hz_front_model.specs.Descriptions.{HasDescription}
use Rattle.hz_tables.specs.Machines.{machine_of}
use Rattle.hz_tool.specs.Compiled.{IsCompiledBy}
use Rattle.hz_tool.specs.Deciding.{Nothing}
use Rattle.hz_tool.specs.declared.phases.compiling.Front.{Front}

-- What is held is what the description gives that bytes say, and what is compiled of it.
pub record IsFrontOf (bytes : List ℕ) (front : Front) : Type 0 where
  pub checked : IsCheckedIn bytes front.checked
  pub compiled : IsCompiledBy front.checked front.compiled
  pub classes : length front.compiled.machine.classes.items ≡ length front.checked.classes.items
  pub settles : Settles (machine_of front.compiled.machine)

-- a description is judged, checked and compiled
abbrev pub Compiling : (name bytes : List ℕ) → ℕ → List ℕ → Type 0
Compiling name bytes = HasDescription name bytes (λ d known. Compiles name d known Nothing)
