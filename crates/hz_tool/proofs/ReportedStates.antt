-- What is reported of an automaton with too many states.
use Rattle.std.specs.Prelude.{◌≡◌, ⊤, ℕ, List}
use Rattle.hz_front.specs.declared.refusal.Refusal.{Refusal}
use Rattle.hz_front.specs.declared.refusal.Refusal.TheVariants.{Automaton, Memory}

-- an automaton that has too many states is reported by its name, or memory ran out
abbrev pub IsStatesReported : List ℕ → List ℕ → Refusal → Type 0
IsStatesReported name automaton (Automaton file at) = (file.now ≡ name) × (at ≡ automaton)
IsStatesReported name automaton Memory = ⊤
IsStatesReported name automaton _ = ⊥
