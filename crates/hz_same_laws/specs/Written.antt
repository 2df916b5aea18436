-- What `walk` answers of two tables texts to the trace that is written of their machines.
use Rattle.std.specs.Prelude.{◌≡◌, ◌⊎◌, ◌==◌, not, ℕ, List, Bool, true, false, IsTrue}
use Rattle.std.specs.List.{list_all}

-- the name of a file has no line feed
abbrev pub IsOneLine : List ℕ → Type 0
IsOneLine name = IsTrue (list_all (λ b. not (b == 10)) name)

-- If the last event is no ask, the one accepts all, and the other refuses the last. Else both accept all.
abbrev pub AnswerApart : (leads : Bool) → (status other : ℕ) → Type 0
AnswerApart true status other = ((status ≡ 0) × (other ≡ 1)) ⊎ ((status ≡ 1) × (other ≡ 0))
AnswerApart false status other = (status ≡ 0) × (other ≡ 0)
