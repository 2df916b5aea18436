-- Runs of numbers as the code holds them.
use Rattle.std.specs.Prelude.{ℕ, suc, ◌==◌, List, [], ◌∷◌, if◌then◌else◌}
use Rattle.hz_why_model.specs.Lists as model
use Rattle.hz_explain.specs.declared.lists.Run.{Run}

-- a run
abbrev pub run_of : Run → model.Run
run_of r = record { first = r.first; last = r.last }

-- runs, and a number after them
abbrev pub and_number : List model.Run → ℕ → List model.Run
and_number [] n = record { first = n; last = n } ∷ []
and_number (r ∷ []) n = if suc r.last == n then record { first = r.first; last = n } ∷ [] else r ∷ record { first = n; last = n } ∷ []
and_number (r ∷ q ∷ rs) n = r ∷ and_number (q ∷ rs) n
