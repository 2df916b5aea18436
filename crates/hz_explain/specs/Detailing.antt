-- What is reported below a statement that is broken, by what the code holds: who holds its units, or which patterns it wants.
use Rattle.std.specs.Prelude.{ℕ, ◌-◌, List, [], ◌∷◌, ◌++◌, map, codes, Option, Some, None, slice_get}
use Rattle.std.specs.List.{concat}
use Rattle.std.specs.declared.alloc.Global.{Global}
use Rattle.std.specs.declared.vec.Vec.{Vec}
use Rattle.hz_description_model.specs.Reservations.Automata.{UnitPlace}
use Rattle.hz_why_model.specs.Explanations.{Wording, asked_word}
use Rattle.hz_why_model.specs.Lists.{listed}
use Rattle.hz_why_model.specs.Pictures.{line_limit}
use Rattle.hz_reasons.specs.Plans.{unit_of}
use Rattle.hz_explain.specs.Telling.{holder_in, patterns_or_none, pattern_in, holder_reported, units_reported}
use Rattle.hz_reasons.specs.declared.holders.Holder.{Holder}
use Rattle.hz_reasons.specs.declared.plan.AutomatonUnit.{AutomatonUnit}
use Rattle.hz_reasons.specs.declared.plan.Plan.{Plan}
use Rattle.hz_reasons.specs.declared.reasons.Break.{Break}
use Rattle.hz_reasons.specs.declared.reasons.Reason.{Reason}
use Rattle.hz_reasons.specs.declared.reasons.Reason.TheVariants.{Taken, Broken}

-- the texts that the code holds
abbrev pub texts_of : List (Vec ℕ Global) → List (List ℕ)
texts_of texts = map (λ text. text.items) texts

module _ (w : Wording UnitPlace) where
  -- who holds a unit in a cycle, or that it is asked for
  abbrev pub standing_reported : (cycle : ℕ) → Option Holder → List ℕ
  standing_reported cycle None = asked_word
  standing_reported cycle (Some h) = holder_reported w cycle (Some h)

  -- a pattern that a statement wants
  abbrev pub wanted_reported : List AutomatonUnit → List ℕ
  wanted_reported [] = []
  wanted_reported (u ∷ us) = w.unit (unit_of u) ++ units_reported w us

  -- the patterns that a statement wants
  abbrev pub wants_reported : List (Vec AutomatonUnit Global) → List ℕ
  wants_reported patterns = concat (codes "  wants" ∷ listed (line_limit - 7) (codes " ") (codes "; ") (map (λ pattern. wanted_reported pattern.items) patterns) ∷ codes "\n" ∷ [])

  module _ (plan : Plan) (issues : List Holder) where
    -- a unit of a statement that is broken in a cycle
    abbrev pub part_reported : (cycle : ℕ) → AutomatonUnit → List ℕ
    part_reported cycle u = w.unit (unit_of u) ++ standing_reported cycle (holder_in plan issues (unit_of u) cycle)

    -- units of a statement that is broken in a cycle
    abbrev pub parts_reported : (cycle : ℕ) → List AutomatonUnit → List ℕ
    parts_reported cycle units = concat (codes " " ∷ listed (line_limit - 1) (codes " ") (codes "; ") (map (part_reported cycle) units) ∷ codes "\n" ∷ [])

    -- the line of a statement that is broken with a pattern
    abbrev pub broken_with_reported : Break → (pattern : List AutomatonUnit) → List ℕ
    broken_with_reported b [] = wants_reported (patterns_or_none (slice_get plan.sets.items b.statement))
    broken_with_reported b (u ∷ us) = parts_reported b.cycle (b.unit ∷ u ∷ us)

    -- the line below what forbids an alternative; none of a pair that stands reserved
    abbrev pub detail_reported : Reason → List ℕ
    detail_reported (Taken p) = []
    detail_reported (Broken b) = broken_with_reported b (pattern_in plan.sets.items b)
