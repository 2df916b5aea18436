-- Where an automaton has a query unit, each issue takes the first alternative that fits.
use Rattle.std.proofs.Common.{◌≡◌, ℕ, ◌<◌, Bool, true, false, List, length, refl, ap, arith, if◌then◌else◌}
use Rattle.hz_description_model.specs.Reading.Descriptions.{Options}
use Rattle.hz_description_model.specs.Check.CheckedParts.{AutomatonParts, ClassParts}
use Rattle.hz_description_model.specs.Check.CheckedShape.{AskNothingUnderNdfa}
use Rattle.hz_pipeline_model.specs.Accepting.Replay.{first_fit, any_fit}
use Rattle.hz_pipeline_model.specs.Pipelines.Pipelines.{treatment_of}
use Rattle.hz_pipeline_model.specs.Compiling.AutomatonPipelines.{queries_at, no_automaton, automaton_pipeline}

pub first_where_asked : (options : Options) (automata : List AutomatonParts) (classes : List ClassParts) → AskNothingUnderNdfa options.ndfa automata → (a : ℕ) → a < length automata → 0 < length (queries_at automata a)
    → (automaton_pipeline options automata classes a).treatment ≡ first_fit
first_where_asked options automata classes nothing a low some = by_option options.ndfa refl
  where
    by_option : (b : Bool) → options.ndfa ≡ b → treatment_of options ≡ first_fit
    by_option true e = absurd (let none = ap length (nothing e a no_automaton low) in omega (arith, none, some))
    by_option false e = ap (λ b. if b then any_fit else first_fit) e
