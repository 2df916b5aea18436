-- Pipelines whose classes go by other numbers: words to prove with, nothing to believe.
use Rattle.std.specs.Prelude.{◌≡◌, ℕ}
use Rattle.hz_pipeline_model.specs.Accepting.Fitting.{AskTheSame}
use Rattle.hz_pipeline_model.specs.Accepting.Replay.{Pipeline, alternatives_at}

-- Each class of the one pipeline has the alternatives of that number in the other, and the statements of both ask the
-- same.
pub record IsMoved {U : Type 0} (f : ℕ → ℕ) (m o : Pipeline U) : Type 0 where
  pub statements : AskTheSame m.statements o.statements
  pub treatment : m.treatment ≡ o.treatment
  pub alternatives : (k : ℕ) → alternatives_at m k ≡ alternatives_at o (f k)
