use Rattle.std.proofs.Common.{ℕ, ◌≤◌, ◌<◌, ◌-◌, length, drop}
use Rattle.std.specs.Prelude.{IsTrue}
use Rattle.hz_base_model.specs.Forms.Forms.{goes_on}
use Rattle.hz_sexp.proofs.word.word_length.Given as goal

abbrev pub invariant-loop-count : goal.invariant-loop-count
invariant-loop-count l = record { within : l.count ≤ length l.text; on : (k : ℕ) → k < l.count → IsTrue (goes_on (drop k l.text)) }

abbrev pub decreases-loop-count : goal.decreases-loop-count
decreases-loop-count l = length l.text - l.count
