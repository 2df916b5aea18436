-- The refusals of files and texts, by what the crates below report.
use Rattle.std.specs.Prelude.{ℕ, List, Option, Some, None}
use Rattle.std.specs.Borrow.{Bor}
use Rattle.hz_check.specs.declared.fault.LimitName.{LimitName}
use Rattle.hz_io.specs.declared.faults.SlurpFault.{SlurpFault}
use Rattle.hz_io.specs.declared.faults.SlurpFault.TheVariants as slurp
use Rattle.hz_front.specs.declared.refusal.Refusal.{Refusal}
use Rattle.hz_front.specs.declared.refusal.Refusal.TheVariants as refusal

-- a file that is not read whole
abbrev pub refuse_slurp : Bor (List ℕ) → SlurpFault → Refusal
refuse_slurp file slurp.Failed = refusal.File file
refuse_slurp file (slurp.Long read) = refusal.Bytes file
refuse_slurp file slurp.NoMemory = refusal.Memory

-- a fault that has a word and a line, with what is wrong in an expression; without them memory ran out
abbrev pub refuse_fault : Bor (List ℕ) → Option (Bor (List ℕ) × ℕ) → (at : Option (Bor (List ℕ) × ℕ)) → Refusal
refuse_fault file (Some reported) at = refusal.Fault file reported.1 reported.0 None None None at
refuse_fault file None at = refusal.Memory

-- a fault or a limit of the check, with the name that is wrong
abbrev pub refuse_check : Bor (List ℕ) → Option (Bor (List ℕ) × ℕ) → Option LimitName → (name : Option (List ℕ)) → Refusal
refuse_check file (Some reported) (Some what) (Some name) = refusal.Limit file reported.1 what name
refuse_check file (Some reported) None (Some name) = refusal.Fault file reported.1 reported.0 None (Some name) None None
refuse_check file _ _ _ = refusal.Memory
