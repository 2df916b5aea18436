-- What is said of a fault, in weaker words.
use Rattle.std.proofs.Common.{◌≡◌, ℕ, Some, None, refl}
use Rattle.std.specs.Prelude.{Option, MatchOption}
use Rattle.std.specs.Option.{option_map}
use Rattle.hz_regexp.specs.Faults as regexp
use Rattle.hz_description_model.specs.Grammar.ExpressionTexts.{ExpressionFault}
use Rattle.hz_description_model.specs.Reading.DescriptionForms.{DescriptionFault}
use Rattle.hz_mdread.specs.declared.fault.MdFault.TheVariants as code
use Rattle.hz_mdread.specs.declared.fault.Wrong.{Wrong}
use Rattle.hz_mdread.specs.declared.fault.Wrong.TheVariants as wrong
use Rattle.hz_mdread.specs.Faults.{Tells, TellsOf, fault_at, in_form}

-- what is wrong with a form is reported at its line
pub tells_at : (P : DescriptionFault → ℕ → Type 0) (Q : DescriptionFault → Type 0) (line : ℕ) → ((fault : DescriptionFault) → Q fault → P fault line) → (w : Wrong) → TellsOf Q w → Tells P (fault_at line w)
tells_at P Q line weaker wrong.UnknownForm h = weaker _ h
tells_at P Q line weaker wrong.BadShape h = weaker _ h
tells_at P Q line weaker wrong.BadCondition h = weaker _ h
tells_at P Q line weaker wrong.UnknownOption h = weaker _ h
tells_at P Q line weaker wrong.LatencyLimit h = weaker _ h
tells_at P Q line weaker (wrong.BadExpression fault) h = go (regexp.fault_of fault) h
  where
    go : (found : Option (ExpressionFault × ℕ)) → MatchOption (option_map (in_form 0) found) (code.BadExpression 0 fault ≡ code.NoMemory) (λ reported. Q reported.0)
        → MatchOption (option_map (in_form line) found) (code.BadExpression line fault ≡ code.NoMemory) (λ reported. P reported.0 reported.1)
    go (Some reported) h = weaker _ h
    go None h = absurd (cc)
tells_at P Q line weaker wrong.UnknownGuard h = weaker _ h
tells_at P Q line weaker wrong.NoMemory h = refl
