-- The reading of expressions, and faults in it.
use Rattle.std.proofs.Common.{◌≡◌, ℕ, List, Some, Ok, Err, refl}
use Rattle.hz_regexp.specs.declared.fault.ExprFault.{ExprFault}
use Rattle.hz_regexp.specs.declared.fault.ExprFault.TheVariants.{Unexpected, Empty, RepeatZero, TooDeep, NumberTooLarge, NoMemory}
use Rattle.hz_regexp.specs.Faults as regexp
use Rattle.hz_description_model.specs.Reservations.Alternatives.{Expression}
use Rattle.hz_description_model.specs.Grammar.ExpressionTexts.{ExpressionFault, Reads, FaultAt}
use Rattle.hz_description_model.specs.Reading.DescriptionForms.{bad_expression, IsReading, expression_in, quoted_bytes}
use Rattle.hz_base_model.specs.Forms.Trees.{Tree}
use Rattle.hz_description_model.proofs.Reading.DescriptionLaws.{is_reading}
use Rattle.hz_description_model.proofs.Grammar.ExpressionTextsLaws.{read_is, fault_is}
use Rattle.hz_mdread.specs.Faults.{TellsOf, bad_expression_of}
use Rattle.hz_mdread.specs.Reading.{reading}

-- it is one
pub reading_is : IsReading reading
unfolding reading
reading_is = is_reading

reads : (text : List ℕ) (value : Expression) → Reads text value → reading text ≡ Ok value
unfolding reading
reads text value r = read_is text value r

goes_wrong : (text : List ℕ) (fault : ExpressionFault) (at : ℕ) → FaultAt text fault at → reading text ≡ Err (fault, at)
unfolding reading
goes_wrong text fault at w = fault_is w

-- an operand that is an expression
pub expression_read : (operand : Tree) (text : List ℕ) (value : Expression) → Some text ≡ quoted_bytes operand → Reads text value → expression_in reading operand ≡ Ok value
expression_read operand text value is r = rw (← is, reads text value r) refl

-- or one with a fault
pub expression_wrong : (operand : Tree) (text : List ℕ) (fault : ExprFault) → Some text ≡ quoted_bytes operand → regexp.Tells (FaultAt text) fault → TellsOf (λ f. expression_in reading operand ≡ Err f) (bad_expression_of fault)
expression_wrong operand text fault is w = go fault w
  where
    said : (f : ExpressionFault) (at : ℕ) → FaultAt text f at → expression_in reading operand ≡ Err (bad_expression f at)
    said f at k = rw (← is, goes_wrong text f at k) refl

    go : (fault : ExprFault) → regexp.Tells (FaultAt text) fault → TellsOf (λ f. expression_in reading operand ≡ Err f) (bad_expression_of fault)
    go (Unexpected at) k = said _ at k
    go (Empty at) k = said _ at k
    go (RepeatZero at) k = said _ at k
    go (TooDeep at) k = said _ at k
    go (NumberTooLarge at) k = said _ at k
    go NoMemory k = refl
