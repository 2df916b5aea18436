-- The expressions of the code's variants.
use Rattle.std.proofs.Common.{◌≡◌, ℕ, List, ap, sym, ◌∙◌}
use Rattle.std.specs.declared.alloc.Global.{Global}
use Rattle.std.specs.declared.vec.Vec.{Vec}
use Rattle.std.specs.declared.boxed.Box.{Box}
use Rattle.hz_regexp.specs.declared.expr.Expr.{Expr}
use Rattle.hz_regexp.specs.declared.expr.Expr.TheOpen.{Expr-F}
use Rattle.hz_regexp.specs.declared.expr.Expr.TheVariants.{Named, Nothing, Seq, Oneof, Allof, Repeat, rolls-Named, rolls-Nothing, rolls-Seq, rolls-Oneof, rolls-Allof, rolls-Repeat}
use Rattle.hz_regexp.specs.declared.expr.Expr.TheFolds.{fold-roll-Expr}
use Rattle.hz_regexp.specs.Shape.{expression, expressions, expression_step}
use Rattle.hz_description_model.specs.Reservations.Alternatives.{Expression, named, nothing, sequence, one_of, all_of, repeat, parts_of}

pub named_is : (name : List ℕ) → expression (Named name) ≡ named name
named_is name = ap expression (sym (rolls-Named name)) ∙ fold-roll-Expr Expression expression_step (Expr-F.Named name)

pub nothing_is : expression Nothing ≡ nothing
nothing_is = ap expression (sym rolls-Nothing) ∙ fold-roll-Expr Expression expression_step Expr-F.Nothing

pub seq_is : (parts : Vec Expr Global) → expression (Seq parts) ≡ sequence (parts_of (expressions parts.items))
seq_is parts = ap expression (sym (rolls-Seq parts)) ∙ fold-roll-Expr Expression expression_step (Expr-F.Seq parts)

pub oneof_is : (parts : Vec Expr Global) → expression (Oneof parts) ≡ one_of (parts_of (expressions parts.items))
oneof_is parts = ap expression (sym (rolls-Oneof parts)) ∙ fold-roll-Expr Expression expression_step (Expr-F.Oneof parts)

pub allof_is : (parts : Vec Expr Global) → expression (Allof parts) ≡ all_of (parts_of (expressions parts.items))
allof_is parts = ap expression (sym (rolls-Allof parts)) ∙ fold-roll-Expr Expression expression_step (Expr-F.Allof parts)

pub repeat_is : (part : Box Expr Global) (times : ℕ) → expression (Repeat part times) ≡ repeat (expression part.value) times
repeat_is part times = ap expression (sym (rolls-Repeat part times)) ∙ fold-roll-Expr Expression expression_step (Expr-F.Repeat part times)
