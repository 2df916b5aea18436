-- The expressions that the code holds, as those of the definitions.
use Rattle.std.specs.Prelude.{List, map}
use Rattle.hz_regexp.specs.declared.expr.Expr.{Expr}
use Rattle.hz_regexp.specs.declared.expr.Expr.TheOpen.{Expr-F}
use Rattle.hz_regexp.specs.declared.expr.Expr.TheFolds.{fold-Expr}
use Rattle.hz_description_model.specs.Reservations.Alternatives.{Expression, named, nothing, sequence, one_of, all_of, repeat, parts_of}

-- an expression whose parts are known
abbrev pub expression_step : Expr-F Expression → Expression
expression_step (Expr-F.Named name) = named name
expression_step Expr-F.Nothing = nothing
expression_step (Expr-F.Seq parts) = sequence (parts_of parts.items)
expression_step (Expr-F.Oneof parts) = one_of (parts_of parts.items)
expression_step (Expr-F.Allof parts) = all_of (parts_of parts.items)
expression_step (Expr-F.Repeat part times) = repeat part.value times

-- the expression that is held
abbrev pub expression : Expr → Expression
expression = fold-Expr Expression expression_step

-- the expressions of parts
abbrev pub expressions : List Expr → List Expression
expressions parts = map expression parts
