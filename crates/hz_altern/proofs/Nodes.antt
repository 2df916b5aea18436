-- How many expressions stand in an expression, itself among them: what recursions count down.
use Rattle.std.proofs.Common.{◌/◌, length-take, length-drop, ◌≡◌, ℕ, ◌+◌, ◌<◌, List, [], ◌∷◌, ◌++◌, length, map, take, drop, sym, ap, ◌∙◌, subst, arith}
use Rattle.std.proofs.lemmas.List.{take-append-drop}
use Rattle.hz_regexp.specs.declared.expr.Expr.{Expr}
use Rattle.hz_regexp.specs.declared.expr.Expr.TheOpen.{Expr-F}
use Rattle.hz_regexp.specs.declared.expr.Expr.TheFolds.{fold-Expr, fold-roll-Expr, fold_out-Expr}
use Rattle.hz_regexp.specs.declared.expr.Expr.TheVariants.{Repeat, rolls-Repeat}
use Rattle.std.specs.declared.alloc.Global.{Global}
use Rattle.std.specs.declared.boxed.Box.{Box}

abbrev pub added_up : List ℕ → ℕ
added_up [] = 0
added_up (n ∷ ns) = n + added_up ns

abbrev pub nodes_step : Expr-F ℕ → ℕ
nodes_step (Expr-F.Named name) = 1
nodes_step Expr-F.Nothing = 1
nodes_step (Expr-F.Seq parts) = added_up parts.items + 1
nodes_step (Expr-F.Oneof parts) = added_up parts.items + 1
nodes_step (Expr-F.Allof parts) = added_up parts.items + 1
nodes_step (Expr-F.Repeat part times) = part.value + 1

abbrev pub nodes : Expr → ℕ
nodes = fold-Expr ℕ nodes_step

abbrev pub all_nodes : List Expr → ℕ
all_nodes parts = added_up (map nodes parts)

some_step : (layer : Expr-F ℕ) → 0 < nodes_step layer
some_step (Expr-F.Named name) = omega arith
some_step Expr-F.Nothing = omega arith
some_step (Expr-F.Seq parts) = omega arith
some_step (Expr-F.Oneof parts) = omega arith
some_step (Expr-F.Allof parts) = omega arith
some_step (Expr-F.Repeat part times) = omega arith

some_nodes : (e : Expr) → 0 < nodes e
some_nodes e = subst (λ (n : ℕ). 0 < n) (sym (fold_out-Expr ℕ nodes_step e)) (some_step _)

pub some_in_parts : (ps : List Expr) → 0 < length ps → 0 < all_nodes ps
some_in_parts [] h = absurd (omega arith)
some_in_parts (p ∷ ps) h = omega (arith, some_nodes p)

all_nodes-append : (ps qs : List Expr) → all_nodes (ps ++ qs) ≡ all_nodes ps + all_nodes qs
all_nodes-append [] qs = omega arith
all_nodes-append (p ∷ ps) qs = omega (arith, all_nodes-append ps qs)

-- parts that are cut in two, of which each counts fewer than both
pub record Cut (ps front back : List Expr) : Type 0 where
  pub is : ps ≡ front ++ back
  pub some_front : 0 < length front
  pub some_back : 0 < length back
  pub fewer_in_front : all_nodes front < all_nodes ps
  pub fewer_in_back : all_nodes back < all_nodes ps

pub cut_in_two : (ps front back : List Expr) → front ≡ take (length ps / 2) ps → back ≡ drop (length ps / 2) ps → (length ps / 2 ≡ 0 → ⊥) → Cut ps front back
cut_in_two ps front back e f several =
    let middle = length ps / 2 in
    let is : ps ≡ front ++ back = sym (take-append-drop middle ps) ∙ (ap (λ qs. qs ++ drop middle ps) (sym e) ∙ ap (λ qs. front ++ qs) (sym f)) in
    let some_front : 0 < length front = omega (arith, ap length e, length-take middle ps) in
    let some_back : 0 < length back = omega (arith, ap length f, length-drop middle ps) in
    let first = some_in_parts front some_front in
    let second = some_in_parts back some_back in
    let both = ap all_nodes is ∙ all_nodes-append front back in
    record { is = is; some_front = some_front; some_back = some_back; fewer_in_front = omega arith; fewer_in_back = omega arith }

pub nodes_of_repeat : (part : Box Expr Global) (times : ℕ) → nodes (Repeat part times) ≡ nodes part.value + 1
nodes_of_repeat part times = ap nodes (sym (rolls-Repeat part times)) ∙ fold-roll-Expr ℕ nodes_step (Expr-F.Repeat part times)
