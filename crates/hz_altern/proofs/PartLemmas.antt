-- Parts of an expression, cut in two.
use Rattle.std.proofs.Common.{◌≡◌, ℕ, ◌<◌, ◌≤◌, inl, inr, Option, length-append, Bool, List, [], ◌∷◌, ◌++◌, length, take, drop, get_or, refl, sym, ap, ◌∙◌, subst, arith}
use Rattle.std.specs.Prelude.{IsTrue}
use Rattle.std.proofs.lemmas.Bool.{and_parts, and_from}
use Rattle.std.proofs.lemmas.List.{take-append-drop, map-append}
use Rattle.hz_regexp.specs.declared.expr.Expr.{Expr}
use Rattle.hz_regexp.specs.Shape.{expression, expressions}
use Rattle.hz_altern.specs.declared.mark.Mark.{Mark}
use Rattle.hz_altern.specs.declared.mark.Mark.TheVariants.{Comma, Bar, Plus}
use Rattle.hz_altern.specs.Joinings.{joined_parts}
use Rattle.hz_altern.proofs.JoinedLists.{joined_lists}
use Rattle.hz_altern.specs.Tables.{AreRight, AreRightIn}
use Rattle.hz_description_model.specs.Reservations.AlternativeLists.{Extent}
use Rattle.hz_description_model.specs.Reservations.Alternatives.{Alternative, Expression, alternatives_of, any_of, parts_of}
use Rattle.hz_description_model.specs.Reservations.Automata.{UnitPlace}
use Rattle.hz_description_model.specs.Reservations.Expressions.{are_expressions}
use Rattle.hz_description_model.specs.Reservations.Meanings.{MentionsIn}
use Rattle.hz_description_model.specs.Reservations.NamesIn.{all_names_in}
use Rattle.hz_description_model.proofs.Reservations.ExpressionLaws.{one_followed, one_beside, one_of_one, some_sequence, some_together, some_alternatives}
use Rattle.hz_description_model.proofs.Reservations.ListedLaws.{in_sequence-append, together-append, any_of-append}

-- ---- lists of expressions

pub are_expressions-append : (es fs : List Expression) → IsTrue (are_expressions (parts_of (es ++ fs))) → IsTrue (are_expressions (parts_of es)) × IsTrue (are_expressions (parts_of fs))
are_expressions-append [] fs h = (refl, h)
are_expressions-append (e ∷ es) fs h =
    let here = and_parts _ _ h in
    let rest = are_expressions-append es fs here.1 in
    (and_from _ _ here.0 rest.0, rest.1)

pub all_names_in-append : (test : List ℕ → Bool) (es fs : List Expression) → IsTrue (all_names_in test (parts_of (es ++ fs))) → IsTrue (all_names_in test (parts_of es)) × IsTrue (all_names_in test (parts_of fs))
all_names_in-append test [] fs h = (refl, h)
all_names_in-append test (e ∷ es) fs h =
    let here = and_parts _ _ h in
    let rest = all_names_in-append test es fs here.1 in
    (and_from _ _ here.0 rest.0, rest.1)

pub mentions_left : (es fs : List Expression) (name : List ℕ) → MentionsIn (parts_of es) name → MentionsIn (parts_of (es ++ fs)) name
mentions_left [] fs name h = absurd h
mentions_left (e ∷ es) fs name (inl h) = inl h
mentions_left (e ∷ es) fs name (inr h) = inr (mentions_left es fs name h)

pub mentions_right : (es fs : List Expression) (name : List ℕ) → MentionsIn (parts_of fs) name → MentionsIn (parts_of (es ++ fs)) name
mentions_right [] fs name h = h
mentions_right (e ∷ es) fs name h = inr (mentions_right es fs name h)

module _ (mark : Mark) (known : List ℕ → List (Alternative UnitPlace)) where
  pub joined_parts-append : (es fs : List Expression) → joined_parts mark known (parts_of (es ++ fs)) ≡ joined_lists mark (joined_parts mark known (parts_of es)) (joined_parts mark known (parts_of fs))
  joined_parts-append = elim mark as (λ m. (es fs : List Expression) → joined_parts m known (parts_of (es ++ fs)) ≡ joined_lists m (joined_parts m known (parts_of es)) (joined_parts m known (parts_of fs))) [
    | Comma ↦ in_sequence-append known
    | Bar ↦ any_of-append known
    | Plus ↦ together-append known
  ]

  pub joined_parts-one : (e : Expression) → joined_parts mark known (parts_of (e ∷ [])) ≡ alternatives_of known e
  joined_parts-one e = elim mark as (λ m. joined_parts m known (parts_of (e ∷ [])) ≡ alternatives_of known e) [
    | Comma ↦ one_followed (alternatives_of known e)
    | Bar ↦ one_of_one known e
    | Plus ↦ one_beside (alternatives_of known e)
  ]

-- ---- slices of the code

pub halves : (m : ℕ) (ps : List Expr) → expressions (take m ps) ++ expressions (drop m ps) ≡ expressions ps
halves m ps = sym (map-append expression (take m ps) (drop m ps)) ∙ ap expressions (take-append-drop m ps)

pub only_one : (ps : List Expr) (p : Expr) → length ps < 2 → 1 ≤ length ps → p ≡ get_or ps 0 p → ps ≡ p ∷ []
only_one [] p h k e = absurd (omega arith)
only_one (q ∷ []) p h k e = ap (λ (x : Expr). x ∷ []) (sym e)
only_one (q ∷ r ∷ ps) p h k e = absurd (omega arith)

-- the halves of parts that can be written, of which each name passes a test, are such parts
module _ (test : List ℕ → Bool) (m : ℕ) (ps : List Expr) where
  pub formed_halves : IsTrue (are_expressions (parts_of (expressions ps))) → IsTrue (are_expressions (parts_of (expressions (take m ps)))) × IsTrue (are_expressions (parts_of (expressions (drop m ps))))
  formed_halves h = are_expressions-append (expressions (take m ps)) (expressions (drop m ps)) (rw (halves m ps) h)

  pub named_halves : IsTrue (all_names_in test (parts_of (expressions ps))) → IsTrue (all_names_in test (parts_of (expressions (take m ps)))) × IsTrue (all_names_in test (parts_of (expressions (drop m ps))))
  named_halves h = all_names_in-append test (expressions (take m ps)) (expressions (drop m ps)) (rw (halves m ps) h)

-- ---- names that are held right

module _ (held : List ℕ → Option Extent) (known : List ℕ → List (Alternative UnitPlace)) where
  pub right_one : (ps : List Expr) (p : Expr) → ps ≡ p ∷ [] → AreRightIn held known (parts_of (expressions ps)) → AreRight held known (expression p)
  right_one ps p one right =
      let here = subst (λ (qs : List Expr). AreRightIn held known (parts_of (expressions qs))) one right in
      record { each = λ name h. here.each name (inl h); some = λ name h. here.some name (inl h) }

  pub right_halves : (m : ℕ) (ps : List Expr) → AreRightIn held known (parts_of (expressions ps)) → AreRightIn held known (parts_of (expressions (take m ps))) × AreRightIn held known (parts_of (expressions (drop m ps)))
  right_halves m ps right =
      let both : AreRightIn held known (parts_of (expressions (take m ps) ++ expressions (drop m ps))) = rw (halves m ps) right in
      let es = expressions (take m ps) in
      let fs = expressions (drop m ps) in (
        record { each = λ name h. both.each name (mentions_left es fs name h); some = λ name h. both.some name (mentions_left es fs name h) },
        record { each = λ name h. both.each name (mentions_right es fs name h); some = λ name h. both.some name (mentions_right es fs name h) },
      )

-- parts have alternatives where the names in them have some
pub some_joined : (mark : Mark) (known : List ℕ → List (Alternative UnitPlace)) (es : List Expression) → 0 < length es → IsTrue (are_expressions (parts_of es)) → ((name : List ℕ) → MentionsIn (parts_of es) name → 0 < length (known name)) → 0 < length (joined_parts mark known (parts_of es))
some_joined mark known [] h formed some = absurd (omega arith)
some_joined Comma known (e ∷ es) h formed some = some_sequence known (parts_of (e ∷ es)) formed some
some_joined Bar known (e ∷ es) h formed some =
    let first = some_alternatives known e (and_parts _ _ formed).0 (λ name m. some name (inl m)) in
    omega (arith, length-append (alternatives_of known e) (any_of known (parts_of es)))
some_joined Plus known (e ∷ es) h formed some = some_together known (parts_of (e ∷ es)) formed some
