-- What is kept of an expression, said for each assignment of alternatives that is right, and made of what is kept of its parts.
use Rattle.std.proofs.Common.{length-drop, zero, suc, ◌≡◌, ℕ, ◌+◌, ◌-◌, ◌*◌, ◌≤◌, ◌<◌, inl, inr, Bool, true, List, [], ◌∷◌, length, get_or, drop, length-append, sym, ap, ◌∙◌, subst, arith}
use Rattle.std.specs.Prelude.{IsTrue, Option}
use Rattle.std.proofs.lemmas.Bool.{and_parts, leb-true}
use Rattle.std.proofs.lemmas.List.{drop_more, drop_all}
use Rattle.hz_altern.proofs.Nodes.{nodes, all_nodes}
use Rattle.hz_altern.proofs.PartLemmas.{formed_halves, named_halves}
use Rattle.hz_description_model.specs.Reservations.Alternatives.{Alternative, Expression, sequence, one_of, all_of, repeat, Parts, none, more, parts_of, alternatives_of, any_of}
use Rattle.hz_description_model.specs.Reservations.Automata.{UnitPlace}
use Rattle.hz_description_model.specs.Reservations.Expressions.{is_expression, are_expressions}
use Rattle.hz_description_model.specs.Reservations.Meanings.{MentionsIn}
use Rattle.hz_description_model.specs.Reservations.NamesIn.{all_names, all_names_in}
use Rattle.hz_description_model.proofs.Reservations.ExpressionLaws.{some_alternatives, some_sequence, some_together}
use Rattle.hz_regexp.specs.declared.expr.Expr.{Expr}
use Rattle.hz_regexp.specs.Shape.{expression, expressions}
use Rattle.hz_check_reservations.specs.declared.rules.habits.Habits.{Habits}
use Rattle.hz_check_reservations.specs.declared.rules.mark.Mark.{Mark}
use Rattle.hz_check_reservations.specs.declared.rules.mark.Mark.TheVariants.{Comma, Bar, Plus}
use Rattle.hz_check_reservations.specs.Habits.{FitsExpression, FitsParts, alternated, joined_habits, joined_parts, repeated_habits}
use Rattle.hz_check_reservations.specs.HabitTables.{AreRight, AreRightIn}
use Rattle.hz_check_reservations.proofs.FitLaws.{fits_more, fits_one, fits_sequence, fits_all_of, fits_one_of, fits_repeat}

-- parts have alternatives where the names in them have some
some_joined : (mark : Mark) (known : List ℕ → List (Alternative UnitPlace)) (first : Expression) (others : Parts) → IsTrue (are_expressions (more first others)) → ((name : List ℕ) → MentionsIn (more first others) name → 0 < length (known name))
    → 0 < length (joined_parts mark known (more first others))
some_joined Comma known first others formed some = some_sequence known (more first others) formed some
some_joined Bar known first others formed some =
    let here = some_alternatives known first (and_parts _ _ formed).0 (λ name m. some name (inl m)) in
    omega (arith, length-append (alternatives_of known first) (any_of known others))
some_joined Plus known first others formed some = some_together known (more first others) formed some

module _ (kept : List ℕ → Option Habits) where
  abbrev pub Says : Expression → Habits → Type 0
  Says e h = (known : List ℕ → List (Alternative UnitPlace)) (mixed uneven : List ℕ → Bool) → AreRight kept known mixed uneven e → FitsExpression known mixed uneven e h

  abbrev pub SaysParts : Mark → Parts → Habits → Type 0
  SaysParts mark parts h = (known : List ℕ → List (Alternative UnitPlace)) (mixed uneven : List ℕ → Bool) → AreRightIn kept known mixed uneven parts → FitsParts mark known mixed uneven parts h

  pub says_same : (e f : Expression) (h : Habits) → e ≡ f → Says f h → Says e h
  says_same e f h same says = subst (λ (x : Expression). Says x h) (sym same) says

  pub says_sequence : (parts : Parts) (h : Habits) → SaysParts Comma parts h → Says (sequence parts) h
  says_sequence parts h says known mixed uneven right = fits_sequence known mixed uneven parts h (says known mixed uneven (record { each = right.each; some = right.some }))

  pub says_one_of : (parts : Parts) (h : Habits) → SaysParts Bar parts h → Says (one_of parts) (alternated h)
  says_one_of parts h says known mixed uneven right = fits_one_of known mixed uneven parts h (says known mixed uneven (record { each = right.each; some = right.some }))

  pub says_all_of : (parts : Parts) (h : Habits) → SaysParts Plus parts h → Says (all_of parts) h
  says_all_of parts h says known mixed uneven right = fits_all_of known mixed uneven parts h (says known mixed uneven (record { each = right.each; some = right.some }))

  pub says_repeat : (part : Expression) (times : ℕ) (h : Habits) → IsTrue (is_expression (repeat part times)) → Says part h → Says (repeat part times) (repeated_habits times h)
  says_repeat part times h formed says known mixed uneven right =
      let both = and_parts _ _ formed in
      let inner = and_parts _ _ both.0 in
      fits_repeat known mixed uneven part times h (leb-true 1 times inner.1) (some_alternatives known part inner.0 right.some) (says known mixed uneven (record { each = right.each; some = right.some }))

  -- parts from the last on
  pub says_last : (mark : Mark) (e : Expression) (h : Habits) → Says e h → SaysParts mark (more e none) h
  says_last mark e h says known mixed uneven right = fits_one known mixed uneven mark e h (says known mixed uneven (record { each = λ name x m. right.each name x (inl m); some = λ name m. right.some name (inl m) }))

  pub says_more : (mark : Mark) (first second : Expression) (rest : Parts) (a b : Habits) → IsTrue (are_expressions (more first (more second rest))) → Says first a → SaysParts mark (more second rest) b
      → SaysParts mark (more first (more second rest)) (joined_habits mark a b)
  says_more mark first second rest a b formed front back known mixed uneven right =
      let each = and_parts _ _ formed in
      fits_more known mixed uneven mark first second rest a b
      (some_alternatives known first each.0 (λ name m. right.some name (inl m)))
      (some_joined mark known second rest each.1 (λ name m. right.some name (inr m)))
      (front known mixed uneven (record { each = λ name x m. right.each name x (inl m); some = λ name m. right.some name (inl m) }))
      (back known mixed uneven (record { each = λ name x m. right.each name x (inr m); some = λ name m. right.some name (inr m) }))

  -- what is kept of the parts of a list from a place on
  abbrev pub SaysFrom : Mark → List Expr → Habits → Type 0
  SaysFrom mark ps h = SaysParts mark (parts_of (expressions ps)) h

  from_one_more : (mark : Mark) (p : Expr) (ps : List Expr) (a b : Habits) → 0 < length ps → IsTrue (are_expressions (parts_of (expressions (p ∷ ps)))) → Says (expression p) a → SaysFrom mark ps b → SaysFrom mark (p ∷ ps) (joined_habits mark a b)
  from_one_more mark p [] a b some formed front back = absurd (omega arith)
  from_one_more mark p (q ∷ ps) a b some formed front back = says_more mark (expression p) (expression q) (parts_of (expressions ps)) a b formed front back

  pub from_last : (mark : Mark) (ps : List Expr) (i : ℕ) (p : Expr) (h : Habits) → i < length ps → length ps ≤ i + 1 → p ≡ get_or ps i p → Says (expression p) h → SaysFrom mark (drop i ps) h
  from_last mark ps i p h low high is says =
      subst (λ (qs : List Expr). SaysFrom mark qs h)
      (sym (drop_more ps i p low ∙ (ap (λ (q : Expr). q ∷ drop (i + 1) ps) (sym is) ∙ ap (λ (qs : List Expr). p ∷ qs) (drop_all (i + 1) ps high))))
      (says_last mark (expression p) h says)

  pub from_more : (mark : Mark) (ps : List Expr) (i : ℕ) (p : Expr) (a b : Habits) → 0 < i → i < length ps → p ≡ get_or ps (i - 1) p → IsTrue (are_expressions (parts_of (expressions ps)))
      → Says (expression p) a → SaysFrom mark (drop i ps) b → SaysFrom mark (drop (i - 1) ps) (joined_habits mark a b)
  from_more mark ps i p a b some within is formed front back =
      let step : (i - 1) + 1 ≡ i = omega arith in
      let parts : drop (i - 1) ps ≡ p ∷ drop i ps = drop_more ps (i - 1) p (omega arith)
      ∙ (ap (λ (q : Expr). q ∷ drop ((i - 1) + 1) ps) (sym is) ∙ ap (λ (n : ℕ). p ∷ drop n ps) step) in
      let formed' = (formed_halves (λ _. true) (i - 1) ps formed).1 in
      subst (λ (qs : List Expr). SaysFrom mark qs (joined_habits mark a b)) (sym parts)
      (from_one_more mark p (drop i ps) a b (simp length-drop (omega arith)) (subst (λ (qs : List Expr). IsTrue (are_expressions (parts_of (expressions qs)))) parts formed') front back)

-- a part at a place
module _ (ps : List Expr) (i : ℕ) (p : Expr) (low : i < length ps) (is : p ≡ get_or ps i p) where
  from_here : drop i ps ≡ p ∷ drop (i + 1) ps
  from_here = drop_more ps i p low ∙ ap (λ (q : Expr). q ∷ drop (i + 1) ps) (sym is)

  pub formed_part : IsTrue (are_expressions (parts_of (expressions ps))) → IsTrue (is_expression (expression p))
  formed_part formed =
      let there = subst (λ (qs : List Expr). IsTrue (are_expressions (parts_of (expressions qs)))) from_here (formed_halves (λ _. true) i ps formed).1 in
      (and_parts _ _ there).0

  pub named_part : (test : List ℕ → Bool) → IsTrue (all_names_in test (parts_of (expressions ps))) → IsTrue (all_names test (expression p))
  named_part test named =
      let there = subst (λ (qs : List Expr). IsTrue (all_names_in test (parts_of (expressions qs)))) from_here (named_halves test i ps named).1 in
      (and_parts _ _ there).0

nodes_at : (ps : List Expr) (i : ℕ) (p : Expr) → i < length ps → p ≡ get_or ps i p → nodes p ≤ all_nodes ps
nodes_at [] i p low is = absurd (omega arith)
nodes_at (q ∷ ps) zero p low is = omega (arith, ap nodes is)
nodes_at (q ∷ ps) (suc i) p low is = let rest = nodes_at ps i p (omega arith) is in omega arith

-- a part counts fewer nodes than all parts and one
pub fewer_nodes : (ps : List Expr) (i : ℕ) (p : Expr) → i < length ps → p ≡ get_or ps i p → 2 * nodes p < 2 * all_nodes ps + 1
fewer_nodes ps i p low is = omega (arith, nodes_at ps i p low is)
