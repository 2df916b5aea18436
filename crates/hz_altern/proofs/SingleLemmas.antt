-- Which parts of an expression have one alternative.
use Rattle.std.proofs.Common.{◌≡◌, ℕ, zero, suc, ◌*◌, ◌<◌, ◌≤◌, Bool, true, false, ◌&&◌, List, [], ◌∷◌, ◌++◌, length, take, drop, get_or, refl, sym, ap, ◌∙◌, subst, arith}
use Rattle.std.specs.Prelude.{IsTrue, nat_eq}
use Rattle.std.specs.List.{list_all}
use Rattle.std.proofs.lemmas.Bool.{and_parts, leb-true, ne_eqb, eqb-true}
use Rattle.hz_altern.specs.declared.known.Known.{Known}
use Rattle.hz_altern.specs.declared.listing.singles.Singles.{Singles, out-Singles}
use Rattle.hz_altern.specs.Singles.{TellsOne, TellsSingles, TellSingles}
use Rattle.hz_altern.specs.Tables.{alternatives_in, known_alternatives, is_held}
use Rattle.hz_altern.proofs.GatherLemmas.{factors_one, several_of}
use Rattle.hz_regexp.specs.declared.expr.Expr.{Expr}
use Rattle.hz_regexp.specs.Shape.{expression, expressions}
use Rattle.hz_description_model.specs.Reservations.Alternatives.{Alternative, Expression, named, nothing, sequence, one_of, all_of, repeat, Parts, none, more, followed_by, beside, each_choice, copies, alternatives_of, in_sequence, any_of, together, parts_of}
use Rattle.hz_description_model.specs.Reservations.Automata.{UnitPlace}
use Rattle.hz_description_model.specs.Reservations.Expressions.{are_several, is_expression, are_expressions}
use Rattle.hz_description_model.specs.Reservations.NamesIn.{all_names_in}
use Rattle.hz_description_model.proofs.Reservations.ExpressionLaws.{length-each_choice}

-- ---- numbers that are one

-- a product is one exactly where its factors are
one_product : (a b : ℕ) → nat_eq (a * b) 1 ≡ (nat_eq a 1 && nat_eq b 1)
one_product zero b = ne_eqb (zero * b) 1 (λ e. omega arith)
one_product (suc zero) b = ap (λ (n : ℕ). nat_eq n 1) (let same : suc zero * b ≡ b = omega arith in same)
one_product (suc (suc a)) b =
    ne_eqb (suc (suc a) * b) 1 (λ e. let large = (factors_one (suc (suc a)) b e).0 in omega arith)
    ∙ sym (ap (λ (first : Bool). first && nat_eq b 1) (ne_eqb (suc (suc a)) 1 (λ e. omega arith)))

both : (b : Bool) → (b && b) ≡ b
both true = refl
both false = refl

with_true : (b : Bool) → (b && true) ≡ b
with_true true = refl
with_true false = refl

-- copies are one exactly where the alternatives are
one_copies : (xs : List (Alternative UnitPlace)) (n : ℕ) → 1 ≤ n → nat_eq (length (copies n xs)) 1 ≡ nat_eq (length xs) 1
one_copies xs zero h = absurd (omega arith)
one_copies xs (suc zero) h =
    ap (λ (n : ℕ). nat_eq n 1) (length-each_choice followed_by xs (copies zero xs)) ∙ (one_product (length xs) 1 ∙ with_true (nat_eq (length xs) 1))
one_copies xs (suc (suc n)) h =
    ap (λ (n : ℕ). nat_eq n 1) (length-each_choice followed_by xs (copies (suc n) xs))
    ∙ (one_product (length xs) (length (copies (suc n) xs))
    ∙ (ap (λ (b : Bool). nat_eq (length xs) 1 && b) (one_copies xs (suc n) (omega arith)) ∙ both (nat_eq (length xs) 1)))

-- ---- what is reported

module _ (known : List ℕ → List (Alternative UnitPlace)) where
  pub tells : (e : Expression) (s : Singles) → IsTrue (is_expression e) → TellsSingles known e s → TellsOne (alternatives_of known e) s
  tells (named name) s formed is = is
  tells nothing s formed is = is
  tells (sequence parts) s formed is = is.0
  tells (one_of parts) s formed is = is.0
  tells (all_of parts) s formed is = is.0
  tells (repeat part times) s formed is =
      let ranges = and_parts _ _ formed in
      let inner = and_parts _ _ ranges.0 in
      tells part s inner.0 is ∙ sym (one_copies (alternatives_of known part) times (leb-true 1 times inner.1))

  -- parts of which one alternative is chosen of each
  module _ (join : Alternative UnitPlace → Alternative UnitPlace → Alternative UnitPlace) (all : Parts → List (Alternative UnitPlace))
      (starts : length (all none) ≡ 1)
      (goes_on : (e : Expression) (ps : Parts) → all (more e ps) ≡ each_choice join (alternatives_of known e) (all ps)) where
    all_one : (ps : Parts) (ss : List Singles) → IsTrue (are_expressions ps) → TellSingles known ps ss → list_all (λ (s : Singles). (out-Singles s).single) ss ≡ nat_eq (length (all ps)) 1
    all_one none [] formed is = sym (ap (λ (n : ℕ). nat_eq n 1) starts)
    all_one none (s ∷ ss) formed is = absurd is
    all_one (more e ps) [] formed is = absurd is
    all_one (more e ps) (s ∷ ss) formed is =
        let here = and_parts _ _ formed in
        let count = ap length (goes_on e ps) ∙ length-each_choice join (alternatives_of known e) (all ps) in
        ap (λ (b : Bool). b && list_all (λ (t : Singles). (out-Singles t).single) ss) (tells e s here.0 is.0)
        ∙ (ap (λ (b : Bool). nat_eq (length (alternatives_of known e)) 1 && b) (all_one ps ss here.1 is.1)
        ∙ sym (ap (λ (n : ℕ). nat_eq n 1) count ∙ one_product (length (alternatives_of known e)) (length (all ps))))

  pub all_one_sequence : (ps : Parts) (ss : List Singles) → IsTrue (are_expressions ps) → TellSingles known ps ss → list_all (λ (s : Singles). (out-Singles s).single) ss ≡ nat_eq (length (in_sequence known ps)) 1
  all_one_sequence = all_one followed_by (in_sequence known) refl (λ e ps. refl)

  pub all_one_together : (ps : Parts) (ss : List Singles) → IsTrue (are_expressions ps) → TellSingles known ps ss → list_all (λ (s : Singles). (out-Singles s).single) ss ≡ nat_eq (length (together known ps)) 1
  all_one_together = all_one beside (together known) refl (λ e ps. refl)

  -- ---- parts in their order

  pub tell_more : (es : List Expression) (ss : List Singles) (e : Expression) (s : Singles) → TellSingles known (parts_of es) ss → TellsSingles known e s → TellSingles known (parts_of (es ++ e ∷ [])) (ss ++ s ∷ [])
  tell_more [] [] e s h is = (is, tt)
  tell_more [] (r ∷ ss) e s h is = absurd h
  tell_more (d ∷ es) [] e s h is = absurd h
  tell_more (d ∷ es) (r ∷ ss) e s h is = (h.0, tell_more es ss e s h.1 is)

  pub tell_length : (ps : List Expr) (ss : List Singles) → TellSingles known (parts_of (expressions ps)) ss → length ss ≡ length ps
  tell_length [] [] h = refl
  tell_length [] (s ∷ ss) h = absurd h
  tell_length (p ∷ ps) [] h = absurd h
  tell_length (p ∷ ps) (s ∷ ss) h = ap suc (tell_length ps ss h.1)

  pub tell_halves : (m : ℕ) (ps : List Expr) (ss : List Singles) → TellSingles known (parts_of (expressions ps)) ss → TellSingles known (parts_of (expressions (take m ps))) (take m ss) × TellSingles known (parts_of (expressions (drop m ps))) (drop m ss)
  tell_halves zero ps ss h = (tt, h)
  tell_halves (suc m) [] [] h = (tt, tt)
  tell_halves (suc m) [] (s ∷ ss) h = absurd h
  tell_halves (suc m) (p ∷ ps) [] h = absurd h
  tell_halves (suc m) (p ∷ ps) (s ∷ ss) h = let rest = tell_halves m ps ss h.1 in ((h.0, rest.0), rest.1)

  pub tell_at : (ps : List Expr) (ss : List Singles) (i : ℕ) (p : Expr) (s : Singles) → i < length ps → p ≡ get_or ps i p → s ≡ get_or ss i s → TellSingles known (parts_of (expressions ps)) ss → TellsSingles known (expression p) s
  tell_at [] ss i p s lt e f h = absurd (omega arith)
  tell_at (q ∷ ps) [] i p s lt e f h = absurd h
  tell_at (q ∷ ps) (r ∷ ss) zero p s lt e f h = subst (λ (x : Expr). TellsSingles known (expression x) s) (sym e) (subst (TellsSingles known (expression q)) (sym f) h.0)
  tell_at (q ∷ ps) (r ∷ ss) (suc i) p s lt e f h = tell_at ps ss i p s (omega arith) e f h.1

  -- where one alternative is reported there is one
  pub one_reported : (e : Expression) (s : Singles) → IsTrue (is_expression e) → TellsSingles known e s → (single : Bool) → single ≡ (out-Singles s).single → single ≡ true → length (alternatives_of known e) ≡ 1
  one_reported e s formed reported single is so = eqb-true _ 1 (sym (is ∙ tells e s formed reported) ∙ so)

-- a choice has several alternatives
pub choice_is_several : (known : Known) (es : List Expression) → IsTrue (are_several (parts_of es)) → IsTrue (are_expressions (parts_of es)) → IsTrue (all_names_in (is_held (alternatives_in known)) (parts_of es)) → false ≡ nat_eq (length (any_of (known_alternatives known) (parts_of es))) 1
choice_is_several known es several formed held = sym (ne_eqb _ 1 (several_of known es several formed held))
