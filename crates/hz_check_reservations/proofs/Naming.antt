-- The names of parts, one part after the other.
use Rattle.std.proofs.Common.{◌≡◌, ℕ, ◌+◌, ◌<◌, ◌≤◌, List, ◌∷◌, ◌++◌, length, get_or, drop, Option, sym, ap, ◌∙◌}
use Rattle.std.specs.List.{filter_map}
use Rattle.std.proofs.lemmas.List.{append-nil, append_assoc, drop_all, drop_more}
use Rattle.std.proofs.lemmas.List.Elements.{filter_map-append}
use Rattle.hz_description_model.specs.Reservations.NamesIn.{names_in, names_in_parts}
use Rattle.hz_description_model.specs.Reservations.Alternatives.{parts_of}
use Rattle.hz_regexp.specs.declared.expr.Expr.{Expr}
use Rattle.hz_regexp.specs.Shape.{expression, expressions}

module _ (f : List ℕ → Option ℕ) where
  -- what the parts name
  abbrev pub named_of : List Expr → List ℕ
  named_of parts = filter_map f (names_in_parts (parts_of (expressions parts)))

  pub named_more : (parts : List Expr) (i : ℕ) (part : Expr) (before after : List ℕ) → i < length parts → part ≡ get_or parts i part → after ≡ before ++ filter_map f (names_in (expression part))
      → after ++ named_of (drop (i + 1) parts) ≡ before ++ named_of (drop i parts)
  named_more parts i part before after lt is grown =
      ap (λ (xs : List ℕ). xs ++ named_of (drop (i + 1) parts)) grown
      ∙ (append_assoc before (filter_map f (names_in (expression part))) (named_of (drop (i + 1) parts))
      ∙ ap (λ (xs : List ℕ). before ++ xs)
      (sym (filter_map-append f (names_in (expression part)) (names_in_parts (parts_of (expressions (drop (i + 1) parts)))))
      ∙ ap named_of (sym (drop_more parts i part lt ∙ ap (λ (p : Expr). p ∷ drop (i + 1) parts) (sym is)))))

  pub named_all : (parts : List Expr) (i : ℕ) (before : List ℕ) → length parts ≤ i → before ≡ before ++ named_of (drop i parts)
  named_all parts i before le = sym (ap (λ (xs : List Expr). before ++ named_of xs) (drop_all i parts le) ∙ append-nil before)
