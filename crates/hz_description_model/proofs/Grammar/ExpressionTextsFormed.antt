-- What is held of tokens that keep the limits is well formed.
use Rattle.std.proofs.Common.{inl, inr, ◌≡◌, ℕ, ◌++◌, ◌&&◌, true, false, cond, nat_le, List, [], ◌∷◌, length, refl, ◌∙◌, subst, Option, Some, None, arith}
use Rattle.std.specs.Prelude.{◌==◌}
use Rattle.std.specs.List.{list_all}
use Rattle.std.specs.Option.{option_map}
use Rattle.std.specs.Str.{bytes_eq}
use Rattle.std.specs.Prelude.{codes}
use Rattle.std.proofs.lemmas.Bool.{cases_Bool, and_parts}
use Rattle.std.proofs.lemmas.Bool.Decides.{nat_tests}
use Rattle.hz_description_model.specs.Reservations.Alternatives.{Expression, named, nothing, parts_of}
use Rattle.hz_description_model.specs.Grammar.ExpressionTexts.{Mark, comma, bar, plus, Token, word, mark, star, opens, closes, element_of, joined_by, limit_past, number_fault}
use Rattle.hz_description_model.specs.Reservations.Expressions.{is_expression, are_expressions}
use Rattle.hz_description_model.specs.Grammar.ExpressionSteps.{Open, Last, nothing_yet, element, starred, repeated, State, is_starred, before, step, step_part, finish, finish_part, finish_last, sequence_with, choice_with, all_with}
use Rattle.hz_base_model.specs.Lines.{number_of}
use Rattle.hz_description_model.proofs.Grammar.ExpressionTextsRest.{numbered}

abbrev AreFormed : List Expression → Type 0
AreFormed values = list_all is_expression values ≡ true

pub record IsFormed (o : Open) : Type 0 where
  pub sequence : list_all is_expression o.sequence ≡ true
  pub choices : list_all is_expression o.choices ≡ true
  pub together : list_all is_expression o.together ≡ true

abbrev pub OuterFormed : List Open → Type 0
OuterFormed [] = Unit {0}
OuterFormed (o ∷ outer) = IsFormed o × OuterFormed outer

abbrev pub LastFormed : Last → Type 0
LastFormed nothing_yet = Unit {0}
LastFormed (element value) = is_expression value ≡ true
LastFormed (starred value) = is_expression value ≡ true
LastFormed (repeated value) = is_expression value ≡ true

-- each part that is held is well formed
pub record StateFormed (s : State) : Type 0 where
  pub inner : IsFormed s.inner
  pub outer : OuterFormed s.outer
  pub last : LastFormed s.last

formed_parts : (values : List Expression) → are_expressions (parts_of values) ≡ list_all is_expression values
formed_parts [] = refl
formed_parts (value ∷ values) = rw (formed_parts values) refl

formed_push : (values : List Expression) (value : Expression) → AreFormed values → is_expression value ≡ true → AreFormed (values ++ value ∷ [])
formed_push [] value h v = rw v refl
formed_push (first ∷ values) value h v = let both = and_parts (is_expression first) (list_all is_expression values) h in rw (both.0) (formed_push values value both.1 v)

formed_list : (kind : Mark) (first second : Expression) (values : List Expression) → AreFormed (first ∷ second ∷ values) → is_expression (joined_by kind (first ∷ second ∷ values)) ≡ true
formed_list comma first second values h = formed_parts (first ∷ second ∷ values) ∙ h
formed_list bar first second values h = formed_parts (first ∷ second ∷ values) ∙ h
formed_list plus first second values h = formed_parts (first ∷ second ∷ values) ∙ h

formed_joined : (kind : Mark) (values : List Expression) (value : Expression) → AreFormed values → is_expression value ≡ true → is_expression (joined_by kind (values ++ value ∷ [])) ≡ true
formed_joined kind [] value h v = v
formed_joined kind (first ∷ []) value h v = formed_list kind first value [] (formed_push (first ∷ []) value h v)
formed_joined kind (first ∷ second ∷ values) value h v = formed_list kind first second (values ++ value ∷ []) (formed_push (first ∷ second ∷ values) value h v)

formed_all : (o : Open) (value : Expression) → IsFormed o → is_expression value ≡ true → is_expression (all_with o value) ≡ true
formed_all o value f v = formed_joined plus o.together value f.together v

formed_choice : (o : Open) (value : Expression) → IsFormed o → is_expression value ≡ true → is_expression (choice_with o value) ≡ true
formed_choice o value f v = formed_joined bar o.choices (all_with o value) f.choices (formed_all o value f v)

formed_sequence : (o : Open) (value : Expression) → IsFormed o → is_expression value ≡ true → is_expression (sequence_with o value) ≡ true
formed_sequence o value f v = formed_joined comma o.sequence (choice_with o value) f.sequence (formed_choice o value f v)

formed_before : (kind : Mark) (o : Open) (value : Expression) → IsFormed o → is_expression value ≡ true → IsFormed (before kind o value)
formed_before plus o value f v = record { sequence = f.sequence; choices = f.choices; together = formed_push o.together value f.together v }
formed_before bar o value f v = record { sequence = f.sequence; choices = formed_push o.choices (all_with o value) f.choices (formed_all o value f v); together = refl }
formed_before comma o value f v = record { sequence = formed_push o.sequence (choice_with o value) f.sequence (formed_choice o value f v); choices = refl; together = refl }

abbrev FormedAfter : Option State → Type 0
FormedAfter None = Unit {0}
FormedAfter (Some s) = StateFormed s

formed_part : (inner : Open) (outer : List Open) (value : Expression) (token : Token) → IsFormed inner → OuterFormed outer → is_expression value ≡ true → FormedAfter (step_part inner outer value token)
formed_part inner outer value (mark at kind) f g v = record { inner = formed_before kind inner value f v; outer = g; last = tt }
formed_part inner (o ∷ outer) value (closes at) f g v = record { inner = g.0; outer = g.1; last = formed_sequence inner value f v }
formed_part inner outer value token f g v = tt

formed_element : (bytes : List ℕ) → is_expression (element_of bytes) ≡ true
formed_element bytes = elim (bytes_eq bytes (codes "nothing")) as (λ t. is_expression (cond t nothing (named bytes)) ≡ true) [ true ↦ refl | false ↦ refl ]

in_range : (number : ℕ) → number_fault (Some number) ≡ None → (nat_le 1 number && nat_le number 65535) ≡ true
in_range number e = elim (cases_Bool (number == 0)) [
  | inl h ↦ absurd (let clash = rw h at e in cc)
  | inr h ↦ elim (cases_Bool (nat_le number 65535)) [
    | inl k ↦ grind (arith, nat_tests)
    | inr k ↦ absurd (let clash = rw (h, k) at e in cc)
  ]
]

formed_number : (inner : Open) (outer : List Open) (value : Expression) (number : Option ℕ) → IsFormed inner → OuterFormed outer → is_expression value ≡ true → number_fault number ≡ None
    → FormedAfter (option_map (numbered inner outer value) number)
formed_number inner outer value None f g v e = tt
formed_number inner outer value (Some number) f g v e = let fits = in_range number e in record { inner = f; outer = g; last = rw v fits }

formed_last : (inner : Open) (outer : List Open) (last : Last) (deep : ℕ) (token : Token) → IsFormed inner → OuterFormed outer → LastFormed last → limit_past deep (is_starred last) token ≡ None
    → FormedAfter (step (record { inner = inner; outer = outer; last = last }) token)
formed_last inner outer nothing_yet deep (word at bytes) f g v e = record { inner = f; outer = g; last = formed_element bytes }
formed_last inner outer nothing_yet deep (opens at) f g v e = record { inner = record { sequence = refl; choices = refl; together = refl }; outer = (f, g); last = tt }
formed_last inner outer nothing_yet deep token f g v e = tt
formed_last inner outer (element value) deep (star at) f g v e = record { inner = f; outer = g; last = v }
formed_last inner outer (element value) deep (mark at kind) f g v e = formed_part inner outer value (mark at kind) f g v
formed_last inner outer (element value) deep (closes at) f g v e = formed_part inner outer value (closes at) f g v
formed_last inner outer (element value) deep token f g v e = tt
formed_last inner outer (starred value) deep (word at bytes) f g v e = formed_number inner outer value (number_of bytes) f g v e
formed_last inner outer (starred value) deep token f g v e = tt
formed_last inner outer (repeated value) deep token f g v e = formed_part inner outer value token f g v

-- a token that keeps the limits leaves what is held well formed
pub formed_step : (s : State) (token : Token) (after : State) → StateFormed s → limit_past (length s.outer) (is_starred s.last) token ≡ None → step s token ≡ Some after → StateFormed after
formed_step s token after f e h = subst (λ o. FormedAfter o) h (formed_last s.inner s.outer s.last (length s.outer) token f.inner f.outer f.last e)

formed_end : (inner : Open) (outer : List Open) (value whole : Expression) → IsFormed inner → is_expression value ≡ true → finish_part inner outer value ≡ Some whole → is_expression whole ≡ true
formed_end inner [] value whole f v e = let same : sequence_with inner value ≡ whole = cc in rw (← same) (formed_sequence inner value f v)
formed_end inner (o ∷ outer) value whole f v e = absurd (cc)

formed_finish_last : (inner : Open) (outer : List Open) (last : Last) (whole : Expression) → IsFormed inner → LastFormed last → finish_last inner outer last ≡ Some whole → is_expression whole ≡ true
formed_finish_last inner outer nothing_yet whole f v e = absurd (cc)
formed_finish_last inner outer (element value) whole f v e = formed_end inner outer value whole f v e
formed_finish_last inner outer (starred value) whole f v e = absurd (cc)
formed_finish_last inner outer (repeated value) whole f v e = formed_end inner outer value whole f v e

pub formed_finish : (s : State) (whole : Expression) → StateFormed s → finish s ≡ Some whole → is_expression whole ≡ true
formed_finish s whole f e = formed_finish_last s.inner s.outer s.last whole f.inner f.last e
