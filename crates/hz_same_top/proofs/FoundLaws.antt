-- What is reported of two machines is what is to be answered.
use Rattle.std.proofs.Common.{◌≡◌, ℕ, suc, arith, eqb-true, Bool, true, false, length, List, [], ◌∷◌, ◌++◌, inl, inr, Result, Ok, Err, IfOk, refl, sym, ap, ◌∙◌}
use Rattle.std.specs.List.{flat_map}
use Rattle.std.specs.Prelude.{◌==◌, codes}
use Rattle.hz_pipeline_model.specs.Tables.Machines.{Machine}
use Rattle.hz_same_model.specs.Common.{Common, classes_alone, asks_alone, common_of, event_at}
use Rattle.hz_same_model.specs.Telling.{AnswerTheSame, AreSame, IsLeast, answer_in}
use Rattle.hz_same_model.specs.Answers.{Compares, SaysDifference}
use Rattle.hz_same_model.specs.Texts.{alone_line, difference_text, else_line, names_alone, same_line}

not_nil : (x : ℕ) (xs : List ℕ) → x ∷ xs ≡ [] → ⊥
not_nil x xs h = cc

both_nil : (xs ys : List ℕ) → xs ++ ys ≡ [] → (xs ≡ []) × (ys ≡ [])
both_nil [] ys h = (refl, h)
both_nil (x ∷ xs) ys h = absurd (not_nil x (xs ++ ys) h)

-- each name has a line
no_line : (kind file : List ℕ) (names : List (List ℕ)) → flat_map (alone_line kind file) names ≡ [] → names ≡ []
no_line kind file [] h = refl
no_line kind file (name ∷ names) h = absurd (not_nil _ _ h)

module _ (file other_file : List ℕ) (first second : Machine) where
  -- no lines are written where no name is of one alone
  all_shared : AnswerTheSame first second → names_alone file other_file first second ≡ [] → AreSame first second
  all_shared answers none =
      let both = both_nil (flat_map (alone_line (codes "class") file) (classes_alone first second) ++ flat_map (alone_line (codes "ask") file) (asks_alone first second))
      (flat_map (alone_line (codes "class") other_file) (classes_alone second first) ++ flat_map (alone_line (codes "ask") other_file) (asks_alone second first)) none in
      let own = both_nil (flat_map (alone_line (codes "class") file) (classes_alone first second)) (flat_map (alone_line (codes "ask") file) (asks_alone first second)) both.0 in
      let other = both_nil (flat_map (alone_line (codes "class") other_file) (classes_alone second first)) (flat_map (alone_line (codes "ask") other_file) (asks_alone second first)) both.1 in
      record {
        classes = no_line (codes "class") file (classes_alone first second) own.0;
        other_classes = no_line (codes "class") other_file (classes_alone second first) other.0;
        asks = no_line (codes "ask") file (asks_alone first second) own.1;
        other_asks = no_line (codes "ask") other_file (asks_alone second first) other.1;
        answers = answers;
      }

  none_written : AreSame first second → names_alone file other_file first second ≡ []
  none_written same = λ i.
      (flat_map (alone_line (codes "class") file) (same.classes i) ++ flat_map (alone_line (codes "ask") file) (same.asks i))
      ++ (flat_map (alone_line (codes "class") other_file) (same.other_classes i) ++ flat_map (alone_line (codes "ask") other_file) (same.other_asks i))

  pub reported_same : (s : ℕ) (t written base : List ℕ) → base ≡ [] → written ≡ base ++ names_alone file other_file first second → written ≡ [] → s ≡ 0 → t ≡ same_line → AnswerTheSame first second → Compares file other_file first second s t
  reported_same s t written base empty is none zero says answers = inl (all_shared answers (sym (is ∙ ap (λ (ys : List ℕ). ys ++ names_alone file other_file first second) empty) ∙ none), (zero, says))

  pub reported_else : (t written base : List ℕ) → base ≡ [] → written ≡ base ++ names_alone file other_file first second → (written ≡ [] → ⊥) → t ≡ written ++ else_line → AnswerTheSame first second → Compares file other_file first second 1 t
  reported_else t written base empty is some says answers =
      let names : written ≡ names_alone file other_file first second = is ∙ ap (λ (ys : List ℕ). ys ++ names_alone file other_file first second) empty in
      inr (inl ((λ same. some (names ∙ none_written same)), answers, (refl, says ∙ ap (λ (ys : List ℕ). ys ++ else_line) names)))

  pub reported_apart : (trace t written base : List ℕ) (common : Common) (last : ℕ) (answer : Bool) → common ≡ common_of first second
      → ((before : List ℕ) (symbol : ℕ) → trace ≡ before ++ symbol ∷ [] → last ≡ symbol)
      → ((least : IsLeast first second trace) → answer ≡ answer_in first least.tells.states (event_at (common_of first second) first least.last))
      → base ≡ [] → written ≡ base ++ names_alone file other_file first second → t ≡ written ++ difference_text file other_file common trace last answer → (least : IsLeast first second trace) → SaysDifference file other_file first second t
  reported_apart trace t written base common last answer shared ends answers empty is says least = record {
    trace = trace;
    least = least;
    says = says ∙ (λ i. (is ∙ ap (λ (ys : List ℕ). ys ++ names_alone file other_file first second) empty) i ++ difference_text file other_file (shared i) trace (ends least.before least.last least.is i) (answers least i));
  }

-- two facts of a value
pub both_ok : {T E : Type 0} {P Q R : T → Type 0} (r : Result T E) → IfOk r P → IfOk r Q → ((x : T) → P x → Q x → R x) → IfOk r R
both_ok (Ok x) p q f = f x p q
both_ok (Err e) p q f = p

-- a text without a byte, and one with some
pub is_nothing : (xs ys : List ℕ) (t : Bool) → xs ≡ ys → t ≡ (length xs == 0) → t ≡ true → ys ≡ []
is_nothing [] ys t same is empty = sym same
is_nothing (x ∷ xs) ys t same is empty = absurd (let none : suc (length xs) ≡ 0 = eqb-true (suc (length xs)) 0 (sym is ∙ empty) in omega (arith, none))

pub is_something : (xs ys : List ℕ) (t : Bool) → xs ≡ ys → t ≡ (length xs == 0) → t ≡ false → ys ≡ [] → ⊥
is_something [] ys t same is some none = no_yes (sym some ∙ is)
  where
    no_yes : false ≡ true → ⊥
    no_yes h = cc
is_something (x ∷ xs) ys t same is some none = not_nil x xs (same ∙ none)
