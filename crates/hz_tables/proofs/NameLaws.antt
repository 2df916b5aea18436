-- The part of a name that is asked for, part by part.
use Rattle.std.proofs.Common.{◌≡◌, ℕ, ◌+◌, ◌<◌, true, false, nat_lt, List, [], ◌∷◌, length, drop, get_or, Option, Some, None, refl, sym, ap, ◌∙◌, arith}
use Rattle.std.specs.List.{position_or_len}
use Rattle.std.specs.Str.{bytes_eq}
use Rattle.std.proofs.lemmas.Bool.{lt-ltb, le-ltb}
use Rattle.std.proofs.lemmas.List.{drop_more}
use Rattle.std.proofs.lemmas.List.Sums.{position_or_len_is}
use Rattle.hz_base_model.specs.Lines.{place_of}
use Rattle.hz_pipeline_model.specs.Traces.TraceNames.{found_first, query_from}

-- ---- one list of names

pub place_is : (name : List ℕ) (names : List (List ℕ)) (k : ℕ) → k < length names → ((j : ℕ) → j < k → bytes_eq name (get_or names j []) ≡ false) → bytes_eq name (get_or names k []) ≡ true → place_of name names ≡ Some k
place_is name names k within before passes =
    let is : position_or_len (bytes_eq name) names ≡ k = position_or_len_is (bytes_eq name) names k [] (omega (arith, within)) before (λ low. passes) in
    let low : nat_lt k (length names) ≡ true = lt-ltb k (length names) within in
    rw (is, low) refl

pub no_place_is : (name : List ℕ) (names : List (List ℕ)) → ((j : ℕ) → j < length names → bytes_eq name (get_or names j []) ≡ false) → place_of name names ≡ None
no_place_is name names none =
    let is : position_or_len (bytes_eq name) names ≡ length names = position_or_len_is (bytes_eq name) names (length names) [] (omega arith) none (λ far. absurd (omega (arith, far))) in
    let high : nat_lt (length names) (length names) ≡ false = le-ltb (length names) (length names) (omega arith) in
    rw (is, high) refl

-- ---- list by list

module _ (name : List ℕ) (lists : List (List (List ℕ))) (i : ℕ) (units : List (List ℕ)) (low : i < length lists) (is : get_or lists i [] ≡ units) where
  -- from a list on, its names come first
  query_at : query_from i (drop i lists) name ≡ found_first i (place_of name units) (query_from (i + 1) (drop (i + 1) lists) name)
  query_at = ap (λ (ls : List (List (List ℕ))). query_from i ls name) (drop_more lists i [] low ∙ ap (λ (us : List (List ℕ)). us ∷ drop (i + 1) lists) is)

  pub query_here : (query : ℕ) → place_of name units ≡ Some query → query_from i (drop i lists) name ≡ Some (i, query)
  query_here query there = query_at ∙ ap (λ (o : Option ℕ). found_first i o (query_from (i + 1) (drop (i + 1) lists) name)) there

  pub query_later : place_of name units ≡ None → query_from (i + 1) (drop (i + 1) lists) name ≡ query_from i (drop i lists) name
  query_later none = sym (query_at ∙ ap (λ (o : Option ℕ). found_first i o (query_from (i + 1) (drop (i + 1) lists) name)) none)
