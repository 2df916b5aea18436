-- Names of asks, judged one after the other.
use Rattle.std.proofs.Common.{◌≡◌, ℕ, ◌≤◌, nat_le, ◌+◌, ◌*◌, Bool, true, false, cond, List, [], ◌∷◌, ◌++◌, Option, Some, None, Result, Ok, Err, refl, sym, ap, ◌∙◌}
use Rattle.std.specs.Prelude.{◌&&◌}
use Rattle.std.specs.Borrow.{Bor}
use Rattle.std.proofs.lemmas.Bool.{and_parts, leb-true}
use Rattle.std.proofs.lemmas.List.{append-nil}
use Rattle.hz_base_model.specs.Limits.{unit_limit}
use Rattle.hz_base_model.specs.Names.{is_name}
use Rattle.hz_pipeline_model.specs.Tables.StateLimits.{cell_limit}
use Rattle.hz_tabtext_model.specs.Judging.{Kind, bad_line, ◌>>=◌}
use Rattle.hz_tabtext_model.specs.Lines.{asks_of, is_new, are_asks}
use Rattle.hz_tabfile.specs.declared.reading.wrong.Wrong.{Wrong}
use Rattle.hz_tabfile.specs.Cutting.{fields_in}
use Rattle.hz_tabfile.specs.Judged.{Refuses}
use Rattle.hz_tabfile.specs.Lines.{new_name_in}
use Rattle.hz_tabfile.proofs.Each.{beyond, regroup, refused_first, refused_same}

-- what is judged of the names after one that is new
abbrev others_of : (before names : List (List ℕ)) → List ℕ → Result (List (List ℕ)) Kind
others_of before names name = asks_of (before ++ name ∷ []) names >>= λ others. Ok (name ∷ others)

-- a name is judged first, and then those after it
first_name : (before : List (List ℕ)) (name : List ℕ) (names : List (List ℕ)) → asks_of before (name ∷ names) ≡ (new_name_in before name >>= others_of before names)
unfolding asks_of
first_name before name names = by_test (is_name name && is_new before name)
  where
    by_test : (t : Bool) → cond t (asks_of (before ++ name ∷ []) names >>= λ others. Ok (name ∷ others)) (Err bad_line) ≡ (cond t (Ok name) (Err bad_line) >>= others_of before names)
    by_test true = refl
    by_test false = refl

-- the loop over fields, which keeps the names that are found so far
module _ (before front : List (List ℕ)) (rest : Option (Bor (List ℕ))) (total : Result (List (List ℕ)) Kind) (so_far : beyond front (asks_of before (fields_in rest)) ≡ total) where
  module _ (text : Bor (List ℕ)) (field : List ℕ) (fields : List (List ℕ)) (is : rest ≡ Some text) (cut : fields_in (Some text) ≡ field ∷ fields) where
    at_name : beyond front (new_name_in before field >>= others_of before fields) ≡ total
    at_name = ap (beyond front) (sym (first_name before field fields)) ∙ (sym (ap (λ fs. beyond front (asks_of before fs)) (ap fields_in is ∙ cut)) ∙ so_far)

    pub names_go : (name : List ℕ) → new_name_in before field ≡ Ok name → beyond (front ++ name ∷ []) (asks_of (before ++ name ∷ []) fields) ≡ total
    names_go name h =
        let one : beyond front (new_name_in before field >>= others_of before fields) ≡ beyond front (others_of before fields name) = ap (λ (r : Result (List ℕ) Kind). beyond front (r >>= others_of before fields)) h in
        sym (regroup (λ n. new_name_in before n) front name (asks_of (before ++ name ∷ []) fields)) ∙ (sym one ∙ at_name)

    pub names_stop : (wrong : Wrong) → Refuses wrong (new_name_in before field) → Refuses wrong total
    names_stop wrong h =
        refused_same wrong (beyond front (new_name_in before field >>= others_of before fields)) total at_name
        (refused_first wrong (new_name_in before field >>= others_of before fields) (λ ys. Ok (front ++ ys)) (refused_first wrong (new_name_in before field) (others_of before fields) h))

  pub names_end : rest ≡ None → total ≡ Ok front
  unfolding asks_of
  names_end is = sym so_far ∙ (ap (λ r. beyond front (asks_of before (fields_in r))) is ∙ ap Ok (append-nil front))

-- so many asks, if they are not too many, are not more than units
pub few_asks : (columns states count : ℕ) → are_asks columns states count ≡ true → count ≤ unit_limit
few_asks columns states count fit = leb-true count unit_limit (and_parts (nat_le count unit_limit) (nat_le (states * (columns + count + 1)) cell_limit) fit).0
