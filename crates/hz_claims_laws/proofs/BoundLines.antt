-- The lines of bounds are read back.
use Rattle.std.proofs.Common.{◌≡◌, ℕ, ◌^◌, ◌<◌, List, [], ◌∷◌, ◌++◌, codes, decimal, Some, refl, ap, ◌∙◌}
use Rattle.hz_measure_model.specs.Bounds.Texts.{load_line, bound_line, cycles_line}
use Rattle.hz_claims_laws.specs.Reading.{IsWord, n, read_answer, a_load, a_bound, a_last_cycle}
use Rattle.hz_claims_laws.proofs.Words.{number_back, number_word, literal, line_reported}

pub load_reported : (count span value : ℕ) (unit : List ℕ) (rest : List ℕ) → count < 2 ^ 64 → span < 2 ^ 64 → value < 2 ^ 64 → IsWord unit → read_answer (load_line unit (record { count = count; span = span; value = value }) ++ rest) ≡ Some (a_load unit count span value) ∷ read_answer rest
load_reported count span value unit rest h0 h1 h2 h3 =
    line_reported (codes "load " ∷ unit ∷ codes " " ∷ decimal count ∷ codes " " ∷ decimal span ∷ codes " " ∷ decimal value ∷ codes "\n" ∷ []) (codes "load") (unit ∷ decimal count ∷ decimal span ∷ decimal value ∷ []) rest
    (Some (a_load unit count span value)) refl (literal (codes "load") refl)
    (h3, (number_word count h0, (number_word span h1, (number_word value h2, tt))))
    (ap (λ (k : ℕ). Some (a_load unit k (n (decimal span)) (n (decimal value)))) (number_back count h0) ∙ ap (λ (k : ℕ). Some (a_load unit count k (n (decimal value)))) (number_back span h1) ∙ ap (λ (k : ℕ). Some (a_load unit count span k)) (number_back value h2))

pub bound_reported : (value : ℕ) (rest : List ℕ) → value < 2 ^ 64 → read_answer (bound_line value ++ rest) ≡ Some (a_bound value) ∷ read_answer rest
bound_reported value rest h0 =
    line_reported (codes "bound " ∷ decimal value ∷ codes "\n" ∷ []) (codes "bound") (decimal value ∷ []) rest
    (Some (a_bound value)) refl (literal (codes "bound") refl)
    (number_word value h0, tt)
    (ap (λ (k : ℕ). Some (a_bound k)) (number_back value h0))

pub last_reported : (cycle : ℕ) (rest : List ℕ) → cycle < 2 ^ 64 → read_answer (cycles_line cycle ++ rest) ≡ Some (a_last_cycle cycle) ∷ read_answer rest
last_reported cycle rest h0 =
    line_reported (codes "schedule " ∷ decimal cycle ∷ codes " cycles\n" ∷ []) (codes "schedule") (decimal cycle ∷ codes "cycles" ∷ []) rest
    (Some (a_last_cycle cycle)) refl (literal (codes "schedule") refl)
    (number_word cycle h0, (literal (codes "cycles") refl, tt))
    (ap (λ (k : ℕ). Some (a_last_cycle k)) (number_back cycle h0))
