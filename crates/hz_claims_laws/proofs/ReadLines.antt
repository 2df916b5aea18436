-- The lines of reads are read back.
use Rattle.std.proofs.Common.{◌≡◌, ℕ, ◌^◌, ◌<◌, List, [], ◌∷◌, ◌++◌, codes, decimal, Some, refl, ap, ◌∙◌}
use Rattle.std.specs.List.{concat}
use Rattle.hz_claims_laws.specs.Reading.{IsWord, n, read_answer, a_read}
use Rattle.hz_claims_laws.proofs.Words.{number_back, number_word, literal, line_reported}

pub reg_reported : (cycle number place : ℕ) (writer : List ℕ) (rest : List ℕ) → cycle < 2 ^ 64 → number < 2 ^ 64 → place < 2 ^ 64 → IsWord writer → read_answer (concat (codes "read " ∷ decimal cycle ∷ codes " " ∷ decimal number ∷ codes " reg " ∷ decimal place ∷ codes " from " ∷ writer ∷ codes "\n" ∷ []) ++ rest) ≡ Some (a_read cycle number (codes "reg") place writer) ∷ read_answer rest
reg_reported cycle number place writer rest h0 h1 h2 h3 =
    line_reported (codes "read " ∷ decimal cycle ∷ codes " " ∷ decimal number ∷ codes " reg " ∷ decimal place ∷ codes " from " ∷ writer ∷ codes "\n" ∷ []) (codes "read") (decimal cycle ∷ decimal number ∷ codes "reg" ∷ decimal place ∷ codes "from" ∷ writer ∷ []) rest
    (Some (a_read cycle number (codes "reg") place writer)) refl (literal (codes "read") refl)
    (number_word cycle h0, (number_word number h1, (literal (codes "reg") refl, (number_word place h2, (literal (codes "from") refl, (h3, tt))))))
    (ap (λ (k : ℕ). Some (a_read k (n (decimal number)) (codes "reg") (n (decimal place)) writer)) (number_back cycle h0) ∙ ap (λ (k : ℕ). Some (a_read cycle k (codes "reg") (n (decimal place)) writer)) (number_back number h1) ∙ ap (λ (k : ℕ). Some (a_read cycle number (codes "reg") k writer)) (number_back place h2))

pub mem_reported : (cycle number place : ℕ) (writer : List ℕ) (rest : List ℕ) → cycle < 2 ^ 64 → number < 2 ^ 64 → place < 2 ^ 64 → IsWord writer → read_answer (concat (codes "read " ∷ decimal cycle ∷ codes " " ∷ decimal number ∷ codes " mem " ∷ decimal place ∷ codes " from " ∷ writer ∷ codes "\n" ∷ []) ++ rest) ≡ Some (a_read cycle number (codes "mem") place writer) ∷ read_answer rest
mem_reported cycle number place writer rest h0 h1 h2 h3 =
    line_reported (codes "read " ∷ decimal cycle ∷ codes " " ∷ decimal number ∷ codes " mem " ∷ decimal place ∷ codes " from " ∷ writer ∷ codes "\n" ∷ []) (codes "read") (decimal cycle ∷ decimal number ∷ codes "mem" ∷ decimal place ∷ codes "from" ∷ writer ∷ []) rest
    (Some (a_read cycle number (codes "mem") place writer)) refl (literal (codes "read") refl)
    (number_word cycle h0, (number_word number h1, (literal (codes "mem") refl, (number_word place h2, (literal (codes "from") refl, (h3, tt))))))
    (ap (λ (k : ℕ). Some (a_read k (n (decimal number)) (codes "mem") (n (decimal place)) writer)) (number_back cycle h0) ∙ ap (λ (k : ℕ). Some (a_read cycle k (codes "mem") (n (decimal place)) writer)) (number_back number h1) ∙ ap (λ (k : ℕ). Some (a_read cycle number (codes "mem") k writer)) (number_back place h2))
