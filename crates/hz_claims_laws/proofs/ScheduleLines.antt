-- The lines of schedules are read back: of one block, of two, and of a kernel.
use Rattle.std.proofs.Common.{◌≡◌, ℕ, ◌^◌, ◌<◌, List, [], ◌∷◌, ◌++◌, codes, decimal, Some, refl, ap, ◌∙◌}
use Rattle.std.specs.List.{concat}
use Rattle.hz_measure_model.specs.TwoContexts.Texts.{issue_line, together_line, alone_line}
use Rattle.hz_measure_model.specs.Kernels.KernelTexts.{kernel_line}
use Rattle.hz_answer_model.specs.Texts.{slot_line, scheduled_line}
use Rattle.hz_claims_laws.specs.Reading.{IsWord, n, read_answer, an_issue, an_end, an_issue_of, an_end_of_two, both_alone, an_interval, some_stages, some_edges, a_list}
use Rattle.hz_claims_laws.proofs.Words.{number_back, number_word, literal, line_reported, first_number}

pub slot_reported : (cycle number : ℕ) (class : List ℕ) (rest : List ℕ) → cycle < 2 ^ 64 → number < 2 ^ 64 → IsWord class → read_answer (slot_line cycle number class ++ rest) ≡ Some (an_issue cycle number class) ∷ read_answer rest
slot_reported cycle number class rest h0 h1 h2 =
    line_reported (decimal cycle ∷ codes " " ∷ decimal number ∷ codes " " ∷ class ∷ codes "\n" ∷ []) (decimal cycle) (decimal number ∷ class ∷ []) rest
    (Some (an_issue cycle number class)) refl (number_word cycle h0)
    (number_word number h1, (h2, tt))
    (first_number cycle (decimal number ∷ class ∷ []) h0 ∙ ap (λ (k : ℕ). Some (an_issue k (n (decimal number)) class)) (number_back cycle h0) ∙ ap (λ (k : ℕ). Some (an_issue cycle k class)) (number_back number h1))

pub scheduled_reported : (count cycle : ℕ) (rest : List ℕ) → count < 2 ^ 64 → cycle < 2 ^ 64 → read_answer (scheduled_line count cycle ++ rest) ≡ Some (an_end count cycle) ∷ read_answer rest
scheduled_reported count cycle rest h0 h1 =
    line_reported (codes "scheduled " ∷ decimal count ∷ codes " insns " ∷ decimal cycle ∷ codes " cycles\n" ∷ []) (codes "scheduled") (decimal count ∷ codes "insns" ∷ decimal cycle ∷ codes "cycles" ∷ []) rest
    (Some (an_end count cycle)) refl (literal (codes "scheduled") refl)
    (number_word count h0, (literal (codes "insns") refl, (number_word cycle h1, (literal (codes "cycles") refl, tt))))
    (ap (λ (k : ℕ). Some (an_end k (n (decimal cycle)))) (number_back count h0) ∙ ap (λ (k : ℕ). Some (an_end count k)) (number_back cycle h1))

pub issue_reported : (cycle context number : ℕ) (class : List ℕ) (rest : List ℕ) → cycle < 2 ^ 64 → context < 2 ^ 64 → number < 2 ^ 64 → IsWord class → read_answer (issue_line cycle context number class ++ rest) ≡ Some (an_issue_of cycle context number class) ∷ read_answer rest
issue_reported cycle context number class rest h0 h1 h2 h3 =
    line_reported (decimal cycle ∷ codes " " ∷ decimal context ∷ codes " " ∷ decimal number ∷ codes " " ∷ class ∷ codes "\n" ∷ []) (decimal cycle) (decimal context ∷ decimal number ∷ class ∷ []) rest
    (Some (an_issue_of cycle context number class)) refl (number_word cycle h0)
    (number_word context h1, (number_word number h2, (h3, tt)))
    (first_number cycle (decimal context ∷ decimal number ∷ class ∷ []) h0 ∙ ap (λ (k : ℕ). Some (an_issue_of k (n (decimal context)) (n (decimal number)) class)) (number_back cycle h0) ∙ ap (λ (k : ℕ). Some (an_issue_of cycle k (n (decimal number)) class)) (number_back context h1) ∙ ap (λ (k : ℕ). Some (an_issue_of cycle context k class)) (number_back number h2))

pub kernel_reported : (offset stage number : ℕ) (class : List ℕ) (rest : List ℕ) → offset < 2 ^ 64 → stage < 2 ^ 64 → number < 2 ^ 64 → IsWord class → read_answer (kernel_line offset stage number class ++ rest) ≡ Some (an_issue_of offset stage number class) ∷ read_answer rest
kernel_reported offset stage number class rest h0 h1 h2 h3 =
    line_reported (decimal offset ∷ codes " " ∷ decimal stage ∷ codes " " ∷ decimal number ∷ codes " " ∷ class ∷ codes "\n" ∷ []) (decimal offset) (decimal stage ∷ decimal number ∷ class ∷ []) rest
    (Some (an_issue_of offset stage number class)) refl (number_word offset h0)
    (number_word stage h1, (number_word number h2, (h3, tt)))
    (first_number offset (decimal stage ∷ decimal number ∷ class ∷ []) h0 ∙ ap (λ (k : ℕ). Some (an_issue_of k (n (decimal stage)) (n (decimal number)) class)) (number_back offset h0) ∙ ap (λ (k : ℕ). Some (an_issue_of offset k (n (decimal number)) class)) (number_back stage h1) ∙ ap (λ (k : ℕ). Some (an_issue_of offset stage k class)) (number_back number h2))

pub together_reported : (first second cycle : ℕ) (rest : List ℕ) → first < 2 ^ 64 → second < 2 ^ 64 → cycle < 2 ^ 64 → read_answer (together_line first second cycle ++ rest) ≡ Some (an_end_of_two first second cycle) ∷ read_answer rest
together_reported first second cycle rest h0 h1 h2 =
    line_reported (codes "scheduled " ∷ decimal first ∷ codes " + " ∷ decimal second ∷ codes " insns " ∷ decimal cycle ∷ codes " cycles\n" ∷ []) (codes "scheduled") (decimal first ∷ codes "+" ∷ decimal second ∷ codes "insns" ∷ decimal cycle ∷ codes "cycles" ∷ []) rest
    (Some (an_end_of_two first second cycle)) refl (literal (codes "scheduled") refl)
    (number_word first h0, (literal (codes "+") refl, (number_word second h1, (literal (codes "insns") refl, (number_word cycle h2, (literal (codes "cycles") refl, tt))))))
    (ap (λ (k : ℕ). Some (an_end_of_two k (n (decimal second)) (n (decimal cycle)))) (number_back first h0) ∙ ap (λ (k : ℕ). Some (an_end_of_two first k (n (decimal cycle)))) (number_back second h1) ∙ ap (λ (k : ℕ). Some (an_end_of_two first second k)) (number_back cycle h2))

pub alone_reported : (first second : ℕ) (rest : List ℕ) → first < 2 ^ 64 → second < 2 ^ 64 → read_answer (alone_line first second ++ rest) ≡ Some (both_alone first second) ∷ read_answer rest
alone_reported first second rest h0 h1 =
    line_reported (codes "alone " ∷ decimal first ∷ codes " " ∷ decimal second ∷ codes " cycles\n" ∷ []) (codes "alone") (decimal first ∷ decimal second ∷ codes "cycles" ∷ []) rest
    (Some (both_alone first second)) refl (literal (codes "alone") refl)
    (number_word first h0, (number_word second h1, (literal (codes "cycles") refl, tt)))
    (ap (λ (k : ℕ). Some (both_alone k (n (decimal second)))) (number_back first h0) ∙ ap (λ (k : ℕ). Some (both_alone first k)) (number_back second h1))

pub interval_reported : (interval : ℕ) (rest : List ℕ) → interval < 2 ^ 64 → read_answer (concat (codes "interval " ∷ decimal interval ∷ codes "\n" ∷ []) ++ rest) ≡ Some (an_interval interval) ∷ read_answer rest
interval_reported interval rest h0 =
    line_reported (codes "interval " ∷ decimal interval ∷ codes "\n" ∷ []) (codes "interval") (decimal interval ∷ []) rest
    (Some (an_interval interval)) refl (literal (codes "interval") refl)
    (number_word interval h0, tt)
    (ap (λ (k : ℕ). Some (an_interval k)) (number_back interval h0))

pub stages_reported : (stages : ℕ) (rest : List ℕ) → stages < 2 ^ 64 → read_answer (concat (codes "stages " ∷ decimal stages ∷ codes "\n" ∷ []) ++ rest) ≡ Some (some_stages stages) ∷ read_answer rest
stages_reported stages rest h0 =
    line_reported (codes "stages " ∷ decimal stages ∷ codes "\n" ∷ []) (codes "stages") (decimal stages ∷ []) rest
    (Some (some_stages stages)) refl (literal (codes "stages") refl)
    (number_word stages h0, tt)
    (ap (λ (k : ℕ). Some (some_stages k)) (number_back stages h0))

pub edges_reported : (first second : ℕ) (rest : List ℕ) → first < 2 ^ 64 → second < 2 ^ 64 → read_answer (concat (codes "edge " ∷ decimal first ∷ codes " equals edge " ∷ decimal second ∷ codes "\n" ∷ []) ++ rest) ≡ Some (some_edges first second) ∷ read_answer rest
edges_reported first second rest h0 h1 =
    line_reported (codes "edge " ∷ decimal first ∷ codes " equals edge " ∷ decimal second ∷ codes "\n" ∷ []) (codes "edge") (decimal first ∷ codes "equals" ∷ codes "edge" ∷ decimal second ∷ []) rest
    (Some (some_edges first second)) refl (literal (codes "edge") refl)
    (number_word first h0, (literal (codes "equals") refl, (literal (codes "edge") refl, (number_word second h1, tt))))
    (ap (λ (k : ℕ). Some (some_edges k (n (decimal second)))) (number_back first h0) ∙ ap (λ (k : ℕ). Some (some_edges first k)) (number_back second h1))

pub list_reported : (cycle : ℕ) (rest : List ℕ) → cycle < 2 ^ 64 → read_answer (concat (codes "list " ∷ decimal cycle ∷ codes " cycles\n" ∷ []) ++ rest) ≡ Some (a_list cycle) ∷ read_answer rest
list_reported cycle rest h0 =
    line_reported (codes "list " ∷ decimal cycle ∷ codes " cycles\n" ∷ []) (codes "list") (decimal cycle ∷ codes "cycles" ∷ []) rest
    (Some (a_list cycle)) refl (literal (codes "list") refl)
    (number_word cycle h0, (literal (codes "cycles") refl, tt))
    (ap (λ (k : ℕ). Some (a_list k)) (number_back cycle h0))
