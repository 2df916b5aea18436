-- The lines of traces are read back.
use Rattle.std.proofs.Common.{◌≡◌, ℕ, ◌^◌, ◌<◌, Bool, true, false, cond, List, [], ◌∷◌, ◌++◌, codes, decimal, Option, Some, refl, sym, ap, ◌∙◌, append-nil}
use Rattle.hz_front_model.specs.Texts.{accepted_line, refused_line, ask_line}
use Rattle.hz_claims_laws.specs.Reading.{IsWord, n, LineMeaning, read_answer, an_acceptance, a_refusal, an_ask}
use Rattle.hz_claims_laws.proofs.Words.{number_back, number_word, literal, line_reported}

-- a text alone is a text before nothing
pub alone : (text : List ℕ) (t : Option LineMeaning) → ((rest : List ℕ) → read_answer (text ++ rest) ≡ t ∷ read_answer rest) → read_answer text ≡ t ∷ []
alone text t h = ap read_answer (sym (append-nil text)) ∙ h []

pub accepted_reported : (issues cycles : ℕ) (rest : List ℕ) → issues < 2 ^ 64 → cycles < 2 ^ 64 → read_answer (accepted_line issues cycles ++ rest) ≡ Some (an_acceptance issues cycles) ∷ read_answer rest
accepted_reported issues cycles rest h0 h1 =
    line_reported (codes "accepted " ∷ decimal issues ∷ codes " issues " ∷ decimal cycles ∷ codes " cycles\n" ∷ []) (codes "accepted") (decimal issues ∷ codes "issues" ∷ decimal cycles ∷ codes "cycles" ∷ []) rest
    (Some (an_acceptance issues cycles)) refl (literal (codes "accepted") refl)
    (number_word issues h0, (literal (codes "issues") refl, (number_word cycles h1, (literal (codes "cycles") refl, tt))))
    (ap (λ (k : ℕ). Some (an_acceptance k (n (decimal cycles)))) (number_back issues h0) ∙ ap (λ (k : ℕ). Some (an_acceptance issues k)) (number_back cycles h1))

pub refused_reported : (line : ℕ) (class : List ℕ) (rest : List ℕ) → line < 2 ^ 64 → IsWord class → read_answer (refused_line line class ++ rest) ≡ Some (a_refusal line class) ∷ read_answer rest
refused_reported line class rest h0 h1 =
    line_reported (codes "refused line " ∷ decimal line ∷ codes " " ∷ class ∷ codes "\n" ∷ []) (codes "refused") (codes "line" ∷ decimal line ∷ class ∷ []) rest
    (Some (a_refusal line class)) refl (literal (codes "refused") refl)
    (literal (codes "line") refl, (number_word line h0, (h1, tt)))
    (ap (λ (k : ℕ). Some (a_refusal k class)) (number_back line h0))

pub asked_reserved : (line : ℕ) (unit : List ℕ) (rest : List ℕ) → line < 2 ^ 64 → IsWord unit → read_answer (ask_line line unit true ++ rest) ≡ Some (an_ask line unit (codes "reserved")) ∷ read_answer rest
asked_reserved line unit rest h0 h1 =
    line_reported (codes "ask line " ∷ decimal line ∷ codes " " ∷ unit ∷ codes " reserved\n" ∷ []) (codes "ask") (codes "line" ∷ decimal line ∷ unit ∷ codes "reserved" ∷ []) rest
    (Some (an_ask line unit (codes "reserved"))) refl (literal (codes "ask") refl)
    (literal (codes "line") refl, (number_word line h0, (h1, (literal (codes "reserved") refl, tt))))
    (ap (λ (k : ℕ). Some (an_ask k unit (codes "reserved"))) (number_back line h0))

pub asked_free : (line : ℕ) (unit : List ℕ) (rest : List ℕ) → line < 2 ^ 64 → IsWord unit → read_answer (ask_line line unit false ++ rest) ≡ Some (an_ask line unit (codes "free")) ∷ read_answer rest
asked_free line unit rest h0 h1 =
    line_reported (codes "ask line " ∷ decimal line ∷ codes " " ∷ unit ∷ codes " free\n" ∷ []) (codes "ask") (codes "line" ∷ decimal line ∷ unit ∷ codes "free" ∷ []) rest
    (Some (an_ask line unit (codes "free"))) refl (literal (codes "ask") refl)
    (literal (codes "line") refl, (number_word line h0, (h1, (literal (codes "free") refl, tt))))
    (ap (λ (k : ℕ). Some (an_ask k unit (codes "free"))) (number_back line h0))

pub asked_reported : (line : ℕ) (unit : List ℕ) (rest : List ℕ) (reserved : Bool) → line < 2 ^ 64 → IsWord unit → read_answer (ask_line line unit reserved ++ rest) ≡ Some (an_ask line unit (cond reserved (codes "reserved") (codes "free"))) ∷ read_answer rest
asked_reported line unit rest true h k = asked_reserved line unit rest h k
asked_reported line unit rest false h k = asked_free line unit rest h k

pub accepted_alone : (issues cycles : ℕ) → issues < 2 ^ 64 → cycles < 2 ^ 64 → read_answer (accepted_line issues cycles) ≡ Some (an_acceptance issues cycles) ∷ []
accepted_alone issues cycles h k = alone (accepted_line issues cycles) (Some (an_acceptance issues cycles)) (λ rest. accepted_reported issues cycles rest h k)

pub refused_alone : (line : ℕ) (class : List ℕ) → line < 2 ^ 64 → IsWord class → read_answer (refused_line line class) ≡ Some (a_refusal line class) ∷ []
refused_alone line class h k = alone (refused_line line class) (Some (a_refusal line class)) (λ rest. refused_reported line class rest h k)

pub asked_alone : (line : ℕ) (unit : List ℕ) (reserved : Bool) → line < 2 ^ 64 → IsWord unit → read_answer (ask_line line unit reserved) ≡ Some (an_ask line unit (cond reserved (codes "reserved") (codes "free"))) ∷ []
asked_alone line unit reserved h k = alone (ask_line line unit reserved) (Some (an_ask line unit (cond reserved (codes "reserved") (codes "free")))) (λ rest. asked_reported line unit rest reserved h k)
