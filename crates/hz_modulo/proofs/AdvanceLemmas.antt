-- Advances of a machine's parts.
use Rattle.std.proofs.Common.{◌+◌, ◌++◌, append-nil, ◌≡◌, ℕ, zero, suc, List, [], ◌∷◌, length, Some, replicate, refl, sym, ap, ◌∙◌, subst, arith}
use Rattle.std.specs.Prelude.{option_and_then}
use Rattle.std.proofs.lemmas.List.{replicate-append-replicate}
use Rattle.hz_pipeline_model.specs.Accepting.Events.{advance}
use Rattle.hz_pipeline_model.specs.Tables.Machines.{advance_of, Part, Machine, parts_walk, onto_states, word_of, starts_of, IsMachine}
use Rattle.hz_pipeline_model.proofs.Tables.MachineLaws.{parts_walk-append}
use Rattle.hz_block_model.specs.Scheduling.Machines.{Settles}
use Rattle.hz_measure_model.proofs.Kernels.CycleLaws.{walks_alike}
use Rattle.hz_measure_model.proofs.Kernels.SearchLaws.{start_stays}

-- two advances are one
pub advance_more : (parts : List Part) (states now next : List ℕ) (a b c : ℕ) → a + b ≡ c → parts_walk parts states (advance a ∷ []) ≡ Some now → parts_walk parts now (advance b ∷ []) ≡ Some next → parts_walk parts states (advance c ∷ []) ≡ Some next
advance_more parts states now next a b c is first second =
    walks_alike parts states (advance c ∷ []) (advance a ∷ advance b ∷ []) words
    ∙ (parts_walk-append parts states (advance a ∷ []) (advance b ∷ [])
    ∙ (ap (option_and_then (λ s. parts_walk parts s (advance b ∷ []))) first ∙ second))
  where
    words : (part : Part) → word_of part (advance c ∷ []) ≡ word_of part (advance a ∷ advance b ∷ [])
    words part =
        append-nil (replicate c (advance_of part))
        ∙ (ap (λ (n : ℕ). replicate n (advance_of part)) (sym is)
        ∙ (sym (replicate-append-replicate a b (advance_of part))
        ∙ ap (λ (w : List ℕ). replicate a (advance_of part) ++ w) (sym (append-nil (replicate b (advance_of part))))))

-- no cycle changes nothing
pub advance_none : (parts : List Part) (states next : List ℕ) → parts_walk parts states [] ≡ Some next → parts_walk parts states (advance 0 ∷ []) ≡ Some next
advance_none parts states next e = walks_alike parts states (advance 0 ∷ []) [] (λ part. refl) ∙ e

-- the starts stand still where nothing is walked
pub starts_are : (parts : List Part) → parts_walk parts (replicate (length parts) 0) [] ≡ Some (replicate (length parts) 0)
starts_are [] = refl
starts_are (part ∷ parts) = ap (onto_states (Some 0)) (starts_are parts)

-- parts that are in their start stay there
pub starts_rest : (m : Machine) → IsMachine m → Settles m → (states : List ℕ) → states ≡ starts_of m → (n : ℕ) → parts_walk m.parts states (advance n ∷ []) ≡ Some states
starts_rest m machine settle states start n = subst (λ (xs : List ℕ). parts_walk m.parts xs (advance n ∷ []) ≡ Some xs) (sym start) (stays n)
  where
    stays : (k : ℕ) → parts_walk m.parts (starts_of m) (advance k ∷ []) ≡ Some (starts_of m)
    stays zero = advance_none m.parts (starts_of m) (starts_of m) (starts_are m.parts)
    stays (suc k) = advance_more m.parts (starts_of m) (starts_of m) (starts_of m) k 1 (suc k) (omega arith) (stays k) (start_stays m machine settle)
