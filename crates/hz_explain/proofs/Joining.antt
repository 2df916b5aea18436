-- Texts that are added one after the other.
use Rattle.std.proofs.Common.{◌≡◌, ℕ, List, [], ◌∷◌, ◌++◌, sym, ap, ◌∙◌, append_assoc}
use Rattle.std.specs.List.{concat}
use Rattle.std.proofs.lemmas.List.{append-nil}
use Rattle.std.proofs.lemmas.List.Folds.{concat-append}

-- four texts, three, and two
pub joined : (old a b c new w x y z : List ℕ) → a ≡ old ++ w → b ≡ a ++ x → c ≡ b ++ y → new ≡ c ++ z → new ≡ old ++ concat (w ∷ x ∷ y ∷ z ∷ [])
joined old a b c new w x y z ea eb ec en =
    let first : b ≡ old ++ (w ++ x) = eb ∙ (ap (λ (l : List ℕ). l ++ x) ea ∙ append_assoc old w x) in
    let second : c ≡ old ++ ((w ++ x) ++ y) = ec ∙ (ap (λ (l : List ℕ). l ++ y) first ∙ append_assoc old (w ++ x) y) in
    let all : new ≡ old ++ (((w ++ x) ++ y) ++ z) = en ∙ (ap (λ (l : List ℕ). l ++ z) second ∙ append_assoc old ((w ++ x) ++ y) z) in
    all ∙ ap (λ (l : List ℕ). old ++ l) (append_assoc (w ++ x) y z ∙ (append_assoc w x (y ++ z) ∙ ap (λ (l : List ℕ). w ++ (x ++ (y ++ l))) (sym (append-nil z))))

pub joined_three : (old a b new w x y : List ℕ) → a ≡ old ++ w → b ≡ a ++ x → new ≡ b ++ y → new ≡ old ++ concat (w ∷ x ∷ y ∷ [])
joined_three old a b new w x y ea eb en =
    let first : b ≡ old ++ (w ++ x) = eb ∙ (ap (λ (l : List ℕ). l ++ x) ea ∙ append_assoc old w x) in
    let all : new ≡ old ++ ((w ++ x) ++ y) = en ∙ (ap (λ (l : List ℕ). l ++ y) first ∙ append_assoc old (w ++ x) y) in
    all ∙ ap (λ (l : List ℕ). old ++ l) (append_assoc w x y ∙ ap (λ (l : List ℕ). w ++ (x ++ l)) (sym (append-nil y)))

pub joined_two : (old a new w z : List ℕ) → a ≡ old ++ w → new ≡ a ++ z → new ≡ old ++ (w ++ z)
joined_two old a new w z ea en = en ∙ (ap (λ (l : List ℕ). l ++ z) ea ∙ append_assoc old w z)

-- six texts
pub joined_six : (old a b c d e new u v w x y z : List ℕ) → a ≡ old ++ u → b ≡ a ++ v → c ≡ b ++ w → d ≡ c ++ x → e ≡ d ++ y → new ≡ e ++ z → new ≡ old ++ concat (u ∷ v ∷ w ∷ x ∷ y ∷ z ∷ [])
joined_six old a b c d e new u v w x y z ea eb ec ed ee en =
    joined_three c d e new x y z ed ee en
    ∙ (ap (λ (l : List ℕ). l ++ concat (x ∷ y ∷ z ∷ [])) (joined_three old a b c u v w ea eb ec)
    ∙ (append_assoc old (concat (u ∷ v ∷ w ∷ [])) (concat (x ∷ y ∷ z ∷ [])) ∙ ap (λ (l : List ℕ). old ++ l) (sym (concat-append (u ∷ v ∷ w ∷ []) (x ∷ y ∷ z ∷ [])))))
