-- One list of forms has one description or one fault.
use Rattle.std.proofs.Common.{◌≡◌, ℕ, ◌⊎◌, inl, inr, List, refl, sym, ap, ◌∙◌, Result, Ok, Err}
use Rattle.std.specs.Result.{MatchResult}
use Rattle.hz_description_model.specs.Grammar.ExpressionTexts as expression
use Rattle.hz_base_model.specs.Forms.Trees.{Trees}
use Rattle.hz_description_model.specs.Reading.Descriptions.{Description, no_items}
use Rattle.hz_description_model.specs.Reading.DescriptionForms.{DescriptionFault, Said, IsReading, forms_say, Reads, FaultAt}
use Rattle.hz_description_model.proofs.Grammar.ExpressionTextsLaws.{one_expression, one_fault, expression_or_fault, every_text, outcome_of, read_is, fault_is}

-- what is said of a text
abbrev Says : List ℕ → Said → Type 0
Says text said = MatchResult said (expression.Reads text) (λ wrong. expression.FaultAt text wrong.0 wrong.1)

same_said : (text : List ℕ) (a b : Said) → Says text a → Says text b → a ≡ b
same_said text (Ok x) (Ok y) p q = ap Ok (one_expression text x y p q)
same_said text (Ok x) (Err w) p q = absurd (expression_or_fault text x w.0 w.1 p q)
same_said text (Err v) (Ok y) p q = absurd (expression_or_fault text y v.0 v.1 q p)
same_said text (Err v) (Err w) p q = let same = one_fault text v.0 w.0 v.1 w.1 p q in λ i. Err (same.0 i, same.1 i)

-- two readings are one
one_reading : (read other : List ℕ → Said) → IsReading read → IsReading other → read ≡ other
one_reading read other is also = λ i text. same_said text (read text) (other text) (is text) (also text) i

-- there is a reading
pub is_reading : IsReading outcome_of
is_reading text = elim (every_text text) [
  | inl (value, reads) ↦ rw (read_is text value reads) reads
  | inr (fault, at, wrong) ↦ rw (fault_is wrong) wrong
]

-- what forms say by a reading
said_by : (forms : Trees) (read other : List ℕ → Said) (a b : Result Description (DescriptionFault × ℕ)) → IsReading read → IsReading other → forms_say read 0 no_items forms ≡ a → forms_say other 0 no_items forms ≡ b → a ≡ b
said_by forms read other a b is also p q = sym p ∙ (ap (λ (r : List ℕ → Said). forms_say r 0 no_items forms) (one_reading read other is also) ∙ q)

pub one_description : (forms : Trees) (a b : Description) → Reads forms a → Reads forms b → a ≡ b
one_description forms a b p q = let e = said_by forms p.read q.read (Ok a) (Ok b) p.reading q.reading p.says q.says in cc

pub one_fault_of_descriptions : (forms : Trees) (f g : DescriptionFault) (m n : ℕ) → FaultAt forms f m → FaultAt forms g n → (f ≡ g) × (m ≡ n)
one_fault_of_descriptions forms f g m n p q =
    let e = said_by forms p.read q.read (Err (f, m)) (Err (g, n)) p.reading q.reading p.says q.says in
    let pairs : ◌≡◌ {A = DescriptionFault × ℕ} (f, m) (g, n) = cc in
    (ap (λ (x : DescriptionFault × ℕ). x.0) pairs, ap (λ (x : DescriptionFault × ℕ). x.1) pairs)

pub description_or_fault : (forms : Trees) (d : Description) (fault : DescriptionFault) (line : ℕ) → Reads forms d → FaultAt forms fault line → ⊥
description_or_fault forms d fault line p q = let e = said_by forms p.read q.read (Ok d) (Err (fault, line)) p.reading q.reading p.says q.says in absurd (cc)

-- what forms say
pub every_list : (forms : Trees) → ((d : Description) × Reads forms d) ⊎ ((fault : DescriptionFault) × (line : ℕ) × FaultAt forms fault line)
every_list forms = go (forms_say outcome_of 0 no_items forms) refl
  where
    go : (said : Result Description (DescriptionFault × ℕ)) → forms_say outcome_of 0 no_items forms ≡ said → ((d : Description) × Reads forms d) ⊎ ((fault : DescriptionFault) × (line : ℕ) × FaultAt forms fault line)
    go (Ok d) e = inl (d, record { read = outcome_of; reading = is_reading; says = e })
    go (Err wrong) e = inr (wrong.0, wrong.1, record { read = outcome_of; reading = is_reading; says = e })
