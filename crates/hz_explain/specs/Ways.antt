-- What is reported of issues that still hold something, by what the code holds.
use Rattle.std.specs.Prelude.{ℕ, suc, ◌-◌, List, [], ◌∷◌, ◌++◌, codes, decimal, drop, length}
use Rattle.std.specs.List.{concat, flat_map}
use Rattle.hz_why_model.specs.Lists.{narrow}
use Rattle.hz_why_model.specs.Ways.{ways_limit, ago_text, before_line}
use Rattle.hz_reasons.specs.Holding.{age_of}
use Rattle.hz_reasons.specs.declared.holders.Holder.{Holder}

-- how many issues come before those that are written, if any does
abbrev pub before_reported : (issues : ℕ) → List ℕ
before_reported issues = before_line (λ k. []) 0 issues

-- in which cycle an issue was, counted from the present one, and which alternative it took
abbrev pub taking_words : Holder → List ℕ
taking_words h = concat (codes " in cycle " ∷ ago_text (age_of h) ∷ codes " took alternative " ∷ decimal (suc h.number) ∷ [])

module _ (class_name : ℕ → List ℕ) where
  -- which issue it is
  abbrev pub issue_words : Holder → List ℕ
  issue_words h = concat (codes "line " ∷ decimal h.line ∷ codes " " ∷ class_name h.class ∷ [])

  -- its line
  abbrev pub issue_reported : Holder → List ℕ
  issue_reported h = narrow (issue_words h ++ taking_words h) ++ codes "\n"

  -- the last of these issues
  abbrev pub issues_reported : List Holder → List ℕ
  issues_reported issues = before_reported (length issues) ++ flat_map issue_reported (drop (length issues - ways_limit) issues)
