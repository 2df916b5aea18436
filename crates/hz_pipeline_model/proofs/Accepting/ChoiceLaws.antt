-- In the first treatment there is at most one list of choices.
use Rattle.std.proofs.Common.{◌≡◌, ℕ, zero, suc, ◌+◌, ◌<◌, ◌≤◌, List, [], ◌∷◌, ◌++◌, take, slice_index, refl, sym, ap, ◌∙◌, subst, arith, add-one, ⊎_elim}
use Rattle.std.proofs.lemmas.Bool.{cases_order}
use Rattle.std.proofs.lemmas.List.{take_more_same}
use Rattle.std.proofs.Math.Seq.{take-length}
use Rattle.hz_base_model.specs.Pairs.{Pair, placed}
use Rattle.std.specs.Prelude.{◌↔◌}
use Rattle.hz_pipeline_model.specs.Accepting.Replay.{Pipeline, Treatment, first_fit, State, MayTake, IsChoice, ChoiceFirst, Accepted, calendar, chosen, left_by}
use Rattle.hz_pipeline_model.specs.Accepting.Events.{Event, issue, advance, ask, issues_of, cycles_of}

-- the issue of this number, with what stands around it
record IssueAt (t : List Event) (n : ℕ) : Type 0 where
  before : List Event
  after : List Event
  class : ℕ
  parts : t ≡ before ++ issue class ∷ after
  number : issues_of before ≡ n

issue_at : (t : List Event) (n : ℕ) → n < issues_of t → IssueAt t n
issue_at [] n h = absurd (omega arith)
issue_at (advance c ∷ t) n h = let rest = issue_at t n h in
    record { before = advance c ∷ rest.before; after = rest.after; class = rest.class; parts = ap (λ (es : List Event). advance c ∷ es) rest.parts; number = rest.number }
issue_at (ask a u ∷ t) n h = let rest = issue_at t n h in
    record { before = ask a u ∷ rest.before; after = rest.after; class = rest.class; parts = ap (λ (es : List Event). ask a u ∷ es) rest.parts; number = rest.number }
issue_at (issue k ∷ t) zero h = record { before = []; after = t; class = k; parts = refl; number = refl }
issue_at (issue k ∷ t) (suc n) h = let rest = issue_at t n (omega arith) in
    record { before = issue k ∷ rest.before; after = rest.after; class = rest.class; parts = ap (λ (es : List Event). issue k ∷ es) rest.parts; number = ap suc rest.number }

module _ {U : Type 0} (m : Pipeline U) where
  -- only so many choices count as there are issues
  calendar_take : (now : ℕ) (t : List Event) (choices : List ℕ) → calendar m now t (take (issues_of t) choices) ≡ calendar m now t choices
  calendar_take now [] choices = refl
  calendar_take now (advance n ∷ t) choices = calendar_take (n + now) t choices
  calendar_take now (ask a u ∷ t) choices = calendar_take now t choices
  calendar_take now (issue k ∷ t) [] = refl
  calendar_take now (issue k ∷ t) (i ∷ choices) = ap (λ (ps : List (Pair U)). placed now (chosen m k i) ++ ps) (calendar_take now t choices)

  one_take : m.treatment ≡ first_fit → (s : State U) (k i j : ℕ) → MayTake m s k i → MayTake m s k j → i ≡ j
  one_take first s k i j a b = ⊎_elim (λ e. e)
      (λ c. ⊎_elim (λ (low : i < j). absurd (b.first first i low a.fits)) (λ (low : j < i). absurd (a.first first j low b.fits)) c)
      (cases_order i j)

  module _ (first : m.treatment ≡ first_fit) (t : List Event) (p q : List ℕ) (a : IsChoice m t p) (b : IsChoice m t q) where
    same_more : (n : ℕ) → n < issues_of t → IssueAt t n → take n p ≡ take n q → take (n + 1) p ≡ take (n + 1) q
    same_more n h at front =
        let issues = at.number in
        let fronts : take (issues_of at.before) q ≡ take (issues_of at.before) p = rw at.number (sym front) in
        let pairs : calendar m 0 at.before q ≡ calendar m 0 at.before p = sym (calendar_take 0 at.before q) ∙ (ap (calendar m 0 at.before) fronts ∙ calendar_take 0 at.before p) in
        let second = subst (λ (ps : List (Pair U)). MayTake m (record { reserved = ps; now = cycles_of at.before }) at.class (slice_index q (issues_of at.before))) pairs (b.may at.before at.after at.class at.parts) in
        let here : slice_index p n ≡ slice_index q n = rw (← at.number) (one_take first (left_by m at.before p) at.class _ _ (a.may at.before at.after at.class at.parts) second) in
        take_more_same p q n 0 (omega (arith, a.each)) (omega (arith, b.each)) front here

    same_front : (n : ℕ) → n ≤ issues_of t → take n p ≡ take n q
    same_front zero h = refl
    same_front (suc n) h = rw (← add-one n) (same_more n h (issue_at t n h) (same_front n (omega arith)))

    pub one_choice : p ≡ q
    one_choice =
        let all = same_front (issues_of t) (omega arith) in
        sym (take-length p) ∙ (ap (λ (n : ℕ). take n p) a.each ∙ (all ∙ (ap (λ (n : ℕ). take n q) (sym b.each) ∙ take-length q)))

-- in the first treatment what is accepted is accepted by its choice
pub by_first_choice : {U : Type 0} (m : Pipeline U) → m.treatment ≡ first_fit → (t : List Event) → Accepted m t ↔ ((choices : List ℕ) × ChoiceFirst m t choices)
by_first_choice {U} m is t = (λ h. (h.0, there h.0 h.1), λ h. (h.0, back h.0 h.1))
  where
    there : (choices : List ℕ) → IsChoice m t choices → ChoiceFirst m t choices
    there choices h = subst (λ (x : Treatment). IsChoice (record m { treatment = x }) t choices) is h

    back : (choices : List ℕ) → ChoiceFirst m t choices → IsChoice m t choices
    back choices h = subst (λ (x : Treatment). IsChoice (record m { treatment = x }) t choices) (sym is) h
