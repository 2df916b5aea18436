-- Pipelines that list their pairs otherwise accept alike.
use Rattle.std.proofs.Common.{ℕ, ◌+◌, List, [], ◌∷◌, take, sym, ◌∙◌, subst, arith}
use Rattle.std.specs.Prelude.{◌↔◌}
use Rattle.hz_base_model.specs.Pairs.{Pair, SamePairs, placed}
use Rattle.hz_description_model.specs.Reservations.Sets.{Statement, Fits}
use Rattle.hz_pipeline_model.specs.Accepting.Replay.{Pipeline, SamePipeline, FitsAt, MayTake, IsChoice, Accepted, FirstRefused, calendar, chosen}
use Rattle.hz_pipeline_model.specs.Accepting.Events.{Event, issue, advance, ask, cycles_of}
use Rattle.hz_description_model.proofs.Reservations.SamePairsLaws.{same_back, same_append, same_placed, fits_same}

module _ {U : Type 0} where
  same_machine_back : (m o : Pipeline U) → SamePipeline m o → SamePipeline o m
  same_machine_back m o same = record {
    statements = sym same.statements;
    treatment = sym same.treatment;
    numbers = λ k. sym (same.numbers k);
    pairs = λ k i. same_back (chosen m k i) (chosen o k i) (same.pairs k i);
  }

module _ {U : Type 0} (m o : Pipeline U) (same : SamePipeline m o) where
  calendar_same : (now : ℕ) (t : List Event) (choices : List ℕ) → SamePairs (calendar m now t choices) (calendar o now t choices)
  calendar_same now [] choices = λ p. (λ c. c, λ c. c)
  calendar_same now (advance n ∷ t) choices = calendar_same (n + now) t choices
  calendar_same now (ask a u ∷ t) choices = calendar_same now t choices
  calendar_same now (issue k ∷ t) [] = λ p. (λ c. c, λ c. c)
  calendar_same now (issue k ∷ t) (i ∷ choices) = same_append (placed now (chosen m k i)) (calendar m now t choices) (placed now (chosen o k i)) (calendar o now t choices)
      (same_placed now (chosen m k i) (chosen o k i) (same.pairs k i)) (calendar_same now t choices)

  fits_at_same : (source source' : List (Pair U)) (now k i : ℕ) → SamePairs source source' → FitsAt m (record { reserved = source; now = now }) k i → FitsAt o (record { reserved = source'; now = now }) k i
  fits_at_same source source' now k i there h =
      let number = same.numbers k in
      (omega (arith, h.0), subst (λ (ss : List (Statement U)). Fits ss source' (chosen o k i) now) same.statements (fits_same m.statements source source' (chosen m k i) (chosen o k i) now there (same.pairs k i) h.1))

may_take_same : {U : Type 0} (m o : Pipeline U) → SamePipeline m o → (source source' : List (Pair U)) (now k i : ℕ) → SamePairs source source' → MayTake m (record { reserved = source; now = now }) k i → MayTake o (record { reserved = source'; now = now }) k i
may_take_same m o same source source' now k i there h = record {
  fits = fits_at_same m o same source source' now k i there h.fits;
  first = λ t j early fit. h.first (same.treatment ∙ t) j early (fits_at_same o m (same_machine_back m o same) source' source now k j (same_back source source' there) fit);
}

is_choice_same : {U : Type 0} (m o : Pipeline U) → SamePipeline m o → (t : List Event) (choices : List ℕ) → IsChoice m t choices → IsChoice o t choices
is_choice_same m o same t choices is = record {
  each = is.each;
  may = λ before after k e. may_take_same m o same (calendar m 0 before choices) (calendar o 0 before choices) (cycles_of before) k _ (calendar_same m o same 0 before choices) (is.may before after k e);
}

accepted_into : {U : Type 0} (m o : Pipeline U) → SamePipeline m o → (t : List Event) → Accepted m t → Accepted o t
accepted_into m o same t (choices, is) = (choices, is_choice_same m o same t choices is)

refused_into : {U : Type 0} (m o : Pipeline U) → SamePipeline m o → (t : List Event) (i : ℕ) → FirstRefused m t i → FirstRefused o t i
refused_into m o same t i h = record {
  within = h.within;
  before = accepted_into m o same (take i t) h.before;
  refused = λ a. h.refused (accepted_into o m (same_machine_back m o same) (take (i + 1) t) a);
}

-- machines that list their pairs otherwise accept and refuse alike
pub accepted_same : {U : Type 0} (m o : Pipeline U) → SamePipeline m o → (t : List Event) → Accepted m t ↔ Accepted o t
accepted_same m o same t = (accepted_into m o same t, accepted_into o m (same_machine_back m o same) t)

pub refused_same : {U : Type 0} (m o : Pipeline U) → SamePipeline m o → (t : List Event) (i : ℕ) → FirstRefused m t i ↔ FirstRefused o t i
refused_same m o same t i = (refused_into m o same t i, refused_into o m (same_machine_back m o same) t i)
