-- Of the lists of choices that accept events one comes first.
use Rattle.std.proofs.Common.{Ordering, ◌≡◌, ℕ, List, refl, ap, ◌∙◌, subst}
use Rattle.std.specs.Ordering.{nat_cmp, ordering_reverse}
use Rattle.std.specs.Cmp.Lexicographic.{slice_cmp, lists_total}
use Rattle.std.specs.FinMap.{nat_cmp-IsAntisymmetric, slice_cmp-IsAntisymmetric}
use Rattle.std.specs.declared.cmp.Ordering.TheVariants.{Less, Equal, Greater}
use Rattle.std.proofs.lemmas.Cmp.{nat_cmp_total, tied_itself}
use Rattle.hz_pipeline_model.specs.Accepting.Events.{Event}
use Rattle.hz_pipeline_model.specs.Accepting.Replay.{Pipeline, first_fit, IsChoice}
use Rattle.hz_pipeline_model.proofs.Accepting.ChoiceLaws.{one_choice}
use Rattle.hz_why_model.specs.Choices.{IsFirstChoice}

module _ {U : Type 0} (m : Pipeline U) (t : List Event) where
  one_by : (a b : List ℕ) → IsFirstChoice m t a → IsFirstChoice m t b → (o : Ordering) → slice_cmp nat_cmp a b ≡ o → a ≡ b
  one_by a b x y Less e = absurd (y.first a x.choice ((lists_total nat_cmp_total).antisymm b a ∙ ap ordering_reverse e))
  one_by a b x y Equal e = slice_cmp-IsAntisymmetric nat_cmp-IsAntisymmetric a b e
  one_by a b x y Greater e = absurd (x.first b y.choice e)

  pub one_first_choice : (a b : List ℕ) → IsFirstChoice m t a → IsFirstChoice m t b → a ≡ b
  one_first_choice a b x y = one_by a b x y _ refl

  not_itself : (a : List ℕ) → slice_cmp nat_cmp a a ≡ Greater → ⊥
  not_itself a e = let tied = tied_itself (lists_total nat_cmp_total) a in cc

  pub only_choice_first : m.treatment ≡ first_fit → (a : List ℕ) → IsChoice m t a → IsFirstChoice m t a
  only_choice_first first a is = record {
    choice = is;
    first = λ others by e. not_itself a (subst (λ (b : List ℕ). slice_cmp nat_cmp a b ≡ Greater) (one_choice m first t others a by is) e);
  }
