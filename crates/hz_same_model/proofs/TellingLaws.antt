-- What tells machines apart: there is one least trace, and a machine answers as itself.
use Rattle.std.proofs.Common.{◌≡◌, ℕ, List, Some, sym, ap, ◌∙◌, subst, ⊎_elim}
use Rattle.hz_pipeline_model.specs.Tables.Machines.{Machine}
use Rattle.hz_same_model.specs.Words.{IsEarlier}
use Rattle.hz_same_model.specs.Common.{common_of, events_of, event_at}
use Rattle.hz_same_model.specs.Telling.{IsLeast, AnswerTheSame, answer_in}
use Rattle.hz_same_model.specs.Products.{product_of}
use Rattle.hz_same_model.specs.Groups.{AreGrouped}
use Rattle.hz_same_model.proofs.WordLaws.{earlier_or}
use Rattle.hz_same_model.proofs.ProductLaws.{difference_of_trace, length-components}
use Rattle.hz_same_model.proofs.GroupLaws.{no_group_differs}

not_earlier : (first second : Machine) (trace other : List ℕ) → IsLeast first second trace → IsLeast first second other → IsEarlier trace other → ⊥
not_earlier first second trace other one least early = least.least one.before one.last one.tells (subst (λ (w : List ℕ). IsEarlier w other) one.is early)

pub one_least : (first second : Machine) (trace other : List ℕ) → IsLeast first second trace → IsLeast first second other → trace ≡ other
one_least first second trace other one least = ⊎_elim
    (λ (early : IsEarlier trace other). absurd (not_earlier first second trace other one least early))
    (λ rest. ⊎_elim (λ (same : trace ≡ other). same) (λ (late : IsEarlier other trace). absurd (not_earlier first second other trace least one late)) rest)
    (earlier_or trace other)

pub no_least : (first second : Machine) (trace : List ℕ) → AnswerTheSame first second → IsLeast first second trace → ⊥
no_least first second trace same least = same least.before least.last least.tells

pub answers_itself : (m : Machine) → AnswerTheSame m m
answers_itself m before last t =
    let both : t.states ≡ t.others = some_same t.states t.others (sym t.one ∙ t.other) in
    t.otherwise (ap (λ (xs : List ℕ). answer_in m xs (event_at (common_of m m) m last)) both)
  where
    some_same : (a b : List ℕ) → Some a ≡ Some b → a ≡ b
    some_same a b h = cc

pub groups_answer : (first second : Machine) → AreGrouped first second → AnswerTheSame first second
groups_answer first second g before last t =
    no_group_differs (product_of first second) g.groups g.others
    (length-components (events_of (common_of first second) first) 0 first.parts ∙ g.each) (length-components (events_of (common_of first second) second) 0 second.parts ∙ g.each_other)
    g.count g.low g.low_others g.same before last (difference_of_trace first second before last t)
