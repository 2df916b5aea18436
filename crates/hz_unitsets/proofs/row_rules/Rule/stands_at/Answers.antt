use Rattle.hz_description_model.proofs.Reservations.FitLaws.{some_with, pattern_with}
use Rattle.hz_unitsets.proofs.row_rules.Rule.stands_at.Goals as goal

pub returns-then-holds_some : goal.returns-then-holds_some
returns-then-holds_some c = (
  λ t. (some_with _ _ _ (λ u. (c.row-row.ensures u).0) (c.holds_some.ensures.0 c.if-holds_some.true), pattern_with _ _ _ (λ u. (c.row-row.ensures u).0) (c.holds_pattern.ensures.0 t)),
  λ h. c.holds_pattern.ensures.1 (pattern_with _ _ _ (λ u. (c.row-row.ensures u).1) h.1),
)
