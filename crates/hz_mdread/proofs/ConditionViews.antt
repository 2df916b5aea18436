-- The conditions of `And` and `Ior`.
use Rattle.std.proofs.Common.{◌≡◌, sym, ap, ◌∙◌}
use Rattle.hz_mdread.specs.declared.condition.Condition.TheOpen.{Condition-F}
use Rattle.hz_mdread.specs.declared.condition.Condition.TheVariants.{And, Ior, rolls-And, rolls-Ior}
use Rattle.hz_mdread.specs.declared.condition.Condition.TheFolds.{fold-roll-Condition}
use Rattle.hz_mdread.specs.Shape.{condition, conditions, condition_step}
use Rattle.hz_description_model.specs.Reading.Descriptions as model

pub condition_and : (tests : _) → condition (And tests) ≡ model.conjunction (conditions tests.items)
condition_and tests = ap condition (sym (rolls-And tests)) ∙ fold-roll-Condition model.Condition condition_step (Condition-F.And tests)

pub condition_ior : (tests : _) → condition (Ior tests) ≡ model.disjunction (conditions tests.items)
condition_ior tests = ap condition (sym (rolls-Ior tests)) ∙ fold-roll-Condition model.Condition condition_step (Condition-F.Ior tests)
