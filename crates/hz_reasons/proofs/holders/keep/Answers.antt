use Rattle.std.proofs.Common.{rules, tests}
use Rattle.std.specs.Prelude.{nat_le}
use Rattle.std.proofs.lemmas.Fn.{filter_same}
use Rattle.hz_reasons.proofs.holders.keep.Goals as goal

pub returns : goal.returns
returns c = filter_same _ (λ h. nat_le c.args.cycles h.left) _ (λ x b q k. search (rules, tests)) _ _ c.retain.ensures.filtered
