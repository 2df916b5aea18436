use Rattle.std.proofs.Common.{ℕ, List, map, arith}
use Rattle.std.proofs.lemmas.List.{length-map}
use Rattle.hz_explain.proofs.ListLaws.{kept_more}
use Rattle.hz_explain.proofs.lists.columns_kept.Goals as goal

pub returns-then-place-items-clause-value : goal.returns-then-place-items-clause-value
returns-then-place-items-clause-value c = kept_more (map (λ item. item.items) c.args.items.now) c.args.place (omega (arith, length-map {B = List ℕ} c.args.items.now (λ item. item.items)))
