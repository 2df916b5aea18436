use Rattle.std.proofs.Common.{◌≤◌, ℕ, List, length, sym, subst}
use Rattle.hz_base_model.specs.Limits.{class_limit}
use Rattle.hz_product.proofs.symbols.class_of.Goals as goal

pub place_of-requires : goal.place_of-requires
place_of-requires c = subst (λ (ns : List (List ℕ)). length ns ≤ class_limit) (sym c.deref.ensures.value) c.args.machine.now.kept.class_count
