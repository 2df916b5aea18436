use Rattle.hz_same_model.proofs.GroupLaws.{no_group_differs}
use Rattle.hz_same_model.proofs.products.products_of_groups.Goals as goal

pub returns : goal.returns
returns c = λ p groups others count e e' all all' none. no_group_differs p groups others e e' count all all' none
