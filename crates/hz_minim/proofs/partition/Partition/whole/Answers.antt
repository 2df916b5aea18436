use Rattle.std.proofs.Common.{◌≡◌, ◌++◌, ◌∷◌, [], replicate, rules, sym, ap, ◌∙◌, subst}
use Rattle.hz_minim.specs.Lists.{lists_of}
use Rattle.hz_minim.specs.Moves.{IsListed}
use Rattle.hz_minim.proofs.MoveLaws.{listed_whole}
use Rattle.hz_minim.proofs.partition.Partition.whole.Goals as goal

pub returns-clause-listed : goal.returns-clause-listed
returns-clause-listed c =
    let one = c.in_ok-push.ensures.items ∙ ap (λ lists. lists ++ c.in_ok-all.all ∷ []) c.in_ok-members.ensures.items in
    let alike : c.in_ok-blocks.blocks.items ≡ replicate c.args.states 0 = search rules in
    subst (λ lists. IsListed c.in_ok-blocks.blocks.items (lists_of lists)) (sym one)
    (listed_whole c.args.states c.in_ok-blocks.blocks.items c.in_ok-all.all.items alike c.in_ok-all.ensures)
