use Rattle.std.proofs.Common.{◌≡◌, sym, ◌∙◌, rules, arith}
use Rattle.std.proofs.lemmas.List.{get_or_read}
use Rattle.hz_check_reservations.specs.declared.ordering.circle.Lead.TheVariants.{Nowhere, Around}
use Rattle.hz_check_reservations.specs.contracts.ordering.circle.Lead.{the_type}
use denote.Enum.Bare.{same_true}
use Rattle.hz_check_reservations.proofs.ordering.circle.Labels.first_around.Goals as goal

pub returns-then-eq : goal.returns-then-eq
returns-then-eq c =
    let is : c.index.result.now ≡ Around = same_true the_type (search rules) _ _ (sym c.if-eq.ensures) in
    (c.loop-node-test.true, sym (get_or_read c.args.self.now.leads.items c.loop-node.node c.index.result.now (omega arith) c.index.ensures Nowhere) ∙ is, c.loop-node.invariant)
