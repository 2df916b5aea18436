use Rattle.std.proofs.Common.{ℕ, List, get_or, drop, length, sym, ap, ◌∙◌, ◌+◌, arith}
use Rattle.std.proofs.lemmas.List.{drop_more, drop_all}
use Rattle.std.proofs.lemmas.List.Elements.{Contains-get_or}
use Rattle.hz_check_reservations.specs.Circles.{all_found, knowledge_of, Knowledge}
use Rattle.hz_check_reservations.proofs.Finding.{found_size, found_taken}
use Rattle.hz_check_reservations.proofs.ordering.circle.Labels.find_all.Goals as goal

pub find-requires-clause-leads : goal.find-requires-clause-leads
find-requires-clause-leads c =
    omega (arith, c.requires.leads _ (Contains-get_or c.args.nodes.now c.loop-node.node-index 0 c.loop-node-test.true), c.loop-node.invariant.leads)

pub find-requires-clause-taken : goal.find-requires-clause-taken
find-requires-clause-taken c =
    omega (arith, c.requires.taken _ (Contains-get_or c.args.nodes.now c.loop-node.node-index 0 c.loop-node-test.true), c.loop-node.invariant.taken)

pub loop-node-preserved : goal.loop-node-preserved
loop-node-preserved c =
    let k = knowledge_of c.loop-node.self in
    let node = get_or c.args.nodes.now c.loop-node.node-index 0 in
    record {
      leads = omega (arith, ap (λ (n : Knowledge). length n.leads) c.in_ok-find.ensures, found_size node k, c.loop-node.invariant.leads);
      taken = omega (arith, ap (λ (n : Knowledge). length n.taken) c.in_ok-find.ensures, ap length (found_taken node k), c.loop-node.invariant.taken);
      rest = ap (all_found (drop (c.loop-node.node-index + 1) c.args.nodes.now)) c.in_ok-find.ensures
          ∙ (sym (ap (λ (xs : List ℕ). all_found xs k) (drop_more c.args.nodes.now c.loop-node.node-index 0 c.loop-node-test.true)) ∙ c.loop-node.invariant.rest);
    }

pub returns : goal.returns
returns c = sym (ap (λ (xs : List ℕ). all_found xs (knowledge_of c.loop-node.self)) (drop_all c.loop-node.node-index c.args.nodes.now c.loop-node-test.false)) ∙ c.loop-node.invariant.rest
