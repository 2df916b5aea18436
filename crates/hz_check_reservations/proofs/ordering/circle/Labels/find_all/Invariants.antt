use Rattle.std.proofs.Common.{◌≡◌, drop, vec_len}
use Rattle.hz_check_reservations.specs.Circles.{all_found, knowledge_of}
use Rattle.hz_check_reservations.proofs.ordering.circle.Labels.find_all.Given as goal

abbrev pub invariant-loop-node : goal.invariant-loop-node
invariant-loop-node l = record {
  leads : vec_len l.self.leads ≡ vec_len l.initial.self.leads;
  taken : vec_len l.self.taken ≡ vec_len l.initial.self.taken;
  rest : all_found (drop l.node-index l.nodes) (knowledge_of l.self) ≡ all_found l.nodes (knowledge_of l.initial.self);
}
