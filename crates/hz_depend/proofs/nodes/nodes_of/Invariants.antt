use Rattle.std.proofs.Common.{◌≡◌, ◌++◌, ◌<◌, drop, map, length, All, None}
use Rattle.hz_depend.specs.GraphShape.{first_class_fault}
use Rattle.hz_depend.specs.Held.{held, node_for}
use Rattle.hz_depend.proofs.nodes.nodes_of.Given as goal

-- the instructions so far, with those that are left, are all, and of these no class is wrong
abbrev pub invariant-loop-insn : goal.invariant-loop-insn
invariant-loop-insn l = record {
  all : map held l.nodes.items ++ map (node_for l.checked) (drop l.insn-index l.insns) ≡ map (node_for l.checked) l.insns;
  right : first_class_fault l.insn-index l.checked (drop l.insn-index l.insns) ≡ None;
  within : All (λ n. n.class < length l.checked.classes.items) l.nodes.items;
}
