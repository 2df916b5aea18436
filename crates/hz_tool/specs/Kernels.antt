-- Which kernels can be written.
use Rattle.std.specs.Prelude.{◌<◌, length, All}
use Rattle.hz_depend.specs.declared.parts.Graph.{Graph}
use Rattle.hz_modulo.specs.Kernels.{IsInRange}
use Rattle.hz_modulo.specs.declared.parts.Kernel.{Kernel}
use Rattle.hz_tables.specs.declared.machine.Machine.{Machine}

-- The slots of a kernel are of instructions of the graph, and these of classes of the machine.
pub record IsKernelInRange (machine : Machine) (graph : Graph) (kernel : Kernel) : Type 0 where
  pub places : IsInRange graph kernel
  pub classes : All (λ i. i.class < length machine.classes.items) graph.insns.items
