-- What the code holds of what an instruction reads and writes.
use Rattle.std.specs.Prelude.{◌≡◌, map}
use Rattle.hz_depend.specs.declared.finding.access.Access.{Access}
use Rattle.hz_block_model.specs.Dependences.Accesses as model
use Rattle.hz_depend.specs.Cells.{cells}

pub record IsAccess (a : Access) (m : model.Access) : Type 0 where
  pub registers_read : a.read.registers.items ≡ m.registers_read
  pub registers_written : a.written.registers.items ≡ m.registers_written
  pub cells_read : cells a.read.cells.items ≡ map model.based_of m.addresses_read
  pub cells_written : cells a.written.cells.items ≡ map model.based_of m.addresses_written
