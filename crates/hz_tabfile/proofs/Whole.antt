-- What is read of a whole text.
use Rattle.std.proofs.Common.{ℕ, List, Result, Ok, Err}
use Rattle.std.specs.Prelude.{IfOk}
use Rattle.hz_tables.specs.declared.machine.Machine.{Machine}
use Rattle.hz_tables.specs.Machines.{machine_of}
use Rattle.hz_tabtext_model.specs.Texts.{TableText}
use Rattle.hz_tabtext_model.specs.Reading.{tables_in}
use Rattle.hz_tabtext_model.proofs.TextTakes.{tables_take}
use Rattle.hz_tabfile.specs.declared.reading.fault.TabFault.{TabFault}
use Rattle.hz_tabfile.specs.Given.{Gives}

pub is_found : (text : List ℕ) (r : Result Machine TabFault) → Gives machine_of r (tables_in text) → IfOk r (λ machine. TableText text (machine_of machine))
is_found text (Ok machine) read = tables_take text (machine_of machine) read
is_found text (Err fault) read = tt
