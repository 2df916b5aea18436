use Rattle.std.proofs.Common.{subst}
use Rattle.hz_tables.specs.Machines.{machine_of}
use Rattle.hz_tabtext_model.proofs.TextAgain.{tables_again}
use Rattle.hz_tabfile.specs.Given.{Gives}
use Rattle.hz_tabfile.proofs.Whole.{is_found}
use Rattle.hz_tabfile.proofs.reading.machine.read_tables.Goals as goal

pub returns-clause-found : goal.returns-clause-found
returns-clause-found c = is_found c.args.bytes.now c.whole.result c.whole.ensures.read

pub returns-clause-only : goal.returns-clause-only
returns-clause-only c = λ machine t. subst (Gives machine_of c.whole.result) (tables_again c.args.bytes.now machine t) c.whole.ensures.read
