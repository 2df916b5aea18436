use Rattle.std.proofs.Common.{map}
use Rattle.hz_checked.specs.Shape.{automaton_of}
use Rattle.hz_mdread.specs.Shape.{options as options_of}
use Rattle.hz_auto.specs.Machines.{reports_of}
use Rattle.hz_tables.specs.Machines.{machine_of}
use Rattle.hz_tabtext_model.proofs.SaidLaws.{said_is_text}
use Rattle.hz_tabfile.proofs.writing.text_stands.Goals as goal

pub returns-clause-stands : goal.returns-clause-stands
returns-clause-stands c = said_is_text (options_of c.args.compiled.now.options) (map automaton_of c.args.checked.now.automata.items) (reports_of c.args.compiled.now.reports.items) (machine_of c.args.compiled.now.machine) c.requires.sayable c.args.compiled.now.machine.kept c.is_in_range.ensures.range
