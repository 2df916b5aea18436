use Rattle.std.proofs.Common.{refl}
use Rattle.hz_tables.specs.Machines.{machine_of}
use Rattle.hz_same_top.specs.Names.{common_in}
use Rattle.hz_same_top.proofs.FoundLaws.{reported_apart}
use Rattle.hz_same_top.proofs.telling.tell_difference.Goals as goal

pub returns-clause-answer : goal.returns-clause-answer
returns-clause-answer c = λ least. (
  refl,
  reported_apart c.args.file.now c.args.other_file.now (machine_of c.args.first.now) (machine_of c.args.second.now) c.args.trace.now c.add_difference.new.text.items c.add_names_alone.new.text.items c.new-text.result.items
      (common_in c.in_ok-names.names) c.last_of-last.result c.in_ok-answer.answer c.in_ok-names.ensures c.last_of-last.ensures
      (λ l. c.in_ok-answer.ensures l.before l.last l.tells l.is) c.new-text.ensures.items c.in_ok-add_names_alone.ensures c.in_ok-add_difference.ensures least,
)
