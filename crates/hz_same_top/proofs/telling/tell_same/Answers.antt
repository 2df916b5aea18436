use Rattle.hz_tables.specs.Machines.{machine_of}
use Rattle.hz_same_top.proofs.FoundLaws.{both_ok, is_nothing, is_something, reported_same, reported_else}
use Rattle.hz_same_top.proofs.telling.tell_same.Goals as goal

pub returns-then-is_empty-clause-answer : goal.returns-then-is_empty-clause-answer
returns-then-is_empty-clause-answer c =
    both_ok c.one_line.result c.one_line.ensures.status c.one_line.ensures.text (λ found zero says.
    reported_same c.args.file.now c.args.other_file.now (machine_of c.args.first.now) (machine_of c.args.second.now) found.status found.text.items c.add_names_alone.new.text.items c.new-text.result.items
    c.new-text.ensures.items c.in_ok-add_names_alone.ensures (is_nothing c.deref.result.now c.add_names_alone.new.text.items c.is_empty.result c.deref.ensures.value c.is_empty.ensures c.if-is_empty.true) zero says)

pub returns-clause-answer : goal.returns-clause-answer
returns-clause-answer c =
    reported_else c.args.file.now c.args.other_file.now (machine_of c.args.first.now) (machine_of c.args.second.now) c.add_all.new.text.items c.add_names_alone.new.text.items c.new-text.result.items
    c.new-text.ensures.items c.in_ok-add_names_alone.ensures (is_something c.deref.result.now c.add_names_alone.new.text.items c.is_empty.result c.deref.ensures.value c.is_empty.ensures c.if-is_empty.false) c.in_ok-add_all.ensures
