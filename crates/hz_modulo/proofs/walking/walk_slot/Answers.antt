use Rattle.std.proofs.Common.{Some, None, sym, ◌∙◌}
use Rattle.std.proofs.lemmas.Bool.{OnTrue_at, OnFalse_at}
use Rattle.hz_modulo.specs.Walking.{graph_of}
use Rattle.hz_modulo.proofs.WalkingLemmas.{stands_after, rest_issued, class_issued}
use Rattle.hz_modulo.proofs.walking.walk_slot.Goals as goal

pub returns-then-issue_at-clause-stands : goal.returns-then-issue_at-clause-stands
returns-then-issue_at-clause-stands g c = λ _. stands_after _ _ _ _ (OnTrue_at c.if-issue_at.true c.issue_at.ensures.taken)

pub returns-then-issue_at-clause-walked : goal.returns-then-issue_at-clause-walked
returns-then-issue_at-clause-walked g c = λ interval kernel.
    let m = c.args.walker.now.machine in
    rest_issued m (graph_of c.args.classes.now) interval c.args.least c.args.most c.args.slot kernel c.args.cycle c.args.walker.now.states (Some c.issue_at.new.walker.states) (sym c.is_between.ensures ∙ c.if-is_between.true)
    (class_issued m c.args.classes.now c.args.walker.now.states c.args.cycle c.args.slot.offset c.args.slot.place (Some c.issue_at.new.walker.states) (OnTrue_at c.if-issue_at.true c.issue_at.ensures.taken))

pub returns-else-issue_at-clause-refused : goal.returns-else-issue_at-clause-refused
returns-else-issue_at-clause-refused g c = λ interval kernel.
    let m = c.args.walker.now.machine in
    rest_issued m (graph_of c.args.classes.now) interval c.args.least c.args.most c.args.slot kernel c.args.cycle c.args.walker.now.states None (sym c.is_between.ensures ∙ c.if-is_between.true)
    (class_issued m c.args.classes.now c.args.walker.now.states c.args.cycle c.args.slot.offset c.args.slot.place None (OnFalse_at c.if-issue_at.false c.issue_at.ensures.refused))
