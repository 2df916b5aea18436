use Rattle.std.proofs.Common.{sym, subst}
use Rattle.hz_check.specs.Parts.Assembly.{placed_statement, IsPlaced}
use Rattle.hz_check.proofs.Lists.Next.{pass_next, fail_next}
use Rattle.hz_description_model.specs.Reservations.Inside.{inside_statement, is_inside}
use Rattle.hz_unitsets.specs.SetRules.{statement_of}
use Rattle.hz_check.proofs.parts.rules.rules.Goals as goal
use Rattle.hz_check.proofs.parts.rules.rules.Goals.{then-is_inside+in_ok-rule+in_ok-push, else-is_inside}

pub rule-requires : goal.rule-requires
rule-requires c = subst IsPlaced (sym c.set-item.is) (c.requires c.loop-set.set-index c.set-item.result c.loop-set-test.true)

pub loop-set-preserved : goal.loop-set-preserved
loop-set-preserved c =
    let sets = c.args.sets.now in
    let i = c.loop-set.set-index in
    let old = c.loop-set.rules.items in
    let automaton = c.args.automaton in
    elim c.if-is_inside.branch [
      | then-is_inside+in_ok-rule+in_ok-push w ↦ rw w.rules-is (pass_next statement_of (is_inside automaton) inside_statement placed_statement sets i c.set-item.result old w.push.new.self.items w.in_ok-rule.rule _
          c.set-item.is c.loop-set-test.true (sym w.if-is_inside.ensures) w.in_ok-rule.ensures w.in_ok-push.ensures.items c.loop-set.invariant)
      | else-is_inside w ↦ rw w.rules-is (fail_next statement_of (is_inside automaton) inside_statement placed_statement sets i c.set-item.result old _
          c.set-item.is c.loop-set-test.true (sym w.if-is_inside.ensures) c.loop-set.invariant)
    ]
