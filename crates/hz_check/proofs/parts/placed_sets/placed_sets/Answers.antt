use Rattle.std.proofs.Common.{All, sym, subst}
use Rattle.std.proofs.lemmas.List.Elements.{All-push}
use Rattle.hz_mdread.specs.Shape.{description, set_item}
use Rattle.hz_check.specs.Parts.Assembly.{placed_statement, IsPlaced}
use Rattle.hz_check.proofs.Lists.Next.{push_next, push_all}
use Rattle.hz_description_model.specs.Check.Places.{statement_of}
use Rattle.hz_check.proofs.parts.placed_sets.placed_sets.Goals as goal

pub loop-set-preserved : goal.loop-set-preserved
loop-set-preserved c =
    let sets = c.loop-set.sets.items in
    record {
      statements = push_next placed_statement (λ s. statement_of (description c.args.names.now.desc.now) (set_item s)) c.deref-set-items.result.now c.loop-set.set-index c.set-item.result sets c.push.new.self.items _
          c.set-item.is c.loop-set-test.true c.in_ok-push.ensures.items c.in_ok-placed.ensures.statement c.loop-set.invariant.statements;
      within = subst (All IsPlaced) (sym c.in_ok-push.ensures.items) (All-push IsPlaced sets _ c.loop-set.invariant.within c.in_ok-placed.ensures.within);
    }

pub returns-clause-statements : goal.returns-clause-statements
returns-clause-statements c =
    push_all placed_statement (statement_of (description c.args.names.now.desc.now)) set_item _ c.args.names.now.desc.now.sets.items c.loop-set.set-index c.loop-set.sets.items c.deref-set-items.ensures.value c.loop-set-test.false c.loop-set.invariant.statements
