use Rattle.std.proofs.Common.{All, sym, subst}
use Rattle.hz_pipeline_model.specs.Accepting.Fitting.{AskTheSame}
use Rattle.hz_unitsets.specs.SetRules.{IsInRange, statements_of}
use Rattle.hz_reasons.proofs.PlanLaws.{rules_more}
use Rattle.hz_reasons.proofs.planning.sets.rules.Goals as goal

pub build-requires : goal.build-requires
build-requires c =
    subst (All IsInRange) (sym c.deref.ensures.value)
    (subst (λ automaton. All IsInRange automaton.sets.items) (sym c.automaton-item.is) (c.requires c.loop-automaton.automaton-index c.automaton-item.result c.loop-automaton-test.true))

pub loop-automaton-preserved : goal.loop-automaton-preserved
loop-automaton-preserved c =
    rules_more c.args.automata.now c.loop-automaton.automaton-index c.automaton-item.result c.loop-automaton.rules.items _ c.in_ok-built.built c.automaton-item.is c.loop-automaton-test.true c.in_ok-push.ensures.items (subst (λ sets. AskTheSame c.in_ok-built.built (statements_of sets)) c.deref.ensures.value c.in_ok-built.ensures.same) c.loop-automaton.invariant
