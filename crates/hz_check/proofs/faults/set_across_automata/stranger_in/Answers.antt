use Rattle.std.proofs.Common.{not, filter, refl, ap, ◌∙◌}
use Rattle.std.specs.List.{flat_map}
use Rattle.hz_mdread.specs.Shape.{description}
use Rattle.hz_check.specs.Names.First.{first_of}
use Rattle.hz_check.proofs.Lists.FirstOf.{first_here, none_here}
use Rattle.hz_description_model.specs.Check.CheckFaults.{home, same_home}
use Rattle.hz_check.proofs.faults.set_across_automata.stranger_in.Goals as goal

pub returns-in-Some : goal.returns-in-Some
returns-in-Some c =
    first_here (λ name. not (same_home (home (description c.args.names.now.desc.now) name) c.args.automaton)) (flat_map (λ pattern. pattern.items)) c.pattern-item.result.items c.args.patterns.now c.loop-pattern.pattern-index c.pattern-item.result c.in-Some.unit.now
    c.pattern-item.is c.loop-pattern-test.true refl (c.in-Some.ensures ∙ ap (λ names. first_of (filter (λ name. not (same_home (home (description c.args.names.now.desc.now) name) c.args.automaton)) names)) c.deref.ensures.value) c.loop-pattern.invariant

pub loop-pattern-preserved : goal.loop-pattern-preserved
loop-pattern-preserved c =
    none_here (λ name. not (same_home (home (description c.args.names.now.desc.now) name) c.args.automaton)) (flat_map (λ pattern. pattern.items)) c.pattern-item.result.items c.args.patterns.now c.loop-pattern.pattern-index c.pattern-item.result _
    c.pattern-item.is c.loop-pattern-test.true refl (c.in_default.ensures ∙ ap (λ names. first_of (filter (λ name. not (same_home (home (description c.args.names.now.desc.now) name) c.args.automaton)) names)) c.deref.ensures.value) c.loop-pattern.invariant
