use Rattle.hz_mdread.specs.Shape.{description, set_item}
use Rattle.hz_check_reservations.specs.Places.{reported}
use Rattle.hz_check.proofs.Lists.Earliest.{found_next, found_stored}
use Rattle.hz_description_model.specs.Check.CheckFaults.{sites_of, strangers, names_of_set}
use Rattle.hz_check.proofs.faults.set_across_automata.set_across_automata.Goals as goal

pub loop-set-preserved : goal.loop-set-preserved
loop-set-preserved c =
    found_next (λ s. sites_of s.line s.form (strangers (description c.args.names.now.desc.now) (names_of_set (set_item s)))) (reported c.loop-set.first) _ (reported c.earlier-first.result) _ c.deref-set-items.result.now c.loop-set.set-index c.set-item.result
    c.set-item.is c.loop-set-test.true c.stranger_of.ensures c.earlier-first.ensures c.loop-set.invariant

pub returns : goal.returns
returns c =
    let stored = c.args.names.now.desc.now in
    found_stored (λ s. sites_of s.line s.form (strangers (description stored) (names_of_set s))) set_item _ stored.sets.items _ _ c.deref-set-items.ensures.value c.loop-set-test.false c.loop-set.invariant
