use Rattle.std.proofs.Common.{◌<◌, ◌≤◌, All, length, sym, subst}
use Rattle.indexmap.specs.IndexSet.{index_set_len}
use Rattle.hz_base_model.specs.Limits.{class_limit, automaton_limit}
use Rattle.hz_replay.proofs.NameLemmas.{more_units}
use Rattle.hz_replay.proofs.names.Names.with_units.Goals as goal

pub invariant_of-result : goal.invariant_of-result
invariant_of-result c =
    let kept = c.self.invariant in
    let room = subst (λ names. length names.queries < automaton_limit) (sym c.self.view_is) c.requires.room in
    let more = more_units c.self.inside.units.items c.in_ok-set.set c.args.units.now kept.1 c.in_ok-set.ensures c.requires.few room in
    let is = c.in_ok-with_part.ensures in
    (subst (λ set. index_set_len set ≤ class_limit) (sym c.classes.view_is) kept.0, subst (All (λ set. index_set_len set ≤ class_limit)) (sym is) more.0, subst (λ sets. length sets ≤ automaton_limit) (sym is) more.1)
