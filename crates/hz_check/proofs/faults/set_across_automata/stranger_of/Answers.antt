use Rattle.std.proofs.Common.{filter, not, sym, ap, ◌∙◌}
use Rattle.std.specs.List.{flat_map}
use Rattle.std.specs.Option.{option_copied}
use Rattle.hz_mdread.specs.Shape.{description, set_item}
use Rattle.hz_check.specs.Names.First.{first_of}
use Rattle.hz_check.proofs.Lists.FirstOf.{found_in_both}
use Rattle.hz_check.proofs.Tables.Homes.{strangers-of}
use Rattle.hz_check.proofs.Lists.Next.{flat_map-map}
use Rattle.hz_description_model.specs.Check.CheckFaults.{home, same_home, units_of_patterns, names_of_set}
use Rattle.hz_check.proofs.faults.set_across_automata.stranger_of.Goals as goal

pub returns : goal.returns
returns c =
    let set = c.args.set.now in
    let d = description c.args.names.now.desc.now in
    let first = c.in_ok-first_unit.field-0.now in
    let patterns = ap (flat_map (λ pattern. pattern.items)) c.deref-2.ensures.value ∙ sym (flat_map-map (λ pattern. pattern) (λ pattern. pattern.items) set.patterns.items) in
    c.site_in.ensures _
    (found_in_both (λ name. not (same_home (home d name) (home d first))) set.units.items (units_of_patterns (set_item set)) c.deref.result.now _ c.stranger.result c.stranger_in.result _
    c.or-unit.ensures c.deref.ensures.value patterns
    (c.stranger.ensures ∙ ap (λ a. first_of (filter (λ name. not (same_home (home d name) a)) c.deref.result.now)) c.home-automaton.ensures)
    (c.stranger_in.ensures ∙ ap (λ a. first_of (filter (λ name. not (same_home (home d name) a)) (flat_map (λ pattern. pattern.items) c.deref-2.result.now))) c.home-automaton.ensures)
    ∙ ap first_of (strangers-of d first (names_of_set (set_item set)) (ap option_copied (sym c.in_ok-first_unit.was) ∙ c.first_unit.ensures)))
