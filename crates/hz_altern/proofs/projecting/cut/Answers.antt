use Rattle.std.proofs.Common.{◌≡◌, ◌<◌, map, filter}
use Rattle.hz_base_model.specs.Limits.{cycle_limit, unit_limit}
use Rattle.hz_altern.specs.Cuts.{within_pairs}
use Rattle.hz_altern.specs.Shapes.{pairs_of}
use Rattle.hz_altern.proofs.CutLemmas.{cut_is_grid, each_found, grid_is, pairs_are}
use Rattle.hz_description_model.specs.Reservations.Automata.{inside, is_of}
use Rattle.hz_altern.proofs.projecting.cut.Goals as goal

pub of-requires-clause-units : goal.of-requires-clause-units
of-requires-clause-units c =
    let ps = pairs_of c.args.alt.now.pairs.items in
    let taken : within_pairs c.in_ok-pairs.pairs.items ≡ map inside (filter (is_of c.args.automaton) ps) = rw c.deref.ensures.value at c.in_ok-pairs.ensures in
    rw c.deref-2.ensures.value (each_found c.args.automaton ps c.requires.units c.requires.cycles c.in_ok-pairs.pairs.items c.put_in_order.new.pairs.items taken c.put_in_order.ensures.same (λ p. p.unit < unit_limit) (cut_is_grid c.args.automaton ps c.requires.units c.requires.cycles).units)

pub of-requires-clause-cycles : goal.of-requires-clause-cycles
of-requires-clause-cycles c =
    let ps = pairs_of c.args.alt.now.pairs.items in
    let taken : within_pairs c.in_ok-pairs.pairs.items ≡ map inside (filter (is_of c.args.automaton) ps) = rw c.deref.ensures.value at c.in_ok-pairs.ensures in
    rw c.deref-2.ensures.value (each_found c.args.automaton ps c.requires.units c.requires.cycles c.in_ok-pairs.pairs.items c.put_in_order.new.pairs.items taken c.put_in_order.ensures.same (λ p. p.cycle < cycle_limit) (cut_is_grid c.args.automaton ps c.requires.units c.requires.cycles).cycles)

pub returns-clause-pairs : goal.returns-clause-pairs
returns-clause-pairs c =
    let ps = pairs_of c.args.alt.now.pairs.items in
    let taken : within_pairs c.in_ok-pairs.pairs.items ≡ map inside (filter (is_of c.args.automaton) ps) = rw c.deref.ensures.value at c.in_ok-pairs.ensures in
    pairs_are c.args.automaton ps c.requires.units c.requires.cycles c.in_ok-pairs.pairs.items c.put_in_order.new.pairs.items taken c.put_in_order.ensures.same c.put_in_order.ensures.ascending

pub returns-clause-grid : goal.returns-clause-grid
returns-clause-grid c =
    let ps = pairs_of c.args.alt.now.pairs.items in
    let taken : within_pairs c.in_ok-pairs.pairs.items ≡ map inside (filter (is_of c.args.automaton) ps) = rw c.deref.ensures.value at c.in_ok-pairs.ensures in
    grid_is c.args.automaton ps c.requires.units c.requires.cycles c.in_ok-pairs.pairs.items c.put_in_order.new.pairs.items taken c.put_in_order.ensures.same c.in_ok-grid.grid c.in_ok-grid.ensures.grid (rw c.deref-2.ensures.value at c.in_ok-grid.ensures.pairs)
