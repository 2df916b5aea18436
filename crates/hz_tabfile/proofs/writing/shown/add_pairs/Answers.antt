use Rattle.std.proofs.Common.{◌≡◌, ◌<◌, ◌≤◌, ◌+◌, ℕ, List, length, ap, sym, subst, ◌∙◌, arith}
use Rattle.std.specs.List.{flat_map, range_with_len}
use Rattle.std.proofs.lemmas.List.FromFn.{get_or-range_with_len, length-range_with_len}
use Rattle.hz_io.specs.Pages.{Added, Stopped}
use Rattle.hz_tabfile.specs.Spaced.{pairs_text}
use Rattle.hz_io.proofs.Adding.{each_added_as, each_stopped_as, each_done}
use Rattle.hz_tabfile.proofs.GridTexts.{in_cycle, cycle_texts, grid_texts, cycle_by_cycle}
use Rattle.hz_tabfile.proofs.writing.shown.add_pairs.Goals as goal

pub loop-cycle-preserved : goal.loop-cycle-preserved
loop-cycle-preserved g c =
    let n = c.length-cycle-end.result in
    let i = c.loop-cycle.cycle in
    let at : 0 + i ≡ i = omega arith in
    let inside : i < length (range_with_len 0 n) = omega (arith, length-range_with_len 0 n, c.loop-cycle-test.true) in
    each_added_as (λ (cycle : ℕ). pairs_text c.args.units.now (in_cycle c.args.grid.now cycle)) (range_with_len 0 n) i 0 _ inside
    (ap (λ (cycle : ℕ). pairs_text c.args.units.now (in_cycle c.args.grid.now cycle)) (get_or-range_with_len 0 n i 0 c.loop-cycle-test.true ∙ at)
    ∙ sym (cycle_texts c.args.units.now c.args.grid.now c.length-cycle-end.ensures.grid i c.row.result c.row.ensures c.requires.units))
    c.loop-cycle.invariant c.in-Ok.ensures

pub returns-in-Err : goal.returns-in-Err
returns-in-Err g c =
    let n = c.length-cycle-end.result in
    let i = c.loop-cycle.cycle in
    let at : 0 + i ≡ i = omega arith in
    let inside : i < length (range_with_len 0 n) = omega (arith, length-range_with_len 0 n, c.loop-cycle-test.true) in
    let whole : flat_map (λ cycle. pairs_text c.args.units.now (in_cycle c.args.grid.now cycle)) (range_with_len 0 n) ≡ pairs_text c.args.units.now c.args.grid.now =
    grid_texts c.args.units.now c.args.grid.now (range_with_len 0 n) ∙ ap (pairs_text c.args.units.now) (cycle_by_cycle c.args.grid.now c.length-cycle-end.ensures.grid n c.length-cycle-end.ensures.above) in
    subst (λ (text : List ℕ). Stopped g.S.Sink.written g.S.Sink.room g.S.Sink.faults c.args.out.now c.add_cycle.new.out c.args.page.now.items text) whole
    (each_stopped_as (λ (cycle : ℕ). pairs_text c.args.units.now (in_cycle c.args.grid.now cycle)) (range_with_len 0 n) i 0 _ inside
    (ap (λ (cycle : ℕ). pairs_text c.args.units.now (in_cycle c.args.grid.now cycle)) (get_or-range_with_len 0 n i 0 c.loop-cycle-test.true ∙ at)
    ∙ sym (cycle_texts c.args.units.now c.args.grid.now c.length-cycle-end.ensures.grid i c.row.result c.row.ensures c.requires.units))
    c.loop-cycle.invariant c.in-Err.ensures)

pub returns : goal.returns
returns g c =
    let n = c.length-cycle-end.result in
    let most : length (range_with_len 0 n) ≤ c.loop-cycle.cycle = omega (arith, length-range_with_len 0 n, c.loop-cycle-test.false) in
    let whole : flat_map (λ cycle. pairs_text c.args.units.now (in_cycle c.args.grid.now cycle)) (range_with_len 0 n) ≡ pairs_text c.args.units.now c.args.grid.now =
    grid_texts c.args.units.now c.args.grid.now (range_with_len 0 n) ∙ ap (pairs_text c.args.units.now) (cycle_by_cycle c.args.grid.now c.length-cycle-end.ensures.grid n c.length-cycle-end.ensures.above) in
    subst (λ (text : List ℕ). Added g.S.Sink.written g.S.Sink.room g.S.Sink.faults c.args.out.now c.loop-cycle.out c.args.page.now.items c.loop-cycle.page.items text) whole
    (each_done (λ (cycle : ℕ). pairs_text c.args.units.now (in_cycle c.args.grid.now cycle)) (range_with_len 0 n) c.loop-cycle.cycle most c.loop-cycle.invariant)

pub add_cycle-requires-clause-faults : goal.add_cycle-requires-clause-faults
add_cycle-requires-clause-faults g c = let same = c.loop-cycle.invariant.wrote.counted in omega (arith, same, c.requires.faults)
