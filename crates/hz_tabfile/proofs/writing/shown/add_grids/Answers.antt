use Rattle.std.proofs.Common.{◌≡◌, ◌<◌, ℕ, List, [], length, map, ap, sym, subst, ◌∙◌, arith}
use Rattle.std.specs.Prelude.{All}
use Rattle.std.specs.List.{flat_map}
use Rattle.std.proofs.lemmas.List.{get_or_default}
use Rattle.std.proofs.lemmas.List.Folds.{flat_map-map}
use Rattle.hz_base_model.specs.Pairs.{Pair}
use Rattle.hz_tabtext_model.specs.Texts.{line_text, grid_line}
use Rattle.hz_tabtext_model.specs.Said.{named_grid}
use Rattle.hz_io.specs.Pages.{Added, Stopped}
use Rattle.hz_io.proofs.Adding.{each_added_as, each_stopped_as, each_done}
use Rattle.hz_tabfile.proofs.writing.shown.add_grids.Goals as goal

-- the text of grids, line by line
grid_by_grid : (units : List (List ℕ)) (grids : List (List (Pair ℕ))) → flat_map (λ grid. line_text (grid_line (named_grid units grid))) grids ≡ flat_map line_text (map grid_line (map (named_grid units) grids))
grid_by_grid units grids = sym (flat_map-map (λ grid. line_text (grid_line grid)) (named_grid units) grids) ∙ sym (flat_map-map line_text grid_line (map (named_grid units) grids))

pub loop-grid-preserved : goal.loop-grid-preserved
loop-grid-preserved g c =
    let inside : c.loop-grid.grid-index < length c.args.grids.now = omega arith in
    each_added_as (λ (grid : List (Pair ℕ)). line_text (grid_line (named_grid c.args.units.now grid))) c.args.grids.now c.loop-grid.grid-index [] _ inside
    (ap (λ (grid : List (Pair ℕ)). line_text (grid_line (named_grid c.args.units.now grid))) (sym (c.grid-item.is ∙ get_or_default c.args.grids.now c.loop-grid.grid-index c.grid-item.result [] inside))) c.loop-grid.invariant c.in-Ok.ensures

pub returns-in-Err : goal.returns-in-Err
returns-in-Err g c =
    let inside : c.loop-grid.grid-index < length c.args.grids.now = omega arith in
    subst (λ (text : List ℕ). Stopped g.S.Sink.written g.S.Sink.room g.S.Sink.faults c.args.out.now c.add_grid.new.out c.args.page.now.items text) (grid_by_grid c.args.units.now c.args.grids.now)
    (each_stopped_as (λ (grid : List (Pair ℕ)). line_text (grid_line (named_grid c.args.units.now grid))) c.args.grids.now c.loop-grid.grid-index [] _ inside
    (ap (λ (grid : List (Pair ℕ)). line_text (grid_line (named_grid c.args.units.now grid))) (sym (c.grid-item.is ∙ get_or_default c.args.grids.now c.loop-grid.grid-index c.grid-item.result [] inside))) c.loop-grid.invariant c.in-Err.ensures)

pub returns : goal.returns
returns g c =
    subst (λ (text : List ℕ). Added g.S.Sink.written g.S.Sink.room g.S.Sink.faults c.args.out.now c.loop-grid.out c.args.page.now.items c.loop-grid.page.items text) (grid_by_grid c.args.units.now c.args.grids.now)
    (each_done (λ (grid : List (Pair ℕ)). line_text (grid_line (named_grid c.args.units.now grid))) c.args.grids.now c.loop-grid.grid-index (omega arith) c.loop-grid.invariant)

pub add_grid-requires-clause-faults : goal.add_grid-requires-clause-faults
add_grid-requires-clause-faults g c = let same = c.loop-grid.invariant.wrote.counted in omega (arith, same, c.requires.faults)

pub add_grid-requires-clause-units : goal.add_grid-requires-clause-units
add_grid-requires-clause-units g c =
    let inside : c.loop-grid.grid-index < length c.args.grids.now = omega arith in
    subst (λ (grid : List (Pair ℕ)). All (λ (pair : Pair ℕ). pair.unit < length c.args.units.now) grid) (sym c.grid-item.is) (c.requires.units c.loop-grid.grid-index c.grid-item.result inside)
