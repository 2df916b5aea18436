use Rattle.std.proofs.Common.{ℕ, List, Option, [], map, subst, rules}
use Rattle.std.specs.List.{flat_map}
use Rattle.hz_io.specs.Pages.{Adds, Added, Stopped}
use Rattle.hz_io.proofs.Adding.{stopped_before, adds_then, adds_failed}
use Rattle.std.specs.Prelude.{slice_index_or}
use Rattle.hz_base_model.specs.Pairs.{Pair}
use Rattle.hz_tabtext_model.specs.Texts.{line_text, origin_line, grid_line}
use Rattle.hz_tabtext_model.specs.Said.{named_grid}
use Rattle.hz_auto.specs.Reports.{shown_of}
use Rattle.hz_tabfile.proofs.writing.shown.add_shown.Goals as goal

pub returns-in_err-add_origin : goal.returns-in_err-add_origin
returns-in_err-add_origin g c =
    adds_failed c.add_origin.new.page.items c.from_residual.result (search rules)
    (stopped_before (flat_map line_text (map grid_line (map (named_grid c.args.units.now) (slice_index_or (shown_of c.args.shown.now).states c.args.state []))))
    (subst (λ (origin : Option (ℕ × ℕ)). Stopped g.S.Sink.written g.S.Sink.room g.S.Sink.faults c.args.out.now c.add_origin.new.out c.args.page.now.items (line_text (origin_line origin))) c.origin_of.ensures c.in_err-add_origin.ensures))

pub returns : goal.returns
returns g c =
    adds_then c.add_grids.new.out c.add_grids.new.page.items (flat_map line_text (map grid_line (map (named_grid c.args.units.now) (slice_index_or (shown_of c.args.shown.now).states c.args.state [])))) c.add_grids.result
    (subst (λ (origin : Option (ℕ × ℕ)). Added g.S.Sink.written g.S.Sink.room g.S.Sink.faults c.args.out.now c.add_origin.new.out c.args.page.now.items c.add_origin.new.page.items (line_text (origin_line origin))) c.origin_of.ensures c.in_ok-add_origin.ensures)
    (subst (λ (grids : List (List (Pair ℕ))). Adds g.S.Sink.written g.S.Sink.room g.S.Sink.faults c.add_origin.new.out c.add_grids.new.out c.add_origin.new.page.items c.add_grids.new.page.items (flat_map line_text (map grid_line (map (named_grid c.args.units.now) grids))) c.add_grids.result) c.grids_of.ensures c.add_grids.ensures)
