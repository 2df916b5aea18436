use Rattle.std.proofs.Common.{◌<◌, [], length, map, ap, arith}
use Rattle.std.specs.List.{flat_map, enumerate_from}
use Rattle.std.specs.Option.{option_map}
use Rattle.hz_io.proofs.Adding.{each_added_as, each_stopped_as, each_done}
use Rattle.hz_tables.specs.Parts.{rows_of}
use Rattle.hz_auto.specs.Reports.{shown_of}
use Rattle.hz_tabtext_model.specs.Texts.{RowText, line_text, row_lines}
use Rattle.hz_tabtext_model.specs.Said.{row_said}
use Rattle.hz_tabfile.proofs.PartTexts.{made_there, made_length}
use Rattle.hz_tabfile.proofs.writing.rows.add_states.Goals as goal

pub loop-state-preserved : goal.loop-state-preserved
loop-state-preserved g c =
    let low : c.loop-state.state < length (rows_of c.args.part.now.table) = omega (arith, c.states-state-end.ensures, c.loop-state-test.true) in
    let inside : c.loop-state.state < length (map (row_said c.args.units.now (option_map shown_of c.args.report.now.shown)) (enumerate_from 0 (rows_of c.args.part.now.table))) = omega (arith, low, made_length (row_said c.args.units.now (option_map shown_of c.args.report.now.shown)) (rows_of c.args.part.now.table)) in
    each_added_as (λ (row : RowText). flat_map line_text (row_lines row)) (map (row_said c.args.units.now (option_map shown_of c.args.report.now.shown)) (enumerate_from 0 (rows_of c.args.part.now.table))) c.loop-state.state ((row_said c.args.units.now (option_map shown_of c.args.report.now.shown)) (0, [])) _ inside
    (ap (λ (row : RowText). flat_map line_text (row_lines row)) (made_there (row_said c.args.units.now (option_map shown_of c.args.report.now.shown)) (rows_of c.args.part.now.table) c.loop-state.state [] low)) c.loop-state.invariant c.in-Ok.ensures

pub returns-in-Err : goal.returns-in-Err
returns-in-Err g c =
    let low : c.loop-state.state < length (rows_of c.args.part.now.table) = omega (arith, c.states-state-end.ensures, c.loop-state-test.true) in
    let inside : c.loop-state.state < length (map (row_said c.args.units.now (option_map shown_of c.args.report.now.shown)) (enumerate_from 0 (rows_of c.args.part.now.table))) = omega (arith, low, made_length (row_said c.args.units.now (option_map shown_of c.args.report.now.shown)) (rows_of c.args.part.now.table)) in
    each_stopped_as (λ (row : RowText). flat_map line_text (row_lines row)) (map (row_said c.args.units.now (option_map shown_of c.args.report.now.shown)) (enumerate_from 0 (rows_of c.args.part.now.table))) c.loop-state.state ((row_said c.args.units.now (option_map shown_of c.args.report.now.shown)) (0, [])) _ inside
    (ap (λ (row : RowText). flat_map line_text (row_lines row)) (made_there (row_said c.args.units.now (option_map shown_of c.args.report.now.shown)) (rows_of c.args.part.now.table) c.loop-state.state [] low)) c.loop-state.invariant c.in-Err.ensures

pub returns : goal.returns
returns g c = each_done (λ (row : RowText). flat_map line_text (row_lines row)) (map (row_said c.args.units.now (option_map shown_of c.args.report.now.shown)) (enumerate_from 0 (rows_of c.args.part.now.table))) c.loop-state.state (omega (arith, c.states-state-end.ensures, c.loop-state-test.false, made_length (row_said c.args.units.now (option_map shown_of c.args.report.now.shown)) (rows_of c.args.part.now.table))) c.loop-state.invariant

pub add_state-requires-clause-faults : goal.add_state-requires-clause-faults
add_state-requires-clause-faults g c = let same = c.loop-state.invariant.wrote.counted in omega (arith, same, c.requires.faults)
