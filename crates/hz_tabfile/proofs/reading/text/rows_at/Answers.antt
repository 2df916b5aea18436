use Rattle.std.proofs.Common.{ℕ, ◌+◌, ◌-◌, ◌++◌, ◌∷◌, [], length, sym, ap, ◌∙◌, subst, Option, List, arith}
use Rattle.std.proofs.lemmas.List.{length-append}
use Rattle.std.proofs.lemmas.Result.{err_from_is_err_and}
use Rattle.hz_tables.specs.Rows.{AreStates}
use Rattle.hz_tabtext_model.specs.Reading.{so_many, next_row, row_at}
use Rattle.hz_tabtext_model.proofs.FieldLaws.{some_lines}
use Rattle.hz_tabtext_model.proofs.MachineLaws.{row_shape}
use Rattle.hz_tabfile.specs.Rests.{left_of}
use Rattle.hz_tabfile.specs.Texts.{AreTargets}
use Rattle.hz_tabfile.proofs.Many.{with_front, many_goes, many_stops, many_ends}
use Rattle.hz_tabfile.proofs.Shapes.{are_states, targets_pushed}
use Rattle.hz_tabfile.proofs.reading.text.rows_at.Goals as goal

pub returns-in_err-rest-clause-rows : goal.returns-in_err-rest-clause-rows
returns-in_err-rest-clause-rows c =
    let p = err_from_is_err_and c.from_residual.result c.from_residual.ensures.1 in
    rw (p.1, p.2) (many_stops next_row (row_at c.args.size.columns c.args.size.asks c.args.size.states) c.loop-number.plain.rows c.args.size.states c.loop-number.number c.loop-number.number (left_of c.loop-number.rest) (so_many next_row (row_at c.args.size.columns c.args.size.asks c.args.size.states) c.args.size.states 0 (left_of c.args.rest)) c.loop-number.invariant.rows c.in_err-rest.field-0.0 c.loop-number-test.true c.in_err-rest.ensures)

pub push_row-requires-clause-width : goal.push_row-requires-clause-width
push_row-requires-clause-width c =
    let shape = row_shape c.args.size.columns c.args.size.asks c.args.size.states c.loop-number.number (left_of c.loop-number.rest) c.row_at.new.entries.items (left_of c.in_ok-rest.rest) c.loop-number-test.true (some_lines c.loop-number.rest.bytes.now) c.in_ok-rest.ensures in
    ap length c.deref.ensures.value ∙ (shape.0 ∙ ap (λ n. n + 1) (sym c.loop-number.invariant.columns))

pub push_row-requires-clause-targets : goal.push_row-requires-clause-targets
push_row-requires-clause-targets c =
    let shape = row_shape c.args.size.columns c.args.size.asks c.args.size.states c.loop-number.number (left_of c.loop-number.rest) c.row_at.new.entries.items (left_of c.in_ok-rest.rest) c.loop-number-test.true (some_lines c.loop-number.rest.bytes.now) c.in_ok-rest.ensures in
    subst AreStates (sym c.deref.ensures.value) (are_states c.args.size.states c.row_at.new.entries.items c.requires.states shape.1)

pub loop-number-preserved : goal.loop-number-preserved
loop-number-preserved c =
    let pushed = c.in_ok-push_row.ensures.pushed ∙ ap (λ (row : List (Option ℕ)). c.loop-number.plain.rows ++ row ∷ []) c.deref.ensures.value in
    record {
      rows = ap (λ rows. with_front rows (so_many next_row (row_at c.args.size.columns c.args.size.asks c.args.size.states) (c.args.size.states - (c.loop-number.number + 1)) (c.loop-number.number + 1) (left_of c.in_ok-rest.rest))) pushed
          ∙ many_goes next_row (row_at c.args.size.columns c.args.size.asks c.args.size.states) c.loop-number.plain.rows c.args.size.states c.loop-number.number c.loop-number.number (left_of c.loop-number.rest) (so_many next_row (row_at c.args.size.columns c.args.size.asks c.args.size.states) c.args.size.states 0 (left_of c.args.rest)) c.loop-number.invariant.rows c.row_at.new.entries.items (left_of c.in_ok-rest.rest) (c.loop-number.number + 1) c.loop-number-test.true (omega arith) c.in_ok-rest.ensures;
      columns = c.in_ok-push_row.ensures.columns ∙ c.loop-number.invariant.columns;
      count = ap length pushed ∙ (length-append c.loop-number.plain.rows (c.row_at.new.entries.items ∷ []) ∙ ap (λ n. n + 1) c.loop-number.invariant.count);
      targets =
          let shape = row_shape c.args.size.columns c.args.size.asks c.args.size.states c.loop-number.number (left_of c.loop-number.rest) c.row_at.new.entries.items (left_of c.in_ok-rest.rest) c.loop-number-test.true (some_lines c.loop-number.rest.bytes.now) c.in_ok-rest.ensures in
          subst (AreTargets c.args.size.states) (sym pushed) (targets_pushed c.args.size.states c.loop-number.plain.rows c.row_at.new.entries.items c.loop-number.invariant.targets shape.1);
    }

pub returns-clause-rows : goal.returns-clause-rows
returns-clause-rows c = many_ends next_row (row_at c.args.size.columns c.args.size.asks c.args.size.states) c.loop-number.plain.rows c.args.size.states c.loop-number.number c.loop-number.number (left_of c.loop-number.rest) (so_many next_row (row_at c.args.size.columns c.args.size.asks c.args.size.states) c.args.size.states 0 (left_of c.args.rest)) c.loop-number.invariant.rows c.loop-number-test.false
