use Rattle.std.proofs.Common.{◌≡◌, length, subst, arith}
use Rattle.std.specs.Prelude.{nat_lt}
use Rattle.std.proofs.lemmas.Bool.{OnTrue_from, ltb-true}
use Rattle.hz_pipeline_model.specs.Tables.Tables.{IsTable}
use Rattle.hz_layer_rows.proofs.LeadingRows.{AreRows}
use Rattle.hz_layer_rows.proofs.LeadingLemmas.{table_of_rows}
use Rattle.hz_layer_rows.proofs.automata.tables.is_table.Goals as goal

pub returns : goal.returns
returns c =
    let all : c.loop-state.state ≡ length c.args.plain.now.rows = omega arith in
    OnTrue_from (nat_lt 0 c.states.result) (IsTable c.args.plain.now.rows c.args.plain.now.columns)
    (λ e.
    let some = ltb-true 0 c.states.result e in
    table_of_rows c.args.plain.now c.states.ensures.kept (subst (AreRows c.args.plain.now.rows c.args.plain.now.columns) all c.loop-state.invariant) (omega arith))
