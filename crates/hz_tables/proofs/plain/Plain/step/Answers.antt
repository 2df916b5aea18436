use Rattle.std.proofs.Common.{◌+◌, ◌*◌, ◌<◌, ◌≤◌, length, sym, ◌∙◌, arith, None}
use Rattle.std.proofs.lemmas.List.{get_or_default}
use Rattle.hz_tables.specs.Stored.{rows_in}
use Rattle.hz_tables.proofs.RowLaws.{length-rows_in, entry-rows_in, place_below}
use Rattle.hz_tables.proofs.plain.Plain.step.Goals as goal

pub index-requires : goal.index-requires
index-requires c =
    let within : c.args.state < length (rows_in (c.self.inside.columns + 1) c.self.inside.states c.self.inside.cells.items) = rw (← c.self.view_is) at c.requires.state in
    let column : c.args.column ≤ c.self.inside.columns = rw (← c.self.view_is) at c.requires.column in
    let long = length-rows_in (c.self.inside.columns + 1) c.self.inside.states c.self.inside.cells.items in
    let below = place_below (c.self.inside.columns + 1) c.self.inside.states c.args.state c.args.column (omega arith) (omega arith) in
    let each = c.self.invariant.each in
    omega arith

pub returns : goal.returns
returns c =
    let within : c.args.state < length (rows_in (c.self.inside.columns + 1) c.self.inside.states c.self.inside.cells.items) = rw (← c.self.view_is) at c.requires.state in
    let column : c.args.column ≤ c.self.inside.columns = rw (← c.self.view_is) at c.requires.column in
    let long = length-rows_in (c.self.inside.columns + 1) c.self.inside.states c.self.inside.cells.items in
    let below = place_below (c.self.inside.columns + 1) c.self.inside.states c.args.state c.args.column (omega arith) (omega arith) in
    let each = c.self.invariant.each in
    let place = c.args.state * (c.self.inside.columns + 1) + c.args.column in
    let read = get_or_default c.self.inside.cells.items place c.index.result.now None (omega arith) in
    rw (← c.self.view_is) (c.index.ensures ∙ read ∙ sym (entry-rows_in (c.self.inside.columns + 1) c.self.inside.states c.self.inside.cells.items c.args.state c.args.column (omega arith) (omega arith)))
