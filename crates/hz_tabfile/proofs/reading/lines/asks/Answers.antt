use Rattle.std.proofs.Common.{sym, ◌∙◌, arith}
use Rattle.hz_tabfile.proofs.Asks.{few_asks}
use Rattle.hz_tabfile.proofs.reading.lines.asks.Goals as goal

pub returns-clause-few : goal.returns-clause-few
returns-clause-few c =
    let few = few_asks c.args.columns c.args.states c.len.result (sym c.are_asks.ensures ∙ c.if-not-are_asks.false) in
    let long = c.in_ok-names.names.ok.0 in
    omega (arith, few, c.len.ensures, long)
