use Rattle.std.proofs.Common.{length}
use Rattle.hz_auto.proofs.AskLemmas.{none_there, some_there, few_there, nothing_asked, nothing_within, asked_within, asked_past}
use Rattle.hz_auto.proofs.asks.add_asks.Goals as goal

pub with_asks-requires-clause-columns : goal.with_asks-requires-clause-columns
with_asks-requires-clause-columns c = few_there c.args.explored c.args.asks.now c.args.caps.now c.requires.kept c.requires.askable

pub with_asks-requires-clause-single : goal.with_asks-requires-clause-single
with_asks-requires-clause-single c = c.requires.askable.single (some_there (length c.args.asks.now) c.is_empty.result c.is_empty.ensures c.if-is_empty.false)

pub returns-then-is_empty-clause-asked : goal.returns-then-is_empty-clause-asked
returns-then-is_empty-clause-asked c = nothing_asked c.args.explored c.args.asks.now c.args.caps.now c.requires.kept c.requires.askable (none_there (length c.args.asks.now) c.is_empty.result c.is_empty.ensures c.if-is_empty.true)

pub returns-then-is_empty-clause-within : goal.returns-then-is_empty-clause-within
returns-then-is_empty-clause-within c = nothing_within c.args.explored c.args.asks.now c.args.caps.now c.requires.kept c.requires.askable (none_there (length c.args.asks.now) c.is_empty.result c.is_empty.ensures c.if-is_empty.true)

pub returns-clause-within : goal.returns-clause-within
returns-clause-within c = asked_within c.args.explored c.args.asks.now c.args.caps.now c.requires.kept c.requires.askable c.with_asks.result c.with_asks.ensures.cells

pub returns-clause-fault : goal.returns-clause-fault
returns-clause-fault c = asked_past c.args.explored c.args.asks.now c.args.caps.now c.requires.kept c.requires.askable c.with_asks.result c.with_asks.ensures.cells c.with_asks.ensures.faults
