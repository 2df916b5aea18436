use Rattle.std.proofs.Common.{ap, ◌∙◌}
use Rattle.hz_checked.specs.NumberRows.{rows_of, number_at}
use Rattle.hz_rtl.specs.Shape.{instruction}
use Rattle.hz_depend.proofs.NumberLemmas.{ripe_is}
use Rattle.hz_depend.proofs.finding.numbers.Numbers.ripe.Goals as goal

pub returns : goal.returns
returns c =
    ripe_is c.args.checked.now c.args.self.now c.args.producer_class c.args.consumer_class c.index.result.now (instruction c.args.producer.now) (instruction c.args.consumer.now)
    c.number_in-guarded.result c.number_in-plain.result c.served.result c.requires.numbers c.requires.producer c.index.ensures
    (c.number_in-guarded.ensures ∙ ap (λ rows. number_at (rows_of rows) c.args.producer_class c.args.consumer_class) c.deref.ensures.value)
    (c.number_in-plain.ensures ∙ ap (λ rows. number_at (rows_of rows) c.args.producer_class c.args.consumer_class) c.deref-2.ensures.value) c.served.ensures
