use Rattle.std.proofs.Common.{map, filter, ap, ◌∙◌}
use Rattle.std.specs.Prelude.{not}
use Rattle.hz_block_model.specs.Dependences.Classes.{bypass_between}
use Rattle.hz_checked.specs.Shape.{bypass_of}
use Rattle.hz_rtl.specs.Shape.{instruction}
use Rattle.hz_depend.proofs.NumberLemmas.{ripe_by}
use Rattle.hz_depend.proofs.finding.listed.ripe.Goals as goal

pub returns : goal.returns
returns c =
    ripe_by c.args.checked.now c.args.producer_class c.args.consumer_class c.index.result.now (instruction c.args.producer.now) (instruction c.args.consumer.now)
    c.number_listed-guarded.result c.number_listed-plain.result c.served.result c.requires c.index.ensures
    (c.number_listed-guarded.ensures ∙ ap (λ bs. bypass_between (filter (λ b. b.guard) (map bypass_of bs)) c.args.producer_class c.args.consumer_class) c.deref.ensures.value)
    (c.number_listed-plain.ensures ∙ ap (λ bs. bypass_between (filter (λ b. not b.guard) (map bypass_of bs)) c.args.producer_class c.args.consumer_class) c.deref-2.ensures.value) c.served.ensures
