use Rattle.std.proofs.Common.{◌-◌, length, ap, ◌∙◌, arith}
use Rattle.hz_bound.specs.Rows.{row_at}
use Rattle.hz_bound.proofs.TailLemmas.{row_inside, tails_seen, tails_step}
use Rattle.hz_bound.proofs.tails.tails_of.Goals as goal

pub tail_of-tail-requires-clause-inside : goal.tail_of-tail-requires-clause-inside
tail_of-tail-requires-clause-inside c = row_inside (row_at c.args.rows.now) (length c.args.rows.now) c.requires.upward (c.loop-place.place - 1) c.row_of.result.now (length c.deref.result.now) c.row_of.ensures (ap length c.deref.ensures.value ∙ c.loop-place.invariant.long)

pub tail_of-tail-requires-clause-small : goal.tail_of-tail-requires-clause-small
tail_of-tail-requires-clause-small c = tails_seen (row_at c.args.rows.now) (length c.args.rows.now) c.requires.upward c.loop-place.place c.loop-place.tails.items c.deref.result.now c.deref.ensures.value c.loop-place.invariant c.requires.few

pub loop-place-preserved : goal.loop-place-preserved
loop-place-preserved c = tails_step (row_at c.args.rows.now) (length c.args.rows.now) c.requires.upward c.loop-place.place c.loop-place.tails.items c.tail_of-tail.result c.deref.result.now c.row_of.result.now c.deref.ensures.value c.row_of.ensures c.tail_of-tail.ensures (omega (arith, c.loop-place-test.true)) (omega (arith, c.loop-place.auto.place)) c.loop-place.invariant
