use Rattle.std.proofs.Common.{length, arith, refl, rules}
use Rattle.hz_bound.specs.Rows.{row_at}
use Rattle.hz_bound.proofs.TailLemmas.{row_inside, tails_small, starts_chain, none_begins, begun_ends, ends_at_last, goes_on}
use Rattle.hz_bound.proofs.chain.chain_of.Goals as goal

pub returns-in_default : goal.returns-in_default
returns-in_default c = none_begins (row_at c.args.rows.now) c.args.tails.now c.greatest_of.result c.new-chain.result.items c.first_of.result c.greatest_of.ensures c.first_of.ensures (search rules) c.new-chain.ensures.items

pub loop-turn-init : goal.loop-turn-init
loop-turn-init c =
    let (inside, begun) = starts_chain (row_at c.args.rows.now) c.args.tails.now c.greatest_of.result c.in-Some.first c.push.new.self.items c.first_of.result c.greatest_of.ensures c.first_of.ensures c.in-Some.is (search rules) in
    record { ahead = omega arith; inside = inside; begun = begun }

pub returns-then-tail-eq0 : goal.returns-then-tail-eq0
returns-then-tail-eq0 c = begun_ends (row_at c.args.rows.now) (length c.args.rows.now) c.requires.upward c.args.tails.now c.requires.tails c.loop-turn.place c.loop-turn.chain.items c.loop-turn.invariant.begun (search rules)

pub next_of-requires-clause-inside : goal.next_of-requires-clause-inside
next_of-requires-clause-inside c = row_inside (row_at c.args.rows.now) (length c.args.rows.now) c.requires.upward c.loop-turn.place c.row_of.result.now (length c.args.tails.now) c.row_of.ensures c.requires.tails.long

pub next_of-requires-clause-small : goal.next_of-requires-clause-small
next_of-requires-clause-small c = tails_small (row_at c.args.rows.now) (length c.args.rows.now) c.requires.upward 0 c.args.tails.now c.requires.tails c.requires.few

pub returns-in_default-next_of : goal.returns-in_default-next_of
returns-in_default-next_of c = ends_at_last (row_at c.args.rows.now) (length c.args.rows.now) c.requires.upward c.args.tails.now c.requires.tails c.loop-turn.place _ c.row_of.result.now c.loop-turn.chain.items c.next_of.result c.loop-turn.invariant.begun c.loop-turn.invariant.inside refl c.row_of.ensures c.next_of.ensures (search rules)

pub loop-turn-preserved : goal.loop-turn-preserved
loop-turn-preserved c =
    let (up, low, begun) = goes_on (row_at c.args.rows.now) (length c.args.rows.now) c.requires.upward c.args.tails.now c.requires.tails c.loop-turn.place c.in-Some-next_of.next _ c.row_of.result.now c.loop-turn.chain.items c.push-in-loop-turn.new.self.items c.next_of.result c.loop-turn.invariant.begun refl c.row_of.ensures (search rules) c.next_of.ensures c.in-Some-next_of.is (search rules) in
    record { ahead = omega (arith, c.loop-turn.invariant.ahead, up); inside = low; begun = begun }
