use Rattle.std.proofs.Common.{◌≡◌, ◌++◌, take, drop, arith, rules}
use Rattle.hz_io.proofs.ReadLemmas.{front_more, front_ended, front_exceeded, buffer_front}
use Rattle.hz_io.proofs.reading.read_to_end.Goals as goal

pub returns-then-count-eq0-clause-tells : goal.returns-then-count-eq0-clause-tells
returns-then-count-eq0-clause-tells g c =
    λ unread is. front_ended (c.loop-bytes.invariant.front unread is) c.in_ok-count.ensures.reads c.if-count-eq0.true

pub returns-then-read-most-clause-tells : goal.returns-then-read-most-clause-tells
returns-then-read-most-clause-tells g c =
    λ unread is. front_exceeded c.args.most (c.loop-bytes.invariant.front unread is) c.in_ok-count.ensures.reads c.read.auto.into (search rules)

pub loop-bytes-preserved : goal.loop-bytes-preserved
loop-bytes-preserved g c =
    let read = c.in_ok-count.ensures.reads in
    let at_front : take c.in_ok-count.count (c.read.new.into ++ drop c.min-room.result c.loop-bytes.buffer) ≡ take c.in_ok-count.count c.read.new.into =
    buffer_front _ _ _ (omega (arith, read.within, c.read.auto.into)) in
    record {
      within = search rules;
      counted = search rules;
      held = search rules;
      front = λ unread is. rw (c.in_ok-extend_from_slice.ensures.items, at_front) (front_more (c.loop-bytes.invariant.front unread is) read);
      steady = λ s. search rules;
    }
