use Rattle.std.proofs.Common.{take, drop, sym, rules}
use Rattle.std.proofs.lemmas.List.{take-append-drop}
use Rattle.hz_io.proofs.mem_sink.MemSinkSink.put.Goals as goal

pub returns-then-count-bytes-clause-writes : goal.returns-then-count-bytes-clause-writes
returns-then-count-bytes-clause-writes c = record {
  front = take c.min-count.result c.args.bytes.now;
  back = drop c.min-count.result c.args.bytes.now;
  parts = sym (take-append-drop _ _);
  counted = search rules;
  appended = λ before is. search rules;
  exceeded = λ most is. search rules;
}
