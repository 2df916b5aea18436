use Rattle.std.proofs.Common.{map}
use Rattle.hz_io.proofs.Writing.{cut_before, writes_then}
use Rattle.hz_rtl.specs.Shape.{instructions}
use Rattle.hz_measure_model.specs.Exposed.Texts.{from_text, writer_text}
use Rattle.hz_timed.proofs.writing.put_end.Goals as goal

pub returns-in-Ok : goal.returns-in-Ok
returns-in-Ok g c = writes_then c.put_writer.new.out (from_text (writer_text (map (λ i. i.number) (instructions c.args.block.now)) c.args.from)) c.put_writer.result c.in-Ok.ensures c.put_writer.ensures

pub returns-in-Err : goal.returns-in-Err
returns-in-Err g c = cut_before (from_text (writer_text (map (λ i. i.number) (instructions c.args.block.now)) c.args.from)) c.in-Err.ensures
