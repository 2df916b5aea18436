use Rattle.std.proofs.Common.{◌++◌, map}
use Rattle.hz_io.proofs.Writing.{cut_before, writes_then}
use Rattle.hz_rtl.specs.Shape.{instructions}
use Rattle.hz_measure_model.specs.Exposed.Texts.{place_text, from_text, writer_text}
use Rattle.hz_timed.specs.Shape.{place_of}
use Rattle.hz_timed.proofs.writing.put_line.Goals as goal

pub returns-in-Ok : goal.returns-in-Ok
returns-in-Ok g c = writes_then c.put_end.new.out (place_text (place_of c.args.read.now.what) ++ from_text (writer_text (map (λ i. i.number) (instructions c.args.block.now)) c.args.read.now.from)) c.put_end.result c.in-Ok.ensures c.put_end.ensures

pub returns-in-Err : goal.returns-in-Err
returns-in-Err g c = cut_before (place_text (place_of c.args.read.now.what) ++ from_text (writer_text (map (λ i. i.number) (instructions c.args.block.now)) c.args.read.now.from)) c.in-Err.ensures
