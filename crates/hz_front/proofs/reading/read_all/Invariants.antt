use Rattle.std.proofs.Common.{take}
use Rattle.hz_front.proofs.ReadLemmas.{AreReadSo}
use Rattle.hz_front.proofs.reading.read_all.Given as goal

abbrev pub invariant-loop-file : goal.invariant-loop-file
invariant-loop-file g l = AreReadSo g.F.Files.faults g.F.Files.held g.F.Files.steady l.fn.files l.files (take l.file-index l.wanted) l.texts.items
