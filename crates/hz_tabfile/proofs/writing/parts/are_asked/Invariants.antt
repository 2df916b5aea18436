use Rattle.std.proofs.Common.{◌≡◌, [], take}
use Rattle.hz_tabfile.proofs.Asked.{asks_in}
use Rattle.hz_tabfile.proofs.writing.parts.are_asked.Given as goal

abbrev pub invariant-loop-part : goal.invariant-loop-part
invariant-loop-part l = asks_in (take l.part-index l.parts) ≡ []
