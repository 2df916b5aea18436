use Rattle.std.proofs.Common.{◌≡◌, ◌+◌, ◌-◌, ◌≤◌, vec_len}
use Rattle.std.specs.Option.{ForSome}
use Rattle.hz_io.proofs.ReadLemmas.{HasReadFront}
use Rattle.hz_io.proofs.reading.read_to_end.Given as goal

abbrev pub invariant-loop-bytes : goal.invariant-loop-bytes
invariant-loop-bytes g l = record {
  within : vec_len l.bytes ≤ l.most;
  counted : g.F.Files.faults l.files ≡ g.F.Files.faults l.initial.files;
  held : g.F.Files.held l.files ≡ g.F.Files.held l.initial.files;
  front : ForSome (g.F.Files.rest l.initial.files) (λ unread. HasReadFront unread (g.F.Files.rest l.files) l.bytes.items);
  steady : g.F.Files.steady l.initial.files → g.F.Files.steady l.files;
}

abbrev pub decreases-loop-bytes : goal.decreases-loop-bytes
decreases-loop-bytes g l = l.most + 1 - vec_len l.bytes
