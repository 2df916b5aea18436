use Rattle.std.proofs.Common.{◌≡◌, drop}
use Rattle.hz_io.specs.Drive.{entries_of, bytes_of}
use Rattle.hz_io.proofs.mem_files.place_of.Given as goal

abbrev pub invariant-loop-place : goal.invariant-loop-place
invariant-loop-place l =
    bytes_of (drop l.place (entries_of l.files)) l.name ≡ bytes_of (entries_of l.files) l.name
