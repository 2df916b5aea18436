use Rattle.std.proofs.Common.{◌≡◌, map, take}
use Rattle.hz_why_model.specs.Lists.{range_text}
use Rattle.hz_explain.specs.Listing.{run_of}
use Rattle.hz_explain.proofs.lists.ranges.Given as goal

abbrev pub invariant-loop-run : goal.invariant-loop-run
invariant-loop-run l = map (λ range. range.items) l.ranges.items ≡ map (λ run. range_text run.first run.last) (map run_of (take l.run-index l.runs))
