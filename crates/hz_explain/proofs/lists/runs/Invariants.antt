use Rattle.std.proofs.Common.{◌≡◌, map, take}
use Rattle.hz_why_model.specs.Lists.{runs}
use Rattle.hz_explain.specs.Listing.{run_of}
use Rattle.hz_explain.proofs.lists.runs.Given as goal

abbrev pub invariant-loop-number : goal.invariant-loop-number
invariant-loop-number l = map run_of l.runs.items ≡ runs (take l.number-index l.numbers)
