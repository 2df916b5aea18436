use Rattle.std.proofs.Common.{◌≡◌, map, drop}
use Rattle.hz_why_model.specs.Reasons.{same_place}
use Rattle.hz_why_model.specs.Takes.{are_same}
use Rattle.hz_reasons.specs.Plans.{place_of}
use Rattle.hz_explain.proofs.takes.are_same.Given as goal

abbrev pub invariant-loop-place : goal.invariant-loop-place
invariant-loop-place l = are_same same_place (map place_of (drop l.place l.one)) (map place_of (drop l.place l.other)) ≡ are_same same_place (map place_of l.one) (map place_of l.other)
