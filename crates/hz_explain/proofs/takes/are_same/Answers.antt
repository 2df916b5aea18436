use Rattle.std.proofs.Common.{◌≡◌, true, map, sym, arith}
use Rattle.std.proofs.lemmas.Bool.{false_from_ne_true}
use Rattle.std.proofs.lemmas.List.{length-map}
use Rattle.hz_why_model.specs.Reasons.{same_place}
use Rattle.hz_why_model.specs.Takes.{are_same}
use Rattle.hz_reasons.specs.Plans.{place_of}
use Rattle.hz_explain.proofs.TakingLaws.{same_length}
use Rattle.hz_explain.proofs.takes.are_same.Goals as goal

pub returns-then-one-other : goal.returns-then-one-other
returns-then-one-other c =
    let xs = c.args.one.now in
    let ys = c.args.other.now in
    sym (false_from_ne_true _ (λ (same : are_same same_place (map place_of xs) (map place_of ys) ≡ true).
    let long = same_length (map place_of xs) (map place_of ys) same in
    let one = length-map xs place_of in
    let other = length-map ys place_of in
    absurd (omega arith)))
