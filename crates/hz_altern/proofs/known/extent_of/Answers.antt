use Rattle.std.proofs.Common.{◌≡◌, ap, ◌∙◌, arith}
use Rattle.std.proofs.lemmas.List.{take_all, length-map}
use Rattle.hz_altern.specs.Shapes.{alternatives, alternative_of}
use Rattle.hz_description_model.specs.Reservations.AlternativeLists.{greatest_length}
use Rattle.hz_altern.proofs.Lengths.{greatest_more, greatest_runs, greatest_sound}
use Rattle.hz_altern.proofs.known.extent_of.Goals as goal

pub loop-alt-preserved : goal.loop-alt-preserved
loop-alt-preserved c =
    let more = greatest_more c.args.alts.now c.loop-alt.alt-index c.alt-item.result c.loop-alt-test.true in
    cc

-- the loop's number is that of all
longest : (c : goal.After-loop-alt) → c.loop-alt.longest ≡ greatest_length (alternatives c.args.alts.now)
longest c = c.loop-alt.invariant ∙ ap (λ xs. greatest_length (alternatives xs)) (take_all c.loop-alt.alt-index c.args.alts.now c.loop-alt-test.false)

pub invariant_of-result : goal.invariant_of-result
invariant_of-result c =
    let alts = alternatives c.args.alts.now in
    let long = length-map c.args.alts.now alternative_of in
    let some = c.requires.some in
    let few = c.requires.few in
    let runs = greatest_runs alts some c.requires.each in
    let short = greatest_sound alts c.requires.each in
    let all = longest c in
    record {
      some = omega arith;
      few = omega arith;
      runs = omega arith;
      short = omega arith;
    }
