use Rattle.std.proofs.Common.{◌≡◌, map, length, ap, ◌∙◌, arith}
use Rattle.std.proofs.lemmas.List.{length-map}
use Rattle.hz_reasons.specs.Holding.{older}
use Rattle.hz_reasons.proofs.HoldingLaws.{after_advance}
use Rattle.hz_reasons.proofs.Reading.{written_back}
use Rattle.hz_reasons.proofs.holders.Holders.advance.Goals as goal

pub returns : goal.returns
returns c = λ m t lines choices are.
    let n = c.args.cycles in
    let kept = c.keep.new.issues.items in
    let moved : c.pass.new.issues ≡ map (older n) kept = c.pass.ensures ∙ ap (map (older n)) c.as_mut_slice.ensures.value in
    let whole = written_back c.keep.new.issues.len kept c.pass.new.issues (omega arith) (ap length moved ∙ length-map kept (older n)) in
    after_advance m t lines choices c.args.self.now.issues.items are n _ (whole ∙ moved ∙ ap (map (older n)) c.keep.ensures)
