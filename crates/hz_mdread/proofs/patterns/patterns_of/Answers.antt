use Rattle.std.proofs.Common.{ℕ, ◌∷◌, List, [], map, sym, ap, ◌∙◌, arith}
use Rattle.std.specs.Borrow.{Bor}
use Rattle.std.proofs.lemmas.List.{map-append}
use Rattle.hz_mdread.proofs.PatternLemmas.{now_all, patterns_fail, pattern_more, patterns_kept}
use Rattle.hz_mdread.proofs.patterns.patterns_of.Goals as goal
use Rattle.hz_description_model.specs.Reading.DescriptionForms.{words}

pub returns-in-None : goal.returns-in-None
returns-in-None c =
    let items = c.deref-piece-items.result.now in
    let d : Bor (List ℕ) = record { ref_ptr = (0, 0); now = [] } in
    let found = rw c.in-None.is at c.in_ok-pattern.ensures in
    let all = ap (map words) (ap now_all c.deref-piece-items.ensures.value ∙ c.in_ok-pieces.ensures) in
    sym (patterns_fail (map (λ pattern. pattern.items) c.loop-piece.patterns.items) items c.loop-piece.piece-index d _ (omega arith) (c.loop-piece.invariant.all ∙ all) (sym found))

pub loop-piece-preserved : goal.loop-piece-preserved
loop-piece-preserved c =
    let items = c.deref-piece-items.result.now in
    let d : Bor (List ℕ) = record { ref_ptr = (0, 0); now = [] } in
    let found = rw c.in-Some.is at c.in_ok-pattern.ensures in
    let views = ap (map (λ pattern. pattern.items)) c.in_ok-push-in-Some.ensures.items ∙ map-append (λ pattern. pattern.items) c.loop-piece.patterns.items (c.in-Some.pattern ∷ []) in
    let more = pattern_more (map (λ pattern. pattern.items) c.loop-piece.patterns.items) items c.loop-piece.piece-index d c.in-Some.pattern.items _ (omega arith) found c.loop-piece.invariant.all c.loop-piece.invariant.good in
    rw views (record { all = more.0; good = more.1 })

pub returns : goal.returns
returns c =
    let items = c.deref-piece-items.result.now in
    let all = ap (map words) (ap now_all c.deref-piece-items.ensures.value ∙ c.in_ok-pieces.ensures) in
    patterns_kept c.args.bytes.now (map (λ pattern. pattern.items) c.loop-piece.patterns.items) items c.loop-piece.piece-index (omega arith) (c.loop-piece.invariant.all ∙ all) c.loop-piece.invariant.good
