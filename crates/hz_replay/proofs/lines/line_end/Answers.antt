use Rattle.std.proofs.Common.{◌≡◌, ◌+◌, ◌-◌, ◌∷◌, [], length, take, drop, sym, ap, ◌∙◌, arith, length-drop}
use Rattle.std.proofs.lemmas.List.{drop-drop, drop_all, take_all, take_rest}
use Rattle.hz_base_model.specs.Lines.{lines_of}
use Rattle.hz_base_model.proofs.LineLaws.{lines_of_at, lines_of_none}
use Rattle.hz_replay.proofs.lines.line_end.Goals as goal

pub returns-in-Some-clause-lines : goal.returns-in-Some-clause-lines
returns-in-Some-clause-lines c =
    let xs = c.args.text.now in
    let from = c.args.from in
    let n = c.in-Some.length in
    let feed = rw take_rest at c.line_feed.ensures in
    let first = lines_of_at (drop from xs) n (sym feed ∙ c.in-Some.is) in
    let long : n ≡ from + n - from = omega arith in
    let place : from + (n + 1) ≡ from + n + 1 = omega arith in
    first ∙ (ap (λ k. take k (drop from xs) ∷ lines_of (drop (n + 1) (drop from xs))) long
    ∙ ap (λ rest. take (from + n - from) (drop from xs) ∷ lines_of rest) (drop-drop (n + 1) from xs ∙ ap (λ k. drop k xs) place))

pub returns-in-None-clause-lines : goal.returns-in-None-clause-lines
returns-in-None-clause-lines c =
    let xs = c.args.text.now in
    let from = c.args.from in
    let long = length-drop from xs in
    let feed = rw take_rest at c.line_feed.ensures in
    let first = lines_of_none (drop from xs) (omega arith) (sym feed ∙ c.in-None.is) in
    first ∙ (ap (λ line. line ∷ []) (sym (take_all (length xs - from) (drop from xs) (omega arith)))
    ∙ ap (λ rest. take (length xs - from) (drop from xs) ∷ lines_of rest) (sym (drop_all (length xs + 1) xs (omega arith))))
