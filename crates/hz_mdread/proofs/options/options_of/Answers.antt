use Rattle.std.proofs.Common.{sym, ap, ◌∙◌, arith}
use Rattle.hz_description_model.specs.Reading.Descriptions.{no_options}
use Rattle.hz_description_model.specs.Reading.DescriptionForms as model
use Rattle.hz_mdread.specs.Shape.{options}
use Rattle.hz_mdread.proofs.ListLemmas.{separated_are, option_fails, options_end}
use Rattle.hz_mdread.proofs.options.options_of.Goals as goal

pub returns-in-None : goal.returns-in-None
returns-in-None c =
    let items = c.deref-piece-items.result.now in
    let are = separated_are items c.in_ok-pieces.field-0.items c.args.bytes.now c.in_ok-pieces.ensures c.deref-piece-items.ensures.value in
    let fails = option_fails (options c.loop-piece.options) items c.loop-piece.piece-index _ (omega arith) (rw c.trimmed.ensures at (sym c.in-None.ensures)) in
    sym fails ∙ (c.loop-piece.invariant ∙ ap (model.with_options no_options) are)

pub returns : goal.returns
returns c =
    let items = c.deref-piece-items.result.now in
    let are = separated_are items c.in_ok-pieces.field-0.items c.args.bytes.now c.in_ok-pieces.ensures c.deref-piece-items.ensures.value in
    let all = options_end (options c.loop-piece.options) items c.loop-piece.piece-index (omega arith) in
    sym all ∙ (c.loop-piece.invariant ∙ ap (model.with_options no_options) are)
