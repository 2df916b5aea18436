use Rattle.std.proofs.Common.{◌≡◌, sym, ◌∙◌, arith, None}
use Rattle.hz_base_model.specs.Names.{name_of}
use Rattle.hz_regexp.proofs.Pieces.{separated_are, all_separated, no_names}
use Rattle.hz_regexp.proofs.lists.parse_names.Goals as goal

pub returns-in-None-clause-bad : goal.returns-in-None-clause-bad
returns-in-None-clause-bad c = λ _.
    let none : name_of c.trimmed.result.now ≡ None = sym c.in_ok-name.ensures.named ∙ c.in-None.is in
    rw (← separated_are _ _ c.args.text.now c.in_ok-pieces.ensures c.deref-piece-items.ensures.value)
    (no_names c.deref-piece-items.result.now c.loop-piece.piece-index _ (omega arith) (rw c.trimmed.ensures at none))

pub returns-clause-names : goal.returns-clause-names
returns-clause-names c = c.loop-piece.invariant.names ∙ all_separated _ _ c.args.text.now c.loop-piece.piece-index (omega arith) c.in_ok-pieces.ensures c.deref-piece-items.ensures.value

pub returns-clause-good : goal.returns-clause-good
returns-clause-good c =
    let all = c.loop-piece.invariant.names ∙ all_separated _ _ c.args.text.now c.loop-piece.piece-index (omega arith) c.in_ok-pieces.ensures c.deref-piece-items.ensures.value in
    rw (← all) c.loop-piece.invariant.good
