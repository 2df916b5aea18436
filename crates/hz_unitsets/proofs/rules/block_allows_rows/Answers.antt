use Rattle.hz_unitsets.specs.declared.rules.Asked.{Asked}
use Rattle.hz_unitsets.specs.RowRules.{asked_statement, AllowsRows}
use Rattle.hz_unitsets.proofs.Blocks.{passes_allow, between_hold}
use Rattle.hz_unitsets.proofs.rules.block_allows_rows.Goals as goal

pub returns-then-passes_rows : goal.returns-then-passes_rows
returns-then-passes_rows c = (
  λ t. passes_allow c.args.rules.now c.args.block.now c.args.there c.args.added c.requires.asked c.requires.block c.requires.unbroken (c.passes_rows.ensures t),
  λ _. c.if-passes_rows.true,
)

pub returns-else-passes_rows : goal.returns-else-passes_rows
returns-else-passes_rows c =
    let both = between_hold (λ (asked : Asked). AllowsRows (asked_statement asked) c.args.there c.args.added) c.args.rules.now c.args.block.now.from c.args.block.now.to c.requires.block.order c.requires.block.within in
    (λ t. both.0 (c.all_allow_rows.ensures.0 t), λ h. c.all_allow_rows.ensures.1 (both.1 h))
