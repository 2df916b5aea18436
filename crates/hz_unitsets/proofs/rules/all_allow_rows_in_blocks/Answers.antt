use Rattle.std.proofs.Common.{sym, subst}
use Rattle.hz_unitsets.specs.declared.rules.Asked.{Asked}
use Rattle.hz_unitsets.specs.RowRules.{asked_statement, AllowsRows, IsBlock}
use Rattle.hz_unitsets.proofs.Cycles.{all_rest, rest_hold}
use Rattle.hz_unitsets.proofs.Blocks.{first_and_between}
use Rattle.hz_unitsets.proofs.rules.all_allow_rows_in_blocks.Goals.{then-block-next+else-not-block_allows_rows, else-block-next}
use Rattle.hz_unitsets.proofs.rules.all_allow_rows_in_blocks.Goals as goal

pub loop-block-preserved : goal.loop-block-preserved
loop-block-preserved c =
    let rules = c.args.rules.now in
    let block = c.block-item.result in
    let is : IsBlock rules block = subst (IsBlock rules) (sym c.block-item.is) (c.requires.blocks c.loop-block.block-index block c.loop-block-test.true) in
    elim c.if-block-next.branch [
      | then-block-next+else-not-block_allows_rows w ↦
          let between = w.block_allows_rows.ensures.0 w.if-not-block_allows_rows.false in
          rw w.next-is (record {
            before = first_and_between (λ (asked : Asked). AllowsRows (asked_statement asked) c.args.there c.args.added) rules c.loop-block.next block.to c.loop-block.invariant.before (λ k d low high. between k d (rw w.if-block-next.true low) high);
            within = is.within;
          })
      | else-block-next w ↦ rw w.next-is c.loop-block.invariant
    ]

pub returns : goal.returns
returns c = (
  λ t. rest_hold (λ (asked : Asked). AllowsRows (asked_statement asked) c.args.there c.args.added) c.args.rules.now c.loop-block.next c.loop-block.invariant.before (c.all_allow_rows.ensures.0 t),
  λ h. c.all_allow_rows.ensures.1 (all_rest (λ (asked : Asked). AllowsRows (asked_statement asked) c.args.there c.args.added) c.args.rules.now c.loop-block.next h),
)
