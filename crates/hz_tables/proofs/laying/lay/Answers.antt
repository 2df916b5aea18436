use Rattle.hz_tables.proofs.LayLaws.{lays_more}
use Rattle.hz_pipeline_model.specs.Tables.Tables.{entry}
use Rattle.hz_tables.proofs.laying.lay.Goals as goal

pub loop-column-preserved : goal.loop-column-preserved
loop-column-preserved c = lays_more (entry c.args.plain.now.rows c.args.state) c.loop-column.column c.args.base c.args.state c.args.owners.now c.args.targets.now _ _ _ _ c.loop-column.invariant c.step.result c.step.ensures c.lay_entry.ensures.owner c.lay_entry.ensures.target c.lay_entry.ensures.others c.lay_entry.ensures.owners c.lay_entry.ensures.targets
