use Rattle.std.proofs.Common.{◌++◌, ◌∷◌, [], ap, ◌∙◌, arith}
use Rattle.hz_tables.proofs.LayLaws.{row_more}
use Rattle.hz_tables.proofs.laying.Laying.lay_row.Goals as goal

pub returns-clause-laid : goal.returns-clause-laid
returns-clause-laid c = row_more c.args.plain.now.rows c.args.plain.now.columns c.args.state _ _ _ _ _ _ _ _ _ _ _ _
    c.requires.targets c.requires.laid c.requires.next c.requires.state c.states-free.ensures.states c.base_of-base.ensures.low
    (let same = c.columns.ensures.columns in omega (arith, same))
    c.base_of-base.ensures.fits c.in_ok-columns_of.ensures.all c.in_ok-grow.ensures.owners c.in_ok-grow.ensures.targets c.lay_at.ensures.lays
    (c.in_ok-push.ensures.items ∙ ap (λ bases. bases ++ c.base_of-base.result ∷ []) (c.lay_at.ensures.bases ∙ c.grow.ensures.bases))
