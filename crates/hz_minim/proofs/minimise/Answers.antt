use Rattle.std.proofs.Common.{subst, sym}
use Rattle.std.proofs.lemmas.Result.{IfOk-weaker}
use Rattle.hz_pipeline_model.specs.Tables.Apart.{WalkTheSame}
use Rattle.hz_pipeline_model.specs.Least.Normal.{IsNormal}
use Rattle.hz_minim.specs.Leading.{IsSettled}
use Rattle.hz_minim.specs.Folding.{IsFolded}
use Rattle.hz_minim.proofs.WalkLaws.{folded_walks, folded_normal}
use Rattle.hz_minim.proofs.minimise.Goals as goal

pub returns-clause-walks : goal.returns-clause-walks
returns-clause-walks c =
    let settled = subst (IsSettled c.args.plain.now.rows c.args.plain.now.columns) (sym c.deref-2.ensures.value) c.in_ok-settled.ensures in
    IfOk-weaker c.fold.result (IsFolded c.args.plain.now.rows c.args.plain.now.columns c.deref-2.result.now) (λ least. WalkTheSame c.args.plain.now.rows least.rows)
    (λ folded is. folded_walks c.args.plain.now.rows c.args.plain.now.columns c.deref-2.result.now folded c.requires settled is) c.fold.ensures

pub returns-clause-normal : goal.returns-clause-normal
returns-clause-normal c =
    let settled = subst (IsSettled c.args.plain.now.rows c.args.plain.now.columns) (sym c.deref-2.ensures.value) c.in_ok-settled.ensures in
    IfOk-weaker c.fold.result (IsFolded c.args.plain.now.rows c.args.plain.now.columns c.deref-2.result.now) (λ least. IsNormal least.rows least.columns)
    (λ folded is. folded_normal c.args.plain.now.rows c.args.plain.now.columns c.deref-2.result.now folded c.requires settled is) c.fold.ensures
