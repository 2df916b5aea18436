use Rattle.std.proofs.Common.{◌≡◌, List, map, subst, arith}
use Rattle.std.specs.Prelude.{OnOk}
use Rattle.hz_why_model.specs.Lists.{Run}
use Rattle.hz_explain.specs.Listing.{run_of}
use Rattle.hz_explain.proofs.ListLaws.{after_last, after_none}
use Rattle.hz_explain.proofs.lists.add_to_runs.Goals as goal

pub returns-in-Some : goal.returns-in-Some
returns-in-Some c =
    subst (λ (rs : List Run). OnOk c.add_after.result (map run_of c.add_after.new.runs.items ≡ rs))
    (after_last c.args.runs.now.items c.pop.new.self.items c.in-Some.last c.args.number c.in-Some.ensures.items) c.add_after.ensures

pub returns-in-None : goal.returns-in-None
returns-in-None c =
    subst (λ (rs : List Run). OnOk c.add_run.result (map run_of c.add_run.new.runs.items ≡ rs))
    (after_none c.args.runs.now.items c.pop.new.self.items c.args.number (omega (arith, c.in-None.ensures.cases.0)) (omega (arith, c.in-None.ensures.cases.1))) c.add_run.ensures
