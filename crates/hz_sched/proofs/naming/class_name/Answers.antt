use Rattle.std.proofs.Common.{◌<◌, [], ℕ, length, sym, ap, ◌∙◌, subst, arith}
use Rattle.std.specs.Prelude.{slice_index_or}
use Rattle.std.proofs.lemmas.List.{get_or_default}
use Rattle.hz_block_model.specs.Scheduling.Schedules.{class_at}
use Rattle.hz_sched.specs.Shape.{graph_of}
use Rattle.hz_sched.proofs.NamingLemmas.{class_within}
use Rattle.hz_sched.proofs.naming.class_name.Goals as goal

pub index-requires : goal.index-requires
index-requires c =
    let classes = c.args.machine.now.classes in
    let count = length classes.items in
    let low = subst (λ (n : ℕ). n < count) (sym c.class_at.ensures) (class_within c.args.graph.now count c.args.place c.requires.place c.requires.classes) in
    let long = classes.ok.0 in
    omega (arith, low, long)

pub returns : goal.returns
returns c =
    let names = c.args.machine.now.classes.items in
    let here = c.index.result.now in
    let low = class_within c.args.graph.now (length names) c.args.place c.requires.place c.requires.classes in
    c.index.ensures ∙ (ap (λ (n : ℕ). slice_index_or names n here) c.class_at.ensures ∙ get_or_default names (class_at (graph_of c.args.graph.now) c.args.place) here [] low)
