use Rattle.std.proofs.Common.{◌<◌, ◌++◌, ◌∷◌, [], length, map, take, sym, ap, ◌∙◌, subst, arith}
use Rattle.std.proofs.lemmas.List.{length_push, length-take-le}
use Rattle.hz_pipeline_model.specs.Compiling.AutomatonPipelines.{lists_at}
use Rattle.hz_pipeline_model.specs.Compiling.ClassColumns.{IsColumns}
use Rattle.hz_checked.specs.declared.checked.CheckedClass.{CheckedClass}
use Rattle.hz_checked.specs.Shape.{class_of}
use Rattle.hz_auto.proofs.CheckedFacts.{lists_more, list_held, lists_count}
use Rattle.hz_auto.proofs.ColumnLemmas.{columns_pushed, few_columns}
use Rattle.hz_auto.proofs.columns.columns_of.Goals as goal

pub overflow_cast-column : goal.overflow_cast-column
overflow_cast-column c =
    let lists = lists_at (map class_of (take c.loop-class.class-index c.args.classes.now)) c.args.automaton in
    let pushed = columns_pushed lists c.loop-class.lists.keys c.loop-class.map.items c.loop-class.invariant c.in_ok-list.list c.in_ok-column.column c.number_of.new.lists.keys c.in_ok-column.ensures in
    let few = few_columns (lists ++ c.in_ok-list.list ∷ []) c.number_of.new.lists.keys (c.loop-class.map.items ++ c.in_ok-column.column ∷ []) pushed in
    let within = (c.in_ok-column.ensures).within in
    let here = c.loop-class-test.true in
    let all = c.requires.few in
    let count = lists_count (take c.loop-class.class-index c.args.classes.now) c.args.automaton in
    omega (arith, few, within, here, all, length_push lists c.in_ok-list.list, count, length-take-le c.loop-class.class-index c.args.classes.now (omega (arith, here)))

pub loop-class-preserved : goal.loop-class-preserved
loop-class-preserved c =
    let i = c.loop-class.class-index in
    let here = c.loop-class-test.true in
    let lists = lists_at (map class_of (take i c.args.classes.now)) c.args.automaton in
    let item = c.class-item.result in
    let within = subst (λ (x : CheckedClass). c.args.automaton < length x.lists.items) (sym c.class-item.is) (c.requires.lists i item here) in
    let list = list_held item c.args.automaton c.index.result.now within ∙ (ap (λ v. v.items) (sym c.index.ensures) ∙ (sym c.deref.ensures.value ∙ sym c.in_ok-list.ensures)) in
    subst (λ ls. IsColumns ls c.number_of.new.lists.keys c.push.new.self.items) (sym (lists_more c.args.classes.now c.args.automaton i item c.in_ok-list.list here c.class-item.is list))
    (subst (IsColumns (lists ++ c.in_ok-list.list ∷ []) c.number_of.new.lists.keys) (sym c.in_ok-push.ensures.items)
    (columns_pushed lists c.loop-class.lists.keys c.loop-class.map.items c.loop-class.invariant c.in_ok-list.list c.in_ok-column.column c.number_of.new.lists.keys c.in_ok-column.ensures))
