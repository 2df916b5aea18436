use Rattle.std.proofs.Common.{◌<◌, ℕ, List, [], length, ap, sym, ◌∙◌, arith}
use Rattle.hz_tabtext_model.specs.Texts.{line_text, class_line}
use Rattle.std.proofs.lemmas.List.{get_or_default}
use Rattle.hz_io.proofs.Adding.{each_added_as, each_stopped_as, each_done}
use Rattle.hz_tabfile.proofs.writing.parts.add_classes.Goals as goal

pub loop-class-preserved : goal.loop-class-preserved
loop-class-preserved g c =
    let inside : c.loop-class.class-index < length c.args.classes.now = omega arith in
    each_added_as (λ (class : List ℕ). line_text (class_line class)) (c.args.classes.now) c.loop-class.class-index [] _ inside (ap (λ (class : List ℕ). line_text (class_line class)) (sym (c.class-item.is ∙ get_or_default c.args.classes.now c.loop-class.class-index c.class-item.result [] inside))) c.loop-class.invariant c.in-Ok.ensures

pub returns-in-Err : goal.returns-in-Err
returns-in-Err g c =
    let inside : c.loop-class.class-index < length c.args.classes.now = omega arith in
    each_stopped_as (λ (class : List ℕ). line_text (class_line class)) (c.args.classes.now) c.loop-class.class-index [] _ inside (ap (λ (class : List ℕ). line_text (class_line class)) (sym (c.class-item.is ∙ get_or_default c.args.classes.now c.loop-class.class-index c.class-item.result [] inside))) c.loop-class.invariant c.in-Err.ensures

pub returns : goal.returns
returns g c = each_done (λ (class : List ℕ). line_text (class_line class)) (c.args.classes.now) c.loop-class.class-index (omega arith) c.loop-class.invariant

pub add_class-requires : goal.add_class-requires
add_class-requires g c = let same = c.loop-class.invariant.wrote.counted in omega (arith, same, c.requires)
