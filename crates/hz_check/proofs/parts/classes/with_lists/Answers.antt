use Rattle.std.proofs.Common.{◌≡◌, ◌<◌, ◌++◌, ◌∷◌, [], All, map, take, length, sym, ap, ◌∙◌, subst, arith}
use Rattle.std.proofs.lemmas.Iterator.Adapters.{YieldsList-from_vec}
use Rattle.std.proofs.lemmas.Iterator.Consumers.{YieldsList-turn}
use Rattle.std.proofs.lemmas.List.{map-append, length_push}
use Rattle.std.proofs.lemmas.List.Elements.{All-same}
use Rattle.hz_altern.specs.Shapes.{alternatives}
use Rattle.hz_mdread.specs.Shape.{class_item}
use Rattle.hz_checked.specs.Shape.{class_of}
use Rattle.hz_check.specs.Parts.Classes.{class_with, classes_with}
use Rattle.hz_check.proofs.Built.ClassLists.{classes_next}
use Rattle.hz_description_model.specs.Reservations.AlternativeLists.{IsCuttable}
use Rattle.hz_check.proofs.parts.classes.with_lists.Goals as goal

pub checked_class-requires-clause-cuttable : goal.checked_class-requires-clause-cuttable
checked_class-requires-clause-cuttable c =
    let v = c.index-alts-len.result in
    let gives = c.into_iter-class-iterator.ensures.into_iter_gives in
    let all : c.into_iter-class-iterator.result.rest.len ≡ length c.args.classes.items = omega (arith, gives.1, c.args.classes.ok.0) in
    let turn = YieldsList-turn (YieldsList-from_vec c.args.classes.items gives.0 all) c.loop-class.yielded c.loop-class.class-iterator c.loop-class.yielded_by c.next.result c.next.new.self c.in-Some.class c.in-Some.is c.next.ensures.steps in
    let lt : c.len.result < length c.args.alts.now = omega (arith, turn.0, c.requires.each, c.args.classes.ok.0, c.len.ensures, c.loop-class.invariant.count) in
    All-same IsCuttable (alternatives c.deref.result.now) (alternatives v.items) (ap alternatives c.deref.ensures.value)
    (subst (λ w. All IsCuttable (alternatives w.items)) (sym c.index-alts-len.is) (c.requires.cuttable c.len.result v lt))

pub loop-class-preserved : goal.loop-class-preserved
loop-class-preserved c =
    let v = c.index-alts-len.result in
    let x = c.in-Some.class in
    let xs = c.loop-class.yielded in
    let alts = c.args.alts.now in
    let made = c.loop-class.made.items in
    let new = c.in_ok-checked_class.field-0 in
    let gives = c.into_iter-class-iterator.ensures.into_iter_gives in
    let all : c.into_iter-class-iterator.result.rest.len ≡ length c.args.classes.items = omega (arith, gives.1, c.args.classes.ok.0) in
    let turn = YieldsList-turn (YieldsList-from_vec c.args.classes.items gives.0 all) c.loop-class.yielded c.loop-class.class-iterator c.loop-class.yielded_by c.next.result c.next.new.self c.in-Some.class c.in-Some.is c.next.ensures.steps in
    let lt : c.len.result < length c.args.alts.now = omega (arith, turn.0, c.requires.each, c.args.classes.ok.0, c.len.ensures, c.loop-class.invariant.count) in
    let same : c.len.result ≡ length xs = c.len.ensures ∙ c.loop-class.invariant.count in
    record {
      count = omega (arith, length_push xs x, c.in_ok-push.ensures.len, c.loop-class.invariant.count);
      made = ap (map class_of) c.in_ok-push.ensures.items
          ∙ (map-append class_of made (new ∷ [])
          ∙ (ap (λ parts. parts ++ class_of new ∷ []) c.loop-class.invariant.made
          ∙ (ap (λ part. classes_with c.args.automata (map (λ each. alternatives each.items) (take (length xs) alts)) (map class_item xs) ++ part ∷ [])
          (c.in_ok-checked_class.ensures ∙ ap (λ ys. class_with c.args.automata (alternatives ys) (class_item x)) c.deref.ensures.value)
          ∙ sym (classes_next c.args.automata alts xs c.len.result v x c.index-alts-len.is lt same))));
    }
