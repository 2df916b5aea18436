use Rattle.std.proofs.Common.{◌≡◌, length, map, refl, sym, ap, ◌∙◌, subst, arith}
use Rattle.std.proofs.lemmas.List.{length-map}
use Rattle.hz_altern.specs.Shapes.{alternatives}
use Rattle.hz_mdread.specs.Shape.{description, class_item, attribute_item}
use Rattle.hz_checked.specs.Shape.{automaton_of}
use Rattle.hz_check.proofs.Lists.Next.{map-map}
use Rattle.hz_check.proofs.Built.PartSteps.{length-automata, kept_of}
use Rattle.hz_description_model.proofs.Check.KeptLaws.{parts_kept}
use Rattle.hz_description_model.proofs.Check.QueryLaws.{asks_nothing}
use Rattle.hz_description_model.specs.Check.CheckedShape.{AskNothingUnderNdfa}
use Rattle.hz_description_model.specs.Reservations.Alternatives.{alternatives_of}
use Rattle.hz_description_model.specs.Reservations.Automata.{listed}
use Rattle.hz_description_model.specs.Check.CheckedParts.{automaton_count}
use Rattle.hz_check.proofs.checking.assembled.Goals as goal

pub checked_classes-requires-clause-few : goal.checked_classes-requires-clause-few
checked_classes-requires-clause-few c =
    let d = description c.args.desc in
    let kept = parts_kept d c.requires.parts.known c.requires.formed c.requires.parts.sound in
    let few = kept.few in
    let count = c.len-count.ensures in
    let stored = c.args.parts.automata.ok.0 in
    let made = length-map c.args.parts.automata.items automaton_of in
    let same = ap length c.requires.parts.automata in
    omega (arith, few, count, stored, made, same)

pub checked_classes-requires-clause-each : goal.checked_classes-requires-clause-each
checked_classes-requires-clause-each c =
    ap length c.deref.ensures.value
    ∙ (sym (length-map c.args.parts.lists.items (λ list. alternatives list.items))
    ∙ (ap length c.requires.parts.lists
    ∙ (length-map (map class_item c.args.desc.classes.items) (λ item. map listed (alternatives_of c.requires.parts.known item.expression))
    ∙ (length-map c.args.desc.classes.items class_item ∙ sym c.args.desc.classes.ok.0))))

pub invariant_of-result : goal.invariant_of-result
invariant_of-result c =
    let d = description c.args.desc in
    let known = c.requires.parts.known in
    let count = c.len-count.ensures in
    let stored = c.args.parts.automata.ok.0 in
    let made = length-map c.args.parts.automata.items automaton_of in
    let same = ap length c.requires.parts.automata in
    let names = length-automata d in
    let counted : automaton_count d ≡ c.len-count.result = omega (arith, count, stored, made, same, names) in
    record {
      kept = kept_of d known (parts_kept d known c.requires.formed c.requires.parts.sound) _ _ _ _ c.requires.parts.automata
          (c.in_ok-classes.ensures d known counted (ap (map (λ list. alternatives list.items)) c.deref.ensures.value ∙ c.requires.parts.lists))
          c.requires.parts.bypasses (c.in_ok-attributes.ensures.values ∙ sym (map-map (λ a. (a.name, a.values)) attribute_item c.args.desc.attributes.items));
      asks = subst (AskNothingUnderNdfa c.args.desc.options.ndfa) (sym c.requires.parts.automata) (asks_nothing d known c.requires.parts.sound);
    }

pub returns : goal.returns
returns c =
    let d = description c.args.desc in
    let known = c.requires.parts.known in
    let count = c.len-count.ensures in
    let stored = c.args.parts.automata.ok.0 in
    let made = length-map c.args.parts.automata.items automaton_of in
    let same = ap length c.requires.parts.automata in
    let names = length-automata d in
    let counted : automaton_count d ≡ c.len-count.result = omega (arith, count, stored, made, same, names) in
    record {
      known = known;
      sound = c.requires.parts.sound;
      automata = c.requires.parts.automata;
      classes = c.in_ok-classes.ensures d known counted (ap (map (λ list. alternatives list.items)) c.deref.ensures.value ∙ c.requires.parts.lists);
      bypasses = c.requires.parts.bypasses;
      attributes = c.in_ok-attributes.ensures.values ∙ sym (map-map (λ a. (a.name, a.values)) attribute_item c.args.desc.attributes.items);
      defaults = c.in_ok-attributes.ensures.defaults ∙ sym (map-map (λ a. (a.name, a.fallback)) attribute_item c.args.desc.attributes.items);
      options = refl;
    }
