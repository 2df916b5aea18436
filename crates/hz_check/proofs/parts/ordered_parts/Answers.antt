use Rattle.std.proofs.Common.{◌≡◌, All, map, refl, sym, ap, ◌∙◌, subst}
use Rattle.hz_mdread.specs.Shape.{description}
use Rattle.hz_check.proofs.Telling.CheckSteps.{beyond, skip}
use Rattle.hz_check_reservations.proofs.Unwinding.{unfolded}
use Rattle.hz_altern.specs.Shapes.{alternatives}
use Rattle.hz_description_model.specs.Reservations.AlternativeLists.{AreSound}
use Rattle.hz_description_model.specs.Reservations.Alternatives.{alternatives_of}
use Rattle.hz_description_model.specs.Reservations.Automata.{listed}
use Rattle.hz_check_reservations.specs.Shape.{lists_of, place_of}
use Rattle.hz_check_reservations.specs.Orders.{reservings}
use Rattle.hz_check.proofs.parts.ordered_parts.Goals as goal

pub returns-clause-ok : goal.returns-clause-ok
returns-clause-ok c =
    let d = description c.args.names.now.desc.now in
    let o = c.requires in
    let lists = c.in-Ok-class_lists.ensures.ok in
    let all = unfolded d o.named o.formed c.args.order.now o.ordered in
    let right = all.1.right in
    record {
      known = all.0;
      sound = record {
        order = reservings d c.args.order.now;
        unfolded = all.1;
        free = (beyond d all.0 (reservings d c.args.order.now) c.in-Ok.ensures.within
            (skip (lists.extents.few all.0 right) (skip (lists.extents.short all.0 right) (skip (lists.expanded.within all.0 right)
            (skip (lists.rules.mixed all.0 right) (skip (lists.rules.uneven all.0 right) (skip lists.once (skip lists.queries (record { is = refl }))))))))).is;
      };
      automata = c.in_ok-assemble.ensures.automata;
      places = ap (map place_of) c.in_ok-assemble.ensures.places ∙ c.in-Ok.ensures.places.all;
      bypasses = c.in_ok-assemble.ensures.bypasses;
      sets = c.in_ok-assemble.ensures.sets;
      placed = c.in_ok-assemble.ensures.placed;
      lists = subst (λ items. lists_of items ≡ map (λ class. map listed (alternatives_of all.0 class.expression)) d.classes) (sym c.in_ok-assemble.ensures.lists) (lists.expanded.each all.0 right);
      each = subst (λ items. All (λ list. AreSound (alternatives list.items)) items) (sym c.in_ok-assemble.ensures.lists) lists.expanded.sound;
    }
