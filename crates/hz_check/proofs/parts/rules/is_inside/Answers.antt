use Rattle.std.proofs.Common.{◌≡◌, ◌==◌, ◌&&◌, true, false, map, sym, ap, ◌∙◌}
use Rattle.std.proofs.Math.Path.{fun_ext}
use Rattle.std.specs.List.{list_all}
use Rattle.hz_check_reservations.specs.Shape.{place_of}
use Rattle.hz_check.proofs.Lists.Next.{list_all-map}
use Rattle.hz_description_model.specs.Reservations.Inside.{are_inside}
use Rattle.hz_check.proofs.parts.rules.is_inside.Goals as goal

pub returns-then-all_of : goal.returns-then-all_of
returns-then-all_of c =
    let a = c.args.automaton in
    let set = c.args.set.now in
    let units : are_inside a (map place_of set.units.items) ≡ true =
    list_all-map (λ u. u.automaton == a) place_of set.units.items ∙ (ap (list_all (λ u. u.automaton == a)) (sym c.deref.ensures.value) ∙ (sym c.all_of.ensures ∙ c.if-all_of.true)) in
    let patterns =
    c.all_of_patterns.ensures
    ∙ (ap (list_all (λ pattern. list_all (λ u. u.automaton == a) pattern.items)) c.deref-then-all_of.ensures.value
    ∙ (ap (λ test. list_all test set.patterns.items) (fun_ext (λ pattern. sym (list_all-map (λ u. u.automaton == a) place_of pattern.items)))
    ∙ sym (list_all-map (are_inside a) (λ pattern. map place_of pattern.items) set.patterns.items))) in
    patterns ∙ sym (ap (λ b. b && list_all (are_inside a) (map (λ pattern. map place_of pattern.items) set.patterns.items)) units)

pub returns-else-all_of : goal.returns-else-all_of
returns-else-all_of c =
    let a = c.args.automaton in
    let set = c.args.set.now in
    let units : are_inside a (map place_of set.units.items) ≡ false =
    list_all-map (λ u. u.automaton == a) place_of set.units.items ∙ (ap (list_all (λ u. u.automaton == a)) (sym c.deref.ensures.value) ∙ (sym c.all_of.ensures ∙ c.if-all_of.false)) in
    c.if-all_of.false ∙ sym (ap (λ b. b && list_all (are_inside a) (map (λ pattern. map place_of pattern.items) set.patterns.items)) units)
