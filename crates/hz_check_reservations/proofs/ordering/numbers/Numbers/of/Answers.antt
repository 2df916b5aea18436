use Rattle.std.proofs.Common.{◌≡◌, ℕ, ◌-◌, cond, List, Some, drop, length, sym, ap, ◌∙◌, arith}
use Rattle.std.specs.List.{position_from}
use Rattle.std.specs.Map.{lookup}
use Rattle.std.specs.Ordering.{nat_cmp, is_eq}
use Rattle.std.specs.Cmp.Lexicographic.{slice_cmp}
use Rattle.std.specs.Str.{bytes_eq}
use Rattle.std.proofs.lemmas.List.{drop_all}
use Rattle.hz_mdread.specs.declared.items.ReservationItem.{ReservationItem}
use Rattle.hz_check_reservations.proofs.FirstNames.{names_of, length-names_of, place_from_zero, placed_before}
use Rattle.hz_check_reservations.proofs.ordering.numbers.Numbers.of.Goals as goal

pub loop-i-init : goal.loop-i-init
loop-i-init c = λ name.
    ap (lookup (λ k. is_eq (slice_cmp nat_cmp name k))) c.new-names.ensures.empty
    ∙ sym (ap (position_from (bytes_eq name) (length c.args.reservations.now)) (drop_all (length c.args.reservations.now) (names_of c.args.reservations.now) (omega (arith, length-names_of c.args.reservations.now))))

pub loop-i-preserved : goal.loop-i-preserved
loop-i-preserved c = λ name.
    let i = c.loop-i.i in
    let item = c.index-reservations-i.result in
    c.in_ok-insert.ensures.updates.0 name
    ∙ (ap (cond (is_eq (slice_cmp nat_cmp c.in_ok-name.name name)) (Some (i - 1))) (c.loop-i.invariant name)
    ∙ (ap (λ (n : List ℕ). cond (is_eq (slice_cmp nat_cmp n name)) (Some (i - 1)) (position_from (bytes_eq name) i (drop i (names_of c.args.reservations.now)))) (c.in_ok-name.ensures ∙ ap (λ (r : ReservationItem). r.name) (sym c.index-reservations-i.is))
    ∙ sym (placed_before c.args.reservations.now i item name (omega arith) (omega arith) c.index-reservations-i.is)))

pub returns : goal.returns
returns c = λ name.
    let none : c.loop-i.i ≡ 0 = omega arith in
    c.loop-i.invariant name ∙ (ap (λ (n : ℕ). position_from (bytes_eq name) n (drop n (names_of c.args.reservations.now))) none ∙ sym (place_from_zero name (names_of c.args.reservations.now)))
