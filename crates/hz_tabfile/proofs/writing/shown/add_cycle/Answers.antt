use Rattle.std.proofs.Common.{◌≡◌, ◌<◌, ◌+◌, ℕ, List, [], length, ap, sym, ◌∙◌, arith}
use Rattle.std.specs.List.{range_with_len}
use Rattle.std.proofs.lemmas.List.{get_or_default}
use Rattle.std.proofs.lemmas.List.FromFn.{get_or-range_with_len, length-range_with_len}
use Rattle.std.specs.Prelude.{if◌then◌else◌}
use Rattle.hz_grid.specs.Rows.{has_unit}
use Rattle.hz_tabtext_model.specs.Texts.{pair_field}
use Rattle.hz_tabfile.specs.Spaced.{spaced, unit_text}
use Rattle.hz_io.proofs.Adding.{each_added_as, each_stopped_as, each_done}
use Rattle.hz_tabfile.proofs.writing.shown.add_cycle.Goals as goal

pub loop-number-preserved : goal.loop-number-preserved
loop-number-preserved g c =
    let low : c.loop-number.number < length c.args.units.now = omega arith in
    let at : 0 + c.loop-number.number ≡ c.loop-number.number = omega arith in
    let inside : c.loop-number.number < length (range_with_len 0 (length c.args.units.now)) = omega (arith, length-range_with_len 0 (length c.args.units.now)) in
    each_added_as (unit_text c.args.units.now c.args.cycle c.args.row) (range_with_len 0 (length c.args.units.now)) c.loop-number.number 0 _ inside (ap (λ (k : ℕ). unit_text c.args.units.now c.args.cycle c.args.row k) (get_or-range_with_len 0 (length c.args.units.now) c.loop-number.number 0 low ∙ at) ∙ ap (λ (unit : List ℕ). if has_unit c.args.row c.loop-number.number then spaced (pair_field (c.args.cycle, unit)) else []) (sym (c.index-units-number.is ∙ get_or_default c.args.units.now c.loop-number.number c.index-units-number.result [] low))) c.loop-number.invariant c.in-Ok.ensures

pub returns-in-Err : goal.returns-in-Err
returns-in-Err g c =
    let low : c.loop-number.number < length c.args.units.now = omega arith in
    let at : 0 + c.loop-number.number ≡ c.loop-number.number = omega arith in
    let inside : c.loop-number.number < length (range_with_len 0 (length c.args.units.now)) = omega (arith, length-range_with_len 0 (length c.args.units.now)) in
    each_stopped_as (unit_text c.args.units.now c.args.cycle c.args.row) (range_with_len 0 (length c.args.units.now)) c.loop-number.number 0 _ inside (ap (λ (k : ℕ). unit_text c.args.units.now c.args.cycle c.args.row k) (get_or-range_with_len 0 (length c.args.units.now) c.loop-number.number 0 low ∙ at) ∙ ap (λ (unit : List ℕ). if has_unit c.args.row c.loop-number.number then spaced (pair_field (c.args.cycle, unit)) else []) (sym (c.index-units-number.is ∙ get_or_default c.args.units.now c.loop-number.number c.index-units-number.result [] low))) c.loop-number.invariant c.in-Err.ensures

pub returns : goal.returns
returns g c = each_done (unit_text c.args.units.now c.args.cycle c.args.row) (range_with_len 0 (length c.args.units.now)) c.loop-number.number (omega (arith, length-range_with_len 0 (length c.args.units.now))) c.loop-number.invariant

pub add_unit-requires : goal.add_unit-requires
add_unit-requires g c = let same = c.loop-number.invariant.wrote.counted in omega (arith, same, c.requires.faults)
