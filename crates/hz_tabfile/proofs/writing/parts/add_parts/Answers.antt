use Rattle.std.proofs.Common.{◌<◌, length, sym, ap, ◌∙◌, arith}
use Rattle.std.specs.List.{flat_map}
use Rattle.hz_io.proofs.Adding.{each_added_as, each_stopped_as, each_done}
use Rattle.hz_checked.specs.declared.checked.CheckedAutomaton.{CheckedAutomaton}
use Rattle.hz_tabtext_model.specs.Texts.{PartText, line_text, part_lines}
use Rattle.hz_tabfile.specs.Saying.{parts_says}
use Rattle.hz_tabfile.proofs.PartsThere.{said_there, writable_there, says_length}
use Rattle.hz_tabfile.proofs.writing.parts.add_parts.Goals as goal

pub loop-number-preserved : goal.loop-number-preserved
loop-number-preserved g c =
    let each = c.requires.writable.each in
    let reported = c.requires.writable.reported in
    let low : c.loop-number.number < length c.args.parts.now = c.loop-number-test.true in
    let some_a : c.loop-number.number < length c.args.automata.now = omega (arith, low, each) in
    let some_r : c.loop-number.number < length c.args.reports.now = omega (arith, low, reported) in
    let inside : c.loop-number.number < length (parts_says c.args.stats c.args.automata.now c.args.reports.now c.args.parts.now) = omega (arith, low, says_length c.args.stats c.args.automata.now c.args.reports.now c.args.parts.now) in
    each_added_as (λ (part : PartText). flat_map line_text (part_lines c.args.asked part)) (parts_says c.args.stats c.args.automata.now c.args.reports.now c.args.parts.now) c.loop-number.number _ _ inside (ap (λ (part : PartText). flat_map line_text (part_lines c.args.asked part)) (said_there c.args.stats c.args.automata.now c.args.reports.now c.args.parts.now c.loop-number.number c.index-automata-number.result c.index-reports-number.result c.index-parts-number.result c.deref.result.now some_a some_r low c.index-automata-number.is c.index-reports-number.is c.index-parts-number.is (c.deref.ensures.value ∙ ap (λ (a : CheckedAutomaton). a.units.items) (sym c.index-automata-number.is)))) c.loop-number.invariant c.in-Ok.ensures

pub returns-in-Err : goal.returns-in-Err
returns-in-Err g c =
    let each = c.requires.writable.each in
    let reported = c.requires.writable.reported in
    let low : c.loop-number.number < length c.args.parts.now = c.loop-number-test.true in
    let some_a : c.loop-number.number < length c.args.automata.now = omega (arith, low, each) in
    let some_r : c.loop-number.number < length c.args.reports.now = omega (arith, low, reported) in
    let inside : c.loop-number.number < length (parts_says c.args.stats c.args.automata.now c.args.reports.now c.args.parts.now) = omega (arith, low, says_length c.args.stats c.args.automata.now c.args.reports.now c.args.parts.now) in
    each_stopped_as (λ (part : PartText). flat_map line_text (part_lines c.args.asked part)) (parts_says c.args.stats c.args.automata.now c.args.reports.now c.args.parts.now) c.loop-number.number _ _ inside (ap (λ (part : PartText). flat_map line_text (part_lines c.args.asked part)) (said_there c.args.stats c.args.automata.now c.args.reports.now c.args.parts.now c.loop-number.number c.index-automata-number.result c.index-reports-number.result c.index-parts-number.result c.deref.result.now some_a some_r low c.index-automata-number.is c.index-reports-number.is c.index-parts-number.is (c.deref.ensures.value ∙ ap (λ (a : CheckedAutomaton). a.units.items) (sym c.index-automata-number.is)))) c.loop-number.invariant c.in-Err.ensures

pub returns : goal.returns
returns g c = each_done (λ (part : PartText). flat_map line_text (part_lines c.args.asked part)) (parts_says c.args.stats c.args.automata.now c.args.reports.now c.args.parts.now) c.loop-number.number (omega (arith, c.loop-number-test.false, says_length c.args.stats c.args.automata.now c.args.reports.now c.args.parts.now)) c.loop-number.invariant

pub add_part-requires-clause-faults : goal.add_part-requires-clause-faults
add_part-requires-clause-faults g c = let same = c.loop-number.invariant.wrote.counted in omega (arith, same, c.requires.faults)

pub add_part-requires-clause-writable : goal.add_part-requires-clause-writable
add_part-requires-clause-writable g c =
    let each = c.requires.writable.each in
    let reported = c.requires.writable.reported in
    let low : c.loop-number.number < length c.args.parts.now = c.loop-number-test.true in
    let some_a : c.loop-number.number < length c.args.automata.now = omega (arith, low, each) in
    let some_r : c.loop-number.number < length c.args.reports.now = omega (arith, low, reported) in
    writable_there c.args.stats c.args.automata.now c.args.reports.now c.args.parts.now c.loop-number.number c.index-automata-number.result c.index-reports-number.result c.index-parts-number.result c.deref.result.now some_a some_r low c.index-automata-number.is c.index-reports-number.is c.index-parts-number.is (c.deref.ensures.value ∙ ap (λ (a : CheckedAutomaton). a.units.items) (sym c.index-automata-number.is)) c.requires.writable
