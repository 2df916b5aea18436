use Rattle.std.proofs.Common.{◌≡◌, ◌/◌, length, rules, arith, IsTrue, sym, ap, ◌∙◌, take, drop}
use Rattle.hz_altern.specs.Extents.{reported}
use Rattle.hz_altern.specs.Joinings.{joined_parts}
use Rattle.hz_description_model.specs.Reservations.AlternativeLists.{Extent, extent_of}
use Rattle.hz_description_model.specs.Reservations.Expressions.{are_expressions}
use Rattle.hz_description_model.specs.Reservations.Alternatives.{parts_of, Expression, named, nothing, sequence, one_of, all_of, repeat}
use Rattle.hz_description_model.specs.Reservations.NamesIn.{all_names_in}
use Rattle.hz_regexp.specs.Shape.{expression, expressions}
use Rattle.hz_altern.specs.Tables.{is_held}
use Rattle.hz_altern.proofs.Nodes.{cut_in_two}
use Rattle.hz_altern.proofs.PartLemmas.{only_one, right_one, joined_parts-one, formed_halves, named_halves}
use Rattle.hz_altern.proofs.ExtentLemmas.{Measures, extent-halves, Says, says_same, says_named, says_nothing, says_repeat, extent_of_both}
use Rattle.hz_altern.proofs.Shapes.{named_is, nothing_is, seq_is, oneof_is, allof_is, repeat_is}
use Rattle.std.specs.Option.{option_map}
use Rattle.hz_altern.proofs.extents.counting.+counting.Goals as goal
use Rattle.hz_altern.proofs.extents.counting.+counting.Goals.{measured-in-Named+in-Some, measured-in-Nothing, measured-in-Seq, measured-in-Oneof, measured-in-Allof, measured-in-Repeat}

pub measured-returns : goal.measured-returns
measured-returns g t c = λ known right.
    let held = g.T.Held.held c.args.table.now in
    let says_all = λ (e : Expression) (extent : Extent) (is : expression c.args.expr.now ≡ e) (result : c.match-expr.result ≡ (extent.count, (extent.longest, tt))) (says : Says held e extent).
    extent_of_both c.match-expr.result extent result ∙ says_same held _ e extent is says known right in
    elim c.match-expr.branch [
      | measured-in-Named+in-Some w ↦
          says_all (named w.in-Named.name) (reported w.in-Some.extent) (ap expression w.in-Named.is ∙ named_is w.in-Named.name) w.result-is
          (says_named held w.in-Named.name (reported w.in-Some.extent) (sym w.extent.ensures ∙ ap (option_map reported) w.in-Some.is))
      | measured-in-Nothing w ↦ says_all nothing (record { count = 1; longest = 1 }) (ap expression w.in-Nothing.is ∙ nothing_is) w.result-is (says_nothing held)
      | measured-in-Seq w ↦
          says_all (sequence (parts_of (expressions w.in-Seq.parts.items))) (reported w.measured_parts.result) (ap expression w.in-Seq.is ∙ seq_is w.in-Seq.parts) w.result-is
          (λ k r. (rw w.deref.ensures.value at w.measured_parts.ensures) k (record { each = r.each; some = r.some }))
      | measured-in-Oneof w ↦
          says_all (one_of (parts_of (expressions w.in-Oneof.parts.items))) (reported w.measured_parts-in-Oneof.result) (ap expression w.in-Oneof.is ∙ oneof_is w.in-Oneof.parts) w.result-is
          (λ k r. (rw w.deref-in-Oneof.ensures.value at w.measured_parts-in-Oneof.ensures) k (record { each = r.each; some = r.some }))
      | measured-in-Allof w ↦
          says_all (all_of (parts_of (expressions w.in-Allof.parts.items))) (reported w.measured_parts-in-Allof.result) (ap expression w.in-Allof.is ∙ allof_is w.in-Allof.parts) w.result-is
          (λ k r. (rw w.deref-in-Allof.ensures.value at w.measured_parts-in-Allof.ensures) k (record { each = r.each; some = r.some }))
      | measured-in-Repeat w ↦
          let is = ap expression w.in-Repeat.is ∙ repeat_is w.in-Repeat.part w.in-Repeat.times in
          says_all (repeat (expression w.in-Repeat.part.value) w.in-Repeat.times) (reported w.repeated.result) is w.result-is
          (λ k r. w.repeated.ensures ∙ says_repeat held _ _ _ (rw is at c.requires.formed) (rw w.deref-in-Repeat.ensures at w.measured.ensures) k r)
    ]

pub measured_parts-returns-then-middle-eq0 : goal.measured_parts-returns-then-middle-eq0
measured_parts-returns-then-middle-eq0 g t c = λ known right.
    let parts = c.args.parts.now in
    let only = c.index-parts-0.result in
    let one = only_one parts only (omega arith) (omega arith) c.index-parts-0.is in
    c.measured.ensures known (right_one (g.T.Held.held c.args.table.now) known parts only one right)
    ∙ ap extent_of (sym (joined_parts-one c.args.mark known (expression only)) ∙ ap (λ ps. joined_parts c.args.mark known (parts_of (expressions ps))) (sym one))

pub measured_parts-measured_parts-requires : goal.measured_parts-measured_parts-requires
measured_parts-measured_parts-requires g t c κs within =
    let parts = c.args.parts.now in
    let test = is_held (g.T.Held.held c.args.table.now) in
    let cut = cut_in_two parts _ _ c.split_at.ensures.front c.split_at.ensures.back c.if-middle-eq0.false in
    let some = cut.some_front in
    let fewer = cut.fewer_in_front in
    let formed : IsTrue (are_expressions (parts_of (expressions c.split_at.result.0.now))) = rw c.split_at.ensures.front (formed_halves test (length parts / 2) parts c.requires.formed).0 in
    let named : IsTrue (all_names_in test (parts_of (expressions c.split_at.result.0.now))) = rw c.split_at.ensures.front (named_halves test (length parts / 2) parts c.requires.held).0 in
    search rules

pub measured_parts-measured_parts-requires-2 : goal.measured_parts-measured_parts-requires-2
measured_parts-measured_parts-requires-2 g t c κs within =
    let parts = c.args.parts.now in
    let test = is_held (g.T.Held.held c.args.table.now) in
    let cut = cut_in_two parts _ _ c.split_at.ensures.front c.split_at.ensures.back c.if-middle-eq0.false in
    let some = cut.some_back in
    let fewer = cut.fewer_in_back in
    let formed : IsTrue (are_expressions (parts_of (expressions c.split_at.result.1.now))) = rw c.split_at.ensures.back (formed_halves test (length parts / 2) parts c.requires.formed).1 in
    let named : IsTrue (all_names_in test (parts_of (expressions c.split_at.result.1.now))) = rw c.split_at.ensures.back (named_halves test (length parts / 2) parts c.requires.held).1 in
    search rules

pub measured_parts-returns : goal.measured_parts-returns
measured_parts-returns g t c = λ known right.
    let parts = c.args.parts.now in
    let middle = length parts / 2 in
    let held = g.T.Held.held c.args.table.now in
    let front : Measures c.args.mark held (take middle parts) (reported c.measured_parts.result) = rw (← c.split_at.ensures.front) c.measured_parts.ensures in
    let back : Measures c.args.mark held (drop middle parts) (reported c.measured_parts-2.result) = rw (← c.split_at.ensures.back) c.measured_parts-2.ensures in
    c.joined.ensures ∙ extent-halves c.args.mark held middle parts (omega arith) (omega arith) c.requires.formed _ _ front back known right
