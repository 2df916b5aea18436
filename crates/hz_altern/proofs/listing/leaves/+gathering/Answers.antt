use Rattle.std.proofs.Common.{◌≡◌, ◌+◌, ◌≤◌, List, length, sym, ap, ◌∙◌, subst, arith, rules, ℕ}
use Rattle.std.specs.Prelude.{IsTrue}
use Rattle.std.proofs.lemmas.Bool.{and_parts, leb-true}
use Rattle.hz_regexp.specs.Shape.{expression, expressions}
use Rattle.hz_altern.specs.Leaves.{AddsCopies}
use Rattle.hz_altern.specs.Tables.{alternatives_in, known_alternatives, is_held}
use Rattle.hz_altern.proofs.GatherLemmas.{part_at, sequence_at, together_at, several_of, one_of_copies, copies_within, copied_long, copies_gathered}
use Rattle.hz_altern.proofs.LeafLemmas.{sequence_gathered, together_gathered}
use Rattle.hz_altern.proofs.ListedLemmas.{copies_single}
use Rattle.hz_altern.proofs.Nodes.{nodes, nodes_of_repeat}
use Rattle.hz_altern.proofs.Shapes.{oneof_is, repeat_is}
use Rattle.hz_description_model.specs.Reservations.Alternatives.{Alternative, Expression, one_of, repeat, alternatives_of, copies, parts_of}
use Rattle.hz_description_model.specs.Reservations.AlternativeLists.{greatest_length}
use Rattle.hz_description_model.specs.Reservations.Automata.{UnitPlace}
use Rattle.hz_description_model.specs.Reservations.Expressions.{is_expression}
use Rattle.hz_description_model.specs.Reservations.NamesIn.{all_names}
use Rattle.hz_base_model.specs.Limits.{cycle_limit}
use Rattle.hz_altern.proofs.listing.leaves.+gathering.Goals as goal

pub gather-unreachable-requires : goal.gather-unreachable-requires
gather-unreachable-requires t c =
    let known = c.args.known.now in
    let parts = c.in-Oneof._parts in
    let is : expression c.args.expr.now ≡ one_of (parts_of (expressions parts.items)) = ap expression c.in-Oneof.is ∙ oneof_is parts in
    let formed = and_parts _ _ (subst (λ (e : Expression). IsTrue (is_expression e)) is c.requires.formed) in
    several_of known (expressions parts.items) formed.0 formed.1
    (subst (λ (e : Expression). IsTrue (all_names (is_held (alternatives_in known)) e)) is c.requires.held)
    (subst (λ (e : Expression). length (alternatives_of (known_alternatives known) e) ≡ 1) is c.requires.one)

pub gather-gather_copies-requires : goal.gather-gather_copies-requires
gather-gather_copies-requires t c =
    let known = c.args.known.now in
    let part = c.in-Repeat.part in
    let times = c.in-Repeat.times in
    let xs = alternatives_of (known_alternatives known) (expression part.value) in
    let is : expression c.args.expr.now ≡ repeat (expression part.value) times = ap expression c.in-Repeat.is ∙ repeat_is part times in
    let ranges = and_parts _ _ (subst (λ (e : Expression). IsTrue (is_expression e)) is c.requires.formed) in
    let inner = and_parts _ _ ranges.0 in
    let low : 1 ≤ times = leb-true 1 times inner.1 in
    let all : alternatives_of (known_alternatives known) (expression c.args.expr.now) ≡ copies times xs = ap (alternatives_of (known_alternatives known)) is in
    let formed : IsTrue (is_expression (expression c.deref-in-Repeat.result.now)) = rw c.deref-in-Repeat.ensures inner.0 in
    let held : IsTrue (all_names (is_held (alternatives_in known)) (expression c.deref-in-Repeat.result.now)) = rw c.deref-in-Repeat.ensures (subst (λ (e : Expression). IsTrue (all_names (is_held (alternatives_in known)) e)) is c.requires.held) in
    let one : length (alternatives_of (known_alternatives known) (expression c.deref-in-Repeat.result.now)) ≡ 1 = rw c.deref-in-Repeat.ensures (one_of_copies xs times low (sym (ap length all) ∙ c.requires.one)) in
    let short : c.args.start + greatest_length (copies times (alternatives_of (known_alternatives known) (expression c.deref-in-Repeat.result.now))) ≤ cycle_limit =
    rw c.deref-in-Repeat.ensures (subst (λ (ys : List (Alternative UnitPlace)). c.args.start + greatest_length ys ≤ cycle_limit) all c.requires.short) in
    let counted : nodes c.args.expr.now ≡ nodes part.value + 1 = ap nodes c.in-Repeat.is ∙ nodes_of_repeat part times in
    let same = ap nodes c.deref-in-Repeat.ensures in
    search rules

pub gather_copies-gather-requires : goal.gather_copies-gather-requires
gather_copies-gather-requires t c =
    let known = c.args.known.now in
    let xs = alternatives_of (known_alternatives known) (expression c.args.part.now) in
    let short : c.args.start + greatest_length xs ≤ cycle_limit = subst (λ (ys : List (Alternative UnitPlace)). c.args.start + greatest_length ys ≤ cycle_limit) (copies_single c.args.times xs c.if-times-eq1.true) c.requires.short in
    search rules

pub gather_copies-returns-then-times-eq1-clause-length : goal.gather_copies-returns-then-times-eq1-clause-length
gather_copies-returns-then-times-eq1-clause-length t c =
    let xs = alternatives_of (known_alternatives c.args.known.now) (expression c.args.part.now) in
    rw (copies_single c.args.times xs c.if-times-eq1.true) c.gather.ensures.length

pub gather_copies-returns-then-times-eq1-clause-gathered : goal.gather_copies-returns-then-times-eq1-clause-gathered
gather_copies-returns-then-times-eq1-clause-gathered t c =
    let xs = alternatives_of (known_alternatives c.args.known.now) (expression c.args.part.now) in
    rw (copies_single c.args.times xs c.if-times-eq1.true) c.gather.ensures.gathered

pub gather_copies-gather-requires-2 : goal.gather_copies-gather-requires-2
gather_copies-gather-requires-2 t c =
    let known = c.args.known.now in
    let xs = alternatives_of (known_alternatives known) (expression c.args.part.now) in
    let within = copies_within xs c.requires.one 0 c.args.times (let low = c.requires.times in omega arith) in
    let all = c.requires.short in
    let short : 0 + greatest_length xs ≤ cycle_limit = omega arith in
    search rules

pub gather_sequence-overflow_add-start : goal.gather_sequence-overflow_add-start
gather_sequence-overflow_add-start t c =
    let at = sequence_at c.args.known.now c.args.parts.now c.loop-part.part-index c.part-item.result c.loop-part-test.true c.part-item.is c.requires.one in
    let long = at.long in
    let whole = at.rest.1 in
    omega (arith, c.requires.short, c.loop-part.invariant.length)

pub gather_sequence-gather-requires : goal.gather_sequence-gather-requires
gather_sequence-gather-requires t c =
    let part = part_at (is_held (alternatives_in c.args.known.now)) c.args.parts.now c.loop-part.part-index c.part-item.result c.loop-part-test.true c.part-item.is c.requires.formed c.requires.held in
    let at = sequence_at c.args.known.now c.args.parts.now c.loop-part.part-index c.part-item.result c.loop-part-test.true c.part-item.is c.requires.one in
    let long = at.long in
    let whole = at.rest.1 in
    let formed = part.formed in
    let names_known = part.names_known in
    let fewer = part.fewer in
    let one = at.part in
    let short : (c.args.start + c.loop-part.length) + greatest_length (alternatives_of (known_alternatives c.args.known.now) (expression c.part-item.result)) ≤ cycle_limit = omega (arith, c.requires.short, c.loop-part.invariant.length) in
    search rules

pub gather_sequence-overflow_add-length : goal.gather_sequence-overflow_add-length
gather_sequence-overflow_add-length t c =
    let at = sequence_at c.args.known.now c.args.parts.now c.loop-part.part-index c.part-item.result c.loop-part-test.true c.part-item.is c.requires.one in
    let long = at.long in
    let whole = at.rest.1 in
    omega (arith, c.requires.short, c.loop-part.invariant.length, c.in_ok-length.ensures.length)

pub gather_sequence-loop-part-preserved : goal.gather_sequence-loop-part-preserved
gather_sequence-loop-part-preserved t c =
    let known = c.args.known.now in
    let at = sequence_at known c.args.parts.now c.loop-part.part-index c.part-item.result c.loop-part-test.true c.part-item.is c.requires.one in
    let long = at.long in
    let gathered = sequence_gathered known c.args.start _ _ _ _ _ at.before at.part c.loop-part.invariant.gathered (rw (← c.loop-part.invariant.length) c.in_ok-length.ensures.gathered) in
    record {
      length = omega (arith, c.loop-part.invariant.length, c.in_ok-length.ensures.length);
      gathered = rw at.next gathered;
    }

pub gather_together-gather-requires : goal.gather_together-gather-requires
gather_together-gather-requires t c =
    let part = part_at (is_held (alternatives_in c.args.known.now)) c.args.parts.now c.loop-part.part-index c.part-item.result c.loop-part-test.true c.part-item.is c.requires.formed c.requires.held in
    let at = together_at c.args.known.now c.args.parts.now c.loop-part.part-index c.part-item.result c.loop-part-test.true c.part-item.is c.requires.one in
    let long = at.long in
    let whole = at.rest.1 in
    let formed = part.formed in
    let names_known = part.names_known in
    let fewer = part.fewer in
    let one = at.part in
    let short : c.args.start + greatest_length (alternatives_of (known_alternatives c.args.known.now) (expression c.part-item.result)) ≤ cycle_limit = omega (arith, c.requires.short) in
    search rules

pub gather_together-loop-part-preserved : goal.gather_together-loop-part-preserved
gather_together-loop-part-preserved t c =
    let known = c.args.known.now in
    let at = together_at known c.args.parts.now c.loop-part.part-index c.part-item.result c.loop-part-test.true c.part-item.is c.requires.one in
    let long = at.long in
    let gathered = together_gathered known c.args.start _ _ _ _ _ at.before at.part c.loop-part.invariant.gathered c.in_ok-gather.ensures.gathered in
    record {
      length = omega (arith, c.loop-part.invariant.length, c.in_ok-gather.ensures.length, c.max-length.ensures);
      gathered = rw at.next gathered;
    }

pub gather_copies-overflow_mul-result : goal.gather_copies-overflow_mul-result
gather_copies-overflow_mul-result t c =
    let xs = alternatives_of (known_alternatives c.args.known.now) (expression c.args.part.now) in
    let length = copied_long xs c.requires.one c.args.times c.in_ok-length.length c.in_ok-length.ensures.length in
    let short = c.requires.short in
    omega arith

pub gather_copies-returns-clause-length : goal.gather_copies-returns-clause-length
gather_copies-returns-clause-length t c =
    let xs = alternatives_of (known_alternatives c.args.known.now) (expression c.args.part.now) in
    copied_long xs c.requires.one c.args.times c.in_ok-length.length c.in_ok-length.ensures.length

pub gather_copies-returns-clause-gathered : goal.gather_copies-returns-clause-gathered
gather_copies-returns-clause-gathered t c =
    let known = c.args.known.now in
    let xs = alternatives_of (known_alternatives known) (expression c.args.part.now) in
    let added = subst (λ (apart : ℕ). AddsCopies c.gather-2.new.leaves.names.entries c.args.times apart c.args.start c.args.leaves.now c.add_copies.new.leaves) c.in_ok-length.ensures.length c.in_ok-add_copies.ensures in
    copies_gathered xs known c.requires.one c.new-once.result c.gather-2.new.leaves c.new-once.ensures c.in_ok-length.ensures.gathered c.args.times c.args.start c.args.leaves.now c.add_copies.new.leaves added c.requires.short
