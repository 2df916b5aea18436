use Rattle.std.proofs.Common.{◌≡◌, take, sym, ap, ◌∙◌, subst, rules}
use Rattle.std.specs.Prelude.{IsTrue}
use Rattle.std.proofs.lemmas.Bool.{and_parts}
use Rattle.hz_altern.specs.Singles.{TellsSingles, TellSingles}
use Rattle.hz_altern.specs.Tables.{alternatives_in, known_alternatives, is_held}
use Rattle.hz_altern.proofs.GatherLemmas.{part_at}
use Rattle.hz_altern.proofs.Shapes.{seq_is, oneof_is, allof_is}
use Rattle.hz_altern.proofs.SingleLemmas.{all_one_sequence, all_one_together, choice_is_several, tell_more}
use Rattle.hz_description_model.specs.Reservations.Alternatives.{Expression, sequence, one_of, all_of, parts_of}
use Rattle.hz_description_model.specs.Reservations.Expressions.{is_expression}
use Rattle.hz_description_model.specs.Reservations.NamesIn.{all_names}
use Rattle.hz_regexp.specs.Shape.{expression, expressions}
use Rattle.hz_altern.proofs.listing.singles.+finding.Goals as goal

pub find_singles-returns-in_ok-find_singles_in-in-Seq : goal.find_singles-returns-in_ok-find_singles_in-in-Seq
find_singles-returns-in_ok-find_singles_in-in-Seq t c =
    let known = known_alternatives c.args.known.now in
    let parts = parts_of (expressions c.in-Seq.parts.items) in
    let is : expression c.args.expr.now ≡ sequence parts = ap expression c.in-Seq.is ∙ seq_is c.in-Seq.parts in
    let formed = and_parts _ _ (subst (λ (e : Expression). IsTrue (is_expression e)) is c.requires.formed) in
    let each = rw c.deref.ensures.value at c.in_ok-find_singles_in-in-Seq.ensures in
    subst (λ (e : Expression). TellsSingles known e c.joined.result) (sym is)
    (c.joined.ensures.single ∙ all_one_sequence known parts _ formed.1 each, subst (TellSingles known parts) (sym c.joined.ensures.parts) each)

pub find_singles-returns-in_ok-find_singles_in-in-Oneof : goal.find_singles-returns-in_ok-find_singles_in-in-Oneof
find_singles-returns-in_ok-find_singles_in-in-Oneof t c =
    let known = known_alternatives c.args.known.now in
    let es = expressions c.in-Oneof.parts.items in
    let parts = parts_of es in
    let is : expression c.args.expr.now ≡ one_of parts = ap expression c.in-Oneof.is ∙ oneof_is c.in-Oneof.parts in
    let formed = and_parts _ _ (subst (λ (e : Expression). IsTrue (is_expression e)) is c.requires.formed) in
    let held = subst (λ (e : Expression). IsTrue (all_names (is_held (alternatives_in c.args.known.now)) e)) is c.requires.held in
    let each = rw c.deref-in-Oneof.ensures.value at c.in_ok-find_singles_in-in-Oneof.ensures in
    subst (λ (e : Expression). TellsSingles known e c.new-in-Oneof.result) (sym is)
    (c.new-in-Oneof.ensures.single ∙ choice_is_several c.args.known.now es formed.0 formed.1 held, subst (TellSingles known parts) (sym c.new-in-Oneof.ensures.parts) each)

pub find_singles-returns-in_ok-find_singles_in-in-Allof : goal.find_singles-returns-in_ok-find_singles_in-in-Allof
find_singles-returns-in_ok-find_singles_in-in-Allof t c =
    let known = known_alternatives c.args.known.now in
    let parts = parts_of (expressions c.in-Allof.parts.items) in
    let is : expression c.args.expr.now ≡ all_of parts = ap expression c.in-Allof.is ∙ allof_is c.in-Allof.parts in
    let formed = and_parts _ _ (subst (λ (e : Expression). IsTrue (is_expression e)) is c.requires.formed) in
    let each = rw c.deref-in-Allof.ensures.value at c.in_ok-find_singles_in-in-Allof.ensures in
    subst (λ (e : Expression). TellsSingles known e c.joined-in-Allof.result) (sym is)
    (c.joined-in-Allof.ensures.single ∙ all_one_together known parts _ formed.1 each, subst (TellSingles known parts) (sym c.joined-in-Allof.ensures.parts) each)

pub find_singles_in-find_singles-requires : goal.find_singles_in-find_singles-requires
find_singles_in-find_singles-requires t c =
    let part = part_at (is_held (alternatives_in c.args.known.now)) c.args.parts.now c.loop-part.part-index c.part-item.result c.loop-part-test.true c.part-item.is c.requires.formed c.requires.held in
    let formed = part.formed in
    let names_known = part.names_known in
    let fewer = part.fewer in
    search rules

pub find_singles_in-loop-part-preserved : goal.find_singles_in-loop-part-preserved
find_singles_in-loop-part-preserved t c =
    let known = known_alternatives c.args.known.now in
    let part = part_at (is_held (alternatives_in c.args.known.now)) c.args.parts.now c.loop-part.part-index c.part-item.result c.loop-part-test.true c.part-item.is c.requires.formed c.requires.held in
    let before = expressions (take c.loop-part.part-index c.args.parts.now) in
    let all = tell_more known before c.loop-part.all.items (expression c.part-item.result) c.in_ok-find_singles.field-0 c.loop-part.invariant c.in_ok-find_singles.ensures in
    rw (part.next, c.in_ok-push.ensures.items) all
