use Rattle.std.proofs.Common.{ℕ, List, ◌≡◌, ◌∙◌, sym, subst, Some}
use Rattle.hz_base_model.specs.Pairs.{Pair}
use Rattle.hz_reasons.specs.Calendars.{AreUnited, IsFirstOf, parts_at}
use Rattle.hz_reasons.proofs.Meaning.{unbroken_united}
use Rattle.hz_reasons.proofs.Reading.{parts_read}
use Rattle.hz_reasons.proofs.calendar.take_first.Goals as goal

pub returns-in_ok-reserve-in-Some-clause-unbroken : goal.returns-in_ok-reserve-in-Some-clause-unbroken
returns-in_ok-reserve-in-Some-clause-unbroken c =
    let first = subst (λ (gs : List (List (Pair ℕ))). IsFirstOf c.args.rules.now gs c.args.choices.now (Some c.in-Some.number)) c.deref.ensures.value c.in-Some.ensures in
    let parts : parts_at c.args.choices.now c.in-Some.number ≡ c.deref-in-Some.result.now = parts_read c.args.choices.now c.in-Some.number c.index-choices-number.result first.0 ∙ sym c.deref-in-Some.ensures.value in
    unbroken_united c.args.rules.now c.args.grids.now.items (parts_at c.args.choices.now c.in-Some.number) c.reserve.new.grids.items c.requires.grids first.1
    (subst (λ (ps : List (List (Pair ℕ))). AreUnited c.args.grids.now.items ps c.reserve.new.grids.items) (sym parts) c.in_ok-reserve-in-Some.ensures.united)

pub returns-in_ok-reserve-in-Some-clause-takes : goal.returns-in_ok-reserve-in-Some-clause-takes
returns-in_ok-reserve-in-Some-clause-takes c =
    let first = subst (λ (gs : List (List (Pair ℕ))). IsFirstOf c.args.rules.now gs c.args.choices.now (Some c.in-Some.number)) c.deref.ensures.value c.in-Some.ensures in
    let parts : parts_at c.args.choices.now c.in-Some.number ≡ c.deref-in-Some.result.now = parts_read c.args.choices.now c.in-Some.number c.index-choices-number.result first.0 ∙ sym c.deref-in-Some.ensures.value in
    subst (λ (ps : List (List (Pair ℕ))). AreUnited c.args.grids.now.items ps c.reserve.new.grids.items) (sym parts) c.in_ok-reserve-in-Some.ensures.united
