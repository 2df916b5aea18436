use Rattle.std.proofs.Common.{ℕ, Bool, List, [], ◌∷◌, codes, decimal, if◌then◌else◌, sym, subst, rules}
use Rattle.std.specs.List.{concat}
use Rattle.std.proofs.lemmas.List.{append-nil}
use Rattle.hz_io.specs.Pages.{Adds}
use Rattle.hz_io.proofs.Adding.{added_then_stopped, stopped_before, adds_then, adds_failed}
use Rattle.hz_report.proofs.replayed.add_answer.Goals as goal

-- the end of the line
abbrev reported : Bool → List ℕ
reported reserved = if reserved then codes " reserved\n" else codes " free\n"

pub returns-in_err-add : goal.returns-in_err-add
returns-in_err-add g c =
    adds_failed c.add.new.page.items c.from_residual.result (search rules)
    (stopped_before (concat (decimal c.args.line ∷ codes " " ∷ c.args.unit.now ∷ reported c.args.reserved ∷ [])) c.in_err-add.ensures)

pub returns-in_err-add_number : goal.returns-in_err-add_number
returns-in_err-add_number g c =
    adds_failed c.add_number.new.page.items c.from_residual-in_err-add_number.result (search rules)
    (added_then_stopped c.in_ok-add.ensures (stopped_before (concat (codes " " ∷ c.args.unit.now ∷ reported c.args.reserved ∷ [])) c.in_err-add_number.ensures))

pub returns-in_err-add-2 : goal.returns-in_err-add-2
returns-in_err-add-2 g c =
    adds_failed c.add-2.new.page.items c.from_residual-in_err-add-2.result (search rules)
    (added_then_stopped c.in_ok-add.ensures (added_then_stopped c.in_ok-add_number.ensures (stopped_before (concat (c.args.unit.now ∷ reported c.args.reserved ∷ [])) c.in_err-add-2.ensures)))

pub returns-in_err-add_name : goal.returns-in_err-add_name
returns-in_err-add_name g c =
    adds_failed c.add_name.new.page.items c.from_residual-in_err-add_name.result (search rules)
    (added_then_stopped c.in_ok-add.ensures (added_then_stopped c.in_ok-add_number.ensures (added_then_stopped c.in_ok-add-2.ensures (stopped_before (concat (reported c.args.reserved ∷ [])) c.in_err-add_name.ensures))))

pub returns : goal.returns
returns g c =
    let rest = reported c.args.reserved in
    let end = subst (λ (text : List ℕ). Adds g.S.Sink.written g.S.Sink.room g.S.Sink.faults c.add_name.new.out c.add_reported.new.out c.add_name.new.page.items c.add_reported.new.page.items text c.add_reported.result) (sym (append-nil rest)) c.add_reported.ensures in
    adds_then c.add_reported.new.out c.add_reported.new.page.items _ c.add_reported.result c.in_ok-add.ensures
    (adds_then c.add_reported.new.out c.add_reported.new.page.items _ c.add_reported.result c.in_ok-add_number.ensures
    (adds_then c.add_reported.new.out c.add_reported.new.page.items _ c.add_reported.result c.in_ok-add-2.ensures
    (adds_then c.add_reported.new.out c.add_reported.new.page.items _ c.add_reported.result c.in_ok-add_name.ensures end)))
