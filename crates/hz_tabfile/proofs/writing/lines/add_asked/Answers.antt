use Rattle.std.proofs.Common.{ℕ, List, ◌∷◌, [], ◌++◌, codes, sym, subst, rules}
use Rattle.hz_io.specs.Pages.{Adds, Stopped}
use Rattle.hz_io.proofs.Adding.{added_then_stopped, stopped_before, adds_then, adds_failed}
use Rattle.hz_tabfile.proofs.LineTexts.{all_spaced, line_spaced}
use Rattle.hz_tabfile.proofs.writing.lines.add_asked.Goals as goal

pub returns-in_err-add : goal.returns-in_err-add
returns-in_err-add g c =
    adds_failed c.add.new.page.items c.from_residual.result (search rules)
    (subst (λ (text : List ℕ). Stopped g.S.Sink.written g.S.Sink.room g.S.Sink.faults c.args.out.now c.add.new.out c.args.page.now.items text) (sym (line_spaced (codes "asks") c.args.asks.now))
    (stopped_before (all_spaced c.args.asks.now ++ 10 ∷ []) c.in_err-add.ensures))

pub returns-in_err-add_names : goal.returns-in_err-add_names
returns-in_err-add_names g c =
    adds_failed c.add_names.new.page.items c.from_residual-in_err-add_names.result (search rules)
    (subst (λ (text : List ℕ). Stopped g.S.Sink.written g.S.Sink.room g.S.Sink.faults c.args.out.now c.add_names.new.out c.args.page.now.items text) (sym (line_spaced (codes "asks") c.args.asks.now))
    (added_then_stopped c.in_ok-add.ensures (stopped_before (10 ∷ []) c.in_err-add_names.ensures)))

pub returns : goal.returns
returns g c =
    subst (λ (text : List ℕ). Adds g.S.Sink.written g.S.Sink.room g.S.Sink.faults c.args.out.now c.end_line.new.out c.args.page.now.items c.end_line.new.page.items text c.end_line.result) (sym (line_spaced (codes "asks") c.args.asks.now))
    (adds_then c.end_line.new.out c.end_line.new.page.items (all_spaced c.args.asks.now ++ 10 ∷ []) c.end_line.result c.in_ok-add.ensures
    (adds_then c.end_line.new.out c.end_line.new.page.items (10 ∷ []) c.end_line.result c.in_ok-add_names.ensures c.end_line.ensures))
