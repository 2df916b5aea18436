use Rattle.std.proofs.Common.{ℕ, List, [], ◌∷◌, ◌++◌, length, codes, decimal, subst, rules}
use Rattle.std.specs.List.{flat_map}
use Rattle.hz_io.specs.Pages.{Adds, Stopped}
use Rattle.hz_io.proofs.Adding.{added_then_stopped, stopped_before, adds_then, adds_failed}
use Rattle.hz_tabtext_model.specs.Texts.{line_text, treatment_line, class_line}
use Rattle.hz_tabfile.proofs.PartTexts.{front_text}
use Rattle.hz_tabfile.proofs.writing.parts.add_front.Goals as goal

pub returns-in_err-add_header : goal.returns-in_err-add_header
returns-in_err-add_header g c =
    adds_failed c.add_header.new.page.items c.from_residual.result (search rules)
    (subst (λ (text : List ℕ). Stopped g.S.Sink.written g.S.Sink.room g.S.Sink.faults c.args.out.now c.add_header.new.out c.args.page.now.items text) (front_text c.args.asked c.args.ndfa c.args.classes.now c.args.automata)
    (stopped_before ((line_text (treatment_line c.args.ndfa)) ++ ((line_text (codes "classes" ∷ decimal (length c.args.classes.now) ∷ [])) ++ ((flat_map (λ class. line_text (class_line class)) c.args.classes.now) ++ (line_text (codes "automata" ∷ decimal c.args.automata ∷ []))))) c.in_err-add_header.ensures))

pub returns-in_err-add_treatment : goal.returns-in_err-add_treatment
returns-in_err-add_treatment g c =
    adds_failed c.add_treatment.new.page.items c.from_residual-in_err-add_treatment.result (search rules)
    (subst (λ (text : List ℕ). Stopped g.S.Sink.written g.S.Sink.room g.S.Sink.faults c.args.out.now c.add_treatment.new.out c.args.page.now.items text) (front_text c.args.asked c.args.ndfa c.args.classes.now c.args.automata)
    (added_then_stopped c.in_ok-add_header.ensures (stopped_before ((line_text (codes "classes" ∷ decimal (length c.args.classes.now) ∷ [])) ++ ((flat_map (λ class. line_text (class_line class)) c.args.classes.now) ++ (line_text (codes "automata" ∷ decimal c.args.automata ∷ [])))) c.in_err-add_treatment.ensures)))

pub returns-in_err-add_count : goal.returns-in_err-add_count
returns-in_err-add_count g c =
    adds_failed c.add_count.new.page.items c.from_residual-in_err-add_count.result (search rules)
    (subst (λ (text : List ℕ). Stopped g.S.Sink.written g.S.Sink.room g.S.Sink.faults c.args.out.now c.add_count.new.out c.args.page.now.items text) (front_text c.args.asked c.args.ndfa c.args.classes.now c.args.automata)
    (added_then_stopped c.in_ok-add_header.ensures (added_then_stopped c.in_ok-add_treatment.ensures (stopped_before ((flat_map (λ class. line_text (class_line class)) c.args.classes.now) ++ (line_text (codes "automata" ∷ decimal c.args.automata ∷ []))) c.in_err-add_count.ensures))))

pub returns-in_err-add_classes : goal.returns-in_err-add_classes
returns-in_err-add_classes g c =
    adds_failed c.add_classes.new.page.items c.from_residual-in_err-add_classes.result (search rules)
    (subst (λ (text : List ℕ). Stopped g.S.Sink.written g.S.Sink.room g.S.Sink.faults c.args.out.now c.add_classes.new.out c.args.page.now.items text) (front_text c.args.asked c.args.ndfa c.args.classes.now c.args.automata)
    (added_then_stopped c.in_ok-add_header.ensures (added_then_stopped c.in_ok-add_treatment.ensures (added_then_stopped c.in_ok-add_count.ensures (stopped_before (line_text (codes "automata" ∷ decimal c.args.automata ∷ [])) c.in_err-add_classes.ensures)))))

pub returns : goal.returns
returns g c =
    let new = c.add_count-2.new.out in
    let after = c.add_count-2.new.page.items in
    let result = c.add_count-2.result in
    subst (λ (text : List ℕ). Adds g.S.Sink.written g.S.Sink.room g.S.Sink.faults c.args.out.now c.add_count-2.new.out c.args.page.now.items c.add_count-2.new.page.items text c.add_count-2.result) (front_text c.args.asked c.args.ndfa c.args.classes.now c.args.automata)
    (adds_then new after ((line_text (treatment_line c.args.ndfa)) ++ ((line_text (codes "classes" ∷ decimal (length c.args.classes.now) ∷ [])) ++ ((flat_map (λ class. line_text (class_line class)) c.args.classes.now) ++ (line_text (codes "automata" ∷ decimal c.args.automata ∷ []))))) result c.in_ok-add_header.ensures
    (adds_then new after ((line_text (codes "classes" ∷ decimal (length c.args.classes.now) ∷ [])) ++ ((flat_map (λ class. line_text (class_line class)) c.args.classes.now) ++ (line_text (codes "automata" ∷ decimal c.args.automata ∷ [])))) result c.in_ok-add_treatment.ensures
    (adds_then new after ((flat_map (λ class. line_text (class_line class)) c.args.classes.now) ++ (line_text (codes "automata" ∷ decimal c.args.automata ∷ []))) result c.in_ok-add_count.ensures
    (adds_then new after (line_text (codes "automata" ∷ decimal c.args.automata ∷ [])) result c.in_ok-add_classes.ensures c.add_count-2.ensures))))
