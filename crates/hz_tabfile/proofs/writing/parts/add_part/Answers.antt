use Rattle.std.proofs.Common.{◌≡◌, ℕ, List, [], ◌∷◌, ◌++◌, codes, decimal, sym, ap, subst, ◌∙◌, rules}
use Rattle.std.specs.List.{flat_map}
use Rattle.hz_io.specs.Pages.{Adds, Added, Stopped}
use Rattle.hz_io.proofs.Adding.{added_then_stopped, stopped_before, adds_then, adds_failed}
use Rattle.hz_tables.specs.Parts.{rows_of, part_of}
use Rattle.hz_auto.specs.Reports.{report_of}
use Rattle.hz_tabtext_model.specs.Texts.{PartText, line_text, head_line, map_line, asks_lines, counts_lines, row_lines}
use Rattle.hz_tabtext_model.specs.Said.{part_said, row_said}
use Rattle.hz_tabfile.proofs.PartTexts.{made_length, part_text}
use Rattle.hz_tabfile.proofs.writing.parts.add_part.Goals as goal

pub returns-in_err-add_head : goal.returns-in_err-add_head
returns-in_err-add_head g c =
    let said : PartText = (part_said c.args.stats c.args.units.now (report_of c.args.report.now) (part_of c.args.part.now)) in
    let head : line_text (codes "automaton" ∷ c.args.part.now.name ∷ decimal c.class_columns.result ∷ decimal c.states.result ∷ []) ≡ line_text (head_line said) =
    ap (λ (n : ℕ). line_text (codes "automaton" ∷ c.args.part.now.name ∷ decimal n ∷ decimal c.states.result ∷ [])) c.class_columns.ensures
    ∙ ap (λ (n : ℕ). line_text (codes "automaton" ∷ c.args.part.now.name ∷ decimal said.columns ∷ decimal n ∷ [])) (c.states.ensures.states ∙ sym (made_length (row_said c.args.units.now (report_of c.args.report.now).shown) (rows_of c.args.part.now.table))) in
    adds_failed c.add_head.new.page.items c.from_residual.result (search rules)
    (subst (λ (text : List ℕ). Stopped g.S.Sink.written g.S.Sink.room g.S.Sink.faults c.args.out.now c.add_head.new.out c.args.page.now.items text) (part_text c.args.asked said)
    (stopped_before ((line_text (map_line said.map)) ++ ((flat_map line_text (asks_lines c.args.asked said.asks)) ++ ((flat_map line_text (counts_lines said.counts)) ++ (flat_map (λ row. flat_map line_text (row_lines row)) said.rows)))) (subst (λ (text : List ℕ). Stopped g.S.Sink.written g.S.Sink.room g.S.Sink.faults c.args.out.now c.add_head.new.out c.args.page.now.items text) head c.in_err-add_head.ensures)))

pub returns-in_err-add_map : goal.returns-in_err-add_map
returns-in_err-add_map g c =
    let said : PartText = (part_said c.args.stats c.args.units.now (report_of c.args.report.now) (part_of c.args.part.now)) in
    let head : line_text (codes "automaton" ∷ c.args.part.now.name ∷ decimal c.class_columns.result ∷ decimal c.states.result ∷ []) ≡ line_text (head_line said) =
    ap (λ (n : ℕ). line_text (codes "automaton" ∷ c.args.part.now.name ∷ decimal n ∷ decimal c.states.result ∷ [])) c.class_columns.ensures
    ∙ ap (λ (n : ℕ). line_text (codes "automaton" ∷ c.args.part.now.name ∷ decimal said.columns ∷ decimal n ∷ [])) (c.states.ensures.states ∙ sym (made_length (row_said c.args.units.now (report_of c.args.report.now).shown) (rows_of c.args.part.now.table))) in
    adds_failed c.add_map.new.page.items c.from_residual-in_err-add_map.result (search rules)
    (subst (λ (text : List ℕ). Stopped g.S.Sink.written g.S.Sink.room g.S.Sink.faults c.args.out.now c.add_map.new.out c.args.page.now.items text) (part_text c.args.asked said)
    (added_then_stopped (subst (λ (text : List ℕ). Added g.S.Sink.written g.S.Sink.room g.S.Sink.faults c.args.out.now c.add_head.new.out c.args.page.now.items c.add_head.new.page.items text) head c.in_ok-add_head.ensures) (stopped_before ((flat_map line_text (asks_lines c.args.asked said.asks)) ++ ((flat_map line_text (counts_lines said.counts)) ++ (flat_map (λ row. flat_map line_text (row_lines row)) said.rows))) (subst (λ (columns : List ℕ). Stopped g.S.Sink.written g.S.Sink.room g.S.Sink.faults c.add_head.new.out c.add_map.new.out c.add_head.new.page.items (line_text (map_line columns))) c.deref.ensures.value c.in_err-add_map.ensures))))

pub returns-in_err-add_asks : goal.returns-in_err-add_asks
returns-in_err-add_asks g c =
    let said : PartText = (part_said c.args.stats c.args.units.now (report_of c.args.report.now) (part_of c.args.part.now)) in
    let head : line_text (codes "automaton" ∷ c.args.part.now.name ∷ decimal c.class_columns.result ∷ decimal c.states.result ∷ []) ≡ line_text (head_line said) =
    ap (λ (n : ℕ). line_text (codes "automaton" ∷ c.args.part.now.name ∷ decimal n ∷ decimal c.states.result ∷ [])) c.class_columns.ensures
    ∙ ap (λ (n : ℕ). line_text (codes "automaton" ∷ c.args.part.now.name ∷ decimal said.columns ∷ decimal n ∷ [])) (c.states.ensures.states ∙ sym (made_length (row_said c.args.units.now (report_of c.args.report.now).shown) (rows_of c.args.part.now.table))) in
    adds_failed c.add_asks.new.page.items c.from_residual-in_err-add_asks.result (search rules)
    (subst (λ (text : List ℕ). Stopped g.S.Sink.written g.S.Sink.room g.S.Sink.faults c.args.out.now c.add_asks.new.out c.args.page.now.items text) (part_text c.args.asked said)
    (added_then_stopped (subst (λ (text : List ℕ). Added g.S.Sink.written g.S.Sink.room g.S.Sink.faults c.args.out.now c.add_head.new.out c.args.page.now.items c.add_head.new.page.items text) head c.in_ok-add_head.ensures) (added_then_stopped (subst (λ (columns : List ℕ). Added g.S.Sink.written g.S.Sink.room g.S.Sink.faults c.add_head.new.out c.add_map.new.out c.add_head.new.page.items c.add_map.new.page.items (line_text (map_line columns))) c.deref.ensures.value c.in_ok-add_map.ensures) (stopped_before ((flat_map line_text (counts_lines said.counts)) ++ (flat_map (λ row. flat_map line_text (row_lines row)) said.rows)) (subst (λ (names : List (List ℕ)). Stopped g.S.Sink.written g.S.Sink.room g.S.Sink.faults c.add_map.new.out c.add_asks.new.out c.add_map.new.page.items (flat_map line_text (asks_lines c.args.asked names))) c.deref-2.ensures.value c.in_err-add_asks.ensures)))))

pub returns-in_err-add_counts : goal.returns-in_err-add_counts
returns-in_err-add_counts g c =
    let said : PartText = (part_said c.args.stats c.args.units.now (report_of c.args.report.now) (part_of c.args.part.now)) in
    let head : line_text (codes "automaton" ∷ c.args.part.now.name ∷ decimal c.class_columns.result ∷ decimal c.states.result ∷ []) ≡ line_text (head_line said) =
    ap (λ (n : ℕ). line_text (codes "automaton" ∷ c.args.part.now.name ∷ decimal n ∷ decimal c.states.result ∷ [])) c.class_columns.ensures
    ∙ ap (λ (n : ℕ). line_text (codes "automaton" ∷ c.args.part.now.name ∷ decimal said.columns ∷ decimal n ∷ [])) (c.states.ensures.states ∙ sym (made_length (row_said c.args.units.now (report_of c.args.report.now).shown) (rows_of c.args.part.now.table))) in
    adds_failed c.add_counts.new.page.items c.from_residual-in_err-add_counts.result (search rules)
    (subst (λ (text : List ℕ). Stopped g.S.Sink.written g.S.Sink.room g.S.Sink.faults c.args.out.now c.add_counts.new.out c.args.page.now.items text) (part_text c.args.asked said)
    (added_then_stopped (subst (λ (text : List ℕ). Added g.S.Sink.written g.S.Sink.room g.S.Sink.faults c.args.out.now c.add_head.new.out c.args.page.now.items c.add_head.new.page.items text) head c.in_ok-add_head.ensures) (added_then_stopped (subst (λ (columns : List ℕ). Added g.S.Sink.written g.S.Sink.room g.S.Sink.faults c.add_head.new.out c.add_map.new.out c.add_head.new.page.items c.add_map.new.page.items (line_text (map_line columns))) c.deref.ensures.value c.in_ok-add_map.ensures) (added_then_stopped (subst (λ (names : List (List ℕ)). Added g.S.Sink.written g.S.Sink.room g.S.Sink.faults c.add_map.new.out c.add_asks.new.out c.add_map.new.page.items c.add_asks.new.page.items (flat_map line_text (asks_lines c.args.asked names))) c.deref-2.ensures.value c.in_ok-add_asks.ensures) (stopped_before (flat_map (λ row. flat_map line_text (row_lines row)) said.rows) c.in_err-add_counts.ensures)))))

pub returns : goal.returns
returns g c =
    let said : PartText = (part_said c.args.stats c.args.units.now (report_of c.args.report.now) (part_of c.args.part.now)) in
    let head : line_text (codes "automaton" ∷ c.args.part.now.name ∷ decimal c.class_columns.result ∷ decimal c.states.result ∷ []) ≡ line_text (head_line said) =
    ap (λ (n : ℕ). line_text (codes "automaton" ∷ c.args.part.now.name ∷ decimal n ∷ decimal c.states.result ∷ [])) c.class_columns.ensures
    ∙ ap (λ (n : ℕ). line_text (codes "automaton" ∷ c.args.part.now.name ∷ decimal said.columns ∷ decimal n ∷ [])) (c.states.ensures.states ∙ sym (made_length (row_said c.args.units.now (report_of c.args.report.now).shown) (rows_of c.args.part.now.table))) in
    subst (λ (text : List ℕ). Adds g.S.Sink.written g.S.Sink.room g.S.Sink.faults c.args.out.now c.add_states.new.out c.args.page.now.items c.add_states.new.page.items text c.add_states.result) (part_text c.args.asked said)
    (adds_then c.add_states.new.out c.add_states.new.page.items ((line_text (map_line said.map)) ++ ((flat_map line_text (asks_lines c.args.asked said.asks)) ++ ((flat_map line_text (counts_lines said.counts)) ++ (flat_map (λ row. flat_map line_text (row_lines row)) said.rows)))) c.add_states.result (subst (λ (text : List ℕ). Added g.S.Sink.written g.S.Sink.room g.S.Sink.faults c.args.out.now c.add_head.new.out c.args.page.now.items c.add_head.new.page.items text) head c.in_ok-add_head.ensures)
    (adds_then c.add_states.new.out c.add_states.new.page.items ((flat_map line_text (asks_lines c.args.asked said.asks)) ++ ((flat_map line_text (counts_lines said.counts)) ++ (flat_map (λ row. flat_map line_text (row_lines row)) said.rows))) c.add_states.result (subst (λ (columns : List ℕ). Added g.S.Sink.written g.S.Sink.room g.S.Sink.faults c.add_head.new.out c.add_map.new.out c.add_head.new.page.items c.add_map.new.page.items (line_text (map_line columns))) c.deref.ensures.value c.in_ok-add_map.ensures)
    (adds_then c.add_states.new.out c.add_states.new.page.items ((flat_map line_text (counts_lines said.counts)) ++ (flat_map (λ row. flat_map line_text (row_lines row)) said.rows)) c.add_states.result (subst (λ (names : List (List ℕ)). Added g.S.Sink.written g.S.Sink.room g.S.Sink.faults c.add_map.new.out c.add_asks.new.out c.add_map.new.page.items c.add_asks.new.page.items (flat_map line_text (asks_lines c.args.asked names))) c.deref-2.ensures.value c.in_ok-add_asks.ensures)
    (adds_then c.add_states.new.out c.add_states.new.page.items (flat_map (λ row. flat_map line_text (row_lines row)) said.rows) c.add_states.result c.in_ok-add_counts.ensures c.add_states.ensures))))
