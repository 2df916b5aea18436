use Rattle.std.proofs.Common.{◌≡◌, ℕ, List, Bool, [], ◌∷◌, ◌++◌, length, codes, sym, ap, subst, ◌∙◌, arith, rules}
use Rattle.std.specs.List.{flat_map}
use Rattle.hz_io.specs.Pages.{Adds, Added, Stopped}
use Rattle.hz_io.proofs.Adding.{added_then_stopped, stopped_before, adds_then, adds_failed}
use Rattle.hz_checked.specs.declared.checked.CheckedAutomaton.{CheckedAutomaton}
use Rattle.hz_auto.specs.declared.report.AutoReport.{AutoReport}
use Rattle.hz_tables.specs.declared.part.Part.{Part}
use Rattle.hz_tabtext_model.specs.Texts.{TablesText, line_text, part_lines}
use Rattle.hz_tabfile.specs.Saying.{says, parts_says, are_asked, front_lines, AreWritable}
use Rattle.hz_tabfile.proofs.LineTexts.{line_spaced}
use Rattle.hz_tabfile.proofs.PartTexts.{whole_text}
use Rattle.hz_tabfile.proofs.PartsThere.{says_length, are_writable}
use Rattle.hz_tabfile.proofs.writing.parts.add_tables.Goals as goal

pub returns-in_err-add_front : goal.returns-in_err-add_front
returns-in_err-add_front g c =
    let said : TablesText = says c.args.compiled.now c.args.checked.now in
    let stats : Bool = c.args.compiled.now.options.stats in
    let ndfa : Bool = c.args.compiled.now.options.ndfa in
    let classes = c.args.compiled.now.machine.classes.items in
    let number : c.len-automata.result ≡ length said.parts = c.len-automata.ensures ∙ (c.args.compiled.now.machine.parts.ok.0 ∙ sym (says_length stats c.args.checked.now.automata.items c.args.compiled.now.reports.items c.args.compiled.now.machine.parts.items)) in
    let asked_is : c.are_asked-asked.result ≡ said.asked = c.are_asked-asked.ensures ∙ ap are_asked c.deref.ensures.value in
    let front_is : flat_map line_text (front_lines c.are_asked-asked.result ndfa c.deref-2.result.now c.len-automata.result) ≡ flat_map line_text (front_lines said.asked ndfa classes (length said.parts)) =
    ap (λ (asked : Bool). flat_map line_text (front_lines asked ndfa c.deref-2.result.now c.len-automata.result)) asked_is ∙ (ap (λ (names : List (List ℕ)). flat_map line_text (front_lines said.asked ndfa names c.len-automata.result)) c.deref-2.ensures.value ∙ ap (λ (n : ℕ). flat_map line_text (front_lines said.asked ndfa classes n)) number) in
    adds_failed c.add_front.new.page.items c.from_residual.result (search rules)
    (subst (λ (text : List ℕ). Stopped g.S.Sink.written g.S.Sink.room g.S.Sink.faults c.args.out.now c.add_front.new.out c.args.page.now.items text) (whole_text said)
    (stopped_before ((flat_map (λ part. flat_map line_text (part_lines said.asked part)) said.parts) ++ (line_text (codes "end" ∷ []))) (subst (λ (text : List ℕ). Stopped g.S.Sink.written g.S.Sink.room g.S.Sink.faults c.args.out.now c.add_front.new.out c.args.page.now.items text) front_is c.in_err-add_front.ensures)))

pub returns-in_err-add_parts : goal.returns-in_err-add_parts
returns-in_err-add_parts g c =
    let said : TablesText = says c.args.compiled.now c.args.checked.now in
    let stats : Bool = c.args.compiled.now.options.stats in
    let ndfa : Bool = c.args.compiled.now.options.ndfa in
    let classes = c.args.compiled.now.machine.classes.items in
    let number : c.len-automata.result ≡ length said.parts = c.len-automata.ensures ∙ (c.args.compiled.now.machine.parts.ok.0 ∙ sym (says_length stats c.args.checked.now.automata.items c.args.compiled.now.reports.items c.args.compiled.now.machine.parts.items)) in
    let asked_is : c.are_asked-asked.result ≡ said.asked = c.are_asked-asked.ensures ∙ ap are_asked c.deref.ensures.value in
    let front_is : flat_map line_text (front_lines c.are_asked-asked.result ndfa c.deref-2.result.now c.len-automata.result) ≡ flat_map line_text (front_lines said.asked ndfa classes (length said.parts)) =
    ap (λ (asked : Bool). flat_map line_text (front_lines asked ndfa c.deref-2.result.now c.len-automata.result)) asked_is ∙ (ap (λ (names : List (List ℕ)). flat_map line_text (front_lines said.asked ndfa names c.len-automata.result)) c.deref-2.ensures.value ∙ ap (λ (n : ℕ). flat_map line_text (front_lines said.asked ndfa classes n)) number) in
    let parts_is : flat_map (λ part. flat_map line_text (part_lines c.are_asked-asked.result part)) (parts_says stats c.deref-3.result.now c.deref-4.result.now c.deref-5.result.now) ≡ flat_map (λ part. flat_map line_text (part_lines said.asked part)) said.parts =
    ap (λ (asked : Bool). flat_map (λ part. flat_map line_text (part_lines asked part)) (parts_says stats c.deref-3.result.now c.deref-4.result.now c.deref-5.result.now)) asked_is
    ∙ (ap (λ (xs : List CheckedAutomaton). flat_map (λ part. flat_map line_text (part_lines said.asked part)) (parts_says stats xs c.deref-4.result.now c.deref-5.result.now)) c.deref-3.ensures.value
    ∙ (ap (λ (xs : List AutoReport). flat_map (λ part. flat_map line_text (part_lines said.asked part)) (parts_says stats c.args.checked.now.automata.items xs c.deref-5.result.now)) c.deref-4.ensures.value
    ∙ ap (λ (xs : List Part). flat_map (λ part. flat_map line_text (part_lines said.asked part)) (parts_says stats c.args.checked.now.automata.items c.args.compiled.now.reports.items xs)) c.deref-5.ensures.value)) in
    adds_failed c.add_parts.new.page.items c.from_residual-in_err-add_parts.result (search rules)
    (subst (λ (text : List ℕ). Stopped g.S.Sink.written g.S.Sink.room g.S.Sink.faults c.args.out.now c.add_parts.new.out c.args.page.now.items text) (whole_text said)
    (added_then_stopped (subst (λ (text : List ℕ). Added g.S.Sink.written g.S.Sink.room g.S.Sink.faults c.args.out.now c.add_front.new.out c.args.page.now.items c.add_front.new.page.items text) front_is c.in_ok-add_front.ensures) (stopped_before (line_text (codes "end" ∷ [])) (subst (λ (text : List ℕ). Stopped g.S.Sink.written g.S.Sink.room g.S.Sink.faults c.add_front.new.out c.add_parts.new.out c.add_front.new.page.items text) parts_is c.in_err-add_parts.ensures))))

pub returns : goal.returns
returns g c =
    let said : TablesText = says c.args.compiled.now c.args.checked.now in
    let stats : Bool = c.args.compiled.now.options.stats in
    let ndfa : Bool = c.args.compiled.now.options.ndfa in
    let classes = c.args.compiled.now.machine.classes.items in
    let number : c.len-automata.result ≡ length said.parts = c.len-automata.ensures ∙ (c.args.compiled.now.machine.parts.ok.0 ∙ sym (says_length stats c.args.checked.now.automata.items c.args.compiled.now.reports.items c.args.compiled.now.machine.parts.items)) in
    let asked_is : c.are_asked-asked.result ≡ said.asked = c.are_asked-asked.ensures ∙ ap are_asked c.deref.ensures.value in
    let front_is : flat_map line_text (front_lines c.are_asked-asked.result ndfa c.deref-2.result.now c.len-automata.result) ≡ flat_map line_text (front_lines said.asked ndfa classes (length said.parts)) =
    ap (λ (asked : Bool). flat_map line_text (front_lines asked ndfa c.deref-2.result.now c.len-automata.result)) asked_is ∙ (ap (λ (names : List (List ℕ)). flat_map line_text (front_lines said.asked ndfa names c.len-automata.result)) c.deref-2.ensures.value ∙ ap (λ (n : ℕ). flat_map line_text (front_lines said.asked ndfa classes n)) number) in
    let parts_is : flat_map (λ part. flat_map line_text (part_lines c.are_asked-asked.result part)) (parts_says stats c.deref-3.result.now c.deref-4.result.now c.deref-5.result.now) ≡ flat_map (λ part. flat_map line_text (part_lines said.asked part)) said.parts =
    ap (λ (asked : Bool). flat_map (λ part. flat_map line_text (part_lines asked part)) (parts_says stats c.deref-3.result.now c.deref-4.result.now c.deref-5.result.now)) asked_is
    ∙ (ap (λ (xs : List CheckedAutomaton). flat_map (λ part. flat_map line_text (part_lines said.asked part)) (parts_says stats xs c.deref-4.result.now c.deref-5.result.now)) c.deref-3.ensures.value
    ∙ (ap (λ (xs : List AutoReport). flat_map (λ part. flat_map line_text (part_lines said.asked part)) (parts_says stats c.args.checked.now.automata.items xs c.deref-5.result.now)) c.deref-4.ensures.value
    ∙ ap (λ (xs : List Part). flat_map (λ part. flat_map line_text (part_lines said.asked part)) (parts_says stats c.args.checked.now.automata.items c.args.compiled.now.reports.items xs)) c.deref-5.ensures.value)) in
    subst (λ (text : List ℕ). Adds g.S.Sink.written g.S.Sink.room g.S.Sink.faults c.args.out.now c.add.new.out c.args.page.now.items c.add.new.page.items text c.add.result) (whole_text said)
    (adds_then c.add.new.out c.add.new.page.items ((flat_map (λ part. flat_map line_text (part_lines said.asked part)) said.parts) ++ (line_text (codes "end" ∷ []))) c.add.result (subst (λ (text : List ℕ). Added g.S.Sink.written g.S.Sink.room g.S.Sink.faults c.args.out.now c.add_front.new.out c.args.page.now.items c.add_front.new.page.items text) front_is c.in_ok-add_front.ensures)
    (adds_then c.add.new.out c.add.new.page.items (line_text (codes "end" ∷ [])) c.add.result (subst (λ (text : List ℕ). Added g.S.Sink.written g.S.Sink.room g.S.Sink.faults c.add_front.new.out c.add_parts.new.out c.add_front.new.page.items c.add_parts.new.page.items text) parts_is c.in_ok-add_parts.ensures) (subst (λ (text : List ℕ). Adds g.S.Sink.written g.S.Sink.room g.S.Sink.faults c.add_parts.new.out c.add.new.out c.add_parts.new.page.items c.add.new.page.items text c.add.result) (sym (line_spaced (codes "end") [])) c.add.ensures)))

pub add_parts-requires-clause-writable : goal.add_parts-requires-clause-writable
add_parts-requires-clause-writable g c =
    let are : AreWritable c.args.checked.now.automata.items c.args.compiled.now.reports.items c.args.compiled.now.machine.parts.items = are_writable c.args.compiled.now c.args.checked.now c.requires.sayable in
    subst (λ (xs : List CheckedAutomaton). AreWritable xs c.deref-4.result.now c.deref-5.result.now) (sym c.deref-3.ensures.value)
    (subst (λ (xs : List AutoReport). AreWritable c.args.checked.now.automata.items xs c.deref-5.result.now) (sym c.deref-4.ensures.value)
    (subst (λ (xs : List Part). AreWritable c.args.checked.now.automata.items c.args.compiled.now.reports.items xs) (sym c.deref-5.ensures.value) are))

pub add_front-requires-clause-few : goal.add_front-requires-clause-few
add_front-requires-clause-few g c = let few = c.args.compiled.now.machine.kept.class_count in omega (arith, few, ap length c.deref-2.ensures.value)
