use Rattle.std.proofs.Common.{length, map, sym, subst}
use Rattle.hz_mdread.specs.Shape.{options as options_of}
use Rattle.hz_checked.specs.Shape.{automaton_of, class_of}
use Rattle.hz_auto.specs.Parts.{found_part_of}
use Rattle.hz_pipeline_model.specs.Compiling.Compiled.{IsCompiledPart}
use Rattle.hz_auto.specs.Reports.{report_of}
use Rattle.hz_auto.proofs.LeastLemmas.{least_compiled, least_kept}
use Rattle.hz_auto.proofs.part.minimised.Goals as goal

pub returns-clause-compiled : goal.returns-clause-compiled
returns-clause-compiled c =
    let checked = c.args.checked.now in
    subst (IsCompiledPart checked.options.no_minimization (options_of checked.options) (map automaton_of checked.automata.items) (map class_of checked.classes.items) c.args.automaton (found_part_of c.in_ok-least.field-0)) (sym c.in_ok-least.ensures.report)
    (least_compiled (found_part_of c.in-Ok.found) (found_part_of c.in_ok-least.field-0) c.in_ok-least.ensures.part (options_of checked.options) (map automaton_of checked.automata.items) (map class_of checked.classes.items) c.args.automaton
    (report_of c.in-Ok.found.report) c.in-Ok.ensures.compiled c.if-checked.false)

pub returns-clause-kept : goal.returns-clause-kept
returns-clause-kept c = least_kept (found_part_of c.in-Ok.found) (found_part_of c.in_ok-least.field-0) c.in_ok-least.ensures.part (length c.args.checked.now.classes.items) c.in-Ok.ensures.kept
