use Rattle.std.proofs.Common.{map, sym, ◌∙◌}
use Rattle.hz_answer_model.specs.Answers.{Compiles}
use Rattle.hz_auto.specs.Machines.{reports_of}
use Rattle.hz_block_model.proofs.Settling.SettleLaws.{machine_settles}
use Rattle.hz_checked.specs.Shape.{automaton_of, class_of, bypass_of, attribute_of}
use Rattle.hz_front.proofs.JudgeLemmas.{described_refused}
use Rattle.hz_mdread.specs.Shape.{options}
use Rattle.hz_tables.specs.Machines.{machine_of}
use Rattle.hz_tool.proofs.BlockLemmas.{classes_count as held_count}
use Rattle.hz_tool.proofs.CommandLemmas.{limit_refused}
use Rattle.hz_tool.proofs.DecideLemmas.{phase_exit}
use Rattle.hz_tool.proofs.MachineLemmas.{classes_count, machine_for}
use Rattle.hz_tool.specs.Deciding.{Nothing}
use Rattle.hz_tool.specs.Fronts.{Compiling, IsFrontOf}
use Rattle.hz_tool.proofs.phases.compiling.judge_compiled.Goals as goal

pub returns-in_err-checked : goal.returns-in_err-checked
returns-in_err-checked c =
    let refusal = c.in_err-checked.field-0.0 in
    phase_exit (IsFrontOf c.args.text.now) (Compiling c.args.file.now c.args.text.now) c.from_residual.result refusal c.from_residual.ensures.1
    (c.in_err-checked.ensures.kind, described_refused c.args.file.now c.args.text.now (λ d known. Compiles c.args.file.now d known Nothing) refusal c.in_err-checked.ensures.err)

pub returns-in-Ok : goal.returns-in-Ok
returns-in-Ok c =
    let checked = c.in_ok-checked.checked in
    let machine = c.in-Ok.compiled.machine in
    let is = c.in_ok-checked.ensures.ok in
    let for = machine_for is.d checked is.is (machine_of machine) (reports_of c.in-Ok.compiled.reports.items) c.in-Ok.ensures.compiled in
    record {
      checked = is;
      compiled = record { compiled = c.in-Ok.ensures.compiled; options = c.in-Ok.ensures.options };
      classes = classes_count is.d is.is.known (machine_of machine) for ∙ sym (held_count is.d checked is.is);
      settles = machine_settles (options checked.options) (map automaton_of checked.automata.items) (map class_of checked.classes.items) (map bypass_of checked.bypasses.items) (map attribute_of checked.attributes.items) checked.kept checked.asks
          (machine_of machine) (reports_of c.in-Ok.compiled.reports.items) machine.kept c.in-Ok.ensures.compiled;
    }

pub returns : goal.returns
returns c =
    let is = c.in_ok-checked.ensures.ok in
    (c.refuse_limit.ensures.kind, limit_refused c.args.file.now c.args.text.now c.in_ok-checked.checked is c.refuse_limit.result (c.refuse_limit.ensures.reported is.d is.is))
