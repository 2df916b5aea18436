use Rattle.std.proofs.Common.{◌≡◌, ◌+◌, drop, ap, sym, ◌∙◌, subst, arith}
use Rattle.std.specs.List.{slice_range}
use Rattle.std.specs.Option.{option_map}
use Rattle.std.proofs.lemmas.List.{drop_all}
use Rattle.hz_base_model.specs.Lines.{lines_of}
use Rattle.hz_pipeline_model.specs.Traces.Traces.{Trace, line_says}
use Rattle.hz_replay.specs.Lines.{event_of, fault_of, judged, judgement}
use Rattle.hz_replay.specs.Reading.{Source}
use Rattle.hz_replay.specs.Traces.{placed_in, cycles_in}
use Rattle.hz_replay.proofs.TraceLemmas.{wrong_line, good_line, low_after, from_none, is_trace, on_lines, placed_events, placed_lines, fault_from, ok_judged, trace_from}
use Rattle.hz_replay.proofs.trace.read_events.Goals as goal

pub returns-in-Err-clause-err : goal.returns-in-Err-clause-err
returns-in-Err-clause-err c =
    let names = c.args.names.now in
    let text = c.args.text.now in
    let at = c.loop-at.at in
    let end = c.line_end-end.result in
    let judges = subst (λ (s : Source). judgement c.judge.result ≡ judged c.loop-at.advanced (line_says s.names (slice_range s.text at end))) c.loop-at.invariant.source c.judge.ensures.judged in
    let reported = wrong_line names text (drop at text) (drop (end + 1) text) (slice_range text at end) (placed_in c.loop-at.events.items) c.loop-at.advanced c.loop-at.number c.loop-at.invariant.reported c.line_end-end.ensures.lines
    (fault_of c.in-Err.wrong) (sym judges ∙ ap judgement c.in-Err.is) in
    fault_from names text c.fault_at.result (fault_of c.in-Err.wrong) (c.loop-at.number + 1) c.fault_at.ensures reported

pub loop-at-preserved : goal.loop-at-preserved
loop-at-preserved c =
    let names = c.args.names.now in
    let text = c.args.text.now in
    let at = c.loop-at.at in
    let end = c.line_end-end.result in
    let line = slice_range text at end in
    let others = drop (end + 1) text in
    let says = subst (λ (s : Source). judgement c.judge.result ≡ judged c.loop-at.advanced (line_says s.names (slice_range s.text at end))) c.loop-at.invariant.source c.judge.ensures.judged in
    let judges = sym says ∙ (ap judgement c.in-Ok.is ∙ ok_judged c.in-Ok.what) in
    let good = good_line names text (drop at text) others line (placed_in c.loop-at.events.items) c.loop-at.advanced c.loop-at.number c.loop-at.invariant.reported c.line_end-end.ensures.lines (option_map event_of c.in-Ok.what) judges in
    let low = low_after c.loop-at.advanced (line_says names line) (option_map event_of c.in-Ok.what) c.loop-at.invariant.low judges in
    let cycles = c.in_ok-advanced.ensures.cycles in
    let order = c.line_end-end.ensures.order in
    let within = c.line_end-end.ensures.within in
    let counted = c.loop-at.invariant.counted in
    record {
      reported = ap (λ n. trace_from names (placed_in c.note.new.events.items) (c.loop-at.advanced + n) (c.loop-at.number + 1 + 1) (lines_of others)) cycles
          ∙ (ap (λ done. trace_from names done (c.loop-at.advanced + cycles_in (option_map event_of c.in-Ok.what)) (c.loop-at.number + 1 + 1) (lines_of others)) c.in_ok-advanced.ensures.noted ∙ good);
      source = c.judge.ensures.source ∙ c.loop-at.invariant.source;
      low = omega (arith, low, cycles);
      counted = omega (arith, counted, order);
      within = omega (arith, within);
    }

pub returns-clause-ok : goal.returns-clause-ok
returns-clause-ok c =
    let names = c.args.names.now in
    let text = c.args.text.now in
    let items = placed_in c.loop-at.events.items in
    let all = sym c.loop-at.invariant.reported ∙ (ap (λ rest. trace_from names items c.loop-at.advanced (c.loop-at.number + 1) (lines_of rest)) (drop_all c.loop-at.at text c.loop-at-test.false) ∙ from_none names items c.loop-at.advanced (c.loop-at.number + 1)) in
    subst (Trace names text) (placed_events c.loop-at.events.items) (is_trace names text items all)

pub returns-clause-lines : goal.returns-clause-lines
returns-clause-lines c =
    let names = c.args.names.now in
    let text = c.args.text.now in
    let items = placed_in c.loop-at.events.items in
    let all = sym c.loop-at.invariant.reported ∙ (ap (λ rest. trace_from names items c.loop-at.advanced (c.loop-at.number + 1) (lines_of rest)) (drop_all c.loop-at.at text c.loop-at-test.false) ∙ from_none names items c.loop-at.advanced (c.loop-at.number + 1)) in
    sym (placed_lines c.loop-at.events.items) ∙ on_lines names text items all
