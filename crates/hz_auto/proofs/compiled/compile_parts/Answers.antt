use Rattle.std.proofs.Common.{rules, All, length, sym, subst, arith}
use Rattle.std.proofs.lemmas.List.Elements.{All-push}
use Rattle.hz_pipeline_model.specs.Tables.Machines.{IsPart}
use Rattle.hz_tables.specs.Parts.{part_of}
use Rattle.hz_auto.specs.Parts.{IsKept}
use Rattle.hz_auto.proofs.MachineLemmas.{fault_reported, compiled_more, asks_reported}
use Rattle.hz_auto.proofs.compiled.compile_parts.Goals as goal

pub returns-in-Err-clause-fault : goal.returns-in-Err-clause-fault
returns-in-Err-clause-fault c = fault_reported c.args.checked.now c.loop-automaton.automaton c.loop-automaton.all.parts.items c.loop-automaton.all.reports.items c.loop-automaton.invariant.compiled (let h = c.loop-automaton-test.true in let e = c.len-automaton-end.ensures in let ok = c.args.checked.now.automata.ok in omega (arith, h, e, ok)) c.in-Err.fault c.fault_at.result c.in-Err.ensures.fault c.fault_at.ensures

pub loop-automaton-preserved : goal.loop-automaton-preserved
loop-automaton-preserved c = record {
  compiled = compiled_more c.args.checked.now c.loop-automaton.automaton c.loop-automaton.all.parts.items c.add.new.self.parts.items c.loop-automaton.all.reports.items c.add.new.self.reports.items c.in-Ok.compiled.part c.in-Ok.compiled.report c.loop-automaton.invariant.compiled c.in-Ok-add.ensures.parts c.in-Ok-add.ensures.reports c.in-Ok.ensures.compiled;
  kept = subst (All (λ part. IsPart (length c.args.checked.now.classes.items) (part_of part))) (sym c.in-Ok-add.ensures.parts) (All-push (λ part. IsPart (length c.args.checked.now.classes.items) (part_of part)) c.loop-automaton.all.parts.items c.in-Ok.compiled.part c.loop-automaton.invariant.kept c.in-Ok.ensures.kept);
  forms = subst (All (λ part. IsKept c.args.checked.now.options.no_comb_vect part.table)) (sym c.in-Ok-add.ensures.parts) (All-push (λ part. IsKept c.args.checked.now.options.no_comb_vect part.table) c.loop-automaton.all.parts.items c.in-Ok.compiled.part c.loop-automaton.invariant.forms c.in-Ok.ensures.form);
}

pub returns-clause-asks : goal.returns-clause-asks
returns-clause-asks c = asks_reported c.args.checked.now c.loop-automaton.all.parts.items c.loop-automaton.all.reports.items (search rules)
