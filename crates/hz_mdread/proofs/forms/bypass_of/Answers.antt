use Rattle.std.proofs.Common.{◌≡◌, Result, Ok, Err, sym, subst, arith}
use Rattle.std.specs.Prelude.{IfOk, IfErr}
use Rattle.hz_description_model.specs.Reading.DescriptionForms.{DescriptionFault, Addition}
use Rattle.hz_mdread.specs.Faults.{TellsOf}
use Rattle.hz_mdread.specs.Shape.{addition}
use Rattle.hz_mdread.proofs.BypassLemmas.{three_is, four_is}
use Rattle.hz_mdread.proofs.OperandLemmas.{no_bypass}
use Rattle.hz_mdread.proofs.forms.bypass_of.Goals as goal

pub returns-then-operands-eq3-clause-ok : goal.returns-then-operands-eq3-clause-ok
returns-then-operands-eq3-clause-ok c = subst (λ (said : Result Addition DescriptionFault). IfOk c.bypass_with.result (λ added. said ≡ Ok (addition added)))
    (sym (three_is c.args.place.line c.args.place.form c.args.operands.now c.number-item.result c.outs-item.result c.ins-item.result c.if-operands-eq3.true c.number-item.is c.outs-item.is c.ins-item.is)) c.bypass_with.ensures.ok

pub returns-then-operands-eq3-clause-err : goal.returns-then-operands-eq3-clause-err
returns-then-operands-eq3-clause-err c = subst (λ (said : Result Addition DescriptionFault). IfErr c.bypass_with.result (TellsOf (λ fault. said ≡ Err fault)))
    (sym (three_is c.args.place.line c.args.place.form c.args.operands.now c.number-item.result c.outs-item.result c.ins-item.result c.if-operands-eq3.true c.number-item.is c.outs-item.is c.ins-item.is)) c.bypass_with.ensures.err

pub returns-then-operands-ne4-clause-err : goal.returns-then-operands-ne4-clause-err
returns-then-operands-ne4-clause-err c = no_bypass c.args.place.line c.args.place.form c.args.operands.now c.if-operands-eq3.false c.if-operands-ne4.true

pub returns-clause-ok : goal.returns-clause-ok
returns-clause-ok c = subst (λ (said : Result Addition DescriptionFault). IfOk c.bypass_with-2.result (λ added. said ≡ Ok (addition added)))
    (sym (four_is c.args.place.line c.args.place.form c.args.operands.now c.number-item-then-operands-lt5.result c.outs-item-then-operands-lt5.result c.ins-item-then-operands-lt5.result c.guard-item.result (omega arith)
    c.number-item-then-operands-lt5.is c.outs-item-then-operands-lt5.is c.ins-item-then-operands-lt5.is c.guard-item.is)) c.bypass_with-2.ensures.ok

pub returns-clause-err : goal.returns-clause-err
returns-clause-err c = subst (λ (said : Result Addition DescriptionFault). IfErr c.bypass_with-2.result (TellsOf (λ fault. said ≡ Err fault)))
    (sym (four_is c.args.place.line c.args.place.form c.args.operands.now c.number-item-then-operands-lt5.result c.outs-item-then-operands-lt5.result c.ins-item-then-operands-lt5.result c.guard-item.result (omega arith)
    c.number-item-then-operands-lt5.is c.outs-item-then-operands-lt5.is c.ins-item-then-operands-lt5.is c.guard-item.is)) c.bypass_with-2.ensures.err
