use Rattle.hz_answer_model.specs.TableAnswers.{TablesFaultAt}
use Rattle.hz_front.proofs.RefusingLemmas.{tells_fault}
use Rattle.hz_tabfile.specs.Given.{fault_of}
use Rattle.hz_tabtext_model.specs.Judging.{tables_word}
use Rattle.hz_same_top.proofs.judging.judge_tables.Goals as goal

pub returns-in-Err-clause-err : goal.returns-in-Err-clause-err
returns-in-Err-clause-err c = tells_fault tables_word (TablesFaultAt c.args.text.now) c.args.file c.reported.result (fault_of c.in-Err.fault) c.refuse_fault.result c.reported.ensures c.in-Err.ensures.exact c.refuse_fault.ensures.value
