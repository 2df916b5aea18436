use Rattle.std.proofs.Common.{true, length, ◌≡◌, ◌∙◌, Some, None, sym}
use Rattle.std.proofs.lemmas.Result.{err_from_is_err_and, IfOk-weaker, IfErr-weaker}
use Rattle.hz_description_model.specs.Grammar.ExpressionTexts.{Reads, FaultAt, unexpected}
use Rattle.hz_description_model.specs.Reservations.Expressions.{is_expression}
use Rattle.hz_description_model.specs.Grammar.ExpressionSteps.{finish}
use Rattle.hz_description_model.proofs.Grammar.ExpressionTextsLaws.{well_formed}
use Rattle.hz_regexp.specs.Faults.{Tells}
use Rattle.hz_regexp.specs.Shape.{expression}
use Rattle.hz_regexp.specs.State.{state_of}
use Rattle.hz_regexp.specs.Tokens.{token_of}
use Rattle.hz_regexp.proofs.Reading.{taken_first, taken_more, wrong_first, wrong_next, read_all, wrong_end}
use Rattle.hz_regexp.proofs.reader.parse_expr.Goals as goal

pub returns-in_default-clause-faults : goal.returns-in_default-clause-faults
returns-in_default-clause-faults c = FaultAt.without_token (sym c.start.ensures ∙ c.in_default.ensures.token)

pub returns-in_err-reader-clause-faults : goal.returns-in_err-reader-clause-faults
returns-in_err-reader-clause-faults c =
    let p = err_from_is_err_and c.from_residual.result c.from_residual.ensures.1 in
    rw (p.1, p.2) (wrong_first c.args.text.now _ _ c.in-Some.at c.in-Some.token c.new.ensures (sym c.start.ensures ∙ c.in-Some.ensures.token) _ c.in_err-reader.ensures.err)

pub loop-token-init : goal.loop-token-init
loop-token-init c = taken_first c.args.text.now _ _ (token_of c.in-Some.at c.in-Some.token) _ c.new.ensures (sym c.start.ensures ∙ c.in-Some.ensures.token) c.in_ok-reader.ensures.ok

pub returns-in_err-reader-2-clause-faults : goal.returns-in_err-reader-2-clause-faults
returns-in_err-reader-2-clause-faults c =
    let p = err_from_is_err_and c.from_residual-in_err-reader-2.result c.from_residual-in_err-reader-2.ensures.1 in
    rw (p.1, p.2) (wrong_next c.args.text.now (state_of c.loop-token.reader) _ _ c.in-Some-next_token.at c.in-Some-next_token.token c.loop-token.invariant c.in-Some-next_token.ensures.token _ c.in_err-reader-2.ensures.err)

pub loop-token-preserved : goal.loop-token-preserved
loop-token-preserved c =
    taken_more c.args.text.now (state_of c.loop-token.reader) _ _ (token_of c.in-Some-next_token.at c.in-Some-next_token.token) _ c.loop-token.invariant c.in-Some-next_token.ensures.token c.in_ok-reader-2.ensures.ok

pub returns-clause-reads : goal.returns-clause-reads
returns-clause-reads c =
    IfOk-weaker c.finish.result (λ expr. finish (state_of c.loop-token.reader) ≡ Some (expression expr)) (λ expr. Reads c.args.text.now (expression expr))
    (λ expr e. read_all c.args.text.now (state_of c.loop-token.reader) _ (expression expr) c.loop-token.invariant c.in_default-next_token.ensures.token e) c.finish.ensures.ok

pub returns-clause-formed : goal.returns-clause-formed
returns-clause-formed c =
    IfOk-weaker c.finish.result (λ expr. finish (state_of c.loop-token.reader) ≡ Some (expression expr)) (λ expr. is_expression (expression expr) ≡ true)
    (λ expr e. well_formed c.args.text.now (expression expr) (read_all c.args.text.now (state_of c.loop-token.reader) _ (expression expr) c.loop-token.invariant c.in_default-next_token.ensures.token e)) c.finish.ensures.ok

pub returns-clause-faults : goal.returns-clause-faults
returns-clause-faults c =
    IfErr-weaker c.finish.result (Tells (λ fault at. (finish (state_of c.loop-token.reader) ≡ None) × (fault ≡ unexpected) × (at ≡ length c.args.text.now))) (Tells (FaultAt c.args.text.now))
    (wrong_end c.args.text.now (state_of c.loop-token.reader) _ c.loop-token.invariant c.in_default-next_token.ensures.token) c.finish.ensures.err
