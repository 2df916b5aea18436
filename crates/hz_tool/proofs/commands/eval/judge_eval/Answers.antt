use Rattle.std.proofs.Common.{refl, subst}
use Rattle.hz_answer_model.specs.BlockAnswers.{Evaluates, EvaluatesFrom, HasBlock, HasState, JudgesBlock}
use Rattle.hz_block_model.specs.Running.States.{State}
use Rattle.hz_block_model.specs.Texts.StateTexts.{IsListing, listing_text}
use Rattle.hz_rtl.proofs.ListingLemmas.{is_listed}
use Rattle.hz_rtl.specs.Listings.{listing}
use Rattle.hz_rtl.specs.Shape.{instructions}
use Rattle.hz_rtl.specs.States.{words}
use Rattle.hz_tool.proofs.DecideLemmas.{hands_on}
use Rattle.hz_tool.proofs.JudgeLemmas.{block_else, block_then, state_else, state_then}
use Rattle.hz_tool.specs.Deciding.{Nothing}
use Rattle.hz_tool.proofs.commands.eval.judge_eval.Goals as goal

pub returns-in_err-block : goal.returns-in_err-block
returns-in_err-block c =
    let order = c.args.order.now in
    hands_on (HasBlock order.block.now c.args.blocked.now (λ insns. Nothing)) (JudgesBlock order.block.now c.args.blocked.now order.state.now c.args.stated.now)
    (block_else order.block.now c.args.blocked.now (EvaluatesFrom order.state.now c.args.stated.now))
    c.from_residual.result c.in_err-block.field-0.0 c.from_residual.ensures.1 (c.in_err-block.ensures.kind, c.in_err-block.ensures.err)

pub returns-in_err-state : goal.returns-in_err-state
returns-in_err-state c =
    let order = c.args.order.now in
    let insns = instructions c.in_ok-block.block in
    hands_on (HasState order.state.now c.args.stated.now (λ state. Nothing)) (JudgesBlock order.block.now c.args.blocked.now order.state.now c.args.stated.now)
    (λ s t h. block_then order.block.now c.args.blocked.now (EvaluatesFrom order.state.now c.args.stated.now) insns c.in_ok-block.ensures.ok s t (state_else order.state.now c.args.stated.now (Evaluates insns) s t h))
    c.from_residual-in_err-state.result c.in_err-state.field-0.0 c.from_residual-in_err-state.ensures.1 (c.in_err-state.ensures.kind, c.in_err-state.ensures.err)

pub returns-in-Ok : goal.returns-in-Ok
returns-in-Ok c =
    let order = c.args.order.now in
    let insns = instructions c.in_ok-block.block in
    let after = c.in-Ok.state in
    let text = listing_text (listing after) in (
      tt,
      block_then order.block.now c.args.blocked.now (EvaluatesFrom order.state.now c.args.stated.now) insns c.in_ok-block.ensures.ok 0 text
          (state_then order.state.now c.args.stated.now (Evaluates insns) (words c.in_ok-state.state) c.in_ok-state.ensures.ok 0 text
          (refl, record { listing = listing after; is_listing = subst (λ (s : State). IsListing s (listing after)) c.in-Ok.ensures (is_listed after); text_is = refl })),
    )
