use Rattle.std.proofs.Common.{◌<◌, map, length, ap, ◌∙◌, arith}
use Rattle.std.specs.Option.{option_map}
use Rattle.std.proofs.lemmas.List.{take_all}
use Rattle.hz_description_model.specs.Reservations.Automata.{place_cmp}
use Rattle.hz_pipeline_model.specs.Accepting.Replay.{alternatives_at}
use Rattle.hz_why_model.specs.Reasons.{reason_of, same_place}
use Rattle.hz_reasons.specs.Breaking.{reason_at}
use Rattle.hz_reasons.proofs.Reading.{choices_read}
use Rattle.hz_explain.proofs.TellLaws.{reasons_next}
use Rattle.hz_explain.proofs.telling.reasons.Goals as goal

pub loop-number-preserved : goal.loop-number-preserved
loop-number-preserved c = λ m s is future.
    let long = ap length (choices_read c.args.plan.now c.args.class c.index.result.now c.index.ensures (omega arith)) in
    let count = is.numbers c.args.class in
    let low : c.loop-number.number < length (alternatives_at m c.args.class) = omega arith in
    ap (map (option_map (reason_at m.statements s.now))) c.in_ok-push.ensures.items
    ∙ reasons_next (option_map (reason_at m.statements s.now)) (reason_of same_place place_cmp m.statements s.reserved s.now) c.loop-number.reasons.items c.reason.result (alternatives_at m c.args.class) c.loop-number.number low
    (c.loop-number.invariant m s is future) (λ a there. c.reason.ensures.reason m s a is future there)

pub returns : goal.returns
returns c = λ m s is future.
    let long = ap length (choices_read c.args.plan.now c.args.class c.index.result.now c.index.ensures (omega arith)) in
    let count = is.numbers c.args.class in
    c.loop-number.invariant m s is future ∙ ap (map (reason_of same_place place_cmp m.statements s.reserved s.now)) (take_all c.loop-number.number (alternatives_at m c.args.class) (omega arith))
