use Rattle.std.proofs.Common.{◌∙◌, ap, sym, map}
use Rattle.std.specs.Option.{option_and_then, option_map}
use Rattle.hz_tool_words.specs.Shape.{argument_in, make_of, words_in}
use Rattle.hz_tool_words.proofs.OperandLemmas.{all_given, none_given}
use Rattle.hz_tool_words.proofs.reading.read_order.Goals as goal

pub returns-in_default : goal.returns-in_default
returns-in_default c =
    ap (option_and_then (make_of c.args.row.verb))
    (none_given c.args.row.name.now c.args.row.operands.now c.requires.few (words_in c.args.words.now) c.requires.plain _ c.in_ok-command.ensures _ c.in_ok-matches.ensures c.in_default.is)

pub returns-in-Some-2 : goal.returns-in-Some-2
returns-in-Some-2 c =
    let here = all_given c.args.row.name.now c.args.row.operands.now c.requires.few (words_in c.args.words.now) c.requires.plain _ c.in_ok-command.ensures _ c.in_ok-matches.ensures _ c.in-Some.is in
    let all = sym (ap (option_map (λ v. map argument_in v.items)) c.in-Some-2.is) ∙ c.in_ok-arguments.ensures ∙ here in
    c.make_order.ensures ∙ rw (c.as_slice.ensures.value) (ap (option_and_then (make_of c.args.row.verb)) all)

pub returns : goal.returns
returns c =
    let here = all_given c.args.row.name.now c.args.row.operands.now c.requires.few (words_in c.args.words.now) c.requires.plain _ c.in_ok-command.ensures _ c.in_ok-matches.ensures _ c.in-Some.is in
    ap (option_and_then (make_of c.args.row.verb)) (sym (ap (option_map (λ v. map argument_in v.items)) c.in-None.is) ∙ c.in_ok-arguments.ensures ∙ here)
