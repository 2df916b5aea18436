use Rattle.std.proofs.Common.{◌∙◌, ◌∷◌, [], sym, ap, map, arith}
use Rattle.std.proofs.lemmas.List.{map-append}
use Rattle.std.specs.Option.{option_map}
use Rattle.hz_tool_words.specs.Operands.{value_of}
use Rattle.hz_tool_words.specs.Shape.{argument_in}
use Rattle.hz_tool_words.proofs.ArgumentLemmas.{more, none}
use Rattle.hz_tool_words.proofs.operands.read_arguments.Goals as goal

pub returns-in_default : goal.returns-in_default
returns-in_default c =
    none (value_of c.args.matches.now) c.args.operands.now (map argument_in c.loop-place.arguments.items) c.loop-place.place _ (omega arith) c.loop-place.invariant (sym (ap (option_map argument_in) c.in_default.is) ∙ c.read_argument_at.ensures)

pub loop-place-preserved : goal.loop-place-preserved
loop-place-preserved c =
    let items = c.loop-place.arguments.items in
    let so_far = more (value_of c.args.matches.now) c.args.operands.now (map argument_in items) c.loop-place.place _ _ (omega arith) c.loop-place.invariant
    (sym (ap (option_map argument_in) c.in-Some.is) ∙ c.read_argument_at.ensures) in
    rw (c.in_ok-push.ensures.items, map-append argument_in items (c.in-Some.argument ∷ [])) so_far
