use Rattle.std.proofs.Common.{◌+◌, ◌∙◌, drop, sym, ap, arith}
use Rattle.std.proofs.lemmas.List.Sums.{prefix_len-le-length}
use Rattle.std.specs.Char.{is_ascii_whitespace}
use Rattle.hz_base_model.specs.Names as names
use Rattle.hz_regexp.proofs.Words.{no_token, next_lone, next_word, front_named}
use Rattle.hz_regexp.proofs.tokens.Place.next_token.Goals as goal

pub along-here-requires : goal.along-here-requires
along-here-requires c = omega (arith, c.blank_length.ensures, prefix_len-le-length is_ascii_whitespace c.args.self.rest.now)

pub returns-in_err-first-clause-token : goal.returns-in_err-first-clause-token
returns-in_err-first-clause-token c =
    let text = c.args.self.rest.now in
    rw c.from_residual.ensures (no_token c.args.self.at c.along-here.result.at text c.along-here.result.rest.now
    (c.along-here.ensures.rest ∙ ap (λ k. drop k text) c.blank_length.ensures) (c.along-here.ensures.at ∙ ap (λ k. c.args.self.at + k) c.blank_length.ensures) c.in_err-first.ensures.cases)

pub returns-then-not-is_name_byte-clause-token : goal.returns-then-not-is_name_byte-clause-token
returns-then-not-is_name_byte-clause-token c =
    let text = c.args.self.rest.now in
    let here = c.along-here.result in
    rw (c.lone_token.ensures.token here.at, c.along.ensures.rest, c.along.ensures.at) (next_lone c.args.self.at here.at text here.rest.now
    (c.along-here.ensures.rest ∙ ap (λ k. drop k text) c.blank_length.ensures) (c.along-here.ensures.at ∙ ap (λ k. c.args.self.at + k) c.blank_length.ensures)
    c.in_ok-first.first.now c.in_ok-first.field-0-1.now c.in_ok-first.ensures.cases.0 (sym c.is_name_byte.ensures ∙ c.if-not-is_name_byte.true))

pub along-requires-2 : goal.along-requires-2
along-requires-2 c = omega (arith, c.name_length-count.ensures, prefix_len-le-length names.is_name_byte c.along-here.result.rest.now)

pub returns-clause-token : goal.returns-clause-token
returns-clause-token c =
    let text = c.args.self.rest.now in
    let here = c.along-here.result in
    rw (c.along-2.ensures.rest, c.along-2.ensures.at) (next_word c.args.self.at here.at text here.rest.now
    (c.along-here.ensures.rest ∙ ap (λ k. drop k text) c.blank_length.ensures) (c.along-here.ensures.at ∙ ap (λ k. c.args.self.at + k) c.blank_length.ensures)
    c.in_ok-first.first.now c.in_ok-first.field-0-1.now c.name_length-count.result c.in_ok-first.ensures.cases.0 (sym c.is_name_byte.ensures ∙ c.if-not-is_name_byte.false) c.name_length-count.ensures)

pub returns-clause-named : goal.returns-clause-named
returns-clause-named c =
    front_named c.along-here.result.rest.now c.in_ok-first.first.now c.in_ok-first.field-0-1.now c.name_length-count.result c.in_ok-first.ensures.cases.0
    (sym c.is_name_byte.ensures ∙ c.if-not-is_name_byte.false) c.name_length-count.ensures
