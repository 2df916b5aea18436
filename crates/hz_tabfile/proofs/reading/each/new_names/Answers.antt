use Rattle.std.proofs.Common.{ℕ, List, ◌∷◌, ◌++◌, [], ap, sym, append_assoc, ◌∙◌}
use Rattle.std.proofs.lemmas.Result.{err_from_is_err_and}
use Rattle.hz_tabtext_model.specs.Lines.{asks_of}
use Rattle.hz_tabfile.specs.Cutting.{fields_in}
use Rattle.hz_tabfile.proofs.Each.{beyond}
use Rattle.hz_tabfile.proofs.Asks.{names_go, names_stop, names_end}
use Rattle.hz_tabfile.proofs.reading.each.new_names.Goals as goal

pub returns-in_err-name-clause-named : goal.returns-in_err-name-clause-named
returns-in_err-name-clause-named c =
    let p = err_from_is_err_and c.from_residual.result c.from_residual.ensures.1 in
    rw (p.1, p.2) (names_stop c.loop-rest.known.keys c.loop-rest.names.items c.loop-rest.rest (asks_of c.args.known.now.keys (fields_in c.args.fields)) c.loop-rest.invariant.named c.in-Some.text c.cut.result.0.now (fields_in c.cut.result.1) c.in-Some.is c.cut.ensures.pieces c.in_err-name.field-0.0 c.in_err-name.ensures.named)

pub loop-rest-preserved : goal.loop-rest-preserved
loop-rest-preserved c = record {
  named =
      ap (λ (names : List (List ℕ)). beyond names (asks_of c.new_name.new.known.keys (fields_in c.cut.result.1))) c.in_ok-push.ensures.items
      ∙ (ap (λ (keys : List (List ℕ)). beyond (c.loop-rest.names.items ++ c.in_ok-name.name ∷ []) (asks_of keys (fields_in c.cut.result.1))) c.in_ok-name.ensures.known
      ∙ names_go c.loop-rest.known.keys c.loop-rest.names.items c.loop-rest.rest (asks_of c.args.known.now.keys (fields_in c.args.fields)) c.loop-rest.invariant.named c.in-Some.text c.cut.result.0.now (fields_in c.cut.result.1) c.in-Some.is c.cut.ensures.pieces c.in_ok-name.name c.in_ok-name.ensures.named);
  known =
      c.in_ok-name.ensures.known
      ∙ (ap (λ (keys : List (List ℕ)). keys ++ c.in_ok-name.name ∷ []) c.loop-rest.invariant.known
      ∙ (append_assoc c.args.known.now.keys c.loop-rest.names.items (c.in_ok-name.name ∷ [])
      ∙ ap (λ (names : List (List ℕ)). c.args.known.now.keys ++ names) (sym c.in_ok-push.ensures.items)));
}

pub returns-clause-named : goal.returns-clause-named
returns-clause-named c = names_end c.loop-rest.known.keys c.loop-rest.names.items c.loop-rest.rest (asks_of c.args.known.now.keys (fields_in c.args.fields)) c.loop-rest.invariant.named c.in_default.is
