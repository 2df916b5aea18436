-- Parts of the same fields are the same.
use Rattle.std.proofs.Common.{◌≡◌, ap, ◌∙◌}
use Rattle.hz_pipeline_model.specs.Tables.Machines.{Part}

pub same_part : (p q : Part) → p.name ≡ q.name → p.map ≡ q.map → p.columns ≡ q.columns → p.asks ≡ q.asks → p.rows ≡ q.rows → p ≡ q
same_part p q named mapped columns asks rows =
    ap (λ x. let part : Part = record { name = x; map = p.map; columns = p.columns; asks = p.asks; rows = p.rows } in part) named
    ∙ (ap (λ x. let part : Part = record { name = q.name; map = x; columns = p.columns; asks = p.asks; rows = p.rows } in part) mapped
    ∙ (ap (λ x. let part : Part = record { name = q.name; map = q.map; columns = x; asks = p.asks; rows = p.rows } in part) columns
    ∙ (ap (λ x. let part : Part = record { name = q.name; map = q.map; columns = q.columns; asks = x; rows = p.rows } in part) asks
    ∙ ap (λ x. let part : Part = record { name = q.name; map = q.map; columns = q.columns; asks = q.asks; rows = x } in part) rows)))
