-- Each automaton of a description keeps its limits, or has a count above one.
use Rattle.std.proofs.Common.{◌⊎◌, inl, inr, ⊎_elim, ◌==◌, ◌+◌, length}
use Rattle.hz_pipeline_model.specs.Accepting.Restricted.{restricted}
use Rattle.hz_pipeline_model.proofs.Accepting.Rows.{numbers_tell}
use Rattle.hz_pipeline_model.specs.Compiling.AutomatonPipelines.{class_lists}
use Rattle.hz_pipeline_model.specs.Compiling.Compiled.{shows_states}
use Rattle.hz_pipeline_model.specs.Compiling.CompiledParts.{cap_of}
use Rattle.hz_pipeline_model.specs.Compiling.DescriptionLimits.{AreCounted}
use Rattle.hz_description_model.specs.Check.Places.{Known}
use Rattle.hz_description_model.specs.Reading.Descriptions.{Description}
use Rattle.hz_pipeline_model.specs.Pipelines.Pipelines.{pipeline_with}
use Rattle.hz_pipeline_model.specs.Reaching.Counts.{Count, grids, states, members, cells, CountIsAbove, CountIsAtMost}
use Rattle.hz_laws.proofs.Leaving.ColumnLaws.{some_columns}
use Rattle.hz_laws.proofs.Leaving.CountsReported.{counts_reported}
use Rattle.hz_description_model.specs.Check.CheckedParts.{queries_in}

-- each kind has the one, or some kind the other
each_kind_or_some : (P Q : Count → Type 0) → ((kind : Count) → P kind ⊎ Q kind) → ((kind : Count) → P kind) ⊎ ((kind : Count) × Q kind)
each_kind_or_some P Q reported = go (reported grids) (reported states) (reported members) (reported cells)
  where
    each : P grids → P states → P members → P cells → (kind : Count) → P kind
    each g s m c grids = g
    each g s m c states = s
    each g s m c members = m
    each g s m c cells = c

    go : P grids ⊎ Q grids → P states ⊎ Q states → P members ⊎ Q members → P cells ⊎ Q cells → ((kind : Count) → P kind) ⊎ ((kind : Count) × Q kind)
    go (inl g) (inl s) (inl m) (inl c) = inl (each g s m c)
    go (inl g) (inl s) (inl m) (inr c) = inr (cells, c)
    go (inl g) (inl s) (inr m) c = inr (members, m)
    go (inl g) (inr s) m c = inr (states, s)
    go (inr g) s m c = inr (grids, g)

pub are_counted : (d : Description) (known : Known) → AreCounted d known
are_counted d known a low =
    let m = restricted a (pipeline_with d known) in
    let shown = shows_states d.options in
    let (columns, has) = some_columns (class_lists d known a) in
    let width = columns + length (queries_in d a) in
    ⊎_elim
    (λ counts. inl (record { columns = columns; has = has; counts = counts }))
    (λ past. inr (past.0, record { columns = columns; has = has; above = past.1 }))
    (each_kind_or_some (λ kind. CountIsAtMost m width kind (cap_of shown kind)) (λ kind. CountIsAbove m width kind (cap_of shown kind)) (λ kind. counts_reported ◌==◌ numbers_tell m width kind (cap_of shown kind)))
