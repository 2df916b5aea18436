-- What a machine's types are as definitions.
use Rattle.std.specs.Prelude.{ℕ, ◌-◌, ◌<◌, ◌≤◌, length}
use Rattle.hz_pipeline_model.specs.Tables.Tables.{Table}
use Rattle.hz_pipeline_model.specs.Tables.Machines as model
use Rattle.hz_tables.specs.declared.table.Table as kept
use Rattle.hz_tables.specs.declared.table.Table.TheVariants as forms
use Rattle.hz_tables.specs.declared.part.Part as declared

-- the rows of a table, however it is kept
abbrev pub rows_of : kept.Table → Table
rows_of (forms.Rows plain) = plain.rows
rows_of (forms.One packed) = packed.rows
rows_of (forms.Two packed) = packed.rows
rows_of (forms.Four packed) = packed.rows

-- how many columns stand before the advance
abbrev pub columns_of : kept.Table → ℕ
columns_of (forms.Rows plain) = plain.columns
columns_of (forms.One packed) = packed.columns
columns_of (forms.Two packed) = packed.columns
columns_of (forms.Four packed) = packed.columns

-- a table is packed, over cells of the least of the widths 1, 2 and 4 that have room for the number of its states
abbrev pub IsLeastWidth : kept.Table → Type 0
IsLeastWidth (forms.Rows plain) = ⊥
IsLeastWidth (forms.One packed) = length packed.rows < 256
IsLeastWidth (forms.Two packed) = (256 ≤ length packed.rows) × (length packed.rows < 65536)
IsLeastWidth (forms.Four packed) = 65536 ≤ length packed.rows

-- a table is kept as plain rows
abbrev pub IsPlain : kept.Table → Type 0
IsPlain (forms.Rows plain) = Unit {0}
IsPlain (forms.One packed) = ⊥
IsPlain (forms.Two packed) = ⊥
IsPlain (forms.Four packed) = ⊥

-- A part as a definition. Its table has the columns of its classes, one for each ask, and the advance.
abbrev pub part_of : declared.Part → model.Part
part_of part = record { name = part.name; map = part.map.items; columns = columns_of part.table - length part.asks.items; asks = part.asks.items; rows = rows_of part.table }
