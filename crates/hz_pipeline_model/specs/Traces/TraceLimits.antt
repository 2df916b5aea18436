-- The limits of traces: docs/RULES.md, 'Limits'.
use Rattle.std.specs.Prelude.{ℕ}

-- bytes of a trace
abbrev pub trace_limit : ℕ
trace_limit = 67108864

-- all the advances of a trace together
abbrev pub advance_limit : ℕ
advance_limit = 16777216
