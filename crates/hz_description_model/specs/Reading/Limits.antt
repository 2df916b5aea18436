-- The limits of the text of a description: docs/RULES.md, 'Limits'.
use Rattle.std.specs.Prelude.{ℕ}

-- the greatest latency and the greatest number of a bypass
abbrev pub latency_limit : ℕ
latency_limit = 1000

-- bytes of a description
abbrev pub description_limit : ℕ
description_limit = 4194304
