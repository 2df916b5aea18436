-- The limit of blocks: docs/RULES.md, 'Limits'.
use Rattle.std.specs.Prelude.{ℕ}

-- instructions of a block
abbrev pub instruction_limit : ℕ
instruction_limit = 4096
