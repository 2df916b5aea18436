-- All that was written, as effects of one instruction.
use Rattle.std.specs.Prelude.{ℕ}
use Rattle.hz_block_model.specs.Running.Blocks as blocks
use Rattle.hz_block_model.specs.Running.States as model
use Rattle.hz_timed.specs.declared.parts.Source.{Source}
use Rattle.hz_timed.specs.declared.parts.Source.TheVariants.{Reg, Cell}
use Rattle.hz_timed.specs.declared.write.Write.{Write}
use Rattle.hz_timed.specs.Shape.{place_of}

-- a register or a cell, as where an effect stores
abbrev pub target_of : Source → blocks.Target
target_of (Reg number) = blocks.into number
target_of (Cell address) = blocks.cell_at (blocks.constant address)

-- the effect that stores what was written
abbrev pub effect_of : Write → blocks.Effect
effect_of w = blocks.assign (target_of w.what) (blocks.constant w.word)

-- what was written, as what is stored
abbrev pub stored_by : Write → model.Store
stored_by w = record { place = place_of w.what; word = w.word }
