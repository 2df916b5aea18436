-- The state that the code holds, as it is listed.
use Rattle.hz_rtl.specs.declared.state.State.{State}
use Rattle.hz_block_model.specs.Texts.StateTexts.{Listing}

-- the words of the registers, and the entries of the cells
abbrev pub listing : State → Listing
listing s = record { registers = s.registers.items; cells = s.cells.entries }
