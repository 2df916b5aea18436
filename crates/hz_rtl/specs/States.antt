-- The state that the code holds, as what the definitions speak of.
use Rattle.std.specs.Prelude.{ℕ, List, slice_index, unwrap_or}
use Rattle.std.specs.Ordering.{nat_cmp}
use Rattle.std.specs.BTreeMap.{BTreeMap, get}
use Rattle.hz_rtl.specs.declared.state.State.{State}
use Rattle.hz_block_model.specs.Running.States as model

-- the word at a place, where registers and cells hold these
abbrev pub word_at : List ℕ → BTreeMap ℕ ℕ → model.Place → ℕ
word_at registers cells (model.reg number) = slice_index registers number
word_at registers cells (model.cell address) = unwrap_or (get nat_cmp cells address) 0

-- the word of each register and of each cell
abbrev pub words : State → model.State
words s = λ place. word_at s.registers.items s.cells place
