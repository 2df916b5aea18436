-- The cycles of a true dependence between instructions as they are held.
use Rattle.std.specs.Prelude.{ℕ, List}
use Rattle.hz_description_model.specs.Check.CheckedParts.{BypassParts}
use Rattle.hz_block_model.specs.Dependences.Classes.{number_between}
use Rattle.hz_depend.specs.Held.{Held}

-- the cycles of a true dependence
abbrev pub number : List BypassParts → Held → Held → ℕ
number bypasses f s = number_between bypasses f.latency f.class s.class f.instruction s.instruction
