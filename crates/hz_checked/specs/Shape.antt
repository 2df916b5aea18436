-- What the code holds of a description without a fault, as what the definitions speak of.
use Rattle.std.specs.Prelude.{ℕ, List, map}
use Rattle.std.specs.declared.alloc.Global.{Global}
use Rattle.std.specs.declared.vec.Vec.{Vec}
use Rattle.hz_checked.specs.declared.checked.CheckedAutomaton.{CheckedAutomaton}
use Rattle.hz_checked.specs.declared.checked.CheckedClass.{CheckedClass}
use Rattle.hz_checked.specs.declared.checked.CheckedBypass.{CheckedBypass}
use Rattle.hz_mdread.specs.Shape.{condition}
use Rattle.hz_unitsets.specs.SetRules.{statements_of}
use Rattle.hz_description_model.specs.Check.CheckedParts.{AutomatonParts, ClassParts, BypassParts}

-- an automaton
abbrev pub automaton_of : CheckedAutomaton → AutomatonParts
automaton_of a = record { name = a.name; units = a.units.items; queries = a.queries.items; statements = statements_of a.sets.items }

-- a class
abbrev pub class_of : CheckedClass → ClassParts
class_of c = record { name = c.name; line = c.line; latency = c.latency; condition = condition c.condition; lists = map (λ list. list.items) c.lists.items }

-- a bypass
abbrev pub bypass_of : CheckedBypass → BypassParts
bypass_of b = record { number = b.number; outs = b.outs.items; ins = b.ins.items; guard = b.guard }

-- an attribute with its values
abbrev pub attribute_of : List ℕ × Vec (List ℕ) Global → List ℕ × List (List ℕ)
attribute_of a = (a.0, a.1.items)
