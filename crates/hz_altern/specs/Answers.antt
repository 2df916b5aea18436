-- What calls answer.
use Rattle.std.specs.Prelude.{◌≡◌, ℕ, ◌+◌, ◌<◌, ⊤, List, length, map, sum_by, Some, None, Result, Ok, Err}
use Rattle.std.specs.declared.alloc.Global.{Global}
use Rattle.std.specs.declared.vec.Vec.{Vec}
use Rattle.hz_altern.specs.declared.alternative.Alt.{Alt}
use Rattle.hz_altern.specs.declared.fault.AlternFault.{AlternFault}
use Rattle.hz_altern.specs.declared.fault.AlternFault.TheVariants.{AlternativesLimit, CyclesLimit, SizeLimit, NoMemory}
use Rattle.hz_altern.specs.Shapes.{alternatives}
use Rattle.hz_description_model.specs.Reservations.Alternatives.{Alternative}
use Rattle.hz_description_model.specs.Reservations.AlternativeLists.{too_many, too_long, too_large, excess_of}
use Rattle.hz_description_model.specs.Reservations.Automata.{UnitPlace, listed}

-- What is answered for these alternatives, where they may have no more than so many cycles and pairs together: all of them
-- in their order, each listed the one way, where they pass no limit, and otherwise the first limit that they pass. Want of
-- memory says nothing.
abbrev pub Expands : ℕ → List (Alternative UnitPlace) → Result (Vec Alt Global) AlternFault → Type 0
Expands most all (Ok alts) = (excess_of most all ≡ None) × (alternatives alts.items ≡ map listed all)
Expands most all (Err AlternativesLimit) = excess_of most all ≡ Some too_many
Expands most all (Err CyclesLimit) = excess_of most all ≡ Some too_long
Expands most all (Err SizeLimit) = excess_of most all ≡ Some too_large
Expands most all (Err NoMemory) = ⊤

-- how many cycles and pairs a listed alternative has
abbrev pub weight : Alternative UnitPlace → ℕ
weight a = a.cycles + length a.pairs

-- how many listed alternatives have together
abbrev pub total_weight : List (Alternative UnitPlace) → ℕ
total_weight all = sum_by weight all

-- why alternatives are not listed: they have more than so many cycles and pairs together, or memory is wanting
abbrev pub Refuses : ℕ → List (Alternative UnitPlace) → AlternFault → Type 0
Refuses most all SizeLimit = most < total_weight all
Refuses most all NoMemory = ⊤
Refuses most all _ = ⊥
