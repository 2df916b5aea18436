use Rattle.std.proofs.Common.{◌≡◌, drop}
use Rattle.std.specs.List.{list_all}
use Rattle.hz_reasons.specs.Breaking.{seen_in, first_number_from}
use Rattle.hz_reasons.specs.Plans.{unit_of}
use Rattle.hz_reasons.proofs.statements.first_whole.Given as goal

abbrev pub invariant-loop-number : goal.invariant-loop-number
invariant-loop-number l =
    first_number_from (λ pattern. list_all (λ u. seen_in l.which l.grids l.parts l.cycle (unit_of u)) pattern.items) 0 l.patterns ≡ first_number_from (λ pattern. list_all (λ u. seen_in l.which l.grids l.parts l.cycle (unit_of u)) pattern.items) l.number (drop l.number l.patterns)
