-- What is asked for in a part of a machine.
use Rattle.std.proofs.Common.{◌≡◌, ℕ, ◌<◌, ◌≤◌, [], length, get_or, sym, ap, ◌∙◌, subst, arith}
use Rattle.std.proofs.lemmas.List.{length-map, get_or-map}
use Rattle.std.proofs.lemmas.List.Elements.{All-get_or}
use Rattle.hz_base_model.specs.Limits.{unit_limit}
use Rattle.hz_pipeline_model.specs.Tables.Machines.{Part, IsPart, IsMachine}
use Rattle.hz_pipeline_model.specs.Tables.MachineNames.{names_of_machine}
use Rattle.hz_tables.specs.declared.machine.Machine as kept
use Rattle.hz_tables.specs.declared.part.Part as declared
use Rattle.hz_tables.specs.Machines.{machine_of}
use Rattle.hz_tables.specs.Parts.{part_of}

module _ (machine : kept.Machine) (i : ℕ) (part : declared.Part) (low : i < length machine.parts.items) (is : part ≡ get_or machine.parts.items i part) where
  inside : i < length (machine_of machine).parts
  inside = omega (arith, low, length-map machine.parts.items part_of)

  here : get_or (machine_of machine).parts i (part_of part) ≡ part_of part
  here = get_or-map part_of machine.parts.items i part (part_of part) low ∙ ap part_of (sym is)

  pub few_asks : IsMachine (machine_of machine) → length part.asks.items ≤ unit_limit
  few_asks made = subst (λ (p : Part). length p.asks ≤ unit_limit) here ((All-get_or (IsPart (length (machine_of machine).classes)) (machine_of machine).parts i (part_of part) inside made.parts).asks)

  pub asks_at : get_or (names_of_machine (machine_of machine)).queries i [] ≡ part.asks.items
  asks_at = get_or-map (λ (p : Part). p.asks) (machine_of machine).parts i (part_of part) [] inside ∙ ap (λ (p : Part). p.asks) here

  pub asks_inside : i < length (names_of_machine (machine_of machine)).queries
  asks_inside = omega (arith, inside, length-map (machine_of machine).parts (λ (p : Part). p.asks))
