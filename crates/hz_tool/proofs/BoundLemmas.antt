-- The bound that is made of what is held of a description is the one by the description, and its text is reported.
use Rattle.std.proofs.Common.{◌≡◌, ℕ, List, map, sym, ap, ◌∙◌, subst}
use Rattle.hz_block_model.specs.Running.Blocks.{Instruction}
use Rattle.hz_block_model.specs.Scheduling.Schedules.{Graph, Slot, present}
use Rattle.hz_bound.specs.Shape.{names_of, lists_in}
use Rattle.hz_measure_model.proofs.Bounds.ListLaws.{bound_by_lists}
use Rattle.hz_measure_model.specs.Bounds.Bounds.{Bound, IsBoundBy, IsBoundOf, unit_names}
use Rattle.hz_measure_model.specs.Bounds.Loads.{ways_by}
use Rattle.hz_measure_model.specs.Bounds.Texts.{bound_text, text_of_bound}
use Rattle.hz_check.specs.Checked.{IsCheckedOf}
use Rattle.hz_checked.specs.declared.checked.Checked.{Checked}
use Rattle.hz_depend.specs.declared.parts.Graph as depend
use Rattle.hz_description_model.specs.Check.CheckedParts.{AutomatonParts, ClassParts, class_parts}
use Rattle.hz_description_model.specs.Reading.Descriptions.{Description}
use Rattle.hz_rtl.specs.Shape.{instruction, instructions}
use Rattle.hz_rtl.specs.declared.block.Block.{Block}
use Rattle.hz_answer_model.proofs.WalkLaws.{map_twice}

module _ (d : Description) (checked : Checked) (is : IsCheckedOf d checked) where
  -- the names of the units
  same_names : names_of checked ≡ unit_names d
  same_names = ap (map (λ (a : AutomatonParts). a.units)) is.automata

  pub bound_is : (g : Graph) (b : Bound) → IsBoundBy (ways_by (lists_in checked.classes.items)) (names_of checked) g b → IsBoundOf d is.known g b
  bound_is g b h =
      bound_by_lists d is.known g b
      (subst (λ (names : List (List (List ℕ))). IsBoundBy (ways_by (map (λ (c : ClassParts). c.lists) (map (class_parts d is.known) d.classes))) names g b) same_names
      (subst (λ (parts : List ClassParts). IsBoundBy (ways_by (map (λ (c : ClassParts). c.lists) parts)) (names_of checked) g b) is.classes h))

  pub bound_reported : (block : Block) (graph : depend.Graph) (b : Bound) (slots : List Slot) → map (λ i. i.number) graph.insns.items ≡ map (λ i. i.number) block.insns.items
      → bound_text (names_of checked) (map (λ i. i.number) graph.insns.items) b (present 0 slots) ≡ text_of_bound d (instructions block) b slots
  bound_reported block graph b slots numbers =
      ap (λ (names : List (List (List ℕ))). bound_text names (map (λ i. i.number) graph.insns.items) b (present 0 slots)) same_names
      ∙ ap (λ (ns : List ℕ). bound_text (unit_names d) ns b (present 0 slots)) (numbers ∙ sym (map_twice (λ (i : Instruction). i.number) instruction block.insns.items))
