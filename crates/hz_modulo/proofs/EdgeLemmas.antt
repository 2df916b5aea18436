-- Classes and edges of copies.
use Rattle.std.proofs.Common.{◌≡◌, ℕ, suc, ◌*◌, ◌<◌, ◌≤◌, List, [], ◌∷◌, map, length, Option, Some, None, refl, sym, ap, ◌∙◌, subst, arith}
use Rattle.std.specs.Prelude.{Result, Ok, Err}
use Rattle.std.specs.List.{repeat}
use Rattle.std.proofs.lemmas.List.{length-map}
use Rattle.std.proofs.lemmas.List.Elements.{All-weaker}
use Rattle.hz_description_model.specs.Reading.Limits.{latency_limit}
use Rattle.hz_block_model.specs.Running.Blocks.{Instruction}
use Rattle.hz_block_model.specs.Dependences.Classes.{ClassFault, class_of}
use Rattle.hz_block_model.specs.Dependences.Graphs as model
use Rattle.hz_measure_model.proofs.Kernels.UnrollLaws.{length-repeat}
use Rattle.hz_measure_model.proofs.Kernels.RepeatLaws.{map-repeat}
use Rattle.hz_checked.specs.declared.checked.Checked.{Checked}
use Rattle.hz_checked.specs.Shape.{attribute_of}
use Rattle.hz_rtl.specs.declared.block.Block.{Block}
use Rattle.hz_rtl.specs.declared.block.Insn.{Insn}
use Rattle.hz_rtl.specs.Shape.{instruction, instructions}
use Rattle.hz_depend.specs.declared.parts.Graph.{Graph}
use Rattle.hz_depend.specs.declared.parts.GraphInsn.{GraphInsn}
use Rattle.hz_depend.specs.declared.parts.Edge.{Edge}
use Rattle.hz_depend.specs.Shape.{conditions_of, class_for}
use Rattle.hz_depend.specs.GraphShape.{edge_of, timing_in, first_class_fault, class_fault_in, IsGraphOf, IsSchedulable}
use Rattle.hz_depend.specs.declared.class.ClassFault as declared
use Rattle.hz_depend.specs.declared.fault.DependFault.{DependFault}
use Rattle.hz_depend.specs.declared.fault.DependFault.TheVariants.{Class}
use Rattle.hz_modulo.specs.Costs.{AreTurnEdges}

-- a fault at a place, or a later one
abbrev first_of : ℕ → Result ℕ ClassFault → Option (ℕ × ClassFault) → Option (ℕ × ClassFault)
first_of n (Err e) later = Some (n, e)
first_of n (Ok class) later = later

-- where all have classes there is no fault
pub none_wrong : (checked : Checked) (n : ℕ) (insns : List Insn) (classes : List ℕ) → map Ok classes ≡ map (class_for checked) insns → first_class_fault n checked insns ≡ None
none_wrong checked n [] classes e = refl
none_wrong checked n (i ∷ insns) [] e = absurd (cc)
none_wrong checked n (i ∷ insns) (k ∷ classes) e =
    let here : class_for checked i ≡ Ok k = cc in
    let rest : map Ok classes ≡ map (class_for checked) insns = cc in
    ap (λ (r : Result ℕ ClassFault). first_of n r (first_class_fault (suc n) checked insns)) here ∙ none_wrong checked (suc n) insns classes rest

-- the class of an instruction by its attributes
abbrev class_by : Checked → Instruction → Result ℕ ClassFault
class_by checked i = class_of (map attribute_of checked.attributes.items) checked.defaults.items (conditions_of checked.classes.items) i.attributes

by_attributes : (checked : Checked) (insns : List Insn) → map (class_for checked) insns ≡ map (class_by checked) (map instruction insns)
by_attributes checked [] = refl
by_attributes checked (i ∷ insns) = ap (λ (rs : List (Result ℕ ClassFault)). class_for checked i ∷ rs) (by_attributes checked insns)

of_insns : (insns : List GraphInsn) → map (λ i. Ok i.class) insns ≡ map {A = ℕ} {B = Result ℕ ClassFault} Ok (map (λ i. i.class) insns)
of_insns [] = refl
of_insns (i ∷ insns) = ap (λ (rs : List (Result ℕ ClassFault)). Ok i.class ∷ rs) (of_insns insns)

same_list : (xs ys : List ℕ) → map {A = ℕ} {B = Result ℕ ClassFault} Ok xs ≡ map Ok ys → xs ≡ ys
same_list [] [] e = refl
same_list [] (y ∷ ys) e = absurd (cc)
same_list (x ∷ xs) [] e = absurd (cc)
same_list (x ∷ xs) (y ∷ ys) e = let rest = same_list xs ys (cc) in let first : x ≡ y = cc in cc

module _ (checked : Checked) (block turns : Block) (known : Graph) (graph : IsGraphOf checked block known) (copies : instructions turns ≡ repeat 3 (instructions block)) where
  pub long : length turns.insns.items ≡ 3 * length block.insns.items
  long =
      sym (length-map turns.insns.items instruction)
      ∙ (ap length copies
      ∙ (length-repeat 3 (instructions block)
      ∙ ap (λ (n : ℕ). 3 * n) (length-map block.insns.items instruction)))

  -- the classes of copies are copies of the classes
  pub classes_repeat : map {A = ℕ} {B = Result ℕ ClassFault} Ok (repeat 3 (map (λ i. i.class) known.insns.items)) ≡ map (class_for checked) turns.insns.items
  classes_repeat =
      map-repeat {X = ℕ} {Y = Result ℕ ClassFault} Ok 3 (map (λ i. i.class) known.insns.items)
      ∙ (ap (repeat 3) (sym (of_insns known.insns.items) ∙ (graph.classes ∙ by_attributes checked block.insns.items))
      ∙ (sym (map-repeat (class_by checked) 3 (instructions block))
      ∙ (ap (map (class_by checked)) (sym copies)
      ∙ sym (by_attributes checked turns.insns.items))))

  pub no_fault : first_class_fault 0 checked turns.insns.items ≡ None
  no_fault = none_wrong checked 0 turns.insns.items (repeat 3 (map (λ i. i.class) known.insns.items)) classes_repeat

  -- the edges of the graph of the copies
  pub are_turn_edges : (count : ℕ) (made : Graph) → IsGraphOf checked turns made → IsSchedulable count made → AreTurnEdges checked block known made.edges.items
  are_turn_edges count made is able = record {
    each = subst (λ (cs : List ℕ). model.IsGraph (repeat 3 (instructions block)) (timing_in checked cs (repeat 3 (instructions block))) (map edge_of made.edges.items)) same
        (subst (λ (xs : List Instruction). model.IsGraph xs (timing_in checked (map (λ i. i.class) made.insns.items) xs) (map edge_of made.edges.items)) copies is.edges);
    inside = All-weaker (λ (e : Edge). (e.from < e.to) × (e.to < length made.insns.items) × (e.cost ≤ latency_limit)) (λ (e : Edge). (e.from < e.to) × (e.to < 3 * length block.insns.items) × (e.cost ≤ latency_limit))
        (λ e h. (h.0, (let low = h.1 in omega (arith, low, many)), h.2)) made.edges.items able.edges;
  }
    where
      same : map (λ i. i.class) made.insns.items ≡ repeat 3 (map (λ i. i.class) known.insns.items)
      same = same_list (map (λ i. i.class) made.insns.items) (repeat 3 (map (λ i. i.class) known.insns.items)) (sym (of_insns made.insns.items) ∙ (is.classes ∙ sym classes_repeat))

      many : length made.insns.items ≡ 3 * length block.insns.items
      many =
          sym (length-map made.insns.items (λ (i : GraphInsn). i.number))
          ∙ (ap length is.numbers
          ∙ (length-map turns.insns.items (λ (i : Insn). i.number)
          ∙ long))

-- a class is not wrong where none is
pub not_wrong : (r : Result Graph DependFault) (f : DependFault) (place : ℕ) (wrong : declared.ClassFault) (o : Option (ℕ × ClassFault)) → r ≡ Err f → f ≡ Class place wrong → class_fault_in r ≡ o → o ≡ None → ⊥
not_wrong r f place wrong o is what reported none =
    let some : class_fault_in (Err (Class place wrong)) ≡ None = sym (ap class_fault_in (is ∙ ap Err what)) ∙ (reported ∙ none) in
    cc
