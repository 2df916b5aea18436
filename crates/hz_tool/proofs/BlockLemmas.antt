-- The dependence graph of a block, and the first instruction of it whose class is wrong: by what is held of a description, and by
-- the description.
use Rattle.std.proofs.Common.{◌≡◌, ℕ, suc, ◌+◌, ◌<◌, ◌≤◌, Bool, true, false, cond, List, [], ◌∷◌, length, map, Option, Some, None, Result, Ok, Err, All, slice_get, refl, sym, ap, ◌∙◌, subst, arith}
use Rattle.std.specs.Prelude.{⊤, MatchOption, MatchResult, slice_index, unwrap_or}
use Rattle.std.specs.List.{cons_option, find, list_any}
use Rattle.std.specs.Option.{option_map_or}
use Rattle.std.specs.Str.{bytes_eq}
use Rattle.std.proofs.lemmas.List.{length-map}
use Rattle.std.proofs.lemmas.List.Elements.{All-nil, All-cons, All-head, All-tail}
use Rattle.hz_checked.specs.declared.checked.Checked.{Checked}
use Rattle.hz_checked.specs.declared.checked.CheckedClass.{CheckedClass}
use Rattle.hz_check.specs.Checked.{IsCheckedOf}
use Rattle.hz_checked.specs.Shape.{attribute_of, bypass_of, class_of}
use Rattle.hz_description_model.specs.Check.CheckedParts.{ClassParts, BypassParts, class_parts, attributes_of, defaults_of}
use Rattle.hz_depend.specs.declared.parts.Graph as declared
use Rattle.hz_depend.specs.declared.parts.GraphInsn.{GraphInsn}
use Rattle.hz_depend.specs.GraphShape.{edge_of, latencies_of, first_class_fault}
use Rattle.hz_depend.specs.GraphShape as depend
use Rattle.hz_depend.specs.Shape.{class_for, conditions_of}
use Rattle.hz_block_model.specs.Dependences.Classes.{ClassFault, holding_from, the_one, timing_of}
use Rattle.hz_block_model.specs.Dependences.Classes as classes
use Rattle.hz_block_model.specs.Dependences.Dependences.{Timing}
use Rattle.hz_block_model.specs.Dependences.Graphs.{IsGraph, IsHeight}
use Rattle.hz_mdread.specs.Shape.{condition}
use Rattle.hz_description_model.specs.Reading.Conditions.{holds, value_of}
use Rattle.hz_description_model.specs.Reading.Descriptions.{Description, Condition}
use Rattle.hz_rtl.specs.declared.block.Block.{Block}
use Rattle.hz_rtl.specs.declared.block.Insn.{Insn}
use Rattle.hz_rtl.specs.Shape.{instruction, instructions}
use Rattle.hz_block_model.specs.Running.Blocks.{Instruction}
use Rattle.hz_sched.specs.Shape.{graph_of, node_of}
use Rattle.hz_block_model.specs.Scheduling.Schedules.{Node}
use Rattle.hz_block_model.specs.Scheduled.BlockGraphs.{class_in, latencies_in, timing_in, classes_of, IsGraphOf, IsFirstClassFault}
use Rattle.hz_answer_model.proofs.WalkLaws.{map_twice}
use Rattle.hz_tool.specs.Blocks.{IsFaultIn}

-- a number as a class without a fault
abbrev good : ℕ → Result ℕ ClassFault
good class = Ok class

-- a fault at a place, or a later one
abbrev first_of : ℕ → Result ℕ ClassFault → Option (ℕ × ClassFault) → Option (ℕ × ClassFault)
first_of n (Err e) later = Some (n, e)
first_of n (Ok class) later = later

-- two of one pair, and two of one option
same_pair : (n place : ℕ) (wrong e : ClassFault) → ◌≡◌ {A = Option (ℕ × ClassFault)} (Some (n, wrong)) (Some (place, e)) → (n ≡ place) × (wrong ≡ e)
same_pair n place wrong e h = (ap (λ (o : Option (ℕ × ClassFault)). (unwrap_or o (place, e)).0) h, ap (λ (o : Option (ℕ × ClassFault)). (unwrap_or o (place, e)).1) h)

same_some : (x y : Insn) → Some x ≡ Some y → x ≡ y
same_some x y h = cc

-- The instruction at a place, counted from a number on, is the first whose class is wrong.
pub record IsWrongAt (d : Description) (insns : List Insn) (n place : ℕ) (e : ClassFault) : Type 0 where
  pub beyond : ℕ
  pub place_is : place ≡ n + beyond
  pub insn : Insn
  pub there : slice_get insns beyond ≡ Some insn
  pub first : IsFirstClassFault d (map instruction insns) (instruction insn) e

-- a graph has as many instructions as its block
pub graph_size : (checked : Checked) (block : Block) (graph : declared.Graph) → depend.IsGraphOf checked block graph → length graph.insns.items ≡ length block.insns.items
graph_size checked block graph made =
    sym (length-map graph.insns.items (λ (i : GraphInsn). i.number)) ∙ (ap length made.numbers ∙ length-map block.insns.items (λ (i : Insn). i.number))

module _ (d : Description) (checked : Checked) (is : IsCheckedOf d checked) where
  conditions_same : conditions_of checked.classes.items ≡ map (λ c. c.condition) d.classes
  conditions_same =
      sym (map_twice (λ (p : ClassParts). p.condition) class_of checked.classes.items)
      ∙ (ap (map (λ (p : ClassParts). p.condition)) is.classes ∙ map_twice (λ (p : ClassParts). p.condition) (class_parts d is.known) d.classes)

  latencies_same : latencies_of checked ≡ latencies_in d
  latencies_same =
      sym (map_twice (λ (p : ClassParts). p.latency) class_of checked.classes.items)
      ∙ (ap (map (λ (p : ClassParts). p.latency)) is.classes ∙ map_twice (λ (p : ClassParts). p.latency) (class_parts d is.known) d.classes)

  -- as many classes
  pub classes_count : length checked.classes.items ≡ length d.classes
  classes_count = sym (length-map checked.classes.items class_of) ∙ (ap length is.classes ∙ length-map d.classes (class_parts d is.known))

  -- the class of an instruction
  class_same : (i : Insn) → class_for checked i ≡ class_in d (instruction i)
  class_same i =
      ap (λ (attributes : List (List ℕ × List (List ℕ))). classes.class_of attributes checked.defaults.items (conditions_of checked.classes.items) i.attrs.items) is.attributes
      ∙ (ap (λ (defaults : List (List ℕ × List ℕ)). classes.class_of (attributes_of d) defaults (conditions_of checked.classes.items) i.attrs.items) is.defaults
      ∙ ap (λ (conditions : List Condition). classes.class_of (attributes_of d) (defaults_of d) conditions i.attrs.items) conditions_same)

  classes_same : (insns : List Insn) → map (class_for checked) insns ≡ map (class_in d) (map instruction insns)
  classes_same [] = refl
  classes_same (i ∷ insns) =
      ap (λ (r : Result ℕ ClassFault). r ∷ map (class_for checked) insns) (class_same i)
      ∙ ap (λ (rs : List (Result ℕ ClassFault)). class_in d (instruction i) ∷ rs) (classes_same insns)

  pub timing_same : (numbers : List ℕ) (block : List Instruction) → depend.timing_in checked numbers block ≡ timing_in d numbers block
  timing_same numbers block =
      ap (λ (ls : List ℕ). timing_of ls (map bypass_of checked.bypasses.items) numbers block) latencies_same
      ∙ ap (λ (bs : List BypassParts). timing_of (latencies_in d) bs numbers block) is.bypasses

  -- ---- the graph

  module _ (block : Block) (graph : declared.Graph) (made : depend.IsGraphOf checked block graph) where
    abbrev insns : List GraphInsn
    insns = graph.insns.items

    same_nodes : classes_of (graph_of graph) ≡ map (λ i. i.class) insns
    same_nodes = map_twice (λ (n : Node). n.class) node_of insns

    same_latencies : map (λ i. i.latency) insns ≡ map (slice_index (latencies_in d)) (classes_of (graph_of graph))
    same_latencies =
        made.latencies
        ∙ (ap (λ (ls : List ℕ). map (λ (i : GraphInsn). slice_index ls i.class) insns) latencies_same
        ∙ (sym (map_twice (slice_index (latencies_in d)) (λ (i : GraphInsn). i.class) insns) ∙ ap (map (slice_index (latencies_in d))) (sym same_nodes)))

    -- what is made by what is held is the graph by the description
    pub is_graph : IsGraphOf d (instructions block) (graph_of graph)
    is_graph = record {
      classes = ap (map good) same_nodes ∙ (map_twice good (λ (i : GraphInsn). i.class) insns ∙ (made.classes ∙ classes_same block.insns.items));
      edges = subst (λ (t : Timing). IsGraph (instructions block) t (map edge_of graph.edges.items)) (timing_same (map (λ i. i.class) insns) (instructions block) ∙ ap (λ (ns : List ℕ). timing_in d ns (instructions block)) (sym same_nodes)) made.edges;
      heights = λ i lt.
          let within : i < length insns = omega (arith, lt, length-map insns node_of) in
          subst (λ (heights : List ℕ). IsHeight (map edge_of graph.edges.items) (map (slice_index (latencies_in d)) (classes_of (graph_of graph))) heights i) (sym (map_twice (λ (n : Node). n.height) node_of insns))
          (subst (λ (ls : List ℕ). IsHeight (map edge_of graph.edges.items) ls (map (λ i. i.height) insns) i) same_latencies (made.heights i within));
    }

  -- ---- the first class that is wrong

  wrong_from : (n : ℕ) (insns : List Insn) (place : ℕ) (e : ClassFault) → first_class_fault n checked insns ≡ Some (place, e) → IsWrongAt d insns n place e
  wrong_from n [] place e h = absurd (cc)
  wrong_from n (i ∷ rest) place e h = go (class_for checked i) (sym (class_same i)) h (wrong_from (suc n) rest place e)
    where
      go : (r : Result ℕ ClassFault) → class_in d (instruction i) ≡ r → first_of n r (first_class_fault (suc n) checked rest) ≡ Some (place, e) → (first_class_fault (suc n) checked rest ≡ Some (place, e) → IsWrongAt d rest (suc n) place e) → IsWrongAt d (i ∷ rest) n place e
      go (Err wrong) same reported further =
          let (here, fault) = same_pair n place wrong e reported in
          record {
            beyond = 0;
            place_is = omega (arith, here);
            insn = i;
            there = refl;
            first = record { before = []; after = map instruction rest; parts = refl; good = All-nil (λ j. (class : ℕ) × (class_in d j ≡ Ok class)); wrong = same ∙ ap (λ (w : ClassFault). Err w) fault };
          }
      go (Ok class) same reported further =
          let later = further reported in
          record {
            beyond = suc later.beyond;
            place_is = let at = later.place_is in omega (arith, at);
            insn = later.insn;
            there = later.there;
            first = record {
              before = instruction i ∷ later.first.before;
              after = later.first.after;
              parts = ap (λ (is : List Instruction). instruction i ∷ is) later.first.parts;
              good = All-cons (λ j. (class : ℕ) × (class_in d j ≡ Ok class)) (instruction i) later.first.before (class, same) later.first.good;
              wrong = later.first.wrong;
            };
          }

  -- the first instruction whose class is wrong
  pub first_wrong : (insns : List Insn) (place : ℕ) (e : ClassFault) (insn : Insn) → first_class_fault 0 checked insns ≡ Some (place, e) → slice_get insns place ≡ Some insn → IsFirstClassFault d (map instruction insns) (instruction insn) e
  first_wrong insns place e insn reported there =
      let found = wrong_from 0 insns place e reported in
      let at : found.beyond ≡ place = let is = found.place_is in omega (arith, is) in
      let one = same_some found.insn insn (sym found.there ∙ (ap (slice_get insns) at ∙ there)) in
      subst (λ (x : Insn). IsFirstClassFault d (map instruction insns) (instruction x) e) one found.first

-- ---- the classes of a fault are in range

-- the fault, if there is one, names classes below a number
abbrev FaultBelow : ℕ → Option ClassFault → Type 0
FaultBelow n fault = MatchOption fault ⊤ (IsFaultIn n)

-- the first of two
abbrev sooner : Option ClassFault → Option ClassFault → Option ClassFault
sooner (Some fault) later = Some fault
sooner None later = later

-- a fault, or else a result
abbrev decided : Result ℕ ClassFault → Option ClassFault → Result ℕ ClassFault
decided otherwise (Some fault) = Err fault
decided otherwise None = otherwise

attribute_below : (n : ℕ) (defined : List (List ℕ × List (List ℕ))) (given : List ℕ × List ℕ) → FaultBelow n (classes.fault_of_attribute defined given)
attribute_below n defined given = go (find (λ attribute. bytes_eq attribute.0 given.0) defined)
  where
    by : (b : Bool) → FaultBelow n (cond b None (Some classes.unknown_value))
    by true = tt
    by false = tt

    go : (o : Option (List ℕ × List (List ℕ))) → FaultBelow n (option_map_or (λ attribute. cond (list_any (λ v. bytes_eq v given.1) attribute.1) None (Some classes.unknown_value)) o (Some classes.unknown_attribute))
    go None = tt
    go (Some attribute) = by (list_any (λ v. bytes_eq v given.1) attribute.1)

first_below : (n : ℕ) (defined : List (List ℕ × List (List ℕ))) (given : List (List ℕ × List ℕ)) → FaultBelow n (classes.first_fault defined given)
first_below n defined [] = tt
first_below n defined (one ∷ others) = go (classes.fault_of_attribute defined one) (classes.first_fault defined others) (attribute_below n defined one) (first_below n defined others)
  where
    go : (o later : Option ClassFault) → FaultBelow n o → FaultBelow n later → FaultBelow n (sooner o later)
    go (Some fault) later h k = h
    go None later h k = k

holding_below : (n m : ℕ) (value : List ℕ → Option (List ℕ)) (conditions : List Condition) → n + length conditions ≤ m → All (λ k. k < m) (holding_from n value conditions)
holding_below n m value [] le = All-nil (λ k. k < m)
holding_below n m value (c ∷ conditions) le = go (holds value c) (holding_below (n + 1) m value conditions (omega (arith, le)))
  where
    go : (b : Bool) → All (λ k. k < m) (holding_from (n + 1) value conditions) → All (λ k. k < m) (cons_option (cond b (Some n) None) (holding_from (n + 1) value conditions))
    go true all = All-cons (λ k. k < m) n (holding_from (n + 1) value conditions) (omega (arith, le)) all
    go false all = all

one_below : (m : ℕ) (numbers : List ℕ) → All (λ k. k < m) numbers → MatchResult (the_one numbers) (λ _. ⊤) (IsFaultIn m)
one_below m [] all = tt
one_below m (a ∷ []) all = tt
one_below m (a ∷ b ∷ others) all =
    let rest = All-tail (λ k. k < m) a (b ∷ others) all in
    (All-head (λ k. k < m) a (b ∷ others) all, All-head (λ k. k < m) b others rest)

-- the classes that are reported of an instruction are among those of the conditions
class_below : (defined : List (List ℕ × List (List ℕ))) (defaults : List (List ℕ × List ℕ)) (conditions : List Condition) (given : List (List ℕ × List ℕ)) → MatchResult (classes.class_of defined defaults conditions given) (λ _. ⊤) (IsFaultIn (length conditions))
class_below defined defaults conditions given =
    go (classes.first_fault defined given) (holding_from 0 (value_of given defaults) conditions) (first_below (length conditions) defined given) (holding_below 0 (length conditions) (value_of given defaults) conditions (omega arith))
  where
    go : (o : Option ClassFault) (numbers : List ℕ) → FaultBelow (length conditions) o → All (λ k. k < length conditions) numbers → MatchResult (decided (the_one numbers) o) (λ _. ⊤) (IsFaultIn (length conditions))
    go (Some fault) numbers h all = h
    go None numbers h all = one_below (length conditions) numbers all

-- of all that is reported of a block: the place is one of it, and the classes are of the description
pub wrong_within : (checked : Checked) (n : ℕ) (insns : List Insn) (place : ℕ) (e : ClassFault) → first_class_fault n checked insns ≡ Some (place, e) → place < n + length insns
wrong_within checked n [] place e h = absurd (cc)
wrong_within checked n (i ∷ insns) place e h = go (class_for checked i) h (wrong_within checked (suc n) insns place e)
  where
    go : (r : Result ℕ ClassFault) → first_of n r (first_class_fault (suc n) checked insns) ≡ Some (place, e) → (first_class_fault (suc n) checked insns ≡ Some (place, e) → place < suc n + length insns) → place < n + length (i ∷ insns)
    go (Err wrong) reported further = let here = (same_pair n place wrong e reported).0 in omega (arith, here)
    go (Ok class) reported further = let low = further reported in omega (arith, low)

pub wrong_below : (checked : Checked) (n : ℕ) (insns : List Insn) (place : ℕ) (e : ClassFault) → first_class_fault n checked insns ≡ Some (place, e) → IsFaultIn (length checked.classes.items) e
wrong_below checked n [] place e h = absurd (cc)
wrong_below checked n (i ∷ insns) place e h = go (class_for checked i) below h (wrong_below checked (suc n) insns place e)
  where
    below : MatchResult (class_for checked i) (λ _. ⊤) (IsFaultIn (length checked.classes.items))
    below =
        subst (λ (m : ℕ). MatchResult (class_for checked i) (λ _. ⊤) (IsFaultIn m)) (length-map checked.classes.items (λ (c : CheckedClass). condition c.condition))
        (class_below (map attribute_of checked.attributes.items) checked.defaults.items (conditions_of checked.classes.items) i.attrs.items)

    go : (r : Result ℕ ClassFault) → MatchResult r (λ _. ⊤) (IsFaultIn (length checked.classes.items)) → first_of n r (first_class_fault (suc n) checked insns) ≡ Some (place, e) → (first_class_fault (suc n) checked insns ≡ Some (place, e) → IsFaultIn (length checked.classes.items) e) → IsFaultIn (length checked.classes.items) e
    go (Err wrong) fine reported further = subst (IsFaultIn (length checked.classes.items)) (same_pair n place wrong e reported).1 fine
    go (Ok class) fine reported further = further reported
