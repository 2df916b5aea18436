-- The class of an instruction is one of the description's.
use Rattle.std.proofs.Common.{◌≡◌, ℕ, ◌+◌, ◌<◌, ◌≤◌, Bool, true, false, cond, List, [], ◌∷◌, map, length, All, Option, Some, None, sym, subst, arith}
use Rattle.std.specs.Prelude.{Result, Ok, Err, MatchResult, ⊤}
use Rattle.std.specs.List.{cons_option}
use Rattle.std.proofs.lemmas.List.{length-map}
use Rattle.std.proofs.lemmas.List.Elements.{All-nil, All-cons, All-head}
use Rattle.hz_description_model.specs.Reading.Descriptions.{Condition, Description}
use Rattle.hz_description_model.specs.Reading.Conditions.{value_of, holds}
use Rattle.hz_description_model.specs.Check.CheckedParts.{attributes_of, defaults_of}
use Rattle.hz_block_model.specs.Running.Blocks.{Instruction}
use Rattle.hz_block_model.specs.Dependences.Classes.{ClassFault, first_fault, holding_from, the_one}
use Rattle.hz_block_model.specs.Scheduling.Schedules.{Node, Graph}
use Rattle.hz_block_model.specs.Scheduled.BlockGraphs.{class_in, IsGraphOf}

holding_below : (n m : ℕ) (value : List ℕ → Option (List ℕ)) (conditions : List Condition) → n + length conditions ≤ m → All (λ k. k < m) (holding_from n value conditions)
holding_below n m value [] le = All-nil (λ k. k < m)
holding_below n m value (c ∷ conditions) le = go (holds value c) (holding_below (n + 1) m value conditions (omega (arith, le)))
  where
    go : (b : Bool) → All (λ k. k < m) (holding_from (n + 1) value conditions) → All (λ k. k < m) (cons_option (cond b (Some n) None) (holding_from (n + 1) value conditions))
    go true all = All-cons (λ k. k < m) n (holding_from (n + 1) value conditions) (omega (arith, le)) all
    go false all = all

-- a class that is reported is below a bound
abbrev IsBelow : ℕ → Result ℕ ClassFault → Type 0
IsBelow m r = MatchResult r (λ k. k < m) (λ _. ⊤)

one_below : (m : ℕ) (numbers : List ℕ) → All (λ k. k < m) numbers → IsBelow m (the_one numbers)
one_below m [] all = tt
one_below m (a ∷ []) all = All-head (λ k. k < m) a [] all
one_below m (a ∷ b ∷ others) all = tt

-- what is decided of the first fault
abbrev decided : Result ℕ ClassFault → Option ClassFault → Result ℕ ClassFault
decided otherwise (Some fault) = Err fault
decided otherwise None = otherwise

class_below : (d : Description) (i : Instruction) → IsBelow (length (map (λ c. c.condition) d.classes)) (class_in d i)
class_below d i = go (first_fault (attributes_of d) i.attributes) (holding_from 0 (value_of i.attributes (defaults_of d)) (map (λ c. c.condition) d.classes)) (holding_below 0 (length (map (λ c. c.condition) d.classes)) (value_of i.attributes (defaults_of d)) (map (λ c. c.condition) d.classes) (omega arith))
  where
    go : (o : Option ClassFault) (numbers : List ℕ) → All (λ k. k < length (map (λ c. c.condition) d.classes)) numbers → IsBelow (length (map (λ c. c.condition) d.classes)) (decided (the_one numbers) o)
    go (Some fault) numbers all = tt
    go None numbers all = one_below (length (map (λ c. c.condition) d.classes)) numbers all

abbrev good : ℕ → Result ℕ ClassFault
good class = Ok class

nodes_below : (d : Description) (nodes : List Node) (block : List Instruction) → map good (map (λ n. n.class) nodes) ≡ map (class_in d) block → All (λ n. n.class < length d.classes) nodes
nodes_below d [] block e = All-nil (λ n. n.class < length d.classes)
nodes_below d (n ∷ nodes) [] e = absurd (cc)
nodes_below d (n ∷ nodes) (i ∷ block) e =
    let here : good n.class ≡ class_in d i = cc in
    let low : n.class < length (map (λ c. c.condition) d.classes) = subst (IsBelow (length (map (λ c. c.condition) d.classes))) (sym here) (class_below d i) in
    let long = length-map d.classes (λ c. c.condition) in
    All-cons (λ n. n.class < length d.classes) n nodes (omega (arith, low, long)) (nodes_below d nodes block (cc))

-- the classes of a block's graph are the description's
pub classes_within : (d : Description) (block : List Instruction) (g : Graph) → IsGraphOf d block g → All (λ n. n.class < length d.classes) g.nodes
classes_within d block g graph = nodes_below d g.nodes block graph.classes
