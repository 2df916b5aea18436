-- What the code holds of instructions, and its tests of dependences over that. These words are only to prove with.
use Rattle.std.specs.Prelude.{ℕ, zero, suc, ◌+◌, ◌-◌, Bool, false, ◌&&◌, ◌||◌, not, nat_lt, if◌then◌else◌, List, [], ◌∷◌, ◌++◌, map, max, take, Option, Some, None, Result, Ok, Err, slice_get, slice_index}
use Rattle.std.specs.List.{list_any}
use Rattle.std.specs.Option.{option_map, option_to_list}
use Rattle.hz_rtl.specs.declared.block.Insn.{Insn}
use Rattle.hz_rtl.specs.Shape.{instruction}
use Rattle.hz_checked.specs.declared.checked.Checked.{Checked}
use Rattle.hz_depend.specs.declared.nodes.Node.{Node}
use Rattle.hz_depend.specs.Cells.{cells}
use Rattle.hz_depend.specs.Shape.{class_for}
use Rattle.hz_depend.specs.GraphShape.{latencies_of}
use Rattle.hz_block_model.specs.Dependences.Accesses.{access_of, is_among, Based, based_of}
use Rattle.hz_block_model.specs.Dependences.Dependences.{apart_by}
use Rattle.hz_block_model.specs.Dependences.Classes.{ClassFault}
use Rattle.hz_block_model.specs.Running.Blocks.{Instruction}
use Rattle.hz_block_model.specs.Dependences.Graphs.{Edge}

-- An instruction: its class, its latency, and what it reads and writes.
pub record Held : Type 0 where
  pub class : ℕ
  pub latency : ℕ
  pub registers_read : List ℕ
  pub registers_written : List ℕ
  pub cells_read : List (Option Based)
  pub cells_written : List (Option Based)
  -- the instruction itself
  pub instruction : Instruction

abbrev pub held : Node → Held
held n = record {
  class = n.class;
  latency = n.latency;
  registers_read = n.access.read.registers.items;
  registers_written = n.access.written.registers.items;
  cells_read = cells n.access.read.cells.items;
  cells_written = cells n.access.written.cells.items;
  instruction = instruction n.insn.now;
}

-- what is held of an instruction of a class and a latency
abbrev pub kept : ℕ → ℕ → Instruction → Held
kept class latency i = record {
  class = class;
  latency = latency;
  registers_read = (access_of i).registers_read;
  registers_written = (access_of i).registers_written;
  cells_read = map based_of (access_of i).addresses_read;
  cells_written = map based_of (access_of i).addresses_written;
  instruction = i;
}

-- the class, where there is one
abbrev pub number_of_class : Result ℕ ClassFault → ℕ
number_of_class (Ok class) = class
number_of_class (Err e) = 0

abbrev pub class_number : Checked → Insn → ℕ
class_number checked insn = number_of_class (class_for checked insn)

-- what is held of an instruction of a description
abbrev pub node_for : Checked → Insn → Held
node_for checked insn = kept (class_number checked insn) (slice_index (latencies_of checked) (class_number checked insn)) (instruction insn)

-- some two of these cells aren't apart
abbrev pub meet : (ℕ → Bool) → List (Option Based) → List (Option Based) → Bool
meet since vs ws = list_any (λ v. list_any (λ w. not (apart_by since v w)) ws) vs

-- the cost of a dependence that is true, an anti-dependence, or an output dependence, if it is any
abbrev pub cost_by : Bool → Bool → Bool → ℕ → ℕ → Option ℕ
cost_by t a o number difference = if t || a || o then Some (max (if t then number else 0) (if o then difference else 0)) else None

-- A first instruction at i, and a second: `last` has for each register the place after the last one before the second that writes it.
module _ (last : ℕ → ℕ) (i : ℕ) (f s : Held) where
  -- the second reads what the first wrote
  abbrev pub is_true : Bool
  is_true = list_any (λ r. is_among f.registers_written r && not (nat_lt (i + 1) (last r))) s.registers_read
      || meet (λ r. nat_lt i (last r)) f.cells_written s.cells_read

  -- the second writes what the first reads
  abbrev pub is_anti : Bool
  is_anti = list_any (is_among s.registers_written) f.registers_read || meet (λ r. nat_lt i (last r)) f.cells_read s.cells_written

  -- both write
  abbrev pub is_output : Bool
  is_output = list_any (is_among s.registers_written) f.registers_written || meet (λ r. nat_lt i (last r)) f.cells_written s.cells_written

  -- the cost of the dependence, if there is one
  abbrev pub cost_held : (cycles : Held → Held → ℕ) → Option ℕ
  cost_held cycles = cost_by is_true is_anti is_output (cycles f s) (f.latency - s.latency)

-- the edge of a cost, if there is one
abbrev pub edge_by : ℕ → ℕ → Option ℕ → List Edge
edge_by i j cost = option_to_list (option_map (λ c. record { from = i; to = j; cost = c }) cost)

-- the edges to a place from instructions that stand from i on
abbrev pub found : (ℕ → ℕ) → (Held → Held → ℕ) → ℕ → Held → ℕ → List Held → List Edge
found last cycles j s i [] = []
found last cycles j s i (f ∷ firsts) = edge_by i j (cost_held last i f s cycles) ++ found last cycles j s (suc i) firsts

-- those of them from instructions that are marked
abbrev pub found_among : (ℕ → Bool) → (ℕ → ℕ) → (Held → Held → ℕ) → ℕ → Held → ℕ → List Held → List Edge
found_among is_marked last cycles j s i [] = []
found_among is_marked last cycles j s i (f ∷ firsts) = (if is_marked i then edge_by i j (cost_held last i f s cycles) else []) ++ found_among is_marked last cycles j s (suc i) firsts

-- whether an instruction writes a register
abbrev pub writes : Option Held → ℕ → Bool
writes (Some h) r = is_among h.registers_written r
writes None r = false

-- for each register the place after the last instruction that writes it, below a place
abbrev pub last_of : List Held → ℕ → ℕ → ℕ
last_of nodes zero r = 0
last_of nodes (suc j) r = if writes (slice_get nodes j) r then suc j else last_of nodes j r

-- the edges to the instruction at a place
abbrev pub edges_to : (Held → Held → ℕ) → List Held → ℕ → Option Held → List Edge
edges_to cycles nodes j (Some s) = found (last_of nodes j) cycles j s 0 (take j nodes)
edges_to cycles nodes j None = []

-- all edges to places below one
abbrev pub all_found : (Held → Held → ℕ) → List Held → ℕ → List Edge
all_found cycles nodes zero = []
all_found cycles nodes (suc j) = all_found cycles nodes j ++ edges_to cycles nodes j (slice_get nodes j)
