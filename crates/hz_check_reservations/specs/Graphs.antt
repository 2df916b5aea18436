-- Graphs of numbers, of which the ends of each node's edges are given in their order, and orders of their nodes.
use Rattle.std.specs.Prelude.{◌≡◌, ℕ, ◌<◌, ◌≤◌, Bool, true, false, List, [], ◌∷◌, ◌++◌, Some, slice_get, slice_index_or}
use Rattle.std.specs.List.{Contains}

-- the ends of a node's edges, where a list has those of each node
abbrev pub ends_in : List (List ℕ) → ℕ → List ℕ
ends_in lists node = slice_index_or lists node []

-- all edges end at numbers below a count
abbrev pub AreInside : ℕ → List (List ℕ) → Type 0
AreInside count lists = (node end : ℕ) → Contains (ends_in lists node) end → end < count

-- one edge or more lead from a node to another
pub data Path (edges : ℕ → List ℕ) : (from to : ℕ) → Type 0 where
  last : {from to : ℕ} → Contains (edges from) to → Path edges from to
  onward : {from middle to : ℕ} → Contains (edges from) middle → Path edges middle to → Path edges from to

-- The order in which a walk leaves the nodes, after those that it has left before: directly before each come those that
-- its edges lead to and that have not come before, from the first edge to the last, and so before each of these.
pub data Visited (edges : ℕ → List ℕ) : (before nodes order : List ℕ) → Type 0 where
  ends : {before : List ℕ} → Visited edges before [] []
  came : {before : List ℕ} {node : ℕ} {nodes order : List ℕ} → Contains before node → Visited edges before nodes order → Visited edges before (node ∷ nodes) order
  comes : {before : List ℕ} {node : ℕ} {nodes inner order : List ℕ} → (Contains before node → ⊥) → Visited edges before (edges node) inner
      → Visited edges (before ++ (inner ++ node ∷ [])) nodes order → Visited edges before (node ∷ nodes) (inner ++ node ∷ order)

-- the node has this place in the order
abbrev pub At : List ℕ → ℕ → ℕ → Type 0
At order place node = slice_get order place ≡ Some node

-- no node has two places
pub record IsOnce (order : List ℕ) : Type 0 where
  pub same : (i j node : ℕ) → At order i node → At order j node → i ≡ j

-- Each edge leads to a node of the order; where that one does not stand before the edge's start, it leads to all nodes
-- from the start up to itself.
pub record Spans (edges : ℕ → List ℕ) (order : List ℕ) : Type 0 where
  pub each : (i from to : ℕ) → At order i from → Contains (edges from) to → (j : ℕ) × At order j to × ((k node : ℕ) → i ≤ k → k ≤ j → At order k node → Path edges to node)

-- What a walk from a root finds among so many nodes: the order in which it leaves them, and whether some node leads to
-- itself.
pub record IsWalk (edges : ℕ → List ℕ) (root count : ℕ) (order : List ℕ) (circular : Bool) : Type 0 where
  pub within : (node : ℕ) → Contains order node → node < count
  pub once : IsOnce order
  pub reached : Contains order root
  pub spans : Spans edges order
  pub straight : circular ≡ false → Visited edges [] (root ∷ []) order
  pub around : circular ≡ true → (node : ℕ) × Path edges node node
