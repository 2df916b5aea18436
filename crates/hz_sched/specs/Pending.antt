-- What is kept of the instructions that are left. These words are only to prove with.
use Rattle.std.specs.Prelude.{◌≡◌, ◌≢◌, ℕ, zero, suc, ◌<◌, ◌≤◌, ◌==◌, ◌⊎◌, Bool, ◌&&◌, if◌then◌else◌, nat_le, nat_lt, is_some, List, [], ◌∷◌, length, map, Option, Some, None, slice_index, slice_index_or, slice_get}
use Rattle.std.specs.List.{Contains}
use Rattle.std.specs.List.Sorted.{IsStrictlySortedBy}
use Rattle.std.specs.Ordering.{nat_cmp, ordering_then}
use Rattle.std.specs.BTreeSet.{BTreeSet, insert_key}
use Rattle.std.specs.BTreeMap.{is_at}
use Rattle.std.specs.Set.{remove_key}
use Rattle.std.specs.declared.cmp.Ordering.{Ordering}
use Rattle.std.specs.declared.cmp.Reverse.{Reverse}
use Rattle.hz_pipeline_model.specs.Accepting.Events.{issue}
use Rattle.hz_pipeline_model.specs.Tables.Machines.{Machine, parts_walk}
use Rattle.hz_block_model.specs.Dependences.Graphs.{Edge}
use Rattle.hz_block_model.specs.Scheduling.Schedules.{Graph, class_at, height_at}
use Rattle.hz_sched.specs.declared.board.Board.{Board}
use Rattle.hz_sched.specs.declared.queue.Queue.{Queue}
use Rattle.hz_sched.specs.Shape.{slots_of}
use Rattle.hz_sched.specs.Waits.{issued_at, missing, ripe}
use Rattle.hz_sched.specs.Standing.{IsAt}

-- the height and the place of an instruction
abbrev pub Key : Type 0
Key = Reverse ℕ × ℕ

-- the greatest height first, and of equal ones the least place
abbrev pub key_cmp : Key → Key → Ordering
key_cmp x y = ordering_then (nat_cmp (y.0).0 (x.0).0) (nat_cmp x.1 y.1)

abbrev pub key_of : Graph → ℕ → Key
key_of g j = (record { 0 = height_at g j }, j)

-- the first cycle and the place of an instruction that waits
abbrev pub Wait : Type 0
Wait = ℕ × ℕ

-- the earliest cycle first, and of equal ones the least place
abbrev pub wait_cmp : Wait → Wait → Ordering
wait_cmp x y = ordering_then (nat_cmp x.0 y.0) (nat_cmp x.1 y.1)

-- the ready instructions of a class
abbrev pub keys_at : List (BTreeSet Key) → ℕ → List Key
keys_at rows class = slice_index_or (map (λ row. row.keys) rows) class []

-- the place of the first that waits, where its cycle has come
abbrev pub ripe_front : ℕ → List Wait → Option ℕ
ripe_front cycle [] = None
ripe_front cycle (w ∷ waiting) = if nat_le w.0 cycle then Some w.1 else None

-- with an instruction that waits for its cycle, if its count is 0
abbrev pub one_waits : List ℕ → List ℕ → ℕ → List Wait → List Wait
one_waits counts ripes j waiting = if slice_index counts j == 0 then insert_key wait_cmp waiting (slice_index ripes j, j) else waiting

-- with those to which these edges lead
abbrev pub all_wait : List ℕ → List ℕ → List Edge → List Wait → List Wait
all_wait counts ripes [] waiting = waiting
all_wait counts ripes (e ∷ edges) waiting = all_wait counts ripes edges (one_waits counts ripes e.to waiting)

-- the instructions below a place that wait for their cycles, as their counts are 0
abbrev pub free_below : List ℕ → List ℕ → ℕ → List Wait
free_below counts ripes zero = []
free_below counts ripes (suc j) = one_waits counts ripes j (free_below counts ripes j)

-- without the one that was the first of its class
abbrev pub without_head : Option Key → List Key → List Key
without_head None heads = heads
without_head (Some k) heads = remove_key (is_at (key_cmp k)) heads

-- with the one that is the first of its class
abbrev pub with_head : Option Key → List Key → List Key
with_head None heads = heads
with_head (Some k) heads = insert_key key_cmp heads k

-- These are ready in a class now, the others are ready as before, and the first of the class is another.
pub record ChangesRow (class : ℕ) (row : List Key) (rows fresh : List (BTreeSet Key)) (heads others : List Key) : Type 0 where
  pub size : length fresh ≡ length rows
  pub here : keys_at fresh class ≡ row
  pub ordered : IsStrictlySortedBy key_cmp row
  pub apart : (c : ℕ) → c ≢ class → keys_at fresh c ≡ keys_at rows c
  pub first : others ≡ with_head (slice_get row 0) (without_head (slice_get (keys_at rows class) 0) heads)
  pub heads_ordered : IsStrictlySortedBy key_cmp others

-- What instructions wait for, where some are issued.
pub record AreWaits (g : Graph) (at : ℕ → Option ℕ) (counts ripes : List ℕ) : Type 0 where
  pub counts_size : length counts ≡ length g.nodes
  pub ripes_size : length ripes ≡ length g.nodes
  pub counted : (j : ℕ) → slice_index counts j ≡ missing at j g.edges
  pub waited : (j : ℕ) → at j ≡ None → slice_index ripes j ≡ ripe at j g.edges

-- An instruction is left, and waits for no other.
pub record IsFree (g : Graph) (at : ℕ → Option ℕ) (j : ℕ) : Type 0 where
  pub within : j < length g.nodes
  pub left : at j ≡ None
  pub none : missing at j g.edges ≡ 0

-- An instruction waits for its cycle.
pub record IsWaiting (g : Graph) (at : ℕ → Option ℕ) (w : Wait) : Type 0 where
  pub free : IsFree g at w.1
  pub waited : w.0 ≡ ripe at w.1 g.edges

-- An instruction of a class is ready at a cycle.
pub record IsRipe (g : Graph) (at : ℕ → Option ℕ) (cycle class : ℕ) (k : Key) : Type 0 where
  pub free : IsFree g at k.1
  pub waited : ripe at k.1 g.edges ≤ cycle
  pub classed : class_at g k.1 ≡ class
  pub key : k ≡ key_of g k.1

-- These are the first of each class.
pub record AreHeads (g : Graph) (rows : ℕ → List Key) (heads : List Key) : Type 0 where
  pub ordered : IsStrictlySortedBy key_cmp heads
  pub each : (class : ℕ) (k : Key) → slice_get (rows class) 0 ≡ Some k → Contains heads k
  pub only : (k : Key) → Contains heads k → slice_get (rows (class_at g k.1)) 0 ≡ Some k

-- The queue is of instructions of the graph, and has a row for the class of each.
pub record AreInRange (g : Graph) (waiting : List Wait) (rows : List (BTreeSet Key)) (heads : List Key) : Type 0 where
  pub places : (w : Wait) → Contains waiting w → w.1 < length g.nodes
  pub waiting_ordered : IsStrictlySortedBy wait_cmp waiting
  pub classes : (j : ℕ) → j < length g.nodes → class_at g j < length rows
  pub heads_ordered : IsStrictlySortedBy key_cmp heads

-- The instructions that are left and wait for no other: those that wait for their cycles, and those that have waited at this cycle.
pub record AreQueued (g : Graph) (at : ℕ → Option ℕ) (cycle : ℕ) (waiting : List Wait) (rows : List (BTreeSet Key)) (heads : List Key) : Type 0 where
  pub done : (j c : ℕ) → at j ≡ Some c → missing at j g.edges ≡ 0
  pub classes : (j : ℕ) → j < length g.nodes → class_at g j < length rows
  pub each : (j : ℕ) → IsFree g at j → Contains waiting (ripe at j g.edges, j) ⊎ Contains (keys_at rows (class_at g j)) (key_of g j)
  pub waiting_ordered : IsStrictlySortedBy wait_cmp waiting
  pub waits : (w : Wait) → Contains waiting w → IsWaiting g at w
  pub ready_ordered : (class : ℕ) → IsStrictlySortedBy key_cmp (keys_at rows class)
  pub ready : (class : ℕ) (k : Key) → Contains (keys_at rows class) k → IsRipe g at cycle class k
  pub first : AreHeads g (keys_at rows) heads

abbrev pub IsInRange : Graph → Queue → Type 0
IsInRange g queue = AreInRange g queue.waiting.keys queue.ready.items queue.heads.keys

abbrev pub IsQueue : Graph → (ℕ → Option ℕ) → ℕ → Queue → Type 0
IsQueue g at cycle queue = AreQueued g at cycle queue.waiting.keys queue.ready.items queue.heads.keys

-- all that wait have to wait longer
abbrev pub AreLater : ℕ → List Wait → Type 0
AreLater cycle waiting = (w : Wait) → Contains waiting w → cycle < w.0

-- the issue of an instruction fits
abbrev pub may : Machine → Graph → List ℕ → ℕ → Bool
may m g states j = nat_lt j (length g.nodes) && is_some (parts_walk m.parts states (issue (class_at g j) ∷ []))

-- The board of a schedule: how far it has come, and what is left.
pub record IsBoard (m : Machine) (g : Graph) (board : Board) (states : List ℕ) : Type 0 where
  pub at : IsAt m g (slots_of board.slots.items) board.cycle states
  pub waits : AreWaits g (issued_at (slots_of board.slots.items)) board.counts.items board.ripes.items
  pub queued : IsQueue g (issued_at (slots_of board.slots.items)) board.cycle board.queue
