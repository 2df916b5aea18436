-- A walk through a graph, step by step.
use Rattle.std.specs.Prelude.{ℕ, ◌+◌, Bool, true, false, List, [], ◌∷◌, ◌++◌, map, reverse, slice_get, slice_set, slice_index_or, replicate, Option, Some, None}
use Rattle.std.specs.declared.alloc.Global.{Global}
use Rattle.std.specs.declared.vec.Vec.{Vec}
use Rattle.hz_check_reservations.specs.declared.ordering.walk.Walk.{Walk}
use Rattle.hz_check_reservations.specs.declared.ordering.walk.Frame.{Frame}
use Rattle.hz_check_reservations.specs.declared.ordering.walk.Mark.{Mark}
use Rattle.hz_check_reservations.specs.declared.ordering.walk.Mark.TheVariants.{New, Open, Done}

-- how far the walk has come: the frame of the node that it is at first, below it that of the node before it
pub record State : Type 0 where
  pub marks : List Mark
  pub frames : List Frame
  pub order : List ℕ
  pub circular : Bool

abbrev pub state_of : Walk → State
state_of w = record { marks = w.marks.items; frames = reverse w.frames.items; order = w.order.items; circular = w.circular }

-- the mark of a node
abbrev pub mark_of : List Mark → ℕ → Mark
mark_of marks node = slice_index_or marks node New

-- a new node is entered
abbrev pub entered : ℕ → State → State
entered node s = record s { marks = slice_set s.marks node Open; frames = record { node = node; next = 0 } ∷ s.frames }

-- the walk looks at a node with this mark
abbrev pub looked : Mark → ℕ → State → State
looked New node s = entered node s
looked Open node s = record s { circular = true }
looked Done node s = s

-- the walk goes along an edge of the frame, which was taken away
abbrev pub passed : Frame → ℕ → State → State
passed frame node s = looked (mark_of s.marks node) node (record s { frames = record { node = frame.node; next = frame.next + 1 } ∷ s.frames })

-- the walk leaves a node whose frame was taken away
abbrev pub left : ℕ → State → State
left node s = record s { marks = slice_set s.marks node Done; order = s.order ++ node ∷ [] }

-- the walk begins at a root, among so many nodes
abbrev pub begun : ℕ → ℕ → State
begun count root = entered root (record { marks = replicate count New; frames = []; order = []; circular = false })

-- the walk goes on from a frame that was taken away, whose next edge ends here
abbrev pub gone_on : Frame → Option ℕ → State → State
gone_on frame (Some node) s = passed frame node s
gone_on frame None s = left frame.node s

-- the walk goes on from a frame that was taken away
abbrev pub stepped : (ℕ → List ℕ) → Frame → State → State
stepped edges frame s = gone_on frame (slice_get (edges frame.node) frame.next) s

-- the lists that the code holds
abbrev pub lists_of : List (Vec ℕ Global) → List (List ℕ)
lists_of lists = map (λ list. list.items) lists
