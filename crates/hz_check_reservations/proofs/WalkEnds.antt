-- A walk ends: with each step less is left to do.
use Rattle.std.proofs.Common.{◌≡◌, ℕ, zero, suc, ◌+◌, ◌-◌, ◌<◌, List, [], ◌∷◌, length, set, slice_get, Option, Some, None, refl, ap, arith}
use Rattle.hz_check_reservations.specs.declared.ordering.walk.Frame.{Frame}
use Rattle.hz_check_reservations.specs.declared.ordering.walk.Mark.{Mark}
use Rattle.hz_check_reservations.specs.declared.ordering.walk.Mark.TheVariants.{New, Open, Done}
use Rattle.hz_check_reservations.specs.Graphs.{ends_in, AreInside}
use Rattle.hz_check_reservations.specs.Walks.{State, mark_of, looked, passed, left, stepped, gone_on}
use Rattle.hz_check_reservations.proofs.Walking.{place_within}

-- what a node of so many edges may still cost
abbrev mark_work : Mark → ℕ → ℕ
mark_work New n = n + 2
mark_work Open n = 0
mark_work Done n = 0

-- what the nodes may still cost
pub marks_work : List Mark → List (List ℕ) → ℕ
marks_work [] lists = 0
marks_work (m ∷ marks) [] = 0
marks_work (m ∷ marks) (ends ∷ lists) = mark_work m (length ends) + marks_work marks lists

-- what a frame still costs
abbrev pub frame_work : List (List ℕ) → Frame → ℕ
frame_work lists f = suc (length (ends_in lists f.node) - f.next)

abbrev pub frames_work : List (List ℕ) → List Frame → ℕ
frames_work lists [] = 0
frames_work lists (f ∷ frames) = frame_work lists f + frames_work lists frames

-- what is left to do
abbrev pub work_left : List (List ℕ) → State → ℕ
work_left lists s = marks_work s.marks lists + frames_work lists s.frames

marks_work-set : (marks : List Mark) (lists : List (List ℕ)) (i : ℕ) (m : Mark) → length marks ≡ length lists → i < length marks
    → marks_work (set marks i m) lists + mark_work (mark_of marks i) (length (ends_in lists i)) ≡ marks_work marks lists + mark_work m (length (ends_in lists i))
unfolding marks_work
marks_work-set [] lists i m e lt = absurd (omega arith)
marks_work-set (n ∷ marks) [] i m e lt = absurd (omega arith)
marks_work-set (n ∷ marks) (ends ∷ lists) zero m e lt = omega arith
marks_work-set (n ∷ marks) (ends ∷ lists) (suc i) m e lt =
    let rest = marks_work-set marks lists i m (omega arith) (omega arith) in omega arith

module _ (lists : List (List ℕ)) (s : State) (f : Frame) (frames : List Frame) (is : s.frames ≡ f ∷ frames) (size : length s.marks ≡ length lists) where
  work_now : frames_work lists s.frames ≡ frame_work lists f + frames_work lists frames
  work_now = ap (frames_work lists) is

  pub step_falls : (node : ℕ) → node < length s.marks → f.next < length (ends_in lists f.node) → work_left lists (passed f node (record s { frames = frames })) < work_left lists s
  step_falls node small next = by_mark (mark_of s.marks node) refl
    where
      by_mark : (m : Mark) → mark_of s.marks node ≡ m → work_left lists (looked m node (record s { frames = record { node = f.node; next = f.next + 1 } ∷ frames })) < work_left lists s
      by_mark New e =
          let cost = marks_work-set s.marks lists node Open size small in
          let was : mark_work (mark_of s.marks node) (length (ends_in lists node)) ≡ length (ends_in lists node) + 2 = ap (λ (m : Mark). mark_work m (length (ends_in lists node))) e in
          omega (arith, work_now)
      by_mark Open e = omega (arith, work_now)
      by_mark Done e = omega (arith, work_now)

  pub leave_falls : f.node < length s.marks → mark_of s.marks f.node ≡ Open → work_left lists (left f.node (record s { frames = frames })) < work_left lists s
  leave_falls small e =
      let cost = marks_work-set s.marks lists f.node Done size small in
      let was : mark_work (mark_of s.marks f.node) (length (ends_in lists f.node)) ≡ 0 = ap (λ (m : Mark). mark_work m (length (ends_in lists f.node))) e in
      omega (arith, work_now)

  pub stepping_falls : AreInside (length lists) lists → f.node < length s.marks → mark_of s.marks f.node ≡ Open → work_left lists (stepped (ends_in lists) f (record s { frames = frames })) < work_left lists s
  stepping_falls inside small is_open = by_end (slice_get (ends_in lists f.node) f.next) refl
    where
      by_end : (o : Option ℕ) → slice_get (ends_in lists f.node) f.next ≡ o → work_left lists (gone_on f o (record s { frames = frames })) < work_left lists s
      by_end (Some node) e =
          let at = place_within (ends_in lists f.node) f.next node e in
          let low : node < length lists = inside f.node node (f.next, at.0, at.1) in
          step_falls node (omega (arith, size)) at.0
      by_end None e = leave_falls small is_open
