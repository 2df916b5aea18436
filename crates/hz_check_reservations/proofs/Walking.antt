-- What a walk keeps true.
use Rattle.std.proofs.Common.{◌≡◌, ◌≢◌, ℕ, ◌+◌, ◌<◌, ◌≤◌, ◌⊎◌, inl, inr, ⊎_elim, Bool, true, false, List, [], ◌∷◌, ◌++◌, length, map, take, drop, set, get_or, replicate, Contains, Option, Some, None, slice_get, refl, sym, ap, ◌∙◌, subst, arith, append_assoc, get_or-set_same, get_or-set_other, length-set}
use Rattle.std.proofs.lemmas.Bool.{cases_eq, cases_lt}
use Rattle.std.proofs.lemmas.List.{append-nil, length-replicate, get_or_past, get_or-replicate, take_more, drop_more, take_all, drop_all}
use Rattle.std.proofs.lemmas.List.Elements.{Contains-append_left, Contains-push, Contains-push_cases}
use Rattle.std.proofs.lemmas.Option.{slice_get_within, get_or_from_slice_get, slice_get-get_or}
use Rattle.hz_base_model.proofs.Elements.{Contains-nil, Contains-head, Contains-tail, Contains-cons_cases}
use Rattle.hz_check_reservations.specs.declared.ordering.walk.Frame.{Frame}
use Rattle.hz_check_reservations.specs.declared.ordering.walk.Mark.{Mark}
use Rattle.hz_check_reservations.specs.declared.ordering.walk.Mark.TheVariants.{New, Open, Done}
use Rattle.hz_check_reservations.specs.Graphs.{At, IsOnce, Path, last, Visited, ends, came, comes, IsWalk, AreInside, ends_in}
use Rattle.hz_check_reservations.specs.Walks.{State, mark_of, entered, looked, passed, left, begun, stepped, gone_on}
use Rattle.hz_check_reservations.proofs.Places.{At_within, At_from_Contains, At-append, At-last, At-push_cases, once_nil, once_push}
use Rattle.hz_check_reservations.proofs.Paths.{path_push}

-- the nodes of frames
abbrev pub nodes_of : List Frame → List ℕ
nodes_of frames = map (λ f. f.node) frames

-- the node that was marked, or another one
marked : (marks : List Mark) (node : ℕ) (m : Mark) (v : ℕ) → node < length marks → ((v ≡ node) × (mark_of (set marks node m) v ≡ m)) ⊎ ((v ≢ node) × (mark_of (set marks node m) v ≡ mark_of marks v))
marked marks node m v lt = ⊎_elim
    (λ (e : v ≡ node). inl (e, ap (mark_of (set marks node m)) e ∙ get_or-set_same marks node m New lt))
    (λ (ne : v ≢ node). inr (ne, get_or-set_other marks node v m New ne))
    (cases_eq v node)

module _ (edges : ℕ → List ℕ) where
  -- Frames of which the last comes first: their nodes differ, and each leads to all above it.
  pub data IsStack : List ℕ → Type 0 where
    bottom : IsStack []
    above : {node : ℕ} {nodes : List ℕ} → (Contains nodes node → ⊥) → ((v : ℕ) → Contains nodes v → Path edges v node) → IsStack nodes → IsStack (node ∷ nodes)

  -- what the edges that a frame has passed lead to is not new
  abbrev pub HasLooked : List Mark → Frame → Type 0
  HasLooked marks f = (v : ℕ) → Contains (take f.next (edges f.node)) v → mark_of marks v ≡ New → ⊥

  -- what is still owed by frames, after what was left
  pub data Owed : (frames : List Frame) (before rest : List ℕ) → Type 0 where
    nothing : {before : List ℕ} → Owed [] before []
    also : {f : Frame} {frames : List Frame} {before inner rest : List ℕ} → Visited edges before (drop f.next (edges f.node)) inner
        → Owed frames (before ++ (inner ++ f.node ∷ [])) rest → Owed (f ∷ frames) before (inner ++ f.node ∷ rest)

  -- an edge from a place of the order leads to a place of it, and back to all up to there
  abbrev Reaches : List ℕ → ℕ → ℕ → Type 0
  Reaches order i to = (j : ℕ) × At order j to × ((k node : ℕ) → i ≤ k → k ≤ j → At order k node → Path edges to node)

  -- an edge from a place of the order leads to an open node, which leads to all that were left since
  abbrev Awaits : List ℕ → List ℕ → ℕ → ℕ → Type 0
  Awaits order nodes i to = Contains nodes to × ((k node : ℕ) → i ≤ k → At order k node → Path edges to node)

  pub record IsWalking (root count : ℕ) (s : State) : Type 0 where
    pub size : length s.marks ≡ count
    pub done : (v : ℕ) → mark_of s.marks v ≡ Done → Contains s.order v
    pub gone : (v : ℕ) → Contains s.order v → mark_of s.marks v ≡ Done
    pub open' : (v : ℕ) → mark_of s.marks v ≡ Open → Contains (nodes_of s.frames) v
    pub here : (v : ℕ) → Contains (nodes_of s.frames) v → mark_of s.marks v ≡ Open
    pub stack : IsStack (nodes_of s.frames)
    pub looks : (f : Frame) → Contains s.frames f → HasLooked s.marks f
    pub once : IsOnce s.order
    pub spans : (i from to : ℕ) → At s.order i from → Contains (edges from) to → Reaches s.order i to ⊎ Awaits s.order (nodes_of s.frames) i to
    pub straight : s.circular ≡ false → (rest : List ℕ) → Owed s.frames s.order rest → Visited edges [] (root ∷ []) (s.order ++ rest)
    pub around : s.circular ≡ true → (node : ℕ) × Path edges node node
    pub reached : mark_of s.marks root ≡ New → ⊥

  -- a node with a mark is within
  within : (marks : List Mark) (v : ℕ) → (mark_of marks v ≡ New → ⊥) → v < length marks
  within marks v h = ⊎_elim (λ (k : v < length marks). k) (λ (k : length marks ≤ v). absurd (h (get_or_past marks v New k))) (cases_lt v (length marks))

  -- Entering a new node on top of a frame whose next edge leads there.
  module _ (root count : ℕ) (s : State) (f : Frame) (frames : List Frame) (node : ℕ) (is : s.frames ≡ f ∷ frames) (w : IsWalking root count s) (next : f.next < length (edges f.node)) (e : get_or (edges f.node) f.next node ≡ node) where
    abbrev on : Frame
    on = record { node = f.node; next = f.next + 1 }

    edge : Contains (edges f.node) node
    edge = (f.next, next, e)

    nodes_same : nodes_of s.frames ≡ f.node ∷ nodes_of frames
    nodes_same = ap nodes_of is

    -- the edges that are passed now
    passed_cases : (v : ℕ) → Contains (take (f.next + 1) (edges f.node)) v → Contains (take f.next (edges f.node)) v ⊎ (node ≡ v)
    passed_cases v h =
        let more = take_more (edges f.node) f.next node next in
        let h' : Contains (take f.next (edges f.node) ++ node ∷ []) v = subst (λ (xs : List ℕ). Contains xs v) (more ∙ ap (λ (x : ℕ). take f.next (edges f.node) ++ x ∷ []) e) h in
        Contains-push_cases (take f.next (edges f.node)) node v h'

    -- a frame of which one more edge is passed, or another frame
    looks_on : (marks : List Mark) → ((v : ℕ) → mark_of marks v ≡ New → mark_of s.marks v ≡ New) → (mark_of marks node ≡ New → ⊥) → (g : Frame) → Contains (on ∷ frames) g → HasLooked marks g
    looks_on marks still seen g h = ⊎_elim
        (λ (same : on ≡ g). subst (HasLooked marks) same (λ v k new. ⊎_elim
        (λ (old : Contains (take f.next (edges f.node)) v). w.looks f (subst (λ (fs : List Frame). Contains fs f) (sym is) (Contains-head f frames)) v old (still v new))
        (λ (that : node ≡ v). seen (ap (mark_of marks) that ∙ new))
        (passed_cases v k)))
        (λ (other : Contains frames g). λ v k new. w.looks g (subst (λ (fs : List Frame). Contains fs g) (sym is) (Contains-tail f g frames other)) v k (still v new))
        (Contains-cons_cases on g frames h)

    -- the edge is passed, and what is owed by its frame is the same
    owed_on : (rest : List ℕ) → Contains s.order node → Owed (on ∷ frames) s.order rest → Owed (f ∷ frames) s.order rest
    owed_on rest there (also {inner = inner} {rest = more} v o) =
        also (subst (λ (xs : List ℕ). Visited edges s.order xs inner) (sym (drop_more (edges f.node) f.next node next ∙ ap (λ (x : ℕ). x ∷ drop (f.next + 1) (edges f.node)) e)) (came there v)) o

    stack_now : IsStack (f.node ∷ nodes_of frames)
    stack_now = subst IsStack nodes_same w.stack

    -- an open node leads to the frame's
    back : (v : ℕ) → Contains (f.node ∷ nodes_of frames) v → (f.node ≡ v) ⊎ Path edges v f.node
    back v h = ⊎_elim (λ (e : f.node ≡ v). inl e) (λ (k : Contains (nodes_of frames) v). inr (leads stack_now v k)) (Contains-cons_cases f.node v (nodes_of frames) h)
      where
        leads : {top : ℕ} {nodes : List ℕ} → IsStack (top ∷ nodes) → (v : ℕ) → Contains nodes v → Path edges v top
        leads (above apart paths rest) = paths

    -- to the next node it leads too
    back_on : (v : ℕ) → Contains (f.node ∷ nodes_of frames) v → Path edges v node
    back_on v h = ⊎_elim (λ (e : f.node ≡ v). subst (λ (x : ℕ). Path edges x node) e (last edge)) (λ (p : Path edges v f.node). path_push edges p edge) (back v h)

    in_stack : (v : ℕ) → Contains (nodes_of s.frames) v → Contains (f.node ∷ nodes_of frames) v
    in_stack v h = subst (λ (xs : List ℕ). Contains xs v) nodes_same h

    of_stack : (v : ℕ) → Contains (f.node ∷ nodes_of frames) v → Contains (nodes_of s.frames) v
    of_stack v h = subst (λ (xs : List ℕ). Contains xs v) (sym nodes_same) h

    abbrev fresh : Frame
    fresh = record { node = node; next = 0 }

    abbrev above_new : List Mark
    above_new = set s.marks node Open

    entering : mark_of s.marks node ≡ New → node < count → IsWalking root count (entered node (record s { frames = on ∷ frames }))
    entering new small = record {
      size = length-set s.marks node Open ∙ w.size;
      done = λ v h. ⊎_elim
          (λ (k : (v ≡ node) × (mark_of above_new v ≡ Open)). absurd (let e : Open ≡ Done = sym k.1 ∙ h in cc))
          (λ (k : (v ≢ node) × (mark_of above_new v ≡ mark_of s.marks v)). w.done v (sym k.1 ∙ h))
          (cases v);
      gone = λ v h. ⊎_elim
          (λ (k : (v ≡ node) × (mark_of above_new v ≡ Open)). absurd (let e : New ≡ Done = sym new ∙ (ap (mark_of s.marks) (sym k.0) ∙ w.gone v h) in cc))
          (λ (k : (v ≢ node) × (mark_of above_new v ≡ mark_of s.marks v)). k.1 ∙ w.gone v h)
          (cases v);
      open' = λ v h. ⊎_elim
          (λ (k : (v ≡ node) × (mark_of above_new v ≡ Open)). subst (λ (x : ℕ). Contains (node ∷ f.node ∷ nodes_of frames) x) (sym k.0) (Contains-head node (f.node ∷ nodes_of frames)))
          (λ (k : (v ≢ node) × (mark_of above_new v ≡ mark_of s.marks v)). Contains-tail node v (f.node ∷ nodes_of frames) (in_stack v (w.open' v (sym k.1 ∙ h))))
          (cases v);
      here = λ v h. ⊎_elim
          (λ (k : (v ≡ node) × (mark_of above_new v ≡ Open)). k.1)
          (λ (k : (v ≢ node) × (mark_of above_new v ≡ mark_of s.marks v)). ⊎_elim
          (λ (same : node ≡ v). absurd (k.0 (sym same)))
          (λ (other : Contains (f.node ∷ nodes_of frames) v). k.1 ∙ w.here v (of_stack v other))
          (Contains-cons_cases node v (f.node ∷ nodes_of frames) h))
          (cases v);
      stack = above (λ h. let e : New ≡ Open = sym new ∙ w.here node (of_stack node h) in absurd (cc)) back_on stack_now;
      looks = λ g h. ⊎_elim
          (λ (same : fresh ≡ g). subst (HasLooked above_new) same (λ v k _. Contains-nil v k))
          (λ (other : Contains (on ∷ frames) g). looks_on above_new still (λ k. let e : Open ≡ New = sym (get_or-set_same s.marks node Open New (omega (arith, w.size))) ∙ k in absurd (cc)) g other)
          (Contains-cons_cases fresh g (on ∷ frames) h);
      once = w.once;
      spans = λ i from to h k. ⊎_elim
          (λ (r : Reaches s.order i to). inl r)
          (λ (a : Awaits s.order (nodes_of s.frames) i to). inr (Contains-tail node to (f.node ∷ nodes_of frames) (in_stack to a.0), a.1))
          (w.spans i from to h k);
      straight = λ is_straight rest o. w.straight is_straight rest (subst (λ (fs : List Frame). Owed fs s.order rest) (sym is) (owed_in rest o));
      around = w.around;
      reached = λ h. w.reached (still root h);
    }
      where
        cases : (v : ℕ) → ((v ≡ node) × (mark_of above_new v ≡ Open)) ⊎ ((v ≢ node) × (mark_of above_new v ≡ mark_of s.marks v))
        cases v = marked s.marks node Open v (omega (arith, w.size))

        still : (v : ℕ) → mark_of above_new v ≡ New → mark_of s.marks v ≡ New
        still v h = ⊎_elim
            (λ (k : (v ≡ node) × (mark_of above_new v ≡ Open)). absurd (let e : Open ≡ New = sym k.1 ∙ h in cc))
            (λ (k : (v ≢ node) × (mark_of above_new v ≡ mark_of s.marks v)). sym k.1 ∙ h)
            (cases v)

        owed_in : (rest : List ℕ) → Owed (fresh ∷ on ∷ frames) s.order rest → Owed (f ∷ frames) s.order rest
        owed_in rest (also {inner = inside} v (also {inner = inner} {rest = more} v' o)) =
            let new' : Contains s.order node → ⊥ = λ h. let e : New ≡ Done = sym new ∙ w.gone node h in absurd (cc) in
            let v2 : Visited edges s.order (node ∷ drop (f.next + 1) (edges f.node)) (inside ++ node ∷ inner) = comes new' v v' in
            let v3 = subst (λ (xs : List ℕ). Visited edges s.order xs (inside ++ node ∷ inner)) (sym (drop_more (edges f.node) f.next node next ∙ ap (λ (x : ℕ). x ∷ drop (f.next + 1) (edges f.node)) e)) v2 in
            let front : (s.order ++ (inside ++ node ∷ [])) ++ (inner ++ f.node ∷ []) ≡ s.order ++ ((inside ++ node ∷ inner) ++ f.node ∷ [])
            = append_assoc s.order (inside ++ node ∷ []) (inner ++ f.node ∷ []) ∙ ap (λ (xs : List ℕ). s.order ++ xs) (append_assoc inside (node ∷ []) (inner ++ f.node ∷ []) ∙ sym (append_assoc inside (node ∷ inner) (f.node ∷ []))) in
            subst (λ (xs : List ℕ). Owed (f ∷ frames) s.order xs) (append_assoc inside (node ∷ inner) (f.node ∷ more)) (also v3 (subst (λ (xs : List ℕ). Owed frames xs more) front o))

    -- what passes an edge to a node that is not new keeps all but the frame
    abbrev Passing : Bool → State
    Passing circular = record { marks = s.marks; frames = on ∷ frames; order = s.order; circular = circular }

    passing : (circular : Bool) → (mark_of s.marks node ≡ New → ⊥)
        → (circular ≡ false → (rest : List ℕ) → Owed (on ∷ frames) s.order rest → Visited edges [] (root ∷ []) (s.order ++ rest))
        → (circular ≡ true → (v : ℕ) × Path edges v v) → IsWalking root count (Passing circular)
    passing circular seen straight around = record {
      size = w.size;
      done = w.done;
      gone = w.gone;
      open' = λ v h. in_stack v (w.open' v h);
      here = λ v h. w.here v (of_stack v h);
      stack = stack_now;
      looks = looks_on s.marks (λ v h. h) seen;
      once = w.once;
      spans = λ i from to h k. ⊎_elim
          (λ (r : Reaches s.order i to). inl r)
          (λ (a : Awaits s.order (nodes_of s.frames) i to). inr (in_stack to a.0, a.1))
          (w.spans i from to h k);
      straight = straight;
      around = around;
      reached = w.reached;
    }

    pub stepped_on : node < count → IsWalking root count (passed f node (record s { frames = frames }))
    stepped_on small = by_mark (mark_of s.marks node) refl
      where
        by_mark : (m : Mark) → mark_of s.marks node ≡ m → IsWalking root count (looked m node (record s { frames = on ∷ frames }))
        by_mark New e = entering e small
        by_mark Open e = passing true (λ new. let k : New ≡ Open = sym new ∙ e in absurd (cc)) (λ no rest o. absurd (cc)) (λ _. (node, back_on node (in_stack node (w.open' node e))))
        by_mark Done e = passing s.circular (λ new. let k : New ≡ Done = sym new ∙ e in absurd (cc))
            (λ is_straight rest o. w.straight is_straight rest (subst (λ (fs : List Frame). Owed fs s.order rest) (sym is) (owed_on rest (w.done node e) o)))
            w.around

  -- Leaving the node of a frame whose edges are all passed.
  module _ (root count : ℕ) (s : State) (f : Frame) (frames : List Frame) (is : s.frames ≡ f ∷ frames) (w : IsWalking root count s) (over : length (edges f.node) ≤ f.next) where
    abbrev done_now : List Mark
    done_now = set s.marks f.node Done

    abbrev order_now : List ℕ
    order_now = s.order ++ f.node ∷ []

    in_rest : (v : ℕ) → Contains (nodes_of s.frames) v → (f.node ≡ v) ⊎ Contains (nodes_of frames) v
    in_rest v h = Contains-cons_cases f.node v (nodes_of frames) (subst (λ (xs : List ℕ). Contains xs v) (ap nodes_of is) h)

    of_rest : (v : ℕ) → Contains (nodes_of frames) v → Contains (nodes_of s.frames) v
    of_rest v h = subst (λ (xs : List ℕ). Contains xs v) (sym (ap nodes_of is)) (Contains-tail f.node v (nodes_of frames) h)

    is_open : mark_of s.marks f.node ≡ Open
    is_open = w.here f.node (subst (λ (xs : List ℕ). Contains xs f.node) (sym (ap nodes_of is)) (Contains-head f.node (nodes_of frames)))

    not_left : Contains s.order f.node → ⊥
    not_left h = let e : Open ≡ Done = sym is_open ∙ w.gone f.node h in absurd (cc)

    taken_apart : IsStack (f.node ∷ nodes_of frames) → (Contains (nodes_of frames) f.node → ⊥) × ((v : ℕ) → Contains (nodes_of frames) v → Path edges v f.node) × IsStack (nodes_of frames)
    taken_apart (above apart paths rest) = (apart, paths, rest)

    parts : (Contains (nodes_of frames) f.node → ⊥) × ((v : ℕ) → Contains (nodes_of frames) v → Path edges v f.node) × IsStack (nodes_of frames)
    parts = taken_apart (subst IsStack (ap nodes_of is) w.stack)

    small : f.node < length s.marks
    small = within s.marks f.node (λ h. let e : New ≡ Open = sym h ∙ is_open in absurd (cc))

    done_cases : (v : ℕ) → ((v ≡ f.node) × (mark_of done_now v ≡ Done)) ⊎ ((v ≢ f.node) × (mark_of done_now v ≡ mark_of s.marks v))
    done_cases v = marked s.marks f.node Done v small

    still_new : (v : ℕ) → mark_of done_now v ≡ New → mark_of s.marks v ≡ New
    still_new v h = ⊎_elim
        (λ (k : (v ≡ f.node) × (mark_of done_now v ≡ Done)). absurd (let e : Done ≡ New = sym k.1 ∙ h in cc))
        (λ (k : (v ≢ f.node) × (mark_of done_now v ≡ mark_of s.marks v)). sym k.1 ∙ h)
        (done_cases v)

    -- a node after a place of the new order
    node_at : (k node : ℕ) → At order_now k node → At s.order k node ⊎ ((k ≡ length s.order) × (f.node ≡ node))
    node_at k node h = At-push_cases s.order f.node k node h

    last_at : (k node : ℕ) → length s.order ≤ k → At order_now k node → f.node ≡ node
    last_at k node le h = ⊎_elim
        (λ (old : At s.order k node). absurd (omega (arith, At_within s.order k node old)))
        (λ (new : (k ≡ length s.order) × (f.node ≡ node)). new.1)
        (node_at k node h)

    -- an edge of a node that was left before
    edge_before : (i from to : ℕ) → At s.order i from → Contains (edges from) to → Reaches s.order i to ⊎ Awaits s.order (nodes_of s.frames) i to → Reaches order_now i to ⊎ Awaits order_now (nodes_of frames) i to
    edge_before i from to at e = ⊎_elim
        (λ (r : Reaches s.order i to). inl (
          r.0,
          At-append s.order (f.node ∷ []) r.0 to r.1,
          λ k node le up h. ⊎_elim
              (λ (old : At s.order k node). r.2 k node le up old)
              (λ (new : (k ≡ length s.order) × (f.node ≡ node)). absurd (omega (arith, At_within s.order r.0 to r.1, new.0)))
              (node_at k node h),
        ))
        (λ (a : Awaits s.order (nodes_of s.frames) i to).
        let round : Path edges to to = path_push edges (a.1 i from (omega arith) at) e in
        ⊎_elim
        (λ (that : f.node ≡ to). inl (
          length s.order,
          subst (At order_now (length s.order)) that (At-last s.order f.node),
          λ k node le up h. ⊎_elim
              (λ (old : At s.order k node). a.1 k node le old)
              (λ (new : (k ≡ length s.order) × (f.node ≡ node)). subst (Path edges to) (sym that ∙ new.1) round)
              (node_at k node h),
        ))
        (λ (other : Contains (nodes_of frames) to). inr (
          other,
          λ k node le h. ⊎_elim
              (λ (old : At s.order k node). a.1 k node le old)
              (λ (new : (k ≡ length s.order) × (f.node ≡ node)). subst (Path edges to) new.1 (parts.1 to other))
              (node_at k node h),
        ))
        (in_rest to a.0))

    -- an edge of the node that is left now
    edge_now : (to : ℕ) → Contains (edges f.node) to → (m : Mark) → mark_of s.marks to ≡ m → Reaches order_now (length s.order) to ⊎ Awaits order_now (nodes_of frames) (length s.order) to
    edge_now to e New is_new = absurd (w.looks f (subst (λ (fs : List Frame). Contains fs f) (sym is) (Contains-head f frames)) to
        (subst (λ (xs : List ℕ). Contains xs to) (sym (take_all f.next (edges f.node) over)) e) is_new)
    edge_now to e Open is_open' = ⊎_elim
        (λ (that : f.node ≡ to). inl (
          length s.order,
          subst (At order_now (length s.order)) that (At-last s.order f.node),
          λ k node le up h.
              subst (Path edges to) (last_at k node le h) (subst (λ (x : ℕ). Path edges x f.node) that (last (subst (Contains (edges f.node)) (sym that) e))),
        ))
        (λ (other : Contains (nodes_of frames) to). inr (other, λ k node le h. subst (Path edges to) (last_at k node le h) (parts.1 to other)))
        (in_rest to (w.open' to is_open'))
    edge_now to e Done is_done =
        let place = At_from_Contains s.order to (w.done to is_done) in
        inl (place.0, At-append s.order (f.node ∷ []) place.0 to place.1, λ k node le up h. absurd (omega (arith, At_within s.order place.0 to place.1)))

    pub leaving : IsWalking root count (left f.node (record s { frames = frames }))
    leaving = record {
      size = length-set s.marks f.node Done ∙ w.size;
      done = λ v h. ⊎_elim
          (λ (k : (v ≡ f.node) × (mark_of done_now v ≡ Done)). subst (Contains order_now) (sym k.0) (Contains-push s.order f.node))
          (λ (k : (v ≢ f.node) × (mark_of done_now v ≡ mark_of s.marks v)). Contains-append_left s.order (f.node ∷ []) v (w.done v (sym k.1 ∙ h)))
          (done_cases v);
      gone = λ v h. ⊎_elim
          (λ (k : (v ≡ f.node) × (mark_of done_now v ≡ Done)). k.1)
          (λ (k : (v ≢ f.node) × (mark_of done_now v ≡ mark_of s.marks v)). ⊎_elim
          (λ (old : Contains s.order v). k.1 ∙ w.gone v old)
          (λ (that : f.node ≡ v). absurd (k.0 (sym that)))
          (Contains-push_cases s.order f.node v h))
          (done_cases v);
      open' = λ v h. ⊎_elim
          (λ (k : (v ≡ f.node) × (mark_of done_now v ≡ Done)). absurd (let e : Done ≡ Open = sym k.1 ∙ h in cc))
          (λ (k : (v ≢ f.node) × (mark_of done_now v ≡ mark_of s.marks v)). ⊎_elim
          (λ (that : f.node ≡ v). absurd (k.0 (sym that)))
          (λ (other : Contains (nodes_of frames) v). other)
          (in_rest v (w.open' v (sym k.1 ∙ h))))
          (done_cases v);
      here = λ v h. ⊎_elim
          (λ (k : (v ≡ f.node) × (mark_of done_now v ≡ Done)). absurd (parts.0 (subst (Contains (nodes_of frames)) k.0 h)))
          (λ (k : (v ≢ f.node) × (mark_of done_now v ≡ mark_of s.marks v)). k.1 ∙ w.here v (of_rest v h))
          (done_cases v);
      stack = parts.2;
      looks = λ g h v k new. w.looks g (subst (λ (fs : List Frame). Contains fs g) (sym is) (Contains-tail f g frames h)) v k (still_new v new);
      once = once_push s.order f.node w.once not_left;
      spans = λ i from to h e. ⊎_elim
          (λ (old : At s.order i from). edge_before i from to old e (w.spans i from to old e))
          (λ (new : (i ≡ length s.order) × (f.node ≡ from)). subst (λ (j : ℕ). Reaches order_now j to ⊎ Awaits order_now (nodes_of frames) j to) (sym new.0)
          (edge_now to (subst (λ (x : ℕ). Contains (edges x) to) (sym new.1) e) (mark_of s.marks to) refl))
          (node_at i from h);
      straight = λ is_straight rest o. subst (Visited edges [] (root ∷ [])) (sym (append_assoc s.order (f.node ∷ []) rest))
          (w.straight is_straight (f.node ∷ rest) (subst (λ (fs : List Frame). Owed fs s.order (f.node ∷ rest)) (sym is)
          (also (subst (λ (xs : List ℕ). Visited edges s.order xs []) (sym (drop_all f.next (edges f.node) over)) ends) o)));
      around = w.around;
      reached = λ h. w.reached (still_new root h);
    }

  -- a walk that has begun
  pub beginning : (root count : ℕ) → root < count → IsWalking root count (begun count root)
  beginning root count lt = record {
    size = length-set (replicate count New) root Open ∙ length-replicate count New;
    done = λ v h. ⊎_elim
        (λ (k : (v ≡ root) × (mark_of marks v ≡ Open)). absurd (let e : Open ≡ Done = sym k.1 ∙ h in cc))
        (λ (k : (v ≢ root) × (mark_of marks v ≡ mark_of (replicate count New) v)). absurd (let e : New ≡ Done = sym (fresh_mark v) ∙ (sym k.1 ∙ h) in cc))
        (cases v);
    gone = λ v h. absurd (Contains-nil v h);
    open' = λ v h. ⊎_elim
        (λ (k : (v ≡ root) × (mark_of marks v ≡ Open)). subst (Contains (root ∷ [])) (sym k.0) (Contains-head root []))
        (λ (k : (v ≢ root) × (mark_of marks v ≡ mark_of (replicate count New) v)). absurd (let e : New ≡ Open = sym (fresh_mark v) ∙ (sym k.1 ∙ h) in cc))
        (cases v);
    here = λ v h. ⊎_elim
        (λ (that : root ≡ v). subst (λ (x : ℕ). mark_of marks x ≡ Open) that (get_or-set_same (replicate count New) root Open New (omega (arith, length-replicate count New))))
        (λ (none : Contains [] v). absurd (Contains-nil v none))
        (Contains-cons_cases root v [] h);
    stack = above (λ h. Contains-nil root h) (λ v h. absurd (Contains-nil v h)) bottom;
    looks = λ g h. ⊎_elim
        (λ (same : first ≡ g). subst (HasLooked marks) same (λ v k _. Contains-nil v k))
        (λ (none : Contains [] g). absurd (Contains-nil g none))
        (Contains-cons_cases first g [] h);
    once = once_nil;
    spans = λ i from to h. absurd (omega (arith, At_within [] i from h));
    straight = λ _ rest o. begins rest o;
    around = λ no. absurd (cc);
    reached = λ h. let e : Open ≡ New = sym (get_or-set_same (replicate count New) root Open New (omega (arith, length-replicate count New))) ∙ h in absurd (cc);
  }
    where
      marks : List Mark
      marks = set (replicate count New) root Open

      first : Frame
      first = record { node = root; next = 0 }

      fresh_mark : (v : ℕ) → mark_of (replicate count New) v ≡ New
      fresh_mark v = ⊎_elim
          (λ (k : v < count). get_or-replicate count v New New k)
          (λ (k : count ≤ v). get_or_past (replicate count New) v New (omega (arith, length-replicate count New)))
          (cases_lt v count)

      cases : (v : ℕ) → ((v ≡ root) × (mark_of marks v ≡ Open)) ⊎ ((v ≢ root) × (mark_of marks v ≡ mark_of (replicate count New) v))
      cases v = marked (replicate count New) root Open v (omega (arith, length-replicate count New))

      begins : (rest : List ℕ) → Owed (first ∷ []) [] rest → Visited edges [] (root ∷ []) ([] ++ rest)
      begins rest (also v nothing) = comes (λ h. Contains-nil root h) v ends

  -- a walk that is over
  pub ending : (root count : ℕ) (s : State) → s.frames ≡ [] → IsWalking root count s → IsWalk edges root count s.order s.circular
  ending root count s is w = record {
    within = λ v h. let e = w.gone v h in omega (arith, w.size, within s.marks v (λ g. let no : New ≡ Done = sym g ∙ e in absurd (cc)));
    once = w.once;
    reached = by_mark (mark_of s.marks root) refl;
    spans = record {
      each = λ i from to h e. ⊎_elim
          (λ (r : Reaches s.order i to). r)
          (λ (a : Awaits s.order (nodes_of s.frames) i to). absurd (no_frame to a.0))
          (w.spans i from to h e);
    };
    straight = λ is_straight. subst (Visited edges [] (root ∷ [])) (append-nil s.order) (w.straight is_straight [] (subst (λ (fs : List Frame). Owed fs s.order []) (sym is) nothing));
    around = w.around;
  }
    where
      no_frame : (v : ℕ) → Contains (nodes_of s.frames) v → ⊥
      no_frame v h = Contains-nil v (subst (λ (xs : List ℕ). Contains xs v) (ap nodes_of is) h)

      by_mark : (m : Mark) → mark_of s.marks root ≡ m → Contains s.order root
      by_mark New e = absurd (w.reached e)
      by_mark Open e = absurd (no_frame root (w.open' root e))
      by_mark Done e = w.done root e

  -- the node of the first frame is open, and so among those that are marked
  pub frame_open : (root count : ℕ) (s : State) (f : Frame) (frames : List Frame) → s.frames ≡ f ∷ frames → IsWalking root count s → mark_of s.marks f.node ≡ Open
  frame_open root count s f frames is w = w.here f.node (subst (λ (xs : List ℕ). Contains xs f.node) (sym (ap nodes_of is)) (Contains-head f.node (nodes_of frames)))

  pub frame_within : (root count : ℕ) (s : State) (f : Frame) (frames : List Frame) → s.frames ≡ f ∷ frames → IsWalking root count s → f.node < count
  frame_within root count s f frames is w =
      let open_now = frame_open root count s f frames is w in
      omega (arith, w.size, within s.marks f.node (λ h. let e : New ≡ Open = sym h ∙ open_now in absurd (cc)))

-- where a list has an item at a place, and where it has none
pub place_within : (xs : List ℕ) (i x : ℕ) → slice_get xs i ≡ Some x → (i < length xs) × (get_or xs i x ≡ x)
place_within xs i x h = (slice_get_within xs i x h, get_or_from_slice_get xs i x x h)

pub place_past : (xs : List ℕ) (i : ℕ) → slice_get xs i ≡ None → length xs ≤ i
place_past xs i h = ⊎_elim
    (λ (k : i < length xs). let e : None ≡ Some (get_or xs i 0) = sym h ∙ slice_get-get_or xs i 0 k in absurd (cc))
    (λ (k : length xs ≤ i). k)
    (cases_lt i (length xs))

-- each step keeps it
pub stepping : (lists : List (List ℕ)) (root count : ℕ) (s : State) (f : Frame) (frames : List Frame) → AreInside count lists → s.frames ≡ f ∷ frames → IsWalking (ends_in lists) root count s
    → IsWalking (ends_in lists) root count (stepped (ends_in lists) f (record s { frames = frames }))
stepping lists root count s f frames inside is w = by_end (slice_get (ends_in lists f.node) f.next) refl
  where
    by_end : (o : Option ℕ) → slice_get (ends_in lists f.node) f.next ≡ o → IsWalking (ends_in lists) root count (gone_on f o (record s { frames = frames }))
    by_end (Some node) e =
        let at = place_within (ends_in lists f.node) f.next node e in
        stepped_on (ends_in lists) root count s f frames node is w at.0 at.1 (inside f.node node (f.next, at.0, at.1))
    by_end None e = leaving (ends_in lists) root count s f frames is w (place_past (ends_in lists f.node) f.next e)
