-- A text and a front of it are read side by side: they are judged alike up to the last line of the front, where the front
-- is truncated and the text goes on.
use Rattle.std.proofs.Common.{◌≡◌, ◌≢◌, ℕ, zero, suc, ◌+◌, ◌<◌, ◌≤◌, Bool, true, false, cond, List, [], ◌∷◌, ◌++◌, length, Option, Result, Ok, Err, refl, sym, ap, ◌∙◌, subst, arith, codes}
use Rattle.hz_pipeline_model.specs.Tables.Machines.{Part, Machine}
use Rattle.hz_tabtext_model.specs.Judging.{Kind, truncated, trailing, Fault, ◌>>=◌}
use Rattle.hz_tabtext_model.specs.Fields.{is_nil, fields_of, is_headed}
use Rattle.hz_tabtext_model.specs.Lines.{Nothing, header_in, treatment_in, classes_in, class_in, automata_in, Head, head_in, map_in, counts_in, row_in, origin_in, grid_in, end_in, asks_in}
use Rattle.hz_tabtext_model.specs.Reading.{Rest, at_line, judged, first_by, line_by, so_many, classes_at, comes, counts_at, grids_from, shown_at, row_at, part_at, is_over, machine_at, next_row, more_asks, asks_at}
use Rattle.hz_tabtext_model.specs.Faults.{truncated_at, trailing_at}
use Rattle.hz_tabtext_model.proofs.FineLines.{IsOfLine, Fine, header_fine, treatment_fine, classes_fine, class_fine, automata_fine, head_fine, map_fine, counts_fine, row_fine, origin_fine, grid_fine, end_fine, asks_fine}

-- what is left of a text
abbrev pub rest_at : ℕ → List (List ℕ) → Rest
rest_at number lines = record { number = number; lines = lines }

goes_on : (kind : Kind) → IsOfLine kind → kind ≢ trailing
goes_on kind h e = subst IsOfLine e h

not_cut : (kind : Kind) → IsOfLine kind → kind ≢ truncated
not_cut kind h e = subst IsOfLine e h

cut_goes_on : truncated ≢ trailing
cut_goes_on e = absurd (cc)

some_after : (lines more : List (List ℕ)) → is_nil more ≡ false → is_nil (lines ++ more) ≡ false
some_after [] more some = some
some_after (line ∷ lines) more some = refl

-- what was read of a line, with others left
abbrev pub left_after : {A : Type 0} → ℕ → List (List ℕ) → A → Result (A × Rest) Fault
left_after number others x = Ok (x, rest_at number others)

-- nothing is kept of what was read
abbrev dropped : Rest → Result (Nothing × Rest) Fault
dropped after = Ok (tt, after)

abbrev pub read_part : Head → List ℕ → List (List ℕ) → List (List (Option ℕ)) → Part
read_part head map asks rows = record { name = head.name; map = map; columns = head.columns; asks = asks; rows = rows }

abbrev pub read_machine : List (List ℕ) → List Part → Machine
read_machine classes parts = record { classes = classes; parts = parts }

-- a machine, where nothing is left but the end of the last line
abbrev pub close : {B : Type 0} → B → ℕ → List (List ℕ) → Result B Fault
close m number lines = cond (is_over lines) (Ok m) (Err (trailing_at number))

-- The front ends within its last line, and the text has these lines there; the number of that line is the edge.
module _ (last : List ℕ) (more : List (List ℕ)) (some : is_nil more ≡ false) (edge : ℕ) where
  abbrev pub Late : {A : Type 0} → Result (A × Rest) Fault → Type 0
  Late (Ok y) = edge ≤ y.1.number
  Late (Err f) = (edge ≤ f.line) × (f.kind ≢ trailing)

  abbrev pub Stuck : {A : Type 0} → Result (A × Rest) Fault → Type 0
  Stuck (Ok y) = y.1 ≡ rest_at edge (last ∷ [])
  Stuck (Err f) = f ≡ truncated_at edge

  -- what was read of the text, and of the front
  pub data Both {A : Type 0} : Result (A × Rest) Fault → Result (A × Rest) Fault → Type 0 where
    same : (x : A) (number : ℕ) (lines : List (List ℕ)) → number + length lines ≡ edge → Both (Ok (x, rest_at number (lines ++ more))) (Ok (x, rest_at number (lines ++ last ∷ [])))
    wrong : (f : Fault) → f.line < edge → f.kind ≢ truncated → Both (Err f) (Err f)
    past : (r s : Result (A × Rest) Fault) → Late r → Stuck s → Both r s

  pub record Reads {A : Type 0} (read : Rest → Result (A × Rest) Fault) : Type 0 where
    pub late : (rest : Rest) → edge ≤ rest.number → Late (read rest)
    pub stuck : Stuck (read (rest_at edge (last ∷ [])))
    pub along : (number : ℕ) (lines : List (List ℕ)) → number + length lines ≡ edge → Both (read (rest_at number (lines ++ more))) (read (rest_at number (lines ++ last ∷ [])))

  at_edge : {A : Type 0} (read : Rest → Result (A × Rest) Fault) → ((rest : Rest) → edge ≤ rest.number → Late (read rest)) → Stuck (read (rest_at edge (last ∷ [])))
      → (number : ℕ) → edge ≡ number → Both (read (rest_at number more)) (read (rest_at number (last ∷ [])))
  at_edge read late stuck number is = subst (λ (n : ℕ). Both (read (rest_at n more)) (read (rest_at n (last ∷ [])))) is (past (read (rest_at edge more)) (read (rest_at edge (last ∷ []))) (late (rest_at edge more) (omega arith)) stuck)

  -- ---- a line

  line_late : {A : Type 0} (number : ℕ) (others : List (List ℕ)) (b : Bool) (r : Result A Kind) → Fine IsOfLine r → edge ≤ number → Late (at_line number (cond b (Err truncated) r) >>= left_after (number + 1) others)
  line_late number others true r fine h = (h, cut_goes_on)
  line_late number others false (Ok x) fine h = omega arith
  line_late number others false (Err kind) fine h = (h, goes_on kind fine)

  first_late : {A : Type 0} (judge : List ℕ → Result A Kind) → ((line : List ℕ) → Fine IsOfLine (judge line)) → (number : ℕ) (lines : List (List ℕ)) → edge ≤ number → Late (first_by judge number lines)
  first_late judge fine number [] h = (h, cut_goes_on)
  first_late judge fine number (line ∷ others) h = line_late number others (is_nil others) (judge line) (fine line) h

  line_both : {A : Type 0} (number : ℕ) (lines : List (List ℕ)) (b c : Bool) (r : Result A Kind) → b ≡ false → c ≡ false → Fine IsOfLine r → number + (1 + length lines) ≡ edge
      → Both (at_line number (cond b (Err truncated) r) >>= left_after (number + 1) (lines ++ more)) (at_line number (cond c (Err truncated) r) >>= left_after (number + 1) (lines ++ last ∷ []))
  line_both number lines true c r p q fine is = absurd (cc)
  line_both number lines false true r p q fine is = absurd (cc)
  line_both number lines false false (Ok x) p q fine is = same x (number + 1) lines (omega (arith, is))
  line_both number lines false false (Err kind) p q fine is = wrong (record { kind = kind; line = number }) (omega (arith, is)) (not_cut kind fine)

  line_along : {A : Type 0} (judge : List ℕ → Result A Kind) → ((line : List ℕ) → Fine IsOfLine (judge line)) → (number : ℕ) (lines : List (List ℕ)) → number + length lines ≡ edge
      → Both (line_by judge (rest_at number (lines ++ more))) (line_by judge (rest_at number (lines ++ last ∷ [])))
  line_along judge fine number [] is = at_edge (line_by judge) (λ rest h. first_late judge fine rest.number rest.lines h) refl number (omega (arith, is))
  line_along judge fine number (line ∷ lines) is = line_both number lines (is_nil (lines ++ more)) (is_nil (lines ++ last ∷ [])) (judge line) (some_after lines more some) (some_after lines (last ∷ []) refl) (fine line) (omega (arith, is))

  reads_line : {A : Type 0} (judge : List ℕ → Result A Kind) → ((line : List ℕ) → Fine IsOfLine (judge line)) → Reads (line_by judge)
  reads_line judge fine = record { late = λ rest h. first_late judge fine rest.number rest.lines h; stuck = refl; along = line_along judge fine }

  -- ---- one after another

  reads_done : {A : Type 0} (x : A) → Reads (λ rest. Ok (x, rest))
  reads_done x = record { late = λ rest h. h; stuck = refl; along = λ number lines is. same x number lines is }

  module _ {A : Type 0} {B : Type 0} (f : A → Rest → Result (B × Rest) Fault) (later : (x : A) → Reads (f x)) where
    late_then : (r : Result (A × Rest) Fault) → Late r → Late (r >>= λ y. f y.0 y.1)
    late_then (Ok y) h = (later y.0).late y.1 h
    late_then (Err e) h = h

    stuck_then : (r : Result (A × Rest) Fault) → Stuck r → Stuck (r >>= λ y. f y.0 y.1)
    stuck_then (Ok y) h = subst (λ (rest : Rest). Stuck (f y.0 rest)) (sym h) (later y.0).stuck
    stuck_then (Err e) h = h

    both_then : (r s : Result (A × Rest) Fault) → Both r s → Both (r >>= λ y. f y.0 y.1) (s >>= λ y. f y.0 y.1)
    both_then r s (same x number lines is) = (later x).along number lines is
    both_then r s (wrong e lt kind) = wrong e lt kind
    both_then r s (past _ _ h k) = past (r >>= λ y. f y.0 y.1) (s >>= λ y. f y.0 y.1) (late_then r h) (stuck_then s k)

    reads_then : (read : Rest → Result (A × Rest) Fault) → Reads read → Reads (λ rest. read rest >>= λ y. f y.0 y.1)
    reads_then read h = record {
      late = λ rest l. late_then (read rest) (h.late rest l);
      stuck = stuck_then (read (rest_at edge (last ∷ []))) h.stuck;
      along = λ number lines is. both_then (read (rest_at number (lines ++ more))) (read (rest_at number (lines ++ last ∷ []))) (h.along number lines is);
    }

  reads_same : {A : Type 0} (f g : Rest → Result (A × Rest) Fault) → ((rest : Rest) → f rest ≡ g rest) → Reads f → Reads g
  reads_same f g is h = record {
    late = λ rest l. subst Late (is rest) (h.late rest l);
    stuck = subst Stuck (is (rest_at edge (last ∷ []))) h.stuck;
    along = λ number lines e. subst (λ r. Both r (g (rest_at number (lines ++ last ∷ [])))) (is (rest_at number (lines ++ more))) (subst (λ r. Both (f (rest_at number (lines ++ more))) r) (is (rest_at number (lines ++ last ∷ []))) (h.along number lines e));
  }

  reads_many : {S A : Type 0} (next : S → A → S) (read : S → Rest → Result (A × Rest) Fault) → ((known : S) → Reads (read known)) → (n : ℕ) (known : S) → Reads (so_many next read n known)
  unfolding so_many
  reads_many next read h zero known = reads_done []
  reads_many next read h (suc n) known =
      reads_then (λ x rest. so_many next read n (next known x) rest >>= λ others. Ok (x ∷ others.0, others.1)) (λ x. reads_then (λ xs rest. Ok (x ∷ xs, rest)) (λ xs. reads_done (x ∷ xs)) (so_many next read n (next known x)) (reads_many next read h n (next known x))) (read known) (h known)

  -- ---- lines that may come

  cond_late : {A : Type 0} (b : Bool) (r s : Result (A × Rest) Fault) → Late r → Late s → Late (cond b r s)
  cond_late true r s h k = h
  cond_late false r s h k = k

  cond_stuck : {A : Type 0} (b : Bool) (r s : Result (A × Rest) Fault) → Stuck r → Stuck s → Stuck (cond b r s)
  cond_stuck true r s h k = h
  cond_stuck false r s h k = k

  cond_both : {A : Type 0} (b : Bool) (r s t u : Result (A × Rest) Fault) → Both r t → Both s u → Both (cond b r s) (cond b t u)
  cond_both true r s t u h k = h
  cond_both false r s t u h k = k

  module _ {A : Type 0} (word : List ℕ) (read other : Rest → Result (A × Rest) Fault) (h : Reads read) (k : Reads other) where
    abbrev where_it_comes : Rest → Result (A × Rest) Fault
    where_it_comes rest = cond (comes word rest) (read rest) (other rest)

    where_late : (rest : Rest) → edge ≤ rest.number → Late (where_it_comes rest)
    where_late rest l = cond_late (comes word rest) (read rest) (other rest) (h.late rest l) (k.late rest l)

    where_stuck : Stuck (where_it_comes (rest_at edge (last ∷ [])))
    where_stuck = cond_stuck (comes word (rest_at edge (last ∷ []))) (read (rest_at edge (last ∷ []))) (other (rest_at edge (last ∷ []))) h.stuck k.stuck

    where_along : (number : ℕ) (lines : List (List ℕ)) → number + length lines ≡ edge → Both (where_it_comes (rest_at number (lines ++ more))) (where_it_comes (rest_at number (lines ++ last ∷ [])))
    where_along number [] is = at_edge where_it_comes where_late where_stuck number (omega (arith, is))
    where_along number (line ∷ lines) is =
        let text = rest_at number (line ∷ (lines ++ more)) in
        let front = rest_at number (line ∷ (lines ++ last ∷ [])) in
        cond_both (is_headed word (fields_of line)) (read text) (other text) (read front) (other front) (h.along number (line ∷ lines) is) (k.along number (line ∷ lines) is)

    reads_where : Reads where_it_comes
    reads_where = record { late = where_late; stuck = where_stuck; along = where_along }

  -- lines that are dropped
  abbrev held : (Rest → Result Rest Fault) → Rest → Result (Nothing × Rest) Fault
  held read rest = read rest >>= dropped

  held_then : {B : Type 0} (r : Result Rest Fault) (f : Rest → Result B Fault) → ((r >>= dropped) >>= λ (y : Nothing × Rest). f y.1) ≡ (r >>= f)
  held_then (Ok after) f = refl
  held_then (Err e) f = refl

  reads_held : {B : Type 0} (read : Rest → Result Rest Fault) (f : Rest → Result (B × Rest) Fault) → Reads (held read) → Reads f → Reads (λ rest. read rest >>= f)
  reads_held read f h k = reads_same (λ rest. held read rest >>= λ y. f y.1) (λ rest. read rest >>= f) (λ rest. held_then (read rest) f) (reads_then (λ x rest. f rest) (λ x. k) (held read) h)

  counts_held : Reads (held counts_at)
  unfolding counts_at
  counts_held = reads_same (λ rest. cond (comes (codes "stats") rest) (line_by counts_in rest) (dropped rest)) (held counts_at) (λ rest. reported rest (comes (codes "stats") rest) (line_by counts_in rest)) (reads_where (codes "stats") (line_by counts_in) dropped (reads_line counts_in (counts_fine IsOfLine tt tt tt)) (reads_done tt))
    where
      reported : (rest : Rest) (b : Bool) (r : Result (Nothing × Rest) Fault) → cond b r (dropped rest) ≡ (cond b (r >>= λ x. Ok x.1) (Ok rest) >>= dropped)
      reported rest true (Ok y) = refl
      reported rest true (Err e) = refl
      reported rest false r = refl

  -- ---- grids

  abbrev grids_held : Rest → Result (Nothing × Rest) Fault
  grids_held rest = grids_from rest.number rest.lines >>= dropped

  grid_late : (number : ℕ) (line : List ℕ) (others : List (List ℕ)) (b c : Bool) (r : Result Nothing Kind) → Fine IsOfLine r → edge ≤ number → Late (grids_from (number + 1) others >>= dropped)
      → Late (cond b (at_line number (cond c (Err truncated) r) >>= λ x. grids_from (number + 1) others) (Ok (rest_at number (line ∷ others))) >>= dropped)
  grid_late number line others true true r fine h later = (h, cut_goes_on)
  grid_late number line others true false (Ok x) fine h later = later
  grid_late number line others true false (Err kind) fine h later = (h, goes_on kind fine)
  grid_late number line others false c r fine h later = h

  grids_late : (number : ℕ) (lines : List (List ℕ)) → edge ≤ number → Late (grids_from number lines >>= dropped)
  unfolding grids_from
  grids_late number [] h = h
  grids_late number (line ∷ others) h = grid_late number line others (is_headed (codes "grid") (fields_of line)) (is_nil others) (grid_in line) (grid_fine IsOfLine tt tt tt line) h (grids_late (number + 1) others (omega arith))

  grids_stuck : Stuck (grids_held (rest_at edge (last ∷ [])))
  unfolding grids_from
  grids_stuck = by_word (is_headed (codes "grid") (fields_of last))
    where
      by_word : (b : Bool) → Stuck (cond b (judged grid_in edge last [] >>= λ x. grids_from (edge + 1) []) (Ok (rest_at edge (last ∷ []))) >>= dropped)
      by_word true = refl
      by_word false = refl

  grid_both : (number : ℕ) (line : List ℕ) (lines : List (List ℕ)) (b c d : Bool) (r : Result Nothing Kind) → c ≡ false → d ≡ false → Fine IsOfLine r → number + (1 + length lines) ≡ edge
      → Both (grids_held (rest_at (number + 1) (lines ++ more))) (grids_held (rest_at (number + 1) (lines ++ last ∷ [])))
      → Both (cond b (at_line number (cond c (Err truncated) r) >>= λ x. grids_from (number + 1) (lines ++ more)) (Ok (rest_at number (line ∷ (lines ++ more)))) >>= dropped)
      (cond b (at_line number (cond d (Err truncated) r) >>= λ x. grids_from (number + 1) (lines ++ last ∷ [])) (Ok (rest_at number (line ∷ (lines ++ last ∷ [])))) >>= dropped)
  grid_both number line lines false c d r p q fine is later = same tt number (line ∷ lines) (omega (arith, is))
  grid_both number line lines true true d r p q fine is later = absurd (cc)
  grid_both number line lines true false true r p q fine is later = absurd (cc)
  grid_both number line lines true false false (Ok x) p q fine is later = later
  grid_both number line lines true false false (Err kind) p q fine is later = wrong (record { kind = kind; line = number }) (omega (arith, is)) (not_cut kind fine)

  grids_along : (number : ℕ) (lines : List (List ℕ)) → number + length lines ≡ edge → Both (grids_held (rest_at number (lines ++ more))) (grids_held (rest_at number (lines ++ last ∷ [])))
  unfolding grids_from
  grids_along number [] is = at_edge grids_held (λ rest h. grids_late rest.number rest.lines h) grids_stuck number (omega (arith, is))
  grids_along number (line ∷ lines) is = grid_both number line lines (is_headed (codes "grid") (fields_of line)) (is_nil (lines ++ more)) (is_nil (lines ++ last ∷ [])) (grid_in line) (some_after lines more some) (some_after lines (last ∷ []) refl) (grid_fine IsOfLine tt tt tt line) (omega (arith, is)) (grids_along (number + 1) lines (omega (arith, is)))

  reads_grids : Reads grids_held
  reads_grids = record { late = λ rest h. grids_late rest.number rest.lines h; stuck = grids_stuck; along = grids_along }

  -- ---- states, automata, the whole

  shown_held : (columns states : ℕ) → Reads (held (shown_at columns states))
  unfolding shown_at
  shown_held columns states = reads_same (λ rest. cond (comes (codes "from") rest) (line_by (origin_in columns states) rest >>= λ x. grids_held x.1) (dropped rest)) (held (shown_at columns states)) (λ rest. reported rest (comes (codes "from") rest) (line_by (origin_in columns states) rest))
      (reads_where (codes "from") (λ rest. line_by (origin_in columns states) rest >>= λ x. grids_held x.1) dropped (reads_then (λ x rest. grids_held rest) (λ x. reads_grids) (line_by (origin_in columns states)) (reads_line (origin_in columns states) (origin_fine IsOfLine tt tt tt columns states))) (reads_done tt))
    where
      reported : (rest : Rest) (b : Bool) (r : Result (Nothing × Rest) Fault) → cond b (r >>= λ x. grids_held x.1) (dropped rest) ≡ (cond b (r >>= λ x. grids_from x.1.number x.1.lines) (Ok rest) >>= dropped)
      reported rest true (Ok y) = refl
      reported rest true (Err e) = refl
      reported rest false r = refl

  reads_row : (columns asks states number : ℕ) → Reads (row_at columns asks states number)
  unfolding row_at
  reads_row columns asks states number = reads_then (λ row rest. shown_at columns states rest >>= λ after. Ok (row, after)) (λ row. reads_held (shown_at columns states) (λ after. Ok (row, after)) (shown_held columns states) (reads_done row))
      (line_by (row_in columns asks states number)) (reads_line (row_in columns asks states number) (row_fine IsOfLine tt tt tt columns asks states number))

  -- the asks of an automaton, where lines of asks come
  reads_asks : (asked : Bool) (columns states : ℕ) (before : List (List ℕ)) → Reads (asks_at asked columns states before)
  unfolding asks_at
  reads_asks true columns states before = reads_line (asks_in columns states before) (asks_fine IsOfLine tt tt tt columns states before)
  reads_asks false columns states before = reads_done []

  -- the states of an automaton, after its first lines
  abbrev states_by : Head → List ℕ → List (List ℕ) → Rest → Result (Part × Rest) Fault
  states_by head map asks rest = counts_at rest >>= λ after. so_many next_row (row_at head.columns (length asks) head.states) head.states 0 after >>= λ rows. Ok (read_part head map asks rows.0, rows.1)

  reads_states : (head : Head) (map : List ℕ) (asks : List (List ℕ)) → Reads (states_by head map asks)
  reads_states head map asks = reads_held counts_at (λ after. so_many next_row (row_at head.columns (length asks) head.states) head.states 0 after >>= λ rows. Ok (read_part head map asks rows.0, rows.1)) counts_held
      (reads_then (λ rows rest. Ok (read_part head map asks rows, rest)) (λ rows. reads_done (read_part head map asks rows)) (so_many next_row (row_at head.columns (length asks) head.states) head.states 0)
      (reads_many next_row (row_at head.columns (length asks) head.states) (reads_row head.columns (length asks) head.states) head.states 0))

  reads_part : (asked : Bool) (classes : ℕ) (before : List (List ℕ)) → Reads (part_at asked classes before)
  unfolding part_at
  reads_part asked classes before =
      reads_then (λ head rest. line_by (map_in classes head.columns) rest >>= λ columns. asks_at asked head.columns head.states before columns.1 >>= λ asks. states_by head columns.0 asks.0 asks.1)
      (λ head. reads_then (λ map rest. asks_at asked head.columns head.states before rest >>= λ asks. states_by head map asks.0 asks.1)
      (λ map. reads_then (λ asks rest. states_by head map asks rest) (λ asks. reads_states head map asks) (asks_at asked head.columns head.states before) (reads_asks asked head.columns head.states before))
      (line_by (map_in classes head.columns)) (reads_line (map_in classes head.columns) (map_fine IsOfLine tt tt tt classes head.columns)))
      (line_by (head_in classes)) (reads_line (head_in classes) (head_fine IsOfLine tt tt tt classes))

  reads_classes : (n : ℕ) (before : List (List ℕ)) → Reads (classes_at n before)
  unfolding classes_at
  reads_classes zero before = reads_done before
  reads_classes (suc n) before = reads_then (λ class. classes_at n (before ++ class ∷ [])) (λ class. reads_classes n (before ++ class ∷ [])) (line_by (class_in before)) (reads_line (class_in before) (class_fine IsOfLine tt tt tt before))

  -- ---- the end

  abbrev pub LateEnd : {B : Type 0} → Result B Fault → Type 0
  LateEnd (Ok m) = Unit {0}
  LateEnd (Err f) = (edge ≤ f.line) × (f.kind ≡ trailing → edge < f.line)

  -- What came of the text, and of the front: the same fault before the edge; the front is truncated; or both are done there.
  pub data Ends {B : Type 0} : Result B Fault → Result B Fault → Type 0 where
    wrong_before : (f : Fault) → f.line < edge → f.kind ≢ truncated → Ends (Err f) (Err f)
    goes_past : (r : Result B Fault) → LateEnd r → Ends r (Err (truncated_at edge))
    done_there : (m : B) → Ends (close m edge more) (close m edge (last ∷ []))

  pub record Closes {B : Type 0} (read : Rest → Result B Fault) : Type 0 where
    pub late : (rest : Rest) → edge ≤ rest.number → LateEnd (read rest)
    pub stuck : read (rest_at edge (last ∷ [])) ≡ Err (truncated_at edge)
    pub along : (number : ℕ) (lines : List (List ℕ)) → number + length lines ≡ edge → Ends (read (rest_at number (lines ++ more))) (read (rest_at number (lines ++ last ∷ [])))

  module _ {A : Type 0} {B : Type 0} (f : A → Rest → Result B Fault) (later : (x : A) → Closes (f x)) where
    late_end : (r : Result (A × Rest) Fault) → Late r → LateEnd (r >>= λ y. f y.0 y.1)
    late_end (Ok y) h = (later y.0).late y.1 h
    late_end (Err e) h = (h.0, λ is. absurd (h.1 is))

    stuck_end : (r : Result (A × Rest) Fault) → Stuck r → (r >>= λ y. f y.0 y.1) ≡ Err (truncated_at edge)
    stuck_end (Ok y) h = ap (f y.0) h ∙ (later y.0).stuck
    stuck_end (Err e) h = ap Err h

    ends_then : (r s : Result (A × Rest) Fault) → Both r s → Ends (r >>= λ y. f y.0 y.1) (s >>= λ y. f y.0 y.1)
    ends_then r s (same x number lines is) = (later x).along number lines is
    ends_then r s (wrong e lt kind) = wrong_before e lt kind
    ends_then r s (past _ _ h k) = subst (λ (z : Result B Fault). Ends (r >>= λ y. f y.0 y.1) z) (sym (stuck_end s k)) (goes_past (r >>= λ y. f y.0 y.1) (late_end r h))

    closes_then : (read : Rest → Result (A × Rest) Fault) → Reads read → Closes (λ rest. read rest >>= λ y. f y.0 y.1)
    closes_then read h = record {
      late = λ rest l. late_end (read rest) (h.late rest l);
      stuck = stuck_end (read (rest_at edge (last ∷ []))) h.stuck;
      along = λ number lines is. ends_then (read (rest_at number (lines ++ more))) (read (rest_at number (lines ++ last ∷ []))) (h.along number lines is);
    }

  module _ {B : Type 0} (m : B) where
    abbrev at_the_end : Rest → Result B Fault
    at_the_end rest = line_by end_in rest >>= λ last. close m last.1.number last.1.lines

    over_late : (number : ℕ) (b : Bool) → edge ≤ number → LateEnd (cond b (Ok m) (Err (trailing_at (number + 1))))
    over_late number true h = tt
    over_late number false h = (omega arith, λ is. omega arith)

    closed_late : (number : ℕ) (others : List (List ℕ)) (b : Bool) (r : Result Nothing Kind) → Fine IsOfLine r → edge ≤ number → LateEnd ((at_line number (cond b (Err truncated) r) >>= left_after (number + 1) others) >>= λ last. close m last.1.number last.1.lines)
    closed_late number others true r fine h = (h, λ is. absurd (cut_goes_on is))
    closed_late number others false (Ok x) fine h = over_late number (is_over others) h
    closed_late number others false (Err kind) fine h = (h, λ is. absurd (goes_on kind fine is))

    end_late : (number : ℕ) (lines : List (List ℕ)) → edge ≤ number → LateEnd (first_by end_in number lines >>= λ last. close m last.1.number last.1.lines)
    end_late number [] h = (h, λ is. absurd (cut_goes_on is))
    end_late number (line ∷ others) h = closed_late number others (is_nil others) (end_in line) (end_fine IsOfLine tt tt tt line) h

    -- something is left
    not_over : (line : List ℕ) (lines : List (List ℕ)) → is_nil lines ≡ false → is_over (line ∷ lines) ≡ false
    not_over [] lines h = h
    not_over (b ∷ bs) lines h = refl

    closed_both : (number : ℕ) (lines : List (List ℕ)) → number + length lines ≡ edge → Ends (close m number (lines ++ more)) (close m number (lines ++ last ∷ []))
    closed_both number [] is = let at : edge ≡ number = omega (arith, is) in subst (λ (n : ℕ). Ends (close m n more) (close m n (last ∷ []))) at (done_there m)
    closed_both number (line ∷ lines) is =
        let first = not_over line (lines ++ more) (some_after lines more some) in
        let second = not_over line (lines ++ last ∷ []) (some_after lines (last ∷ []) refl) in
        rw (first, second) (wrong_before (trailing_at number) (omega (arith, is)) (λ is. absurd (cc)))

    end_both : (number : ℕ) (lines : List (List ℕ)) (b c : Bool) (r : Result Nothing Kind) → b ≡ false → c ≡ false → Fine IsOfLine r → number + (1 + length lines) ≡ edge
        → Ends ((at_line number (cond b (Err truncated) r) >>= left_after (number + 1) (lines ++ more)) >>= λ last. close m last.1.number last.1.lines) ((at_line number (cond c (Err truncated) r) >>= left_after (number + 1) (lines ++ last ∷ [])) >>= λ last. close m last.1.number last.1.lines)
    end_both number lines true c r p q fine is = absurd (cc)
    end_both number lines false true r p q fine is = absurd (cc)
    end_both number lines false false (Ok x) p q fine is = closed_both (number + 1) lines (omega (arith, is))
    end_both number lines false false (Err kind) p q fine is = wrong_before (record { kind = kind; line = number }) (omega (arith, is)) (not_cut kind fine)

    end_along : (number : ℕ) (lines : List (List ℕ)) → number + length lines ≡ edge → Ends (at_the_end (rest_at number (lines ++ more))) (at_the_end (rest_at number (lines ++ last ∷ [])))
    end_along number [] is = let at : edge ≡ number = omega (arith, is) in subst (λ (n : ℕ). Ends (at_the_end (rest_at n more)) (at_the_end (rest_at n (last ∷ [])))) at (goes_past (at_the_end (rest_at edge more)) (end_late edge more (omega arith)))
    end_along number (line ∷ lines) is = end_both number lines (is_nil (lines ++ more)) (is_nil (lines ++ last ∷ [])) (end_in line) (some_after lines more some) (some_after lines (last ∷ []) refl) (end_fine IsOfLine tt tt tt line) (omega (arith, is))

    closes_end : Closes at_the_end
    closes_end = record { late = λ rest h. end_late rest.number rest.lines h; stuck = refl; along = end_along }

  closes_automata : (asked : Bool) (classes : List (List ℕ)) (count : ℕ) → Closes (λ rest. line_by automata_in rest >>= λ automata. so_many more_asks (part_at asked count) automata.0 [] automata.1 >>= λ parts. line_by end_in parts.1 >>= λ last. close (read_machine classes parts.0) last.1.number last.1.lines)
  closes_automata asked classes count =
      closes_then (λ automata rest. so_many more_asks (part_at asked count) automata [] rest >>= λ parts. line_by end_in parts.1 >>= λ last. close (read_machine classes parts.0) last.1.number last.1.lines)
      (λ automata. closes_then (λ parts. at_the_end (read_machine classes parts)) (λ parts. closes_end (read_machine classes parts)) (so_many more_asks (part_at asked count) automata []) (reads_many more_asks (part_at asked count) (reads_part asked count) automata []))
      (line_by automata_in) (reads_line automata_in (automata_fine IsOfLine tt tt tt))

  closes_machine : (asked : Bool) → Closes (machine_at asked)
  unfolding machine_at
  closes_machine asked =
      closes_then (λ treatment rest. line_by classes_in rest >>= λ count. classes_at count.0 [] count.1 >>= λ classes. line_by automata_in classes.1 >>= λ automata. so_many more_asks (part_at asked count.0) automata.0 [] automata.1 >>= λ parts. line_by end_in parts.1 >>= λ last. close (read_machine classes.0 parts.0) last.1.number last.1.lines)
      (λ treatment. closes_then (λ count rest. classes_at count [] rest >>= λ classes. line_by automata_in classes.1 >>= λ automata. so_many more_asks (part_at asked count) automata.0 [] automata.1 >>= λ parts. line_by end_in parts.1 >>= λ last. close (read_machine classes.0 parts.0) last.1.number last.1.lines)
      (λ count. closes_then (λ classes rest. line_by automata_in rest >>= λ automata. so_many more_asks (part_at asked count) automata.0 [] automata.1 >>= λ parts. line_by end_in parts.1 >>= λ last. close (read_machine classes parts.0) last.1.number last.1.lines) (λ classes. closes_automata asked classes count) (classes_at count []) (reads_classes count []))
      (line_by classes_in) (reads_line classes_in (classes_fine IsOfLine tt tt tt)))
      (line_by treatment_in) (reads_line treatment_in (treatment_fine IsOfLine tt tt tt))

  pub closes_text : Closes (λ rest. line_by header_in rest >>= λ header. machine_at header.0 header.1)
  closes_text = closes_then (λ asked. machine_at asked) (λ asked. closes_machine asked) (line_by header_in) (reads_line header_in header_fine)
