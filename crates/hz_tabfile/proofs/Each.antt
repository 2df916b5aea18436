-- Judging fields one after the other, as a loop does.
use Rattle.std.proofs.Common.{◌≡◌, ℕ, zero, suc, nat_lt, ◌+◌, ◌-◌, Bool, true, false, if◌then◌else◌, List, [], ◌∷◌, ◌++◌, length, take, drop, Option, Some, None, Result, Ok, Err, refl, sym, ap, ◌∙◌, subst, append_assoc, arith}
use Rattle.std.specs.Borrow.{Bor}
use Rattle.std.proofs.lemmas.Bool.{ltb-true, ltb-false}
use Rattle.std.proofs.lemmas.List.{append-nil, length-append}
use Rattle.hz_tabtext_model.specs.Judging.{Kind, ◌>>=◌, each_by}
use Rattle.hz_tabfile.specs.declared.reading.wrong.Wrong.{Wrong}
use Rattle.hz_tabfile.specs.declared.reading.wrong.Wrong.TheVariants.{BadLine, BadNumber, OutOfRange, NoMemory}
use Rattle.hz_tabfile.specs.Cutting.{fields_in}
use Rattle.hz_tabtext_model.specs.Fields.{entry_in, ask_entry_in, advance_in, cycle_in}
use Rattle.hz_tabtext_model.specs.Lines.{Nothing, entries_of}
use Rattle.hz_tabfile.specs.Judged.{Refuses}
use Rattle.hz_tabfile.specs.Lines.{cell_in, cycles_in}

-- what is wrong with a first judgement is wrong with both
pub refused_first : {X Y : Type 0} (wrong : Wrong) (r : Result X Kind) (f : X → Result Y Kind) → Refuses wrong r → Refuses wrong (r >>= f)
refused_first BadLine r f h = rw h refl
refused_first BadNumber r f h = rw h refl
refused_first OutOfRange r f h = rw h refl
refused_first NoMemory r f h = tt

pub refused_same : {Y : Type 0} (wrong : Wrong) (r s : Result Y Kind) → r ≡ s → Refuses wrong r → Refuses wrong s
refused_same wrong r s e h = subst (Refuses wrong) e h

-- what is found after a front
abbrev pub beyond : {Y : Type 0} → List Y → Result (List Y) Kind → Result (List Y) Kind
beyond front found = found >>= λ ys. Ok (front ++ ys)

module _ {Y : Type 0} (judge : List ℕ → Result Y Kind) where
  pub regroup : (front : List Y) (y : Y) (found : Result (List Y) Kind) → beyond front (found >>= λ ys. Ok (y ∷ ys)) ≡ beyond (front ++ y ∷ []) found
  regroup front y (Ok ys) = ap Ok (sym (append_assoc front (y ∷ []) ys))
  regroup front y (Err kind) = refl

  one_goes : (front : List Y) (x : List ℕ) (xs : List (List ℕ)) (y : Y) → judge x ≡ Ok y → beyond front (each_by judge (x ∷ xs)) ≡ beyond (front ++ y ∷ []) (each_by judge xs)
  unfolding each_by
  one_goes front x xs y h = rw h (regroup front y (each_by judge xs))

  one_stops : (wrong : Wrong) (front : List Y) (x : List ℕ) (xs : List (List ℕ)) → Refuses wrong (judge x) → Refuses wrong (beyond front (each_by judge (x ∷ xs)))
  unfolding each_by
  one_stops wrong front x xs h =
      refused_first wrong (judge x >>= λ y. each_by judge xs >>= λ ys. Ok (y ∷ ys)) (λ ys. Ok (front ++ ys)) (refused_first wrong (judge x) (λ y. each_by judge xs >>= λ ys. Ok (y ∷ ys)) h)

  -- the loop over fields, which keeps what is found so far
  module _ (front : List Y) (rest : Option (Bor (List ℕ))) (total : Result (List Y) Kind) (so_far : beyond front (each_by judge (fields_in rest)) ≡ total) where
    module _ (text : Bor (List ℕ)) (field : List ℕ) (fields : List (List ℕ)) (is : rest ≡ Some text) (cut : fields_in (Some text) ≡ field ∷ fields) where
      at_field : beyond front (each_by judge (field ∷ fields)) ≡ total
      at_field = sym (ap (λ fs. beyond front (each_by judge fs)) (ap fields_in is ∙ cut)) ∙ so_far

      pub each_goes : (y : Y) → judge field ≡ Ok y → beyond (front ++ y ∷ []) (each_by judge fields) ≡ total
      each_goes y h = sym (one_goes front field fields y h) ∙ at_field

      pub each_stops : (wrong : Wrong) → Refuses wrong (judge field) → Refuses wrong total
      each_stops wrong h = refused_same wrong (beyond front (each_by judge (field ∷ fields))) total at_field (one_stops wrong front field fields h)

    pub each_ends : rest ≡ None → total ≡ Ok front
    unfolding each_by
    each_ends is = sym so_far ∙ (ap (λ r. beyond front (each_by judge (fields_in r))) is ∙ ap Ok (append-nil front))

  pub each_starts : (found : Result (List Y) Kind) → beyond [] found ≡ found
  each_starts (Ok ys) = refl
  each_starts (Err kind) = refl

-- ---- the entries of a state

bind_same : {Y : Type 0} (r : Result (List Y) Kind) → (r >>= λ ys. Ok ys) ≡ r
bind_same (Ok ys) = refl
bind_same (Err kind) = refl

-- with no column and no ask left, only the advance is
no_column : (states number : ℕ) (fields : List (List ℕ)) → entries_of 0 0 states number fields ≡ each_by (advance_in states) fields
unfolding each_by
no_column states number fields = bind_same (each_by (advance_in states) fields)

two_parts : {Y : Type 0} (front : List Y) (y : Y) (first second : Result (List Y) Kind)
    → beyond front ((first >>= λ ys. Ok (y ∷ ys)) >>= λ asked. second >>= λ advance. Ok (asked ++ advance)) ≡ beyond (front ++ y ∷ []) (first >>= λ asked. second >>= λ advance. Ok (asked ++ advance))
two_parts front y (Ok xs) (Ok ys) = ap Ok (sym (append_assoc front (y ∷ []) (xs ++ ys)))
two_parts front y (Ok xs) (Err kind) = refl
two_parts front y (Err kind) second = refl

three_parts : {Y : Type 0} (front : List Y) (y : Y) (first second third : Result (List Y) Kind)
    → beyond front ((first >>= λ ys. Ok (y ∷ ys)) >>= λ classes. second >>= λ asked. third >>= λ advance. Ok (classes ++ (asked ++ advance))) ≡ beyond (front ++ y ∷ []) (first >>= λ classes. second >>= λ asked. third >>= λ advance. Ok (classes ++ (asked ++ advance)))
three_parts front y (Ok xs) (Ok ys) (Ok zs) = ap Ok (sym (append_assoc front (y ∷ []) (xs ++ (ys ++ zs))))
three_parts front y (Ok xs) (Ok ys) (Err kind) = refl
three_parts front y (Ok xs) (Err kind) third = refl
three_parts front y (Err kind) second third = refl

module _ (states number : ℕ) where
  column_goes : (k asks : ℕ) (front : List (Option ℕ)) (x : List ℕ) (xs : List (List ℕ)) (y : Option ℕ) → entry_in states x ≡ Ok y → beyond front (entries_of (suc k) asks states number (x ∷ xs)) ≡ beyond (front ++ y ∷ []) (entries_of k asks states number xs)
  unfolding each_by
  column_goes k asks front x xs y h = rw h (three_parts front y (each_by (entry_in states) (take k xs)) (each_by (ask_entry_in number) (take asks (drop k xs))) (each_by (advance_in states) (drop asks (drop k xs))))

  ask_goes : (k : ℕ) (front : List (Option ℕ)) (x : List ℕ) (xs : List (List ℕ)) (y : Option ℕ) → ask_entry_in number x ≡ Ok y → beyond front (entries_of 0 (suc k) states number (x ∷ xs)) ≡ beyond (front ++ y ∷ []) (entries_of 0 k states number xs)
  unfolding each_by
  ask_goes k front x xs y h = rw h (two_parts front y (each_by (ask_entry_in number) (take k xs)) (each_by (advance_in states) (drop k xs)))

  column_stops : (wrong : Wrong) (k asks : ℕ) (front : List (Option ℕ)) (x : List ℕ) (xs : List (List ℕ)) → Refuses wrong (entry_in states x) → Refuses wrong (beyond front (entries_of (suc k) asks states number (x ∷ xs)))
  unfolding each_by
  column_stops wrong k asks front x xs h =
      refused_first wrong (entries_of (suc k) asks states number (x ∷ xs)) (λ ys. Ok (front ++ ys))
      (refused_first wrong (entry_in states x >>= λ y. each_by (entry_in states) (take k xs) >>= λ ys. Ok (y ∷ ys)) (λ classes. each_by (ask_entry_in number) (take asks (drop k xs)) >>= λ asked. each_by (advance_in states) (drop asks (drop k xs)) >>= λ advance. Ok (classes ++ (asked ++ advance)))
      (refused_first wrong (entry_in states x) (λ y. each_by (entry_in states) (take k xs) >>= λ ys. Ok (y ∷ ys)) h))

  ask_stops : (wrong : Wrong) (k : ℕ) (front : List (Option ℕ)) (x : List ℕ) (xs : List (List ℕ)) → Refuses wrong (ask_entry_in number x) → Refuses wrong (beyond front (entries_of 0 (suc k) states number (x ∷ xs)))
  unfolding each_by
  ask_stops wrong k front x xs h =
      refused_first wrong (entries_of 0 (suc k) states number (x ∷ xs)) (λ ys. Ok (front ++ ys))
      (refused_first wrong (ask_entry_in number x >>= λ y. each_by (ask_entry_in number) (take k xs) >>= λ ys. Ok (y ∷ ys)) (λ asked. each_by (advance_in states) (drop k xs) >>= λ advance. Ok (asked ++ advance))
      (refused_first wrong (ask_entry_in number x) (λ y. each_by (ask_entry_in number) (take k xs) >>= λ ys. Ok (y ∷ ys)) h))

  -- what a field is, by whether it is one of a class, and whether it is before the advance
  abbrev cell_by : (b d : Bool) → List ℕ → Result (Option ℕ) Kind
  cell_by b d x = if b then entry_in states x else (if d then ask_entry_in number x else advance_in states x)

  -- the entries that are left after so many
  abbrev pub left_after : (columns asks place : ℕ) → List (List ℕ) → Result (List (Option ℕ)) Kind
  left_after columns asks place fields = entries_of (columns - place) (asks - (place - columns)) states number fields

  cell_goes : (columns asks : ℕ) (front : List (Option ℕ)) (x : List ℕ) (xs : List (List ℕ)) (y : Option ℕ) (b d : Bool) → nat_lt (length front) columns ≡ b → nat_lt (length front) (columns + asks) ≡ d → cell_by b d x ≡ Ok y
      → beyond front (left_after columns asks (length front) (x ∷ xs)) ≡ beyond (front ++ y ∷ []) (left_after columns asks (length (front ++ y ∷ [])) xs)
  cell_goes columns asks front x xs y true d is is_too h =
      let near = ltb-true (length front) columns is in
      let here : columns - length front ≡ suc (columns - length (front ++ y ∷ [])) = omega (arith, near, length-append front (y ∷ [])) in
      let all : asks - (length front - columns) ≡ asks = omega (arith, near) in
      let still : asks - (length (front ++ y ∷ []) - columns) ≡ asks = omega (arith, near, length-append front (y ∷ [])) in
      rw (here, all, still) (column_goes (columns - length (front ++ y ∷ [])) asks front x xs y h)
  cell_goes columns asks front x xs y false true is is_too h =
      let far = ltb-false (length front) columns is in
      let near = ltb-true (length front) (columns + asks) is_too in
      let none : columns - length front ≡ 0 = omega (arith, far) in
      let none_too : columns - length (front ++ y ∷ []) ≡ 0 = omega (arith, far, length-append front (y ∷ [])) in
      let here : asks - (length front - columns) ≡ suc (asks - (length (front ++ y ∷ []) - columns)) = omega (arith, far, near, length-append front (y ∷ [])) in
      rw (none, none_too, here) (ask_goes (asks - (length (front ++ y ∷ []) - columns)) front x xs y h)
  cell_goes columns asks front x xs y false false is is_too h =
      let far = ltb-false (length front) columns is in
      let past = ltb-false (length front) (columns + asks) is_too in
      let none : columns - length front ≡ 0 = omega (arith, far) in
      let none_too : columns - length (front ++ y ∷ []) ≡ 0 = omega (arith, far, length-append front (y ∷ [])) in
      let no_ask : asks - (length front - columns) ≡ 0 = omega (arith, far, past) in
      let no_ask_too : asks - (length (front ++ y ∷ []) - columns) ≡ 0 = omega (arith, far, past, length-append front (y ∷ [])) in
      rw (none, none_too, no_ask, no_ask_too, no_column states number, no_column states number) (one_goes (advance_in states) front x xs y h)

  cell_stops : (wrong : Wrong) (columns asks : ℕ) (front : List (Option ℕ)) (x : List ℕ) (xs : List (List ℕ)) (b d : Bool) → nat_lt (length front) columns ≡ b → nat_lt (length front) (columns + asks) ≡ d → Refuses wrong (cell_by b d x)
      → Refuses wrong (beyond front (left_after columns asks (length front) (x ∷ xs)))
  cell_stops wrong columns asks front x xs true d is is_too h =
      let near = ltb-true (length front) columns is in
      let here : columns - length front ≡ suc (columns - (length front + 1)) = omega (arith, near) in
      rw here (column_stops wrong (columns - (length front + 1)) (asks - (length front - columns)) front x xs h)
  cell_stops wrong columns asks front x xs false true is is_too h =
      let far = ltb-false (length front) columns is in
      let near = ltb-true (length front) (columns + asks) is_too in
      let none : columns - length front ≡ 0 = omega (arith, far) in
      let here : asks - (length front - columns) ≡ suc (asks - (length front + 1 - columns)) = omega (arith, far, near) in
      rw (none, here) (ask_stops wrong (asks - (length front + 1 - columns)) front x xs h)
  cell_stops wrong columns asks front x xs false false is is_too h =
      let far = ltb-false (length front) columns is in
      let past = ltb-false (length front) (columns + asks) is_too in
      let none : columns - length front ≡ 0 = omega (arith, far) in
      let no_ask : asks - (length front - columns) ≡ 0 = omega (arith, far, past) in
      rw (none, no_ask, no_column states number) (one_stops (advance_in states) wrong front x xs h)

  module _ (columns asks : ℕ) (front : List (Option ℕ)) (rest : Option (Bor (List ℕ))) (total : Result (List (Option ℕ)) Kind) (so_far : beyond front (left_after columns asks (length front) (fields_in rest)) ≡ total) where
    module _ (text : Bor (List ℕ)) (field : List ℕ) (fields : List (List ℕ)) (is : rest ≡ Some text) (cut : fields_in (Some text) ≡ field ∷ fields) where
      at_cell : beyond front (left_after columns asks (length front) (field ∷ fields)) ≡ total
      at_cell = sym (ap (λ fs. beyond front (left_after columns asks (length front) fs)) (ap fields_in is ∙ cut)) ∙ so_far

      pub cells_go : (y : Option ℕ) → cell_in columns asks states number (length front) field ≡ Ok y → beyond (front ++ y ∷ []) (left_after columns asks (length (front ++ y ∷ [])) fields) ≡ total
      cells_go y h = sym (cell_goes columns asks front field fields y (nat_lt (length front) columns) (nat_lt (length front) (columns + asks)) refl refl h) ∙ at_cell

      pub cells_stop : (wrong : Wrong) → Refuses wrong (cell_in columns asks states number (length front) field) → Refuses wrong total
      cells_stop wrong h = refused_same wrong (beyond front (left_after columns asks (length front) (field ∷ fields))) total at_cell (cell_stops wrong columns asks front field fields (nat_lt (length front) columns) (nat_lt (length front) (columns + asks)) refl refl h)

    pub cells_end : rest ≡ None → total ≡ Ok front
    unfolding each_by
    cells_end is = sym so_far ∙ (ap (λ r. beyond front (left_after columns asks (length front) (fields_in r))) is ∙ (ended (columns - length front) (asks - (length front - columns)) ∙ ap Ok (append-nil front)))
      where
        ended : (n k : ℕ) → beyond front (entries_of n k states number []) ≡ Ok (front ++ [])
        ended zero zero = refl
        ended zero (suc k) = refl
        ended (suc n) zero = refl
        ended (suc n) (suc k) = refl

-- ---- the cycles of a grid

cycle_goes : (field : List ℕ) (fields : List (List ℕ)) (cycle : ℕ) → cycle_in field ≡ Ok cycle → cycles_in (field ∷ fields) ≡ cycles_in fields
unfolding each_by
cycle_goes field fields cycle h = rw h (dropped (each_by cycle_in fields))
  where
    dropped : (r : Result (List ℕ) Kind) → ((r >>= λ ys. Ok (cycle ∷ ys)) >>= λ cycles. Ok (tt {0})) ≡ (r >>= λ cycles. Ok (tt {0}))
    dropped (Ok ys) = refl
    dropped (Err kind) = refl

module _ (rest : Option (Bor (List ℕ))) (total : Result Nothing Kind) (so_far : cycles_in (fields_in rest) ≡ total) where
  module _ (text : Bor (List ℕ)) (field : List ℕ) (fields : List (List ℕ)) (is : rest ≡ Some text) (cut : fields_in (Some text) ≡ field ∷ fields) where
    at_cycle : cycles_in (field ∷ fields) ≡ total
    at_cycle = sym (ap cycles_in (ap fields_in is ∙ cut)) ∙ so_far

    pub cycles_go : (cycle : ℕ) → cycle_in field ≡ Ok cycle → cycles_in fields ≡ total
    cycles_go cycle h = sym (cycle_goes field fields cycle h) ∙ at_cycle

    pub cycles_stop : (wrong : Wrong) → Refuses wrong (cycle_in field) → Refuses wrong total
    unfolding each_by
    cycles_stop wrong h =
        refused_same wrong (cycles_in (field ∷ fields)) total at_cycle
        (refused_first wrong (cycle_in field >>= λ y. each_by cycle_in fields >>= λ ys. Ok (y ∷ ys)) (λ cycles. Ok (tt {0})) (refused_first wrong (cycle_in field) (λ y. each_by cycle_in fields >>= λ ys. Ok (y ∷ ys)) h))

  pub cycles_end : rest ≡ None → total ≡ Ok (tt {0})
  unfolding each_by
  cycles_end is = sym so_far ∙ ap (λ r. cycles_in (fields_in r)) is
