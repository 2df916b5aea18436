-- What an instruction stores depends on what it reads alone.
use Rattle.std.proofs.Common.{◌≡◌, ℕ, ◌==◌, cond, List, [], ◌∷◌, ◌++◌, Contains, refl, ap, ◌∙◌}
use Rattle.std.specs.List.{flat_map}
use Rattle.hz_base_model.proofs.Elements.{Contains-head, Contains-tail}
use Rattle.hz_block_model.specs.Running.Operators.{unary_word, binary_word}
use Rattle.hz_block_model.specs.Running.Blocks.{Value, register, constant, memory, unary, binary, choice, into, cell_at, Effect, assign, clobber, mention, Instruction}
use Rattle.hz_block_model.specs.Running.States.{reg, cell, State, Store, value_in, stores_of_effect, stores_of}
use Rattle.hz_block_model.specs.Dependences.Accesses.{registers_in, addresses_in, values_of_effect, values_of}

abbrev pub Each : {A : Type 0} → (A → Type 0) → List A → Type 0
Each P [] = Unit {0}
Each P (x ∷ xs) = P x × Each P xs

pub each_split : {A : Type 0} (P : A → Type 0) (xs ys : List A) → Each P (xs ++ ys) → Each P xs × Each P ys
each_split P [] ys h = (tt, h)
each_split P (x ∷ xs) ys h = let (here, there) = each_split P xs ys h.1 in ((h.0, here), there)

pub each_from : {A : Type 0} (P : A → Type 0) (xs : List A) → ((x : A) → Contains xs x → P x) → Each P xs
each_from P [] h = tt
each_from P (x ∷ xs) h = (h x (Contains-head x xs), each_from P xs (λ y c. h y (Contains-tail x y xs c)))

module _ (s t : State) where
  -- a register has one word in both states
  abbrev pub SameRegister : ℕ → Type 0
  SameRegister r = s (reg r) ≡ t (reg r)

  -- and so has the cell at an address
  abbrev pub SameCell : Value → Type 0
  SameCell a = s (cell (value_in t a)) ≡ t (cell (value_in t a))

  same_value : (v : Value) → Each SameRegister (registers_in v) → Each SameCell (addresses_in v) → value_in s v ≡ value_in t v
  same_value (register number) rs cells = rs.0
  same_value (constant word) rs cells = refl
  same_value (memory address) rs cells = ap (λ (x : ℕ). s (cell x)) (same_value address rs cells.1) ∙ cells.0
  same_value (unary operator operand) rs cells = ap (unary_word operator) (same_value operand rs cells)
  same_value (binary operator left right) rs cells =
      let (r0, r1) = each_split SameRegister (registers_in left) (registers_in right) rs in
      let (a0, a1) = each_split SameCell (addresses_in left) (addresses_in right) cells in
      ap (λ (x : ℕ). binary_word operator x (value_in s right)) (same_value left r0 a0) ∙ ap (λ (y : ℕ). binary_word operator (value_in t left) y) (same_value right r1 a1)
  same_value (choice test first second) rs cells =
      let (r0, rest) = each_split SameRegister (registers_in test) (registers_in first ++ registers_in second) rs in
      let (r1, r2) = each_split SameRegister (registers_in first) (registers_in second) rest in
      let (a0, more) = each_split SameCell (addresses_in test) (addresses_in first ++ addresses_in second) cells in
      let (a1, a2) = each_split SameCell (addresses_in first) (addresses_in second) more in
      ap (λ (x : ℕ). cond (x == 0) (value_in s second) (value_in s first)) (same_value test r0 a0)
      ∙ (ap (λ (x : ℕ). cond (value_in t test == 0) x (value_in s first)) (same_value second r2 a2) ∙ ap (λ (x : ℕ). cond (value_in t test == 0) (value_in t second) x) (same_value first r1 a1))

  abbrev SameValue : Value → Type 0
  SameValue v = value_in s v ≡ value_in t v

  same_values : (vs : List Value) → Each SameRegister (flat_map registers_in vs) → Each SameCell (flat_map addresses_in vs) → Each SameValue vs
  same_values [] rs cells = tt
  same_values (v ∷ vs) rs cells =
      let (r0, r1) = each_split SameRegister (registers_in v) (flat_map registers_in vs) rs in
      let (a0, a1) = each_split SameCell (addresses_in v) (flat_map addresses_in vs) cells in
      (same_value v r0 a0, same_values vs r1 a1)

  same_effect : (number : ℕ) (e : Effect) → Each SameValue (values_of_effect e) → stores_of_effect s number e ≡ stores_of_effect t number e
  same_effect number (assign (into r) value) h = ap (λ (w : ℕ). record { place = reg r; word = w } ∷ []) h.0
  same_effect number (assign (cell_at a) value) h =
      ap (λ (w : ℕ). record { place = cell (value_in s a); word = w } ∷ []) h.0 ∙ ap (λ (x : ℕ). record { place = cell x; word = value_in t value } ∷ []) h.1.0
  same_effect number (clobber (into r)) h = refl
  same_effect number (clobber (cell_at a)) h = ap (λ (x : ℕ). record { place = cell x; word = number } ∷ []) h.0
  same_effect number (mention value) h = refl

  same_effects : (number : ℕ) (es : List Effect) → Each SameValue (flat_map values_of_effect es) → flat_map (stores_of_effect s number) es ≡ flat_map (stores_of_effect t number) es
  same_effects number [] h = refl
  same_effects number (e ∷ es) h =
      let (here, there) = each_split SameValue (values_of_effect e) (flat_map values_of_effect es) h in
      ap (λ (x : List Store). x ++ flat_map (stores_of_effect s number) es) (same_effect number e here) ∙ ap (λ (x : List Store). stores_of_effect t number e ++ x) (same_effects number es there)

  pub same_stores : (i : Instruction) → Each SameRegister (flat_map registers_in (values_of i)) → Each SameCell (flat_map addresses_in (values_of i)) → stores_of i s ≡ stores_of i t
  same_stores i rs cells = same_effects i.number i.effects (same_values (values_of i) rs cells)
