-- The last instruction of the source that stores to a place, and slots after past ones.
use Rattle.std.proofs.Common.{◌≡◌, ℕ, zero, suc, ◌<◌, ◌≤◌, ◌==◌, Bool, true, false, ◌||◌, ◌⊎◌, inl, inr, ⊎_elim, List, [], ◌∷◌, ◌++◌, Contains, refl, sym, ap, ◌∙◌, append_assoc, arith}
use Rattle.std.specs.List.{flat_map}
use Rattle.std.proofs.lemmas.Bool.{cases_lt}
use Rattle.hz_base_model.proofs.Elements.{Contains-nil, Contains-tail, Contains-cons_cases}
use Rattle.hz_block_model.specs.Running.Blocks.{into, cell_at, Effect, assign, clobber, mention, Instruction}
use Rattle.hz_block_model.specs.Running.States.{Place, reg, State, all_stored, stores_of_effect}
use Rattle.hz_block_model.specs.Dependences.Accesses.{targets_of_effect, register_of_target, is_among}
use Rattle.hz_block_model.proofs.Dependences.StoreLaws.{touches, touched, untouched}
use Rattle.hz_block_model.proofs.Dependences.SourceLaws.{source, given}
use Rattle.hz_block_model.specs.Scheduling.Schedules.{Slot}

-- a register is stored to exactly where it is written
pub stored_registers : (t : State) (number : ℕ) (effects : List Effect) (r : ℕ) → touches (flat_map (stores_of_effect t number) effects) (reg r) ≡ is_among (flat_map register_of_target (flat_map targets_of_effect effects)) r
stored_registers t number [] r = refl
stored_registers t number (assign (into n) value ∷ effects) r = ap (λ (b : Bool). (n == r) || b) (stored_registers t number effects r)
stored_registers t number (assign (cell_at a) value ∷ effects) r = stored_registers t number effects r
stored_registers t number (clobber (into n) ∷ effects) r = ap (λ (b : Bool). (n == r) || b) (stored_registers t number effects r)
stored_registers t number (clobber (cell_at a) ∷ effects) r = stored_registers t number effects r
stored_registers t number (mention value ∷ effects) r = stored_registers t number effects r

module _ (block : List Instruction) (s : State) where
  -- The last instruction below a place that stores to p in the order of the source, if there is one.
  pub data Last (n : ℕ) (p : Place) : Type 0 where
    never : ((m : ℕ) → m < n → touches (given block s m) p ≡ false) → Last n p
    at : (k : ℕ) → k < n → touches (given block s k) p ≡ true → ((m : ℕ) → k < m → m < n → touches (given block s m) p ≡ false) → Last n p

  -- one place more
  one_more : (n : ℕ) (p : Place) → touches (given block s n) p ≡ false → (m : ℕ) → m < suc n → (m < n → touches (given block s m) p ≡ false) → touches (given block s m) p ≡ false
  one_more n p is m lt below = ⊎_elim
      (λ (less : m < n). below less)
      (λ (ge : n ≤ m). let same : m ≡ n = omega arith in ap (λ (j : ℕ). touches (given block s j) p) same ∙ is)
      (cases_lt m n)

  pub last : (n : ℕ) (p : Place) → Last n p
  last zero p = never (λ m lt. absurd (omega arith))
  last (suc n) p = go (touches (given block s n) p) refl (last n p)
    where
      go : (b : Bool) → touches (given block s n) p ≡ b → Last n p → Last (suc n) p
      go true is l = at n (omega arith) is (λ m low high. absurd (omega arith))
      go false is (never none) = never (λ m lt. one_more n p is m lt (λ less. none m less))
      go false is (at k lt hit none) = at k (omega arith) hit (λ m low high. one_more n p is m high (λ less. none m low less))

  -- a place to which nothing is stored has one word
  pub stays : (k n : ℕ) (p : Place) → k ≤ n → ((m : ℕ) → k ≤ m → m < n → touches (given block s m) p ≡ false) → source block s n p ≡ source block s k p
  stays k zero p le none = let same : zero ≡ k = omega arith in ap (λ (j : ℕ). source block s j p) same
  stays k (suc n) p le none = ⊎_elim
      (λ (lt : n < k). let same : suc n ≡ k = omega arith in ap (λ (j : ℕ). source block s j p) same)
      (λ (ge : k ≤ n). untouched (given block s n) (source block s n) p (none n ge (omega arith)) ∙ stays k n p ge (λ m low high. none m low (omega arith)))
      (cases_lt n k)

  -- the word is what the last one stored
  pub word_of_last : (n k : ℕ) (p : Place) (u : State) → k < n → touches (given block s k) p ≡ true → ((m : ℕ) → k < m → m < n → touches (given block s m) p ≡ false) → all_stored u (given block s k) p ≡ source block s n p
  word_of_last n k p u lt hit none =
      touched (given block s k) u (source block s k) p hit
      ∙ sym (stays (suc k) n p (omega arith) (λ m low high. none m (omega arith) high))

-- ---- slots after past ones, of which the newest stands first

abbrev pub onto : List Slot → List Slot → List Slot
onto [] rest = rest
onto (x ∷ past) rest = onto past (x ∷ rest)

pub onto_front : (past rest : List Slot) → onto past rest ≡ onto past [] ++ rest
onto_front [] rest = refl
onto_front (x ∷ past) rest =
    onto_front past (x ∷ rest)
    ∙ (sym (append_assoc (onto past []) (x ∷ []) rest) ∙ ap (λ (f : List Slot). f ++ rest) (sym (onto_front past (x ∷ []))))

pub in_onto : (past rest : List Slot) (y : Slot) → Contains (onto past rest) y → Contains past y ⊎ Contains rest y
in_onto [] rest y c = inr c
in_onto (x ∷ past) rest y c = ⊎_elim
    (λ (m : Contains past y). inl (Contains-tail x y past m))
    (λ (m : Contains (x ∷ rest) y). ⊎_elim
    (λ (e : x ≡ y). inl (ap_head e))
    (λ (k : Contains rest y). inr k)
    (Contains-cons_cases x y rest m))
    (in_onto past (x ∷ rest) y c)
  where
    ap_head : x ≡ y → Contains (x ∷ past) y
    ap_head e = (0, omega arith, e)

after_onto : (past rest : List Slot) (y : Slot) → Contains rest y → Contains (onto past rest) y
after_onto [] rest y c = c
after_onto (x ∷ past) rest y c = after_onto past (x ∷ rest) y (Contains-tail x y rest c)

pub past_onto : (past rest : List Slot) (y : Slot) → Contains past y → Contains (onto past rest) y
past_onto [] rest y c = absurd (Contains-nil y c)
past_onto (x ∷ past) rest y c = ⊎_elim
    (λ (e : x ≡ y). after_onto past (x ∷ rest) y (0, omega arith, e))
    (λ (m : Contains past y). past_onto past (x ∷ rest) y m)
    (Contains-cons_cases x y past c)
