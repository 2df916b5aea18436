-- The cells that are asked for are those at the addresses that are read.
use Rattle.std.proofs.Common.{◌≡◌, ℕ, ◌⊎◌, inl, inr, ⊎_elim, List, [], ◌∷◌, ◌++◌, map, Some, append_assoc, Contains, refl, sym, ap, ◌∙◌, subst}
use Rattle.std.specs.List.{flat_map}
use Rattle.std.proofs.lemmas.List.{map-append}
use Rattle.std.proofs.lemmas.List.Elements.{Contains-append_left, Contains-append_right, Contains-append_cases}
use Rattle.hz_base_model.proofs.Elements.{Contains-nil, Contains-head, Contains-tail, Contains-cons_cases}
use Rattle.hz_block_model.specs.Running.Blocks.{Value, register, constant, memory, unary, binary, choice, Instruction}
use Rattle.hz_block_model.specs.Running.States.{State, Place, reg, cell, value_in}
use Rattle.hz_block_model.specs.Dependences.Accesses.{addresses_in, registers_in, values_of, access_of}
use Rattle.hz_measure_model.specs.Exposed.Exposed.{ascending, reads_in}
use Rattle.hz_measure_model.proofs.Exposed.AscendingLaws.{ascending_ascends, in_ascending, from_ascending, one_ascending}
use Rattle.hz_timed.specs.Asking.{cells_asked}

-- Two lists have the same elements.
pub record Alike (xs ys : List ℕ) : Type 0 where
  pub to : (c : ℕ) → Contains xs c → Contains ys c
  pub from : (c : ℕ) → Contains ys c → Contains xs c

both_append : (ms bs xs ys : List ℕ) → ((c : ℕ) → Contains ms c → Contains xs c) → ((c : ℕ) → Contains bs c → Contains ys c) → (c : ℕ) → Contains (ms ++ bs) c → Contains (xs ++ ys) c
both_append ms bs xs ys f g c h = ⊎_elim
    (λ (k : Contains ms c). Contains-append_left xs ys c (f c k))
    (λ (k : Contains bs c). Contains-append_right xs ys c (g c k))
    (Contains-append_cases ms bs c h)

alike_append : (ms bs xs ys : List ℕ) → Alike ms xs → Alike bs ys → Alike (ms ++ bs) (xs ++ ys)
alike_append ms bs xs ys f g = record { to = both_append ms bs xs ys f.to g.to; from = both_append xs ys ms bs f.from g.from }

alike_map : (s : State) (ms bs : List ℕ) (vs ws : List Value) → Alike ms (map (value_in s) vs) → Alike bs (map (value_in s) ws) → Alike (ms ++ bs) (map (value_in s) (vs ++ ws))
alike_map s ms bs vs ws f g = subst (λ (zs : List ℕ). Alike (ms ++ bs) zs) (sym (map-append (value_in s) vs ws)) (alike_append ms bs (map (value_in s) vs) (map (value_in s) ws) f g)

module _ (s : State) where
  pub asked_alike : (v : Value) → Alike (cells_asked s v) (map (value_in s) (addresses_in v))
  asked_alike (register number) = record { to = λ c h. h; from = λ c h. h }
  asked_alike (constant word) = record { to = λ c h. h; from = λ c h. h }
  asked_alike (memory address) = let h = asked_alike address in record {
    to = λ c k. ⊎_elim
        (λ (j : Contains (cells_asked s address) c). Contains-tail (value_in s address) c (map (value_in s) (addresses_in address)) (h.to c j))
        (λ (j : Contains (value_in s address ∷ []) c). ⊎_elim
        (λ (e : value_in s address ≡ c). subst (λ (d : ℕ). Contains (value_in s address ∷ map (value_in s) (addresses_in address)) d) e (Contains-head (value_in s address) (map (value_in s) (addresses_in address))))
        (λ (n : Contains [] c). absurd (Contains-nil c n))
        (Contains-cons_cases (value_in s address) c [] j))
        (Contains-append_cases (cells_asked s address) (value_in s address ∷ []) c k);
    from = λ c k. ⊎_elim
        (λ (e : value_in s address ≡ c). Contains-append_right (cells_asked s address) (value_in s address ∷ []) c (subst (λ (d : ℕ). Contains (value_in s address ∷ []) d) e (Contains-head (value_in s address) [])))
        (λ (j : Contains (map (value_in s) (addresses_in address)) c). Contains-append_left (cells_asked s address) (value_in s address ∷ []) c (h.from c j))
        (Contains-cons_cases (value_in s address) c (map (value_in s) (addresses_in address)) k);
  }
  asked_alike (unary operator operand) = asked_alike operand
  asked_alike (binary operator left right) = alike_map s (cells_asked s left) (cells_asked s right) (addresses_in left) (addresses_in right) (asked_alike left) (asked_alike right)
  asked_alike (choice test first second) =
      alike_map s (cells_asked s test) (cells_asked s first ++ cells_asked s second) (addresses_in test) (addresses_in first ++ addresses_in second) (asked_alike test)
      (alike_map s (cells_asked s first) (cells_asked s second) (addresses_in first) (addresses_in second) (asked_alike first) (asked_alike second))

  all_alike : (vs : List Value) → Alike (flat_map (cells_asked s) vs) (map (value_in s) (flat_map addresses_in vs))
  all_alike [] = record { to = λ c h. h; from = λ c h. h }
  all_alike (v ∷ vs) = alike_map s (cells_asked s v) (flat_map (cells_asked s) vs) (addresses_in v) (flat_map addresses_in vs) (asked_alike v) (all_alike vs)

  pub asked_in_order : (vs : List Value) → ascending (flat_map (cells_asked s) vs) ≡ ascending (map (value_in s) (flat_map addresses_in vs))
  asked_in_order vs =
      let h = all_alike vs in
      one_ascending (ascending (flat_map (cells_asked s) vs)) (ascending (map (value_in s) (flat_map addresses_in vs))) (ascending_ascends (flat_map (cells_asked s) vs)) (ascending_ascends (map (value_in s) (flat_map addresses_in vs)))
      (λ m c. in_ascending (map (value_in s) (flat_map addresses_in vs)) m (h.to m (from_ascending (flat_map (cells_asked s) vs) m c)))
      (λ m c. in_ascending (flat_map (cells_asked s) vs) m (h.from m (from_ascending (map (value_in s) (flat_map addresses_in vs)) m c)))

-- the reads of registers and then of cells are those of what is read
pub reads_in_order : {R : Type 0} (f : Place → R) (i : Instruction) (s : State) (old : List R) (asked : List ℕ) (cells : List ℕ) (registers' cells' : List ℕ)
    → asked ≡ flat_map registers_in (values_of i) → cells ≡ flat_map (cells_asked s) (values_of i) → registers' ≡ ascending asked → cells' ≡ ascending cells
    → (old ++ map (λ r. f (reg r)) registers') ++ map (λ a. f (cell a)) cells' ≡ old ++ map f (reads_in (Some i) s)
reads_in_order f i s old asked cells registers' cells' asked_is cells_is registers_in_order cells_in_order =
    append_assoc old (map (λ r. f (reg r)) registers') (map (λ a. f (cell a)) cells')
    ∙ ap (λ zs. old ++ zs) (
    ap (λ rs. map (λ r. f (reg r)) rs ++ map (λ a. f (cell a)) cells') (registers_in_order ∙ ap ascending asked_is)
    ∙ (ap (λ cs. map (λ r. f (reg r)) (ascending (access_of i).registers_read) ++ map (λ a. f (cell a)) cs) (cells_in_order ∙ (ap ascending cells_is ∙ asked_in_order s (values_of i)))
    ∙ sym (map-append f (map reg (ascending (access_of i).registers_read)) (map cell (ascending (map (value_in s) (access_of i).addresses_read)))
    ∙ (ap (λ zs. zs ++ map f (map cell (ascending (map (value_in s) (access_of i).addresses_read)))) (twice f reg (ascending (access_of i).registers_read))
    ∙ ap (λ zs. map (λ r. f (reg r)) (ascending (access_of i).registers_read) ++ zs) (twice f cell (ascending (map (value_in s) (access_of i).addresses_read)))))))
  where
    twice : {R : Type 0} (f : Place → R) (e : ℕ → Place) (ns : List ℕ) → map f (map e ns) ≡ map (λ n. f (e n)) ns
    twice f e [] = refl
    twice f e (n ∷ ns) = ap (λ zs. f (e n) ∷ zs) (twice f e ns)

-- what a cell adds
pub cell_more : (old first second a : List ℕ) (c d : ℕ) → first ≡ old ++ a → second ≡ first ++ c ∷ [] → c ≡ d → second ≡ old ++ (a ++ d ∷ [])
cell_more old first second a c d one two same =
    two ∙ (ap (λ (zs : List ℕ). zs ++ c ∷ []) one ∙ (append_assoc old a (c ∷ []) ∙ ap (λ (e : ℕ). old ++ (a ++ e ∷ [])) same))

-- what two parts added, one after the other
pub two_more : (old first second a b : List ℕ) → first ≡ old ++ a → second ≡ first ++ b → second ≡ old ++ (a ++ b)
two_more old first second a b one two = two ∙ (ap (λ (zs : List ℕ). zs ++ b) one ∙ append_assoc old a b)

-- the same of three
pub three_more : (old first second third a b c : List ℕ) → first ≡ old ++ a → second ≡ first ++ b → third ≡ second ++ c → third ≡ old ++ (a ++ (b ++ c))
three_more old first second third a b c one two three =
    three ∙ (ap (λ (zs : List ℕ). zs ++ c) (two_more old first second a b one two) ∙ (append_assoc old (a ++ b) c ∙ ap (λ (zs : List ℕ). old ++ zs) (append_assoc a b c)))
