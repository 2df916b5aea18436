-- The word that a value is, and what it asks for, by its parts.
use Rattle.std.proofs.Common.{◌≡◌, ℕ, List, [], ◌∷◌, ◌++◌, false, ◌==◌, if◌then◌else◌, refl, sym, ap, ◌∙◌, subst, arith}
use Rattle.std.proofs.lemmas.Bool.Decides.{nat_tests}
use Rattle.std.specs.declared.alloc.Global.{Global}
use Rattle.std.specs.declared.boxed.Box.{Box}
use Rattle.hz_rtl.specs.declared.block.Op1.{Op1}
use Rattle.hz_rtl.specs.declared.block.Op2.{Op2}
use Rattle.hz_rtl.specs.declared.block.Value.{Value}
use Rattle.hz_rtl.specs.declared.block.Value.TheOpen.{Value-F}
use Rattle.hz_rtl.specs.declared.block.Value.TheVariants.{Mem, Unary, Binary, Choice, rolls-Mem, rolls-Unary, rolls-Binary, rolls-Choice}
use Rattle.hz_rtl.specs.declared.block.Value.TheFolds.{fold-roll-Value}
use Rattle.hz_rtl.specs.Shape.{value, value_step, unary_operator, binary_operator}
use Rattle.hz_block_model.specs.Running.Blocks as blocks
use Rattle.hz_block_model.specs.Running.Operators as operators
use Rattle.hz_block_model.specs.Running.States.{State, cell, value_in}
use Rattle.hz_block_model.specs.Dependences.Accesses.{registers_in}
use Rattle.hz_timed.specs.Asking.{cells_asked}
use Rattle.hz_timed.proofs.AskedLemmas.{cell_more, two_more, three_more}

module _ (v : Value) (address : Box Value Global) (a : Value) (is : v ≡ Mem address) (at : a ≡ address.value) where
  memory_is : value v ≡ blocks.memory (value a)
  memory_is = ap value is ∙ (ap value (sym (rolls-Mem address)) ∙ (fold-roll-Value blocks.Value value_step (Value-F.Mem address) ∙ ap (λ (x : Value). blocks.memory (value x)) (sym at)))

  pub memory_word : (s : State) (c w : ℕ) → w ≡ s (cell c) → c ≡ value_in s (value a) → w ≡ value_in s (value v)
  memory_word s c w one two = subst (λ (x : blocks.Value). w ≡ value_in s x) (sym memory_is) (one ∙ ap (λ (e : ℕ). s (cell e)) two)

  pub memory_registers : (old new : List ℕ) → new ≡ old ++ registers_in (value a) → new ≡ old ++ registers_in (value v)
  memory_registers old new one = subst (λ (w : blocks.Value). new ≡ old ++ registers_in w) (sym memory_is) one

  pub memory_cells : (s : State) (old first second : List ℕ) (c : ℕ) → first ≡ old ++ cells_asked s (value a) → second ≡ first ++ c ∷ [] → c ≡ value_in s (value a) → second ≡ old ++ cells_asked s (value v)
  memory_cells s old first second c one two same =
      subst (λ (w : blocks.Value). second ≡ old ++ cells_asked s w) (sym memory_is) (cell_more old first second (cells_asked s (value a)) c (value_in s (value a)) one two same)

module _ (v : Value) (o : Op1) (operand : Box Value Global) (a : Value) (is : v ≡ Unary o operand) (at : a ≡ operand.value) where
  unary_is : value v ≡ blocks.unary (unary_operator o) (value a)
  unary_is = ap value is ∙ (ap value (sym (rolls-Unary o operand)) ∙ (fold-roll-Value blocks.Value value_step (Value-F.Unary o operand) ∙ ap (λ (x : Value). blocks.unary (unary_operator o) (value x)) (sym at)))

  pub unary_holds : (s : State) (x w : ℕ) → w ≡ operators.unary_word (unary_operator o) x → x ≡ value_in s (value a) → w ≡ value_in s (value v)
  unary_holds s x w one two = subst (λ (y : blocks.Value). w ≡ value_in s y) (sym unary_is) (one ∙ ap (λ (e : ℕ). operators.unary_word (unary_operator o) e) two)

  pub unary_registers : (old new : List ℕ) → new ≡ old ++ registers_in (value a) → new ≡ old ++ registers_in (value v)
  unary_registers old new one = subst (λ (y : blocks.Value). new ≡ old ++ registers_in y) (sym unary_is) one

  pub unary_cells : (s : State) (old new : List ℕ) → new ≡ old ++ cells_asked s (value a) → new ≡ old ++ cells_asked s (value v)
  unary_cells s old new one = subst (λ (y : blocks.Value). new ≡ old ++ cells_asked s y) (sym unary_is) one

module _ (v : Value) (o : Op2) (left right : Box Value Global) (l r : Value) (is : v ≡ Binary o left right) (at_left : l ≡ left.value) (at_right : r ≡ right.value) where
  binary_is : value v ≡ blocks.binary (binary_operator o) (value l) (value r)
  binary_is =
      ap value is
      ∙ (ap value (sym (rolls-Binary o left right))
      ∙ (fold-roll-Value blocks.Value value_step (Value-F.Binary o left right)
      ∙ (ap (λ (x : Value). blocks.binary (binary_operator o) (value x) (value right.value)) (sym at_left) ∙ ap (λ (x : Value). blocks.binary (binary_operator o) (value l) (value x)) (sym at_right))))

  pub binary_holds : (s : State) (x y w : ℕ) → w ≡ operators.binary_word (binary_operator o) x y → x ≡ value_in s (value l) → y ≡ value_in s (value r) → w ≡ value_in s (value v)
  binary_holds s x y w one two three =
      subst (λ (z : blocks.Value). w ≡ value_in s z) (sym binary_is)
      (one ∙ (ap (λ (e : ℕ). operators.binary_word (binary_operator o) e y) two ∙ ap (λ (e : ℕ). operators.binary_word (binary_operator o) (value_in s (value l)) e) three))

  pub binary_registers : (old first second : List ℕ) → first ≡ old ++ registers_in (value l) → second ≡ first ++ registers_in (value r) → second ≡ old ++ registers_in (value v)
  binary_registers old first second one two =
      subst (λ (w : blocks.Value). second ≡ old ++ registers_in w) (sym binary_is) (two_more old first second (registers_in (value l)) (registers_in (value r)) one two)

  pub binary_cells : (s : State) (old first second : List ℕ) → first ≡ old ++ cells_asked s (value l) → second ≡ first ++ cells_asked s (value r) → second ≡ old ++ cells_asked s (value v)
  binary_cells s old first second one two =
      subst (λ (w : blocks.Value). second ≡ old ++ cells_asked s w) (sym binary_is) (two_more old first second (cells_asked s (value l)) (cells_asked s (value r)) one two)

of_zero : (n x y : ℕ) → n ≡ 0 → (if n == 0 then x else y) ≡ x
of_zero n x y is = subst (λ (m : ℕ). (if m == 0 then x else y) ≡ x) (sym is) refl

of_more : (n x y : ℕ) → (n ≡ 0 → ⊥) → (if n == 0 then x else y) ≡ y
of_more n x y more = let test : (n == 0) ≡ false = grind (arith, nat_tests) in rw test refl

module _ (v : Value) (test first second : Box Value Global) (t a b : Value) (is : v ≡ Choice test first second) (at_test : t ≡ test.value) (at_first : a ≡ first.value) (at_second : b ≡ second.value) where
  choice_is : value v ≡ blocks.choice (value t) (value a) (value b)
  choice_is =
      ap value is
      ∙ (ap value (sym (rolls-Choice test first second))
      ∙ (fold-roll-Value blocks.Value value_step (Value-F.Choice test first second)
      ∙ (ap (λ (x : Value). blocks.choice (value x) (value first.value) (value second.value)) (sym at_test)
      ∙ (ap (λ (x : Value). blocks.choice (value t) (value x) (value second.value)) (sym at_first) ∙ ap (λ (x : Value). blocks.choice (value t) (value a) (value x)) (sym at_second)))))

  pub choice_of_zero : (s : State) (n w : ℕ) → n ≡ value_in s (value t) → n ≡ 0 → w ≡ value_in s (value b) → w ≡ value_in s (value v)
  choice_of_zero s n w one zero two =
      subst (λ (x : blocks.Value). w ≡ value_in s x) (sym choice_is) (two ∙ sym (of_zero (value_in s (value t)) (value_in s (value b)) (value_in s (value a)) (sym one ∙ zero)))

  pub choice_of_more : (s : State) (n w : ℕ) → n ≡ value_in s (value t) → (n ≡ 0 → ⊥) → w ≡ value_in s (value a) → w ≡ value_in s (value v)
  choice_of_more s n w one more two =
      subst (λ (x : blocks.Value). w ≡ value_in s x) (sym choice_is) (two ∙ sym (of_more (value_in s (value t)) (value_in s (value b)) (value_in s (value a)) (λ (e : value_in s (value t) ≡ 0). more (one ∙ e))))

  pub choice_registers : (old one two three : List ℕ) → one ≡ old ++ registers_in (value t) → two ≡ one ++ registers_in (value a) → three ≡ two ++ registers_in (value b) → three ≡ old ++ registers_in (value v)
  choice_registers old one two three x y z =
      subst (λ (w : blocks.Value). three ≡ old ++ registers_in w) (sym choice_is) (three_more old one two three (registers_in (value t)) (registers_in (value a)) (registers_in (value b)) x y z)

  pub choice_cells : (s : State) (old one two three : List ℕ) → one ≡ old ++ cells_asked s (value t) → two ≡ one ++ cells_asked s (value a) → three ≡ two ++ cells_asked s (value b) → three ≡ old ++ cells_asked s (value v)
  choice_cells s old one two three x y z =
      subst (λ (w : blocks.Value). three ≡ old ++ cells_asked s w) (sym choice_is) (three_more old one two three (cells_asked s (value t)) (cells_asked s (value a)) (cells_asked s (value b)) x y z)
