-- Values by their operands, and operands of another number than a list has in the place of a value.
use Rattle.std.proofs.Common.{◌≡◌, ℕ, List, [], ◌∷◌, length, get_or, Ok, Err, refl, sym, ◌∙◌, subst, arith}
use Rattle.hz_sexp.specs.declared.form.Form.{Form}
use Rattle.hz_sexp.specs.Shape.{tree, trees}
use Rattle.hz_block_model.specs.Running.Operators.{UnaryOperator, BinaryOperator}
use Rattle.hz_block_model.specs.Running.Blocks as running
use Rattle.hz_block_model.specs.Texts.Operands.{Judged, bad_shape, and_then}
use Rattle.hz_block_model.specs.Texts.Values.{register_code, constant_code, memory_code, choice_code, unary_code, binary_code, value_with, value_of}
use Rattle.hz_rtl.specs.declared.fault.RtlFault.{RtlFault}
use Rattle.hz_rtl.specs.declared.fault.RtlFault.TheVariants as code
use Rattle.hz_rtl.specs.Faults.{Tells}
use Rattle.hz_rtl.specs.Heads.{judged}

module _ (line : ℕ) where
  pub no_register : (operands : List Form) → (length operands ≡ 1 → ⊥) → value_with line register_code (trees operands) (judged operands) ≡ Err (bad_shape, line)
  no_register [] h = refl
  no_register (a ∷ []) h = absurd (h refl)
  no_register (a ∷ b ∷ operands) h = refl

  pub no_constant : (operands : List Form) → (length operands ≡ 1 → ⊥) → value_with line constant_code (trees operands) (judged operands) ≡ Err (bad_shape, line)
  no_constant [] h = refl
  no_constant (a ∷ []) h = absurd (h refl)
  no_constant (a ∷ b ∷ operands) h = refl

  pub no_memory : (operands : List Form) → (length operands ≡ 1 → ⊥) → value_with line memory_code (trees operands) (judged operands) ≡ Err (bad_shape, line)
  no_memory [] h = refl
  no_memory (a ∷ []) h = absurd (h refl)
  no_memory (a ∷ b ∷ operands) h = refl

  pub no_unary : (operator : UnaryOperator) (operands : List Form) → (length operands ≡ 1 → ⊥) → value_with line (unary_code operator) (trees operands) (judged operands) ≡ Err (bad_shape, line)
  no_unary operator [] h = refl
  no_unary operator (a ∷ []) h = absurd (h refl)
  no_unary operator (a ∷ b ∷ operands) h = refl

  pub no_binary : (operator : BinaryOperator) (operands : List Form) → (length operands ≡ 2 → ⊥) → value_with line (binary_code operator) (trees operands) (judged operands) ≡ Err (bad_shape, line)
  no_binary operator [] h = refl
  no_binary operator (a ∷ []) h = refl
  no_binary operator (a ∷ b ∷ []) h = absurd (h refl)
  no_binary operator (a ∷ b ∷ c ∷ operands) h = refl

  pub no_choice : (operands : List Form) → (length operands ≡ 3 → ⊥) → value_with line choice_code (trees operands) (judged operands) ≡ Err (bad_shape, line)
  no_choice [] h = refl
  no_choice (a ∷ []) h = refl
  no_choice (a ∷ b ∷ []) h = refl
  no_choice (a ∷ b ∷ c ∷ []) h = absurd (h refl)
  no_choice (a ∷ b ∷ c ∷ d ∷ operands) h = refl

-- ---- what is wrong

-- what is wrong with an operand is wrong with what leads on from it
pub tells_on : {A B : Type 0} (first : Judged A) (next : A → Judged B) (wrong : RtlFault) → Tells (λ fault at. first ≡ Err (fault, at)) wrong → Tells (λ fault at. and_then first next ≡ Err (fault, at)) wrong
tells_on first next (code.BadShape line) h = rw h refl
tells_on first next (code.UnknownCode line) h = rw h refl
tells_on first next (code.RegisterRange line) h = rw h refl
tells_on first next (code.Twice line) h = rw h refl
tells_on first next (code.InsnLimit line) h = rw h refl
tells_on first next code.NoMemory h = tt

-- the same of what is wrong with all that is judged
tells_of : {A B : Type 0} (all : Judged B) (first : Judged A) (next : A → Judged B) (wrong : RtlFault) → all ≡ and_then first next → Tells (λ fault at. first ≡ Err (fault, at)) wrong → Tells (λ fault at. all ≡ Err (fault, at)) wrong
tells_of {B = B} all first next wrong is h = subst (λ (said : Judged B). Tells (λ fault at. said ≡ Err (fault, at)) wrong) (sym is) (tells_on first next wrong h)

-- ---- values by their operands

module _ (line : ℕ) (operands : List Form) where
  module _ (operand : Form) (few : length operands ≡ 1) (is : operand ≡ get_or operands 0 operand) where
    abbrev one : Judged running.Value
    one = value_of (tree operand)

    memory_is : value_with line memory_code (trees operands) (judged operands) ≡ and_then one (λ a. Ok (running.memory a))
    memory_is = go operands few is
      where
        go : (os : List Form) → length os ≡ 1 → operand ≡ get_or os 0 operand → value_with line memory_code (trees os) (judged os) ≡ and_then one (λ a. Ok (running.memory a))
        go (a ∷ []) h e = rw e refl
        go [] h e = absurd (omega arith)
        go (a ∷ b ∷ os) h e = absurd (omega arith)

    unary_is : (operator : UnaryOperator) → value_with line (unary_code operator) (trees operands) (judged operands) ≡ and_then one (λ a. Ok (running.unary operator a))
    unary_is operator = go operands few is
      where
        go : (os : List Form) → length os ≡ 1 → operand ≡ get_or os 0 operand → value_with line (unary_code operator) (trees os) (judged os) ≡ and_then one (λ a. Ok (running.unary operator a))
        go (a ∷ []) h e = rw e refl
        go [] h e = absurd (omega arith)
        go (a ∷ b ∷ os) h e = absurd (omega arith)

    pub memory_fails : (wrong : RtlFault) → Tells (λ fault at. one ≡ Err (fault, at)) wrong → Tells (λ fault at. value_with line memory_code (trees operands) (judged operands) ≡ Err (fault, at)) wrong
    memory_fails wrong h = tells_of _ one (λ a. Ok (running.memory a)) wrong memory_is h

    pub memory_made : (a v : running.Value) → one ≡ Ok a → v ≡ running.memory a → value_with line memory_code (trees operands) (judged operands) ≡ Ok v
    memory_made a v e made = memory_is ∙ rw (e, made) refl

    pub unary_fails : (operator : UnaryOperator) (wrong : RtlFault) → Tells (λ fault at. one ≡ Err (fault, at)) wrong → Tells (λ fault at. value_with line (unary_code operator) (trees operands) (judged operands) ≡ Err (fault, at)) wrong
    unary_fails operator wrong h = tells_of _ one (λ a. Ok (running.unary operator a)) wrong (unary_is operator) h

    pub unary_made : (operator : UnaryOperator) (a v : running.Value) → one ≡ Ok a → v ≡ running.unary operator a → value_with line (unary_code operator) (trees operands) (judged operands) ≡ Ok v
    unary_made operator a v e made = unary_is operator ∙ rw (e, made) refl

  module _ (operator : BinaryOperator) (left right : Form) (few : length operands ≡ 2) (l : left ≡ get_or operands 0 left) (r : right ≡ get_or operands 1 right) where
    abbrev both : running.Value → Judged running.Value
    both a = and_then (value_of (tree right)) (λ b. Ok (running.binary operator a b))

    binary_is : value_with line (binary_code operator) (trees operands) (judged operands) ≡ and_then (value_of (tree left)) both
    binary_is = go operands few l r
      where
        go : (os : List Form) → length os ≡ 2 → left ≡ get_or os 0 left → right ≡ get_or os 1 right → value_with line (binary_code operator) (trees os) (judged os) ≡ and_then (value_of (tree left)) both
        go (a ∷ b ∷ []) h e f = rw (e, f) refl
        go [] h e f = absurd (omega arith)
        go (a ∷ []) h e f = absurd (omega arith)
        go (a ∷ b ∷ c ∷ os) h e f = absurd (omega arith)

    pub left_fails : (wrong : RtlFault) → Tells (λ fault at. value_of (tree left) ≡ Err (fault, at)) wrong → Tells (λ fault at. value_with line (binary_code operator) (trees operands) (judged operands) ≡ Err (fault, at)) wrong
    left_fails wrong h = tells_of _ (value_of (tree left)) both wrong binary_is h

    pub right_fails : (a : running.Value) (wrong : RtlFault) → value_of (tree left) ≡ Ok a → Tells (λ fault at. value_of (tree right) ≡ Err (fault, at)) wrong → Tells (λ fault at. value_with line (binary_code operator) (trees operands) (judged operands) ≡ Err (fault, at)) wrong
    right_fails a wrong e h = tells_of _ (value_of (tree right)) (λ b. Ok (running.binary operator a b)) wrong (binary_is ∙ rw e refl) h

    pub binary_made : (a b v : running.Value) → value_of (tree left) ≡ Ok a → value_of (tree right) ≡ Ok b → v ≡ running.binary operator a b → value_with line (binary_code operator) (trees operands) (judged operands) ≡ Ok v
    binary_made a b v e f made = binary_is ∙ rw (e, f, made) refl

  module _ (test first second : Form) (few : length operands ≡ 3) (t : test ≡ get_or operands 0 test) (f : first ≡ get_or operands 1 first) (s : second ≡ get_or operands 2 second) where
    abbrev last : running.Value → running.Value → Judged running.Value
    last a b = and_then (value_of (tree second)) (λ c. Ok (running.choice a b c))

    abbrev chosen : running.Value → Judged running.Value
    chosen a = and_then (value_of (tree first)) (last a)

    choice_is : value_with line choice_code (trees operands) (judged operands) ≡ and_then (value_of (tree test)) chosen
    choice_is = go operands few t f s
      where
        go : (os : List Form) → length os ≡ 3 → test ≡ get_or os 0 test → first ≡ get_or os 1 first → second ≡ get_or os 2 second → value_with line choice_code (trees os) (judged os) ≡ and_then (value_of (tree test)) chosen
        go (a ∷ b ∷ c ∷ []) h d e g = rw (d, e, g) refl
        go [] h d e g = absurd (omega arith)
        go (a ∷ []) h d e g = absurd (omega arith)
        go (a ∷ b ∷ []) h d e g = absurd (omega arith)
        go (a ∷ b ∷ c ∷ x ∷ os) h d e g = absurd (omega arith)

    pub test_fails : (wrong : RtlFault) → Tells (λ fault at. value_of (tree test) ≡ Err (fault, at)) wrong → Tells (λ fault at. value_with line choice_code (trees operands) (judged operands) ≡ Err (fault, at)) wrong
    test_fails wrong h = tells_of _ (value_of (tree test)) chosen wrong choice_is h

    pub first_fails : (a : running.Value) (wrong : RtlFault) → value_of (tree test) ≡ Ok a → Tells (λ fault at. value_of (tree first) ≡ Err (fault, at)) wrong → Tells (λ fault at. value_with line choice_code (trees operands) (judged operands) ≡ Err (fault, at)) wrong
    first_fails a wrong d h = tells_of _ (value_of (tree first)) (last a) wrong (choice_is ∙ rw d refl) h

    pub second_fails : (a b : running.Value) (wrong : RtlFault) → value_of (tree test) ≡ Ok a → value_of (tree first) ≡ Ok b → Tells (λ fault at. value_of (tree second) ≡ Err (fault, at)) wrong → Tells (λ fault at. value_with line choice_code (trees operands) (judged operands) ≡ Err (fault, at)) wrong
    second_fails a b wrong d e h = tells_of _ (value_of (tree second)) (λ c. Ok (running.choice a b c)) wrong (choice_is ∙ rw (d, e) refl) h

    pub choice_made : (a b c v : running.Value) → value_of (tree test) ≡ Ok a → value_of (tree first) ≡ Ok b → value_of (tree second) ≡ Ok c → v ≡ running.choice a b c → value_with line choice_code (trees operands) (judged operands) ≡ Ok v
    choice_made a b c v d e g made = choice_is ∙ rw (d, e, g, made) refl
