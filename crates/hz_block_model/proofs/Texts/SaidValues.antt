-- Values, places, effects and patterns: what is read of a form is what its grammar says, and the other way round.
use Rattle.std.proofs.Common.{◌≡◌, ◌⊎◌, inl, inr, ⊎_elim, ℕ, ◌^◌, Bool, true, false, cond, List, [], ◌∷◌, Option, Some, None, Ok, Err, pos, negsuc, refl, sym, ap, ◌∙◌, subst}
use Rattle.std.specs.Prelude.{codes, nat_lt}
use Rattle.std.specs.Str.{bytes_eq}
use Rattle.std.specs.Option.{option_map, option_or}
use Rattle.std.proofs.lemmas.Bool.{lt-ltb, ltb-true}
use Rattle.std.proofs.lemmas.Slice.Eq.{bytes_eq-Decides}
use Rattle.hz_base_model.specs.Names.{is_name}
use Rattle.hz_base_model.specs.Forms.Trees.{Tree, Trees, list, vector, atom, quoted, number, none, more}
use Rattle.hz_block_model.specs.Running.Operators.{UnaryOperator, neg, complement, BinaryOperator, plus, minus, mult, udiv, umod, conjunction, disjunction, exclusive, ashift, lshiftrt, ashiftrt, eq, ne, ltu, lt}
use Rattle.hz_block_model.specs.Running.Blocks.{Value, register, constant, memory, unary, binary, choice, Target, into, cell_at, Effect, assign, clobber, mention}
use Rattle.hz_block_model.specs.Texts.Operands.{Judged, RtlFault, bad_shape, unknown_code, register_range, and_then, or_fault, by_head, register_in, word_in, number_in, name_in}
use Rattle.hz_block_model.specs.Texts.Values.{ValueCode, register_code, constant_code, memory_code, choice_code, unary_code, binary_code, unary_operator, arithmetic_operator, bit_operator, comparison, binary_operator, operator_code, value_code, value_with, value_of, values_of, TargetCode, into_code, cell_code, target_code, target_with, target_of, EffectCode, set_code, clobber_code, use_code, effect_code, effect_with, effect_headed, effect_of}
use Rattle.hz_block_model.specs.Texts.BlockForms.{effects_of, effect_vector, parallel_with, pattern_headed, pattern_of}
use Rattle.hz_block_model.specs.Texts.Grammar.{headed, one, two, three, unary_name, binary_name, IsRegister, a_register, IsWord, a_word, IsNumber, a_number, IsName, a_name, IsValue, reg_value, const_value, mem_value, unary_value, binary_value, choice_value, IsPlace, reg_place, mem_place, IsEffect, set_effect, clobber_effect, use_effect, EachIs, nothing_is, each_is, IsVector, a_vector, IsPattern, one_effect, parallel_effects}
use Rattle.hz_block_model.specs.Texts.WrongForms.{value_name, place_name, effect_name}
use Rattle.hz_block_model.proofs.Texts.Numbers.{ok_of}

-- ---- tables of words

-- a word is the first of a table, or the rest has it
pub first_word : {A : Type 0} (word name : List ℕ) (x y : A) (rest : Option A) → cond (bytes_eq word name) (Some x) rest ≡ Some y → ((word ≡ name) × (x ≡ y)) ⊎ (rest ≡ Some y)
first_word {A = A} word name x y rest = by_test (bytes_eq word name) refl
  where
    by_test : (t : Bool) → bytes_eq word name ≡ t → cond t (Some x) rest ≡ Some y → ((word ≡ name) × (x ≡ y)) ⊎ (rest ≡ Some y)
    by_test true e h = inl ((bytes_eq-Decides word name).0 e, cc)
    by_test false e h = inr h

-- the first of two tables, or the second
either_word : {A : Type 0} (o rest : Option A) (y : A) → option_or o rest ≡ Some y → (o ≡ Some y) ⊎ (rest ≡ Some y)
either_word (Some x) rest y h = inl h
either_word None rest y h = inr h

mapped_word : {A B : Type 0} (f : A → B) (o : Option A) (y : B) → option_map f o ≡ Some y → (x : A) × (o ≡ Some x) × (f x ≡ y)
mapped_word f (Some x) y h = (x, refl, cc)
mapped_word f None y h = absurd (cc)

module _ (word : List ℕ) where
  unary_is : (operator : UnaryOperator) → unary_operator word ≡ Some operator → word ≡ unary_name operator
  unary_is operator h =
      ⊎_elim (λ (e : (word ≡ codes "neg") × (neg ≡ operator)). e.0 ∙ ap unary_name e.1)
      (λ k. ⊎_elim (λ (e : (word ≡ codes "not") × (complement ≡ operator)). e.0 ∙ ap unary_name e.1) (λ n. absurd (let e : None ≡ Some operator = n in cc)) (first_word word (codes "not") complement operator None k))
      (first_word word (codes "neg") neg operator _ h)

  -- the word of one operator of a table
  abbrev Named : BinaryOperator → Type 0
  Named operator = word ≡ binary_name operator

  named : (name : List ℕ) (one other : BinaryOperator) (rest : Option BinaryOperator) → binary_name one ≡ name → cond (bytes_eq word name) (Some one) rest ≡ Some other → (rest ≡ Some other → Named other) → Named other
  named name first other rest is h further =
      ⊎_elim (λ (e : (word ≡ name) × (first ≡ other)). e.0 ∙ (sym is ∙ ap binary_name e.1)) further (first_word word name first other rest h)

  no_more : (operator : BinaryOperator) → ◌≡◌ {A = Option BinaryOperator} None (Some operator) → Named operator
  no_more operator h = absurd (cc)

  arithmetic_is : (operator : BinaryOperator) → arithmetic_operator word ≡ Some operator → Named operator
  arithmetic_is operator h =
      named (codes "plus") plus operator _ refl h (λ h. named (codes "minus") minus operator _ refl h (λ h. named (codes "mult") mult operator _ refl h (λ h.
      named (codes "udiv") udiv operator _ refl h (λ h. named (codes "umod") umod operator _ refl h (no_more operator)))))

  bits_is : (operator : BinaryOperator) → bit_operator word ≡ Some operator → Named operator
  bits_is operator h =
      named (codes "and") conjunction operator _ refl h (λ h. named (codes "ior") disjunction operator _ refl h (λ h. named (codes "xor") exclusive operator _ refl h (λ h.
      named (codes "ashift") ashift operator _ refl h (λ h. named (codes "lshiftrt") lshiftrt operator _ refl h (λ h. named (codes "ashiftrt") ashiftrt operator _ refl h (no_more operator))))))

  comparison_is : (operator : BinaryOperator) → comparison word ≡ Some operator → Named operator
  comparison_is operator h =
      named (codes "eq") eq operator _ refl h (λ h. named (codes "ne") ne operator _ refl h (λ h.
      named (codes "ltu") ltu operator _ refl h (λ h. named (codes "lt") lt operator _ refl h (no_more operator))))

  binary_is : (operator : BinaryOperator) → binary_operator word ≡ Some operator → Named operator
  binary_is operator h =
      ⊎_elim (arithmetic_is operator) (λ k. ⊎_elim (bits_is operator) (comparison_is operator) (either_word (bit_operator word) (comparison word) operator k))
      (either_word (arithmetic_operator word) (option_or (bit_operator word) (comparison word)) operator h)

  operator_is : (code : ValueCode) → operator_code word ≡ Some code → word ≡ value_name code
  operator_is code h =
      ⊎_elim
      (λ k. let m = mapped_word binary_code (binary_operator word) code k in binary_is m.0 m.1 ∙ ap value_name m.2)
      (λ k. let m = mapped_word unary_code (unary_operator word) code k in unary_is m.0 m.1 ∙ ap value_name m.2)
      (either_word (option_map binary_code (binary_operator word)) (option_map unary_code (unary_operator word)) code h)

  valued : (name : List ℕ) (one other : ValueCode) (rest : Option ValueCode) → value_name one ≡ name → cond (bytes_eq word name) (Some one) rest ≡ Some other → (rest ≡ Some other → word ≡ value_name other) → word ≡ value_name other
  valued name first other rest is h further =
      ⊎_elim (λ (e : (word ≡ name) × (first ≡ other)). e.0 ∙ (sym is ∙ ap value_name e.1)) further (first_word word name first other rest h)

  pub value_word : (code : ValueCode) → value_code word ≡ Some code → word ≡ value_name code
  value_word code h =
      valued (codes "reg") register_code code _ refl h (λ h. valued (codes "const_int") constant_code code _ refl h (λ h.
      valued (codes "mem") memory_code code _ refl h (λ h. valued (codes "if_then_else") choice_code code _ refl h (operator_is code))))

  pub place_word : (code : TargetCode) → target_code word ≡ Some code → word ≡ place_name code
  place_word code h =
      ⊎_elim (λ (e : (word ≡ codes "reg") × (into_code ≡ code)). e.0 ∙ ap place_name e.1)
      (λ k. ⊎_elim (λ (e : (word ≡ codes "mem") × (cell_code ≡ code)). e.0 ∙ ap place_name e.1) (λ n. absurd (let e : None ≡ Some code = n in cc)) (first_word word (codes "mem") cell_code code None k))
      (first_word word (codes "reg") into_code code _ h)

  pub effect_word : (code : EffectCode) → effect_code word ≡ Some code → word ≡ effect_name code
  effect_word code h =
      ⊎_elim (λ (e : (word ≡ codes "set") × (set_code ≡ code)). e.0 ∙ ap effect_name e.1)
      (λ k. ⊎_elim (λ (e : (word ≡ codes "clobber") × (clobber_code ≡ code)). e.0 ∙ ap effect_name e.1)
      (λ k. ⊎_elim (λ (e : (word ≡ codes "use") × (use_code ≡ code)). e.0 ∙ ap effect_name e.1) (λ n. absurd (let e : None ≡ Some code = n in cc)) (first_word word (codes "use") use_code code None k))
      (first_word word (codes "clobber") clobber_code code _ k))
      (first_word word (codes "set") set_code code _ h)

unary_named : (operator : UnaryOperator) → value_code (unary_name operator) ≡ Some (unary_code operator)
unary_named neg = refl
unary_named complement = refl

binary_named : (operator : BinaryOperator) → value_code (binary_name operator) ≡ Some (binary_code operator)
binary_named plus = refl
binary_named minus = refl
binary_named mult = refl
binary_named udiv = refl
binary_named umod = refl
binary_named conjunction = refl
binary_named disjunction = refl
binary_named exclusive = refl
binary_named ashift = refl
binary_named lshiftrt = refl
binary_named ashiftrt = refl
binary_named eq = refl
binary_named ne = refl
binary_named ltu = refl
binary_named lt = refl

pub value_named : (code : ValueCode) → value_code (value_name code) ≡ Some code
value_named register_code = refl
value_named constant_code = refl
value_named memory_code = refl
value_named choice_code = refl
value_named (unary_code operator) = unary_named operator
value_named (binary_code operator) = binary_named operator

pub place_named : (code : TargetCode) → target_code (place_name code) ≡ Some code
place_named into_code = refl
place_named cell_code = refl

pub effect_named : (code : EffectCode) → effect_code (effect_name code) ≡ Some code
effect_named set_code = refl
effect_named clobber_code = refl
effect_named use_code = refl

-- ---- numbers, words and names

pub test_ok : {A : Type 0} (t : Bool) (x y : A) (f : RtlFault × ℕ) → cond t (Ok x) (Err f) ≡ Ok y → (t ≡ true) × (x ≡ y)
test_ok true x y f h = (refl, cc)
test_ok false x y f h = absurd (cc)

pub register_said : (form : Tree) (n : ℕ) → register_in form ≡ Ok n → IsRegister form n
register_said (number line (pos m)) n h =
    let (low, same) = test_ok (nat_lt m 256) m n (register_range, line) h in
    subst (IsRegister (number line (pos m))) same (a_register (ltb-true m 256 low))
register_said (number line (negsuc m)) n h = absurd (cc)
register_said (list line forms) n h = absurd (cc)
register_said (vector line forms) n h = absurd (cc)
register_said (atom line bytes) n h = absurd (cc)
register_said (quoted line bytes) n h = absurd (cc)

pub register_comes : {form : Tree} {n : ℕ} → IsRegister form n → register_in form ≡ Ok n
register_comes (a_register {n = n} low) = rw (lt-ltb n 256 low) refl

pub word_said : (form : Tree) (word : ℕ) → word_in form ≡ Ok word → IsWord form word
word_said (number line value) word h = subst (IsWord (number line value)) (cc) a_word
word_said (list line forms) n h = absurd (cc)
word_said (vector line forms) n h = absurd (cc)
word_said (atom line bytes) n h = absurd (cc)
word_said (quoted line bytes) n h = absurd (cc)

pub word_comes : {form : Tree} {word : ℕ} → IsWord form word → word_in form ≡ Ok word
word_comes a_word = refl

pub number_said : (form : Tree) (n : ℕ) → number_in form ≡ Ok n → IsNumber form n
number_said (number line (pos m)) n h =
    let (low, same) = test_ok (nat_lt m (2 ^ 32)) m n (bad_shape, line) h in
    subst (IsNumber (number line (pos m))) same (a_number (ltb-true m (2 ^ 32) low))
number_said (number line (negsuc m)) n h = absurd (cc)
number_said (list line forms) n h = absurd (cc)
number_said (vector line forms) n h = absurd (cc)
number_said (atom line bytes) n h = absurd (cc)
number_said (quoted line bytes) n h = absurd (cc)

pub number_comes : {form : Tree} {n : ℕ} → IsNumber form n → number_in form ≡ Ok n
number_comes (a_number {n = n} low) = rw (lt-ltb n (2 ^ 32) low) refl

pub name_said : (form : Tree) (name : List ℕ) → name_in form ≡ Ok name → IsName form name
name_said (quoted line bytes) name h =
    let (is, same) = test_ok (is_name bytes) bytes name (bad_shape, line) h in
    subst (IsName (quoted line bytes)) same (a_name is)
name_said (number line value) n h = absurd (cc)
name_said (list line forms) n h = absurd (cc)
name_said (vector line forms) n h = absurd (cc)
name_said (atom line bytes) n h = absurd (cc)

pub name_comes : {form : Tree} {name : List ℕ} → IsName form name → name_in form ≡ Ok name
name_comes (a_name is) = rw is refl

-- ---- values

-- what each of some forms says as a value
abbrev EachSaid : Trees → Type 0
EachSaid none = Unit {0}
EachSaid (more first others) = ((value : Value) → value_of first ≡ Ok value → IsValue first value) × EachSaid others

pub found : {A : Type 0} (o : Option A) (line : ℕ) (x : A) → or_fault unknown_code line o ≡ Ok x → o ≡ Some x
found (Some y) line x h = cc
found None line x h = absurd (cc)

value_with_said : (line at : ℕ) (code : ValueCode) (operands : Trees) → EachSaid operands → (value : Value) → value_with line code operands (values_of operands) ≡ Ok value → IsValue (headed line at (value_name code) operands) value
unfolding value_of
value_with_said line at register_code (more a none) each value h =
    let n = ok_of (register_in a) (λ n. Ok (register n)) value h in
    subst (IsValue (headed line at (codes "reg") (one a))) (let same : register n.0 ≡ value = cc (n.2) in same) (reg_value (register_said a n.0 n.1))
value_with_said line at register_code none each value h = absurd (cc)
value_with_said line at register_code (more a (more b rest)) each value h = absurd (cc)
value_with_said line at constant_code (more a none) each value h =
    let n = ok_of (word_in a) (λ n. Ok (constant n)) value h in
    subst (IsValue (headed line at (codes "const_int") (one a))) (let same : constant n.0 ≡ value = cc (n.2) in same) (const_value (word_said a n.0 n.1))
value_with_said line at constant_code none each value h = absurd (cc)
value_with_said line at constant_code (more a (more b rest)) each value h = absurd (cc)
value_with_said line at memory_code (more a none) each value h =
    let n = ok_of (value_of a) (λ n. Ok (memory n)) value h in
    subst (IsValue (headed line at (codes "mem") (one a))) (let same : memory n.0 ≡ value = cc (n.2) in same) (mem_value (each.0 n.0 n.1))
value_with_said line at memory_code none each value h = absurd (cc)
value_with_said line at memory_code (more a (more b rest)) each value h = absurd (cc)
value_with_said line at (unary_code operator) (more a none) each value h =
    let n = ok_of (value_of a) (λ n. Ok (unary operator n)) value h in
    subst (IsValue (headed line at (unary_name operator) (one a))) (let same : unary operator n.0 ≡ value = cc (n.2) in same) (unary_value operator (each.0 n.0 n.1))
value_with_said line at (unary_code operator) none each value h = absurd (cc)
value_with_said line at (unary_code operator) (more a (more b rest)) each value h = absurd (cc)
value_with_said line at (binary_code operator) (more a (more b none)) each value h =
    let n = ok_of (value_of a) (λ n. and_then (value_of b) (λ m. Ok (binary operator n m))) value h in
    let m = ok_of (value_of b) (λ m. Ok (binary operator n.0 m)) value n.2 in
    subst (IsValue (headed line at (binary_name operator) (two a b))) (let same : binary operator n.0 m.0 ≡ value = cc (m.2) in same) (binary_value operator (each.0 n.0 n.1) ((each.1).0 m.0 m.1))
value_with_said line at (binary_code operator) none each value h = absurd (cc)
value_with_said line at (binary_code operator) (more a none) each value h = absurd (cc)
value_with_said line at (binary_code operator) (more a (more b (more c rest))) each value h = absurd (cc)
value_with_said line at choice_code (more a (more b (more c none))) each value h =
    let n = ok_of (value_of a) (λ n. and_then (value_of b) (λ m. and_then (value_of c) (λ k. Ok (choice n m k)))) value h in
    let m = ok_of (value_of b) (λ m. and_then (value_of c) (λ k. Ok (choice n.0 m k))) value n.2 in
    let k = ok_of (value_of c) (λ k. Ok (choice n.0 m.0 k)) value m.2 in
    subst (IsValue (headed line at (codes "if_then_else") (three a b c))) (let same : choice n.0 m.0 k.0 ≡ value = cc (k.2) in same) (choice_value (each.0 n.0 n.1) ((each.1).0 m.0 m.1) (((each.1).1).0 k.0 k.1))
value_with_said line at choice_code none each value h = absurd (cc)
value_with_said line at choice_code (more a none) each value h = absurd (cc)
value_with_said line at choice_code (more a (more b none)) each value h = absurd (cc)
value_with_said line at choice_code (more a (more b (more c (more d rest)))) each value h = absurd (cc)

headed_said : (line at : ℕ) (word : List ℕ) (operands : Trees) → EachSaid operands → (value : Value) → value_of (headed line at word operands) ≡ Ok value → IsValue (headed line at word operands) value
unfolding value_of
headed_said line at word operands each value h =
    let code = ok_of (or_fault unknown_code line (value_code word)) (λ code. value_with line code operands (values_of operands)) value h in
    subst (λ (w : List ℕ). IsValue (headed line at w operands) value) (sym (value_word word code.0 (found (value_code word) line code.0 code.1))) (value_with_said line at code.0 operands each value code.2)

-- a list, by what it begins with
list_said : (line : ℕ) (forms : Trees) → EachSaid forms → (value : Value) → value_of (list line forms) ≡ Ok value → IsValue (list line forms) value
unfolding value_of
list_said line none each value h = absurd (cc)
list_said line (more (atom at word) operands) each value h = headed_said line at word operands each.1 value h
list_said line (more (list at forms) operands) each value h = absurd (cc)
list_said line (more (vector at forms) operands) each value h = absurd (cc)
list_said line (more (quoted at bytes) operands) each value h = absurd (cc)
list_said line (more (number at n) operands) each value h = absurd (cc)

mutual
  unfolding value_of

  pub value_said : (form : Tree) (value : Value) → value_of form ≡ Ok value → IsValue form value
  value_said (list line forms) = list_said line forms (each_said forms)
  value_said (vector line forms) = λ value h. absurd (cc)
  value_said (atom line bytes) = λ value h. absurd (cc)
  value_said (quoted line bytes) = λ value h. absurd (cc)
  value_said (number line n) = λ value h. absurd (cc)

  each_said : (forms : Trees) → EachSaid forms
  each_said none = tt
  each_said (more first others) = (value_said first, each_said others)

-- a value of a list is that of its operands
pub value_headed : (line at : ℕ) (code : ValueCode) (operands : Trees) → value_of (headed line at (value_name code) operands) ≡ value_with line code operands (values_of operands)
unfolding value_of
value_headed line at code operands = rw (value_named code) refl

pub value_one : (a : Tree) → values_of (one a) ≡ value_of a ∷ []
unfolding value_of
value_one a = refl

pub value_two : (a b : Tree) → values_of (two a b) ≡ value_of a ∷ value_of b ∷ []
unfolding value_of
value_two a b = refl

pub value_three : (a b c : Tree) → values_of (three a b c) ≡ value_of a ∷ value_of b ∷ value_of c ∷ []
unfolding value_of
value_three a b c = refl

pub value_comes : {form : Tree} {value : Value} → IsValue form value → value_of form ≡ Ok value
value_comes (reg_value {line = line} {at = at} {operand = a} is) = value_headed line at register_code (one a) ∙ rw (register_comes is) refl
value_comes (const_value {line = line} {at = at} {operand = a} is) = value_headed line at constant_code (one a) ∙ rw (word_comes is) refl
value_comes (mem_value {line = line} {at = at} {operand = a} is) = value_headed line at memory_code (one a) ∙ rw (value_one a, value_comes is) refl
value_comes (unary_value {line = line} {at = at} {operand = a} operator is) = value_headed line at (unary_code operator) (one a) ∙ rw (value_one a, value_comes is) refl
value_comes (binary_value {line = line} {at = at} {first = a} {second = b} operator left right) = value_headed line at (binary_code operator) (two a b) ∙ rw (value_two a b, value_comes left, value_comes right) refl
value_comes (choice_value {line = line} {at = at} {first = a} {second = b} {third = c} test left right) = value_headed line at choice_code (three a b c) ∙ rw (value_three a b c, value_comes test, value_comes left, value_comes right) refl

-- ---- places and effects

pub by_head_said : {A : Type 0} (P : Tree → A → Type 0) (says : ℕ → List ℕ → Trees → Judged A) → ((line at : ℕ) (word : List ℕ) (operands : Trees) (x : A) → says line word operands ≡ Ok x → P (headed line at word operands) x)
    → (form : Tree) (x : A) → by_head says form ≡ Ok x → P form x
by_head_said P says each (list line (more (atom at word) operands)) x h = each line at word operands x h
by_head_said P says each (list line none) x h = absurd (cc)
by_head_said P says each (list line (more (list at forms) operands)) x h = absurd (cc)
by_head_said P says each (list line (more (vector at forms) operands)) x h = absurd (cc)
by_head_said P says each (list line (more (quoted at bytes) operands)) x h = absurd (cc)
by_head_said P says each (list line (more (number at n) operands)) x h = absurd (cc)
by_head_said P says each (vector line forms) x h = absurd (cc)
by_head_said P says each (atom line bytes) x h = absurd (cc)
by_head_said P says each (quoted line bytes) x h = absurd (cc)
by_head_said P says each (number line n) x h = absurd (cc)

target_with_said : (line at : ℕ) (code : TargetCode) (operands : Trees) (place : Target) → target_with line code operands ≡ Ok place → IsPlace (headed line at (place_name code) operands) place
target_with_said line at into_code (more a none) place h =
    let n = ok_of (register_in a) (λ n. Ok (into n)) place h in
    subst (IsPlace (headed line at (codes "reg") (one a))) (let same : into n.0 ≡ place = cc (n.2) in same) (reg_place (register_said a n.0 n.1))
target_with_said line at into_code none place h = absurd (cc)
target_with_said line at into_code (more a (more b rest)) place h = absurd (cc)
target_with_said line at cell_code (more a none) place h =
    let n = ok_of (value_of a) (λ n. Ok (cell_at n)) place h in
    subst (IsPlace (headed line at (codes "mem") (one a))) (let same : cell_at n.0 ≡ place = cc (n.2) in same) (mem_place (value_said a n.0 n.1))
target_with_said line at cell_code none place h = absurd (cc)
target_with_said line at cell_code (more a (more b rest)) place h = absurd (cc)

pub place_said : (form : Tree) (place : Target) → target_of form ≡ Ok place → IsPlace form place
place_said = by_head_said IsPlace (λ line word operands. and_then (or_fault unknown_code line (target_code word)) (λ code. target_with line code operands)) each
  where
    each : (line at : ℕ) (word : List ℕ) (operands : Trees) (place : Target) → and_then (or_fault unknown_code line (target_code word)) (λ code. target_with line code operands) ≡ Ok place → IsPlace (headed line at word operands) place
    each line at word operands place h =
        let code = ok_of (or_fault unknown_code line (target_code word)) (λ code. target_with line code operands) place h in
        subst (λ (w : List ℕ). IsPlace (headed line at w operands) place) (sym (place_word word code.0 (found (target_code word) line code.0 code.1))) (target_with_said line at code.0 operands place code.2)

pub place_comes : {form : Tree} {place : Target} → IsPlace form place → target_of form ≡ Ok place
place_comes (reg_place is) = rw (register_comes is) refl
place_comes (mem_place is) = rw (value_comes is) refl

effect_with_said : (line at : ℕ) (code : EffectCode) (operands : Trees) (effect : Effect) → effect_with line code operands ≡ Ok effect → IsEffect (headed line at (effect_name code) operands) effect
effect_with_said line at set_code (more a (more b none)) effect h =
    let n = ok_of (target_of a) (λ n. and_then (value_of b) (λ m. Ok (assign n m))) effect h in
    let m = ok_of (value_of b) (λ m. Ok (assign n.0 m)) effect n.2 in
    subst (IsEffect (headed line at (codes "set") (two a b))) (let same : assign n.0 m.0 ≡ effect = cc (m.2) in same) (set_effect (place_said a n.0 n.1) (value_said b m.0 m.1))
effect_with_said line at set_code none effect h = absurd (cc)
effect_with_said line at set_code (more a none) effect h = absurd (cc)
effect_with_said line at set_code (more a (more b (more c rest))) effect h = absurd (cc)
effect_with_said line at clobber_code (more a none) effect h =
    let n = ok_of (target_of a) (λ n. Ok (clobber n)) effect h in
    subst (IsEffect (headed line at (codes "clobber") (one a))) (let same : clobber n.0 ≡ effect = cc (n.2) in same) (clobber_effect (place_said a n.0 n.1))
effect_with_said line at clobber_code none effect h = absurd (cc)
effect_with_said line at clobber_code (more a (more b rest)) effect h = absurd (cc)
effect_with_said line at use_code (more a none) effect h =
    let n = ok_of (value_of a) (λ n. Ok (mention n)) effect h in
    subst (IsEffect (headed line at (codes "use") (one a))) (let same : mention n.0 ≡ effect = cc (n.2) in same) (use_effect (value_said a n.0 n.1))
effect_with_said line at use_code none effect h = absurd (cc)
effect_with_said line at use_code (more a (more b rest)) effect h = absurd (cc)

headed_effect_said : (line at : ℕ) (word : List ℕ) (operands : Trees) (effect : Effect) → effect_headed line word operands ≡ Ok effect → IsEffect (headed line at word operands) effect
headed_effect_said line at word operands effect h =
    let code = ok_of (or_fault unknown_code line (effect_code word)) (λ code. effect_with line code operands) effect h in
    subst (λ (w : List ℕ). IsEffect (headed line at w operands) effect) (sym (effect_word word code.0 (found (effect_code word) line code.0 code.1))) (effect_with_said line at code.0 operands effect code.2)

pub effect_said : (form : Tree) (effect : Effect) → effect_of form ≡ Ok effect → IsEffect form effect
effect_said = by_head_said IsEffect effect_headed headed_effect_said

pub effect_comes : {form : Tree} {effect : Effect} → IsEffect form effect → effect_of form ≡ Ok effect
effect_comes (set_effect place value) = rw (place_comes place, value_comes value) refl
effect_comes (clobber_effect place) = rw (place_comes place) refl
effect_comes (use_effect value) = rw (value_comes value) refl

-- ---- several effects

pub effects_said : (forms : Trees) (effects : List Effect) → effects_of forms ≡ Ok effects → EachIs IsEffect forms effects
effects_said none effects h = subst (EachIs IsEffect none) (cc) nothing_is
effects_said (more first others) effects h =
    let n = ok_of (effect_of first) (λ effect. and_then (effects_of others) (λ effects. Ok (effect ∷ effects))) effects h in
    let m = ok_of (effects_of others) (λ effects. Ok (n.0 ∷ effects)) effects n.2 in
    subst (EachIs IsEffect (more first others)) (let same : n.0 ∷ m.0 ≡ effects = cc (m.2) in same) (each_is (effect_said first n.0 n.1) (effects_said others m.0 m.1))

effects_comes : {forms : Trees} {effects : List Effect} → EachIs IsEffect forms effects → effects_of forms ≡ Ok effects
effects_comes nothing_is = refl
effects_comes (each_is first others) = rw (effect_comes first, effects_comes others) refl

pub vector_said : (form : Tree) (effects : List Effect) → effect_vector form ≡ Ok effects → IsVector form effects
vector_said (vector line (more first others)) effects h = a_vector (effects_said (more first others) effects h)
vector_said (vector line none) effects h = absurd (cc)
vector_said (list line forms) effects h = absurd (cc)
vector_said (atom line bytes) effects h = absurd (cc)
vector_said (quoted line bytes) effects h = absurd (cc)
vector_said (number line n) effects h = absurd (cc)

pub vector_comes : {form : Tree} {effects : List Effect} → IsVector form effects → effect_vector form ≡ Ok effects
vector_comes (a_vector all) = effects_comes all

parallel_said : (line at : ℕ) (operands : Trees) (effects : List Effect) → parallel_with line operands ≡ Ok effects → IsPattern (headed line at (codes "parallel") operands) effects
parallel_said line at (more a none) effects h = parallel_effects (vector_said a effects h)
parallel_said line at none effects h = absurd (cc)
parallel_said line at (more a (more b rest)) effects h = absurd (cc)

pub pattern_said : (form : Tree) (effects : List Effect) → pattern_of form ≡ Ok effects → IsPattern form effects
pattern_said = by_head_said IsPattern pattern_headed each
  where
    each : (line at : ℕ) (word : List ℕ) (operands : Trees) (effects : List Effect) → pattern_headed line word operands ≡ Ok effects → IsPattern (headed line at word operands) effects
    each line at word operands effects = by_test (bytes_eq word (codes "parallel")) refl
      where
        by_test : (t : Bool) → bytes_eq word (codes "parallel") ≡ t → cond t (parallel_with line operands) (and_then (effect_headed line word operands) (λ effect. Ok (effect ∷ []))) ≡ Ok effects → IsPattern (headed line at word operands) effects
        by_test true e h = subst (λ (w : List ℕ). IsPattern (headed line at w operands) effects) (sym ((bytes_eq-Decides word (codes "parallel")).0 e)) (parallel_said line at operands effects h)
        by_test false e h =
            let n = ok_of (effect_headed line word operands) (λ effect. Ok (effect ∷ [])) effects h in
            subst (IsPattern (headed line at word operands)) (let same : n.0 ∷ [] ≡ effects = cc (n.2) in same) (one_effect (headed_effect_said line at word operands n.0 n.1))

pub pattern_comes : {form : Tree} {effects : List Effect} → IsPattern form effects → pattern_of form ≡ Ok effects
pattern_comes (one_effect (set_effect place value)) = rw (place_comes place, value_comes value) refl
pattern_comes (one_effect (clobber_effect place)) = rw (place_comes place) refl
pattern_comes (one_effect (use_effect value)) = rw (value_comes value) refl
pattern_comes (parallel_effects all) = vector_comes all
