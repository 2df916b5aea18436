-- Where a block or a state is wrong.
use Rattle.std.proofs.Common.{◌≡◌, ◌⊎◌, inl, inr, ℕ, ◌<◌, ◌^◌, Bool, true, false, cond, List, [], ◌∷◌, ◌++◌, length, Ok, Err, pos, negsuc, refl, sym, ap, ◌∙◌, subst, arith}
use Rattle.std.specs.Prelude.{codes, nat_lt, ◌==◌}
use Rattle.std.specs.Str.{bytes_eq}
use Rattle.std.proofs.lemmas.Bool.{ltb-true, ltb-false, lt-ltb, le-ltb}
use Rattle.std.proofs.lemmas.Slice.Eq.{bytes_eq-Decides}
use Rattle.hz_base_model.specs.Forms.Trees.{Tree, Trees, list, vector, atom, quoted, number, none, more, line_of}
use Rattle.hz_block_model.specs.Running.Blocks.{Effect, Instruction}
use Rattle.hz_block_model.specs.Running.Limits.{instruction_limit}
use Rattle.hz_block_model.specs.Texts.Operands.{Judged, RtlFault, bad_shape, twice, insn_limit, and_then, unless_twice, number_in}
use Rattle.hz_block_model.specs.Texts.BlockForms as blocks
use Rattle.hz_block_model.specs.Texts.StateForms as states
use Rattle.hz_block_model.specs.Texts.Grammar.{headed, IsNumber, IsPattern}
use Rattle.hz_block_model.specs.Texts.WrongForms.{pattern_kind, attribute_kind, store_kind, HasNumber, count, WrongAttributes, this_attribute, later_attribute, WrongInstruction, too_many, one_wrong, WrongInsn, no_insn, too_short, no_number, number_twice, in_pattern, in_attributes, IsWrongBlock, IsWrongState}
use Rattle.hz_block_model.proofs.Texts.FirstWrongs.{block_first_wrong, block_fault, state_first_wrong, state_fault}
use Rattle.hz_block_model.proofs.Texts.SaidValues.{number_said, number_comes, pattern_said, pattern_comes}
use Rattle.hz_block_model.proofs.Texts.SaidBlocks.{has_some, some_has, has_none, none_has, number_tells, number_key, attribute_said, attribute_comes, block_said, block_comes, given_said, given_comes}
use Rattle.hz_block_model.proofs.Texts.Faults.{Fault, fault_in, fault_is_err, fault_wrong, wrong_fault}

-- what is wrong is wrong first, or after what is right
pub err_of : {A B : Type 0} (judged : Judged A) (next : A → Judged B) (f : Fault) → and_then judged next ≡ Err f → (judged ≡ Err f) ⊎ ((x : A) × (judged ≡ Ok x) × (next x ≡ Err f))
err_of (Ok x) next f h = inr (x, refl, h)
err_of (Err g) next f h = inl (ap Err (cc))

-- ---- attributes

attributes_wrong : (given : List (List ℕ × List ℕ)) (forms : Trees) (f : RtlFault) (l : ℕ) → blocks.attributes_after given forms ≡ Err (f, l) → WrongAttributes given forms f l
attributes_wrong given none f l h = absurd (cc)
attributes_wrong given (more first others) f l h =
    by_first (err_of (blocks.attribute_of given first) (λ attribute. blocks.attributes_after (given ++ attribute ∷ []) others) (f, l) h) (λ x k. attributes_wrong (given ++ x ∷ []) others f l k)
  where
    by_first : (blocks.attribute_of given first ≡ Err (f, l)) ⊎ ((x : List ℕ × List ℕ) × (blocks.attribute_of given first ≡ Ok x) × (blocks.attributes_after (given ++ x ∷ []) others ≡ Err (f, l)))
        → ((x : List ℕ × List ℕ) → blocks.attributes_after (given ++ x ∷ []) others ≡ Err (f, l) → WrongAttributes (given ++ x ∷ []) others f l) → WrongAttributes given (more first others) f l
    by_first (inl e) further = this_attribute (fault_wrong first (attribute_kind given) f l (ap fault_in e))
    by_first (inr (x, e, k)) further = let s = attribute_said given first x e in later_attribute s.0 s.1 (further x k)

wrong_attributes : {given : List (List ℕ × List ℕ)} {forms : Trees} {f : RtlFault} {l : ℕ} → WrongAttributes given forms f l → blocks.attributes_after given forms ≡ Err (f, l)
wrong_attributes (this_attribute {given = given} {form = form} {fault = f} {place = l} w) = rw (fault_is_err (blocks.attribute_of given form) (f, l) (wrong_fault w)) refl
wrong_attributes (later_attribute {given = given} {form = form} {others = others} {attribute = x} is new w) =
    ap (λ (judged : Judged (List ℕ × List ℕ)). and_then judged (λ attribute. blocks.attributes_after (given ++ attribute ∷ []) others)) (attribute_comes given form x is new) ∙ wrong_attributes w

-- ---- an instruction

number_place : (form : Tree) (f : Fault) → number_in form ≡ Err f → ◌≡◌ {A = Fault} (bad_shape, line_of form) f
number_place (number line (pos n)) f h = by_test (nat_lt n (2 ^ 32)) h
  where
    by_test : (t : Bool) → cond t (Ok n) (Err (bad_shape, line)) ≡ Err f → ◌≡◌ {A = Fault} (bad_shape, line) f
    by_test true k = absurd (cc)
    by_test false k = cc
number_place (number line (negsuc n)) f h = cc
number_place (list line forms) f h = cc
number_place (vector line forms) f h = cc
number_place (atom line bytes) f h = cc
number_place (quoted line bytes) f h = cc

not_number : (form : Tree) (f : Fault) → number_in form ≡ Err f → (n : ℕ) → IsNumber form n → ⊥
not_number form f h n is = absurd (let e : Err f ≡ Ok n = sym h ∙ number_comes is in cc)

no_number_err : (form : Tree) → ((n : ℕ) → IsNumber form n → ⊥) → number_in form ≡ Err (bad_shape, line_of form)
no_number_err form not_so = by_number (number_in form) refl
  where
    by_number : (judged : Judged ℕ) → number_in form ≡ judged → judged ≡ Err (bad_shape, line_of form)
    by_number (Ok n) e = absurd (not_so n (number_said form n e))
    by_number (Err g) e = ap Err (sym (number_place form g e))

-- a fault is the one that is found
reported : {before : List Instruction} {form : Tree} (g f : RtlFault) (m l : ℕ) → ◌≡◌ {A = Fault} (g, m) (f, l) → WrongInsn before form g m → WrongInsn before form f l
reported {before = before} {form = form} g f m l pair w =
    subst (λ (x : RtlFault). WrongInsn before form x l) (ap (λ (p : Fault). p.0) pair) (subst (λ (x : ℕ). WrongInsn before form g x) (ap (λ (p : Fault). p.1) pair) w)

twice_err : {A : Type 0} (t : Bool) (line : ℕ) (x : A) (f : Fault) → unless_twice t line x ≡ Err f → (t ≡ true) × (◌≡◌ {A = Fault} (twice, line) f)
twice_err true line x f h = (refl, cc)
twice_err false line x f h = absurd (cc)

unless_ok : {A : Type 0} (t : Bool) (line : ℕ) (x y : A) → unless_twice t line x ≡ Ok y → t ≡ false
unless_ok true line x y h = absurd (cc)
unless_ok false line x y h = refl

module _ (before : List Instruction) where
  operands_wrong : (line at : ℕ) (operands : Trees) (f : RtlFault) (l : ℕ) → blocks.instruction_with before line operands ≡ Err (f, l) → WrongInsn before (headed line at (codes "insn") operands) f l
  operands_wrong line at none f l h = reported bad_shape f line l (cc) (too_short (omega arith))
  operands_wrong line at (more a none) f l h = reported bad_shape f line l (cc) (too_short (omega arith))
  operands_wrong line at (more a (more pattern others)) f l h =
      by_number (err_of (number_in a) (λ n. and_then (unless_twice (blocks.has_number before n) line n) (λ _. further n)) (f, l) h)
    where
      further : ℕ → Judged Instruction
      further n = and_then (blocks.pattern_of pattern) (λ effects. and_then (blocks.attributes_after [] others) (λ given. Ok (record { number = n; line = line; effects = effects; attributes = given })))

      whole : Tree
      whole = headed line at (codes "insn") (more a (more pattern others))

      by_attributes : (n : ℕ) → IsNumber a n → (HasNumber before n → ⊥) → (effects : List Effect) → IsPattern pattern effects
          → (blocks.attributes_after [] others ≡ Err (f, l)) ⊎ ((given : List (List ℕ × List ℕ)) × (blocks.attributes_after [] others ≡ Ok given) × (◌≡◌ {A = Judged Instruction} (Ok (record { number = n; line = line; effects = effects; attributes = given })) (Err (f, l)))) → WrongInsn before whole f l
      by_attributes n is new effects said (inl e) = in_attributes is new said (attributes_wrong [] others f l e)
      by_attributes n is new effects said (inr (given, e, k)) = absurd (cc)

      by_pattern : (n : ℕ) → IsNumber a n → (HasNumber before n → ⊥)
          → (blocks.pattern_of pattern ≡ Err (f, l)) ⊎ ((effects : List Effect) × (blocks.pattern_of pattern ≡ Ok effects) × (and_then {B = Instruction} (blocks.attributes_after [] others) (λ given. Ok (record { number = n; line = line; effects = effects; attributes = given })) ≡ Err (f, l))) → WrongInsn before whole f l
      by_pattern n is new (inl e) = in_pattern is new (fault_wrong pattern pattern_kind f l (ap fault_in e))
      by_pattern n is new (inr (effects, e, k)) =
          by_attributes n is new effects (pattern_said pattern effects e) (err_of (blocks.attributes_after [] others) (λ given. Ok (record { number = n; line = line; effects = effects; attributes = given })) (f, l) k)

      by_new : (n : ℕ) → IsNumber a n → (unless_twice (blocks.has_number before n) line n ≡ Err (f, l)) ⊎ ((m : ℕ) × (unless_twice (blocks.has_number before n) line n ≡ Ok m) × (further n ≡ Err (f, l))) → WrongInsn before whole f l
      by_new n is (inl e) =
          let (stands, at_line) = twice_err (blocks.has_number before n) line n (f, l) e in
          reported twice f line l at_line (number_twice is (has_some number_key (λ j. j.number == n) n (number_tells n) before stands))
      by_new n is (inr (m, e, k)) =
          by_pattern n is (has_none number_key (λ j. j.number == n) n (number_tells n) before (unless_ok (blocks.has_number before n) line n m e))
          (err_of (blocks.pattern_of pattern) (λ effects. and_then (blocks.attributes_after [] others) (λ given. Ok (record { number = n; line = line; effects = effects; attributes = given }))) (f, l) k)

      by_number : (number_in a ≡ Err (f, l)) ⊎ ((n : ℕ) × (number_in a ≡ Ok n) × (and_then (unless_twice (blocks.has_number before n) line n) (λ _. further n) ≡ Err (f, l))) → WrongInsn before whole f l
      by_number (inl e) = reported bad_shape f (line_of a) l (number_place a (f, l) e) (no_number (not_number a (f, l) e))
      by_number (inr (n, e, k)) = by_new n (number_said a n e) (err_of (unless_twice (blocks.has_number before n) line n) (λ _. further n) (f, l) k)

  instruction_wrong : (form : Tree) (f : RtlFault) (l : ℕ) → blocks.instruction_of before form ≡ Err (f, l) → WrongInsn before form f l
  instruction_wrong (list line (more (atom at word) operands)) f l = by_word (bytes_eq word (codes "insn")) refl
    where
      by_word : (t : Bool) → bytes_eq word (codes "insn") ≡ t → cond t (blocks.instruction_with before line operands) (Err (bad_shape, line)) ≡ Err (f, l) → WrongInsn before (headed line at word operands) f l
      by_word true e h = subst (λ (w : List ℕ). WrongInsn before (headed line at w operands) f l) (sym ((bytes_eq-Decides word (codes "insn")).0 e)) (operands_wrong line at operands f l h)
      by_word false e h = reported bad_shape f line l (cc) (no_insn (λ a b o k. other_word_then k))
        where
          other_word_then : {a b : ℕ} {o : Trees} → headed line at word operands ≡ headed a b (codes "insn") o → ⊥
          other_word_then k = absurd (let same : word ≡ codes "insn" = cc in let yes : bytes_eq word (codes "insn") ≡ true = (bytes_eq-Decides word (codes "insn")).1 same in cc)
  instruction_wrong (list line none) f l = λ h. reported bad_shape f line l (cc) (no_insn (λ a b o k. absurd (cc)))
  instruction_wrong (list line (more (list at forms) operands)) f l = λ h. reported bad_shape f line l (cc) (no_insn (λ a b o k. absurd (cc)))
  instruction_wrong (list line (more (vector at forms) operands)) f l = λ h. reported bad_shape f line l (cc) (no_insn (λ a b o k. absurd (cc)))
  instruction_wrong (list line (more (quoted at bytes) operands)) f l = λ h. reported bad_shape f line l (cc) (no_insn (λ a b o k. absurd (cc)))
  instruction_wrong (list line (more (number at n) operands)) f l = λ h. reported bad_shape f line l (cc) (no_insn (λ a b o k. absurd (cc)))
  instruction_wrong (vector line forms) f l = λ h. reported bad_shape f line l (cc) (no_insn (λ a b o k. absurd (cc)))
  instruction_wrong (atom line bytes) f l = λ h. reported bad_shape f line l (cc) (no_insn (λ a b o k. absurd (cc)))
  instruction_wrong (quoted line bytes) f l = λ h. reported bad_shape f line l (cc) (no_insn (λ a b o k. absurd (cc)))
  instruction_wrong (number line n) f l = λ h. reported bad_shape f line l (cc) (no_insn (λ a b o k. absurd (cc)))

next_wrong : (before : List Instruction) (form : Tree) (f : RtlFault) (l : ℕ) → blocks.next_instruction before form ≡ Err (f, l) → WrongInstruction before form f l
next_wrong before form f l = by_room (nat_lt (length before) instruction_limit) refl
  where
    by_room : (t : Bool) → nat_lt (length before) instruction_limit ≡ t → cond t (blocks.instruction_of before form) (Err (insn_limit, line_of form)) ≡ Err (f, l) → WrongInstruction before form f l
    by_room true e h = one_wrong (ltb-true (length before) instruction_limit e) (instruction_wrong before form f l h)
    by_room false e h =
        let pair : ◌≡◌ {A = Fault} (insn_limit, line_of form) (f, l) = cc in
        subst (λ (x : RtlFault). WrongInstruction before form x l) (ap (λ (p : Fault). p.0) pair)
        (subst (λ (x : ℕ). WrongInstruction before form insn_limit x) (ap (λ (p : Fault). p.1) pair) (too_many (ltb-false (length before) instruction_limit e)))

-- a form that is no `insn`
no_insn_err : (before : List Instruction) (form : Tree) → ((line at : ℕ) (operands : Trees) → form ≡ headed line at (codes "insn") operands → ⊥) → blocks.instruction_of before form ≡ Err (bad_shape, line_of form)
no_insn_err before (list line (more (atom at word) operands)) not_so = by_word (bytes_eq word (codes "insn")) refl
  where
    by_word : (t : Bool) → bytes_eq word (codes "insn") ≡ t → cond t (blocks.instruction_with before line operands) (Err (bad_shape, line)) ≡ Err (bad_shape, line)
    by_word true e = absurd (not_so line at operands (ap (λ (w : List ℕ). headed line at w operands) ((bytes_eq-Decides word (codes "insn")).0 e)))
    by_word false e = refl
no_insn_err before (list line none) not_so = refl
no_insn_err before (list line (more (list at forms) operands)) not_so = refl
no_insn_err before (list line (more (vector at forms) operands)) not_so = refl
no_insn_err before (list line (more (quoted at bytes) operands)) not_so = refl
no_insn_err before (list line (more (number at n) operands)) not_so = refl
no_insn_err before (vector line forms) not_so = refl
no_insn_err before (atom line bytes) not_so = refl
no_insn_err before (quoted line bytes) not_so = refl
no_insn_err before (number line n) not_so = refl

few_operands_err : (before : List Instruction) (line : ℕ) (operands : Trees) → count operands < 2 → blocks.instruction_with before line operands ≡ Err (bad_shape, line)
few_operands_err before line none few = refl
few_operands_err before line (more a none) few = refl
few_operands_err before line (more a (more b rest)) few = absurd (omega (arith, few))

new_number : (before : List Instruction) (n : ℕ) → (HasNumber before n → ⊥) → blocks.has_number before n ≡ false
new_number before n new = none_has number_key (λ j. j.number == n) n (number_tells n) before new

wrong_insn : (before : List Instruction) (form : Tree) (f : RtlFault) (l : ℕ) → WrongInsn before form f l → blocks.instruction_of before form ≡ Err (f, l)
wrong_insn before form _ _ (no_insn not_so) = no_insn_err before form not_so
wrong_insn before _ _ _ (too_short {line = line} {operands = operands} few) = few_operands_err before line operands few
wrong_insn before _ _ _ (no_number {first = first} not_so) = rw (no_number_err first not_so) refl
wrong_insn before _ _ _ (number_twice {n = n} is has) =
    let stands : blocks.has_number before n ≡ true = some_has number_key (λ j. j.number == n) n (number_tells n) before has in
    rw (number_comes is, stands) refl
wrong_insn before _ f l (in_pattern {n = n} {second = second} is new w) =
    rw (number_comes is, new_number before n new, fault_is_err (blocks.pattern_of second) (f, l) (wrong_fault w)) refl
wrong_insn before _ f l (in_attributes {n = n} is new said w) =
    rw (number_comes is, new_number before n new, pattern_comes said, wrong_attributes w) refl

wrong_next : (before : List Instruction) (form : Tree) (f : RtlFault) (l : ℕ) → WrongInstruction before form f l → blocks.next_instruction before form ≡ Err (f, l)
wrong_next before form _ _ (too_many full) = rw (le-ltb (length before) 4096 full) refl
wrong_next before form f l (one_wrong room w) = rw (lt-ltb (length before) 4096 room) (wrong_insn before form f l w)

-- ---- blocks and states

pub block_wrong : (forms : Trees) (f : RtlFault) (l : ℕ) → blocks.FaultAt forms f l → IsWrongBlock forms f l
block_wrong forms f l h =
    let w = block_first_wrong forms f l h in
    record { front = w.front; before = w.before; wrong = w.wrong; rest = w.rest; forms_are = w.forms_are; front_is = block_said w.front w.before w.read; is_wrong = next_wrong w.before w.wrong f l w.is_wrong }

pub wrong_block : (forms : Trees) (f : RtlFault) (l : ℕ) → IsWrongBlock forms f l → blocks.FaultAt forms f l
wrong_block forms f l w =
    block_fault forms f l (record { front = w.front; before = w.before; wrong = w.wrong; rest = w.rest; forms_are = w.forms_are; read = block_comes w.front w.before w.front_is; is_wrong = wrong_next w.before w.wrong f l w.is_wrong })

pub state_wrong : (forms : Trees) (f : RtlFault) (l : ℕ) → states.FaultAt forms f l → IsWrongState forms f l
state_wrong forms f l h =
    let w = state_first_wrong forms f l h in
    record { front = w.front; before = w.before; wrong = w.wrong; rest = w.rest; forms_are = w.forms_are; front_is = given_said w.front w.before w.read; is_wrong = fault_wrong w.wrong (store_kind w.before) f l (ap fault_in w.is_wrong) }

pub wrong_state : (forms : Trees) (f : RtlFault) (l : ℕ) → IsWrongState forms f l → states.FaultAt forms f l
wrong_state forms f l w =
    state_fault forms f l (record { front = w.front; before = w.before; wrong = w.wrong; rest = w.rest; forms_are = w.forms_are; read = given_comes w.front w.before w.front_is; is_wrong = fault_is_err (states.store_of w.before w.wrong) (f, l) (wrong_fault w.is_wrong) })
