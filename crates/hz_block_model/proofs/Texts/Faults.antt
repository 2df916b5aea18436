-- The fault of a form is that of the grammar of wrong forms, and the other way round.
use Rattle.std.proofs.Common.{◌≡◌, ◌⊎◌, inl, inr, ⊎_elim, ℕ, ◌<◌, ◌≤◌, Bool, true, false, cond, List, [], ◌∷◌, length, Option, Some, None, Ok, Err, ℤ, pos, negsuc, refl, sym, ap, ◌∙◌, subst, arith}
use Rattle.std.specs.Prelude.{codes, nat_lt}
use Rattle.std.specs.Str.{bytes_eq}
use Rattle.std.proofs.lemmas.Bool.{ltb-false, le-ltb, cases_lt}
use Rattle.std.proofs.lemmas.Slice.Eq.{bytes_eq-Decides}
use Rattle.hz_base_model.specs.Names.{is_name}
use Rattle.hz_base_model.specs.Forms.Trees.{Tree, Trees, list, vector, atom, quoted, number, none, more, line_of}
use Rattle.hz_block_model.specs.Running.Blocks.{register, constant, memory, unary, binary, choice, into, cell_at, assign, clobber, mention}
use Rattle.hz_block_model.specs.Running.States.{reg, cell, same_place, Store}
use Rattle.hz_block_model.specs.Texts.Operands.{Judged, RtlFault, bad_shape, unknown_code, register_range, twice, and_then, unless_twice, by_head, register_in, word_in, name_in, word_of}
use Rattle.hz_block_model.specs.Texts.Values.{ValueCode, register_code, constant_code, memory_code, choice_code, unary_code, binary_code, value_code, value_with, value_of, values_of, TargetCode, into_code, cell_code, target_code, target_with, target_of, EffectCode, set_code, clobber_code, use_code, effect_code, effect_with, effect_headed, effect_of}
use Rattle.hz_block_model.specs.Texts.BlockForms as blocks
use Rattle.hz_block_model.specs.Texts.StateForms as states
use Rattle.hz_block_model.specs.Texts.Grammar.{headed, IsRegister, IsWord, a_word, IsName}
use Rattle.hz_block_model.specs.Texts.WrongForms.{Kind, register_kind, word_kind, name_kind, value_kind, place_kind, effect_kind, vector_kind, pattern_kind, new_name, attribute_kind, new_register, new_cell, store_kind, HasName, HasPlace, Right, value_name, value_operands, place_name, place_operands, effect_name, effect_operands, store_operands, Heads, value_head, place_head, effect_head, single_head, parallel_head, attribute_head, store_head, other_word, count, each_of, Wrong, WrongAmong}
use Rattle.hz_block_model.proofs.Texts.SaidValues.{value_word, place_word, effect_word, value_named, place_named, effect_named, register_said, register_comes, word_said, word_comes, name_said, name_comes, value_said, value_comes, value_headed, place_said, place_comes, effect_said, effect_comes, vector_said, vector_comes, pattern_said, pattern_comes}
use Rattle.hz_block_model.proofs.Texts.SaidBlocks.{has_some, some_has, has_none, none_has, name_tells, name_key, place_key, given_tells, attribute_said, attribute_comes, store_said, store_comes}

abbrev pub Fault : Type 0
Fault = RtlFault × ℕ

-- the fault of what is judged, if it has one
abbrev pub fault_in : {A : Type 0} → Judged A → Option Fault
fault_in (Ok x) = None
fault_in (Err f) = Some f

-- the first of two faults
abbrev pub or_else : Option Fault → Option Fault → Option Fault
or_else (Some f) other = Some f
or_else None other = other

-- the fault of a form that is to be of a kind
abbrev pub fault_of : Kind → Tree → Option Fault
fault_of register_kind form = fault_in (register_in form)
fault_of word_kind form = fault_in (word_in form)
fault_of name_kind form = fault_in (name_in form)
fault_of value_kind form = fault_in (value_of form)
fault_of place_kind form = fault_in (target_of form)
fault_of effect_kind form = fault_in (effect_of form)
fault_of vector_kind form = fault_in (blocks.effect_vector form)
fault_of pattern_kind form = fault_in (blocks.pattern_of form)
fault_of (new_name given) form = fault_in (and_then (name_in form) (λ n. unless_twice (blocks.gives given n) (line_of form) n))
fault_of (attribute_kind given) form = fault_in (blocks.attribute_of given form)
fault_of (new_register given) form = fault_in (and_then (states.place_of into_code form) (λ p. unless_twice (states.gives given p) (line_of form) p))
fault_of (new_cell given) form = fault_in (and_then (states.place_of cell_code form) (λ p. unless_twice (states.gives given p) (line_of form) p))
fault_of (store_kind given) form = fault_in (states.store_of given form)

-- the first fault of forms, from left to right
abbrev pub first_fault : List Kind → Trees → Option Fault
first_fault (kind ∷ kinds) (more form others) = or_else (fault_of kind form) (first_fault kinds others)
first_fault kinds forms = None

same_or_not : (a b : ℕ) → (a ≡ b) ⊎ (a ≡ b → ⊥)
same_or_not a b = ⊎_elim (λ (h : a < b). inr (λ (e : a ≡ b). absurd (omega (arith, h, e))))
    (λ (h : b ≤ a). ⊎_elim (λ (k : b < a). inr (λ (e : a ≡ b). absurd (omega (arith, k, e)))) (λ (k : a ≤ b). inl (omega (arith, h, k))) (cases_lt b a))
    (cases_lt a b)

-- ---- what is judged one after the other

then_fault : {A B : Type 0} (judged : Judged A) (next : A → Judged B) (o : Option Fault) → ((x : A) → fault_in (next x) ≡ o) → fault_in (and_then judged next) ≡ or_else (fault_in judged) o
then_fault (Ok x) next o h = h x
then_fault (Err f) next o h = refl

last_fault : {A B : Type 0} (judged : Judged A) (next : A → B) → fault_in (and_then judged (λ x. Ok (next x))) ≡ or_else (fault_in judged) None
last_fault (Ok x) next = refl
last_fault (Err f) next = refl

-- what is judged twice before the next
twice_fault : {A B C : Type 0} (judged : Judged A) (next : A → Judged B) (further : A → B → Judged C) (o : Option Fault) → ((x : A) (y : B) → fault_in (further x y) ≡ o)
    → fault_in (and_then judged (λ x. and_then (next x) (further x))) ≡ or_else (fault_in (and_then judged next)) o
twice_fault (Ok x) next further o h = then_fault (next x) (further x) o (h x)
twice_fault (Err f) next further o h = refl

-- ---- a list that begins with a word of its kind

value_right : (line : ℕ) (code : ValueCode) (operands : Trees) → count operands ≡ length (value_operands code) → fault_in (value_with line code operands (values_of operands)) ≡ first_fault (value_operands code) operands
unfolding value_of
value_right line register_code none h = absurd (omega (arith, h))
value_right line register_code (more a none) h = last_fault (register_in a) register
value_right line register_code (more a (more b rest)) h = absurd (omega (arith, h))
value_right line constant_code none h = absurd (omega (arith, h))
value_right line constant_code (more a none) h = last_fault (word_in a) constant
value_right line constant_code (more a (more b rest)) h = absurd (omega (arith, h))
value_right line memory_code none h = absurd (omega (arith, h))
value_right line memory_code (more a none) h = last_fault (value_of a) memory
value_right line memory_code (more a (more b rest)) h = absurd (omega (arith, h))
value_right line (unary_code operator) none h = absurd (omega (arith, h))
value_right line (unary_code operator) (more a none) h = last_fault (value_of a) (unary operator)
value_right line (unary_code operator) (more a (more b rest)) h = absurd (omega (arith, h))
value_right line (binary_code operator) none h = absurd (omega (arith, h))
value_right line (binary_code operator) (more a none) h = absurd (omega (arith, h))
value_right line (binary_code operator) (more a (more b none)) h = then_fault (value_of a) _ _ (λ x. last_fault (value_of b) (binary operator x))
value_right line (binary_code operator) (more a (more b (more c rest))) h = absurd (omega (arith, h))
value_right line choice_code none h = absurd (omega (arith, h))
value_right line choice_code (more a none) h = absurd (omega (arith, h))
value_right line choice_code (more a (more b none)) h = absurd (omega (arith, h))
value_right line choice_code (more a (more b (more c none))) h = then_fault (value_of a) _ _ (λ x. then_fault (value_of b) _ _ (λ y. last_fault (value_of c) (choice x y)))
value_right line choice_code (more a (more b (more c (more d rest)))) h = absurd (omega (arith, h))

value_miscounted : (line : ℕ) (code : ValueCode) (operands : Trees) → (count operands ≡ length (value_operands code) → ⊥) → value_with line code operands (values_of operands) ≡ Err (bad_shape, line)
unfolding value_of
value_miscounted line register_code none h = refl
value_miscounted line register_code (more a none) h = absurd (h refl)
value_miscounted line register_code (more a (more b rest)) h = refl
value_miscounted line constant_code none h = refl
value_miscounted line constant_code (more a none) h = absurd (h refl)
value_miscounted line constant_code (more a (more b rest)) h = refl
value_miscounted line memory_code none h = refl
value_miscounted line memory_code (more a none) h = absurd (h refl)
value_miscounted line memory_code (more a (more b rest)) h = refl
value_miscounted line (unary_code operator) none h = refl
value_miscounted line (unary_code operator) (more a none) h = absurd (h refl)
value_miscounted line (unary_code operator) (more a (more b rest)) h = refl
value_miscounted line (binary_code operator) none h = refl
value_miscounted line (binary_code operator) (more a none) h = refl
value_miscounted line (binary_code operator) (more a (more b none)) h = absurd (h refl)
value_miscounted line (binary_code operator) (more a (more b (more c rest))) h = refl
value_miscounted line choice_code none h = refl
value_miscounted line choice_code (more a none) h = refl
value_miscounted line choice_code (more a (more b none)) h = refl
value_miscounted line choice_code (more a (more b (more c none))) h = absurd (h refl)
value_miscounted line choice_code (more a (more b (more c (more d rest)))) h = refl

place_right : (line : ℕ) (code : TargetCode) (operands : Trees) → count operands ≡ length (place_operands code) → fault_in (target_with line code operands) ≡ first_fault (place_operands code) operands
place_right line into_code none h = absurd (omega (arith, h))
place_right line into_code (more a none) h = last_fault (register_in a) into
place_right line into_code (more a (more b rest)) h = absurd (omega (arith, h))
place_right line cell_code none h = absurd (omega (arith, h))
place_right line cell_code (more a none) h = last_fault (value_of a) cell_at
place_right line cell_code (more a (more b rest)) h = absurd (omega (arith, h))

place_miscounted : (line : ℕ) (code : TargetCode) (operands : Trees) → (count operands ≡ length (place_operands code) → ⊥) → target_with line code operands ≡ Err (bad_shape, line)
place_miscounted line into_code none h = refl
place_miscounted line into_code (more a none) h = absurd (h refl)
place_miscounted line into_code (more a (more b rest)) h = refl
place_miscounted line cell_code none h = refl
place_miscounted line cell_code (more a none) h = absurd (h refl)
place_miscounted line cell_code (more a (more b rest)) h = refl

effect_right : (line : ℕ) (code : EffectCode) (operands : Trees) → count operands ≡ length (effect_operands code) → fault_in (effect_with line code operands) ≡ first_fault (effect_operands code) operands
effect_right line set_code none h = absurd (omega (arith, h))
effect_right line set_code (more a none) h = absurd (omega (arith, h))
effect_right line set_code (more a (more b none)) h = then_fault (target_of a) _ _ (λ x. last_fault (value_of b) (assign x))
effect_right line set_code (more a (more b (more c rest))) h = absurd (omega (arith, h))
effect_right line clobber_code none h = absurd (omega (arith, h))
effect_right line clobber_code (more a none) h = last_fault (target_of a) clobber
effect_right line clobber_code (more a (more b rest)) h = absurd (omega (arith, h))
effect_right line use_code none h = absurd (omega (arith, h))
effect_right line use_code (more a none) h = last_fault (value_of a) mention
effect_right line use_code (more a (more b rest)) h = absurd (omega (arith, h))

effect_miscounted : (line : ℕ) (code : EffectCode) (operands : Trees) → (count operands ≡ length (effect_operands code) → ⊥) → effect_with line code operands ≡ Err (bad_shape, line)
effect_miscounted line set_code none h = refl
effect_miscounted line set_code (more a none) h = refl
effect_miscounted line set_code (more a (more b none)) h = absurd (h refl)
effect_miscounted line set_code (more a (more b (more c rest))) h = refl
effect_miscounted line clobber_code none h = refl
effect_miscounted line clobber_code (more a none) h = absurd (h refl)
effect_miscounted line clobber_code (more a (more b rest)) h = refl
effect_miscounted line use_code none h = refl
effect_miscounted line use_code (more a none) h = absurd (h refl)
effect_miscounted line use_code (more a (more b rest)) h = refl

attribute_right : (given : List (List ℕ × List ℕ)) (line : ℕ) (operands : Trees) → count operands ≡ 2 → fault_in (blocks.attribute_with given line operands) ≡ first_fault (new_name given ∷ name_kind ∷ []) operands
attribute_right given line none h = absurd (omega (arith, h))
attribute_right given line (more a none) h = absurd (omega (arith, h))
attribute_right given line (more a (more b none)) h = twice_fault (name_in a) (λ n. unless_twice (blocks.gives given n) (line_of a) n) _ _ (λ n m. last_fault (name_in b) (λ v. (n, v)))
attribute_right given line (more a (more b (more c rest))) h = absurd (omega (arith, h))

attribute_miscounted : (given : List (List ℕ × List ℕ)) (line : ℕ) (operands : Trees) → (count operands ≡ 2 → ⊥) → blocks.attribute_with given line operands ≡ Err (bad_shape, line)
attribute_miscounted given line none h = refl
attribute_miscounted given line (more a none) h = refl
attribute_miscounted given line (more a (more b none)) h = absurd (h refl)
attribute_miscounted given line (more a (more b (more c rest))) h = refl

store_right : (given : List Store) (line : ℕ) (code : TargetCode) (operands : Trees) → count operands ≡ length (store_operands given code) → fault_in (states.store_with given line code operands) ≡ first_fault (store_operands given code) operands
store_right given line into_code none h = absurd (omega (arith, h))
store_right given line into_code (more a none) h = absurd (omega (arith, h))
store_right given line into_code (more a (more b none)) h = twice_fault (states.place_of into_code a) (λ p. unless_twice (states.gives given p) (line_of a) p) _ _ (λ p q. last_fault (word_in b) (λ w. record { place = p; word = w }))
store_right given line into_code (more a (more b (more c rest))) h = absurd (omega (arith, h))
store_right given line cell_code none h = absurd (omega (arith, h))
store_right given line cell_code (more a none) h = absurd (omega (arith, h))
store_right given line cell_code (more a (more b none)) h = twice_fault (states.place_of cell_code a) (λ p. unless_twice (states.gives given p) (line_of a) p) _ _ (λ p q. last_fault (word_in b) (λ w. record { place = p; word = w }))
store_right given line cell_code (more a (more b (more c rest))) h = absurd (omega (arith, h))

store_miscounted : (given : List Store) (line : ℕ) (code : TargetCode) (operands : Trees) → (count operands ≡ length (store_operands given code) → ⊥) → states.store_with given line code operands ≡ Err (bad_shape, line)
store_miscounted given line into_code none h = refl
store_miscounted given line into_code (more a none) h = refl
store_miscounted given line into_code (more a (more b none)) h = absurd (h refl)
store_miscounted given line into_code (more a (more b (more c rest))) h = refl
store_miscounted given line cell_code none h = refl
store_miscounted given line cell_code (more a none) h = refl
store_miscounted given line cell_code (more a (more b none)) h = absurd (h refl)
store_miscounted given line cell_code (more a (more b (more c rest))) h = refl

parallel_right : (line : ℕ) (operands : Trees) → count operands ≡ 1 → fault_in (blocks.parallel_with line operands) ≡ first_fault (vector_kind ∷ []) operands
parallel_right line none h = absurd (omega (arith, h))
parallel_right line (more a none) h = same (fault_in (blocks.effect_vector a))
  where
    same : (o : Option Fault) → o ≡ or_else o None
    same (Some f) = refl
    same None = refl
parallel_right line (more a (more b rest)) h = absurd (omega (arith, h))

parallel_miscounted : (line : ℕ) (operands : Trees) → (count operands ≡ 1 → ⊥) → blocks.parallel_with line operands ≡ Err (bad_shape, line)
parallel_miscounted line none h = refl
parallel_miscounted line (more a none) h = absurd (h refl)
parallel_miscounted line (more a (more b rest)) h = refl

-- what a list that begins with a known word is
place_headed : (line at : ℕ) (code : TargetCode) (operands : Trees) → target_of (headed line at (place_name code) operands) ≡ target_with line code operands
place_headed line at code operands = rw (place_named code) refl

effect_headed_is : (line at : ℕ) (code : EffectCode) (operands : Trees) → effect_of (headed line at (effect_name code) operands) ≡ effect_with line code operands
effect_headed_is line at code operands = rw (effect_named code) refl

single_headed : (line at : ℕ) (code : EffectCode) (operands : Trees) → blocks.pattern_of (headed line at (effect_name code) operands) ≡ and_then (effect_with line code operands) (λ effect. Ok (effect ∷ []))
single_headed line at set_code operands = refl
single_headed line at clobber_code operands = refl
single_headed line at use_code operands = refl

store_headed_is : (given : List Store) (line at : ℕ) (code : TargetCode) (operands : Trees) → states.store_of given (headed line at (place_name code) operands) ≡ states.store_with given line code operands
store_headed_is given line at code operands = rw (place_named code) refl

single_fault : {A B : Type 0} (judged : Judged A) (next : A → B) → fault_in (and_then judged (λ x. Ok (next x))) ≡ fault_in judged
single_fault (Ok x) next = refl
single_fault (Err f) next = refl

counted_fault : {kind : Kind} {word : List ℕ} {kinds : List Kind} → Heads kind word kinds → (line at : ℕ) (operands : Trees) → count operands ≡ length kinds → fault_of kind (headed line at word operands) ≡ first_fault kinds operands
counted_fault (value_head code) line at operands h = ap fault_in (value_headed line at code operands) ∙ value_right line code operands h
counted_fault (place_head code) line at operands h = ap fault_in (place_headed line at code operands) ∙ place_right line code operands h
counted_fault (effect_head code) line at operands h = ap fault_in (effect_headed_is line at code operands) ∙ effect_right line code operands h
counted_fault (single_head code) line at operands h = ap fault_in (single_headed line at code operands) ∙ (single_fault (effect_with line code operands) (λ effect. effect ∷ []) ∙ effect_right line code operands h)
counted_fault parallel_head line at operands h = parallel_right line operands h
counted_fault (attribute_head given) line at operands h = attribute_right given line operands h
counted_fault (store_head given code) line at operands h = ap fault_in (store_headed_is given line at code operands) ∙ store_right given line code operands h

miscounted_fault : {kind : Kind} {word : List ℕ} {kinds : List Kind} → Heads kind word kinds → (line at : ℕ) (operands : Trees) → (count operands ≡ length kinds → ⊥) → fault_of kind (headed line at word operands) ≡ Some (bad_shape, line)
miscounted_fault (value_head code) line at operands h = ap fault_in (value_headed line at code operands ∙ value_miscounted line code operands h)
miscounted_fault (place_head code) line at operands h = ap fault_in (place_headed line at code operands ∙ place_miscounted line code operands h)
miscounted_fault (effect_head code) line at operands h = ap fault_in (effect_headed_is line at code operands ∙ effect_miscounted line code operands h)
miscounted_fault (single_head code) line at operands h = ap fault_in (single_headed line at code operands) ∙ (single_fault (effect_with line code operands) (λ effect. effect ∷ []) ∙ ap fault_in (effect_miscounted line code operands h))
miscounted_fault parallel_head line at operands h = ap fault_in (parallel_miscounted line operands h)
miscounted_fault (attribute_head given) line at operands h = ap fault_in (attribute_miscounted given line operands h)
miscounted_fault (store_head given code) line at operands h = ap fault_in (store_headed_is given line at code operands ∙ store_miscounted given line code operands h)

-- ---- a list that begins with another word, and what is no such list

abbrev Headless : Tree → Type 0
Headless form = (line at : ℕ) (word : List ℕ) (operands : Trees) → form ≡ headed line at word operands → ⊥

-- a kind has the word, or it is wrong
abbrev Headed : Kind → RtlFault → List ℕ → Type 0
Headed kind other word = ((kinds : List Kind) × Heads kind word kinds)
    ⊎ (((kinds : List Kind) → Heads kind word kinds → ⊥) × ((line at : ℕ) (operands : Trees) → fault_of kind (headed line at word operands) ≡ Some (other, line)))

no_value : (word : List ℕ) → value_code word ≡ None → (kinds : List Kind) → Heads value_kind word kinds → ⊥
no_value _ h _ (value_head code) = let e : value_code (value_name code) ≡ Some code = value_named code in absurd (cc)

no_place : (word : List ℕ) → target_code word ≡ None → (kinds : List Kind) → Heads place_kind word kinds → ⊥
no_place _ h _ (place_head code) = let e : target_code (place_name code) ≡ Some code = place_named code in absurd (cc)

no_effect : (word : List ℕ) → effect_code word ≡ None → (kinds : List Kind) → Heads effect_kind word kinds → ⊥
no_effect _ h _ (effect_head code) = let e : effect_code (effect_name code) ≡ Some code = effect_named code in absurd (cc)

no_pattern : (word : List ℕ) → bytes_eq word (codes "parallel") ≡ false → effect_code word ≡ None → (kinds : List Kind) → Heads pattern_kind word kinds → ⊥
no_pattern _ k h _ (single_head code) = let e : effect_code (effect_name code) ≡ Some code = effect_named code in absurd (cc)
no_pattern _ k h _ parallel_head = absurd (cc)

no_attribute : (given : List (List ℕ × List ℕ)) (word : List ℕ) → bytes_eq word (codes "set_attr") ≡ false → (kinds : List Kind) → Heads (attribute_kind given) word kinds → ⊥
no_attribute _ _ k _ (attribute_head given) = absurd (cc)

no_store : (given : List Store) (word : List ℕ) → target_code word ≡ None → (kinds : List Kind) → Heads (store_kind given) word kinds → ⊥
no_store _ _ h _ (store_head given code) = let e : target_code (place_name code) ≡ Some code = place_named code in absurd (cc)

value_begun : (word : List ℕ) → Headed value_kind unknown_code word
unfolding value_of
value_begun word = by_code (value_code word) refl
  where
    by_code : (o : Option ValueCode) → value_code word ≡ o → Headed value_kind unknown_code word
    by_code (Some code) e = inl (value_operands code, subst (λ (w : List ℕ). Heads value_kind w (value_operands code)) (sym (value_word word code e)) (value_head code))
    by_code None e = inr (no_value word e, λ line at operands. rw e refl)

place_begun : (word : List ℕ) → Headed place_kind unknown_code word
place_begun word = by_code (target_code word) refl
  where
    by_code : (o : Option TargetCode) → target_code word ≡ o → Headed place_kind unknown_code word
    by_code (Some code) e = inl (place_operands code, subst (λ (w : List ℕ). Heads place_kind w (place_operands code)) (sym (place_word word code e)) (place_head code))
    by_code None e = inr (no_place word e, λ line at operands. rw e refl)

effect_begun : (word : List ℕ) → Headed effect_kind unknown_code word
effect_begun word = by_code (effect_code word) refl
  where
    by_code : (o : Option EffectCode) → effect_code word ≡ o → Headed effect_kind unknown_code word
    by_code (Some code) e = inl (effect_operands code, subst (λ (w : List ℕ). Heads effect_kind w (effect_operands code)) (sym (effect_word word code e)) (effect_head code))
    by_code None e = inr (no_effect word e, λ line at operands. rw e refl)

pattern_begun : (word : List ℕ) → Headed pattern_kind unknown_code word
pattern_begun word = by_code (bytes_eq word (codes "parallel")) (effect_code word) refl refl
  where
    by_code : (t : Bool) (o : Option EffectCode) → bytes_eq word (codes "parallel") ≡ t → effect_code word ≡ o → Headed pattern_kind unknown_code word
    by_code true o k e = inl (vector_kind ∷ [], subst (λ (w : List ℕ). Heads pattern_kind w (vector_kind ∷ [])) (sym ((bytes_eq-Decides word (codes "parallel")).0 k)) parallel_head)
    by_code false (Some code) k e = inl (effect_operands code, subst (λ (w : List ℕ). Heads pattern_kind w (effect_operands code)) (sym (effect_word word code e)) (single_head code))
    by_code false None k e = inr (no_pattern word k e, λ line at operands. rw (k, e) refl)

attribute_begun : (given : List (List ℕ × List ℕ)) (word : List ℕ) → Headed (attribute_kind given) bad_shape word
attribute_begun given word = by_word (bytes_eq word (codes "set_attr")) refl
  where
    by_word : (t : Bool) → bytes_eq word (codes "set_attr") ≡ t → Headed (attribute_kind given) bad_shape word
    by_word true k = inl (new_name given ∷ name_kind ∷ [], subst (λ (w : List ℕ). Heads (attribute_kind given) w (new_name given ∷ name_kind ∷ [])) (sym ((bytes_eq-Decides word (codes "set_attr")).0 k)) (attribute_head given))
    by_word false k = inr (no_attribute given word k, λ line at operands. rw k refl)

store_begun : (given : List Store) (word : List ℕ) → Headed (store_kind given) bad_shape word
store_begun given word = by_code (target_code word) refl
  where
    by_code : (o : Option TargetCode) → target_code word ≡ o → Headed (store_kind given) bad_shape word
    by_code (Some code) e = inl (store_operands given code, subst (λ (w : List ℕ). Heads (store_kind given) w (store_operands given code)) (sym (place_word word code e)) (store_head given code))
    by_code None e = inr (no_store given word e, λ line at operands. rw e refl)

begun : (kind : Kind) (other : RtlFault) → other_word kind ≡ Some other → (word : List ℕ) → Headed kind other word
begun value_kind other h word = subst (λ (f : RtlFault). Headed value_kind f word) (cc) (value_begun word)
begun place_kind other h word = subst (λ (f : RtlFault). Headed place_kind f word) (cc) (place_begun word)
begun effect_kind other h word = subst (λ (f : RtlFault). Headed effect_kind f word) (cc) (effect_begun word)
begun pattern_kind other h word = subst (λ (f : RtlFault). Headed pattern_kind f word) (cc) (pattern_begun word)
begun (attribute_kind given) other h word = subst (λ (f : RtlFault). Headed (attribute_kind given) f word) (cc) (attribute_begun given word)
begun (store_kind given) other h word = subst (λ (f : RtlFault). Headed (store_kind given) f word) (cc) (store_begun given word)
begun register_kind other h word = absurd (cc)
begun word_kind other h word = absurd (cc)
begun name_kind other h word = absurd (cc)
begun vector_kind other h word = absurd (cc)
begun (new_name given) other h word = absurd (cc)
begun (new_register given) other h word = absurd (cc)
begun (new_cell given) other h word = absurd (cc)

headless_by_head : {A : Type 0} (says : ℕ → List ℕ → Trees → Judged A) (form : Tree) → Headless form → by_head says form ≡ Err (bad_shape, line_of form)
headless_by_head says (list line (more (atom at word) operands)) h = absurd (h line at word operands refl)
headless_by_head says (list line none) h = refl
headless_by_head says (list line (more (list at forms) operands)) h = refl
headless_by_head says (list line (more (vector at forms) operands)) h = refl
headless_by_head says (list line (more (quoted at bytes) operands)) h = refl
headless_by_head says (list line (more (number at n) operands)) h = refl
headless_by_head says (vector line forms) h = refl
headless_by_head says (atom line bytes) h = refl
headless_by_head says (quoted line bytes) h = refl
headless_by_head says (number line n) h = refl

headless_value : (form : Tree) → Headless form → value_of form ≡ Err (bad_shape, line_of form)
unfolding value_of
headless_value (list line (more (atom at word) operands)) h = absurd (h line at word operands refl)
headless_value (list line none) h = refl
headless_value (list line (more (list at forms) operands)) h = refl
headless_value (list line (more (vector at forms) operands)) h = refl
headless_value (list line (more (quoted at bytes) operands)) h = refl
headless_value (list line (more (number at n) operands)) h = refl
headless_value (vector line forms) h = refl
headless_value (atom line bytes) h = refl
headless_value (quoted line bytes) h = refl
headless_value (number line n) h = refl

headless_fault : (kind : Kind) (other : RtlFault) → other_word kind ≡ Some other → (form : Tree) → Headless form → fault_of kind form ≡ Some (bad_shape, line_of form)
headless_fault value_kind other h form k = ap fault_in (headless_value form k)
headless_fault place_kind other h form k = ap fault_in (headless_by_head _ form k)
headless_fault effect_kind other h form k = ap fault_in (headless_by_head effect_headed form k)
headless_fault pattern_kind other h form k = ap fault_in (headless_by_head blocks.pattern_headed form k)
headless_fault (attribute_kind given) other h form k = ap fault_in (headless_by_head _ form k)
headless_fault (store_kind given) other h form k = ap fault_in (headless_by_head _ form k)
headless_fault register_kind other h form k = absurd (cc)
headless_fault word_kind other h form k = absurd (cc)
headless_fault name_kind other h form k = absurd (cc)
headless_fault vector_kind other h form k = absurd (cc)
headless_fault (new_name given) other h form k = absurd (cc)
headless_fault (new_register given) other h form k = absurd (cc)
headless_fault (new_cell given) other h form k = absurd (cc)

-- ---- numbers and names

-- a fault is the one that is found
reported : {kind : Kind} {form : Tree} (g f : RtlFault) (m l : ℕ) → ◌≡◌ {A = Option Fault} (Some (g, m)) (Some (f, l)) → Wrong kind form g m → Wrong kind form f l
reported {kind = kind} {form = form} g f m l h w =
    let pair : ◌≡◌ {A = Fault} (g, m) (f, l) = cc in
    let fault : g ≡ f = ap (λ (p : Fault). p.0) pair in
    let line : m ≡ l = ap (λ (p : Fault). p.1) pair in
    subst (λ (x : RtlFault). Wrong kind form x l) fault (subst (λ (x : ℕ). Wrong kind form g x) line w)

register_fault : (form : Tree) (f : RtlFault) (l : ℕ) → fault_in (register_in form) ≡ Some (f, l) → Wrong register_kind form f l
register_fault (number line (pos n)) f l h = by_test (nat_lt n 256) refl h
  where
    by_test : (t : Bool) → nat_lt n 256 ≡ t → fault_in (cond t (Ok n) (Err (register_range, line))) ≡ Some (f, l) → Wrong register_kind (number line (pos n)) f l
    by_test true e h = absurd (cc)
    by_test false e h = reported register_range f line l h (Wrong.past_registers (λ m low same. (let equal : n ≡ m = cc in let high = ltb-false n 256 e in absurd (omega (arith, low, equal, high)))))
register_fault (number line (negsuc n)) f l h = reported register_range f line l h (Wrong.past_registers (λ m low same. absurd (cc)))
register_fault (list line forms) f l h = reported bad_shape f line l h (Wrong.no_register (λ at value e. absurd (cc)))
register_fault (vector line forms) f l h = reported bad_shape f line l h (Wrong.no_register (λ at value e. absurd (cc)))
register_fault (atom line bytes) f l h = reported bad_shape f line l h (Wrong.no_register (λ at value e. absurd (cc)))
register_fault (quoted line bytes) f l h = reported bad_shape f line l h (Wrong.no_register (λ at value e. absurd (cc)))

no_word_in : (form : Tree) → ((line : ℕ) (value : ℤ) → form ≡ number line value → ⊥) → (word : ℕ) → IsWord form word → ⊥
no_word_in _ h _ (a_word {line = line} {value = value}) = h line value refl

word_fault : (form : Tree) (f : RtlFault) (l : ℕ) → fault_in (word_in form) ≡ Some (f, l) → Wrong word_kind form f l
word_fault (number line value) f l h = absurd (cc)
word_fault (list line forms) f l h = reported bad_shape f line l h (Wrong.no_word (no_word_in (list line forms) (λ at value e. absurd (cc))))
word_fault (vector line forms) f l h = reported bad_shape f line l h (Wrong.no_word (no_word_in (vector line forms) (λ at value e. absurd (cc))))
word_fault (atom line bytes) f l h = reported bad_shape f line l h (Wrong.no_word (no_word_in (atom line bytes) (λ at value e. absurd (cc))))
word_fault (quoted line bytes) f l h = reported bad_shape f line l h (Wrong.no_word (no_word_in (quoted line bytes) (λ at value e. absurd (cc))))

-- what is no name is wrong there
name_place : (form : Tree) (f : Fault) → name_in form ≡ Err f → ◌≡◌ {A = Fault} (bad_shape, line_of form) f
name_place (quoted line bytes) f h = by_test (is_name bytes) h
  where
    by_test : (t : Bool) → cond t (Ok bytes) (Err (bad_shape, line)) ≡ Err f → ◌≡◌ {A = Fault} (bad_shape, line) f
    by_test true k = absurd (cc)
    by_test false k = cc
name_place (number line value) f h = cc
name_place (list line forms) f h = cc
name_place (vector line forms) f h = cc
name_place (atom line bytes) f h = cc

word_place : (form : Tree) (f : Fault) → word_in form ≡ Err f → ◌≡◌ {A = Fault} (bad_shape, line_of form) f
word_place (number line value) f h = absurd (cc)
word_place (quoted line bytes) f h = cc
word_place (list line forms) f h = cc
word_place (vector line forms) f h = cc
word_place (atom line bytes) f h = cc

not_ok : {A : Type 0} (judged : Judged A) (f : Fault) (x : A) → judged ≡ Err f → judged ≡ Ok x → ⊥
not_ok judged f x h k = absurd (let e : Err f ≡ Ok x = sym h ∙ k in cc)

name_fault : (form : Tree) (f : RtlFault) (l : ℕ) → fault_in (name_in form) ≡ Some (f, l) → Wrong name_kind form f l
name_fault form f l = by_name (name_in form) refl
  where
    by_name : (judged : Judged (List ℕ)) → name_in form ≡ judged → fault_in judged ≡ Some (f, l) → Wrong name_kind form f l
    by_name (Ok name) e h = absurd (cc)
    by_name (Err g) e h = reported bad_shape f (line_of form) l (ap Some (name_place form g e) ∙ h) (Wrong.no_name (λ name is. not_ok (name_in form) g name e (name_comes is)))

-- what is to be new
twice_if : {A : Type 0} (t : Bool) (line : ℕ) (x : A) (f : Fault) → fault_in (unless_twice t line x) ≡ Some f → (t ≡ true) × (◌≡◌ {A = Fault} (twice, line) f)
twice_if true line x f h = (refl, cc)
twice_if false line x f h = absurd (cc)

new_name_fault : (given : List (List ℕ × List ℕ)) (form : Tree) (f : RtlFault) (l : ℕ) → fault_of (new_name given) form ≡ Some (f, l) → Wrong (new_name given) form f l
new_name_fault given form f l = by_name (name_in form) refl
  where
    by_name : (judged : Judged (List ℕ)) → name_in form ≡ judged → fault_in (and_then judged (λ n. unless_twice (blocks.gives given n) (line_of form) n)) ≡ Some (f, l) → Wrong (new_name given) form f l
    by_name (Ok name) e h =
        let (stands, at) = twice_if (blocks.gives given name) (line_of form) name (f, l) h in
        reported twice f (line_of form) l (ap Some at) (Wrong.name_twice (name_said form name e) (has_some name_key (λ y. bytes_eq y.0 name) name (name_tells name) given stands))
    by_name (Err g) e h = Wrong.no_new_name (name_fault form f l (ap fault_in e ∙ h))

new_register_fault : (given : List Store) (form : Tree) (f : RtlFault) (l : ℕ) → fault_of (new_register given) form ≡ Some (f, l) → Wrong (new_register given) form f l
new_register_fault given form f l = by_register (register_in form) refl
  where
    by_register : (judged : Judged ℕ) → register_in form ≡ judged → fault_in (and_then (and_then judged (λ n. Ok (reg n))) (λ p. unless_twice (states.gives given p) (line_of form) p)) ≡ Some (f, l) → Wrong (new_register given) form f l
    by_register (Ok n) e h =
        let (stands, at) = twice_if (states.gives given (reg n)) (line_of form) (reg n) (f, l) h in
        reported twice f (line_of form) l (ap Some at) (Wrong.register_twice (register_said form n e) (has_some place_key (λ s. same_place s.place (reg n)) (reg n) (given_tells (reg n)) given stands))
    by_register (Err g) e h = Wrong.no_new_register (register_fault form f l (ap fault_in e ∙ h))

new_cell_fault : (given : List Store) (form : Tree) (f : RtlFault) (l : ℕ) → fault_of (new_cell given) form ≡ Some (f, l) → Wrong (new_cell given) form f l
new_cell_fault given form f l = by_word (word_in form) refl
  where
    by_word : (judged : Judged ℕ) → word_in form ≡ judged → fault_in (and_then (and_then judged (λ a. Ok (cell a))) (λ p. unless_twice (states.gives given p) (line_of form) p)) ≡ Some (f, l) → Wrong (new_cell given) form f l
    by_word (Ok a) e h =
        let (stands, at) = twice_if (states.gives given (cell a)) (line_of form) (cell a) (f, l) h in
        reported twice f (line_of form) l (ap Some at) (Wrong.cell_twice (word_said form a e) (has_some place_key (λ s. same_place s.place (cell a)) (cell a) (given_tells (cell a)) given stands))
    by_word (Err g) e h = Wrong.no_new_cell (word_fault form f l (ap fault_in e ∙ h))

-- ---- what is right has no fault, and what has no fault is right

no_fault_is_ok : {A : Type 0} (judged : Judged A) → fault_in judged ≡ None → (x : A) × (judged ≡ Ok x)
no_fault_is_ok (Ok x) h = (x, refl)
no_fault_is_ok (Err f) h = absurd (cc)

not_twice : {A : Type 0} (t : Bool) (line : ℕ) (x : A) → fault_in (unless_twice t line x) ≡ None → t ≡ false
not_twice true line x h = absurd (cc)
not_twice false line x h = refl

none_right : (kind : Kind) (form : Tree) → fault_of kind form ≡ None → Right kind form
none_right register_kind form h = let x = no_fault_is_ok (register_in form) h in (x.0, register_said form x.0 x.1)
none_right word_kind form h = let x = no_fault_is_ok (word_in form) h in (x.0, word_said form x.0 x.1)
none_right name_kind form h = let x = no_fault_is_ok (name_in form) h in (x.0, name_said form x.0 x.1)
none_right value_kind form h = let x = no_fault_is_ok (value_of form) h in (x.0, value_said form x.0 x.1)
none_right place_kind form h = let x = no_fault_is_ok (target_of form) h in (x.0, place_said form x.0 x.1)
none_right effect_kind form h = let x = no_fault_is_ok (effect_of form) h in (x.0, effect_said form x.0 x.1)
none_right vector_kind form h = let x = no_fault_is_ok (blocks.effect_vector form) h in (x.0, vector_said form x.0 x.1)
none_right pattern_kind form h = let x = no_fault_is_ok (blocks.pattern_of form) h in (x.0, pattern_said form x.0 x.1)
none_right (attribute_kind given) form h = let x = no_fault_is_ok (blocks.attribute_of given form) h in let s = attribute_said given form x.0 x.1 in (x.0, s.0, s.1)
none_right (store_kind given) form h = let x = no_fault_is_ok (states.store_of given form) h in let s = store_said given form x.0 x.1 in (x.0, s.0, s.1)
none_right (new_name given) form h = by_name (name_in form) refl h
  where
    by_name : (judged : Judged (List ℕ)) → name_in form ≡ judged → fault_in (and_then judged (λ n. unless_twice (blocks.gives given n) (line_of form) n)) ≡ None → Right (new_name given) form
    by_name (Ok name) e h = (name, name_said form name e, has_none name_key (λ y. bytes_eq y.0 name) name (name_tells name) given (not_twice (blocks.gives given name) (line_of form) name h))
    by_name (Err g) e h = absurd (cc)
none_right (new_register given) form h = by_register (register_in form) refl h
  where
    by_register : (judged : Judged ℕ) → register_in form ≡ judged → fault_in (and_then (and_then judged (λ n. Ok (reg n))) (λ p. unless_twice (states.gives given p) (line_of form) p)) ≡ None → Right (new_register given) form
    by_register (Ok n) e h = (n, register_said form n e, has_none place_key (λ s. same_place s.place (reg n)) (reg n) (given_tells (reg n)) given (not_twice (states.gives given (reg n)) (line_of form) (reg n) h))
    by_register (Err g) e h = absurd (cc)
none_right (new_cell given) form h = by_word (word_in form) refl h
  where
    by_word : (judged : Judged ℕ) → word_in form ≡ judged → fault_in (and_then (and_then judged (λ a. Ok (cell a))) (λ p. unless_twice (states.gives given p) (line_of form) p)) ≡ None → Right (new_cell given) form
    by_word (Ok a) e h = (a, word_said form a e, has_none place_key (λ s. same_place s.place (cell a)) (cell a) (given_tells (cell a)) given (not_twice (states.gives given (cell a)) (line_of form) (cell a) h))
    by_word (Err g) e h = absurd (cc)

right_none : (kind : Kind) (form : Tree) → Right kind form → fault_of kind form ≡ None
right_none register_kind form r = ap fault_in (register_comes r.1)
right_none word_kind form r = ap fault_in (word_comes r.1)
right_none name_kind form r = ap fault_in (name_comes r.1)
right_none value_kind form r = ap fault_in (value_comes r.1)
right_none place_kind form r = ap fault_in (place_comes r.1)
right_none effect_kind form r = ap fault_in (effect_comes r.1)
right_none vector_kind form r = ap fault_in (vector_comes r.1)
right_none pattern_kind form r = ap fault_in (pattern_comes r.1)
right_none (attribute_kind given) form r = ap fault_in (attribute_comes given form r.0 r.1 r.2)
right_none (store_kind given) form r = ap fault_in (store_comes given form r.0 r.1 r.2)
right_none (new_name given) form r =
    let new : blocks.gives given r.0 ≡ false = none_has name_key (λ y. bytes_eq y.0 r.0) r.0 (name_tells r.0) given r.2 in
    rw (name_comes r.1, new) refl
right_none (new_register given) form r =
    let new : states.gives given (reg r.0) ≡ false = none_has place_key (λ s. same_place s.place (reg r.0)) (reg r.0) (given_tells (reg r.0)) given r.2 in
    rw (register_comes r.1, new) refl
right_none (new_cell given) form r =
    let new : states.gives given (cell r.0) ≡ false = none_has place_key (λ s. same_place s.place (cell r.0)) (cell r.0) (given_tells (cell r.0)) given r.2 in
    rw (word_comes r.1, new) refl

-- ---- several forms

effects_fault : (forms : Trees) → fault_in (blocks.effects_of forms) ≡ first_fault (each_of effect_kind forms) forms
effects_fault none = refl
effects_fault (more first others) =
    then_fault (effect_of first) _ _ (λ effect. single_fault (blocks.effects_of others) (λ effects. effect ∷ effects) ∙ effects_fault others)

abbrev EachWrong : Trees → Type 0
EachWrong none = Unit {0}
EachWrong (more first others) = ((kind : Kind) (f : RtlFault) (l : ℕ) → fault_of kind first ≡ Some (f, l) → Wrong kind first f l) × EachWrong others

among_fault : (forms : Trees) → EachWrong forms → (kinds : List Kind) (f : RtlFault) (l : ℕ) → first_fault kinds forms ≡ Some (f, l) → WrongAmong kinds forms f l
among_fault none each [] f l h = absurd (cc)
among_fault none each (kind ∷ kinds) f l h = absurd (cc)
among_fault (more first others) each [] f l h = absurd (cc)
among_fault (more first others) each (kind ∷ kinds) f l h = by_first (fault_of kind first) refl h (λ k. among_fault others each.1 kinds f l k)
  where
    by_first : (o : Option Fault) → fault_of kind first ≡ o → or_else o (first_fault kinds others) ≡ Some (f, l) → (first_fault kinds others ≡ Some (f, l) → WrongAmong kinds others f l) → WrongAmong (kind ∷ kinds) (more first others) f l
    by_first (Some g) e k further = WrongAmong.this (each.0 kind f l (e ∙ k))
    by_first None e k further = WrongAmong.later (none_right kind first e) (further k)

-- ---- a list, a vector, and any other form

list_fault : (kind : Kind) (other : RtlFault) → other_word kind ≡ Some other → (line at : ℕ) (word : List ℕ) (operands : Trees) → EachWrong operands → (f : RtlFault) (l : ℕ) → fault_of kind (headed line at word operands) ≡ Some (f, l) → Wrong kind (headed line at word operands) f l
list_fault kind other is line at word operands each f l h = ⊎_elim
    (λ (head : (kinds : List Kind) × Heads kind word kinds). by_count head.0 head.1)
    (λ (not_so : ((kinds : List Kind) → Heads kind word kinds → ⊥) × ((line at : ℕ) (operands : Trees) → fault_of kind (headed line at word operands) ≡ Some (other, line))).
    reported other f line l (sym (not_so.1 line at operands) ∙ h) (Wrong.unknown is not_so.0))
    (begun kind other is word)
  where
    by_count : (kinds : List Kind) → Heads kind word kinds → Wrong kind (headed line at word operands) f l
    by_count kinds head = ⊎_elim
        (λ (same : count operands ≡ length kinds). Wrong.inside head same (among_fault operands each kinds f l (sym (counted_fault head line at operands same) ∙ h)))
        (λ (apart : count operands ≡ length kinds → ⊥). reported bad_shape f line l (sym (miscounted_fault head line at operands apart) ∙ h) (Wrong.miscounted head apart))
        (same_or_not (count operands) (length kinds))

-- a form that begins with no word, of a kind that is a list
no_head_fault : (kind : Kind) (other : RtlFault) → other_word kind ≡ Some other → (form : Tree) → Headless form → (f : RtlFault) (l : ℕ) → fault_of kind form ≡ Some (f, l) → Wrong kind form f l
no_head_fault kind other is form none_headed f l h = reported bad_shape f (line_of form) l (sym (headless_fault kind other is form none_headed) ∙ h) (Wrong.headless is none_headed)

data HeadView : Tree → Type 0 where
  with_head : (line at : ℕ) (word : List ℕ) (operands : Trees) → HeadView (headed line at word operands)
  no_head : (form : Tree) → Headless form → HeadView form

-- the operands of a list that begins with a word
abbrev inner : Tree → Trees
inner (list line (more (atom at word) operands)) = operands
inner form = none

head_view : (form : Tree) → HeadView form
head_view (list line (more (atom at word) operands)) = with_head line at word operands
head_view (list line none) = no_head _ (λ a b w o e. absurd (cc))
head_view (list line (more (list at forms) operands)) = no_head _ (λ a b w o e. absurd (cc))
head_view (list line (more (vector at forms) operands)) = no_head _ (λ a b w o e. absurd (cc))
head_view (list line (more (quoted at bytes) operands)) = no_head _ (λ a b w o e. absurd (cc))
head_view (list line (more (number at n) operands)) = no_head _ (λ a b w o e. absurd (cc))
head_view (vector line forms) = no_head _ (λ a b w o e. absurd (cc))
head_view (atom line bytes) = no_head _ (λ a b w o e. absurd (cc))
head_view (quoted line bytes) = no_head _ (λ a b w o e. absurd (cc))
head_view (number line n) = no_head _ (λ a b w o e. absurd (cc))

by_head_fault : (kind : Kind) (other : RtlFault) → other_word kind ≡ Some other → (form : Tree) → EachWrong (inner form) → HeadView form → (f : RtlFault) (l : ℕ) → fault_of kind form ≡ Some (f, l) → Wrong kind form f l
by_head_fault kind other is _ each (with_head line at word operands) f l h = list_fault kind other is line at word operands each f l h
by_head_fault kind other is _ each (no_head form none_headed) f l h = no_head_fault kind other is form none_headed f l h

-- the forms of a vector
abbrev inside_vector : Tree → Trees
inside_vector (vector line forms) = forms
inside_vector form = none

vector_fault : (form : Tree) → EachWrong (inside_vector form) → (f : RtlFault) (l : ℕ) → fault_in (blocks.effect_vector form) ≡ Some (f, l) → Wrong vector_kind form f l
vector_fault (vector line (more first others)) each f l h =
    Wrong.in_vector (among_fault (more first others) each (each_of effect_kind (more first others)) f l (sym (effects_fault (more first others)) ∙ h))
vector_fault (vector line none) each f l h = reported bad_shape f line l h (Wrong.no_vector (λ a b o e. absurd (cc)))
vector_fault (list line forms) each f l h = reported bad_shape f line l h (Wrong.no_vector (λ a b o e. absurd (cc)))
vector_fault (atom line bytes) each f l h = reported bad_shape f line l h (Wrong.no_vector (λ a b o e. absurd (cc)))
vector_fault (quoted line bytes) each f l h = reported bad_shape f line l h (Wrong.no_vector (λ a b o e. absurd (cc)))
vector_fault (number line n) each f l h = reported bad_shape f line l h (Wrong.no_vector (λ a b o e. absurd (cc)))

kind_fault : (kind : Kind) (form : Tree) → EachWrong (inner form) → EachWrong (inside_vector form) → (f : RtlFault) (l : ℕ) → fault_of kind form ≡ Some (f, l) → Wrong kind form f l
kind_fault register_kind form each within = register_fault form
kind_fault word_kind form each within = word_fault form
kind_fault name_kind form each within = name_fault form
kind_fault value_kind form each within = by_head_fault value_kind unknown_code refl form each (head_view form)
kind_fault place_kind form each within = by_head_fault place_kind unknown_code refl form each (head_view form)
kind_fault effect_kind form each within = by_head_fault effect_kind unknown_code refl form each (head_view form)
kind_fault pattern_kind form each within = by_head_fault pattern_kind unknown_code refl form each (head_view form)
kind_fault (attribute_kind given) form each within = by_head_fault (attribute_kind given) bad_shape refl form each (head_view form)
kind_fault (store_kind given) form each within = by_head_fault (store_kind given) bad_shape refl form each (head_view form)
kind_fault vector_kind form each within = vector_fault form within
kind_fault (new_name given) form each within = new_name_fault given form
kind_fault (new_register given) form each within = new_register_fault given form
kind_fault (new_cell given) form each within = new_cell_fault given form

-- the operands of a list, of what is said of all its forms
inner_each : (line : ℕ) (forms : Trees) → EachWrong forms → EachWrong (inner (list line forms))
inner_each line (more (atom at word) operands) each = each.1
inner_each line none each = tt
inner_each line (more (list at forms) operands) each = tt
inner_each line (more (vector at forms) operands) each = tt
inner_each line (more (quoted at bytes) operands) each = tt
inner_each line (more (number at n) operands) each = tt

mutual
  pub fault_wrong : (form : Tree) → (kind : Kind) (f : RtlFault) (l : ℕ) → fault_of kind form ≡ Some (f, l) → Wrong kind form f l
  fault_wrong (list line forms) = λ kind. kind_fault kind (list line forms) (inner_each line forms (each_wrong forms)) tt
  fault_wrong (vector line forms) = λ kind. kind_fault kind (vector line forms) tt (each_wrong forms)
  fault_wrong (atom line bytes) = λ kind. kind_fault kind (atom line bytes) tt tt
  fault_wrong (quoted line bytes) = λ kind. kind_fault kind (quoted line bytes) tt tt
  fault_wrong (number line n) = λ kind. kind_fault kind (number line n) tt tt

  each_wrong : (forms : Trees) → EachWrong forms
  each_wrong none = tt
  each_wrong (more first others) = (fault_wrong first, each_wrong others)

-- ---- what is wrong by the grammar has its fault

pub fault_is_err : {A : Type 0} (judged : Judged A) (f : Fault) → fault_in judged ≡ Some f → judged ≡ Err f
fault_is_err (Ok x) f h = absurd (cc)
fault_is_err (Err g) f h = ap Err (cc)

or_first : (o other : Option Fault) (f : Fault) → o ≡ Some f → or_else o other ≡ Some f
or_first (Some g) other f h = h
or_first None other f h = absurd (cc)

or_second : (o other : Option Fault) (f : Fault) → o ≡ None → other ≡ Some f → or_else o other ≡ Some f
or_second (Some g) other f h k = absurd (cc)
or_second None other f h k = k

no_vector_fault : (form : Tree) → ((line : ℕ) (first : Tree) (others : Trees) → form ≡ vector line (more first others) → ⊥) → fault_in (blocks.effect_vector form) ≡ Some (bad_shape, line_of form)
no_vector_fault (vector line (more first others)) h = absurd (h line first others refl)
no_vector_fault (vector line none) h = refl
no_vector_fault (list line forms) h = refl
no_vector_fault (atom line bytes) h = refl
no_vector_fault (quoted line bytes) h = refl
no_vector_fault (number line n) h = refl

no_register_fault : (form : Tree) → ((line : ℕ) (value : ℤ) → form ≡ number line value → ⊥) → fault_in (register_in form) ≡ Some (bad_shape, line_of form)
no_register_fault (number line value) h = absurd (h line value refl)
no_register_fault (vector line forms) h = refl
no_register_fault (list line forms) h = refl
no_register_fault (atom line bytes) h = refl
no_register_fault (quoted line bytes) h = refl

past_registers_fault : (line : ℕ) (value : ℤ) → ((n : ℕ) → n < 256 → value ≡ pos n → ⊥) → fault_in (register_in (number line value)) ≡ Some (register_range, line)
past_registers_fault line (negsuc n) h = refl
past_registers_fault line (pos n) h = rw (le-ltb n 256 (⊎_elim (λ (low : n < 256). absurd (h n low refl)) (λ (high : 256 ≤ n). high) (cases_lt n 256))) refl

no_word_fault : (form : Tree) → ((word : ℕ) → IsWord form word → ⊥) → fault_in (word_in form) ≡ Some (bad_shape, line_of form)
no_word_fault (number line value) h = absurd (h (word_of value) a_word)
no_word_fault (vector line forms) h = refl
no_word_fault (list line forms) h = refl
no_word_fault (atom line bytes) h = refl
no_word_fault (quoted line bytes) h = refl

no_name_fault : (form : Tree) → ((name : List ℕ) → IsName form name → ⊥) → fault_in (name_in form) ≡ Some (bad_shape, line_of form)
no_name_fault form h = by_name (name_in form) refl
  where
    by_name : (judged : Judged (List ℕ)) → name_in form ≡ judged → fault_in judged ≡ Some (bad_shape, line_of form)
    by_name (Ok name) e = absurd (h name (name_said form name e))
    by_name (Err g) e = ap Some (sym (name_place form g e))

other_fault : (kind : Kind) (other : RtlFault) → other_word kind ≡ Some other → (line at : ℕ) (word : List ℕ) (operands : Trees) → ((kinds : List Kind) → Heads kind word kinds → ⊥) → fault_of kind (headed line at word operands) ≡ Some (other, line)
other_fault kind other is line at word operands not_so = ⊎_elim
    (λ (head : (kinds : List Kind) × Heads kind word kinds). absurd (not_so head.0 head.1))
    (λ (unheard : ((kinds : List Kind) → Heads kind word kinds → ⊥) × ((line at : ℕ) (operands : Trees) → fault_of kind (headed line at word operands) ≡ Some (other, line))). unheard.1 line at operands)
    (begun kind other is word)

name_twice_fault : (given : List (List ℕ × List ℕ)) (form : Tree) (name : List ℕ) → IsName form name → HasName given name → fault_of (new_name given) form ≡ Some (twice, line_of form)
name_twice_fault given form name is has =
    let stands : blocks.gives given name ≡ true = some_has name_key (λ y. bytes_eq y.0 name) name (name_tells name) given has in
    rw (name_comes is, stands) refl

register_twice_fault : (given : List Store) (form : Tree) (n : ℕ) → IsRegister form n → HasPlace given (reg n) → fault_of (new_register given) form ≡ Some (twice, line_of form)
register_twice_fault given form n is has =
    let stands : states.gives given (reg n) ≡ true = some_has place_key (λ s. same_place s.place (reg n)) (reg n) (given_tells (reg n)) given has in
    rw (register_comes is, stands) refl

cell_twice_fault : (given : List Store) (form : Tree) (a : ℕ) → IsWord form a → HasPlace given (cell a) → fault_of (new_cell given) form ≡ Some (twice, line_of form)
cell_twice_fault given form a is has =
    let stands : states.gives given (cell a) ≡ true = some_has place_key (λ s. same_place s.place (cell a)) (cell a) (given_tells (cell a)) given has in
    rw (word_comes is, stands) refl

mutual
  pub wrong_fault : {kind : Kind} {form : Tree} {f : RtlFault} {l : ℕ} → Wrong kind form f l → fault_of kind form ≡ Some (f, l)
  wrong_fault (Wrong.headless {kind = kind} {other = other} {form = form} is not_so) = headless_fault kind other is form not_so
  wrong_fault (Wrong.unknown {kind = kind} {other = other} {line = line} {at = at} {word = word} {operands = operands} is not_so) = other_fault kind other is line at word operands not_so
  wrong_fault (Wrong.miscounted {line = line} {at = at} {operands = operands} head apart) = miscounted_fault head line at operands apart
  wrong_fault (Wrong.inside {line = line} {at = at} {operands = operands} head same w) = counted_fault head line at operands same ∙ wrong_among w
  wrong_fault (Wrong.no_vector {form = form} not_so) = no_vector_fault form not_so
  wrong_fault (Wrong.in_vector {first = first} {others = others} w) = effects_fault (more first others) ∙ wrong_among w
  wrong_fault (Wrong.no_register {form = form} not_so) = no_register_fault form not_so
  wrong_fault (Wrong.past_registers {line = line} {value = value} not_so) = past_registers_fault line value not_so
  wrong_fault (Wrong.no_word {form = form} not_so) = no_word_fault form not_so
  wrong_fault (Wrong.no_name {form = form} not_so) = no_name_fault form not_so
  wrong_fault (Wrong.no_new_name {form = form} {fault = f} {line = l} w) = rw (fault_is_err (name_in form) (f, l) (wrong_fault w)) refl
  wrong_fault (Wrong.name_twice {given = given} {form = form} {name = name} is has) = name_twice_fault given form name is has
  wrong_fault (Wrong.no_new_register {form = form} {fault = f} {line = l} w) = rw (fault_is_err (register_in form) (f, l) (wrong_fault w)) refl
  wrong_fault (Wrong.register_twice {given = given} {form = form} {n = n} is has) = register_twice_fault given form n is has
  wrong_fault (Wrong.no_new_cell {form = form} {fault = f} {line = l} w) = rw (fault_is_err (word_in form) (f, l) (wrong_fault w)) refl
  wrong_fault (Wrong.cell_twice {given = given} {form = form} {address = a} is has) = cell_twice_fault given form a is has

  wrong_among : {kinds : List Kind} {forms : Trees} {f : RtlFault} {l : ℕ} → WrongAmong kinds forms f l → first_fault kinds forms ≡ Some (f, l)
  wrong_among (WrongAmong.this {kind = kind} {kinds = kinds} {form = form} {others = others} {fault = f} {place = l} w) = or_first (fault_of kind form) (first_fault kinds others) (f, l) (wrong_fault w)
  wrong_among (WrongAmong.later {kind = kind} {kinds = kinds} {form = form} {others = others} {fault = f} {place = l} right w) = or_second (fault_of kind form) (first_fault kinds others) (f, l) (right_none kind form right) (wrong_among w)
