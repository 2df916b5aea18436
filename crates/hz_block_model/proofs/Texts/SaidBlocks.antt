-- Attributes, instructions, blocks and states: what is read of forms is what their grammar says, and the other way round.
use Rattle.std.proofs.Common.{◌≡◌, ◌≢◌, ◌⊎◌, inl, inr, ⊎_elim, ℕ, ◌<◌, ◌≤◌, Bool, true, false, cond, List, [], ◌∷◌, ◌++◌, length, get_or, Option, Some, None, Contains, Ok, Err, refl, sym, ap, ◌∙◌, subst, arith, append_assoc, length-append}
use Rattle.std.specs.Prelude.{codes, nat_lt, ◌||◌, ◌==◌}
use Rattle.std.specs.Bool.{Decides}
use Rattle.std.specs.List.{AllPairs, list_any}
use Rattle.std.specs.Str.{bytes_eq}
use Rattle.std.proofs.Math.Path.{fun_ext}
use Rattle.std.proofs.Math.ListN.{get_or-append}
use Rattle.std.proofs.Math.Seq.{get_or-append_seam}
use Rattle.std.proofs.lemmas.Bool.{lt-ltb}
use Rattle.std.proofs.lemmas.Bool.Decides.{Decides-eqb}
use Rattle.std.proofs.lemmas.List.{append-nil}
use Rattle.std.proofs.lemmas.List.Elements.{All-contains}
use Rattle.std.proofs.lemmas.Slice.Eq.{bytes_eq-Decides}
use Rattle.hz_base_model.proofs.Ascending.{AllPairs-append, AllPairs-head, AllPairs-tail}
use Rattle.hz_base_model.proofs.Elements.{Contains-nil, Contains-head, Contains-tail, Contains-cons_cases}
use Rattle.hz_base_model.specs.Forms.Trees.{Tree, Trees, none, more, line_of}
use Rattle.hz_block_model.specs.Running.Blocks.{Instruction}
use Rattle.hz_block_model.specs.Running.States.{Place, reg, cell, same_place, State, Store, stored, all_stored}
use Rattle.hz_block_model.specs.Texts.Operands.{Judged, RtlFault, bad_shape, and_then, unless_twice, register_in, word_in, number_in, name_in}
use Rattle.hz_block_model.specs.Texts.Values.{TargetCode, into_code, cell_code, target_code}
use Rattle.hz_block_model.specs.Texts.BlockForms as blocks
use Rattle.hz_block_model.specs.Texts.StateForms as states
use Rattle.hz_block_model.specs.Texts.Grammar.{headed, two, EachIs, nothing_is, each_is, IsWord, IsAttribute, set_attribute, IsInstruction, IsBlock, IsStore, reg_store, mem_store, AreGiven, IsState}
use Rattle.hz_block_model.specs.Texts.WrongForms.{HasName, HasPlace, HasNumber, place_name}
use Rattle.hz_block_model.specs.Running.Limits.{instruction_limit}
use Rattle.hz_block_model.proofs.Texts.Numbers.{ok_of, all_few}
use Rattle.hz_block_model.proofs.Texts.SaidValues.{by_head_said, place_word, register_said, register_comes, word_said, word_comes, number_said, number_comes, name_said, name_comes, pattern_said, pattern_comes}

-- ---- what a list has

first_false : (a b : Bool) → (a || b) ≡ false → (a ≡ false) × (b ≡ false)
first_false true b e = absurd (cc)
first_false false b e = (refl, e)

first_true : (a b : Bool) → (a || b) ≡ true → (a ≡ true) ⊎ (b ≡ true)
first_true true b e = inl refl
first_true false b e = inr e

or_right : (a b : Bool) → b ≡ true → (a || b) ≡ true
or_right true b e = refl
or_right false b e = e

or_left : (a b : Bool) → a ≡ true → (a || b) ≡ true
or_left true b e = refl
or_left false b e = absurd (cc)

abbrev Has : {A B : Type 0} → (key : A → B) → List A → B → Type 0
Has {A = A} key xs b = (a : A) × Contains xs a × (key a ≡ b)

module _ {A B : Type 0} (key : A → B) (test : A → Bool) (b : B) (tells : (a : A) → Decides (test a) (key a ≡ b)) where
  pub has_some : (xs : List A) → list_any test xs ≡ true → Has key xs b
  has_some [] h = absurd (cc)
  has_some (x ∷ xs) h = ⊎_elim
      (λ (here : test x ≡ true). (x, Contains-head x xs, (tells x).0 here))
      (λ (k : list_any test xs ≡ true). let further = has_some xs k in (further.0, Contains-tail x further.0 xs further.1, further.2))
      (first_true (test x) (list_any test xs) h)

  pub some_has : (xs : List A) → Has key xs b → list_any test xs ≡ true
  some_has [] has = absurd (Contains-nil has.0 has.1)
  some_has (x ∷ xs) has = ⊎_elim
      (λ (same : x ≡ has.0). or_left (test x) (list_any test xs) ((tells x).1 (ap key same ∙ has.2)))
      (λ (further : Contains xs has.0). or_right (test x) (list_any test xs) (some_has xs (has.0, further, has.2)))
      (Contains-cons_cases x has.0 xs has.1)

  pub has_none : (xs : List A) → list_any test xs ≡ false → Has key xs b → ⊥
  has_none xs h has = let k = some_has xs has in absurd (cc)

  pub none_has : (xs : List A) → (Has key xs b → ⊥) → list_any test xs ≡ false
  none_has xs h = by_test (list_any test xs) refl
    where
      by_test : (t : Bool) → list_any test xs ≡ t → list_any test xs ≡ false
      by_test true e = absurd (h (has_some xs e))
      by_test false e = e

-- what is across a seam
pairs_across : {A : Type 0} (R : A → A → Type 0) (xs : List A) (y : A) (ys : List A) → AllPairs R (xs ++ y ∷ ys) → (x : A) → Contains xs x → R x y
pairs_across R xs y ys all x (k, within, is) =
    let long = length-append xs (y ∷ ys) in
    let pair = all k (length xs) x within (omega arith) in
    subst (λ (a : _). R a y) (get_or-append xs (y ∷ ys) x k within ∙ is) (subst (R (get_or (xs ++ y ∷ ys) k x)) (get_or-append_seam xs y ys x) pair)

only_one : {A : Type 0} (y x : A) → Contains (y ∷ []) x → y ≡ x
only_one y x c = ⊎_elim (λ (e : y ≡ x). e) (λ (m : Contains [] x). absurd (Contains-nil x m)) (Contains-cons_cases y x [] c)

none_pairs : {A : Type 0} (R : A → A → Type 0) → AllPairs R []
none_pairs R i j d lt within = absurd (omega arith)

one_pair : {A : Type 0} (R : A → A → Type 0) (x : A) → AllPairs R (x ∷ [])
one_pair R x i j d lt within = absurd (omega arith)

-- ---- forms one after the other, no key twice

module _ {A B : Type 0} (key : A → B) (Is : Tree → A → Type 0) (item : List A → Tree → Judged A) (all : List A → Trees → Judged (List A)) (Fits Room : List A → Type 0)
    (none_all : (given : List A) → all given none ≡ Ok given)
    (more_all : (given : List A) (first : Tree) (others : Trees) → all given (more first others) ≡ and_then (item given first) (λ x. all (given ++ x ∷ []) others))
    (room : (given : List A) (x : A) (rest : List A) → Fits (given ++ x ∷ rest) → Room given)
    (said : (given : List A) (form : Tree) (x : A) → item given form ≡ Ok x → Is form x × (Has key given (key x) → ⊥))
    (comes : (given : List A) (form : Tree) (x : A) → Is form x → (Has key given (key x) → ⊥) → Room given → item given form ≡ Ok x) where
  abbrev Once : List A → Type 0
  Once xs = AllPairs (λ a b. key a ≢ key b) xs

  once_more : (given : List A) (x : A) → Once given → (Has key given (key x) → ⊥) → Once (given ++ x ∷ [])
  once_more given x once new =
      AllPairs-append (λ (a b : A). key a ≢ key b) given (x ∷ []) once (one_pair (λ (a b : A). key a ≢ key b) x)
      (λ a b m n. λ same. new (a, m, same ∙ ap key (sym (only_one x b n))))

  record Said (given : List A) (forms : Trees) (items : List A) : Type 0 where
    rest : List A
    parts : items ≡ given ++ rest
    each : EachIs Is forms rest
    once : Once items

  all_said : (given : List A) (forms : Trees) (items : List A) → Once given → all given forms ≡ Ok items → Said given forms items
  all_said given none items once h =
      let same : given ≡ items = let k : ◌≡◌ {A = Judged (List A)} (Ok given) (Ok items) = sym (none_all given) ∙ h in cc in
      record { rest = []; parts = sym same ∙ sym (append-nil given); each = nothing_is; once = subst Once same once }
  all_said given (more first others) items once h =
      let next = ok_of (item given first) (λ x. all (given ++ x ∷ []) others) items (sym (more_all given first others) ∙ h) in
      let x : A = next.0 in
      let (is, new) = said given first x next.1 in
      let s = all_said (given ++ x ∷ []) others items (once_more given x once new) next.2 in
      record { rest = x ∷ s.rest; parts = s.parts ∙ append_assoc given (x ∷ []) s.rest; each = each_is is s.each; once = s.once }

  all_comes : (given : List A) {forms : Trees} {rest : List A} → EachIs Is forms rest → Once (given ++ rest) → Fits (given ++ rest) → all given forms ≡ Ok (given ++ rest)
  all_comes given nothing_is once fits = none_all given ∙ ap Ok (sym (append-nil given))
  all_comes given (each_is {first = first} {others = others} {item = x} {items = rest} is each) once fits =
      let new : Has key given (key x) → ⊥ = λ has. pairs_across (λ (a b : A). key a ≢ key b) given x rest once has.0 has.1 has.2 in
      let parts : (given ++ x ∷ []) ++ rest ≡ given ++ x ∷ rest = append_assoc given (x ∷ []) rest in
      let here = comes given first x is new (room given x rest fits) in
      more_all given first others
      ∙ (ap (λ (judged : Judged A). and_then judged (λ x. all (given ++ x ∷ []) others)) here
      ∙ (all_comes (given ++ x ∷ []) each (subst Once (sym parts) once) (subst Fits (sym parts) fits) ∙ ap Ok parts))

-- ---- attributes

unless_new : {A : Type 0} (t : Bool) (line : ℕ) (x y : A) → unless_twice t line x ≡ Ok y → t ≡ false
unless_new true line x y h = absurd (cc)
unless_new false line x y h = refl

pub name_tells : (name : List ℕ) (attribute : List ℕ × List ℕ) → Decides (bytes_eq attribute.0 name) (attribute.0 ≡ name)
name_tells name attribute = bytes_eq-Decides attribute.0 name

abbrev pub name_key : List ℕ × List ℕ → List ℕ
name_key attribute = attribute.0

attribute_with_said : (given : List (List ℕ × List ℕ)) (line at : ℕ) (operands : Trees) (x : List ℕ × List ℕ) → blocks.attribute_with given line operands ≡ Ok x → IsAttribute (headed line at (codes "set_attr") operands) x × (HasName given x.0 → ⊥)
attribute_with_said given line at (more a (more b none)) x h =
    let n = ok_of (name_in a) (λ n. and_then (unless_twice (blocks.gives given n) (line_of a) n) (λ _. and_then (name_in b) (λ v. Ok (n, v)))) x h in
    let u = ok_of (unless_twice (blocks.gives given n.0) (line_of a) n.0) (λ _. and_then (name_in b) (λ v. Ok (n.0, v))) x n.2 in
    let v = ok_of (name_in b) (λ v. Ok (n.0, v)) x u.2 in
    let same : ◌≡◌ {A = List ℕ × List ℕ} (n.0, v.0) x = cc (v.2) in
    subst (λ (y : List ℕ × List ℕ). IsAttribute (headed line at (codes "set_attr") (two a b)) y × (HasName given y.0 → ⊥)) same
    (set_attribute (name_said a n.0 n.1) (name_said b v.0 v.1), has_none name_key (λ y. bytes_eq y.0 n.0) n.0 (name_tells n.0) given (unless_new (blocks.gives given n.0) (line_of a) n.0 u.0 u.1))
attribute_with_said given line at none x h = absurd (cc)
attribute_with_said given line at (more a none) x h = absurd (cc)
attribute_with_said given line at (more a (more b (more c rest))) x h = absurd (cc)

pub attribute_said : (given : List (List ℕ × List ℕ)) (form : Tree) (x : List ℕ × List ℕ) → blocks.attribute_of given form ≡ Ok x → IsAttribute form x × (HasName given x.0 → ⊥)
attribute_said given =
    by_head_said (λ form x. IsAttribute form x × (HasName given x.0 → ⊥)) (λ line word operands. cond (bytes_eq word (codes "set_attr")) (blocks.attribute_with given line operands) (Err (bad_shape, line))) each
  where
    each : (line at : ℕ) (word : List ℕ) (operands : Trees) (x : List ℕ × List ℕ) → cond (bytes_eq word (codes "set_attr")) (blocks.attribute_with given line operands) (Err (bad_shape, line)) ≡ Ok x → IsAttribute (headed line at word operands) x × (HasName given x.0 → ⊥)
    each line at word operands x = by_test (bytes_eq word (codes "set_attr")) refl
      where
        by_test : (t : Bool) → bytes_eq word (codes "set_attr") ≡ t → cond t (blocks.attribute_with given line operands) (Err (bad_shape, line)) ≡ Ok x → IsAttribute (headed line at word operands) x × (HasName given x.0 → ⊥)
        by_test true e h = subst (λ (w : List ℕ). IsAttribute (headed line at w operands) x × (HasName given x.0 → ⊥)) (sym ((bytes_eq-Decides word (codes "set_attr")).0 e)) (attribute_with_said given line at operands x h)
        by_test false e h = absurd (cc)

pub attribute_comes : (given : List (List ℕ × List ℕ)) (form : Tree) (x : List ℕ × List ℕ) → IsAttribute form x → (HasName given x.0 → ⊥) → blocks.attribute_of given form ≡ Ok x
attribute_comes given _ _ (set_attribute {name = n} name value) new =
    let none_given : blocks.gives given n ≡ false = none_has name_key (λ y. bytes_eq y.0 n) n (name_tells n) given new in
    rw (name_comes name, none_given, name_comes value) refl

abbrev AnyList : {A : Type 0} → List A → Type 0
AnyList xs = Unit {0}

pub attributes_said : (forms : Trees) (given : List (List ℕ × List ℕ)) → blocks.attributes_after [] forms ≡ Ok given → EachIs IsAttribute forms given × AllPairs (λ a b. a.0 ≢ b.0) given
attributes_said forms given h =
    let s = all_said name_key IsAttribute blocks.attribute_of blocks.attributes_after AnyList AnyList (λ g. refl) (λ g t ts. refl) (λ g x rest fits. tt) attribute_said (λ g t x is new fits. attribute_comes g t x is new) [] forms given (none_pairs (λ a b. a.0 ≢ b.0)) h in
    (subst (EachIs IsAttribute forms) (sym s.parts) s.each, s.once)

pub attributes_come : {forms : Trees} {given : List (List ℕ × List ℕ)} → EachIs IsAttribute forms given → AllPairs (λ a b. a.0 ≢ b.0) given → blocks.attributes_after [] forms ≡ Ok given
attributes_come each once =
    all_comes name_key IsAttribute blocks.attribute_of blocks.attributes_after AnyList AnyList (λ g. refl) (λ g t ts. refl) (λ g x rest fits. tt) attribute_said (λ g t x is new fits. attribute_comes g t x is new) [] each once tt

-- ---- instructions

pub number_tells : (n : ℕ) (i : Instruction) → Decides (i.number == n) (i.number ≡ n)
number_tells n i = Decides-eqb i.number n

abbrev pub number_key : Instruction → ℕ
number_key i = i.number

instruction_with_said : (before : List Instruction) (line at : ℕ) (operands : Trees) (i : Instruction) → blocks.instruction_with before line operands ≡ Ok i → IsInstruction (headed line at (codes "insn") operands) i × (HasNumber before i.number → ⊥)
instruction_with_said before line at none i h = absurd (cc)
instruction_with_said before line at (more a none) i h = absurd (cc)
instruction_with_said before line at (more a (more pattern others)) i h =
    let first = ok_of (number_in a) (λ n. and_then (unless_twice (blocks.has_number before n) line n) (λ _. and_then (blocks.pattern_of pattern) (λ effects. and_then (blocks.attributes_after [] others) (λ given. Ok (record { number = n; line = line; effects = effects; attributes = given }))))) i h in
    let n : ℕ = first.0 in
    let second = ok_of (unless_twice (blocks.has_number before n) line n) (λ _. and_then (blocks.pattern_of pattern) (λ effects. and_then (blocks.attributes_after [] others) (λ given. Ok (record { number = n; line = line; effects = effects; attributes = given })))) i first.2 in
    let third = ok_of (blocks.pattern_of pattern) (λ effects. and_then (blocks.attributes_after [] others) (λ given. Ok (record { number = n; line = line; effects = effects; attributes = given }))) i second.2 in
    let fourth = ok_of (blocks.attributes_after [] others) (λ given. Ok (record { number = n; line = line; effects = third.0; attributes = given })) i third.2 in
    let whole : Instruction = record { number = n; line = line; effects = third.0; attributes = fourth.0 } in
    let same : whole ≡ i = cc (fourth.2) in
    let (each, once) = attributes_said others fourth.0 fourth.1 in
    subst (λ (j : Instruction). IsInstruction (headed line at (codes "insn") (more a (more pattern others))) j × (HasNumber before j.number → ⊥)) same (
      record { at = at; first = a; second = pattern; others = others; form_is = refl; number_is = number_said a n first.1; pattern_is = pattern_said pattern third.0 third.1; attributes_are = each; once = once },
      has_none number_key (λ j. j.number == n) n (number_tells n) before (unless_new (blocks.has_number before n) line n second.0 second.1),
    )

pub instruction_said : (before : List Instruction) (form : Tree) (i : Instruction) → blocks.instruction_of before form ≡ Ok i → IsInstruction form i × (HasNumber before i.number → ⊥)
instruction_said before =
    by_head_said (λ form i. IsInstruction form i × (HasNumber before i.number → ⊥)) (λ line word operands. cond (bytes_eq word (codes "insn")) (blocks.instruction_with before line operands) (Err (bad_shape, line))) each
  where
    each : (line at : ℕ) (word : List ℕ) (operands : Trees) (i : Instruction) → cond (bytes_eq word (codes "insn")) (blocks.instruction_with before line operands) (Err (bad_shape, line)) ≡ Ok i → IsInstruction (headed line at word operands) i × (HasNumber before i.number → ⊥)
    each line at word operands i = by_test (bytes_eq word (codes "insn")) refl
      where
        by_test : (t : Bool) → bytes_eq word (codes "insn") ≡ t → cond t (blocks.instruction_with before line operands) (Err (bad_shape, line)) ≡ Ok i → IsInstruction (headed line at word operands) i × (HasNumber before i.number → ⊥)
        by_test true e h = subst (λ (w : List ℕ). IsInstruction (headed line at w operands) i × (HasNumber before i.number → ⊥)) (sym ((bytes_eq-Decides word (codes "insn")).0 e)) (instruction_with_said before line at operands i h)
        by_test false e h = absurd (cc)

short_ok : {A : Type 0} (t : Bool) (judged : Judged A) (f : RtlFault × ℕ) (x : A) → cond t judged (Err f) ≡ Ok x → judged ≡ Ok x
short_ok true judged f x h = h
short_ok false judged f x h = absurd (cc)

next_said : (before : List Instruction) (form : Tree) (i : Instruction) → blocks.next_instruction before form ≡ Ok i → IsInstruction form i × (HasNumber before i.number → ⊥)
next_said before form i h = instruction_said before form i (short_ok (nat_lt (length before) instruction_limit) (blocks.instruction_of before form) _ i h)

pub instruction_comes : (before : List Instruction) (form : Tree) (i : Instruction) → IsInstruction form i → (HasNumber before i.number → ⊥) → blocks.instruction_of before form ≡ Ok i
instruction_comes before form i is new =
    let none_given : blocks.has_number before i.number ≡ false = none_has number_key (λ j. j.number == i.number) i.number (number_tells i.number) before new in
    rw is.form_is (rw (number_comes is.number_is, none_given, pattern_comes is.pattern_is, attributes_come is.attributes_are is.once) refl)

next_comes : (before : List Instruction) (form : Tree) (i : Instruction) → IsInstruction form i → (HasNumber before i.number → ⊥) → length before < 4096 → blocks.next_instruction before form ≡ Ok i
next_comes before form i is new low = rw (lt-ltb (length before) 4096 low) (instruction_comes before form i is new)

abbrev Few : List Instruction → Type 0
Few block = length block ≤ 4096

abbrev HasRoom : List Instruction → Type 0
HasRoom before = length before < 4096

few_room : (before : List Instruction) (i : Instruction) (rest : List Instruction) → Few (before ++ i ∷ rest) → HasRoom before
few_room before i rest few = let long = length-append before (i ∷ rest) in omega (arith, long, few)

pub block_said : (forms : Trees) (block : List Instruction) → blocks.Reads forms block → IsBlock forms block
block_said forms block h =
    let s = all_said number_key IsInstruction blocks.next_instruction blocks.instructions_after Few HasRoom (λ g. refl) (λ g t ts. refl) few_room next_said next_comes [] forms block (none_pairs (λ i j. i.number ≢ j.number)) h in
    record { each = subst (EachIs IsInstruction forms) (sym s.parts) s.each; once = s.once; few = all_few [] forms block (omega arith) h }

pub block_comes : (forms : Trees) (block : List Instruction) → IsBlock forms block → blocks.Reads forms block
block_comes forms block b =
    all_comes number_key IsInstruction blocks.next_instruction blocks.instructions_after Few HasRoom (λ g. refl) (λ g t ts. refl) few_room next_said next_comes [] b.each b.once b.few

-- ---- states

pub place_tells : (place other : Place) → Decides (same_place other place) (other ≡ place)
place_tells (reg m) (reg n) = (λ h. ap reg ((Decides-eqb n m).0 h), λ e. (Decides-eqb n m).1 (let same : n ≡ m = cc in same))
place_tells (cell a) (cell b) = (λ h. ap cell ((Decides-eqb b a).0 h), λ e. (Decides-eqb b a).1 (let same : b ≡ a = cc in same))
place_tells (reg m) (cell b) = (λ h. absurd (cc), λ e. absurd (cc))
place_tells (cell a) (reg n) = (λ h. absurd (cc), λ e. absurd (cc))

abbrev pub place_key : Store → Place
place_key store = store.place

pub given_tells : (place : Place) (store : Store) → Decides (same_place store.place place) (store.place ≡ place)
given_tells place store = place_tells place store.place

store_with_said : (given : List Store) (line at : ℕ) (code : TargetCode) (operands : Trees) (x : Store) → states.store_with given line code operands ≡ Ok x → IsStore (headed line at (place_name code) operands) x × (HasPlace given x.place → ⊥)
store_with_said given line at code none x h = absurd (cc)
store_with_said given line at code (more a none) x h = absurd (cc)
store_with_said given line at code (more a (more b (more c rest))) x h = absurd (cc)
store_with_said given line at code (more a (more b none)) x h =
    let p = ok_of (states.place_of code a) (λ p. and_then (unless_twice (states.gives given p) (line_of a) p) (λ _. and_then (word_in b) (λ w. Ok (record { place = p; word = w })))) x h in
    let u = ok_of (unless_twice (states.gives given p.0) (line_of a) p.0) (λ _. and_then (word_in b) (λ w. Ok (record { place = p.0; word = w }))) x p.2 in
    let w = ok_of (word_in b) (λ w. Ok (record { place = p.0; word = w })) x u.2 in
    let whole : Store = record { place = p.0; word = w.0 } in
    let same : whole ≡ x = cc (w.2) in
    subst (λ (y : Store). IsStore (headed line at (place_name code) (two a b)) y × (HasPlace given y.place → ⊥)) same
    (by_code code p.0 p.1 w.0 (word_said b w.0 w.1), has_none place_key (λ s. same_place s.place p.0) p.0 (given_tells p.0) given (unless_new (states.gives given p.0) (line_of a) p.0 u.0 u.1))
  where
    by_code : (code : TargetCode) (p : Place) → states.place_of code a ≡ Ok p → (w : ℕ) → IsWord b w → IsStore (headed line at (place_name code) (two a b)) (record { place = p; word = w })
    by_code into_code p k w is =
        let n = ok_of (register_in a) (λ n. Ok (reg n)) p k in
        let at_place : reg n.0 ≡ p = cc (n.2) in
        subst (λ (q : Place). IsStore (headed line at (codes "reg") (two a b)) (record { place = q; word = w })) at_place (reg_store (register_said a n.0 n.1) is)
    by_code cell_code p k w is =
        let n = ok_of (word_in a) (λ n. Ok (cell n)) p k in
        let at_place : cell n.0 ≡ p = cc (n.2) in
        subst (λ (q : Place). IsStore (headed line at (codes "mem") (two a b)) (record { place = q; word = w })) at_place (mem_store (word_said a n.0 n.1) is)

pub store_said : (given : List Store) (form : Tree) (x : Store) → states.store_of given form ≡ Ok x → IsStore form x × (HasPlace given x.place → ⊥)
store_said given =
    by_head_said (λ form x. IsStore form x × (HasPlace given x.place → ⊥)) (λ line word operands. states.store_headed given line (target_code word) operands) each
  where
    each : (line at : ℕ) (word : List ℕ) (operands : Trees) (x : Store) → states.store_headed given line (target_code word) operands ≡ Ok x → IsStore (headed line at word operands) x × (HasPlace given x.place → ⊥)
    each line at word operands x = by_code (target_code word) refl
      where
        by_code : (o : Option TargetCode) → target_code word ≡ o → states.store_headed given line o operands ≡ Ok x → IsStore (headed line at word operands) x × (HasPlace given x.place → ⊥)
        by_code (Some code) e h = subst (λ (w : List ℕ). IsStore (headed line at w operands) x × (HasPlace given x.place → ⊥)) (sym (place_word word code e)) (store_with_said given line at code operands x h)
        by_code None e h = absurd (cc)

pub store_comes : (given : List Store) (form : Tree) (x : Store) → IsStore form x → (HasPlace given x.place → ⊥) → states.store_of given form ≡ Ok x
store_comes given _ _ (reg_store {n = n} place word) new =
    let none_given : states.gives given (reg n) ≡ false = none_has place_key (λ s. same_place s.place (reg n)) (reg n) (given_tells (reg n)) given new in
    rw (register_comes place, none_given, word_comes word) refl
store_comes given _ _ (mem_store {address = a} place word) new =
    let none_given : states.gives given (cell a) ≡ false = none_has place_key (λ s. same_place s.place (cell a)) (cell a) (given_tells (cell a)) given new in
    rw (word_comes place, none_given, word_comes word) refl

pub given_said : (forms : Trees) (given : List Store) → states.stores_after [] forms ≡ Ok given → AreGiven forms given
given_said forms given h =
    let s = all_said place_key IsStore states.store_of states.stores_after AnyList AnyList (λ g. refl) (λ g t ts. refl) (λ g x rest fits. tt) store_said (λ g t x is new fits. store_comes g t x is new) [] forms given (none_pairs (λ a b. a.place ≢ b.place)) h in
    record { each = subst (EachIs IsStore forms) (sym s.parts) s.each; once = s.once }

pub given_comes : (forms : Trees) (given : List Store) → AreGiven forms given → states.stores_after [] forms ≡ Ok given
given_comes forms given are =
    all_comes place_key IsStore states.store_of states.stores_after AnyList AnyList (λ g. refl) (λ g t ts. refl) (λ g x rest fits. tt) store_said (λ g t x is new fits. store_comes g t x is new) [] are.each are.once tt

-- what is stored at a place
stored_else : (s : State) (given : List Store) (place : Place) → (HasPlace given place → ⊥) → all_stored s given place ≡ s place
stored_else s [] place none_given = refl
stored_else s (x ∷ given) place none_given =
    let other : same_place x.place place ≡ false = is_other (same_place x.place place) refl in
    stored_else (stored s x) given place (λ has. none_given (has.0, Contains-tail x has.0 given has.1, has.2)) ∙ ap (λ (t : Bool). cond t x.word (s place)) other
  where
    is_other : (t : Bool) → same_place x.place place ≡ t → same_place x.place place ≡ false
    is_other true e = absurd (none_given (x, Contains-head x given, (given_tells place x).0 e))
    is_other false e = e

stored_there : (s : State) (given : List Store) → AllPairs (λ a b. a.place ≢ b.place) given → (store : Store) → Contains given store → all_stored s given store.place ≡ store.word
stored_there s [] once store c = absurd (Contains-nil store c)
stored_there s (x ∷ given) once store c = ⊎_elim
    (λ (here : x ≡ store).
    let none_more : HasPlace given x.place → ⊥ = λ has. All-contains (λ (b : Store). x.place ≢ b.place) given has.0 (AllPairs-head (λ (a b : Store). a.place ≢ b.place) x given once) has.1 (sym has.2) in
    subst (λ (y : Store). all_stored s (x ∷ given) y.place ≡ y.word) here
    (stored_else (stored s x) given x.place none_more ∙ ap (λ (t : Bool). cond t x.word (s x.place)) ((given_tells x.place x).1 refl)))
    (λ (further : Contains given store). stored_there (stored s x) given (AllPairs-tail (λ (a b : Store). a.place ≢ b.place) x given once) store further)
    (Contains-cons_cases x store given c)

pub state_said : (forms : Trees) (state : State) → states.Reads forms state → IsState forms state
state_said forms state r =
    let are = given_said forms r.given r.says in
    record {
      given = r.given;
      are_given = are;
      held = λ store c. ap (λ (s : State). s store.place) r.is ∙ stored_there states.empty_state r.given are.once store c;
      other = λ place none_given. ap (λ (s : State). s place) r.is ∙ stored_else states.empty_state r.given place (λ has. none_given has.0 has.1 has.2);
    }

pub state_comes : (forms : Trees) (state : State) → IsState forms state → states.Reads forms state
state_comes forms state is = record { given = is.given; says = given_comes forms is.given is.are_given; is = fun_ext same }
  where
    same : (place : Place) → state place ≡ all_stored states.empty_state is.given place
    same place = by_test (list_any (λ s. same_place s.place place) is.given) refl
      where
        by_test : (t : Bool) → list_any (λ s. same_place s.place place) is.given ≡ t → state place ≡ all_stored states.empty_state is.given place
        by_test true e =
            let has = has_some place_key (λ s. same_place s.place place) place (given_tells place) is.given e in
            subst (λ (p : Place). state p ≡ all_stored states.empty_state is.given p) has.2 (is.held has.0 has.1 ∙ sym (stored_there states.empty_state is.given (is.are_given).once has.0 has.1))
        by_test false e =
            let none_given = has_none place_key (λ s. same_place s.place place) place (given_tells place) is.given e in
            is.other place (λ store c at. none_given (store, c, at)) ∙ sym (stored_else states.empty_state is.given place none_given)
