-- The numbers of the instructions of a block.
use Rattle.std.proofs.Common.{◌≡◌, ℕ, ◌<◌, ◌≤◌, ◌==◌, Bool, true, false, ◌||◌, List, [], ◌∷◌, ◌++◌, length, Ok, Err, Contains, refl, sym, ap, ◌∙◌, subst, cond, ⊎_elim, arith, rules, length-append}
use Rattle.std.specs.Prelude.{codes, nat_lt, IsFalse}
use Rattle.std.specs.List.{AllPairs}
use Rattle.std.specs.Str.{bytes_eq}
use Rattle.std.proofs.lemmas.Bool.{ltb-true}
use Rattle.hz_base_model.proofs.Ascending.{AllPairs-append}
use Rattle.hz_base_model.proofs.Elements.{Contains-nil, Contains-cons_cases}
use Rattle.hz_base_model.specs.Forms.Trees.{Tree, Trees, list, atom, none, more, line_of}
use Rattle.hz_block_model.specs.Running.Blocks.{Instruction}
use Rattle.hz_block_model.specs.Texts.Operands.{Judged, RtlFault, insn_limit, and_then, unless_twice, number_in}
use Rattle.hz_block_model.specs.Texts.BlockForms.{has_number, pattern_of, attributes_after, instruction_with, instruction_of, next_instruction, instructions_after}
use Rattle.hz_block_model.specs.Running.Limits.{instruction_limit}

-- what leads to a good value is good
pub ok_of : {A B : Type 0} → (judged : Judged A) (next : A → Judged B) (y : B) → and_then judged next ≡ Ok y → (x : A) × (judged ≡ Ok x) × (next x ≡ Ok y)
ok_of (Ok x) next y e = (x, refl, e)
ok_of (Err f) next y e = absurd (cc)

new_of : (stands : Bool) (line n m : ℕ) → unless_twice stands line n ≡ Ok m → stands ≡ false
new_of true line n m e = absurd (cc)
new_of false line n m e = refl

new_number : (before : List Instruction) (line : ℕ) (operands : Trees) (i : Instruction) → instruction_with before line operands ≡ Ok i → has_number before i.number ≡ false
new_number before line none i e = absurd (cc)
new_number before line (more a none) i e = absurd (cc)
new_number before line (more a (more pattern attributes)) i e =
    let first = ok_of (number_in a) (λ n. and_then (unless_twice (has_number before n) line n) (λ _. and_then (pattern_of pattern) (λ effects. and_then (attributes_after [] attributes) (λ given. Ok (record { number = n; line = line; effects = effects; attributes = given }))))) i e in
    let n : ℕ = first.0 in
    let second = ok_of (unless_twice (has_number before n) line n) (λ _. and_then (pattern_of pattern) (λ effects. and_then (attributes_after [] attributes) (λ given. Ok (record { number = n; line = line; effects = effects; attributes = given })))) i first.2 in
    let third = ok_of (pattern_of pattern) (λ effects. and_then (attributes_after [] attributes) (λ given. Ok (record { number = n; line = line; effects = effects; attributes = given }))) i second.2 in
    let fourth = ok_of (attributes_after [] attributes) (λ given. Ok (record { number = n; line = line; effects = third.0; attributes = given })) i third.2 in
    let whole : Instruction = record { number = n; line = line; effects = third.0; attributes = fourth.0 } in
    let same : whole ≡ i = cc (fourth.2) in
    ap (λ (j : Instruction). has_number before j.number) (sym same) ∙ new_of (has_number before n) line n second.0 second.1

headed_number : (before : List Instruction) (b : Bool) (line : ℕ) (operands : Trees) (f : RtlFault × ℕ) (i : Instruction) → cond b (instruction_with before line operands) (Err f) ≡ Ok i → has_number before i.number ≡ false
headed_number before true line operands f i e = new_number before line operands i e
headed_number before false line operands f i e = absurd (cc)

number_of_form : (before : List Instruction) (form : Tree) (i : Instruction) → instruction_of before form ≡ Ok i → has_number before i.number ≡ false
number_of_form before (list line (more (atom at word) operands)) i e = headed_number before (bytes_eq word (codes "insn")) line operands _ i e
number_of_form before _ i e = absurd (cc)

short_ok : (before : List Instruction) (b : Bool) (judged : Judged Instruction) (f : RtlFault × ℕ) (i : Instruction) → cond b judged (Err f) ≡ Ok i → (b ≡ true) × (judged ≡ Ok i)
short_ok before true judged f i h = (refl, h)
short_ok before false judged f i h = absurd (cc)

next_number : (before : List Instruction) (form : Tree) (i : Instruction) → next_instruction before form ≡ Ok i → (has_number before i.number ≡ false) × (length before < instruction_limit)
next_number before form i e =
    let (short, h) = short_ok before (nat_lt (length before) instruction_limit) (instruction_of before form) (insn_limit, line_of form) i e in
    (number_of_form before form i h, ltb-true (length before) instruction_limit short)

first_false : (a b : Bool) → (a || b) ≡ false → (a ≡ false) × (b ≡ false)
first_false true b e = absurd (cc)
first_false false b e = (refl, e)

is_false : (b : Bool) → b ≡ false → IsFalse b
is_false true e = absurd (cc)
is_false false e = search rules

apart : (before : List Instruction) (n : ℕ) → has_number before n ≡ false → (x : Instruction) → Contains before x → IsFalse (x.number == n)
apart [] n e x c = absurd (Contains-nil x c)
apart (i ∷ before) n e x c =
    let (here, further) = first_false (i.number == n) (has_number before n) e in
    ⊎_elim
    (λ (same : i ≡ x). subst (λ (y : Instruction). IsFalse (y.number == n)) same (is_false (i.number == n) here))
    (λ (m : Contains before x). apart before n further x m)
    (Contains-cons_cases i x before c)

only_one : (i x : Instruction) → Contains (i ∷ []) x → i ≡ x
only_one i x c = ⊎_elim (λ (e : i ≡ x). e) (λ (m : Contains [] x). absurd (Contains-nil x m)) (Contains-cons_cases i x [] c)

step : (given : List Instruction) (form : Tree) (i : Instruction) → AllPairs (λ a b. IsFalse (a.number == b.number)) given → next_instruction given form ≡ Ok i
    → AllPairs (λ a b. IsFalse (a.number == b.number)) (given ++ i ∷ [])
step given form i h e =
    AllPairs-append (λ (a b : Instruction). IsFalse (a.number == b.number)) given (i ∷ []) h (λ j k d lt within. absurd (omega arith))
    (λ x y m n. subst (λ (z : Instruction). IsFalse (x.number == z.number)) (only_one i y n) (apart given i.number (next_number given form i e).0 x m))

pub all_differ : (given : List Instruction) (forms : Trees) (block : List Instruction) → AllPairs (λ a b. IsFalse (a.number == b.number)) given → instructions_after given forms ≡ Ok block
    → AllPairs (λ a b. IsFalse (a.number == b.number)) block
all_differ given none block h e = let same : given ≡ block = cc in subst (AllPairs (λ (a b : Instruction). IsFalse (a.number == b.number))) same h
all_differ given (more first others) block h e =
    let next = ok_of (next_instruction given first) (λ i. instructions_after (given ++ i ∷ []) others) block e in
    all_differ (given ++ next.0 ∷ []) others block (step given first next.0 h next.1) next.2

ap_ok : (a b : List Instruction) → ◌≡◌ {A = Judged (List Instruction)} (Ok a) (Ok b) → length a ≡ length b
ap_ok a b e = let same : a ≡ b = cc in ap length same

pub all_few : (given : List Instruction) (forms : Trees) (block : List Instruction) → length given ≤ instruction_limit → instructions_after given forms ≡ Ok block → length block ≤ instruction_limit
all_few given none block h e = let same : length given ≡ length block = ap_ok given block e in omega arith
all_few given (more first others) block h e =
    let next = ok_of (next_instruction given first) (λ i. instructions_after (given ++ i ∷ []) others) block e in
    let short = (next_number given first next.0 next.1).1 in
    let long = length-append given (next.0 ∷ []) in
    all_few (given ++ next.0 ∷ []) others block (omega arith) next.2
