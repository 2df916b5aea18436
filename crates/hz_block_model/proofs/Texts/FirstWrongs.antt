-- The first form that is wrong, after a front that is read.
use Rattle.std.proofs.Common.{◌≡◌, ℕ, List, [], ◌∷◌, ◌++◌, Ok, Err, refl, ap, ◌∙◌}
use Rattle.hz_base_model.specs.Forms.Trees.{Tree, Trees, none, more, joined}
use Rattle.hz_block_model.specs.Running.Blocks.{Instruction}
use Rattle.hz_block_model.specs.Running.States.{Store}
use Rattle.hz_block_model.specs.Texts.Operands.{Judged, RtlFault, and_then}
use Rattle.hz_block_model.specs.Texts.BlockForms as blocks
use Rattle.hz_block_model.specs.Texts.StateForms as states

-- a front that is read after some items, and a form that is wrong after it
record Wrong (A : Type 0) (item : List A → Tree → Judged A) (all : List A → Trees → Judged (List A)) (given : List A) (forms : Trees) (fault : RtlFault) (line : ℕ) : Type 0 where
  pub front : Trees
  pub before : List A
  pub wrong : Tree
  pub rest : Trees
  pub forms_are : forms ≡ joined front (more wrong rest)
  pub read : all given front ≡ Ok before
  pub is_wrong : item before wrong ≡ Err (fault, line)

block_goes : (given : List Instruction) (forms : Trees) (fault : RtlFault) (line : ℕ) → blocks.instructions_after given forms ≡ Err (fault, line)
    → Wrong Instruction blocks.next_instruction blocks.instructions_after given forms fault line
block_goes given none fault line e = absurd (cc)
block_goes given (more first others) fault line e = go (blocks.next_instruction given first) refl e (λ i. block_goes (given ++ i ∷ []) others fault line)
  where
    go : (judged : Judged Instruction) → blocks.next_instruction given first ≡ judged → and_then judged (λ i. blocks.instructions_after (given ++ i ∷ []) others) ≡ Err (fault, line)
        → ((i : Instruction) → blocks.instructions_after (given ++ i ∷ []) others ≡ Err (fault, line) → Wrong Instruction blocks.next_instruction blocks.instructions_after (given ++ i ∷ []) others fault line)
        → Wrong Instruction blocks.next_instruction blocks.instructions_after given (more first others) fault line
    go (Ok i) is h further =
        let w = further i h in
        record { front = more first w.front; before = w.before; wrong = w.wrong; rest = w.rest; forms_are = ap (more first) w.forms_are; read = rw is w.read; is_wrong = w.is_wrong }
    go (Err f) is h further = record { front = none; before = given; wrong = first; rest = others; forms_are = refl; read = refl; is_wrong = let same : f ≡ (fault, line) = cc in is ∙ ap Err same }

block_comes : (given : List Instruction) (front : Trees) (before : List Instruction) (wrong : Tree) (rest : Trees) (fault : RtlFault) (line : ℕ) → blocks.instructions_after given front ≡ Ok before
    → blocks.next_instruction before wrong ≡ Err (fault, line) → blocks.instructions_after given (joined front (more wrong rest)) ≡ Err (fault, line)
block_comes given none before wrong rest fault line read is =
    let same : given ≡ before = cc in
    rw (same, is) refl
block_comes given (more first front) before wrong rest fault line read is = go (blocks.next_instruction given first) refl read (λ i h. block_comes (given ++ i ∷ []) front before wrong rest fault line h is)
  where
    go : (judged : Judged Instruction) → blocks.next_instruction given first ≡ judged → and_then judged (λ i. blocks.instructions_after (given ++ i ∷ []) front) ≡ Ok before
        → ((i : Instruction) → blocks.instructions_after (given ++ i ∷ []) front ≡ Ok before → blocks.instructions_after (given ++ i ∷ []) (joined front (more wrong rest)) ≡ Err (fault, line))
        → and_then (blocks.next_instruction given first) (λ i. blocks.instructions_after (given ++ i ∷ []) (joined front (more wrong rest))) ≡ Err (fault, line)
    go (Ok i) at h further = rw at (further i h)
    go (Err f) at h further = absurd (cc)

pub block_first_wrong : (forms : Trees) (fault : RtlFault) (line : ℕ) → blocks.FaultAt forms fault line → blocks.FirstWrong forms fault line
block_first_wrong forms fault line e =
    let w = block_goes [] forms fault line e in
    record { front = w.front; before = w.before; wrong = w.wrong; rest = w.rest; forms_are = w.forms_are; read = w.read; is_wrong = w.is_wrong }

pub block_fault : (forms : Trees) (fault : RtlFault) (line : ℕ) → blocks.FirstWrong forms fault line → blocks.FaultAt forms fault line
block_fault forms fault line w = rw w.forms_are (block_comes [] w.front w.before w.wrong w.rest fault line w.read w.is_wrong)

state_goes : (given : List Store) (forms : Trees) (fault : RtlFault) (line : ℕ) → states.stores_after given forms ≡ Err (fault, line)
    → Wrong Store states.store_of states.stores_after given forms fault line
state_goes given none fault line e = absurd (cc)
state_goes given (more first others) fault line e = go (states.store_of given first) refl e (λ i. state_goes (given ++ i ∷ []) others fault line)
  where
    go : (judged : Judged Store) → states.store_of given first ≡ judged → and_then judged (λ i. states.stores_after (given ++ i ∷ []) others) ≡ Err (fault, line)
        → ((i : Store) → states.stores_after (given ++ i ∷ []) others ≡ Err (fault, line) → Wrong Store states.store_of states.stores_after (given ++ i ∷ []) others fault line)
        → Wrong Store states.store_of states.stores_after given (more first others) fault line
    go (Ok i) is h further =
        let w = further i h in
        record { front = more first w.front; before = w.before; wrong = w.wrong; rest = w.rest; forms_are = ap (more first) w.forms_are; read = rw is w.read; is_wrong = w.is_wrong }
    go (Err f) is h further = record { front = none; before = given; wrong = first; rest = others; forms_are = refl; read = refl; is_wrong = let same : f ≡ (fault, line) = cc in is ∙ ap Err same }

state_comes : (given : List Store) (front : Trees) (before : List Store) (wrong : Tree) (rest : Trees) (fault : RtlFault) (line : ℕ) → states.stores_after given front ≡ Ok before
    → states.store_of before wrong ≡ Err (fault, line) → states.stores_after given (joined front (more wrong rest)) ≡ Err (fault, line)
state_comes given none before wrong rest fault line read is =
    let same : given ≡ before = cc in
    rw (same, is) refl
state_comes given (more first front) before wrong rest fault line read is = go (states.store_of given first) refl read (λ i h. state_comes (given ++ i ∷ []) front before wrong rest fault line h is)
  where
    go : (judged : Judged Store) → states.store_of given first ≡ judged → and_then judged (λ i. states.stores_after (given ++ i ∷ []) front) ≡ Ok before
        → ((i : Store) → states.stores_after (given ++ i ∷ []) front ≡ Ok before → states.stores_after (given ++ i ∷ []) (joined front (more wrong rest)) ≡ Err (fault, line))
        → and_then (states.store_of given first) (λ i. states.stores_after (given ++ i ∷ []) (joined front (more wrong rest))) ≡ Err (fault, line)
    go (Ok i) at h further = rw at (further i h)
    go (Err f) at h further = absurd (cc)

pub state_first_wrong : (forms : Trees) (fault : RtlFault) (line : ℕ) → states.FaultAt forms fault line → states.FirstWrong forms fault line
state_first_wrong forms fault line e =
    let w = state_goes [] forms fault line e in
    record { front = w.front; before = w.before; wrong = w.wrong; rest = w.rest; forms_are = w.forms_are; read = w.read; is_wrong = w.is_wrong }

pub state_fault : (forms : Trees) (fault : RtlFault) (line : ℕ) → states.FirstWrong forms fault line → states.FaultAt forms fault line
state_fault forms fault line w = rw w.forms_are (state_comes [] w.front w.before w.wrong w.rest fault line w.read w.is_wrong)
