-- States: what their forms say, and the first that is wrong. docs/FORMATS.md, 'Blocks and states'.
use Rattle.std.specs.Prelude.{◌≡◌, ℕ, Bool, List, [], ◌∷◌, ◌++◌, Option, Some, None, Ok, Err}
use Rattle.std.specs.List.{list_any}
use Rattle.hz_base_model.specs.Forms.Trees.{Tree, Trees, none, more, line_of, joined}
use Rattle.hz_block_model.specs.Running.States.{Place, reg, cell, same_place, State, Store, all_stored}
use Rattle.hz_block_model.specs.Texts.Operands.{Judged, RtlFault, bad_shape, and_then, unless_twice, by_head, register_in, word_in}
use Rattle.hz_block_model.specs.Texts.Values.{TargetCode, into_code, cell_code, target_code}

-- a word is given for a place
abbrev pub gives : List Store → Place → Bool
gives given place = list_any (λ store. same_place store.place place) given

-- the place of a register or of a cell
abbrev pub place_of : TargetCode → Tree → Judged Place
place_of into_code operand = and_then (register_in operand) (λ n. Ok (reg n))
place_of cell_code operand = and_then (word_in operand) (λ a. Ok (cell a))

-- `(reg N V)` or `(mem A V)` by its operands, after those that are given
abbrev pub store_with : List Store → ℕ → TargetCode → Trees → Judged Store
store_with given line code (more place (more word none)) =
    and_then (place_of code place) (λ p.
    and_then (unless_twice (gives given p) (line_of place) p) (λ _.
    and_then (word_in word) (λ w. Ok (record { place = p; word = w }))))
store_with given line code operands = Err (bad_shape, line)

-- the same by the word that the list begins with; any other word is wrong
abbrev pub store_headed : List Store → ℕ → Option TargetCode → Trees → Judged Store
store_headed given line (Some code) operands = store_with given line code operands
store_headed given line None operands = Err (bad_shape, line)

-- what a form gives
abbrev pub store_of : List Store → Tree → Judged Store
store_of given form = by_head (λ line word operands. store_headed given line (target_code word) operands) form

-- all that is given with what further forms give
abbrev pub stores_after : List Store → Trees → Judged (List Store)
stores_after given none = Ok given
stores_after given (more first others) = and_then (store_of given first) (λ store. stores_after (given ++ store ∷ []) others)

-- a register or cell that isn't given holds 0
abbrev pub empty_state : State
empty_state = λ _. 0

-- Forms give this state.
pub record Reads (forms : Trees) (state : State) : Type 0 where
  pub given : List Store
  pub says : stores_after [] forms ≡ Ok given
  pub is : state ≡ all_stored empty_state given

-- The first wrong form of a state has this fault, and it stands at this line.
abbrev pub FaultAt : Trees → RtlFault → ℕ → Type 0
FaultAt forms fault line = stores_after [] forms ≡ Err (fault, line)

-- Forms are a front that gives words, a form that is wrong after it, and a rest. Law: `states_fail_at_their_first_wrong_form`.
pub record FirstWrong (forms : Trees) (fault : RtlFault) (line : ℕ) : Type 0 where
  pub front : Trees
  pub before : List Store
  pub wrong : Tree
  pub rest : Trees
  pub forms_are : forms ≡ joined front (more wrong rest)
  pub read : stores_after [] front ≡ Ok before
  pub is_wrong : store_of before wrong ≡ Err (fault, line)
