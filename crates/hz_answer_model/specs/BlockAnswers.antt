-- What a block is, and what `eval` answers: this profile, docs/FORMATS.md, 'Answers'.
use Rattle.std.specs.Prelude.{◌≡◌, ℕ, List, length, ◌⊎◌, MatchBool, nat_lt}
use Rattle.std.specs.List.{range_with_len}
use Rattle.hz_base_model.specs.Forms.Trees.{Trees}
use Rattle.hz_block_model.specs.Running.Blocks.{Instruction}
use Rattle.hz_block_model.specs.Running.States.{State, run}
use Rattle.hz_block_model.specs.Texts.Operands.{rtl_word}
use Rattle.hz_block_model.specs.Texts.BlockForms as blocks
use Rattle.hz_block_model.specs.Texts.StateForms as states
use Rattle.hz_block_model.specs.Texts.StateTexts.{IsText}
use Rattle.hz_front_model.specs.Phases.{Says, Next, TellsFault, HasForms}
use Rattle.hz_front_model.specs.Texts.{insns_line}

-- bytes of a block, at most
abbrev pub block_limit : ℕ
block_limit = 4194304

-- bytes of the text of a state, at most
abbrev pub state_text_limit : ℕ
state_text_limit = 4194304

-- the block that forms are, or the first wrong one
abbrev pub IsBlock : List ℕ → Trees → Next (List Instruction) → ℕ → List ℕ → Type 0
IsBlock name read next status text =
    ((block : List Instruction) × blocks.Reads read block × next block status text)
    ⊎ TellsFault rtl_word (blocks.FaultAt read) name status text

-- the block of a text: its forms, and what they are
abbrev pub HasBlock : List ℕ → List ℕ → Next (List Instruction) → ℕ → List ℕ → Type 0
HasBlock name bytes next = HasForms name bytes (λ read. IsBlock name read next)

-- so many instructions are no more than there may be, or the limit is reported of the block of this name
abbrev pub HasAtMost : (most count : ℕ) → (name : List ℕ) → (ℕ → List ℕ → Type 0) → ℕ → List ℕ → Type 0
HasAtMost most count name next status text = MatchBool (nat_lt most count) (Says 3 (insns_line name) status text) (next status text)

-- the state that forms give, or the first wrong one
abbrev pub IsState : List ℕ → Trees → Next State → ℕ → List ℕ → Type 0
IsState name read next status text =
    ((state : State) × states.Reads read state × next state status text)
    ⊎ TellsFault rtl_word (states.FaultAt read) name status text

-- the state of a text: its forms, and what they give
abbrev pub HasState : List ℕ → List ℕ → Next State → ℕ → List ℕ → Type 0
HasState name bytes next = HasForms name bytes (λ read. IsState name read next)

-- the state that the instructions leave in the order of the source is written
abbrev pub Evaluates : List Instruction → Next State
Evaluates block state status text = (status ≡ 0) × IsText (run block (range_with_len 0 (length block)) state) text

-- the state of a block that is read is judged, and evaluated
abbrev pub EvaluatesFrom : List ℕ → List ℕ → List Instruction → ℕ → List ℕ → Type 0
EvaluatesFrom state stated block = HasState state stated (Evaluates block)

-- both texts are judged, the block first
abbrev pub JudgesBlock : List ℕ → List ℕ → List ℕ → List ℕ → ℕ → List ℕ → Type 0
JudgesBlock block blocked state stated = HasBlock block blocked (EvaluatesFrom state stated)
