-- What states hold.
use Rattle.std.proofs.Common.{◌≡◌, ℕ, zero, suc, ⊎_elim, ◌+◌, ◌<◌, ◌≤◌, List, [], ◌∷◌, ◌++◌, length, get_or, drop, map, Option, Some, refl, sym, ap, ◌∙◌, append_assoc, replicate, arith}
use Rattle.std.specs.Prelude.{slice_get}
use Rattle.std.specs.List.{flat_map}
use Rattle.std.specs.BTreeMap.{BTreeMap}
use Rattle.std.proofs.Math.Path.{fun_ext}
use Rattle.std.proofs.lemmas.Bool.{cases_lt}
use Rattle.std.proofs.lemmas.List.{append-nil, drop_more, drop_all, get_or-replicate, get_or_past, length-replicate}
use Rattle.hz_block_model.specs.Running.Blocks.{Effect, Instruction}
use Rattle.hz_block_model.specs.Running.States.{Place, reg, cell, State, Store, stored, all_stored, stores_of, after_place, run}
use Rattle.hz_block_model.specs.Texts.StateForms.{empty_state}
use Rattle.hz_rtl.specs.declared.block.Insn.{Insn}
use Rattle.hz_rtl.specs.declared.block.Effect.{Effect as CodeEffect}
use Rattle.hz_rtl.specs.declared.running.store.Store.{Store as CodeStore}
use Rattle.hz_rtl.specs.Shape.{effect, instruction}
use Rattle.hz_rtl.specs.States.{word_at}
use Rattle.hz_rtl.specs.Stores.{store}

zeros : (n i d : ℕ) → get_or (replicate n d) i d ≡ d
zeros n i d =
    ⊎_elim
    (λ (inside : i < n). get_or-replicate n i d d inside)
    (λ (past : n ≤ i). get_or_past (replicate n d) i d (rw (length-replicate n d) past))
    (cases_lt i n)

-- the state in which all is 0
pub all_zero : (registers : List ℕ) (cells : BTreeMap ℕ ℕ) (n : ℕ) → registers ≡ replicate n 0 → cells.entries ≡ [] → (p : Place) → word_at registers cells p ≡ empty_state p
all_zero registers cells n is none (reg number) = rw is (zeros n number 0)
all_zero registers cells n is none (cell address) = rw none refl

-- states that hold the same words are equal
pub same_state : (s t : State) → ((p : Place) → s p ≡ t p) → s ≡ t
same_state s t same = fun_ext same

pub store_more : (stores : List CodeStore) (i : ℕ) (d : CodeStore) (s t : State) → i < length stores → t ≡ stored s (store (get_or stores i d))
    → all_stored t (map store (drop (i + 1) stores)) ≡ all_stored s (map store (drop i stores))
store_more stores i d s t inside same =
    ap (λ (u : State). all_stored u (map store (drop (i + 1) stores))) same
    ∙ ap (λ (rest : List CodeStore). all_stored s (map store rest)) (sym (drop_more stores i d inside))

pub stores_end : (stores : List CodeStore) (i : ℕ) (s : State) → length stores ≤ i → all_stored s (map store (drop i stores)) ≡ s
stores_end stores i s past = ap (λ (rest : List CodeStore). all_stored s (map store rest)) (drop_all i stores past)

-- the instruction at a place
pub instruction_at : (insns : List Insn) (i : ℕ) (insn : Insn) → i < length insns → insn ≡ get_or insns i insn → slice_get (map instruction insns) i ≡ Some (instruction insn)
instruction_at [] i insn inside is = absurd (omega arith)
instruction_at (first ∷ insns) zero insn inside is = ap (λ (x : Insn). Some (instruction x)) (sym is)
instruction_at (first ∷ insns) (suc i) insn inside is = instruction_at insns i insn (omega arith) is

pub run_more : (block : List Instruction) (order : List ℕ) (i : ℕ) (this : Instruction) (s t : State) → i < length order → slice_get block (get_or order i 0) ≡ Some this → t ≡ all_stored s (stores_of this s)
    → run block (drop (i + 1) order) t ≡ run block (drop i order) s
run_more block order i this s t inside at same =
    ap (run block (drop (i + 1) order)) (same ∙ ap (λ (found : Option Instruction). after_place found s) (sym at))
    ∙ ap (λ (rest : List ℕ). run block rest s) (sym (drop_more order i 0 inside))

pub run_end : (block : List Instruction) (order : List ℕ) (i : ℕ) (s : State) → length order ≤ i → run block (drop i order) s ≡ s
run_end block order i s past = ap (λ (rest : List ℕ). run block rest s) (drop_all i order past)

-- what effects store, one after another
pub effect_more : (says : Effect → List Store) (effects : List CodeEffect) (i : ℕ) (this : CodeEffect) (before found all : List Store) → i < length effects → this ≡ get_or effects i this → found ≡ says (effect this)
    → before ++ flat_map says (map effect (drop i effects)) ≡ all → (before ++ found) ++ flat_map says (map effect (drop (i + 1) effects)) ≡ all
effect_more says effects i this before found all inside is same so =
    append_assoc before found (flat_map says (map effect (drop (i + 1) effects)))
    ∙ (ap (λ (f : List Store). before ++ (f ++ flat_map says (map effect (drop (i + 1) effects)))) same
    ∙ (ap (λ (rest : List CodeEffect). before ++ flat_map says (map effect rest)) (sym (drop_more effects i this inside ∙ ap (λ (f : CodeEffect). f ∷ drop (i + 1) effects) (sym is))) ∙ so))

pub effects_end : (says : Effect → List Store) (effects : List CodeEffect) (i : ℕ) (before all : List Store) → length effects ≤ i → before ++ flat_map says (map effect (drop i effects)) ≡ all → before ≡ all
effects_end says effects i before all past so = sym (append-nil before) ∙ (ap (λ (rest : List CodeEffect). before ++ flat_map says (map effect rest)) (sym (drop_all i effects past)) ∙ so)
