-- The state that is left is the one after all that was written.
use Rattle.std.proofs.Common.{◌≡◌, ℕ, List, [], ◌∷◌, ◌++◌, map, Result, Ok, Err, refl, sym, ap, ◌∙◌}
use Rattle.std.specs.Prelude.{IfOk}
use Rattle.std.specs.List.{flat_map}
use Rattle.std.proofs.lemmas.List.{map-append}
use Rattle.hz_block_model.specs.Running.Blocks as blocks
use Rattle.hz_block_model.specs.Running.States.{State, Store, all_stored, stored, place_in, stores_of_effect, stores_of, run}
use Rattle.hz_block_model.specs.Scheduling.Schedules.{Slot}
use Rattle.hz_rtl.specs.declared.state.State as held
use Rattle.hz_rtl.specs.States.{words}
use Rattle.hz_measure_model.specs.Exposed.Exposed.{Left, Read, Timed, left_state, lefts_of, exposed}
use Rattle.hz_timed.specs.Notes.{Note, note, notes_of}
use Rattle.hz_timed.specs.declared.parts.Source.{Source}
use Rattle.hz_timed.specs.declared.parts.Source.TheVariants.{Reg, Cell}
use Rattle.hz_timed.specs.declared.write.Write.{Write}
use Rattle.hz_timed.specs.Shape.{place_of}
use Rattle.hz_timed.specs.Writes.{note_of}
use Rattle.hz_timed.specs.Leaving.{target_of, effect_of, stored_by}
use Rattle.hz_timed.proofs.NoteLemmas.{left_more}

stored_append : (s : State) (xs ys : List Store) → all_stored s (xs ++ ys) ≡ all_stored (all_stored s xs) ys
stored_append s [] ys = refl
stored_append s (x ∷ xs) ys = stored_append (stored s x) xs ys

-- a note as what is stored
abbrev stored_note : Note → Store
stored_note n = record { place = n.at; word = n.word }

notes_stored : (l : Left) (stores : List Store) → map stored_note (map (note l) stores) ≡ stores
notes_stored l [] = refl
notes_stored l (st ∷ stores) = ap (λ (xs : List Store). st ∷ xs) (notes_stored l stores)

left_is : (s : State) (lefts : List Left) → left_state s lefts ≡ all_stored s (map stored_note (notes_of lefts))
left_is s [] = refl
left_is s (l ∷ lefts) =
    left_more s l lefts
    ∙ (ap (λ (u : State). all_stored u l.stores) (left_is s lefts)
    ∙ (sym (stored_append s (map stored_note (notes_of lefts)) l.stores)
    ∙ ap (all_stored s) (ap (λ (xs : List Store). map stored_note (notes_of lefts) ++ xs) (sym (notes_stored l l.stores)) ∙ sym (map-append stored_note (notes_of lefts) (map (note l) l.stores)))))

writes_stored : (writes : List Write) → map stored_by writes ≡ map stored_note (map note_of writes)
writes_stored [] = refl
writes_stored (w ∷ writes) = ap (λ (xs : List Store). stored_by w ∷ xs) (writes_stored writes)

pub state_left : (s : State) (writes : List Write) (lefts : List Left) → map note_of writes ≡ notes_of lefts → all_stored s (map stored_by writes) ≡ left_state s lefts
state_left s writes lefts reported =
    ap (all_stored s) (writes_stored writes ∙ ap (map stored_note) reported) ∙ sym (left_is s lefts)

-- what is left and what was read, together
pub exposed_is : (block : List blocks.Instruction) (number : ℕ → ℕ → ℕ) (start : State) (slots : List Slot) (writes : List Write) (s : State) (reads : List Read) → s ≡ all_stored start (map stored_by writes)
    → map note_of writes ≡ notes_of (lefts_of block number start [] slots) → reads ≡ (exposed block number start slots).reads → record { state = s; reads = reads } ≡ exposed block number start slots
exposed_is block number start slots writes s reads is reported same =
    join s (left_state start (lefts_of block number start [] slots)) reads (exposed block number start slots).reads (is ∙ state_left start writes (lefts_of block number start [] slots) reported) same
  where
    together : State → List Read → Timed
    together t rs = record { state = t; reads = rs }

    join : (t u : State) (rs qs : List Read) → t ≡ u → rs ≡ qs → together t rs ≡ together u qs
    join t u rs qs e f = ap (λ (v : State). together v rs) e ∙ ap (together u) f

-- ---- one instruction that stores it all

place_is : (s : State) (what : Source) → place_in s (target_of what) ≡ place_of what
place_is s (Reg number) = refl
place_is s (Cell address) = refl

effects_store : (s : State) (n : ℕ) (writes : List Write) → flat_map (stores_of_effect s n) (map effect_of writes) ≡ map stored_by writes
effects_store s n [] = refl
effects_store s n (w ∷ writes) = join (ap (λ p. record { place = p; word = w.word }) (place_is s w.what)) (effects_store s n writes)
  where
    join : {x y : Store} {xs ys : List Store} → x ≡ y → xs ≡ ys → x ∷ xs ≡ y ∷ ys
    join e f = cc

pub ran : (insns : List blocks.Instruction) (effects : List blocks.Effect) (s : State) (writes : List Write) → insns ≡ record { number = 0; line = 1; effects = effects; attributes = [] } ∷ [] → effects ≡ map effect_of writes
    → run insns (0 ∷ []) s ≡ all_stored s (map stored_by writes)
ran insns effects s writes is are =
    ap (λ (block : List blocks.Instruction). run block (0 ∷ []) s) is
    ∙ (ap (λ (es : List blocks.Effect). all_stored s (flat_map (stores_of_effect s 0) es)) are
    ∙ ap (all_stored s) (effects_store s 0 writes))

-- where there was memory for it
pub if_left : {E : Type 0} (result : Result held.State E) (s : State) (insns : List blocks.Instruction) (stores : List Store) → IfOk result (λ after. words after ≡ run insns (0 ∷ []) s) → run insns (0 ∷ []) s ≡ all_stored s stores → IfOk result (λ after. words after ≡ all_stored s stores)
if_left (Ok after) s insns stores h is = h ∙ is
if_left (Err e) s insns stores h is = h
