-- What copies of a body leave is what the body leaves, so many times.
use Rattle.std.proofs.Common.{◌≡◌, ℕ, zero, suc, ◌+◌, ◌*◌, List, [], ◌∷◌, ◌++◌, length, Some, refl, sym, ap, ◌∙◌, append_assoc, arith}
use Rattle.std.specs.Prelude.{slice_get}
use Rattle.std.specs.List.{repeat, range_with_len}
use Rattle.std.proofs.lemmas.List.{length-append}
use Rattle.hz_block_model.specs.Running.Blocks.{Instruction}
use Rattle.hz_block_model.specs.Running.States.{State, after, after_place, run}
use Rattle.hz_measure_model.specs.Kernels.Turns.{run_times}
use Rattle.hz_measure_model.proofs.Kernels.UnrollLaws.{length-repeat}

-- the state after instructions, one after the other
abbrev pub run_all : List Instruction → State → State
run_all [] s = s
run_all (i ∷ rest) s = run_all rest (after i s)

after_front : (front rest : List Instruction) (x : Instruction) → slice_get (front ++ x ∷ rest) (length front) ≡ Some x
after_front [] rest x = refl
after_front (y ∷ front) rest x = after_front front rest x

run_after : (front block : List Instruction) (s : State) → run (front ++ block) (range_with_len (length front) (length block)) s ≡ run_all block s
run_after front [] s = refl
run_after front (x ∷ block) s =
    let next : length front + 1 ≡ length (front ++ x ∷ []) = let long = length-append front (x ∷ []) in omega (arith, long) in
    (λ i. run (front ++ x ∷ block) (range_with_len (length front + 1) (length block)) (after_place (after_front front block x i) s))
    ∙ ((λ i. run (sym (append_assoc front (x ∷ []) block) i) (range_with_len (next i) (length block)) (after x s))
    ∙ run_after (front ++ x ∷ []) block (after x s))

pub run_whole : (block : List Instruction) (s : State) → run block (range_with_len 0 (length block)) s ≡ run_all block s
run_whole block s = run_after [] block s

run_both : (xs ys : List Instruction) (s : State) → run_all (xs ++ ys) s ≡ run_all ys (run_all xs s)
run_both [] ys s = refl
run_both (x ∷ xs) ys s = run_both xs ys (after x s)

run_copies : (body : List Instruction) (n : ℕ) (s : State) → run_all (repeat n body) s ≡ run_times body n s
run_copies body zero s = refl
run_copies body (suc n) s = run_both body (repeat n body) s ∙ (ap (run_all (repeat n body)) (sym (run_whole body s)) ∙ run_copies body n (run body (range_with_len 0 (length body)) s))

-- copies in the order of the source leave what the body leaves, so many times
pub copies_leave : (body : List Instruction) (n : ℕ) (s : State) → run (repeat n body) (range_with_len 0 (n * length body)) s ≡ run_times body n s
copies_leave body n s =
    let long = length-repeat n body in
    ap (λ (m : ℕ). run (repeat n body) (range_with_len 0 m) s) (sym long) ∙ (run_whole (repeat n body) s ∙ run_copies body n s)
