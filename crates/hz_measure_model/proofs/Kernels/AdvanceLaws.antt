-- A machine can always advance.
use Rattle.std.proofs.Common.{◌≡◌, ℕ, zero, suc, ◌<◌, true, List, [], ◌∷◌, ◌++◌, length, replicate, All, Option, Some, None, refl, sym, ap, ◌∙◌, subst, append-nil, arith}
use Rattle.std.specs.Prelude.{slice_get, is_some}
use Rattle.std.proofs.lemmas.List.Elements.{All-head, All-tail}
use Rattle.hz_pipeline_model.specs.Accepting.Events.{Event, advance}
use Rattle.hz_pipeline_model.specs.Tables.Tables.{Table, entry, walk, IsTable}
use Rattle.hz_pipeline_model.specs.Tables.Machines.{Part, Machine, word_of, part_walk, machine_walk, IsWalked, IsPart, IsMachine, advance_of}
use Rattle.hz_pipeline_model.proofs.Tables.TableLaws.{walk-append, walk_stays}
use Rattle.hz_pipeline_model.proofs.Tables.MachineLaws.{word_of-append, machine_walk-each, machine_walk-part, machine_walk-all}

module _ (table : Table) (columns : ℕ) (is : IsTable table columns) where
  advances : (n state : ℕ) → state < length table → is_some (walk table (Some state) (replicate n columns)) ≡ true
  advances zero state low = refl
  advances (suc n) state low = go (entry table state columns) refl (λ next inside. advances n next inside)
    where
      go : (o : Option ℕ) → entry table state columns ≡ o → ((next : ℕ) → next < length table → is_some (walk table (Some next) (replicate n columns)) ≡ true) → is_some (walk table o (replicate n columns)) ≡ true
      go None e more = absurd (is.advances state low e)
      go (Some next) e more = more next (is.targets state columns next e)

part_advances : (classes : ℕ) (part : Part) → IsPart classes part → (t : List Event) (state n : ℕ) → part_walk part 0 t ≡ Some state → is_some (part_walk part 0 (t ++ advance n ∷ [])) ≡ true
part_advances classes part is t state n at =
    let table = is.table in
    let start = table.start in
    let low = walk_stays part.rows (advance_of part) table (Some 0) (λ s e. let same : 0 ≡ s = cc in omega arith) state (word_of part t) at in
    ap is_some (ap (walk part.rows (Some 0)) (word_of-append part t (advance n ∷ [])) ∙ (walk-append part.rows (Some 0) (word_of part t) (replicate n (advance_of part) ++ [])
    ∙ ((λ i. walk part.rows (at i) (replicate n (advance_of part) ++ [])) ∙ ap (walk part.rows (Some state)) (append-nil (replicate n (advance_of part))))))
    ∙ advances part.rows (advance_of part) table n state low

there_is : (xs : List ℕ) (i : ℕ) → i < length xs → (x : ℕ) × (slice_get xs i ≡ Some x)
there_is [] i lt = absurd (omega arith)
there_is (x ∷ xs) zero lt = (x, refl)
there_is (y ∷ xs) (suc i) lt = there_is xs i (omega arith)

part_of : (classes : ℕ) (parts : List Part) → All (IsPart classes) parts → (i : ℕ) (part : Part) → slice_get parts i ≡ Some part → (i < length parts) × IsPart classes part
part_of classes [] all i part at = absurd (cc)
part_of classes (first ∷ parts) all zero part at = let same : first ≡ part = cc in (omega arith, subst (IsPart classes) same (All-head (IsPart classes) first parts all))
part_of classes (first ∷ parts) all (suc i) part at = let rest = part_of classes parts (All-tail (IsPart classes) first parts all) i part at in (let h = rest.0 in omega arith, rest.1)

some_of : {X : Type 0} (o : Option X) → is_some o ≡ true → (x : X) × (o ≡ Some x)
some_of None e = absurd (cc)
some_of (Some x) e = (x, refl)

-- after events that are walked any advance is walked
pub walked_on : (m : Machine) → IsMachine m → (t : List Event) (n : ℕ) → IsWalked m t → IsWalked m (t ++ advance n ∷ [])
walked_on m is t n walked =
    let states = some_of (machine_walk m t) walked in
    let long = machine_walk-each m t states.0 states.1 in
    machine_walk-all m (t ++ advance n ∷ []) (λ i part at.
    let here = part_of (length m.classes) m.parts is.parts i part at in
    let state = there_is states.0 i (let low = here.0 in omega (arith, long, low)) in
    part_advances (length m.classes) part here.1 t state.0 n (sym (machine_walk-part m t states.0 states.1 i part at) ∙ state.1))
