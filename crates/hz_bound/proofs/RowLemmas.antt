-- Edges by the instruction that they lead from.
use Rattle.std.proofs.Common.{◌≡◌, ℕ, ◌<◌, ◌==◌, Bool, true, false, cond, List, [], ◌∷◌, ◌++◌, length, get_or, set, map, filter, refl, sym, ap, ◌∙◌, arith}
use Rattle.std.specs.declared.alloc.Global.{Global}
use Rattle.std.specs.declared.vec.Vec.{Vec}
use Rattle.std.proofs.lemmas.Bool.{eqb-true, eqb-false}
use Rattle.std.proofs.lemmas.List.{length-map, map-set, get_or-set_same, get_or-set_other, get_or-map, append-nil}
use Rattle.hz_depend.specs.declared.parts.Edge.{Edge}
use Rattle.hz_bound.specs.Rows.{row_at}

abbrev Rows : Type 0
Rows = List (Vec Edge Global)

-- a row with one more edge
pub one_added : (rows : Rows) (old new : Vec Edge Global) (edge : Edge) → edge.from < length rows → old ≡ get_or rows edge.from old → new.items ≡ old.items ++ edge ∷ []
    → (i : ℕ) → row_at (set rows edge.from new) i ≡ row_at rows i ++ filter (λ e. e.from == i) (edge ∷ [])
one_added rows old new edge within is more i = go (edge.from == i) refl
  where
    items : List (List Edge)
    items = map (λ (row : Vec Edge Global). row.items) rows

    long : length items ≡ length rows
    long = length-map rows (λ (row : Vec Edge Global). row.items)

    was : get_or items edge.from [] ≡ old.items
    was = get_or-map (λ (row : Vec Edge Global). row.items) rows edge.from old [] within ∙ ap (λ (row : Vec Edge Global). row.items) (sym is)

    now : (j : ℕ) → row_at (set rows edge.from new) j ≡ get_or (set items edge.from new.items) j []
    now j = ap (λ (xs : List (List Edge)). get_or xs j []) (map-set (λ (row : Vec Edge Global). row.items) rows edge.from new)

    go : (b : Bool) → (edge.from == i) ≡ b → row_at (set rows edge.from new) i ≡ get_or items i [] ++ cond b (edge ∷ []) []
    go true same =
        let at : edge.from ≡ i = eqb-true edge.from i same in
        let inside : edge.from < length items = omega (arith, long) in
        ap (row_at (set rows edge.from new)) (sym at)
        ∙ (now edge.from ∙ (get_or-set_same items edge.from new.items [] inside ∙ (more ∙ (ap (λ (xs : List Edge). xs ++ edge ∷ []) (sym was) ∙ ap (λ (j : ℕ). get_or items j [] ++ edge ∷ []) at))))
    go false other =
        now i ∙ (get_or-set_other items edge.from i new.items [] (λ (h : i ≡ edge.from). eqb-false edge.from i other (sym h)) ∙ sym (append-nil (get_or items i [])))
