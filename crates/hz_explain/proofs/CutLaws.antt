-- Texts that are made one after the other, and what a list in few columns shows of them.
use Rattle.std.proofs.Common.{◌≡◌, ℕ, zero, suc, ◌+◌, ◌-◌, ◌<◌, ◌≤◌, ⊎_elim, Bool, cond, List, [], ◌∷◌, ◌++◌, map, take, length, get_or, append_assoc, refl, sym, ap, ◌∙◌, arith}
use Rattle.std.specs.Prelude.{codes, nat_le}
use Rattle.std.proofs.lemmas.Bool.{cases_lt, lt-leb}
use Rattle.std.specs.declared.alloc.Global.{Global}
use Rattle.std.specs.declared.vec.Vec.{Vec}
use Rattle.std.proofs.lemmas.List.{take-map, map_push, map_more}
use Rattle.hz_why_model.specs.Lists.{kept_for, listed}
use Rattle.hz_explain.specs.Detailing.{texts_of}

take_nothing : (n : ℕ) → take {A = List ℕ} n [] ≡ []
take_nothing zero = refl
take_nothing (suc n) = refl

-- whether a list goes on does not change
same_kept : (n : ℕ) (items : List (List ℕ)) → 0 < n → kept_for (take n items) ≡ kept_for items
same_kept zero items some = absurd (omega arith)
same_kept (suc n) [] some = refl
same_kept (suc n) (item ∷ items) some = refl

-- an item after a text, and the list that follows
abbrev listed_with : (columns : ℕ) → (before between item : List ℕ) → (kept : ℕ) → (rest : List (List ℕ)) → List ℕ
listed_with columns before between item kept rest =
    cond (nat_le (length before + length item + kept) columns) (before ++ (item ++ listed (columns - (length before + length item)) between between rest)) (codes " ..")

-- without a column nothing is shown
no_columns : (columns : ℕ) (before between item : List ℕ) (kept : ℕ) (rest : List (List ℕ)) → columns ≤ 0 → 0 < length before → listed_with columns before between item kept rest ≡ codes " .."
no_columns columns before between item kept rest none some =
    ap (λ (b : Bool). cond b (before ++ (item ++ listed (columns - (length before + length item)) between between rest)) (codes " ..")) (lt-leb (length before + length item + kept) columns (omega arith))

pub listed_take : (items : List (List ℕ)) (n columns : ℕ) (before between : List ℕ) → columns < n → 0 < length before → 0 < length between → listed columns before between (take n items) ≡ listed columns before between items
listed_take [] n columns before between few some more = ap (listed columns before between) (take_nothing n)
listed_take (item ∷ items) zero columns before between few some more = absurd (omega arith)
listed_take (item ∷ items) (suc n) columns before between few some more = ⊎_elim
    (λ (room : 0 < columns).
    let rest : listed (columns - (length before + length item)) between between (take n items) ≡ listed (columns - (length before + length item)) between between items =
    listed_take items n (columns - (length before + length item)) between between (omega arith) more more in
    ap (λ (kept : ℕ). listed_with columns before between item kept (take n items)) (same_kept n items (omega arith))
    ∙ ap (λ (t : List ℕ). cond (nat_le (length before + length item + kept_for items) columns) (before ++ (item ++ t)) (codes " ..")) rest)
    (λ (none : columns ≤ 0).
    no_columns columns before between item (kept_for (take n items)) (take n items) none some ∙ sym (no_columns columns before between item (kept_for items) items none some))
    (cases_lt 0 columns)

-- the same of the texts of items
pub texts_take : {A : Type 0} (text : A → List ℕ) (items : List A) (n columns : ℕ) (before between : List ℕ) → columns < n → 0 < length before → 0 < length between
    → listed columns before between (map text (take n items)) ≡ listed columns before between (map text items)
texts_take text items n columns before between few some more =
    ap (listed columns before between) (sym (take-map text n items)) ∙ listed_take (map text items) n columns before between few some more

-- ---- texts that are made one after the other

-- a text more
pub texts_next : {A : Type 0} (text : A → List ℕ) (old : List (List ℕ)) (made new : List (Vec ℕ Global)) (one : Vec ℕ Global) (items : List A) (i : ℕ) (d : A) → i < length items
    → texts_of made ≡ old ++ map text (take i items) → new ≡ made ++ one ∷ [] → one.items ≡ text (get_or items i d) → texts_of new ≡ old ++ map text (take (i + 1) items)
texts_next text old made new one items i d lt come more is =
    ap texts_of more
    ∙ (map_push (λ (t : Vec ℕ Global). t.items) made one
    ∙ (ap (λ (l : List (List ℕ)). l ++ one.items ∷ []) come
    ∙ (append_assoc old (map text (take i items)) (one.items ∷ [])
    ∙ (ap (λ (t : List ℕ). old ++ (map text (take i items) ++ t ∷ [])) is
    ∙ ap (λ (l : List (List ℕ)). old ++ l) (sym (map_more text items i d lt))))))
