-- Reading so many, one after the other, as a loop does.
use Rattle.std.proofs.Common.{◌≡◌, ℕ, suc, ◌+◌, ◌-◌, ◌<◌, ◌≤◌, true, false, List, [], ◌∷◌, ◌++◌, Result, Ok, Err, refl, sym, ap, ◌∙◌, subst, append_assoc, arith}
use Rattle.std.proofs.lemmas.List.{append-nil}
use Rattle.std.specs.Prelude.{⊤, codes, Option, Some, None, MatchOption}
use Rattle.hz_tabtext_model.specs.Judging.{Fault, Kind, ◌>>=◌}
use Rattle.hz_tabtext_model.specs.Lines.{Nothing, class_in, grid_in}
use Rattle.hz_tabtext_model.specs.Reading.{Rest, judged, line_by, so_many, classes_at, comes, grids_from}
use Rattle.hz_tabfile.specs.declared.reading.fault.TabFault.{TabFault}
use Rattle.hz_tabfile.specs.Given.{Tells, fault_of}
use Rattle.hz_tabfile.specs.Texts.{class_read, grids_read}
use Rattle.hz_tabfile.proofs.Reported.{placed}

-- what is reported of a first reading is reported of both
pub reported_first : {X Y : Type 0} (fault : TabFault) (r : Result X Fault) (f : X → Result Y Fault) → Tells fault r → Tells fault (r >>= f)
reported_first {X} {Y} fault r f h = go (fault_of fault) h
  where
    go : (found : Option (Kind × ℕ)) → MatchOption found ⊤ (λ at. r ≡ Err (record { kind = at.0; line = at.1 })) → MatchOption found ⊤ (λ at. r >>= f ≡ Err (record { kind = at.0; line = at.1 }))
    go (Some at) h = rw h refl
    go None h = h

pub reported_same : {Y : Type 0} (fault : TabFault) (r s : Result Y Fault) → r ≡ s → Tells fault r → Tells fault s
reported_same fault r s e h = subst (Tells fault) e h

-- what was read before, and what is still read
abbrev pub with_front : {A : Type 0} → List A → Result (List A × Rest) Fault → Result (List A × Rest) Fault
with_front front found = found >>= λ x. Ok (front ++ x.0, x.1)

module _ {S A : Type 0} (next : S → A → S) (read : S → Rest → Result (A × Rest) Fault) where
  regroup : (front : List A) (x : A) (found : Result (List A × Rest) Fault) → with_front front (found >>= λ y. Ok (x ∷ y.0, y.1)) ≡ with_front (front ++ x ∷ []) found
  regroup front x (Ok y) = ap (λ (xs : List A). Ok (xs, y.1)) (sym (append_assoc front (x ∷ []) y.0))
  regroup front x (Err fault) = refl

  module _ (front : List A) (count i : ℕ) (known : S) (rest : Rest) (total : Result (List A × Rest) Fault) (so_far : with_front front (so_many next read (count - i) known rest) ≡ total) where
    pub many_goes : (x : A) (after : Rest) (later : S) → i < count → next known x ≡ later → read known rest ≡ Ok (x, after) → with_front (front ++ x ∷ []) (so_many next read (count - (i + 1)) later after) ≡ total
    unfolding so_many
    many_goes x after later lt is h =
        let k : count - i ≡ suc (count - (i + 1)) = omega arith in
        let one : with_front front (so_many next read (count - i) known rest) ≡ with_front (front ++ x ∷ []) (so_many next read (count - (i + 1)) (next known x) after) = rw (k, h) (regroup front x (so_many next read (count - (i + 1)) (next known x) after)) in
        subst (λ (s : S). with_front (front ++ x ∷ []) (so_many next read (count - (i + 1)) s after) ≡ total) is (sym one ∙ so_far)

    pub many_stops : (fault : TabFault) → i < count → Tells fault (read known rest) → Tells fault total
    unfolding so_many
    many_stops fault lt h =
        let k : count - i ≡ suc (count - (i + 1)) = omega arith in
        let more : A × Rest → Result (List A × Rest) Fault = λ first. so_many next read (count - (i + 1)) (next known first.0) first.1 >>= λ others. Ok (first.0 ∷ others.0, others.1) in
        let is : with_front front (so_many next read (count - i) known rest) ≡ with_front front (read known rest >>= more) = rw k refl in
        reported_same fault (with_front front (read known rest >>= more)) total (sym is ∙ so_far) (reported_first fault (read known rest >>= more) (λ x. Ok (front ++ x.0, x.1)) (reported_first fault (read known rest) more h))

    pub many_ends : count ≤ i → total ≡ Ok (front, rest)
    unfolding so_many
    many_ends le =
        let k : count - i ≡ 0 = omega arith in
        let one : with_front front (so_many next read (count - i) known rest) ≡ Ok (front, rest) = rw k (ap (λ (xs : List A). Ok (xs, rest)) (append-nil front)) in
        sym so_far ∙ one

  pub many_starts : (found : Result (List A × Rest) Fault) → with_front [] found ≡ found
  many_starts (Ok x) = refl
  many_starts (Err fault) = refl

-- ---- classes

module _ (names : List (List ℕ)) (count i : ℕ) (rest : Rest) (total : Result (List (List ℕ) × Rest) Fault) (so_far : classes_at (count - i) names rest ≡ total) where
  abbrev more : List (List ℕ) × Rest → Result (List (List ℕ) × Rest) Fault
  more x = classes_at (count - (i + 1)) x.0 x.1

  at_class : i < count → (class_read names rest >>= more) ≡ total
  unfolding classes_at class_read
  at_class lt =
      let k : count - i ≡ suc (count - (i + 1)) = omega arith in
      let is : classes_at (count - i) names rest ≡ (class_read names rest >>= more) = rw k (regrouped (line_by (class_in names) rest)) in
      sym is ∙ so_far
    where
      regrouped : (r : Result (List ℕ × Rest) Fault) → (r >>= λ class. classes_at (count - (i + 1)) (names ++ class.0 ∷ []) class.1) ≡ ((r >>= λ class. Ok (names ++ class.0 ∷ [], class.1)) >>= more)
      regrouped (Ok x) = refl
      regrouped (Err fault) = refl

  pub classes_go : (next : List (List ℕ)) (after : Rest) → i < count → class_read names rest ≡ Ok (next, after) → classes_at (count - (i + 1)) next after ≡ total
  classes_go next after lt h = sym (ap (λ (r : Result (List (List ℕ) × Rest) Fault). r >>= more) h) ∙ at_class lt

  pub classes_stop : (fault : TabFault) → i < count → Tells fault (class_read names rest) → Tells fault total
  classes_stop fault lt h = reported_same fault (class_read names rest >>= more) total (at_class lt) (reported_first fault (class_read names rest) more h)

  pub classes_end : count ≤ i → total ≡ Ok (names, rest)
  unfolding classes_at
  classes_end le =
      let k : count - i ≡ 0 = omega arith in
      let is : classes_at (count - i) names rest ≡ Ok (names, rest) = rw k refl in
      sym so_far ∙ is

-- ---- grids

module _ (rest : Rest) (total : Result Rest Fault) (so_far : grids_read rest ≡ total) where
  next_grid : (number : ℕ) (lines : List (List ℕ)) → comes (codes "grid") (record { number = number; lines = lines }) ≡ true
      → grids_from number lines ≡ (line_by grid_in (record { number = number; lines = lines }) >>= λ x. grids_from x.1.number x.1.lines)
  unfolding grids_from
  next_grid number [] h = absurd (cc)
  next_grid number (line ∷ others) h = rw h (regrouped (judged grid_in number line others))
    where
      regrouped : (r : Result Nothing Fault) → (r >>= λ x. grids_from (number + 1) others) ≡ ((r >>= placed (record { number = number + 1; lines = others })) >>= λ (x : Nothing × Rest). grids_from x.1.number x.1.lines)
      regrouped (Ok x) = refl
      regrouped (Err fault) = refl

  at_grid : comes (codes "grid") rest ≡ true → (line_by grid_in rest >>= λ x. grids_read x.1) ≡ total
  unfolding grids_read
  at_grid h = sym (next_grid rest.number rest.lines h) ∙ so_far

  pub grids_go : (x : Nothing) (after : Rest) → comes (codes "grid") rest ≡ true → line_by grid_in rest ≡ Ok (x, after) → grids_read after ≡ total
  grids_go x after h e = sym (ap (λ (r : Result (Nothing × Rest) Fault). r >>= λ x. grids_read x.1) e) ∙ at_grid h

  pub grids_stop : (fault : TabFault) → comes (codes "grid") rest ≡ true → Tells fault (line_by grid_in rest) → Tells fault total
  grids_stop fault h e = reported_same fault (line_by grid_in rest >>= λ x. grids_read x.1) total (at_grid h) (reported_first fault (line_by grid_in rest) (λ x. grids_read x.1) e)

  no_grid : (number : ℕ) (lines : List (List ℕ)) → comes (codes "grid") (record { number = number; lines = lines }) ≡ false → grids_from number lines ≡ Ok (record { number = number; lines = lines })
  unfolding grids_from
  no_grid number [] h = refl
  no_grid number (line ∷ others) h = rw h refl

  pub grids_end : comes (codes "grid") rest ≡ false → total ≡ Ok rest
  unfolding grids_read
  grids_end h = sym so_far ∙ no_grid rest.number rest.lines h
