-- What rules say of one cycle, of all cycles and of two grids.
use Rattle.std.proofs.Common.{◌≡◌, ℕ, ◌+◌, ◌-◌, ◌<◌, ◌≤◌, take, drop, length-drop, ◌↔◌, ◌⊎◌, inl, inr, Bool, true, false, List, [], ◌∷◌, ◌++◌, map, get_or, length, All, refl, sym, ap, ◌∙◌, subst, arith, ⊎_elim}
use Rattle.std.proofs.lemmas.Bool.{cases_lt}
use Rattle.std.proofs.lemmas.List.{get_or-drop, take_all, append-nil, append_assoc, map_push}
use Rattle.std.proofs.lemmas.List.Elements.{All-drop, All-contains, All-map, All-push, Contains-get_or, Contains-append_left, Contains-append_right, Contains-append_cases}
use Rattle.hz_base_model.specs.Pairs.{Pair, placed}
use Rattle.hz_description_model.specs.Reservations.Sets.{Statement, exclusion, final_presence, Holds, HoldsSome, HoldsPattern, AllowsIn, Fits}
use Rattle.hz_base_model.proofs.Elements.{Contains-map}
use Rattle.hz_description_model.proofs.Reservations.FitLaws.{allows_same, some_with, pattern_with, holds_moved, iff_back}
use Rattle.hz_pipeline_model.specs.Accepting.Fitting.{IsUnbroken}
use Rattle.hz_pipeline_model.proofs.Accepting.FittingLaws.{holds_append}
use Rattle.hz_grid.specs.Rows.{HasUnit, RowsMeet, IsWithin}
use Rattle.hz_grid.specs.Grids.{Meets}
use Rattle.hz_grid.specs.declared.usage.UsedRow.{UsedRow}
use Rattle.hz_grid.specs.Used.{is_at, AreRowsOf, HasUnitsOf}
use Rattle.hz_grid.proofs.UsedLemmas.{row_at_cycle}
use Rattle.std.specs.List.{list_any}
use Rattle.hz_unitsets.specs.declared.set_rules.SetKind.{SetKind}
use Rattle.hz_unitsets.specs.declared.set_rules.SetKind.TheVariants.{Exclusion, Presence, FinalPresence, Absence, FinalAbsence}
use Rattle.hz_unitsets.specs.declared.row_rules.Rule.{Rule}
use Rattle.hz_unitsets.specs.declared.rules.Asked.{Asked}
use Rattle.hz_unitsets.specs.SetRules.{kind_of}
use Rattle.hz_unitsets.specs.RowRules.{statement_in, asked_statement, AllowsAt, AllowsRows, Allows, Breaks, BreaksRow, IsTrigger, IsAsked, AreAsked}

-- ---- where no added unit may break a statement

pub allows_untriggered : (s : Statement ℕ) (source add : List (Pair ℕ)) (cycle : ℕ) → (Breaks s source → ⊥) → ((unit : ℕ) → IsTrigger s unit → Holds add cycle unit → ⊥) → AllowsAt s source add cycle
allows_untriggered s source add cycle unbroken none = record {
  excluded = λ e some pattern. unbroken (e, (cycle, some_there some, pattern_there e pattern));
  present = λ _ h. absurd (none h.0 (inl h.1) h.2);
  finally_present = λ _ h. absurd (none h.0 (inl h.1) h.2);
  absent = λ _ h _. none h.0 (inl h.1) h.2;
  finally_absent = λ _ h _. none h.0 (inl h.1) h.2;
}
  where
    there : (unit : ℕ) → IsTrigger s unit → Holds (source ++ add) cycle unit → Holds source cycle unit
    there unit is h = ⊎_elim (λ l. l) (λ r. absurd (none unit is r)) (Contains-append_cases source add _ h)

    some_there : HoldsSome s.units (Holds (source ++ add) cycle) → HoldsSome s.units (Holds source cycle)
    some_there h = (h.0, h.1, there h.0 (inl h.1) h.2)

    pattern_there : s.kind ≡ exclusion → HoldsPattern s.patterns (Holds (source ++ add) cycle) → HoldsPattern s.patterns (Holds source cycle)
    pattern_there e h = (h.0, h.1, λ u is. there u (inr (e, h.0, h.1, is)) (h.2 u is))

pub exclusion_alone : (k : SetKind) → kind_of k ≡ exclusion → k ≡ Exclusion
exclusion_alone Exclusion e = refl
exclusion_alone Presence e = absurd (cc)
exclusion_alone FinalPresence e = absurd (cc)
exclusion_alone Absence e = absurd (cc)
exclusion_alone FinalAbsence e = absurd (cc)

pub final_presence_alone : (k : SetKind) → kind_of k ≡ final_presence → k ≡ FinalPresence
final_presence_alone Exclusion e = absurd (cc)
final_presence_alone Presence e = absurd (cc)
final_presence_alone FinalPresence e = refl
final_presence_alone Absence e = absurd (cc)
final_presence_alone FinalAbsence e = absurd (cc)

-- ---- one cycle, by rows

-- what stands in a cycle or is among the units that are added there
pub both_units : (source add : List (Pair ℕ)) (cycle units : ℕ) → ((u : ℕ) → HasUnit units u ↔ Holds add cycle u) → (u : ℕ) → (Holds source cycle u ⊎ HasUnit units u) ↔ Holds (source ++ add) cycle u
both_units source add cycle units is u = (
  λ h. ⊎_elim (λ l. Contains-append_left source add _ l) (λ r. Contains-append_right source add _ ((is u).0 r)) h,
  λ h. ⊎_elim (λ l. inl l) (λ r. inr ((is u).1 r)) (Contains-append_cases source add _ h),
)

-- ---- all cycles

-- by the cycles in which a unit is added
pub allows_used : (s : Statement ℕ) (source add : List (Pair ℕ)) (rows : List UsedRow) → (Breaks s source → ⊥) → AreRowsOf add rows → All (λ row. AllowsAt s source add row.cycle) rows → Allows s source add
allows_used s source add rows unbroken are each = record { at = λ cycle. here cycle (list_any (is_at cycle) rows) refl }
  where
    here : (cycle : ℕ) (b : Bool) → list_any (is_at cycle) rows ≡ b → AllowsAt s source add cycle
    here cycle true e =
        let (row, there, at) = row_at_cycle cycle rows e in
        subst (AllowsAt s source add) at (All-contains (λ (r : UsedRow). AllowsAt s source add r.cycle) rows row each there)
    here cycle false e = allows_untriggered s source add cycle unbroken (λ unit _ h. let t = are.whole unit cycle h in absurd (cc))

-- ---- one cycle, by what stands there and what is added alone

pub rows_untriggered : (s : Statement ℕ) (there added : ℕ) → (BreaksRow s there → ⊥) → ((unit : ℕ) → IsTrigger s unit → HasUnit added unit → ⊥) → AllowsRows s there added
rows_untriggered s there added unbroken none = record {
  excluded = λ e some pattern. unbroken (e, some_there some, pattern_there e pattern);
  present = λ _ h. absurd (none h.0 (inl h.1) h.2);
  finally_present = λ _ h. absurd (none h.0 (inl h.1) h.2);
  absent = λ _ h _. none h.0 (inl h.1) h.2;
  finally_absent = λ _ h _. none h.0 (inl h.1) h.2;
}
  where
    stood : (unit : ℕ) → IsTrigger s unit → (HasUnit there unit ⊎ HasUnit added unit) → HasUnit there unit
    stood unit is h = ⊎_elim (λ l. l) (λ r. absurd (none unit is r)) h

    some_there : HoldsSome s.units (λ unit. HasUnit there unit ⊎ HasUnit added unit) → HoldsSome s.units (HasUnit there)
    some_there h = (h.0, h.1, stood h.0 (inl h.1) h.2)

    pattern_there : s.kind ≡ exclusion → HoldsPattern s.patterns (λ unit. HasUnit there unit ⊎ HasUnit added unit) → HoldsPattern s.patterns (HasUnit there)
    pattern_there e h = (h.0, h.1, λ u is. stood u (inr (e, h.0, h.1, is)) (h.2 u is))

-- where nothing stands and nothing is added
pub nothing_allowed : (s : Statement ℕ) (there added : ℕ) → ((unit : ℕ) → HasUnit there unit → ⊥) → ((unit : ℕ) → HasUnit added unit → ⊥) → AllowsRows s there added
nothing_allowed s there added bare none = rows_untriggered s there added (λ b. bare b.1.0 b.1.2) (λ unit _ h. none unit h)

pub allows_joined : (s : Statement ℕ) (there added all : ℕ) → ((u : ℕ) → HasUnit all u ↔ (HasUnit there u ⊎ HasUnit added u)) → AllowsIn s (HasUnit there) (HasUnit added) (HasUnit all) ↔ AllowsRows s there added
allows_joined s there added all is_all = (
  allows_same s _ _ _ _ _ _ (λ u. (λ x. x, λ x. x)) (λ u. (λ x. x, λ x. x)) is_all,
  allows_same s _ _ _ _ _ _ (λ u. (λ x. x, λ x. x)) (λ u. (λ x. x, λ x. x)) (λ u. iff_back _ _ (is_all u)),
)

-- ---- rules, one by one

-- each of the first rules has it
abbrev pub FirstHold : (Asked → Type 0) → List Asked → ℕ → Type 0
FirstHold P rules count = (k : ℕ) (d : Asked) → k < count → P (get_or rules k d)

-- the rules from that place on
abbrev pub rest_of : List Asked → ℕ → List Asked
rest_of rules place = take (length rules - place) (drop place rules)

rest_is : (rules : List Asked) (place : ℕ) → rest_of rules place ≡ drop place rules
rest_is rules place = take_all (length rules - place) (drop place rules) (rw (length-drop) (omega arith))

pub all_rest : (P : Asked → Type 0) (rules : List Asked) (place : ℕ) → All P rules → All P (rest_of rules place)
all_rest P rules place h = subst (All P) (sym (rest_is rules place)) (All-drop P place rules h)

-- the first rules have it, and so do the rest
pub rest_hold : (P : Asked → Type 0) (rules : List Asked) (place : ℕ) → FirstHold P rules place → All P (rest_of rules place) → All P rules
rest_hold P rules place before rest k d within = ⊎_elim
    (λ (less : k < place). before k d less)
    (λ (same : place ≤ k).
    let back : place + (k - place) ≡ k = omega (arith, same) in
    let inside : k - place < length (drop place rules) = rw (length-drop) (omega (arith, same, within)) in
    let dropped = subst (All P) (rest_is rules place) rest in
    subst (λ (n : ℕ). P (get_or rules n d)) back (subst P (get_or-drop place rules (k - place) d) (dropped (k - place) d inside)))
    (cases_lt k place)

-- ---- two grids

in_place : (pairs : List (Pair ℕ)) (cycle unit : ℕ) → Holds pairs cycle unit ↔ Holds (placed 0 pairs) cycle unit
in_place pairs cycle unit =
    let same : 0 + cycle ≡ cycle = omega arith in
    rw same at (holds_moved 0 cycle pairs unit)

-- what is held with the added pairs placed at cycle 0
result_in_place : (source add : List (Pair ℕ)) (cycle unit : ℕ) → Holds (source ++ add) cycle unit ↔ Holds (source ++ placed 0 add) cycle unit
result_in_place source add cycle = holds_append source add source (placed 0 add) cycle cycle (λ u. (λ h. h, λ h. h)) (in_place add cycle)

module _ (statements : List (Statement ℕ)) (source add : List (Pair ℕ)) where
  pub fits_grids : (Meets source add → ⊥) → All (λ s. Allows s source add) statements → Fits statements source add 0
  fits_grids apart h = record {
    apart = λ p there here. apart (p, there, (in_place add p.cycle p.unit).1 here);
    allowed = λ s is cycle.
        let each = All-contains (λ r. Allows r source add) statements s h is in
        allows_same s _ _ _ _ _ _ (λ u. (λ x. x, λ x. x)) (in_place add cycle) (result_in_place source add cycle) (each.at cycle);
  }

  pub grids_apart : Fits statements source add 0 → Meets source add → ⊥
  grids_apart h (p, there, here) = h.apart p there ((in_place add p.cycle p.unit).0 here)

  pub grids_allowed : Fits statements source add 0 → All (λ s. Allows s source add) statements
  grids_allowed h = λ k d within. record {
    at = λ cycle. allows_same _ _ _ _ _ _ _ (λ u. (λ x. x, λ x. x)) (λ u. iff_back _ _ (in_place add cycle u)) (λ u. iff_back _ _ (result_in_place source add cycle u)) (h.allowed _ (Contains-get_or statements k d within) cycle);
  }

  -- where pairs fit, the source breaks no exclusion
  pub grids_unbroken : Fits statements source add 0 → IsUnbroken statements source
  grids_unbroken h = record {
    excluded = λ s is e cycle some pattern.
        let into = λ (unit : ℕ) (there : Holds source cycle unit). Contains-append_left source (placed 0 add) _ there in
        (h.allowed s is cycle).excluded e (some_with s.units _ _ into some) (pattern_with s.patterns _ _ into pattern);
  }

-- ---- rules

module _ (rules : List Asked) (source : List (Pair ℕ)) where
  pub unbroken_rules : All (λ asked. ¬ Breaks (asked_statement asked) source) rules → IsUnbroken (map asked_statement rules) source
  unbroken_rules h = record {
    excluded = λ s is e cycle some pattern. All-contains (λ r. ¬ Breaks r source) (map asked_statement rules) s (All-map (λ r. ¬ Breaks r source) asked_statement rules h) is (e, (cycle, some, pattern));
  }

  pub rules_unbroken : IsUnbroken (map asked_statement rules) source → All (λ asked. ¬ Breaks (asked_statement asked) source) rules
  rules_unbroken h = λ k d within breaks. h.excluded _ (Contains-map asked_statement rules (get_or rules k d) (Contains-get_or rules k d within)) breaks.0 breaks.1.0 breaks.1.1 breaks.1.2

-- the same of one cycle
module _ (rules : List Asked) (there : ℕ) where
  pub rows_of_statements : All (λ s. ¬ BreaksRow s there) (map asked_statement rules) → All (λ asked. ¬ BreaksRow (asked_statement asked) there) rules
  rows_of_statements h = λ k d within. All-contains (λ s. ¬ BreaksRow s there) (map asked_statement rules) _ h (Contains-map asked_statement rules (get_or rules k d) (Contains-get_or rules k d within))

  pub allow_rows_rules : (added : ℕ) → All (λ asked. AllowsRows (asked_statement asked) there added) rules ↔ All (λ s. AllowsRows s there added) (map asked_statement rules)
  allow_rows_rules added = (
    λ h. All-map (λ s. AllowsRows s there added) asked_statement rules h,
    λ h k d within. All-contains (λ s. AllowsRows s there added) (map asked_statement rules) _ h (Contains-map asked_statement rules (get_or rules k d) (Contains-get_or rules k d within)),
  )

-- where no unit is added that may break a rule, all allow the cycle
pub none_touched_rows : (rules : List Asked) (all there added : ℕ) → AreAsked rules all → All (λ asked. ¬ BreaksRow (asked_statement asked) there) rules → (RowsMeet all added → ⊥) → All (λ asked. AllowsRows (asked_statement asked) there added) rules
none_touched_rows rules all there added are unbroken apart k d within =
    rows_untriggered _ there added (unbroken k d within) (λ unit is h. apart (unit, are.triggers k d within unit ((are.each k d within).triggers unit is), h))

-- one more rule
pub asked_more : (rules : List Asked) (asked : Asked) (old new : ℕ) → AreAsked rules old → IsAsked asked → ((unit : ℕ) → HasUnit new unit ↔ (HasUnit old unit ⊎ HasUnit asked.triggers unit)) → AreAsked (rules ++ asked ∷ []) new
asked_more rules asked old new are is joined = record {
  each = All-push IsAsked rules asked are.each is;
  triggers = All-push (λ a. IsWithin a.triggers new) rules asked (λ k d within unit h. (joined unit).1 (inl (are.triggers k d within unit h))) (λ unit h. (joined unit).1 (inr h));
}

-- the first of the rules to come is among those that are asked now
pub asked_next : (rules : List Asked) (asked : Asked) (to_come : List Rule) (rule : Rule) (rest : List Rule) (all : List (Statement ℕ)) → to_come ≡ rule ∷ rest → asked_statement asked ≡ statement_in rule
    → map asked_statement rules ++ map statement_in to_come ≡ all → map asked_statement (rules ++ asked ∷ []) ++ map statement_in rest ≡ all
asked_next rules asked to_come rule rest all steps same h =
    rw (map_push) (append_assoc (map asked_statement rules) (asked_statement asked ∷ []) (map statement_in rest)
    ∙ ap (λ s. map asked_statement rules ++ s ∷ map statement_in rest) same
    ∙ ap (λ rs. map asked_statement rules ++ map statement_in rs) (sym steps)
    ∙ h)

pub asked_all : (rules : List Asked) (to_come : List Rule) (all : List (Statement ℕ)) → to_come ≡ [] → map asked_statement rules ++ map statement_in to_come ≡ all → map asked_statement rules ≡ all
asked_all rules to_come all none h = sym (append-nil (map asked_statement rules)) ∙ ap (λ rs. map asked_statement rules ++ map statement_in rs) (sym none) ∙ h
