-- Statements with their units in order ask the same.
use Rattle.std.proofs.Common.{ℕ, ◌<◌, ◌↔◌, List, ◌++◌, map, All, Contains, refl, subst}
use Rattle.std.specs.Prelude.{◌==◌}
use Rattle.std.specs.Bool.{Decides}
use Rattle.std.specs.List.{list_any, range_with_len}
use Rattle.std.proofs.lemmas.Bool.{eqb-true, eq-eqb}
use Rattle.std.proofs.lemmas.List.Elements.{All-contains, All-map}
use Rattle.std.proofs.lemmas.List.Folds.{Any-from_list_any, list_any-from_Any}
use Rattle.hz_base_model.specs.Pairs.{placed}
use Rattle.hz_description_model.specs.Reservations.Sets.{Statement, Holds, HoldsSome, HoldsPattern, AllowsIn}
use Rattle.hz_pipeline_model.specs.Accepting.Fitting.{AskTheSame}
use Rattle.hz_base_model.proofs.Elements.{Contains-filter, Contains-from_filter, Contains-map, Contains-from_map, Contains-range}
use Rattle.hz_grid.specs.declared.rows.TheConstants.{UNITS}
use Rattle.hz_unitsets.specs.declared.set_rules.SetRule.{SetRule}
use Rattle.hz_unitsets.proofs.Once.{pattern_once}
use Rattle.hz_unitsets.specs.SetRules.{statement_of, statements_of, IsInRange, in_order, each_once, ordered}

-- a list of units has the unit
pub list_any_decides : (units : List ℕ) (unit : ℕ) → Decides (list_any (λ u. u == unit) units) (Contains units unit)
list_any_decides units unit = (
  λ t.
      let found = Any-from_list_any (λ u. u == unit) units t in
      subst (λ (u : ℕ). Contains units u) (eqb-true found.1 unit found.4) (found.0, found.2, found.3),
  λ h. list_any-from_Any (λ u. u == unit) units (h.0, unit, h.1, h.2, eq-eqb unit unit refl),
)

abbrev AreSmall : List ℕ → Type 0
AreSmall units = All (λ unit. unit < UNITS) units

in_order_has : (units : List ℕ) → AreSmall units → (unit : ℕ) → Contains (in_order units) unit ↔ Contains units unit
unfolding in_order
in_order_has units small unit =
    let has = list_any_decides units unit in (
      λ h. has.0 (Contains-from_filter (λ u. list_any (λ v. v == u) units) unit (range_with_len 0 UNITS) h).1,
      λ h. Contains-filter (λ u. list_any (λ v. v == u) units) unit (has.1 h) (range_with_len 0 UNITS) (Contains-range UNITS unit (All-contains (λ u. u < UNITS) units unit small h)),
    )

module _ (held : ℕ → Type 0) where
  some_in_order : (units : List ℕ) → AreSmall units → HoldsSome (in_order units) held ↔ HoldsSome units held
  some_in_order units small = (
    λ h. (h.0, (in_order_has units small h.0).0 h.1, h.2),
    λ h. (h.0, (in_order_has units small h.0).1 h.1, h.2),
  )

  each_in_order : (patterns : List (List ℕ)) → All AreSmall patterns → HoldsPattern (map in_order patterns) held ↔ HoldsPattern patterns held
  each_in_order patterns small = (
    λ h.
        let found = Contains-from_map in_order patterns h.0 h.1 in
        let has = in_order_has found.0 (All-contains AreSmall patterns found.0 small found.1) in
        (found.0, found.1, λ u is. h.2 u (subst (λ (units : List ℕ). Contains units u) found.2 ((has u).1 is))),
    λ h.
        let has = in_order_has h.0 (All-contains AreSmall patterns h.0 small h.1) in
        (in_order h.0, Contains-map in_order patterns h.0 h.1, λ u is. h.2 u ((has u).0 is)),
  )

  pattern_in_order : (patterns : List (List ℕ)) → All AreSmall patterns → HoldsPattern (each_once (map in_order patterns)) held ↔ HoldsPattern patterns held
  pattern_in_order patterns small =
      let once = pattern_once held (map in_order patterns) in
      let both = each_in_order patterns small in
      (λ h. both.0 (once.0 h), λ h. once.1 (both.1 h))

-- the units of the statement are in their range
record IsSmall (s : Statement ℕ) : Type 0 where
  units : AreSmall s.units
  patterns : All AreSmall s.patterns

module _ (s : Statement ℕ) (small : IsSmall s) (source added result : ℕ → Type 0) where
  allows_ordered : AllowsIn s source added result → AllowsIn (ordered s) source added result
  allows_ordered h =
      let some = λ (held : ℕ → Type 0). (some_in_order held s.units small.units).0 in
      let pattern = λ (held : ℕ → Type 0). pattern_in_order held s.patterns small.patterns in
      record {
        excluded = λ e x y. h.excluded e (some result x) ((pattern result).0 y);
        present = λ e x. (pattern source).1 (h.present e (some added x));
        finally_present = λ e x. (pattern result).1 (h.finally_present e (some added x));
        absent = λ e x y. h.absent e (some added x) ((pattern source).0 y);
        finally_absent = λ e x y. h.finally_absent e (some added x) ((pattern result).0 y);
      }

  ordered_allows : AllowsIn (ordered s) source added result → AllowsIn s source added result
  ordered_allows h =
      let some = λ (held : ℕ → Type 0). (some_in_order held s.units small.units).1 in
      let pattern = λ (held : ℕ → Type 0). pattern_in_order held s.patterns small.patterns in
      record {
        excluded = λ e x y. h.excluded e (some result x) ((pattern result).1 y);
        present = λ e x. (pattern source).0 (h.present e (some added x));
        finally_present = λ e x. (pattern result).0 (h.finally_present e (some added x));
        absent = λ e x y. h.absent e (some added x) ((pattern source).1 y);
        finally_absent = λ e x y. h.finally_absent e (some added x) ((pattern result).1 y);
      }

ask_the_same : (statements : List (Statement ℕ)) → All IsSmall statements → AskTheSame (map ordered statements) statements
ask_the_same statements small source pairs now = (
  λ h. record {
    apart = h.apart;
    allowed = λ s is cycle. ordered_allows s (All-contains IsSmall statements s small is) _ _ _ (h.allowed (ordered s) (Contains-map ordered statements s is) cycle);
  },
  λ h. record {
    apart = h.apart;
    allowed = λ s is cycle.
        let found = Contains-from_map ordered statements s is in
        subst (λ (r : Statement ℕ). AllowsIn r (Holds source cycle) (Holds (placed now pairs) cycle) (Holds (source ++ placed now pairs) cycle)) found.2 (allows_ordered found.0 (All-contains IsSmall statements found.0 small found.1) _ _ _ (h.allowed found.0 found.1 cycle));
  },
)

pub rules_ask_the_same : (sets : List SetRule) → All IsInRange sets → AskTheSame (map ordered (statements_of sets)) (statements_of sets)
rules_ask_the_same sets small =
    ask_the_same (statements_of sets) (All-map IsSmall statement_of sets (λ k d within.
    let is = small k d within in
    record { units = is.units; patterns = All-map AreSmall (λ pattern. pattern.items) _ is.patterns }))
