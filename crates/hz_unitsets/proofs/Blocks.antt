-- What a block of rules tells of each of its rules.
use Rattle.std.proofs.Common.{◌≡◌, ℕ, ◌+◌, ◌-◌, ◌<◌, ◌≤◌, take, drop, length-drop, ◌↔◌, ◌⊎◌, inl, inr, List, map, get_or, length, All, Contains, refl, sym, ◌∙◌, subst, arith, ⊎_elim}
use Rattle.std.proofs.lemmas.Bool.{cases_lt}
use Rattle.std.proofs.lemmas.List.{get_or-drop, get_or-take, length-take-le}
use Rattle.std.proofs.lemmas.List.Elements.{All-drop, All-contains, All-take}
use Rattle.hz_base_model.proofs.Elements.{Contains-from_map}
use Rattle.hz_description_model.specs.Reservations.Sets.{Statement, exclusion, presence, final_presence, absence, final_absence, AllowsIn, HoldsSome, HoldsPattern}
use Rattle.hz_description_model.proofs.Reservations.FitLaws.{pattern_with}
use Rattle.hz_grid.specs.Rows.{HasUnit, RowsMeet, IsWithin}
use Rattle.hz_grid.specs.Stored.{units_of}
use Rattle.hz_unitsets.specs.declared.set_rules.SetKind.{SetKind}
use Rattle.hz_unitsets.specs.declared.set_rules.SetKind.TheVariants.{Exclusion, Presence, FinalPresence, Absence, FinalAbsence}
use Rattle.hz_unitsets.specs.declared.row_rules.Rule.{Rule}
use Rattle.hz_unitsets.specs.SetRules.{kind_of}
use Rattle.hz_unitsets.specs.declared.rules.Asked.{Asked}
use Rattle.hz_unitsets.specs.declared.rules.Block.{Block}
use Rattle.hz_unitsets.specs.RowRules.{statement_in, asked_statement, AllowsRows, BreaksRow, IsRow, IsBounded, IsAsked, HasKey, AreKeys, IsWanted, IsSummed, IsBlock, PassesRows, Between}
use Rattle.hz_unitsets.proofs.Cycles.{rows_untriggered, FirstHold}
use Rattle.hz_unitsets.proofs.RowUnits.{Contains-units_of, unit_from_units_in}

-- ---- one rule

no_pattern : (patterns : List ℕ) (keys : ℕ) (held : ℕ → Type 0) → All IsRow patterns → All (λ pattern. HasKey pattern keys) patterns → ((unit : ℕ) → HasUnit keys unit → held unit → ⊥) → HoldsPattern (map units_of patterns) held → ⊥
no_pattern patterns keys held are each none h =
    let found = Contains-from_map units_of patterns h.0 h.1 in
    let meets : RowsMeet found.0 keys = (All-contains (λ pattern. HasKey pattern keys) patterns found.0 each found.1).key in
    let is : IsRow found.0 = All-contains IsRow patterns found.0 are found.1 in
    none meets.0 meets.2 (h.2 meets.0 (subst (λ (units : List ℕ). Contains units meets.0) found.2 (Contains-units_of found.0 meets.0 is meets.1)))

no_unit : (units keys : ℕ) (held : ℕ → Type 0) → IsWithin units keys → ((unit : ℕ) → HasUnit keys unit → held unit → ⊥) → HoldsSome (units_of units) held → ⊥
no_unit units keys held within none h = none h.0 (within h.0 (unit_from_units_in units h.0 h.1)) h.2

pub presence_alone : (k : SetKind) → kind_of k ≡ presence → k ≡ Presence
presence_alone Exclusion e = absurd (cc)
presence_alone Presence e = refl
presence_alone FinalPresence e = absurd (cc)
presence_alone Absence e = absurd (cc)
presence_alone FinalAbsence e = absurd (cc)

-- the kind wants a pattern
pub record Wants (kind : SetKind) : Type 0 where
  pub not_exclusion : kind_of kind ≡ exclusion → ⊥
  pub not_absence : kind_of kind ≡ absence → ⊥
  pub not_final_absence : kind_of kind ≡ final_absence → ⊥

pub presence_wants : Wants Presence
presence_wants = record { not_exclusion = λ e. cc; not_absence = λ e. cc; not_final_absence = λ e. cc }

pub final_presence_wants : Wants FinalPresence
final_presence_wants = record { not_exclusion = λ e. cc; not_absence = λ e. cc; not_final_absence = λ e. cc }

-- a cycle by what stands, what is added and all, for all of which units are one of both
module _ (there added all : ℕ → Type 0) (both : (unit : ℕ) → all unit → there unit ⊎ added unit) (more : (unit : ℕ) → there unit → all unit) where
  forbidding_allowed : (rule : Rule) (keys : ℕ) → IsBounded rule → ((statement_in rule).kind ≡ presence → ⊥) → ((statement_in rule).kind ≡ final_presence → ⊥) → AreKeys rule.patterns.items rule.units keys
      → ((unit : ℕ) → HasUnit keys unit → there unit → ⊥) → ((unit : ℕ) → HasUnit keys unit → added unit → ⊥) → AllowsIn (statement_in rule) there added all
  forbidding_allowed rule keys is other last are stands adds =
      let none : (unit : ℕ) → HasUnit keys unit → all unit → ⊥ = λ unit key h. ⊎_elim (λ l. stands unit key l) (λ r. adds unit key r) (both unit h) in
      record {
        excluded = λ e some pattern. ⊎_elim (λ each. no_pattern rule.patterns.items keys _ is.patterns each none pattern) (λ within. no_unit rule.units keys _ within none some) are;
        present = λ e. absurd (other e);
        finally_present = λ e. absurd (last e);
        absent = λ e some pattern. ⊎_elim (λ each. no_pattern rule.patterns.items keys _ is.patterns each stands pattern) (λ within. no_unit rule.units keys _ within adds some) are;
        finally_absent = λ e some pattern. ⊎_elim (λ each. no_pattern rule.patterns.items keys _ is.patterns each none pattern) (λ within. no_unit rule.units keys _ within adds some) are;
      }

  wanting_allowed : (rule : Rule) (keys wanted : ℕ) → Wants rule.kind → IsWanted (statement_in rule) rule.units keys wanted
      → ((unit : ℕ) → HasUnit keys unit → added unit → ⊥) → ((unit : ℕ) → HasUnit wanted unit → there unit) → AllowsIn (statement_in rule) there added all
  wanting_allowed rule keys wanted wants is adds stands = record {
    excluded = λ e. absurd (wants.not_exclusion e);
    present = λ e some. ⊎_elim (λ pattern. pattern_with _ _ _ stands pattern) (λ within. absurd (no_unit rule.units keys _ within adds some)) is;
    finally_present = λ e some. ⊎_elim (λ pattern. pattern_with _ _ _ (λ unit has. more unit (stands unit has)) pattern) (λ within. absurd (no_unit rule.units keys _ within adds some)) is;
    absent = λ e. absurd (wants.not_absence e);
    finally_absent = λ e. absurd (wants.not_final_absence e);
  }

none_met : (keys row : ℕ) → (RowsMeet keys row → ⊥) → (unit : ℕ) → HasUnit keys unit → HasUnit row unit → ⊥
none_met keys row apart unit key h = apart (unit, key, h)

-- of a rule that forbids patterns
pub summed_forbidding : (rule : Rule) (keys wanted : ℕ) → IsBounded rule → ((statement_in rule).kind ≡ presence → ⊥) → ((statement_in rule).kind ≡ final_presence → ⊥) → AreKeys rule.patterns.items rule.units keys → IsSummed (statement_in rule) keys wanted
summed_forbidding rule keys wanted is other last are = record {
  allowed_rows = λ there added stands adds _. forbidding_allowed _ _ _ (λ u h. h) (λ u h. inl h) rule keys is other last are (none_met keys there stands) (none_met keys added adds);
}

-- of a rule that wants one
pub summed_wanting : (rule : Rule) (keys wanted : ℕ) → Wants rule.kind → IsWanted (statement_in rule) rule.units keys wanted → IsSummed (statement_in rule) keys wanted
summed_wanting rule keys wanted wants is = record {
  allowed_rows = λ there added _ adds stands. wanting_allowed _ _ _ (λ u h. h) (λ u h. inl h) rule keys wanted wants is (none_met keys added adds) stands;
}

pub summed_wider : (s : Statement ℕ) (keys wanted keys' wanted' : ℕ) → IsWithin keys keys' → IsWithin wanted wanted' → IsSummed s keys wanted → IsSummed s keys' wanted'
summed_wider s keys wanted keys' wanted' more all is = record {
  allowed_rows = λ there added stood adds stands. is.allowed_rows there added (λ m. stood (m.0, more m.0 m.1, m.2)) (λ m. adds (m.0, more m.0 m.1, m.2)) (λ u want. stands u (all u want));
}

-- ---- a block

-- one more item
pub more_items : {X : Type 0} (P : X → Type 0) (items : List X) (count : ℕ) (item : X) → ((k : ℕ) (d : X) → k < count → P (get_or items k d)) → ((e : X) → item ≡ get_or items count e) → P item → (k : ℕ) (d : X) → k < count + 1 → P (get_or items k d)
more_items {X} P items count item before read here k d low = ⊎_elim
    (λ (less : k < count). before k d less)
    (λ (same : count ≤ k).
    let is : count ≡ k = omega (arith, low, same) in
    subst (λ (n : ℕ). P (get_or items n d)) is (subst P (read d) here))
    (cases_lt k count)

-- what is gathered of the rules from one place up to another
pub record AreSoFar (rules : List Asked) (from to triggers keys wanted : ℕ) : Type 0 where
  pub noted : (k : ℕ) (d : Asked) → from ≤ k → k < to → IsWithin (get_or rules k d).triggers triggers
  pub summed : (k : ℕ) (d : Asked) → from ≤ k → k < to → IsSummed (asked_statement (get_or rules k d)) keys wanted

pub none_so_far : (rules : List Asked) (from triggers keys wanted : ℕ) → AreSoFar rules from from triggers keys wanted
none_so_far rules from triggers keys wanted = record {
  noted = λ k d low high. absurd (omega (arith, low, high));
  summed = λ k d low high. absurd (omega (arith, low, high));
}

abbrev Joins : ℕ → ℕ → ℕ → Type 0
Joins new old more = (unit : ℕ) → HasUnit new unit ↔ (HasUnit old unit ⊎ HasUnit more unit)

pub one_so_far : (rules : List Asked) (from to triggers keys wanted triggers' keys' wanted' more_keys more_wanted : ℕ) (asked : Asked) → ((e : Asked) → asked ≡ get_or rules to e) → Joins triggers' triggers asked.triggers → Joins keys' keys more_keys → Joins wanted' wanted more_wanted
    → IsSummed (asked_statement asked) more_keys more_wanted → AreSoFar rules from to triggers keys wanted → AreSoFar rules from (to + 1) triggers' keys' wanted'
one_so_far rules from to triggers keys wanted triggers' keys' wanted' more_keys more_wanted asked read is_triggers is_keys is_wanted here before = record {
  noted = λ k d low high. ⊎_elim
      (λ (less : k < to). λ unit h. (is_triggers unit).1 (inl (before.noted k d low less unit h)))
      (λ (same : to ≤ k).
      let is : to ≡ k = omega (arith, high, same) in
      subst (λ (n : ℕ). IsWithin (get_or rules n d).triggers triggers') is
      (subst (λ (a : Asked). IsWithin a.triggers triggers') (read d) (λ unit h. (is_triggers unit).1 (inr h))))
      (cases_lt k to);
  summed = λ k d low high. ⊎_elim
      (λ (less : k < to). summed_wider _ keys wanted keys' wanted' (λ u h. (is_keys u).1 (inl h)) (λ u h. (is_wanted u).1 (inl h)) (before.summed k d low less))
      (λ (same : to ≤ k).
      let is : to ≡ k = omega (arith, high, same) in
      subst (λ (n : ℕ). IsSummed (asked_statement (get_or rules n d)) keys' wanted') is
      (subst (λ (a : Asked). IsSummed (asked_statement a) keys' wanted') (read d)
      (summed_wider _ more_keys more_wanted keys' wanted' (λ u h. (is_keys u).1 (inr h)) (λ u h. (is_wanted u).1 (inr h)) here)))
      (cases_lt k to);
}

-- rules that a block passes over allow the cycle
pub passes_allow : (rules : List Asked) (block : Block) (there added : ℕ) → All IsAsked rules → IsBlock rules block → All (λ asked. ¬ BreaksRow (asked_statement asked) there) rules → PassesRows block there added → Between (λ asked. AllowsRows (asked_statement asked) there added) rules block.from block.to
passes_allow rules block there added asked is unbroken passes k d low high =
    let within : k < length rules = omega (arith, high, is.within) in
    ⊎_elim
    (λ apart. rows_untriggered _ there added (unbroken k d within) (λ unit trigger held. apart (unit, is.triggers k d low high unit ((asked k d within).triggers unit trigger), held)))
    (λ h. (is.summed k d low high).allowed_rows there added h.0 h.1 h.2)
    passes

-- the rules before a block and those of it
pub first_and_between : (P : Asked → Type 0) (rules : List Asked) (from to : ℕ) → FirstHold P rules from → Between P rules from to → FirstHold P rules to
first_and_between P rules from to before between k d high = ⊎_elim
    (λ (less : k < from). before k d less)
    (λ (same : from ≤ k). between k d same high)
    (cases_lt k from)

-- ---- the rules from one place to another

abbrev pub between : List Asked → ℕ → ℕ → List Asked
between rules from to = take (to - from) (drop from rules)

pub all_between : (P : Asked → Type 0) (rules : List Asked) (from to : ℕ) → All P rules → All P (between rules from to)
all_between P rules from to h = All-take P (to - from) (drop from rules) (All-drop P from rules h)

between_length : (rules : List Asked) (from to : ℕ) → from ≤ to → to ≤ length rules → length (between rules from to) ≡ to - from
between_length rules from to order within = length-take-le (to - from) (drop from rules) (rw (length-drop) (omega (arith, order, within)))

between_at : (rules : List Asked) (from to j : ℕ) (d : Asked) → j < to - from → get_or (between rules from to) j d ≡ get_or rules (from + j) d
between_at rules from to j d inside = get_or-take (to - from) (drop from rules) j d inside ∙ get_or-drop from rules j d

pub between_hold : (P : Asked → Type 0) (rules : List Asked) (from to : ℕ) → from ≤ to → to ≤ length rules → All P (between rules from to) ↔ Between P rules from to
between_hold P rules from to order within = (
  λ h k d low high.
      let back : from + (k - from) ≡ k = omega (arith, low) in
      let inside : k - from < to - from = omega (arith, low, high) in
      let there : k - from < length (between rules from to) = rw (between_length rules from to order within) inside in
      subst (λ (n : ℕ). P (get_or rules n d)) back
      (subst P (between_at rules from to (k - from) d inside) (h (k - from) d there)),
  λ h j d there.
      let inside : j < to - from = rw (between_length rules from to order within) at there in
      subst P (sym (between_at rules from to j d inside))
      (h (from + j) d (omega arith) (omega (arith, inside, order))),
)
