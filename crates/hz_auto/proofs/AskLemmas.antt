-- The table of an automaton with a column for each unit that is asked for.
use Rattle.std.proofs.Common.{inl, inr, ◌≡◌, ◌⊎◌, ℕ, ◌+◌, ◌*◌, ◌<◌, ◌≤◌, ◌==◌, Bool, true, false, List, [], length, Result, Ok, Err, refl, sym, ap, ◌∙◌, subst, arith, ⊎_elim}
use Rattle.std.specs.Prelude.{◌↔◌, IfOk, IfErr}
use Rattle.std.proofs.lemmas.Bool.{cases_lt}
use Rattle.std.proofs.lemmas.Bool.Decides.{nat_tests}
use Rattle.hz_base_model.specs.Limits.{class_limit}
use Rattle.hz_pipeline_model.specs.Tables.Tables.{entry, IsTable}
use Rattle.hz_tables.specs.Rows.{Rows, KeepsRows}
use Rattle.hz_states.specs.declared.fault.StateFault.{StateFault}
use Rattle.hz_states.specs.declared.fault.StateFault.TheVariants.{CellLimit, NoMemory}
use Rattle.hz_determ.specs.declared.build.Caps.{Caps}
use Rattle.hz_determ.specs.declared.build.Explored.{Explored}
use Rattle.hz_determ.specs.Asking.{IsAsked}
use Rattle.hz_auto.specs.Asks.{IsAskable, HasRoom, IsAskFault, entries_asked}

-- what a test for no items says
pub none_there : (n : ℕ) (empty : Bool) → empty ≡ (n == 0) → empty ≡ true → n ≡ 0
none_there n empty is reported = let test : (n == 0) ≡ true = sym is ∙ reported in grind (arith, nat_tests)

pub some_there : (n : ℕ) (empty : Bool) → empty ≡ (n == 0) → empty ≡ false → 0 < n
some_there n empty is reported = let test : (n == 0) ≡ false = sym is ∙ reported in grind (arith, nat_tests)

-- the rows of a table have its columns
pub columns_same : (plain : Rows) → KeepsRows plain → (columns : ℕ) → IsTable plain.rows columns → plain.columns ≡ columns
columns_same plain keeps columns is =
    let start = is.start in
    let one = is.width 0 start in
    let other = keeps.width 0 [] start in
    omega (arith, one, other)

module _ (explored : Explored) (asks : List ℕ) (caps : Caps) (keeps : KeepsRows explored.plain) (is : IsAskable explored asks caps) where
  same : explored.plain.columns ≡ is.columns
  same = columns_same explored.plain keeps is.columns is.table

  pub few_there : explored.plain.columns ≤ class_limit
  few_there = let few = is.few_columns in omega (arith, few, same)

  module _ (none : length asks ≡ 0) where
    as_wide : explored.plain.columns + length asks ≡ explored.plain.columns
    as_wide = omega (arith, none)

    -- where nothing is asked for, the table is its own
    pub nothing_asked : IsAsked explored asks explored.plain
    nothing_asked = record {
      columns = sym as_wide;
      marks = λ state ask. false;
      present = record { present = λ state ask grid low within. absurd (omega (arith, within, none)) };
      has = record {
        each = refl;
        width = λ state low. let width = is.table.width state low in omega (arith, width, same, none);
        classes = λ state column low within. refl;
        marked = λ state ask low within. absurd (omega (arith, within, none));
        advance = λ state low. ap (entry explored.plain.rows state) as_wide;
      };
    }

    pub nothing_within : HasRoom explored asks caps.cells
    nothing_within = record {
      within = λ columns table. let width = columns_same explored.plain keeps columns table in let cells = is.cells in subst (λ n. length explored.plain.rows * (n + 1) ≤ caps.cells) (omega (arith, width, same, none)) cells;
    }

  -- a table is within the cap of cells, or the fault says that it is not
  abbrev Passes : Result Rows StateFault → Type 0
  Passes result = (result ≡ Err CellLimit) ↔ (caps.cells < entries_asked explored asks explored.plain.columns)

  pub asked_within : (result : Result Rows StateFault) → Passes result → IfOk result (λ _. HasRoom explored asks caps.cells)
  asked_within (Err fault) both = tt
  asked_within (Ok table) both = record {
    within = λ columns is. subst (λ n. entries_asked explored asks n ≤ caps.cells) (columns_same explored.plain keeps columns is) (⊎_elim
        (λ (high : caps.cells < entries_asked explored asks explored.plain.columns). absurd (cc (both.1 high)))
        (λ (low : entries_asked explored asks explored.plain.columns ≤ caps.cells). low)
        (cases_lt caps.cells (entries_asked explored asks explored.plain.columns)));
  }

  pub asked_past : (result : Result Rows StateFault) → Passes result → IfErr result (λ fault. (fault ≡ CellLimit) ⊎ (fault ≡ NoMemory)) → IfErr result (IsAskFault explored asks caps.cells)
  asked_past (Ok table) both reported = tt
  asked_past (Err fault) both reported = ⊎_elim
      (λ (e : fault ≡ CellLimit). inl (e, record { above = λ columns is. subst (λ n. caps.cells < entries_asked explored asks n) (columns_same explored.plain keeps columns is) (both.0 (ap Err e)) }))
      (λ (e : fault ≡ NoMemory). inr e)
      reported
