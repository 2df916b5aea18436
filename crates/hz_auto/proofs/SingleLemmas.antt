-- In the first treatment each state of an automaton has one grid.
use Rattle.std.proofs.Common.{◌≡◌, ℕ, ◌<◌, ◌≤◌, List, [], ◌∷◌, length, Option, Some, None, refl, sym, ◌∙◌, subst, arith}
use Rattle.std.specs.Prelude.{IsSome}
use Rattle.std.proofs.lemmas.List.{length-map}
use Rattle.std.proofs.lemmas.List.Elements.{All-nil, All-cons}
use Rattle.std.proofs.lemmas.Option.{none-some}
use Rattle.hz_base_model.specs.Pairs.{Pair}
use Rattle.hz_base_model.proofs.Elements.{Contains-nil, Contains-head, Contains-tail}
use Rattle.hz_pipeline_model.specs.Accepting.Events.{Event}
use Rattle.hz_pipeline_model.specs.Accepting.Replay.{Pipeline, Accepted, first_fit}
use Rattle.hz_pipeline_model.specs.Tables.Tables.{Table, IsTable, entry, walk}
use Rattle.hz_pipeline_model.proofs.Tables.TableLaws.{walk-none}
use Rattle.hz_pipeline_model.proofs.Single.WordLaws.{entry_low}
use Rattle.hz_pipeline_model.specs.Reaching.Reach.{IsLeft}
use Rattle.hz_pipeline_model.specs.Reaching.Columns.{AreColumns, events_at}
use Rattle.hz_pipeline_model.specs.Reaching.Built.{IsAutomaton, grid_at, set_at, state_at}
use Rattle.hz_pipeline_model.proofs.Reaching.AutomatonLaws.{leaves_of_accepted}
use Rattle.hz_pipeline_model.proofs.Reaching.LimitLaws.{one_left}
use Rattle.hz_determ.specs.Asking.{IsSingle}

-- what is walked to its end is columns
columns_walked : (table : Table) (columns : ℕ) → IsTable table columns → (w : List ℕ) (from : Option ℕ) (state : ℕ) → walk table from w ≡ Some state → AreColumns columns w
columns_walked table columns is [] from state h = All-nil (λ (c : ℕ). c ≤ columns)
columns_walked table columns is (column ∷ w) None state h = absurd (none-some state h)
columns_walked table columns is (column ∷ w) (Some s) state h =
    All-cons (λ (c : ℕ). c ≤ columns) column w (first (entry table s column) refl h) (columns_walked table columns is w (entry table s column) state h)
  where
    first : (next : Option ℕ) → entry table s column ≡ next → walk table next w ≡ Some state → column ≤ columns
    first None e k = absurd (none-some state (sym (walk-none table w) ∙ k))
    first (Some n) e k = entry_low table columns is s column n e

module _ {U : Type 0} (m : Pipeline U) (first : m.treatment ≡ first_fit) where
  -- what accepted events leave is one grid
  one_of : (t : List Event) → Accepted m t → (xs : List (List (Pair U))) → IsLeft m t xs → length xs ≡ 1
  one_of t accepted [] is = let some = leaves_of_accepted m t accepted in let found = is.all some.0 some.1 in absurd (Contains-nil found.0 found.1)
  one_of t accepted (grid ∷ []) is = refl
  one_of t accepted (grid ∷ other ∷ more) is =
      absurd (is.different 0 1 [] (omega arith) (omega arith)
      (one_left m first t grid other (is.only grid (Contains-head grid (other ∷ more))) (is.only other (Contains-tail grid other (other ∷ more) (Contains-head other more)))))

  pub single_sets : (columns : ℕ) (table : Table) (grids : List (List (Pair U))) (sets : List (List ℕ)) (parents : List (ℕ × ℕ)) → IsAutomaton m columns table grids sets parents → (state : ℕ) → state < length sets → IsSingle (length grids) (set_at sets state)
  single_sets columns table grids sets parents auto state low =
      let each = auto.each in
      let (w, end) = auto.led state (omega (arith, low, each)) in
      let word = columns_walked table columns auto.shape w (Some 0) state end in
      let accepted = (auto.walks w word).0 (subst IsSome (sym end) refl) in
      let one = one_of (events_at columns w) accepted (state_at grids sets state) (auto.stands w state word end) in
      record {
        one = sym (length-map (set_at sets state) (grid_at grids)) ∙ one;
        there = auto.within state low;
      }
