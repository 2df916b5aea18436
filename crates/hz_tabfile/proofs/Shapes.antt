-- What holds of the rows that are read.
use Rattle.std.proofs.Common.{◌≡◌, ℕ, ◌<◌, ◌≤◌, zero, suc, List, [], ◌∷◌, ◌++◌, get_or, Option, Some, None, subst, arith}
use Rattle.std.specs.List.{AllByRecursion}
use Rattle.std.proofs.lemmas.List.Elements.{All-from_recursion}
use Rattle.hz_pipeline_model.specs.Tables.StateLimits.{state_limit}
use Rattle.hz_pipeline_model.specs.Tables.Tables.{Table}
use Rattle.hz_tabfile.specs.Texts.{AreTargets}
use Rattle.hz_tables.specs.Rows.{IsState, AreStates}
use Rattle.hz_tabtext_model.specs.Texts.{IsEntry}

entry_is_state : (states : ℕ) → states ≤ state_limit → (entry : Option ℕ) → IsEntry states entry → IsState entry
entry_is_state states few None h = tt
entry_is_state states few (Some state) h = omega (arith, h, few)

each_is_state : (states : ℕ) → states ≤ state_limit → (row : List (Option ℕ)) → AllByRecursion (IsEntry states) row → AllByRecursion IsState row
each_is_state states few [] h = tt
each_is_state states few (entry ∷ row) h = (entry_is_state states few entry h.0, each_is_state states few row h.1)

-- entries of a table that may be are states
pub are_states : (states : ℕ) (row : List (Option ℕ)) → states ≤ state_limit → AllByRecursion (IsEntry states) row → AreStates row
are_states states row few h = All-from_recursion IsState row (each_is_state states few row h)

entry_below : (states : ℕ) (row : List (Option ℕ)) → AllByRecursion (IsEntry states) row → (column next : ℕ) → get_or row column None ≡ Some next → next < states
entry_below states [] h column next e = absurd (cc)
entry_below states (entry ∷ row) h zero next e = subst (IsEntry states) e h.0
entry_below states (entry ∷ row) h (suc column) next e = entry_below states row h.1 column next e

-- a row of entries that may be more keeps the entries of a table below a number
pub targets_pushed : (states : ℕ) (table : Table) (row : List (Option ℕ)) → AreTargets states table → AllByRecursion (IsEntry states) row → AreTargets states (table ++ row ∷ [])
targets_pushed states [] row are h zero column next e = entry_below states row h column next e
targets_pushed states [] row are h (suc state) column next e = absurd (cc)
targets_pushed states (first ∷ table) row are h zero column next e = are zero column next e
targets_pushed states (first ∷ table) row are h (suc state) column next e = targets_pushed states table row (λ r. are (suc r)) h state column next e
