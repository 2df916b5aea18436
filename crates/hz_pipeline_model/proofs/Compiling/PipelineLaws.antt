-- A description restricted to an automaton runs as that automaton's pipeline of what the check gives.
use Rattle.std.proofs.Common.{◌≡◌, ℕ, zero, suc, ◌+◌, ◌<◌, List, [], ◌∷◌, length, map, Option, Some, None, get_or, slice_get, refl, sym, ap, ◌∙◌, subst, arith}
use Rattle.std.specs.Option.{option_map}
use Rattle.std.proofs.lemmas.List.FromFn.{get_or-map-range_with_len}
use Rattle.std.proofs.lemmas.Option.{slice_get-map}
use Rattle.hz_description_model.specs.Reservations.Alternatives.{alternatives_of}
use Rattle.hz_description_model.specs.Reservations.Automata.{list_in}
use Rattle.hz_pipeline_model.specs.Accepting.Fitting.{AskTheSame}
use Rattle.hz_pipeline_model.specs.Accepting.Replay.{alternatives_at, of_class}
use Rattle.hz_pipeline_model.specs.Accepting.Restricted.{of_pairs, class_in, restricted}
use Rattle.hz_description_model.specs.Reading.Descriptions.{Description, ClassItem}
use Rattle.hz_description_model.specs.Check.Places.{Known}
use Rattle.hz_description_model.specs.Check.CheckedParts.{AutomatonParts, ClassParts, automaton_names, automaton_count, automata_from, automata_of, statements_in, lists_of, class_parts}
use Rattle.hz_pipeline_model.specs.Pipelines.Pipelines.{class_of, pipeline_with}
use Rattle.hz_pipeline_model.specs.Reaching.Columns.{class_of_grids}
use Rattle.hz_pipeline_model.specs.Compiling.AutomatonPipelines.{automaton_at, lists_at, automaton_pipeline}
use Rattle.hz_pipeline_model.specs.Compiling.Moved.{IsMoved}

module _ (d : Description) where
  parts_from : (n : ℕ) (names : List (List ℕ)) (i : ℕ) (other : AutomatonParts) → i < length names → (get_or (automata_from d n names) i other).statements ≡ statements_in d (n + i)
  parts_from n [] i other low = absurd (omega arith)
  parts_from n (name ∷ names) zero other low = ap (statements_in d) (omega arith)
  parts_from n (name ∷ names) (suc i) other low = parts_from (suc n) names i other (omega arith) ∙ ap (statements_in d) (omega arith)

  -- the statements of an automaton
  pub statements_there : (a : ℕ) → a < automaton_count d → (automaton_at (automata_of d) a).statements ≡ statements_in d a
  statements_there a low = parts_from 0 (automaton_names d) a _ low ∙ ap (statements_in d) (omega arith)

  module _ (known : Known) (a : ℕ) (low : a < automaton_count d) where
    -- the list of a class in it
    pub list_there : (c : ClassItem) → get_or (lists_of d known c) a [] ≡ list_in a (alternatives_of known c.expression)
    list_there c = get_or-map-range_with_len (λ (automaton : ℕ). list_in automaton (alternatives_of known c.expression)) 0 (automaton_count d) a a [] low (omega arith)

    same_class : (o : Option ClassItem) → of_class (option_map (class_in a) (option_map (class_of known) o)) ≡ of_class (option_map class_of_grids (option_map (λ (p : ClassParts). get_or p.lists a []) (option_map (class_parts d known) o)))
    same_class None = refl
    same_class (Some c) = ap (map of_pairs) (sym (list_there c))

    same_alternatives : (k : ℕ) → alternatives_at (restricted a (pipeline_with d known)) k ≡ alternatives_at (automaton_pipeline d.options (automata_of d) (map (class_parts d known) d.classes) a) k
    same_alternatives k =
        ap of_class (slice_get-map (class_in a) (map (class_of known) d.classes) k ∙ ap (option_map (class_in a)) (slice_get-map (class_of known) d.classes k))
        ∙ (same_class (slice_get d.classes k)
        ∙ sym (ap of_class (slice_get-map class_of_grids (lists_at (map (class_parts d known) d.classes) a) k
        ∙ ap (option_map class_of_grids) (slice_get-map (λ (p : ClassParts). get_or p.lists a []) (map (class_parts d known) d.classes) k ∙ ap (option_map (λ (p : ClassParts). get_or p.lists a [])) (slice_get-map (class_parts d known) d.classes k)))))

    pub restricted_moved : IsMoved (λ k. k) (restricted a (pipeline_with d known)) (automaton_pipeline d.options (automata_of d) (map (class_parts d known) d.classes) a)
    restricted_moved = record { statements = subst (AskTheSame (statements_in d a)) (sym (statements_there a low)) (λ source pairs now. (λ h. h, λ h. h)); treatment = refl; alternatives = same_alternatives }
