-- The machine of a checked description.
use Rattle.std.proofs.Common.{◌≡◌, ℕ, suc, List, [], ◌∷◌, length, map, refl, sym, ap, ◌∙◌, subst}
use Rattle.std.specs.Prelude.{slice_index_or}
use Rattle.std.proofs.lemmas.List.{length-map}
use Rattle.hz_pipeline_model.specs.Traces.TraceNames.{TraceNames}
use Rattle.hz_answer_model.specs.Answers.{ReplaysTrace, TellsLimit}
use Rattle.hz_answer_model.specs.TableAnswers.{WalksTrace}
use Rattle.hz_answer_model.proofs.WalkLaws.{machine_names, map_twice, reported_is_held, traced_both}
use Rattle.hz_front_model.specs.Texts.{states_line}
use Rattle.hz_pipeline_model.specs.Compiling.Compiled.{IsCompiled, IsFirstPast, Report as Reported}
use Rattle.hz_pipeline_model.proofs.Compiling.DescriptionLaws.{machine_accepts, all_keep, first_past}
use Rattle.hz_checked.specs.declared.checked.Checked.{Checked}
use Rattle.hz_check.specs.Checked.{IsCheckedOf}
use Rattle.hz_checked.specs.Shape.{automaton_of, class_of}
use Rattle.hz_description_model.specs.Check.CheckedParts.{AutomatonParts, ClassParts, automaton_names, automata_from, automata_of, class_parts}
use Rattle.hz_description_model.specs.Check.Places.{Known, class_names}
use Rattle.hz_mdread.specs.Shape.{options as options_of}
use Rattle.hz_description_model.specs.Reading.Descriptions.{Description, Options}
use Rattle.hz_pipeline_model.specs.Reaching.Counts.{Count}
use Rattle.hz_pipeline_model.specs.Tables.Machines.{Machine}
use Rattle.hz_front.specs.Refusals.{Agrees}
use Rattle.hz_tool.proofs.ReportedStates.{IsStatesReported}
use Rattle.hz_tool.specs.Machines.{IsMachineFor}
use Rattle.hz_front.specs.declared.refusal.Refusal.{Refusal}
use Rattle.hz_front.specs.declared.refusal.Refusal.TheVariants.{Automaton, Memory}

-- the names of its classes
pub classes_named : {d : Description} {known : Known} {m : Machine} → IsMachineFor d known m → m.classes ≡ class_names d
classes_named is = ap (λ (names : TraceNames). names.classes) is.names

-- as many classes
pub classes_count : (d : Description) (known : Known) (m : Machine) → IsMachineFor d known m → length m.classes ≡ length d.classes
classes_count d known m is = ap length (classes_named is) ∙ length-map d.classes (λ c. c.name)

-- a walk of the machine of a description is a replay by it
pub walk_replays : (d : Description) (known : Known) (m : Machine) → IsMachineFor d known m → (trace traced : List ℕ) (s : ℕ) (t : List ℕ) → WalksTrace trace traced m s t → ReplaysTrace trace traced d known s t
walk_replays d known m is trace traced s t = (traced_both d known m is.names is.walks is.tells trace traced s t).0

module _ (d : Description) (checked : Checked) (is : IsCheckedOf d checked) where
  abbrev parts : List ClassParts
  parts = map (class_parts d is.known) d.classes

  -- what is compiled of what is held is compiled of the description
  pub compiled_of : (m : Machine) (reports : List Reported) → IsCompiled (options_of checked.options) (map automaton_of checked.automata.items) (map class_of checked.classes.items) m reports → IsCompiled d.options (automata_of d) parts m reports
  compiled_of m reports h =
      subst (λ (o : Options). IsCompiled o (automata_of d) parts m reports) is.options
      (subst (λ as'. IsCompiled (options_of checked.options) as' parts m reports) is.automata
      (subst (λ cs. IsCompiled (options_of checked.options) (map automaton_of checked.automata.items) cs m reports) is.classes h))

  first_of : (a : ℕ) (kind : Count) → IsFirstPast (options_of checked.options) (map automaton_of checked.automata.items) (map class_of checked.classes.items) a kind → IsFirstPast d.options (automata_of d) parts a kind
  first_of a kind h =
      subst (λ (o : Options). IsFirstPast o (automata_of d) parts a kind) is.options
      (subst (λ as'. IsFirstPast (options_of checked.options) as' parts a kind) is.automata
      (subst (λ cs. IsFirstPast (options_of checked.options) (map automaton_of checked.automata.items) cs a kind) is.classes h))

  -- the machine is the description's
  pub machine_for : (m : Machine) (reports : List Reported) → IsCompiled (options_of checked.options) (map automaton_of checked.automata.items) (map class_of checked.classes.items) m reports → IsMachineFor d is.known m
  machine_for m reports h =
      let here = compiled_of m reports h in
      record {
        keeps = all_keep d is.known m reports here;
        names = machine_names d is.known m reports here;
        walks = λ t all. machine_accepts d is.known m reports here t all is.sound;
        tells = reported_is_held d is.known m reports here is.sound;
      }

  names_from : (n : ℕ) (names : List (List ℕ)) → map (λ (p : AutomatonParts). p.name) (automata_from d n names) ≡ names
  names_from n [] = refl
  names_from n (name ∷ names) = ap (λ (ns : List (List ℕ)). name ∷ ns) (names_from (suc n) names)

  names_held : map (λ a. a.name) checked.automata.items ≡ automaton_names d
  names_held =
      sym (map_twice (λ (p : AutomatonParts). p.name) automaton_of checked.automata.items)
      ∙ (ap (map (λ (p : AutomatonParts). p.name)) is.automata ∙ names_from 0 (automaton_names d))

  -- a limit of its states is reported
  pub limit_reported : (name : List ℕ) (a : ℕ) (kind : Count) → IsFirstPast (options_of checked.options) (map automaton_of checked.automata.items) (map class_of checked.classes.items) a kind
      → (reported : Refusal) → IsStatesReported name (slice_index_or (map (λ x. x.name) checked.automata.items) a []) reported → Agrees (TellsLimit name d is.known) reported
  limit_reported name a kind first (Automaton file at) (same, named) =
      (a, first_past d is.known a kind (first_of a kind first), (refl, ap (λ (f : List ℕ). states_line f at) same ∙ ap (states_line name) (named ∙ ap (λ ns. slice_index_or ns a []) names_held)))
  limit_reported name a kind first Memory h = tt
  limit_reported name a kind first _ h = absurd h
