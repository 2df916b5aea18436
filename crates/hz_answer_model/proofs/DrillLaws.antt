-- The drill of a description: there is one text of it, and one where there are tables.
use Rattle.std.proofs.Common.{◌≡◌, ◌⊎◌, ⊎_elim, inl, inr, ℕ, List, [], map, length, Option, Some, None, refl, sym, ap, ◌∙◌, subst}
use Rattle.std.specs.Prelude.{IsSome}
use Rattle.std.proofs.lemmas.Option.{same_Some}
use Rattle.hz_pipeline_model.specs.Accepting.Events.{Event, issues_of, cycles_of}
use Rattle.hz_pipeline_model.specs.Accepting.Replay.{Accepted, start}
use Rattle.hz_pipeline_model.proofs.Accepting.AcceptanceLaws.{accepted_or_refused, advance_accepted}
use Rattle.hz_pipeline_model.proofs.Accepting.PlayLaws.{accepted_or_first_refused}
use Rattle.hz_pipeline_model.proofs.Accepting.ReplayLaws.{accepted_from_runs}
use Rattle.hz_pipeline_model.proofs.Accepting.Rows.{same_unit, places_tell}
use Rattle.hz_pipeline_model.proofs.Compiling.DescriptionLaws.{machine_accepts}
use Rattle.hz_description_model.specs.Check.CheckFaults.{IsSound}
use Rattle.hz_description_model.specs.Check.CheckedParts.{automata_of, class_parts}
use Rattle.hz_description_model.specs.Check.Places.{Known}
use Rattle.hz_pipeline_model.specs.Traces.Drills.{Drawn}
use Rattle.hz_pipeline_model.proofs.Traces.DrillLaws.{one_drawn, some_from, draws_accepted, draws_of_class}
use Rattle.hz_description_model.specs.Reading.Descriptions.{Description}
use Rattle.hz_pipeline_model.specs.Pipelines.Pipelines.{pipeline_with}
use Rattle.hz_pipeline_model.proofs.Single.MachineLaws.{one_machine}
use Rattle.hz_pipeline_model.specs.Tables.Machines.{Machine, machine_walk}
use Rattle.hz_tabtext_model.proofs.MachineLaws.{text_machine}
use Rattle.hz_answer_model.specs.DrillAnswers.{IsMachineOf, IsDrillOf}
use Rattle.hz_answer_model.specs.TableAnswers.{IsTablesOf}
use Rattle.hz_answer_model.specs.Texts.{drill_text}

module _ (d : Description) (known : Known) where
  -- the machine of a description is one
  pub same_machine : (m o : Machine) → IsMachineOf d known m → IsMachineOf d known o → m ≡ o
  same_machine m o is also = one_machine d.options (automata_of d) (map (class_parts d known) d.classes) m o is.reports also.reports is.is_machine also.is_machine is.compiled also.compiled

  -- and the tables of a description have it
  pub machine_of_tables : (text : List ℕ) (is : IsTablesOf d known text) → IsMachineOf d known is.machine
  machine_of_tables text is = record { reports = is.reports; is_machine = text_machine text is.machine is.stands; compiled = is.compiled }

  -- ---- drawn traces are accepted

  none_accepted : Accepted (pipeline_with d known) []
  none_accepted = accepted_from_runs (pipeline_with d known) [] (start, refl)

  decided : (t : List Event) → Accepted (pipeline_with d known) t ⊎ (Accepted (pipeline_with d known) t → ⊥)
  decided t = ⊎_elim
      (λ (accepted : Accepted (pipeline_with d known) t). inl accepted)
      (λ first. inr (λ accepted. accepted_or_refused (pipeline_with d known) t first.0 accepted first.1))
      (accepted_or_first_refused same_unit places_tell (pipeline_with d known) t)

  pub drawn_accepted : (number turns : ℕ) (t : List Event) → Drawn (Accepted (pipeline_with d known)) (length d.classes) number turns t → Accepted (pipeline_with d known) t
  drawn_accepted number turns t is = draws_accepted (Accepted (pipeline_with d known)) (λ s. advance_accepted (pipeline_with d known) s 1) (length d.classes) [] none_accepted number turns t is

  -- ---- one text

  pub one_drill_text : (number turns : ℕ) (s t : List ℕ) → IsDrillOf d known number turns s → IsDrillOf d known number turns t → s ≡ t
  one_drill_text number turns s t one two =
      let events : one.events ≡ two.events = one_drawn (Accepted (pipeline_with d known)) (length d.classes) number turns one.events two.events one.drawn two.drawn in
      let machine : one.machine ≡ two.machine = same_machine one.machine two.machine one.compiled two.compiled in
      let states : one.states ≡ two.states = same_Some one.states two.states
      (sym one.left ∙ (ap (λ (m : Machine). machine_walk m one.events) machine ∙ (ap (machine_walk two.machine) events ∙ two.left))) in
      one.tells
      ∙ (ap (λ (es : List Event). drill_text turns (issues_of es) (cycles_of es) one.states) events
      ∙ (ap (drill_text turns (issues_of two.events) (cycles_of two.events)) states ∙ sym two.tells))

  -- ---- some text

  pub some_drill : (number turns : ℕ) (tables : List ℕ) → IsSound d known → IsTablesOf d known tables → (text : List ℕ) × IsDrillOf d known number turns text
  some_drill number turns tables sound is = by_walk (machine_walk is.machine t) refl
    where
      drawn : (t : List Event) × Drawn (Accepted (pipeline_with d known)) (length d.classes) number turns t
      drawn = some_from (Accepted (pipeline_with d known)) decided (length d.classes) [] number turns

      t : List Event
      t = drawn.0

      walked : IsSome (machine_walk is.machine t)
      walked = (machine_accepts d known is.machine is.reports is.compiled t (draws_of_class (Accepted (pipeline_with d known)) (length d.classes) [] number turns t drawn.1) sound).1 (drawn_accepted number turns t drawn.1)

      by_walk : (o : Option (List ℕ)) → machine_walk is.machine t ≡ o → (text : List ℕ) × IsDrillOf d known number turns text
      by_walk None e = absurd (let bad = subst IsSome e walked in cc)
      by_walk (Some states) e = (
        drill_text turns (issues_of t) (cycles_of t) states,
        record { events = t; drawn = drawn.1; machine = is.machine; compiled = machine_of_tables tables is; states = states; left = e; tells = refl },
      )
