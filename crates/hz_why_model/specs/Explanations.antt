-- What is reported of a trace after what `replay` answers. This profile, docs/RULES.md, 'Reasons'; docs/FORMATS.md, 'Explanations'.
use Rattle.std.specs.Prelude.{◌≡◌, ℕ, ◌-◌, ◌==◌, Bool, true, false, List, [], ◌∷◌, ◌++◌, codes, decimal, map, Option, Some, None, slice_get, if◌then◌else◌}
use Rattle.std.specs.List.{concat, flat_map}
use Rattle.std.specs.declared.cmp.Ordering.{Ordering}
use Rattle.hz_base_model.specs.Pairs.{Pair, ascending_by}
use Rattle.hz_description_model.specs.Reservations.Sets.{Statement}
use Rattle.hz_pipeline_model.specs.Accepting.Events.{Event, cycles_of}
use Rattle.hz_pipeline_model.specs.Accepting.Replay.{Treatment, first_fit, any_fit, Pipeline, alternatives_at, calendar}
use Rattle.hz_why_model.specs.Reasons.{Reason, taken, broken, reason_of, patterns_of, are_alike}
use Rattle.hz_why_model.specs.Holders.{Entry, entries, entry_at, entries_from}
use Rattle.hz_why_model.specs.Choices.{IsFirstChoice}
use Rattle.hz_why_model.specs.Waits.{IsLeastWait}
use Rattle.hz_why_model.specs.Pictures.{line_limit, picture}
use Rattle.hz_why_model.specs.Lists.{narrow, listed, alternatives_text}
use Rattle.hz_why_model.specs.Groups.{group_texts}
use Rattle.hz_why_model.specs.Takes.{takes_lines}
use Rattle.hz_why_model.specs.Ways.{ways_left, way_lines}

-- How a pipeline is spoken of: its units in their order, when two are the same and which comes first, and the names of units, classes
-- and set statements, these with their lines.
pub record Wording (U : Type 0) : Type 0 where
  pub units : List U
  pub same : U → U → Bool
  pub unit_cmp : U → U → Ordering
  pub unit : U → List ℕ
  pub class : ℕ → List ℕ
  pub statement : ℕ → List ℕ
  pub line : ℕ → ℕ

-- by which choices, under `ndfa`
abbrev pub choice_line : Treatment → List ℕ
choice_line first_fit = []
choice_line any_fit = codes "by one of the choices\n"

-- how many cycles later the class fits, by any of the choices
abbrev pub wait_line : Option ℕ → List ℕ
wait_line None = codes "fits in no later cycle\n"
wait_line (Some n) = if n == 1 then codes "fits 1 cycle later\n" else concat (codes "fits " ∷ decimal n ∷ codes " cycles later\n" ∷ [])

-- whether a unit is held in the present cycle, or planned for a later one
abbrev pub held_word : (present : Bool) → List ℕ
held_word true = codes " is held from line "
held_word false = codes " is planned by line "

-- what says that a unit is neither held nor planned, but asked for
abbrev pub asked_word : List ℕ
asked_word = codes " is asked for"

module _ {U : Type 0} (w : Wording U) (now : ℕ) (held : List (Entry U)) where
  -- a unit in a cycle, which is counted from the present one
  abbrev pub pair_words : Pair U → List (List ℕ)
  pair_words p = w.unit p.unit ∷ codes " in cycle " ∷ decimal (p.cycle - now) ∷ []

  -- who holds a pair, in the present cycle or in a later one
  abbrev pub holder_words : Option (Entry U) → List (List ℕ)
  holder_words None = []
  holder_words (Some e) = held_word (e.pair.cycle == now) ∷ decimal e.line ∷ codes ", " ∷ w.class e.class ∷ []

  -- a pattern with which a statement is broken
  abbrev pub pattern_words : List U → List (List ℕ)
  pattern_words [] = codes " without a pattern" ∷ []
  pattern_words (u ∷ us) = codes " with" ∷ flat_map (λ v. codes " " ∷ w.unit v ∷ []) (u ∷ us)

  -- what forbids an alternative
  abbrev pub reason_words : Reason U → List (List ℕ)
  reason_words (taken p) = pair_words p ++ holder_words (entry_at w.same held p)
  reason_words (broken n cycle unit pattern) = w.statement n ∷ codes " line " ∷ decimal (w.line n) ∷ codes ", " ∷ (pair_words (record { unit = unit; cycle = cycle }) ++ pattern_words pattern)

  -- who holds a pair, or that it is asked for
  abbrev pub part_words : Option (Entry U) → List (List ℕ)
  part_words None = asked_word ∷ []
  part_words (Some e) = holder_words (Some e)

  -- a unit of a statement that is broken in a cycle: who holds it, or that it is asked for
  abbrev pub part_text : (cycle : ℕ) → U → List ℕ
  part_text cycle u = concat (w.unit u ∷ part_words (entry_at w.same held (record { unit = u; cycle = cycle })))

  -- a pattern that a statement wants
  abbrev pub wanted_text : List U → List ℕ
  wanted_text [] = []
  wanted_text (u ∷ us) = w.unit u ++ flat_map (λ v. codes " " ++ w.unit v) us

  -- The line below what forbids an alternative: of a statement that misses a pattern, which it wants; of another that is broken, who
  -- holds each of the units, and which of them are asked for. None of a pair that stands reserved.
  abbrev pub detail_line : List (Statement U) → Reason U → List ℕ
  detail_line statements (taken p) = []
  detail_line statements (broken n cycle unit []) = concat (codes "  wants" ∷ listed (line_limit - 7) (codes " ") (codes "; ") (map wanted_text (patterns_of (slice_get statements n))) ∷ codes "\n" ∷ [])
  detail_line statements (broken n cycle unit (u ∷ us)) = concat (codes " " ∷ listed (line_limit - 1) (codes " ") (codes "; ") (map (part_text cycle) (unit ∷ u ∷ us)) ∷ codes "\n" ∷ [])

  -- the lines of the alternatives of these numbers, which are forbidden for one reason; none if nothing forbids them
  abbrev pub group_lines : List (Statement U) → (numbers : List ℕ) → Option (Reason U) → List ℕ
  group_lines statements numbers None = []
  group_lines statements numbers (Some reason) = concat (narrow (concat (alternatives_text numbers ∷ codes ": " ∷ reason_words reason)) ∷ codes "\n" ∷ detail_line statements reason ∷ [])

  -- the lines of alternatives by what forbids them, those that are forbidden for the same reason together
  abbrev pub alternative_lines : List (Statement U) → List (Option (Reason U)) → List ℕ
  alternative_lines statements reasons = group_texts (are_alike w.same) (group_lines statements) reasons

module _ {U : Type 0} (w : Wording U) (m : Pipeline U) (t : List Event) (lines choices : List ℕ) where
  -- what forbids each alternative of a class after the events, in their order
  abbrev pub reasons : (class : ℕ) → List (Option (Reason U))
  reasons k = map (reason_of w.same w.unit_cmp m.statements (calendar m 0 t choices) (cycles_of t)) (alternatives_at m k)

  -- the pairs of each alternative of a class, by cycle and then by unit
  abbrev pub pair_lists : (class : ℕ) → List (List (Pair U))
  pair_lists k = map (λ a. ascending_by w.unit_cmp a.pairs) (alternatives_at m k)

  -- the issues that still hold something
  abbrev pub ways_text : List ℕ
  ways_text = way_lines w.class (cycles_of t) (ways_left m t lines choices)

  -- the picture of what the events leave, with the pairs that are asked for from the present cycle on
  abbrev pub picture_after : (asked : List (Pair U)) → List ℕ
  picture_after asked = picture w.same w.unit (entries_from (cycles_of t) (entries m 0 t lines choices)) w.units asked

  -- after accepted events: which issues still hold something, and what
  abbrev pub left_text : List ℕ
  left_text = concat (choice_line m.treatment ∷ ways_text ∷ picture_after [] ∷ [])

  -- After events whose next issue, of this class, is refused: when it fits, what forbids each alternative, what each takes, which
  -- issues still hold something, and what.
  abbrev pub refusal_text : (class : ℕ) → Option ℕ → List ℕ
  refusal_text k wait = concat (
      choice_line m.treatment
      ∷ wait_line wait
      ∷ alternative_lines w (cycles_of t) (entries m 0 t lines choices) m.statements (reasons k)
      ∷ takes_lines w.same w.unit (pair_lists k)
      ∷ ways_text
      ∷ picture_after (flat_map (λ a. a.pairs) (alternatives_at m k))
      ∷ [])

-- what is reported of accepted events that stand on these lines
pub record TellsLeft {U : Type 0} (w : Wording U) (m : Pipeline U) (t : List Event) (lines text : List ℕ) : Type 0 where
  pub choices : List ℕ
  pub first : IsFirstChoice m t choices
  pub is : text ≡ left_text w m t lines choices

-- what is reported of accepted events that stand on these lines, after which an issue of the class is refused
pub record TellsRefusal {U : Type 0} (w : Wording U) (m : Pipeline U) (t : List Event) (lines : List ℕ) (class : ℕ) (text : List ℕ) : Type 0 where
  pub choices : List ℕ
  pub first : IsFirstChoice m t choices
  pub wait : Option ℕ
  pub waits : IsLeastWait m t class wait
  pub is : text ≡ refusal_text w m t lines choices class wait
