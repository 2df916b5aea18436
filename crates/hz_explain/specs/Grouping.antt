-- What is reported of alternatives by what forbids them, by what the code holds.
use Rattle.std.specs.Prelude.{ℕ, Bool, true, false, ◌==◌, ◌&&◌, List, [], ◌∷◌, ◌++◌, codes, Option, Some, None}
use Rattle.std.specs.List.{concat}
use Rattle.hz_description_model.specs.Reservations.Automata.{UnitPlace}
use Rattle.hz_why_model.specs.Explanations.{Wording}
use Rattle.hz_why_model.specs.Groups.{group_texts}
use Rattle.hz_why_model.specs.Lists.{narrow, alternatives_text}
use Rattle.hz_why_model.specs.Reasons.{same_place, same_pattern}
use Rattle.hz_reasons.specs.Plans.{unit_of}
use Rattle.hz_explain.specs.Telling.{pattern_in, unit_in, reason_reported}
use Rattle.hz_explain.specs.Detailing.{detail_reported}
use Rattle.hz_reasons.specs.declared.holders.Holder.{Holder}
use Rattle.hz_reasons.specs.declared.plan.AutomatonUnit.{AutomatonUnit}
use Rattle.hz_reasons.specs.declared.plan.Place.{Place}
use Rattle.hz_reasons.specs.declared.plan.Plan.{Plan}
use Rattle.hz_reasons.specs.declared.plan.SetStatement.{SetStatement}
use Rattle.hz_reasons.specs.declared.reasons.Break.{Break}
use Rattle.hz_reasons.specs.declared.reasons.Reason.{Reason}
use Rattle.hz_reasons.specs.declared.reasons.Reason.TheVariants.{Taken, Broken}

-- ---- which alternatives are forbidden for the same reason

-- whether two units are the same
abbrev pub same_unit : AutomatonUnit → AutomatonUnit → Bool
same_unit u v = same_place (unit_of u) (unit_of v)

-- whether two pairs are the same
abbrev pub same_place_in : Place → Place → Bool
same_place_in p q = same_unit (unit_in p) (unit_in q) && p.cycle == q.cycle

module _ (sets : List SetStatement) where
  -- whether two statements are broken in the same way
  abbrev pub same_break : Break → Break → Bool
  same_break b c = b.statement == c.statement && (b.cycle == c.cycle && (same_unit b.unit c.unit && same_pattern same_unit (pattern_in sets b) (pattern_in sets c)))

  -- whether two reasons are the same
  abbrev pub same_reason_in : Reason → Reason → Bool
  same_reason_in (Taken p) (Taken q) = same_place_in p q
  same_reason_in (Taken p) (Broken c) = false
  same_reason_in (Broken b) (Taken q) = false
  same_reason_in (Broken b) (Broken c) = same_break b c

  -- whether two alternatives are forbidden for the same reason; for none both, if they are not forbidden
  abbrev pub alike_in : Option Reason → Option Reason → Bool
  alike_in None None = true
  alike_in None (Some r) = false
  alike_in (Some r) None = false
  alike_in (Some r) (Some s) = same_reason_in r s

-- ---- lines

module _ (w : Wording UnitPlace) (plan : Plan) (issues : List Holder) where
  -- the line of the alternatives of these numbers, before it is cut
  abbrev pub line_reported : (numbers : List ℕ) → Reason → List ℕ
  line_reported numbers reason = alternatives_text numbers ++ (codes ": " ++ reason_reported w plan issues reason)

  -- the lines of the alternatives of these numbers, which are forbidden for one reason; none if nothing forbids them
  abbrev pub group_reported : (numbers : List ℕ) → Option Reason → List ℕ
  group_reported numbers None = []
  group_reported numbers (Some reason) = concat (narrow (line_reported numbers reason) ∷ codes "\n" ∷ detail_reported w plan issues reason ∷ [])

  -- the lines of alternatives by what forbids them
  abbrev pub alternatives_reported : List (Option Reason) → List ℕ
  alternatives_reported reasons = group_texts (alike_in plan.sets.items) group_reported reasons
