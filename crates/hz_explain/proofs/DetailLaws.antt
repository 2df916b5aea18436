-- What is reported below a statement that is broken is what the definitions say.
use Rattle.std.proofs.Common.{◌≡◌, ℕ, zero, suc, ◌+◌, ◌<◌, ◌≤◌, ⊎_elim, Bool, false, List, [], ◌∷◌, ◌++◌, map, Option, Some, None, refl, sym, ap, ◌∙◌, arith}
use Rattle.std.specs.Prelude.{◌==◌, ◌-◌, codes, decimal, slice_get, slice_index_or}
use Rattle.std.specs.List.{concat, flat_map}
use Rattle.std.specs.Option.{option_map}
use Rattle.std.specs.declared.alloc.Global.{Global}
use Rattle.std.specs.declared.vec.Vec.{Vec}
use Rattle.std.proofs.Math.Path.{fun_ext}
use Rattle.std.proofs.lemmas.Bool.{cases_lt, eqb-true, eq-eqb, false_from_ne_true}
use Rattle.std.proofs.lemmas.List.{append-nil}
use Rattle.std.proofs.lemmas.Option.{slice_get-map}
use Rattle.hz_base_model.specs.Pairs.{Pair}
use Rattle.hz_description_model.specs.Reservations.Automata.{UnitPlace}
use Rattle.hz_description_model.specs.Reservations.Sets.{Statement}
use Rattle.hz_why_model.specs.Explanations.{Wording, held_word, asked_word, part_words, part_text, wanted_text, detail_line}
use Rattle.hz_why_model.specs.Holders.{Entry, entry_at}
use Rattle.hz_why_model.specs.Lists.{listed}
use Rattle.hz_why_model.specs.Pictures.{line_limit}
use Rattle.hz_why_model.specs.Reasons.{broken, patterns_of, same_place}
use Rattle.hz_reasons.specs.Breaking.{reason_at, pattern_at}
use Rattle.hz_reasons.specs.Holding.{entry_with, pair_in}
use Rattle.hz_reasons.specs.Plans.{unit_of, statement_of}
use Rattle.hz_explain.specs.Detailing.{standing_reported, wanted_reported, part_reported, broken_with_reported, detail_reported}
use Rattle.hz_explain.specs.Telling.{holder_in, pattern_or_none, pattern_numbered, patterns_or_none, pattern_in, units_reported}
use Rattle.hz_reasons.specs.declared.holders.Holder.{Holder}
use Rattle.hz_reasons.specs.declared.plan.AutomatonUnit.{AutomatonUnit}
use Rattle.hz_reasons.specs.declared.plan.Plan.{Plan}
use Rattle.hz_reasons.specs.declared.plan.SetStatement.{SetStatement}
use Rattle.hz_reasons.specs.declared.reasons.Break.{Break}
use Rattle.hz_reasons.specs.declared.reasons.Reason.{Reason}
use Rattle.hz_reasons.specs.declared.reasons.Reason.TheVariants.{Taken, Broken}

-- ---- patterns

abbrev or_nothing : Option (List UnitPlace) → List UnitPlace
or_nothing None = []
or_nothing (Some us) = us

-- the units of patterns
abbrev units_in : List (Vec AutomatonUnit Global) → List (List UnitPlace)
units_in patterns = map (λ pattern. map unit_of pattern.items) patterns

pattern_by : (o : Option (Vec AutomatonUnit Global)) → map unit_of (pattern_or_none o) ≡ or_nothing (option_map (λ pattern. map unit_of pattern.items) o)
pattern_by None = refl
pattern_by (Some pattern) = refl

or_nothing_at : (patterns : List (List UnitPlace)) (n : ℕ) → or_nothing (slice_get patterns n) ≡ slice_index_or patterns n []
or_nothing_at [] n = refl
or_nothing_at (us ∷ patterns) zero = refl
or_nothing_at (us ∷ patterns) (suc n) = or_nothing_at patterns n

numbered_is : (patterns : List (Vec AutomatonUnit Global)) (number : Option ℕ) → map unit_of (pattern_numbered patterns number) ≡ pattern_at (units_in patterns) number
numbered_is patterns None = refl
numbered_is patterns (Some n) =
    pattern_by (slice_get patterns n) ∙ ap or_nothing (sym (slice_get-map (λ (pattern : Vec AutomatonUnit Global). map unit_of pattern.items) patterns n))
    ∙ or_nothing_at (units_in patterns) n

of_set : (o : Option SetStatement) → units_in (patterns_or_none o) ≡ patterns_of (option_map statement_of o)
of_set None = refl
of_set (Some s) = refl

module _ (sets : List SetStatement) (statements : List (Statement UnitPlace)) (same : map statement_of sets ≡ statements) where
  statement_is : (n : ℕ) → option_map statement_of (slice_get sets n) ≡ slice_get statements n
  statement_is n = sym (slice_get-map statement_of sets n) ∙ ap (λ (ss : List (Statement UnitPlace)). slice_get ss n) same

  patterns_are : (n : ℕ) → units_in (patterns_or_none (slice_get sets n)) ≡ patterns_of (slice_get statements n)
  patterns_are n = of_set (slice_get sets n) ∙ ap patterns_of (statement_is n)

  pattern_is : (b : Break) → map unit_of (pattern_in sets b) ≡ pattern_at (patterns_of (slice_get statements b.statement)) b.pattern
  pattern_is b =
      numbered_is (patterns_or_none (slice_get sets b.statement)) b.pattern
      ∙ ap (λ (ps : List (List UnitPlace)). pattern_at ps b.pattern) (patterns_are b.statement)

-- ---- who holds a unit

-- a unit in a cycle that is counted from the present one
abbrev in_cycle : (now : ℕ) → UnitPlace → (cycle : ℕ) → Pair UnitPlace
in_cycle now u cycle = record { unit = u; cycle = now + cycle }

differ : (a b : ℕ) → (a ≡ b → ⊥) → (a == b) ≡ false
differ a b apart = false_from_ne_true _ (λ e. apart (eqb-true a b e))

-- a cycle is the present one where it is cycle 0 from there
at_present : (now cycle : ℕ) → (now + cycle == now) ≡ (cycle == 0)
at_present now cycle = ⊎_elim
    (λ (past : 0 < cycle). differ (now + cycle) now (λ e. omega arith) ∙ sym (differ cycle 0 (λ e. omega arith)))
    (λ (none : cycle ≤ 0). eq-eqb (now + cycle) now (omega arith) ∙ sym (eq-eqb cycle 0 (omega arith)))
    (cases_lt 0 cycle)

module _ (w : Wording UnitPlace) (now : ℕ) (held : List (Entry UnitPlace)) where
  standing_is : (u : AutomatonUnit) (cycle : ℕ) (o : Option Holder) → concat (part_words w now held (option_map (entry_with (pair_in now u cycle)) o)) ≡ standing_reported w cycle o
  standing_is u cycle None = append-nil asked_word
  standing_is u cycle (Some h) = ap (λ (present : Bool). concat (held_word present ∷ decimal h.line ∷ codes ", " ∷ w.class h.class ∷ [])) (at_present now cycle)

  units_are : (us : List AutomatonUnit) → flat_map (λ v. codes " " ++ w.unit v) (map unit_of us) ≡ units_reported w us
  units_are [] = refl
  units_are (u ∷ us) = ap (λ (t : List ℕ). (codes " " ++ w.unit (unit_of u)) ++ t) (units_are us)

  wanted_is : (us : List AutomatonUnit) → wanted_text w now held (map unit_of us) ≡ wanted_reported w us
  wanted_is [] = refl
  wanted_is (u ∷ us) = ap (λ (t : List ℕ). w.unit (unit_of u) ++ t) (units_are us)

  wanted_are : (patterns : List (Vec AutomatonUnit Global)) → map (wanted_text w now held) (units_in patterns) ≡ map (λ pattern. wanted_reported w pattern.items) patterns
  wanted_are [] = refl
  wanted_are (p ∷ ps) =
      ap (λ (t : List ℕ). t ∷ map (wanted_text w now held) (units_in ps)) (wanted_is p.items)
      ∙ ap (λ (ts : List (List ℕ)). wanted_reported w p.items ∷ ts) (wanted_are ps)

  module _ (plan : Plan) (issues : List Holder) (statements : List (Statement UnitPlace)) (sets : map statement_of plan.sets.items ≡ statements)
      (holders : (u : UnitPlace) (cycle : ℕ) → option_map (entry_with (in_cycle now u cycle)) (holder_in plan issues u cycle) ≡ entry_at same_place held (in_cycle now u cycle))
      (same : (a b : UnitPlace) → w.same a b ≡ same_place a b) where
    at_same : (p : Pair UnitPlace) → entry_at w.same held p ≡ entry_at same_place held p
    at_same p = ap (λ (s : UnitPlace → UnitPlace → Bool). entry_at s held p) (fun_ext (λ a. fun_ext (λ b. same a b)))

    part_is : (cycle : ℕ) (u : AutomatonUnit) → part_text w now held (now + cycle) (unit_of u) ≡ part_reported w plan issues cycle u
    part_is cycle u =
        ap (λ (o : Option (Entry UnitPlace)). w.unit (unit_of u) ++ concat (part_words w now held o)) (at_same (pair_in now u cycle) ∙ sym (holders (unit_of u) cycle))
        ∙ ap (λ (t : List ℕ). w.unit (unit_of u) ++ t) (standing_is u cycle (holder_in plan issues (unit_of u) cycle))

    parts_are : (cycle : ℕ) (us : List AutomatonUnit) → map (part_text w now held (now + cycle)) (map unit_of us) ≡ map (part_reported w plan issues cycle) us
    parts_are cycle [] = refl
    parts_are cycle (u ∷ us) =
        ap (λ (t : List ℕ). t ∷ map (part_text w now held (now + cycle)) (map unit_of us)) (part_is cycle u)
        ∙ ap (λ (ts : List (List ℕ)). part_reported w plan issues cycle u ∷ ts) (parts_are cycle us)

    by_pattern : (b : Break) (us : List AutomatonUnit) → detail_line w now held statements (broken b.statement (now + b.cycle) (unit_of b.unit) (map unit_of us)) ≡ broken_with_reported w plan issues b us
    by_pattern b [] =
        let patterns : List (Vec AutomatonUnit Global) = patterns_or_none (slice_get plan.sets.items b.statement) in
        ap (λ (ts : List (List ℕ)). concat (codes "  wants" ∷ listed (line_limit - 7) (codes " ") (codes "; ") ts ∷ codes "\n" ∷ []))
        (ap (map (wanted_text w now held)) (sym (patterns_are plan.sets.items statements sets b.statement)) ∙ wanted_are patterns)
    by_pattern b (u ∷ us) =
        ap (λ (ts : List (List ℕ)). concat (codes " " ∷ listed (line_limit - 1) (codes " ") (codes "; ") ts ∷ codes "\n" ∷ [])) (parts_are b.cycle (b.unit ∷ u ∷ us))

    pub detail_is : (r : Reason) → detail_line w now held statements (reason_at statements now r) ≡ detail_reported w plan issues r
    detail_is (Taken p) = refl
    detail_is (Broken b) =
        ap (λ (us : List UnitPlace). detail_line w now held statements (broken b.statement (now + b.cycle) (unit_of b.unit) us)) (sym (pattern_is plan.sets.items statements sets b))
        ∙ by_pattern b (pattern_in plan.sets.items b)
