-- What is made of an expression that has few and short alternatives.
use Rattle.std.proofs.Common.{◌≡◌, ℕ, ◌<◌, ◌≤◌, nat_lt, Bool, true, false, cond, List, length, Option, Some, None, Result, Ok, Err, IfOk, refl, sym, ◌∙◌, subst}
use Rattle.std.proofs.lemmas.Bool.{le-ltb, ltb-true, ltb-false}
use Rattle.std.specs.declared.alloc.Global.{Global}
use Rattle.std.specs.declared.vec.Vec.{Vec}
use Rattle.hz_altern.specs.declared.alternative.Alt.{Alt}
use Rattle.hz_altern.specs.declared.fault.AlternFault.{AlternFault}
use Rattle.hz_altern.specs.declared.fault.AlternFault.TheVariants.{AlternativesLimit, CyclesLimit, SizeLimit, NoMemory}
use Rattle.hz_altern.specs.Answers.{Expands}
use Rattle.hz_altern.specs.Shapes.{alternatives}
use Rattle.hz_description_model.specs.Reservations.Alternatives.{Alternative}
use Rattle.hz_description_model.specs.Reservations.AlternativeLists.{AreSound, Excess, excess_of, too_many, too_long, too_large, greatest_length}
use Rattle.hz_description_model.specs.Reservations.Automata.{UnitPlace, total_size}
use Rattle.hz_base_model.specs.Limits.{cycle_limit}
use Rattle.hz_description_model.specs.Reservations.Limits.{alternative_limit}
use Rattle.hz_check_reservations.specs.Answers.{IsMadeIfListed, Makes}

module _ (most : ℕ) (all : List (Alternative UnitPlace)) (few : length all ≤ alternative_limit) (short : greatest_length all ≤ cycle_limit) where
  -- the one limit that such alternatives can pass is that of sizes
  by_size : excess_of most all ≡ cond (nat_lt most (total_size all)) (Some too_large) None
  by_size = rw (le-ltb alternative_limit (length all) few, le-ltb cycle_limit (greatest_length all) short) refl

  over : (t : Bool) → nat_lt most (total_size all) ≡ t → (e : Excess) → cond t (Some too_large) None ≡ Some e → most < total_size all
  over true is e passes = ltb-true most (total_size all) is
  over false is e passes = absurd (cc)

  passed : (e : Excess) → excess_of most all ≡ Some e → most < total_size all
  passed e is = over (nat_lt most (total_size all)) refl e (sym by_size ∙ is)

  under : (t : Bool) → nat_lt most (total_size all) ≡ t → cond t (Some too_large) None ≡ None → total_size all ≤ most
  under true is none = absurd (cc)
  under false is none = ltb-false most (total_size all) is

  kept : excess_of most all ≡ None → total_size all ≤ most
  kept is = under (nat_lt most (total_size all)) refl (sym by_size ∙ is)

  pub made_reported : {E : Type 0} (listed : Result (Vec Alt Global) AlternFault) (made : Result (Option (Vec Alt Global)) E)
      → Expands most all listed → IfOk listed (λ alts. AreSound (alternatives alts.items)) → IsMadeIfListed listed made → IfOk made (Makes most all)
  made_reported (Ok alts) made expands sound is = subst (λ m. IfOk m (Makes most all)) (sym is) (expands.1, sound, kept expands.0)
  made_reported (Err AlternativesLimit) made expands sound is = subst (λ m. IfOk m (Makes most all)) (sym is) (passed too_many expands)
  made_reported (Err CyclesLimit) made expands sound is = subst (λ m. IfOk m (Makes most all)) (sym is) (passed too_long expands)
  made_reported (Err SizeLimit) made expands sound is = subst (λ m. IfOk m (Makes most all)) (sym is) (passed too_large expands)
  made_reported (Err NoMemory) (Ok alts) expands sound is = absurd (let e : false ≡ true = is in cc)
  made_reported (Err NoMemory) (Err e) expands sound is = tt
