-- The refusal of an automaton that has too many states.
use Rattle.std.proofs.Common.{◌≡◌, ℕ, List, map, Some, Result, Ok, Err, refl, sym, subst}
use Rattle.std.specs.Prelude.{IfOk}
use Rattle.std.specs.Borrow.{Bor}
use Rattle.hz_auto.specs.Faults.{count_of}
use Rattle.hz_auto.specs.Machines.{IsFaultOf}
use Rattle.hz_auto.specs.declared.fault.AutoFault.{AutoFault}
use Rattle.hz_auto.specs.declared.fault.AutoFault.TheVariants as auto_fault
use Rattle.hz_pipeline_model.specs.Compiling.Compiled.{IsFirstPast}
use Rattle.hz_pipeline_model.specs.Reaching.Counts.{Count}
use Rattle.hz_checked.specs.Shape.{automaton_of, class_of}
use Rattle.hz_checked.specs.declared.checked.Checked.{Checked}
use Rattle.hz_mdread.specs.Shape.{options as options_of}
use Rattle.hz_front.specs.Refusals.{IsJudged}
use Rattle.hz_front.specs.declared.refusal.Refusal.{Refusal}
use Rattle.hz_tool.proofs.ReportedStates.{IsStatesReported}
use Rattle.hz_tool.specs.Refusing.{refuse_states, limited}

-- an automaton past its limit is reported by its name, or memory ran out
pub states_reported : {E : Type 0} (file : Bor (List ℕ)) (automaton : List ℕ) (copied : Result (List ℕ) E) → IfOk copied (λ name. name ≡ automaton) → IsStatesReported file.now automaton (refuse_states file copied)
states_reported file automaton (Ok name) same = (refl, same)
states_reported file automaton (Err refused) h = tt

-- an automaton past its limit is one of texts that were judged
pub states_judged : {E : Type 0} (file : Bor (List ℕ)) (copied : Result (List ℕ) E) (reported : Refusal) → reported ≡ refuse_states file copied → IsJudged reported
states_judged file (Ok name) reported is = subst IsJudged (sym is) tt
states_judged file (Err refused) reported is = subst IsJudged (sym is) tt

same_number : (a b : ℕ) → Some a ≡ Some b → a ≡ b
same_number a b e = cc

-- the automaton that a fault names is the first that has a count above its limit
pub limited_past : (checked : Checked) (fault : AutoFault) (a : ℕ) → IsFaultOf checked fault → limited fault ≡ Some a → (what : Count) × IsFirstPast (options_of checked.options) (map automaton_of checked.automata.items) (map class_of checked.classes.items) a what
limited_past checked (auto_fault.Limit automaton what) a h e =
    (count_of what, subst (λ (n : ℕ). IsFirstPast (options_of checked.options) (map automaton_of checked.automata.items) (map class_of checked.classes.items) n (count_of what)) (same_number automaton a e) h)
limited_past checked auto_fault.NoMemory a h e = absurd (cc)
