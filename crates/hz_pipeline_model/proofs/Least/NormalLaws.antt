-- There is one normal table for what is walked from the start: where states are apart, what is walked says which lists of
-- columns end together.
use Rattle.std.proofs.Common.{◌≡◌, ◌≢◌, ⊎_elim, ℕ, List, [], ◌++◌, Option, Some, None, refl, sym, ap, ◌∙◌}
use Rattle.std.specs.Prelude.{is_some}
use Rattle.std.proofs.lemmas.Bool.{cases_eq}
use Rattle.hz_pipeline_model.specs.Tables.Tables.{Table, walk, IsTable}
use Rattle.hz_pipeline_model.specs.Tables.Apart.{AllApart, WalkTheSame}
use Rattle.hz_pipeline_model.proofs.Tables.TableLaws.{walk-append}
use Rattle.hz_pipeline_model.specs.Least.Normal.{IsNormal}
use Rattle.hz_pipeline_model.proofs.Least.NumberedLaws.{MeetAlso, within, walks_turned, numbered_one}

-- after a list of columns both tables walk the same
beyond : (one other : Table) → WalkTheSame one other → (v x : List ℕ) (state : ℕ) → walk one (Some 0) v ≡ Some state → is_some (walk other (walk other (Some 0) v) x) ≡ is_some (walk one (Some state) x)
beyond one other walks v x state e =
    ap is_some (sym (walk-append other (Some 0) v x))
    ∙ (sym (walks.same (v ++ x))
    ∙ (ap is_some (walk-append one (Some 0) v x)
    ∙ ap (λ (from : Option ℕ). is_some (walk one from x)) e))

-- lists of columns that end in one state end together in a table whose states are apart
meet_apart : (columns : ℕ) (one other : Table) → IsTable other columns → AllApart other → WalkTheSame one other → MeetAlso one other
meet_apart columns one other is all walks = record { meet = λ v w state e e'. by_ends v w state e e' (walk other (Some 0) v) (walk other (Some 0) w) refl refl }
  where
    by_ends : (v w : List ℕ) (state : ℕ) → walk one (Some 0) v ≡ Some state → walk one (Some 0) w ≡ Some state → (o p : Option ℕ) → walk other (Some 0) v ≡ o → walk other (Some 0) w ≡ p → walk other (Some 0) v ≡ walk other (Some 0) w
    by_ends v w state e e' None p at at' = let none = sym (ap (λ (from : Option ℕ). is_some (walk other from [])) at) ∙ beyond one other walks v [] state e in absurd (cc)
    by_ends v w state e e' (Some s) None at at' = let none = sym (ap (λ (from : Option ℕ). is_some (walk other from [])) at') ∙ beyond one other walks w [] state e' in absurd (cc)
    by_ends v w state e e' (Some s) (Some t) at at' = ⊎_elim
        (λ (same : s ≡ t). at ∙ (ap Some same ∙ sym at'))
        (λ (differ : s ≢ t).
        let apart = all.apart s t (within other columns is v s at) (within other columns is w t at') differ in
        absurd (apart.once
        (sym (ap (λ (from : Option ℕ). is_some (walk other from apart.word)) at)
        ∙ (beyond one other walks v apart.word state e
        ∙ (sym (beyond one other walks w apart.word state e')
        ∙ ap (λ (from : Option ℕ). is_some (walk other from apart.word)) at')))))
        (cases_eq s t)

pub normal_one : (columns : ℕ) (one other : Table) → IsNormal one columns → IsNormal other columns → WalkTheSame one other → one ≡ other
normal_one columns one other normal normal' walks =
    numbered_one columns one other normal.parents normal'.parents normal.is normal'.is normal.order normal'.order walks
    (meet_apart columns one other normal'.is normal'.apart walks)
    (meet_apart columns other one normal.is normal.apart (walks_turned one other walks))
