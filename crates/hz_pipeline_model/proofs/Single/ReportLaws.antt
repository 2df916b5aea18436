-- One thing is reported of a compiled automaton, but for how the pairs of a grid are listed.
use Rattle.std.proofs.Common.{◌≡◌, ◌⊎◌, inl, inr, ℕ, ◌<◌, Bool, true, false, List, length, All, Option, Some, None, refl, sym, ap, subst}
use Rattle.std.specs.Prelude.{MatchBool, MatchOption, IsSomeAnd}
use Rattle.std.specs.Option.{ForSome}
use Rattle.std.proofs.lemmas.Bool.{cases_order}
use Rattle.hz_pipeline_model.specs.Accepting.Replay.{Pipeline}
use Rattle.hz_description_model.specs.Reading.Descriptions.{Options}
use Rattle.hz_description_model.specs.Check.CheckedParts.{AutomatonParts, ClassParts}
use Rattle.hz_pipeline_model.specs.Tables.Machines.{Part}
use Rattle.hz_pipeline_model.specs.Reaching.Counts.{Count}
use Rattle.hz_pipeline_model.specs.Reaching.Counts as count
use Rattle.hz_pipeline_model.proofs.Reaching.CountLaws.{no_count_both}
use Rattle.hz_pipeline_model.specs.Compiling.AutomatonPipelines.{automaton_pipeline}
use Rattle.hz_pipeline_model.specs.Compiling.Counted.{CountIs}
use Rattle.hz_pipeline_model.specs.Compiling.Compiled.{Shown, IsShown, Report, shows_states, IsCompiledPart}
use Rattle.hz_pipeline_model.specs.Single.Reported.{ShowTheSame, TellTheSame, ListsAscending}
use Rattle.hz_pipeline_model.proofs.Single.PartLaws.{one_part, filled_part, IsShaped}
use Rattle.hz_pipeline_model.proofs.Single.WordLaws.{IsFilled}
use Rattle.hz_pipeline_model.proofs.Single.ShownLaws.{show_the_same, shown_one}
use Rattle.hz_base_model.specs.Pairs.{IsAscendingBy}
use Rattle.std.specs.Ordering.{nat_cmp}

-- a count is one number
count_one : {U : Type 0} (m : Pipeline U) (columns : ℕ) (kind : Count) (n k : ℕ) → CountIs m columns kind n → CountIs m columns kind k → n ≡ k
count_one m columns kind n k is also = by_order (cases_order n k)
  where
    by_order : (n ≡ k) ⊎ ((n < k) ⊎ (k < n)) → n ≡ k
    by_order (inl same) = same
    by_order (inr (inl less)) = absurd (no_count_both m columns n kind (also.least n less) is.most)
    by_order (inr (inr more)) = absurd (no_count_both m columns k kind (is.least k more) also.most)

-- what some value is reported of, it is reported of both or of none
module _ (P : Shown → Type 0) (Same : Shown → Shown → Type 0) (same : (one other : Shown) → P one → P other → Same one other) where
  reported_same : (shows : Bool) (o p : Option Shown) → MatchBool shows (IsSomeAnd o P) (o ≡ None) → MatchBool shows (IsSomeAnd p P) (p ≡ None) → MatchOption o (p ≡ None) (λ shown. IsSomeAnd p (Same shown))
  reported_same true None p h k = absurd h
  reported_same true (Some one) None h k = absurd k
  reported_same true (Some one) (Some other) h k = same one other h k
  reported_same false None p h k = k
  reported_same false (Some one) p h k = absurd (cc)

-- values that are both there and equal, or none of them
reported_one : (Q : Shown → Type 0) (o p : Option Shown) → ForSome o Q → ForSome p Q → MatchOption o (p ≡ None) (λ one. IsSomeAnd p (λ other. Q one → Q other → one ≡ other)) → o ≡ p
reported_one Q None p h k same = sym same
reported_one Q (Some one) None h k same = absurd same
reported_one Q (Some one) (Some other) h k same = ap Some (same (h one refl) (k other refl))

-- each grid that is shown is listed in ascending order
abbrev Ascends : Shown → Type 0
Ascends shown = All (λ grids. All (IsAscendingBy nat_cmp) grids) shown.states

module _ (stay : Bool) (options : Options) (automata : List AutomatonParts) (classes : List ClassParts) (a : ℕ) (part other : Part) (report report' : Report) (is : IsShaped part) (is' : IsShaped other) (p : IsCompiledPart stay options automata classes a part report) (q : IsCompiledPart stay options automata classes a other report') where
  abbrev m : Pipeline ℕ
  m = automaton_pipeline options automata classes a

  -- both are reported of the one part
  again : IsCompiledPart stay options automata classes a part report'
  again = subst (λ x. IsCompiledPart stay options automata classes a x report') (sym (one_part stay options automata classes a part other report report' is is' p q)) q

  filled : IsFilled (length classes) part
  filled = filled_part stay options automata classes a part report p

  shown_same : (Same : Shown → Shown → Type 0) → ((one two : Shown) → IsShown (length classes) m part one → IsShown (length classes) m part two → Same one two) → MatchOption report.shown (report'.shown ≡ None) (λ shown. IsSomeAnd report'.shown (Same shown))
  shown_same Same same = reported_same (IsShown (length classes) m part) Same same (shows_states options) report.shown report'.shown p.shown again.shown

  pub tell_the_same : TellTheSame report report'
  tell_the_same = record {
    grids = count_one m part.columns count.grids report.grids report'.grids p.grids again.grids;
    states = count_one m part.columns count.states report.states report'.states p.states again.states;
    members = count_one m part.columns count.members report.members report'.members p.members again.members;
    shown = shown_same ShowTheSame (show_the_same (length classes) m part is filled p.numbered.reached);
  }

  pub one_report : ListsAscending report → ListsAscending report' → report ≡ report'
  one_report up up' = λ i. record { grids = tell_the_same.grids i; states = tell_the_same.states i; members = tell_the_same.members i; shown = shown i }
    where
      shown : report.shown ≡ report'.shown
      shown = reported_one Ascends report.shown report'.shown up up'
          (shown_same (λ one two. Ascends one → Ascends two → one ≡ two) (shown_one (length classes) m part is filled p.numbered.reached))
