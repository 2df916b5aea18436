-- There is one part for an automaton.
use Rattle.std.proofs.Common.{◌≡◌, ◌≢◌, ⊎_elim, ℕ, ◌+◌, Bool, true, false, List, length, Option, Some, None, refl, sym, ap, ◌∙◌, subst, arith, ◌<◌, zero, suc, ◌++◌, [], ◌∷◌, subst₂, slice_get}
use Rattle.std.specs.Prelude.{is_some, IsSome, MatchBool, slice_index_or}
use Rattle.std.proofs.lemmas.Bool.{cases_eq}
use Rattle.std.proofs.lemmas.List.{length-map, get_or_default}
use Rattle.hz_base_model.specs.Pairs.{Pair, SamePairs}
use Rattle.hz_pipeline_model.specs.Accepting.Replay.{Pipeline, Accepted}
use Rattle.hz_description_model.specs.Reading.Descriptions.{Options}
use Rattle.hz_description_model.specs.Check.CheckedParts.{AutomatonParts, ClassParts}
use Rattle.hz_pipeline_model.specs.Tables.Tables.{walk, IsTable, Table, entry}
use Rattle.hz_pipeline_model.specs.Tables.Apart.{AllApart, WalkTheSame}
use Rattle.hz_pipeline_model.specs.Tables.Orders.{IsBreadthFirst}
use Rattle.hz_pipeline_model.specs.Tables.Machines.{Part, part_walk, advance_of, tells_reserved}
use Rattle.hz_pipeline_model.specs.Reaching.Reach.{IsReachedGrid}
use Rattle.hz_pipeline_model.specs.Reaching.Counts.{IsAtMost}
use Rattle.hz_pipeline_model.proofs.Least.NormalLaws.{normal_one}
use Rattle.hz_pipeline_model.specs.Compiling.AutomatonPipelines.{lists_at, automaton_pipeline, automaton_at}
use Rattle.hz_pipeline_model.specs.Compiling.CompiledParts.{WalksAccepted, TellsWhatIsLeft, TellsWhatIsHeld}
use Rattle.hz_pipeline_model.specs.Compiling.Compiled.{Report, IsCompiledPart}
use Rattle.hz_pipeline_model.proofs.Compiling.LimitLaws.{columns_same}
use Rattle.hz_pipeline_model.proofs.Least.NumberedLaws.{MeetAlso, numbered_one}
use Rattle.hz_pipeline_model.proofs.Single.ColumnLaws.{one_map}
use Rattle.hz_pipeline_model.proofs.Single.WordLaws.{IsFilled, Spells, spell, same_word}
use Rattle.hz_pipeline_model.proofs.Single.LeftLaws.{left_not_none}
use Rattle.hz_pipeline_model.specs.Tables.AskColumns.{AsksStay, AsksAlike, all_beside}
use Rattle.hz_pipeline_model.specs.Reaching.Columns.{AreColumns}
use Rattle.hz_pipeline_model.proofs.Asks.BareWords.{bare, bare_columns, bare_walk}
use Rattle.hz_pipeline_model.proofs.Asks.AlikeLaws.{walk_the_same}
use Rattle.hz_pipeline_model.proofs.Asks.AskLaws.{walk_end}
use Rattle.hz_pipeline_model.proofs.Tables.TableLaws.{walk-append}

-- a part's table has its columns, and an ask leads to no other state
pub record IsShaped (part : Part) : Type 0 where
  pub table : IsTable part.rows (advance_of part)
  pub stays : AsksStay part.rows part.columns (length part.asks)

pub some_of : (o : Option ℕ) → IsSome o → (s : ℕ) × (o ≡ Some s)
some_of None h = absurd (cc)
some_of (Some s) h = (s, refl)

pub some_at : {X : Type 0} (xs : List X) (i : ℕ) → i < length xs → (x : X) × (slice_get xs i ≡ Some x)
some_at [] i low = absurd (omega (arith, low))
some_at (x ∷ xs) zero low = (x, refl)
some_at (x ∷ xs) (suc i) low = some_at xs i (omega (arith, low))

-- what can't differ is equal
not_different : (o p : Option ℕ) → ((o ≡ p → ⊥) → ⊥) → o ≡ p
not_different None None h = refl
not_different None (Some state) h = absurd (h (λ e. cc))
not_different (Some state) None h = absurd (h (λ e. cc))
not_different (Some state) (Some other) h = ⊎_elim
    (λ (same : state ≡ other). ap Some same)
    (λ (differ : state ≢ other). absurd (h (λ e. differ (cc))))
    (cases_eq state other)

-- two tests that hold together are equal
both_ways : (a b : Bool) → (a ≡ true → b ≡ true) → (b ≡ true → a ≡ true) → a ≡ b
both_ways true b f g = sym (f refl)
both_ways false true f g = g refl
both_ways false false f g = refl

-- where walks lead to states of both tables or of neither, one more column is reported alike
one_more : (first second : Table) (v : List ℕ) (column : ℕ) → is_some (walk first (Some 0) v) ≡ is_some (walk second (Some 0) v)
    → ((state mate : ℕ) → walk first (Some 0) v ≡ Some state → walk second (Some 0) v ≡ Some mate → is_some (entry first state column) ≡ is_some (entry second mate column))
    → is_some (walk first (Some 0) (v ++ column ∷ [])) ≡ is_some (walk second (Some 0) (v ++ column ∷ []))
one_more first second v column same both =
    ap is_some (walk-append first (Some 0) v (column ∷ [])) ∙ (by_ends (walk first (Some 0) v) (walk second (Some 0) v) refl refl same ∙ sym (ap is_some (walk-append second (Some 0) v (column ∷ []))))
  where
    by_ends : (o p : Option ℕ) → walk first (Some 0) v ≡ o → walk second (Some 0) v ≡ p → is_some o ≡ is_some p → is_some (walk first o (column ∷ [])) ≡ is_some (walk second p (column ∷ []))
    by_ends None None e h k = refl
    by_ends (Some state) (Some mate) e h k = ap is_some (walk_end first (entry first state column)) ∙ (both state mate e h ∙ sym (ap is_some (walk_end second (entry second mate column))))
    by_ends None (Some mate) e h k = absurd (cc)
    by_ends (Some state) None e h k = absurd (cc)

-- Two parts with one map and as many asks that walk what one pipeline accepts.
module _ {U : Type 0} (classes : ℕ) (m : Pipeline U) (part other : Part) (maps : part.map ≡ other.map) (numbers : part.columns ≡ other.columns) (asked : length part.asks ≡ length other.asks) (filled : IsFilled classes part) (walks : WalksAccepted classes m part) (walks' : WalksAccepted classes m other) where
  abbrev beside : List ℕ → List ℕ
  beside w = all_beside part.columns (length part.asks) w

  spelled : (w : List ℕ) → AreColumns part.columns w → Spells classes part w
  spelled w are = spell classes part filled w are

  -- events of columns end in each part where the columns do
  own_walk : (w : List ℕ) (s : Spells classes part w) → part_walk part 0 s.events ≡ walk part.rows (Some 0) (beside w)
  own_walk w s = ap (walk part.rows (Some 0)) s.word

  other_walk : (w : List ℕ) (s : Spells classes part w) → part_walk other 0 s.events ≡ walk other.rows (Some 0) (beside w)
  other_walk w s = ap (walk other.rows (Some 0)) (sym (same_word part other maps (λ i. numbers i + asked i) s.events) ∙ s.word)

  accepted : (w : List ℕ) (state : ℕ) → walk part.rows (Some 0) (beside w) ≡ Some state → (s : Spells classes part w) → Accepted m s.events
  accepted w state e s = (walks.walks s.events s.inside).0 (ap is_some (own_walk w s ∙ e))

  -- what the one walks the other does
  walked_alike : (w : List ℕ) → AreColumns part.columns w → is_some (walk part.rows (Some 0) (beside w)) ≡ is_some (walk other.rows (Some 0) (beside w))
  walked_alike w are =
      let s = spelled w are in
      both_ways (is_some (walk part.rows (Some 0) (beside w))) (is_some (walk other.rows (Some 0) (beside w)))
      (λ h. subst IsSome (other_walk w s) ((walks'.walks s.events s.inside).1 ((walks.walks s.events s.inside).0 (subst IsSome (sym (own_walk w s)) h))))
      (λ h. subst IsSome (own_walk w s) ((walks.walks s.events s.inside).1 ((walks'.walks s.events s.inside).0 (subst IsSome (sym (other_walk w s)) h))))

  -- where both tell what is held, they walk the same and tell the same at asks
  pub asks_alike : (queries : List U) → length queries ≡ length part.asks → TellsWhatIsHeld classes m queries part → TellsWhatIsHeld classes m queries other → AsksAlike part.rows other.rows part.columns (length part.asks)
  asks_alike queries count held held' = record {
    walks = walked_alike;
    tells = λ w are ask low. one_more part.rows other.rows (beside w) (part.columns + ask) (walked_alike w are) (λ state mate e e'.
        let s = spelled w are in
        let unit = some_at queries ask (omega (arith, low, count)) in
        let here = held.held s.events state ask unit.0 s.inside (own_walk w s ∙ e) unit.1 in
        let there = held'.held s.events mate ask unit.0 s.inside (other_walk w s ∙ e') unit.1 in
        let tells : tells_reserved other mate ask ≡ is_some (entry other.rows mate (part.columns + ask)) = ap (λ n. is_some (entry other.rows mate (n + ask))) (sym numbers) in
        both_ways (tells_reserved part state ask) (tells_reserved other mate ask) (λ h. there.1 (here.0 h)) (λ h. here.1 (there.0 h)) ∙ tells);
  }

  -- where the states of both tell what is left, what ends together in the one does in the other
  module _ (weight : List (Pair U) → ℕ) (n : ℕ) (most : IsAtMost (IsReachedGrid m) SamePairs weight n) (tells : TellsWhatIsLeft classes m part) (tells' : TellsWhatIsLeft classes m other) where
    bare_meets : (v w : List ℕ) → AreColumns part.columns v → AreColumns part.columns w → (state : ℕ) → walk part.rows (Some 0) (beside v) ≡ Some state → walk part.rows (Some 0) (beside w) ≡ Some state → walk other.rows (Some 0) (beside v) ≡ walk other.rows (Some 0) (beside w)
    bare_meets v w are are' state e e' =
        let s = spelled v are in
        let u = spelled w are' in
        let yes = accepted v state e s in
        let also = accepted w state e' u in
        not_different (walk other.rows (Some 0) (beside v)) (walk other.rows (Some 0) (beside w)) (λ differ.
        left_not_none m weight n most s.events (λ xs left.
        left_not_none m weight n most u.events (λ ys left'.
        let same = (tells.one s.events u.events xs ys s.inside u.inside left left' yes also).0 (own_walk v s ∙ (e ∙ (sym e' ∙ sym (own_walk w u)))) in
        let there = (tells'.one s.events u.events xs ys s.inside u.inside left left' yes also).1 same in
        differ (sym (other_walk v s) ∙ (there ∙ other_walk w u)))))

    module _ (is : IsShaped part) (is' : IsShaped other) (both : WalkTheSame part.rows other.rows) where
      own_bare : (v : List ℕ) (state : ℕ) → walk part.rows (Some 0) v ≡ Some state → walk part.rows (Some 0) (beside (bare part.columns (length part.asks) v)) ≡ Some state
      own_bare v state e = bare_walk part.rows part.columns (length part.asks) is.table is.stays v 0 state e

      other_bare : (v : List ℕ) (mate : ℕ) → walk other.rows (Some 0) v ≡ Some mate → walk other.rows (Some 0) (beside (bare part.columns (length part.asks) v)) ≡ Some mate
      other_bare v mate e = subst₂ (λ n k. walk other.rows (Some 0) (all_beside n k (bare n k v)) ≡ Some mate) (sym numbers) (sym asked) (bare_walk other.rows other.columns (length other.asks) is'.table is'.stays v 0 mate e)

      mate_of : (v : List ℕ) (state : ℕ) → walk part.rows (Some 0) v ≡ Some state → (mate : ℕ) × (walk other.rows (Some 0) v ≡ Some mate)
      mate_of v state e = some_of (walk other.rows (Some 0) v) (sym (both.same v) ∙ ap is_some e)

      pub meets : MeetAlso part.rows other.rows
      meets = record {
        meet = λ v w state e e'.
            let mate = mate_of v state e in
            let last = mate_of w state e' in
            let v' = bare part.columns (length part.asks) v in
            let w' = bare part.columns (length part.asks) w in
            let meet = bare_meets v' w' (bare_columns part.columns (length part.asks) v) (bare_columns part.columns (length part.asks) w) state (own_bare v state e) (own_bare w state e') in
            mate.1 ∙ (sym (other_bare v mate.0 mate.1) ∙ (meet ∙ (other_bare w last.0 last.1 ∙ sym last.1)));
      }

-- each column of a compiled part is that of a class
pub filled_part : (stay : Bool) (options : Options) (automata : List AutomatonParts) (classes : List ClassParts) (a : ℕ) (part : Part) (report : Report) → IsCompiledPart stay options automata classes a part report → IsFilled (length classes) part
filled_part stay options automata classes a part report p column low =
    let class = p.shared.first column (omega (arith, p.number, low)) in
    let inside = class.1 in
    let count : length (lists_at classes a) ≡ length classes = length-map classes (λ c. _) in (
      class.0,
      omega (arith, inside, count),
      get_or_default part.map class.0 (advance_of part + 1) 0 (omega (arith, inside, p.shared.each)) ∙ class.2,
    )

module _ (stay : Bool) (options : Options) (automata : List AutomatonParts) (classes : List ClassParts) (a : ℕ) (part other : Part) (report report' : Report) (is : IsShaped part) (is' : IsShaped other) (p : IsCompiledPart stay options automata classes a part report) (q : IsCompiledPart stay options automata classes a other report') where
  abbrev m : Pipeline ℕ
  m = automaton_pipeline options automata classes a

  maps : part.map ≡ other.map
  maps = one_map (lists_at classes a) p.columns q.columns part.map other.map p.shared q.shared

  numbers : part.columns ≡ other.columns
  numbers = columns_same (lists_at classes a) part.columns other.columns (p.columns, part.map, p.shared, p.number) (q.columns, other.map, q.shared, q.number)

  filled : IsFilled (length classes) part
  filled = filled_part stay options automata classes a part report p

  filled' : IsFilled (length classes) other
  filled' = filled_part stay options automata classes a other report' q

  asked : part.asks ≡ other.asks
  asked = p.asks ∙ sym q.asks

  count : length (automaton_at automata a).queries ≡ length part.asks
  count = sym (ap length p.asks ∙ length-map (automaton_at automata a).queries (λ unit. slice_index_or (automaton_at automata a).units unit []))

  alike : AsksAlike part.rows other.rows part.columns (length part.asks)
  alike = asks_alike (length classes) m part other maps numbers (ap length asked) filled p.walks q.walks (automaton_at automata a).queries count p.held q.held

  advances : advance_of part ≡ advance_of other
  advances = λ i. numbers i + length (asked i)

  shape : IsTable other.rows (advance_of part)
  shape = subst (IsTable other.rows) (sym advances) is'.table

  stays : AsksStay other.rows part.columns (length part.asks)
  stays = subst₂ (AsksStay other.rows) (sym numbers) (ap length (sym asked)) is'.stays

  same_walks : WalkTheSame part.rows other.rows
  same_walks = walk_the_same part.rows other.rows part.columns (length part.asks) is.table shape is.stays stays alike

  order : IsBreadthFirst other.rows (advance_of part) q.numbered.parents
  order = subst (λ n. IsBreadthFirst other.rows n q.numbered.parents) (sym advances) q.numbered.breadth_first

  same_back : WalkTheSame other.rows part.rows
  same_back = record { same = λ w. sym (same_walks.same w) }

  rows_by : (b : Bool) → MatchBool b (TellsWhatIsLeft (length classes) m part) (AllApart part.rows) → MatchBool b (TellsWhatIsLeft (length classes) m other) (AllApart other.rows) → part.rows ≡ other.rows
  rows_by true tells tells' = numbered_one (advance_of part) part.rows other.rows p.numbered.parents q.numbered.parents is.table shape p.numbered.breadth_first order same_walks
      (meets (length classes) m part other maps numbers (ap length asked) filled p.walks q.walks (λ _. 1) report.grids p.grids.most tells tells' is is' same_walks)
      (meets (length classes) m other part (sym maps) (sym numbers) (ap length (sym asked)) filled' q.walks p.walks (λ _. 1) report.grids p.grids.most tells' tells is' is same_back)
  rows_by false apart apart' = normal_one (advance_of part) part.rows other.rows
      (record { is = is.table; parents = p.numbered.parents; order = p.numbered.breadth_first; apart = apart })
      (record { is = shape; parents = q.numbered.parents; order = order; apart = apart' })
      same_walks

  rows : part.rows ≡ other.rows
  rows = rows_by stay p.tells q.tells

  pub one_part : part ≡ other
  one_part = λ i. record { name = (p.name ∙ sym q.name) i; map = maps i; columns = numbers i; asks = asked i; rows = rows i }
