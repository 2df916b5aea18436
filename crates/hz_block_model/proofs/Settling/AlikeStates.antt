-- States of a compiled part after two lists of events, if the same is accepted and held after both: the same is walked.
use Rattle.std.proofs.Common.{◌≡◌, ℕ, ◌+◌, ◌<◌, Bool, true, false, List, [], ◌∷◌, ◌++◌, length, All, Option, Some, refl, sym, ap, ◌∙◌, arith, append_assoc}
use Rattle.std.specs.Prelude.{is_some, ◌↔◌}
use Rattle.std.proofs.lemmas.List.{append-nil}
use Rattle.std.proofs.lemmas.List.Elements.{All-append, All-cons, All-nil}
use Rattle.hz_pipeline_model.specs.Accepting.Events.{Event, issue, advance, IsOfClass}
use Rattle.hz_pipeline_model.specs.Accepting.Replay.{Pipeline, Accepted, first_fit}
use Rattle.hz_pipeline_model.specs.Accepting.Asking.{IsHeld}
use Rattle.hz_pipeline_model.specs.Tables.Tables.{entry, walk}
use Rattle.hz_pipeline_model.specs.Tables.Machines.{Part, advance_of, word_of, part_walk, tells_reserved}
use Rattle.hz_pipeline_model.specs.Compiling.CompiledParts.{WalksAccepted, TellsWhatIsHeld}
use Rattle.hz_pipeline_model.proofs.Tables.MachineLaws.{word_of-append}
use Rattle.hz_pipeline_model.proofs.Tables.TableLaws.{walk_stays}
use Rattle.hz_pipeline_model.proofs.Asks.AskLaws.{walk_one, walk_end, starts, by_column, no_entry}
use Rattle.hz_pipeline_model.proofs.Asks.AlikeLaws.{both_from}
use Rattle.hz_pipeline_model.proofs.Single.WordLaws.{IsFilled}
use Rattle.hz_pipeline_model.proofs.Single.PartLaws.{IsShaped, some_at}

both : (a b : Bool) → (a ≡ true → b ≡ true) → (b ≡ true → a ≡ true) → a ≡ b
both true b f g = sym (f refl)
both false true f g = g refl
both false false f g = refl

-- What holds of a compiled part: what is walked is accepted, each column is that of a class, and reported are the units that are
-- held. If there is a query unit, each issue takes the first alternative that fits.
pub record IsReported {U : Type 0} (classes : ℕ) (m : Pipeline U) (queries : List U) (part : Part) : Type 0 where
  pub shape : IsShaped part
  pub filled : IsFilled classes part
  pub walks : WalksAccepted classes m part
  pub held : TellsWhatIsHeld classes m queries part
  pub asks : length queries ≡ length part.asks
  pub first : 0 < length queries → m.treatment ≡ first_fit

-- After both lists of events the same events are accepted, and then the same units are held.
pub record IsAlike {U : Type 0} (m : Pipeline U) (s t : List Event) : Type 0 where
  pub accepted : (u : List Event) → Accepted m (s ++ u) ↔ Accepted m (t ++ u)
  pub held : m.treatment ≡ first_fit → (u : List Event) → Accepted m (s ++ u) → (unit : U) → IsHeld m (s ++ u) unit ↔ IsHeld m (t ++ u) unit

module _ {U : Type 0} (classes : ℕ) (m : Pipeline U) (queries : List U) (part : Part) (reported : IsReported classes m queries part) where
  -- An event that takes a column.
  record Takes (column : ℕ) : Type 0 where
    event : Event
    of_class : IsOfClass classes event
    word : word_of part (event ∷ []) ≡ column ∷ []

  takes_class : (column : ℕ) → column < part.columns → Takes column
  takes_class column low =
      let class = reported.filled column low in
      record { event = issue class.0; of_class = class.1; word = ap (λ (c : ℕ). c ∷ []) class.2 }

  takes_advance : (column : ℕ) → advance_of part ≡ column → Takes column
  takes_advance column same = record { event = advance 1; of_class = tt; word = ap (λ (c : ℕ). c ∷ []) same }

  -- one event more
  one_more : (u : List Event) (state column : ℕ) (e : Takes column) → part_walk part 0 u ≡ Some state → part_walk part 0 (u ++ e.event ∷ []) ≡ entry part.rows state column
  one_more u state column e ends =
      ap (walk part.rows (Some 0)) (word_of-append part u (e.event ∷ []) ∙ ap (λ (w : List ℕ). word_of part u ++ w) e.word)
      ∙ (walk_one part.rows (Some 0) state column (word_of part u) [] ends ∙ walk_end part.rows (entry part.rows state column))

  module _ (s t : List Event) (all_s : All (IsOfClass classes) s) (all_t : All (IsOfClass classes) t) (alike : IsAlike m s t) where
    -- more events after both
    module _ (u : List Event) (of_classes : All (IsOfClass classes) u) where
      after_s : All (IsOfClass classes) (s ++ u)
      after_s = All-append (IsOfClass classes) s u all_s of_classes

      after_t : All (IsOfClass classes) (t ++ u)
      after_t = All-append (IsOfClass classes) t u all_t of_classes

      -- they are walked after the one exactly if they are after the other
      walked_later : is_some (part_walk part 0 (s ++ u)) ≡ is_some (part_walk part 0 (t ++ u))
      walked_later =
          let far = reported.walks.walks (s ++ u) after_s in
          let near = reported.walks.walks (t ++ u) after_t in
          let same = alike.accepted u in
          both (is_some (part_walk part 0 (s ++ u))) (is_some (part_walk part 0 (t ++ u))) (λ h. near.1 (same.0 (far.0 h))) (λ h. far.1 (same.1 (near.0 h)))

      -- and the same is reported at an ask
      reported_later : (state mate query : ℕ) → part_walk part 0 (s ++ u) ≡ Some state → part_walk part 0 (t ++ u) ≡ Some mate → query < length part.asks → tells_reserved part state query ≡ tells_reserved part mate query
      reported_later state mate query ends led low =
          let (unit, at) = some_at queries query (omega (arith, low, reported.asks)) in
          let far = reported.held.held (s ++ u) state query unit after_s ends at in
          let near = reported.held.held (t ++ u) mate query unit after_t led at in
          let same = alike.held (reported.first (omega (arith, low, reported.asks))) u ((reported.walks.walks (s ++ u) after_s).0 (ap is_some ends)) unit in
          both (tells_reserved part state query) (tells_reserved part mate query) (λ h. near.1 (same.0 (far.0 h))) (λ h. far.1 (same.1 (near.0 h)))

    -- the same is walked from the states after both
    abbrev Alike : List ℕ → Type 0
    Alike w = (u : List Event) → All (IsOfClass classes) u → (state mate : ℕ) → part_walk part 0 (s ++ u) ≡ Some state → part_walk part 0 (t ++ u) ≡ Some mate → is_some (walk part.rows (Some state) w) ≡ is_some (walk part.rows (Some mate) w)

    module _ (column : ℕ) (w : List ℕ) (rest : Alike w) (u : List Event) (of_classes : All (IsOfClass classes) u) (state mate : ℕ) (ends : part_walk part 0 (s ++ u) ≡ Some state) (led : part_walk part 0 (t ++ u) ≡ Some mate) where
      abbrev SameNext : Type 0
      SameNext = is_some (walk part.rows (Some state) (column ∷ w)) ≡ is_some (walk part.rows (Some mate) (column ∷ w))

      by_event : Takes column → SameNext
      by_event e =
          let more = u ++ e.event ∷ [] in
          let of_more : All (IsOfClass classes) more = All-append (IsOfClass classes) u (e.event ∷ []) of_classes (All-cons (IsOfClass classes) e.event [] e.of_class (All-nil (IsOfClass classes))) in
          let far : part_walk part 0 (s ++ more) ≡ entry part.rows state column = ap (part_walk part 0) (sym (append_assoc s u (e.event ∷ []))) ∙ one_more (s ++ u) state column e ends in
          let near : part_walk part 0 (t ++ more) ≡ entry part.rows mate column = ap (part_walk part 0) (sym (append_assoc t u (e.event ∷ []))) ∙ one_more (t ++ u) mate column e led in
          both_from part.rows part.rows (entry part.rows state column) (entry part.rows mate column) (ap is_some (sym far) ∙ (walked_later more of_more ∙ ap is_some near)) w
          (λ next other e' e''. rest more of_more next other (far ∙ e') (near ∙ e''))

      by_ask : (query : ℕ) → query < length part.asks → part.columns + query ≡ column → SameNext
      by_ask query low is_column =
          let same = reported_later u of_classes state mate query ends led low in
          both_from part.rows part.rows (entry part.rows state column) (entry part.rows mate column)
          (ap (λ (c : ℕ). is_some (entry part.rows state c)) (sym is_column) ∙ (same ∙ ap (λ (c : ℕ). is_some (entry part.rows mate c)) is_column)) w
          (λ next other e e'.
          let stay = reported.shape.stays.stays state query next low (ap (entry part.rows state) is_column ∙ e) in
          let stay_too = reported.shape.stays.stays mate query other low (ap (entry part.rows mate) is_column ∙ e') in
          rest u of_classes next other (ends ∙ ap Some (sym stay)) (led ∙ ap Some (sym stay_too)))

      nowhere : advance_of part < column → SameNext
      nowhere beyond =
          let table = reported.shape.table in
          let low : (state : ℕ) (v : List Event) → part_walk part 0 v ≡ Some state → state < length part.rows = λ state v h. walk_stays part.rows (advance_of part) table (Some 0) (starts part.rows table.start) state (word_of part v) h in
          let none = no_entry part.rows state column (advance_of part) (table.width state (low state (s ++ u) ends)) beyond in
          let none_too = no_entry part.rows mate column (advance_of part) (table.width mate (low mate (t ++ u) led)) beyond in
          ap (λ (o : Option ℕ). is_some (walk part.rows o w)) none ∙ sym (ap (λ (o : Option ℕ). is_some (walk part.rows o w)) none_too)

      one_column_more : SameNext
      one_column_more = by_column {Goal = SameNext} part.columns (length part.asks) column (λ low. by_event (takes_class column low)) by_ask (λ last. by_event (takes_advance column last)) nowhere

    all_alike : (w : List ℕ) → Alike w
    all_alike [] u of_classes state mate ends led = refl
    all_alike (column ∷ w) u of_classes state mate ends led = one_column_more column w (all_alike w) u of_classes state mate ends led

    pub walked_alike : (w : List ℕ) (state mate : ℕ) → part_walk part 0 s ≡ Some state → part_walk part 0 t ≡ Some mate → is_some (walk part.rows (Some state) w) ≡ is_some (walk part.rows (Some mate) w)
    walked_alike w state mate ends led = all_alike w [] (All-nil (IsOfClass classes)) state mate (ap (part_walk part 0) (append-nil s) ∙ ends) (ap (part_walk part 0) (append-nil t) ∙ led)
