-- A compiled part settles: after events that it walks, `cycle_limit` cycles lead it to its start.
use Rattle.std.proofs.Common.{◌≡◌, ℕ, ◌<◌, ◌≤◌, Bool, true, false, List, [], ◌∷◌, All, Option, Some, None, refl, ap, subst, arith, ⊎_elim}
use Rattle.std.specs.Prelude.{is_some, MatchBool}
use Rattle.std.proofs.lemmas.Bool.{cases_lt}
use Rattle.std.proofs.lemmas.List.Elements.{All-append, All-cons, All-nil}
use Rattle.hz_base_model.specs.Limits.{cycle_limit}
use Rattle.hz_pipeline_model.specs.Accepting.Events.{Event, advance, IsOfClass}
use Rattle.hz_pipeline_model.specs.Accepting.Replay.{Pipeline, Accepted}
use Rattle.hz_pipeline_model.specs.Tables.Apart.{Apart, AllApart}
use Rattle.hz_pipeline_model.specs.Tables.Machines.{Part, word_of, part_walk, advance_of}
use Rattle.hz_pipeline_model.proofs.Tables.TableLaws.{walk_stays}
use Rattle.hz_pipeline_model.specs.Reaching.Reach.{SameGrids, HasGrids}
use Rattle.hz_pipeline_model.proofs.Reaching.CountLaws.{same_pairs_itself}
use Rattle.hz_pipeline_model.specs.Compiling.CompiledParts.{TellsWhatIsLeft}
use Rattle.hz_block_model.proofs.Settling.RunLaws.{IsShort, settled, accepted_after, left_settled, left_at_start, held_after}
use Rattle.hz_block_model.proofs.Settling.AlikeStates.{IsReported, IsAlike, walked_alike}

module _ (classes : ℕ) (m : Pipeline ℕ) (short : IsShort m) (queries : List ℕ) (part : Part) (reported : IsReported classes m queries part) where
  module _ (t : List Event) (all : All (IsOfClass classes) t) (walked : is_some (part_walk part 0 (settled t)) ≡ true) where
    all_settled : All (IsOfClass classes) (settled t)
    all_settled = All-append (IsOfClass classes) t (advance cycle_limit ∷ []) all (All-cons (IsOfClass classes) (advance cycle_limit) [] tt (All-nil (IsOfClass classes)))

    accepted : Accepted m (settled t)
    accepted = (reported.walks.walks (settled t) all_settled).0 walked

    -- ---- states that stay as they were found

    same_empty : SameGrids {U = ℕ} ([] ∷ []) ([] ∷ [])
    same_empty = record { there = itself; back = itself }
      where
        itself : HasGrids {U = ℕ} ([] ∷ []) ([] ∷ [])
        itself x inside = (x, inside, same_pairs_itself x)

    pub starts_where_left : TellsWhatIsLeft classes m part → part_walk part 0 (settled t) ≡ Some 0
    starts_where_left tells =
        (tells.one (settled t) [] ([] ∷ []) ([] ∷ []) all_settled (All-nil (IsOfClass classes)) (left_settled m short t accepted) (left_at_start m) accepted ((reported.walks.walks [] (All-nil (IsOfClass classes))).0 refl)).1 same_empty

    -- ---- states that are apart

    -- after these events the same is accepted and held as from the start
    as_from_start : IsAlike m (settled t) []
    as_from_start = record { accepted = λ u. accepted_after m short t u accepted; held = λ first u h unit. held_after m short first t u h unit }

    not_apart : (state : ℕ) → part_walk part 0 (settled t) ≡ Some state → Apart part.rows state 0 → ⊥
    not_apart state at apart = apart.once (walked_alike classes m queries part reported (settled t) [] all_settled (All-nil (IsOfClass classes)) as_from_start apart.word state 0 at refl)

    pub starts_where_apart : AllApart part.rows → part_walk part 0 (settled t) ≡ Some 0
    starts_where_apart apart = go (part_walk part 0 (settled t)) refl walked
      where
        go : (o : Option ℕ) → part_walk part 0 (settled t) ≡ o → is_some o ≡ true → o ≡ Some 0
        go None e h = absurd (cc)
        go (Some state) e h = ⊎_elim
            (λ (some : 0 < state).
            let table = reported.shape.table in
            let within = walk_stays part.rows (advance_of part) table (Some 0) (λ s same. let zero_is : 0 ≡ s = cc in let start = table.start in omega arith) state (word_of part (settled t)) e in
            absurd (not_apart state e (apart.apart state 0 within table.start (λ same. let low : 0 < 0 = subst (λ (n : ℕ). 0 < n) same some in omega arith))))
            (λ (none : state ≤ 0). let zero_is : state ≡ 0 = omega arith in ap Some zero_is)
            (cases_lt 0 state)

    pub settles_at_start : (stay : Bool) → MatchBool stay (TellsWhatIsLeft classes m part) (AllApart part.rows) → part_walk part 0 (settled t) ≡ Some 0
    settles_at_start true tells = starts_where_left tells
    settles_at_start false apart = starts_where_apart apart
