-- Every table has one that walks the same, whose states are apart and numbered breadth-first, and which has no more.
use Rattle.std.proofs.Common.{◌≡◌, ◌≢◌, ℕ, suc, ◌<◌, ◌≤◌, inl, inr, ⊎_elim, Bool, true, false, List, [], ◌∷◌, length, get_or, Option, Some, None, Contains, refl, sym, ap, ◌∙◌, subst, arith}
use Rattle.std.specs.Prelude.{is_some}
use Rattle.std.specs.List.{range_with_len}
use Rattle.std.proofs.lemmas.Bool.{cases_lt}
use Rattle.std.proofs.lemmas.List.{get_or_default}
use Rattle.std.proofs.lemmas.List.FromFn.{length-range_with_len}
use Rattle.hz_base_model.proofs.Elements.{Contains-range}
use Rattle.hz_pipeline_model.specs.Tables.Tables.{Table, entry, walk, IsTable}
use Rattle.hz_pipeline_model.specs.Tables.Apart.{Apart, AllApart, WalkTheSame}
use Rattle.hz_pipeline_model.specs.Least.Normal.{IsNormal}
use Rattle.hz_pipeline_model.proofs.Decidable.DecidedLaws.{IsDecided}
use Rattle.hz_laws.proofs.Totality.NumberingLaws.{Numbered, finished, all_led, all_different}
use Rattle.hz_laws.proofs.Totality.NumberedTables.{Alike, Stands, run, IsNumberedTable, some_table, all_items, walked_at, some_alike, entry_row}
use Rattle.hz_laws.proofs.Totality.ApartReported.{no_more, ended, none_past, apart_reported}

bool_reported : (a b : Bool) → IsDecided (a ≡ b)
bool_reported true true = inl refl
bool_reported true false = inr (λ e. cc)
bool_reported false true = inr (λ e. cc)
bool_reported false false = inl refl

module _ (table : Table) (columns : ℕ) (is : IsTable table columns) where
  -- states that are not apart
  abbrev Same : ℕ → ℕ → Type 0
  Same a b = Apart table a b → ⊥

  same_states_reported : (a b : ℕ) → IsDecided (Same a b)
  same_states_reported a b = ⊎_elim (λ (apart : Apart table a b). inr (λ same. same apart)) (λ (none : Apart table a b → ⊥). inl none) (apart_reported table columns is a b)

  itself : (a : ℕ) → Same a a
  itself a apart = apart.once refl

  turned : (a b : ℕ) → Same a b → Same b a
  turned a b same apart = same (record { word = apart.word; once = λ e. apart.once (sym e) })

  joined : (a b c : ℕ) → Same a b → Same b c → Same a c
  joined a b c one other apart =
      go (bool_reported (walked a) (walked b)) (bool_reported (walked b) (walked c))
    where
      walked : ℕ → Bool
      walked s = is_some (walk table (Some s) apart.word)

      go : IsDecided (walked a ≡ walked b) → IsDecided (walked b ≡ walked c) → ⊥
      go (inl e) (inl f) = apart.once (e ∙ f)
      go (inl e) (inr none) = other (record { word = apart.word; once = none })
      go (inr none) f = one (record { word = apart.word; once = none })

  abbrev next : ℕ → ℕ → Option ℕ
  next c s = entry table s c

  past : (c s : ℕ) → columns < c → next c s ≡ None
  past c s high = none_past table columns is c s high

  run_walk : (o : Option ℕ) (w : List ℕ) → run next o w ≡ walk table o w
  run_walk None w = refl
  run_walk (Some s) [] = refl
  run_walk (Some s) (c ∷ w) = run_walk (entry table s c) w

  alike : (a b : ℕ) → Same a b → (c : ℕ) → Alike Same (next c a) (next c b)
  alike a b same c = by_entries (next c a) (next c b) refl refl
    where
      once_more : (o p : Option ℕ) → next c a ≡ o → next c b ≡ p → is_some o ≢ is_some p → ⊥
      once_more o p e f differ = same (record { word = c ∷ []; once = λ g. differ (ap is_some (sym (ended table (next c a) ∙ e)) ∙ (g ∙ ap is_some (ended table (next c b) ∙ f))) })

      by_entries : (o p : Option ℕ) → next c a ≡ o → next c b ≡ p → Alike Same o p
      by_entries None None e f = tt
      by_entries None (Some y) e f = once_more None (Some y) e f (λ g. cc)
      by_entries (Some x) None e f = once_more (Some x) None e f (λ g. cc)
      by_entries (Some x) (Some y) e f = λ apart. same (record {
        word = c ∷ apart.word;
        once = λ g. apart.once (ap (λ o. is_some (walk table o apart.word)) (sym e) ∙ (g ∙ ap (λ o. is_some (walk table o apart.word)) f));
      })

  abbrev States : ℕ → ℕ → Type 0
  States row column = Numbered Same columns next 0 row column

  low_more : (x y : ℕ) (c : ℕ) → c ≤ columns → x < length table → next c x ≡ Some y → y < length table
  low_more x y c few low e = is.targets x c y e

  few_states : (row column : ℕ) (s : States row column) → length s.items ≤ length table
  few_states row column s =
      let fewer = no_more s.items (range_with_len 0 (length table))
      (λ i j d less low e. all_different Same columns next 0 row column s i j d less low (subst (Same (get_or s.items i d)) e (itself (get_or s.items i d))))
      (λ x (k, low, at).
      let here : get_or s.items k 0 < length table = all_led Same columns next 0 (λ s. s < length table) is.start low_more row column s (suc k) k (omega arith) low in
      subst (Contains (range_with_len 0 (length table))) (get_or_default s.items k 0 x low ∙ at) (Contains-range (length table) (get_or s.items k 0) here)) in
      omega (arith, fewer, length-range_with_len 0 (length table))

  abbrev Numbers : Table → List ℕ → List (ℕ × ℕ) → Type 0
  Numbers rows items places = IsNumberedTable Same columns next 0 rows items places

  module _ (rows : Table) (items : List ℕ) (places : List (ℕ × ℕ)) (numbers : Numbers rows items places) where
    abbrev IsAt : Option ℕ → Option ℕ → Type 0
    IsAt o p = Stands Same 0 items (length rows) o p

    item_low : (k : ℕ) → k < length rows → get_or items k 0 < length table
    item_low k low = all_items Same columns next 0 rows items places numbers (λ s. s < length table) is.start low_more (suc k) k (omega arith) low

    -- a state walks what the one that it stands for walks
    walks_from : (a k : ℕ) → k < length rows → Same a (get_or items k 0) → (w : List ℕ) → is_some (walk table (Some a) w) ≡ is_some (walk rows (Some k) w)
    walks_from a k low same w =
        ap is_some (sym (run_walk (Some a) w))
        ∙ some_alike Same joined columns next 0 past alike rows items places numbers (run next (Some a) w) (walk rows (Some k) w)
        (walked_at Same joined columns next 0 past alike rows items places numbers w (Some a) (Some k) (low, same))

    walks : WalkTheSame table rows
    walks = record { same = λ w. walks_from 0 0 numbers.some (subst (Same 0) (sym numbers.first) (itself 0)) w }

    differ : (one other : ℕ) → one < length rows → other < length rows → one ≢ other → Same (get_or items one 0) (get_or items other 0) → ⊥
    differ one other low low' not same = ⊎_elim
        (λ (below : one < other). numbers.different one other below low' same)
        (λ (above : other ≤ one). ⊎_elim
        (λ (below : other < one). numbers.different other one below low (turned (get_or items one 0) (get_or items other 0) same))
        (λ (more : one ≤ other). not (omega (arith, above, more)))
        (cases_lt other one))
        (cases_lt one other)

    all_apart : AllApart rows
    all_apart = record {
      apart = λ one other low low' not. ⊎_elim
          (λ (apart : Apart table (get_or items one 0) (get_or items other 0)). record {
            word = apart.word;
            once = λ e. apart.once (walks_from (get_or items one 0) one low (itself (get_or items one 0)) apart.word ∙ (e ∙ sym (walks_from (get_or items other 0) other low' (itself (get_or items other 0)) apart.word)));
          })
          (λ (same : Same (get_or items one 0) (get_or items other 0)). absurd (differ one other low low' not same))
          (apart_reported table columns is (get_or items one 0) (get_or items other 0));
    }

    targets : (state column to : ℕ) → entry rows state column ≡ Some to → to < length rows
    targets = entry_row Same joined columns next 0 past alike rows items places numbers

    advances : (state : ℕ) → state < length rows → entry rows state columns ≢ None
    advances state low e =
        by_next (next columns (get_or items state 0)) refl (subst (IsAt (next columns (get_or items state 0))) e (numbers.entries state columns low (omega arith)))
      where
        by_next : (o : Option ℕ) → next columns (get_or items state 0) ≡ o → IsAt o None → ⊥
        by_next None f at = is.advances (get_or items state 0) (item_low state low) f
        by_next (Some y) f at = at

    normal : IsNormal rows columns
    normal = record {
      is = record { start = numbers.some; width = numbers.width; targets = targets; advances = advances };
      parents = places;
      order = numbers.breadth_first;
      apart = all_apart;
    }

  -- the least table that walks the same
  pub least_table : (rows : Table) × IsNormal rows columns × WalkTheSame table rows × (length rows ≤ length table)
  least_table =
      let (n, s, all) = finished Same columns next 0 same_states_reported itself turned (length table) (λ row s. few_states row 0 s) in
      let (rows, numbers) = some_table Same turned joined columns next 0 n s all in
      (rows, normal rows s.items s.places numbers, walks rows s.items s.places numbers, (let few = few_states n 0 s in let each = numbers.each in omega (arith, few, each)))
