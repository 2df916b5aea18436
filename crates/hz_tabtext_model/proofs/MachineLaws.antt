-- What a text says is a machine, and every machine is said by a text.
use Rattle.std.proofs.Common.{◌≡◌, ◌≢◌, false, ℕ, zero, suc, ◌+◌, ◌*◌, ◌<◌, ◌≤◌, List, [], ◌∷◌, ◌++◌, map, length, get_or, Option, Some, None, Ok, sym, ap, ◌∙◌, subst, arith, inl, inr, ◌⊎◌, zero-add, add-zero, Bool, refl}
use Rattle.std.specs.List.{AllByRecursion, AllPairs}
use Rattle.std.proofs.lemmas.Bool.{cases_lt}
use Rattle.std.proofs.lemmas.List.{get_or-map, length-map, get_or_past, get_or_at, length-append, get_or_append_left}
use Rattle.std.proofs.lemmas.List.Elements.{All-from_recursion}
use Rattle.hz_pipeline_model.specs.Tables.StateLimits.{cell_limit}
use Rattle.hz_pipeline_model.specs.Tables.Tables.{Table, row_of, entry, IsTable}
use Rattle.hz_pipeline_model.specs.Tables.Machines.{Machine, IsPart, IsMachine, names_of}
use Rattle.hz_tabtext_model.specs.Texts.{RowText, PartText, TablesText, IsEntry, IsRow, IsPartText, IsTables, part_of, machine_of, TableText, AreRows, IsAskEntry, asks_said}
use Rattle.hz_tabtext_model.specs.Fields.{is_nil}
use Rattle.hz_tabtext_model.specs.Reading.{Rest, row_at, machine_at}
use Rattle.hz_tabtext_model.proofs.TextTakes.{row_at_takes, machine_at_takes}
use Rattle.hz_pipeline_model.specs.Tables.AskColumns.{AsksStay}

-- ---- a part that is said

entries_then : (states number : ℕ) (classes asked : List (Option ℕ)) (advance : ℕ) → number < states → AllByRecursion (IsEntry states) classes → AllByRecursion (IsAskEntry number) asked → advance < states → AllByRecursion (IsEntry states) (classes ++ (asked ++ Some advance ∷ []))
entries_then states number [] [] advance low h stays goes = (goes, tt)
entries_then states number [] (None ∷ asked) advance low h stays goes = (tt, entries_then states number [] asked advance low h stays.1 goes)
entries_then states number [] (Some state ∷ asked) advance low h stays goes = (omega (arith, low, stays.0), entries_then states number [] asked advance low h stays.1 goes)
entries_then states number (e ∷ es) asked advance low h stays goes = (h.0, entries_then states number es asked advance low h.1 stays goes)

asked_entry : (number : ℕ) (asked : List (Option ℕ)) → AllByRecursion (IsAskEntry number) asked → (place next : ℕ) → get_or asked place None ≡ Some next → next ≡ number
asked_entry number [] stays place next e = absurd (cc)
asked_entry number (x ∷ asked) stays zero next e = subst (IsAskEntry number) e stays.0
asked_entry number (x ∷ asked) stays (suc place) next e = asked_entry number asked stays.1 place next e

get_or_after : (xs ys : List (Option ℕ)) (place : ℕ) → get_or (xs ++ ys) (length xs + place) None ≡ get_or ys place None
get_or_after [] ys place = ap (λ (n : ℕ). get_or ys n None) (zero-add place)
get_or_after (x ∷ xs) ys place = let next : suc (length xs) + place ≡ suc (length xs + place) = omega arith in ap (λ (n : ℕ). get_or (x ∷ xs ++ ys) n None) next ∙ get_or_after xs ys place

row_at_of : (columns asks states number : ℕ) (rows : List RowText) → AreRows columns asks states number rows → (i : ℕ) → i < length rows → (d : RowText) → IsRow columns asks states (number + i) (get_or rows i d)
row_at_of columns asks states number [] h i lt d = absurd (omega (arith, lt))
row_at_of columns asks states number (row ∷ rows) h zero lt d = subst (λ (n : ℕ). IsRow columns asks states n row) (sym (add-zero number)) h.0
row_at_of columns asks states number (row ∷ rows) h (suc i) lt d = let next : suc number + i ≡ number + suc i = omega arith in subst (λ (n : ℕ). IsRow columns asks states n (get_or rows i d)) next (row_at_of columns asks states (suc number) rows h.1 i (omega (arith, lt)) d)

entry_below : (states : ℕ) (row : List (Option ℕ)) → AllByRecursion (IsEntry states) row → (column next : ℕ) → get_or row column None ≡ Some next → next < states
entry_below states [] h column next e = absurd (cc)
entry_below states (x ∷ row) h zero next e = subst (IsEntry states) e h.0
entry_below states (x ∷ row) h (suc column) next e = entry_below states row h.1 column next e

-- a state that is no state of a list of rows
no_row : RowText
no_row = record { entries = []; shown = None }

module _ (columns asks : ℕ) (rows : List RowText) (fit : AreRows columns asks (length rows) 0 rows) where
  abbrev table_said : Table
  table_said = map (λ row. row.entries) rows

  row_said : (state : ℕ) → state < length rows → IsRow columns asks (length rows) state (get_or rows state no_row)
  row_said state lt = subst (λ (n : ℕ). IsRow columns asks (length rows) n (get_or rows state no_row)) (zero-add state) (row_at_of columns asks (length rows) 0 rows fit state lt no_row)

  row_is : (state : ℕ) → state < length rows → row_of table_said state ≡ (get_or rows state no_row).entries
  row_is state lt = get_or-map (λ row. row.entries) rows state no_row [] lt

  width_is : (state : ℕ) → state < length rows → length (row_of table_said state) ≡ columns + asks + 1
  width_is state lt =
      let r = row_said state lt in
      let width = r.width in
      let more = r.ask_width in
      ap length (row_is state lt ∙ r.entries) ∙ omega (arith, length-append r.classes (r.asked ++ Some r.advance ∷ []), length-append r.asked (Some r.advance ∷ []), width, more)

  target_is : (state column next : ℕ) → entry table_said state column ≡ Some next → next < length rows
  target_is state column next e = by_state (cases_lt state (length rows))
    where
      by_state : ((state < length rows) ⊎ (length rows ≤ state)) → next < length rows
      by_state (inl lt) =
          let r = row_said state lt in
          entry_below (length rows) (r.classes ++ (r.asked ++ Some r.advance ∷ [])) (entries_then (length rows) state r.classes r.asked r.advance lt r.targets r.stays r.goes) column next (sym (ap (λ (row : List (Option ℕ)). get_or row column None) (row_is state lt ∙ r.entries)) ∙ e)
      by_state (inr far) =
          let none : row_of table_said state ≡ [] = get_or_past table_said state [] (omega (arith, length-map rows (λ (row : RowText). row.entries))) in
          let no_entry : entry table_said state column ≡ None = ap (λ (row : List (Option ℕ)). get_or row column None) none in
          absurd (cc)

  -- an entry after those of classes
  after_classes : (state place : ℕ) (lt : state < length rows) → entry table_said state (columns + place) ≡ get_or ((row_said state lt).asked ++ Some (row_said state lt).advance ∷ []) place None
  after_classes state place lt =
      let r = row_said state lt in
      let at : columns + place ≡ length r.classes + place = ap (λ (n : ℕ). n + place) (sym r.width) in
      ap (λ (row : List (Option ℕ)). get_or row (columns + place) None) (row_is state lt ∙ r.entries) ∙ (ap (λ (n : ℕ). get_or (r.classes ++ (r.asked ++ Some r.advance ∷ [])) n None) at ∙ get_or_after r.classes (r.asked ++ Some r.advance ∷ []) place)

  advance_is : (state : ℕ) → state < length rows → entry table_said state (columns + asks) ≢ None
  advance_is state lt e =
      let r = row_said state lt in
      let there : entry table_said state (columns + asks) ≡ Some r.advance = after_classes state asks lt ∙ get_or_at r.asked (Some r.advance) [] None asks r.ask_width in
      cc

  -- an ask leads to no other state
  asks_stay : AsksStay table_said columns asks
  asks_stay = record { stays = λ state ask next low e. by_state state ask next low e (cases_lt state (length rows)) }
    where
      by_state : (state place next : ℕ) → place < asks → entry table_said state (columns + place) ≡ Some next → ((state < length rows) ⊎ (length rows ≤ state)) → next ≡ state
      by_state state place next low e (inl lt) =
          let r = row_said state lt in
          let front : get_or (r.asked ++ Some r.advance ∷ []) place None ≡ get_or r.asked place None = get_or_append_left r.asked (Some r.advance ∷ []) None place (omega (arith, low, r.ask_width)) in
          asked_entry state r.asked r.stays place next (sym front ∙ (sym (after_classes state place lt) ∙ e))
      by_state state place next low e (inr far) =
          let none : row_of table_said state ≡ [] = get_or_past table_said state [] (omega (arith, length-map rows (λ (row : RowText). row.entries), far)) in
          let no_entry : entry table_said state (columns + place) ≡ None = ap (λ (row : List (Option ℕ)). get_or row (columns + place) None) none in
          absurd (cc)

  table_is : 1 ≤ length rows → IsTable table_said (columns + asks)
  table_is some =
      let long = length-map rows (λ (row : RowText). row.entries) in
      record {
        start = omega (arith, long);
        width = λ state lt. width_is state (omega (arith, long));
        targets = λ state column next e. let lt = target_is state column next e in omega (arith, long);
        advances = λ state lt. advance_is state (omega (arith, long));
      }

pub part_is : (classes : ℕ) (part : PartText) → IsPartText classes part → IsPart classes (part_of part)
part_is classes part h =
    let long = length-map part.rows (λ (row : RowText). row.entries) in
    record {
      each = h.each;
      within = All-from_recursion (λ column. column < part.columns) part.map h.within;
      columns = h.columns;
      asks = h.few_asks;
      table = table_is part.columns (length part.asks) part.rows h.rows h.some;
      stays = asks_stay part.columns (length part.asks) part.rows h.rows;
      cells = subst (λ (n : ℕ). n * (part.columns + length part.asks + 1) ≤ cell_limit) (sym long) h.cells;
    }

parts_are : (classes : ℕ) (parts : List PartText) → AllByRecursion (IsPartText classes) parts → AllByRecursion (IsPart classes) (map part_of parts)
parts_are classes [] h = tt
parts_are classes (part ∷ parts) h = (part_is classes part h.0, parts_are classes parts h.1)

names_said : (parts : List PartText) → names_of (map part_of parts) ≡ asks_said parts
names_said [] = refl
names_said (part ∷ parts) = ap (λ (names : List (List ℕ)). part.asks ++ names) (names_said parts)

pub machine_is : (says : TablesText) → IsTables says → IsMachine (machine_of says)
machine_is says h =
    let some = h.some in
    let few = h.few in
    let long = length-map says.parts part_of in
    record {
      some = omega (arith, long);
      few = omega (arith, long);
      class_count = h.class_count;
      class_names = h.different;
      parts = All-from_recursion (IsPart (length says.classes)) (map part_of says.parts) (parts_are (length says.classes) says.parts h.parts);
      ask_names = subst (λ (names : List (List ℕ)). AllPairs (λ a b. a ≢ b) names) (sym (names_said says.parts)) h.asks;
    }

pub text_machine : (text : List ℕ) (machine : Machine) → TableText text machine → IsMachine machine
text_machine text machine t = subst IsMachine (sym t.stands) (machine_is t.says t.fits)

-- ---- what is read line by line

-- a row that is read has an entry for each column and each ask, and the advance; all of them are states, and those of asks the row's own
pub row_shape : (columns asks states number : ℕ) (rest : Rest) (row : List (Option ℕ)) (after : Rest) → number < states → is_nil rest.lines ≡ false → row_at columns asks states number rest ≡ Ok (row, after)
    → (length row ≡ columns + asks + 1) × AllByRecursion (IsEntry states) row
row_shape columns asks states number rest row after low some e =
    let t = row_at_takes columns asks states number rest (row, after) some e in
    let h = t.fits in
    let same : t.said.entries ≡ row = t.is in
    let width = h.width in
    let more = h.ask_width in
    let parts : row ≡ h.classes ++ (h.asked ++ Some h.advance ∷ []) = sym same ∙ h.entries in
    (ap length parts ∙ omega (arith, length-append h.classes (h.asked ++ Some h.advance ∷ []), length-append h.asked (Some h.advance ∷ []), width, more), subst (AllByRecursion (IsEntry states)) (sym parts) (entries_then states number h.classes h.asked h.advance low h.targets h.stays h.goes))

-- what is read after the header is a machine
pub machine_read : (asked : Bool) (rest : Rest) (machine : Machine) → machine_at asked rest ≡ Ok machine → IsMachine machine
machine_read asked rest machine e = let b = machine_at_takes asked rest machine e in subst IsMachine (sym b.stands) (machine_is b.says b.fits)
