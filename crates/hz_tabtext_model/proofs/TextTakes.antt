-- A text that is read is the spelling of what it says.
use Rattle.std.proofs.Common.{◌≡◌, ◌≢◌, ℕ, zero, suc, ◌+◌, ◌*◌, ◌<◌, ◌≤◌, Bool, true, false, cond, List, [], ◌∷◌, ◌++◌, map, length, get_or, Option, Some, None, Result, Ok, Err, refl, sym, ap, ◌∙◌, subst, arith, append_assoc, decimal, codes, IsFalse, add-zero}
use Rattle.std.specs.Prelude.{IfSome, IsTrue}
use Rattle.std.specs.List.{AllByRecursion, AllPairs, list_any, flat_map}
use Rattle.std.specs.Str.{bytes_eq}
use Rattle.std.proofs.lemmas.Bool.{or_parts, not-true, both_ways}
use Rattle.std.proofs.lemmas.List.{map-append, append-nil}
use Rattle.std.proofs.lemmas.List.Quantifiers.{all_pairs_push}
use Rattle.std.proofs.lemmas.Slice.Eq.{bytes_eq-Decides}
use Rattle.hz_base_model.specs.Names.{is_name}
use Rattle.hz_pipeline_model.specs.Tables.StateLimits.{cell_limit}
use Rattle.hz_pipeline_model.specs.Tables.Machines as machines
use Rattle.hz_tabtext_model.specs.Judging.{Kind, truncated, trailing, Fault, ◌>>=◌}
use Rattle.hz_tabtext_model.specs.Fields.{is_nil, fields_of, is_headed}
use Rattle.hz_tabtext_model.specs.Lines.{Nothing, header_in, treatment_in, classes_in, class_in, automata_in, Head, head_in, map_in, counts_in, row_in, origin_in, grid_in, end_in, asks_in}
use Rattle.hz_tabtext_model.specs.Reading.{Rest, at_line, judged, first_by, line_by, so_many, classes_at, comes, counts_at, grids_from, shown_at, row_at, part_at, is_over, machine_at, lines_in, tables_in, next_row, more_asks, asks_at}
use Rattle.hz_tabtext_model.specs.Texts.{Shown, RowText, Counts, PartText, TablesText, joined, entries_line, origin_line, grid_line, shown_lines, row_lines, counts_lines, head_line, map_line, part_lines, treatment_line, class_line, tables_lines, IsPair, IsShown, IsRow, AreCounts, IsPartText, IsTables, part_of, machine_of, TableText, asks_lines, header_line, AreRows, asks_said}
use Rattle.hz_tabtext_model.proofs.Steps.{bind_ok, guard_ok, unless_ok, ok_is}
use Rattle.hz_tabtext_model.proofs.FieldLaws.{text_of_lines}
use Rattle.hz_tabtext_model.proofs.LineTakes.{header_takes, end_takes, treatment_takes, classes_take, class_takes, automata_take, head_takes, map_takes, counts_take, row_takes, origin_takes, grid_takes, AreNew, AreAsks, asks_take}

-- ---- one line

at_line_ok : {A : Type 0} (number : ℕ) (r : Result A Kind) (x : A) → at_line number r ≡ Ok x → r ≡ Ok x
at_line_ok number (Ok y) x e = ap Ok (ok_is {E = Fault} y x e)
at_line_ok number (Err kind) x e = absurd (cc)

judged_takes : {A : Type 0} (judge : List ℕ → Result A Kind) (number : ℕ) (line : List ℕ) (others : List (List ℕ)) (x : A) → judged judge number line others ≡ Ok x → (is_nil others ≡ false) × (judge line ≡ Ok x)
judged_takes judge number line others x e = unless_ok (is_nil others) (judge line) truncated x (at_line_ok number (cond (is_nil others) (Err truncated) (judge line)) x e)

-- What a line was: it was judged so, and others are left.
record Line {A : Type 0} (judge : List ℕ → Result A Kind) (rest : Rest) (x : A) (after : Rest) : Type 0 where
  line : List ℕ
  judged : judge line ≡ Ok x
  parts : rest.lines ≡ line ∷ after.lines
  left : is_nil after.lines ≡ false

first_takes : {A : Type 0} (judge : List ℕ → Result A Kind) (number : ℕ) (lines : List (List ℕ)) (y : A × Rest) → first_by judge number lines ≡ Ok y → Line judge (record { number = number; lines = lines }) y.0 y.1
first_takes judge number [] y e = absurd (cc)
first_takes {A = A} judge number (line ∷ others) y e =
    let b = bind_ok (judged judge number line others) (λ x. Ok (x, record { number = number + 1; lines = others })) y e in
    let t = judged_takes judge number line others b.0 b.1 in
    let made : A × Rest = (b.0, record { number = number + 1; lines = others }) in
    subst (λ (z : A × Rest). Line judge (record { number = number; lines = line ∷ others }) z.0 z.1) (ok_is {E = Fault} made y b.2) (record { line = line; judged = t.1; parts = refl; left = t.0 })

line_takes : {A : Type 0} (judge : List ℕ → Result A Kind) (rest : Rest) (y : A × Rest) → line_by judge rest ≡ Ok y → Line judge rest y.0 y.1
line_takes judge rest y e = first_takes judge rest.number rest.lines y e

-- ---- lines that were taken

-- Between two rests stand these lines.
pub record Taken (rest : Rest) (lines : List (List (List ℕ))) (after : Rest) : Type 0 where
  pub parts : rest.lines ≡ map joined lines ++ after.lines
  pub left : is_nil after.lines ≡ false

taken_none : (rest : Rest) → is_nil rest.lines ≡ false → Taken rest [] rest
taken_none rest some = record { parts = refl; left = some }

taken_one : {A : Type 0} (judge : List ℕ → Result A Kind) (rest : Rest) (x : A) (after : Rest) (fields : List (List ℕ)) (l : Line judge rest x after) → l.line ≡ joined fields → Taken rest (fields ∷ []) after
taken_one judge rest x after fields l is = record { parts = l.parts ∙ ap (λ (b : List ℕ). b ∷ after.lines) is; left = l.left }

taken_then : (a b c : Rest) (ls ms : List (List (List ℕ))) → Taken a ls b → Taken b ms c → Taken a (ls ++ ms) c
taken_then a b c ls ms p q = record {
  parts = p.parts ∙ (ap (λ (xs : List (List ℕ)). map joined ls ++ xs) q.parts ∙ (sym (append_assoc (map joined ls) (map joined ms) c.lines) ∙ ap (λ (xs : List (List ℕ)). xs ++ c.lines) (sym (map-append joined ls ms))));
  left = q.left;
}

-- ---- so many

-- each of a list, by what is known before it
abbrev pub AllFrom : {S X : Type 0} → (next : S → X → S) → (P : S → X → Type 0) → S → List X → Type 0
AllFrom next P known [] = Unit {0}
AllFrom next P known (x ∷ xs) = P known x × AllFrom next P (next known x) xs

module _ {S : Type 0} {A : Type 0} {X : Type 0} (next : S → A → S) (read : S → Rest → Result (A × Rest) Fault) (spell : X → List (List (List ℕ))) (view : X → A) (P : S → X → Type 0) where
  -- what is known after what was said
  abbrev pub after_said : S → X → S
  after_said known x = next known (view x)

  -- what one reading found
  pub record One (known : S) (rest : Rest) (x : A) (after : Rest) : Type 0 where
    pub said : X
    pub fits : P known said
    pub is : view said ≡ x
    pub taken : Taken rest (spell said) after

  pub record Many (n : ℕ) (known : S) (rest : Rest) (xs : List A) (after : Rest) : Type 0 where
    pub said : List X
    pub fits : AllFrom after_said P known said
    pub are : map view said ≡ xs
    pub each : length said ≡ n
    pub taken : Taken rest (flat_map spell said) after

  pub many_take : ((known : S) (rest : Rest) (y : A × Rest) → is_nil rest.lines ≡ false → read known rest ≡ Ok y → One known rest y.0 y.1)
      → (n : ℕ) (known : S) (rest : Rest) (y : List A × Rest) → is_nil rest.lines ≡ false → so_many next read n known rest ≡ Ok y → Many n known rest y.0 y.1
  unfolding so_many
  many_take one zero known rest y some e =
      let made : List A × Rest = ([], rest) in
      subst (λ (z : List A × Rest). Many zero known rest z.0 z.1) (ok_is {E = Fault} made y e) (record { said = []; fits = tt; are = refl; each = refl; taken = taken_none rest some })
  many_take one (suc n) known rest y some e =
      let a = bind_ok (read known rest) (λ first. so_many next read n (next known first.0) first.1 >>= λ others. Ok (first.0 ∷ others.0, others.1)) y e in
      let b = bind_ok (so_many next read n (next known a.0.0) a.0.1) (λ others. Ok (a.0.0 ∷ others.0, others.1)) y a.2 in
      let first = one known rest a.0 some a.1 in
      let later = many_take one n (next known a.0.0) a.0.1 b.0 first.taken.left b.1 in
      let made : List A × Rest = (a.0.0 ∷ b.0.0, b.0.1) in
      subst (λ (z : List A × Rest). Many (suc n) known rest z.0 z.1) (ok_is {E = Fault} made y b.2)
      (record {
        said = first.said ∷ later.said;
        fits = (first.fits, subst (λ (s : S). AllFrom after_said P s later.said) (ap (next known) (sym first.is)) later.fits);
        are = ap (λ (x : A). x ∷ map view later.said) first.is ∙ ap (λ (xs : List A). a.0.0 ∷ xs) later.are;
        each = ap suc later.each;
        taken = taken_then rest a.0.1 b.0.1 (spell first.said) (flat_map spell later.said) first.taken later.taken;
      })

-- ---- classes

record Classes (n : ℕ) (before : List (List ℕ)) (rest : Rest) (all : List (List ℕ)) (after : Rest) : Type 0 where
  names : List (List ℕ)
  are : all ≡ before ++ names
  each : length names ≡ n
  named : AllByRecursion (λ name. IsTrue (is_name name)) names
  new : AreNew before names
  taken : Taken rest (map class_line names) after

classes_at_take : (n : ℕ) (before : List (List ℕ)) (rest : Rest) (y : List (List ℕ) × Rest) → is_nil rest.lines ≡ false → classes_at n before rest ≡ Ok y → Classes n before rest y.0 y.1
unfolding classes_at
classes_at_take zero before rest y some e =
    let made : List (List ℕ) × Rest = (before, rest) in
    subst (λ (z : List (List ℕ) × Rest). Classes zero before rest z.0 z.1) (ok_is {E = Fault} made y e)
    (record { names = []; are = sym (append-nil before); each = refl; named = tt; new = tt; taken = taken_none rest some })
classes_at_take (suc n) before rest y some e =
    let a = bind_ok (line_by (class_in before) rest) (λ class. classes_at n (before ++ class.0 ∷ []) class.1) y e in
    let l = line_takes (class_in before) rest a.0 a.1 in
    let t = class_takes before l.line a.0.0 l.judged in
    let later = classes_at_take n (before ++ a.0.0 ∷ []) a.0.1 y l.left a.2 in
    record {
      names = a.0.0 ∷ later.names;
      are = later.are ∙ append_assoc before (a.0.0 ∷ []) later.names;
      each = ap suc later.each;
      named = (t.1, later.named);
      new = (t.2, later.new);
      taken = taken_then rest a.0.1 y.1 (class_line a.0.0 ∷ []) (map class_line later.names) (taken_one (class_in before) rest a.0.0 a.0.1 (class_line a.0.0) l t.0) later.taken;
    }

abbrev Differ : List (List ℕ) → Type 0
Differ names = AllPairs (λ a b. a ≢ b) names

-- a new name differs from each before it
new_differs : (before : List (List ℕ)) (name : List ℕ) → list_any (bytes_eq name) before ≡ false → (k : ℕ) (d : List ℕ) → k < length before → get_or before k d ≢ name
new_differs [] name h k d lt = absurd (omega arith)
new_differs (b ∷ bs) name h zero d lt = λ e. both_ways (bytes_eq name b) (or_parts (bytes_eq name b) (list_any (bytes_eq name) bs) h).0 ((bytes_eq-Decides name b).1 (sym e))
new_differs (b ∷ bs) name h (suc k) d lt = new_differs bs name (or_parts (bytes_eq name b) (list_any (bytes_eq name) bs) h).1 k d (omega arith)

new_names_differ : (before names : List (List ℕ)) → Differ before → AreNew before names → Differ (before ++ names)
new_names_differ before [] h new = subst Differ (sym (append-nil before)) h
new_names_differ before (name ∷ names) h new =
    let more = all_pairs_push (λ a b. a ≢ b) before name h (new_differs before name (not-true (list_any (bytes_eq name) before) new.0)) in
    subst Differ (append_assoc before (name ∷ []) names) (new_names_differ (before ++ name ∷ []) names more new.1)

no_pairs : Differ []
no_pairs i j d lt within = absurd (omega arith)

pub new_names : (names : List (List ℕ)) → AreNew [] names → Differ names
new_names names new = new_names_differ [] names no_pairs new

-- ---- what is reported of a state

record Grids (rest : Rest) (after : Rest) : Type 0 where
  grids : List (List (ℕ × List ℕ))
  fits : AllByRecursion (AllByRecursion IsPair) grids
  taken : Taken rest (map grid_line grids) after

grids_take : (number : ℕ) (lines : List (List ℕ)) (after : Rest) → is_nil lines ≡ false → grids_from number lines ≡ Ok after → Grids (record { number = number; lines = lines }) after
unfolding grids_from
grids_take number [] after some e = absurd (cc)
grids_take number (line ∷ others) after some e = by_word (λ left h. grids_take (number + 1) others after left h) (is_headed (codes "grid") (fields_of line)) e
  where
    by_word : (is_nil others ≡ false → grids_from (number + 1) others ≡ Ok after → Grids (record { number = number + 1; lines = others }) after) → (b : Bool) → cond b (judged grid_in number line others >>= λ x. grids_from (number + 1) others) (Ok (record { number = number; lines = line ∷ others })) ≡ Ok after → Grids (record { number = number; lines = line ∷ others }) after
    by_word more true h =
        let b = bind_ok (judged grid_in number line others) (λ x. grids_from (number + 1) others) after h in
        let j = judged_takes grid_in number line others b.0 b.1 in
        let g = grid_takes line b.0 j.1 in
        let next : Rest = record { number = number + 1; lines = others } in
        let later = more j.0 b.2 in
        let here : Taken (record { number = number; lines = line ∷ others }) (grid_line g.0 ∷ []) next = record { parts = ap (λ (l : List ℕ). l ∷ others) g.2; left = j.0 } in
        record { grids = g.0 ∷ later.grids; fits = (g.1, later.fits); taken = taken_then (record { number = number; lines = line ∷ others }) next after (grid_line g.0 ∷ []) (map grid_line later.grids) here later.taken }
    by_word more false h =
        let made : Rest = record { number = number; lines = line ∷ others } in
        subst (Grids (record { number = number; lines = line ∷ others })) (ok_is {E = Fault} made after h) (record { grids = []; fits = tt; taken = taken_none (record { number = number; lines = line ∷ others }) refl })

record ShownOf (columns states : ℕ) (rest : Rest) (after : Rest) : Type 0 where
  shown : Option Shown
  fits : IfSome shown (IsShown columns states)
  taken : Taken rest (shown_lines shown) after

shown_takes : (columns states : ℕ) (rest after : Rest) → is_nil rest.lines ≡ false → shown_at columns states rest ≡ Ok after → ShownOf columns states rest after
unfolding shown_at
shown_takes columns states rest after some e = by_word (comes (codes "from") rest) e
  where
    by_word : (b : Bool) → cond b (line_by (origin_in columns states) rest >>= λ x. grids_from x.1.number x.1.lines) (Ok rest) ≡ Ok after → ShownOf columns states rest after
    by_word true h =
        let b = bind_ok (line_by (origin_in columns states) rest) (λ x. grids_from x.1.number x.1.lines) after h in
        let l = line_takes (origin_in columns states) rest b.0 b.1 in
        let o = origin_takes columns states l.line b.0.0 l.judged in
        let g = grids_take b.0.1.number b.0.1.lines after l.left b.2 in
        let made : Shown = record { origin = o.0; grids = g.grids } in
        record {
          shown = Some made;
          fits = record { origin = o.1; grids = g.fits };
          taken = taken_then rest b.0.1 after (origin_line o.0 ∷ []) (map grid_line g.grids) (taken_one (origin_in columns states) rest b.0.0 b.0.1 (origin_line o.0) l o.2) g.taken;
        }
    by_word false h = subst (ShownOf columns states rest) (ok_is {E = Fault} rest after h) (record { shown = None; fits = tt; taken = taken_none rest some })

-- ---- states

-- the entries of a row
abbrev pub row_view : RowText → List (Option ℕ)
row_view row = row.entries

pub row_at_takes : (columns asks states number : ℕ) (rest : Rest) (y : List (Option ℕ) × Rest) → is_nil rest.lines ≡ false → row_at columns asks states number rest ≡ Ok y
    → One next_row (row_at columns asks states) row_lines row_view (IsRow columns asks states) number rest y.0 y.1
unfolding row_at
row_at_takes columns asks states number rest y some e =
    let a = bind_ok (line_by (row_in columns asks states number) rest) (λ row. shown_at columns states row.1 >>= λ after. Ok (row.0, after)) y e in
    let b = bind_ok (shown_at columns states a.0.1) (λ after. Ok (a.0.0, after)) y a.2 in
    let l = line_takes (row_in columns asks states number) rest a.0 a.1 in
    let t = row_takes columns asks states number l.line a.0.0 l.judged in
    let s = shown_takes columns states a.0.1 b.0 l.left b.1 in
    let made : List (Option ℕ) × Rest = (a.0.0, b.0) in
    let row : RowText = record { entries = a.0.0; shown = s.shown } in
    subst (λ (z : List (Option ℕ) × Rest). One next_row (row_at columns asks states) row_lines row_view (IsRow columns asks states) number rest z.0 z.1) (ok_is {E = Fault} made y b.2)
    (record {
      said = row;
      fits = record { classes = t.1.classes; asked = t.1.asked; advance = t.1.advance; entries = t.1.both; width = t.1.width; targets = t.1.targets; ask_width = t.1.ask_width; stays = t.1.stays; goes = t.1.goes; shown = s.fits };
      is = refl;
      taken = taken_then rest a.0.1 b.0 (entries_line a.0.0 ∷ []) (shown_lines s.shown) (taken_one (row_in columns asks states number) rest a.0.0 a.0.1 (entries_line a.0.0) l t.0) s.taken;
    })

-- rows, each by its number
rows_from : (columns asks states number : ℕ) (rows : List RowText) → AllFrom (λ (n : ℕ) (row : RowText). suc n) (IsRow columns asks states) number rows → AreRows columns asks states number rows
rows_from columns asks states number [] h = tt
rows_from columns asks states number (row ∷ rows) h = (h.0, rows_from columns asks states (suc number) rows h.1)

-- ---- automata

record CountsOf (rest : Rest) (after : Rest) : Type 0 where
  counts : Option Counts
  fits : IfSome counts AreCounts
  taken : Taken rest (counts_lines counts) after

counts_at_take : (rest after : Rest) → is_nil rest.lines ≡ false → counts_at rest ≡ Ok after → CountsOf rest after
unfolding counts_at
counts_at_take rest after some e = by_word (comes (codes "stats") rest) e
  where
    by_word : (b : Bool) → cond b (line_by counts_in rest >>= λ x. Ok x.1) (Ok rest) ≡ Ok after → CountsOf rest after
    by_word true h =
        let b = bind_ok (line_by counts_in rest) (λ x. Ok x.1) after h in
        let l = line_takes counts_in rest b.0 b.1 in
        let c = counts_take l.line b.0.0 l.judged in
        subst (CountsOf rest) (ok_is {E = Fault} b.0.1 after b.2)
        (record { counts = Some c.0; fits = c.1; taken = taken_one counts_in rest b.0.0 b.0.1 (codes "stats" ∷ decimal c.0.grids ∷ decimal c.0.states ∷ decimal c.0.members ∷ []) l c.2 })
    by_word false h = subst (CountsOf rest) (ok_is {E = Fault} rest after h) (record { counts = None; fits = tt; taken = taken_none rest some })

record AsksOf (asked : Bool) (columns states : ℕ) (before : List (List ℕ)) (rest : Rest) (asks : List (List ℕ)) (after : Rest) : Type 0 where
  fits : AreAsks columns states before asks
  none : asked ≡ false → asks ≡ []
  taken : Taken rest (asks_lines asked asks) after

asks_at_take : (asked : Bool) (columns states : ℕ) (before : List (List ℕ)) (rest : Rest) (y : List (List ℕ) × Rest) → states * (columns + 1) ≤ cell_limit → is_nil rest.lines ≡ false → asks_at asked columns states before rest ≡ Ok y → AsksOf asked columns states before rest y.0 y.1
unfolding asks_at
asks_at_take true columns states before rest y cells some e =
    let l = line_takes (asks_in columns states before) rest y e in
    let t = asks_take columns states before l.line y.0 l.judged in
    record { fits = t.1; none = λ no. absurd (cc); taken = taken_one (asks_in columns states before) rest y.0 y.1 (codes "asks" ∷ y.0) l t.0 }
asks_at_take false columns states before rest y cells some e =
    let made : List (List ℕ) × Rest = ([], rest) in
    subst (λ (z : List (List ℕ) × Rest). AsksOf false columns states before rest z.0 z.1) (ok_is {E = Fault} made y e)
    (record { fits = record { named = tt; new = tt; few = omega arith; cells = subst (λ (n : ℕ). states * (n + 1) ≤ cell_limit) (sym (add-zero columns)) cells }; none = λ no. refl; taken = taken_none rest some })

-- What holds of an automaton beside so many classes and these asks: without lines of asks it has none.
pub record FitsBeside (asked : Bool) (classes : ℕ) (before : List (List ℕ)) (part : PartText) : Type 0 where
  pub fits : IsPartText classes part
  pub new : AreNew before part.asks
  pub none : asked ≡ false → part.asks ≡ []

part_at_takes : (asked : Bool) (classes : ℕ) (before : List (List ℕ)) (rest : Rest) (y : machines.Part × Rest) → is_nil rest.lines ≡ false → part_at asked classes before rest ≡ Ok y → One more_asks (part_at asked classes) (part_lines asked) part_of (FitsBeside asked classes) before rest y.0 y.1
unfolding part_at
part_at_takes asked classes before rest y some e =
    let a = bind_ok (line_by (head_in classes) rest)
    (λ head. line_by (map_in classes head.0.columns) head.1 >>= λ columns. asks_at asked head.0.columns head.0.states before columns.1 >>= λ asks. counts_at asks.1 >>= λ after. so_many next_row (row_at head.0.columns (length asks.0) head.0.states) head.0.states 0 after >>= λ rows.
    Ok (record { name = head.0.name; map = columns.0; columns = head.0.columns; asks = asks.0; rows = rows.0 }, rows.1)) y e in
    let b = bind_ok (line_by (map_in classes a.0.0.columns) a.0.1)
    (λ columns. asks_at asked a.0.0.columns a.0.0.states before columns.1 >>= λ asks. counts_at asks.1 >>= λ after. so_many next_row (row_at a.0.0.columns (length asks.0) a.0.0.states) a.0.0.states 0 after >>= λ rows.
    Ok (record { name = a.0.0.name; map = columns.0; columns = a.0.0.columns; asks = asks.0; rows = rows.0 }, rows.1)) y a.2 in
    let k = bind_ok (asks_at asked a.0.0.columns a.0.0.states before b.0.1)
    (λ asks. counts_at asks.1 >>= λ after. so_many next_row (row_at a.0.0.columns (length asks.0) a.0.0.states) a.0.0.states 0 after >>= λ rows.
    Ok (record { name = a.0.0.name; map = b.0.0; columns = a.0.0.columns; asks = asks.0; rows = rows.0 }, rows.1)) y b.2 in
    let c = bind_ok (counts_at k.0.1) (λ after. so_many next_row (row_at a.0.0.columns (length k.0.0) a.0.0.states) a.0.0.states 0 after >>= λ rows. Ok (record { name = a.0.0.name; map = b.0.0; columns = a.0.0.columns; asks = k.0.0; rows = rows.0 }, rows.1)) y k.2 in
    let d = bind_ok (so_many next_row (row_at a.0.0.columns (length k.0.0) a.0.0.states) a.0.0.states 0 c.0) (λ rows. Ok (record { name = a.0.0.name; map = b.0.0; columns = a.0.0.columns; asks = k.0.0; rows = rows.0 }, rows.1)) y c.2 in
    made a.0.0 a.0.1 b.0.0 b.0.1 k.0.0 k.0.1 c.0 d.0.0 d.0.1 (line_takes (head_in classes) rest a.0 a.1) (line_takes (map_in classes a.0.0.columns) a.0.1 b.0 b.1) k.1 c.1 d.1 (ok_is {E = Fault} _ y d.2)
  where
    made : (head : Head) (one : Rest) (places : List ℕ) (two : Rest) (asks : List (List ℕ)) (beside three : Rest) (rows : List (List (Option ℕ))) (four : Rest) (l : Line (head_in classes) rest head one) (k : Line (map_in classes head.columns) one places two)
        → asks_at asked head.columns head.states before two ≡ Ok (asks, beside) → counts_at beside ≡ Ok three → so_many next_row (row_at head.columns (length asks) head.states) head.states 0 three ≡ Ok (rows, four)
        → ◌≡◌ {A = machines.Part × Rest} (record { name = head.name; map = places; columns = head.columns; asks = asks; rows = rows }, four) y → One more_asks (part_at asked classes) (part_lines asked) part_of (FitsBeside asked classes) before rest y.0 y.1
    made head one places two asks beside three rows four l k asking counted looped is =
        let h = head_takes classes l.line head l.judged in
        let m = map_takes classes head.columns k.line places k.judged in
        let n = asks_at_take asked head.columns head.states before two (asks, beside) h.1.cells k.left asking in
        let c = counts_at_take beside three n.taken.left counted in
        let r = many_take next_row (row_at head.columns (length asks) head.states) row_lines row_view (IsRow head.columns (length asks) head.states) (row_at_takes head.columns (length asks) head.states) head.states 0 three (rows, four) c.taken.left looped in
        let part : PartText = record { name = head.name; columns = head.columns; map = places; asks = asks; counts = c.counts; rows = r.said } in
        let each = r.each in
        let head_is : joined (codes "automaton" ∷ head.name ∷ decimal head.columns ∷ decimal head.states ∷ []) ≡ joined (head_line part) = ap (λ (n : ℕ). joined (codes "automaton" ∷ head.name ∷ decimal head.columns ∷ decimal n ∷ [])) (sym each) in
        let tail = counts_lines c.counts ++ flat_map row_lines r.said in
        let first = taken_one (head_in classes) rest head one (head_line part) l (h.0 ∙ head_is) in
        let second = taken_one (map_in classes head.columns) one places two (map_line places) k m.0 in
        let third = taken_then beside three four (counts_lines c.counts) (flat_map row_lines r.said) c.taken r.taken in
        let asked_too = taken_then two beside four (asks_lines asked asks) tail n.taken third in
        let whole = taken_then rest one four (head_line part ∷ []) (map_line places ∷ (asks_lines asked asks ++ tail)) first (taken_then one two four (map_line places ∷ []) (asks_lines asked asks ++ tail) second asked_too) in
        let low = h.1.some in
        let few = h.1.few in
        let cells = subst (λ (n : ℕ). n * (head.columns + length asks + 1) ≤ cell_limit) (sym each) n.fits.cells in
        let rows_fit = subst (λ (n : ℕ). AreRows head.columns (length asks) n 0 r.said) (sym each) (rows_from head.columns (length asks) head.states 0 r.said r.fits) in
        let view_is : part_of part ≡ record { name = head.name; map = places; columns = head.columns; asks = asks; rows = rows } = ap (λ (xs : List (List (Option ℕ))). record { name = head.name; map = places; columns = head.columns; asks = asks; rows = xs }) r.are in
        subst (λ (z : machines.Part × Rest). One more_asks (part_at asked classes) (part_lines asked) part_of (FitsBeside asked classes) before rest z.0 z.1) is
        (record {
          said = part;
          fits = record {
            fits = record { name = h.1.name; columns = h.1.columns; some = omega (arith, low, each); few = omega (arith, few, each); each = m.1; within = m.2; asks = n.fits.named; few_asks = n.fits.few; cells = cells; counts = c.fits; rows = rows_fit };
            new = n.fits.new;
            none = n.none;
          };
          is = view_is;
          taken = whole;
        })

-- automata that fit one after the other
abbrev pub BesideAll : (asked : Bool) (classes : ℕ) (before : List (List ℕ)) → List PartText → Type 0
BesideAll asked classes = AllFrom (λ (before : List (List ℕ)) (part : PartText). before ++ part.asks) (FitsBeside asked classes)

parts_fit : (asked : Bool) (classes : ℕ) (before : List (List ℕ)) (parts : List PartText) → BesideAll asked classes before parts → AllByRecursion (IsPartText classes) parts
parts_fit asked classes before [] h = tt
parts_fit asked classes before (part ∷ parts) h = (h.0.fits, parts_fit asked classes (before ++ part.asks) parts h.1)

asks_differ : (asked : Bool) (classes : ℕ) (before : List (List ℕ)) (parts : List PartText) → Differ before → BesideAll asked classes before parts → Differ (before ++ asks_said parts)
asks_differ asked classes before [] differ h = subst Differ (sym (append-nil before)) differ
asks_differ asked classes before (part ∷ parts) differ h =
    subst Differ (append_assoc before part.asks (asks_said parts)) (asks_differ asked classes (before ++ part.asks) parts (new_names_differ before part.asks differ h.0.new) h.1)

no_asks : (classes : ℕ) (before : List (List ℕ)) (parts : List PartText) → BesideAll false classes before parts → asks_said parts ≡ []
no_asks classes before [] h = refl
no_asks classes before (part ∷ parts) h = ap (λ (names : List (List ℕ)). names ++ asks_said parts) (h.0.none refl) ∙ no_asks classes (before ++ part.asks) parts h.1

no_asks_at : (classes : ℕ) (asked : Bool) → IsFalse asked → (parts : List PartText) → BesideAll asked classes [] parts → asks_said parts ≡ []
no_asks_at classes false is parts h = no_asks classes [] parts h
no_asks_at classes true is parts h = absurd (cc)

-- ---- the whole

over_is : (lines : List (List ℕ)) → is_nil lines ≡ false → is_over lines ≡ true → lines ≡ [] ∷ []
over_is [] some h = absurd (cc)
over_is ([] ∷ []) some h = refl
over_is ((b ∷ bs) ∷ others) some h = absurd (cc)
over_is ([] ∷ line ∷ others) some h = absurd (cc)

end_is : codes "end" ≡ joined (codes "end" ∷ [])
unfolding joined
end_is = refl

-- What comes after the header of a text that is read.
pub record Beyond (asked : Bool) (rest : Rest) (machine : machines.Machine) : Type 0 where
  pub says : TablesText
  pub fits : IsTables says
  pub stands : machine ≡ machine_of says
  pub version : says.asked ≡ asked
  pub parts : rest.lines ≡ map joined (treatment_line says.ndfa ∷ (codes "classes" ∷ decimal (length says.classes) ∷ []) ∷ (map class_line says.classes ++ (codes "automata" ∷ decimal (length says.parts) ∷ []) ∷ (flat_map (part_lines asked) says.parts ++ (codes "end" ∷ []) ∷ []))) ++ [] ∷ []

pub machine_at_takes : (asked : Bool) (rest : Rest) (machine : machines.Machine) → machine_at asked rest ≡ Ok machine → Beyond asked rest machine
unfolding machine_at
machine_at_takes asked rest machine e =
    let a = bind_ok (line_by treatment_in rest)
    (λ treatment. line_by classes_in treatment.1 >>= λ count. classes_at count.0 [] count.1 >>= λ classes. line_by automata_in classes.1 >>= λ automata. so_many more_asks (part_at asked count.0) automata.0 [] automata.1 >>= λ parts. line_by end_in parts.1 >>= λ last.
    cond (is_over last.1.lines) (Ok (record { classes = classes.0; parts = parts.0 })) (Err (record { kind = trailing; line = last.1.number }))) machine e in
    let b = bind_ok (line_by classes_in a.0.1)
    (λ count. classes_at count.0 [] count.1 >>= λ classes. line_by automata_in classes.1 >>= λ automata. so_many more_asks (part_at asked count.0) automata.0 [] automata.1 >>= λ parts. line_by end_in parts.1 >>= λ last.
    cond (is_over last.1.lines) (Ok (record { classes = classes.0; parts = parts.0 })) (Err (record { kind = trailing; line = last.1.number }))) machine a.2 in
    let c = bind_ok (classes_at b.0.0 [] b.0.1)
    (λ classes. line_by automata_in classes.1 >>= λ automata. so_many more_asks (part_at asked b.0.0) automata.0 [] automata.1 >>= λ parts. line_by end_in parts.1 >>= λ last.
    cond (is_over last.1.lines) (Ok (record { classes = classes.0; parts = parts.0 })) (Err (record { kind = trailing; line = last.1.number }))) machine b.2 in
    let d = bind_ok (line_by automata_in c.0.1)
    (λ automata. so_many more_asks (part_at asked b.0.0) automata.0 [] automata.1 >>= λ parts. line_by end_in parts.1 >>= λ last.
    cond (is_over last.1.lines) (Ok (record { classes = c.0.0; parts = parts.0 })) (Err (record { kind = trailing; line = last.1.number }))) machine c.2 in
    let f = bind_ok (so_many more_asks (part_at asked b.0.0) d.0.0 [] d.0.1)
    (λ parts. line_by end_in parts.1 >>= λ last. cond (is_over last.1.lines) (Ok (record { classes = c.0.0; parts = parts.0 })) (Err (record { kind = trailing; line = last.1.number }))) machine d.2 in
    let g = bind_ok (line_by end_in f.0.1) (λ last. cond (is_over last.1.lines) (Ok (record { classes = c.0.0; parts = f.0.0 })) (Err (record { kind = trailing; line = last.1.number }))) machine f.2 in
    let over = guard_ok (is_over g.0.1.lines) (Ok (record { classes = c.0.0; parts = f.0.0 })) (record { kind = trailing; line = g.0.1.number }) machine g.2 in
    made a.0.0 a.0.1 b.0.0 b.0.1 c.0.0 c.0.1 d.0.0 d.0.1 f.0.0 f.0.1 g.0.0 g.0.1
    (line_takes treatment_in rest a.0 a.1) (line_takes classes_in a.0.1 b.0 b.1) c.1 (line_takes automata_in c.0.1 d.0 d.1) f.1 (line_takes end_in f.0.1 g.0 g.1) over.0 (ok_is {E = Fault} _ machine over.1)
  where
    made : (ndfa : Bool) (one : Rest) (count : ℕ) (two : Rest) (classes : List (List ℕ)) (three : Rest) (automata : ℕ) (four : Rest) (parts : List machines.Part) (five : Rest) (x : Nothing) (six : Rest)
        (l : Line treatment_in rest ndfa one) (k : Line classes_in one count two) → classes_at count [] two ≡ Ok (classes, three) → (j : Line automata_in three automata four)
        → so_many more_asks (part_at asked count) automata [] four ≡ Ok (parts, five) → (i : Line end_in five x six) → is_over six.lines ≡ true
        → ◌≡◌ {A = machines.Machine} (record { classes = classes; parts = parts }) machine → Beyond asked rest machine
    made ndfa one count two classes three automata four parts five x six l k named j looped i over is =
        let c = classes_at_take count [] two (classes, three) k.left named in
        let n = classes_take k.line count k.judged in
        let m = automata_take j.line automata j.judged in
        let p = many_take more_asks (part_at asked count) (part_lines asked) part_of (FitsBeside asked count) (part_at_takes asked count) automata [] four (parts, five) j.left looped in
        let each = c.each in
        let all = p.each in
        let says : TablesText = record { asked = asked; ndfa = ndfa; classes = c.names; parts = p.said } in
        let first = taken_one treatment_in rest ndfa one (treatment_line ndfa) l (treatment_takes l.line ndfa l.judged) in
        let second = taken_one classes_in one count two (codes "classes" ∷ decimal (length c.names) ∷ []) k (n.0 ∙ ap (λ (z : ℕ). joined (codes "classes" ∷ decimal z ∷ [])) (sym each)) in
        let fourth = taken_one automata_in three automata four (codes "automata" ∷ decimal (length p.said) ∷ []) j (m.0 ∙ ap (λ (z : ℕ). joined (codes "automata" ∷ decimal z ∷ [])) (sym all)) in
        let sixth = taken_one end_in five x six (codes "end" ∷ []) i (end_takes i.line x i.judged ∙ end_is) in
        let fifth = taken_then four five six (flat_map (part_lines asked) p.said) ((codes "end" ∷ []) ∷ []) p.taken sixth in
        let late = taken_then three four six ((codes "automata" ∷ decimal (length p.said) ∷ []) ∷ []) (flat_map (part_lines asked) p.said ++ (codes "end" ∷ []) ∷ []) fourth fifth in
        let middle = taken_then two three six (map class_line c.names) ((codes "automata" ∷ decimal (length p.said) ∷ []) ∷ (flat_map (part_lines asked) p.said ++ (codes "end" ∷ []) ∷ [])) c.taken late in
        let beyond = taken_then one two six ((codes "classes" ∷ decimal (length c.names) ∷ []) ∷ []) (map class_line c.names ++ (codes "automata" ∷ decimal (length p.said) ∷ []) ∷ (flat_map (part_lines asked) p.said ++ (codes "end" ∷ []) ∷ [])) second middle in
        let whole = taken_then rest one six (treatment_line ndfa ∷ []) ((codes "classes" ∷ decimal (length c.names) ∷ []) ∷ (map class_line c.names ++ (codes "automata" ∷ decimal (length p.said) ∷ []) ∷ (flat_map (part_lines asked) p.said ++ (codes "end" ∷ []) ∷ []))) first beyond in
        let low = n.1 in
        let some = m.1 in
        let few = m.2 in
        let fit = subst (λ (z : ℕ). AllByRecursion (IsPartText z) p.said) (sym each) (parts_fit asked count [] p.said p.fits) in
        let same_classes = c.are in
        let same_parts = p.are in
        record {
          says = says;
          fits = record { names = c.named; different = new_names c.names c.new; class_count = omega (arith, low, each); some = omega (arith, some, all); few = omega (arith, few, all); parts = fit; asks = asks_differ asked count [] p.said no_pairs p.fits; version = λ none. no_asks_at count asked none p.said p.fits };
          stands = sym is ∙ (ap (λ (xs : List (List ℕ)). record { classes = xs; parts = parts }) same_classes ∙ ap (λ (xs : List machines.Part). record { classes = c.names; parts = xs }) (sym same_parts));
          version = refl;
          parts = whole.parts ∙ ap (λ (xs : List (List ℕ)). map joined (treatment_line says.ndfa ∷ (codes "classes" ∷ decimal (length says.classes) ∷ []) ∷ (map class_line says.classes ++ (codes "automata" ∷ decimal (length says.parts) ∷ []) ∷ (flat_map (part_lines asked) says.parts ++ (codes "end" ∷ []) ∷ []))) ++ xs) (over_is six.lines i.left over);
        }

-- the lines after the header
abbrev pub lines_after : (asked : Bool) → TablesText → List (List (List ℕ))
lines_after asked says = treatment_line says.ndfa ∷ (codes "classes" ∷ decimal (length says.classes) ∷ []) ∷ (map class_line says.classes ++ (codes "automata" ∷ decimal (length says.parts) ∷ []) ∷ (flat_map (part_lines asked) says.parts ++ (codes "end" ∷ []) ∷ []))

pub tables_take : (text : List ℕ) (machine : machines.Machine) → tables_in text ≡ Ok machine → TableText text machine
unfolding tables_in
tables_take text machine e =
    let a = bind_ok (line_by header_in (record { number = 1; lines = lines_in text })) (λ header. machine_at header.0 header.1) machine e in
    let l = line_takes header_in (record { number = 1; lines = lines_in text }) a.0 a.1 in
    let b = machine_at_takes a.0.0 a.0.1 machine a.2 in
    let first : l.line ≡ joined (header_line a.0.0) = header_takes l.line a.0.0 l.judged in
    let lines : lines_in text ≡ map joined (header_line a.0.0 ∷ lines_after a.0.0 b.says) ++ [] ∷ [] = l.parts ∙ (ap (λ (x : List ℕ). x ∷ a.0.1.lines) first ∙ ap (λ (xs : List (List ℕ)). joined (header_line a.0.0) ∷ xs) b.parts) in
    let own = subst (λ (asked : Bool). lines_in text ≡ map joined (header_line asked ∷ lines_after asked b.says) ++ [] ∷ []) (sym b.version) lines in
    record { says = b.says; fits = b.fits; spells = text_of_lines text (tables_lines b.says) own; stands = b.stands }
