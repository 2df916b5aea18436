-- The fault of a header is reported of the first line alone.
use Rattle.std.proofs.Common.{◌≡◌, ◌≢◌, ℕ, zero, suc, ◌+◌, ◌<◌, Bool, true, false, cond, List, [], ◌∷◌, ◌++◌, length, Result, Ok, Err, refl, sym, ap, ◌∙◌, subst, arith, codes, if◌then◌else◌}
use Rattle.std.specs.Str.{bytes_eq}
use Rattle.std.specs.List.{join_with_byte}
use Rattle.std.proofs.lemmas.List.Splits.{join_with_byte-slice_split}
use Rattle.std.proofs.lemmas.Slice.Eq.{bytes_eq-Decides}
use Rattle.hz_pipeline_model.specs.Tables.Machines.{Part, Machine}
use Rattle.hz_tabtext_model.specs.Judging.{Kind, bad_header, bad_line, bad_number, out_of_range, truncated, Fault, ◌>>=◌}
use Rattle.hz_tabtext_model.specs.Fields.{is_nil, fields_of, is_headed}
use Rattle.hz_tabtext_model.specs.Lines.{header_in, treatment_in, classes_in, class_in, automata_in, Head, head_in, map_in, counts_in, row_in, origin_in, grid_in, end_in, asks_in}
use Rattle.hz_tabtext_model.specs.Reading.{Rest, at_line, judged, first_by, line_by, so_many, classes_at, comes, counts_at, grids_from, shown_at, row_at, part_at, is_over, machine_at, lines_in, tables_in, next_row, more_asks, asks_at}
use Rattle.hz_tabtext_model.specs.Faults.{last_line, bad_header_at, truncated_at, trailing_at}
use Rattle.hz_tabtext_model.proofs.FineLines.{Fine, treatment_fine, classes_fine, class_fine, automata_fine, head_fine, map_fine, counts_fine, row_fine, origin_fine, grid_fine, end_fine, asks_fine}
use Rattle.hz_tabtext_model.proofs.CutReading.{close, left_after, read_part, read_machine}
use Rattle.hz_tabtext_model.proofs.FaultLaws.{err_is}
use Rattle.hz_tabtext_model.specs.Texts.{joined, header_line}

-- anything but a wrong header
abbrev IsOther : Kind → Type 0
IsOther kind = kind ≢ bad_header

other_line : IsOther bad_line
other_line e = absurd (cc)

other_number : IsOther bad_number
other_number e = absurd (cc)

other_range : IsOther out_of_range
other_range e = absurd (cc)

-- the fault, if any, is another
abbrev Never : {A : Type 0} → Result A Fault → Type 0
Never (Ok x) = Unit {0}
Never (Err f) = IsOther f.kind

never_then : {A B : Type 0} (r : Result A Fault) (f : A → Result B Fault) → Never r → ((x : A) → Never (f x)) → Never (r >>= f)
never_then (Ok x) f h k = k x
never_then (Err e) f h k = h

never_if : {A : Type 0} (b : Bool) (r s : Result A Fault) → Never r → Never s → Never (cond b r s)
never_if true r s h k = h
never_if false r s h k = k

judged_never : {A : Type 0} (number : ℕ) (b : Bool) (r : Result A Kind) → Fine IsOther r → Never (at_line number (cond b (Err truncated) r))
judged_never number true r fine = λ e. absurd (cc)
judged_never number false (Ok x) fine = tt
judged_never number false (Err kind) fine = fine

first_never : {A : Type 0} (judge : List ℕ → Result A Kind) → ((line : List ℕ) → Fine IsOther (judge line)) → (number : ℕ) (lines : List (List ℕ)) → Never (first_by judge number lines)
first_never judge fine number [] = λ e. absurd (cc)
first_never judge fine number (line ∷ others) = never_then (judged judge number line others) (λ x. Ok (x, record { number = number + 1; lines = others })) (judged_never number (is_nil others) (judge line) (fine line)) (λ x. tt)

line_never : {A : Type 0} (judge : List ℕ → Result A Kind) → ((line : List ℕ) → Fine IsOther (judge line)) → (rest : Rest) → Never (line_by judge rest)
line_never judge fine rest = first_never judge fine rest.number rest.lines

many_never : {S A : Type 0} (next : S → A → S) (read : S → Rest → Result (A × Rest) Fault) → ((known : S) (rest : Rest) → Never (read known rest)) → (n : ℕ) (known : S) (rest : Rest) → Never (so_many next read n known rest)
unfolding so_many
many_never next read h zero known rest = tt
many_never next read h (suc n) known rest =
    never_then (read known rest) (λ first. so_many next read n (next known first.0) first.1 >>= λ others. Ok (first.0 ∷ others.0, others.1)) (h known rest)
    (λ first. never_then (so_many next read n (next known first.0) first.1) (λ others. Ok (first.0 ∷ others.0, others.1)) (many_never next read h n (next known first.0) first.1) (λ others. tt))

classes_never : (n : ℕ) (before : List (List ℕ)) (rest : Rest) → Never (classes_at n before rest)
unfolding classes_at
classes_never zero before rest = tt
classes_never (suc n) before rest =
    never_then (line_by (class_in before) rest) (λ class. classes_at n (before ++ class.0 ∷ []) class.1) (line_never (class_in before) (class_fine IsOther other_line other_number other_range before) rest) (λ class. classes_never n (before ++ class.0 ∷ []) class.1)

counts_never : (rest : Rest) → Never (counts_at rest)
unfolding counts_at
counts_never rest = never_if (comes (codes "stats") rest) (line_by counts_in rest >>= λ x. Ok x.1) (Ok rest) (never_then (line_by counts_in rest) (λ x. Ok x.1) (line_never counts_in (counts_fine IsOther other_line other_number other_range) rest) (λ x. tt)) tt

grids_never : (number : ℕ) (lines : List (List ℕ)) → Never (grids_from number lines)
unfolding grids_from
grids_never number [] = tt
grids_never number (line ∷ others) =
    never_if (is_headed (codes "grid") (fields_of line)) (judged grid_in number line others >>= λ x. grids_from (number + 1) others) (Ok (record { number = number; lines = line ∷ others }))
    (never_then (judged grid_in number line others) (λ x. grids_from (number + 1) others) (judged_never number (is_nil others) (grid_in line) (grid_fine IsOther other_line other_number other_range line)) (λ x. grids_never (number + 1) others)) tt

shown_never : (columns states : ℕ) (rest : Rest) → Never (shown_at columns states rest)
unfolding shown_at
shown_never columns states rest =
    never_if (comes (codes "from") rest) (line_by (origin_in columns states) rest >>= λ x. grids_from x.1.number x.1.lines) (Ok rest)
    (never_then (line_by (origin_in columns states) rest) (λ x. grids_from x.1.number x.1.lines) (line_never (origin_in columns states) (origin_fine IsOther other_line other_number other_range columns states) rest) (λ x. grids_never x.1.number x.1.lines)) tt

row_never : (columns asks states number : ℕ) (rest : Rest) → Never (row_at columns asks states number rest)
unfolding row_at
row_never columns asks states number rest =
    never_then (line_by (row_in columns asks states number) rest) (λ row. shown_at columns states row.1 >>= λ after. Ok (row.0, after)) (line_never (row_in columns asks states number) (row_fine IsOther other_line other_number other_range columns asks states number) rest)
    (λ row. never_then (shown_at columns states row.1) (λ after. Ok (row.0, after)) (shown_never columns states row.1) (λ after. tt))

asks_never : (asked : Bool) (columns states : ℕ) (before : List (List ℕ)) (rest : Rest) → Never (asks_at asked columns states before rest)
unfolding asks_at
asks_never true columns states before rest = line_never (asks_in columns states before) (asks_fine IsOther other_line other_number other_range columns states before) rest
asks_never false columns states before rest = tt

-- the states of an automaton
abbrev states_by : Head → List ℕ → List (List ℕ) → Rest → Result (Part × Rest) Fault
states_by head map asks rest = counts_at rest >>= λ after. so_many next_row (row_at head.columns (length asks) head.states) head.states 0 after >>= λ rows. Ok (read_part head map asks rows.0, rows.1)

states_never : (head : Head) (map : List ℕ) (asks : List (List ℕ)) (rest : Rest) → Never {A = Part × Rest} (states_by head map asks rest)
states_never head map asks rest =
    never_then (counts_at rest) (λ after. so_many next_row (row_at head.columns (length asks) head.states) head.states 0 after >>= λ rows. Ok (read_part head map asks rows.0, rows.1)) (counts_never rest)
    (λ after. never_then (so_many next_row (row_at head.columns (length asks) head.states) head.states 0 after) (λ rows. Ok (read_part head map asks rows.0, rows.1))
    (many_never next_row (row_at head.columns (length asks) head.states) (row_never head.columns (length asks) head.states) head.states 0 after) (λ rows. tt))

part_never : (asked : Bool) (classes : ℕ) (before : List (List ℕ)) (rest : Rest) → Never (part_at asked classes before rest)
unfolding part_at
part_never asked classes before rest =
    never_then (line_by (head_in classes) rest)
    (λ head. line_by (map_in classes head.0.columns) head.1 >>= λ columns. asks_at asked head.0.columns head.0.states before columns.1 >>= λ asks. states_by head.0 columns.0 asks.0 asks.1)
    (line_never (head_in classes) (head_fine IsOther other_line other_number other_range classes) rest)
    (λ head. never_then (line_by (map_in classes head.0.columns) head.1) (λ columns. asks_at asked head.0.columns head.0.states before columns.1 >>= λ asks. states_by head.0 columns.0 asks.0 asks.1)
    (line_never (map_in classes head.0.columns) (map_fine IsOther other_line other_number other_range classes head.0.columns) head.1)
    (λ columns. never_then (asks_at asked head.0.columns head.0.states before columns.1) (λ asks. states_by head.0 columns.0 asks.0 asks.1) (asks_never asked head.0.columns head.0.states before columns.1)
    (λ asks. states_never head.0 columns.0 asks.0 asks.1)))

close_never : {B : Type 0} (m : B) (number : ℕ) (lines : List (List ℕ)) → Never (close m number lines)
close_never m number lines = never_if (is_over lines) (Ok m) (Err (trailing_at number)) tt (λ e. absurd (cc))

parts_never : (asked : Bool) (classes : List (List ℕ)) (count : ℕ) (rest : Rest) → Never (line_by automata_in rest >>= λ automata. so_many more_asks (part_at asked count) automata.0 [] automata.1 >>= λ parts. line_by end_in parts.1 >>= λ last. close (read_machine classes parts.0) last.1.number last.1.lines)
parts_never asked classes count rest =
    never_then (line_by automata_in rest) (λ automata. so_many more_asks (part_at asked count) automata.0 [] automata.1 >>= λ parts. line_by end_in parts.1 >>= λ last. close (read_machine classes parts.0) last.1.number last.1.lines) (line_never automata_in (automata_fine IsOther other_line other_number other_range) rest)
    (λ automata. never_then (so_many more_asks (part_at asked count) automata.0 [] automata.1) (λ parts. line_by end_in parts.1 >>= λ last. close (read_machine classes parts.0) last.1.number last.1.lines) (many_never more_asks (part_at asked count) (part_never asked count) automata.0 [] automata.1)
    (λ parts. never_then (line_by end_in parts.1) (λ last. close (read_machine classes parts.0) last.1.number last.1.lines) (line_never end_in (end_fine IsOther other_line other_number other_range) parts.1) (λ last. close_never (read_machine classes parts.0) last.1.number last.1.lines)))

machine_never : (asked : Bool) (rest : Rest) → Never (machine_at asked rest)
unfolding machine_at
machine_never asked rest =
    never_then (line_by treatment_in rest)
    (λ treatment. line_by classes_in treatment.1 >>= λ count. classes_at count.0 [] count.1 >>= λ classes. line_by automata_in classes.1 >>= λ automata. so_many more_asks (part_at asked count.0) automata.0 [] automata.1 >>= λ parts. line_by end_in parts.1 >>= λ last. close (read_machine classes.0 parts.0) last.1.number last.1.lines)
    (line_never treatment_in (treatment_fine IsOther other_line other_number other_range) rest)
    (λ treatment. never_then (line_by classes_in treatment.1)
    (λ count. classes_at count.0 [] count.1 >>= λ classes. line_by automata_in classes.1 >>= λ automata. so_many more_asks (part_at asked count.0) automata.0 [] automata.1 >>= λ parts. line_by end_in parts.1 >>= λ last. close (read_machine classes.0 parts.0) last.1.number last.1.lines)
    (line_never classes_in (classes_fine IsOther other_line other_number other_range) treatment.1)
    (λ count. never_then (classes_at count.0 [] count.1)
    (λ classes. line_by automata_in classes.1 >>= λ automata. so_many more_asks (part_at asked count.0) automata.0 [] automata.1 >>= λ parts. line_by end_in parts.1 >>= λ last. close (read_machine classes.0 parts.0) last.1.number last.1.lines)
    (classes_never count.0 [] count.1) (λ classes. parts_never asked classes.0 count.0 classes.1)))

-- ---- the first line

-- the first line, and after it
abbrev read_after : (number : ℕ) (b c d : Bool) (others : List (List ℕ)) → Result Machine Fault
read_after number b c d others = (at_line number (cond b (Err truncated) (cond c (Ok true) (cond d (Ok false) (Err bad_header)))) >>= λ (x : Bool). left_after (number + 1) others x) >>= λ header. machine_at header.0 header.1

not_ended : (number line : ℕ) → ◌≡◌ {A = Result Machine Fault} (Err (truncated_at number)) (Err (bad_header_at line)) → ⊥
not_ended number line e =
    let h : truncated ≡ bad_header = ap (λ (f : Fault). f.kind) (err_is {A = Machine} (truncated_at number) (bad_header_at line) e) in
    absurd (cc)

never_after : (asked : Bool) (rest : Rest) (line : ℕ) → machine_at asked rest ≡ Err (bad_header_at line) → ⊥
never_after asked rest line e = let h = machine_never asked rest in let k = subst Never e h in k refl

first_wrong : (number : ℕ) (b c d : Bool) (others : List (List ℕ)) (line : ℕ) → read_after number b c d others ≡ Err (bad_header_at line) → (b ≡ false) × (c ≡ false) × (d ≡ false) × (line ≡ number)
first_wrong number true c d others line e = absurd (not_ended number line e)
first_wrong number false false false others line e = let h = ap (λ (f : Fault). f.line) (err_is {A = Machine} (bad_header_at number) (bad_header_at line) e) in (refl, refl, refl, sym h)
first_wrong number false true d others line e = absurd (never_after true (record { number = number + 1; lines = others }) line e)
first_wrong number false false true others line e = absurd (never_after false (record { number = number + 1; lines = others }) line e)

-- the text is its first line and what comes after it
first_line : (text line next : List ℕ) (others : List (List ℕ)) → lines_in text ≡ line ∷ next ∷ others → text ≡ line ++ 10 ∷ join_with_byte 10 (next ∷ others)
first_line text line next others e = sym (join_with_byte-slice_split 10 text) ∙ ap (join_with_byte 10) e

-- the two headers as they are written
header_text : (asked : Bool) → joined (header_line asked) ≡ (if asked then codes "hazard-tables 2" else codes "hazard-tables 1")
unfolding joined
header_text true = refl
header_text false = refl

-- the text begins with no header
abbrev pub HasNoHeader : List ℕ → Type 0
HasNoHeader text = (asked : Bool) (more : List ℕ) → text ≢ joined (header_line asked) ++ 10 ∷ more

pub header_reported : (text : List ℕ) → 1 < last_line text → HasNoHeader text → tables_in text ≡ Err (bad_header_at 1)
unfolding tables_in header_in
header_reported text long other = by_lines (lines_in text) refl long
  where
    begins : (asked : Bool) (line next : List ℕ) (others : List (List ℕ)) → line ≡ (if asked then codes "hazard-tables 2" else codes "hazard-tables 1") → lines_in text ≡ line ∷ next ∷ others → ⊥
    begins asked line next others is e = other asked (join_with_byte 10 (next ∷ others)) (first_line text line next others e ∙ ap (λ (l : List ℕ). l ++ 10 ∷ join_with_byte 10 (next ∷ others)) (is ∙ sym (header_text asked)))

    by_words : (line next : List ℕ) (others : List (List ℕ)) (b c : Bool) → bytes_eq line (codes "hazard-tables 2") ≡ b → bytes_eq line (codes "hazard-tables 1") ≡ c → lines_in text ≡ line ∷ next ∷ others → read_after 1 false b c (next ∷ others) ≡ Err (bad_header_at 1)
    by_words line next others true c is also e = absurd (begins true line next others ((bytes_eq-Decides line (codes "hazard-tables 2")).0 is) e)
    by_words line next others false true is also e = absurd (begins false line next others ((bytes_eq-Decides line (codes "hazard-tables 1")).0 also) e)
    by_words line next others false false is also e = refl

    by_lines : (lines : List (List ℕ)) → lines_in text ≡ lines → 1 < length lines → (first_by header_in 1 lines >>= λ header. machine_at header.0 header.1) ≡ Err (bad_header_at 1)
    by_lines [] e l = absurd (omega (arith, l))
    by_lines (line ∷ []) e l = absurd (omega (arith, l))
    by_lines (line ∷ next ∷ others) e l = by_words line next others (bytes_eq line (codes "hazard-tables 2")) (bytes_eq line (codes "hazard-tables 1")) refl refl e

-- What is wrong where the header is.
pub record IsHeaderless (text : List ℕ) (line : ℕ) : Type 0 where
  pub first : line ≡ 1
  pub ended : 1 < last_line text
  pub other : HasNoHeader text

header_lines : (asked : Bool) (more : List ℕ) → lines_in (joined (header_line asked) ++ 10 ∷ more) ≡ (if asked then codes "hazard-tables 2" else codes "hazard-tables 1") ∷ lines_in more
unfolding joined
header_lines true more = refl
header_lines false more = refl

pub header_found : (text : List ℕ) (line : ℕ) → tables_in text ≡ Err (bad_header_at line) → IsHeaderless text line
unfolding tables_in header_in
header_found text line e = by_lines (lines_in text) refl e
  where
    headed : (header first : List ℕ) (rest others : List (List ℕ)) → header ∷ rest ≡ first ∷ others → bytes_eq first header ≡ false → ⊥
    headed header first rest others same no_header =
        let equal : first ≡ header = cc in
        let decided = (bytes_eq-Decides first header).1 equal in
        cc

    none : (asked : Bool) (first : List ℕ) → bytes_eq first (codes "hazard-tables 2") ≡ false → bytes_eq first (codes "hazard-tables 1") ≡ false → bytes_eq first (if asked then codes "hazard-tables 2" else codes "hazard-tables 1") ≡ false
    none true first a b = a
    none false first a b = b

    by_lines : (lines : List (List ℕ)) → lines_in text ≡ lines → (first_by header_in 1 lines >>= λ header. machine_at header.0 header.1) ≡ Err (bad_header_at line) → IsHeaderless text line
    by_lines [] is h = absurd (not_ended 1 line h)
    by_lines (first ∷ []) is h = absurd (not_ended 1 line h)
    by_lines (first ∷ next ∷ others) is h =
        let w = first_wrong 1 false (bytes_eq first (codes "hazard-tables 2")) (bytes_eq first (codes "hazard-tables 1")) (next ∷ others) line h in
        let long = ap length is in
        record {
          first = w.3;
          ended = omega (arith, long);
          other = λ asked more same.
              headed (if asked then codes "hazard-tables 2" else codes "hazard-tables 1") first (lines_in more) (next ∷ others) (sym (header_lines asked more) ∙ (ap lines_in (sym same) ∙ is)) (none asked first w.1 w.2);
        }
