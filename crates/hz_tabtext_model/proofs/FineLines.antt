-- What is wrong with a line is never that the text ends there, nor that it goes on after its end.
use Rattle.std.proofs.Common.{ℕ, ◌+◌, Bool, true, false, cond, nat_lt, nat_le, List, [], ◌∷◌, ◌++◌, length, take, drop, Some, None, Result, Ok, Err, codes}
use Rattle.std.specs.Prelude.{◌==◌, ◌&&◌, not, ◌^◌}
use Rattle.std.specs.List.{list_all, before_first}
use Rattle.std.specs.Str.{bytes_eq}
use Rattle.hz_base_model.specs.Names.{is_name}
use Rattle.hz_base_model.specs.Lines.{number_from}
use Rattle.hz_base_model.specs.Limits.{automaton_limit, class_limit, cycle_limit}
use Rattle.hz_tabtext_model.specs.Judging.{Kind, bad_header, bad_line, bad_number, out_of_range, truncated, trailing, ◌>>=◌, each_by}
use Rattle.hz_tabtext_model.specs.Fields.{is_nil, fields_of, beyond, operands, only, three, one_in, three_in, is_decimal, passing, number_in, number_where, number_below, entry_in, advance_in, is_colon, has_unit, cycle_in, ask_entry_in}
use Rattle.hz_tabtext_model.specs.Lines.{header_in, treatment_in, classes_in, is_new, class_in, automata_in, are_states, head_of, head_in, map_in, counts_of, counts_in, entries_of, row_in, place_of, origin_of, origin_in, grid_in, end_in, asks_of, asks_in, are_asks}

-- what can be wrong with a line that is ended
abbrev pub IsOfLine : Kind → Type 0
IsOfLine bad_header = Unit {0}
IsOfLine bad_line = Unit {0}
IsOfLine bad_number = Unit {0}
IsOfLine out_of_range = Unit {0}
IsOfLine truncated = ⊥
IsOfLine trailing = ⊥

-- what is wrong, if anything, is of these kinds
abbrev pub Fine : (Kind → Type 0) → {A : Type 0} → Result A Kind → Type 0
Fine P (Ok x) = Unit {0}
Fine P (Err kind) = P kind

pub header_fine : (line : List ℕ) → Fine IsOfLine (header_in line)
unfolding header_in
header_fine line = by_words (bytes_eq line (codes "hazard-tables 2")) (bytes_eq line (codes "hazard-tables 1"))
  where
    by_words : (b c : Bool) → Fine IsOfLine {A = Bool} (cond b (Ok true) (cond c (Ok false) (Err bad_header)))
    by_words true c = tt
    by_words false true = tt
    by_words false false = tt

-- These three are among the kinds: no line but the first has another fault.
module _ (P : Kind → Type 0) (no_line : P bad_line) (no_number : P bad_number) (no_range : P out_of_range) where
  fine_then : {A B : Type 0} (r : Result A Kind) (f : A → Result B Kind) → Fine P r → ((x : A) → Fine P (f x)) → Fine P (r >>= f)
  fine_then (Ok x) f h k = k x
  fine_then (Err kind) f h k = h

  fine_if : {A : Type 0} (b : Bool) (r s : Result A Kind) → Fine P r → Fine P s → Fine P (cond b r s)
  fine_if true r s h k = h
  fine_if false r s h k = k

  each_fine : {A B : Type 0} (judge : A → Result B Kind) → ((x : A) → Fine P (judge x)) → (xs : List A) → Fine P (each_by judge xs)
  unfolding each_by
  each_fine judge one [] = tt
  each_fine judge one (x ∷ xs) = fine_then (judge x) (λ first. each_by judge xs >>= λ others. Ok (first ∷ others)) (one x) (λ first. fine_then (each_by judge xs) (λ others. Ok (first ∷ others)) (each_fine judge one xs) (λ others. tt))

  -- ---- fields

  after_fine : (word : List ℕ) (fields : List (List ℕ)) → Fine P (beyond word fields)
  after_fine word [] = no_line
  after_fine word (first ∷ fields) = fine_if (bytes_eq first word && list_all (λ field. not (is_nil field)) fields) (Ok fields) (Err bad_line) tt no_line

  operands_fine : (word line : List ℕ) → Fine P (operands word line)
  unfolding operands
  operands_fine word line = after_fine word (fields_of line)

  only_fine : (fields : List (List ℕ)) → Fine P (only fields)
  only_fine [] = no_line
  only_fine (field ∷ fields) = fine_if (is_nil fields) (Ok field) (Err bad_line) tt no_line

  three_fine : (fields : List (List ℕ)) → Fine P (three fields)
  three_fine [] = no_line
  three_fine (a ∷ []) = no_line
  three_fine (a ∷ b ∷ []) = no_line
  three_fine (a ∷ b ∷ c ∷ fields) = fine_if (is_nil fields) (Ok (a, b, c)) (Err bad_line) tt no_line

  one_fine : {A : Type 0} (word line : List ℕ) (f : List ℕ → Result A Kind) → ((field : List ℕ) → Fine P (f field)) → Fine P (one_in word line >>= f)
  one_fine word line f h = fine_then (one_in word line) f (fine_then (operands word line) only (operands_fine word line) only_fine) h

  three_in_fine : {A : Type 0} (word line : List ℕ) (f : List ℕ × List ℕ × List ℕ → Result A Kind) → ((fields : List ℕ × List ℕ × List ℕ) → Fine P (f fields)) → Fine P (three_in word line >>= f)
  three_in_fine word line f h = fine_then (three_in word line) f (fine_then (operands word line) three (operands_fine word line) three_fine) h

  passing_fine : (test : ℕ → Bool) (n : ℕ) → Fine P (passing test n)
  passing_fine test n = fine_if (test n) (Ok n) (Err out_of_range) tt no_range

  number_fine : (field : List ℕ) → Fine P (number_in field)
  unfolding number_in
  number_fine field = fine_if (is_decimal field) (passing (λ n. nat_lt n (2 ^ 32)) (number_from 0 field)) (Err bad_number) (passing_fine (λ n. nat_lt n (2 ^ 32)) (number_from 0 field)) no_number

  where_fine : (test : ℕ → Bool) (field : List ℕ) → Fine P (number_where test field)
  where_fine test field = fine_then (number_in field) (passing test) (number_fine field) (passing_fine test)

  below_fine : (limit : ℕ) (field : List ℕ) → Fine P (number_below limit field)
  unfolding number_below
  below_fine limit field = where_fine (λ n. nat_lt n limit) field

  state_fine : (states : ℕ) (field : List ℕ) → Fine P (number_below states field >>= λ state. Ok (Some state))
  state_fine states field = fine_then (number_below states field) (λ state. Ok (Some state)) (below_fine states field) (λ state. tt)

  entry_fine : (states : ℕ) (field : List ℕ) → Fine P (entry_in states field)
  unfolding entry_in
  entry_fine states field = fine_if (bytes_eq field (codes "-")) (Ok None) (number_below states field >>= λ state. Ok (Some state)) tt (state_fine states field)

  ask_entry_fine : (number : ℕ) (field : List ℕ) → Fine P (ask_entry_in number field)
  unfolding ask_entry_in
  ask_entry_fine number field = fine_if (bytes_eq field (codes "-")) (Ok None) (number_where (λ n. n == number) field >>= λ state. Ok (Some state)) tt
      (fine_then (number_where (λ n. n == number) field) (λ state. Ok (Some state)) (where_fine (λ n. n == number) field) (λ state. tt))

  advance_fine : (states : ℕ) (field : List ℕ) → Fine P (advance_in states field)
  unfolding advance_in
  advance_fine states field = state_fine states field

  cycle_fine : (field : List ℕ) → Fine P (cycle_in field)
  unfolding cycle_in
  cycle_fine field = below_fine cycle_limit (before_first is_colon field)

  -- ---- lines

  pub end_fine : (line : List ℕ) → Fine P (end_in line)
  unfolding end_in
  end_fine line = fine_if (bytes_eq line (codes "end")) (Ok tt) (Err bad_line) tt no_line

  pub treatment_fine : (line : List ℕ) → Fine P (treatment_in line)
  unfolding treatment_in
  treatment_fine line = one_fine (codes "treatment") line (λ name. cond (bytes_eq name (codes "ndfa")) (Ok true) (cond (bytes_eq name (codes "first")) (Ok false) (Err bad_line)))
      (λ name. fine_if (bytes_eq name (codes "ndfa")) (Ok true) (cond (bytes_eq name (codes "first")) (Ok false) (Err bad_line)) tt (fine_if (bytes_eq name (codes "first")) (Ok false) (Err bad_line) tt no_line))

  pub classes_fine : (line : List ℕ) → Fine P (classes_in line)
  unfolding classes_in
  classes_fine line = one_fine (codes "classes") line (number_where (λ n. nat_le n class_limit)) (where_fine (λ n. nat_le n class_limit))

  pub class_fine : (before : List (List ℕ)) (line : List ℕ) → Fine P (class_in before line)
  unfolding class_in
  class_fine before line = one_fine (codes "class") line (λ name. cond (is_name name && is_new before name) (Ok name) (Err bad_line)) (λ name. fine_if (is_name name && is_new before name) (Ok name) (Err bad_line) tt no_line)

  pub automata_fine : (line : List ℕ) → Fine P (automata_in line)
  unfolding automata_in
  automata_fine line = one_fine (codes "automata") line (number_where (λ n. nat_le 1 n && nat_le n automaton_limit)) (where_fine (λ n. nat_le 1 n && nat_le n automaton_limit))

  head_of_fine : (classes : ℕ) (name columns states : List ℕ) → Fine P (head_of classes name columns states)
  head_of_fine classes name columns states = fine_if (is_name name)
      (number_where (λ n. nat_le n classes) columns >>= λ c. number_where (are_states c) states >>= λ s. Ok (record { name = name; columns = c; states = s })) (Err bad_line)
      (fine_then (number_where (λ n. nat_le n classes) columns) (λ c. number_where (are_states c) states >>= λ s. Ok (record { name = name; columns = c; states = s })) (where_fine (λ n. nat_le n classes) columns)
      (λ c. fine_then (number_where (are_states c) states) (λ s. Ok (record { name = name; columns = c; states = s })) (where_fine (are_states c) states) (λ s. tt))) no_line

  pub head_fine : (classes : ℕ) (line : List ℕ) → Fine P (head_in classes line)
  unfolding head_in
  head_fine classes line = three_in_fine (codes "automaton") line (λ parts. head_of classes parts.0 parts.1 parts.2) (λ parts. head_of_fine classes parts.0 parts.1 parts.2)

  pub map_fine : (classes columns : ℕ) (line : List ℕ) → Fine P (map_in classes columns line)
  unfolding map_in
  map_fine classes columns line = fine_then (operands (codes "map") line) (λ fields. cond (length fields == classes) (each_by (number_below columns) fields) (Err bad_line)) (operands_fine (codes "map") line)
      (λ fields. fine_if (length fields == classes) (each_by (number_below columns) fields) (Err bad_line) (each_fine (number_below columns) (below_fine columns) fields) no_line)

  asks_of_fine : (before names : List (List ℕ)) → Fine P (asks_of before names)
  unfolding asks_of
  asks_of_fine before [] = tt
  asks_of_fine before (name ∷ names) = fine_if (is_name name && is_new before name) (asks_of (before ++ name ∷ []) names >>= λ others. Ok (name ∷ others)) (Err bad_line)
      (fine_then (asks_of (before ++ name ∷ []) names) (λ others. Ok (name ∷ others)) (asks_of_fine (before ++ name ∷ []) names) (λ others. tt)) no_line

  pub asks_fine : (columns states : ℕ) (before : List (List ℕ)) (line : List ℕ) → Fine P (asks_in columns states before line)
  unfolding asks_in
  asks_fine columns states before line = fine_then (operands (codes "asks") line) (λ names. asks_of before names >>= λ asks. cond (are_asks columns states (length asks)) (Ok asks) (Err out_of_range)) (operands_fine (codes "asks") line)
      (λ names. fine_then (asks_of before names) (λ asks. cond (are_asks columns states (length asks)) (Ok asks) (Err out_of_range)) (asks_of_fine before names)
      (λ asks. fine_if (are_asks columns states (length asks)) (Ok asks) (Err out_of_range) tt no_range))

  counts_of_fine : (grids states members : List ℕ) → Fine P (counts_of grids states members)
  counts_of_fine grids states members = fine_then (number_in grids) (λ g. number_in states >>= λ s. number_in members >>= λ m. Ok tt) (number_fine grids)
      (λ g. fine_then (number_in states) (λ s. number_in members >>= λ m. Ok tt) (number_fine states) (λ s. fine_then (number_in members) (λ m. Ok tt) (number_fine members) (λ m. tt)))

  pub counts_fine : (line : List ℕ) → Fine P (counts_in line)
  unfolding counts_in
  counts_fine line = three_in_fine (codes "stats") line (λ counts. counts_of counts.0 counts.1 counts.2) (λ counts. counts_of_fine counts.0 counts.1 counts.2)

  entries_of_fine : (columns asks states number : ℕ) (fields : List (List ℕ)) → Fine P (entries_of columns asks states number fields)
  entries_of_fine columns asks states number fields =
      let rest = drop columns fields in
      fine_then (each_by (entry_in states) (take columns fields)) (λ classes. each_by (ask_entry_in number) (take asks rest) >>= λ asked. each_by (advance_in states) (drop asks rest) >>= λ advance. Ok (classes ++ (asked ++ advance)))
      (each_fine (entry_in states) (entry_fine states) (take columns fields))
      (λ classes. fine_then (each_by (ask_entry_in number) (take asks rest)) (λ asked. each_by (advance_in states) (drop asks rest) >>= λ advance. Ok (classes ++ (asked ++ advance))) (each_fine (ask_entry_in number) (ask_entry_fine number) (take asks rest))
      (λ asked. fine_then (each_by (advance_in states) (drop asks rest)) (λ advance. Ok (classes ++ (asked ++ advance))) (each_fine (advance_in states) (advance_fine states) (drop asks rest)) (λ advance. tt)))

  pub row_fine : (columns asks states number : ℕ) (line : List ℕ) → Fine P (row_in columns asks states number line)
  unfolding row_in
  row_fine columns asks states number line = fine_then (operands (codes "row") line) (λ fields. cond (length fields == columns + asks + 1) (entries_of columns asks states number fields) (Err bad_line)) (operands_fine (codes "row") line)
      (λ fields. fine_if (length fields == columns + asks + 1) (entries_of columns asks states number fields) (Err bad_line) (entries_of_fine columns asks states number fields) no_line)

  place_fine : (columns states : ℕ) (row column : List ℕ) → Fine P (place_of columns states row column)
  place_fine columns states row column = fine_then (number_below states row) (λ r. number_where (λ n. nat_le n columns) column >>= λ c. Ok tt) (below_fine states row)
      (λ r. fine_then (number_where (λ n. nat_le n columns) column) (λ c. Ok tt) (where_fine (λ n. nat_le n columns) column) (λ c. tt))

  origin_of_fine : (columns states : ℕ) (fields : List (List ℕ)) → Fine P (origin_of columns states fields)
  origin_of_fine columns states [] = no_line
  origin_of_fine columns states (row ∷ []) = fine_if (bytes_eq row (codes "-")) (Ok tt) (Err bad_line) tt no_line
  origin_of_fine columns states (row ∷ column ∷ fields) = fine_if (is_nil fields) (place_of columns states row column) (Err bad_line) (place_fine columns states row column) no_line

  pub origin_fine : (columns states : ℕ) (line : List ℕ) → Fine P (origin_in columns states line)
  unfolding origin_in
  origin_fine columns states line = fine_then (operands (codes "from") line) (origin_of columns states) (operands_fine (codes "from") line) (origin_of_fine columns states)

  pub grid_fine : (line : List ℕ) → Fine P (grid_in line)
  unfolding grid_in
  grid_fine line = fine_then (operands (codes "grid") line) (λ fields. cond (list_all has_unit fields) (each_by cycle_in fields >>= λ cycles. Ok tt) (Err bad_line)) (operands_fine (codes "grid") line)
      (λ fields. fine_if (list_all has_unit fields) (each_by cycle_in fields >>= λ cycles. Ok tt) (Err bad_line) (fine_then (each_by cycle_in fields) (λ cycles. Ok tt) (each_fine cycle_in cycle_fine fields) (λ cycles. tt)) no_line)
