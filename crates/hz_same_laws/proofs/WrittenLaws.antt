-- The trace that is written is read back as the trace on which the machines differ.
use Rattle.std.proofs.Common.{rules, ◌≡◌, ⊎_elim, inl, inr, ℕ, suc, ◌+◌, ◌-◌, ◌^◌, ◌<◌, ◌≤◌, Bool, true, false, cond, not, nat_eq, nat_lt, nat_le, List, [], ◌∷◌, ◌++◌, length, map, take, drop, get_or, replicate, All, Option, Some, None, is_some, codes, decimal, refl, sym, ap, ◌∙◌, subst, arith}
use Rattle.std.specs.Prelude.{◌==◌, option_and_then, unwrap_or, IsSome}
use Rattle.std.specs.Char.{is_ascii_digit}
use Rattle.std.specs.List.{concat, flat_map, list_all, onto_first, AllByRecursion}
use Rattle.std.proofs.lemmas.Bool.{cases_lt, lt-ltb, le-ltb, eq-eqb, eqb-true, leb-true, leb-false, and_parts, and_from}
use Rattle.std.proofs.lemmas.Fmt.{digits_decimal, digits_value-decimal, decimal_nonempty}
use Rattle.std.proofs.lemmas.List.{append_assoc, append-nil, replicate_more, take-append-drop}
use Rattle.std.proofs.lemmas.List.Elements.{All-head, All-tail, All-append, All-cons, All-nil, All-filter, All-from_recursion}
use Rattle.std.proofs.lemmas.List.Folds.{list_all-append}
use Rattle.std.proofs.lemmas.Str.Parse.{IsNumeralModel, numerals_by_fold}
use Rattle.hz_base_model.specs.Lines.{lines_of, number_from, number_of, place_of}
use Rattle.hz_base_model.specs.Names.{is_name, is_name_byte}
use Rattle.hz_pipeline_model.specs.Accepting.Events.{Event, issue, advance, ask, cycles_of}
use Rattle.hz_pipeline_model.specs.Tables.Tables.{walk}
use Rattle.hz_pipeline_model.specs.Tables.Machines.{Part, Machine, advance_of, word_of, parts_walk, machine_walk, starts_of, onto_states, names_of}
use Rattle.hz_pipeline_model.specs.Tables.MachineNames.{names_of_machine}
use Rattle.hz_pipeline_model.specs.Traces.TraceNames.{TraceNames, query_place}
use Rattle.hz_pipeline_model.specs.Traces.Traces.{line_says, says, Say, nothing, skips, tells, Trace, event_lines}
use Rattle.hz_pipeline_model.specs.Traces.TraceLimits.{advance_limit}
use Rattle.hz_pipeline_model.specs.Traces.TraceLines.{IsSkipped, is_comment}
use Rattle.hz_pipeline_model.proofs.Tables.MachineLaws.{word_of-append, parts_walk-append}
use Rattle.hz_pipeline_model.proofs.Traces.TraceLaws.{one_trace, trace_or_fault}
use Rattle.hz_pipeline_model.proofs.Traces.WordLaws.{issue_line as issue_says, advance_line as advance_says, ask_line as ask_says, skipped_line}
use Rattle.hz_tabtext_model.specs.Texts.{TableText, PartText, IsPartText, part_of}
use Rattle.hz_answer_model.specs.TableAnswers.{HasTables, Walks, WalksTrace}
use Rattle.hz_same_model.specs.Answers.{SaysDifference}
use Rattle.hz_same_model.specs.Telling.{TellsApart, answer_in}
use Rattle.hz_same_model.specs.Common.{Common, common_of, classes_alone, asks_alone, has_class, has_ask, issue_of, ask_of, ask_at, event_at, events_at, advance_symbol, symbol_count}
use Rattle.hz_same_model.specs.Texts.{advance_lines, alone_line, ask_line, issue_line, last_line, names_alone, refused_line, reserved_line, symbol_line, trace_lines}
use Rattle.hz_same_model.proofs.ProductLaws.{event_of_class, event_of_advance, event_of_ask, length-walked}
use Rattle.hz_same_model.proofs.DecidingLaws.{judged}
use Rattle.hz_same_laws.proofs.WalkLaws.{walked_more, first_asks, second_asks, first_classes, second_classes, first_answer, second_answer}
use Rattle.hz_same_laws.specs.Written.{AnswerApart}

no_yes : false ≡ true → ⊥
no_yes k = cc

-- ---- lines

-- no byte is a line feed
abbrev is_line : List ℕ → Bool
is_line = list_all (λ b. not (b == 10))

on_true : {X : Type 0} (x y : X) (t : Bool) → t ≡ true → cond t x y ≡ x
on_true x y true e = refl
on_true x y false e = cc

on_false : {X : Type 0} (x y : X) (t : Bool) → t ≡ false → cond t x y ≡ y
on_false x y false e = refl
on_false x y true e = cc

not_true : (t : Bool) → not t ≡ true → t ≡ false
not_true false e = refl
not_true true e = cc

lines_line : (line rest : List ℕ) → is_line line ≡ true → lines_of (line ++ 10 ∷ rest) ≡ line ∷ lines_of rest
lines_line [] rest h = refl
lines_line (b ∷ bs) rest h =
    let parts = and_parts (not (b == 10)) (is_line bs) h in
    on_false _ _ (b == 10) (not_true (b == 10) parts.0) ∙ ap (onto_first b) (lines_line bs rest parts.1)

line_append : (xs ys : List ℕ) → is_line xs ≡ true → is_line ys ≡ true → is_line (xs ++ ys) ≡ true
line_append xs ys h k = list_all-append (λ b. not (b == 10)) xs ys ∙ and_from (is_line xs) (is_line ys) h k

name_byte : (b : ℕ) → is_name_byte b ≡ true → not (b == 10) ≡ true
name_byte b h = by_equal (b == 10) (λ e. let is : b ≡ 10 = eqb-true b 10 e in let bad : is_name_byte 10 ≡ true = sym (ap is_name_byte is) ∙ h in cc)
  where
    by_equal : (t : Bool) → (t ≡ true → ⊥) → not t ≡ true
    by_equal false never = refl
    by_equal true never = absurd (never refl)

name_bytes : (bs : List ℕ) → list_all is_name_byte bs ≡ true → is_line bs ≡ true
name_bytes [] h = refl
name_bytes (b ∷ bs) h = let parts = and_parts (is_name_byte b) (list_all is_name_byte bs) h in and_from (not (b == 10)) (is_line bs) (name_byte b parts.0) (name_bytes bs parts.1)

name_line : (name : List ℕ) → is_name name ≡ true → is_line name ≡ true
name_line [] h = cc
name_line (b ∷ bs) h = name_bytes (b ∷ bs) h

-- A text is one line, with its line feed.
record Ends (text : List ℕ) : Type 0 where
  line : List ℕ
  is : text ≡ line ++ 10 ∷ []
  whole : is_line line ≡ true

abbrev ends_more : (xs ys : List ℕ) → is_line xs ≡ true → Ends ys → Ends (xs ++ ys)
ends_more xs ys h e = record { line = xs ++ e.line; is = ap (λ (bs : List ℕ). xs ++ bs) e.is ∙ sym (append_assoc xs e.line (10 ∷ [])); whole = line_append xs e.line h e.whole }

ends_lines : (text : List ℕ) (e : Ends text) (rest : List ℕ) → lines_of (text ++ rest) ≡ e.line ∷ lines_of rest
ends_lines text e rest = ap (λ (bs : List ℕ). lines_of (bs ++ rest)) e.is ∙ (ap lines_of (append_assoc e.line (10 ∷ []) rest) ∙ lines_line e.line rest e.whole)

-- ---- numbers

numerals : IsNumeralModel (λ ds. list_all is_ascii_digit ds ≡ true) (number_from 0)
numerals = numerals_by_fold _ (search rules) number_from (search rules)

number_digits : (ds : List ℕ) → 0 < length ds → list_all is_ascii_digit ds ≡ true → number_of ds ≡ Some (number_from 0 ds)
number_digits [] some h = absurd (omega (arith, some))
number_digits (d ∷ ds) some h = on_true _ _ (list_all is_ascii_digit (d ∷ ds)) h

number_again : (n : ℕ) → n < 2 ^ 64 → number_of (decimal n) ≡ Some n
number_again n low =
    number_digits (decimal n) (decimal_nonempty n low) (digits_decimal numerals n low)
    ∙ ap (λ (k : ℕ). let o : Option ℕ = Some k in o) (digits_value-decimal numerals n low)

digit_byte : (b : ℕ) → is_ascii_digit b ≡ true → not (b == 10) ≡ true
digit_byte b h = by_equal (b == 10) (λ e. let is : b ≡ 10 = eqb-true b 10 e in let low : is_ascii_digit 10 ≡ true = sym (ap is_ascii_digit is) ∙ h in cc)
  where
    by_equal : (t : Bool) → (t ≡ true → ⊥) → not t ≡ true
    by_equal false never = refl
    by_equal true never = absurd (never refl)

digit_line : (ds : List ℕ) → list_all is_ascii_digit ds ≡ true → is_line ds ≡ true
digit_line [] h = refl
digit_line (d ∷ ds) h = let parts = and_parts (is_ascii_digit d) (list_all is_ascii_digit ds) h in and_from (not (d == 10)) (is_line ds) (digit_byte d parts.0) (digit_line ds parts.1)

-- ---- what lines say

module _ (names : TraceNames) where
  -- a text with a line that says nothing before another
  say_skip : (text : List ℕ) (e : Ends text) (back rest : List ℕ) (events : List Event) → e.line ≡ 59 ∷ back → Say names (lines_of rest) events → Say names (lines_of (text ++ rest)) events
  say_skip text e back rest events begins h =
      subst (λ (ls : List (List ℕ)). Say names ls events) (sym (ends_lines text e rest))
      (skips ((skipped_line names e.line).1 (subst IsSkipped (sym begins) (is_comment [] back refl))) h)

  say_event : (text : List ℕ) (e : Ends text) (rest : List ℕ) (event : Event) (events : List Event) → line_says names e.line ≡ says event → Say names (lines_of rest) events → Say names (lines_of (text ++ rest)) (event ∷ events)
  say_event text e rest event events said h = subst (λ (ls : List (List ℕ)). Say names ls (event ∷ events)) (sym (ends_lines text e rest)) (tells said h)

-- the words of a line
words_of : (word name : List ℕ) → word ++ 32 ∷ name ≡ [] ++ (word ++ ((32 ∷ []) ++ (name ++ [])))
words_of word name = ap (λ (bs : List ℕ). word ++ 32 ∷ bs) (sym (append-nil name))

-- ---- the lines of a trace

-- the events that are written, where so many cycles wait
abbrev advance_events : ℕ → List Event → List Event
advance_events waiting events = cond (nat_eq waiting 0) events (advance waiting ∷ events)

abbrev written : Common → Machine → ℕ → List ℕ → List Event
written common m waiting [] = advance_events waiting []
written common m waiting (symbol ∷ word) = cond (nat_eq symbol (advance_symbol common)) (written common m (waiting + 1) word) (advance_events waiting (event_at common m symbol ∷ written common m 0 word))

-- Names that a machine has are names.
record AreNamed (common : Common) (m : Machine) : Type 0 where
  classes : All (λ name. (is_name name ≡ true) × (has_class m name ≡ true)) common.classes
  asks : All (λ name. (is_name name ≡ true) × (has_ask m name ≡ true)) common.asks

module _ (common : Common) (m : Machine) (named : AreNamed common m) where
  abbrev names : TraceNames
  names = names_of_machine m

  -- the line of an issue
  abbrev issue_ends : (name : List ℕ) → is_name name ≡ true → Ends (issue_line name)
  issue_ends name h = ends_more (codes "issue ") (name ++ (10 ∷ [])) refl (ends_more name (10 ∷ []) (name_line name h) (record { line = []; is = refl; whole = refl }))

  issue_said : (name : List ℕ) (h : is_name name ≡ true) → has_class m name ≡ true → line_says names (issue_ends name h).line ≡ says (issue_of m name)
  issue_said name h has = by_place (place_of name m.classes) refl has
    where
      by_place : (o : Option ℕ) → place_of name m.classes ≡ o → is_some o ≡ true → line_says names (issue_ends name h).line ≡ says (issue (unwrap_or o (length m.classes)))
      by_place None e some = cc
      by_place (Some class) e some =
          (issue_says names (issue_ends name h).line class).1
          (name, record { left = []; gap = 32 ∷ []; right = []; parts = ap (λ (bs : List ℕ). codes "issue " ++ bs) (append-nil name) ∙ words_of (codes "issue") name; margin_left = refl; some_gap = omega arith; gap_between = refl; margin_right = refl }, h, e)

  -- the line of an ask
  abbrev ask_ends : (name : List ℕ) → is_name name ≡ true → Ends (ask_line name)
  ask_ends name h = ends_more (codes "ask ") (name ++ (10 ∷ [])) refl (ends_more name (10 ∷ []) (name_line name h) (record { line = []; is = refl; whole = refl }))

  ask_said : (name : List ℕ) (h : is_name name ≡ true) → has_ask m name ≡ true → line_says names (ask_ends name h).line ≡ says (ask_of m name)
  ask_said name h has = by_place (query_place names name) refl has
    where
      by_place : (o : Option (ℕ × ℕ)) → query_place names name ≡ o → is_some o ≡ true → line_says names (ask_ends name h).line ≡ says (ask_at m o)
      by_place None e some = cc
      by_place (Some place) e some =
          (ask_says names (ask_ends name h).line place.0 place.1).1
          (name, record { left = []; gap = 32 ∷ []; right = []; parts = ap (λ (bs : List ℕ). codes "ask " ++ bs) (append-nil name) ∙ words_of (codes "ask") name; margin_left = refl; some_gap = omega arith; gap_between = refl; margin_right = refl }, h, e)

  -- the line of cycles
  abbrev cycles_ends : (cycles : ℕ) → cycles < 2 ^ 64 → Ends (concat (codes "advance " ∷ decimal cycles ∷ codes "\n" ∷ []))
  cycles_ends cycles low =
      ends_more (codes "advance ") (decimal cycles ++ (10 ∷ [])) refl (ends_more (decimal cycles) (10 ∷ []) (digit_line (decimal cycles) (digits_decimal numerals cycles low)) (record { line = []; is = refl; whole = refl }))

  cycles_said : (cycles : ℕ) (low : cycles < 2 ^ 64) → line_says names (cycles_ends cycles low).line ≡ says (advance cycles)
  cycles_said cycles low =
      (advance_says names (cycles_ends cycles low).line cycles).1
      (decimal cycles, record { left = []; gap = 32 ∷ []; right = []; parts = ap (λ (bs : List ℕ). codes "advance " ++ bs) (append-nil (decimal cycles)) ∙ words_of (codes "advance") (decimal cycles); margin_left = refl; some_gap = omega arith; gap_between = refl; margin_right = refl }, number_again cycles low)

  say_cycles : (waiting : ℕ) (rest : List ℕ) (events : List Event) → waiting < 2 ^ 64 → Say names (lines_of rest) events → Say names (lines_of (advance_lines waiting ++ rest)) (advance_events waiting events)
  say_cycles waiting rest events low h = by_none (nat_eq waiting 0)
    where
      by_none : (t : Bool) → Say names (lines_of (cond t [] (concat (codes "advance " ∷ decimal waiting ∷ codes "\n" ∷ [])) ++ rest)) (cond t events (advance waiting ∷ events))
      by_none true = h
      by_none false = say_event names (concat (codes "advance " ∷ decimal waiting ∷ codes "\n" ∷ [])) (cycles_ends waiting low) rest (advance waiting) events (cycles_said waiting low) h

  -- the line of a symbol that is no cycle
  say_symbol : (symbol : ℕ) (rest : List ℕ) (events : List Event) → symbol < symbol_count common → (symbol ≡ advance_symbol common → ⊥) → Say names (lines_of rest) events → Say names (lines_of (symbol_line common symbol ++ rest)) (event_at common m symbol ∷ events)
  say_symbol symbol rest events low other h = ⊎_elim
      (λ (less : symbol < length common.classes).
      let name = get_or common.classes symbol [] in
      let both = named.classes symbol [] less in
      subst (λ (line : List ℕ). Say names (lines_of (line ++ rest)) (event_at common m symbol ∷ events)) (sym (on_true _ _ (nat_lt symbol (length common.classes)) (lt-ltb symbol (length common.classes) less)))
      (say_event names (issue_line name) (issue_ends name both.0) rest (event_at common m symbol) events (issue_said name both.0 both.1 ∙ ap (λ (e : Event). says e) (sym (event_of_class common m symbol less))) h))
      (λ (most : length common.classes ≤ symbol).
      let number = symbol - length common.classes - 1 in
      let more : length common.classes < symbol = further most in
      let is : symbol ≡ length common.classes + suc number = omega (arith, more) in
      let within : number < length common.asks = omega (arith, low, more) in
      let name = get_or common.asks number [] in
      let both = named.asks number [] within in
      subst (λ (line : List ℕ). Say names (lines_of (line ++ rest)) (event_at common m symbol ∷ events)) (sym (on_false _ _ (nat_lt symbol (length common.classes)) (le-ltb symbol (length common.classes) most)))
      (say_event names (ask_line name) (ask_ends name both.0) rest (event_at common m symbol) events (ask_said name both.0 both.1 ∙ ap (λ (e : Event). says e) (sym (event_of_ask common m symbol number is within))) h))
      (cases_lt symbol (length common.classes))
    where
      further : length common.classes ≤ symbol → length common.classes < symbol
      further most = ⊎_elim (λ (less : length common.classes < symbol). less) (λ (least : symbol ≤ length common.classes). absurd (other (omega (arith, most, least)))) (cases_lt (length common.classes) symbol)

  abbrev IsSymbol : ℕ → Type 0
  IsSymbol s = s < symbol_count common

  say_trace : (word : List ℕ) (waiting : ℕ) (rest : List ℕ) → All IsSymbol word → waiting + length word < 2 ^ 64 → Say names (lines_of rest) [] → Say names (lines_of (trace_lines common waiting word ++ rest)) (written common m waiting word)
  say_trace [] waiting rest all few h = say_cycles waiting rest [] (omega (arith, few)) h
  say_trace (symbol ∷ word) waiting rest all few h =
      by_test (nat_eq symbol (advance_symbol common)) refl (say_trace word (waiting + 1) rest (All-tail IsSymbol symbol word all) (omega (arith, few)) h) (say_trace word 0 rest (All-tail IsSymbol symbol word all) (omega (arith, few)) h)
    where
      low : IsSymbol symbol
      low = All-head IsSymbol symbol word all

      by_test : (t : Bool) → nat_eq symbol (advance_symbol common) ≡ t
          → Say names (lines_of (trace_lines common (waiting + 1) word ++ rest)) (written common m (waiting + 1) word) → Say names (lines_of (trace_lines common 0 word ++ rest)) (written common m 0 word)
          → Say names (lines_of (cond t (trace_lines common (waiting + 1) word) (advance_lines waiting ++ (symbol_line common symbol ++ trace_lines common 0 word)) ++ rest))
          (cond t (written common m (waiting + 1) word) (advance_events waiting (event_at common m symbol ∷ written common m 0 word)))
      by_test true e longer again = longer
      by_test false e longer again =
          subst (λ (bs : List ℕ). Say names (lines_of bs) (advance_events waiting (event_at common m symbol ∷ written common m 0 word)))
          (sym (append_assoc (advance_lines waiting) (symbol_line common symbol ++ trace_lines common 0 word) rest ∙ ap (λ (bs : List ℕ). advance_lines waiting ++ bs) (append_assoc (symbol_line common symbol) (trace_lines common 0 word) rest)))
          (say_cycles waiting (symbol_line common symbol ++ (trace_lines common 0 word ++ rest)) (event_at common m symbol ∷ written common m 0 word) (omega (arith, few))
          (say_symbol symbol (trace_lines common 0 word ++ rest) (written common m 0 word) low (λ (is : symbol ≡ advance_symbol common). let yes = eq-eqb symbol (advance_symbol common) is in absurd (no_yes (sym e ∙ yes)))
          again))

  -- ---- what is written is walked as the trace

  symbol_event : (symbol : ℕ) → IsSymbol symbol → (symbol ≡ advance_symbol common → ⊥) → (t : List Event) → cycles_of (event_at common m symbol ∷ t) ≡ cycles_of t
  symbol_event symbol low other t = ⊎_elim
      (λ (less : symbol < length common.classes). ap (λ (e : Event). cycles_of (e ∷ t)) (event_of_class common m symbol less))
      (λ (most : length common.classes ≤ symbol).
      let number = symbol - length common.classes - 1 in
      let more : length common.classes < symbol = further most in
      let is : symbol ≡ length common.classes + suc number = omega (arith, more) in
      let within : number < length common.asks = omega (arith, low, more) in
      ap (λ (e : Event). cycles_of (e ∷ t)) (event_of_ask common m symbol number is within) ∙ no_cycles (query_place names (get_or common.asks number [])))
      (cases_lt symbol (length common.classes))
    where
      further : length common.classes ≤ symbol → length common.classes < symbol
      further most = ⊎_elim (λ (less : length common.classes < symbol). less) (λ (least : symbol ≤ length common.classes). absurd (other (omega (arith, most, least)))) (cases_lt (length common.classes) symbol)

      no_cycles : (o : Option (ℕ × ℕ)) → cycles_of (ask_at m o ∷ t) ≡ cycles_of t
      no_cycles None = refl
      no_cycles (Some place) = refl

  waiting_cycles : (waiting : ℕ) (t : List Event) → cycles_of (advance_events waiting t) ≡ waiting + cycles_of t
  waiting_cycles waiting t = by_none (nat_eq waiting 0) refl
    where
      by_none : (b : Bool) → nat_eq waiting 0 ≡ b → cycles_of (cond b t (advance waiting ∷ t)) ≡ waiting + cycles_of t
      by_none true e = omega (arith, eqb-true waiting 0 e)
      by_none false e = refl

  few_cycles : (word : List ℕ) (waiting : ℕ) → All IsSymbol word → cycles_of (written common m waiting word) ≤ waiting + length word
  few_cycles [] waiting all = omega (arith, waiting_cycles waiting [])
  few_cycles (symbol ∷ word) waiting all = by_test (nat_eq symbol (advance_symbol common)) refl (few_cycles word (waiting + 1) (All-tail IsSymbol symbol word all)) (few_cycles word 0 (All-tail IsSymbol symbol word all))
    where
      by_test : (t : Bool) → nat_eq symbol (advance_symbol common) ≡ t → cycles_of (written common m (waiting + 1) word) ≤ waiting + 1 + length word → cycles_of (written common m 0 word) ≤ 0 + length word → cycles_of (cond t (written common m (waiting + 1) word) (advance_events waiting (event_at common m symbol ∷ written common m 0 word))) ≤ waiting + suc (length word)
      by_test true e more again = omega (arith, more)
      by_test false e more again =
          let rest = written common m 0 word in
          omega (
            arith,
            waiting_cycles waiting (event_at common m symbol ∷ rest),
            symbol_event symbol (All-head IsSymbol symbol word all) (λ (is : symbol ≡ advance_symbol common). no_yes (sym e ∙ eq-eqb symbol (advance_symbol common) is)) rest,
            again,
          )

  module _ (part : Part) where
    abbrev adv : ℕ
    adv = advance_of part

    -- the columns of cycles side by side are those of their number
    waiting_word : (waiting : ℕ) (t : List Event) → word_of part (advance_events waiting t) ≡ replicate waiting adv ++ word_of part t
    waiting_word waiting t = by_none (nat_eq waiting 0) refl
      where
        by_none : (b : Bool) → nat_eq waiting 0 ≡ b → word_of part (cond b t (advance waiting ∷ t)) ≡ replicate waiting adv ++ word_of part t
        by_none true e = ap (λ (n : ℕ). replicate n adv ++ word_of part t) (sym (eqb-true waiting 0 e))
        by_none false e = refl

    word_written : (word : List ℕ) (waiting : ℕ) → word_of part (written common m waiting word) ≡ replicate waiting adv ++ word_of part (events_at common m word)
    word_written [] waiting = waiting_word waiting []
    word_written (symbol ∷ word) waiting = by_test (nat_eq symbol (advance_symbol common)) refl (word_written word (waiting + 1)) (word_written word 0)
      where
        by_test : (t : Bool) → nat_eq symbol (advance_symbol common) ≡ t → word_of part (written common m (waiting + 1) word) ≡ replicate (waiting + 1) adv ++ word_of part (events_at common m word) → word_of part (written common m 0 word) ≡ replicate 0 adv ++ word_of part (events_at common m word) → word_of part (cond t (written common m (waiting + 1) word) (advance_events waiting (event_at common m symbol ∷ written common m 0 word))) ≡ replicate waiting adv ++ word_of part (event_at common m symbol ∷ events_at common m word)
        by_test true e longer again =
            longer
            ∙ (ap (λ (w : List ℕ). w ++ word_of part (events_at common m word)) (sym (replicate_more waiting adv))
            ∙ (append_assoc (replicate waiting adv) (adv ∷ []) (word_of part (events_at common m word))
            ∙ ap (λ (x : Event). replicate waiting adv ++ word_of part (x ∷ events_at common m word)) (sym (event_of_advance common m symbol (eqb-true symbol (advance_symbol common) e)))))
        by_test false e longer again =
            waiting_word waiting (event_at common m symbol ∷ written common m 0 word)
            ∙ ap (λ (w : List ℕ). replicate waiting adv ++ w)
            (word_of-append part (event_at common m symbol ∷ []) (written common m 0 word) ∙ (ap (λ (w : List ℕ). word_of part (event_at common m symbol ∷ []) ++ w) again ∙ sym (word_of-append part (event_at common m symbol ∷ []) (events_at common m word))))

  walk_parts : (parts : List Part) (states : List ℕ) (s t : List Event) → ((part : Part) → word_of part s ≡ word_of part t) → parts_walk parts states s ≡ parts_walk parts states t
  walk_parts [] states s t same = refl
  walk_parts (part ∷ parts) [] s t same = refl
  walk_parts (part ∷ parts) (state ∷ states) s t same = λ i. onto_states (walk part.rows (Some state) (same part i)) (walk_parts parts states s t same i)

  walk_written : (word : List ℕ) → machine_walk m (written common m 0 word) ≡ machine_walk m (events_at common m word)
  walk_written word = walk_parts m.parts (starts_of m) (written common m 0 word) (events_at common m word) (λ part. word_written part word 0)

-- ---- the other lines

abbrev alone_ends : (kind file name : List ℕ) → is_line kind ≡ true → is_line file ≡ true → is_line name ≡ true → Ends (alone_line kind file name)
alone_ends kind file name h k l =
    ends_more (codes "; ") (concat (kind ∷ codes " " ∷ name ∷ codes " is of " ∷ file ∷ codes " alone\n" ∷ [])) refl
    (ends_more kind (concat (codes " " ∷ name ∷ codes " is of " ∷ file ∷ codes " alone\n" ∷ [])) h
    (ends_more (codes " ") (concat (name ∷ codes " is of " ∷ file ∷ codes " alone\n" ∷ [])) refl
    (ends_more name (concat (codes " is of " ∷ file ∷ codes " alone\n" ∷ [])) l
    (ends_more (codes " is of ") (concat (file ∷ codes " alone\n" ∷ [])) refl
    (ends_more file (codes " alone\n") k (record { line = codes " alone"; is = refl; whole = refl }))))))

abbrev last_ends : (what middle one other : List ℕ) → is_line what ≡ true → is_line middle ≡ true → is_line one ≡ true → is_line other ≡ true → Ends (concat (what ∷ one ∷ middle ∷ other ∷ codes "\n" ∷ []))
last_ends what middle one other h k l n =
    ends_more what (concat (one ∷ middle ∷ other ∷ codes "\n" ∷ [])) h
    (ends_more one (concat (middle ∷ other ∷ codes "\n" ∷ [])) l
    (ends_more middle (concat (other ∷ codes "\n" ∷ [])) k
    (ends_more other (codes "\n") n (record { line = []; is = refl; whole = refl }))))

module _ (names : TraceNames) (file other_file : List ℕ) (one : is_line file ≡ true) (other : is_line other_file ≡ true) where
  say_alone : (kind own : List ℕ) → is_line kind ≡ true → is_line own ≡ true → (xs : List (List ℕ)) (rest : List ℕ) (events : List Event) → All (λ name. is_name name ≡ true) xs → Say names (lines_of rest) events → Say names (lines_of (flat_map (alone_line kind own) xs ++ rest)) events
  say_alone kind own h k [] rest events all said = said
  say_alone kind own h k (name ∷ xs) rest events all said =
      let line = alone_ends kind own name h k (name_line name (All-head (λ (n : List ℕ). is_name n ≡ true) name xs all)) in
      subst (λ (bs : List ℕ). Say names (lines_of bs) events) (sym (append_assoc (alone_line kind own name) (flat_map (alone_line kind own) xs) rest))
      (say_skip names (alone_line kind own name) line _ (flat_map (alone_line kind own) xs ++ rest) events refl (say_alone kind own h k xs rest events (All-tail (λ (n : List ℕ). is_name n ≡ true) name xs all) said))

  say_last : (asks answer : Bool) → Say names (lines_of (last_line file other_file asks answer)) []
  say_last asks answer = subst (λ (bs : List ℕ). Say names (lines_of bs) []) (append-nil (last_line file other_file asks answer)) (by_answer asks answer)
    where
      by_answer : (asks answer : Bool) → Say names (lines_of (last_line file other_file asks answer ++ [])) []
      by_answer false true = say_skip names (refused_line other_file file) (last_ends (codes "; refused by ") (codes ", accepted by ") other_file file refl refl other one) _ [] [] refl nothing
      by_answer false false = say_skip names (refused_line file other_file) (last_ends (codes "; refused by ") (codes ", accepted by ") file other_file refl refl one other) _ [] [] refl nothing
      by_answer true true = say_skip names (reserved_line file other_file) (last_ends (codes "; reserved in ") (codes ", free in ") file other_file refl refl one other) _ [] [] refl nothing
      by_answer true false = say_skip names (reserved_line other_file file) (last_ends (codes "; reserved in ") (codes ", free in ") other_file file refl refl other one) _ [] [] refl nothing

-- ---- the whole text

front_none : (m : Machine) (events : List Event) (k : ℕ) → machine_walk m (take k events) ≡ None → machine_walk m events ≡ None
front_none m events k none =
    ap (machine_walk m) (sym (take-append-drop k events))
    ∙ (parts_walk-append m.parts (starts_of m) (take k events) (drop k events) ∙ ap (option_and_then (λ next. parts_walk m.parts next (drop k events))) none)

status_walked : (m : Machine) (lines : List ℕ) (events : List Event) (s : ℕ) (t : List ℕ) → IsSome (machine_walk m events) → Walks m lines events s t → s ≡ 0
status_walked m lines events s t walked (inl h) = h.1.3.0
status_walked m lines events s t walked (inr h) = absurd (no_yes (sym (ap is_some (front_none m events (h.0 + 1) h.3.1)) ∙ walked))

status_refused : (m : Machine) (lines : List ℕ) (events : List Event) (s : ℕ) (t : List ℕ) → is_some (machine_walk m events) ≡ false → Walks m lines events s t → s ≡ 1
status_refused m lines events s t refused (inl h) = absurd (no_yes (sym refused ∙ h.0))
status_refused m lines events s t refused (inr h) = h.6.3.0

-- names of a tables text are names
asks_named : (classes : ℕ) (parts : List PartText) → AllByRecursion (IsPartText classes) parts → All (λ name. is_name name ≡ true) (names_of (map part_of parts))
asks_named classes [] h = All-nil (λ (name : List ℕ). is_name name ≡ true)
asks_named classes (part ∷ parts) h =
    All-append (λ (name : List ℕ). is_name name ≡ true) part.asks (names_of (map part_of parts)) (All-from_recursion (λ (name : List ℕ). is_name name ≡ true) part.asks h.0.asks) (asks_named classes parts h.1)

pub tables_named : (text : List ℕ) (m : Machine) → TableText text m → All (λ name. is_name name ≡ true) m.classes × All (λ name. is_name name ≡ true) (names_of m.parts)
tables_named text m is =
    subst (λ (x : Machine). All (λ name. is_name name ≡ true) x.classes × All (λ name. is_name name ≡ true) (names_of x.parts)) (sym is.stands)
    (All-from_recursion (λ (name : List ℕ). is_name name ≡ true) is.says.classes is.fits.names, asks_named (length is.says.classes) is.says.parts is.fits.parts)

module _ (first second : Machine) (named : All (λ name. is_name name ≡ true) first.classes × All (λ name. is_name name ≡ true) (names_of first.parts)) (named' : All (λ name. is_name name ≡ true) second.classes × All (λ name. is_name name ≡ true) (names_of second.parts)) where
  abbrev shared : Common
  shared = common_of first second

  both_named : (P Q : List ℕ → Type 0) (xs : List (List ℕ)) → All P xs → All Q xs → All (λ name. P name × Q name) xs
  both_named P Q xs h k i d low = (h i d low, k i d low)

  classes_named : All (λ name. is_name name ≡ true) shared.classes
  classes_named = All-filter (has_class second) (λ (name : List ℕ). is_name name ≡ true) first.classes named.0

  shared_asks_named : All (λ name. is_name name ≡ true) shared.asks
  shared_asks_named = All-filter (has_ask second) (λ (name : List ℕ). is_name name ≡ true) (names_of first.parts) named.1

  first_named : AreNamed shared first
  first_named = record {
    classes = both_named (λ name. is_name name ≡ true) (λ name. has_class first name ≡ true) shared.classes classes_named (first_classes first second);
    asks = both_named (λ name. is_name name ≡ true) (λ name. has_ask first name ≡ true) shared.asks shared_asks_named (first_asks first second);
  }

  second_named : AreNamed shared second
  second_named = record {
    classes = both_named (λ name. is_name name ≡ true) (λ name. has_class second name ≡ true) shared.classes classes_named (second_classes first second);
    asks = both_named (λ name. is_name name ≡ true) (λ name. has_ask second name ≡ true) shared.asks shared_asks_named (second_asks first second);
  }

  module _ (file other_file text : List ℕ) (one : is_line file ≡ true) (other : is_line other_file ≡ true) (said : SaysDifference file other_file first second text) (short : length said.trace ≤ advance_limit) where
    abbrev t : TellsApart first second said.least.before said.least.last
    t = said.least.tells

    abbrev before : List ℕ
    before = said.least.before

    abbrev last : ℕ
    last = said.least.last

    symbols_there : All (λ s. s < symbol_count shared) said.trace
    symbols_there = subst (All (λ s. s < symbol_count shared)) (sym said.least.is)
        (All-append (λ (s : ℕ). s < symbol_count shared) before (last ∷ []) (λ i d low. let most = t.walked i d low in omega (arith, most))
        (All-cons (λ (s : ℕ). s < symbol_count shared) last [] t.there (All-nil (λ (s : ℕ). s < symbol_count shared))))

    say_names : (names : TraceNames) (rest : List ℕ) (events : List Event) → Say names (lines_of rest) events → Say names (lines_of (names_alone file other_file first second ++ rest)) events
    say_names names rest events h =
        let kind = codes "class" in
        let asked = codes "ask" in
        let a = flat_map (alone_line kind file) (classes_alone first second) in
        let b = flat_map (alone_line asked file) (asks_alone first second) in
        let c = flat_map (alone_line kind other_file) (classes_alone second first) in
        let d = flat_map (alone_line asked other_file) (asks_alone second first) in
        subst (λ (bs : List ℕ). Say names (lines_of bs) events)
        (sym (append_assoc (a ++ b) (c ++ d) rest ∙ (append_assoc a b ((c ++ d) ++ rest) ∙ ap (λ (bs : List ℕ). a ++ (b ++ bs)) (append_assoc c d rest))))
        (say_alone names file other_file one other kind file refl one (classes_alone first second) (b ++ (c ++ (d ++ rest))) events (All-filter (λ name. not (has_class second name)) (λ (name : List ℕ). is_name name ≡ true) first.classes named.0)
        (say_alone names file other_file one other asked file refl one (asks_alone first second) (c ++ (d ++ rest)) events (All-filter (λ name. not (has_ask second name)) (λ (name : List ℕ). is_name name ≡ true) (names_of first.parts) named.1)
        (say_alone names file other_file one other kind other_file refl other (classes_alone second first) (d ++ rest) events (All-filter (λ name. not (has_class first name)) (λ (name : List ℕ). is_name name ≡ true) second.classes named'.0)
        (say_alone names file other_file one other asked other_file refl other (asks_alone second first) rest events (All-filter (λ name. not (has_ask first name)) (λ (name : List ℕ). is_name name ≡ true) (names_of second.parts) named'.1) h))))

    -- the text is the trace, by the names of either machine
    is_trace : (m : Machine) → AreNamed shared m → Trace (names_of_machine m) text (written shared m 0 said.trace)
    is_trace m own = record {
      lines = subst (λ (bs : List ℕ). Say (names_of_machine m) (lines_of bs) (written shared m 0 said.trace)) (sym said.says)
          (say_names (names_of_machine m) (trace_lines shared 0 said.trace ++ last_line file other_file (nat_lt (advance_symbol shared) last) answer) (written shared m 0 said.trace)
          (say_trace shared m own said.trace 0 (last_line file other_file (nat_lt (advance_symbol shared) last) answer) symbols_there (omega (arith, short)) (say_last (names_of_machine m) file other_file one other (nat_lt (advance_symbol shared) last) answer)));
      short = omega (arith, short, few_cycles shared m own said.trace 0 symbols_there);
    }
      where
        answer : Bool
        answer = answer_in first t.states (event_at shared first last)

    walked_as : (m : Machine) → AreNamed shared m → (name trace : List ℕ) (s : ℕ) (answer : List ℕ) → WalksTrace trace text m s answer → Walks m (event_lines (names_of_machine m) 1 (lines_of text)) (written shared m 0 said.trace) s answer
    walked_as m own name trace s answer (inl (events, is, walks)) =
        subst (λ (es : List Event). Walks m (event_lines (names_of_machine m) 1 (lines_of text)) es s answer) (one_trace (names_of_machine m) text events (written shared m 0 said.trace) is (is_trace m own)) walks
    walked_as m own name trace s answer (inr (kind, line, wrong, reported)) = absurd (trace_or_fault (names_of_machine m) text (written shared m 0 said.trace) kind line (is_trace m own) wrong)

    is_walked : (m : Machine) (own : AreNamed shared m) → is_some (machine_walk m (written shared m 0 said.trace)) ≡ is_some (machine_walk m (events_at shared m (before ++ last ∷ [])))
    is_walked m own = ap is_some (walk_written shared m own said.trace) ∙ ap (λ (w : List ℕ). is_some (machine_walk m (events_at shared m w))) said.least.is

    -- an ask is walked
    asked_on : (m : Machine) (states : List ℕ) → machine_walk m (events_at shared m before) ≡ Some states → last < symbol_count shared → advance_symbol shared < last → is_some (machine_walk m (events_at shared m (before ++ last ∷ []))) ≡ true
    asked_on m states walked low high =
        let number = last - length shared.classes - 1 in
        let is : last ≡ length shared.classes + suc number = omega (arith, high) in
        ap is_some (walked_more m shared before last states walked
        ∙ ap (λ (e : Event). parts_walk m.parts states (e ∷ [])) (event_of_ask shared m last number is (omega (arith, low, high))))
        ∙ by_ask (query_place (names_of_machine m) (get_or shared.asks number []))
      where
        stays : (parts : List Part) (states : List ℕ) (a query : ℕ) → length states ≡ length parts → is_some (parts_walk parts states (ask a query ∷ [])) ≡ true
        stays [] states a query same = refl
        stays (part ∷ parts) [] a query same = absurd (omega (arith, same))
        stays (part ∷ parts) (state ∷ states) a query same = onto_some (parts_walk parts states (ask a query ∷ [])) (stays parts states a query (omega (arith, same)))
          where
            onto_some : (o : Option (List ℕ)) → is_some o ≡ true → is_some (onto_states (Some state) o) ≡ true
            onto_some None h = h
            onto_some (Some xs) h = refl

        by_ask : (o : Option (ℕ × ℕ)) → is_some (parts_walk m.parts states (ask_at m o ∷ [])) ≡ true
        by_ask None = stays m.parts states (length m.parts) 0 (length-walked m.parts (starts_of m) (events_at shared m before) states walked)
        by_ask (Some place) = stays m.parts states place.0 place.1 (length-walked m.parts (starts_of m) (events_at shared m before) states walked)

    pub answered : (tables other_tables name other_name trace : List ℕ) → TableText tables first → TableText other_tables second → (s s' : ℕ) (a a' : List ℕ) → HasTables name tables (WalksTrace trace text) s a → HasTables other_name other_tables (WalksTrace trace text) s' a'
        → AnswerApart (nat_le last (advance_symbol shared)) s s'
    answered tables other_tables name other_name trace reads reads' s s' a a' walk walk' =
        by_last (nat_le last (advance_symbol shared)) refl
      where
        own : Walks first (event_lines (names_of_machine first) 1 (lines_of text)) (written shared first 0 said.trace) s a
        own = walked_as first first_named name trace s a (judged name tables first (WalksTrace trace text) s a reads walk)

        its : Walks second (event_lines (names_of_machine second) 1 (lines_of text)) (written shared second 0 said.trace) s' a'
        its = walked_as second second_named other_name trace s' a' (judged other_name other_tables second (WalksTrace trace text) s' a' reads' walk')

        by_last : (leads : Bool) → nat_le last (advance_symbol shared) ≡ leads → AnswerApart leads s s'
        by_last false e = (
          status_walked first _ (written shared first 0 said.trace) s a (is_walked first first_named ∙ asked_on first t.states t.one t.there (leb-false last (advance_symbol shared) e)) own,
          status_walked second _ (written shared second 0 said.trace) s' a' (is_walked second second_named ∙ asked_on second t.others t.other t.there (leb-false last (advance_symbol shared) e)) its,
        )
        by_last true e = by_answers (answer_in first t.states (event_at shared first last)) (answer_in second t.others (event_at shared second last)) refl refl
          where
            low : last ≤ advance_symbol shared
            low = leb-true last (advance_symbol shared) e

            goes : is_some (machine_walk first (written shared first 0 said.trace)) ≡ answer_in first t.states (event_at shared first last)
            goes = is_walked first first_named ∙ (ap is_some (walked_more first shared before last t.states t.one) ∙ sym (first_answer first second t.states last low (length-walked first.parts (starts_of first) (events_at shared first before) t.states t.one)))

            goes' : is_some (machine_walk second (written shared second 0 said.trace)) ≡ answer_in second t.others (event_at shared second last)
            goes' = is_walked second second_named ∙ (ap is_some (walked_more second shared before last t.others t.other) ∙ sym (second_answer first second t.others last low (length-walked second.parts (starts_of second) (events_at shared second before) t.others t.other)))

            by_answers : (x y : Bool) → answer_in first t.states (event_at shared first last) ≡ x → answer_in second t.others (event_at shared second last) ≡ y → AnswerApart true s s'
            by_answers true true p q = absurd (t.otherwise (p ∙ sym q))
            by_answers false false p q = absurd (t.otherwise (p ∙ sym q))
            by_answers true false p q = inl (status_walked first _ (written shared first 0 said.trace) s a (goes ∙ p) own, status_refused second _ (written shared second 0 said.trace) s' a' (goes' ∙ q) its)
            by_answers false true p q = inr (status_refused first _ (written shared first 0 said.trace) s a (goes ∙ p) own, status_walked second _ (written shared second 0 said.trace) s' a' (goes' ∙ q) its)
