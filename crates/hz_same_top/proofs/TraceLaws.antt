-- The lines of a trace, symbol by symbol.
use Rattle.std.proofs.Common.{◌≡◌, ℕ, ◌+◌, ◌<◌, ◌≤◌, Bool, true, false, cond, List, ◌∷◌, ◌++◌, length, drop, get_or, nat_eq, sym, ap, ◌∙◌}
use Rattle.std.proofs.lemmas.List.{append_assoc, drop_more, drop_all}
use Rattle.hz_same_model.specs.Common.{Common, advance_symbol}
use Rattle.hz_same_model.specs.Texts.{advance_lines, symbol_line, trace_lines}

module _ (common : Common) (word : List ℕ) (i symbol : ℕ) (low : i < length word) (is : symbol ≡ get_or word i symbol) where
  here : (waiting : ℕ) (t : Bool) → nat_eq symbol (advance_symbol common) ≡ t
      → trace_lines common waiting (drop i word) ≡ cond t (trace_lines common (waiting + 1) (drop (i + 1) word)) (advance_lines waiting ++ (symbol_line common symbol ++ trace_lines common 0 (drop (i + 1) word)))
  here waiting t tested =
      ap (trace_lines common waiting) (drop_more word i symbol low ∙ ap (λ (x : ℕ). x ∷ drop (i + 1) word) (sym is))
      ∙ ap (λ (b : Bool). cond b (trace_lines common (waiting + 1) (drop (i + 1) word)) (advance_lines waiting ++ (symbol_line common symbol ++ trace_lines common 0 (drop (i + 1) word)))) tested

  -- one cycle more waits
  pub cycle_more : (waiting : ℕ) (text all : List ℕ) → nat_eq symbol (advance_symbol common) ≡ true → text ++ trace_lines common waiting (drop i word) ≡ all → text ++ trace_lines common (waiting + 1) (drop (i + 1) word) ≡ all
  cycle_more waiting text all tested so_far = sym (ap (λ (ys : List ℕ). text ++ ys) (here waiting true tested)) ∙ so_far

  -- what waits is written, and then the symbol
  pub symbol_more : (waiting : ℕ) (text middle new all : List ℕ) → nat_eq symbol (advance_symbol common) ≡ false → text ++ trace_lines common waiting (drop i word) ≡ all → middle ≡ text ++ advance_lines waiting → new ≡ middle ++ symbol_line common symbol
      → new ++ trace_lines common 0 (drop (i + 1) word) ≡ all
  symbol_more waiting text middle new all tested so_far one other =
      let rest = trace_lines common 0 (drop (i + 1) word) in
      ap (λ (ys : List ℕ). ys ++ rest) (other ∙ ap (λ (ys : List ℕ). ys ++ symbol_line common symbol) one)
      ∙ (append_assoc (text ++ advance_lines waiting) (symbol_line common symbol) rest
      ∙ (append_assoc text (advance_lines waiting) (symbol_line common symbol ++ rest)
      ∙ (sym (ap (λ (ys : List ℕ). text ++ ys) (here waiting false tested)) ∙ so_far)))

-- at the end what waits is written
pub trace_ends : (common : Common) (word : List ℕ) (i waiting : ℕ) (text new all : List ℕ) → length word ≤ i → text ++ trace_lines common waiting (drop i word) ≡ all → new ≡ text ++ advance_lines waiting → new ≡ all
trace_ends common word i waiting text new all over so_far more =
    more ∙ (sym (ap (λ (ys : List ℕ). text ++ trace_lines common waiting ys) (drop_all i word over)) ∙ so_far)
