-- What a fault tells of a text.
use Rattle.std.proofs.Common.{◌≡◌, ◌≢◌, ℕ, zero, suc, ◌+◌, ◌<◌, ◌≤◌, Bool, true, false, cond, List, [], ◌∷◌, ◌++◌, length, Result, Ok, Err, refl, sym, ap, ◌∙◌, subst, arith, inl, inr, ◌⊎◌}
use Rattle.std.specs.Prelude.{◌==◌}
use Rattle.std.specs.List.{onto_first}
use Rattle.std.proofs.lemmas.Bool.{cases_lt}
use Rattle.std.proofs.lemmas.List.{append-nil, length-append}
use Rattle.hz_pipeline_model.specs.Tables.Machines.{Machine}
use Rattle.hz_tabtext_model.specs.Judging.{truncated, trailing, Fault, ◌>>=◌}
use Rattle.hz_tabtext_model.specs.Fields.{is_nil}
use Rattle.hz_tabtext_model.specs.Reading.{line_by, machine_at, lines_in, is_over, tables_in}
use Rattle.hz_tabtext_model.specs.Lines.{header_in}
use Rattle.hz_tabtext_model.specs.Texts.{TableText}
use Rattle.hz_tabtext_model.specs.Faults.{last_line, truncated_at, trailing_at}
use Rattle.hz_tabtext_model.proofs.FieldLaws.{some_lines}
use Rattle.hz_tabtext_model.proofs.TextTakes.{tables_take}
use Rattle.hz_tabtext_model.proofs.TextAgain.{tables_again}
use Rattle.hz_tabtext_model.proofs.CutReading.{close, LateEnd, Ends, wrong_before, goes_past, done_there, closes_text}

-- ---- a front of a text

-- The lines of a front that are ended, and what comes after them.
record Front (front : List ℕ) : Type 0 where
  ended : List (List ℕ)
  last : List ℕ
  one : lines_in last ≡ last ∷ []
  parts : (more : List ℕ) → lines_in (front ++ more) ≡ ended ++ lines_in (last ++ more)

feed_before : (b : ℕ) (bs : List ℕ) → (b == 10) ≡ true → Front bs → Front (b ∷ bs)
feed_before b bs is f = record { ended = [] ∷ f.ended; last = f.last; one = f.one; parts = λ more. rw is (ap (λ (ls : List (List ℕ)). [] ∷ ls) (f.parts more)) }

byte_before : (b : ℕ) (bs : List ℕ) → (b == 10) ≡ false → (ended : List (List ℕ)) (last : List ℕ) → lines_in last ≡ last ∷ []
    → ((more : List ℕ) → lines_in (bs ++ more) ≡ ended ++ lines_in (last ++ more)) → Front (b ∷ bs)
byte_before b bs is [] last one parts = record { ended = []; last = b ∷ last; one = rw is (ap (onto_first b) one); parts = λ more. rw is (ap (onto_first b) (parts more)) }
byte_before b bs is (line ∷ ended) last one parts = record { ended = (b ∷ line) ∷ ended; last = last; one = one; parts = λ more. rw is (ap (onto_first b) (parts more)) }

front_of : (front : List ℕ) → Front front
front_of [] = record { ended = []; last = []; one = refl; parts = λ more. refl }
front_of (b ∷ bs) = by_byte (b == 10) refl (front_of bs)
  where
    by_byte : (c : Bool) → (b == 10) ≡ c → Front bs → Front (b ∷ bs)
    by_byte true is f = feed_before b bs is f
    by_byte false is f = byte_before b bs is f.ended f.last f.one f.parts

front_lines : (front : List ℕ) (f : Front front) → lines_in front ≡ f.ended ++ f.last ∷ []
front_lines front f =
    ap lines_in (sym (append-nil front)) ∙ (f.parts [] ∙ (ap (λ (bs : List ℕ). f.ended ++ lines_in bs) (append-nil f.last) ∙ ap (λ (ls : List (List ℕ)). f.ended ++ ls) f.one))

front_long : (front : List ℕ) (f : Front front) → 1 + length f.ended ≡ last_line front
front_long front f = let lines = front_lines front f in let long = length-append f.ended (f.last ∷ []) in let same = ap length lines in omega (arith, long, same)

abbrev read_lines : List (List ℕ) → Result Machine Fault
read_lines lines = line_by header_in (record { number = 1; lines = lines }) >>= λ header. machine_at header.0 header.1

-- a text and its front are read alike up to the last line of the front
read_alike : (front more : List ℕ) (f : Front front) → Ends f.last (lines_in (f.last ++ more)) (some_lines (f.last ++ more)) (last_line front) (tables_in (front ++ more)) (tables_in front)
unfolding tables_in
read_alike front more f =
    let c = closes_text f.last (lines_in (f.last ++ more)) (some_lines (f.last ++ more)) (last_line front) in
    let alike : Result Machine Fault → Result Machine Fault → Type 0 = λ r s. Ends f.last (lines_in (f.last ++ more)) (some_lines (f.last ++ more)) (last_line front) r s in
    let front_is = subst (λ (ls : List (List ℕ)). alike (read_lines (f.ended ++ lines_in (f.last ++ more))) (read_lines ls)) (sym (front_lines front f)) (c.along 1 f.ended (front_long front f)) in
    subst (λ (ls : List (List ℕ)). alike (read_lines ls) (tables_in front)) (sym (f.parts more)) front_is

-- ---- what comes of both

close_at : {B : Type 0} (m : B) (number : ℕ) (lines : List (List ℕ)) (f : Fault) → close m number lines ≡ Err f → f ≡ trailing_at number
close_at m number lines f e = by_end (is_over lines) e
  where
    by_end : (b : Bool) → cond b (Ok m) (Err (trailing_at number)) ≡ Err f → f ≡ trailing_at number
    by_end true h = absurd (cc)
    by_end false h = cc

pub err_is : {A : Type 0} (f g : Fault) → ◌≡◌ {A = Result A Fault} (Err f) (Err g) → f ≡ g
err_is f g e = cc

module _ {B : Type 0} (last : List ℕ) (more : List (List ℕ)) (some : is_nil more ≡ false) (edge : ℕ) where
  abbrev Alike : Result B Fault → Result B Fault → Type 0
  Alike r s = Ends last more some edge r s

  fault_of_front : (r s : Result B Fault) (f : Fault) → Alike r s → f.line < edge → r ≡ Err f → s ≡ Err f
  fault_of_front r s f (wrong_before g lt kind) before e = e
  fault_of_front r s f (goes_past _ late) before e = let h = subst (LateEnd last more some edge) e late in absurd (omega (arith, h.0))
  fault_of_front r s f (done_there m) before e = let h = ap (λ (g : Fault). g.line) (close_at m edge more f e) in absurd (omega (arith, h))

  fault_of_text : (r s : Result B Fault) (f : Fault) → Alike r s → f.line < edge → s ≡ Err f → r ≡ Err f
  fault_of_text r s f (wrong_before g lt kind) before e = e
  fault_of_text r s f (goes_past _ late) before e = let h = ap (λ (g : Fault). g.line) (err_is {A = B} (truncated_at edge) f e) in absurd (omega (arith, h))
  fault_of_text r s f (done_there m) before e = let h = ap (λ (g : Fault). g.line) (close_at m edge (last ∷ []) f e) in absurd (omega (arith, h))

  -- where the text has a later fault, the front is truncated
  truncated_front : (r s : Result B Fault) (f : Fault) → Alike r s → edge ≤ f.line → f.kind ≢ trailing → r ≡ Err f → s ≡ Err (truncated_at edge)
  truncated_front r s f (wrong_before g lt kind) beyond not e = let h = ap (λ (g : Fault). g.line) (err_is {A = B} g f e) in absurd (omega (arith, h))
  truncated_front r s f (goes_past _ late) beyond not e = refl
  truncated_front r s f (done_there m) beyond not e = absurd (not (ap (λ (g : Fault). g.kind) (close_at m edge more f e)))

  -- where the text is read and does not end with the front, the front is truncated
  truncated_machine : (r s : Result B Fault) (m : B) → Alike r s → is_over more ≡ false → r ≡ Ok m → s ≡ Err (truncated_at edge)
  truncated_machine r s m (wrong_before g lt kind) goes e = absurd (cc)
  truncated_machine r s m (goes_past _ late) goes e = refl
  truncated_machine r s m (done_there n) goes e = let h : close n edge more ≡ Err (trailing_at edge) = ap (λ (b : Bool). cond b (Ok n) (Err (trailing_at edge))) goes in absurd (cc)

  -- where the front is read, something after it is trailing
  trailing_text : (r s : Result B Fault) (m : B) → Alike r s → is_over more ≡ false → s ≡ Ok m → r ≡ Err (trailing_at edge)
  trailing_text r s m (wrong_before g lt kind) goes e = absurd (cc)
  trailing_text r s m (goes_past _ late) goes e = absurd (cc)
  trailing_text r s m (done_there n) goes e = ap (λ (b : Bool). cond b (Ok n) (Err (trailing_at edge))) goes

  -- what is trailing comes after a front that is read, where that ends with a line
  trailing_front : (r s : Result B Fault) → Alike r s → last ≡ [] → r ≡ Err (trailing_at edge) → (m : B) × (s ≡ Ok m)
  trailing_front r s (wrong_before g lt kind) ends e = let h = ap (λ (g : Fault). g.line) (err_is {A = B} g (trailing_at edge) e) in absurd (omega (arith, h))
  trailing_front r s (goes_past _ late) ends e = let h = subst (LateEnd last more some edge) e late in let lt = h.1 refl in absurd (omega (arith, lt))
  trailing_front r s (done_there m) ends e = (m, ap (λ (l : List ℕ). close m edge (l ∷ [])) ends)

  -- the line of a fault of the front is one of its lines, and where the front is truncated the last
  line_of_front : (r s : Result B Fault) (f : Fault) → Alike r s → s ≡ Err f → (f.line ≤ edge) × (f.kind ≡ truncated → f.line ≡ edge)
  line_of_front r s f (wrong_before g lt kind) e = let h = err_is {A = B} g f e in subst (λ (x : Fault). (x.line ≤ edge) × (x.kind ≡ truncated → x.line ≡ edge)) h (omega arith, λ is. absurd (kind is))
  line_of_front r s f (goes_past _ late) e = let h = err_is {A = B} (truncated_at edge) f e in subst (λ (x : Fault). (x.line ≤ edge) × (x.kind ≡ truncated → x.line ≡ edge)) h (omega arith, λ is. refl)
  line_of_front r s f (done_there m) e = let h = close_at m edge (last ∷ []) f e in subst (λ (x : Fault). (x.line ≤ edge) × (x.kind ≡ truncated → x.line ≡ edge)) (sym h) (omega arith, λ is. absurd (cc))

-- ---- laws

pub fault_stays : (front more other : List ℕ) (fault : Fault) → fault.line < last_line front → tables_in (front ++ more) ≡ Err fault → tables_in (front ++ other) ≡ Err fault
fault_stays front more other fault lt e =
    let f = front_of front in
    let here = fault_of_front f.last (lines_in (f.last ++ more)) (some_lines (f.last ++ more)) (last_line front) (tables_in (front ++ more)) (tables_in front) fault (read_alike front more f) lt e in
    fault_of_text f.last (lines_in (f.last ++ other)) (some_lines (f.last ++ other)) (last_line front) (tables_in (front ++ other)) (tables_in front) fault (read_alike front other f) lt here

pub no_machine : (front more other : List ℕ) (fault : Fault) (machine : Machine) → fault.line < last_line front → tables_in (front ++ more) ≡ Err fault → TableText (front ++ other) machine → ⊥
no_machine front more other fault machine lt e t =
    let h = fault_stays front more other fault lt e in
    let k = tables_again (front ++ other) machine t in
    cc

pub fault_is_cut : (front more : List ℕ) (fault : Fault) → fault.kind ≢ trailing → last_line front ≤ fault.line → tables_in (front ++ more) ≡ Err fault → tables_in front ≡ Err (truncated_at (last_line front))
fault_is_cut front more fault not beyond e =
    let f = front_of front in
    truncated_front f.last (lines_in (f.last ++ more)) (some_lines (f.last ++ more)) (last_line front) (tables_in (front ++ more)) (tables_in front) fault (read_alike front more f) beyond not e

-- a text is over only where it is empty
over_is_empty : (text : List ℕ) → is_over (lines_in text) ≡ true → text ≡ []
over_is_empty [] h = refl
over_is_empty (b ∷ bs) h = absurd (by_byte (b == 10) (lines_in bs) (some_lines bs) h)
  where
    by_byte : (c : Bool) (others : List (List ℕ)) → is_nil others ≡ false → is_over (cond c ([] ∷ others) (onto_first b others)) ≡ true → ⊥
    by_byte true [] some k = cc
    by_byte true (line ∷ others) some k = cc
    by_byte false [] some k = cc
    by_byte false (line ∷ others) some k = cc

goes_on_after : (last more : List ℕ) → more ≢ [] → is_over (lines_in (last ++ more)) ≡ false
goes_on_after last more some = by_end (is_over (lines_in (last ++ more))) refl
  where
    nothing_after : (last : List ℕ) → last ++ more ≡ [] → more ≡ []
    nothing_after [] e = e
    nothing_after (b ∷ bs) e = absurd (cc)

    by_end : (b : Bool) → is_over (lines_in (last ++ more)) ≡ b → b ≡ false
    by_end true h = absurd (some (nothing_after last (over_is_empty (last ++ more) h)))
    by_end false h = refl

pub machine_is_cut : (front more : List ℕ) (machine : Machine) → more ≢ [] → TableText (front ++ more) machine → tables_in front ≡ Err (truncated_at (last_line front))
machine_is_cut front more machine some t =
    let f = front_of front in
    truncated_machine f.last (lines_in (f.last ++ more)) (some_lines (f.last ++ more)) (last_line front) (tables_in (front ++ more)) (tables_in front) machine (read_alike front more f) (goes_on_after f.last more some) (tables_again (front ++ more) machine t)

pub after_is_trailing : (front more : List ℕ) (machine : Machine) → TableText front machine → more ≢ [] → tables_in (front ++ more) ≡ Err (trailing_at (last_line front))
after_is_trailing front more machine t some =
    let f = front_of front in
    trailing_text f.last (lines_in (f.last ++ more)) (some_lines (f.last ++ more)) (last_line front) (tables_in (front ++ more)) (tables_in front) machine (read_alike front more f) (goes_on_after f.last more some) (tables_again front machine t)

pub last_of_fault : (text : List ℕ) (fault : Fault) → tables_in text ≡ Err fault → (fault.line ≤ last_line text) × (fault.kind ≡ truncated → fault.line ≡ last_line text)
last_of_fault text fault e =
    let f = front_of text in
    line_of_front f.last (lines_in (f.last ++ [])) (some_lines (f.last ++ [])) (last_line text) (tables_in (text ++ [])) (tables_in text) fault (read_alike text [] f) e

pub first_of_fault : (text : List ℕ) (fault : Fault) → tables_in text ≡ Err fault → 1 ≤ fault.line
unfolding tables_in
first_of_fault text fault e =
    let c = closes_text [] ([] ∷ []) refl 1 in
    let late = c.late (record { number = 1; lines = lines_in text }) (omega arith) in
    (subst (LateEnd [] ([] ∷ []) refl 1) e late).0

pub truncated_line : (text : List ℕ) (line : ℕ) → tables_in text ≡ Err (truncated_at line) → line ≡ last_line text
truncated_line text line e = (last_of_fault text (truncated_at line) e).1 refl

pub last_is_truncated : (text : List ℕ) (fault : Fault) → tables_in text ≡ Err fault → fault.line ≡ last_line text → fault.kind ≢ trailing → fault ≡ truncated_at (last_line text)
last_is_truncated text fault e is not =
    let same = append-nil text in
    let whole : tables_in (text ++ []) ≡ Err fault = ap tables_in same ∙ e in
    let cut = fault_is_cut text [] fault not (omega (arith, is)) whole in
    err_is {A = Machine} fault (truncated_at (last_line text)) (sym e ∙ cut)

pub not_wrong_before : (text more : List ℕ) (line : ℕ) (fault : Fault) → tables_in text ≡ Err (truncated_at line) → tables_in (text ++ more) ≡ Err fault → last_line text ≤ fault.line
not_wrong_before text more line fault e k = by_line (cases_lt fault.line (last_line text))
  where
    by_line : ((fault.line < last_line text) ⊎ (last_line text ≤ fault.line)) → last_line text ≤ fault.line
    by_line (inl lt) =
        let stays : tables_in text ≡ Err fault = ap tables_in (sym (append-nil text)) ∙ fault_stays text more [] fault lt k in
        let at = ap (λ (f : Fault). f.line) (err_is {A = Machine} (truncated_at line) fault (sym e ∙ stays)) in
        let last = truncated_line text line e in
        omega (arith, lt, at, last)
    by_line (inr le) = le

-- ---- a text that is cut before a line

-- A front of so many lines, all ended.
record CutBefore (lines : ℕ) (text : List ℕ) : Type 0 where
  front : List ℕ
  more : List ℕ
  f : Front front
  parts : text ≡ front ++ more
  ends : f.last ≡ []
  each : length f.ended ≡ lines

cut_nowhere : (text : List ℕ) → CutBefore 0 text
unfolding front_of
cut_nowhere text = record { front = []; more = text; f = front_of []; parts = refl; ends = refl; each = refl }

cut_feed : (lines b : ℕ) (bs : List ℕ) → (b == 10) ≡ true → CutBefore lines bs → CutBefore (suc lines) (b ∷ bs)
unfolding feed_before
cut_feed lines b bs is c = record { front = b ∷ c.front; more = c.more; f = feed_before b c.front is c.f; parts = ap (λ (xs : List ℕ). b ∷ xs) c.parts; ends = c.ends; each = ap suc c.each }

cut_byte : (lines b : ℕ) (bs : List ℕ) → (b == 10) ≡ false → CutBefore (suc lines) bs → CutBefore (suc lines) (b ∷ bs)
unfolding byte_before
cut_byte lines b bs is c = by_lines c.f.ended c.f.last c.f.one c.f.parts c.ends c.each
  where
    by_lines : (ended : List (List ℕ)) (last : List ℕ) → lines_in last ≡ last ∷ [] → ((more : List ℕ) → lines_in (c.front ++ more) ≡ ended ++ lines_in (last ++ more)) → last ≡ [] → length ended ≡ suc lines → CutBefore (suc lines) (b ∷ bs)
    by_lines [] last one parts ends each = absurd (omega (arith, each))
    by_lines (line ∷ ended) last one parts ends each =
        record { front = b ∷ c.front; more = c.more; f = byte_before b c.front is (line ∷ ended) last one parts; parts = ap (λ (xs : List ℕ). b ∷ xs) c.parts; ends = ends; each = each }

onto_first_long : (b : ℕ) (lines : List (List ℕ)) → is_nil lines ≡ false → length (onto_first b lines) ≡ length lines
onto_first_long b [] some = absurd (cc)
onto_first_long b (line ∷ lines) some = refl

cut_before : (lines : ℕ) (text : List ℕ) → lines < last_line text → CutBefore lines text
cut_before zero text lt = cut_nowhere text
cut_before (suc lines) [] lt = absurd (omega (arith, lt))
cut_before (suc lines) (b ∷ bs) lt = by_byte (b == 10) refl (cut_before lines bs) (cut_before (suc lines) bs) lt
  where
    by_byte : (c : Bool) → (b == 10) ≡ c → (lines < last_line bs → CutBefore lines bs) → (suc lines < last_line bs → CutBefore (suc lines) bs) → suc lines < length (cond c ([] ∷ lines_in bs) (onto_first b (lines_in bs))) → CutBefore (suc lines) (b ∷ bs)
    by_byte true is fewer same l = cut_feed lines b bs is (fewer (omega (arith, l)))
    by_byte false is fewer same l = let long = onto_first_long b (lines_in bs) (some_lines bs) in cut_byte lines b bs is (same (omega (arith, l, long)))

-- What is trailing comes after a text of a machine.
pub record Trailed (text : List ℕ) (line : ℕ) : Type 0 where
  pub front : List ℕ
  pub more : List ℕ
  pub machine : Machine
  pub parts : text ≡ front ++ more
  pub some : more ≢ []
  pub read : TableText front machine
  pub at : line ≡ last_line front

pub trailing_is_after : (text : List ℕ) (line : ℕ) → tables_in text ≡ Err (trailing_at line) → Trailed text line
trailing_is_after text zero e = let first = first_of_fault text (trailing_at zero) e in absurd (omega (arith, first))
trailing_is_after text (suc lines) e =
    let last = (last_of_fault text (trailing_at (suc lines)) e).0 in
    let c = cut_before lines text (omega (arith, last)) in
    let f = c.f in
    let each = c.each in
    let at : suc lines ≡ last_line c.front = let long = front_long c.front f in omega (arith, each, long) in
    let whole : tables_in (c.front ++ c.more) ≡ Err (trailing_at (last_line c.front)) = ap tables_in (sym c.parts) ∙ (e ∙ ap (λ (n : ℕ). Err (trailing_at n)) at) in
    let m = trailing_front f.last (lines_in (f.last ++ c.more)) (some_lines (f.last ++ c.more)) (last_line c.front) (tables_in (c.front ++ c.more)) (tables_in c.front) (read_alike c.front c.more f) c.ends whole in
    record { front = c.front; more = c.more; machine = m.0; parts = c.parts; some = not_empty c.front c.more m.0 m.1 whole; read = tables_take c.front m.0 m.1; at = at }
  where
    not_empty : (front more : List ℕ) (m : Machine) → tables_in front ≡ Ok m → tables_in (front ++ more) ≡ Err (trailing_at (last_line front)) → more ≢ []
    not_empty front more m read whole is =
        let none : tables_in (front ++ more) ≡ tables_in front = ap (λ (xs : List ℕ). tables_in (front ++ xs)) is ∙ ap tables_in (append-nil front) in
        cc
