-- What a line is that was judged to be right: each is the one spelling of what was found.
use Rattle.std.proofs.Common.{◌≡◌, ℕ, ◌+◌, ◌*◌, ◌<◌, ◌≤◌, Bool, true, false, cond, nat_le, List, [], ◌∷◌, ◌++◌, map, length, take, drop, Option, Some, None, Result, Ok, Err, refl, sym, ap, ◌∙◌, subst, arith, get_or, inl, inr, ◌⊎◌, decimal, codes, IsTrue}
use Rattle.std.specs.Prelude.{◌==◌, ◌&&◌, IfSome}
use Rattle.std.specs.List.{AllByRecursion, list_all, before_first, after_first, position_or_len}
use Rattle.std.specs.Str.{bytes_eq}
use Rattle.std.proofs.lemmas.Bool.{and_parts, leb-true, eqb-true, both_ways, cases_lt}
use Rattle.std.proofs.lemmas.List.{take-append-drop, map-append, length-map, length-take, length-drop, drop_all}
use Rattle.std.proofs.lemmas.List.Sums.{split_at_first, passes_at_first}
use Rattle.std.proofs.lemmas.Slice.Eq.{bytes_eq-Decides}
use Rattle.hz_base_model.specs.Names.{is_name}
use Rattle.hz_base_model.specs.Limits.{automaton_limit, class_limit, cycle_limit, unit_limit}
use Rattle.hz_pipeline_model.specs.Tables.StateLimits.{state_limit, cell_limit}
use Rattle.hz_tabtext_model.specs.Judging.{Kind, bad_header, bad_line, ◌>>=◌, each_by, out_of_range}
use Rattle.hz_tabtext_model.specs.Fields.{operands, only, three, one_in, three_in, number_in, number_where, number_below, entry_in, advance_in, is_colon, has_unit, cycle_in, ask_entry_in}
use Rattle.hz_tabtext_model.specs.Lines.{Nothing, header_in, treatment_in, classes_in, is_new, class_in, automata_in, Head, are_states, head_of, head_in, map_in, counts_of, counts_in, entries_of, row_in, origin_of, origin_in, grid_in, end_in, asks_of, asks_in, are_asks}
use Rattle.hz_tabtext_model.specs.Texts.{Counts, AreCounts, joined, entry_field, entries_line, origin_line, pair_field, grid_line, map_line, treatment_line, class_line, IsEntry, IsPair, header_line, IsAskEntry}
use Rattle.hz_tabtext_model.proofs.Steps.{bind_ok, guard_ok, ok_is, each_takes}
use Rattle.hz_tabtext_model.proofs.Numbers.{number_takes, where_takes, below_takes, entry_takes, advance_takes, ask_entry_takes}
use Rattle.hz_tabtext_model.proofs.FieldLaws.{operands_take, only_takes}

same_bytes : (a b : List ℕ) → bytes_eq a b ≡ true → a ≡ b
same_bytes a b = (bytes_eq-Decides a b).0

pub header_takes : (line : List ℕ) (asked : Bool) → header_in line ≡ Ok asked → line ≡ joined (header_line asked)
unfolding header_in joined
header_takes line asked e = by_words (bytes_eq line (codes "hazard-tables 2")) refl e
  where
    by_words : (b : Bool) → bytes_eq line (codes "hazard-tables 2") ≡ b → cond b (Ok true) (cond (bytes_eq line (codes "hazard-tables 1")) (Ok false) (Err bad_header)) ≡ Ok asked → line ≡ joined (header_line asked)
    by_words true is h = subst (λ (t : Bool). line ≡ joined (header_line t)) (ok_is {E = Kind} true asked h) (same_bytes line (codes "hazard-tables 2") is)
    by_words false is h =
        let g = guard_ok (bytes_eq line (codes "hazard-tables 1")) (Ok false) bad_header asked h in
        subst (λ (t : Bool). line ≡ joined (header_line t)) (ok_is {E = Kind} false asked g.1) (same_bytes line (codes "hazard-tables 1") g.0)

pub end_takes : (line : List ℕ) (x : Nothing) → end_in line ≡ Ok x → line ≡ codes "end"
unfolding end_in
end_takes line x e = same_bytes line (codes "end") (guard_ok (bytes_eq line (codes "end")) (Ok tt) bad_line x e).0

-- one field after a word
one_takes : {A : Type 0} (word line : List ℕ) (f : List ℕ → Result A Kind) (x : A) → (one_in word line >>= f) ≡ Ok x → (field : List ℕ) × (line ≡ joined (word ∷ field ∷ [])) × (f field ≡ Ok x)
one_takes word line f x e =
    let b = bind_ok (one_in word line) f x e in
    let a = bind_ok (operands word line) only b.0 b.1 in
    (b.0, operands_take word line a.0 a.1 ∙ ap (λ fields. joined (word ∷ fields)) (only_takes a.0 b.0 a.2), b.2)

pub treatment_takes : (line : List ℕ) (ndfa : Bool) → treatment_in line ≡ Ok ndfa → line ≡ joined (treatment_line ndfa)
unfolding treatment_in
treatment_takes line ndfa e =
    let a = one_takes (codes "treatment") line (λ name. cond (bytes_eq name (codes "ndfa")) (Ok true) (cond (bytes_eq name (codes "first")) (Ok false) (Err bad_line))) ndfa e in
    a.1 ∙ named a.0 (bytes_eq a.0 (codes "ndfa")) refl a.2
  where
    named : (name : List ℕ) (b : Bool) → bytes_eq name (codes "ndfa") ≡ b → cond b (Ok true) (cond (bytes_eq name (codes "first")) (Ok false) (Err bad_line)) ≡ Ok ndfa → joined (codes "treatment" ∷ name ∷ []) ≡ joined (treatment_line ndfa)
    named name true is h = subst (λ (t : Bool). joined (codes "treatment" ∷ name ∷ []) ≡ joined (treatment_line t)) (ok_is {E = Kind} true ndfa h) (ap (λ n. joined (codes "treatment" ∷ n ∷ [])) (same_bytes name (codes "ndfa") is))
    named name false is h =
        let g = guard_ok (bytes_eq name (codes "first")) (Ok false) bad_line ndfa h in
        subst (λ (t : Bool). joined (codes "treatment" ∷ name ∷ []) ≡ joined (treatment_line t)) (ok_is {E = Kind} false ndfa g.1) (ap (λ n. joined (codes "treatment" ∷ n ∷ [])) (same_bytes name (codes "first") g.0))

pub classes_take : (line : List ℕ) (count : ℕ) → classes_in line ≡ Ok count → (line ≡ joined (codes "classes" ∷ decimal count ∷ [])) × (count ≤ class_limit)
unfolding classes_in
classes_take line count e =
    let a = one_takes (codes "classes") line (number_where (λ n. nat_le n class_limit)) count e in
    let t = where_takes (λ n. nat_le n class_limit) a.0 count a.2 in
    (a.1 ∙ ap (λ f. joined (codes "classes" ∷ f ∷ [])) t.0, leb-true count class_limit t.2)

pub class_takes : (before : List (List ℕ)) (line name : List ℕ) → class_in before line ≡ Ok name → (line ≡ joined (class_line name)) × (is_name name ≡ true) × (is_new before name ≡ true)
unfolding class_in
class_takes before line name e =
    let a = one_takes (codes "class") line (λ name. cond (is_name name && is_new before name) (Ok name) (Err bad_line)) name e in
    let g = guard_ok (is_name a.0 && is_new before a.0) (Ok a.0) bad_line name a.2 in
    let same = ok_is {E = Kind} a.0 name g.1 in
    let parts = and_parts (is_name name) (is_new before name) (subst (λ (n : List ℕ). (is_name n && is_new before n) ≡ true) same g.0) in
    (a.1 ∙ ap (λ n. joined (class_line n)) same, parts.0, parts.1)

pub automata_take : (line : List ℕ) (count : ℕ) → automata_in line ≡ Ok count → (line ≡ joined (codes "automata" ∷ decimal count ∷ [])) × (1 ≤ count) × (count ≤ automaton_limit)
unfolding automata_in
automata_take line count e =
    let a = one_takes (codes "automata") line (number_where (λ n. nat_le 1 n && nat_le n automaton_limit)) count e in
    let t = where_takes (λ n. nat_le 1 n && nat_le n automaton_limit) a.0 count a.2 in
    let parts = and_parts (nat_le 1 count) (nat_le count automaton_limit) t.2 in
    (a.1 ∙ ap (λ f. joined (codes "automata" ∷ f ∷ [])) t.0, leb-true 1 count parts.0, leb-true count automaton_limit parts.1)

three_take : (fields : List (List ℕ)) (x : List ℕ × List ℕ × List ℕ) → three fields ≡ Ok x → fields ≡ x.0 ∷ x.1 ∷ x.2 ∷ []
three_take [] x e = absurd (cc)
three_take (a ∷ []) x e = absurd (cc)
three_take (a ∷ b ∷ []) x e = absurd (cc)
three_take (a ∷ b ∷ c ∷ []) x e = let made : List ℕ × List ℕ × List ℕ = (a, b, c) in ap (λ (t : List ℕ × List ℕ × List ℕ). t.0 ∷ t.1 ∷ t.2 ∷ []) (ok_is {E = Kind} made x e)
three_take (a ∷ b ∷ c ∷ d ∷ fields) x e = absurd (cc)

-- three fields after a word
three_in_takes : {A : Type 0} (word line : List ℕ) (f : List ℕ × List ℕ × List ℕ → Result A Kind) (x : A) → (three_in word line >>= f) ≡ Ok x
    → (t : List ℕ × List ℕ × List ℕ) × (line ≡ joined (word ∷ t.0 ∷ t.1 ∷ t.2 ∷ [])) × (f t ≡ Ok x)
three_in_takes word line f x e =
    let b = bind_ok (three_in word line) f x e in
    let a = bind_ok (operands word line) three b.0 b.1 in
    (b.0, operands_take word line a.0 a.1 ∙ ap (λ fields. joined (word ∷ fields)) (three_take a.0 b.0 a.2), b.2)

-- what holds of the head of an automaton
pub record IsHead (classes : ℕ) (head : Head) : Type 0 where
  pub name : is_name head.name ≡ true
  pub columns : head.columns ≤ classes
  pub some : 1 ≤ head.states
  pub few : head.states ≤ state_limit
  pub cells : head.states * (head.columns + 1) ≤ cell_limit

head_of_takes : (classes : ℕ) (name columns states : List ℕ) (head : Head) → head_of classes name columns states ≡ Ok head
    → IsHead classes head × (name ≡ head.name) × (columns ≡ decimal head.columns) × (states ≡ decimal head.states)
head_of_takes classes name columns states head e =
    let g = guard_ok (is_name name) (number_where (λ n. nat_le n classes) columns >>= λ c. number_where (are_states c) states >>= λ s. Ok (record { name = name; columns = c; states = s })) bad_line head e in
    let a = bind_ok (number_where (λ n. nat_le n classes) columns) (λ c. number_where (are_states c) states >>= λ s. Ok (record { name = name; columns = c; states = s })) head g.1 in
    let b = bind_ok (number_where (are_states a.0) states) (λ s. Ok (record { name = name; columns = a.0; states = s })) head a.2 in
    let c = where_takes (λ n. nat_le n classes) columns a.0 a.1 in
    let s = where_takes (are_states a.0) states b.0 b.1 in
    let whole = and_parts (nat_le 1 b.0 && nat_le b.0 state_limit) (nat_le (b.0 * (a.0 + 1)) cell_limit) s.2 in
    let range = and_parts (nat_le 1 b.0) (nat_le b.0 state_limit) whole.0 in
    let made : Head = record { name = name; columns = a.0; states = b.0 } in
    subst (λ (h : Head). IsHead classes h × (name ≡ h.name) × (columns ≡ decimal h.columns) × (states ≡ decimal h.states)) (ok_is {E = Kind} made head b.2)
    (record { name = g.0; columns = leb-true a.0 classes c.2; some = leb-true 1 b.0 range.0; few = leb-true b.0 state_limit range.1; cells = leb-true (b.0 * (a.0 + 1)) cell_limit whole.1 }, refl, c.0, s.0)

pub head_takes : (classes : ℕ) (line : List ℕ) (head : Head) → head_in classes line ≡ Ok head
    → (line ≡ joined (codes "automaton" ∷ head.name ∷ decimal head.columns ∷ decimal head.states ∷ [])) × IsHead classes head
unfolding head_in
head_takes classes line head e =
    let t = three_in_takes (codes "automaton") line (λ parts. head_of classes parts.0 parts.1 parts.2) head e in
    let h = head_of_takes classes t.0.0 t.0.1 t.0.2 head t.2 in
    (t.1 ∙ fields_are h.1 h.2 h.3, h.0)
  where
    fields_are : {a b c : List ℕ} → a ≡ head.name → b ≡ decimal head.columns → c ≡ decimal head.states → joined (codes "automaton" ∷ a ∷ b ∷ c ∷ []) ≡ joined (codes "automaton" ∷ head.name ∷ decimal head.columns ∷ decimal head.states ∷ [])
    fields_are p q r = cc

pub map_takes : (classes columns : ℕ) (line : List ℕ) (places : List ℕ) → map_in classes columns line ≡ Ok places
    → (line ≡ joined (map_line places)) × (length places ≡ classes) × AllByRecursion (λ column. column < columns) places
unfolding map_in
map_takes classes columns line places e =
    let o = bind_ok (operands (codes "map") line) (λ fields. cond (length fields == classes) (each_by (number_below columns) fields) (Err bad_line)) places e in
    let g = guard_ok (length o.0 == classes) (each_by (number_below columns) o.0) bad_line places o.2 in
    let t = each_takes (number_below columns) decimal (λ column. column < columns) (below_takes columns) o.0 places g.1 in
    (operands_take (codes "map") line o.0 o.1 ∙ ap (λ fields. joined (codes "map" ∷ fields)) t.0, sym (length-map places decimal) ∙ (ap length (sym t.0) ∙ eqb-true (length o.0) classes g.0), t.1)

-- none stands among those before it
abbrev pub AreNew : (before names : List (List ℕ)) → Type 0
AreNew before [] = Unit {0}
AreNew before (name ∷ names) = (is_new before name ≡ true) × AreNew (before ++ name ∷ []) names

-- what holds of the asks of an automaton beside others
pub record AreAsks (columns states : ℕ) (before asks : List (List ℕ)) : Type 0 where
  pub named : AllByRecursion (λ name. IsTrue (is_name name)) asks
  pub new : AreNew before asks
  pub few : length asks ≤ unit_limit
  pub cells : states * (columns + length asks + 1) ≤ cell_limit

asks_of_take : (before names asks : List (List ℕ)) → asks_of before names ≡ Ok asks → (names ≡ asks) × AllByRecursion (λ name. IsTrue (is_name name)) asks × AreNew before asks
unfolding asks_of
asks_of_take before [] asks e = subst (λ (xs : List (List ℕ)). ([] ≡ xs) × AllByRecursion (λ name. IsTrue (is_name name)) xs × AreNew before xs) (ok_is {E = Kind} [] asks e) (refl, tt, tt)
asks_of_take before (name ∷ names) asks e =
    let g = guard_ok (is_name name && is_new before name) (asks_of (before ++ name ∷ []) names >>= λ others. Ok (name ∷ others)) bad_line asks e in
    let b = bind_ok (asks_of (before ++ name ∷ []) names) (λ others. Ok (name ∷ others)) asks g.1 in
    let parts = and_parts (is_name name) (is_new before name) g.0 in
    let later = asks_of_take (before ++ name ∷ []) names b.0 b.1 in
    subst (λ (xs : List (List ℕ)). (name ∷ names ≡ xs) × AllByRecursion (λ name. IsTrue (is_name name)) xs × AreNew before xs) (ok_is {E = Kind} (name ∷ b.0) asks b.2)
    (ap (λ (ns : List (List ℕ)). name ∷ ns) later.0, (parts.0, later.1), (parts.1, later.2))

pub asks_take : (columns states : ℕ) (before : List (List ℕ)) (line : List ℕ) (asks : List (List ℕ)) → asks_in columns states before line ≡ Ok asks
    → (line ≡ joined (codes "asks" ∷ asks)) × AreAsks columns states before asks
unfolding asks_in
asks_take columns states before line asks e =
    let o = bind_ok (operands (codes "asks") line) (λ names. asks_of before names >>= λ found. cond (are_asks columns states (length found)) (Ok found) (Err out_of_range)) asks e in
    let b = bind_ok (asks_of before o.0) (λ found. cond (are_asks columns states (length found)) (Ok found) (Err out_of_range)) asks o.2 in
    let g = guard_ok {E = Kind} (are_asks columns states (length b.0)) (Ok b.0) out_of_range asks b.2 in
    let same : b.0 ≡ asks = ok_is {E = Kind} b.0 asks g.1 in
    let t = asks_of_take before o.0 asks (b.1 ∙ g.1) in
    let parts = and_parts (nat_le (length b.0) unit_limit) (nat_le (states * (columns + length b.0 + 1)) cell_limit) g.0 in
    let few = leb-true (length b.0) unit_limit parts.0 in
    let cells = leb-true (states * (columns + length b.0 + 1)) cell_limit parts.1 in (
      operands_take (codes "asks") line o.0 o.1 ∙ ap (λ (names : List (List ℕ)). joined (codes "asks" ∷ names)) t.0,
      record {
        named = t.1;
        new = t.2;
        few = subst (λ (names : List (List ℕ)). length names ≤ unit_limit) same few;
        cells = subst (λ (names : List (List ℕ)). states * (columns + length names + 1) ≤ cell_limit) same cells;
      },
    )

pub counts_take : (line : List ℕ) (x : Nothing) → counts_in line ≡ Ok x
    → (counts : Counts) × AreCounts counts × (line ≡ joined (codes "stats" ∷ decimal counts.grids ∷ decimal counts.states ∷ decimal counts.members ∷ []))
unfolding counts_in
counts_take line x e =
    let t = three_in_takes (codes "stats") line (λ counts. counts_of counts.0 counts.1 counts.2) x e in
    let a = bind_ok (number_in t.0.0) (λ g. number_in t.0.1 >>= λ s. number_in t.0.2 >>= λ m. Ok tt) x t.2 in
    let b = bind_ok (number_in t.0.1) (λ s. number_in t.0.2 >>= λ m. Ok tt) x a.2 in
    let c = bind_ok (number_in t.0.2) (λ m. Ok tt) x b.2 in
    let g = number_takes t.0.0 a.0 a.1 in
    let s = number_takes t.0.1 b.0 b.1 in
    let m = number_takes t.0.2 c.0 c.1 in (
      record { grids = a.0; states = b.0; members = c.0 },
      record { grids = g.1; states = s.1; members = m.1 },
      t.1 ∙ fields_are g.0 s.0 m.0,
    )
  where
    fields_are : {a b c p q r : List ℕ} → a ≡ p → b ≡ q → c ≡ r → joined (codes "stats" ∷ a ∷ b ∷ c ∷ []) ≡ joined (codes "stats" ∷ p ∷ q ∷ r ∷ [])
    fields_are p q r = cc

-- an entry for each column and for each ask of the row of this number, and the advance
pub record AreEntries (columns asks states number : ℕ) (entries : List (Option ℕ)) : Type 0 where
  pub classes : List (Option ℕ)
  pub asked : List (Option ℕ)
  pub advance : ℕ
  pub both : entries ≡ classes ++ (asked ++ Some advance ∷ [])
  pub width : length classes ≡ columns
  pub targets : AllByRecursion (IsEntry states) classes
  pub ask_width : length asked ≡ asks
  pub stays : AllByRecursion (IsAskEntry number) asked
  pub goes : advance < states

-- the one advance
last_takes : (states : ℕ) (fields : List (List ℕ)) (entries : List (Option ℕ)) → length fields ≡ 1 → each_by (advance_in states) fields ≡ Ok entries
    → (advance : ℕ) × (entries ≡ Some advance ∷ []) × (fields ≡ map entry_field entries) × (advance < states)
unfolding each_by
last_takes states [] entries one e = absurd (omega arith)
last_takes states (a ∷ b ∷ fields) entries one e = absurd (omega arith)
last_takes states (field ∷ []) entries one e =
    let b = bind_ok (advance_in states field) (λ y. Ok (y ∷ [])) entries e in
    let t = advance_takes states field b.0 b.1 in
    let is : entries ≡ Some t.0 ∷ [] = sym (ok_is {E = Kind} (b.0 ∷ []) entries b.2) ∙ ap (λ (x : Option ℕ). x ∷ []) t.1 in
    (t.0, is, ap (λ (f : List ℕ). f ∷ []) t.2 ∙ sym (ap (map entry_field) is), t.3)

entries_of_take : (columns asks states number : ℕ) (fields : List (List ℕ)) (entries : List (Option ℕ)) → length fields ≡ columns + asks + 1 → entries_of columns asks states number fields ≡ Ok entries
    → (fields ≡ map entry_field entries) × AreEntries columns asks states number entries
entries_of_take columns asks states number fields entries long e =
    let rest = drop columns fields in
    let a = bind_ok (each_by (entry_in states) (take columns fields)) (λ classes. each_by (ask_entry_in number) (take asks rest) >>= λ asked. each_by (advance_in states) (drop asks rest) >>= λ advance. Ok (classes ++ (asked ++ advance))) entries e in
    let k = bind_ok (each_by (ask_entry_in number) (take asks rest)) (λ asked. each_by (advance_in states) (drop asks rest) >>= λ advance. Ok (a.0 ++ (asked ++ advance))) entries a.2 in
    let b = bind_ok (each_by (advance_in states) (drop asks rest)) (λ advance. Ok (a.0 ++ (k.0 ++ advance))) entries k.2 in
    let after : length rest ≡ asks + 1 = omega (arith, length-drop columns fields, long) in
    let one : length (drop asks rest) ≡ 1 = omega (arith, length-drop asks rest, after) in
    let first = each_takes (entry_in states) entry_field (IsEntry states) (entry_takes states) (take columns fields) a.0 a.1 in
    let middle = each_takes (ask_entry_in number) entry_field (IsAskEntry number) (ask_entry_takes number) (take asks rest) k.0 k.1 in
    let last = last_takes states (drop asks rest) b.0 one b.1 in
    let width : length a.0 ≡ columns = sym (length-map a.0 entry_field) ∙ (ap length (sym first.0) ∙ omega (arith, length-take columns fields, long)) in
    let ask_width : length k.0 ≡ asks = sym (length-map k.0 entry_field) ∙ (ap length (sym middle.0) ∙ omega (arith, length-take asks rest, after)) in
    let same = ok_is {E = Kind} (a.0 ++ (k.0 ++ b.0)) entries b.2 in
    let beyond : rest ≡ map entry_field (k.0 ++ b.0) = sym (take-append-drop asks rest) ∙ (joins middle.0 last.2 ∙ sym (map-append entry_field k.0 b.0)) in
    let all : fields ≡ map entry_field (a.0 ++ (k.0 ++ b.0)) = sym (take-append-drop columns fields) ∙ (joins first.0 beyond ∙ sym (map-append entry_field a.0 (k.0 ++ b.0))) in (
      all ∙ ap (map entry_field) same,
      record {
        classes = a.0;
        asked = k.0;
        advance = last.0;
        both = sym same ∙ ap (λ (xs : List (Option ℕ)). a.0 ++ (k.0 ++ xs)) last.1;
        width = width;
        targets = first.1;
        ask_width = ask_width;
        stays = middle.1;
        goes = last.3;
      },
    )
  where
    joins : {xs ys zs ws : List (List ℕ)} → xs ≡ zs → ys ≡ ws → xs ++ ys ≡ zs ++ ws
    joins p q = cc

pub row_takes : (columns asks states number : ℕ) (line : List ℕ) (entries : List (Option ℕ)) → row_in columns asks states number line ≡ Ok entries
    → (line ≡ joined (entries_line entries)) × AreEntries columns asks states number entries
unfolding row_in
row_takes columns asks states number line entries e =
    let o = bind_ok (operands (codes "row") line) (λ fields. cond (length fields == columns + asks + 1) (entries_of columns asks states number fields) (Err bad_line)) entries e in
    let g = guard_ok (length o.0 == columns + asks + 1) (entries_of columns asks states number o.0) bad_line entries o.2 in
    let t = entries_of_take columns asks states number o.0 entries (eqb-true (length o.0) (columns + asks + 1) g.0) g.1 in
    (operands_take (codes "row") line o.0 o.1 ∙ ap (λ fields. joined (codes "row" ∷ fields)) t.0, t.1)

-- the origin is a row and a column, or none
abbrev pub IsOrigin : (columns states : ℕ) → Option (ℕ × ℕ) → Type 0
IsOrigin columns states origin = IfSome origin (λ place. (place.0 < states) × (place.1 ≤ columns))

origin_of_takes : (columns states : ℕ) (fields : List (List ℕ)) (x : Nothing) → origin_of columns states fields ≡ Ok x
    → (origin : Option (ℕ × ℕ)) × IsOrigin columns states origin × (codes "from" ∷ fields ≡ origin_line origin)
origin_of_takes columns states [] x e = absurd (cc)
origin_of_takes columns states (row ∷ []) x e =
    (None, tt, ap (λ (f : List ℕ). codes "from" ∷ f ∷ []) (same_bytes row (codes "-") (guard_ok (bytes_eq row (codes "-")) (Ok tt) bad_line x e).0))
origin_of_takes columns states (row ∷ column ∷ []) x e =
    let a = bind_ok (number_below states row) (λ r. number_where (λ n. nat_le n columns) column >>= λ c. Ok tt) x e in
    let b = bind_ok (number_where (λ n. nat_le n columns) column) (λ c. Ok tt) x a.2 in
    let r = below_takes states row a.0 a.1 in
    let c = where_takes (λ n. nat_le n columns) column b.0 b.1 in
    (Some (a.0, b.0), (r.1, leb-true b.0 columns c.2), fields_are r.0 c.0)
  where
    fields_are : {a b p q : List ℕ} → a ≡ p → b ≡ q → codes "from" ∷ a ∷ b ∷ [] ≡ codes "from" ∷ p ∷ q ∷ []
    fields_are p q = cc
origin_of_takes columns states (row ∷ column ∷ other ∷ fields) x e = absurd (cc)

pub origin_takes : (columns states : ℕ) (line : List ℕ) (x : Nothing) → origin_in columns states line ≡ Ok x
    → (origin : Option (ℕ × ℕ)) × IsOrigin columns states origin × (line ≡ joined (origin_line origin))
unfolding origin_in
origin_takes columns states line x e =
    let o = bind_ok (operands (codes "from") line) (origin_of columns states) x e in
    let t = origin_of_takes columns states o.0 x o.2 in
    (t.0, t.1, operands_take (codes "from") line o.0 o.1 ∙ ap joined t.2)

-- a field with a unit is cut at its first colon
cut_field : (field : List ℕ) → has_unit field ≡ true → field ≡ before_first is_colon field ++ 58 ∷ after_first is_colon field
cut_field field h = at_colon (cases_lt (position_or_len is_colon field) (length field))
  where
    at_colon : ((position_or_len is_colon field < length field) ⊎ (length field ≤ position_or_len is_colon field)) → field ≡ before_first is_colon field ++ 58 ∷ after_first is_colon field
    at_colon (inl lt) =
        let colon = eqb-true (get_or field (position_or_len is_colon field) 0) 58 (passes_at_first is_colon field 0 lt) in
        split_at_first is_colon field 0 lt ∙ ap (λ (b : ℕ). before_first is_colon field ++ b ∷ after_first is_colon field) colon
    at_colon (inr far) =
        let none : after_first is_colon field ≡ [] = drop_all (position_or_len is_colon field + 1) field (omega arith) in
        absurd (both_ways (is_name (after_first is_colon field)) (ap is_name none) h)

pair_takes : (field : List ℕ) (cycle : ℕ) → has_unit field ≡ true → cycle_in field ≡ Ok cycle → (field ≡ pair_field (cycle, after_first is_colon field)) × IsPair (cycle, after_first is_colon field)
unfolding cycle_in
pair_takes field cycle h e =
    let t = below_takes cycle_limit (before_first is_colon field) cycle e in
    (cut_field field h ∙ ap (λ (d : List ℕ). d ++ 58 ∷ after_first is_colon field) t.0, record { cycle = t.1; unit = h })

pairs_take : (fields : List (List ℕ)) (cycles : List ℕ) → list_all has_unit fields ≡ true → each_by cycle_in fields ≡ Ok cycles
    → (grid : List (ℕ × List ℕ)) × AllByRecursion IsPair grid × (fields ≡ map pair_field grid)
unfolding each_by
pairs_take [] cycles h e = ([], tt, refl)
pairs_take (field ∷ fields) cycles h e =
    let parts = and_parts (has_unit field) (list_all has_unit fields) h in
    let a = bind_ok (cycle_in field) (λ y. each_by cycle_in fields >>= λ ys. Ok (y ∷ ys)) cycles e in
    let b = bind_ok (each_by cycle_in fields) (λ ys. Ok (a.0 ∷ ys)) cycles a.2 in
    let here = pair_takes field a.0 parts.0 a.1 in
    let later = pairs_take fields b.0 parts.1 b.1 in
    ((a.0, after_first is_colon field) ∷ later.0, (here.1, later.1), ap (λ (f : List ℕ). f ∷ fields) here.0 ∙ ap (λ (fs : List (List ℕ)). pair_field (a.0, after_first is_colon field) ∷ fs) later.2)

pub grid_takes : (line : List ℕ) (x : Nothing) → grid_in line ≡ Ok x → (grid : List (ℕ × List ℕ)) × AllByRecursion IsPair grid × (line ≡ joined (grid_line grid))
unfolding grid_in
grid_takes line x e =
    let o = bind_ok (operands (codes "grid") line) (λ fields. cond (list_all has_unit fields) (each_by cycle_in fields >>= λ cycles. Ok tt) (Err bad_line)) x e in
    let g = guard_ok (list_all has_unit o.0) (each_by cycle_in o.0 >>= λ cycles. Ok tt) bad_line x o.2 in
    let c = bind_ok (each_by cycle_in o.0) (λ cycles. Ok tt) x g.1 in
    let t = pairs_take o.0 c.0 g.0 c.1 in
    (t.0, t.1, operands_take (codes "grid") line o.0 o.1 ∙ ap (λ fields. joined (codes "grid" ∷ fields)) t.2)
