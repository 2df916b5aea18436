-- Whole texts are read back, line by line.
use Rattle.std.proofs.Common.{◌≡◌, ℕ, zero, suc, ◌^◌, ◌<◌, ◌==◌, Bool, true, false, cond, List, [], ◌∷◌, ◌+◌, ◌++◌, map, length, get_or, All, codes, decimal, Option, Some, None, refl, sym, ap, ◌∙◌, append-nil, append_assoc, arith}
use Rattle.std.specs.Prelude.{slice_index, slice_index_or}
use Rattle.std.specs.List.{concat, flat_map}
use Rattle.std.proofs.lemmas.List.Elements.{All-nil, All-cons, All-head, All-tail}
use Rattle.hz_description_model.specs.Check.Places.{class_names}
use Rattle.hz_description_model.specs.Reading.Descriptions.{Description}
use Rattle.hz_block_model.specs.Running.Blocks.{Instruction}
use Rattle.hz_block_model.specs.Running.States.{Place, reg, cell}
use Rattle.hz_block_model.specs.Scheduling.Schedules.{Graph, Slot, class_at, present}
use Rattle.hz_measure_model.specs.Bounds.Bounds.{UnitLoad, Bound, unit_names}
use Rattle.hz_measure_model.specs.Bounds.Texts.{unit_name, number_field, path_word, path_line, heaviest_line, bound_line, cycles_line, bound_text, text_of_bound}
use Rattle.hz_measure_model.specs.Exposed.Exposed.{Read, Timed}
use Rattle.hz_measure_model.specs.Exposed.Texts.{read_line, writer_text, line_of_read, reads_text, IsTimedText}
use Rattle.hz_measure_model.specs.Kernels.Kernels.{KernelSlot, kernel_slots}
use Rattle.hz_measure_model.specs.Kernels.KernelTexts.{line_of_kernel, interval_lines, edge_lines, text_of_slots, text_of_kernel}
use Rattle.hz_measure_model.specs.Kernels.Turns.{stages}
use Rattle.hz_measure_model.specs.TwoContexts.Joining.{ContextSlot, in_contexts}
use Rattle.hz_measure_model.specs.TwoContexts.Texts.{line_of_own, line_of_either, together_line, alone_line, last_cycle, duo_text, text_of_two}
use Rattle.hz_answer_model.specs.ScheduleAnswers.{line_of_slot, schedule_text}
use Rattle.hz_block_model.specs.Texts.StateTexts.{IsText}
use Rattle.hz_front_model.specs.Texts.{accepted_line}
use Rattle.hz_answer_model.specs.Texts.{scheduled_line, turns_line, state_field, left_line, drill_text}
use Rattle.hz_claims_laws.specs.Lines.{AreSmall, HaveSmallCycles, numbers_of, slot_tells, own_tells, kernel_tells, load_tells, writer_word, place_tells, read_tells, IsSmallPlace, IsSmallLoad}
use Rattle.hz_claims_laws.specs.Reading.{IsWord, n, LineMeaning, read_answer, an_end, an_end_of_two, both_alone, a_path, no_load, a_bound, a_last_cycle, an_interval, some_stages, some_edges, a_list, some_turns, some_states, an_acceptance}
use Rattle.hz_claims_laws.proofs.Words.{AreWords, number_back, number_word, literal, spaced, onto, concat_onto, line_reported, words_reported, each_reported}
use Rattle.hz_claims_laws.proofs.TraceTexts.{alone, accepted_reported}
use Rattle.hz_claims_laws.proofs.ScheduleLines.{slot_reported, scheduled_reported, issue_reported, kernel_reported, together_reported, alone_reported, interval_reported, stages_reported, edges_reported, list_reported}
use Rattle.hz_claims_laws.proofs.BoundLines.{load_reported, bound_reported, last_reported}
use Rattle.hz_claims_laws.proofs.ReadLines.{reg_reported, mem_reported}

-- ---- what is found in lists

found : {A : Type 0} (P : A → Type 0) (d : A) → P d → (xs : List A) → All P xs → (k : ℕ) → P (get_or xs k d)
found P d default [] h k = default
found P d default (x ∷ xs) h zero = All-head P x xs h
found P d default (x ∷ xs) h (suc k) = found P d default xs (All-tail P x xs h) k

small_at : (numbers : List ℕ) → AreSmall numbers → (k : ℕ) → slice_index numbers k < 2 ^ 64
small_at numbers h k = found (λ m. m < 2 ^ 64) 0 (omega arith) numbers h k

word_at : (names : List (List ℕ)) → All IsWord names → (k : ℕ) → IsWord (slice_index_or names k [])
word_at names h k = found IsWord [] (literal [] refl) names h k

cycles_small : (slots : List Slot) → HaveSmallCycles slots → AreSmall (map (λ x. x.cycle) slots)
cycles_small [] h = All-nil (λ m. m < 2 ^ 64)
cycles_small (x ∷ slots) h = All-cons (λ m. m < 2 ^ 64) x.cycle (map (λ x. x.cycle) slots) (All-head (λ x. x.cycle < 2 ^ 64) x slots h) (cycles_small slots (All-tail (λ x. x.cycle < 2 ^ 64) x slots h))

present_small : (cycle : ℕ) → cycle < 2 ^ 64 → (slots : List Slot) → HaveSmallCycles slots → present cycle slots < 2 ^ 64
present_small cycle low [] h = low
present_small cycle low (x ∷ slots) h = present_small x.cycle (All-head (λ x. x.cycle < 2 ^ 64) x slots h) slots (All-tail (λ x. x.cycle < 2 ^ 64) x slots h)

-- ---- schedules

pub schedule_back : (d : Description) (block : List Instruction) (g : Graph) (slots : List Slot) → All IsWord (class_names d) → AreSmall (map (λ i. i.number) block) → HaveSmallCycles slots → length slots < 2 ^ 64
    → read_answer (schedule_text d block g slots) ≡ map (λ x. Some (slot_tells (class_names d) (map (λ i. i.number) block) g x)) slots ++ Some (an_end (length slots) (present 0 slots)) ∷ []
schedule_back d block g slots names numbers cycles few =
    let last : List ℕ = scheduled_line (length slots) (present 0 slots) in
    each_reported (line_of_slot d block g) (slot_tells (class_names d) (map (λ i. i.number) block) g) (λ x. x.cycle < 2 ^ 64)
    (λ x rest low. slot_reported x.cycle (slice_index (map (λ i. i.number) block) x.place) (slice_index_or (class_names d) (class_at g x.place) []) rest low (small_at (map (λ i. i.number) block) numbers x.place) (word_at (class_names d) names (class_at g x.place)))
    slots last cycles
    ∙ ap (λ (ls : List (Option LineMeaning)). map (λ x. Some (slot_tells (class_names d) (map (λ i. i.number) block) g x)) slots ++ ls)
    (alone last (Some (an_end (length slots) (present 0 slots))) (λ rest. scheduled_reported (length slots) (present 0 slots) rest few (present_small 0 (omega arith) slots cycles)))

-- ---- two contexts

last_small : (cycle : ℕ) → cycle < 2 ^ 64 → (slots : List ContextSlot) → All (λ x. (x.cycle < 2 ^ 64) × (x.context < 2 ^ 64)) slots → last_cycle cycle slots < 2 ^ 64
last_small cycle low [] h = low
last_small cycle low (x ∷ slots) h = last_small x.cycle (All-head (λ x. (x.cycle < 2 ^ 64) × (x.context < 2 ^ 64)) x slots h).0 slots (All-tail (λ x. (x.cycle < 2 ^ 64) × (x.context < 2 ^ 64)) x slots h)

-- two lines alone
alone_two : (first second : List ℕ) (t u : Option LineMeaning) → ((rest : List ℕ) → read_answer (first ++ rest) ≡ t ∷ read_answer rest) → ((rest : List ℕ) → read_answer (second ++ rest) ≡ u ∷ read_answer rest) → read_answer (first ++ second) ≡ t ∷ u ∷ []
alone_two first second t u h k = h second ∙ ap (λ (ls : List (Option LineMeaning)). t ∷ ls) (alone second u k)

module _ (names : List (List ℕ)) (first second : List ℕ) (g h : Graph) where
  own : (numbers : List ℕ) (one : Graph) (x : ContextSlot) (rest : List ℕ) → All IsWord names → AreSmall numbers → (x.cycle < 2 ^ 64) × (x.context < 2 ^ 64)
      → read_answer (line_of_own names numbers one x ++ rest) ≡ Some (own_tells names numbers one x) ∷ read_answer rest
  own numbers one x rest words small low =
      issue_reported x.cycle x.context (slice_index numbers x.place) (slice_index_or names (class_at one x.place) []) rest low.0 low.1 (small_at numbers small x.place) (word_at names words (class_at one x.place))

  pub duo_back : (slots : List ContextSlot) (alone_first alone_second : ℕ) → All IsWord names → AreSmall first → AreSmall second → All (λ x. (x.cycle < 2 ^ 64) × (x.context < 2 ^ 64)) slots
      → length first < 2 ^ 64 → length second < 2 ^ 64 → alone_first < 2 ^ 64 → alone_second < 2 ^ 64
      → read_answer (duo_text names first second g h slots alone_first alone_second)
      ≡ map (λ x. Some (cond (x.context == 1) (own_tells names first g x) (own_tells names second h x))) slots ++ Some (an_end_of_two (length first) (length second) (last_cycle 0 slots)) ∷ Some (both_alone alone_first alone_second) ∷ []
  duo_back slots alone_first alone_second words small other low few more one two =
      let last : List ℕ = together_line (length first) (length second) (last_cycle 0 slots) ++ alone_line alone_first alone_second in
      each_reported (line_of_either names first second g h) (λ x. cond (x.context == 1) (own_tells names first g x) (own_tells names second h x)) (λ x. (x.cycle < 2 ^ 64) × (x.context < 2 ^ 64))
      (λ x rest within. by_context x rest within (x.context == 1))
      slots last low
      ∙ ap (λ (ls : List (Option LineMeaning)). map (λ x. Some (cond (x.context == 1) (own_tells names first g x) (own_tells names second h x))) slots ++ ls)
      (alone_two (together_line (length first) (length second) (last_cycle 0 slots)) (alone_line alone_first alone_second) (Some (an_end_of_two (length first) (length second) (last_cycle 0 slots))) (Some (both_alone alone_first alone_second))
      (λ rest. together_reported (length first) (length second) (last_cycle 0 slots) rest few more (last_small 0 (omega arith) slots low))
      (λ rest. alone_reported alone_first alone_second rest one two))
    where
      by_context : (x : ContextSlot) (rest : List ℕ) → (x.cycle < 2 ^ 64) × (x.context < 2 ^ 64) → (t : Bool)
          → read_answer (cond t (line_of_own names first g x) (line_of_own names second h x) ++ rest) ≡ Some (cond t (own_tells names first g x) (own_tells names second h x)) ∷ read_answer rest
      by_context x rest within true = own first g x rest words small within
      by_context x rest within false = own second h x rest words other within

-- ---- kernels

-- two lines in one text
both_lines : (pieces first second : List (List ℕ)) (rest : List ℕ) → onto pieces rest ≡ onto first (onto second rest) → concat pieces ++ rest ≡ concat first ++ (concat second ++ rest)
both_lines pieces first second rest same =
    concat_onto pieces rest ∙ same ∙ sym (concat_onto first (onto second rest)) ∙ ap (λ (xs : List ℕ). concat first ++ xs) (sym (concat_onto second rest))

begin_reported : (interval stages : ℕ) (rest : List ℕ) → interval < 2 ^ 64 → stages < 2 ^ 64 → read_answer (interval_lines interval stages ++ rest) ≡ Some (an_interval interval) ∷ Some (some_stages stages) ∷ read_answer rest
begin_reported interval stages rest h k =
    ap read_answer (both_lines (codes "interval " ∷ decimal interval ∷ codes "\nstages " ∷ decimal stages ∷ codes "\n" ∷ []) (codes "interval " ∷ decimal interval ∷ codes "\n" ∷ []) (codes "stages " ∷ decimal stages ∷ codes "\n" ∷ []) rest refl)
    ∙ interval_reported interval (concat (codes "stages " ∷ decimal stages ∷ codes "\n" ∷ []) ++ rest) h
    ∙ ap (λ (ls : List (Option LineMeaning)). Some (an_interval interval) ∷ ls) (stages_reported stages rest k)

edge_reported : (first second last : ℕ) → first < 2 ^ 64 → second < 2 ^ 64 → last < 2 ^ 64 → read_answer (edge_lines first second last) ≡ Some (some_edges first second) ∷ Some (a_list last) ∷ []
edge_reported first second last h k m =
    ap read_answer (sym (append-nil (edge_lines first second last)) ∙ both_lines (codes "edge " ∷ decimal first ∷ codes " equals edge " ∷ decimal second ∷ codes "\nlist " ∷ decimal last ∷ codes " cycles\n" ∷ [])
    (codes "edge " ∷ decimal first ∷ codes " equals edge " ∷ decimal second ∷ codes "\n" ∷ []) (codes "list " ∷ decimal last ∷ codes " cycles\n" ∷ []) [] refl)
    ∙ edges_reported first second (concat (codes "list " ∷ decimal last ∷ codes " cycles\n" ∷ []) ++ []) h k
    ∙ ap (λ (ls : List (Option LineMeaning)). Some (some_edges first second) ∷ ls) (list_reported last [] m)

pub kernel_back : (names : List (List ℕ)) (numbers : List ℕ) (g : Graph) (kernel : List KernelSlot) (interval stages first second last : ℕ)
    → All IsWord names → AreSmall numbers → All (λ x. (x.offset < 2 ^ 64) × (x.stage < 2 ^ 64)) kernel → interval < 2 ^ 64 → stages < 2 ^ 64 → first < 2 ^ 64 → second < 2 ^ 64 → last < 2 ^ 64
    → read_answer (text_of_slots names numbers g kernel interval stages first second last)
    ≡ Some (an_interval interval) ∷ Some (some_stages stages) ∷ (map (λ x. Some (kernel_tells names numbers g x)) kernel ++ Some (some_edges first second) ∷ Some (a_list last) ∷ [])
kernel_back names numbers g kernel interval stages first second last words small low h k a b m =
    begin_reported interval stages (flat_map (line_of_kernel names numbers g) kernel ++ edge_lines first second last) h k
    ∙ ap (λ (ls : List (Option LineMeaning)). Some (an_interval interval) ∷ Some (some_stages stages) ∷ ls)
    (each_reported (line_of_kernel names numbers g) (kernel_tells names numbers g) (λ x. (x.offset < 2 ^ 64) × (x.stage < 2 ^ 64))
    (λ x rest within. kernel_reported x.offset x.stage (slice_index numbers x.place) (slice_index_or names (class_at g x.place) []) rest within.0 within.1 (small_at numbers small x.place) (word_at names words (class_at g x.place)))
    kernel (edge_lines first second last) low
    ∙ ap (λ (ls : List (Option LineMeaning)). map (λ x. Some (kernel_tells names numbers g x)) kernel ++ ls) (edge_reported first second last a b m))

-- ---- bounds

-- numbers after a first word
numbers_onto : (first : List ℕ) (numbers : List ℕ) (rest : List ℕ) → first ++ (flat_map number_field numbers ++ 10 ∷ rest) ≡ spaced first (map decimal numbers) rest
numbers_onto first [] rest = refl
numbers_onto first (m ∷ numbers) rest =
    ap (λ (xs : List ℕ). first ++ xs)
    (append_assoc (number_field m) (flat_map number_field numbers) (10 ∷ rest)
    ∙ concat_onto (codes " " ∷ decimal m ∷ []) (flat_map number_field numbers ++ 10 ∷ rest)
    ∙ ap (λ (xs : List ℕ). 32 ∷ xs) (numbers_onto (decimal m) numbers rest))

path_onto : (path : ℕ) (numbers : List ℕ) (rest : List ℕ) → path_line path numbers ++ rest ≡ spaced (codes "path") (decimal path ∷ map decimal numbers) rest
path_onto path numbers rest =
    append_assoc (path_word path) (flat_map number_field numbers ++ codes "\n") rest
    ∙ ap (λ (xs : List ℕ). path_word path ++ xs) (append_assoc (flat_map number_field numbers) (codes "\n") rest)
    ∙ concat_onto (codes "path " ∷ decimal path ∷ []) (flat_map number_field numbers ++ 10 ∷ rest)
    ∙ ap (λ (xs : List ℕ). codes "path " ++ xs) (numbers_onto (decimal path) numbers rest)

are_words : (numbers : List ℕ) → AreSmall numbers → AreWords (map decimal numbers)
are_words [] h = tt
are_words (m ∷ numbers) h = (number_word m (All-head (λ m. m < 2 ^ 64) m numbers h), are_words numbers (All-tail (λ m. m < 2 ^ 64) m numbers h))

numbers_back : (numbers : List ℕ) → AreSmall numbers → map n (map decimal numbers) ≡ numbers
numbers_back [] h = refl
numbers_back (m ∷ numbers) h =
    ap (λ (k : ℕ). k ∷ map n (map decimal numbers)) (number_back m (All-head (λ m. m < 2 ^ 64) m numbers h))
    ∙ ap (λ (ks : List ℕ). m ∷ ks) (numbers_back numbers (All-tail (λ m. m < 2 ^ 64) m numbers h))

path_reported : (path : ℕ) (numbers : List ℕ) (rest : List ℕ) → path < 2 ^ 64 → AreSmall numbers → read_answer (path_line path numbers ++ rest) ≡ Some (a_path path numbers) ∷ read_answer rest
path_reported path numbers rest h k =
    ap read_answer (path_onto path numbers rest)
    ∙ words_reported (codes "path") (decimal path ∷ map decimal numbers) rest (Some (a_path path numbers)) (literal (codes "path") refl) (number_word path h, are_words numbers k)
    (ap (λ (m : ℕ). Some (a_path m (map n (map decimal numbers)))) (number_back path h) ∙ ap (λ (ks : List ℕ). Some (a_path path ks)) (numbers_back numbers k))

mapped_small : (numbers chain : List ℕ) → AreSmall numbers → AreSmall (map (slice_index numbers) chain)
mapped_small numbers [] h = All-nil (λ m. m < 2 ^ 64)
mapped_small numbers (k ∷ chain) h = All-cons (λ m. m < 2 ^ 64) (slice_index numbers k) (map (slice_index numbers) chain) (small_at numbers h k) (mapped_small numbers chain h)

heaviest_reported : (names : List (List (List ℕ))) (load : Option UnitLoad) (rest : List ℕ) → IsSmallLoad names load → read_answer (heaviest_line names load ++ rest) ≡ Some (load_tells names load) ∷ read_answer rest
heaviest_reported names None rest h = words_reported (codes "load") (codes "-" ∷ []) rest (Some no_load) (literal (codes "load") refl) (literal (codes "-") refl, tt) refl
heaviest_reported names (Some l) rest h = load_reported (l.load).count (l.load).span (l.load).value (unit_name names l.unit) rest h.0 h.1 h.2 h.3

pub bound_back : (names : List (List (List ℕ))) (numbers : List ℕ) (b : Bound) (cycle : ℕ) → AreSmall numbers → b.path < 2 ^ 64 → b.value < 2 ^ 64 → cycle < 2 ^ 64 → IsSmallLoad names b.load
    → read_answer (bound_text names numbers b cycle) ≡ Some (a_path b.path (map (slice_index numbers) b.chain)) ∷ Some (load_tells names b.load) ∷ Some (a_bound b.value) ∷ Some (a_last_cycle cycle) ∷ []
bound_back names numbers b cycle small path value low load =
    path_reported b.path (map (slice_index numbers) b.chain) (heaviest_line names b.load ++ (bound_line b.value ++ cycles_line cycle)) path (mapped_small numbers b.chain small)
    ∙ ap (λ (ls : List (Option LineMeaning)). Some (a_path b.path (map (slice_index numbers) b.chain)) ∷ ls)
    (heaviest_reported names b.load (bound_line b.value ++ cycles_line cycle) load
    ∙ ap (λ (ls : List (Option LineMeaning)). Some (load_tells names b.load) ∷ ls)
    (alone_two (bound_line b.value) (cycles_line cycle) (Some (a_bound b.value)) (Some (a_last_cycle cycle)) (λ rest. bound_reported b.value rest value) (λ rest. last_reported cycle rest low)))

-- ---- reads

writer_is_word : (numbers : List ℕ) (from : Option ℕ) → AreSmall numbers → IsWord (writer_text numbers from)
writer_is_word numbers None h = literal (codes "start") refl
writer_is_word numbers (Some place) h = number_word (slice_index numbers place) (small_at numbers h place)

same_writer : (numbers : List ℕ) (from : Option ℕ) → writer_text numbers from ≡ writer_word numbers from
same_writer numbers None = refl
same_writer numbers (Some place) = refl

three_onto : (first second third : List (List ℕ)) (rest : List ℕ) → (concat first ++ (concat second ++ concat third)) ++ rest ≡ onto first (onto second (onto third rest))
three_onto first second third rest =
    append_assoc (concat first) (concat second ++ concat third) rest
    ∙ ap (λ (xs : List ℕ). concat first ++ xs) (append_assoc (concat second) (concat third) rest ∙ ap (λ (xs : List ℕ). concat second ++ xs) (concat_onto third rest) ∙ concat_onto second (onto third rest))
    ∙ concat_onto first (onto second (onto third rest))

place_reported : (cycle number : ℕ) (what : Place) (writer rest : List ℕ) → cycle < 2 ^ 64 → number < 2 ^ 64 → IsSmallPlace what → IsWord writer → read_answer (read_line cycle number what writer ++ rest) ≡ Some (place_tells cycle number writer what) ∷ read_answer rest
place_reported cycle number (reg register) writer rest h k m w =
    let pieces : List (List ℕ) = codes "read " ∷ decimal cycle ∷ codes " " ∷ decimal number ∷ codes " reg " ∷ decimal register ∷ codes " from " ∷ writer ∷ codes "\n" ∷ [] in
    ap read_answer (three_onto (codes "read " ∷ decimal cycle ∷ codes " " ∷ decimal number ∷ []) (codes " reg " ∷ decimal register ∷ []) (codes " from " ∷ writer ∷ codes "\n" ∷ []) rest ∙ sym (concat_onto pieces rest))
    ∙ reg_reported cycle number register writer rest h k m w
place_reported cycle number (cell address) writer rest h k m w =
    let pieces : List (List ℕ) = codes "read " ∷ decimal cycle ∷ codes " " ∷ decimal number ∷ codes " mem " ∷ decimal address ∷ codes " from " ∷ writer ∷ codes "\n" ∷ [] in
    ap read_answer (three_onto (codes "read " ∷ decimal cycle ∷ codes " " ∷ decimal number ∷ []) (codes " mem " ∷ decimal address ∷ []) (codes " from " ∷ writer ∷ codes "\n" ∷ []) rest ∙ sym (concat_onto pieces rest))
    ∙ mem_reported cycle number address writer rest h k m w

pub reads_back : (numbers places cycles : List ℕ) (reads : List Read) (tail : List ℕ) → AreSmall numbers → AreSmall cycles → All (λ r. IsSmallPlace r.what) reads
    → read_answer (reads_text numbers places cycles reads ++ tail) ≡ map (λ r. Some (read_tells numbers places cycles r)) reads ++ read_answer tail
reads_back numbers places cycles reads tail small low whats =
    each_reported (line_of_read numbers places cycles) (read_tells numbers places cycles) (λ r. IsSmallPlace r.what)
    (λ r rest h. place_reported (slice_index cycles r.slot) (slice_index numbers (slice_index places r.slot)) r.what (writer_text numbers r.from) rest
    (small_at cycles low r.slot) (small_at numbers small (slice_index places r.slot)) h (writer_is_word numbers r.from small)
    ∙ ap (λ (w : List ℕ). Some (place_tells (slice_index cycles r.slot) (slice_index numbers (slice_index places r.slot)) w r.what) ∷ read_answer rest) (same_writer numbers r.from))
    reads tail whats

-- ---- drills

turns_reported : (turns : ℕ) (rest : List ℕ) → turns < 2 ^ 64 → read_answer (turns_line turns ++ rest) ≡ Some (some_turns turns) ∷ read_answer rest
turns_reported turns rest h =
    line_reported (codes "drill " ∷ decimal turns ∷ codes " turns\n" ∷ []) (codes "drill") (decimal turns ∷ codes "turns" ∷ []) rest
    (Some (some_turns turns)) refl (literal (codes "drill") refl)
    (number_word turns h, (literal (codes "turns") refl, tt))
    (ap (λ (k : ℕ). Some (some_turns k)) (number_back turns h))

-- states after a first word
states_onto : (first : List ℕ) (states : List ℕ) (rest : List ℕ) → first ++ (flat_map state_field states ++ 10 ∷ rest) ≡ spaced first (map decimal states) rest
states_onto first [] rest = refl
states_onto first (m ∷ states) rest =
    ap (λ (xs : List ℕ). first ++ xs)
    (append_assoc (state_field m) (flat_map state_field states) (10 ∷ rest)
    ∙ concat_onto (codes " " ∷ decimal m ∷ []) (flat_map state_field states ++ 10 ∷ rest)
    ∙ ap (λ (xs : List ℕ). 32 ∷ xs) (states_onto (decimal m) states rest))

left_reported : (states : List ℕ) → AreSmall states → read_answer (left_line states) ≡ Some (some_states states) ∷ []
left_reported states h =
    ap read_answer (states_onto (codes "states") states [])
    ∙ words_reported (codes "states") (map decimal states) [] (Some (some_states states)) (literal (codes "states") refl) (are_words states h)
    (ap (λ (ks : List ℕ). Some (some_states ks)) (numbers_back states h))

pub drill_back : (turns issues cycles : ℕ) (states : List ℕ) → turns < 2 ^ 64 → issues < 2 ^ 64 → cycles < 2 ^ 64 → AreSmall states
    → read_answer (drill_text turns issues cycles states) ≡ Some (some_turns turns) ∷ Some (an_acceptance issues cycles) ∷ Some (some_states states) ∷ []
drill_back turns issues cycles states h k m low =
    turns_reported turns (accepted_line issues cycles ++ left_line states) h
    ∙ ap (λ (ls : List (Option LineMeaning)). Some (some_turns turns) ∷ ls)
    (accepted_reported issues cycles (left_line states) k m ∙ ap (λ (ls : List (Option LineMeaning)). Some (an_acceptance issues cycles) ∷ ls) (left_reported states low))

-- ---- the same of blocks, with their descriptions

pub timed_of_block : (block : List Instruction) (slots : List Slot) (t : Timed) (text : List ℕ) → IsTimedText block slots t text → AreSmall (numbers_of block) → HaveSmallCycles slots → All (λ r. IsSmallPlace r.what) t.reads
    → (tail : List ℕ) × IsText t.state tail × (read_answer text ≡ map (λ r. Some (read_tells (numbers_of block) (map (λ x. x.place) slots) (map (λ x. x.cycle) slots) r)) t.reads ++ read_answer tail)
timed_of_block block slots t text is small cycles places =
    (is.tail, is.state_is, ap read_answer is.text_is ∙ reads_back (numbers_of block) (map (λ x. x.place) slots) (map (λ x. x.cycle) slots) t.reads is.tail small (cycles_small slots cycles) places)

pub bound_of_block : (d : Description) (block : List Instruction) (b : Bound) (slots : List Slot) → AreSmall (numbers_of block) → b.path < 2 ^ 64 → b.value < 2 ^ 64 → HaveSmallCycles slots → IsSmallLoad (unit_names d) b.load
    → read_answer (text_of_bound d block b slots) ≡ Some (a_path b.path (map (slice_index (numbers_of block)) b.chain)) ∷ Some (load_tells (unit_names d) b.load) ∷ Some (a_bound b.value) ∷ Some (a_last_cycle (present 0 slots)) ∷ []
bound_of_block d block b slots small path value cycles load = bound_back (unit_names d) (numbers_of block) b (present 0 slots) small path value (present_small 0 (omega arith) slots cycles) load

pub duo_of_blocks : (d : Description) (first second : List Instruction) (g h : Graph) (slots alone other : List Slot) → All IsWord (class_names d) → AreSmall (numbers_of first) → AreSmall (numbers_of second)
    → All (λ x. (x.cycle < 2 ^ 64) × (x.context < 2 ^ 64)) (in_contexts (length first) slots) → length (numbers_of first) < 2 ^ 64 → length (numbers_of second) < 2 ^ 64 → HaveSmallCycles alone → HaveSmallCycles other
    → read_answer (text_of_two d first second g h slots alone other)
    ≡ map (λ x. Some (cond (x.context == 1) (own_tells (class_names d) (numbers_of first) g x) (own_tells (class_names d) (numbers_of second) h x))) (in_contexts (length first) slots)
    ++ Some (an_end_of_two (length (numbers_of first)) (length (numbers_of second)) (last_cycle 0 (in_contexts (length first) slots))) ∷ Some (both_alone (present 0 alone) (present 0 other)) ∷ []
duo_of_blocks d first second g h slots alone other words small more low few fewer one two =
    duo_back (class_names d) (numbers_of first) (numbers_of second) g h (in_contexts (length first) slots) (present 0 alone) (present 0 other) words small more low few fewer
    (present_small 0 (omega arith) alone one) (present_small 0 (omega arith) other two)

pub kernel_of_block : (d : Description) (block : List Instruction) (g : Graph) (slots : List Slot) (interval first second : ℕ)
    → All IsWord (class_names d) → AreSmall (numbers_of block) → All (λ x. (x.offset < 2 ^ 64) × (x.stage < 2 ^ 64)) (kernel_slots interval slots) → interval < 2 ^ 64 → stages interval slots + 1 < 2 ^ 64 → first < 2 ^ 64 → second < 2 ^ 64 → HaveSmallCycles slots
    → read_answer (text_of_kernel d block g slots interval first second)
    ≡ Some (an_interval interval) ∷ Some (some_stages (suc (stages interval slots))) ∷ (map (λ x. Some (kernel_tells (class_names d) (numbers_of block) g x)) (kernel_slots interval slots) ++ Some (some_edges first second) ∷ Some (a_list (present 0 slots)) ∷ [])
kernel_of_block d block g slots interval first second words small low within few a b cycles =
    kernel_back (class_names d) (numbers_of block) g (kernel_slots interval slots) interval (suc (stages interval slots)) first second (present 0 slots) words small low within (omega (arith, few)) a b (present_small 0 (omega arith) slots cycles)
