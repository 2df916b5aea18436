-- Files that are read, and the refusal of one that is not.
use Rattle.std.proofs.Common.{◌≡◌, ℕ, zero, suc, ◌+◌, ◌<◌, ◌≤◌, ◌⊎◌, Bool, true, false, List, [], ◌∷◌, ◌++◌, length, map, take, drop, get_or, slice_index_or, inl, inr, Option, Some, None, Err, MatchOption, MatchBool, nat_lt, refl, sym, ap, ap₂, ◌∙◌, subst, arith}
use Rattle.std.specs.Prelude.{All, Contains, ◌^◌}
use Rattle.std.proofs.lemmas.List.{length-map, map_more, map-append}
use Rattle.std.specs.declared.alloc.Global.{Global}
use Rattle.std.specs.declared.vec.Vec.{Vec}
use Rattle.std.specs.Option.{ForSome}
use Rattle.std.specs.Borrow.{Bor}
use Rattle.std.proofs.lemmas.Bool.{le-ltb, lt-ltb}
use Rattle.hz_base_model.specs.Names.{Held}
use Rattle.hz_front_model.specs.Phases.{FileWord, Next, Opens, OpensAll, Says}
use Rattle.hz_front_model.specs.Texts.{file_line, limit_line}
use Rattle.hz_io.specs.Slurp.{SlurpCounts, Tells, LacksOnFailed}
use Rattle.hz_io.specs.declared.faults.SlurpFault.{SlurpFault}
use Rattle.hz_io.specs.declared.faults.SlurpFault.TheVariants.{Failed, Long, NoMemory}
use Rattle.hz_front.specs.Refusals.{Agrees, Answers, CountsRefusal, Decided, NamesFile}
use Rattle.hz_front.proofs.AnswerLemmas.{agrees_weaker, answers_weaker}
use Rattle.hz_front.specs.Reading.{AreRead, IsReadRefusal, IsUnread, WhyNotRead, texts_in, wanted_in}
use Rattle.hz_front.specs.Refusing.{refuse_slurp}
use Rattle.hz_front.specs.declared.reading.FileWord.{FileWord as Wanted}
use Rattle.hz_front.specs.declared.refusal.Refusal.{Refusal}
use Rattle.hz_front.specs.declared.refusal.Refusal.TheVariants.{Bytes, Memory, File}

module _ (file : Bor (List ℕ)) (reported : Refusal) where
  pub slurp_counted : (old new : ℕ) (fault : SlurpFault) → reported ≡ refuse_slurp file fault → SlurpCounts old new (Err fault) → CountsRefusal old new reported
  slurp_counted old new Failed is h = subst (CountsRefusal old new) (sym is) h
  slurp_counted old new (Long read) is h = subst (CountsRefusal old new) (sym is) h
  slurp_counted old new NoMemory is h = subst (CountsRefusal old new) (sym is) h

module _ (file : Bor (List ℕ)) (rest : Option (List ℕ)) (most old new : ℕ) (steady : Type 0) (held : Option Held) where
  why : (h : Held) → held ≡ Some h → (fault : SlurpFault) → SlurpCounts old new (Err fault) → Tells h rest file.now most (Err fault) → (steady → LacksOnFailed held file.now (Err fault)) → (new ≡ old) ⊎ steady → WhyNotRead h file.now most (refuse_slurp file fault)
  why h there Failed counts tells lacks (inl same) = absurd (omega (arith, counts, same))
  why h there Failed counts tells lacks (inr is) = lacks is h there
  why h there (Long read) counts tells lacks known = record { bytes = tells.bytes; found = tells.found; longer = tells.longer }
  why h there NoMemory counts tells lacks known = tt

  -- why it is not read, where what is held is reported
  pub slurp_reported : (fault : SlurpFault) (reported : Refusal) → reported ≡ refuse_slurp file fault → SlurpCounts old new (Err fault) → ForSome held (λ h. Tells h rest file.now most (Err fault)) → (steady → LacksOnFailed held file.now (Err fault))
      → ForSome held (λ h. (new ≡ old) ⊎ steady → WhyNotRead h file.now most reported)
  slurp_reported fault reported is counts tells lacks = λ h there known. subst (WhyNotRead h file.now most) (sym is) (why h there fault counts (tells h there) lacks known)

-- All files of an order.

-- what reading a file of these bytes, or of a name that is not held, answers
abbrev by_held : Option (List ℕ) → List ℕ → ℕ → Next (List ℕ) → ℕ → List ℕ → Type 0
by_held found name most next s t = MatchOption found (Says 6 (file_line name) s t) (λ bytes. MatchBool (nat_lt most (length bytes)) (Says 3 (limit_line name) s t) (next bytes s t))

-- a file that is there and not too long leads on
pub opens_found : (held : Held) (name : List ℕ) (most : ℕ) (bytes : List ℕ) (next : Next (List ℕ)) (s : ℕ) (t : List ℕ) → held name ≡ Some bytes → nat_lt most (length bytes) ≡ false → next bytes s t → Opens held name most next s t
opens_found held name most bytes next s t found fits h =
    subst (λ (o : Option (List ℕ)). by_held o name most next s t) (sym found)
    (subst (λ (b : Bool). MatchBool b (Says 3 (limit_line name) s t) (next bytes s t)) (sym fits) h)

-- what a file's reading answers stays, whatever follows it
opens_map : (name : List ℕ) (most : ℕ) (next other : Next (List ℕ)) (s : ℕ) (t : List ℕ) → ((bytes : List ℕ) → next bytes s t → other bytes s t) → (found : Option (List ℕ)) → by_held found name most next s t → by_held found name most other s t
opens_map name most next other s t f None h = h
opens_map name most next other s t f (Some bytes) h = by_length (nat_lt most (length bytes)) h
  where
    by_length : (b : Bool) → MatchBool b (Says 3 (limit_line name) s t) (next bytes s t) → MatchBool b (Says 3 (limit_line name) s t) (other bytes s t)
    by_length true h = h
    by_length false h = f bytes h

pub opens_all_map : (held : Held) (files : List FileWord) (next other : Next (List (List ℕ))) (s : ℕ) (t : List ℕ) → ((texts : List (List ℕ)) → next texts s t → other texts s t) → OpensAll held files next s t → OpensAll held files other s t
opens_all_map held [] next other s t f h = f [] h
opens_all_map held (file ∷ files) next other s t f h =
    opens_map file.name file.most (λ bytes. OpensAll held files (λ others. next (bytes ∷ others))) (λ bytes. OpensAll held files (λ others. other (bytes ∷ others))) s t
    (λ bytes. opens_all_map held files (λ others. next (bytes ∷ others)) (λ others. other (bytes ∷ others)) s t (λ others. f (bytes ∷ others))) (held file.name) h

-- files that are read lead on to the files after them
pub opens_after : (held : Held) (files more : List FileWord) (texts : List (List ℕ)) (next : Next (List (List ℕ))) (s : ℕ) (t : List ℕ) → AreRead held files texts → OpensAll held more (λ others. next (texts ++ others)) s t → OpensAll held (files ++ more) next s t
opens_after held [] more [] next s t read h = h
opens_after held [] more (text ∷ texts) next s t read h = absurd read
opens_after held (file ∷ files) more [] next s t read h = absurd read
opens_after held (file ∷ files) more (text ∷ texts) next s t (found, fits, others) h =
    opens_found held file.name file.most text (λ bytes. OpensAll held (files ++ more) (λ others. next (bytes ∷ others))) s t found fits
    (opens_after held files more texts (λ others. next (text ∷ others)) s t others h)

-- where all files are read, what their texts answer is the answer
pub opens_read : (held : Held) (files : List FileWord) (texts : List (List ℕ)) (next : Next (List (List ℕ))) (s : ℕ) (t : List ℕ) → AreRead held files texts → next texts s t → OpensAll held files next s t
opens_read held [] [] next s t read h = h
opens_read held [] (text ∷ texts) next s t read h = absurd read
opens_read held (file ∷ files) [] next s t read h = absurd read
opens_read held (file ∷ files) (text ∷ texts) next s t (found, fits, others) h =
    opens_found held file.name file.most text (λ bytes. OpensAll held files (λ others. next (bytes ∷ others))) s t found fits (opens_read held files texts (λ others. next (text ∷ others)) s t others h)

-- one more file that is read
pub read_more : (held : Held) (files : List FileWord) (texts : List (List ℕ)) (file : FileWord) (text : List ℕ) → AreRead held files texts → held file.name ≡ Some text → length text ≤ file.most → AreRead held (files ++ file ∷ []) (texts ++ text ∷ [])
read_more held [] [] file text read found short = (found, le-ltb file.most (length text) short, tt)
read_more held [] (other ∷ texts) file text read found short = absurd read
read_more held (other ∷ files) [] file text read found short = absurd read
read_more held (other ∷ files) (one ∷ texts) file text (there, fits, others) found short = (there, fits, read_more held files texts file text others found short)

-- a file that is not read is the answer, whatever follows it
pub file_refused : (held : Held) (name : List ℕ) (most : ℕ) (next : Next (List ℕ)) (refusal : Refusal) → IsReadRefusal (λ other. other ≡ name) refusal → WhyNotRead held name most refusal → Agrees (Opens held name most next) refusal
file_refused held name most next (Bytes file) same long =
    subst (λ (n : List ℕ). Opens held name most next 3 (limit_line n)) (sym same)
    (subst (λ (o : Option (List ℕ)). by_held o name most next 3 (limit_line name)) (sym long.found)
    (subst (λ (b : Bool). MatchBool b (Says 3 (limit_line name) 3 (limit_line name)) (next long.bytes 3 (limit_line name))) (sym (lt-ltb most (length long.bytes) long.longer)) (refl, refl)))
file_refused held name most next Memory same why = tt
file_refused held name most next (File other) same none =
    subst (λ (n : List ℕ). Opens held name most next 6 (file_line n)) (sym same) (subst (λ (o : Option (List ℕ)). by_held o name most next 6 (file_line name)) (sym none) (refl, refl))
file_refused held name most next _ same why = absurd same

-- What has been read of an order's files so far, over files that were `old` and are `files` now.
pub record AreReadSo {F : Type 0} (faults : F → ℕ) (held : F → Option Held) (steady : F → Type 0) (old files : F) (wanted : List Wanted) (texts : List (Vec ℕ Global)) : Type 0 where
  pub same : faults files ≡ faults old
  pub kept : held files ≡ held old
  pub still : steady old → steady files
  pub read : ForSome (held old) (λ h. AreRead h (wanted_in wanted) (texts_in texts))
  pub long : length texts ≡ length wanted
  pub short : All (λ text. length text.items < 2 ^ 32) texts

-- a file, read where there is none
abbrev pub some_file : Wanted
some_file = record { name = record { ref_ptr = (0, 0); now = [] }; most = 0 }

-- the file of a wanted one in the definitions
abbrev word : Wanted → FileWord
word file = record { name = file.name.now; most = file.most }

named_there : (wanted : List Wanted) (i : ℕ) (d : Wanted) (x : List ℕ) → i < length wanted → slice_index_or (map (λ file. file.name) (wanted_in wanted)) i x ≡ (get_or wanted i d).name.now
named_there [] i d x low = absurd (omega (arith, low))
named_there (file ∷ files) zero d x low = refl
named_there (file ∷ files) (suc i) d x low = named_there files i d x (omega (arith, low))

-- the name of a wanted file is one of the names
pub named_at : (wanted : List Wanted) (i : ℕ) (d : Wanted) → i < length wanted → Contains (map (λ file. file.name) (wanted_in wanted)) (get_or wanted i d).name.now
named_at wanted i d low = (i, omega (arith, low, length-map (wanted_in wanted) (λ (file : FileWord). file.name), length-map wanted word), named_there wanted i d (get_or wanted i d).name.now low)

-- why a file was not read holds of more names
pub read_weaker : (P Q : List ℕ → Type 0) → ((name : List ℕ) → P name → Q name) → (refusal : Refusal) → IsReadRefusal P refusal → IsReadRefusal Q refusal
read_weaker P Q f (Bytes file) h = f file.now h
read_weaker P Q f Memory h = tt
read_weaker P Q f (File name) h = f name.now h
read_weaker P Q f _ h = absurd h

pub read_names : (P : List ℕ → Type 0) (refusal : Refusal) → IsReadRefusal P refusal → NamesFile P refusal
read_names P (Bytes file) h = tt
read_names P Memory h = tt
read_names P (File name) h = h
read_names P _ h = absurd h

split_at : (wanted : List Wanted) (i : ℕ) (d : Wanted) → i < length wanted → wanted_in wanted ≡ wanted_in (take i wanted) ++ word (get_or wanted i d) ∷ wanted_in (drop (suc i) wanted)
split_at [] i d low = absurd (omega (arith, low))
split_at (file ∷ files) zero d low = refl
split_at (file ∷ files) (suc i) d low = ap (λ (words : List FileWord). word file ∷ words) (split_at files i d (omega (arith, low)))

-- where the files before it are read, a file that is not read is the answer
pub refused_at : (held : Held) (wanted : List Wanted) (i : ℕ) (d : Wanted) (texts : List (List ℕ)) (refusal : Refusal) → i < length wanted → AreRead held (wanted_in (take i wanted)) texts → IsReadRefusal (λ other. other ≡ (get_or wanted i d).name.now) refusal
    → WhyNotRead held (get_or wanted i d).name.now (get_or wanted i d).most refusal → Agrees (IsUnread held (wanted_in wanted)) refusal
refused_at held wanted i d texts refusal low read kind why =
    let file = get_or wanted i d in
    let more = wanted_in (drop (suc i) wanted) in
    let here = file_refused held file.name.now file.most (λ bytes. OpensAll held more (λ others status text. ⊥)) refusal kind why in
    subst (λ (files : List FileWord). Agrees (IsUnread held files) refusal) (sym (split_at wanted i d low))
    (agrees_weaker (Opens held file.name.now file.most (λ bytes. OpensAll held more (λ others status text. ⊥))) (IsUnread held (wanted_in (take i wanted) ++ word file ∷ more))
    (λ s t h. opens_after held (wanted_in (take i wanted)) (word file ∷ more) texts (λ others status text. ⊥) s t read h) refusal here)

-- one more file is read
pub read_next : (held : Held) (wanted : List Wanted) (i : ℕ) (d : Wanted) (texts more : List (Vec ℕ Global)) (text : Vec ℕ Global) → i < length wanted → more ≡ texts ++ text ∷ [] → AreRead held (wanted_in (take i wanted)) (texts_in texts)
    → held (get_or wanted i d).name.now ≡ Some text.items → length text.items ≤ (get_or wanted i d).most → AreRead held (wanted_in (take (i + 1) wanted)) (texts_in more)
read_next held wanted i d texts more text low is read found short =
    subst (λ (files : List FileWord). AreRead held files (texts_in more)) (sym (map_more word wanted i d low))
    (subst (λ (ts : List (List ℕ)). AreRead held (wanted_in (take i wanted) ++ word (get_or wanted i d) ∷ []) ts) (sym (ap texts_in is ∙ map-append (λ (t : Vec ℕ Global). t.items) texts (text ∷ [])))
    (read_more held (wanted_in (take i wanted)) (texts_in texts) (word (get_or wanted i d)) text.items read found short))

-- a file's reading that has no answer of its own leads to any
pub refuses_all : (held : Held) (files : List FileWord) (next : Next (List (List ℕ))) (refusal : Refusal) → Agrees (IsUnread held files) refusal → Agrees (OpensAll held files next) refusal
refuses_all held files next refusal =
    agrees_weaker (IsUnread held files) (OpensAll held files next) (λ s t h. opens_all_map held files (λ texts status text. ⊥) next s t (λ texts none. absurd none) h) refusal

pub reads_all : (held : Held) (files : List FileWord) (texts : List (List ℕ)) (next : Next (List (List ℕ))) (decided : Decided) → AreRead held files texts → Answers (next texts) decided → Answers (OpensAll held files next) decided
reads_all held files texts next decided read = answers_weaker (next texts) (OpensAll held files next) (λ s t h. opens_read held files texts next s t read h) decided

-- the bytes of one text, or of two, that are read by their places
pub one_text : (texts : List (Vec ℕ Global)) (a : Vec ℕ Global) (x : List ℕ) → length texts ≡ 1 → a ≡ get_or texts 0 a → x ≡ a.items → x ∷ [] ≡ texts_in texts
one_text [] a x e first is = absurd (omega (arith, e))
one_text (b ∷ []) a x e first is = ap (λ (y : List ℕ). y ∷ []) (is ∙ ap (λ (t : Vec ℕ Global). t.items) first)
one_text (b ∷ c ∷ texts) a x e first is = absurd (omega (arith, e))

pub two_texts : (texts : List (Vec ℕ Global)) (a b : Vec ℕ Global) (x y : List ℕ) → length texts ≡ 2 → a ≡ get_or texts 0 a → b ≡ get_or texts 1 b → x ≡ a.items → y ≡ b.items → x ∷ y ∷ [] ≡ texts_in texts
two_texts [] a b x y e first second is also = absurd (omega (arith, e))
two_texts (c ∷ []) a b x y e first second is also = absurd (omega (arith, e))
two_texts (c ∷ d ∷ []) a b x y e first second is also =
    ap₂ (λ (x y : List ℕ). x ∷ y ∷ []) (is ∙ ap (λ (t : Vec ℕ Global). t.items) first) (also ∙ ap (λ (t : Vec ℕ Global). t.items) second)
two_texts (c ∷ d ∷ f ∷ texts) a b x y e first second is also = absurd (omega (arith, e))

pub three_texts : (texts : List (Vec ℕ Global)) (a b c : Vec ℕ Global) (x y z : List ℕ) → length texts ≡ 3 → a ≡ get_or texts 0 a → b ≡ get_or texts 1 b → c ≡ get_or texts 2 c → x ≡ a.items → y ≡ b.items → z ≡ c.items → x ∷ y ∷ z ∷ [] ≡ texts_in texts
three_texts [] a b c x y z e first second third is also too = absurd (omega (arith, e))
three_texts (d ∷ []) a b c x y z e first second third is also too = absurd (omega (arith, e))
three_texts (d ∷ f ∷ []) a b c x y z e first second third is also too = absurd (omega (arith, e))
three_texts (d ∷ f ∷ g ∷ []) a b c x y z e first second third is also too =
    ap₂ (λ (x y : List ℕ). x ∷ y ∷ z ∷ []) (is ∙ ap (λ (t : Vec ℕ Global). t.items) first) (also ∙ ap (λ (t : Vec ℕ Global). t.items) second)
    ∙ ap (λ (z : List ℕ). d.items ∷ f.items ∷ z ∷ []) (too ∙ ap (λ (t : Vec ℕ Global). t.items) third)
three_texts (d ∷ f ∷ g ∷ h ∷ texts) a b c x y z e first second third is also too = absurd (omega (arith, e))
