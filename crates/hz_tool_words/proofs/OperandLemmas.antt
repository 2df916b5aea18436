-- What `clap` makes of words that do not begin with `-`, for a command of one to three operands.
use Rattle.std.proofs.Common.{◌≡◌, ◌≢◌, ◌∙◌, ◌||◌, ◌≤◌, ℕ, zero, suc, Bool, true, false, true≢false, refl, sym, ap, ap₂, subst, List, [], ◌∷◌, Option, Some, None, drop, length, map, arith}
use Rattle.std.specs.Option.{option_map, option_and_then, option_zip}
use Rattle.std.specs.Prelude.{⊤, Result, Ok, Err, IfOk}
use Rattle.std.specs.Str.{bytes_eq}
use Rattle.clap.specs.Lexer.{long_of, short_of}
use Rattle.clap.specs.Walk.{is_empty}
use Rattle.clap.specs.Words.{App, fault_of, first_of, found_of, is_simple, is_simple_and_free, matches_of, takes}
use Rattle.clap.specs.declared.error.kind.ErrorKind.{ErrorKind}
use Rattle.clap.specs.declared.error.kind.ErrorKind.TheVariants.{OutOfMemory}
use Rattle.clap.specs.declared.parser.matches.ArgMatches.{ArgMatches}
use Rattle.clap.proofs.OnLiterals.{clap_on_literals}
use Rattle.clap.proofs.WalkLemmas.{first_value-rows}
use Rattle.hz_tool_words.specs.Operands.{Finds, IsRefusal, app_with, arguments_at, id_at, value_of}
use Rattle.hz_tool_words.specs.Shape.{IsFew, operand_in}
use Rattle.hz_tool_words.specs.declared.table.Operand.{Operand}
use Rattle.hz_words_model.specs.Words.{begins_with_dash, has_option}
use Rattle.hz_words_model.specs.Words as model

abbrev pub Word : Type 0
Word = List ℕ

either : (a b : Bool) → (a || b) ≡ false → (a ≡ false) × (b ≡ false)
either true b e = absurd (true≢false e)
either false b e = (refl, e)

-- the word is no option to `clap`
record IsPlain (word : Word) : Type 0 where
  long : long_of word ≡ None
  short : short_of word ≡ None
  dashes : bytes_eq word (45 ∷ 45 ∷ []) ≡ false

abbrev ArePlain : List Word → Type 0
ArePlain [] = ⊤
ArePlain (w ∷ ws) = IsPlain w × ArePlain ws

plain_word : (word : Word) → begins_with_dash word ≡ false → IsPlain word
plain_word [] e = record { long = refl; short = refl; dashes = refl }
plain_word (b ∷ bs) e = record { long = rw e refl; short = rw e refl; dashes = rw e refl }

plain_words : (words : List Word) → has_option words ≡ false → ArePlain words
plain_words [] h = tt
plain_words (w ∷ ws) h = let p = either _ _ h in (plain_word w p.0, plain_words ws p.1)

-- there are so many
abbrev are : {A : Type 0} → ℕ → List A → Bool
are zero [] = true
are (suc n) (x ∷ xs) = are n xs
are n xs = false

-- these values are found from a place on
abbrev AreAt : (value : ℕ → Option Word) → (place : ℕ) → List Word → Type 0
AreAt value place [] = ⊤
AreAt value place (w ∷ ws) = (value place ≡ Some w) × AreAt value (suc place) ws

-- what `clap` has at a place
abbrev matched : (app : App) → (words : List Word) → ℕ → Option Word
matched app words place = first_of (id_at place) (matches_of app words)

-- as many plain words as the command has operands are taken, each at its place
abbrev Takes : Word → ℕ → Type 0
Takes name n = (c : Word) (given : List Word) → are n given ≡ true → ArePlain given → (takes (app_with name n) (c ∷ given) ≡ true) × AreAt (matched (app_with name n) (c ∷ given)) 0 given

-- nothing is wrong with plain words exactly if there are as many
abbrev Faults : Word → ℕ → Type 0
Faults name n = (words : List Word) → ArePlain (drop 1 words) → is_empty (fault_of (app_with name n) words) ≡ are n (drop 1 words)

record Reads (name : Word) (n : ℕ) : Type 0 where
  taken : Takes name n
  faultless : Faults name n
  simple : is_simple (app_with name n) ≡ true
  free : is_simple_and_free (app_with name n) ≡ true

module _ (name : Word) where
  took_one : Takes name 1
  unfolding clap_on_literals
  took_one c [] h plain = absurd (true≢false (sym h))
  took_one c (a ∷ []) h (p, end) = (
    simp (p.long, p.short, p.dashes) refl,
    (
      simp (p.long, p.short, p.dashes) refl,
      tt,
    ),
  )
  took_one c (a ∷ b ∷ rest) h plain = absurd (true≢false (sym h))

  fault_one : Faults name 1
  unfolding clap_on_literals
  fault_one [] plain = refl
  fault_one (c ∷ []) plain = refl
  fault_one (c ∷ a ∷ []) (p, end) = simp (p.long, p.short, p.dashes) refl
  fault_one (c ∷ a ∷ b ∷ rest) (p, (q, end)) = simp (p.long, p.short, p.dashes, q.long, q.short, q.dashes) refl

  took_two : Takes name 2
  unfolding clap_on_literals
  took_two c [] h plain = absurd (true≢false (sym h))
  took_two c (a ∷ []) h plain = absurd (true≢false (sym h))
  took_two c (a ∷ b ∷ []) h (p, (q, end)) = (
    simp (p.long, p.short, p.dashes, q.long, q.short, q.dashes) refl,
    (
      simp (p.long, p.short, p.dashes, q.long, q.short, q.dashes) refl,
      (
        simp (p.long, p.short, p.dashes, q.long, q.short, q.dashes) refl,
        tt,
      ),
    ),
  )
  took_two c (a ∷ b ∷ d ∷ rest) h plain = absurd (true≢false (sym h))

  fault_two : Faults name 2
  unfolding clap_on_literals
  fault_two [] plain = refl
  fault_two (c ∷ []) plain = refl
  fault_two (c ∷ a ∷ []) (p, end) = simp (p.long, p.short, p.dashes) refl
  fault_two (c ∷ a ∷ b ∷ []) (p, (q, end)) = simp (p.long, p.short, p.dashes, q.long, q.short, q.dashes) refl
  fault_two (c ∷ a ∷ b ∷ d ∷ rest) (p, (q, (r, end))) = simp (p.long, p.short, p.dashes, q.long, q.short, q.dashes, r.long, r.short, r.dashes) refl

  took_three : Takes name 3
  unfolding clap_on_literals
  took_three c [] h plain = absurd (true≢false (sym h))
  took_three c (a ∷ []) h plain = absurd (true≢false (sym h))
  took_three c (a ∷ b ∷ []) h plain = absurd (true≢false (sym h))
  took_three c (a ∷ b ∷ d ∷ []) h (p, (q, (r, end))) = (
    simp (p.long, p.short, p.dashes, q.long, q.short, q.dashes, r.long, r.short, r.dashes) refl,
    (
      simp (p.long, p.short, p.dashes, q.long, q.short, q.dashes, r.long, r.short, r.dashes) refl,
      (
        simp (p.long, p.short, p.dashes, q.long, q.short, q.dashes, r.long, r.short, r.dashes) refl,
        (
          simp (p.long, p.short, p.dashes, q.long, q.short, q.dashes, r.long, r.short, r.dashes) refl,
          tt,
        ),
      ),
    ),
  )
  took_three c (a ∷ b ∷ d ∷ e ∷ rest) h plain = absurd (true≢false (sym h))

  fault_three : Faults name 3
  unfolding clap_on_literals
  fault_three [] plain = refl
  fault_three (c ∷ []) plain = refl
  fault_three (c ∷ a ∷ []) (p, end) = simp (p.long, p.short, p.dashes) refl
  fault_three (c ∷ a ∷ b ∷ []) (p, (q, end)) = simp (p.long, p.short, p.dashes, q.long, q.short, q.dashes) refl
  fault_three (c ∷ a ∷ b ∷ d ∷ []) (p, (q, (r, end))) = simp (p.long, p.short, p.dashes, q.long, q.short, q.dashes, r.long, r.short, r.dashes) refl
  fault_three (c ∷ a ∷ b ∷ d ∷ e ∷ rest) (p, (q, (r, (s, end)))) = simp (p.long, p.short, p.dashes, q.long, q.short, q.dashes, r.long, r.short, r.dashes, s.long, s.short, s.dashes) refl

  reads : (n : ℕ) → 1 ≤ n → n ≤ 3 → Reads name n
  reads zero some few = absurd (omega arith)
  reads (suc zero) some few = record { taken = took_one; faultless = fault_one; simple = refl; free = refl }
  reads (suc (suc zero)) some few = record { taken = took_two; faultless = fault_two; simple = refl; free = refl }
  reads (suc (suc (suc zero))) some few = record { taken = took_three; faultless = fault_three; simple = refl; free = refl }
  reads (suc (suc (suc (suc n)))) some few = absurd (omega arith)

-- ---- the arguments of a command

nothing : (a : Option model.Argument) → None ≡ option_map (λ (p : model.Argument × List model.Argument). p.0 ∷ p.1) (option_zip a None)
nothing None = refl
nothing (Some a) = refl

-- of more or fewer words there are no arguments
unfit : (os : List Operand) (given : List Word) → are (length os) given ≡ false → None ≡ model.arguments_of (map operand_in os) given
unfit [] [] h = absurd (true≢false h)
unfit [] (w ∷ ws) h = refl
unfit (o ∷ os) [] h = refl
unfit (o ∷ os) (w ∷ ws) h =
    nothing (model.argument_of (operand_in o) w) ∙ ap (λ rest. option_map (λ p. p.0 ∷ p.1) (option_zip (model.argument_of (operand_in o) w) rest)) (unfit os ws h)

-- of as many words, which are found at their places, the arguments are those that are read there
fit : (value : ℕ → Option Word) (place : ℕ) (os : List Operand) (given : List Word) → are (length os) given ≡ true → AreAt value place given
    → arguments_at value place os ≡ model.arguments_of (map operand_in os) given
fit value place [] [] h at = refl
fit value place [] (w ∷ ws) h at = absurd (true≢false (sym h))
fit value place (o ∷ os) [] h at = absurd (true≢false (sym h))
fit value place (o ∷ os) (w ∷ ws) h at =
    ap₂ (λ a rest. option_map (λ p. p.0 ∷ p.1) (option_zip a rest)) (ap (option_and_then (model.argument_of (operand_in o))) at.0) (fit value (suc place) os ws h at.1)

-- what is found at a place by one is found there by another
along : (value other : ℕ → Option Word) → ((place : ℕ) → value place ≡ other place) → (place : ℕ) (given : List Word) → AreAt other place given → AreAt value place given
along value other same place [] at = tt
along value other same place (w ∷ ws) at = (same place ∙ at.0, along value other same (suc place) ws at.1)

module _ (name : Word) (os : List Operand) (few : IsFew os) (words : List Word) (plain : has_option (drop 1 words) ≡ false) where
  abbrev app : App
  app = app_with name (length os)

  reads_os : Reads name (length os)
  reads_os = reads name (length os) few.some few.few

  plain_given : ArePlain (drop 1 words)
  plain_given = plain_words (drop 1 words) plain

  -- words that are not taken are more or fewer
  untaken : takes app words ≢ true → are (length os) (drop 1 words) ≡ false
  untaken n = go words plain_given n
    where
      no_words : (ps : List Operand) → 1 ≤ length ps → are {A = Word} (length ps) [] ≡ false
      no_words [] some = absurd (omega arith)
      no_words (p ∷ ps) some = refl

      go : (ws : List Word) → ArePlain (drop 1 ws) → takes app ws ≢ true → are (length os) (drop 1 ws) ≡ false
      go [] p n = no_words os few.some
      go (c ∷ given) p n = by_count (are (length os) given) refl
        where
          by_count : (b : Bool) → are (length os) given ≡ b → are (length os) given ≡ false
          by_count true e = absurd (n (reads_os.taken c given e p).0)
          by_count false e = e

  -- words in which nothing is wrong are at their places
  at_places : (value : ℕ → Option Word) → ((place : ℕ) → value place ≡ matched app words place) → are (length os) (drop 1 words) ≡ true → AreAt value 0 (drop 1 words)
  at_places value same h = go words plain_given same h
    where
      go : (ws : List Word) → ArePlain (drop 1 ws) → ((place : ℕ) → value place ≡ matched app ws place) → are (length os) (drop 1 ws) ≡ true → AreAt value 0 (drop 1 ws)
      go [] p same h = tt
      go (c ∷ given) p same h = along value (matched app (c ∷ given)) same 0 given (reads_os.taken c given h p).1

  module _ (made : App) (is : made ≡ app) (r : Option ArgMatches) (f : Finds made words r) where
    -- nothing was found
    pub none_given : r ≡ None → None ≡ model.arguments_of (map operand_in os) (drop 1 words)
    none_given none = unfit os (drop 1 words) (untaken (λ t. subst (Finds made words) none f (ap (λ a. takes a words) is ∙ t)))

    -- these matches were found
    pub all_given : (m : ArgMatches) → r ≡ Some m → arguments_at (value_of m) 0 os ≡ model.arguments_of (map operand_in os) (drop 1 words)
    all_given m some =
        let here : Finds app words (Some m) = subst (λ a. Finds a words (Some m)) is (subst (Finds made words) some f) in
        let all : are (length os) (drop 1 words) ≡ true = sym (reads_os.faultless words plain_given) ∙ ap is_empty (here.0 reads_os.free) in
        fit (value_of m) 0 os (drop 1 words) all
        (at_places (value_of m) (λ place. first_value-rows (found_of m) (id_at place) ∙ ap (first_of (id_at place)) (here.1 reads_os.simple).0) all)

-- nothing is found in refused words, which are not taken where memory lasts
pub refusal_finds : {E : Type 0} (made : App) (words : List Word) (reason : ErrorKind) (reported : Result (Option ArgMatches) E) → (takes made words ≡ true → reason ≡ OutOfMemory) → IsRefusal reason reported → IfOk reported (Finds made words)
refusal_finds made words reason (Ok found) short (empty, other) = subst (Finds made words) (sym empty) (λ (taken : takes made words ≡ true). other (short taken))
refusal_finds made words reason (Err refused) short h = tt
