-- What is left to read, after what is held: how it ends in an expression, token by token in both directions.
use Rattle.std.proofs.Common.{◌≡◌, ℕ, ◌++◌, List, [], ◌∷◌, refl, sym, subst, Option, Some, None, append_assoc}
use Rattle.std.specs.Option.{option_map}
use Rattle.hz_description_model.specs.Reservations.Alternatives.{Expression, repeat}
use Rattle.hz_description_model.specs.Grammar.ExpressionTexts.{Mark, comma, bar, plus, Token, word, mark, star, opens, closes, foreign, element_of, joined_by, Level, joined, Spells, Further, IsWhole}
use Rattle.hz_description_model.specs.Grammar.ExpressionTexts as grammar
use Rattle.hz_description_model.specs.Grammar.ExpressionSteps.{Open, unopened, Last, nothing_yet, element, starred, repeated, State, sequence_with, before, step_first, step_part, step_element, step_star, step}
use Rattle.hz_base_model.specs.Lines.{number_of}

-- after an element: nothing, or `*` and a number
pub data Repeat : Expression → List Token → Expression → List Token → Type 0 where
  once : {value : Expression} {rest : List Token} → Repeat value rest value rest
  times : {value : Expression} {at last number : ℕ} {bytes : List ℕ} {rest : List Token} → number_of bytes ≡ Some number → Repeat value (star at ∷ word last bytes ∷ rest) (repeat value number) rest

-- after a part: further parts up to the end of its parentheses, and the value of all in them
pub record Encloses (o : Open) (part : Expression) (tokens : List Token) (value : Expression) (rest : List Token) : Type 0 where
  pub together : List Expression
  pub choices : List Expression
  pub sequence : List Expression
  pub after_all : List Token
  pub after_choice : List Token
  pub is_all : Further plus tokens together after_all
  pub is_choice : Further bar after_all choices after_choice
  pub is_sequence : Further comma after_choice sequence rest
  pub is : joined_by comma (o.sequence ++ joined_by bar (o.choices ++ joined_by plus (o.together ++ part ∷ together) ∷ choices) ∷ sequence) ≡ value

-- what ends after a part, an element, `*` or where an element is wanted, if what ends after the parentheses is known
pub record PartEnds (o : Open) (Ends : Expression → List Token → Type 0) (part : Expression) (tokens : List Token) : Type 0 where
  pub value : Expression
  pub rest : List Token
  pub encloses : Encloses o part tokens value rest
  pub ends : Ends value rest

pub record ElementEnds (o : Open) (Ends : Expression → List Token → Type 0) (value : Expression) (tokens : List Token) : Type 0 where
  pub part : Expression
  pub left : List Token
  pub repeats : Repeat value tokens part left
  pub ends : PartEnds o Ends part left

pub record StarEnds (o : Open) (Ends : Expression → List Token → Type 0) (value : Expression) (tokens : List Token) : Type 0 where
  pub at : ℕ
  pub number : ℕ
  pub bytes : List ℕ
  pub left : List Token
  pub is : tokens ≡ word at bytes ∷ left
  pub is_number : number_of bytes ≡ Some number
  pub ends : PartEnds o Ends (repeat value number) left

pub record FirstEnds (o : Open) (Ends : Expression → List Token → Type 0) (tokens : List Token) : Type 0 where
  pub part : Expression
  pub left : List Token
  pub spells : Spells grammar.repeated tokens part left
  pub ends : PartEnds o Ends part left

-- after the innermost parentheses: nothing is left, or they are closed and those around them end
pub record Closes (o : Open) (Ends : Expression → List Token → Type 0) (value : Expression) (tokens : List Token) : Type 0 where
  pub at : ℕ
  pub left : List Token
  pub is : tokens ≡ closes at ∷ left
  pub ends : ElementEnds o Ends value left

abbrev pub EndsIn : Expression → List Open → Expression → List Token → Type 0
EndsIn whole [] value tokens = (tokens ≡ []) × (value ≡ whole)
EndsIn whole (o ∷ outer) value tokens = Closes o (EndsIn whole outer) value tokens

abbrev pub LastEnds : Open → (Expression → List Token → Type 0) → Last → List Token → Type 0
LastEnds o Ends nothing_yet tokens = FirstEnds o Ends tokens
LastEnds o Ends (element value) tokens = ElementEnds o Ends value tokens
LastEnds o Ends (starred value) tokens = StarEnds o Ends value tokens
LastEnds o Ends (repeated value) tokens = PartEnds o Ends value tokens

-- the tokens complete what is held to an expression
abbrev pub Completes : State → List Token → Expression → Type 0
Completes s tokens whole = LastEnds s.inner (EndsIn whole s.outer) s.last tokens

abbrev pub CompletesAfter : Option State → List Token → Expression → Type 0
CompletesAfter None tokens whole = ⊥
CompletesAfter (Some s) tokens whole = Completes s tokens whole

enclosing : {o : Open} {part value : Expression} {tokens after_all after_choice rest : List Token} {together choices sequence : List Expression}
    → Further plus tokens together after_all → Further bar after_all choices after_choice → Further comma after_choice sequence rest
    → joined_by comma (o.sequence ++ joined_by bar (o.choices ++ joined_by plus (o.together ++ part ∷ together) ∷ choices) ∷ sequence) ≡ value → Encloses o part tokens value rest
enclosing {after_all = after_all} {after_choice} {together = together} {choices} {sequence} all choice several e = record {
  together = together;
  choices = choices;
  sequence = sequence;
  after_all = after_all;
  after_choice = after_choice;
  is_all = all;
  is_choice = choice;
  is_sequence = several;
  is = e;
}

ending : {o : Open} {Ends : Expression → List Token → Type 0} {part value : Expression} {tokens rest : List Token} → Encloses o part tokens value rest → Ends value rest → PartEnds o Ends part tokens
ending {value = value} {rest = rest} e h = record { value = value; rest = rest; encloses = e; ends = h }

first_ends : {o : Open} {Ends : Expression → List Token → Type 0} {part : Expression} {tokens left : List Token} → Spells grammar.repeated tokens part left → PartEnds o Ends part left → FirstEnds o Ends tokens
first_ends {part = part} {left = left} spells h = record { part = part; left = left; spells = spells; ends = h }

-- an expression by its first part
pub record Opened (tokens : List Token) (value : Expression) (rest : List Token) : Type 0 where
  pub part : Expression
  pub left : List Token
  pub spells : Spells grammar.repeated tokens part left
  pub encloses : Encloses unopened part left value rest

pub opened : {tokens rest : List Token} {value : Expression} → Spells (joined comma) tokens value rest → Opened tokens value rest
opened (Spells.parts (Spells.parts (Spells.parts {others = left} {first = part} spells all) choice) several) = record { part = part; left = left; spells = spells; encloses = enclosing all choice several refl }

pub spelled : {tokens left rest : List Token} {part value : Expression} → Spells grammar.repeated tokens part left → Encloses unopened part left value rest → Spells (joined comma) tokens value rest
spelled {tokens} {rest = rest} spells e = subst (λ v. Spells (joined comma) tokens v rest) e.is (Spells.parts (Spells.parts (Spells.parts spells e.is_all) e.is_choice) e.is_sequence)

repeated_is : {tokens left rest : List Token} {value part : Expression} → Spells grammar.element tokens value left → Repeat value left part rest → Spells grammar.repeated tokens part rest
repeated_is spells Repeat.once = Spells.once spells
repeated_is spells (Repeat.times e) = Spells.times spells e

-- a part with nothing of its parentheses after it
pub alone : (o : Open) (part : Expression) (tokens : List Token) → Encloses o part tokens (sequence_with o part) tokens
alone o part tokens = enclosing Further.ends Further.ends Further.ends refl

-- Backwards: what completes the state after a token completes, with the token, the state before it.
back_first : (inner : Open) (outer : List Open) (token : Token) (tokens : List Token) (whole : Expression) → CompletesAfter (step_first inner outer token) tokens whole
    → FirstEnds inner (EndsIn whole outer) (token ∷ tokens)
back_first inner outer (word at bytes) tokens whole h = record { part = h.part; left = h.left; spells = repeated_is Spells.name h.repeats; ends = h.ends }
back_first inner outer (opens at) tokens whole h =
    let end = h.ends.ends in
    let spells = spelled h.spells h.ends.encloses in
    let inside = subst (λ r. Spells (joined comma) tokens h.ends.value r) end.is spells in
    record { part = end.ends.part; left = end.ends.left; spells = repeated_is (Spells.enclosed inside) end.ends.repeats; ends = end.ends.ends }
back_first inner outer token tokens whole h = absurd h

back_mark : (inner : Open) (outer : List Open) (part : Expression) (at : ℕ) (kind : Mark) (tokens : List Token) (whole : Expression) → FirstEnds (before kind inner part) (EndsIn whole outer) tokens
    → PartEnds inner (EndsIn whole outer) part (mark at kind ∷ tokens)
back_mark inner outer part at plus tokens whole h = let e = h.ends.encloses in ending (enclosing (Further.next h.spells e.is_all) e.is_choice e.is_sequence (rw append_assoc at e.is)) h.ends.ends
back_mark inner outer part at bar tokens whole h = let e = h.ends.encloses in
    ending (enclosing Further.ends (Further.next (Spells.parts h.spells e.is_all) e.is_choice) e.is_sequence (rw append_assoc at e.is)) h.ends.ends
back_mark inner outer part at comma tokens whole h = let e = h.ends.encloses in
    ending (enclosing Further.ends Further.ends (Further.next (Spells.parts (Spells.parts h.spells e.is_all) e.is_choice) e.is_sequence) (rw append_assoc at e.is)) h.ends.ends

back_part : (inner : Open) (outer : List Open) (part : Expression) (token : Token) (tokens : List Token) (whole : Expression) → CompletesAfter (step_part inner outer part token) tokens whole
    → PartEnds inner (EndsIn whole outer) part (token ∷ tokens)
back_part inner outer part (mark at kind) tokens whole h = back_mark inner outer part at kind tokens whole h
back_part inner (o ∷ outer) part (closes at) tokens whole h = ending (alone inner part (closes at ∷ tokens)) (record { at = at; left = tokens; is = refl; ends = h })
back_part inner outer part token tokens whole h = absurd h

back_element : (inner : Open) (outer : List Open) (value : Expression) (token : Token) (tokens : List Token) (whole : Expression) → CompletesAfter (step_element inner outer value token) tokens whole
    → ElementEnds inner (EndsIn whole outer) value (token ∷ tokens)
back_element inner outer value (star at) tokens whole h =
    let P : List Token → Type 0 = λ ts. ElementEnds inner (EndsIn whole outer) value (star at ∷ ts) in
    subst P (sym h.is) (record { part = repeat value h.number; left = h.left; repeats = Repeat.times h.is_number; ends = h.ends })
back_element inner outer value (mark at kind) tokens whole h = record { part = value; left = mark at kind ∷ tokens; repeats = Repeat.once; ends = back_mark inner outer value at kind tokens whole h }
back_element inner outer value (closes at) tokens whole h = record { part = value; left = closes at ∷ tokens; repeats = Repeat.once; ends = back_part inner outer value (closes at) tokens whole h }
back_element inner outer value token tokens whole h = absurd h

-- the state after the number of a repeat
abbrev pub numbered : Open → List Open → Expression → ℕ → State
numbered inner outer value number = record { inner = inner; outer = outer; last = repeated (repeat value number) }

back_number : (inner : Open) (outer : List Open) (value : Expression) (at : ℕ) (bytes : List ℕ) (tokens : List Token) (whole : Expression) (number : Option ℕ) → number_of bytes ≡ number
    → CompletesAfter (option_map (numbered inner outer value) number) tokens whole → StarEnds inner (EndsIn whole outer) value (word at bytes ∷ tokens)
back_number inner outer value at bytes tokens whole None e h = absurd h
back_number inner outer value at bytes tokens whole (Some number) e h = record { at = at; number = number; bytes = bytes; left = tokens; is = refl; is_number = e; ends = h }

back_star : (inner : Open) (outer : List Open) (value : Expression) (token : Token) (tokens : List Token) (whole : Expression) → CompletesAfter (step_star inner outer value token) tokens whole
    → StarEnds inner (EndsIn whole outer) value (token ∷ tokens)
back_star inner outer value (word at bytes) tokens whole h = back_number inner outer value at bytes tokens whole (number_of bytes) refl h
back_star inner outer value token tokens whole h = absurd h

back_last : (inner : Open) (outer : List Open) (last : Last) (token : Token) (tokens : List Token) (whole : Expression) → CompletesAfter (step (record { inner = inner; outer = outer; last = last }) token) tokens whole
    → LastEnds inner (EndsIn whole outer) last (token ∷ tokens)
back_last inner outer nothing_yet token tokens whole h = back_first inner outer token tokens whole h
back_last inner outer (element value) token tokens whole h = back_element inner outer value token tokens whole h
back_last inner outer (starred value) token tokens whole h = back_star inner outer value token tokens whole h
back_last inner outer (repeated value) token tokens whole h = back_part inner outer value token tokens whole h

pub back : (s : State) (token : Token) (tokens : List Token) (whole : Expression) → CompletesAfter (step s token) tokens whole → Completes s (token ∷ tokens) whole
back s token tokens whole h = back_last s.inner s.outer s.last token tokens whole h

-- Forwards: what completes a state begins with a token that it takes, and goes on after it.
forth_element_first : (inner : Open) (outer : List Open) {token : Token} {tokens left : List Token} {value : Expression} (whole : Expression) → Spells grammar.element (token ∷ tokens) value left
    → ElementEnds inner (EndsIn whole outer) value left → CompletesAfter (step_first inner outer token) tokens whole
forth_element_first inner outer whole Spells.name h = h
forth_element_first inner outer {value = value} whole (Spells.enclosed {last = last} {rest = rest} spells) h = let o = opened spells in record {
  part = o.part;
  left = o.left;
  spells = o.spells;
  ends = record { value = value; rest = closes last ∷ rest; encloses = o.encloses; ends = record { at = last; left = rest; is = refl; ends = h } };
}

forth_spelled : (inner : Open) (outer : List Open) {token : Token} {tokens left : List Token} {part : Expression} (whole : Expression) → Spells grammar.repeated (token ∷ tokens) part left
    → PartEnds inner (EndsIn whole outer) part left → CompletesAfter (step_first inner outer token) tokens whole
forth_spelled inner outer {left = left} {part = part} whole (Spells.once spells) h = forth_element_first inner outer whole spells (record { part = part; left = left; repeats = Repeat.once; ends = h })
forth_spelled inner outer {left = left} {part = part} whole (Spells.times spells e) h = forth_element_first inner outer whole spells (record { part = part; left = left; repeats = Repeat.times e; ends = h })

forth_first : (inner : Open) (outer : List Open) (token : Token) (tokens : List Token) (whole : Expression) → FirstEnds inner (EndsIn whole outer) (token ∷ tokens)
    → CompletesAfter (step_first inner outer token) tokens whole
forth_first inner outer token tokens whole h = forth_spelled inner outer whole h.spells h.ends

closed_outer : (inner : Open) (outer : List Open) (part : Expression) (token : Token) (tokens : List Token) (whole value : Expression) → sequence_with inner part ≡ value → EndsIn whole outer value (token ∷ tokens)
    → CompletesAfter (step_part inner outer part token) tokens whole
closed_outer inner [] part token tokens whole value e h = absurd (cc)
closed_outer inner (o ∷ outer) part token tokens whole value e h =
    let token_is : closes h.at ≡ token = cc in
    let left_is : h.left ≡ tokens = cc in
    let ends = subst (λ v. ElementEnds o (EndsIn whole outer) v h.left) (sym e) h.ends in
    subst (λ t. CompletesAfter (step_part inner (o ∷ outer) part t) tokens whole) token_is (subst (λ ts. ElementEnds o (EndsIn whole outer) (sequence_with inner part) ts) left_is ends)

forth_further : (inner : Open) (outer : List Open) (part : Expression) {token : Token} {tokens after_all after_choice rest : List Token} {together choices sequence : List Expression} (whole value : Expression)
    → Further plus (token ∷ tokens) together after_all → Further bar after_all choices after_choice → Further comma after_choice sequence rest
    → joined_by comma (inner.sequence ++ joined_by bar (inner.choices ++ joined_by plus (inner.together ++ part ∷ together) ∷ choices) ∷ sequence) ≡ value
    → EndsIn whole outer value rest → CompletesAfter (step_part inner outer part token) tokens whole
forth_further inner outer part whole value (Further.next spells all) choice several e h = first_ends spells (ending (enclosing all choice several (rw append_assoc e)) h)
forth_further inner outer part whole value Further.ends (Further.next (Spells.parts spells all) choice) several e h = first_ends spells (ending (enclosing all choice several (rw append_assoc e)) h)
forth_further inner outer part whole value Further.ends Further.ends (Further.next (Spells.parts (Spells.parts spells all) choice) several) e h = first_ends spells (ending (enclosing all choice several (rw append_assoc e)) h)
forth_further inner outer part {token} {tokens} whole value Further.ends Further.ends Further.ends e h = closed_outer inner outer part token tokens whole value e h

forth_part : (inner : Open) (outer : List Open) (part : Expression) (token : Token) (tokens : List Token) (whole : Expression) → PartEnds inner (EndsIn whole outer) part (token ∷ tokens)
    → CompletesAfter (step_part inner outer part token) tokens whole
forth_part inner outer part token tokens whole h = let e = h.encloses in forth_further inner outer part whole h.value e.is_all e.is_choice e.is_sequence e.is h.ends

after_element : (inner : Open) (outer : List Open) (value : Expression) (token : Token) (tokens : List Token) (whole : Expression) → CompletesAfter (step_part inner outer value token) tokens whole
    → CompletesAfter (step_element inner outer value token) tokens whole
after_element inner outer value (mark at kind) tokens whole h = h
after_element inner outer value (closes at) tokens whole h = h
after_element inner outer value token tokens whole h = absurd h

forth_repeat : (inner : Open) (outer : List Open) {token : Token} {tokens left : List Token} {value part : Expression} (whole : Expression) → Repeat value (token ∷ tokens) part left
    → PartEnds inner (EndsIn whole outer) part left → CompletesAfter (step_element inner outer value token) tokens whole
forth_repeat inner outer {token} {tokens} {value = value} whole Repeat.once h = after_element inner outer value token tokens whole (forth_part inner outer value token tokens whole h)
forth_repeat inner outer whole (Repeat.times {last = last} {number} {bytes} {rest} e) h = record { at = last; number = number; bytes = bytes; left = rest; is = refl; is_number = e; ends = h }

forth_star : (inner : Open) (outer : List Open) (value : Expression) (token : Token) (tokens : List Token) (whole : Expression) → StarEnds inner (EndsIn whole outer) value (token ∷ tokens)
    → CompletesAfter (step_star inner outer value token) tokens whole
forth_star inner outer value token tokens whole h =
    let token_is : word h.at h.bytes ≡ token = cc in
    let left_is : h.left ≡ tokens = cc in
    subst (λ t. CompletesAfter (step_star inner outer value t) tokens whole) token_is
    (subst (λ o. CompletesAfter (option_map (numbered inner outer value) o) tokens whole) (sym h.is_number)
    (subst (λ ts. PartEnds inner (EndsIn whole outer) (repeat value h.number) ts) left_is h.ends))

forth_last : (inner : Open) (outer : List Open) (last : Last) (token : Token) (tokens : List Token) (whole : Expression) → LastEnds inner (EndsIn whole outer) last (token ∷ tokens)
    → CompletesAfter (step (record { inner = inner; outer = outer; last = last }) token) tokens whole
forth_last inner outer nothing_yet token tokens whole h = forth_first inner outer token tokens whole h
forth_last inner outer (element value) token tokens whole h = forth_repeat inner outer whole h.repeats h.ends
forth_last inner outer (starred value) token tokens whole h = forth_star inner outer value token tokens whole h
forth_last inner outer (repeated value) token tokens whole h = forth_part inner outer value token tokens whole h

pub forth : (s : State) (token : Token) (tokens : List Token) (whole : Expression) → Completes s (token ∷ tokens) whole → CompletesAfter (step s token) tokens whole
forth s token tokens whole h = forth_last s.inner s.outer s.last token tokens whole h
