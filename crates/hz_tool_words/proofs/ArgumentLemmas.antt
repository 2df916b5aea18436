-- The arguments for operands, read one after another.
use Rattle.std.proofs.Common.{◌≡◌, ◌∙◌, ◌<◌, ◌+◌, ◌++◌, ℕ, refl, sym, ap, List, [], ◌∷◌, Option, Some, None, drop, length, get_or, add-one, append_assoc}
use Rattle.std.specs.Option.{option_map, option_and_then, option_zip}
use Rattle.std.proofs.Math.Seq.{drop-cons}
use Rattle.hz_tool_words.specs.Operands.{arguments_at}
use Rattle.hz_tool_words.specs.Shape.{operand_in}
use Rattle.hz_tool_words.specs.declared.table.Operand.{Operand}
use Rattle.hz_words_model.specs.Words as model

abbrev Arguments : Type 0
Arguments = List model.Argument

module _ (value : ℕ → Option (List ℕ)) (os : List Operand) where
  -- the arguments so far, with those of the operands from a place on, are the arguments
  abbrev pub AreSoFar : Arguments → ℕ → Type 0
  AreSoFar done i = arguments_at value 0 os ≡ option_map (λ rest. done ++ rest) (arguments_at value i (drop i os))

  abbrev here : Operand → ℕ → Option model.Argument
  here o i = option_and_then (model.argument_of (operand_in o)) (value i)

  next : (done : Arguments) (i : ℕ) (o : Operand) → i < length os → AreSoFar done i
      → arguments_at value 0 os ≡ option_map (λ rest. done ++ rest) (option_map (λ given. given.0 ∷ given.1) (option_zip (here (get_or os i o) i) (arguments_at value (i + 1) (drop (i + 1) os))))
  next done i o h sofar = sofar ∙ ap (λ rest. option_map (λ r. done ++ r) (arguments_at value i rest)) (drop-cons os i o h) ∙ rw (add-one i) refl

  -- there is no argument here
  pub none : (done : Arguments) (i : ℕ) (o : Operand) → i < length os → AreSoFar done i → None ≡ here (get_or os i o) i → None ≡ arguments_at value 0 os
  none done i o h sofar e = rw (next done i o h sofar, ← e) refl

  joined : (done : Arguments) (a : model.Argument) (rest : Option Arguments)
      → option_map (λ r. done ++ r) (option_map (λ given. given.0 ∷ given.1) (option_zip (Some a) rest)) ≡ option_map (λ r. (done ++ a ∷ []) ++ r) rest
  joined done a None = refl
  joined done a (Some rest) = ap Some (sym (append_assoc done (a ∷ []) rest))

  -- there is one more
  pub more : (done : Arguments) (i : ℕ) (o : Operand) (a : model.Argument) → i < length os → AreSoFar done i → Some a ≡ here (get_or os i o) i → AreSoFar (done ++ a ∷ []) (i + 1)
  more done i o a h sofar e = rw (next done i o h sofar, ← e) (joined done a (arguments_at value (i + 1) (drop (i + 1) os)))
