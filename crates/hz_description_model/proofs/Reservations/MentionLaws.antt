-- The names in an expression are those that it mentions.
use Rattle.std.proofs.Common.{◌≡◌, ℕ, inl, inr, ⊎_elim, List, [], ◌∷◌, Contains, subst}
use Rattle.std.proofs.lemmas.List.Elements.{Contains-append_left, Contains-append_right, Contains-append_cases}
use Rattle.hz_base_model.proofs.Elements.{Contains-nil, Contains-head, Contains-cons_cases}
use Rattle.hz_description_model.specs.Reservations.Alternatives.{Expression, named, nothing, sequence, one_of, all_of, repeat, Parts, none, more}
use Rattle.hz_description_model.specs.Reservations.NamesIn.{names_in, names_in_parts}
use Rattle.hz_description_model.specs.Reservations.Meanings.{Mentions, MentionsIn}

mutual
  pub listed_from_mentions : (e : Expression) (name : List ℕ) → Mentions e name → Contains (names_in e) name
  listed_from_mentions (named other) name h = subst (Contains (other ∷ [])) h (Contains-head other [])
  listed_from_mentions nothing name h = absurd h
  listed_from_mentions (sequence parts) name h = listed_from_mentions_in parts name h
  listed_from_mentions (one_of parts) name h = listed_from_mentions_in parts name h
  listed_from_mentions (all_of parts) name h = listed_from_mentions_in parts name h
  listed_from_mentions (repeat part times) name h = listed_from_mentions part name h

  listed_from_mentions_in : (parts : Parts) (name : List ℕ) → MentionsIn parts name → Contains (names_in_parts parts) name
  listed_from_mentions_in none name h = absurd h
  listed_from_mentions_in (more first others) name (inl h) = Contains-append_left (names_in first) (names_in_parts others) name (listed_from_mentions first name h)
  listed_from_mentions_in (more first others) name (inr h) = Contains-append_right (names_in first) (names_in_parts others) name (listed_from_mentions_in others name h)

mutual
  pub mentions_from_listed : (e : Expression) (name : List ℕ) → Contains (names_in e) name → Mentions e name
  mentions_from_listed (named other) name h = ⊎_elim (λ (e : other ≡ name). e) (λ (k : Contains [] name). absurd (Contains-nil name k)) (Contains-cons_cases other name [] h)
  mentions_from_listed nothing name h = absurd (Contains-nil name h)
  mentions_from_listed (sequence parts) name h = mentions_from_listed_in parts name h
  mentions_from_listed (one_of parts) name h = mentions_from_listed_in parts name h
  mentions_from_listed (all_of parts) name h = mentions_from_listed_in parts name h
  mentions_from_listed (repeat part times) name h = mentions_from_listed part name h

  mentions_from_listed_in : (parts : Parts) (name : List ℕ) → Contains (names_in_parts parts) name → MentionsIn parts name
  mentions_from_listed_in none name h = absurd (Contains-nil name h)
  mentions_from_listed_in (more first others) name h = ⊎_elim
      (λ (k : Contains (names_in first) name). inl (mentions_from_listed first name k))
      (λ (k : Contains (names_in_parts others) name). inr (mentions_from_listed_in others name k))
      (Contains-append_cases (names_in first) (names_in_parts others) name h)
