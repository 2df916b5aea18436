-- What adding bytes piece by piece did.
use Rattle.std.proofs.Common.{◌≡◌, ℕ, ◌+◌, ◌<◌, ◌≤◌, List, [], ◌∷◌, ◌++◌, length, get_or, take, drop, Option, Result, Ok, Err, IsErr, ap, sym, subst, ◌∙◌}
use Rattle.std.specs.List.{flat_map}
use Rattle.std.proofs.lemmas.List.{append-nil, append_assoc, take-append-drop, take_more, take_all}
use Rattle.hz_io.specs.Sink.{Wrote, Cut, Writes}
use Rattle.hz_io.proofs.Writing.{wrote_nothing, wrote_then, wrote_then_cut, cut_before}
use Rattle.hz_io.proofs.PieceTexts.{lines_more, lines_parts}
use Rattle.hz_io.specs.Pages.{Added, Stopped, Adds}

module _ {S : Type 0} {written : S → Option (List ℕ)} {room : S → Option ℕ} {faults : S → ℕ} where
  -- no byte was added
  pub added_nothing : (sink : S) (held : List ℕ) → Added written room faults sink sink held held []
  added_nothing sink held = record { done = []; wrote = wrote_nothing sink; parts = append-nil held }

  -- bytes that are held
  pub added_held : (sink : S) (held after bytes : List ℕ) → after ≡ held ++ bytes → Added written room faults sink sink held after bytes
  added_held sink held after bytes is = record { done = []; wrote = wrote_nothing sink; parts = sym is }

  -- all of one text, then all of another, is all of both
  pub added_then : {old middle new : S} {before held after bytes more : List ℕ} → Added written room faults old middle before held bytes → Added written room faults middle new held after more → Added written room faults old new before after (bytes ++ more)
  added_then {old} {middle} {new} {before} {held} {after} {bytes} {more} a b = record {
    done = a.done ++ b.done;
    wrote = wrote_then a.wrote b.wrote;
    parts = sym (append_assoc before bytes more) ∙ (ap (λ (xs : List ℕ). xs ++ more) a.parts ∙ (append_assoc a.done held more ∙ (ap (λ (xs : List ℕ). a.done ++ xs) b.parts ∙ sym (append_assoc a.done b.done after))));
  }

  -- all of one text, then a front of what was held with another
  pub added_then_stopped : {old middle new : S} {before held bytes more : List ℕ} → Added written room faults old middle before held bytes → Stopped written room faults middle new held more → Stopped written room faults old new before (bytes ++ more)
  added_then_stopped {old} {middle} {new} {before} {held} {bytes} {more} a b =
      let same : a.done ++ (held ++ more) ≡ before ++ (bytes ++ more) = sym (append_assoc a.done held more) ∙ (ap (λ (xs : List ℕ). xs ++ more) (sym a.parts) ∙ append_assoc before bytes more) in
      record { cut = subst (λ (xs : List ℕ). Cut written room faults old new xs) same (wrote_then_cut a.wrote b.cut) }

  -- a front of what was held with one text, before another
  pub stopped_before : {old new : S} {before bytes : List ℕ} (more : List ℕ) → Stopped written room faults old new before bytes → Stopped written room faults old new before (bytes ++ more)
  stopped_before {old} {new} {before} {bytes} more a = record { cut = subst (λ (xs : List ℕ). Cut written room faults old new xs) (append_assoc before bytes more) (cut_before more a.cut) }

  -- what a last call did follows all of what was added before it
  pub adds_then : {T E : Type 0} {old middle : S} {before held bytes : List ℕ} (new : S) (after more : List ℕ) (result : Result T E) → Added written room faults old middle before held bytes → Adds written room faults middle new held after more result → Adds written room faults old new before after (bytes ++ more) result
  adds_then new after more (Ok x) a b = added_then a b
  adds_then new after more (Err e) a b = added_then_stopped a b

  -- the exit after a call that failed
  pub adds_failed : {T E : Type 0} {old new : S} {before bytes : List ℕ} (after : List ℕ) (result : Result T E) → IsErr result → Stopped written room faults old new before bytes → Adds written room faults old new before after bytes result
  adds_failed after (Ok x) failed a = cc
  adds_failed after (Err e) failed a = a

  -- what is held is written, and then bytes are added to none that are held
  pub written_then : {T E : Type 0} {old middle : S} {before : List ℕ} (new : S) (after bytes : List ℕ) (result : Result T E) → Wrote written room faults old middle before → Adds written room faults middle new [] after bytes result → Adds written room faults old new before after bytes result
  written_then {before = before} new after bytes (Ok x) w a = record { done = before ++ a.done; wrote = wrote_then w a.wrote; parts = ap (λ (xs : List ℕ). before ++ xs) a.parts ∙ sym (append_assoc before a.done after) }
  written_then new after bytes (Err e) w a = record { cut = wrote_then_cut w a.cut }

  -- one more piece is added
  pub each_added : {X : Type 0} {old middle new : S} {before held after : List ℕ} (f : X → List ℕ) (xs : List X) (i : ℕ) (d : X) → i < length xs → Added written room faults old middle before held (flat_map f (take i xs)) → Added written room faults middle new held after (f (get_or xs i d)) → Added written room faults old new before after (flat_map f (take (i + 1) xs))
  each_added {old = old} {new = new} {before = before} {after = after} f xs i d inside a b =
      subst (λ (bytes : List ℕ). Added written room faults old new before after bytes) (sym (lines_more f xs i d inside)) (added_then a b)

  -- one more piece is not added whole
  pub each_stopped : {X : Type 0} {old middle new : S} {before held : List ℕ} (f : X → List ℕ) (xs : List X) (i : ℕ) (d : X) → i < length xs → Added written room faults old middle before held (flat_map f (take i xs)) → Stopped written room faults middle new held (f (get_or xs i d)) → Stopped written room faults old new before (flat_map f xs)
  each_stopped {old = old} {new = new} {before = before} f xs i d inside a b =
      subst (λ (bytes : List ℕ). Stopped written room faults old new before bytes) (sym (lines_parts f xs i d inside)) (stopped_before (flat_map f (drop (i + 1) xs)) (added_then_stopped a b))

  -- one more piece is added, that has this text
  pub each_added_as : {X : Type 0} {old middle new : S} {before held after : List ℕ} (f : X → List ℕ) (xs : List X) (i : ℕ) (d : X) (text : List ℕ) → i < length xs → f (get_or xs i d) ≡ text → Added written room faults old middle before held (flat_map f (take i xs)) → Added written room faults middle new held after text → Added written room faults old new before after (flat_map f (take (i + 1) xs))
  each_added_as {middle = middle} {new = new} {held = held} {after = after} f xs i d text inside is a b =
      each_added f xs i d inside a (subst (λ (bytes : List ℕ). Added written room faults middle new held after bytes) (sym is) b)

  -- one more piece, that has this text, is not added whole
  pub each_stopped_as : {X : Type 0} {old middle new : S} {before held : List ℕ} (f : X → List ℕ) (xs : List X) (i : ℕ) (d : X) (text : List ℕ) → i < length xs → f (get_or xs i d) ≡ text → Added written room faults old middle before held (flat_map f (take i xs)) → Stopped written room faults middle new held text → Stopped written room faults old new before (flat_map f xs)
  each_stopped_as {middle = middle} {new = new} {held = held} f xs i d text inside is a b =
      each_stopped f xs i d inside a (subst (λ (bytes : List ℕ). Stopped written room faults middle new held bytes) (sym is) b)

  -- all pieces are added
  pub each_done : {X : Type 0} {old new : S} {before after : List ℕ} (f : X → List ℕ) (xs : List X) (i : ℕ) → length xs ≤ i → Added written room faults old new before after (flat_map f (take i xs)) → Added written room faults old new before after (flat_map f xs)
  each_done {old = old} {new = new} {before = before} {after = after} f xs i most a =
      subst (λ (ys : List _). Added written room faults old new before after (flat_map f ys)) (take_all i xs most) a

  -- what was added to none that were held, and then what is held is written
  pub writes_all : {T E : Type 0} {old middle : S} {held text : List ℕ} (new : S) (result : Result T E) → Added written room faults old middle [] held text → Writes written room faults middle new held result → Writes written room faults old new text result
  writes_all {old = old} new (Ok x) a w = subst (λ (bytes : List ℕ). Wrote written room faults old new bytes) (sym a.parts) (wrote_then a.wrote w)
  writes_all {old = old} new (Err e) a w = subst (λ (bytes : List ℕ). Cut written room faults old new bytes) (sym a.parts) (wrote_then_cut a.wrote w)

  -- where none were held, a front of the text alone was written
  pub none_stopped : {old new : S} {text : List ℕ} → Stopped written room faults old new [] text → Cut written room faults old new text
  none_stopped a = a.cut

-- for `#[tactic(auto, using(..))]` on a writer
pub ruleset adding = (added_nothing, added_then, added_then_stopped, stopped_before, adds_then, adds_failed)
