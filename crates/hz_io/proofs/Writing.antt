use Rattle.std.proofs.Common.{ℕ, ◌+◌, List, [], ◌++◌, Option, Some, Result, Ok, Err, IsErr, refl, ap, sym, ◌∙◌, arith}
use Rattle.std.proofs.lemmas.List.{append-nil, append_assoc, length-append}
use Rattle.hz_io.specs.Sink.{Wrote, Cut, Writes}

-- What a writer over a sink did, from what its calls did.
module _ {S : Type 0} {written : S → Option (List ℕ)} {room : S → Option ℕ} {faults : S → ℕ} where
  -- a writer that made no call wrote nothing
  pub wrote_nothing : (sink : S) → Wrote written room faults sink sink []
  wrote_nothing sink = record {
    counted = refl;
    appended = λ before is. is ∙ ap (λ (xs : List ℕ). Some xs) (sym (append-nil before));
    fitted = λ most is. omega arith;
    lowered = λ most is. is ∙ ap (λ (n : ℕ). Some n) (omega arith);
  }

  -- all of one text, then all of another, is all of both
  pub wrote_then : {old middle new : S} {bytes more : List ℕ} → Wrote written room faults old middle bytes → Wrote written room faults middle new more → Wrote written room faults old new (bytes ++ more)
  wrote_then {old} {middle} {new} {bytes} {more} w v = record {
    counted = v.counted ∙ w.counted;
    appended = λ before is. v.appended _ (w.appended before is) ∙ ap (λ (xs : List ℕ). Some xs) (append_assoc before bytes more);
    fitted = λ most is. omega (arith, w.fitted most is, v.fitted _ (w.lowered most is), length-append bytes more);
    lowered = λ most is. v.lowered _ (w.lowered most is) ∙ ap (λ (n : ℕ). Some n) (omega (arith, length-append bytes more));
  }

  -- all of one text, then a front of another, is a front of both
  pub wrote_then_cut : {old middle new : S} {bytes more : List ℕ} → Wrote written room faults old middle bytes → Cut written room faults middle new more → Cut written room faults old new (bytes ++ more)
  wrote_then_cut {old} {middle} {new} {bytes} {more} w v = record {
    front = bytes ++ v.front;
    back = v.back;
    parts = ap (λ (xs : List ℕ). bytes ++ xs) v.parts ∙ sym (append_assoc bytes v.front v.back);
    counted = v.counted ∙ ap (λ (n : ℕ). n + 1) w.counted;
    appended = λ before is. v.appended _ (w.appended before is) ∙ ap (λ (xs : List ℕ). Some xs) (append_assoc before bytes v.front);
    exceeded = λ most is. omega (arith, w.fitted most is, v.exceeded _ (w.lowered most is), length-append bytes more);
  }

  -- a front of one text, before another, is a front of both
  pub cut_before : {old new : S} {bytes : List ℕ} (more : List ℕ) → Cut written room faults old new bytes → Cut written room faults old new (bytes ++ more)
  cut_before {old} {new} {bytes} more v = record {
    front = v.front;
    back = v.back ++ more;
    parts = ap (λ (xs : List ℕ). xs ++ more) v.parts ∙ append_assoc v.front v.back more;
    counted = v.counted;
    appended = v.appended;
    exceeded = λ most is. omega (arith, v.exceeded most is, length-append bytes more);
  }

  -- what a last call did follows all of what was written before it
  pub writes_then : {T E : Type 0} {old middle : S} {bytes : List ℕ} (new : S) (more : List ℕ) (result : Result T E) → Wrote written room faults old middle bytes → Writes written room faults middle new more result → Writes written room faults old new (bytes ++ more) result
  writes_then new more (Ok x) w v = wrote_then w v
  writes_then new more (Err e) w v = wrote_then_cut w v

  -- the exit after a call that failed
  pub writes_failed : {T E : Type 0} {old new : S} {bytes : List ℕ} (result : Result T E) → IsErr result → Cut written room faults old new bytes → Writes written room faults old new bytes result
  writes_failed (Ok x) failed v = cc
  writes_failed (Err e) failed v = v

-- for `#[tactic(auto, using(..))]` on a writer
pub ruleset writing = (wrote_nothing, wrote_then, wrote_then_cut, cut_before, writes_then, writes_failed)
