use Rattle.std.proofs.Common.{◌≡◌, ℕ, ◌+◌, ◌≤◌, ◌++◌, List, [], length, take, drop, Option, Some, Ok, Err, IsNone, sym, ap, ◌∙◌, refl, arith}
use Rattle.std.specs.Option.{ForSome}
use Rattle.std.proofs.lemmas.List.{append_assoc, append-nil, take-append-drop, take-append-le, length-take, length-append, drop-drop, drop_at}
use Rattle.hz_base_model.specs.Names.{Held}
use Rattle.hz_io.specs.Files.{HasOpened, HasRead, Takes}
use Rattle.hz_io.specs.Slurp.{Slurped, HasEnded, HasExceeded, TellsUnread, Tells, UnreportedOnFailed, LacksOnFailed}
use Rattle.hz_io.specs.declared.faults.SlurpFault.TheVariants.{Failed, Long, NoMemory}

-- of what was unread at first, `bytes` were read, and `left` is unread now
pub record HasReadFront (unread : List ℕ) (rest : Option (List ℕ)) (bytes : List ℕ) : Type 0 where
  pub left : List ℕ
  pub parts : unread ≡ bytes ++ left
  pub rest_is : rest ≡ Some left

-- one read more
pub front_more : {unread : List ℕ} {rest rest' : Option (List ℕ)} {bytes into into' : List ℕ} {count : ℕ} → HasReadFront unread rest bytes → HasRead rest rest' into into' count → HasReadFront unread rest' (bytes ++ take count into')
front_more {unread} {rest} {rest'} {bytes} {into} {into'} {count} f h =
    let t = h.taken f.left f.rest_is in
    let whole : f.left ≡ take count into' ++ drop count f.left = rw t.front (sym (take-append-drop count f.left)) in
    record {
      left = drop count f.left;
      parts = f.parts ∙ ap (λ (xs : List ℕ). bytes ++ xs) whole ∙ sym (append_assoc bytes (take count into') (drop count f.left));
      rest_is = t.left;
    }

-- a read of no bytes is the end
pub front_ended : {unread : List ℕ} {rest rest' : Option (List ℕ)} {bytes into into' : List ℕ} {count : ℕ} → HasReadFront unread rest bytes → HasRead rest rest' into into' count → count ≡ 0 → HasEnded unread rest' bytes
front_ended {unread} {rest} {rest'} {bytes} {into} {into'} {count} f h none =
    let t = h.taken f.left f.rest_is in
    let empty : f.left ≡ [] = t.at_end.0 none in
    record {
      all = f.parts ∙ ap (λ (xs : List ℕ). bytes ++ xs) empty ∙ append-nil bytes;
      left = t.left ∙ ap (λ (xs : List ℕ). Some xs) (rw (none, empty) refl);
    }

-- what was read comes from what was unread, so it is no more than that
pub taken_le : {unread : List ℕ} {rest : Option (List ℕ)} {into : List ℕ} {count : ℕ} → Takes unread rest into count → count ≤ length into → count ≤ length unread
taken_le {unread} {rest} {into} {count} t within =
    omega (arith, sym (length-take count into) ∙ ap length t.front ∙ length-take count unread)

-- with this read, one byte more than `most` is read
pub front_exceeded : {unread : List ℕ} {rest rest' : Option (List ℕ)} {bytes into into' : List ℕ} {count : ℕ} (most : ℕ) → HasReadFront unread rest bytes → HasRead rest rest' into into' count → length into' ≡ length into → length bytes + count ≡ most + 1 → HasExceeded unread rest' most
front_exceeded {unread} {rest} {rest'} {bytes} {into} {into'} {count} most f h same over =
    let t = h.taken f.left f.rest_is in
    let within = h.within in
    let enough = taken_le t (omega arith) in
    let dropped : drop (most + 1) unread ≡ drop count f.left =
    rw (f.parts, sym over, sym (drop-drop count (length bytes) (bytes ++ f.left)), drop_at bytes f.left (length bytes) refl) refl in
    record {
      longer = omega (arith, ap length f.parts ∙ length-append bytes f.left);
      left = t.left ∙ ap (λ (xs : List ℕ). Some xs) (sym dropped);
    }

-- what was read stands at the front of the buffer too
pub buffer_front : (count : ℕ) (into after : List ℕ) → count ≤ length into → take count (into ++ after) ≡ take count into
buffer_front count into after h = take-append-le count into after h

-- what is read of a file that was just opened is the file
pub tells_opened : {held : Held} {rest : Option (List ℕ)} {name : List ℕ} → HasOpened held rest name → (rest' : Option (List ℕ)) (most : ℕ) (result : Slurped) → ForSome rest (λ unread. TellsUnread unread rest' most result) → Tells held rest' name most result
tells_opened o rest' most (Ok file) h =
    let t = h o.bytes o.unread in
    record { found = rw (← t.all) o.found; left = t.left }
tells_opened o rest' most (Err Failed) h = tt
tells_opened o rest' most (Err (Long read)) h =
    let t = h o.bytes o.unread in
    record { bytes = o.bytes; found = o.found; longer = t.longer; left = t.left }
tells_opened o rest' most (Err NoMemory) h = tt

-- after an open that succeeded, no steady file whose bytes are reported fails
pub lacks_unreported : (held : Option Held) (name : List ℕ) (result : Slurped) → UnreportedOnFailed held result → LacksOnFailed held name result
lacks_unreported held name (Ok file) h = tt
lacks_unreported held name (Err Failed) h = λ reported is. let none : IsNone held = h in absurd (reported_somewhere held reported none is)
  where
    reported_somewhere : (held : Option Held) (reported : Held) → IsNone held → held ≡ Some reported → ⊥
    reported_somewhere held reported none is = cc (rw is at none)
lacks_unreported held name (Err (Long read)) h = tt
lacks_unreported held name (Err NoMemory) h = tt
