use Rattle.std.proofs.Common.{◌≡◌, ℕ, zero, suc, ◌+◌, ◌-◌, min, ◌<◌, ◌^◌, List, [], ◌∷◌, length, drop, get_or, Option, Some, cond, false, arith, ◌==◌, Vec, bytes_eq, refl, sym, ap, ◌∙◌}
use Rattle.std.specs.declared.alloc.Global.{Global}
use Rattle.std.proofs.lemmas.List.{at_drop_more, get_or-map, length-map}
use Rattle.std.proofs.lemmas.List.Folds.{list_any_none}
use Rattle.std.proofs.lemmas.List.Elements.{Contains-get_or}
use Rattle.std.proofs.lemmas.Bool.Decides.{nat_tests}
use Rattle.hz_io.specs.Drive.{Drive, IsSteady, is_to_fail, entries_of, bytes_of, Entries}
use Rattle.hz_io.specs.Cursors.{bytes_at}

-- where no call is to fail from now on, the next one isn't
pub steady_turn : (drive : Drive) → IsSteady drive.fail drive.next → is_to_fail drive ≡ false
steady_turn drive s =
    list_any_none (λ number. number == drive.next) drive.fail (λ k d inside.
    let before = s.earlier (get_or drive.fail k d) (Contains-get_or drive.fail k d inside) in
    grind (arith, nat_tests, before))

-- a file's length fits a machine word
pub length_bytes_at : (files : List (List ℕ × Vec ℕ Global)) (place : ℕ) → length (bytes_at (entries_of files) place) < 2 ^ 64
length_bytes_at [] place = omega arith
length_bytes_at (f ∷ fs) zero = omega (arith, f.1.ok, f.1.small)
length_bytes_at (f ∷ fs) (suc place) = length_bytes_at fs place

-- a file with its bytes as a list
abbrev entry_of : List ℕ × Vec ℕ Global → List ℕ × List ℕ
entry_of file = (file.0, file.1.items)

entry_at : (files : List (List ℕ × Vec ℕ Global)) (place : ℕ) (file : List ℕ × Vec ℕ Global) (d : List ℕ × List ℕ) → place < length files → file ≡ get_or files place file → get_or (entries_of files) place d ≡ entry_of file
entry_at files place file d inside is = get_or-map entry_of files place file d inside ∙ ap entry_of (sym is)

-- the search for a name, at one file more
pub search_more : (files : List (List ℕ × Vec ℕ Global)) (name : List ℕ) (place : ℕ) (file : List ℕ × Vec ℕ Global) → place < length files → file ≡ get_or files place file → bytes_of (drop place (entries_of files)) name ≡ cond (bytes_eq name file.0) (Some file.1.items) (bytes_of (drop (place + 1) (entries_of files)) name)
search_more files name place file inside is =
    let lookup_name : Entries → Option (List ℕ) = λ entries. bytes_of entries name in
    at_drop_more lookup_name (entries_of files) place (entry_of file) (rw length-map inside)
    ∙ ap (λ (e : List ℕ × List ℕ). lookup_name (e ∷ drop (place + 1) (entries_of files))) (entry_at files place file (entry_of file) inside is)

-- this file has another name
pub search_passed : (files : List (List ℕ × Vec ℕ Global)) (name : List ℕ) (place : ℕ) (file : List ℕ × Vec ℕ Global) → place < length files → file ≡ get_or files place file → bytes_of (drop place (entries_of files)) name ≡ bytes_of (entries_of files) name → bytes_eq name file.0 ≡ false → bytes_of (drop (place + 1) (entries_of files)) name ≡ bytes_of (entries_of files) name
search_passed files name place file inside is so_far other =
    let more = search_more files name place file inside is in
    sym (more ∙ rw other refl) ∙ so_far

-- the numbers that are to fail stay after the next call's
pub steady_next : (fail : List ℕ) (next : ℕ) → next < 2 ^ 64 → IsSteady fail next → IsSteady fail (min (next + 1) (2 ^ 64 - 1))
steady_next fail next fits s = record { earlier = λ number listed. let before = s.earlier number listed in omega arith }
