-- What is read of lists of lists.
use Rattle.std.proofs.Common.{◌≡◌, ℕ, ◌<◌, ◌≤◌, List, ◌++◌, take, drop, length, get_or, refl, sym, ap, ◌∙◌, subst, arith}
use Rattle.std.specs.declared.alloc.Global.{Global}
use Rattle.std.specs.declared.vec.Vec.{Vec}
use Rattle.std.proofs.Math.ListN.{drop_of_length-le}
use Rattle.std.proofs.Math.Seq.{take-length}
use Rattle.std.proofs.lemmas.Option.{slice_get-get_or}
use Rattle.std.proofs.lemmas.List.{get_or_read_under, append-nil}
use Rattle.hz_base_model.specs.Pairs.{Pair}
use Rattle.hz_description_model.specs.Reservations.Sets.{Statement, Fits}
use Rattle.hz_pipeline_model.specs.Accepting.Fitting.{IsUnbroken}
use Rattle.hz_grid.specs.Grids.{IsGrid}
use Rattle.hz_reasons.specs.Calendars.{at, AreUnbroken, parts_of, parts_at}
use Rattle.hz_reasons.specs.Plans.{choices_of, choices_at}
use Rattle.hz_reasons.specs.declared.plan.Choice.{Choice}
use Rattle.hz_reasons.specs.declared.plan.Plan.{Plan}

-- an item that is read is the one at its place
pub read_at : {A : Type 0} (xs : List (List A)) (i : ℕ) (x : List A) → x ≡ get_or xs i x → i < length xs → x ≡ at xs i
read_at xs i x is lt = get_or_read_under xs i (length xs) x _ is lt refl

pub unbroken_read : (rules : List (List (Statement ℕ))) (grids : List (List (Pair ℕ))) (a : ℕ) (rule : List (Statement ℕ)) (grid : List (Pair ℕ))
    → rule ≡ get_or rules a rule → grid ≡ get_or grids a grid → a < length rules → a < length grids → AreUnbroken rules grids → IsUnbroken rule grid
unbroken_read rules grids a rule grid r g low lower unbroken =
    subst (λ (x : List (Statement ℕ)). IsUnbroken x grid) (sym (read_at rules a rule r low))
    (subst (λ (y : List (Pair ℕ)). IsUnbroken (at rules a) y) (sym (read_at grids a grid g lower)) (unbroken a low))

pub fits_read : (rules : List (List (Statement ℕ))) (grids parts : List (List (Pair ℕ))) (a : ℕ) (rule : List (Statement ℕ)) (grid part : List (Pair ℕ))
    → rule ≡ get_or rules a rule → grid ≡ get_or grids a grid → part ≡ get_or parts a part → a < length rules → a < length grids → a < length parts → Fits rule grid part 0 → Fits (at rules a) (at grids a) (at parts a) 0
fits_read rules grids parts a rule grid part r g p low lower lowest fits =
    subst (λ (x : List (Statement ℕ)). Fits x (at grids a) (at parts a) 0) (read_at rules a rule r low)
    (subst (λ (y : List (Pair ℕ)). Fits rule y (at parts a) 0) (read_at grids a grid g lower)
    (subst (λ (z : List (Pair ℕ)). Fits rule grid z 0) (read_at parts a part p lowest) fits))

pub fits_unread : (rules : List (List (Statement ℕ))) (grids parts : List (List (Pair ℕ))) (a : ℕ) (rule : List (Statement ℕ)) (grid part : List (Pair ℕ))
    → rule ≡ get_or rules a rule → grid ≡ get_or grids a grid → part ≡ get_or parts a part → a < length rules → a < length grids → a < length parts → Fits (at rules a) (at grids a) (at parts a) 0 → Fits rule grid part 0
fits_unread rules grids parts a rule grid part r g p low lower lowest fits =
    subst (λ (x : List (Statement ℕ)). Fits x grid part 0) (sym (read_at rules a rule r low))
    (subst (λ (y : List (Pair ℕ)). Fits (at rules a) y part 0) (sym (read_at grids a grid g lower))
    (subst (λ (z : List (Pair ℕ)). Fits (at rules a) (at grids a) z 0) (sym (read_at parts a part p lowest)) fits))

-- the alternatives that are read
pub parts_read : (choices : List Choice) (i : ℕ) (choice : Choice) → i < length choices → parts_at choices i ≡ (get_or choices i choice).parts.items
parts_read choices i choice lt = ap parts_of (slice_get-get_or choices i choice lt)

pub choices_read : (plan : Plan) (k : ℕ) (choices : Vec Choice Global) → choices ≡ get_or plan.classes.items k choices → k < length plan.classes.items → choices_at plan k ≡ choices.items
choices_read plan k choices is lt = ap choices_of (slice_get-get_or plan.classes.items k choices lt) ∙ ap (λ (v : Vec Choice Global). v.items) (sym is)

-- what is written to all of a list
pub written_back : {A : Type 0} (n : ℕ) (old new : List A) → n ≡ length old → length new ≡ length old → take n (new ++ drop (length new) old) ≡ new
written_back n old new count same =
    let past : length old ≤ length new = omega arith in
    let whole : n ≡ length new = count ∙ sym same in
    rw (drop_of_length-le old past, append-nil, whole) (take-length new)

-- a grid that is read is one at every default
pub grid_read : (grids : List (List (Pair ℕ))) (i : ℕ) (item : List (Pair ℕ)) → item ≡ get_or grids i item → i < length grids → IsGrid item → (d : List (Pair ℕ)) → IsGrid (get_or grids i d)
grid_read grids i item is lt grid d = subst IsGrid (get_or_read_under grids i (length grids) item d is lt refl) grid
