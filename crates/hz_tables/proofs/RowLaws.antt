-- The rows of entries that are kept row after row.
use Rattle.std.proofs.Common.{◌≡◌, ℕ, ◌+◌, ◌*◌, ◌<◌, ◌≤◌, zero, suc, List, [], ◌∷◌, ◌++◌, length, take, drop, get_or, Option, None, All, refl, sym, ap, ◌∙◌, subst, arith}
use Rattle.std.proofs.lemmas.List.{length-append, length-drop, length-take-le, get_or-take, get_or-drop, drop-drop, take_all, take-append-le, drop-append-le}
use Rattle.std.proofs.lemmas.List.Elements.{All-take, All-drop, All-cons, All-nil, All-append}
use Rattle.std.proofs.Math.Nat.{mul-le-mul_right}
use Rattle.hz_pipeline_model.specs.Tables.Tables.{entry}
use Rattle.hz_tables.specs.Rows.{IsState, AreStates, KeepsRows}
use Rattle.hz_tables.specs.Stored.{rows_in, AreCells}

pub length-rows_in : (width states : ℕ) (cells : List (Option ℕ)) → length (rows_in width states cells) ≡ states
length-rows_in width zero cells = refl
length-rows_in width (suc states) cells = ap suc (length-rows_in width states (drop width cells))

row-rows_in : (width states : ℕ) (cells : List (Option ℕ)) (state : ℕ) → state < states → get_or (rows_in width states cells) state [] ≡ take width (drop (state * width) cells)
row-rows_in width zero cells state lt = absurd (omega arith)
row-rows_in width (suc states) cells zero lt =
    let none : 0 * width ≡ 0 = omega arith in
    ap (λ n. take width (drop n cells)) (sym none)
row-rows_in width (suc states) cells (suc state) lt =
    let place : width + state * width ≡ suc state * width = omega arith in
    row-rows_in width states (drop width cells) state (omega arith) ∙ ap (take width) (drop-drop (state * width) width cells ∙ ap (λ n. drop n cells) place)

-- an entry is the one that is kept at its place
pub entry-rows_in : (width states : ℕ) (cells : List (Option ℕ)) (state column : ℕ) → state < states → column < width → entry (rows_in width states cells) state column ≡ get_or cells (state * width + column) None
entry-rows_in width states cells state column lt within =
    ap (λ row. get_or row column None) (row-rows_in width states cells state lt)
    ∙ get_or-take width (drop (state * width) cells) column None within
    ∙ get_or-drop (state * width) cells column None

pub place_below : (width states state column : ℕ) → state < states → column < width → state * width + column < states * width
place_below width states state column lt within =
    let most = mul-le-mul_right width lt in
    omega (arith, most)

-- ---- one row more

no_cells : (cells : List (Option ℕ)) → length cells ≡ 0 → cells ≡ []
no_cells [] e = refl
no_cells (cell ∷ cells) e = absurd (omega arith)

pub rows_in-push : (width states : ℕ) (cells row : List (Option ℕ)) → length cells ≡ states * width → length row ≡ width → rows_in width (suc states) (cells ++ row) ≡ rows_in width states cells ++ row ∷ []
rows_in-push width zero cells row each one =
    let none : 0 * width ≡ 0 = omega arith in
    ap (λ list. take width (list ++ row) ∷ []) (no_cells cells (each ∙ none)) ∙ ap (λ list. list ∷ []) (take_all width row (omega arith))
rows_in-push width (suc states) cells row each one =
    let more : suc states * width ≡ states * width + width = omega arith in
    let enough : width ≤ length cells = omega arith in
    let fewer : length (drop width cells) ≡ states * width = omega (arith, length-drop width cells) in
    (λ i. take-append-le width cells row enough i ∷ rows_in width (suc states) (drop-append-le width cells row enough i)) ∙ ap (λ rows. take width cells ∷ rows) (rows_in-push width states (drop width cells) row fewer one)

-- ---- what is kept

kept_rows : (width states : ℕ) (cells : List (Option ℕ)) → length cells ≡ states * width → AreStates cells → All (λ row. length row ≡ width) (rows_in width states cells) × All AreStates (rows_in width states cells)
kept_rows width zero cells each targets = (All-nil (λ row. length row ≡ width), All-nil AreStates)
kept_rows width (suc states) cells each targets =
    let more : suc states * width ≡ states * width + width = omega arith in
    let fewer : length (drop width cells) ≡ states * width = omega (arith, length-drop width cells) in
    let rest : All (λ row. length row ≡ width) (rows_in width states (drop width cells)) × All AreStates (rows_in width states (drop width cells)) = kept_rows width states (drop width cells) fewer (All-drop IsState width cells targets) in (
      All-cons (λ row. length row ≡ width) (take width cells) _ (length-take-le width cells (omega arith)) rest.0,
      All-cons AreStates (take width cells) _ (All-take IsState width cells targets) rest.1,
    )

pub keeps_rows : (columns states : ℕ) (cells : List (Option ℕ)) → AreCells columns states cells → KeepsRows (record { columns = columns; rows = rows_in (columns + 1) states cells })
keeps_rows columns states cells are =
    let both = kept_rows (columns + 1) states cells are.each are.targets in
    let long = length-rows_in (columns + 1) states cells in
    record {
      columns = are.wide;
      few = let few = are.few in omega arith;
      width = both.0;
      states = both.1;
    }

-- the entries are those of a table still, with one row more
pub cells_pushed : (columns states : ℕ) (cells row new : List (Option ℕ)) → AreCells columns states cells → new ≡ cells ++ row → length row ≡ columns + 1 → AreStates row → length (rows_in (columns + 1) states cells) < 65536 → AreCells columns (states + 1) new
cells_pushed columns states cells row new are same width targets room =
    let long = length-rows_in (columns + 1) states cells in
    let each = are.each in
    let sum = ap length same ∙ length-append cells row in
    record {
      wide = are.wide;
      few = omega arith;
      each = omega arith;
      targets = subst AreStates (sym same) (All-append IsState cells row are.targets targets);
    }

pub rows_pushed : (columns states : ℕ) (cells row new : List (Option ℕ)) → AreCells columns states cells → new ≡ cells ++ row → length row ≡ columns + 1 → rows_in (columns + 1) (states + 1) new ≡ rows_in (columns + 1) states cells ++ row ∷ []
rows_pushed columns states cells row new are same width =
    let next : states + 1 ≡ suc states = omega arith in
    (λ i. rows_in (columns + 1) (next i) (same i)) ∙ rows_in-push (columns + 1) states cells row are.each width
