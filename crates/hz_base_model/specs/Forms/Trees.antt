-- Forms as data. GCC Internals, 'Machine Descriptions'; this profile's forms are in docs/FORMATS.md.
use Rattle.std.specs.Prelude.{ℕ, ℤ, List}

-- A form of a text: what it is, and the line where it begins. An atom that spells a number is the number.
mutual
  pub data Tree : Type 0 where
    list : (line : ℕ) → (forms : Trees) → Tree
    vector : (line : ℕ) → (forms : Trees) → Tree
    atom : (line : ℕ) → (bytes : List ℕ) → Tree
    quoted : (line : ℕ) → (bytes : List ℕ) → Tree
    number : (line : ℕ) → (value : ℤ) → Tree

  -- forms side by side
  pub data Trees : Type 0 where
    none : Trees
    more : (first : Tree) → (others : Trees) → Trees

-- the line of a form
abbrev pub line_of : Tree → ℕ
line_of (list line forms) = line
line_of (vector line forms) = line
line_of (atom line bytes) = line
line_of (quoted line bytes) = line
line_of (number line value) = line

-- forms one after another
abbrev pub joined : Trees → Trees → Trees
joined none others = others
joined (more first front) others = more first (joined front others)
