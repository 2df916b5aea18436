-- Which guard of a bypass is unknown: this profile, docs/FORMATS.md, 'Descriptions'. Law: `another_guard_is_unknown`.
use Rattle.std.specs.Prelude.{◌≡◌, ◌≢◌, ℕ, List, codes}
use Rattle.hz_base_model.specs.Forms.Trees.{Tree, Trees, list, atom, quoted, more}

-- `(define_bypass A B C "guard" ..)`, where the string is another one than `store_data_bypass_p`, and the other operands are anything
pub record IsWithAnotherGuard (form : Tree) : Type 0 where
  pub line : ℕ
  pub word_line : ℕ
  pub first : Tree
  pub second : Tree
  pub third : Tree
  pub guard_line : ℕ
  pub guard : List ℕ
  pub others : Trees
  pub is : form ≡ list line (more (atom word_line (codes "define_bypass")) (more first (more second (more third (more (quoted guard_line guard) others)))))
  pub other : guard ≢ codes "store_data_bypass_p"
