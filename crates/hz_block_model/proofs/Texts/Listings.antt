-- A state has one listing.
use Rattle.std.proofs.Common.{◌≡◌, ◌≢◌, ℕ, ◌<◌, List, Contains, sym, ap, ◌∙◌, subst, arith}
use Rattle.std.proofs.lemmas.List.{ext_get_or}
use Rattle.hz_base_model.proofs.Ascending.{same_from_ascending}
use Rattle.hz_block_model.specs.Running.States.{State, cell}
use Rattle.hz_block_model.specs.Texts.StateTexts.{Listing, IsListing, IsText, listing_text}

among : (state : State) (l m : Listing) → IsListing state l → IsListing state m → (e : ℕ × ℕ) → Contains l.cells e → Contains m.cells e
among state l m h k (a, w) c =
    let (is, some) = h.held (a, w) c in
    let there : state (cell a) ≢ 0 = λ z. some (is ∙ z) in
    subst (λ (v : ℕ). Contains m.cells (a, v)) (sym is) (k.complete a there)

abbrev listed : List ℕ → List (ℕ × ℕ) → Listing
listed r cs = record { registers = r; cells = cs }

pub same_listing : (state : State) (l m : Listing) → IsListing state l → IsListing state m → l ≡ m
same_listing state l m h k =
    let registers : l.registers ≡ m.registers = ext_get_or 0 l.registers m.registers (h.count ∙ sym k.count) (λ i within. h.words i (omega arith) ∙ sym (k.words i (omega arith))) in
    let cells : l.cells ≡ m.cells = same_from_ascending (λ (a b : ℕ × ℕ). a.0 < b.0) (λ x y lt gt. omega arith) l.cells m.cells h.ascending k.ascending (among state l m h k) (among state m l k h) in
    ap (λ (r : List ℕ). listed r l.cells) registers ∙ ap (λ (cs : List (ℕ × ℕ)). listed m.registers cs) cells

pub same_text : (state : State) (s t : List ℕ) → IsText state s → IsText state t → s ≡ t
same_text state s t h k = h.text_is ∙ (ap listing_text (same_listing state h.listing k.listing h.is_listing k.is_listing) ∙ sym k.text_is)
