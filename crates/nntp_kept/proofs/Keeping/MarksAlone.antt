-- What is kept of a group of which it is said alone that no number is below low or above high.
use Rattle.nntp_kept.{proofs.Base.{◌≡◌, ℕ, None, ap, ◌∙◌, get, get-empty, nat_cmp, slice_cmp, Id, KeptGroup}, specs.Inner.Between.{IsBetween}}

-- no id is shown
pub none_identified : (g : KeptGroup) → IsBetween g → (n : ℕ) → get g.ids n ≡ None
none_identified g (low, high, is) n = ap (λ g. get g.ids n) is ∙ get-empty nat_cmp n

-- and so none has a number
pub none_placed : (g : KeptGroup) → IsBetween g → (id : Id) → get g.places id ≡ None
none_placed g (low, high, is) id = ap (λ g. get g.places id) is ∙ get-empty (slice_cmp nat_cmp) id
