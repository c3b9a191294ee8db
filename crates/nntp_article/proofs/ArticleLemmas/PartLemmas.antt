-- The first empty line parts an article.
use Rattle.std.{proofs.Common.{◌≡◌, true, false, List, [], ◌∷◌, ◌++◌, sym, ◌∙◌, ap, arith}, specs.List.{list_any}}
use Rattle.nntp_wire.specs.Inner.Block.{HasNoEmptyLine}
use Rattle.nntp_article.specs.Article.Parts.{Line, is_empty, head_part, body_part}

-- the parts round an empty line with none before it
pub parts-split : (head body : List Line) → list_any is_empty head ≡ false → (head_part (head ++ [] ∷ body) ≡ head)
    × (body_part (head ++ [] ∷ body) ≡ body) × (list_any is_empty (head ++ [] ∷ body) ≡ true)
parts-split ((c ∷ cs) ∷ head) body h = let rest = parts-split head body h in (ap (λ t. (c ∷ cs) ∷ t) rest.0, rest.1, rest.2)
parts-split head body h = grind arith

-- lines of which none is empty
pub none-empty : (lines : List Line) → HasNoEmptyLine lines → list_any is_empty lines ≡ false
none-empty ((c ∷ cs) ∷ lines) none = none-empty lines none.1
none-empty lines none = grind arith

-- what is found at the first empty line
pub record IsParted (article head body : List Line) : Type 0 where
  pub some : list_any is_empty article ≡ true
  pub head_is : head ≡ head_part article
  pub body_is : body ≡ body_part article

pub parted : (article head body : List Line) → HasNoEmptyLine head → article ≡ head ++ [] ∷ body → IsParted article head body
parted article head body none whole =
    let p = parts-split head body (none-empty head none) in
    record { some = ap (list_any is_empty) whole ∙ p.2; head_is = sym (ap head_part whole ∙ p.0); body_is = sym (ap body_part whole ∙ p.1) }
