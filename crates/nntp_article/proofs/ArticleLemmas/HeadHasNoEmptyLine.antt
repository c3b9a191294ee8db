-- A head has no empty line, so the first empty line ends it.
use Rattle.std.{proofs.{Common.{◌≡◌, true, false, refl, List, [], ◌∷◌, ◌++◌, arith}, lemmas.Bool.{and_parts}}, specs.List.{list_any, list_all}}
use Rattle.nntp_article.specs.{Article.Parts.{Line, is_empty, is_head, head_part, body_part}, Inner.Parts.{is_head_line}}
use Rattle.nntp_article.proofs.ArticleLemmas.{HeadLemmas.{is_head-lines}, PartLemmas.{parts-split}}

-- no line that may stand in a head is empty
no_empty_lines : (lines : List Line) → list_all is_head_line lines ≡ true → list_any is_empty lines ≡ false
no_empty_lines ((c ∷ cs) ∷ lines) h = no_empty_lines lines (and_parts (is_head_line (c ∷ cs)) _ h).1
no_empty_lines lines h = cc

no_empty_line : (lines : List Line) → is_head lines ≡ true → list_any is_empty lines ≡ false
no_empty_line [] h = refl
no_empty_line (line ∷ lines) h = grind (arith, and_parts, is_head-lines, no_empty_lines)

-- the parts of an article are its head and its body
pub parts : (head body : List Line) → is_head head ≡ true → (head_part (head ++ [] ∷ body) ≡ head) × (body_part (head ++ [] ∷ body) ≡ body)
parts head body h = let all = parts-split head body (no_empty_line head h) in (all.0, all.1)
