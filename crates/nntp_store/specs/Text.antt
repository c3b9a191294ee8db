-- The one text of a spool.
use Rattle.std.specs.{Prelude.{ℕ, List, [], ◌∷◌, ◌++◌, length, map, codes}, Fmt.{decimal}, List.{flat_map, join_with_byte}, FinMap.{entries, len}}
use Rattle.nntp_wire.specs.declared.limit.Limit.{Limit, TheVariants.{Narrow, Wide}}
use Rattle.nntp_article.specs.{Article.Parts.{Line, Id}, Session.Spool.{Name, Spool, Numbers, Text}}
use Rattle.nntp_store.specs.Limited.{LimitedSpool}

-- words, with one space between each two
abbrev pub spaced : List (List ℕ) → Line
spaced words = join_with_byte 32 words

abbrev pub group_line : Name → ℕ → Line
group_line name count = spaced (codes "group" ∷ name ∷ decimal count ∷ [])

abbrev pub number_line : ℕ → Id → Line
number_line n id = spaced (decimal n ∷ id ∷ [])

abbrev pub article_line : Id → ℕ → ℕ → Line
article_line id heads bodies = spaced (codes "article" ∷ id ∷ decimal heads ∷ decimal bodies ∷ [])

abbrev pub barred : List Line → List Line
barred lines = map (λ line. 124 ∷ line) lines

-- a group: its name and how many numbers it has, and then its numbers
abbrev pub group_lines : Name × Numbers → List Line
group_lines g = group_line g.0 (len g.1) ∷ map (λ e. number_line e.0 e.1) (entries g.1)

-- an article: its id and how many lines it has, and then its lines
abbrev pub article_lines : Id × Text → List Line
article_lines a = article_line a.0 (length a.1.head) (length a.1.body) ∷ (barred a.1.head ++ barred a.1.body)

-- the first lines, which say the limit
abbrev pub limit_lines : Limit → List Line
limit_lines Narrow = codes "spool 1" ∷ []
limit_lines Wide = codes "spool 2" ∷ codes "limit 9999999999999999" ∷ []

-- all groups and all articles, and the end
abbrev pub content_lines : Spool → List Line
content_lines S = flat_map group_lines (entries S.groups) ++ (flat_map article_lines (entries S.articles) ++ codes "end" ∷ [])

abbrev pub spool_lines : LimitedSpool → List Line
spool_lines L = limit_lines L.limit ++ content_lines L.spool

-- each line with its end
abbrev pub with_line_ends : List Line → List ℕ
with_line_ends lines = flat_map (λ line. line ++ 10 ∷ []) lines

abbrev pub spool_text : LimitedSpool → List ℕ
spool_text L = with_line_ends (spool_lines L)
