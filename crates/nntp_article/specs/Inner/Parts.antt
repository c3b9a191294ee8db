-- What is said with the words of `Parts.antt`, and needn't be believed.
use Rattle.std.specs.{Prelude.{◌≡◌, Bool, true, false, ◌||◌, List, [], ◌∷◌, ◌++◌}, List.{list_any, list_all, take_while, flat_map}}
use Rattle.nntp_article.specs.Article.Parts.{Line, is_empty, Header, is_continuation, begins_header, is_header}

-- ---- the parts of an article (RFC 3977, section 3.6)

-- the lines are the head, an empty line and the body, and the head has no empty line
pub record AreParts (lines head body : List Line) : Type 0 where
  pub whole : lines ≡ head ++ [] ∷ body
  pub none : list_any is_empty head ≡ false

-- ---- headers

-- a line that may stand in a head: it begins a header or continues one
abbrev pub is_head_line : Line → Bool
is_head_line line = is_continuation line || begins_header line

-- the lines that continue the header before them
abbrev pub more : List Line → List Line
more lines = take_while is_continuation lines

-- the lines are these headers, one or more, one after the other
pub record AreHeaders (lines : List Line) (found : List Header) : Type 0 where
  pub some : is_empty found ≡ false
  pub each : list_all is_header found ≡ true
  pub whole : lines ≡ flat_map (λ header. header) found
