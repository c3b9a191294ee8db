-- The headers that each article has to have (RFC 1036, section 2.1).
use Rattle.std.specs.{Prelude.{ℕ, Bool, not, List, codes}, List.{list_any}}
use Rattle.nntp_article.specs.{Article.Parts.{Line, Header, headers, is_named}, declared.article.missing_headers.Missing.{Missing}}

-- no header has this name
abbrev pub lacks : List Header → List ℕ → Bool
lacks headers name = not (list_any (is_named name) headers)

abbrev pub missing_among : List Header → Missing
missing_among headers = record {
  from = lacks headers (codes "From");
  date = lacks headers (codes "Date");
  newsgroups = lacks headers (codes "Newsgroups");
  subject = lacks headers (codes "Subject");
  message_id = lacks headers (codes "Message-ID");
  path = lacks headers (codes "Path");
}

-- which of the required headers are missing
abbrev pub missing_of : List Line → Missing
missing_of lines = missing_among (headers lines)
