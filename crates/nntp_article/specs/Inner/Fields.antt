-- What is said with the words of `Article/Fields.antt`, and needn't be believed.
use Rattle.std.specs.{Prelude.{Bool, not, ◌&&◌, IsTrue, List, ◌++◌, Option, None, Some, IfSome}, List.{list_all, flat_map}}
use Rattle.nntp_wire.specs.{Words.{is_some_octets, words_of}, Octets.{is_blank}, Listing.{Fields, OverviewValue}}
use Rattle.nntp_article.specs.{Article.{Parts.{Line}, Fields.{Word, words_in}}, Inner.Parts.{more}, Session.Spool.{is_line}}
use Rattle.nntp_article.specs.declared.article.field.Field.{Field}

-- some octets of a line, none of which is a blank
abbrev pub is_word : Word → Bool
is_word word = is_some_octets word && list_all (λ c. not (is_blank c)) word && is_line word

-- the words of each header are words
abbrev pub AreWords : Fields → Type 0
AreWords fields = (field : Field) → IsTrue (list_all is_word (words_in fields field))

-- what the overview tells of headers, if it does, are words
abbrev pub TellsWords : OverviewValue → Type 0
TellsWords overview = IfSome overview.told AreWords

-- the words of a header that are left: of its line, and of those behind, if there are such, that continue it
abbrev pub words_left : List Word → Option (List Line) → List Word
words_left words None = words
words_left words (Some lines) = words ++ flat_map words_of (more lines)
