-- The four headers that an overview tells of (RFC 3977, section 8.3.2).
use Rattle.std.specs.{Prelude.{ℕ, List, [], ◌∷◌, ◌++◌, Option, slice_get, codes}, List.{filter, flat_map, after_first}, Option.{option_map_or}}
use Rattle.nntp_wire.specs.{Words.{words_of}, Octets.{space}, Listing.{Fields}}
use Rattle.nntp_article.specs.{Article.Parts.{Line, Id, Header, headers, is_named, is_colon}, declared.article.field.Field.{Field, TheVariants.{Subject, From}}}
use Rattle.nntp_article.specs.declared.article.field.Field.TheVariants.{Date, References}

-- a word of a line
abbrev pub Word : Type 0
Word = List ℕ

-- the words of one of the four
abbrev pub words_in : Fields → Field → List Word
words_in fields Subject = fields.subject
words_in fields From = fields.from
words_in fields Date = fields.date
words_in fields References = fields.references

-- the name of one
abbrev pub name_of_field : Field → List ℕ
name_of_field Subject = codes "Subject"
name_of_field From = codes "From"
name_of_field Date = codes "Date"
name_of_field References = codes "References"

-- ---- what a head tells

-- the words behind the colon of a header, and those of the lines that continue it
abbrev pub words_of_header : Header → List Word
words_of_header [] = []
words_of_header (first ∷ more) = words_of (after_first is_colon first) ++ flat_map words_of more

-- the words of the first header of the name, none where there is no such header
abbrev pub words_named : List ℕ → List Header → List Word
words_named name headers = option_map_or words_of_header (slice_get (filter (is_named name) headers) 0) []

-- what headers tell
abbrev pub fields_among : List Header → Fields
fields_among headers = record {
  subject = words_named (codes "Subject") headers;
  from = words_named (codes "From") headers;
  date = words_named (codes "Date") headers;
  references = words_named (codes "References") headers;
}

-- what the head tells
abbrev pub fields_of_head : List Line → Fields
fields_of_head lines = fields_among (headers lines)

-- ---- a head that is made

-- the line of a header with these words, each behind a space; none where there is no word
abbrev pub field_line : List ℕ → List Word → List Line
field_line start [] = []
field_line start (word ∷ words) = (start ++ flat_map (λ w. space ∷ w) (word ∷ words)) ∷ []

-- the lines of headers that tell this
abbrev pub field_lines : Fields → List Line
field_lines fields = flat_map (λ (field : List ℕ × List Word). field_line field.0 field.1) (
    (codes "Subject:", fields.subject) ∷ (codes "From:", fields.from) ∷ (codes "Date:", fields.date) ∷ (codes "References:", fields.references) ∷ [])

-- a head that says the id and nothing else
abbrev pub plain_head : Id → List Line
plain_head id = (codes "Message-ID: " ++ id) ∷ []

-- a head that says the id, and of the four headers what is told
abbrev pub made_head : Id → Option Fields → List Line
made_head id told = plain_head id ++ option_map_or field_lines told []
