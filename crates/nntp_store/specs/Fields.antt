-- The fields of a line of a spool's text.
use Rattle.std.specs.Prelude.{ℕ, ◌^◌, Bool, false, not, ◌&&◌, ◌||◌, ◌==◌, nat_lt, if◌then◌else◌, List, [], ◌∷◌, Option, None, Some, codes, bytes_eq}
use Rattle.std.specs.{List.{slice_split, list_all}, Char.{is_ascii_digit}, Str.Parse.{digits_value}}
use Rattle.nntp_article.specs.{Article.Parts.{Line, Id, is_empty}, Session.Spool.{Name, is_line}}

-- the fields of a line, which stand between spaces
abbrev pub fields_of : Line → List (List ℕ)
fields_of line = slice_split (λ c. c == 32) line

-- each octet is a digit
abbrev pub are_digits : List ℕ → Bool
are_digits word = list_all is_ascii_digit word

-- the octets are a number without leading zeros
abbrev pub is_decimal : List ℕ → Bool
is_decimal [] = false
is_decimal (d ∷ ds) = are_digits (d ∷ ds) && (not (d == 48) || is_empty ds)

-- the number that digits say
abbrev pub value_of : List ℕ → ℕ
value_of digits = digits_value 10 digits

-- the octets are a number below 2^64, without leading zeros
abbrev pub is_count : List ℕ → Bool
is_count word = is_decimal word && nat_lt (value_of word) (2 ^ 64)

-- a line that begins a group or an article, or ends the text
pub data OpeningValue : Type 0 where
  Group : (name : Name) → (count : ℕ) → OpeningValue
  Article : (id : Id) → (heads : ℕ) → (bodies : ℕ) → OpeningValue
  End : OpeningValue

-- the group, the article or the end that a line of these fields begins
abbrev pub opening_of : List (List ℕ) → Option OpeningValue
opening_of (word ∷ []) = if bytes_eq word (codes "end") then Some End else None
opening_of (word ∷ name ∷ count ∷ []) =
    if bytes_eq word (codes "group") && not (is_empty name) && is_count count then Some (Group name (value_of count)) else None
opening_of (word ∷ id ∷ heads ∷ bodies ∷ []) =
    if bytes_eq word (codes "article") && not (is_empty id) && is_count heads && is_count bodies then Some (Article id (value_of heads) (value_of bodies)) else None
opening_of words = None

-- the number and the id of a line of these fields
abbrev pub number_and_id : List (List ℕ) → Option (ℕ × Id)
number_and_id (number ∷ id ∷ []) = if is_decimal number && not (is_empty id) then Some (value_of number, id) else None
number_and_id words = None

-- a line of an article, without the bar in front
abbrev pub unbarred : Line → Option Line
unbarred [] = None
unbarred (c ∷ line) = if c == 124 && is_line line then Some line else None
