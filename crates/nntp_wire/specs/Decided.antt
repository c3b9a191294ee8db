-- Tests that compute relations: message ids, group names and the matching of wildmats (RFC 3977, sections 3.6, 4 and 9.8).
use Rattle.std.specs.{Prelude.{ℕ, Bool, true, false, not, ◌&&◌, ◌||◌, ◌==◌, nat_lt, nat_le, List, [], ◌∷◌, length, map}, List.{list_all, list_any}, Str.{chars}}
use Rattle.std.specs.Str.{is_utf8}
use Rattle.nntp_wire.specs.{Name.{is_name_char}, Wildmat.{Item, star, question, character, item_of, patterns_of, is_negated, without_negation}}

-- the octet is visible ASCII
abbrev pub is_id_octet : ℕ → Bool
is_id_octet c = nat_le 33 c && nat_le c 126

-- the octets are some that are no `>`, and then one `>`
abbrev pub ends_id : List ℕ → Bool
ends_id [] = false
ends_id (c ∷ []) = c == 62
ends_id (c ∷ d ∷ cs) = not (c == 62) && ends_id (d ∷ cs)

-- the octets are `<`, some that are no `>`, and then one `>`
abbrev pub begins_id : List ℕ → Bool
begins_id [] = false
begins_id (c ∷ cs) = c == 60 && ends_id cs

-- the test for `IsMessageId`: 3 to 250 octets of visible ASCII, from `<` to the only `>` (RFC 3977, section 3.6)
abbrev pub is_message_id : List ℕ → Bool
is_message_id id = nat_le 3 (length id) && nat_le (length id) 250 && list_all is_id_octet id && begins_id id

-- the test for `IsGroupName`: one or more characters of a name, in UTF-8 (section 4.1)
abbrev pub is_group_name : List ℕ → Bool
is_group_name name = nat_lt 0 (length name) && is_utf8 name && list_all is_name_char (chars name)

-- the text, and what is left of it behind each of its characters
abbrev pub suffixes : List ℕ → List (List ℕ)
suffixes [] = [] ∷ []
suffixes (c ∷ cs) = (c ∷ cs) ∷ suffixes cs

-- the test for `Matches`: the items match the whole text (section 4.2)
abbrev pub matches : List Item → List ℕ → Bool
matches [] [] = true
matches [] (c ∷ cs) = false
matches (star ∷ items) text = list_any (matches items) (suffixes text)
matches (question ∷ items) [] = false
matches (question ∷ items) (c ∷ cs) = matches items cs
matches (character d ∷ items) [] = false
matches (character d ∷ items) (c ∷ cs) = c == d && matches items cs

-- the test for `MatchesPattern`: the pattern, without a `!` in front, matches the whole text
abbrev pub matches_pattern : List ℕ → List ℕ → Bool
matches_pattern pattern text = matches (map item_of (chars (without_negation pattern))) text

-- the test for `IsChosen`: the last of the patterns that matches has no `!`
abbrev pub is_chosen : List (List ℕ) → List ℕ → Bool
is_chosen [] text = false
is_chosen (pattern ∷ more) text =
    is_chosen more text
    || (matches_pattern pattern text && not (is_negated pattern) && not (list_any (λ other. matches_pattern other text) more))

-- the test for `MatchesName`: the wildmat matches the name
abbrev pub matches_name : List ℕ → List ℕ → Bool
matches_name wildmat name = is_chosen (patterns_of wildmat) (chars name)
