-- A word that is one of the keywords has the form of a keyword.
use Rattle.std.proofs.{Common.{◌≡◌, ℕ, Bool, true, false, List, [], ◌∷◌, length, map, get_or, arith, refl, sym, ◌∙◌, ap, Some}, lemmas.List.{length-map}}
use Rattle.std.{proofs.lemmas.{Bool.{and_parts, Decides.{nat_tests}}, Slice.Eq.{bytes_eq-Decides}}, specs.{Prelude.{nat_le}, List.{find, list_all}}}
use Rattle.std.specs.{Option.{option_map}, Char.{to_ascii_lowercase, is_ascii_alphabetic}}
use Rattle.nntp_wire.specs.{Octets.{is_clean}, Words.{words_of, is_same_word}, Command.{Request, keywords, form_of, is_keyword, is_keyword_octet, request_by}}
use Rattle.nntp_wire.specs.{Command.{request_as}, declared.overviews.Overviews.{Overviews, TheVariants.{Opaque, Judged}}}

-- the first letter, in lower case
pub lower_first : (word : List ℕ) → to_ascii_lowercase (get_or word 0 0) ≡ get_or (map to_ascii_lowercase word) 0 0
lower_first [] = refl
lower_first (b ∷ bs) = refl

-- words that are the same are so in lower case
pub same_lower : (word other : List ℕ) → is_same_word word other ≡ true → map to_ascii_lowercase word ≡ map to_ascii_lowercase other
same_lower word other is = (bytes_eq-Decides (map to_ascii_lowercase word) (map to_ascii_lowercase other)).0 is

lower_letter : (b : ℕ) → is_ascii_alphabetic (to_ascii_lowercase b) ≡ is_ascii_alphabetic b
lower_letter b = grind (arith, nat_tests)

lower_octet : (b : ℕ) → is_keyword_octet (to_ascii_lowercase b) ≡ is_keyword_octet b
lower_octet b = grind (arith, nat_tests)

lower_octets : (word : List ℕ) → list_all is_keyword_octet (map to_ascii_lowercase word) ≡ list_all is_keyword_octet word
lower_octets [] = refl
lower_octets (b ∷ bs) = grind (arith, lower_octet, lower_octets bs)

-- a word has the form of a keyword in either case
lower_keyword : (word : List ℕ) → is_keyword (map to_ascii_lowercase word) ≡ is_keyword word
lower_keyword word =
    let first : is_ascii_alphabetic (get_or (map to_ascii_lowercase word) 0 0) ≡ is_ascii_alphabetic (get_or word 0 0) = ap is_ascii_alphabetic (sym (lower_first word))
    ∙ lower_letter (get_or word 0 0) in
    rw (length-map word to_ascii_lowercase, first, lower_octets word) refl

-- a keyword that is looked up among these
found_keyword : (word : List ℕ) (rows : List (List ℕ × (List (List ℕ) → Request))) (makes : List (List ℕ) → Request) → list_all (λ row. is_keyword row.0) rows ≡ true
    → option_map (λ row. row.1) (find (λ row. is_same_word word row.0) rows) ≡ Some makes → is_keyword word ≡ true
found_keyword word [] makes all e = cc
found_keyword word (row ∷ rows) makes all e =
    let parts = and_parts (is_keyword row.0) (list_all (λ row. is_keyword row.0) rows) all in
    at (is_same_word word row.0) refl parts.0 (found_keyword word rows makes parts.1)
  where
    at : (b : Bool) → is_same_word word row.0 ≡ b → is_keyword row.0 ≡ true
        → (option_map (λ row. row.1) (find (λ row. is_same_word word row.0) rows) ≡ Some makes → is_keyword word ≡ true) → is_keyword word ≡ true
    at true is keyword others = sym (lower_keyword word) ∙ ap is_keyword (same_lower word row.0 is) ∙ lower_keyword row.0 ∙ keyword
    at false other keyword others = others (rw other at e)

-- what is understood is a keyword
pub understood_keyword : (overviews : Overviews) (word : List ℕ) (makes : List (List ℕ) → Request) → form_of overviews word ≡ Some makes → is_keyword word ≡ true
unfolding form_of
understood_keyword Opaque word makes e = found_keyword word (keywords Opaque) makes refl e
understood_keyword Judged word makes e = found_keyword word (keywords Judged) makes refl e

-- a clean line that begins with what is understood
pub understood_line : (overviews : Overviews) (line word : List ℕ) (arguments : List (List ℕ)) (makes : List (List ℕ) → Request) → is_clean line ≡ true → words_of line ≡ word ∷ arguments
    → form_of overviews word ≡ Some makes → request_by (nat_le (length line) 510) (Some makes) arguments ≡ request_as overviews line
understood_line overviews line word arguments makes clean words is = rw (clean, words, understood_keyword overviews word makes is, is) refl
