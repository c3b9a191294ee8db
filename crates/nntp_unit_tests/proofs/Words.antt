-- Numbers, words and the lines of a stream.
use Rattle.std.{proofs.Common.{◌≡◌, ℕ, List, [], ◌∷◌, Option, None, Some, refl}, specs.{Prelude.{codes}, Char.{encode_utf8}, Str.{chars, is_utf8}}}
use Rattle.nntp_wire.specs.{Number.{number_of}, Words.{words_of}, Lines.{parts_of, lines_of_stream}, Listing.{ActiveValue, listed_number_of, active_of}}
use Rattle.nntp_unit_tests.proofs.Rows.{Makes}

-- ---- numbers

abbrev numbers : List (List ℕ × Option ℕ)
numbers =
    (codes "0", Some 0)
    ∷ (codes "0000000000000005", Some 5)
    ∷ (codes "9999999999999999", Some 9999999999999999)
    ∷ (codes "00000000000000005", None)
    ∷ (codes "12345678901234567", None)
    ∷ (codes "", None)
    ∷ (codes "1x", None)
    ∷ (codes "-1", None)
    ∷ []

numbers_of_words : Makes number_of numbers
numbers_of_words = refl

abbrev listed : List (List ℕ × Option ℕ)
listed =
    (codes "007", Some 7)
    ∷ (codes " 7\t", Some 7)
    ∷ (codes "0000000000000007", Some 7)
    ∷ (codes "00000000000000007", None)
    ∷ (codes "7 a", None)
    ∷ (codes "", None)
    ∷ []

numbers_of_listgroup : Makes listed_number_of listed
numbers_of_listgroup = refl

-- ---- words

blanks_between_words : words_of (codes " \tGROUP  a\tb ") ≡ codes "GROUP" ∷ codes "a" ∷ codes "b" ∷ []
blanks_between_words = refl

blanks_alone : words_of (codes " \t ") ≡ []
blanks_alone = refl

-- ---- lines of LIST ACTIVE

abbrev active : List (List ℕ × Option ActiveValue)
active =
    (codes "g 5 1 y", Some (record { name = codes "g"; high = 5; low = 1; status = codes "y" }))
    ∷ (codes "", None)
    ∷ (codes "g 5 1", None)
    ∷ (codes "g 5 1 y z", None)
    ∷ (codes "a,b 5 1 y", None)
    ∷ (codes "g 5 x y", None)
    ∷ []

active_lines : Makes active_of active
unfolding chars is_utf8 encode_utf8
active_lines = refl

-- ---- the lines of a stream, and the rest behind them

abbrev streams : List (List ℕ × List (List ℕ))
streams =
    (codes "QUIT\r\nSTAT", codes "QUIT" ∷ codes "STAT" ∷ [])
    ∷ (codes "\r\nGROUP g\r\n", [] ∷ codes "GROUP g" ∷ [] ∷ [])
    ∷ (codes "a\r\r\nb", codes "a\r" ∷ codes "b" ∷ [])
    ∷ (codes "a\nb\r\n", codes "a\nb" ∷ [] ∷ [])
    ∷ (codes "STAT\r", codes "STAT\r" ∷ [])
    ∷ ([], [] ∷ [])
    ∷ []

lines_of_streams : Makes parts_of streams
lines_of_streams = refl

half_a_line : lines_of_stream (codes "QUIT\r\nSTAT") ≡ codes "QUIT" ∷ []
half_a_line = refl
