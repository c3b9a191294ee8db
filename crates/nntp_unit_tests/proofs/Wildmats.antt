-- Wildmats, and the names that they match.
use Rattle.std.{proofs.Common.{◌≡◌, ℕ, Bool, true, false, List, [], ◌∷◌, Option, None, Some, map, refl}, specs.{Prelude.{codes}, Char.{encode_utf8}}}
use Rattle.std.specs.Str.{chars, is_utf8}
use Rattle.nntp_wire.specs.{Wildmat.{is_wildmat}, Decided.{matches_name}, Inner.Decided.{is_asked}}
use Rattle.nntp_unit_tests.proofs.Rows.{Makes}

-- a character of two octets
abbrev two_octets : List ℕ
two_octets = 0xC3 ∷ 0xA9 ∷ []

-- ---- wildmats and names

abbrev matched : List ((List ℕ × List ℕ) × Bool)
matched =
    -- the last pattern that matches decides
    ((codes "a*,!ab", codes "ab"), false)
    ∷ ((codes "a*,!ab", codes "ac"), true)
    ∷ ((codes "a*,!ab,*b", codes "ab"), true)
    ∷ ((codes "b,c", codes "a"), false)
    -- `?` takes one character
    ∷ ((codes "?", two_octets), true)
    ∷ ((codes "??", two_octets), false)
    -- `*` takes any
    ∷ ((codes "*", codes "comp.x"), true)
    ∷ ((codes "a*b", codes "ab"), true)
    ∷ ((codes "*ab", codes "aab"), true)
    ∷ ((codes "a*bc*d", codes "abxbcd"), true)
    -- a pattern matches the whole name
    ∷ ((codes "a", codes "ab"), false)
    ∷ ((codes "b", codes "ab"), false)
    ∷ []

matched_names : Makes (λ row. matches_name row.0 row.1) matched
unfolding chars
matched_names = refl

-- ---- octets that are no wildmat

abbrev others : List (List ℕ)
others =
    codes "!g"
    ∷ codes "a,,b"
    ∷ codes "a[b"
    ∷ codes ""
    ∷ codes "a,"
    ∷ codes ",a"
    ∷ codes "a,!"
    ∷ codes "a\\b"
    ∷ (0xED ∷ 0xA0 ∷ 0x80 ∷ [])
    ∷ []

no_wildmats : map is_wildmat others ≡ map (λ _. false) others
unfolding chars is_utf8 encode_utf8
no_wildmats = refl

-- ---- names that LIST ACTIVE asks for

abbrev asked : List ((Option (List ℕ) × List ℕ) × Bool)
asked =
    ((None, codes "misc.a"), true)
    ∷ ((None, codes "misc a"), false)
    ∷ ((None, codes ""), false)
    ∷ ((Some (codes "*.a"), codes "misc.a"), true)
    ∷ ((Some (codes "*.a"), codes "misc.b"), false)
    -- what matches is yet no name
    ∷ ((Some (codes "*.a"), codes "misc [.a"), false)
    ∷ ((Some (codes "*"), 0xED ∷ 0xA0 ∷ 0x80 ∷ []), false)
    ∷ ((Some (codes "?"), two_octets), true)
    ∷ []

names_that_are_asked_for : Makes (λ row. is_asked row.0 row.1) asked
unfolding chars is_utf8 encode_utf8
names_that_are_asked_for = refl
