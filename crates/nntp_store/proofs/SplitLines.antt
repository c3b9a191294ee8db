-- The segments of octets between the octets that are a given one.
use Rattle.std.proofs.Common.{◌≡◌, ℕ, ◌+◌, true, false, cond, eqb, List, [], ◌∷◌, Option, None, Some, Ok, length, take, drop, refl, sym, ap, ◌∙◌, arith}
use Rattle.std.proofs.lemmas.{List.{drop-drop, Splits.{slice_split_first, slice_split_none}, Sums.{fails_before_first}}, Bool.{cases_lt, le-ltb, lt-ltb}}
use Rattle.std.specs.{List.{slice_split, onto_first}, Prelude.{position}}
use Rattle.memchr.specs.Find.{IsFirstByte, is_byte}
use Rattle.nntp_wire.proofs.ArgumentLemmas.{position-found}
use Rattle.nntp_article.specs.Article.Parts.{is_empty}
use Rattle.nntp_content.proofs.MapEntries.{some_is, some_none}
use Rattle.nntp_store.specs.Reading.{next_line, segments_of, fault, is_end}
use Rattle.nntp_store.specs.declared.text.read_fault.Kind.TheVariants as kinds

abbrev pub segments_at : ℕ → List ℕ → List (List ℕ)
segments_at c bytes = slice_split (λ x. eqb x c) bytes

-- there is a first segment
pub first_segment : (c : ℕ) (bytes : List ℕ) → (segment : List ℕ) × (segments : List (List ℕ)) × (segments_at c bytes ≡ segment ∷ segments)
first_segment c [] = ([], [], refl)
first_segment c (x ∷ bytes) =
    let rest = first_segment c bytes in
    elim (eqb x c) as (λ b. (segment : List ℕ) × (segments : List (List ℕ)) × (cond b ([] ∷ segments_at c bytes) (onto_first x (segments_at c bytes)) ≡ segment ∷ segments)) [
      | true ↦ ([], segments_at c bytes, refl)
      | false ↦ (x ∷ rest.0, rest.1, ap (onto_first x) rest.2)
    ]

-- what a search for an octet found is its first place
pub first_place : (c : ℕ) (bytes : List ℕ) (r : Option ℕ) → IsFirstByte (is_byte c) bytes r → position (λ x. eqb x c) bytes ≡ r
first_place c bytes r none = grind (arith, position-found, le-ltb, lt-ltb)

-- the first octet c is at this place
pub segments_found : (c : ℕ) (bytes : List ℕ) (at : ℕ) → position (λ x. eqb x c) bytes ≡ Some at → segments_at c bytes ≡ take at bytes ∷ segments_at c (drop (at + 1) bytes)
segments_found c bytes at e = grind (arith, cases_lt, some_is, lt-ltb, slice_split_first, some_none, le-ltb)

pub segments_none : (c : ℕ) (bytes : List ℕ) → position (λ x. eqb x c) bytes ≡ None → segments_at c bytes ≡ bytes ∷ []
segments_none c bytes e = grind (arith, cases_lt, some_none, lt-ltb, slice_split_none, fails_before_first)

-- the next line of a text
pub line_found : (line : ℕ) (bytes : List ℕ) (at : ℕ) → position (λ x. eqb x 10) bytes ≡ Some at
    → next_line line (segments_of bytes) ≡ Ok (take at bytes, record { line = line + 1; segments = segments_of (drop (at + 1) bytes) })
line_found line bytes at e = grind (arith, first_segment 10 (drop (at + 1) bytes), segments_found 10 bytes at e)

pub line_none : (line : ℕ) (bytes : List ℕ) → position (λ x. eqb x 10) bytes ≡ None → next_line line (segments_of bytes) ≡ fault line kinds.Shape
line_none line bytes e = ap (next_line line) (segments_none 10 bytes e)

-- what stands behind the octet at a place
pub behind : (n : ℕ) (xs ys zs : List ℕ) → ys ≡ drop n xs → zs ≡ drop 1 ys → zs ≡ drop (n + 1) xs
behind n xs ys zs e f = f ∙ ap (drop 1) e ∙ drop-drop 1 n xs

pub is_end-segments : (bytes : List ℕ) → is_end (segments_of bytes) ≡ is_empty bytes
is_end-segments [] = refl
is_end-segments (x ∷ bytes) = grind (arith, first_segment 10 bytes)

pub length_is_empty : (bytes : List ℕ) → eqb (length bytes) 0 ≡ is_empty bytes
length_is_empty bytes = grind arith

pub ended : (bytes : List ℕ) → eqb (length bytes) 0 ≡ is_end (segments_of bytes)
ended bytes = length_is_empty bytes ∙ sym (is_end-segments bytes)
