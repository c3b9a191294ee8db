-- What heads and overviews tell, where their lines are lines, are words.
use Rattle.std.proofs.Common.{◌≡◌, ℕ, zero, suc, ◌+◌, Bool, true, false, ◌&&◌, IsTrue, List, [], ◌∷◌, Option, None, Some, drop, refl, ◌∙◌, ap, arith}
use Rattle.std.proofs.lemmas.{Bool.{and_parts, and_from, Decides.{nat_tests}}, List.{Folds.{list_all-append}, Splits.{slice_split-cons_yes}}}
use Rattle.std.{proofs.lemmas.List.Splits.{slice_split-cons_no}, specs.{Prelude.{◌==◌, codes, IfSome}, List.{list_all, flat_map, filter, slice_split}}}
use Rattle.std.specs.List.{onto_first, position_or_len, AllByRecursion, cons_option}
use Rattle.nntp_wire.specs.{Octets.{is_blank, is_clean, tab}, Inner.Octets.{are_octets}, Block.{AreClean}, Words.{words_of, is_some_octets}, Listing.{Fields}}
use Rattle.nntp_wire.specs.Listing.{OverviewValue, overview_by, overview_of, overview_of_fields, overviews_of, first_words, fields_of, number_alone, id_alone}
use Rattle.nntp_wire.specs.{Listing.{listed_id_of, listed_id_of_fields, listed_id_of_words, listed_overview_of, id_of}, Number.{number_of}}
use Rattle.nntp_wire.proofs.ListingLemmas.{of_either}
use Rattle.nntp_article.specs.Article.{Parts.{Line, Header, is_colon, with_line, headers, is_named}, Fields.{Word, words_of_header, words_named}}
use Rattle.nntp_article.specs.{Article.Fields.{fields_of_head}, Inner.Fields.{is_word, AreWords, TellsWords}, Session.Spool.{is_line}}
use Rattle.nntp_article.{specs.declared.article.field.Field.TheVariants.{Subject, From, Date, References}, proofs.ArticleLemmas.IdLemmas.{is_solid}}

-- ---- the words of a line

-- an octet of a line, and the rest
line_parts : (c : ℕ) (cs : List ℕ) → is_line (c ∷ cs) ≡ true → (is_line (c ∷ []) ≡ true) × (is_line cs ≡ true)
line_parts c cs h = grind (arith, nat_tests)

line_from : (c : ℕ) (cs : List ℕ) → is_line (c ∷ []) ≡ true → is_line cs ≡ true → is_line (c ∷ cs) ≡ true
line_from c cs h hs = grind (arith, nat_tests)

-- an octet in front of the first part
onto_line : (c : ℕ) (parts : List Line) → is_line (c ∷ []) ≡ true → list_all is_line parts ≡ true → list_all is_line (onto_first c parts) ≡ true
onto_line c [] h hs = and_from _ _ h refl
onto_line c (part ∷ parts) h hs = let p = and_parts (is_line part) _ hs in and_from _ _ (line_from c part h p.0) p.1

onto_solid : (c : ℕ) (parts : List Line) → is_blank c ≡ false → list_all is_solid parts ≡ true → list_all is_solid (onto_first c parts) ≡ true
onto_solid c [] h hs = rw h refl
onto_solid c (part ∷ parts) h hs = rw h hs

-- parts of a line are lines
split_lines : (cuts : ℕ → Bool) (line : Line) → is_line line ≡ true → list_all is_line (slice_split cuts line) ≡ true
split_lines cuts [] h = refl
split_lines cuts (c ∷ cs) h = let p = line_parts c cs h in at (cuts c) refl p.0 (split_lines cuts cs p.1) where
  at : (v : Bool) → cuts c ≡ v → is_line (c ∷ []) ≡ true → list_all is_line (slice_split cuts cs) ≡ true → list_all is_line (slice_split cuts (c ∷ cs)) ≡ true
  at true e one others = ap (list_all is_line) (slice_split-cons_yes cuts c cs e) ∙ others
  at false e one others = ap (list_all is_line) (slice_split-cons_no cuts c cs e) ∙ onto_line c (slice_split cuts cs) one others

-- those between blanks have none
split_solid : (line : Line) → list_all is_solid (slice_split is_blank line) ≡ true
split_solid [] = refl
split_solid (c ∷ cs) = at (is_blank c) refl (split_solid cs) where
  at : (v : Bool) → is_blank c ≡ v → list_all is_solid (slice_split is_blank cs) ≡ true → list_all is_solid (slice_split is_blank (c ∷ cs)) ≡ true
  at true e others = ap (list_all is_solid) (slice_split-cons_yes is_blank c cs e) ∙ others
  at false e others = ap (list_all is_solid) (slice_split-cons_no is_blank c cs e) ∙ onto_solid c (slice_split is_blank cs) e others

-- those with octets are words
some_words : (parts : List Line) → list_all is_solid parts ≡ true → list_all is_line parts ≡ true → list_all is_word (filter is_some_octets parts) ≡ true
some_words [] s l = refl
some_words (part ∷ parts) s l =
    let p = and_parts (is_solid part) _ s in let q = and_parts (is_line part) _ l in at (is_some_octets part) refl p.0 q.0 (some_words parts p.1 q.1) where
      at : (v : Bool) → is_some_octets part ≡ v → is_solid part ≡ true → is_line part ≡ true → list_all is_word (filter is_some_octets parts) ≡ true
          → list_all is_word (filter is_some_octets (part ∷ parts)) ≡ true
      at true e solid line others = rw e (and_from (is_word part) _ (and_from (is_some_octets part && is_solid part) _ (and_from (is_some_octets part) _ e solid) line) others)
      at false e solid line others = rw e others

line_words : (line : Line) → is_line line ≡ true → list_all is_word (words_of line) ≡ true
line_words line h = some_words (slice_split is_blank line) (split_solid line) (split_lines is_blank line h)

-- ---- those of a header

drop_line : (n : ℕ) (line : Line) → is_line line ≡ true → is_line (drop n line) ≡ true
drop_line zero line h = h
drop_line (suc n) [] h = refl
drop_line (suc n) (c ∷ cs) h = drop_line n cs (line_parts c cs h).1

flat_words : (lines : List Line) → list_all is_line lines ≡ true → list_all is_word (flat_map words_of lines) ≡ true
flat_words [] h = refl
flat_words (line ∷ lines) h =
    let p = and_parts (is_line line) _ h in
    list_all-append is_word (words_of line) (flat_map words_of lines) ∙ and_from _ _ (line_words line p.0) (flat_words lines p.1)

header_words : (header : Header) → list_all is_line header ≡ true → list_all is_word (words_of_header header) ≡ true
header_words [] h = refl
header_words (first ∷ more) h =
    let p = and_parts (is_line first) _ h in
    let value = drop (position_or_len is_colon first + 1) first in
    list_all-append is_word (words_of value) (flat_map words_of more)
    ∙ and_from _ _ (line_words value (drop_line (position_or_len is_colon first + 1) first p.0)) (flat_words more p.1)

-- ---- those of a head

with_lines : (line : Line) (hs : List Header) → is_line line ≡ true → list_all (list_all is_line) hs ≡ true → list_all (list_all is_line) (with_line line hs) ≡ true
with_lines line hs h l = grind (arith, nat_tests)

headers_lines : (lines : List Line) → list_all is_line lines ≡ true → list_all (list_all is_line) (headers lines) ≡ true
headers_lines [] h = refl
headers_lines (line ∷ lines) h = let p = and_parts (is_line line) _ h in with_lines line (headers lines) p.0 (headers_lines lines p.1)

named_words : (name : List ℕ) (hs : List Header) → list_all (list_all is_line) hs ≡ true → list_all is_word (words_named name hs) ≡ true
named_words name [] h = refl
named_words name (header ∷ hs) h = let p = and_parts (list_all is_line header) _ h in at (is_named name header) refl p.0 (named_words name hs p.1) where
  at : (v : Bool) → is_named name header ≡ v → list_all is_line header ≡ true → list_all is_word (words_named name hs) ≡ true → list_all is_word (words_named name (header ∷ hs)) ≡ true
  at true e lines others = rw e (header_words header lines)
  at false e lines others = rw e others

all_lines : (lines : List Line) → AllByRecursion (λ line. IsTrue (is_line line)) lines → list_all is_line lines ≡ true
all_lines [] h = refl
all_lines (line ∷ lines) h = and_from _ _ h.0 (all_lines lines h.1)

-- a head of lines tells words
pub head_has_words : (lines : List Line) → AllByRecursion (λ line. IsTrue (is_line line)) lines → AreWords (fields_of_head lines)
head_has_words lines h Subject = named_words (codes "Subject") (headers lines) (headers_lines lines (all_lines lines h))
head_has_words lines h From = named_words (codes "From") (headers lines) (headers_lines lines (all_lines lines h))
head_has_words lines h Date = named_words (codes "Date") (headers lines) (headers_lines lines (all_lines lines h))
head_has_words lines h References = named_words (codes "References") (headers lines) (headers_lines lines (all_lines lines h))

-- ---- those of an overview

-- the words of each of the four are words
four_words : (fields : Fields) → list_all is_word fields.subject ≡ true → list_all is_word fields.from ≡ true → list_all is_word fields.date ≡ true
    → list_all is_word fields.references ≡ true → AreWords fields
four_words fields s f d r Subject = s
four_words fields s f d r From = f
four_words fields s f d r Date = d
four_words fields s f d r References = r

told_by : (told : Option Fields) (number : Option ℕ) (id : Option (List ℕ)) → IfSome told AreWords → IfSome (overview_by told number id) TellsWords
told_by told (Some number) (Some id) are = are
told_by told (Some number) None are = tt
told_by told None id are = tt

more_words : (fields : List Line) → list_all is_line fields ≡ true → list_all is_word (first_words fields) ≡ true
more_words [] h = refl
more_words (field ∷ fields) h = line_words field (and_parts (is_line field) _ h).0

fields_words : (fields : List Line) → list_all is_line fields ≡ true → IfSome (overview_of_fields fields) TellsWords
fields_words [] h = tt
fields_words (number ∷ []) h = tt
fields_words (number ∷ subject ∷ []) h = tt
fields_words (number ∷ subject ∷ from ∷ []) h = tt
fields_words (number ∷ subject ∷ from ∷ date ∷ []) h = tt
fields_words (number ∷ subject ∷ from ∷ date ∷ id ∷ more) h =
    let one = and_parts (is_line number) _ h in
    let two = and_parts (is_line subject) _ one.1 in
    let three = and_parts (is_line from) _ two.1 in
    let four = and_parts (is_line date) _ three.1 in
    let five = and_parts (is_line id) _ four.1 in
    told_by _ (number_alone (words_of number)) (id_alone (words_of id))
    (four_words _ (line_words subject two.0) (line_words from three.0) (line_words date four.0) (more_words more five.1))

-- a number and an id tell nothing
untold_words : (words : List Word) → IfSome (listed_id_of_words words) TellsWords
untold_words [] = tt
untold_words (number ∷ []) = tt
untold_words (number ∷ id ∷ []) = told_by None (number_of number) (id_of id) tt
untold_words (number ∷ id ∷ next ∷ words) = tt

untold : (fields : List Line) → IfSome (listed_id_of_fields fields) TellsWords
untold [] = tt
untold (field ∷ []) = untold_words (words_of field)
untold (field ∷ next ∷ fields) = tt

-- overviews of lines tell words
pub overview_has_words : (lines : List (List ℕ)) → AllByRecursion (λ line. IsTrue (is_line line)) lines → AllByRecursion TellsWords (overviews_of lines)
overview_has_words [] h = tt
overview_has_words (line ∷ lines) h =
    let told = of_either TellsWords (overview_of line) (listed_id_of line) (fields_words (fields_of line) (split_lines (λ b. b == tab) line h.0)) (untold (fields_of line)) in
    by (listed_overview_of line) told (overview_has_words lines h.1)
  where
    by : (o : Option OverviewValue) → IfSome o TellsWords → AllByRecursion TellsWords (overviews_of lines) → AllByRecursion TellsWords (cons_option o (overviews_of lines))
    by (Some o) is more = (is, more)
    by None is more = more

-- ---- those of a block

-- clean octets are lines
are_lines : (lines : List Line) → AreClean lines → IsTrue (list_all are_octets lines) → AllByRecursion (λ line. IsTrue (is_line line)) lines
are_lines [] clean octets = tt
are_lines (line ∷ lines) clean octets =
    let p = and_parts (are_octets line) (list_all are_octets lines) octets in
    (and_from (is_clean line) (are_octets line) clean.0 p.0, are_lines lines clean.1 p.1)

-- what the overviews of a block tell
pub overviews_words : (lines : List Line) → AreClean lines → IsTrue (list_all are_octets lines) → AllByRecursion TellsWords (overviews_of lines)
overviews_words lines clean octets = overview_has_words lines (are_lines lines clean octets)

-- what a block tells as a head
pub head_words : (lines : List Line) → AreClean lines → IsTrue (list_all are_octets lines) → AreWords (fields_of_head lines)
head_words lines clean octets = head_has_words lines (are_lines lines clean octets)
