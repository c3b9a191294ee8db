-- A head that is made of the words of four headers tells these.
use Rattle.std.proofs.{Common.{◌≡◌, ℕ, ◌<◌, true, false, ◌&&◌, IsTrue, List, [], ◌∷◌, ◌++◌, length, refl, sym, ap, ◌∙◌, append-nil}, lemmas.Bool.{and_parts}}
use Rattle.std.{proofs.lemmas.{Bool.{and_from, ltb-true}, List.Folds.{list_all-append}}, specs.{Prelude.{codes, not, slice_get}, Option.{option_map_or}}}
use Rattle.std.specs.List.{list_all, flat_map, filter, AllByRecursion}
use Rattle.nntp_wire.{specs.{Octets.{is_clean, space}, Words.{words_of, is_some_octets}, Listing.{Fields}}, proofs.WordLemmas.{words_of-blank}}
use Rattle.nntp_article.specs.Article.Parts.{Line, is_continuation, continues_first, begins_header, is_header, headers, is_head, is_named, is_empty}
use Rattle.nntp_article.specs.Article.Fields.{Word, words_of_header, words_named, fields_of_head, fields_among, field_line, field_lines}
use Rattle.nntp_article.specs.{Inner.Fields.{is_word, AreWords}, Session.Spool.{is_line}, declared.article.field.Field.TheVariants.{Subject, From, Date}}
use Rattle.nntp_article.{specs.declared.article.field.Field.TheVariants.{References}, proofs.ArticleLemmas.HeadLemmas.{after, more-no, after-no, headers-cons}}
use Rattle.nntp_article.proofs.ArticleLemmas.IdLemmas.{is_solid, words-solid, words-solid_then}

-- ---- words behind spaces

-- a word has octets, none of them a blank
solid : (word : Word) → is_word word ≡ true → (0 < length word) × (is_solid word ≡ true)
solid word h = let p = and_parts (is_some_octets word && is_solid word) _ h in let q = and_parts (is_some_octets word) _ p.0 in (ltb-true 0 (length word) q.0, q.1)

-- words that stand behind a space each are the words of that
pub words-spaced : (words : List Word) → list_all is_word words ≡ true → words_of (flat_map (λ w. space ∷ w) words) ≡ words
words-spaced [] h = refl
words-spaced (word ∷ []) h =
    let s = solid word (and_parts (is_word word) _ h).0 in
    words_of-blank space (word ++ []) refl ∙ ap words_of (append-nil word) ∙ words-solid word s.0 s.1
words-spaced (word ∷ next ∷ words) h =
    let p = and_parts (is_word word) _ h in
    let s = solid word p.0 in
    let rest = next ++ flat_map (λ w. space ∷ w) words in
    words_of-blank space (word ++ space ∷ rest) refl ∙ words-solid_then word space rest s.0 s.1 refl
    ∙ ap (λ ws. word ∷ ws) (sym (words_of-blank space rest refl) ∙ words-spaced (next ∷ words) p.1)

-- ---- one line of them in front of others

-- a line that begins no header before others, which don't either
one_line : (line : Line) (lines : List Line) → continues_first lines ≡ false → headers (line ∷ lines) ≡ (line ∷ []) ∷ headers lines
one_line line [] h = refl
one_line line (next ∷ lines) h = headers-cons line (next ∷ lines)
    ∙ ap (λ ls. (line ∷ ls) ∷ headers (after (next ∷ lines))) (more-no next lines h)
    ∙ ap (λ ls. (line ∷ []) ∷ headers ls) (after-no next lines h)

-- what stands in front of the words of a line
abbrev Start : Type 0
Start = List ℕ

module _ (start : Start) (begins : (xs : List ℕ) → begins_header (start ++ xs) ≡ true) (plain : (xs : List ℕ) → is_continuation (start ++ xs) ≡ false) where
  -- the line begins no continuation
  starts : (words : List Word) (rest : List Line) → continues_first rest ≡ false → continues_first (field_line start words ++ rest) ≡ false
  starts [] rest h = h
  starts (word ∷ words) rest h = plain (flat_map (λ w. space ∷ w) (word ∷ words))

  -- where the others are headers, all are
  all_headers : (words : List Word) (rest : List Line) → continues_first rest ≡ false → list_all is_header (headers rest) ≡ true → list_all is_header (headers (field_line start words ++ rest)) ≡ true
  all_headers [] rest p h = h
  all_headers (word ∷ words) rest p h =
      let line = start ++ flat_map (λ w. space ∷ w) (word ∷ words) in
      ap (list_all is_header) (one_line line rest p) ∙ and_from (begins_header line && true) _ (and_from (begins_header line) true (begins (flat_map (λ w. space ∷ w) (word ∷ words))) refl) h

  module _ (name : List ℕ) where
    -- under another name there is nothing
    others : ((xs : List ℕ) → is_named name ((start ++ xs) ∷ []) ≡ false) → (words : List Word) (rest : List Line) → continues_first rest ≡ false
        → filter (is_named name) (headers (field_line start words ++ rest)) ≡ filter (is_named name) (headers rest)
    others other [] rest p = refl
    others other (word ∷ words) rest p =
        let line = start ++ flat_map (λ w. space ∷ w) (word ∷ words) in
        ap (filter (is_named name)) (one_line line rest p) ∙ (rw (other (flat_map (λ w. space ∷ w) (word ∷ words))) refl)

    -- under its own there are its words
    own : ((xs : List ℕ) → is_named name ((start ++ xs) ∷ []) ≡ true) → ((xs : List ℕ) → words_of_header ((start ++ xs) ∷ []) ≡ words_of xs) → (words : List Word) → list_all is_word words ≡ true
        → (rest : List Line) → continues_first rest ≡ false → filter (is_named name) (headers rest) ≡ [] → words_named name (headers (field_line start words ++ rest)) ≡ words
    own same says [] ok rest p none = rw none refl
    own same says (word ∷ words) ok rest p none =
        let line = start ++ flat_map (λ w. space ∷ w) (word ∷ words) in
        ap (words_named name) (one_line line rest p) ∙ (rw (same (flat_map (λ w. space ∷ w) (word ∷ words))) refl)
        ∙ says (flat_map (λ w. space ∷ w) (word ∷ words)) ∙ words-spaced (word ∷ words) ok

-- ---- the head that is made

module _ (fields : Fields) (words : AreWords fields) where
  -- the lines of References alone, and those that begin at each header before
  abbrev references_on : List Line
  references_on = field_line (codes "References:") fields.references ++ []

  abbrev date_on : List Line
  date_on = field_line (codes "Date:") fields.date ++ references_on

  abbrev from_on : List Line
  from_on = field_line (codes "From:") fields.from ++ date_on

  abbrev subject_on : List Line
  subject_on = field_line (codes "Subject:") fields.subject ++ from_on

  references_start : continues_first references_on ≡ false
  references_start = starts (codes "References:") (λ xs. refl) (λ xs. refl) fields.references [] refl

  date_start : continues_first date_on ≡ false
  date_start = starts (codes "Date:") (λ xs. refl) (λ xs. refl) fields.date references_on references_start

  from_start : continues_first from_on ≡ false
  from_start = starts (codes "From:") (λ xs. refl) (λ xs. refl) fields.from date_on date_start

  subject_start : continues_first subject_on ≡ false
  subject_start = starts (codes "Subject:") (λ xs. refl) (λ xs. refl) fields.subject from_on from_start

  -- none of a line of another header
  none_of_references : (name : List ℕ) → ((xs : List ℕ) → is_named name ((codes "References:" ++ xs) ∷ []) ≡ false) → filter (is_named name) (headers references_on) ≡ []
  none_of_references name other = others (codes "References:") (λ xs. refl) (λ xs. refl) name other fields.references [] refl

  none_of_date : (name : List ℕ) → ((xs : List ℕ) → is_named name ((codes "Date:" ++ xs) ∷ []) ≡ false) → ((xs : List ℕ) → is_named name ((codes "References:" ++ xs) ∷ []) ≡ false)
      → filter (is_named name) (headers date_on) ≡ []
  none_of_date name one two = others (codes "Date:") (λ xs. refl) (λ xs. refl) name one fields.date references_on references_start ∙ none_of_references name two

  none_of_from : (name : List ℕ) → ((xs : List ℕ) → is_named name ((codes "From:" ++ xs) ∷ []) ≡ false) → ((xs : List ℕ) → is_named name ((codes "Date:" ++ xs) ∷ []) ≡ false)
      → ((xs : List ℕ) → is_named name ((codes "References:" ++ xs) ∷ []) ≡ false) → filter (is_named name) (headers from_on) ≡ []
  none_of_from name one two three = others (codes "From:") (λ xs. refl) (λ xs. refl) name one fields.from date_on date_start ∙ none_of_date name two three

  -- each is told as it was
  subject_told : words_named (codes "Subject") (headers subject_on) ≡ fields.subject
  subject_told = own (codes "Subject:") (λ xs. refl) (λ xs. refl) (codes "Subject") (λ xs. refl) (λ xs. append-nil (words_of xs)) fields.subject (words Subject) from_on from_start
      (none_of_from (codes "Subject") (λ xs. refl) (λ xs. refl) (λ xs. refl))

  from_told : words_named (codes "From") (headers subject_on) ≡ fields.from
  from_told = ap (λ hs. option_map_or words_of_header (slice_get hs 0) []) (others (codes "Subject:") (λ xs. refl) (λ xs. refl) (codes "From") (λ xs. refl) fields.subject from_on from_start)
      ∙ own (codes "From:") (λ xs. refl) (λ xs. refl) (codes "From") (λ xs. refl) (λ xs. append-nil (words_of xs)) fields.from (words From) date_on date_start
      (none_of_date (codes "From") (λ xs. refl) (λ xs. refl))

  date_told : words_named (codes "Date") (headers subject_on) ≡ fields.date
  date_told = ap (λ hs. option_map_or words_of_header (slice_get hs 0) []) (others (codes "Subject:") (λ xs. refl) (λ xs. refl) (codes "Date") (λ xs. refl) fields.subject from_on from_start
      ∙ others (codes "From:") (λ xs. refl) (λ xs. refl) (codes "Date") (λ xs. refl) fields.from date_on date_start)
      ∙ own (codes "Date:") (λ xs. refl) (λ xs. refl) (codes "Date") (λ xs. refl) (λ xs. append-nil (words_of xs)) fields.date (words Date) references_on references_start
      (none_of_references (codes "Date") (λ xs. refl))

  references_told : words_named (codes "References") (headers subject_on) ≡ fields.references
  references_told = ap (λ hs. option_map_or words_of_header (slice_get hs 0) [])
      (others (codes "Subject:") (λ xs. refl) (λ xs. refl) (codes "References") (λ xs. refl) fields.subject from_on from_start
      ∙ others (codes "From:") (λ xs. refl) (λ xs. refl) (codes "References") (λ xs. refl) fields.from date_on date_start
      ∙ others (codes "Date:") (λ xs. refl) (λ xs. refl) (codes "References") (λ xs. refl) fields.date references_on references_start)
      ∙ own (codes "References:") (λ xs. refl) (λ xs. refl) (codes "References") (λ xs. refl) (λ xs. append-nil (words_of xs)) fields.references (words References) [] refl refl

  -- lines of headers that tell fields tell these
  pub lines_tell : fields_of_head (field_lines fields) ≡ fields
  lines_tell = λ i. record { subject = subject_told i; from = from_told i; date = date_told i; references = references_told i }

  -- so lines that are these are those of what they tell
  pub lines_held : (lines : List Line) → lines ≡ field_lines fields → lines ≡ field_lines (fields_of_head lines)
  lines_held lines is = is ∙ ap field_lines (sym (ap fields_of_head is ∙ lines_tell))

  -- ---- behind the line of an id

  abbrev made : List ℕ → List Line
  made id = (codes "Message-ID: " ++ id) ∷ field_lines fields

  made_headers : (id : List ℕ) → headers (made id) ≡ ((codes "Message-ID: " ++ id) ∷ []) ∷ headers (field_lines fields)
  made_headers id = one_line (codes "Message-ID: " ++ id) (field_lines fields) subject_start

  -- so does a head with the id in front
  pub made_tells : (id : List ℕ) → fields_of_head (made id) ≡ fields
  made_tells id = ap fields_among (made_headers id) ∙ lines_tell

  -- it is a head
  pub made_is_head : (id : List ℕ) → is_head (made id) ≡ true
  made_is_head id = ap (λ hs. not (is_empty hs) && list_all is_header hs) (made_headers id)
      ∙ all_headers (codes "Subject:") (λ xs. refl) (λ xs. refl) fields.subject from_on from_start
      (all_headers (codes "From:") (λ xs. refl) (λ xs. refl) fields.from date_on date_start
      (all_headers (codes "Date:") (λ xs. refl) (λ xs. refl) fields.date references_on references_start
      (all_headers (codes "References:") (λ xs. refl) (λ xs. refl) fields.references [] refl refl)))

  -- which says the id alone
  pub made_says : (id : List ℕ) → filter (is_named (codes "Message-ID")) (headers (made id)) ≡ ((codes "Message-ID: " ++ id) ∷ []) ∷ []
  made_says id = ap (filter (is_named (codes "Message-ID"))) (made_headers id)
      ∙ ap (λ hs. ((codes "Message-ID: " ++ id) ∷ []) ∷ hs)
      (others (codes "Subject:") (λ xs. refl) (λ xs. refl) (codes "Message-ID") (λ xs. refl) fields.subject from_on from_start
      ∙ none_of_from (codes "Message-ID") (λ xs. refl) (λ xs. refl) (λ xs. refl))

-- ---- octets of lines

spaced_line : (words : List Word) → list_all is_word words ≡ true → is_line (flat_map (λ w. space ∷ w) words) ≡ true
spaced_line [] h = refl
spaced_line (word ∷ words) h =
    let p = and_parts (is_word word) _ h in
    let q = and_parts (is_some_octets word && is_solid word) _ p.0 in
    lines_join (space ∷ word) (flat_map (λ w. space ∷ w) words) q.1 (spaced_line words p.1)
  where
    lines_join : (xs ys : List ℕ) → is_line xs ≡ true → is_line ys ≡ true → is_line (xs ++ ys) ≡ true
    lines_join xs ys h g =
        let a = and_parts (is_clean xs) _ h in
        let b = and_parts (is_clean ys) _ g in
        and_from (is_clean (xs ++ ys)) _ (list_all-append _ xs ys ∙ and_from _ _ a.0 b.0) (list_all-append _ xs ys ∙ and_from _ _ a.1 b.1)

-- the line of a header is a line
field_is_line : (start : Start) → ((xs : List ℕ) → is_line (start ++ xs) ≡ is_line xs) → (words : List Word) → list_all is_word words ≡ true → (rest : List Line)
    → AllByRecursion (λ line. IsTrue (is_line line)) rest → AllByRecursion (λ line. IsTrue (is_line line)) (field_line start words ++ rest)
field_is_line start plain [] h rest r = r
field_is_line start plain (word ∷ words) h rest r = (plain (flat_map (λ w. space ∷ w) (word ∷ words)) ∙ spaced_line (word ∷ words) h, r)

-- so are all of them
pub field_lines_are_lines : (fields : Fields) → AreWords fields → AllByRecursion (λ line. IsTrue (is_line line)) (field_lines fields)
field_lines_are_lines fields words =
    field_is_line (codes "Subject:") (λ xs. refl) fields.subject (words Subject) _
    (field_is_line (codes "From:") (λ xs. refl) fields.from (words From) _
    (field_is_line (codes "Date:") (λ xs. refl) fields.date (words Date) _
    (field_is_line (codes "References:") (λ xs. refl) fields.references (words References) [] tt)))
