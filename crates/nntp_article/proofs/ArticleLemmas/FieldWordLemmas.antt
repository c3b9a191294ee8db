-- The words of a header, line by line, and the first header of a name.
use Rattle.std.proofs.{Common.{◌≡◌, ℕ, Bool, true, false, List, [], ◌∷◌, Some, refl, sym, ◌∙◌, ap, arith}, lemmas.Bool.{false≢true, Decides.{nat_tests}}}
use Rattle.std.specs.List.{flat_map, before_first, after_first}
use Rattle.nntp_wire.specs.{Octets.{is_blank}, Words.{words_of, is_same_word}}
use Rattle.nntp_article.specs.Article.{Parts.{Line, is_colon, is_continuation, headers, is_named}, Fields.{name_of_field, words_named}}
use Rattle.nntp_article.specs.{Inner.{Fields.{words_left}, Parts.{more}}, declared.article.field.Field.{Field, TheVariants.{Subject, From, Date, References}}}
use Rattle.nntp_article.proofs.ArticleLemmas.{HeadLemmas.{after, more-yes, more-no, after-yes, after-no, headers-cons}, LineLemmas.{name-plain}}

-- ---- line by line

-- where the words of a line are read, those of the lines that continue it are left
pub next_line : (line : Line) (lines : List Line) → is_continuation line ≡ true → words_left [] (Some (line ∷ lines)) ≡ words_left (words_of line) (Some lines)
next_line line lines h = ap (flat_map words_of) (more-yes line lines h)

-- none are, where a line begins another header
pub last_line : (line : Line) (lines : List Line) → is_continuation line ≡ false → words_left [] (Some (line ∷ lines)) ≡ []
last_line line lines h = ap (flat_map words_of) (more-no line lines h)

-- ---- the first header of a name

-- a blank begins none of the four names
no_blank : (field : Field) (b : ℕ) (rest : List ℕ) → is_blank b ≡ true → is_same_word (b ∷ rest) (name_of_field field) ≡ false
no_blank Subject b rest h = grind (arith, nat_tests)
no_blank From b rest h = grind (arith, nat_tests)
no_blank Date b rest h = grind (arith, nat_tests)
no_blank References b rest h = grind (arith, nat_tests)

no_colon : (b : ℕ) → is_blank b ≡ true → is_colon b ≡ false
no_colon b h = grind (arith, nat_tests)

-- so no line that continues a header has one
not_named : (field : Field) (line : Line) (others : List Line) → is_continuation line ≡ true → is_named (name_of_field field) (line ∷ others) ≡ false
not_named field [] others h = absurd (false≢true h)
not_named field (b ∷ bs) others h = ap (λ name. is_same_word name (name_of_field field)) (name-plain b bs (no_colon b h)) ∙ no_blank field b (before_first is_colon bs) h

-- the lines that continue a header are passed over
behind : (field : Field) (lines : List Line) → words_named (name_of_field field) (headers (after lines)) ≡ words_named (name_of_field field) (headers lines)
behind field [] = refl
behind field (line ∷ lines) = at (is_continuation line) refl where
  at : (v : Bool) → is_continuation line ≡ v → words_named (name_of_field field) (headers (after (line ∷ lines))) ≡ words_named (name_of_field field) (headers (line ∷ lines))
  at true e = ap (λ ls. words_named (name_of_field field) (headers ls)) (after-yes line lines e)
      ∙ sym (ap (words_named (name_of_field field)) (headers-cons line lines) ∙ (rw (not_named field line (more lines) e) refl))
  at false e = ap (λ ls. words_named (name_of_field field) (headers ls)) (after-no line lines e)

-- a line of the name has its words, and those of the lines that continue it
pub named_here : (name : List ℕ) (line : Line) (lines : List Line) → is_same_word (before_first is_colon line) name ≡ true
    → words_named name (headers (line ∷ lines)) ≡ words_left (words_of (after_first is_colon line)) (Some lines)
named_here name line lines h = ap (words_named name) (headers-cons line lines) ∙ (rw h refl)

-- a line of another name is passed over
pub named_later : (field : Field) (line : Line) (lines : List Line) → is_same_word (before_first is_colon line) (name_of_field field) ≡ false
    → words_named (name_of_field field) (headers (line ∷ lines)) ≡ words_named (name_of_field field) (headers lines)
named_later field line lines h = ap (words_named (name_of_field field)) (headers-cons line lines) ∙ (rw h refl) ∙ behind field lines
