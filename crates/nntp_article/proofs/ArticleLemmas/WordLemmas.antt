-- The words of a content, and of the lines that it stands on.
use Rattle.std.proofs.{Common.{◌≡◌, ℕ, ◌<◌, Bool, true, false, List, [], ◌∷◌, ◌++◌, length, refl, sym, ◌∙◌, ap, arith, append-nil}, lemmas.Bool.{false≢true}}
use Rattle.std.{proofs.lemmas.{Bool.Decides.{nat_tests}, List.Splits.{slice_split-cons_yes, length-slice_split}}, specs.{Prelude.{◌&&◌}, List.{list_all}}}
use Rattle.std.specs.List.{flat_map, filter, concat, slice_split, onto_first}
use Rattle.nntp_wire.{specs.{Octets.{is_blank}, Words.{words_of}}, proofs.WordLemmas.{words_of-blank}}
use Rattle.nntp_article.specs.Article.Parts.{Line, is_continuation, skip_blanks, skip_last_blanks}

-- parts before a place that is split at, and behind it
split-append : (octets : List ℕ) (b : ℕ) (rest : List ℕ) → is_blank b ≡ true → slice_split is_blank (octets ++ b ∷ rest) ≡ slice_split is_blank octets ++ slice_split is_blank rest
split-append [] b rest h = slice_split-cons_yes is_blank b rest h
split-append (x ∷ xs) b rest h = at (is_blank x) refl (split-append xs b rest h) where
  onto : (parts more : List (List ℕ)) → 0 < length parts → onto_first x (parts ++ more) ≡ onto_first x parts ++ more
  onto parts more some = grind arith

  at : (v : Bool) → is_blank x ≡ v → slice_split is_blank (xs ++ b ∷ rest) ≡ slice_split is_blank xs ++ slice_split is_blank rest
      → slice_split is_blank ((x ∷ xs) ++ b ∷ rest) ≡ slice_split is_blank (x ∷ xs) ++ slice_split is_blank rest
  at v e others = grind (arith, length-slice_split, onto)

filter-append : (test : List ℕ → Bool) (xs ys : List (List ℕ)) → filter test (xs ++ ys) ≡ filter test xs ++ filter test ys
filter-append test [] ys = refl
filter-append test (x ∷ xs) ys = grind (arith, filter-append test xs ys)

-- no word goes over a blank
pub words-append : (octets : List ℕ) (b : ℕ) (rest : List ℕ) → is_blank b ≡ true → words_of (octets ++ b ∷ rest) ≡ words_of octets ++ words_of (b ∷ rest)
words-append octets b rest h = grind (arith, split-append, filter-append, words_of-blank)

-- no word goes over the end of a line that is continued
pub words-lines : (octets : List ℕ) (lines : List Line) → list_all is_continuation lines ≡ true → words_of (octets ++ concat lines) ≡ words_of octets ++ flat_map words_of lines
words-lines octets [] h = ap words_of (append-nil octets) ∙ sym (append-nil (words_of octets))
words-lines octets ([] ∷ lines) h = absurd (false≢true h)
words-lines octets ((b ∷ bs) ∷ lines) h =
    let both = parts (is_blank b) _ h in
    words-append octets b (bs ++ concat lines) both.0 ∙ ap (λ t. words_of octets ++ t) (words-lines (b ∷ bs) lines both.1)
  where
    parts : (a c : Bool) → (a && c) ≡ true → (a ≡ true) × (c ≡ true)
    parts a c e = grind (arith, nat_tests)

-- blanks have no word
pub words-blank : (octets : List ℕ) → list_all is_blank octets ≡ true → words_of octets ≡ []
words-blank [] h = refl
words-blank (b ∷ bs) h = grind (arith, words-blank bs)

-- blanks behind have none either
pub words-then_blank : (octets tail : List ℕ) → list_all is_blank tail ≡ true → words_of (octets ++ tail) ≡ words_of octets
words-then_blank octets [] h = ap words_of (append-nil octets)
words-then_blank octets (b ∷ bs) h = grind (arith, words-append, words-blank, append-nil, nat_tests)

pub skip-blank : (b : ℕ) (bs : List ℕ) → is_blank b ≡ true → skip_blanks (b ∷ bs) ≡ skip_blanks bs
skip-blank b bs e = rw e refl

pub skip-other : (b : ℕ) (bs : List ℕ) → is_blank b ≡ false → skip_blanks (b ∷ bs) ≡ b ∷ bs
skip-other b bs e = rw e refl

pub words-skip : (octets : List ℕ) → words_of (skip_blanks octets) ≡ words_of octets
words-skip [] = refl
words-skip (b ∷ bs) = grind (arith, words-skip bs)

-- what is cut off at the end is blank
pub record EndsBlank (octets : List ℕ) : Type 0 where
  pub tail : List ℕ
  pub blank : list_all is_blank tail ≡ true
  pub whole : octets ≡ skip_last_blanks octets ++ tail

pub ends_blank : (octets : List ℕ) → EndsBlank octets
ends_blank [] = record { tail = []; blank = refl; whole = refl }
ends_blank (b ∷ bs) = at (list_all is_blank (b ∷ bs)) refl (ends_blank bs) where
  at : (v : Bool) → list_all is_blank (b ∷ bs) ≡ v → EndsBlank bs → EndsBlank (b ∷ bs)
  at true e rest = record { tail = b ∷ bs; blank = e; whole = rw e refl }
  at false e rest = record { tail = rest.tail; blank = rest.blank; whole = rw e (ap (λ t. b ∷ t) rest.whole) }

pub words-skip_last : (octets : List ℕ) → words_of (skip_last_blanks octets) ≡ words_of octets
words-skip_last octets =
    let end = ends_blank octets in
    sym (words-then_blank (skip_last_blanks octets) end.tail end.blank) ∙ ap words_of (sym end.whole)
