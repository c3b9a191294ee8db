-- A content is a message id exactly if that is its one word.
use Rattle.std.proofs.Common.{◌≡◌, ℕ, ◌<◌, Bool, true, false, List, [], ◌∷◌, ◌++◌, Option, None, Some, length, refl, sym, ◌∙◌, ap, arith, append-nil}
use Rattle.std.proofs.lemmas.{Bool.{lt-ltb, leb-true, and_parts, and_from, not-true, Decides.{nat_tests}}, List.Splits.{slice_split_none, slice_split_at}}
use Rattle.std.{proofs.lemmas.List.{Sums.{AllPass-from_list_all}, Folds.{list_all-append}}, specs.{Prelude.{not, if◌then◌else◌, ⊤}, List.{All, list_all}}}
use Rattle.nntp_wire.{specs.{Octets.{is_blank}, Words.{words_of}, Decided.{is_message_id, is_id_octet}}, proofs.WordLemmas.{words_of-blank}}
use Rattle.nntp_article.{specs.{Article.Parts.{Id, skip_blanks, skip_last_blanks}, Inner.SaidId.{id_of_words}}, proofs.ArticleLemmas.WordLemmas.{words-skip}}
use Rattle.nntp_article.proofs.ArticleLemmas.WordLemmas.{words-skip_last, skip-blank, skip-other}

-- none of the octets is a blank
abbrev pub is_solid : List ℕ → Bool
is_solid octets = list_all (λ b. not (is_blank b)) octets

solid-all : (octets : List ℕ) → is_solid octets ≡ true → All (λ b. is_blank b ≡ false) octets
solid-all octets h = λ k d low. not-true _ (AllPass-from_list_all (λ b. not (is_blank b)) octets h k d low)

-- octets without a blank are one word
pub words-solid : (word : List ℕ) → 0 < length word → is_solid word ≡ true → words_of word ≡ word ∷ []
words-solid word some solid = rw (slice_split_none is_blank word (solid-all word solid)) (rw (lt-ltb 0 (length word) some) refl)

-- also where a blank follows
pub words-solid_then : (word : List ℕ) (b : ℕ) (rest : List ℕ) → 0 < length word → is_solid word ≡ true → is_blank b ≡ true → words_of (word ++ b ∷ rest) ≡ word ∷ words_of rest
words-solid_then word b rest some solid h = rw (slice_split_at is_blank word b rest (solid-all word solid) h) (rw (lt-ltb 0 (length word) some) refl)

-- an octet of an id is no blank
id_octet : (b : ℕ) → is_id_octet b ≡ true → not (is_blank b) ≡ true
id_octet b h = grind (arith, nat_tests)

id_octets : (octets : List ℕ) → list_all is_id_octet octets ≡ true → is_solid octets ≡ true
id_octets [] h = refl
id_octets (b ∷ bs) h = let both = and_parts (is_id_octet b) _ h in and_from _ _ (id_octet b both.0) (id_octets bs both.1)

pub id-solid : (id : Id) → is_message_id id ≡ true → (0 < length id) × (is_solid id ≡ true)
id-solid id h = grind (arith, and_parts, leb-true, id_octets)

-- octets up to the first blank, and the rest
abbrev BeginsBlank : List ℕ → Type 0
BeginsBlank [] = ⊤
BeginsBlank (b ∷ bs) = is_blank b ≡ true

record Cut (octets : List ℕ) : Type 0 where
  word : List ℕ
  rest : List ℕ
  solid : is_solid word ≡ true
  begins : BeginsBlank rest
  whole : octets ≡ word ++ rest

cut : (octets : List ℕ) → Cut octets
cut [] = record { word = []; rest = []; solid = refl; begins = tt; whole = refl }
cut (b ∷ bs) = at (is_blank b) refl (cut bs) where
  at : (v : Bool) → is_blank b ≡ v → Cut bs → Cut (b ∷ bs)
  at true e more = record { word = []; rest = b ∷ bs; solid = refl; begins = e; whole = refl }
  at false e more = record { word = b ∷ more.word; rest = more.rest; solid = rw e more.solid; begins = more.begins; whole = ap (λ t. b ∷ t) more.whole }

-- the words of octets that begin with one
words-cut : (word rest : List ℕ) → 0 < length word → is_solid word ≡ true → BeginsBlank rest → (words : List (List ℕ)) × (words_of (word ++ rest) ≡ word ∷ words) × (words ≡ words_of rest)
words-cut word rest some solid begins = grind (arith, append-nil, words-solid, words-solid_then, words_of-blank)

-- octets without a word are blanks
blank-words : (octets : List ℕ) → words_of octets ≡ [] → list_all is_blank octets ≡ true
blank-words [] h = refl
blank-words (b ∷ bs) h = grind (arith, blank-words bs)

-- nothing of octets without a blank is cut off
skip_last-solid : (octets : List ℕ) → is_solid octets ≡ true → skip_last_blanks octets ≡ octets
skip_last-solid [] h = refl
skip_last-solid (b ∷ bs) h =
    let both = and_parts (not (is_blank b)) _ h in
    rw (not-true _ both.0) (ap (λ t. b ∷ t) (skip_last-solid bs both.1))

-- blanks at the end are
skip_last-blanks : (octets tail : List ℕ) → list_all is_blank tail ≡ true → skip_last_blanks (octets ++ tail) ≡ skip_last_blanks octets
skip_last-blanks [] [] h = refl
skip_last-blanks [] (b ∷ bs) h = rw h refl
skip_last-blanks (x ∷ xs) tail h = grind (arith, list_all-append, nat_tests, skip_last-blanks xs tail h)

-- octets of one word have it alone between their blanks
trimmed-word : (octets word : List ℕ) → words_of octets ≡ word ∷ [] → skip_last_blanks (skip_blanks octets) ≡ word
trimmed-word [] word h = cc
trimmed-word (b ∷ bs) word h = at (is_blank b) refl (trimmed-word bs word) (cut bs) where
  at : (v : Bool) → is_blank b ≡ v → (words_of bs ≡ word ∷ [] → skip_last_blanks (skip_blanks bs) ≡ word) → Cut bs → skip_last_blanks (skip_blanks (b ∷ bs)) ≡ word
  at true e rest c = ap skip_last_blanks (skip-blank b bs e) ∙ rest (sym (words_of-blank b bs e) ∙ h)
  at false e rest c =
      let solid : is_solid (b ∷ c.word) ≡ true = rw e c.solid in
      let is = words-cut (b ∷ c.word) c.rest (omega arith) solid c.begins in
      grind (arith, blank-words, skip-other, skip_last-blanks, skip_last-solid)

abbrev id_test : List ℕ → Option Id
id_test octets = if is_message_id octets then Some octets else None

-- a content is an id exactly if its words are
pub content-id : (octets : List ℕ) → id_test (skip_last_blanks (skip_blanks octets)) ≡ id_of_words (words_of octets)
content-id octets = at (is_message_id (skip_last_blanks (skip_blanks octets))) refl (words_of octets) refl where
  at : (v : Bool) → is_message_id (skip_last_blanks (skip_blanks octets)) ≡ v → (words : List (List ℕ)) → words_of octets ≡ words → id_test (skip_last_blanks (skip_blanks octets)) ≡ id_of_words words
  at true e words is =
      let t = skip_last_blanks (skip_blanks octets) in
      let s = id-solid t e in
      let one : words ≡ t ∷ [] = sym is ∙ sym (words-skip_last (skip_blanks octets) ∙ words-skip octets) ∙ words-solid t s.0 s.1 in
      sym (ap id_of_words one)
  at false e [] is = rw e refl
  at false e (word ∷ []) is = ap id_test (trimmed-word octets word is)
  at false e (word ∷ next ∷ words) is = rw e refl
