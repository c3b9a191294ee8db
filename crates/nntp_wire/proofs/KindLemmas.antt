-- Most lines have the kind Other by their first letter.
use Rattle.std.proofs.{Common.{◌≡◌, ℕ, ◌<◌, Bool, true, false, ◌⊎◌, ◌||◌, List, [], ◌∷◌, length, get_or, arith, refl, sym, ◌∙◌, ap}, lemmas.Bool.{false≢true}}
use Rattle.std.{proofs.lemmas.List.Splits.{slice_split-cons_no}, specs.{Prelude.{◌==◌, ⊤}, List.{find, filter, onto_first, slice_split}, Option.{option_map}}}
use Rattle.std.specs.Char.{to_ascii_lowercase}
use Rattle.nntp_wire.specs.{Octets.{is_blank}, Words.{words_of, is_some_octets, is_same_word}, Answer.{to}, Command.{Request, keywords, form_of, request_by}}
use Rattle.nntp_wire.specs.Command.{request_by_keyword, request_of_words, request_as, capabilities_of, overview_keywords}
use Rattle.nntp_wire.specs.{declared.{overviews.Overviews.{Overviews}, prompt_kind.PromptKind.TheVariants.{Other}}, Inner.Prompts.{prompt_kind}}
use Rattle.nntp_wire.proofs.KeywordLemmas.{lower_first, same_lower}

-- the word begins as LISTGROUP, MODE or QUIT does, in either case
abbrev pub begins_kind : List ℕ → Bool
begins_kind word = let b = to_ascii_lowercase (get_or word 0 0) in b == 108 || b == 109 || b == 113

-- what the words after a keyword make has the kind Other
abbrev MakesOther : (List (List ℕ) → Request) → Type 0
MakesOther makes = (arguments : List (List ℕ)) → prompt_kind (to (makes arguments)) ≡ Other

capabilities_other : MakesOther capabilities_of
capabilities_other h = grind arith

-- each keyword begins so, or makes the kind Other
abbrev AllMakeOther : List (List ℕ × (List (List ℕ) → Request)) → Type 0
AllMakeOther [] = ⊤
AllMakeOther (row ∷ rows) = ((begins_kind row.0 ≡ true) ⊎ MakesOther row.1) × AllMakeOther rows

overviews_other : (overviews : Overviews) → AllMakeOther (overview_keywords overviews)
overviews_other overviews = grind arith

keywords_other : (overviews : Overviews) → AllMakeOther (keywords overviews)
keywords_other overviews = grind (arith, capabilities_other, overviews_other)

-- words that are the same begin with the same letter
same_begin : (word other : List ℕ) → is_same_word word other ≡ true → begins_kind word ≡ begins_kind other
same_begin word other is = ap (λ b. b == 108 || b == 109 || b == 113) (lower_first word ∙ ap (λ bs. get_or bs 0 0) (same_lower word other is) ∙ sym (lower_first other))

-- a keyword that is looked up among these
found_other : (word : List ℕ) (rows : List (List ℕ × (List (List ℕ) → Request))) (is_short : Bool) (arguments : List (List ℕ)) → AllMakeOther rows → begins_kind word ≡ false
    → prompt_kind (to (request_by is_short (option_map (λ row. row.1) (find (λ row. is_same_word word row.0) rows)) arguments)) ≡ Other
found_other word [] is_short arguments all begins = refl
found_other word (row ∷ rows) is_short arguments all begins = grind (arith, found_other word rows is_short arguments all.1 begins, false≢true, same_begin)

keyword_other : (overviews : Overviews) (word : List ℕ) (is_short : Bool) (arguments : List (List ℕ)) → begins_kind word ≡ false
    → prompt_kind (to (request_by_keyword overviews is_short word arguments)) ≡ Other
unfolding form_of
keyword_other overviews word is_short arguments begins = found_other word (keywords overviews) is_short arguments (keywords_other overviews) begins

-- the first word begins with the first octet, if that is no blank
first_word : (b : ℕ) (bs : List ℕ) → is_blank b ≡ false → (word : List ℕ) × (others : List (List ℕ)) × (words_of (b ∷ bs) ≡ (b ∷ word) ∷ others)
first_word b bs plain =
    let e : words_of (b ∷ bs) ≡ filter is_some_octets (onto_first b (slice_split is_blank bs)) = ap (filter is_some_octets) (slice_split-cons_no is_blank b bs plain) in
    grind arith

first_other : (overviews : Overviews) (len : ℕ) (word : List ℕ) (arguments : List (List ℕ)) → begins_kind word ≡ false → prompt_kind (to (request_of_words overviews len (word ∷ arguments))) ≡ Other
first_other overviews len word arguments begins = grind (arith, keyword_other)

words_other : (overviews : Overviews) (len : ℕ) (rest : List ℕ) → (0 < length rest → is_blank (get_or rest 0 0) ≡ false) → begins_kind rest ≡ false
    → prompt_kind (to (request_of_words overviews len (words_of rest))) ≡ Other
words_other overviews len [] plain begins = refl
words_other overviews len (b ∷ bs) plain begins =
    let first = first_word b bs (plain (omega arith)) in
    ap (λ words. prompt_kind (to (request_of_words overviews len words))) first.2 ∙ first_other overviews len (b ∷ first.0) first.1 begins

-- a line of which the first word begins otherwise
pub line_other : (overviews : Overviews) (line rest : List ℕ) → words_of rest ≡ words_of line → (0 < length rest → is_blank (get_or rest 0 0) ≡ false) → begins_kind rest ≡ false
    → prompt_kind (to (request_as overviews line)) ≡ Other
line_other overviews line rest same plain begins = grind (arith, words_other)
