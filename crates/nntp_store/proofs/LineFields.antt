-- Words of a line, the value of digits, the one spelling of a number, and octets that stand in no name and no id.
use Rattle.std.proofs.Common.{◌≡◌, ℕ, suc, ◌^◌, ◌<◌, Bool, true, false, not, eqb, List, [], ◌∷◌, ◌++◌, Some, length, get_or, refl, subst, ◌∙◌, arith, ◌+◌, ◌-◌}
use Rattle.std.proofs.{Common.{◌*◌, ◌≤◌, take, rules, sym}, lemmas.{Bool.{and_from, and_parts, not-true, Decides.{nat_tests}}, Fmt.{digits_decimal}}}
use Rattle.std.proofs.lemmas.{Fmt.{digits_value-decimal, decimal-digits_value, decimal_nonempty, first_decimal, decimal_digit}, Int.Digits.{digits_value_more}}
use Rattle.std.proofs.lemmas.List.{append-nil, Folds.{list_all-append}, Splits.{join_with_byte-slice_split, slice_split_at, slice_split_none}}
use Rattle.std.proofs.lemmas.{List.Sums.{AllPass-from_list_all, list_all-from_AllPass}, Option.{cond_some}, Slice.Eq.{bytes_eq-Decides}}
use Rattle.std.proofs.lemmas.Str.{digit_value_digit, inside_one, Parse.{IsNumeralModel, numerals_by_value, digit_at, digits_value-take-le}}
use Rattle.std.specs.{Char.{is_ascii_digit, encode_utf8}, Fmt.{decimal}, List.{list_all}, Prelude.{◌↔◌, bytes_eq, codes, All}, Str.{encode_utf8_all}}
use Rattle.std.specs.Str.Parse.{digits_value}
use Rattle.nntp_article.specs.Article.Parts.{is_empty}
use Rattle.nntp_wire.{specs.{Decided.{is_group_name, is_message_id}, Name.{is_name_char}}, proofs.DecidedLemmas.{group_name-iff}}
use Rattle.nntp_content.proofs.MapEntries.{some_is}
use Rattle.nntp_store.specs.Fields.{fields_of, are_digits, is_decimal, is_count, value_of, number_and_id, opening_of, OpeningValue, Group, Article, End}
use Rattle.nntp_store.{specs.Text.{spaced, number_line, group_line, article_line}, proofs.SplitLines.{segments_at}}

-- ---- octets that are not there

abbrev pub lacks : ℕ → List ℕ → Bool
lacks c xs = list_all (λ x. not (eqb x c)) xs

pub list_all_weaken : {X : Type 0} (p q : X → Bool) → ((x : X) → p x ≡ true → q x ≡ true) → (xs : List X) → list_all p xs ≡ true → list_all q xs ≡ true
list_all_weaken p q imp xs h = list_all-from_AllPass q xs (λ k d lt. imp _ (AllPass-from_list_all p xs h k d lt))

pub lacks_from : (c : ℕ) (xs : List ℕ) → ((k : ℕ) → k < length xs → get_or xs k 0 ≡ c → ⊥) → lacks c xs ≡ true
lacks_from c [] h = refl
lacks_from c (x ∷ xs) h =
    let first : (x ≡ c → ⊥) = h 0 (omega arith) in
    grind (arith, nat_tests, and_from, lacks_from c xs (λ k lt. h (suc k) (omega arith)))

pub lacks-append : (c : ℕ) (xs ys : List ℕ) → lacks c xs ≡ true → lacks c ys ≡ true → lacks c (xs ++ ys) ≡ true
lacks-append c xs ys h g = list_all-append (λ x. not (eqb x c)) xs ys ∙ and_from (lacks c xs) (lacks c ys) h g

pub lacks-digits : (c : ℕ) (xs : List ℕ) → c < 48 → are_digits xs ≡ true → lacks c xs ≡ true
lacks-digits c xs lt h = list_all_weaken is_ascii_digit (λ x. not (eqb x c)) (λ x d. grind (arith, nat_tests)) xs h

lacks_all : (c : ℕ) (xs : List ℕ) → lacks c xs ≡ true → All (λ x. eqb x c ≡ false) xs
lacks_all c xs h k d lt = not-true _ (AllPass-from_list_all (λ x. not (eqb x c)) xs h k d lt)

pub parts_front : (c : ℕ) (xs ys : List ℕ) → lacks c xs ≡ true → segments_at c (xs ++ c ∷ ys) ≡ xs ∷ segments_at c ys
parts_front c xs ys h = slice_split_at (λ x. eqb x c) xs c ys (lacks_all c xs h) (grind (arith, nat_tests))

pub parts_one : (c : ℕ) (xs : List ℕ) → lacks c xs ≡ true → segments_at c xs ≡ xs ∷ []
parts_one c xs h = slice_split_none (λ x. eqb x c) xs (lacks_all c xs h)

-- ---- numbers

own : IsNumeralModel (λ ds. are_digits ds ≡ true) (digits_value 10)
own = numerals_by_value (λ ds. are_digits ds ≡ true) (search rules)

pub digit_least : (ds : List ℕ) (i : ℕ) → are_digits ds ≡ true → i < length ds → 48 ≤ get_or ds i 0
digit_least ds i all lt = (digit_at ds i (own.to ds all) lt).0

-- one more digit
pub value_more : (ds : List ℕ) (i v : ℕ) → are_digits ds ≡ true → i < length ds → v ≡ value_of (take i ds) → v * 10 + (get_or ds i 0 - 48) ≡ value_of (take (i + 1) ds)
value_more ds i v all lt e = grind (arith, digit_value_digit, digit_at, own, digits_value_more)

pub value_past : (ds : List ℕ) (i v : ℕ) → are_digits ds ≡ true → i < length ds → v ≡ value_of (take i ds) → v * 10 + (get_or ds i 0 - 48) ≤ value_of ds
value_past ds i v all lt e = let least = digits_value-take-le 10 ds (i + 1) (omega arith) in rw (value_more ds i v all lt e) least

pub are_digits-decimal : (n : ℕ) → n < 2 ^ 64 → are_digits (decimal n) ≡ true
are_digits-decimal n lt = digits_decimal own n lt

pub value_of-decimal : (n : ℕ) → n < 2 ^ 64 → value_of (decimal n) ≡ n
value_of-decimal n lt = digits_value-decimal own n lt

decimal_if : (ds : List ℕ) → (is_decimal ds ≡ true) ↔ ((are_digits ds ≡ true) × (0 < length ds) × (get_or ds 0 0 ≡ 48 → length ds ≡ 1))
decimal_if ds = (λ h. grind arith, λ h. grind arith)

pub is_decimal-decimal : (n : ℕ) → n < 2 ^ 64 → is_decimal (decimal n) ≡ true
is_decimal-decimal n lt = (decimal_if (decimal n)).1 (are_digits-decimal n lt, decimal_nonempty n lt, λ e. grind (arith, decimal_digit, first_decimal))

pub decimal-value_of : (ds : List ℕ) → is_decimal ds ≡ true → value_of ds < 2 ^ 64 → decimal (value_of ds) ≡ ds
decimal-value_of ds h lt = let is = (decimal_if ds).0 h in decimal-digits_value own ds is.0 is.1 is.2 lt

-- ---- the line of a number

pub words-number_line : (n : ℕ) (id : List ℕ) → n < 2 ^ 64 → lacks 32 id ≡ true → fields_of (number_line n id) ≡ decimal n ∷ id ∷ []
words-number_line n id lt word = grind (arith, parts_front 32 (decimal n) id, lacks-digits 32 (decimal n), are_digits-decimal n lt, parts_one 32 id word)

pub number_and_id-number_line : (n : ℕ) (id : List ℕ) → n < 2 ^ 64 → lacks 32 id ≡ true → is_empty id ≡ false → number_and_id (fields_of (number_line n id)) ≡ Some (n, id)
number_and_id-number_line n id lt word some = rw (words-number_line n id lt word, is_decimal-decimal n lt, some, value_of-decimal n lt) refl

-- a line of which a number and an id are read
number_words : (words : List (List ℕ)) (n : ℕ) (id : List ℕ) → number_and_id words ≡ Some (n, id) → (word : List ℕ) × (words ≡ word ∷ id ∷ []) × (is_decimal word ≡ true) × (value_of word ≡ n)
number_words words n id e = search (arith, some_is)

pub number_line-number_and_id : (l : List ℕ) (n : ℕ) (id : List ℕ) → n < 2 ^ 64 → number_and_id (fields_of l) ≡ Some (n, id) → l ≡ number_line n id
number_line-number_and_id l n id lt e = grind (arith, number_words (fields_of l) n id e, decimal-value_of, join_with_byte-slice_split 32 l)

-- ---- the lines that begin a group or an article, and the last one

same_bytes : (xs ys : List ℕ) → bytes_eq xs ys ≡ true → xs ≡ ys
same_bytes xs ys h = (bytes_eq-Decides xs ys).0 h

count_parts : (word : List ℕ) → is_count word ≡ true → (value_of word < 2 ^ 64) × (word ≡ decimal (value_of word))
count_parts word h = grind (arith, and_parts, nat_tests, decimal-value_of)

pub is_count-decimal : (n : ℕ) → n < 2 ^ 64 → is_count (decimal n) ≡ true
is_count-decimal n lt = grind (arith, nat_tests, and_from, is_decimal-decimal, value_of-decimal)

pub opening-group_line : (name : List ℕ) (count : ℕ) → lacks 32 name ≡ true → is_empty name ≡ false → count < 2 ^ 64 → opening_of (fields_of (group_line name count)) ≡ Some (Group name count)
opening-group_line name count word some lt =
    let digits = lacks-digits 32 (decimal count) (omega arith) (are_digits-decimal count lt) in
    rw (parts_front 32 name (decimal count) word, parts_one 32 (decimal count) digits, some, is_count-decimal count lt, value_of-decimal count lt) refl

pub opening-article_line : (id : List ℕ) (heads bodies : ℕ) → lacks 32 id ≡ true → is_empty id ≡ false → heads < 2 ^ 64
    → bodies < 2 ^ 64 → opening_of (fields_of (article_line id heads bodies)) ≡ Some (Article id heads bodies)
opening-article_line id heads bodies word some h b =
    let head_digits = lacks-digits 32 (decimal heads) (omega arith) (are_digits-decimal heads h) in
    let body_digits = lacks-digits 32 (decimal bodies) (omega arith) (are_digits-decimal bodies b) in
    rw (parts_front 32 id (decimal heads ++ 32 ∷ decimal bodies) word, parts_front 32 (decimal heads) (decimal bodies) head_digits, parts_one 32 (decimal bodies) body_digits) (
    rw (some, is_count-decimal heads h, is_count-decimal bodies b, value_of-decimal heads h, value_of-decimal bodies b) refl)

-- the line of which an item is read
abbrev pub OpeningLine : OpeningValue → List ℕ → Type 0
OpeningLine (Group name count) l = (count < 2 ^ 64) × (l ≡ group_line name count)
OpeningLine (Article id heads bodies) l = (heads < 2 ^ 64) × (bodies < 2 ^ 64) × (l ≡ article_line id heads bodies)
OpeningLine End l = l ≡ codes "end"

opening_words : (words : List (List ℕ)) (item : OpeningValue) → opening_of words ≡ Some item → OpeningLine item (spaced words)
opening_words [] item e = absurd cc
opening_words (w ∷ []) item e = grind (arith, cond_some, same_bytes)
opening_words (w ∷ x ∷ []) item e = absurd cc
opening_words (w ∷ x ∷ y ∷ []) item e = grind (arith, cond_some, and_parts, same_bytes w, count_parts y)
opening_words (w ∷ x ∷ y ∷ z ∷ []) item e = grind (arith, cond_some, and_parts, same_bytes w, count_parts y, count_parts z)
opening_words (w ∷ x ∷ y ∷ z ∷ u ∷ more) item e = absurd cc

pub opening_line : (l : List ℕ) (item : OpeningValue) → opening_of (fields_of l) ≡ Some item → OpeningLine item l
opening_line l item e = subst (OpeningLine item) (join_with_byte-slice_split 32 l) (opening_words (fields_of l) item e)

-- ---- octets that stand in no group name and in no message id

encode-lacks : (c d : ℕ) → c < 128 → (d ≡ c → ⊥) → lacks c (encode_utf8 d) ≡ true
encode-lacks c d lt other = lacks_from c (encode_utf8 d) (λ k inside e. other (inside_one d [] (encode_utf8 d) k (sym (append-nil (encode_utf8 d))) inside (omega (arith, e)) ∙ e))

encodes-lacks : (c : ℕ) (cs : List ℕ) → c < 128 → list_all (λ d. not (eqb d c)) cs ≡ true → lacks c (encode_utf8_all cs) ≡ true
encodes-lacks c [] lt h = refl
encodes-lacks c (d ∷ ds) lt h = grind (arith, and_parts, nat_tests, lacks-append, encode-lacks, encodes-lacks c ds lt)

is_other : (p : ℕ → Bool) (c d : ℕ) (b : Bool) → p c ≡ false → p d ≡ true → eqb d c ≡ b → not b ≡ true
is_other p c d b fails passes e = grind arith

pub name-lacks : (c : ℕ) (name : List ℕ) → c < 128 → is_name_char c ≡ false → is_group_name name ≡ true → lacks c name ≡ true
name-lacks c name lt fails h = grind (arith, group_name-iff name, list_all_weaken is_name_char, is_other is_name_char c, lacks c, encodes-lacks c)

pub name-some : (name : List ℕ) → is_group_name name ≡ true → is_empty name ≡ false
name-some name h = grind arith

pub id-lacks : (c : ℕ) (id : List ℕ) → c ≤ 32 → is_message_id id ≡ true → lacks c id ≡ true
id-lacks c id le h = grind (arith, and_parts, list_all_weaken, nat_tests)

pub id-some : (id : List ℕ) → is_message_id id ≡ true → is_empty id ≡ false
id-some id h = grind arith
