-- Invented ids: they are message ids, and differ from one another.
use Rattle.std.{specs.{Str.Parse.{AllDigits, digits_value}, Prelude.{codes, decimal}, List.{list_all}}, proofs.lemmas.List.Folds.{list_all-append}}
use Rattle.std.proofs.{lemmas.{Str.Parse.{digit_from_value}, Bool.{and_from, le-leb}, Fmt.{decimal_is_IsNumeral_wide, length-decimal-le_wide}}, Common.{◌≡◌, ℕ}}
use Rattle.std.proofs.{Common.{◌+◌, ◌-◌, ◌<◌, ◌≤◌, ◌^◌, true, List, [], ◌∷◌, ◌++◌, length, take, drop, refl, arith, length-append}, Math.Seq.{take-append_seam}}
use Rattle.nntp_theory.specs.Given.{invented}
use Rattle.nntp_article.specs.Article.Parts.{Id}
use Rattle.nntp_wire.{specs.{Decided.{is_id_octet, ends_id}, Name.{IsMessageId}}, proofs.DecidedLemmas.{message_id-iff}}

-- the number of an invented id
pub invented_number : Id → ℕ
invented_number id = digits_value 10 (take (length (drop 2 id) - 18) (drop 2 id))

-- invented ids have different numbers
pub number-invented : (k : ℕ) → k < 10 ^ 64 → invented_number (invented k) ≡ k
unfolding invented_number
number-invented k small =
    let long : length (decimal k ++ codes "@invented.invalid>") - 18 ≡ length (decimal k) = omega (arith, length-append (decimal k) (codes "@invented.invalid>")) in
    grind (arith, take-append_seam, decimal_is_IsNumeral_wide)

-- digits are visible ASCII
digits_visible : (ds : List ℕ) → AllDigits 10 ds → list_all is_id_octet ds ≡ true
digits_visible [] h = refl
digits_visible (d ∷ ds) h = grind (arith, digit_from_value, and_from, le-leb, digits_visible ds h.1)

-- digits before the end
ends_behind : (ds cs : List ℕ) → AllDigits 10 ds → ends_id cs ≡ true → ends_id (ds ++ cs) ≡ true
ends_behind [] cs h e = e
ends_behind (d ∷ ds) cs h e = grind (arith, digit_from_value d h.0, ends_behind ds cs h.1 e)

-- an invented id is a message id
pub invented_is_id : (k : ℕ) → k < 10 ^ 64 → IsMessageId (invented k)
invented_is_id k small =
    let n = (decimal_is_IsNumeral_wide k small).0.1 in
    let long : length (invented k) ≡ 20 + length (decimal k) = omega (arith, length-append (decimal k) (codes "@invented.invalid>")) in
    let most : length (decimal k) ≤ 64 = length-decimal-le_wide 64 k (omega arith) small small in
    (message_id-iff (invented k)).0
    (grind (arith, and_from, le-leb, list_all-append, digits_visible, ends_behind))
