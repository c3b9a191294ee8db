-- What lines say, one after the other.
use Rattle.std.proofs.Common.{arith, ◌≡◌, ◌∙◌, ap, refl, sym, ℕ, zero, suc, ◌-◌, Bool, true, cond, List, [], ◌∷◌, ◌++◌, length, take, Option, append_assoc}
use Rattle.std.{proofs.{Common.{Result}, lemmas.List.Concat.{flat_map-append}}, specs.{Prelude.{OnOk, IsTrue, codes, if◌then◌else◌}, List.{flat_map, list_any}}}
use Rattle.std.specs.Result.{is_ok}
use Rattle.nntp_article.specs.Article.{Parts.{Id, Line, is_empty, head_part, body_part}, Fields.{Word}}
use Rattle.nntp_wire.specs.Octets.{space}
use Rattle.nntp_said.specs.Facts.{Fact}
use Rattle.nntp_theory.specs.Conflict.{Point, Article}
use Rattle.nntp_explain.specs.{Reasons.{octets_line}, Says.{says, article_line, spaced}}
use Rattle.nntp_printing.specs.{Printing.{escaped}, BadAnswer.{shown}}

-- one piece more
pub one_more : (text s x one two : List ℕ) → one ≡ text ++ s → two ≡ one ++ x → two ≡ text ++ (s ++ x)
one_more text s x one two first second = grind (arith, append_assoc)

-- two pieces more
pub two_more : (text s x y one two : List ℕ) → one ≡ text ++ s → two ≡ one ++ x ++ y → two ≡ text ++ (s ++ x ++ y)
two_more text s x y one two first second = grind (arith, append_assoc)

-- three pieces more
pub three_more : (text s x y z one two : List ℕ) → one ≡ text ++ s → two ≡ one ++ x ++ y ++ z → two ≡ text ++ (s ++ x ++ y ++ z)
three_more text s x y z one two first second = grind (arith, append_assoc)

-- where no line is empty, all lines are the head, and none is the body
pub no_parts : (lines : List Line) → ¬ (IsTrue (list_any is_empty lines)) → (lines ≡ head_part lines) × ([] ≡ body_part lines)
no_parts [] none = (refl, refl)
no_parts ([] ∷ lines) none = absurd (none refl)
no_parts ((c ∷ cs) ∷ lines) none = let rest = no_parts lines none in (ap (λ ls. (c ∷ cs) ∷ ls) rest.0, rest.1)

-- a text that goes on, where there is no error
pub extended : {T E : Type 0} (r : Result T E) (new old more : List ℕ) → new ≡ (if is_ok r then old ++ more else old) → OnOk r (new ≡ old ++ more)
extended r new old more is = grind arith

-- a line of a label and octets is another text, that is the same
pub line_told : (text label octets other new : List ℕ) → new ≡ text ++ label ++ escaped octets ++ 10 ∷ [] → octets_line label octets ≡ other → new ≡ text ++ other
line_told text label octets other new is same = grind (arith, append_assoc)

-- a line of a label and octets is what a fact says of an article, which is told under a test
pub told_article : (line : Option ℕ) (point : Point) (other : Id) (fact : Fact) (text label octets new : List ℕ) (b : Bool) → point ≡ Article other
    → article_line other fact ≡ cond b (octets_line label octets) [] → b ≡ true → new ≡ text ++ label ++ escaped octets ++ 10 ∷ [] → new ≡ text ++ says line point fact
told_article line point other fact text label octets new b is by t put =
    let same = ap (λ b. cond b (octets_line label octets) []) (sym t) ∙ sym by ∙ ap (λ p. says line p fact) (sym is) in
    line_told text label octets (says line point fact) new put same

-- a line, and another between two texts that hang on a place
pub conflict_told : (text about rest : List ℕ) (said reasons : Option ℕ → List ℕ) (place told : Option ℕ) (one two three four : List ℕ)
    → one ≡ text ++ about → two ≡ one ++ said place → three ≡ two ++ rest → four ≡ three ++ reasons place → place ≡ told
    → four ≡ text ++ (about ++ said told ++ rest ++ reasons told)
conflict_told text about rest said reasons place told one two three four first second third fourth is = grind (arith, append_assoc)

-- a label and what stands behind it, and the end of the line
pub line_ended : (text label octets one two : List ℕ) → one ≡ text ++ (label ++ octets) → two ≡ one ++ 10 ∷ [] → two ≡ text ++ (label ++ octets ++ codes "\n")
line_ended text label octets one two first second = grind (arith, append_assoc)

-- ---- words, as far as there is room for them

-- of two lists there is room for the first, and for as much of the other as it leaves
take_both : (n : ℕ) (xs ys : List ℕ) → take n (xs ++ ys) ≡ take n xs ++ take (n - length xs) ys
take_both zero xs ys = grind arith
take_both (suc n) [] ys =
    let whole : suc n - 0 ≡ suc n = omega arith in
    ap (λ m. take m ys) (sym whole)
take_both (suc n) (x ∷ xs) ys = grind (arith, take_both n xs ys)

-- and so of what is printed of them
room_told : (text one two first more : List ℕ) (room left : ℕ) → one ≡ text ++ escaped (take room first) → left ≡ room - length first → two ≡ first ++ more
    → one ++ escaped (take left more) ≡ text ++ escaped (take room two)
room_told text one two first more room left told left-is is = grind (arith, append_assoc, flat_map-append, take_both)

-- behind the first word those that are left
pub words_begin : (text first : List ℕ) (left more : List Word) (one : List ℕ) (room : ℕ) → left ≡ more → one ≡ text ++ escaped (take 512 first) → room ≡ 512 - length first
    → one ++ escaped (take room (flat_map (λ w. space ∷ w) left)) ≡ text ++ escaped (shown (spaced (first ∷ more)))
words_begin text first left more one room is told room-is =
    ap (λ ws. one ++ escaped (take room (flat_map (λ w. space ∷ w) ws))) is
    ∙ room_told text one (first ++ flat_map (λ w. space ∷ w) more) first (flat_map (λ w. space ∷ w) more) 512 room told room-is refl

-- a space and a word more
pub word_told : (left more : List Word) (word text one two whole : List ℕ) (room mid end : ℕ) → left ≡ word ∷ more → one ≡ text ++ escaped (take room (space ∷ [])) → mid ≡ room - 1
    → two ≡ one ++ escaped (take mid word) → end ≡ mid - length word → text ++ escaped (take room (flat_map (λ w. space ∷ w) left)) ≡ whole
    → two ++ escaped (take end (flat_map (λ w. space ∷ w) more)) ≡ whole
word_told left more word text one two whole room mid end is first mid-is second end-is h =
    let words = flat_map (λ w. space ∷ w) more in
    let behind : two ++ escaped (take end words) ≡ one ++ escaped (take mid (word ++ words)) = room_told one two (word ++ words) word words mid end second end-is refl in
    let all : one ++ escaped (take mid (word ++ words)) ≡ text ++ escaped (take room (space ∷ word ++ words)) =
    room_told text one (space ∷ word ++ words) (space ∷ []) (word ++ words) room mid first mid-is refl in
    behind ∙ all ∙ ap (λ ws. text ++ escaped (take room (flat_map (λ w. space ∷ w) ws))) (sym is) ∙ h

-- what holds anyway holds where there is no error
pub surely : {A E P : Type 0} (r : Result A E) → P → OnOk r P
surely r p = grind arith
