-- The headers of lines, from the front.
use Rattle.std.proofs.{Common.{◌≡◌, ℕ, suc, ◌+◌, Bool, true, false, List, [], ◌∷◌, take, drop, refl, sym, ◌∙◌, ap, arith}, lemmas.Bool.{and_parts}}
use Rattle.std.{proofs.lemmas.Bool.Decides.{nat_tests}, specs.{Prelude.{◌&&◌}, List.{list_all, prefix_len, before_first}}}
use Rattle.nntp_article.specs.{Article.Parts.{Line, is_colon, name_of, is_continuation, begins_header, is_header, headers, is_head}, Inner.Parts.{is_head_line}}
use Rattle.nntp_article.specs.Inner.Parts.{more}

-- the lines behind those that continue the header before them
abbrev pub after : List Line → List Line
after lines = drop (prefix_len is_continuation lines) lines

pub one-more : (n : ℕ) → 1 + n ≡ suc n
one-more n = omega arith

pub more-yes : (line : Line) (lines : List Line) → is_continuation line ≡ true → more (line ∷ lines) ≡ line ∷ more lines
more-yes line lines h = rw (h, one-more (prefix_len is_continuation lines)) refl

pub more-no : (line : Line) (lines : List Line) → is_continuation line ≡ false → more (line ∷ lines) ≡ []
more-no line lines h = rw h refl

pub after-yes : (line : Line) (lines : List Line) → is_continuation line ≡ true → after (line ∷ lines) ≡ after lines
after-yes line lines h = rw (h, one-more (prefix_len is_continuation lines)) refl

pub after-no : (line : Line) (lines : List Line) → is_continuation line ≡ false → after (line ∷ lines) ≡ line ∷ lines
after-no line lines h = rw h refl

-- the first line takes what continues it
pub headers-cons : (line : Line) (lines : List Line) → headers (line ∷ lines) ≡ (line ∷ more lines) ∷ headers (after lines)
headers-cons line [] = refl
headers-cons line (next ∷ lines) = grind (arith, more-yes, after-yes, more-no, after-no, headers-cons next lines)

-- those that continue do
pub more-all : (lines : List Line) → list_all is_continuation (more lines) ≡ true
more-all [] = refl
more-all (line ∷ lines) = grind (arith, more-yes, more-no, more-all lines)

-- a first line behind which others follow
first_and_more : (line : Line) (lines : List Line) → is_header (line ∷ more lines) ≡ begins_header line
first_and_more line lines = rw (more-all lines) (grind (arith, nat_tests))

-- the lines that continue pass the test, and those behind them go on
behind-lines : (lines : List Line) → list_all is_header (headers (after lines)) ≡ list_all is_head_line lines
behind-lines [] = refl
behind-lines (line ∷ lines) = grind (arith, after-yes, after-no, headers-cons, first_and_more, behind-lines lines)

-- the headers are headers exactly if the first line begins one and each other line may stand in a head
pub headers-lines : (line : Line) (lines : List Line) → list_all is_header (headers (line ∷ lines)) ≡ (begins_header line && list_all is_head_line lines)
headers-lines line lines = ap (list_all is_header) (headers-cons line lines) ∙ (rw (first_and_more line lines, behind-lines lines) refl)

pub is_head-lines : (line : Line) (lines : List Line) → is_head (line ∷ lines) ≡ (begins_header line && list_all is_head_line lines)
is_head-lines line lines = grind (arith, headers-cons, headers-lines)

-- what is said of the first line and of the others, where these are all lines
pub is_head-parts : (all whole : List Line) (first : Line) (rest : List Line) (b a : Bool)
    → whole ≡ first ∷ rest → whole ≡ all → b ≡ begins_header first → a ≡ list_all is_head_line rest → (b && a) ≡ is_head all
is_head-parts all whole first rest b a e is begins others = sym (ap is_head (sym is ∙ e) ∙ is_head-lines first rest ∙ (rw (begins, others) refl))

-- ---- the first header, split off

pub front-is : (lines rest : List Line) (first : Line) (n : ℕ) → lines ≡ first ∷ rest → n ≡ prefix_len is_continuation rest → take (1 + n) lines ≡ first ∷ more rest
front-is lines rest first n e is = rw (e, one-more n, is) refl

pub back-is : (lines rest : List Line) (first : Line) (n : ℕ) → lines ≡ first ∷ rest → n ≡ prefix_len is_continuation rest → drop (1 + n) lines ≡ after rest
back-is lines rest first n e is = rw (e, one-more n, is) refl

pub split-headers : (lines rest front back : List Line) (first : Line) (n : ℕ) → lines ≡ first ∷ rest
    → n ≡ prefix_len is_continuation rest → front ≡ take (1 + n) lines → back ≡ drop (1 + n) lines
    → headers lines ≡ front ∷ headers back
split-headers lines rest front back first n e is f b =
    ap headers e ∙ headers-cons first rest
    ∙ ap (λ t. t ∷ headers (after rest)) (sym (f ∙ front-is lines rest first n e is))
    ∙ ap (λ t. front ∷ headers t) (sym (b ∙ back-is lines rest first n e is))

-- it is a header, with the name of its first line
pub split-is_header : (lines rest front back : List Line) (first : Line) (n : ℕ) (name : List ℕ) → lines ≡ first ∷ rest
    → n ≡ prefix_len is_continuation rest → front ≡ take (1 + n) lines → back ≡ drop (1 + n) lines
    → list_all is_header (headers lines) ≡ true → name ≡ before_first is_colon first → (is_header front ≡ true) × (name ≡ name_of front)
split-is_header lines rest front back first n name e is f b all named =
    let whole = split-headers lines rest front back first n e is f b in
    grind (arith, and_parts, front-is)
