-- The headers and the parts of lines are determined.
use Rattle.std.proofs.{Common.{◌≡◌, ◌↔◌, Bool, true, false, List, [], ◌∷◌, ◌++◌, refl, sym, ◌∙◌, ap, arith, IsTrue}, lemmas.Bool.{false≢true, and_parts}}
use Rattle.std.{proofs.lemmas.Bool.{and_from, not-true}, specs.List.{list_any, list_all, flat_map}}
use Rattle.nntp_wire.specs.Octets.{is_blank}
use Rattle.nntp_article.specs.Article.Parts.{Line, Header, is_empty, is_colon, is_continuation, begins_header, is_header, with_line, headers, is_head}
use Rattle.nntp_article.{specs.{Article.Parts.{head_part, body_part}, Inner.Parts.{AreHeaders, AreParts, more}}, proofs.ArticleLemmas.HeadLemmas.{after}}
use Rattle.nntp_article.proofs.ArticleLemmas.{HeadLemmas.{more-yes, more-no, after-yes, after-no, headers-cons}, PartLemmas.{parts-split}}

abbrev flat : List Header → List Line
flat hs = flat_map (λ header. header) hs

flat-with : (line : Line) (hs : List Header) → flat (with_line line hs) ≡ line ∷ flat hs
flat-with line hs = grind arith

-- the headers are all the lines
flat-headers : (lines : List Line) → flat (headers lines) ≡ lines
flat-headers [] = refl
flat-headers (line ∷ lines) = flat-with line (headers lines) ∙ ap (λ t. line ∷ t) (flat-headers lines)

pub head-iff : (lines : List Line) → IsTrue (is_head lines) ↔ AreHeaders lines (headers lines)
head-iff lines = grind (arith, and_parts, not-true, flat-headers, and_from)

-- a line that begins a header continues none
begins-no : (line : Line) → begins_header line ≡ true → is_continuation line ≡ false
begins-no [] h = refl
begins-no (b ∷ bs) h = at (is_colon b) refl where
  at : (v : Bool) → is_colon b ≡ v → is_blank b ≡ false
  at v e = grind arith

-- lines that continue, in front of lines that begin with a header
more-append : (lines rest : List Line) → list_all is_continuation lines ≡ true → more rest ≡ [] → more (lines ++ rest) ≡ lines
more-append [] rest all none = none
more-append (line ∷ lines) rest all none =
    let both = and_parts (is_continuation line) _ all in
    more-yes line (lines ++ rest) both.0 ∙ ap (λ t. line ∷ t) (more-append lines rest both.1 none)

after-append : (lines rest : List Line) → list_all is_continuation lines ≡ true → after rest ≡ rest → after (lines ++ rest) ≡ rest
after-append [] rest all same = same
after-append (line ∷ lines) rest all same =
    let both = and_parts (is_continuation line) _ all in
    after-yes line (lines ++ rest) both.0 ∙ after-append lines rest both.1 same

-- headers begin with no continuation line
begin : (hs : List Header) → list_all is_header hs ≡ true → (more (flat hs) ≡ []) × (after (flat hs) ≡ flat hs)
begin [] all = (refl, refl)
begin ([] ∷ hs) all = absurd (false≢true all)
begin ((first ∷ others) ∷ hs) all = grind (arith, and_parts, begins-no, more-no, after-no)

-- headers one after the other are those of their lines
pub headers-flat : (hs : List Header) → list_all is_header hs ≡ true → headers (flat hs) ≡ hs
headers-flat [] all = refl
headers-flat ([] ∷ hs) all = absurd (false≢true all)
headers-flat ((first ∷ others) ∷ hs) all =
    let both = and_parts (is_header (first ∷ others)) _ all in
    grind (arith, and_parts, begin, headers-cons, after, more-append, after-append, headers-flat hs both.1)

pub one-way : (lines : List Line) (hs : List Header) → AreHeaders lines hs → hs ≡ headers lines
one-way lines hs are = sym (ap headers are.whole ∙ headers-flat hs are.each)

-- ---- parts

round_empty : (lines : List Line) → list_any is_empty lines ≡ true → AreParts lines (head_part lines) (body_part lines)
round_empty ((c ∷ cs) ∷ lines) h = let rest = round_empty lines h in record { whole = ap (λ t. (c ∷ cs) ∷ t) rest.whole; none = rest.none }
round_empty lines h = grind arith

pub parts-iff : (lines head body : List Line) → AreParts lines head body ↔ (IsTrue (list_any is_empty lines) × (head ≡ head_part lines) × (body ≡ body_part lines))
parts-iff lines head body = (to, from) where
  to : AreParts lines head body → IsTrue (list_any is_empty lines) × (head ≡ head_part lines) × (body ≡ body_part lines)
  to are =
      let p = parts-split head body are.none in
      (ap (list_any is_empty) are.whole ∙ p.2, sym (ap head_part are.whole ∙ p.0), sym (ap body_part are.whole ∙ p.1))

  from : IsTrue (list_any is_empty lines) × (head ≡ head_part lines) × (body ≡ body_part lines) → AreParts lines head body
  from h = let are = round_empty lines h.0 in rw (h.1, h.2) are
