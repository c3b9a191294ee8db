-- A content, piece by piece.
use Rattle.std.proofs.{Common.{◌≡◌, ℕ, List, [], ◌∷◌, ◌++◌, length, take, refl, append_assoc, append-nil, arith}, lemmas.List.{take_at}}
use Rattle.std.specs.{Prelude.{if◌then◌else◌}, List.{concat, after_first}}
use Rattle.nntp_article.specs.Article.Parts.{Line, Header, is_empty, is_colon, skip_blanks, skip_last_blanks, content_of}
use Rattle.nntp_article.proofs.ArticleLemmas.WordLemmas.{ends_blank}

-- octets so far, with more behind them
abbrev pub joined : List ℕ → List ℕ → List ℕ
joined octets more = if is_empty octets then skip_blanks more else octets ++ more

skip-append : (octets more : List ℕ) → skip_blanks (octets ++ more) ≡ joined (skip_blanks octets) more
skip-append [] more = refl
skip-append (b ∷ bs) more = grind (arith, skip-append bs more)

-- two pieces are one
pub joined-joined : (octets piece more : List ℕ) → joined (joined octets piece) more ≡ joined octets (piece ++ more)
joined-joined octets piece more = grind (arith, skip-append, append_assoc)

joined-nil : (octets : List ℕ) → joined octets [] ≡ octets
joined-nil octets = grind (arith, append-nil)

-- the octets so far with those of the lines that are left give the content
pub record Leads (octets : List ℕ) (left : List Line) (header : Header) : Type 0 where
  pub content : skip_last_blanks (joined octets (concat left)) ≡ content_of header

pub leads-start : (octets value : List ℕ) (header : Header) (first : Line) (left : List Line) (start : List ℕ)
    → header ≡ first ∷ left → value ≡ after_first is_colon first → start ≡ [] → octets ≡ joined start value → Leads octets left header
leads-start octets value header first left start e is none o = grind (arith, joined-joined)

pub leads-more : (octets new : List ℕ) (before left : List Line) (line : Line) (header : Header) → Leads octets before header → before ≡ line ∷ left → new ≡ joined octets line → Leads new left header
leads-more octets new before left line header l e o = grind (arith, joined-joined)

-- cut to the length of what is not blank at the end
pub leads-end : (octets new trimmed : List ℕ) (left : List Line) (header : Header) → Leads octets left header → left ≡ []
    → trimmed ≡ skip_last_blanks octets → new ≡ take (length trimmed) octets → new ≡ content_of header
leads-end octets new trimmed left header l e is cut =
    let end = ends_blank octets in
    grind (arith, take_at, joined-nil)
