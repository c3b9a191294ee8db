use Rattle.std.proofs.Common.{arith, ◌≡◌, ℕ, ◌+◌, ◌<◌, length, ◌∷◌, List, Vec, true, drop, get_or, sym, ap, ◌∙◌, drop-cons, add-one, append_assoc}
use Rattle.std.specs.List.{list_all}
use Rattle.nntp_wire.specs.{Inner.Held.{held}, Octets.{is_clean}}
use Rattle.nntp_article.specs.Session.Spool.{is_line}
use Rattle.nntp_content.proofs.article.joined.Given.{Over}
use Rattle.nntp_content.proofs.article.joined.Goals as goal

-- what is left of the lines that are held, from this one on
split : (g : Over) (lines : List (Vec ℕ g.row.A.Denot)) (i : ℕ) (line : Vec ℕ g.row.A.Denot) (octets : List ℕ) → i < length lines
    → line ≡ get_or lines i line → octets ≡ line.items → held (drop i lines) ≡ octets ∷ held (drop (i + 1) lines)
split g lines i line octets lt is e =
    let first : drop i lines ≡ get_or lines i line ∷ drop (i + 1) lines = rw add-one (drop-cons lines i line lt) in
    ap held first ∙ ap (λ (v : Vec ℕ g.row.A.Denot). v.items ∷ held (drop (i + 1) lines)) (sym is) ∙ ap (λ (t : List ℕ). t ∷ held (drop (i + 1) lines)) (sym e)

-- the first of lines, and those behind it
first_is_line : (lines : List (List ℕ)) (line : List ℕ) (rest : List (List ℕ)) → lines ≡ line ∷ rest → list_all is_line lines ≡ true → (is_clean line ≡ true) × (list_all is_line rest ≡ true)
first_is_line lines line rest e all = grind arith

pub push-requires : goal.push-requires
push-requires g c = search (arith, split, first_is_line)

pub loop-line-preserved : goal.loop-line-preserved
loop-line-preserved g c =
    let i = c.loop-line.line-index in
    let line = c.as_slice.result.now in
    let rest = held (drop (i + 1) c.args.lines.now) in
    let e = split g c.args.lines.now i c.line-item.result line c.loop-line-test.true c.line-item.is c.as_slice.ensures.value in
    grind (arith, append_assoc, first_is_line)
