-- Octets spell one response.
use Rattle.std.proofs.{Common.{arith, ◌≡◌, ℕ, List, [], ◌∷◌, drop, refl, sym, ◌∙◌, ap, map, Option, None, Some}, lemmas.Bool.{false≢true}}
use Rattle.std.specs.Prelude.{is_some}
use Rattle.nntp_wire.specs.{Block.{stuffed, unstuffed}, Answer.{Asked, Success, Response, numbers_are, sends, Spells, Says, SaysNumbers, SaysArticle, kind_of}}
use Rattle.nntp_wire.{specs.{Answer.{status_of, is_block_due, block_octets, IsCleanBlock}, declared.kind.Kind.{Kind}}, proofs.ArgumentLemmas.{one-article}}
use Rattle.nntp_wire.proofs.{ArgumentLemmas.{one-group}, SpellLemmas.{clean-line, one_block, sent-lines, status-clean}, BlockLemmas.{unstuffed-stuffed}}
use Rattle.nntp_wire.proofs.FrameLemmas.{one_line}

same_success : (s t : Success) → s.code ≡ t.code → s.number ≡ t.number → s.id ≡ t.id → s.block ≡ t.block → s ≡ t
same_success s t c n i b = grind arith

one_by_numbers : (bytes : List ℕ) (lines : List (List ℕ)) (r o : Response) → SaysNumbers bytes lines r → SaysNumbers bytes lines o → r ≡ o
one_by_numbers bytes lines (numbers_are m n ls) (numbers_are o n' ms) p q =
    let g = one-group bytes m o n n' p.0 q.0 in
    grind arith
one_by_numbers bytes lines r o p q = grind arith

one_by_article : (code : ℕ) (bytes : List ℕ) (block : Option (List (List ℕ))) (r o : Response) → SaysArticle code bytes block r → SaysArticle code bytes block o → r ≡ o
one_by_article code bytes block (sends s) (sends t) p q =
    let g = one-article bytes s.number t.number s.id t.id p.1 q.1 in
    ap sends (same_success s t (p.0 ∙ sym q.0) g.0 g.1 (p.2 ∙ sym q.2))
one_by_article code bytes block r o p q = grind arith

-- the octets behind a code and a block say one thing
one_meaning : (k : Kind) (code : ℕ) (bytes : List ℕ) (block : Option (List (List ℕ))) (r o : Response) → Says k code bytes block r → Says k code bytes block o → r ≡ o
one_meaning k code bytes block r o p q = search (arith, one-group, one_by_numbers, one_by_article)

map-unstuffed : (lines : List (List ℕ)) → map unstuffed (map stuffed lines) ≡ lines
map-unstuffed [] = refl
map-unstuffed (l ∷ ls) = rw (unstuffed-stuffed l, map-unstuffed ls) refl

-- blocks that are sent alike are alike
pub one-sent : (b c : Option (List (List ℕ))) → is_some b ≡ is_some c → IsCleanBlock b → IsCleanBlock c → block_octets b ≡ block_octets c → b ≡ c
one-sent None None same p q e = refl
one-sent b c same p q e = grind (arith, false≢true, one_block, sent-lines, map-unstuffed)

-- octets spell one response
pub one-response : (asked : Asked) (response other : Response) (bytes : List ℕ) → Spells asked response bytes → Spells asked other bytes → response ≡ other
one-response asked response other bytes s t =
    let first = one_line s.line t.line (block_octets s.block) (block_octets t.block)
    (clean-line s.line (status-clean asked s.line s.code s.status))
    (clean-line t.line (status-clean asked t.line t.code t.status)) (sym s.whole ∙ t.whole) in
    let codes_are : Some s.code ≡ Some t.code = sym s.status ∙ ap (status_of asked) first.0 ∙ t.status in
    let code : s.code ≡ t.code = cc in
    let block : s.block ≡ t.block = one-sent s.block t.block (s.due ∙ ap (is_block_due asked) code ∙ sym t.due) s.clean t.clean first.1 in
    one_meaning (kind_of asked s.code) s.code (drop 3 s.line) s.block response other s.says (rw (code, block, first.0) t.says)
