-- Whether octets begin with a spelling of some response can be decided.
use Rattle.std.proofs.Common.{◌≡◌, ◌↔◌, ℕ, ◌+◌, ◌≤◌, List, [], ◌++◌, length, Option, None, Some, ◌⊎◌, inl, inr, refl, sym, subst, ◌∙◌, arith, length-append}
use Rattle.nntp_wire.specs.{Answer.{Asked, Response, Spells, Says, block_octets, numbers_are, active_are, overviews_are}, Frame.{HasFrame, frame_octets}}
use Rattle.nntp_wire.{specs.{Misspelling.{misspelling}, declared.kind.Kind.{Kind}}, proofs.{Decide.{Dec, dec_by, dec_none}, SpellLemmas.{spelling-frame}}}
use Rattle.nntp_wire.proofs.{SpellLemmas.{one-frame}, ResponseLemmas.{one-response}, AnswerLemmas.{status-long}, FramesDecided.{dec_frame}}
use Rattle.nntp_wire.proofs.{MisspelledFrames.{misspelled-alone}, SubBlockLemmas.{length-lines}}

-- ---- one response at the front

-- octets begin with a spelling of one response
pub one-spelling : (asked : Asked) (r o : Response) (b d rest more : List ℕ) → Spells asked r b → Spells asked o d → b ++ rest ≡ d ++ more → (r ≡ o) × (b ≡ d)
one-spelling asked r o b d rest more s t e =
    let f = spelling-frame asked r b rest s in
    let g = spelling-frame asked o d more t in
    let same = one-frame asked (b ++ rest) f.0 g.0 f.1 g.1 rest more f.3 (subst (λ stream. HasFrame asked stream g.0 g.1 more) (sym e) g.3) in
    let octets : b ≡ d = sym f.2 ∙ (λ i. frame_octets (same.0 i) (same.1 i)) ∙ g.2 in
    (one-response asked r o b s (subst (Spells asked o) (sym octets) t), octets)

-- ---- whether there is one

-- the octets begin with a spelling
abbrev pub BeginsWithSpelling : Asked → List ℕ → Type 0
BeginsWithSpelling asked octets = (r : Response) × (b : List ℕ) × (rest : List ℕ) × Spells asked r b × (octets ≡ b ++ rest)

-- octets that begin with a spelling begin with its frame
spelled-frame : (asked : Asked) (octets : List ℕ) (h : BeginsWithSpelling asked octets)
    → (line : List ℕ) × (block : Option (List ℕ)) × (frame_octets line block ≡ h.1) × HasFrame asked octets line block h.2
spelled-frame asked octets (r, b, rest, s, e) =
    let f = spelling-frame asked r b rest s in (f.0, f.1, f.2, subst (λ t. HasFrame asked t f.0 f.1 rest) (sym e) f.3)

-- octets that begin with a frame begin with a spelling exactly if nothing is wrong with the frame
dec_framed : (asked : Asked) (octets line rest : List ℕ) (block : Option (List ℕ)) → HasFrame asked octets line block rest → Dec (BeginsWithSpelling asked octets)
dec_framed asked octets line rest block has = dec_by read unread (dec_none (misspelling asked line block)) where
  alone : (misspelling asked line block ≡ None) ↔ ((r : Response) × Spells asked r (frame_octets line block))
  alone = misspelled-alone asked (record { initial = line; block = block; len = length (frame_octets line block) })
      (record { is_line = has.is_line; before_dot_line = has.before_dot_line; len_is = refl })

  read : misspelling asked line block ≡ None → BeginsWithSpelling asked octets
  read e = let some = alone.0 e in (some.0, frame_octets line block, rest, some.1, has.whole)

  unread : BeginsWithSpelling asked octets → misspelling asked line block ≡ None
  unread h =
      let f = spelled-frame asked octets h in
      let same = one-frame asked octets f.0 line f.1 block h.2 rest f.3 has in
      alone.1 (h.0, subst (Spells asked h.0) (sym f.2 ∙ (λ i. frame_octets (same.0 i) (same.1 i))) h.3)

-- whether octets begin with a spelling
pub dec_spelling : (asked : Asked) (octets : List ℕ) → Dec (BeginsWithSpelling asked octets)
dec_spelling asked octets = elim (dec_frame asked octets) [
  | inl (line, block, rest, has) ↦ dec_framed asked octets line rest block has
  | inr none ↦ inr (λ h. let f = spelled-frame asked octets h in none (f.0, f.1, h.2, f.3))
]

-- the same, with each response apart
pub some-spelling : (asked : Asked) (octets : List ℕ)
    → ((r : Response) × (b : List ℕ) × (rest : List ℕ) × Spells asked r b × (octets ≡ b ++ rest)) ⊎ ((r : Response) (b rest : List ℕ) → Spells asked r b → octets ≡ b ++ rest → ⊥)
some-spelling asked octets = elim (dec_spelling asked octets) [ inl h ↦ inl h | inr none ↦ inr (λ r b rest s e. none (r, b, rest, s, e)) ]

-- ---- length

-- how many lines a response has
abbrev pub lines_of : Response → List (List ℕ)
lines_of (numbers_are m name lines) = lines
lines_of (active_are lines) = lines
lines_of (overviews_are lines) = lines
lines_of r = []

-- how many the block has
abbrev block_lines : Option (List (List ℕ)) → List (List ℕ)
block_lines None = []
block_lines (Some lines) = lines

said_lines : (kind : Kind) (code : ℕ) (bytes : List ℕ) (block : Option (List (List ℕ))) (r : Response) → Says kind code bytes block r → length (lines_of r) ≤ length (block_lines block)
said_lines kind code bytes block r h = grind arith

block_long : (block : Option (List (List ℕ))) → length (block_lines block) ≤ length (block_octets block)
block_long block = grind (arith, length-lines, length-append)

-- a spelling has three octets, and one for each line
pub spelling-long : (asked : Asked) (r : Response) (b : List ℕ) → Spells asked r b → length (lines_of r) + 3 ≤ length b
spelling-long asked r b s = grind (arith, said_lines, block_long, status-long, length-append)
