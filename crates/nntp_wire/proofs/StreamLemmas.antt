-- The lines of a stream.
use Rattle.std.proofs.Common.{◌≡◌, ℕ, List, [], ◌∷◌, ◌++◌, drop, refl, sym, ◌∙◌, ap, subst, inl, inr, arith, append_assoc, Bool, true, false, cond}
use Rattle.std.{proofs.lemmas.{List.{append-nil, append_cancel_left}, Bool.{cases_eq, Decides.{nat_tests}}}, specs.Prelude.{◌&&◌, ◌==◌}}
use Rattle.std.specs.List.{AllByRecursion}
use Rattle.nntp_wire.specs.{Octets.{crlf, carriage_return}, Lines.{HasNoCrlf, ended, lines_of_stream, parts_of, with_octet, all_but_last}}
use Rattle.nntp_wire.{specs.{Lines.{begins_with_line_feed}, Inner.Lines.{IsSplit}}, proofs.FrameLemmas.{line-tail, line-nil, cons-line, lines-cons}}
use Rattle.nntp_wire.proofs.FrameLemmas.{occurs-behind}

-- one octet more in front leaves a first part
with_octet-some : (b : ℕ) (parts : List (List ℕ)) → (part : List ℕ) × (more : List (List ℕ)) × (with_octet b parts ≡ part ∷ more)
with_octet-some b [] = (b ∷ [], [], refl)
with_octet-some b (part ∷ parts) = at (b == carriage_return && begins_with_line_feed part) where
  at : (test : Bool) → (first : List ℕ) × (more : List (List ℕ)) × (cond test ([] ∷ drop 1 part ∷ parts) ((b ∷ part) ∷ parts) ≡ first ∷ more)
  at true = ([], drop 1 part ∷ parts, refl)
  at false = (b ∷ part, parts, refl)

-- a stream has a first part
parts-some : (stream : List ℕ) → (part : List ℕ) × (parts : List (List ℕ)) × (parts_of stream ≡ part ∷ parts)
parts-some [] = ([], [], refl)
parts-some (b ∷ bs) = with_octet-some b (parts_of bs)

-- octets without CRLF don't begin with it
apart : (b : ℕ) (part : List ℕ) → HasNoCrlf (b ∷ part) → (b == carriage_return && begins_with_line_feed part) ≡ false
apart b part line = grind (arith, nat_tests, occurs-behind, cases_eq)

-- an octet that is no CR in front of LF stays in front of its part
with_octet-in : (b : ℕ) (part : List ℕ) (parts : List (List ℕ)) → HasNoCrlf (b ∷ part) → with_octet b (part ∷ parts) ≡ (b ∷ part) ∷ parts
with_octet-in b part parts line = ap (λ test. cond test ([] ∷ drop 1 part ∷ parts) ((b ∷ part) ∷ parts)) (apart b part line)

-- octets without CRLF are one part
parts-last : (rest : List ℕ) → HasNoCrlf rest → parts_of rest ≡ rest ∷ []
parts-last [] line = refl
parts-last (b ∷ bs) line = ap (with_octet b) (parts-last bs (line-tail b bs line)) ∙ with_octet-in b bs [] line

-- CRLF ends a part of no octet
parts-crlf : (rest : List ℕ) → parts_of (crlf ++ rest) ≡ [] ∷ parts_of rest
parts-crlf rest = let first = parts-some rest in rw first.2 refl

-- the part before the first CRLF
parts-line : (line rest : List ℕ) → HasNoCrlf line → parts_of ((line ++ crlf) ++ rest) ≡ line ∷ parts_of rest
parts-line [] rest is_line = parts-crlf rest
parts-line (b ∷ bs) rest is_line = ap (with_octet b) (parts-line bs rest (line-tail b bs is_line)) ∙ with_octet-in b bs (parts_of rest) is_line

-- octets without CRLF have no line
pub lines-none : (rest : List ℕ) → HasNoCrlf rest → lines_of_stream rest ≡ []
lines-none rest line = ap all_but_last (parts-last rest line)

-- the first line, and those behind it
pub lines-first : (line rest : List ℕ) → HasNoCrlf line → lines_of_stream ((line ++ crlf) ++ rest) ≡ line ∷ lines_of_stream rest
lines-first line rest is_line =
    let first = parts-some rest in
    ap all_but_last (parts-line line rest is_line ∙ ap (λ parts. line ∷ parts) first.2) ∙ ap (λ parts. line ∷ all_but_last parts) (sym first.2)

-- lines in front of a stream are its first lines
pub lines-ended : (lines : List (List ℕ)) (rest : List ℕ) → AllByRecursion HasNoCrlf lines → lines_of_stream (ended lines ++ rest) ≡ lines ++ lines_of_stream rest
lines-ended [] rest each = refl
lines-ended (line ∷ lines) rest each = grind (arith, append_assoc, lines-first, lines-ended lines rest each.1)

-- the same of all lines
pub split-lines : (stream : List ℕ) (lines : List (List ℕ)) (rest : List ℕ) → IsSplit stream lines rest → lines ≡ lines_of_stream stream
split-lines stream lines rest split = grind (arith, lines-ended, lines-none, append-nil)

-- some lines and a rest are the stream
abbrev HasSplit : List ℕ → Type 0
HasSplit stream = (lines : List (List ℕ)) × (rest : List ℕ) × IsSplit stream lines rest

-- an octet in front of a stream
split-cons : (b : ℕ) (stream : List ℕ) → HasSplit stream → HasSplit (b ∷ stream)
split-cons b stream (lines, rest, split) = at lines split.each split.whole where
  at : (lines : List (List ℕ)) → AllByRecursion HasNoCrlf lines → stream ≡ ended lines ++ rest → HasSplit (b ∷ stream)
  at [] each whole = elim (cons-line b rest split.last) [
    | inl line ↦ ([], b ∷ rest, record { whole = ap (λ t. b ∷ t) whole; each = tt; last = line })
    | inr (left, line, is) ↦ ([] ∷ [], left, record { whole = ap (λ t. b ∷ t) whole ∙ is; each = (line-nil, tt); last = line })
  ]
  at (line ∷ lines) each whole =
      let more = lines-cons b line lines each.0 each.1 in
      (more.lines, rest, record { whole = ap (λ t. b ∷ t) whole ∙ ap (λ t. t ++ rest) more.whole; each = more.each; last = split.last })

has-split : (stream : List ℕ) → HasSplit stream
has-split [] = ([], [], record { whole = refl; each = tt; last = line-nil })
has-split (b ∷ stream) = split-cons b stream (has-split stream)

-- each stream is its lines and then a rest
pub stream-split : (stream : List ℕ) → (rest : List ℕ) × IsSplit stream (lines_of_stream stream) rest
stream-split stream =
    let some = has-split stream in
    (some.1, subst (λ lines. IsSplit stream lines some.1) (split-lines stream some.0 some.1 some.2) some.2)

-- and that in one way
pub one-split : (stream rest : List ℕ) (lines : List (List ℕ)) → IsSplit stream lines rest
    → (lines ≡ lines_of_stream stream) × ((other : List (List ℕ)) (more : List ℕ) → IsSplit stream other more → (other ≡ lines) × (more ≡ rest))
one-split stream rest lines split = (
  split-lines stream lines rest split,
  λ other more also.
      let same : other ≡ lines = split-lines stream other more also ∙ sym (split-lines stream lines rest split) in
      (same, append_cancel_left (ended lines) more rest (ap (λ t. ended t ++ more) (sym same) ∙ sym also.whole ∙ split.whole)),
)

-- octets behind a stream keep its lines
pub lines-joined : (stream more : List ℕ) → (later : List (List ℕ)) × (lines_of_stream (stream ++ more) ≡ lines_of_stream stream ++ later)
lines-joined stream more =
    let rest = (stream-split stream).0 in
    let split : IsSplit stream (lines_of_stream stream) rest = (stream-split stream).1 in (
      lines_of_stream (rest ++ more),
      grind (arith, append_assoc, lines-ended),
    )
