-- Whether octets begin with a whole frame can be decided, and octets behind a frame leave it.
use Rattle.std.proofs.Common.{arith, ◌≡◌, ◌≢◌, ◌⊎◌, true, false, ℕ, List, [], ◌∷◌, ◌++◌, Option, None, Some, inl, inr, refl, sym, ap, subst, ◌∙◌, append_assoc}
use Rattle.std.proofs.{Common.{length, length-append}, lemmas.{List.{append-nil}, Bool.{cases_Bool, true≢false}, Grind.{flat_map-append}}}
use Rattle.std.{proofs.lemmas.Slice.Eq.{bytes_eq-Decides}, specs.{Prelude.{is_some}, List.{AllByRecursion}, Str.{bytes_eq}}}
use Rattle.nntp_wire.specs.{Octets.{dot, crlf}, Lines.{HasNoCrlf, ended, lines_of_stream}, Block.{dot_line}, Answer.{Asked, code_of}, Frame.{HasFrame}}
use Rattle.nntp_wire.{specs.Frame.{IsBlockLine, IsBeforeDotLine, is_due_by, framed}, proofs.{Decide.{Dec, dec_true, dec_by}, FrameLemmas.{line-one, no_crlfs}}}
use Rattle.nntp_wire.proofs.StreamLemmas.{stream-split, lines-first, lines-ended}

-- octets begin with a frame
abbrev pub BeginsWithFrame : Asked → List ℕ → Type 0
BeginsWithFrame asked stream = (line : List ℕ) × (block : Option (List ℕ)) × (rest : List ℕ) × HasFrame asked stream line block rest

-- octets behind a frame
pub frame-longer : (asked : Asked) (stream line rest more : List ℕ) (block : Option (List ℕ)) → HasFrame asked stream line block rest → HasFrame asked (stream ++ more) line block (rest ++ more)
frame-longer asked stream line rest more block f = grind (arith, append_assoc)

-- ---- the lines of a frame

-- the first line of a stream with a frame is its initial line
frame-first : (asked : Asked) (stream line rest : List ℕ) (block : Option (List ℕ)) → HasFrame asked stream line block rest → lines_of_stream stream ≡ line ∷ lines_of_stream (framed block ++ rest)
frame-first asked stream line rest block f = grind (arith, append_assoc, lines-first)

-- the lines of its block are followed by a dot line
frame-dot : (ls : List (List ℕ)) (bytes rest : List ℕ) → AllByRecursion IsBlockLine ls → bytes ≡ ended ls → lines_of_stream ((bytes ++ dot_line) ++ rest) ≡ ls ++ (dot ∷ []) ∷ lines_of_stream rest
frame-dot ls bytes rest each is = search (arith, append_assoc, line-one, no_crlfs, lines-first, lines-ended)

-- ---- the first dot line

-- the lines before it, and those behind it
abbrev HasDot : List (List ℕ) → Type 0
HasDot lines = (front : List (List ℕ)) × (back : List (List ℕ)) × AllByRecursion IsBlockLine front × (lines ≡ front ++ (dot ∷ []) ∷ back)

-- where it isn't the first line, it is behind the first
dot-behind : (line : List ℕ) (lines : List (List ℕ)) → line ≢ dot ∷ [] → HasDot (line ∷ lines) → HasDot lines
dot-behind line lines other ([], back, good, whole) = absurd (other (cc))
dot-behind line lines other (f ∷ front, back, good, whole) = (front, back, good.1, (let e = whole in cc))

dec_dot : (lines : List (List ℕ)) → AllByRecursion HasNoCrlf lines → Dec (HasDot lines)
dec_dot [] each = inr (λ h. omega (arith, ap length h.3, length-append h.0 ((dot ∷ []) ∷ h.1)))
dec_dot (line ∷ lines) each = elim (dec_true (bytes_eq line (dot ∷ []))) [
  | inl is ↦ inl ([], lines, tt, ap (λ l. l ∷ lines) ((bytes_eq-Decides line (dot ∷ [])).0 is))
  | inr differs ↦
      let other = λ (e : line ≡ dot ∷ []). differs ((bytes_eq-Decides line (dot ∷ [])).1 e) in
      dec_by (λ (front, back, good, whole). (line ∷ front, back, ((each.0, other), good), ap (λ ls. line ∷ ls) whole)) (dot-behind line lines other) (dec_dot lines each.1)
]

ended-append : (xs ys : List (List ℕ)) → ended (xs ++ ys) ≡ ended xs ++ ended ys
ended-append xs ys = flat_map-append (λ line. line ++ crlf) xs ys

-- ---- whether there is a frame

-- a frame that is due a block has one
some_block : (asked : Asked) (line : List ℕ) (block : Option (List ℕ)) → is_some block ≡ is_due_by asked (code_of line)
    → is_due_by asked (code_of line) ≡ true → (bytes : List ℕ) × (block ≡ Some bytes)
some_block asked line None due is = absurd (true≢false (sym is ∙ sym due))
some_block asked line (Some bytes) due is = (bytes, refl)

pub dec_frame : (asked : Asked) (stream : List ℕ) → Dec (BeginsWithFrame asked stream)
dec_frame asked stream = by (lines_of_stream stream) refl (stream-split stream).1.each (stream-split stream).1.whole
  where
    rest : List ℕ
    rest = (stream-split stream).0

    by : (lines : List (List ℕ)) → lines_of_stream stream ≡ lines → AllByRecursion HasNoCrlf (lines_of_stream stream)
        → stream ≡ ended (lines_of_stream stream) ++ rest → Dec (BeginsWithFrame asked stream)
    by [] are each whole = inr (λ h. (let e = sym are ∙ frame-first asked stream h.0 h.2 h.1 h.3 in cc))
    by (line ∷ lines) are each whole = at (cases_Bool (is_due_by asked (code_of line))) (dec_dot lines good.1)
      where
        good : AllByRecursion HasNoCrlf (line ∷ lines)
        good = subst (AllByRecursion HasNoCrlf) are each

        parts : stream ≡ (line ++ crlf) ++ (ended lines ++ rest)
        parts = whole ∙ ap (λ ls. ended ls ++ rest) are ∙ append_assoc (line ++ crlf) (ended lines) rest

        never : is_due_by asked (code_of line) ≡ true → (HasDot lines → ⊥) → (other : List ℕ) (block : Option (List ℕ)) (more : List ℕ) → HasFrame asked stream other block more → ⊥
        never is none other block more f =
            let both : line ∷ lines ≡ other ∷ lines_of_stream (framed block ++ more) = sym are ∙ frame-first asked stream other more block f in
            let same : line ≡ other = cc in
            let behind : lines ≡ lines_of_stream (framed block ++ more) = cc in
            let some = some_block asked other block f.due (ap (λ l. is_due_by asked (code_of l)) (sym same) ∙ is) in
            let up : IsBeforeDotLine (Some some.0) = subst IsBeforeDotLine some.1 f.before_dot_line in
            none (up.0, lines_of_stream more, up.1, behind ∙ ap (λ b. lines_of_stream (framed b ++ more)) some.1 ∙ frame-dot up.0 some.0 more up.1 up.2)

        at : (is_due_by asked (code_of line) ≡ true) ⊎ (is_due_by asked (code_of line) ≡ false) → Dec (HasDot lines) → Dec (BeginsWithFrame asked stream)
        at (inr not_due) dots = inl (line, None, ended lines ++ rest, grind (arith, parts, rest, append-nil, good))
        at (inl is) (inl (front, back, block, split)) =
            inl (line, Some (ended front), ended back ++ rest, grind (arith, parts, rest, ended-append, append_assoc, good))
        at (inl is) (inr none) = inr (λ h. never is none h.0 h.1 h.2 h.3)
