-- The first lines of a block, and those behind them.
use Rattle.std.proofs.Common.{◌≡◌, ◌↔◌, ℕ, zero, suc, ◌+◌, ◌-◌, ◌≤◌, List, [], ◌∷◌, ◌++◌, length, take, drop, refl, sym, ◌∙◌, ap, arith, append_assoc, Bool}
use Rattle.std.proofs.{Common.{true, false, if◌then◌else◌, subst, append-nil, length-append, IsTrue}, lemmas.List.{take_at, drop_at, take_all, drop_all}}
use Rattle.nntp_wire.specs.{Octets.{crlf, is_clean}, Lines.{HasNoCrlf}, Block.{stuffed, sent, AreClean}, Inner.Block.{received, Sends, IsSent}}
use Rattle.nntp_wire.proofs.{FrameLemmas.{one_line, occurs-behind}, SpellLemmas.{stuffed-line}, BlockLemmas.{received-sent, sends-received}}

pub clean-append : (xs ys : List (List ℕ)) → AreClean xs → AreClean ys → AreClean (xs ++ ys)
clean-append [] ys a b = b
clean-append (x ∷ xs) ys a b = (a.0, clean-append xs ys a.1 b)

pub sent-append : (xs ys : List (List ℕ)) → sent (xs ++ ys) ≡ sent xs ++ sent ys
sent-append [] ys = refl
sent-append (x ∷ xs) ys = ap (λ t. (stuffed x ++ crlf) ++ t) (sent-append xs ys) ∙ sym (append_assoc (stuffed x ++ crlf) (sent xs) (sent ys))

-- octets that send lines, and behind them octets that send more lines
pub sends-append : (bytes more : List ℕ) (lines others : List (List ℕ)) → Sends bytes lines → Sends more others → Sends (bytes ++ more) (lines ++ others)
sends-append bytes more lines others s m = grind (arith, clean-append, sent-append)

-- octets that send lines, to which octets that send lines were added, if they were
pub sends-extended : (old more new : List ℕ) (ok : Bool) → Sends old (received old) → Sends more (received more) → new ≡ (if ok then old ++ more else old) → Sends new (received new)
sends-extended old more new true s m e = sends-received new (_, subst (λ t. Sends t (received old ++ received more)) (sym e) (sends-append old more _ _ s m))
sends-extended old more new false s m e = subst (λ t. Sends t (received t)) (sym e) s

-- these lines were passed over, and those are left
pub record Passed (k : ℕ) (bytes rest : List ℕ) : Type 0 where
  pub done : List (List ℕ)
  pub left : List (List ℕ)
  pub clean : AreClean done
  pub whole : bytes ≡ sent done ++ rest
  pub sends : Sends rest left
  pub count : length done ≡ k

pub passed-none : (bytes : List ℕ) → IsSent bytes → Passed 0 bytes bytes
passed-none bytes (lines, sends) = record { done = []; left = lines; clean = tt; whole = refl; sends = sends; count = refl }

-- one more line
pub passed-more : (k : ℕ) (bytes rest line others : List ℕ) → Passed k bytes rest → HasNoCrlf line → rest ≡ (line ++ crlf) ++ others → Passed (k + 1) bytes others
passed-more k bytes rest line others p is_line e = at p.left p.sends.clean p.sends.whole where
  at : (left : List (List ℕ)) → AreClean left → rest ≡ sent left → Passed (k + 1) bytes others
  at [] clean whole = absurd (omega (arith, ap length (sym e ∙ whole), length-append (line ++ crlf) others, length-append line crlf))
  at (l ∷ ls) clean whole =
      let both = one_line line (stuffed l) others (sent ls) is_line (stuffed-line l clean.0).0 (sym e ∙ whole) in
      let one : (stuffed l ++ crlf) ++ sent ls ≡ sent (l ∷ []) ++ others = ap (λ t. t ++ sent ls) (sym (append-nil (stuffed l ++ crlf))) ∙ ap (λ t. ((stuffed l ++ crlf) ++ []) ++ t) (sym both.1) in
      record {
        done = p.done ++ l ∷ [];
        left = ls;
        clean = clean-append p.done (l ∷ []) p.clean (clean.0, tt);
        whole = p.whole ∙ ap (λ t. sent p.done ++ t) (whole ∙ one) ∙ sym (append_assoc (sent p.done) (sent (l ∷ [])) others) ∙ ap (λ t. t ++ others) (sym (sent-append p.done (l ∷ [])));
        sends = record { clean = clean.1; whole = both.1 };
        count = omega (arith, length-append p.done (l ∷ []), p.count);
      }

-- all the lines
all_lines : (k : ℕ) (bytes rest : List ℕ) (p : Passed k bytes rest) → received bytes ≡ p.done ++ p.left
all_lines k bytes rest p =
    ap received (p.whole ∙ ap (λ t. sent p.done ++ t) p.sends.whole ∙ sym (sent-append p.done p.left))
    ∙ received-sent (p.done ++ p.left) (clean-append p.done p.left p.clean p.sends.clean)

-- what is said of the place behind the first lines
pub record IsBehind (count : ℕ) (bytes rest : List ℕ) : Type 0 where
  pub front : bytes ≡ sent (take count (received bytes)) ++ rest
  pub back : Sends rest (drop count (received bytes))

pub passed-all : (k : ℕ) (bytes rest : List ℕ) → Passed k bytes rest → IsBehind k bytes rest
passed-all k bytes rest p =
    let all = all_lines k bytes rest p in
    grind (arith, take_at, drop_at)

-- no line is left
pub passed-end : (k count : ℕ) (bytes rest : List ℕ) → Passed k bytes rest → k ≤ count → HasNoCrlf rest → IsBehind count bytes rest
passed-end k count bytes rest p low none = at p.left p.sends refl where
  at : (left : List (List ℕ)) → Sends rest left → p.left ≡ left → IsBehind count bytes rest
  at [] sends is =
      let all : received bytes ≡ p.done = all_lines k bytes rest p ∙ ap (λ t. p.done ++ t) is ∙ append-nil p.done in
      grind (arith, take_all, drop_all)
  at (l ∷ ls) sends is =
      absurd (none (length (stuffed l)) (rw (sends.whole, append_assoc (stuffed l) crlf (sent ls)) (occurs-behind (stuffed l) crlf (sent ls))))

clean-take : (k : ℕ) (xs : List (List ℕ)) → AreClean xs → AreClean (take k xs)
clean-take zero xs h = tt
clean-take (suc k) [] h = tt
clean-take (suc k) (x ∷ xs) h = (h.0, clean-take k xs h.1)

-- the octets in front of that place
pub front_sends : (count : ℕ) (bytes rest front : List ℕ) → AreClean (received bytes)
    → bytes ≡ sent (take count (received bytes)) ++ rest → front ≡ take (length bytes - length rest) bytes
    → Sends front (take count (received bytes))
front_sends count bytes rest front clean whole is = grind (arith, take_at, length-append, clean-take)

-- the octets behind it
pub back_sends : (count : ℕ) (bytes rest back : List ℕ) → bytes ≡ sent (take count (received bytes)) ++ rest
    → Sends rest (drop count (received bytes)) → back ≡ drop (length bytes - length rest) bytes
    → Sends back (drop count (received bytes))
back_sends count bytes rest back whole sends is = grind (arith, drop_at, length-append)

-- octets that send lines have those received
pub received-of : (bytes : List ℕ) (lines : List (List ℕ)) → Sends bytes lines → received bytes ≡ lines
received-of bytes lines s = ap received s.whole ∙ received-sent lines s.clean

-- each line takes octets
pub length-lines : (lines : List (List ℕ)) → length lines ≤ length (sent lines)
length-lines [] = omega arith
length-lines (l ∷ ls) = omega (arith, length-lines ls, length-append (stuffed l ++ crlf) (sent ls), length-append (stuffed l) crlf)

-- octets that send lines, and those of one line more
pub sends-snoc : (bytes more line : List ℕ) → IsSent bytes → IsTrue (is_clean line) → more ≡ bytes ++ (stuffed line ++ crlf) → Sends more (received bytes ++ line ∷ [])
sends-snoc bytes more line is_sent clean is = grind (arith, sends-received, clean-append, append-nil, sent-append)

-- octets that send a head, the CRLF of an empty line, and octets that send a body
pub sends-article : (front back : List ℕ) (head body : List (List ℕ)) → Sends front head → Sends back body → Sends (front ++ (crlf ++ back)) (head ++ [] ∷ body)
sends-article front back head body h b = grind (arith, clean-append, sent-append)

-- the lines are those of an article exactly if their octets are
pub article-iff : (bytes front back : List ℕ) (lines head body : List (List ℕ)) → Sends bytes lines → Sends front head → Sends back body
    → (bytes ≡ front ++ (crlf ++ back)) ↔ (lines ≡ head ++ [] ∷ body)
article-iff bytes front back lines head body s h b =
    let both = sends-article front back head body h b in (
      λ same. sym (received-of bytes lines s) ∙ ap received same ∙ received-of _ _ both,
      λ same. s.whole ∙ ap sent same ∙ sym both.whole,
    )
