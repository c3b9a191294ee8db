-- A place of two streams shows one command and one reply.
use Rattle.std.{proofs.Common.{arith, ◌≡◌, ◌∙◌, sym, ap, subst, ℕ, List, [], ◌∷◌, ◌++◌, length, Option, inl, inr, append_assoc}, specs.Option.{option_map}}
use Rattle.nntp_wire.{specs.{Octets.{crlf}, Lines.{HasNoCrlf}, Session.{ClientStream}}, proofs.FrameLemmas.{one_line, occurs-behind}}
use Rattle.memchr.specs.Find.{OccursAt}
use Rattle.nntp_pair.{specs.{Pairing.{Paired, Unpaired, AreNext, line_ahead, streams}, declared.class.Class.{Class}}, proofs.NextLemmas.{one-next}}
use Rattle.nntp_printing.specs.BadAnswer.{IsFirstLine, shown}
use Rattle.nntp_verdict.specs.Judging.{StopsAt}

-- as many pairs leave the same
same-left : (pairs others : List Paired) (a b c : Unpaired) → length pairs ≡ length others → AreNext a pairs b → AreNext a others c → b ≡ c
same-left [] [] a b c e p q = sym p ∙ q
same-left [] (y ∷ others) a b c e p q = cc
same-left (x ∷ pairs) [] a b c e p q = cc
same-left (x ∷ pairs) (y ∷ others) a b c e (m, first, more) (n, also, rest) =
    let same : m ≡ n = (one-next a m n x y first also).1 in
    grind (arith, same-left pairs others n b c)

-- a line with CRLF behind it has one
pub no-line : (octets line rest : List ℕ) → HasNoCrlf octets → octets ≡ line ++ crlf ++ rest → ⊥
no-line octets line rest none e = none (length line) (subst (λ (o : List ℕ). OccursAt o crlf (length line)) (sym (append_assoc line crlf rest) ∙ sym e) (occurs-behind line crlf rest))

-- octets have one first line
one-first : (octets l m : List ℕ) → IsFirstLine octets l → IsFirstLine octets m → l ≡ m
one-first octets l m (p, inl e) (q, inl f) = sym e ∙ f
one-first octets l m (p, inl e) (q, inr (t, f)) = absurd (no-line octets m t (subst HasNoCrlf (sym e) p) f)
one-first octets l m (p, inr (r, e)) (q, inl f) = absurd (no-line octets l r (subst HasNoCrlf (sym f) q) e)
one-first octets l m (p, inr (r, e)) (q, inr (t, f)) = (one_line l m r t p q (sym e ∙ f)).0

-- a place shows one command and one reply
pub one-place : (client : ClientStream) (server : List ℕ) (k : ℕ) (class other : Class) (command also : Option (List ℕ)) (reply again : List ℕ)
    → StopsAt client server k class command reply → StopsAt client server k other also again
    → (command ≡ also) × (reply ≡ again)
one-place client server k class other command also reply again x y =
    let left = same-left x.pairs y.pairs (streams client server) x.left y.left (sym x.place ∙ y.place) x.before y.before in
    let line = one-first y.left.server x.line y.line (subst (λ (u : Unpaired). IsFirstLine u.server x.line) left x.first) y.first in
    (x.command_is ∙ ap (λ (u : Unpaired). option_map shown (line_ahead u.places)) left ∙ sym y.command_is, x.reply_is ∙ ap shown line ∙ sym y.reply_is)
