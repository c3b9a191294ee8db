-- The first empty line of a block.
use Rattle.std.proofs.Common.{◌≡◌, ◌≢◌, ℕ, ◌+◌, ◌≤◌, List, [], ◌∷◌, ◌++◌, length, take, drop, refl, sym, ◌∙◌, ap, arith, append_assoc, append-nil}
use Rattle.std.proofs.{Common.{length-append}, lemmas.List.{take_at, drop_at, append_cancel_right}}
use Rattle.bstr.{specs.Text.{lines_of}, proofs.lemmas.LineLemmas.{lines-nil}}
use Rattle.nntp_wire.specs.{Octets.{crlf}, Block.{stuffed, unstuffed, sent, AreClean}, Inner.Block.{received, Sends, HasNoEmptyLine}}
use Rattle.nntp_wire.proofs.{BlockLemmas.{lines-sent, unstuffed-stuffed}, SubBlockLemmas.{clean-append, sent-append, received-of}}

none-append : (xs ys : List (List ℕ)) → HasNoEmptyLine xs → HasNoEmptyLine ys → HasNoEmptyLine (xs ++ ys)
none-append [] ys a b = b
none-append (x ∷ xs) ys a b = (a.0, none-append xs ys a.1 b)

-- a CRLF alone sends an empty line
empty-of : (line : List ℕ) → stuffed line ++ crlf ≡ crlf → line ≡ []
empty-of line e = sym (unstuffed-stuffed line) ∙ ap unstuffed (append_cancel_right (stuffed line) [] crlf e)

-- lines of so many octets were passed over, none of them empty, and these are left as they are sent
pub record Nonempty (bytes : List ℕ) (left : List (List ℕ)) (count : ℕ) : Type 0 where
  pub done : List (List ℕ)
  pub others : List (List ℕ)
  pub clean : AreClean done
  pub others_clean : AreClean others
  pub whole : bytes ≡ sent done ++ sent others
  pub none : HasNoEmptyLine done
  pub left_is : left ≡ lines_of (sent others)
  pub is_count : length (sent done) ≡ count

pub nonempty-start : (bytes : List ℕ) (left : List (List ℕ)) → Sends bytes (received bytes) → left ≡ lines_of bytes → Nonempty bytes left 0
nonempty-start bytes left sends is =
    record { done = []; others = received bytes; clean = tt; others_clean = sends.clean; whole = sends.whole; none = tt; left_is = is ∙ ap lines_of sends.whole; is_count = refl }

-- the next line that is left
pub record IsNext (bytes line : List ℕ) (more : List (List ℕ)) (count : ℕ) : Type 0 where
  pub done : List (List ℕ)
  pub first : List ℕ
  pub behind : List (List ℕ)
  pub clean : AreClean done
  pub behind_clean : AreClean (first ∷ behind)
  pub whole : bytes ≡ sent done ++ ((stuffed first ++ crlf) ++ sent behind)
  pub none : HasNoEmptyLine done
  pub line_is : line ≡ stuffed first ++ crlf
  pub more_is : more ≡ lines_of (sent behind)
  pub is_count : length (sent done) ≡ count

pub next-is : (bytes line : List ℕ) (left more : List (List ℕ)) (count : ℕ) → Nonempty bytes left count → left ≡ line ∷ more → IsNext bytes line more count
next-is bytes line left more count n e = at n.others n.others_clean n.whole (sym e ∙ n.left_is) where
  at : (others : List (List ℕ)) → AreClean others → bytes ≡ sent n.done ++ sent others → line ∷ more ≡ lines_of (sent others) → IsNext bytes line more count
  at [] clean whole are = let no : ◌≡◌ {A = List (List ℕ)} (line ∷ more) [] = are ∙ lines-nil in cc
  at (first ∷ behind) clean whole are = grind (arith, lines-sent)

-- the next line fits in front of the others
pub next-fits : (bytes line : List ℕ) (more : List (List ℕ)) (count : ℕ) → IsNext bytes line more count → count + length line ≤ length bytes
next-fits bytes line more count n = grind (arith, length-append)

-- a line that is not empty is passed over
pub nonempty-more : (bytes line : List ℕ) (more : List (List ℕ)) (count : ℕ) → IsNext bytes line more count → line ≢ crlf → Nonempty bytes more (count + length line)
nonempty-more bytes line more count n some =
    let one : sent (n.done ++ n.first ∷ []) ≡ sent n.done ++ (stuffed n.first ++ crlf) =
    sent-append n.done (n.first ∷ []) ∙ ap (λ t. sent n.done ++ t) (append-nil (stuffed n.first ++ crlf)) in
    grind (arith, clean-append, append_assoc, none-append, length-append)

-- no line is left
pub nonempty-end : (bytes : List ℕ) (left : List (List ℕ)) (count : ℕ) → Nonempty bytes left count → left ≡ [] → HasNoEmptyLine (received bytes)
nonempty-end bytes left count n e = at n.others n.others_clean n.whole (sym e ∙ n.left_is) where
  at : (others : List (List ℕ)) → AreClean others → bytes ≡ sent n.done ++ sent others → [] ≡ lines_of (sent others) → HasNoEmptyLine (received bytes)
  at [] clean whole are = grind (arith, received-of, append-nil)
  at (first ∷ behind) clean whole are = grind (arith, lines-sent)

-- the octets round an empty line
pub record IsSplit (bytes front back : List ℕ) : Type 0 where
  pub none : HasNoEmptyLine (received front)
  pub whole : received bytes ≡ received front ++ [] ∷ received back
  pub front_sends : Sends front (received front)
  pub back_sends : Sends back (received back)

pub split-empty : (bytes line front rest back : List ℕ) (more : List (List ℕ)) (count : ℕ) → IsNext bytes line more count → line ≡ crlf
    → front ≡ take count bytes → rest ≡ drop count bytes → back ≡ drop 2 rest → IsSplit bytes front back
split-empty bytes line front rest back more count n is front_is rest_is back_is = grind (arith, empty-of, take_at, drop_at, received-of, clean-append, sent-append)
