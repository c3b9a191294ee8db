-- Message ids are text.
use Rattle.std.proofs.{Common.{◌<◌, ℕ, List, [], ◌∷◌, ◌++◌, All, arith}, Math.ListN.{get_or-eq_default}, lemmas.List.Elements.{All-from_recursion}}
use Rattle.std.{proofs.lemmas.{List.Elements.{recursion_from_All}, Str.{IsUtf8-from_ascii}}, specs.{List.{AllByRecursion}, Str.{IsUtf8}}}
use Rattle.nntp_wire.specs.Name.{IsIdOctet, IsMessageId}

-- ASCII is UTF-8
pub ascii_text : (bs : List ℕ) → All (λ b. b < 128) bs → IsUtf8 bs
ascii_text bs h = IsUtf8-from_ascii bs (λ i. grind (arith, get_or-eq_default {A = ℕ}, h i 0))

ascii_inside : (inside : List ℕ) → AllByRecursion IsIdOctet inside → AllByRecursion (λ b. b < 128) (inside ++ 62 ∷ [])
ascii_inside [] each = (omega arith, tt)
ascii_inside (c ∷ cs) each = (omega (arith, each.0), ascii_inside cs each.1)

-- a message id is ASCII, and so text
pub id_is_text : (bytes : List ℕ) → IsMessageId bytes → IsUtf8 bytes
id_is_text bytes (inside, is, some, few, each) = grind (arith, ascii_inside, recursion_from_All, ascii_text, All-from_recursion)
