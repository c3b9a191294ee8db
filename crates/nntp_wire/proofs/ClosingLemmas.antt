-- The code of an answer tells whether the server closes the connection after it.
use Rattle.std.{proofs.{Common.{◌≡◌, ℕ, ◌≤◌, List, Option, Some, Bool, true, false, cond, ap, ◌∙◌, arith, ◌⊎◌}, lemmas.Bool.{eqb-true}}, specs.Prelude.{◌==◌}}
use Rattle.nntp_wire.specs.{Lines.{HasNoCrlf}, Answer.{Asked, to, Response, plain, Spells, Says, kind_of, overview_code, overview_kind, code_of, block_octets}}
use Rattle.nntp_wire.specs.{Frame.{frame_octets, framed}, Session.{closes}, Command.{over}, declared.kind.Kind.{Kind, TheVariants.{Capabilities, Plain}}}
use Rattle.nntp_wire.{specs.declared.command.OverviewKeyword.{OverviewKeyword}, proofs.{FrameLemmas.{one_line}, SpellLemmas.{clean-line, status-clean}}}
use Rattle.nntp_wire.proofs.SpellLemmas.{status-code}

-- a response that is no more than its code
abbrev is_plain : Response → Bool
is_plain (plain code) = true
is_plain response = false

-- only such a response closes
quiet-response : (asked : Asked) (response : Response) → is_plain response ≡ false → closes asked response ≡ false
quiet-response asked response e = grind arith

-- no code from 211 to 225 does
quiet-code : (asked : Asked) (code : ℕ) → 211 ≤ code → code ≤ 225 → closes asked (plain code) ≡ false
quiet-code asked code low high = grind arith

-- what is said by a code alone
plain-code : (code : ℕ) (bytes : List ℕ) (block : Option (List (List ℕ))) (response : Response) → Says Plain code bytes block response → response ≡ plain code
plain-code code bytes block response same = grind arith

-- what is said by a code alone, or by a code from 211 to 225
abbrev IsQuiet : ℕ → Response → Type 0
IsQuiet code response = (response ≡ plain code) ⊎ ((is_plain response ≡ false) × (211 ≤ code) × (code ≤ 225))

-- a kind of response that says more than its code
abbrev says_more : Kind → Bool
says_more Capabilities = false
says_more Plain = false
says_more kind = true

more-said : (kind : Kind) (code : ℕ) (bytes : List ℕ) (block : Option (List (List ℕ))) (response : Response) → says_more kind ≡ true → Says kind code bytes block response → is_plain response ≡ false
more-said kind code bytes block response more says = grind arith

-- by such a kind that has a code of its own, from 211 to 225
by-code : (kind : Kind) (k code : ℕ) (bytes : List ℕ) (block : Option (List (List ℕ))) (response : Response) (test : Bool) → (code == k) ≡ test → 211 ≤ k → k ≤ 225
    → says_more kind ≡ true → Says (cond test kind Plain) code bytes block response → IsQuiet code response
by-code kind k code bytes block response test e low high more says = grind (arith, plain-code, eqb-true, more-said)

-- capabilities are said by their code alone
capabilities-code : (code : ℕ) (bytes : List ℕ) (block : Option (List (List ℕ))) (response : Response) (test : Bool)
    → Says (cond test Capabilities Plain) code bytes block response → response ≡ plain code
capabilities-code code bytes block response test says = grind arith

over-quiet : (keyword : OverviewKeyword) (code : ℕ) (bytes : List ℕ) (block : Option (List (List ℕ))) (response : Response)
    → Says (cond (code == overview_code keyword) (overview_kind keyword) Plain) code bytes block response → IsQuiet code response
over-quiet keyword code bytes block response says = search (arith, by-code)

said-quiet : (asked : Asked) (code : ℕ) (bytes : List ℕ) (block : Option (List (List ℕ))) (response : Response) → Says (kind_of asked code) code bytes block response → IsQuiet code response
said-quiet (to (over keyword which)) code bytes block response says = over-quiet keyword code bytes block response says
said-quiet asked code bytes block response says = search (arith, plain-code, capabilities-code, by-code)

-- so the code closes where the response does
quiet-closes : (asked : Asked) (code : ℕ) (response : Response) → IsQuiet code response → closes asked (plain code) ≡ closes asked response
quiet-closes asked code response h = grind (arith, quiet-code, quiet-response)

-- the code of the line with which a spelling begins closes where its response does
pub spelled-closes : (asked : Asked) (response : Response) (line : List ℕ) (block : Option (List ℕ)) → HasNoCrlf line → Spells asked response (frame_octets line block)
    → (code : ℕ) × (code_of line ≡ Some code) × (closes asked (plain code) ≡ closes asked response)
spelled-closes asked response line block is_line s =
    let first = one_line line s.line (framed block) (block_octets s.block) is_line (clean-line s.line (status-clean asked s.line s.code s.status)) s.whole in
    (s.code, ap code_of first.0 ∙ status-code asked s.line s.code s.status, quiet-closes asked s.code response (said-quiet asked s.code _ s.block response s.says))
