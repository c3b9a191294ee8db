-- Why a response is malformed, and which answers close the connection.
use Rattle.std.{proofs.Common.{◌≡◌, ℕ, Bool, true, false, List, [], ◌∷◌, ◌++◌, Option, None, Some, replicate, refl}, specs.Prelude.{codes}}
use Rattle.std.specs.{Char.{encode_utf8}, Str.{chars, is_utf8}}
use Rattle.nntp_wire.specs.{Lines.{ended}, Command.{form_of, request_of, request_as}, Answer.{Asked, greeting, to, plain}, Session.{closes}}
use Rattle.nntp_wire.specs.{Misspelling.{misspelling}, Listing.{OverviewValue, overview_of, listed_id_of, overviews_of}}
use Rattle.nntp_wire.specs.declared.{overviews.Overviews.TheVariants.{Judged}, misspelling.Misspelling.{Misspelling, TheVariants.{WrongOctet, TooLong, NoCode}}}
use Rattle.nntp_wire.specs.declared.misspelling.{Misspelling.TheVariants.{WrongArgument, WrongLine, WrongBlock}, Due.TheVariants.{Number, GroupName, MessageId}}
use Rattle.nntp_wire.specs.declared.misspelling.LineFault.TheVariants.{BadOctet, SingleDot, NoNumber, NoGroup, NoArticleNumber, NoMessageId, NoListedNumber}
use Rattle.nntp_wire.specs.declared.misspelling.LineFault.TheVariants.{NoListedId, NoVersions}
use Rattle.nntp_unit_tests.proofs.Rows.{Makes}

-- what a line asks
abbrev asked : List ℕ → Asked
asked line = to (request_of line)

-- ---- initial lines

-- a line of the client, and the initial line of the response
abbrev Initial : Type 0
Initial = List ℕ × List ℕ

-- why the initial line is none that stands alone in response to the line
abbrev initial_reason : Initial → Option Misspelling
initial_reason (line, initial) = misspelling (asked line) initial None

abbrev initials : List (Initial × Option Misspelling)
initials =
    ((codes "HELP", codes "200 ok"), None)
    ∷ ((codes "HELP", codes "200"), None)
    ∷ ((codes "NEXT", codes "421 "), None)
    ∷ ((codes "GROUP g", codes "411 no\tgroup"), None)
    ∷ ((codes "HELP", codes ""), Some NoCode)
    ∷ ((codes "HELP", codes "20 ok"), Some NoCode)
    ∷ ((codes "HELP", codes "2000 ok"), Some NoCode)
    ∷ ((codes "HELP", codes "2x3 ok"), Some NoCode)
    ∷ ((codes "HELP", codes "600 ok"), Some NoCode)
    ∷ ((codes "HELP", codes "000 ok"), Some NoCode)
    ∷ ((codes "HELP", codes "200\tok"), Some NoCode)
    ∷ ((codes "HELP", codes "100\tok"), Some NoCode)
    ∷ ((codes "HELP", codes "200 h\0i"), Some WrongOctet)
    ∷ ((codes "NEXT", codes "200 h\0i"), Some WrongOctet)
    ∷ ((codes "HELP", codes "200 h\ri"), Some WrongOctet)
    ∷ ((codes "HELP", codes "200 h\ni"), Some WrongOctet)
    ∷ ((codes "HELP", codes "2 0 h\ni"), Some WrongOctet)
    ∷ []

initial_lines : Makes initial_reason initials
unfolding form_of
initial_lines = refl

-- a code and so many octets behind it
abbrev long_line : ℕ → List ℕ
long_line count = codes "423 " ++ replicate count 97

abbrev long_lines : List (Initial × Option Misspelling)
long_lines =
    ((codes "STAT 4", long_line 506), None)
    ∷ ((codes "STAT 4", long_line 507), Some (TooLong 513))
    ∷ ((codes "HELP", long_line 507), None)
    ∷ []

lines_of_512_and_513_octets : Makes initial_reason long_lines
unfolding form_of
lines_of_512_and_513_octets = refl

abbrev arguments : List (Initial × Option Misspelling)
arguments =
    ((codes "GROUP g", codes "211 1 1 1 g"), None)
    ∷ ((codes "GROUP g", codes "211 1 1 1 g and more"), None)
    ∷ ((codes "GROUP g", codes "211"), Some (WrongArgument 1 Number))
    ∷ ((codes "GROUP g", codes "211  1 1 1 g"), Some (WrongArgument 1 Number))
    ∷ ((codes "GROUP g", codes "211 00000000000000001 1 1 g"), Some (WrongArgument 1 Number))
    ∷ ((codes "GROUP g", codes "211 1\t1 1 g"), Some (WrongArgument 1 Number))
    ∷ ((codes "GROUP g", codes "211 1 x 1 g"), Some (WrongArgument 2 Number))
    ∷ ((codes "GROUP g", codes "211 1 1"), Some (WrongArgument 3 Number))
    ∷ ((codes "GROUP g", codes "211 1 1 1"), Some (WrongArgument 4 GroupName))
    ∷ ((codes "GROUP g", codes "211 1 1 1 a,b"), Some (WrongArgument 4 GroupName))
    ∷ ((codes "LISTGROUP g", codes "211 1 1 -1 g"), Some (WrongArgument 3 Number))
    ∷ ((codes "STAT 4", codes "223 4 <b@x>"), None)
    ∷ ((codes "NEXT", codes "223 4 <b@x> more"), None)
    ∷ ((codes "NEXT", codes "223  4 <b@x>"), Some (WrongArgument 1 Number))
    ∷ ((codes "STAT 4", codes "223 <b@x>"), Some (WrongArgument 1 Number))
    ∷ ((codes "LAST", codes "223 4"), Some (WrongArgument 2 MessageId))
    ∷ ((codes "STAT 4", codes "223 4 b@x"), Some (WrongArgument 2 MessageId))
    ∷ ((codes "NEXT", codes "223 4 <>"), Some (WrongArgument 2 MessageId))
    ∷ ((codes "HEAD 4", codes "221 <b@x> 4"), Some (WrongArgument 1 Number))
    ∷ ((codes "HEAD 4", codes "221 4  <b@x>"), Some (WrongArgument 2 MessageId))
    ∷ ((codes "GROUP g", codes "411"), None)
    ∷ []

argument_reasons : Makes initial_reason arguments
unfolding form_of chars is_utf8 encode_utf8
argument_reasons = refl

-- ---- blocks

-- a line of the client, the initial line of the response, and the lines of its block as they are sent
abbrev Whole : Type 0
Whole = List ℕ × List ℕ × List (List ℕ)

-- why these are no response to the line
abbrev reason : Whole → Option Misspelling
reason (line, initial, lines) = misspelling (asked line) initial (Some (ended lines))

abbrev blocks : List (Whole × Option Misspelling)
blocks =
    ((codes "HELP", codes "100 h", codes "a" ∷ codes ".." ∷ [] ∷ []), None)
    ∷ ((codes "HELP", codes "100 h", []), None)
    ∷ ((codes "XOVER 1-5", codes "224 data", codes "1 x" ∷ []), None)
    ∷ ((codes "STAT", codes "220 5 ", []), None)
    ∷ ((codes "HELP", codes "100", codes ".x" ∷ []), Some (WrongLine 1 SingleDot))
    ∷ ((codes "HELP", codes "100", codes ".\r." ∷ []), Some (WrongLine 1 BadOctet))
    ∷ ((codes "HELP", codes "100", codes ".\ra" ∷ []), Some (WrongLine 1 BadOctet))
    ∷ ((codes "HELP", codes "100", codes "a\0b" ∷ []), Some (WrongLine 1 BadOctet))
    ∷ ((codes "HELP", codes "100", codes "a\rb" ∷ []), Some (WrongLine 1 BadOctet))
    ∷ ((codes "HELP", codes "100", codes "a\nb" ∷ []), Some (WrongLine 1 BadOctet))
    ∷ ((codes "HELP", codes "100 h", codes "a" ∷ codes "b\0" ∷ []), Some (WrongLine 2 BadOctet))
    ∷ ((codes "BODY 4", codes "222 4 <b@x>", codes "a" ∷ [] ∷ codes ".b" ∷ codes "\0" ∷ []), Some (WrongLine 3 SingleDot))
    ∷ []

block_reasons : Makes reason blocks
unfolding form_of
block_reasons = refl

abbrev lists : List (Whole × Option Misspelling)
lists =
    ((codes "LISTGROUP g", codes "211 2 1 2 g", codes "1" ∷ codes " 02\t" ∷ []), None)
    ∷ ((codes "LISTGROUP g", codes "211 0 0 0 g", []), None)
    ∷ ((codes "LISTGROUP g", codes "211 2 1 2 g", codes "1" ∷ codes "1 2" ∷ []), Some (WrongLine 2 NoNumber))
    ∷ ((codes "LISTGROUP g", codes "211 2 1 2 g", [] ∷ codes ".1" ∷ []), Some (WrongLine 1 NoNumber))
    ∷ ((codes "LIST", codes "215 l", codes "g 9 1 y" ∷ []), None)
    ∷ ((codes "LIST", codes "215 l", codes "g 9 1 y" ∷ codes "g 9 1" ∷ []), Some (WrongLine 2 NoGroup))
    ∷ ((codes "LIST", codes "215 l", codes "a,b 1 1 y" ∷ []), Some (WrongLine 1 NoGroup))
    ∷ ((codes "LIST ACTIVE", codes "215 l", codes "g 9 1 y z" ∷ []), Some (WrongLine 1 NoGroup))
    ∷ ((codes "LIST ACTIVE", codes "215 l", codes "g 9 -1 y" ∷ []), Some (WrongLine 1 NoGroup))
    ∷ []

list_reasons : Makes reason lists
unfolding form_of chars is_utf8 encode_utf8
list_reasons = refl

-- what a line of OVER or XOVER says
abbrev overview : ℕ → List ℕ → (subject from date references : List (List ℕ)) → Option OverviewValue
overview number id subject from date references =
    Some (record { number = number; id = id; told = Some (record { subject = subject; from = from; date = date; references = references }) })

abbrev overview_lines : List (List ℕ × Option OverviewValue)
overview_lines =
    (codes "5\ts\tf\td\t<a@x>\tr\t9\t1", overview 5 (codes "<a@x>") (codes "s" ∷ []) (codes "f" ∷ []) (codes "d" ∷ []) (codes "r" ∷ []))
    ∷ (codes "5\t\t\t\t<a@x>", overview 5 (codes "<a@x>") [] [] [] [])
    ∷ (codes "0\t\t\t\t<a@x>\t\t9\t1", overview 0 (codes "<a@x>") [] [] [] [])
    ∷ (
      codes " 05 \tRe:  s \t\t\t <a@x>\t<r@x>  <q@x>\t9\t1\tXref: x",
      overview 5 (codes "<a@x>") (codes "Re:" ∷ codes "s" ∷ []) [] [] (codes "<r@x>" ∷ codes "<q@x>" ∷ []),
    )
    ∷ (codes "5\ts\tf\td", None)
    ∷ (codes "5 s f d <a@x> r 9 1", None)
    ∷ (codes "5 <a@x>", None)
    ∷ (codes "5\t<a@x>", None)
    ∷ (codes "\ts\tf\td\t<a@x>\tr\t9\t1", None)
    ∷ (codes "x\ts\tf\td\t<a@x>\tr\t9\t1", None)
    ∷ (codes "5 6\ts\tf\td\t<a@x>\tr\t9\t1", None)
    ∷ (codes "00000000000000005\ts\tf\td\t<a@x>\tr\t9\t1", None)
    ∷ (codes "5\ts\tf\td\t\t<r@x>\t9\t1", None)
    ∷ (codes "5\ts\tf\td\ta@x\tr\t9\t1", None)
    ∷ (codes "5\ts\tf\td\t<a@x> <b@x>\tr\t9\t1", None)
    ∷ (codes "", None)
    ∷ []

overviews_of_lines : Makes overview_of overview_lines
overviews_of_lines = refl

-- what a line of HDR or XHDR says
abbrev listed_id : ℕ → List ℕ → Option OverviewValue
listed_id number id = Some (record { number = number; id = id; told = None })

abbrev listed_id_lines : List (List ℕ × Option OverviewValue)
listed_id_lines =
    (codes "5 <a@x>", listed_id 5 (codes "<a@x>"))
    ∷ (codes " 05   <a@x> ", listed_id 5 (codes "<a@x>"))
    ∷ (codes "0 <a@x>", listed_id 0 (codes "<a@x>"))
    ∷ (codes "9999999999999999 <a@x>", listed_id 9999999999999999 (codes "<a@x>"))
    ∷ (codes "00000000000000005 <a@x>", None)
    ∷ (codes "5\t<a@x>", None)
    ∷ (codes "5 <a@x>\t", None)
    ∷ (codes "\t5 <a@x>", None)
    ∷ (codes "5\t\t\t\t<a@x>", None)
    ∷ (codes "5", None)
    ∷ (codes "<a@x>", None)
    ∷ (codes "5<a@x>", None)
    ∷ (codes "<a@x> 5", None)
    ∷ (codes "x <a@x>", None)
    ∷ (codes "-5 <a@x>", None)
    ∷ (codes "5 a@x", None)
    ∷ (codes "5 <>", None)
    ∷ (codes "5 (none)", None)
    ∷ (codes "5 <a@x> <b@x>", None)
    ∷ (codes "5 6 <a@x>", None)
    ∷ (codes "", None)
    ∷ []

ids_of_lines : Makes listed_id_of listed_id_lines
ids_of_lines = refl

-- what the lines of both kinds say, where one between them is of neither
abbrev mixed_lines : List (List ℕ)
mixed_lines = codes "1 <a@x>" ∷ codes "2\t\t\t\t<b@x>" ∷ codes "3\t<c@x>" ∷ codes "4  <d@x>" ∷ []

abbrev mixed_overviews : List OverviewValue
mixed_overviews =
    record { number = 1; id = codes "<a@x>"; told = None }
    ∷ record { number = 2; id = codes "<b@x>"; told = Some (record { subject = []; from = []; date = []; references = [] }) }
    ∷ record { number = 4; id = codes "<d@x>"; told = None }
    ∷ []

overviews_of_both_kinds : overviews_of mixed_lines ≡ mixed_overviews
overviews_of_both_kinds = refl

-- why these are no response to the line, where overviews are judged
abbrev judged_reason : Whole → Option Misspelling
judged_reason (line, initial, lines) = misspelling (to (request_as Judged line)) initial (Some (ended lines))

abbrev overviews : List (Whole × Option Misspelling)
overviews =
    ((codes "OVER 1-5", codes "224 o", codes "1\ts\tf\td\t<a@x>\tr\t9\t1" ∷ codes "2\t\t\t\t<b@x>" ∷ []), None)
    ∷ ((codes "XOVER 1-5", codes "224", []), None)
    ∷ ((codes "OVER <a@x>", codes "224", codes "0\t\t\t\t<a@x>" ∷ []), None)
    ∷ ((codes "XOVER", codes "224", codes "1 s f d <a@x>" ∷ []), Some (WrongLine 1 NoArticleNumber))
    ∷ ((codes "OVER 1-5", codes "224", codes "1\ts\tf\td\t<a@x>\tr" ∷ codes "x\ts\tf\td\t<a@x>\tr" ∷ []), Some (WrongLine 2 NoArticleNumber))
    ∷ ((codes "OVER 1-5", codes "224", codes "x\ts\tf\td" ∷ []), Some (WrongLine 1 NoArticleNumber))
    ∷ ((codes "OVER 1-5", codes "224", codes "1\ts\tf\td" ∷ []), Some (WrongLine 1 NoMessageId))
    ∷ ((codes "XOVER 1-5", codes "224", codes "1\ts\tf\td\t\t<r@x>" ∷ []), Some (WrongLine 1 NoMessageId))
    ∷ ((codes "OVER 1-5", codes "224", codes "1" ∷ codes ".x" ∷ []), Some (WrongLine 1 NoMessageId))
    ∷ ((codes "OVER 1-5", codes "224", codes ".x" ∷ []), Some (WrongLine 1 SingleDot))
    ∷ ((codes "OVER 1-5", codes "224", codes "1 <a@x>" ∷ []), Some (WrongLine 1 NoArticleNumber))
    ∷ ((codes "OVER x", codes "224", codes "1 x" ∷ []), None)
    ∷ ((codes "STAT", codes "224", codes "1 x" ∷ []), None)
    ∷ []

overview_reasons : Makes judged_reason overviews
unfolding form_of
overview_reasons = refl

abbrev ids : List (Whole × Option Misspelling)
ids =
    ((codes "HDR Message-ID 1-5", codes "225 h", codes "1 <a@x>" ∷ codes " 03  <c@x>" ∷ []), None)
    ∷ ((codes "XHDR message-id 1-5", codes "221 h", codes "1 <a@x>" ∷ []), None)
    ∷ ((codes "HDR Message-ID 1-5", codes "225", []), None)
    ∷ ((codes "XHDR Message-ID 1-5", codes "221", []), None)
    ∷ ((codes "HDR Message-ID 1-5", codes "225", codes "x <a@x>" ∷ []), Some (WrongLine 1 NoListedNumber))
    ∷ ((codes "HDR Message-ID 1-5", codes "225", codes "1 <a@x>" ∷ [] ∷ []), Some (WrongLine 2 NoListedNumber))
    ∷ ((codes "XHDR Message-ID 1-5", codes "221", codes "<a@x>" ∷ []), Some (WrongLine 1 NoListedNumber))
    ∷ ((codes "XHDR Message-ID 1-5", codes "221", codes "00000000000000001 <a@x>" ∷ []), Some (WrongLine 1 NoListedNumber))
    ∷ ((codes "HDR Message-ID 1-5", codes "225", codes "1 <a@x>" ∷ codes "3" ∷ []), Some (WrongLine 2 NoListedId))
    ∷ ((codes "HDR Message-ID 1-5", codes "225", codes "1 (none)" ∷ []), Some (WrongLine 1 NoListedId))
    ∷ ((codes "HDR Message-ID 1-5", codes "225", codes "1 <a@x> x" ∷ []), Some (WrongLine 1 NoListedId))
    ∷ ((codes "HDR Message-ID 1-5", codes "225", codes "1\t<a@x>" ∷ []), Some (WrongLine 1 NoListedId))
    ∷ ((codes "HDR Message-ID 1-5", codes "225", codes "1 <a@x>\t" ∷ []), Some (WrongLine 1 NoListedId))
    ∷ ((codes "HDR Message-ID 1-5", codes "225", codes "1\t\t\t\t<a@x>" ∷ []), Some (WrongLine 1 NoListedId))
    ∷ ((codes "XHDR Message-ID 1-5", codes "221", codes "1\ts\tf\td\t<a@x>\tr\t9\t1" ∷ []), Some (WrongLine 1 NoListedId))
    ∷ ((codes "HDR Message-ID 1-5", codes "225", codes "1" ∷ codes ".x" ∷ []), Some (WrongLine 1 NoListedId))
    ∷ ((codes "HDR Message-ID 1-5", codes "225", codes ".x" ∷ []), Some (WrongLine 1 SingleDot))
    ∷ ((codes "HDR Message-ID 1-5", codes "221", codes "1 x" ∷ []), None)
    ∷ ((codes "HDR Message-ID 1-5", codes "224", codes "1 x" ∷ []), None)
    ∷ ((codes "XHDR Message-ID 1-5", codes "225", codes "1 x" ∷ []), None)
    ∷ ((codes "OVER 1-5", codes "225", codes "1 x" ∷ []), None)
    ∷ ((codes "HDR Subject 1-5", codes "225", codes "1 x" ∷ []), None)
    ∷ ((codes "XHDR Message-ID <a@x>", codes "221", codes "<a@x> <a@x>" ∷ []), None)
    ∷ ((codes "HEAD", codes "225", codes "1 x" ∷ []), None)
    ∷ []

id_reasons : Makes judged_reason ids
unfolding form_of
id_reasons = refl

-- what is wrong with a list of capabilities
abbrev capabilities_reason : List (List ℕ) → Option Misspelling
capabilities_reason lines = reason (codes "CAPABILITIES", codes "101 l", lines)

abbrev no_versions : Option Misspelling
no_versions = Some (WrongLine 1 NoVersions)

abbrev capabilities : List (List (List ℕ) × Option Misspelling)
capabilities =
    (codes "VERSION 2" ∷ [], None)
    ∷ (codes "version 2 3" ∷ codes "READER" ∷ [], None)
    ∷ (codes "Version 2 10" ∷ codes "READER" ∷ [], None)
    ∷ ([], no_versions)
    ∷ (codes "READER" ∷ [], no_versions)
    ∷ (codes "READER" ∷ codes "VERSION 2" ∷ [], no_versions)
    ∷ (codes "VERSION" ∷ [], no_versions)
    ∷ (codes "VERSION 02" ∷ [], no_versions)
    ∷ (codes "version 02" ∷ [], no_versions)
    ∷ (codes "VERSION 2 03" ∷ [], no_versions)
    ∷ (codes "VERSION 2a" ∷ [], no_versions)
    ∷ (codes "VERSION 2" ∷ codes ".x" ∷ [], Some (WrongLine 2 SingleDot))
    ∷ []

capability_reasons : Makes capabilities_reason capabilities
unfolding form_of
capability_reasons = refl

-- a frame that was cut for LISTGROUP has a block that is none for GROUP, and the other way round
block_of_listgroup : reason (codes "GROUP g", codes "211 1 1 1 g", codes "1" ∷ []) ≡ Some WrongBlock
unfolding form_of chars is_utf8 encode_utf8
block_of_listgroup = refl

no_block_of_group : initial_reason (codes "LISTGROUP g", codes "211 1 1 1 g") ≡ Some WrongBlock
unfolding form_of chars is_utf8 encode_utf8
no_block_of_group = refl

-- ---- answers that close the connection

abbrev closing : List ((Asked × ℕ) × Bool)
closing =
    ((greeting, 200), false)
    ∷ ((greeting, 201), false)
    ∷ ((greeting, 400), true)
    ∷ ((greeting, 502), true)
    ∷ ((asked (codes "GROUP g"), 400), true)
    ∷ ((asked (codes "QUIT"), 400), true)
    ∷ ((asked (codes "QUIT"), 205), true)
    ∷ ((asked (codes "QUIT"), 500), false)
    ∷ ((asked (codes "GROUP g"), 205), false)
    ∷ ((asked (codes "MODE READER"), 502), true)
    ∷ ((asked (codes "MODE READER"), 200), false)
    ∷ ((asked (codes "MODE STREAM"), 502), false)
    ∷ ((asked (codes "GROUP g"), 502), false)
    ∷ ((asked (codes "HELP"), 502), false)
    ∷ ((asked (codes "HELP"), 100), false)
    ∷ []

closing_answers : Makes (λ row. closes row.0 (plain row.1)) closing
unfolding form_of
closing_answers = refl
