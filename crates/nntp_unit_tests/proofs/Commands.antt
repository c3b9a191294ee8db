-- What a line of the client asks for.
use Rattle.std.{proofs.Common.{◌≡◌, ℕ, List, [], ◌∷◌, ◌++◌, Option, None, Some, map, replicate, refl}, specs.{Prelude.{codes}, Char.{encode_utf8}, Str.{chars}}}
use Rattle.std.specs.Str.{is_utf8}
use Rattle.nntp_wire.specs.Command.{Request, by_id, by_number, current, capabilities, mode_reader, next, last, quit, opaque, ill_formed, group, list_group}
use Rattle.nntp_wire.specs.{Command.{retrieve, list_active, over, the_id, in_range, the_current, form_of, request_as, request_of}, Inner.Prompts.{prompt_kind}}
use Rattle.nntp_wire.specs.{Answer.{to}, declared.{overviews.Overviews.TheVariants.{Judged}, command.What.TheVariants.{Article, Head, Body, Stat}}}
use Rattle.nntp_wire.specs.declared.{command.OverviewKeyword.TheVariants.{Over, Xover, Hdr, Xhdr}, range.Range.{Range}, prompt_kind.PromptKind.{PromptKind}}
use Rattle.nntp_wire.specs.declared.prompt_kind.PromptKind.TheVariants.{ListGroup, ModeReader, Quit, Other}
use Rattle.nntp_unit_tests.proofs.Rows.{Makes}

-- each line asks for this
abbrev Ask : List (List ℕ) → Request → Type 0
Ask lines request = map request_of lines ≡ map (λ _. request) lines

-- ---- opaque and ill-formed lines

opaque_lines : Ask (
    codes "MODE STREAM"
    ∷ codes "MODE STREAM x"
    ∷ codes "MODE"
    ∷ codes "LIST overview.fmt"
    ∷ codes "LIST ACTIVE a[b"
    ∷ codes "X-Y.z"
    ∷ codes "OVER"
    ∷ codes "OVER <a@b>"
    ∷ codes "XOVER 1-5"
    ∷ codes "HDR Message-ID 1-5"
    ∷ codes "XHDR Message-ID 1-5"
    ∷ codes "HDR Message-ID 1-5 x"
    ∷ codes "abc"
    ∷ []) opaque
unfolding form_of chars is_utf8 encode_utf8
opaque_lines = refl

ill_formed_lines : Ask (
    codes ""
    ∷ codes " "
    ∷ codes "ab"
    ∷ codes "1ab"
    ∷ codes "GR_UP g"
    ∷ codes "GROUP a\rb"
    ∷ codes "GROUP a\nb"
    ∷ codes "GROUP a\0b"
    ∷ codes "XOVER a\0b"
    ∷ codes "GROUP"
    ∷ codes "GROUP a b"
    ∷ codes "QUIT now"
    ∷ codes "NEXT 1"
    ∷ codes "LAST 1"
    ∷ codes "STAT 1x"
    ∷ codes "STAT 1 2"
    ∷ codes "MODE READER x"
    ∷ codes "LIST ACTIVE a b"
    ∷ codes "LISTGROUP g 1 2"
    ∷ codes "CAPABILITIES a b"
    ∷ []) ill_formed
unfolding form_of
ill_formed_lines = refl

no_ranges : Ask (
    codes "LISTGROUP g 12345678901234567"
    ∷ codes "LISTGROUP g 1-12345678901234567"
    ∷ codes "LISTGROUP g -1"
    ∷ codes "LISTGROUP g -"
    ∷ codes "LISTGROUP g 1-2-3"
    ∷ codes "LISTGROUP g 1,2"
    ∷ codes "LISTGROUP g x"
    ∷ []) ill_formed
unfolding form_of
no_ranges = refl

-- ---- commands

abbrev g : Option (List ℕ)
g = Some (codes "g")

abbrev range : ℕ → Option ℕ → Range
range first last_number = record { first = first; last = last_number }

abbrev rows : List (List ℕ × Request)
rows =
    (codes "CAPABILITIES", capabilities)
    ∷ (codes "capabilities x", capabilities)
    ∷ (codes "mode reader", mode_reader)
    ∷ (codes "GROUP a,b", group (codes "a,b"))
    ∷ (codes "next", next)
    ∷ (codes "LAST", last)
    ∷ (codes " QUIT\t", quit)
    ∷ (codes "LIST", list_active None)
    ∷ (codes "list active", list_active None)
    ∷ (codes "LIST ACTIVE a*,!ab", list_active (Some (codes "a*,!ab")))
    ∷ (codes "LISTGROUP", list_group None (range 1 None))
    ∷ (codes "LISTGROUP g", list_group g (range 1 None))
    ∷ (codes "listgroup g 05-", list_group g (range 5 None))
    ∷ (codes "LISTGROUP g 2-1", list_group g (range 2 (Some 1)))
    ∷ (codes "LISTGROUP g 3", list_group g (range 3 (Some 3)))
    ∷ (codes "LISTGROUP g 0-0", list_group g (range 0 (Some 0)))
    ∷ (codes "LISTGROUP g 1-1234567890123456", list_group g (range 1 (Some 1234567890123456)))
    ∷ (codes "ARTICLE", retrieve Article current)
    ∷ (codes "head 5", retrieve Head (by_number (Some 5)))
    ∷ (codes "BODY <a>", retrieve Body (by_id (codes "<a>")))
    ∷ (codes "STAT <", retrieve Stat (by_id (codes "<")))
    ∷ (codes "STAT 0000000000000005", retrieve Stat (by_number (Some 5)))
    ∷ (codes "STAT 12345678901234567", retrieve Stat (by_number None))
    ∷ []

commands : Makes request_of rows
unfolding form_of chars is_utf8 encode_utf8
commands = refl

-- ---- commands, where overviews are judged

other_commands : Makes (request_as Judged) rows
unfolding form_of chars is_utf8 encode_utf8
other_commands = refl

abbrev overview_rows : List (List ℕ × Request)
overview_rows =
    (codes "OVER", over Over the_current)
    ∷ (codes "xover ", over Xover the_current)
    ∷ (codes "over 5", over Over (in_range (range 5 (Some 5))))
    ∷ (codes "OVER 05-", over Over (in_range (range 5 None)))
    ∷ (codes "XOVER 1-5", over Xover (in_range (range 1 (Some 5))))
    ∷ (codes "XOVER 5-3", over Xover (in_range (range 5 (Some 3))))
    ∷ (codes "OVER 0", over Over (in_range (range 0 (Some 0))))
    ∷ (codes "OVER <a@b>", over Over (the_id (codes "<a@b>")))
    ∷ (codes "XOVER <", over Xover (the_id (codes "<")))
    ∷ (codes "OVER 1-2-3", opaque)
    ∷ (codes "OVER -5", opaque)
    ∷ (codes "OVER 12345678901234567", opaque)
    ∷ (codes "OVER a@b", opaque)
    ∷ (codes "OVER 1 2", opaque)
    ∷ (codes "OVER <a@b> <c@d>", opaque)
    ∷ (codes "OVERVIEW", opaque)
    ∷ (codes "XHDR Subject 1-5", opaque)
    ∷ (codes "OVER a\0b", ill_formed)
    ∷ []

overviews : Makes (request_as Judged) overview_rows
unfolding form_of
overviews = refl

-- HDR and XHDR of Message-ID with a range; all others are opaque
abbrev header_rows : List (List ℕ × Request)
header_rows =
    (codes "HDR Message-ID 1-5", over Hdr (in_range (range 1 (Some 5))))
    ∷ (codes "XHDR Message-ID 1-5", over Xhdr (in_range (range 1 (Some 5))))
    ∷ (codes "hdr message-id 5", over Hdr (in_range (range 5 (Some 5))))
    ∷ (codes "xHdr\tMESSAGE-Id  05- ", over Xhdr (in_range (range 5 None)))
    ∷ (codes "HDR Message-ID 5-3", over Hdr (in_range (range 5 (Some 3))))
    ∷ (codes "XHDR Message-ID 0", over Xhdr (in_range (range 0 (Some 0))))
    ∷ (codes "HDR Message-ID 1-1234567890123456", over Hdr (in_range (range 1 (Some 1234567890123456))))
    ∷ (codes "HDR", opaque)
    ∷ (codes "HDR Message-ID", opaque)
    ∷ (codes "XHDR Message-ID", opaque)
    ∷ (codes "HDR 1-5", opaque)
    ∷ (codes "HDR Message-ID <a@b>", opaque)
    ∷ (codes "XHDR Message-ID <", opaque)
    ∷ (codes "HDR Message-ID 12345678901234567", opaque)
    ∷ (codes "HDR Message-ID -5", opaque)
    ∷ (codes "XHDR Message-ID 1-2-3", opaque)
    ∷ (codes "XHDR Message-ID x", opaque)
    ∷ (codes "HDR Message-ID 1 2", opaque)
    ∷ (codes "XHDR Message-ID 1-5 x", opaque)
    ∷ (codes "HDR 1-5 Message-ID", opaque)
    ∷ (codes "HDR Subject 1-5", opaque)
    ∷ (codes "HDR :bytes 1-5", opaque)
    ∷ (codes "HDR Message-I 1-5", opaque)
    ∷ (codes "HDR Message-IDs 1-5", opaque)
    ∷ (codes "HDR Message-ID: 1-5", opaque)
    ∷ (codes "HDR MessageID 1-5", opaque)
    ∷ (codes "HDRS Message-ID 1-5", opaque)
    ∷ (codes "HDR Message-ID 1\0", ill_formed)
    ∷ []

headers : Makes (request_as Judged) header_rows
unfolding form_of
headers = refl

-- ---- lines of 512 octets with CRLF, and of 513

-- so many letters
abbrev letters : ℕ → List ℕ
letters count = replicate count 97

named_of_512 : request_of (codes "GROUP " ++ letters 504) ≡ group (letters 504)
unfolding form_of
named_of_512 = refl

named_of_513 : Ask ((codes "GROUP " ++ letters 505) ∷ (codes "LIST " ++ letters 506) ∷ (codes "MODE " ++ letters 506) ∷ []) ill_formed
unfolding form_of
named_of_513 = refl

opaque_of_512_and_513 : Ask ((codes "LIST " ++ letters 505) ∷ (codes "MODE " ++ letters 505) ∷ (codes "GROUX " ++ letters 505) ∷ []) opaque
unfolding form_of
opaque_of_512_and_513 = refl

opaque_headers_of_513 : Ask ((codes "HDR " ++ letters 507) ∷ (codes "XHDR " ++ letters 506) ∷ []) opaque
unfolding form_of
opaque_headers_of_513 = refl

abbrev long_overviews : List (List ℕ × Request)
long_overviews =
    (codes "XOVER <" ++ letters 503, over Xover (the_id (codes "<" ++ letters 503)))
    ∷ (codes "XOVER <" ++ letters 504, ill_formed)
    ∷ (codes "XOVER " ++ letters 504, opaque)
    ∷ (codes "XOVER " ++ letters 505, ill_formed)
    ∷ (codes "XOVEX " ++ letters 505, opaque)
    ∷ []

overviews_of_512_and_513 : Makes (request_as Judged) long_overviews
unfolding form_of
overviews_of_512_and_513 = refl

-- a command that asks for the ids of 1 to 5, and so many spaces
abbrev spaces : List ℕ → ℕ → List ℕ
spaces line count = line ++ replicate count 32

abbrev long_headers : List (List ℕ × Request)
long_headers =
    (spaces (codes "HDR Message-ID 1-5") 492, over Hdr (in_range (range 1 (Some 5))))
    ∷ (spaces (codes "HDR Message-ID 1-5") 493, ill_formed)
    ∷ (spaces (codes "XHDR Message-ID 1-5") 491, over Xhdr (in_range (range 1 (Some 5))))
    ∷ (spaces (codes "XHDR Message-ID 1-5") 492, ill_formed)
    ∷ (codes "HDR Subject " ++ letters 498, opaque)
    ∷ (codes "HDR Subject " ++ letters 499, ill_formed)
    ∷ (codes "XHDRX Message-ID " ++ letters 494, opaque)
    ∷ []

headers_of_512_and_513 : Makes (request_as Judged) long_headers
unfolding form_of
headers_of_512_and_513 = refl

-- ---- what of a line decides how it is answered

abbrev kinds : List (List ℕ × PromptKind)
kinds =
    (codes "LISTGROUP", ListGroup)
    ∷ (codes "listgroup g 1-", ListGroup)
    ∷ (codes "MODE READER", ModeReader)
    ∷ (codes "MODE STREAM", Other)
    ∷ (codes "QUIT", Quit)
    ∷ (codes " \tquit", Quit)
    ∷ (codes "QUIT now", Other)
    ∷ (codes "GROUP g", Other)
    ∷ (codes "LAST", Other)
    ∷ (codes "", Other)
    ∷ []

kinds_of_lines : Makes (λ line. prompt_kind (to (request_of line))) kinds
unfolding form_of
kinds_of_lines = refl
