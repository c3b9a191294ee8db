-- Articles: their two parts, the headers of a head, and the id that a head says (RFC 3977, section 3.6; RFC 1036, section 2).
use Rattle.std.specs.{Prelude.{ℕ, Bool, true, false, not, ◌&&◌, ◌==◌, nat_le, if◌then◌else◌, List, [], ◌∷◌, ◌++◌, Option, None, Some, codes}, List.{list_any}}
use Rattle.std.specs.List.{list_all, filter, concat, before_first, after_first}
use Rattle.nntp_wire.specs.{Octets.{is_blank, is_clean}, Words.{is_same_word}, Decided.{is_message_id}}

-- a line without its CRLF
abbrev pub Line : Type 0
Line = List ℕ

-- a message id
abbrev pub Id : Type 0
Id = List ℕ

abbrev pub is_empty : {A : Type 0} → List A → Bool
is_empty [] = true
is_empty (x ∷ xs) = false

-- ---- the parts of an article (RFC 3977, section 3.6)

-- the head: the lines before the first empty one
abbrev pub head_part : List Line → List Line
head_part [] = []
head_part ([] ∷ lines) = []
head_part ((c ∷ cs) ∷ lines) = (c ∷ cs) ∷ head_part lines

-- the body: the lines behind the first empty one
abbrev pub body_part : List Line → List Line
body_part [] = []
body_part ([] ∷ lines) = lines
body_part ((c ∷ cs) ∷ lines) = body_part lines

-- ---- headers

-- a header: its first line, and the lines that continue it
abbrev pub Header : Type 0
Header = List Line

-- SP or TAB begins the line: it continues the header before it
abbrev pub is_continuation : Line → Bool
is_continuation [] = false
is_continuation (c ∷ cs) = is_blank c

abbrev pub is_colon : ℕ → Bool
is_colon c = c == 58

-- visible ASCII but for the colon
abbrev pub is_name_octet : ℕ → Bool
is_name_octet c = nat_le 0x21 c && nat_le c 0x7E && not (is_colon c)

-- one or more octets of a name, a colon, and then any octets
abbrev pub begins_header : Line → Bool
begins_header line =
    list_any is_colon line && not (is_empty (before_first is_colon line)) && list_all is_name_octet (before_first is_colon line)

-- a first line that begins a header, and continuation lines
abbrev pub is_header : Header → Bool
is_header [] = false
is_header (first ∷ more) = begins_header first && list_all is_continuation more

-- the first of the lines continues a header before them
abbrev pub continues_first : List Line → Bool
continues_first [] = false
continues_first (line ∷ lines) = is_continuation line

-- a line in front of headers takes the lines that continue it
abbrev pub with_line : Line → List Header → List Header
with_line line [] = (line ∷ []) ∷ []
with_line line (header ∷ headers) =
    if continues_first header then (line ∷ header) ∷ headers else (line ∷ []) ∷ header ∷ headers

-- the headers in order: a new one begins at each line that is no continuation line
abbrev pub headers : List Line → List Header
headers [] = []
headers (line ∷ lines) = with_line line (headers lines)

-- one or more headers, one after the other
abbrev pub is_head : List Line → Bool
is_head lines = not (is_empty (headers lines)) && list_all is_header (headers lines)

-- the same of lines that hold no NUL, CR or LF
abbrev pub is_clean_head : List Line → Bool
is_clean_head lines = list_all is_clean lines && is_head lines

-- ---- what a header says

-- what stands before the colon
abbrev pub name_of : Header → List ℕ
name_of [] = []
name_of (first ∷ more) = before_first is_colon first

abbrev pub skip_blanks : List ℕ → List ℕ
skip_blanks [] = []
skip_blanks (c ∷ cs) = if is_blank c then skip_blanks cs else c ∷ cs

abbrev pub skip_last_blanks : List ℕ → List ℕ
skip_last_blanks [] = []
skip_last_blanks (c ∷ cs) = if list_all is_blank (c ∷ cs) then [] else c ∷ skip_last_blanks cs

-- what follows the colon, with the continuation lines as they are, without SP and TAB at both ends
abbrev pub content_of : Header → List ℕ
content_of [] = []
content_of (first ∷ more) = skip_last_blanks (skip_blanks (after_first is_colon first ++ concat more))

-- the header has this name, upper or lower case
abbrev pub is_named : List ℕ → Header → Bool
is_named name header = is_same_word (name_of header) name

-- ---- the id (RFC 1036, section 2.1.5)

-- the content of the only header, where it is a message id
abbrev pub only_id : List Header → Option Id
only_id [] = None
only_id (header ∷ []) = if is_message_id (content_of header) then Some (content_of header) else None
only_id (header ∷ other ∷ more) = None

-- the id that a head says: it has one Message-ID header, and this is its content
abbrev pub said_id : List Line → Option Id
said_id lines = only_id (filter (is_named (codes "Message-ID")) (headers lines))
