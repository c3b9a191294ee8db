-- Responses and their spellings (RFC 3977, sections 3.1, 3.2, 5, 6, 7.6.3 and 8.3).
use Rattle.std.specs.Prelude.{ℕ, ◌≡◌, Bool, true, ◌&&◌, ◌||◌, ◌==◌, nat_le, if◌then◌else◌, List, [], ◌∷◌, ◌++◌, length, take, drop, slice_index, Option, None}
use Rattle.std.specs.{Prelude.{Some, is_some, IsTrue, ⊤}, List.{list_all, list_any}, Char.{is_ascii_digit}, Int.{is_in_range}}
use Rattle.nntp_wire.specs.{Octets.{crlf, is_clean}, Number.{number_value}, Argument.{is_comment, HasArticle, HasGroup}, Listing.{are_listed_numbers}}
use Rattle.nntp_wire.specs.{Listing.{are_active_lines, are_overview_lines, are_listed_ids, begins_with_versions}, Block.{sent, dot_line, AreClean}}
use Rattle.nntp_wire.specs.{Command.{Request, capabilities, next, last, opaque, group, list_group, retrieve, list_active, over}, declared.command.What.{What}}
use Rattle.nntp_wire.specs.declared.command.{What.TheVariants.{Article, Head, Body, Stat}, OverviewKeyword.{OverviewKeyword, TheVariants.{Over, Xover, Hdr}}}
use Rattle.nntp_wire.specs.declared.{command.OverviewKeyword.TheVariants.{Xhdr}, water_marks.WaterMarks.{WaterMarks}, kind.Kind.{Kind, TheVariants.{Group}}}
use Rattle.nntp_wire.specs.declared.kind.Kind.TheVariants.{Numbers, Sent, Active, Overview, Ids, Capabilities, Plain}

-- what a response answers
pub data Asked : Type 0 where
  greeting : Asked
  to : Request → Asked

-- an article that was found, or a part of it
pub record Success : Type 0 where
  pub code : ℕ
  pub number : ℕ
  pub id : List ℕ
  pub block : Option (List (List ℕ))

-- what a response says: a block is its lines
pub data Response : Type 0 where
  group_is : (marks : WaterMarks) → (name : List ℕ) → Response
  numbers_are : (marks : WaterMarks) → (name : List ℕ) → (lines : List (List ℕ)) → Response
  sends : (success : Success) → Response
  active_are : (lines : List (List ℕ)) → Response
  overviews_are : (lines : List (List ℕ)) → Response
  plain : (code : ℕ) → Response

-- the line begins with three digits, the first of them 1 to 5, and then ends or goes on with a space (section 3.2)
abbrev pub has_code : List ℕ → Bool
has_code line = nat_le 3 (length line) && list_all is_ascii_digit (take 3 line)
    && is_in_range 49 53 (slice_index line 0) && is_comment (drop 3 line)

-- the code at the front of a line
abbrev pub code_of : List ℕ → Option ℕ
code_of line = if has_code line then Some (number_value (take 3 line)) else None

-- an initial line has 510 octets at most, unless the command is opaque
abbrev pub is_fitting : Asked → ℕ → Bool
is_fitting (to opaque) len = true
is_fitting asked len = nat_le len 510

-- the code of an initial line
abbrev pub status_of : Asked → List ℕ → Option ℕ
status_of asked line = if is_clean line && is_fitting asked (length line) then code_of line else None

-- the codes that a block follows
abbrev pub block_codes : List ℕ
block_codes = 100 ∷ 101 ∷ 215 ∷ 220 ∷ 221 ∷ 222 ∷ 224 ∷ 225 ∷ 230 ∷ 231 ∷ []

-- a block is due after the code under this prompt: after LISTGROUP also after 211 (sections 3.2 and 9.4.3)
abbrev pub is_block_due : Asked → ℕ → Bool
is_block_due (to (list_group name range)) code = code == 211 || list_any (λ c. code == c) block_codes
is_block_due asked code = list_any (λ c. code == c) block_codes

-- the code by which ARTICLE, HEAD, BODY and STAT succeed
abbrev pub success_code : What → ℕ
success_code Article = 220
success_code Head = 221
success_code Body = 222
success_code Stat = 223

-- the code by which OVER, XOVER, HDR and XHDR succeed (sections 8.3 and 8.5; RFC 2980, sections 2.6 and 2.8)
abbrev pub overview_code : OverviewKeyword → ℕ
overview_code Over = 224
overview_code Xover = 224
overview_code Hdr = 225
overview_code Xhdr = 221

-- what they list
abbrev pub overview_kind : OverviewKeyword → Kind
overview_kind Over = Overview
overview_kind Xover = Overview
overview_kind Hdr = Ids
overview_kind Xhdr = Ids

-- which response a code stands for under a prompt
abbrev pub kind_of : Asked → ℕ → Kind
kind_of (to (group name)) code = if code == 211 then Group else Plain
kind_of (to (list_group name range)) code = if code == 211 then Numbers else Plain
kind_of (to (retrieve what target)) code = if code == success_code what then Sent else Plain
kind_of (to next) code = if code == 223 then Sent else Plain
kind_of (to last) code = if code == 223 then Sent else Plain
kind_of (to (list_active wildmat)) code = if code == 215 then Active else Plain
kind_of (to (over keyword which)) code = if code == overview_code keyword then overview_kind keyword else Plain
kind_of (to capabilities) code = if code == 101 then Capabilities else Plain
kind_of asked code = Plain

-- the octets behind the code name a group (section 6.1.1)
abbrev pub SaysGroup : List ℕ → Response → Type 0
SaysGroup bytes (group_is m name) = HasGroup bytes m name
SaysGroup bytes response = ⊥

-- the octets behind the code name a group, and the lines list numbers (section 6.1.2)
abbrev pub SaysNumbers : List ℕ → List (List ℕ) → Response → Type 0
SaysNumbers bytes lines (numbers_are m name listed) = HasGroup bytes m name × IsTrue (are_listed_numbers lines) × (listed ≡ lines)
SaysNumbers bytes lines response = ⊥

-- the octets behind the code name an article, of which the block is sent (section 6.2)
abbrev pub SaysArticle : ℕ → List ℕ → Option (List (List ℕ)) → Response → Type 0
SaysArticle code bytes block (sends s) = (s.code ≡ code) × HasArticle bytes s.number s.id × (s.block ≡ block)
SaysArticle code bytes block response = ⊥

-- the lines list groups (section 7.6.3)
abbrev pub SaysActive : List (List ℕ) → Response → Type 0
SaysActive lines (active_are listed) = IsTrue (are_active_lines lines) × (listed ≡ lines)
SaysActive lines response = ⊥

-- the lines are overviews (section 8.3)
abbrev pub SaysOverviews : List (List ℕ) → Response → Type 0
SaysOverviews lines (overviews_are listed) = IsTrue (are_overview_lines lines) × (listed ≡ lines)
SaysOverviews lines response = ⊥

-- the lines are numbers with ids (section 8.5)
abbrev pub SaysIds : List (List ℕ) → Response → Type 0
SaysIds lines (overviews_are listed) = IsTrue (are_listed_ids lines) × (listed ≡ lines)
SaysIds lines response = ⊥

-- the response says no more than the code
abbrev pub SaysCode : ℕ → Response → Type 0
SaysCode code (plain c) = c ≡ code
SaysCode code response = ⊥

-- the lines list capabilities (section 5.2)
abbrev pub SaysCapabilities : ℕ → List (List ℕ) → Response → Type 0
SaysCapabilities code lines response = IsTrue (begins_with_versions lines) × SaysCode code response

-- there is a block, and its lines say the response
abbrev pub SaysByLines : (List (List ℕ) → Response → Type 0) → Option (List (List ℕ)) → Response → Type 0
SaysByLines P None response = ⊥
SaysByLines P (Some lines) response = P lines response

-- the octets behind the code and the block say the response
abbrev pub Says : Kind → ℕ → List ℕ → Option (List (List ℕ)) → Response → Type 0
Says Group code bytes block response = SaysGroup bytes response
Says Numbers code bytes block response = SaysByLines (SaysNumbers bytes) block response
Says Sent code bytes block response = SaysArticle code bytes block response
Says Active code bytes block response = SaysByLines SaysActive block response
Says Overview code bytes block response = SaysByLines SaysOverviews block response
Says Ids code bytes block response = SaysByLines SaysIds block response
Says Capabilities code bytes block response = SaysByLines (SaysCapabilities code) block response
Says Plain code bytes block response = SaysCode code response

-- a block as it is sent
abbrev pub block_octets : Option (List (List ℕ)) → List ℕ
block_octets None = []
block_octets (Some lines) = sent lines ++ dot_line

-- no line of a block holds NUL, CR or LF
abbrev pub IsCleanBlock : Option (List (List ℕ)) → Type 0
IsCleanBlock None = ⊤
IsCleanBlock (Some lines) = AreClean lines

-- the octets are a spelling of the response under the prompt
pub record Spells (asked : Asked) (response : Response) (bytes : List ℕ) : Type 0 where
  pub line : List ℕ
  pub code : ℕ
  pub block : Option (List (List ℕ))
  pub whole : bytes ≡ line ++ crlf ++ block_octets block
  pub status : status_of asked line ≡ Some code
  pub due : is_some block ≡ is_block_due asked code
  pub clean : IsCleanBlock block
  pub says : Says (kind_of asked code) code (drop 3 line) block response
