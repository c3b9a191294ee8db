-- What `show` prints of sessions: their exchanges, and how their pairings end.
use Rattle.std.specs.Prelude.{◌≡◌, ℕ, ◌+◌, ⊤, Bool, true, false, ◌==◌, ◌||◌, if◌then◌else◌, List, [], ◌∷◌, ◌++◌, length, Option, None, Some, codes, decimal}
use Rattle.std.specs.List.{flat_map, list_all, list_any}
use Rattle.nntp_wire.specs.Answer.{Response, group_is, numbers_are, sends, active_are, plain, overviews_are}
use Rattle.nntp_pair.specs.{Pairing.{Paired, Ending, IsPairing, end, bad}, Classes.{class_of}}
use Rattle.nntp_several.specs.Sessions.{Named}
use Rattle.nntp_article.specs.Article.{Parts.{Line, is_empty, is_head, head_part}, Control.{ControlValue, cancel, new_group, rm_group, other, controls_of}}
use Rattle.nntp_article.specs.{Article.Required.{missing_of}, declared.article.missing_headers.Missing.{Missing}}
use Rattle.nntp_printing.specs.{BadAnswer.{bad_line}, Printing.{escaped}, Title.{title_line}}
use Rattle.nntp_check.specs.Report.{if_several}

-- what is answered: the greeting, or the line of the client
abbrev pub prompt_text : Option (List ℕ) → List ℕ
prompt_text None = codes "greeting"
prompt_text (Some line) = escaped line

-- the line of an exchange: its index, what is answered, and the initial line
abbrev pub exchange_line : Paired → List ℕ
exchange_line pair = decimal pair.index ++ codes " " ++ prompt_text pair.place.line ++ codes " -> " ++ escaped pair.initial ++ codes "\n"

-- the line of a group that an answer names
abbrev pub group_line : List ℕ → List ℕ
group_line name = codes "  group " ++ escaped name ++ codes "\n"

-- ---- what is told of a head

-- a word behind its space, if it is told
abbrev pub word_if : Bool → List ℕ → List ℕ
word_if is_told word = if is_told then codes " " ++ word else []

-- a content behind its space; an empty one has none
abbrev pub content_text : List ℕ → List ℕ
content_text [] = []
content_text (c ∷ cs) = codes " " ++ escaped (c ∷ cs)

-- the line of a Control header
abbrev pub control_line : ControlValue → List ℕ
control_line (cancel id) = codes "  control cancel " ++ escaped id ++ codes "\n"
control_line (new_group name moderated) = codes "  control newgroup " ++ escaped name ++ word_if moderated (codes "moderated") ++ codes "\n"
control_line (rm_group name) = codes "  control rmgroup " ++ escaped name ++ codes "\n"
control_line (other content) = codes "  control other" ++ content_text content ++ codes "\n"

-- a required header is missing
abbrev pub is_one_missing : Missing → Bool
is_one_missing m = m.from || m.date || m.newsgroups || m.subject || m.message_id || m.path

-- the names of the required headers that are missing
abbrev pub missing_names : Missing → List ℕ
missing_names m =
    word_if m.from (codes "From") ++ word_if m.date (codes "Date") ++ word_if m.newsgroups (codes "Newsgroups")
    ++ word_if m.subject (codes "Subject") ++ word_if m.message_id (codes "Message-ID") ++ word_if m.path (codes "Path")

-- the line of what is missing, if anything is
abbrev pub missing_line : Missing → List ℕ
missing_line m = if is_one_missing m then codes "  missing" ++ missing_names m ++ codes "\n" else []

-- what a head says: a line for each Control header, in order, and one for what is missing
abbrev pub told_by_head : List Line → List ℕ
told_by_head head = flat_map control_line (controls_of head) ++ missing_line (missing_of head)

-- ---- what stands under the line of an exchange

-- under lines that are to be a head: nothing where they are none
abbrev pub under_head : List Line → List ℕ
under_head lines = if is_head lines then told_by_head lines else []

-- under lines that are to be an article: nothing where they have not both parts
abbrev pub under_article : List Line → List ℕ
under_article lines = if list_any is_empty lines then under_head (head_part lines) else []

-- under lines that are sent: with 220 they are an article, with 221 a head
abbrev pub under_lines : ℕ → List Line → List ℕ
under_lines code lines = if code == 220 then under_article lines else if code == 221 then under_head lines else []

-- the same where no lines may be sent
abbrev pub under_block : ℕ → Option (List Line) → List ℕ
under_block code None = []
under_block code (Some lines) = under_lines code lines

-- under an answer: the group that it names, or what it sends
abbrev pub under : Response → List ℕ
under (group_is marks name) = group_line name
under (numbers_are marks name lines) = group_line name
under (sends success) = under_block success.code success.block
under (active_are lines) = []
under (overviews_are lines) = []
under (plain code) = []

-- ---- the report

-- an exchange: its line, and what stands under it
abbrev pub exchange_text : Paired → List ℕ
exchange_text pair = exchange_line pair ++ under pair.response

-- the last line where no octet of the server is left: how many answers there are, and how many lines have none
abbrev pub end_line : ℕ → ℕ → List ℕ
end_line answers unanswered = codes "end answers=" ++ decimal answers ++ codes " unanswered=" ++ decimal unanswered ++ codes "\n"

-- the last line, behind so many answers
abbrev pub ending_line : ℕ → Ending → List ℕ
ending_line answers (end unanswered) = end_line answers unanswered
ending_line answers (bad class) = bad_line answers (class_of class)

-- no octet of the server is left
abbrev pub is_end : Ending → Bool
is_end (end unanswered) = true
is_end (bad class) = false

-- a session as it is shown: its name, its exchanges, and how their pairing ends
pub record ShownSession : Type 0 where
  pub name : List ℕ
  pub pairs : List Paired
  pub ending : Ending

-- its lines
abbrev pub session_text : ShownSession → List ℕ
session_text s = flat_map exchange_text s.pairs ++ ending_line (length s.pairs) s.ending

-- this is a session as it is shown
abbrev pub IsShownAs : Named → ShownSession → Type 0
IsShownAs named s = (s.name ≡ named.name) × IsPairing named.session.client named.session.server s.pairs s.ending

-- these are sessions as they are shown
abbrev pub AreShown : List Named → List ShownSession → Type 0
AreShown [] [] = ⊤
AreShown (named ∷ more) (s ∷ shown) = IsShownAs named s × AreShown more shown
AreShown sessions shown = ⊥

-- the report on sessions, of which the first has this number: the lines of each, of several behind its title
abbrev pub shown_report : Bool → ℕ → List ShownSession → List ℕ
shown_report is_several number [] = []
shown_report is_several number (s ∷ shown) = if_several is_several (title_line number s.name) ++ session_text s ++ shown_report is_several (number + 1) shown

-- no octet of a server is left
abbrev pub are_answered : List ShownSession → Bool
are_answered shown = list_all (λ (s : ShownSession). is_end s.ending) shown
