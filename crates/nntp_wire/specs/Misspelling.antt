-- Why a frame spells no response: the rule of spelling that fails first (RFC 3977, sections 3.1, 3.1.1, 3.2, 5.2, 6, 7.6.3 and 8.3).
use Rattle.std.specs.Prelude.{ℕ, ◌+◌, Bool, true, false, not, ◌||◌, ◌==◌, if◌then◌else◌, List, [], ◌∷◌, length, drop, Option, None, Some, is_some, option_map}
use Rattle.std.specs.List.{slice_split}
use Rattle.nntp_wire.specs.{Octets.{space, dot, is_clean}, Lines.{lines_of_stream}, Words.{words_of}, Number.{is_number}, Decided.{is_message_id}}
use Rattle.nntp_wire.specs.{Decided.{is_group_name}, Block.{unstuffed}, Listing.{listed_number_of, active_of, number_in_front, id_in_place, gives_versions}}
use Rattle.nntp_wire.specs.{Listing.{number_of_words, listed_id_of}, Answer.{Asked, code_of, is_fitting, is_block_due, kind_of}, Reason.{unless, first}}
use Rattle.nntp_wire.specs.declared.kind.Kind.{Kind, TheVariants.{Group, Numbers, Sent, Active, Overview, Ids, Capabilities, Plain}}
use Rattle.nntp_wire.specs.declared.misspelling.Misspelling.{Misspelling, TheVariants.{WrongOctet, TooLong, NoCode, WrongArgument, WrongLine, WrongBlock}}
use Rattle.nntp_wire.specs.declared.misspelling.{Due.{Due, TheVariants.{Number, GroupName, MessageId}}, LineFault.{LineFault, TheVariants.{BadOctet}}}
use Rattle.nntp_wire.specs.declared.misspelling.LineFault.TheVariants.{SingleDot, NoNumber, NoGroup, NoArticleNumber, NoMessageId, NoListedNumber, NoListedId}
use Rattle.nntp_wire.specs.declared.misspelling.LineFault.TheVariants.{NoVersions}

-- ---- arguments (section 3.2)

-- the octet is a space
abbrev pub is_space : ℕ → Bool
is_space b = b == space

-- the arguments behind a code: what stands between spaces, from the first one on
abbrev pub arguments_of : List ℕ → List (List ℕ)
arguments_of [] = []
arguments_of (b ∷ bs) = if is_space b then slice_split is_space bs else []

-- what is due behind a code: three numbers and the name of a group, or the number and the id of an article (sections 6.1 and 6.2)
abbrev pub dues : Kind → List Due
dues Group = Number ∷ Number ∷ Number ∷ GroupName ∷ []
dues Numbers = Number ∷ Number ∷ Number ∷ GroupName ∷ []
dues Sent = Number ∷ MessageId ∷ []
dues kind = []

-- the argument is what is due
abbrev pub is_argument : Due → List ℕ → Bool
is_argument Number argument = is_number argument
is_argument GroupName argument = is_group_name argument
is_argument MessageId argument = is_message_id argument

-- the first argument that isn't what is due or isn't there, where they are counted from this place on
abbrev pub argument_misspelling : ℕ → List Due → List (List ℕ) → Option Misspelling
argument_misspelling place [] arguments = None
argument_misspelling place (due ∷ dues) [] = Some (WrongArgument place due)
argument_misspelling place (due ∷ dues) (argument ∷ arguments) =
    first (unless (is_argument due argument) (WrongArgument place due) ∷ argument_misspelling (place + 1) dues arguments ∷ [])

-- ---- blocks (section 3.1.1)

-- a dot at the front of a line, as it is sent, is followed by another
abbrev pub has_no_single_dot : List ℕ → Bool
has_no_single_dot [] = true
has_no_single_dot (b ∷ []) = not (b == dot)
has_no_single_dot (b ∷ c ∷ bs) = not (b == dot) || c == dot

-- what a line lacks that it has to list (sections 5.2, 6.1.2, 7.6.3 and 8.3)
abbrev pub listing_fault : Kind → List ℕ → Option LineFault
listing_fault Numbers line = unless (is_some (listed_number_of line)) NoNumber
listing_fault Active line = unless (is_some (active_of line)) NoGroup
listing_fault Overview line = first (unless (is_some (number_in_front line)) NoArticleNumber ∷ unless (is_some (id_in_place line)) NoMessageId ∷ [])
listing_fault Ids line =
    first (unless (is_some (number_of_words (words_of line))) NoListedNumber ∷ unless (is_some (listed_id_of line)) NoListedId ∷ [])
listing_fault Capabilities line = unless (gives_versions (words_of line)) NoVersions
listing_fault kind line = None

-- what is wrong with a line, as it is sent, if something is
abbrev pub line_fault : Kind → List ℕ → Option LineFault
line_fault kind line = first (unless (is_clean line) BadOctet ∷ unless (has_no_single_dot line) SingleDot ∷ listing_fault kind (unstuffed line) ∷ [])

-- what the lines behind a first one have to list: only the first capability has to be the versions
abbrev pub kind_behind : Kind → Kind
kind_behind Capabilities = Plain
kind_behind kind = kind

-- the first line that is wrong, where they are counted from this place on
abbrev pub line_misspelling : Kind → ℕ → List (List ℕ) → Option Misspelling
line_misspelling kind place [] = None
line_misspelling kind place (line ∷ lines) = first (option_map (WrongLine place) (line_fault kind line) ∷ line_misspelling (kind_behind kind) (place + 1) lines ∷ [])

-- the same, where a list of capabilities has a first line at least
abbrev pub lines_misspelling : Kind → List (List ℕ) → Option Misspelling
lines_misspelling Capabilities [] = Some (WrongLine 1 NoVersions)
lines_misspelling kind lines = line_misspelling kind 1 lines

-- what is wrong with the octets before a dot line, where a block is due or isn't
abbrev pub block_misspelling : Kind → Bool → Option (List ℕ) → Option Misspelling
block_misspelling kind true (Some bytes) = lines_misspelling kind (lines_of_stream bytes)
block_misspelling kind false None = None
block_misspelling kind is_due sent = Some WrongBlock

-- ---- responses

-- what is wrong behind the code
abbrev pub misspelling_behind : Kind → Bool → List ℕ → Option (List ℕ) → Option Misspelling
misspelling_behind kind is_due bytes sent = first (argument_misspelling 1 (dues kind) (arguments_of bytes) ∷ block_misspelling kind is_due sent ∷ [])

-- the same, where a code is due (section 3.2)
abbrev pub code_misspelling : Asked → List ℕ → Option (List ℕ) → Option ℕ → Option Misspelling
code_misspelling asked line sent None = Some NoCode
code_misspelling asked line sent (Some code) = misspelling_behind (kind_of asked code) (is_block_due asked code) (drop 3 line) sent

-- why an initial line and the octets of a block spell no response under the prompt, if they don't (section 3.1)
abbrev pub misspelling : Asked → List ℕ → Option (List ℕ) → Option Misspelling
misspelling asked line sent = first (
    unless (is_clean line) WrongOctet
    ∷ unless (is_fitting asked (length line)) (TooLong (length line + 2))
    ∷ code_misspelling asked line sent (code_of line)
    ∷ [])
