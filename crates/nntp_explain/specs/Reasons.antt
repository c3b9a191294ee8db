-- What `explain` prints of why an answer is bad. `here` is the number of its session.
use Rattle.std.specs.Prelude.{ℕ, suc, ◌-◌, ◌==◌, ◌&&◌, Bool, false, if◌then◌else◌, List, [], ◌∷◌, ◌++◌, length, Option, None, Some, slice_get, codes, decimal}
use Rattle.std.specs.{List.{flat_map}, Option.{option_map, option_map_or}}
use Rattle.nntp_wire.specs.{Answer.{Response, group_is, numbers_are}, declared.misspelling.Misspelling.{Misspelling, TheVariants.{WrongOctet, TooLong, NoCode}}}
use Rattle.nntp_wire.specs.declared.misspelling.{Misspelling.TheVariants.{WrongArgument, WrongLine, WrongBlock}, Due.{Due, TheVariants.{Number, GroupName}}}
use Rattle.nntp_wire.specs.declared.misspelling.{Due.TheVariants.{MessageId}, LineFault.{LineFault, TheVariants.{BadOctet, SingleDot, NoNumber, NoGroup}}}
use Rattle.nntp_wire.specs.{declared.misspelling.LineFault.TheVariants.{NoArticleNumber, NoMessageId, NoListedNumber, NoListedId, NoVersions}, Session.{closes}}
use Rattle.nntp_article.specs.{Article.{Parts.{Id}, Fields.{name_of_field}}, declared.article.field.Field.{Field}, Session.Misfit.{Misfit, wrong_code}}
use Rattle.nntp_article.specs.Session.Misfit.{wrong_name, wrong_number, wrong_id, below_low, wrong_marks, beyond_limit, not_above, beyond_range, unmatched}
use Rattle.nntp_article.specs.Session.{Misfit.{listed_twice, wrong_lines, no_head, other_id}, Machine.{is_same}, Spool.{Name}}
use Rattle.nntp_said.specs.declared.position.Position.{Position, TheVariants.{Nowhere, First, Known}}
use Rattle.nntp_printing.specs.{BadAnswer.{shown, command_line}, Printing.{escaped}}
use Rattle.nntp_theory.specs.Conflict.{Point, Step, Group, Number as NumberOf, Count, First as FirstNumber, IdOf, PlaceOf, Article, HeadOf, BodyOf, FieldOf}
use Rattle.nntp_pair.specs.Pairing.{asked_at}
use Rattle.nntp_facts.specs.declared.{standing.Standing.{Standing}, placed.Placed.{Placed as Cited}}

-- ---- where the session stands

-- the current article, and the answer that made it so: it is not known where the session stands at the first one
abbrev pub current_text : Position → ℕ → List ℕ
current_text Nowhere by = codes "first"
current_text First by = codes "first"
current_text (Known n) by = decimal n ++ codes " since " ++ decimal by

-- the line that tells where the session stands, where this group is selected
abbrev pub stands_in : Option Name → Standing → List ℕ
stands_in None s = codes "in no group\n"
stands_in (Some name) s = codes "in " ++ escaped name ++ codes " since " ++ decimal s.selected_by ++ codes " at " ++ current_text s.position s.moved_by ++ codes "\n"

abbrev pub standing_line : Standing → List ℕ
standing_line s = stands_in s.selected s

-- ---- why it doesn't fit

-- a line of a word and a number
abbrev pub number_line : List ℕ → ℕ → List ℕ
number_line word n = word ++ decimal n ++ codes "\n"

-- a line of a word and octets
abbrev pub octets_line : List ℕ → List ℕ → List ℕ
octets_line word octets = word ++ escaped octets ++ codes "\n"

-- the codes that fit, if any do
abbrev pub allowed_text : List ℕ → List ℕ
allowed_text [] = []
allowed_text (c ∷ cs) = codes " allowed" ++ flat_map (λ code. codes " " ++ decimal code) (c ∷ cs)

-- the line of a reason
abbrev pub misfit_line : Misfit → List ℕ
misfit_line (wrong_code code allowed) = codes "why code " ++ decimal code ++ allowed_text allowed ++ codes "\n"
misfit_line (wrong_name name) = octets_line (codes "why name ") name
misfit_line (wrong_number n) = number_line (codes "why number ") n
misfit_line (wrong_id id) = octets_line (codes "why id ") id
misfit_line (below_low low) = number_line (codes "why low ") low
misfit_line (wrong_marks name) = octets_line (codes "why marks ") name
misfit_line (beyond_limit n) = number_line (codes "why limit ") n
misfit_line (not_above before n) = codes "why order " ++ decimal before ++ codes " " ++ decimal n ++ codes "\n"
misfit_line (beyond_range n) = number_line (codes "why range ") n
misfit_line (unmatched name) = octets_line (codes "why match ") name
misfit_line (listed_twice word) = octets_line (codes "why twice ") word
misfit_line wrong_lines = codes "why lines\n"
misfit_line no_head = codes "why head\n"
misfit_line (other_id said) = octets_line (codes "why own ") said

-- ---- why it spells nothing

-- what is due as an argument
abbrev pub due_word : Due → List ℕ
due_word Number = codes "number"
due_word GroupName = codes "group"
due_word MessageId = codes "id"

-- what is wrong with a line of a block
abbrev pub fault_word : LineFault → List ℕ
fault_word BadOctet = codes "octet"
fault_word SingleDot = codes "dot"
fault_word NoNumber = codes "number"
fault_word NoGroup = codes "group"
fault_word NoArticleNumber = codes "number"
fault_word NoMessageId = codes "id"
fault_word NoListedNumber = codes "number"
fault_word NoListedId = codes "id"
fault_word NoVersions = codes "versions"

-- the line of a reason
abbrev pub misspelling_line : Misspelling → List ℕ
misspelling_line WrongOctet = codes "why octet\n"
misspelling_line (TooLong n) = number_line (codes "why length ") n
misspelling_line NoCode = codes "why code\n"
misspelling_line (WrongArgument place due) = codes "why argument " ++ decimal place ++ codes " " ++ due_word due ++ codes "\n"
misspelling_line (WrongLine place fault) = codes "why block line " ++ decimal place ++ codes " " ++ fault_word fault ++ codes "\n"
misspelling_line WrongBlock = codes "why block\n"

-- ---- why it is cut

-- what of a response is missing, where these of its lines are whole: the end of its initial line, or the end of its block
abbrev pub cut_line : List (List ℕ) → List ℕ
cut_line [] = codes "why line\n"
cut_line (initial ∷ lines) = codes "why block\n"

-- ---- an answer that is a reason

-- the session that an answer is of, where it is another than the one that is told of
abbrev pub session_text : ℕ → ℕ → List ℕ
session_text here session = if session == here then [] else codes " of session " ++ decimal session

-- which answer it is
abbrev pub answer_text : ℕ → Cited → List ℕ
answer_text here c = decimal c.exchange.index ++ session_text here c.session

-- its lines, and where its session stands there
abbrev pub because_lines : ℕ → Cited → List ℕ
because_lines here c =
    codes "because answer " ++ answer_text here c ++ codes "\n" ++ command_line (option_map shown c.exchange.place.line)
    ++ codes "answer " ++ escaped (shown c.exchange.initial) ++ codes "\n" ++ standing_line c.standing

-- ---- why it is surplus

-- the last accepted answer closed the connection, or it didn't, and no line is left to be answered
abbrev pub closing_lines : ℕ → Cited → List ℕ
closing_lines here c =
    if closes (asked_at c.exchange.place) c.exchange.response then codes "why closed\n" ++ because_lines here c else codes "why no command\n"

-- the same behind these accepted answers of the session; none that closes the connection is refused
abbrev pub surplus_lines : ℕ → List Cited → List ℕ
surplus_lines here answers = option_map_or (closing_lines here) (slice_get answers (length answers - 1)) (codes "why no command\n")

-- ---- with which answers it conflicts

-- the answer at a place
abbrev pub because_at : ℕ → List Cited → ℕ → List ℕ
because_at here answers k = option_map_or (because_lines here) (slice_get answers k) []

-- which answer it is that stands at a place
abbrev pub answer_at : ℕ → List Cited → ℕ → List ℕ
answer_at here answers k = option_map_or (answer_text here) (slice_get answers k) []

-- the line of the answers below a bound, where further reasons are among them
abbrev pub rest_line : ℕ → List Cited → Option ℕ → List ℕ
rest_line here answers None = []
rest_line here answers (Some bound) = codes "because some of " ++ answer_at here answers 0 ++ codes " to " ++ answer_at here answers (bound - 1) ++ codes "\n"

-- ---- which answer gave a group its low mark

-- the response gives the group this low mark (RFC 3977, section 6.1.1.2)
abbrev pub gives_low : Name → ℕ → Response → Bool
gives_low name low (group_is m g) = is_same g name && m.low == low
gives_low name low (numbers_are m g lines) = is_same g name && m.low == low
gives_low name low response = false

-- the place of the first answer that gives it
abbrev pub low_giver : Name → ℕ → List Cited → Option ℕ
low_giver name low [] = None
low_giver name low (a ∷ answers) = if gives_low name low a.exchange.response then Some 0 else option_map suc (low_giver name low answers)

-- the answer that gave the group of a 211 a low mark, as it is cited
abbrev pub giver_lines : ℕ → List Cited → Response → ℕ → List ℕ
giver_lines here answers (group_is m name) low = option_map_or (because_at here answers) (low_giver name low answers) []
giver_lines here answers (numbers_are m name lines) low = option_map_or (because_at here answers) (low_giver name low answers) []
giver_lines here answers response low = []

-- why a response doesn't fit behind these answers of its session; where its low mark is below an earlier one, the answer that gave that one too
abbrev pub unfitting_lines : ℕ → List Cited → Response → Misfit → List ℕ
unfitting_lines here answers response (below_low low) = misfit_line (below_low low) ++ giver_lines here answers response low
unfitting_lines here answers response why = misfit_line why

-- ---- what it conflicts about

-- which header of which article it is
abbrev pub field_text : Id → Field → List ℕ
field_text id field = escaped id ++ codes " " ++ name_of_field field

-- the line of what a bad answer and those of a core conflict about
abbrev pub about_line : Point → List ℕ
about_line (Step name) = octets_line (codes "about step ") name
about_line (Group name) = octets_line (codes "about group ") name
about_line (NumberOf name n) = codes "about number " ++ escaped name ++ number_line (codes " ") n
about_line (Count name) = octets_line (codes "about count ") name
about_line (FirstNumber name) = octets_line (codes "about first ") name
about_line (IdOf name n) = codes "about id " ++ escaped name ++ number_line (codes " ") n
about_line (PlaceOf name id) = codes "about place " ++ escaped name ++ octets_line (codes " ") id
about_line (Article id) = octets_line (codes "about article ") id
about_line (HeadOf id) = octets_line (codes "about head ") id
about_line (BodyOf id) = octets_line (codes "about body ") id
about_line (FieldOf id field) = codes "about field " ++ field_text id field ++ codes "\n"
