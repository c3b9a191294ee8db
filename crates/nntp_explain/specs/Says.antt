-- What `explain` prints of what an answer says about the point of a conflict.
use Rattle.std.specs.Prelude.{ℕ, ◌+◌, ◌==◌, ◌||◌, ◌&&◌, Bool, true, if◌then◌else◌, List, [], ◌∷◌, ◌++◌, length, Option, None, Some, slice_get, codes, decimal}
use Rattle.std.specs.{List.{flat_map, list_any}, Option.{option_and_then, option_map, option_map_or, option_or}}
use Rattle.nntp_wire.specs.{Octets.{space}, Answer.{Asked, Response, to, sends}, Command.{retrieve}, Listing.{ActiveValue}, declared.marks.Marks.{Marks}}
use Rattle.nntp_wire.specs.declared.{marks.Marks.TheVariants.{Lenient, Strict}, range.Range.{Range}}
use Rattle.nntp_article.specs.{Article.{Parts.{Id, Line}, Fields.{Word}}, declared.article.field.Field.{Field}, Session.{Machine.{is_same}, Spool.{Name}}}
use Rattle.nntp_said.specs.{Asks.{Ask, Estimates, Bounds, ListsIn, Has, Lacks, StandsAt, StandsNowhere, StepsUp, StepsDown, IsTop, IsBottom}, Facts.{Fact}}
use Rattle.nntp_said.specs.{Facts.{ThereIs, ThereIsNo, IdAt, TextIs, NoArticle, FieldsAre, OverviewsAre, GroupsAre}, declared.position.Position.{Position}}
use Rattle.nntp_said.specs.declared.position.Position.TheVariants.{Known}
use Rattle.nntp_theory.specs.Conflict.{Placed, Core, Point, Step, Group, Number, Count, First as FirstNumber, IdOf, PlaceOf, Article, HeadOf, BodyOf, FieldOf}
use Rattle.nntp_theory.specs.{Conflict.{said, words_told}, Given.{shows, denies, is_end, asks_in, shows_group, first_given, has_overview_of, id_in, head_in}}
use Rattle.nntp_theory.specs.{Given.{body_in}, Together.{denies_group, number_of_overview, number_in}}
use Rattle.nntp_pair.specs.Pairing.{asked_at}
use Rattle.nntp_facts.specs.{declared.placed.Placed.{Placed as Cited}, Standing.{stands_of}}
use Rattle.nntp_printing.specs.{BadAnswer.{shown}, Printing.{escaped}}
use Rattle.nntp_explain.specs.Reasons.{octets_line, because_at, about_line, field_text, rest_line}

-- what the line of a group or an id begins with
abbrev pub subject : List ℕ → List ℕ → List ℕ
subject word name = codes "says " ++ word ++ codes " " ++ escaped name

-- ---- what is said of the numbers of a group

-- what a step is taken from
abbrev pub place_text : Position → List ℕ
place_text (Known n) = decimal n
place_text at = codes "first"

-- the word for the current article
abbrev pub current_word : Position → List ℕ
current_word (Known n) = codes "current"
current_word at = codes "first"

-- and its number, if it is known
abbrev pub current_place : Position → List ℕ
current_place (Known n) = codes " " ++ decimal n
current_place at = []

-- two marks: all numbers are within them, and read strictly they are numbers
abbrev pub marks_text : Marks → ℕ → ℕ → List ℕ
marks_text Lenient low high = codes " within " ++ decimal low ++ codes "-" ++ decimal high
marks_text Strict low high = codes " from " ++ decimal low ++ codes " to " ++ decimal high

-- a range, of which the last number may be open
abbrev pub range_text : Range → List ℕ
range_text r = decimal r.first ++ codes "-" ++ option_map_or decimal r.last []

-- the word that the line of an ask begins with
abbrev pub ask_word : Ask → List ℕ
ask_word (Lacks n) = codes "number"
ask_word (StandsAt at n) = current_word at
ask_word (StandsNowhere at) = current_word at
ask_word (StepsUp at n) = codes "next"
ask_word (IsTop at) = codes "next"
ask_word (StepsDown at n) = codes "last"
ask_word (IsBottom at) = codes "last"
ask_word ask = codes "numbers"

-- what stands behind the name of the group; a number that is there is told by its id
abbrev pub ask_text : Ask → List ℕ
ask_text (Estimates how m) = codes " at most " ++ decimal m.estimate ++ marks_text how m.low m.high
ask_text (Bounds low high) = marks_text Lenient low high
ask_text (ListsIn r ns) = codes " " ++ range_text r ++ codes " are " ++ decimal (length ns)
ask_text (Has n) = []
ask_text (Lacks n) = codes " " ++ decimal n ++ codes " is missing"
ask_text (StandsAt at n) = current_place at ++ codes " is " ++ decimal n
ask_text (StandsNowhere at) = current_place at ++ codes " is missing"
ask_text (StepsUp at n) = codes " from " ++ place_text at ++ codes " is " ++ decimal n
ask_text (StepsDown at n) = codes " from " ++ place_text at ++ codes " is " ++ decimal n
ask_text (IsTop at) = codes " from " ++ place_text at ++ codes " is missing"
ask_text (IsBottom at) = codes " from " ++ place_text at ++ codes " is missing"

-- what stands before what is listed, or isn't
abbrev pub with_or_without : Bool → List ℕ
with_or_without is_listed = if is_listed then codes " with " else codes " without "

-- about a number: whether it is among those that are listed
abbrev pub listed_text : Option ℕ → Ask → List ℕ
listed_text (Some n) (ListsIn r ns) = with_or_without (list_any (λ m. n == m) ns) ++ decimal n
listed_text about ask = []

-- the ask shows the number, denies it, or has it as a strict mark
abbrev pub bears_on : Ask → ℕ → Bool
bears_on ask n = shows ask n || denies ask n || is_end ask n

-- the line of an ask; about a number only where the ask bears on it
abbrev pub ask_line : Option ℕ → Name → Ask → List ℕ
ask_line about name ask =
    if option_map_or (bears_on ask) about true
    then subject (ask_word ask) name ++ ask_text ask ++ listed_text about ask ++ codes "\n" else []

-- the line of the id at a number
abbrev pub id_line : Name → ℕ → Id → List ℕ
id_line name n id = subject (codes "number") name ++ codes " " ++ decimal n ++ codes " is " ++ escaped id ++ codes "\n"

-- what a fact says of the numbers of a group, or about one number of it
abbrev pub numbers_said : Name → Option ℕ → Fact → List ℕ
numbers_said name about (IdAt g n id) = if is_same g name && option_map_or (λ m. n == m) about true then id_line g n id else []
numbers_said name about fact = flat_map (ask_line about name) (asks_in name fact)

-- ---- what is said of groups and ids

-- the line of a list of groups, and whether this is one of them
abbrev pub groups_line : Name → List ActiveValue → Bool → List ℕ
groups_line name lines is_listed = codes "says groups are " ++ decimal (length lines) ++ octets_line (with_or_without is_listed) name

-- the line of a fact about whether there is the group
abbrev pub group_line : Name → Fact → List ℕ
group_line name (ThereIs g) = octets_line (codes "says group ") g
group_line name (ThereIsNo g) = octets_line (codes "says no group ") g
group_line name (GroupsAre p lines) = groups_line name lines (shows_group name (GroupsAre p lines))
group_line name fact = []

-- the line of a fact about whether an id has an article; of overviews the first with the id
abbrev pub article_line : Id → Fact → List ℕ
article_line id (IdAt name n other) = if is_same other id then id_line name n other else []
article_line id (OverviewsAre name range overviews) = option_map_or (λ n. id_line name n id) (first_given (number_of_overview id) overviews) []
article_line id (TextIs what other lines) = if is_same other id then octets_line (codes "says article ") other else []
article_line id (FieldsAre overviews) = if has_overview_of id overviews then octets_line (codes "says article ") id else []
article_line id (NoArticle other) = if is_same other id then octets_line (codes "says no article ") other else []
article_line id fact = []

-- ---- what is said of heads and bodies

-- what a line is, if it is there: its first 512 octets
abbrev pub line_text : Option Line → List ℕ
line_text None = codes " is missing\n"
line_text (Some line) = octets_line (codes " is ") (shown line)

-- the line of a head or a body: how many lines it has, and the one at a place that counts from 0
abbrev pub part_line : List ℕ → Id → Option ℕ → List Line → List ℕ
part_line word id None lines = []
part_line word id (Some place) lines =
    subject word id ++ codes " " ++ decimal (length lines) ++ codes " lines, line " ++ decimal (place + 1) ++ line_text (slice_get lines place)

-- the place of the first line in which two heads or bodies differ, if they do
abbrev pub first_difference : List Line → List Line → Option ℕ
first_difference [] [] = None
first_difference (x ∷ xs) (y ∷ ys) = if is_same x y then option_map (λ n. n + 1) (first_difference xs ys) else Some 0
first_difference xs ys = Some 0

-- ---- what is said of headers

-- words with a space between
abbrev pub spaced : List Word → List ℕ
spaced [] = []
spaced (word ∷ words) = word ++ flat_map (λ w. space ∷ w) words

-- what the words of a header are, if there are some: their first 512 octets
abbrev pub words_text : List Word → List ℕ
words_text [] = codes " is missing\n"
words_text (word ∷ words) = octets_line (codes " is ") (shown (spaced (word ∷ words)))

-- the line of a header
abbrev pub field_line : Id → Field → List Word → List ℕ
field_line id field words = codes "says field " ++ field_text id field ++ words_text words

-- ---- what an answer says

-- what a fact says about a point; of a head or a body it tells the line at a place
abbrev pub says : Option ℕ → Point → Fact → List ℕ
says place (Step name) fact = numbers_said name None fact
says place (Group name) fact = if shows_group name fact || denies_group name fact then group_line name fact else []
says place (Number name n) fact = numbers_said name (Some n) fact
says place (Count name) fact = numbers_said name None fact
says place (FirstNumber name) fact = numbers_said name None fact
says place (IdOf name n) fact = option_map_or (id_line name n) (id_in name n fact) []
says place (PlaceOf name id) fact = option_map_or (λ n. id_line name n id) (number_in name id fact) []
says place (Article id) fact = article_line id fact
says place (HeadOf id) fact = option_map_or (part_line (codes "head") id place) (head_in id fact) []
says place (BodyOf id) fact = option_map_or (part_line (codes "body") id place) (body_in id fact) []
says place (FieldOf id field) fact = option_map_or (field_line id field) (words_told id field fact) []

-- what an answer says about a point, where marks are read so
abbrev pub said_lines : Marks → Option ℕ → Point → Placed → List ℕ
said_lines how place point a = flat_map (says place point) (said how a)

-- ---- what answers conflict about

-- the head or the body that an answer sends, at a point that is about one
abbrev pub part_sent : Point → Asked → Response → Option (List Line)
part_sent (HeadOf id) (to (retrieve what which)) (sends sent) = head_in id (TextIs what sent.id sent.block)
part_sent (BodyOf id) (to (retrieve what which)) (sends sent) = body_in id (TextIs what sent.id sent.block)
part_sent point asked response = None

-- that of the answer at a place
abbrev pub part_at : Point → List Cited → ℕ → Option (List Line)
part_at point answers k = option_and_then (λ a. part_sent point (asked_at a.exchange.place) a.exchange.response) (slice_get answers k)

-- the first that the answers at the places send
abbrev pub first_part : Point → List Cited → List ℕ → Option (List Line)
first_part point answers [] = None
first_part point answers (k ∷ places) = option_or (part_at point answers k) (first_part point answers places)

-- the place of the first line in which they differ, if both are there
abbrev pub difference : Option (List Line) → Option (List Line) → Option ℕ
difference (Some these) (Some those) = first_difference these those
difference these those = None

-- the place of the line that is told, where the bad answer conflicts with those at the places
abbrev pub told_line : Point → Placed → List Cited → List ℕ → Option ℕ
told_line point bad answers places = difference (part_sent point bad.asked bad.response) (first_part point answers places)

-- the answer at a place as a reason, and what it says about the point
abbrev pub reason_lines : ℕ → Marks → Option ℕ → Point → List Cited → ℕ → List ℕ
reason_lines here how line point answers k = because_at here answers k ++ option_map_or (λ a. said_lines how line point (stands_of a)) (slice_get answers k) []

-- what the bad answer and those of a core conflict about, and what each of them says about it; where it is the end of one, that others are below
abbrev pub conflict_lines : ℕ → Marks → Point → Placed → List Cited → Core → List ℕ
conflict_lines here how point bad answers core =
    let line = told_line point bad answers core.places in
    about_line point ++ said_lines how line point bad ++ rest_line here answers core.rest ++ flat_map (reason_lines here how line point answers) core.places
