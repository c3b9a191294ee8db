-- Octets that spell responses.
use Rattle.std.{proofs.Common.{ℕ, List, [], ◌∷◌, None, Some, refl}, specs.{Prelude.{codes}, Char.{encode_utf8}, Str.{chars, is_utf8}}}
use Rattle.nntp_wire.specs.Command.{by_id, current, capabilities, next, opaque, group, list_group, from_one, retrieve, list_active, over, the_id, in_range}
use Rattle.nntp_wire.specs.{Argument.{HasArticle, HasGroup}, Answer.{Spells, greeting, to, group_is, numbers_are, sends, active_are, overviews_are, plain}}
use Rattle.nntp_wire.specs.declared.command.{What.TheVariants.{Body, Stat}, OverviewKeyword.TheVariants.{Over, Xover, Hdr, Xhdr}}
use Rattle.nntp_wire.{specs.declared.water_marks.WaterMarks.{WaterMarks}, proofs.DecidedLemmas.{message_id-iff, group_name-iff}}

-- ---- a code alone

greeting_200 : Spells greeting (plain 200) (codes "200 hi\r\n")
greeting_200 = record { line = codes "200 hi"; code = 200; block = None; whole = refl; status = refl; due = refl; clean = tt; says = refl }

comment_of_no_octet : Spells (to next) (plain 421) (codes "421 \r\n")
comment_of_no_octet = record { line = codes "421 "; code = 421; block = None; whole = refl; status = refl; due = refl; clean = tt; says = refl }

tab_in_a_comment : Spells (to (group (codes "g"))) (plain 411) (codes "411 no\tgroup\r\n")
tab_in_a_comment = record { line = codes "411 no\tgroup"; code = 411; block = None; whole = refl; status = refl; due = refl; clean = tt; says = refl }

opaque_with_block : Spells (to opaque) (plain 224) (codes "224 data\r\n1 x\r\n.\r\n")
opaque_with_block = record { line = codes "224 data"; code = 224; block = Some (codes "1 x" ∷ []); whole = refl; status = refl; due = refl; clean = (refl, tt); says = refl }

-- the code of another command's response says no more than the code
of_group_after_next : Spells (to next) (plain 211) (codes "211 x\r\n")
of_group_after_next = record { line = codes "211 x"; code = 211; block = None; whole = refl; status = refl; due = refl; clean = tt; says = refl }

of_article_after_stat : Spells (to (retrieve Stat current)) (plain 220) (codes "220 5 \r\n.\r\n")
of_article_after_stat = record { line = codes "220 5 "; code = 220; block = Some []; whole = refl; status = refl; due = refl; clean = tt; says = refl }

of_list_after_help : Spells (to opaque) (plain 215) (codes "215 x\r\nx\r\n.\r\n")
of_list_after_help = record { line = codes "215 x"; code = 215; block = Some (codes "x" ∷ []); whole = refl; status = refl; due = refl; clean = (refl, tt); says = refl }

of_capabilities_after_help : Spells (to opaque) (plain 101) (codes "101 x\r\n.\r\n")
of_capabilities_after_help = record { line = codes "101 x"; code = 101; block = Some []; whole = refl; status = refl; due = refl; clean = tt; says = refl }

-- ---- capabilities

versions : Spells (to capabilities) (plain 101) (codes "101 list\r\nVERSION 2\r\n.\r\n")
versions = record { line = codes "101 list"; code = 101; block = Some (codes "VERSION 2" ∷ []); whole = refl; status = refl; due = refl; clean = (refl, tt); says = (refl, refl) }

-- ---- an article

-- its number and its id
number_and_id : HasArticle (codes " 4 <b@x> more") 4 (codes "<b@x>")
number_and_id = record {
  second = codes " <b@x> more";
  comment = codes " more";
  number_first = record { word = codes "4"; begins = record { whole = refl; spaceless = refl; ended = refl }; writes = (refl, refl) };
  id_second = record { whole = refl; spaceless = refl; ended = refl };
  is_id = (message_id-iff (codes "<b@x>")).0 refl;
}

next_article : Spells (to next) (sends (record { code = 223; number = 4; id = codes "<b@x>"; block = None })) (codes "223 4 <b@x> more\r\n")
next_article = record { line = codes "223 4 <b@x> more"; code = 223; block = None; whole = refl; status = refl; due = refl; clean = tt; says = (refl, number_and_id, refl) }

zero_and_id : HasArticle (codes " 0 <a@b>") 0 (codes "<a@b>")
zero_and_id = record {
  second = codes " <a@b>";
  comment = [];
  number_first = record { word = codes "0"; begins = record { whole = refl; spaceless = refl; ended = refl }; writes = (refl, refl) };
  id_second = record { whole = refl; spaceless = refl; ended = refl };
  is_id = (message_id-iff (codes "<a@b>")).0 refl;
}

-- a body, of which a line that begins with a dot is sent with one more
abbrev body : List (List ℕ)
body = codes "." ∷ codes "..x" ∷ [] ∷ []

body_with_dots : Spells (to (retrieve Body (by_id (codes "<a@b>")))) (sends (record { code = 222; number = 0; id = codes "<a@b>"; block = Some body })) (codes "222 0 <a@b>\r\n..\r\n...x\r\n\r\n.\r\n")
body_with_dots = record { line = codes "222 0 <a@b>"; code = 222; block = Some body; whole = refl; status = refl; due = refl; clean = (refl, (refl, (refl, tt))); says = (refl, zero_and_id, refl) }

-- ---- a group

abbrev marks : ℕ → ℕ → ℕ → WaterMarks
marks estimate low high = record { estimate = estimate; low = low; high = high }

marks_and_name : HasGroup (codes " 2 1 4 g list") (marks 2 1 4) (codes "g")
unfolding chars is_utf8 encode_utf8
marks_and_name = record {
  second = codes " 1 4 g list";
  third = codes " 4 g list";
  fourth = codes " g list";
  comment = codes " list";
  estimate_first = record { word = codes "2"; begins = record { whole = refl; spaceless = refl; ended = refl }; writes = (refl, refl) };
  low_second = record { word = codes "1"; begins = record { whole = refl; spaceless = refl; ended = refl }; writes = (refl, refl) };
  high_third = record { word = codes "4"; begins = record { whole = refl; spaceless = refl; ended = refl }; writes = (refl, refl) };
  name_fourth = record { whole = refl; spaceless = refl; ended = refl };
  is_name = (group_name-iff (codes "g")).0 refl;
}

group_of_marks : Spells (to (group (codes "g"))) (group_is (marks 2 1 4) (codes "g")) (codes "211 2 1 4 g list\r\n")
group_of_marks = record { line = codes "211 2 1 4 g list"; code = 211; block = None; whole = refl; status = refl; due = refl; clean = tt; says = marks_and_name }

abbrev numbers : List (List ℕ)
numbers = codes "2" ∷ codes " 4 " ∷ []

numbers_of_a_group : Spells (to (list_group None from_one)) (numbers_are (marks 2 1 4) (codes "g") numbers) (codes "211 2 1 4 g list\r\n2\r\n 4 \r\n.\r\n")
numbers_of_a_group = record {
  line = codes "211 2 1 4 g list";
  code = 211;
  block = Some numbers;
  whole = refl;
  status = refl;
  due = refl;
  clean = (refl, (refl, tt));
  says =
      (marks_and_name, refl, refl);
}

-- ---- groups

abbrev groups : List (List ℕ)
groups = codes "g 5 1 y" ∷ codes "h 0 1 n" ∷ []

groups_listed : Spells (to (list_active None)) (active_are groups) (codes "215\r\ng 5 1 y\r\nh 0 1 n\r\n.\r\n")
unfolding chars is_utf8 encode_utf8
groups_listed = record { line = codes "215"; code = 215; block = Some groups; whole = refl; status = refl; due = refl; clean = (refl, (refl, tt)); says = (refl, refl) }

-- ---- overviews

abbrev overviews : List (List ℕ)
overviews = codes "1\ts\tf\td\t<a@x>\tr\t9\t1" ∷ codes "2\t\t\t\t<b@x>" ∷ []

overviews_of_a_range : Spells (to (over Over (in_range from_one))) (overviews_are overviews) (codes "224 o\r\n1\ts\tf\td\t<a@x>\tr\t9\t1\r\n2\t\t\t\t<b@x>\r\n.\r\n")
overviews_of_a_range = record { line = codes "224 o"; code = 224; block = Some overviews; whole = refl; status = refl; due = refl; clean = (refl, (refl, tt)); says = (refl, refl) }

overviews_of_none : Spells (to (over Xover (in_range from_one))) (overviews_are []) (codes "224\r\n.\r\n")
overviews_of_none = record { line = codes "224"; code = 224; block = Some []; whole = refl; status = refl; due = refl; clean = tt; says = (refl, refl) }

none_in_a_range : Spells (to (over Over (in_range from_one))) (plain 423) (codes "423 none\r\n")
none_in_a_range = record { line = codes "423 none"; code = 423; block = None; whole = refl; status = refl; due = refl; clean = tt; says = refl }

no_overview_of_an_id : Spells (to (over Over (the_id (codes "<a@x>")))) (plain 430) (codes "430\r\n")
no_overview_of_an_id = record { line = codes "430"; code = 430; block = None; whole = refl; status = refl; due = refl; clean = tt; says = refl }

-- ---- ids

abbrev ids : List (List ℕ)
ids = codes "1 <a@x>" ∷ codes " 03  <c@x>" ∷ []

ids_of_a_range : Spells (to (over Hdr (in_range from_one))) (overviews_are ids) (codes "225 h\r\n1 <a@x>\r\n 03  <c@x>\r\n.\r\n")
ids_of_a_range = record { line = codes "225 h"; code = 225; block = Some ids; whole = refl; status = refl; due = refl; clean = (refl, (refl, tt)); says = (refl, refl) }

ids_of_none : Spells (to (over Xhdr (in_range from_one))) (overviews_are []) (codes "221\r\n.\r\n")
ids_of_none = record { line = codes "221"; code = 221; block = Some []; whole = refl; status = refl; due = refl; clean = tt; says = (refl, refl) }

no_ids_in_a_range : Spells (to (over Xhdr (in_range from_one))) (plain 420) (codes "420 none\r\n")
no_ids_in_a_range = record { line = codes "420 none"; code = 420; block = None; whole = refl; status = refl; due = refl; clean = tt; says = refl }

-- the code of XHDR after HDR says no more than the code
of_xhdr_after_hdr : Spells (to (over Hdr (in_range from_one))) (plain 221) (codes "221 x\r\n1 x\r\n.\r\n")
of_xhdr_after_hdr = record { line = codes "221 x"; code = 221; block = Some (codes "1 x" ∷ []); whole = refl; status = refl; due = refl; clean = (refl, tt); says = refl }
